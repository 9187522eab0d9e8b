-- Tests by number, as rows of bits.
use Rattle.std.specs.Prelude.{ℕ, ◌/◌, ◌%◌, ◌==◌, Bool, List, map, slice_index}
use Rattle.std.specs.Int.{bit_at}
use Rattle.std.specs.List.{range_with_len}

-- (own) the test of a number: its bit, in a row of 64 whose lowest is the first
unfoldable pub test_of : List ℕ → ℕ → Bool
test_of rows number = bit_at (slice_index rows (number / 64)) (number % 64) == 1

-- (own) the tests of eight rows
unfoldable pub tests_of : List ℕ → List Bool
tests_of rows = map (test_of rows) (range_with_len 0 512)
