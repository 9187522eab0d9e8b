-- Laws of layouts. All of it is own.
use Rattle.std.specs.Prelude.{◌≡◌, ◌+◌, ℕ, List, ◌++◌, length, Ok}
use Rattle.cpm_saved.specs.Layout.{AreBelow, IsByteLayout, IsOf, Layout, coded, decoded, laid_out, rest_at}

-- what is read of the bytes of a value, whatever is behind them, is the value
abbrev pub ValuesAreRead : Type 0
ValuesAreRead = (f : Layout) (v : laid_out f) (at : ℕ) (rest : List ℕ) → IsOf f v
    → decoded f (rest_at at (coded f v ++ rest)) ≡ Ok (v, rest_at (at + length (coded f v)) rest)

-- where a value is read of bytes, they are just its bytes, and what is behind them
abbrev pub ReadValuesAreWritten : Type 0
ReadValuesAreWritten = (f : Layout) (v : laid_out f) (at end : ℕ) (bytes rest : List ℕ) → AreBelow 256 bytes
    → decoded f (rest_at at bytes) ≡ Ok (v, rest_at end rest) → (bytes ≡ coded f v ++ rest) × IsOf f v

-- what a value is written as is bytes
abbrev pub CodedAreBytes : Type 0
CodedAreBytes = (f : Layout) (v : laid_out f) → IsOf f v → IsByteLayout f → AreBelow 256 (coded f v)
