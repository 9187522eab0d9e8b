-- A store over memory. All of it is own.
use Rattle.std.specs.Prelude.{ℕ, zero, suc, Bool, true, false, Option, Some, None}
use Rattle.cpm_store.specs.Files.{StoreFiles, file_at}
use Rattle.cpm_store.specs.declared.memory.MemoryStore.{MemoryStore}

abbrev pub files_in : MemoryStore → StoreFiles
files_in s = file_at s.files

abbrev pub failures_of : MemoryStore → ℕ
failures_of s = s.failures

-- how many calls go well before the one that is to fail, where one is
abbrev pub calls_left : MemoryStore → Option ℕ
calls_left s = s.calls_left

-- the next call is the one that is to fail
abbrev pub is_failing_call : Option ℕ → Bool
is_failing_call None = false
is_failing_call (Some zero) = true
is_failing_call (Some (suc n)) = false

-- what is left after a call
abbrev pub one_call_less : Option ℕ → Option ℕ
one_call_less None = None
one_call_less (Some zero) = None
one_call_less (Some (suc n)) = Some n
