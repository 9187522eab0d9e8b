-- When a source is refused, and what is shown of it.
use Rattle.std.specs.Prelude.{⊤, ◌≡◌, ◌-◌, ◌==◌, ℕ, List, [], Err, slice_index_or}
use Rattle.std.specs.List.{slice_split}
use Rattle.cpm_asm.specs.Passes.{both_passes}
use Rattle.cpm_shown.specs.Shown.{characters_of, shown_of}
use Rattle.cpm_host.specs.declared.error.HostError.{HostError}
use Rattle.cpm_host.specs.declared.error.HostError.TheVariants.{OutOfMemory, SourceRefused}

-- own: the lines of a text, each but the last without the newline (10) that ends it
abbrev pub lines_in : List ℕ → List (List ℕ)
lines_in text = slice_split (λ b. b == 0x0A) text

-- own: the line of this number, from 1 on; nothing where there is none
abbrev pub listed_source_line : List ℕ → ℕ → List ℕ
listed_source_line text number = slice_index_or (lines_in text) (number - 1) []

-- its fault is the answered one of the two passes, and the line of the fault is shown; or memory is refused
abbrev pub IsAsmRefusal : List ℕ → HostError → Type 0
IsAsmRefusal source (SourceRefused line kind found) =
    (both_passes source ≡ Err (record { line = line; kind = kind })) × (found.bytes ≡ shown_of (characters_of (listed_source_line source line)))
IsAsmRefusal source OutOfMemory = ⊤
IsAsmRefusal source _ = ⊥
