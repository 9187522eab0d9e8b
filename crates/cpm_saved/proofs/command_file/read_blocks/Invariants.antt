use Rattle.std.specs.Prelude.{◌≡◌, length, take}
use Rattle.cpm_saved.proofs.TimesLemmas.{ReadSoFar}
use Rattle.cpm_saved.specs.Layout.{AnyWord}
use Rattle.cpm_saved.specs.declared.part.SavingPart.TheVariants as part
use Rattle.cpm_saved.proofs.command_file.read_blocks.Given as goal

-- the blocks so far
abbrev pub invariant-loop-index : goal.invariant-loop-index
invariant-loop-index l = ReadSoFar 16 l.index (AnyWord part.CommandFile) (take l.index l.blocks) l.initial.reader l.reader × (length l.blocks ≡ 16)
