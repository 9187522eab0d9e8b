use Rattle.std.specs.Prelude.{take}
use Rattle.cpm_saved.specs.Layout.{Times, AnyWord}
use Rattle.cpm_saved.specs.Reading.{IsPartAppended}
use Rattle.cpm_saved.specs.declared.part.SavingPart.TheVariants as part
use Rattle.cpm_saved.proofs.command_file.append_blocks.Given as goal

-- the blocks so far
abbrev pub invariant-loop-block : goal.invariant-loop-block
invariant-loop-block l = IsPartAppended (Times l.block-index (AnyWord part.CommandFile)) (take l.block-index l.blocks) l.initial.out.items l.out.items
