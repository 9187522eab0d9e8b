use Rattle.std.proofs.Common.{◌≡◌, ◌++◌, drop}
use Rattle.cpm_image_files.specs.Texts.{from_text}
use Rattle.cpm_image_files.proofs.text.from_text.Given as goal

abbrev pub invariant-loop-place : goal.invariant-loop-place
invariant-loop-place l = l.text.items ++ from_text (drop l.place l.bytes) ≡ from_text l.bytes
