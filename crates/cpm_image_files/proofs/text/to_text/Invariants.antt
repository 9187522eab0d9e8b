use Rattle.std.proofs.Common.{◌≡◌, ◌++◌, drop}
use Rattle.cpm_image_files.specs.Texts.{text_behind}
use Rattle.cpm_image_files.proofs.text.to_text.Given as goal

abbrev pub invariant-loop-byte : goal.invariant-loop-byte
invariant-loop-byte l =
    l.text.items ++ text_behind l.previous (drop l.byte-index l.bytes) ≡ text_behind 0 l.bytes
