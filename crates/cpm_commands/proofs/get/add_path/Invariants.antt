use Rattle.std.proofs.Common.{◌≡◌, ◌++◌, IsUtf8, chars}
use Rattle.std.specs.Prelude.{string_bytes}
use Rattle.std.specs.Str.Iter.{chars_rest}
use Rattle.cpm_commands.specs.Get.{shown_characters}
use Rattle.cpm_commands.proofs.get.add_path.Given as goal

abbrev pub invariant-loop-c : goal.invariant-loop-c
invariant-loop-c l = record {
  text : IsUtf8 (chars_rest l.c-iterator);
  shown : string_bytes l.text ++ shown_characters (chars (chars_rest l.c-iterator)) ≡ string_bytes l.fn.text ++ shown_characters (chars l.fn.path);
}
