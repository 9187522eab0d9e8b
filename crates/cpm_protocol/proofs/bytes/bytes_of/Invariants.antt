use Rattle.std.proofs.Common.{◌≡◌, ◌++◌, IsUtf8, chars, filter}
use Rattle.std.specs.Str.Iter.{chars_rest}
use Rattle.cpm_protocol.specs.Bytes.{is_byte_character}
use Rattle.cpm_protocol.proofs.bytes.bytes_of.Given as goal

abbrev pub invariant-loop-c : goal.invariant-loop-c
invariant-loop-c l = record {
  text : IsUtf8 (chars_rest l.c-iterator);
  made : l.bytes.items ++ filter is_byte_character (chars (chars_rest l.c-iterator)) ≡ filter is_byte_character (chars l.fn.text);
}
