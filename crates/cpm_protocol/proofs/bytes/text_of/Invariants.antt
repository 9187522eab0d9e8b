use Rattle.std.proofs.Common.{◌≡◌, take, string_bytes}
use Rattle.cpm_protocol.specs.Bytes.{text_of_bytes}
use Rattle.cpm_protocol.proofs.bytes.text_of.Given as goal

abbrev pub invariant-loop-byte : goal.invariant-loop-byte
invariant-loop-byte l = string_bytes l.text ≡ text_of_bytes (take l.byte-index l.bytes)
