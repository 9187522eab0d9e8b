use Rattle.std.proofs.Common.{◌≡◌, ◌++◌, take, map}
use Rattle.std.specs.Prelude.{string_bytes}
use Rattle.cpm_config.specs.Files.{all_named, file_view}
use Rattle.cpm_config.proofs.files.add_all.Given as goal

abbrev pub invariant-loop-name : goal.invariant-loop-name
invariant-loop-name l = map file_view l.files.items ≡ map file_view l.fn.files.items ++ all_named l.key (map string_bytes (take l.name-index l.names))
