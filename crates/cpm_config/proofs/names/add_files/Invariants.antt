use Rattle.std.proofs.Common.{◌≡◌, ◌++◌, take, map}
use Rattle.cpm_config.specs.Files.{file_view}
use Rattle.cpm_config.specs.Rules.{file_placed, name_placed}
use Rattle.cpm_config.proofs.names.add_files.Given as goal

abbrev pub invariant-loop-file : goal.invariant-loop-file
invariant-loop-file l = map name_placed l.names.items ≡ map name_placed l.fn.names.items ++ map (file_placed l.number) (map file_view (take l.file-index l.file-items))
