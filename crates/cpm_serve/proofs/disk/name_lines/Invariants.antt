use Rattle.std.proofs.Common.{◌≡◌, ◌++◌, drop}
use Rattle.cpm_serve.specs.DriveFiles.{name_lines}
use Rattle.cpm_serve.proofs.disk.name_lines.Given as goal

-- what stands is the lines of the files so far
abbrev pub invariant-loop-file : goal.invariant-loop-file
invariant-loop-file l = l.text.items ++ name_lines (drop l.file-index l.files) ≡ name_lines l.files
