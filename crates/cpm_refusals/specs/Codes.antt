-- The codes of refusals, with the exit status of each. All of it is own.
use Rattle.std.specs.Prelude.{ℕ, List, ◌++◌, codes}
use Rattle.std.specs.Fmt.{decimal}
use Rattle.cpm_refusals.specs.declared.code.RefusalCode.{RefusalCode}
use Rattle.cpm_refusals.specs.declared.code.RefusalCode.TheVariants.{Usage, Configuration, Script, Unreadable, Unwritable, Image, Source}
use Rattle.cpm_refusals.specs.declared.code.RefusalCode.TheVariants.{OutOfMemory, Machine, CutOff}

-- the exit status
abbrev pub status_of_code : RefusalCode → ℕ
status_of_code Usage = 1
status_of_code Configuration = 2
status_of_code Script = 3
status_of_code Unreadable = 4
status_of_code Unwritable = 5
status_of_code Image = 6
status_of_code Source = 7
status_of_code OutOfMemory = 8
status_of_code Machine = 9
status_of_code CutOff = 10

-- the code as a person reads it
abbrev pub code_text : RefusalCode → List ℕ
code_text code = codes "HO" ++ decimal (status_of_code code)
