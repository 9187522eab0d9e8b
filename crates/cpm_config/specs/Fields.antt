-- The keys of a configuration. All of it is own: this project's form of configurations.
use Rattle.std.specs.Prelude.{ℕ, List, codes}
use Rattle.cpm_config.specs.declared.field.Field.{Field}
use Rattle.cpm_config.specs.declared.field.Field.TheVariants.{Frames, Quantum, System, Sessions, Name, Cpu, Quota, Fork}
use Rattle.cpm_config.specs.declared.field.Field.TheVariants.{At, From, Steps, Drives, Console, Keys, List as ListKey, Out, Save}

-- each key as it stands in the file
abbrev pub field_name : Field → List ℕ
field_name Frames = codes "frames"
field_name Quantum = codes "quantum"
field_name System = codes "system"
field_name Sessions = codes "session"
field_name Name = codes "name"
field_name Cpu = codes "cpu"
field_name Quota = codes "quota"
field_name Fork = codes "fork"
field_name At = codes "at"
field_name From = codes "from"
field_name Steps = codes "steps"
field_name Drives = codes "drives"
field_name Console = codes "console"
field_name Keys = codes "keys"
field_name ListKey = codes "list"
field_name Out = codes "out"
field_name Save = codes "save"
