-- The files that a session of a configuration writes, in one list. All of it is own.
use Rattle.std.specs.Prelude.{List, [], ◌∷◌, ◌++◌, map, Option, Some, None}
use Rattle.cpm_config.specs.Entries.{SessionEntries, Text}
use Rattle.cpm_config.specs.declared.field.Field.{Field}
use Rattle.cpm_config.specs.declared.field.Field.TheVariants as field
use Rattle.cpm_config.specs.declared.files.SessionFile.{SessionFile}

-- a file that a session names: the key at which it does, and the name
pub record OutputName : Type 0 where
  pub key : Field
  pub name : Text

abbrev pub named_output_at : Field → Text → OutputName
named_output_at key name = record { key = key; name = name }

abbrev pub named_if_any : Field → Option Text → List OutputName
named_if_any key None = []
named_if_any key (Some name) = named_output_at key name ∷ []

abbrev pub all_named : Field → List Text → List OutputName
all_named key names = map (named_output_at key) names

abbrev pub all_named_if_any : Field → Option (List Text) → List OutputName
all_named_if_any key None = []
all_named_if_any key (Some names) = all_named key names

-- the text of its console, that of its list device, its drives and its saving, as far as files are named for them
abbrev pub output_files : SessionEntries → List OutputName
output_files s = named_output_at field.Console s.console ∷ (named_if_any field.List s.list
    ++ (all_named_if_any field.Out s.out ++ named_if_any field.Save s.save))

abbrev pub file_view : SessionFile → OutputName
file_view f = named_output_at f.key f.name.now
