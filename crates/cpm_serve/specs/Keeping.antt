-- How the code keeps what a request changed. All of it is own.
use Rattle.std.specs.Prelude.{Option, Some, None, option_map}
use Rattle.serde_json.specs.Data.{Data}
use Rattle.cpm_slots.specs.Host.{Host, saving_of, slot_at}
use Rattle.cpm_serve.specs.Folder.{HostChange, AsAsked, AsClosed, AsSaved}
use Rattle.cpm_serve.specs.declared.keep.KeptChange.{KeptChange}
use Rattle.cpm_serve.specs.declared.keep.KeptChange.TheVariants as change

-- the change that the code has, of a request of this value, with the host afterwards
abbrev pub change_seen : Data → Host → KeptChange → Option HostChange
change_seen d h change.Nothing = None
change_seen d h change.Asked = Some (AsAsked d)
change_seen d h (change.Opened slot) = option_map (λ s. AsSaved (saving_of h s)) (slot_at slot h.slots)
change_seen d h (change.Closed slot) = Some (AsClosed slot)
