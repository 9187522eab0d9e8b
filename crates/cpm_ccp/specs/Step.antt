-- One step of the command processor, as a function of the system drive, the session and the memory.
use Rattle.std.specs.Prelude.{Bool, true, false, ◌&&◌, if◌then◌else◌}
use Rattle.cpm_geom.specs.Disk.{Disk}
use Rattle.cpm_memory.specs.Contents.{Contents, byte_at, run_at}
use Rattle.cpm_bdos.specs.StepResult.{StepResult, did}
use Rattle.cpm_bdos.specs.declared.session.Session.{Session}
use Rattle.cpm_bdos.specs.declared.session.CommandPart.{CommandPart}
use Rattle.cpm_bdos.specs.declared.session.CommandPart.TheVariants as part
use Rattle.cpm_bdos.specs.declared.session.Mode.{Mode}
use Rattle.cpm_bdos.specs.declared.session.Mode.TheVariants as mode
use Rattle.cpm_bdos.specs.declared.session.Went.TheVariants.{GoesOn}
use Rattle.cpm_ccp.specs.declared.command.Command.{Command}
use Rattle.cpm_ccp.specs.declared.command.Command.TheVariants.{Nothing, SelectDrive, Directory, Erase, EraseAll, Rename, RenameForm}
use Rattle.cpm_ccp.specs.declared.command.Command.TheVariants.{Save, SaveForm, TypeFile, TypeForm, User, UserForm, Program, Unknown}
use Rattle.cpm_ccp.specs.declared.message.Message.TheVariants as message
use Rattle.cpm_ccp.specs.Command.{command_of}
use Rattle.cpm_ccp.specs.Parts.{finished, stepped, message_told, is_stopped, held_at_part, typed_line, on_file}
use Rattle.cpm_ccp.specs.Prompt.{prompted, edit_command_line, drive_selected, user_selected}
use Rattle.cpm_ccp.specs.Listing.{list_next, listed_on}
use Rattle.cpm_ccp.specs.FileCommands.{erased, all_files_asked, erased_all, renamed, save_begun, saved, file_closed}
use Rattle.cpm_ccp.specs.Showing.{show_begun, shown_on}
use Rattle.cpm_ccp.specs.Loading.{unknown, load_begun, load_record}

-- the first step of each command
abbrev pub begun_by : Command → Disk → Session → Contents → StepResult
begun_by Nothing system s m = stepped (finished s) m
begun_by (SelectDrive drive) system s m = drive_selected drive s m
begun_by (Directory file) system s m = stepped (list_next system 0 0 true (on_file s file)) m
begun_by (Erase file) system s m = stepped (erased system file s) m
begun_by (EraseAll file) system s m = stepped (all_files_asked file s) m
begun_by (Rename old new) system s m = stepped (renamed system old new s) m
begun_by RenameForm system s m = stepped (message_told s message.RenameForm) m
begun_by (Save pages file) system s m = stepped (save_begun system pages file s) m
begun_by SaveForm system s m = stepped (message_told s message.SaveForm) m
begun_by (TypeFile file) system s m = stepped (show_begun system file s) m
begun_by TypeForm system s m = stepped (message_told s message.TypeForm) m
begun_by (User user) system s m = user_selected user s m
begun_by UserForm system s m = stepped (message_told s message.UserForm) m
begun_by (Program file) system s m = stepped (load_begun system file s) m
begun_by Unknown system s m = stepped (unknown s) m

-- own: DIR and TYPE look for ^S before they show anything, also a message or a fault
abbrev pub looks_first : Command → Bool
looks_first (Directory file) = true
looks_first (TypeFile file) = true
looks_first TypeForm = true
looks_first _ = false

abbrev pub begun_command : Command → Disk → Session → Contents → StepResult
begun_command command system s m =
    if is_stopped s && looks_first command then stepped (held_at_part s part.Begin) m else begun_by command system s m

-- one part of the command processor
abbrev pub in_part : CommandPart → Disk → Session → Contents → StepResult
in_part part.Line system s m = edit_command_line part.Begin s m
in_part part.Begin system s m = begun_command (command_of s.disks.current (typed_line s)) system s m
in_part (part.Directory next column) system s m = stepped (listed_on system next column s) m
in_part part.Answer system s m = edit_command_line part.EraseAll s m
in_part part.EraseAll system s m = stepped (erased_all system s) m
in_part (part.Save next left) system s m = stepped (saved system next left (run_at m next 128) s) m
in_part part.Close system s m = stepped (file_closed system s) m
in_part part.Show system s m = stepped (shown_on system s) m
in_part (part.Load next) system s m = load_record system next s m

-- own: in a program the command processor is called, and prompts; the modes of other calls are not its own
abbrev pub command_in_mode : Mode → Disk → Session → Contents → StepResult
command_in_mode mode.Program system s m = stepped (prompted system (byte_at m 4) s) m
command_in_mode (mode.Command part) system s m = in_part part system s m
command_in_mode _ system s m = did s m GoesOn

abbrev pub ccp : Disk → Session → Contents → StepResult
ccp system s m = command_in_mode s.mode system s m
