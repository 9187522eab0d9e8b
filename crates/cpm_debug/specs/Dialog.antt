-- What the debugger answers, and the machine that each answer leaves. The form of the answers is own.
use Rattle.std.specs.Prelude.{ℕ, ◌+◌, ◌%◌, Bool, true, false, if◌then◌else◌, List, [], ◌∷◌, ◌++◌, codes, decimal, unwrap_or}
use Rattle.cpm_flags.specs.declared.regs.Cpu.{Cpu}
use Rattle.cpm_geom.specs.Disk.{Disk}
use Rattle.cpm_listing.specs.Dump.{dump_line}
use Rattle.cpm_listing.specs.Instruction.{instruction_line}
use Rattle.cpm_listing.specs.Registers.{regs_line}
use Rattle.cpm_memory.specs.Contents.{Contents, byte_at}
use Rattle.cpm_memory.specs.Tabulated.{tabulated}
use Rattle.cpm_script.specs.KeyText.{keys_of}
use Rattle.cpm_machine.specs.Calls.{granted}
use Rattle.cpm_machine.specs.MachineState.{MachineState}
use Rattle.cpm_machine.specs.Serve.{executed, keyed, takes_key}
use Rattle.cpm_machine.specs.Step.{after}
use Rattle.cpm_machine.specs.Until.{executed_until, granted_until}
use Rattle.cpm_machine.specs.declared.reply.Granted.{Granted}
use Rattle.cpm_machine.specs.declared.reply.Why.{Why}
use Rattle.cpm_machine.specs.declared.reply.Why.TheVariants.{All, Stopped, Break, Blocked}
use Rattle.cpm_debug.specs.Orders.{DebugRequest, Grant, GrantUntil, Dump, ListAt, Registers, Press, Output, Quit, Unknown, request_of}
use Rattle.cpm_debug.specs.Source.{source_line}

-- the text of an answer, and the state after it
pub record DialogReply : Type 0 where
  pub text : List ℕ
  pub state : MachineState

-- ---- lines

-- a text and the newline that ends it
abbrev pub ended_line : List ℕ → List ℕ
ended_line text = text ++ 0x0A ∷ []

-- a line, and after it a line of the listing, where there is one
abbrev pub with_source : List ℕ → List ℕ → List ℕ
with_source text [] = ended_line text
with_source text (b ∷ source) = ended_line text ++ ended_line (b ∷ source)

-- ---- grants

unfoldable pub why_text : Why → List ℕ
why_text All = codes "All"
why_text Stopped = codes "Stopped"
why_text Break = codes "Break"
why_text Blocked = codes "Blocked"

-- how many steps were executed, and why no more
unfoldable pub grant_line : Granted → List ℕ
grant_line g = decimal g.executed ++ codes " " ++ why_text g.why

-- ---- bytes of the memory

-- so many bytes from an address on; after FFFFh comes 0000h
abbrev pub bytes_from : Contents → ℕ → ℕ → List ℕ
bytes_from m address n = tabulated n (λ k. byte_at m ((address + k) % 65536))

-- ---- keys

-- the state after keys, and whether all were accepted
pub record PressResult : Type 0 where
  pub accepted : Bool
  pub state : MachineState

-- keys in order; after one that is refused they are dropped
abbrev pub press : List ℕ → MachineState → PressResult
press [] s = record { accepted = true; state = s }
press (key ∷ keys) s = if takes_key s then press keys (keyed key s) else record { accepted = false; state = s }

-- the keys that a text stands for; none where it stands for none
abbrev pub keys_in_text : List ℕ → List ℕ
keys_in_text text = unwrap_or (keys_of text) []

-- what becomes of the keys of a request; where it has none, none is accepted
abbrev pub request_pressed : DebugRequest → MachineState → PressResult
request_pressed (Press keys) s = press keys s
request_pressed _ s = record { accepted = false; state = s }

-- ---- console bytes

abbrev pub without_console : MachineState → MachineState
without_console s =
    record s { session = record s.session { console = record s.session.console { screen = [] } } }

-- ---- answers

-- the answer to what is no order, and to keys that are refused
abbrev pub unknown_line : List ℕ
unknown_line = ended_line (codes "?")

abbrev pub reply : List ℕ → MachineState → DialogReply
reply text s = record { text = text; state = s }

-- a line, with the line of the listing that shows the bytes at PC, and the state
abbrev pub reply_to_line : List ℕ → List ℕ → MachineState → DialogReply
reply_to_line listing text s = reply (with_source text (source_line listing s.session.regs.pc)) s

-- what is answered with this system drive and this listing, and the state after it
unfoldable pub debug_answer : Disk → Cpu → List ℕ → DebugRequest → MachineState → DialogReply
debug_answer system cpu listing (Grant steps) s = reply_to_line listing (grant_line (granted system steps s)) (after system (executed system steps s) s)
debug_answer system cpu listing (GrantUntil pc steps) s =
    reply_to_line listing (grant_line (granted_until system pc steps s)) (after system (executed_until system pc steps s) s)
debug_answer system cpu listing (Dump address) s = reply (ended_line (dump_line address (bytes_from s.memory address 16))) s
debug_answer system cpu listing (ListAt address) s = reply (ended_line (instruction_line cpu address (bytes_from s.memory address 4))) s
debug_answer system cpu listing Registers s = reply_to_line listing (regs_line cpu s.session.regs s.count) s
debug_answer system cpu listing (Press keys) s = reply (if (press keys s).accepted then [] else unknown_line) (press keys s).state
debug_answer system cpu listing Output s = reply (ended_line s.session.console.screen) (without_console s)
debug_answer system cpu listing Quit s = reply [] s
debug_answer system cpu listing Unknown s = reply unknown_line s

-- ---- dialogs

unfoldable pub is_quit : DebugRequest → Bool
is_quit Quit = true
is_quit _ = false

-- what is answered to a line
abbrev pub answer_to : Disk → Cpu → List ℕ → List ℕ → MachineState → DialogReply
answer_to system cpu listing line s = debug_answer system cpu listing (request_of line) s

-- what is answered to lines, one after another, up to the order that ends the dialog
abbrev pub dialog : Disk → Cpu → List ℕ → List (List ℕ) → MachineState → List ℕ
dialog system cpu listing [] s = []
dialog system cpu listing (line ∷ lines) s = if is_quit (request_of line) then []
    else (answer_to system cpu listing line s).text ++ dialog system cpu listing lines (answer_to system cpu listing line s).state
