-- A dialog, line by line.
use Rattle.std.proofs.Common.{◌≡◌, ◌≢◌, ◌∙◌, ◌++◌, ◌≤◌, ap, sym, subst, refl, ℕ, suc, true, false, List, [], ◌∷◌, Option, Some, None, IfSome, Result, Ok, Err, length, take, append-nil, append_assoc, option_map}
use Rattle.std.specs.Prelude.{⊤, OnOk, IfErr, if◌then◌else◌}
use Rattle.std.proofs.Math.Seq.{take-nil}
use Rattle.std.proofs.KnownBytes.{Appends-nil, Appends-trans}
use Rattle.std.specs.Io.KnownBytes.{Appends}
use Rattle.cpm_flags.specs.declared.regs.Cpu.{Cpu}
use Rattle.cpm_geom.specs.Disk.{Disk}
use Rattle.cpm_machine.specs.MachineState.{MachineState}
use Rattle.cpm_debug.specs.Debug.{IsDialogCutShort, IsDebugRefusal, IsFailure, IsHeld, IsReadFailure, IsUnanswered, debugged, debug_system_drive}
use Rattle.cpm_debug.specs.Dialog.{debug_answer, answer_to, dialog, is_quit, request_pressed, reply, unknown_line}
use Rattle.cpm_debug.specs.Hearing.{Hears, heard, lines_within}
use Rattle.cpm_debug.specs.Orders.{DebugRequest, press_of, request_of}
use Rattle.cpm_debug.specs.declared.error.DebugError.{DebugError}
use Rattle.cpm_debug.specs.declared.error.DebugError.TheVariants.{ProgramTooLong, Unreadable, Unwritable, OutOfMemory}
use Rattle.cpm_debug.proofs.HearingLemmas.{heard_bounded}

pub on_ok : {A E P : Type 0} (r : Result A E) → P → OnOk r P
on_ok (Ok x) p = p
on_ok (Err e) p = tt

-- the answer to keys
pub answer_press : (system : Disk) (cpu : Cpu) (listing : List ℕ) (o : Option (List ℕ)) (s : MachineState)
    → debug_answer system cpu listing (press_of o) s ≡ reply (if (request_pressed (press_of o) s).accepted then [] else unknown_line) (request_pressed (press_of o) s).state
unfolding debug_answer
answer_press system cpu listing None s = refl
answer_press system cpu listing (Some []) s = refl
answer_press system cpu listing (Some (k ∷ ks)) s = refl

-- ---- the first line of a dialog

first_answer : (system : Disk) (cpu : Cpu) (listing line : List ℕ) (more : List (List ℕ)) (s : MachineState) → is_quit (request_of line) ≡ false
    → dialog system cpu listing (line ∷ more) s ≡ (answer_to system cpu listing line s).text ++ dialog system cpu listing more (answer_to system cpu listing line s).state
first_answer system cpu listing line more s goes_on =
    ap (λ q. if q then [] else (answer_to system cpu listing line s).text ++ dialog system cpu listing more (answer_to system cpu listing line s).state) goes_on

quit_first : (system : Disk) (cpu : Cpu) (listing line : List ℕ) (more : List (List ℕ)) (s : MachineState) → is_quit (request_of line) ≡ true → dialog system cpu listing (line ∷ more) s ≡ []
quit_first system cpu listing line more s ends =
    ap (λ q. if q then [] else (answer_to system cpu listing line s).text ++ dialog system cpu listing more (answer_to system cpu listing line s).state) ends

-- ---- which lines were heard

-- so many lines, with room for so many bytes, are still to be heard of the rest of a text
abbrev pub Follows : Option (List ℕ) → Option (List ℕ) → ℕ → ℕ → List (List ℕ) → Type 0
Follows None rest left room lines = ⊤
Follows (Some text) None left room lines = ⊥
Follows (Some text) (Some rest) left room lines = lines ++ take left (lines_within room rest) ≡ heard text

abbrev pub more_of : Option (List ℕ) → ℕ → ℕ → List (List ℕ)
more_of None left room = []
more_of (Some rest) left room = take left (lines_within room rest)

heard_more : (known rest : Option (List ℕ)) (left room : ℕ) (lines : List (List ℕ)) → Follows known rest left room lines
    → IfSome known (λ text. lines ++ more_of rest left room ≡ heard text)
heard_more None rest left room lines follows = tt
heard_more (Some text) None left room lines follows = absurd follows
heard_more (Some text) (Some rest) left room lines follows = follows

no_more : (known rest now : Option (List ℕ)) (left room bytes : ℕ) (lines : List (List ℕ)) → Follows known rest left room lines → Hears room bytes rest now None
    → IfSome known (λ text. lines ≡ heard text)
no_more None rest now left room bytes lines follows hears = tt
no_more (Some text) None now left room bytes lines follows hears = absurd follows
no_more (Some text) (Some rest) now left room bytes lines follows hears =
    sym (append-nil lines) ∙ ap (λ ls. lines ++ ls) (sym (ap (take left) hears ∙ take-nil left)) ∙ follows

no_turn : (known rest : Option (List ℕ)) (room : ℕ) (lines : List (List ℕ)) → Follows known rest 0 room lines → IfSome known (λ text. lines ≡ heard text)
no_turn None rest room lines follows = tt
no_turn (Some text) None room lines follows = absurd follows
no_turn (Some text) (Some rest) room lines follows = sym (append-nil lines) ∙ follows

one_more : (known rest now : Option (List ℕ)) (left room bytes : ℕ) (lines : List (List ℕ)) (line : List ℕ) → Follows known rest (suc left) room lines
    → Hears room bytes rest now (Some line) → Follows known now left bytes (lines ++ line ∷ [])
one_more None rest now left room bytes lines line follows hears = tt
one_more (Some text) None now left room bytes lines line follows hears = absurd follows
one_more (Some text) (Some rest) None left room bytes lines line follows hears = absurd hears
one_more (Some text) (Some rest) (Some now) left room bytes lines line follows hears =
    append_assoc lines (line ∷ []) (take left (lines_within bytes now)) ∙ ap (λ ls. lines ++ take (suc left) ls) (sym hears) ∙ follows

with_line : (known now : Option (List ℕ)) (left bytes : ℕ) (lines : List (List ℕ)) (line : List ℕ) → Follows known now left bytes (lines ++ line ∷ [])
    → IfSome known (λ text. lines ++ line ∷ more_of now left bytes ≡ heard text)
with_line None now left bytes lines line follows = tt
with_line (Some text) None left bytes lines line follows = absurd follows
with_line (Some text) (Some now) left bytes lines line follows = sym (append_assoc lines (line ∷ []) (take left (lines_within bytes now))) ∙ follows

-- ---- a dialog that goes on

-- A dialog that was held so far: some lines were answered, and what is answered to more follows behind.
pub record IsSoFar (system : Disk) (cpu : Cpu) (listing : List ℕ) (start now : MachineState) (known rest before after_it : Option (List ℕ)) (left room : ℕ) : Type 0 where
  pub lines : List (List ℕ)
  pub follows : Follows known rest left room lines
  pub written : Appends before after_it (dialog system cpu listing lines start)
  pub goes : (more : List (List ℕ)) → dialog system cpu listing (lines ++ more) start ≡ dialog system cpu listing lines start ++ dialog system cpu listing more now

-- a line that was answered
answered : {system : Disk} {cpu : Cpu} {listing : List ℕ} {start now : MachineState} {known rest before after_it : Option (List ℕ)} (left room : ℕ) (so : IsSoFar system cpu listing start now known rest before after_it left room) (line : List ℕ)
    → is_quit (request_of line) ≡ false → dialog system cpu listing (so.lines ++ line ∷ []) start ≡ dialog system cpu listing so.lines start ++ (answer_to system cpu listing line now).text
answered {system = system} {cpu = cpu} {listing = listing} {start = start} {now = now} left room so line goes_on =
    so.goes (line ∷ []) ∙ ap (λ t. dialog system cpu listing so.lines start ++ t) (first_answer system cpu listing line [] now goes_on ∙ append-nil (answer_to system cpu listing line now).text)

-- and what is answered behind it
answered_more : {system : Disk} {cpu : Cpu} {listing : List ℕ} {start now : MachineState} {known rest before after_it : Option (List ℕ)} (left room : ℕ) (so : IsSoFar system cpu listing start now known rest before after_it left room) (line : List ℕ)
    (goes_on : is_quit (request_of line) ≡ false) (more : List (List ℕ))
    → dialog system cpu listing ((so.lines ++ line ∷ []) ++ more) start ≡ dialog system cpu listing (so.lines ++ line ∷ []) start ++ dialog system cpu listing more (answer_to system cpu listing line now).state
answered_more {system = system} {cpu = cpu} {listing = listing} {start = start} {now = now} left room so line goes_on more =
    let before_it = dialog system cpu listing so.lines start in
    let text = (answer_to system cpu listing line now).text in
    let behind = dialog system cpu listing more (answer_to system cpu listing line now).state in
    ap (λ ls. dialog system cpu listing ls start) (append_assoc so.lines (line ∷ []) more) ∙ so.goes (line ∷ more)
    ∙ ap (λ t. before_it ++ t) (first_answer system cpu listing line more now goes_on) ∙ sym (append_assoc before_it text behind)
    ∙ ap (λ t. t ++ behind) (sym (answered left room so line goes_on))

pub so_far_more : {system : Disk} {cpu : Cpu} {listing : List ℕ} {start now : MachineState} {known rest before after_it : Option (List ℕ)} (left room bytes : ℕ) (next : MachineState) (heard_rest later : Option (List ℕ)) (line : List ℕ) (asks : DebugRequest)
    → IsSoFar system cpu listing start now known rest before after_it (suc left) room → Hears room bytes rest heard_rest (Some line) → asks ≡ request_of line → is_quit asks ≡ false
    → next ≡ (debug_answer system cpu listing asks now).state → Appends after_it later (debug_answer system cpu listing asks now).text → IsSoFar system cpu listing start next known heard_rest before later left bytes
so_far_more {system = system} {cpu = cpu} {listing = listing} {start = start} {now = now} {known = known} {rest = rest} {before = before} {after_it = after_it} left room bytes next heard_rest later line asks so hears is goes_on state writes =
    let on : is_quit (request_of line) ≡ false = ap is_quit (sym is) ∙ goes_on in
    let there : next ≡ (answer_to system cpu listing line now).state = state ∙ ap (λ q. (debug_answer system cpu listing q now).state) is in
    let wrote : Appends after_it later (answer_to system cpu listing line now).text = subst (λ (q : DebugRequest). Appends after_it later (debug_answer system cpu listing q now).text) is writes in
    record {
      lines = so.lines ++ line ∷ [];
      follows = one_more known rest heard_rest left room bytes so.lines line so.follows hears;
      written = subst (λ (t : List ℕ). Appends before later t) (sym (answered (suc left) room so line on))
          (Appends-trans before after_it later (dialog system cpu listing so.lines start) (answer_to system cpu listing line now).text so.written wrote);
      goes = λ more. answered_more (suc left) room so line on more ∙ ap (λ s. dialog system cpu listing (so.lines ++ line ∷ []) start ++ dialog system cpu listing more s) (sym there);
    }

-- ---- how it ends

pub held_none : {system : Disk} {cpu : Cpu} {listing : List ℕ} {start now : MachineState} {known rest before after_it : Option (List ℕ)} (left room bytes : ℕ) (heard_rest : Option (List ℕ)) → IsSoFar system cpu listing start now known rest before after_it left room
    → Hears room bytes rest heard_rest None → IsHeld system cpu listing start known before after_it
held_none {known = known} {rest = rest} left room bytes heard_rest so hears =
    record { lines = so.lines; heard = no_more known rest heard_rest left room bytes so.lines so.follows hears; written = so.written }

pub held_all : {system : Disk} {cpu : Cpu} {listing : List ℕ} {start now : MachineState} {known rest before after_it : Option (List ℕ)} (left room : ℕ) → IsSoFar system cpu listing start now known rest before after_it left room → left ≡ 0
    → IsHeld system cpu listing start known before after_it
held_all {known = known} {rest = rest} left room so none =
    record { lines = so.lines; heard = no_turn known rest room so.lines (subst (λ n. Follows known rest n room so.lines) none so.follows); written = so.written }

pub held_quit : {system : Disk} {cpu : Cpu} {listing : List ℕ} {start now : MachineState} {known rest before after_it : Option (List ℕ)} (left room bytes : ℕ) (heard_rest : Option (List ℕ)) (line : List ℕ) (asks : DebugRequest)
    → IsSoFar system cpu listing start now known rest before after_it (suc left) room → Hears room bytes rest heard_rest (Some line) → asks ≡ request_of line → is_quit asks ≡ true
    → IsHeld system cpu listing start known before after_it
held_quit {system = system} {cpu = cpu} {listing = listing} {start = start} {now = now} {known = known} {rest = rest} {before = before} {after_it = after_it} left room bytes heard_rest line asks so hears is ends =
    let more = more_of heard_rest left bytes in
    let same : dialog system cpu listing (so.lines ++ line ∷ more) start ≡ dialog system cpu listing so.lines start =
    so.goes (line ∷ more) ∙ ap (λ t. dialog system cpu listing so.lines start ++ t) (quit_first system cpu listing line more now (ap is_quit (sym is) ∙ ends)) ∙ append-nil (dialog system cpu listing so.lines start) in
    record {
      lines = so.lines ++ line ∷ more;
      heard = with_line known heard_rest left bytes so.lines line (one_more known rest heard_rest left room bytes so.lines line so.follows hears);
      written = subst (λ (t : List ℕ). Appends before after_it t) (sym same) so.written;
    }

cut_short : {system : Disk} {cpu : Cpu} {listing : List ℕ} {start now : MachineState} {known rest before after_it : Option (List ℕ)} (left room : ℕ) → IsSoFar system cpu listing start now known rest before after_it left room → IsDialogCutShort system cpu listing start known before after_it
cut_short {known = known} {rest = rest} left room so =
    record { lines = so.lines; more = more_of rest left room; heard = heard_more known rest left room so.lines so.follows; written = so.written }

read_failure : (system : Disk) (cpu : Cpu) (listing : List ℕ) (start : MachineState) (known before after_it : Option (List ℕ)) (e : DebugError) → IsReadFailure e
    → IsDialogCutShort system cpu listing start known before after_it → IsFailure system cpu listing start known before after_it e
read_failure system cpu listing start known before after_it (ProgramTooLong n) fails cut = absurd fails
read_failure system cpu listing start known before after_it (Unreadable reason) fails cut = cut
read_failure system cpu listing start known before after_it (Unwritable reason) fails cut = absurd fails
read_failure system cpu listing start known before after_it OutOfMemory fails cut = cut

-- the reader failed
pub unread : {system : Disk} {cpu : Cpu} {listing : List ℕ} {start now : MachineState} {known rest before after_it : Option (List ℕ)} (left room : ℕ) (e : DebugError) → IsSoFar system cpu listing start now known rest before after_it left room → IsReadFailure e
    → IsFailure system cpu listing start known before after_it e
unread {system = system} {cpu = cpu} {listing = listing} {start = start} {known = known} {before = before} {after_it = after_it} left room e so fails =
    read_failure system cpu listing start known before after_it e fails (cut_short left room so)

both_empty : (xs ys : List ℕ) → xs ++ ys ≡ [] → ys ≡ []
both_empty [] ys e = e
both_empty (x ∷ xs) ys e = absurd (let bad : ⊥ = cc in bad)

-- the writer failed
pub unanswered : {system : Disk} {cpu : Cpu} {listing : List ℕ} {start now : MachineState} {known rest before after_it : Option (List ℕ)} (left room bytes : ℕ) (heard_rest : Option (List ℕ)) (line : List ℕ) (asks : DebugRequest)
    → IsSoFar system cpu listing start now known rest before after_it (suc left) room → Hears room bytes rest heard_rest (Some line) → asks ≡ request_of line → is_quit asks ≡ false
    → (debug_answer system cpu listing asks now).text ≢ [] → IsUnanswered system cpu listing start known
unanswered {system = system} {cpu = cpu} {listing = listing} {start = start} {now = now} {known = known} {rest = rest} left room bytes heard_rest line asks so hears is goes_on some =
    let on : is_quit (request_of line) ≡ false = ap is_quit (sym is) ∙ goes_on in
    record {
      lines = so.lines ++ line ∷ [];
      more = more_of heard_rest left bytes;
      heard = heard_more known heard_rest left bytes (so.lines ++ line ∷ []) (one_more known rest heard_rest left room bytes so.lines line so.follows hears);
      some = λ none. some (ap (λ q. (debug_answer system cpu listing q now).text) is
          ∙ both_empty (dialog system cpu listing so.lines start) (answer_to system cpu listing line now).text (sym (answered (suc left) room so line on) ∙ none));
    }

-- ---- a reader that is read so far and no further

same_heard : (known : Option (List ℕ)) (lines : List (List ℕ)) → IfSome (option_map (take 16777217) known) (λ text. lines ≡ heard text) → IfSome known (λ text. lines ≡ heard text)
same_heard None lines h = tt
same_heard (Some text) lines h = h ∙ heard_bounded text

pub held_whole : (system : Disk) (cpu : Cpu) (listing : List ℕ) (start : MachineState) (known before after_it : Option (List ℕ)) → IsHeld system cpu listing start (option_map (take 16777217) known) before after_it
    → IsHeld system cpu listing start known before after_it
held_whole system cpu listing start known before after_it held = record { lines = held.lines; heard = same_heard known held.lines held.heard; written = held.written }

cut_whole : (system : Disk) (cpu : Cpu) (listing : List ℕ) (start : MachineState) (known before after_it : Option (List ℕ)) → IsDialogCutShort system cpu listing start (option_map (take 16777217) known) before after_it
    → IsDialogCutShort system cpu listing start known before after_it
cut_whole system cpu listing start known before after_it cut =
    record { lines = cut.lines; more = cut.more; heard = same_heard known (cut.lines ++ cut.more) cut.heard; written = cut.written }

unanswered_whole : (system : Disk) (cpu : Cpu) (listing : List ℕ) (start : MachineState) (known : Option (List ℕ)) → IsUnanswered system cpu listing start (option_map (take 16777217) known)
    → IsUnanswered system cpu listing start known
unanswered_whole system cpu listing start known un = record { lines = un.lines; more = un.more; heard = same_heard known (un.lines ++ un.more) un.heard; some = un.some }

failure_whole : (system : Disk) (cpu : Cpu) (listing : List ℕ) (start : MachineState) (known before after_it : Option (List ℕ)) (e : DebugError)
    → IsFailure system cpu listing start (option_map (take 16777217) known) before after_it e → IsFailure system cpu listing start known before after_it e
failure_whole system cpu listing start known before after_it (ProgramTooLong n) fails = absurd fails
failure_whole system cpu listing start known before after_it (Unreadable reason) fails = cut_whole system cpu listing start known before after_it fails
failure_whole system cpu listing start known before after_it (Unwritable reason) fails = unanswered_whole system cpu listing start known fails
failure_whole system cpu listing start known before after_it OutOfMemory fails = cut_whole system cpu listing start known before after_it fails

-- memory was refused before anything was read
abbrev heard_of : Option (List ℕ) → List (List ℕ)
heard_of None = []
heard_of (Some text) = heard text

all_heard : (known : Option (List ℕ)) → IfSome known (λ text. heard_of known ≡ heard text)
all_heard None = tt
all_heard (Some text) = refl

pub at_once : (system : Disk) (cpu : Cpu) (listing : List ℕ) (start : MachineState) (known before : Option (List ℕ)) → IsDialogCutShort system cpu listing start known before before
at_once system cpu listing start known before = record { lines = []; more = heard_of known; heard = all_heard known; written = Appends-nil before }

-- ---- what the debugger answers, from the dialog that it held

pub held_machine : {A E : Type 0} (r : Result A E) (system : Disk) (cpu own : Cpu) (listing : List ℕ) (s : MachineState) (known k before after_it : Option (List ℕ))
    → cpu ≡ own → k ≡ option_map (take 16777217) known → OnOk r (IsHeld system cpu listing s k before after_it)
    → OnOk r (IsHeld system own listing s known before after_it)
held_machine (Err e) system cpu own listing s known k before after_it processor reader held = tt
held_machine (Ok x) system cpu own listing s known k before after_it processor reader held =
    let on_processor = subst (λ (p : Cpu). IsHeld system p listing s k before after_it) processor held in
    held_whole system own listing s known before after_it (subst (λ (o : Option (List ℕ)). IsHeld system own listing s o before after_it) reader on_processor)

pub refused_machine : {A : Type 0} (r : Result A DebugError) (system : Disk) (cpu own : Cpu) (listing : List ℕ) (s : MachineState) (known k before after_it : Option (List ℕ))
    → cpu ≡ own → k ≡ option_map (take 16777217) known → IfErr r (IsFailure system cpu listing s k before after_it)
    → IfErr r (IsFailure system own listing s known before after_it)
refused_machine (Ok x) system cpu own listing s known k before after_it processor reader failed = tt
refused_machine (Err e) system cpu own listing s known k before after_it processor reader failed =
    let on_processor = subst (λ (p : Cpu). IsFailure system p listing s k before after_it e) processor failed in
    failure_whole system own listing s known before after_it e (subst (λ (o : Option (List ℕ)). IsFailure system own listing s o before after_it e) reader on_processor)

-- ---- and where it began a program

pub held_program : {A E : Type 0} (r : Result A E) (system : Disk) (cpu : Cpu) (listing : List ℕ) (s : MachineState) (program : List ℕ) (known before after_it : Option (List ℕ))
    → system ≡ debug_system_drive → s ≡ debugged cpu program → OnOk r (IsHeld system s.cpu listing s known before after_it)
    → OnOk r (IsHeld debug_system_drive cpu listing (debugged cpu program) known before after_it)
held_program r system cpu listing s program known before after_it drive machine held =
    let on_drive = subst (λ (d : Disk). OnOk r (IsHeld d s.cpu listing s known before after_it)) drive held in
    subst (λ (m : MachineState). OnOk r (IsHeld debug_system_drive m.cpu listing m known before after_it)) machine on_drive

refused_short : {W : Type 0} (cpu : Cpu) (listing program : List ℕ) (known before after_it : Option (List ℕ)) (old new : W) (e : DebugError) → length program ≤ 58112
    → IsFailure debug_system_drive cpu listing (debugged cpu program) known before after_it e → IsDebugRefusal cpu listing program known before after_it old new e
refused_short cpu listing program known before after_it old new (ProgramTooLong n) fits fails = absurd fails
refused_short cpu listing program known before after_it old new (Unreadable reason) fits fails = (fits, fails)
refused_short cpu listing program known before after_it old new (Unwritable reason) fits fails = (fits, fails)
refused_short cpu listing program known before after_it old new OutOfMemory fits fails = (fits, fails)

pub refused_program : {A W : Type 0} (r : Result A DebugError) (system : Disk) (cpu : Cpu) (listing : List ℕ) (s : MachineState) (program : List ℕ) (known before after_it : Option (List ℕ))
    (old new : W) → system ≡ debug_system_drive → s ≡ debugged cpu program → length program ≤ 58112 → IfErr r (IsFailure system s.cpu listing s known before after_it)
    → IfErr r (IsDebugRefusal cpu listing program known before after_it old new)
refused_program (Ok x) system cpu listing s program known before after_it old new drive machine fits failed = tt
refused_program (Err e) system cpu listing s program known before after_it old new drive machine fits failed =
    let on_drive = subst (λ (d : Disk). IsFailure d s.cpu listing s known before after_it e) drive failed in
    refused_short cpu listing program known before after_it old new e fits
    (subst (λ (m : MachineState). IsFailure debug_system_drive m.cpu listing m known before after_it e) machine on_drive)
