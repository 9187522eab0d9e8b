-- Moving the bytes that wait out of a machine.
use Rattle.std.proofs.Common.{◌≡◌, ◌∙◌, ◌++◌, ◌≤◌, ap, ap₂, sym, refl, Result, Ok, Err, OnErr, OnOk, Bool, true, ℕ, List, [], ◌∷◌, Option, Some, None, length, take, drop, min, arith, append-nil}
use Rattle.std.proofs.lemmas.List.{append_assoc, length-take-le, take-append-drop, take_at}
use Rattle.std.specs.Io.KnownBytes.{Appends}
use Rattle.cpm_machine.specs.MachineState.{MachineState}
use Rattle.cpm_machine.specs.Serve.{taken, taken_list}
use Rattle.cpm_play.specs.Playing.{HasList, HasText}
use Rattle.cpm_play.specs.Shown.{HasGrown}
use Rattle.cpm_play.specs.declared.shown.Shown.{Shown}
use Rattle.cpm_play.proofs.ShownLemmas.{grown-none, grown-on}

-- the state with other bytes on its console, or on its list device
abbrev pub with_text : List ℕ → MachineState → MachineState
with_text xs s = record s { session = record s.session { console = record s.session.console { screen = xs } } }

abbrev pub with_list : List ℕ → MachineState → MachineState
with_list xs s = record s { session = record s.session { console = record s.session.console { printer = xs } } }

-- some of the console bytes were moved to the console
pub record IsMoved (start now : MachineState) (before after : Option (List ℕ)) : Type 0 where
  pub text : List ℕ
  pub written : Appends before after text
  pub whole : text ++ now.session.console.screen ≡ start.session.console.screen
  pub state : now ≡ with_text now.session.console.screen start

-- some of the list bytes were moved to the list device
pub record IsPrinted (start now : MachineState) (before after : Option (List ℕ)) : Type 0 where
  pub bytes : List ℕ
  pub written : Appends before after bytes
  pub whole : bytes ++ now.session.console.printer ≡ start.session.console.printer
  pub state : now ≡ with_list now.session.console.printer start

-- known bytes grow twice
pub appends_more : (before middle grown : Option (List ℕ)) (xs ys : List ℕ) → Appends before middle xs → Appends middle grown ys → Appends before grown (xs ++ ys)
appends_more None middle grown xs ys a b = tt
appends_more (Some w) None grown xs ys a b = absurd a
appends_more (Some w) (Some x) None xs ys a b = absurd b
appends_more (Some w) (Some x) (Some y) xs ys a b = b ∙ ap (λ v. v ++ ys) a ∙ append_assoc w xs ys

pub appends_none : (o : Option (List ℕ)) → Appends o o []
appends_none None = tt
appends_none (Some xs) = sym (append-nil xs)

-- nothing was moved so far
pub moved_none : (start : MachineState) (written : Option (List ℕ)) → IsMoved start start written written
moved_none start written = record { text = []; written = appends_none written; whole = refl; state = refl }

pub printed_none : (start : MachineState) (written : Option (List ℕ)) → IsPrinted start start written written
printed_none start written = record { bytes = []; written = appends_none written; whole = refl; state = refl }

-- one chunk more
pub moved_more : (start now next : MachineState) (before middle grown : Option (List ℕ)) (room : ℕ) (chunk : List ℕ) → IsMoved start now before middle
    → chunk ≡ take (min room (length now.session.console.screen)) now.session.console.screen → next ≡ taken room now → Appends middle grown chunk
    → IsMoved start next before grown
moved_more start now next before middle grown room chunk moved is state writes =
    let screen = now.session.console.screen in
    let count = min room (length screen) in
    let left : next.session.console.screen ≡ drop count screen = ap (λ (s : MachineState). s.session.console.screen) state in
    record {
      text = moved.text ++ chunk;
      written = appends_more before middle grown moved.text chunk moved.written writes;
      whole = ap₂ (λ a b. (moved.text ++ a) ++ b) is left ∙ append_assoc moved.text (take count screen) (drop count screen)
          ∙ ap (λ v. moved.text ++ v) (take-append-drop count screen) ∙ moved.whole;
      state = state ∙ ap (taken room) moved.state ∙ ap (λ v. with_text v start) (sym left);
    }

pub printed_more : (start now next : MachineState) (before middle grown : Option (List ℕ)) (room : ℕ) (chunk : List ℕ) → IsPrinted start now before middle
    → chunk ≡ take (min room (length now.session.console.printer)) now.session.console.printer → next ≡ taken_list room now → Appends middle grown chunk
    → IsPrinted start next before grown
printed_more start now next before middle grown room chunk moved is state writes =
    let printer = now.session.console.printer in
    let count = min room (length printer) in
    let left : next.session.console.printer ≡ drop count printer = ap (λ (s : MachineState). s.session.console.printer) state in
    record {
      bytes = moved.bytes ++ chunk;
      written = appends_more before middle grown moved.bytes chunk moved.written writes;
      whole = ap₂ (λ a b. (moved.bytes ++ a) ++ b) is left ∙ append_assoc moved.bytes (take count printer) (drop count printer)
          ∙ ap (λ v. moved.bytes ++ v) (take-append-drop count printer) ∙ moved.whole;
      state = state ∙ ap (taken_list room) moved.state ∙ ap (λ v. with_list v start) (sym left);
    }

-- some of them, which were kept too if there was memory for them
pub record IsMovedKept (start now : MachineState) (before after : Option (List ℕ)) (old held : Shown) (whole : Bool) : Type 0 where
  pub moved : IsMoved start now before after
  pub kept : whole ≡ true → HasGrown old held moved.text

pub kept_none : (start : MachineState) (written : Option (List ℕ)) (old : Shown) (whole : Bool) → IsMovedKept start start written written old old whole
unfolding moved_none
kept_none start written old whole = record {
  moved = moved_none start written;
  kept = λ yes. grown-none old [] refl;
}

pub kept_more : (start now next : MachineState) (before middle grown : Option (List ℕ)) (room : ℕ) (chunk : List ℕ) (old kept more : Shown) (had whole : Bool) → IsMovedKept start now before middle old kept had
    → chunk ≡ take (min room (length now.session.console.screen)) now.session.console.screen → next ≡ taken room now → Appends middle grown chunk
    → (whole ≡ true → had ≡ true) → (whole ≡ true → HasGrown kept more chunk) → IsMovedKept start next before grown old more whole
unfolding moved_more
kept_more start now next before middle grown room chunk old kept more had whole so_far is state writes all keeps_it = record {
  moved = moved_more start now next before middle grown room chunk so_far.moved is state writes;
  kept = λ yes. grown-on (so_far.kept (all yes)) (keeps_it yes);
}

-- what lies in the buffer after bytes were taken into it
pub chunk_taken : (screen old new : List ℕ) (n room : ℕ) → n ≡ min room (length screen) → new ≡ take n screen ++ drop n old → take n new ≡ take (min room (length screen)) screen
chunk_taken screen old new n room count bytes =
    let within : n ≤ length screen = omega arith in
    ap (take n) bytes ∙ take_at (take n screen) (drop n old) n (length-take-le n screen within) ∙ ap (λ k. take k screen) count

-- a fact holds at an error too
pub on_err : {A E P : Type 0} (r : Result A E) → P → OnErr r P
on_err (Ok x) p = tt
on_err (Err e) p = p

-- a fact holds after a success by three that do
pub on_ok : {A E P Q R S : Type 0} (r : Result A E) → OnOk r P → OnOk r Q → OnOk r R → (P → Q → R → S) → OnOk r S
on_ok (Ok x) p q s f = f p q s
on_ok (Err e) p q s f = tt

pub both_empty : (xs ys : List ℕ) → xs ++ ys ≡ [] → ys ≡ []
both_empty [] ys e = e
both_empty (x ∷ xs) ys e = absurd (let bad : ⊥ = cc in bad)

-- bytes were there to be taken
pub moved_text : (start now : MachineState) (before written : Option (List ℕ)) (room count : ℕ) → IsMoved start now before written
    → count ≡ min room (length now.session.console.screen) → (count ≡ 0 → ⊥) → HasText start
moved_text start now before written room count moved is some none =
    let left : now.session.console.screen ≡ [] = both_empty moved.text now.session.console.screen (moved.whole ∙ none) in
    let zero : length now.session.console.screen ≡ 0 = ap length left in
    some (omega arith)

pub printed_list : (start now : MachineState) (before written : Option (List ℕ)) (room count : ℕ) → IsPrinted start now before written
    → count ≡ min room (length now.session.console.printer) → (count ≡ 0 → ⊥) → HasList start
printed_list start now before written room count moved is some none =
    let left : now.session.console.printer ≡ [] = both_empty moved.bytes now.session.console.printer (moved.whole ∙ none) in
    let zero : length now.session.console.printer ≡ 0 = ap length left in
    some (omega arith)
