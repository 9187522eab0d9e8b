-- What moving console bytes out of a machine leaves.
use Rattle.std.proofs.Common.{◌≡◌, ◌∙◌, ◌++◌, ap, ap₂, ℕ, ◌≤◌, List, Option, length, take, drop, min, arith, sym}
use Rattle.std.proofs.lemmas.List.{append_assoc, length-take-le, take-append-drop, take_at}
use Rattle.std.proofs.KnownBytes.{Appends-trans}
use Rattle.std.specs.Io.KnownBytes.{Appends}
use Rattle.cpm_machine.specs.MachineState.{MachineState}
use Rattle.cpm_machine.specs.Serve.{taken}

-- the state with other bytes on its console
abbrev pub with_text : List ℕ → MachineState → MachineState
with_text xs s = record s { session = record s.session { console = record s.session.console { screen = xs } } }

-- some of the console bytes were moved to the writer
pub record IsMoved (start now : MachineState) (before after : Option (List ℕ)) : Type 0 where
  pub text : List ℕ
  pub written : Appends before after text
  pub whole : text ++ now.session.console.screen ≡ start.session.console.screen
  pub state : now ≡ with_text now.session.console.screen start

-- one chunk more
pub moved_more : (start now next : MachineState) (before middle grown : Option (List ℕ)) (room : ℕ) (chunk : List ℕ) → IsMoved start now before middle
    → chunk ≡ take (min room (length now.session.console.screen)) now.session.console.screen → next ≡ taken room now → Appends middle grown chunk
    → IsMoved start next before grown
moved_more start now next before middle grown room chunk moved is state writes =
    let screen = now.session.console.screen in
    let count = min room (length screen) in
    let left : next.session.console.screen ≡ drop count screen = ap (λ (s : MachineState). s.session.console.screen) state in
    record {
      text = moved.text ++ chunk;
      written = Appends-trans before middle grown moved.text chunk moved.written writes;
      whole = ap₂ (λ a b. (moved.text ++ a) ++ b) is left ∙ append_assoc moved.text (take count screen) (drop count screen)
          ∙ ap (λ v. moved.text ++ v) (take-append-drop count screen) ∙ moved.whole;
      state = state ∙ ap (taken room) moved.state ∙ ap (λ v. with_text v start) (sym left);
    }

-- what lies in the buffer after bytes were taken into it
pub chunk_taken : (screen old new : List ℕ) (n room : ℕ) → n ≡ min room (length screen) → new ≡ take n screen ++ drop n old → take n new ≡ take (min room (length screen)) screen
chunk_taken screen old new n room count bytes =
    let within : n ≤ length screen = omega arith in
    ap (take n) bytes ∙ take_at (take n screen) (drop n old) n (length-take-le n screen within) ∙ ap (λ k. take k screen) count
