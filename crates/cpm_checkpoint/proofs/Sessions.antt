-- The parts of a checkpoint: what is read of one is written so, and what is written is read.
use Rattle.std.proofs.Common.{◌≡◌, ◌∙◌, ◌<◌, ◌+◌, ℕ, zero, suc, List, [], ◌∷◌, ◌++◌, length}
use Rattle.std.proofs.Common.{Option, Some, None, Ok, ap, append_assoc, arith, refl, subst, sym}
use Rattle.std.specs.Prelude.{◌==◌}
use Rattle.std.specs.List.{AllByRecursion, flat_map}
use Rattle.std.proofs.lemmas.Bool.{eqb-true}
use Rattle.std.proofs.lemmas.List.{append-nil, nil_from_length}
use Rattle.std.proofs.lemmas.List.Concat.{flat_map-cons}
use Rattle.cpm_checkpoint.specs.CheckpointBytes.{AreByteValues, CheckpointValue, IsCheckpoint, IsSession, IsSessionIfAny, SessionValue}
use Rattle.cpm_checkpoint.specs.CheckpointBytes.{checkpoint_bytes, checkpoint_magic, long}
use Rattle.cpm_checkpoint.specs.CheckpointBytes.{checkpoint_version, marked_bytes, run, session_bytes}
use Rattle.cpm_checkpoint.specs.CheckpointReading.{Unread, all_read, beginning_read, begun_read, byte_read, bytes_taken, checkpoint_read}
use Rattle.cpm_checkpoint.specs.CheckpointReading.{long_read, marked_read, parts_read, run_read, session_read, sessions_read, these_read, unread_at}
use Rattle.cpm_checkpoint.specs.Laws.{ReadIsWritten, WrittenIsRead}
use Rattle.cpm_checkpoint.proofs.Fields.{◌>>=◌, Takes, byte_again, byte_takes, bytes_again, bytes_take, if_ok, long_again, long_takes, ok_is}
use Rattle.cpm_checkpoint.proofs.Fields.{run_again, run_takes}
use Rattle.cpm_checkpoint.proofs.Fields.{takes_then, then_ok, these_again, these_take}

abbrev session_of : (pressed done : ℕ) (console list saving : List ℕ) → SessionValue
session_of pressed done console list saving = record { pressed = pressed; done = done; console = console; list = list; saving = saving }

abbrev checkpoint_of : List ℕ → List (Option SessionValue) → CheckpointValue
checkpoint_of beginning sessions = record { beginning = beginning; sessions = sessions }

-- ---- a session

session_takes : (rest : Unread) (p : SessionValue × Unread) → AreByteValues rest.bytes → session_read rest ≡ Ok p
    → Takes rest.bytes (session_bytes p.0) p.1 × IsSession p.0
unfolding session_read
session_takes rest p all e =
    let a = then_ok (long_read rest) (λ pressed. long_read pressed.1 >>= λ done. run_read done.1 >>= λ console. run_read console.1 >>= λ list.
    run_read list.1 >>= λ saving. Ok (session_of pressed.0 done.0 console.0 list.0 saving.0, saving.1)) p e in
    let b = then_ok (long_read a.0.1) (λ done. run_read done.1 >>= λ console. run_read console.1 >>= λ list.
    run_read list.1 >>= λ saving. Ok (session_of a.0.0 done.0 console.0 list.0 saving.0, saving.1)) p a.2 in
    let c = then_ok (run_read b.0.1) (λ console. run_read console.1 >>= λ list. run_read list.1 >>= λ saving.
    Ok (session_of a.0.0 b.0.0 console.0 list.0 saving.0, saving.1)) p b.2 in
    let d = then_ok (run_read c.0.1) (λ list. run_read list.1 >>= λ saving. Ok (session_of a.0.0 b.0.0 c.0.0 list.0 saving.0, saving.1)) p c.2 in
    let f = then_ok (run_read d.0.1) (λ saving. Ok (session_of a.0.0 b.0.0 c.0.0 d.0.0 saving.0, saving.1)) p d.2 in
    let one = long_takes rest a.0 all a.1 in
    let two = long_takes a.0.1 b.0 one.0.behind_bytes b.1 in
    let three = run_takes b.0.1 c.0 two.0.behind_bytes c.1 in
    let four = run_takes c.0.1 d.0 three.0.behind_bytes d.1 in
    let five = run_takes d.0.1 f.0 four.0.behind_bytes f.1 in
    let from_four = takes_then c.0.1.bytes (run d.0.0) (run f.0.0) d.0.1 f.0.1 four.0 five.0 in
    let from_three = takes_then b.0.1.bytes (run c.0.0) (run d.0.0 ++ run f.0.0) c.0.1 f.0.1 three.0 from_four in
    let from_two = takes_then a.0.1.bytes (long b.0.0) (run c.0.0 ++ (run d.0.0 ++ run f.0.0)) b.0.1 f.0.1 two.0 from_three in
    let whole = takes_then rest.bytes (long a.0.0) (long b.0.0 ++ (run c.0.0 ++ (run d.0.0 ++ run f.0.0))) a.0.1 f.0.1 one.0 from_two in
    let answer : SessionValue × Unread = (session_of a.0.0 b.0.0 c.0.0 d.0.0 f.0.0, f.0.1) in
    subst (λ (q : SessionValue × Unread). Takes rest.bytes (session_bytes q.0) q.1 × IsSession q.0) {x = answer} (ok_is answer p f.2) (
      whole,
      record { pressed = one.1; done = two.1; console = three.1; list = four.1; saving = five.1 },
    )

-- the place behind a session
abbrev place_behind : ℕ → SessionValue → ℕ
place_behind at s = at + 8 + 8 + 8 + length s.console + 8 + length s.list + 8 + length s.saving

session_again : (s : SessionValue) (rest : List ℕ) (at : ℕ) → IsSession s
    → session_read (unread_at at (session_bytes s ++ rest)) ≡ Ok (s, unread_at (place_behind at s) rest)
unfolding session_read
session_again s rest at of =
    let saving = run s.saving ++ rest in
    let list = run s.list ++ saving in
    let console = run s.console ++ list in
    let done = long s.done ++ console in
    let regrouped : session_bytes s ++ rest ≡ long s.pressed ++ done =
    append_assoc (long s.pressed) (long s.done ++ (run s.console ++ (run s.list ++ run s.saving))) rest
    ∙ ap (λ (x : List ℕ). long s.pressed ++ x) (append_assoc (long s.done) (run s.console ++ (run s.list ++ run s.saving)) rest
    ∙ ap (λ (x : List ℕ). long s.done ++ x) (append_assoc (run s.console) (run s.list ++ run s.saving) rest
    ∙ ap (λ (x : List ℕ). run s.console ++ x) (append_assoc (run s.list) (run s.saving) rest))) in
    ap (λ (x : List ℕ). session_read (unread_at at x)) regrouped
    ∙ rw (
      long_again s.pressed done at of.pressed,
      long_again s.done console (at + 8) of.done,
      run_again s.console list (at + 8 + 8) of.console,
      run_again s.list saving (at + 8 + 8 + 8 + length s.console) of.list,
      run_again s.saving rest (at + 8 + 8 + 8 + length s.console + 8 + length s.list) of.saving,
    ) refl

-- ---- a session with its mark

-- what is behind a mark below 2 is as the mark says
begun_takes : (mark : ℕ) (rest : Unread) (p : Option SessionValue × Unread) → mark < 2 → AreByteValues rest.bytes → begun_read mark rest ≡ Ok p
    → (bytes : List ℕ) → bytes ≡ mark ∷ rest.bytes → Takes bytes (marked_bytes p.0) p.1 × IsSessionIfAny p.0
unfolding begun_read
begun_takes zero rest p low all e bytes is =
    let none : Option SessionValue × Unread = (None, rest) in
    subst (λ (q : Option SessionValue × Unread). Takes bytes (marked_bytes q.0) q.1 × IsSessionIfAny q.0) {x = none} (ok_is none p e)
    (record { parts = is; behind_bytes = all }, tt)
begun_takes (suc zero) rest p low all e bytes is =
    let a = then_ok (session_read rest) (λ session. Ok (Some session.0, session.1)) p e in
    let t = session_takes rest a.0 all a.1 in
    let some : Option SessionValue × Unread = (Some a.0.0, a.0.1) in
    subst (λ (q : Option SessionValue × Unread). Takes bytes (marked_bytes q.0) q.1 × IsSessionIfAny q.0) {x = some} (ok_is some p a.2)
    (record { parts = is ∙ ap (λ (x : List ℕ). 1 ∷ x) t.0.parts; behind_bytes = t.0.behind_bytes }, t.1)
begun_takes (suc (suc mark)) rest p low all e bytes is = absurd (omega (arith, low))

marked_takes : (rest : Unread) (p : Option SessionValue × Unread) → AreByteValues rest.bytes → marked_read rest ≡ Ok p
    → Takes rest.bytes (marked_bytes p.0) p.1 × IsSessionIfAny p.0
unfolding marked_read
marked_takes rest p all e =
    let a = then_ok (byte_read 2 rest) (λ mark. begun_read mark.0 mark.1) p e in
    let t = byte_takes 2 rest a.0 all a.1 in
    begun_takes a.0.0 a.0.1 p t.1 t.0.behind_bytes a.2 rest.bytes t.0.parts

marked_again : (o : Option SessionValue) (rest : List ℕ) (at : ℕ) → IsSessionIfAny o
    → (end : ℕ) × (marked_read (unread_at at (marked_bytes o ++ rest)) ≡ Ok (o, unread_at end rest))
unfolding marked_read begun_read
marked_again None rest at of = (at + 1, rw (byte_again 2 0 rest at (omega arith)) refl)
marked_again (Some s) rest at of =
    (place_behind (at + 1) s, rw (byte_again 2 1 (session_bytes s ++ rest) at (omega arith), session_again s rest (at + 1) of) refl)

-- ---- sessions

-- so many sessions are taken from the front of bytes
abbrev AreTaken : ℕ → List ℕ → List (Option SessionValue) → Unread → Type 0
AreTaken count bytes os behind = Takes bytes (flat_map marked_bytes os) behind × (length os ≡ count) × AllByRecursion IsSessionIfAny os

sessions_take : (count : ℕ) (rest : Unread) (p : List (Option SessionValue) × Unread) → AreByteValues rest.bytes → sessions_read count rest ≡ Ok p
    → AreTaken count rest.bytes p.0 p.1
unfolding sessions_read
sessions_take zero rest p all e =
    let none : List (Option SessionValue) × Unread = ([], rest) in
    subst (λ (q : List (Option SessionValue) × Unread). AreTaken 0 rest.bytes q.0 q.1)
    {x = none} (ok_is none p e) (record { parts = refl; behind_bytes = all }, refl, tt)
sessions_take (suc count) rest p all e =
    let a = then_ok (marked_read rest) (λ first. sessions_read count first.1 >>= λ others. Ok (first.0 ∷ others.0, others.1)) p e in
    let b = then_ok (sessions_read count a.0.1) (λ others. Ok (a.0.0 ∷ others.0, others.1)) p a.2 in
    let first = marked_takes rest a.0 all a.1 in
    let others = sessions_take count a.0.1 b.0 first.0.behind_bytes b.1 in
    let both = takes_then rest.bytes (marked_bytes a.0.0) (flat_map marked_bytes b.0.0) a.0.1 b.0.1 first.0 others.0 in
    let answer : List (Option SessionValue) × Unread = (a.0.0 ∷ b.0.0, b.0.1) in
    subst (λ (q : List (Option SessionValue) × Unread). AreTaken (suc count) rest.bytes q.0 q.1)
    {x = answer} (ok_is answer p b.2) (rw flat_map-cons both, ap suc others.1, (first.1, others.2))

sessions_again : (os : List (Option SessionValue)) (rest : List ℕ) (at : ℕ) → AllByRecursion IsSessionIfAny os
    → (end : ℕ) × (sessions_read (length os) (unread_at at (flat_map marked_bytes os ++ rest)) ≡ Ok (os, unread_at end rest))
unfolding sessions_read
sessions_again [] rest at of = (at, refl)
sessions_again (o ∷ os) rest at of =
    let first = marked_again o (flat_map marked_bytes os ++ rest) at of.0 in
    let others = sessions_again os rest first.0 of.1 in
    let regrouped : flat_map marked_bytes (o ∷ os) ++ rest ≡ marked_bytes o ++ (flat_map marked_bytes os ++ rest) =
    ap (λ (x : List ℕ). x ++ rest) (flat_map-cons marked_bytes o os) ∙ append_assoc (marked_bytes o) (flat_map marked_bytes os) rest in
    (others.0, ap (λ (x : List ℕ). sessions_read (suc (length os)) (unread_at at x)) regrouped ∙ rw (first.1, others.1) refl)

-- ---- all parts

beginning_takes : (rest : Unread) (p : List ℕ × Unread) → AreByteValues rest.bytes → beginning_read rest ≡ Ok p
    → Takes rest.bytes (checkpoint_magic ++ (checkpoint_version ++ p.0)) p.1 × (length p.0 ≡ 32) × AreByteValues p.0
unfolding beginning_read
beginning_takes rest p all e =
    let a = then_ok (these_read checkpoint_magic rest) (λ mark. these_read checkpoint_version mark.1 >>= λ number. bytes_taken 32 number.1) p e in
    let b = then_ok (these_read checkpoint_version a.0.1) (λ number. bytes_taken 32 number.1) p a.2 in
    let one = these_take checkpoint_magic rest a.0 all a.1 in
    let two = these_take checkpoint_version a.0.1 b.0 one.behind_bytes b.1 in
    let three = bytes_take 32 b.0.1 p two.behind_bytes b.2 in
    let from_two = takes_then a.0.1.bytes checkpoint_version p.0 b.0.1 p.1 two three.0 in
    (takes_then rest.bytes checkpoint_magic (checkpoint_version ++ p.0) a.0.1 p.1 one from_two, three.1, three.2)

beginning_again : (digest rest : List ℕ) (at : ℕ) → length digest ≡ 32
    → beginning_read (unread_at at (checkpoint_magic ++ (checkpoint_version ++ (digest ++ rest)))) ≡ Ok (digest, unread_at (at + 8 + 1 + 32) rest)
unfolding beginning_read
beginning_again digest rest at size =
    rw (
      these_again checkpoint_magic (checkpoint_version ++ (digest ++ rest)) at,
      these_again checkpoint_version (digest ++ rest) (at + 8),
      bytes_again digest rest (at + 8 + 1) 32 size,
    ) refl

parts_take : (rest : Unread) (p : CheckpointValue × Unread) → AreByteValues rest.bytes → parts_read rest ≡ Ok p
    → Takes rest.bytes (checkpoint_bytes p.0) p.1 × IsCheckpoint p.0
unfolding parts_read checkpoint_bytes
parts_take rest p all e =
    let a = then_ok (beginning_read rest) (λ beginning. byte_read 65 beginning.1 >>= λ count. sessions_read count.0 count.1 >>= λ sessions.
    Ok (checkpoint_of beginning.0 sessions.0, sessions.1)) p e in
    let b = then_ok (byte_read 65 a.0.1) (λ count. sessions_read count.0 count.1 >>= λ sessions. Ok (checkpoint_of a.0.0 sessions.0, sessions.1)) p a.2 in
    let c = then_ok (sessions_read b.0.0 b.0.1) (λ sessions. Ok (checkpoint_of a.0.0 sessions.0, sessions.1)) p b.2 in
    let one = beginning_takes rest a.0 all a.1 in
    let two = byte_takes 65 a.0.1 b.0 one.0.behind_bytes b.1 in
    let three = sessions_take b.0.0 b.0.1 c.0 two.0.behind_bytes c.1 in
    let sessions = flat_map marked_bytes c.0.0 in
    let size : length c.0.0 ≡ b.0.0 = three.1 in
    let few = two.1 in
    let from_two = takes_then a.0.1.bytes (b.0.0 ∷ []) sessions b.0.1 c.0.1 two.0 three.0 in
    let whole = takes_then rest.bytes (checkpoint_magic ++ (checkpoint_version ++ a.0.0)) ((b.0.0 ∷ []) ++ sessions) a.0.1 c.0.1 one.0 from_two in
    let counted = subst (λ (n : ℕ). Takes rest.bytes ((checkpoint_magic ++ (checkpoint_version ++ a.0.0)) ++ ((n ∷ []) ++ sessions)) c.0.1) (sym size) whole in
    let regrouped : (checkpoint_magic ++ (checkpoint_version ++ a.0.0)) ++ ((length c.0.0 ∷ []) ++ sessions) ≡ checkpoint_bytes (checkpoint_of a.0.0 c.0.0) =
    append_assoc checkpoint_magic (checkpoint_version ++ a.0.0) ((length c.0.0 ∷ []) ++ sessions)
    ∙ ap (λ (x : List ℕ). checkpoint_magic ++ x) (append_assoc checkpoint_version a.0.0 ((length c.0.0 ∷ []) ++ sessions)) in
    let answer : CheckpointValue × Unread = (checkpoint_of a.0.0 c.0.0, c.0.1) in
    subst (λ (q : CheckpointValue × Unread). Takes rest.bytes (checkpoint_bytes q.0) q.1 × IsCheckpoint q.0) {x = answer} (ok_is answer p c.2) (
      subst (λ (x : List ℕ). Takes rest.bytes x c.0.1) regrouped counted,
      record { beginning = (one.1, one.2); count = omega (arith, size, few); sessions = three.2 },
    )

pub read_written : ReadIsWritten
unfolding checkpoint_read
read_written c bytes all e =
    let a = then_ok (parts_read (unread_at 0 bytes)) all_read c e in
    let w = if_ok (length a.0.1.bytes == 0) a.0.0 c a.0.1.at a.2 in
    let t = parts_take (unread_at 0 bytes) a.0 all a.1 in
    let none : a.0.1.bytes ≡ [] = nil_from_length a.0.1.bytes (eqb-true _ _ w.0) in
    let whole : checkpoint_bytes a.0.0 ≡ bytes =
    sym (t.0.parts ∙ ap (λ (x : List ℕ). checkpoint_bytes a.0.0 ++ x) none ∙ append-nil (checkpoint_bytes a.0.0)) in
    subst (λ (v : CheckpointValue). (checkpoint_bytes v ≡ bytes) × IsCheckpoint v) w.1 (whole, t.1)

pub written_read : WrittenIsRead
unfolding checkpoint_read parts_read checkpoint_bytes
written_read c of =
    let sessions = flat_map marked_bytes c.sessions in
    let count = of.count in
    let last : sessions ≡ sessions ++ [] = sym (append-nil sessions) in
    let again = sessions_again c.sessions [] 42 of.sessions in
    let read : sessions_read (length c.sessions) (unread_at 42 sessions) ≡ Ok (c.sessions, unread_at again.0 []) =
    ap (λ (x : List ℕ). sessions_read (length c.sessions) (unread_at 42 x)) last ∙ again.1 in
    rw (
      beginning_again c.beginning (length c.sessions ∷ sessions) 0 of.beginning.0,
      byte_again 65 (length c.sessions) sessions 41 (omega (arith, count)),
      read,
    ) refl
