-- The records of settled sessions are read back.
use Rattle.std.proofs.Common.{◌≡◌, ◌∙◌, ◌<◌, ◌≤◌, ◌^◌, ◌++◌, nat_lt, ℕ, Bool, true, false, List, [], ◌∷◌, Option, Ok, length, drop, get_or, ap, refl, sym, subst, arith, if◌then◌else◌}
use Rattle.std.specs.Prelude.{IfSome}
use Rattle.std.specs.List.{All}
use Rattle.std.proofs.lemmas.Bool.Decides.{nat_tests}
use Rattle.std.proofs.lemmas.List.{drop_at}
use Rattle.std.proofs.lemmas.List.Elements.{All-cons, All-head, All-nil, All-tail}
use Rattle.std.proofs.lemmas.Option.{slice_get-get_or}
use Rattle.cpm_batch.specs.Inputs.{Forks, IsOpened, Opens, Restores, StartInput}
use Rattle.cpm_geom.specs.Disk.{Disk}
use Rattle.cpm_play.specs.Playing.{IsInOrder}
use Rattle.cpm_script.proofs.RecordingLemmas.{recorded-read, recording-read}
use Rattle.cpm_script.specs.Fork.{keys_before}
use Rattle.cpm_script.specs.Recording.{AreTyped, recorded, recording}
use Rattle.cpm_script.specs.Script.{most_keys, script}
use Rattle.cpm_script.specs.declared.script.Key.{Key}
use Rattle.cpm_run.proofs.OrderLemmas.{order_from}
use Rattle.cpm_run.specs.Pressable.{IsPressableBy}
use Rattle.cpm_run.specs.Run.{GivesItsKeysAgain, own_keys}
use Rattle.cpm_run.specs.Settled.{SessionPart, SettledSession}
use Rattle.cpm_run.specs.Settling.{AreBelow80h, AreCounts, AreSound, AreSoundKeys}

pub counts_typed : (n : ℕ) (ks : List Key) → AreTyped n ks → AreCounts ks
counts_typed n [] typed = All-nil (λ (k : Key). k.count < 2 ^ 64)
counts_typed n (k ∷ ks) typed = All-cons (λ (x : Key). x.count < 2 ^ 64) k ks typed.1 (counts_typed k.count ks typed.3)

typed_by : (n : ℕ) (ks : List Key) → IsInOrder n ks → AreCounts ks → AreBelow80h ks → AreTyped n ks
typed_by n [] order counts low = tt
typed_by n (k ∷ ks) order counts low = (
  order.0,
  All-head (λ (x : Key). x.count < 2 ^ 64) k ks counts,
  All-head (λ (x : Key). x.byte < 128) k ks low,
  typed_by k.count ks order.1 (All-tail (λ (x : Key). x.count < 2 ^ 64) k ks counts) (All-tail (λ (x : Key). x.byte < 128) k ks low),
)

-- a session's own keys are those after the ones from before
pub gives_again : (system : Disk) (p : SessionPart) (s : SettledSession) → s.before ≡ length p.before → AreSoundKeys system p s.keys s.steps → GivesItsKeysAgain s
gives_again system p s before keys =
    let own : own_keys s ≡ keys.own = ap (drop s.before) keys.joined ∙ drop_at p.before keys.own s.before (sym before) in
    let typed = typed_by 0 keys.own (order_from 0 p.at keys.own (omega arith) keys.order) keys.counts keys.ascii in
    record {
      recording = subst (λ (ks : List Key). recording (recorded ks) ≡ Ok ks) (sym own) (recording-read keys.own typed);
      script = subst (λ (ks : List Key). length ks ≤ most_keys → script (recorded ks) ≡ Ok ks) (sym own) (recorded-read keys.own typed);
    }

-- each of those that were settled
one_sound : (system : Disk) (ss : List SettledSession) (place : ℕ) (d : SettledSession) → AreSound system ss → place < length ss
    → IsPressableBy system ss (get_or ss place d).start (get_or ss place d) × AreBelow80h (get_or ss place d).keys × GivesItsKeysAgain (get_or ss place d)
one_sound system ss place d sound within =
    subst (λ (o : Option SettledSession). IfSome o (λ s. IsPressableBy system ss s.start s × AreBelow80h s.keys × GivesItsKeysAgain s)) (slice_get-get_or ss place d within) (sound place)

pub all_give : (system : Disk) (ss : List SettledSession) → AreSound system ss → All GivesItsKeysAgain ss
all_give system ss sound = λ place d within. (one_sound system ss place d sound within).2

pub all_below : (system : Disk) (ss : List SettledSession) → AreSound system ss → All (λ s. AreBelow80h s.keys) ss
all_below system ss sound = λ place d within. (one_sound system ss place d sound within).1

-- followed by others that come with the fork or later, keys before it are in order
order_forked : (n at : ℕ) (keys own : List Key) → n ≤ at → IsInOrder n keys → IsInOrder at own → IsInOrder n (keys_before at keys ++ own)
order_forked n at [] own less order later = order_from n at own less later
order_forked n at (k ∷ ks) own less order later = by_test (nat_lt k.count at) refl (order_forked k.count at ks own) (order_forked n at ks own)
  where
    by_test : (b : Bool) → nat_lt k.count at ≡ b → (k.count ≤ at → IsInOrder k.count ks → IsInOrder at own → IsInOrder k.count (keys_before at ks ++ own)) → (n ≤ at → IsInOrder n ks → IsInOrder at own → IsInOrder n (keys_before at ks ++ own)) →
        IsInOrder n ((if b then k ∷ keys_before at ks else keys_before at ks) ++ own)
    by_test true e first rest = (order.0, first (grind (arith, nat_tests)) order.1 later)
    by_test false e first rest = let low : n ≤ k.count = order.0 in rest less (order_from n k.count ks low order.1) later

-- the keys of each session are in order
opened_order : (system : Disk) (ss : List SettledSession) (b : StartInput) (s : SettledSession) → IsOpened b → IsPressableBy system ss b s → IsInOrder 0 s.keys
opened_order system ss (Opens cpu quota drives) s opened can = can.0
opened_order system ss (Forks parent at) s opened can = absurd opened
opened_order system ss (Restores x) s opened can = can.0

pressed_order : (system : Disk) (ss : List SettledSession) → AreSound system ss → (b : StartInput) (s : SettledSession) → IsPressableBy system ss b s → IsInOrder 0 s.keys
pressed_order system ss sound (Opens cpu quota drives) s can = can.0
pressed_order system ss sound (Restores x) s can = can.0
pressed_order system ss sound (Forks parent at) s can =
    let there = subst (λ (o : Option SettledSession). IfSome o (λ s. IsPressableBy system ss s.start s × AreBelow80h s.keys × GivesItsKeysAgain s)) can.there (sound parent) in
    subst (λ (ks : List Key). IsInOrder 0 ks) (sym can.keys) (order_forked 0 at can.other.keys can.own (omega arith) (opened_order system ss can.other.start can.other can.opened there.0) can.order)

pub all_ordered : (system : Disk) (ss : List SettledSession) → AreSound system ss → All (λ s. IsInOrder 0 s.keys) ss
all_ordered system ss sound = λ place d within. pressed_order system ss sound (get_or ss place d).start (get_or ss place d) (one_sound system ss place d sound within).0
