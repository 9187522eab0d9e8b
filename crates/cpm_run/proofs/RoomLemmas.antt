-- Keys that find room where they come.
use Rattle.std.proofs.Common.{◌≡◌, ◌∙◌, ◌≤◌, ◌+◌, ◌⊎◌, ⊎_elim, inl, inr, ℕ, zero, suc, false, List, [], ◌∷◌, ◌++◌, length, map, drop, refl, sym, ap, subst, arith, append-nil, append_assoc}
use Rattle.std.specs.Prelude.{max}
use Rattle.std.proofs.Math.Nat.{le-max_left, le-max_right, max-le}
use Rattle.std.proofs.lemmas.List.{drop_at, length-append}
use Rattle.cpm_geom.specs.Disk.{Disk}
use Rattle.cpm_machine.specs.MachineState.{MachineState}
use Rattle.cpm_play.specs.Cued.{IsCuedFrom, screen_at}
use Rattle.cpm_play.specs.Playing.{HaveRoom, HaveRoomAfter, IsInOrder}
use Rattle.cpm_play.proofs.RoomLemmas.{few-room}
use Rattle.cpm_script.specs.Cues.{cue_text}
use Rattle.cpm_script.specs.Fork.{keys_before}
use Rattle.cpm_script.specs.Laws.{AreFrom, CountsRise, PressesFollow}
use Rattle.cpm_script.specs.Script.{most_keys}
use Rattle.cpm_script.specs.declared.cue.Cue.{Cue}
use Rattle.cpm_script.specs.declared.cue.Cue.TheVariants.{Key as Timed}
use Rattle.cpm_script.specs.declared.script.Key.{Key}
use Rattle.cpm_script.proofs.ForkLemmas.{keys_before-cut}
use Rattle.cpm_run.proofs.OrderLemmas.{own_from}

-- ---- the first of some keys

first_after : (system : Disk) (start : MachineState) (given first rest : List Key) → HaveRoomAfter system start given (first ++ rest) → HaveRoomAfter system start given first
first_after system start given [] rest room = tt
first_after system start given (k ∷ first) rest room = (room.0, first_after system start (given ++ k ∷ []) first rest room.1)

from_order : (n : ℕ) (keys : List Key) → IsInOrder n keys → AreFrom n keys
from_order n [] order = tt
from_order n (k ∷ keys) order = (order.0, from_order k.count keys order.1)

order_of : (n : ℕ) (keys : List Key) → AreFrom n keys → IsInOrder n keys
order_of n [] order = tt
order_of n (k ∷ keys) order = (order.0, order_of k.count keys order.1)

-- those before a fork are in order where all are, and find room where all do
pub before_ordered : (at : ℕ) (keys : List Key) → IsInOrder 0 keys → IsInOrder 0 (keys_before at keys)
before_ordered at keys order = order_of 0 (keys_before at keys) (keys_before-cut 0 at keys (from_order 0 keys order)).in_order

pub before_room : (system : Disk) (start : MachineState) (at : ℕ) (keys : List Key) → IsInOrder 0 keys → HaveRoom system start keys → HaveRoom system start (keys_before at keys)
before_room system start at keys order room =
    let cut = keys_before-cut 0 at keys (from_order 0 keys order) in
    first_after system start [] (keys_before at keys) cut.rest (subst (HaveRoom system start) cut.joined room)

-- ---- few keys

pub few_joined : (system : Disk) (start : MachineState) (before own keys : List Key) → keys ≡ before ++ own → length start.session.console.keys + length before + length own ≤ most_keys → HaveRoom system start keys
few_joined system start before own keys joined few =
    let long = length-append before own in
    let all = ap (λ (ks : List Key). length ks) joined in
    few-room system start keys (omega (arith, few, long, all))

-- ---- keys that came after those from before

-- all of these came first, or no more than they are came at all
abbrev CameAfter : (given before keys : List Key) → Type 0
CameAfter given before keys = ((more : List Key) × (keys ≡ given ++ (before ++ more))) ⊎ (length keys ≤ length given + length before)

module _ (system : Disk) (start : MachineState) (steps at : ℕ) where
  came_after : (before given : List Key) (from mark : ℕ) (own : List Cue) (keys : List Key) → IsInOrder from before → CountsRise at (map cue_text own) → PressesFollow false (map cue_text own)
      → IsCuedFrom system start steps steps at given from mark (map Timed before ++ own) keys → CameAfter given before keys
  came_after [] given from mark own keys order rise follow h = let r = own_from system start steps at [] given from mark own keys rise follow h in inl (r.0, r.1)
  came_after (k ∷ before) given from mark own keys order rise follow h =
      ⊎_elim (λ comes.
      let count = max from k.count in
      let key : Key = record { count = count; byte = k.byte } in
      let low = order.0 in
      let least = le-max_right from k.count in
      let most : max from k.count ≤ k.count = max-le low (omega arith) in
      let same : count ≡ k.count = omega (arith, least, most) in
      let this : key ≡ k = ap (λ (n : ℕ). record { count = n; byte = k.byte }) same in
      let rest = subst (λ (n : ℕ). IsInOrder n before) (sym same) order.1 in
      let r = came_after before (given ++ key ∷ []) count (length (screen_at system start given count)) own keys rest rise follow comes.1 in
      ⊎_elim (λ all. inl (all.0, all.1 ∙ append_assoc given (key ∷ []) (before ++ all.0) ∙ ap (λ (x : Key). given ++ (x ∷ (before ++ all.0))) this))
      (λ few. let long = length-append given (key ∷ []) in inr (omega (arith, few, long))) r)
      (λ none. let few = ap (λ (ks : List Key). length ks) none.1 in inr (omega (arith, few))) h

dropped_all : (n : ℕ) (keys : List Key) → length keys ≤ n → drop n keys ≡ []
dropped_all zero [] few = refl
dropped_all (suc n) [] few = refl
dropped_all zero (k ∷ keys) few = absurd (omega (arith, few))
dropped_all (suc n) (k ∷ keys) few = dropped_all n keys (omega (arith, few))

-- those from before with what came after them
pub came_room : (system : Disk) (start : MachineState) (steps at : ℕ) (before came keys : List Key) (own cues : List Cue) → IsInOrder 0 before → HaveRoom system start before
    → CountsRise at (map cue_text own) → PressesFollow false (map cue_text own) → cues ≡ map Timed before ++ own → IsCuedFrom system start steps steps at [] 0 0 cues came
    → HaveRoom system start came → keys ≡ before ++ drop (length before) came → HaveRoom system start keys
came_room system start steps at before came keys own cues order room rise follow are cued all joined =
    let h = came_after system start steps at before [] 0 0 own came order rise follow (subst (λ (cs : List Cue). IsCuedFrom system start steps steps at [] 0 0 cs came) are cued) in
    ⊎_elim (λ came_all.
    let rest : drop (length before) came ≡ came_all.0 = ap (drop (length before)) came_all.1 ∙ drop_at before came_all.0 (length before) refl in
    let same : keys ≡ came = joined ∙ ap (λ (ks : List Key). before ++ ks) rest ∙ sym came_all.1 in
    subst (HaveRoom system start) (sym same) all)
    (λ few.
    let none : drop (length before) came ≡ [] = dropped_all (length before) came (omega (arith, few)) in
    let same : keys ≡ before = joined ∙ ap (λ (ks : List Key). before ++ ks) none ∙ append-nil before in
    subst (HaveRoom system start) (sym same) room) h
