-- The players of a host, and what a fork or a turn leaves of them.
use Rattle.std.proofs.Common.{◌≡◌, ◌≢◌, ℕ, zero, suc, ◌<◌, ◌≤◌, Option, Some, ◌⊎◌, inl, inr, ⊎_elim, List, [], ◌∷◌, ◌++◌, set, refl, sym, ap, ◌∙◌, subst, arith, slice_get}
use Rattle.std.specs.Prelude.{IfSome}
use Rattle.std.proofs.lemmas.Option.{none-some, same_Some}
use Rattle.cpm_geom.specs.Disk.{Disk}
use Rattle.cpm_script.specs.declared.script.Key.{Key}
use Rattle.cpm_script.specs.Fork.{keys_before}
use Rattle.cpm_slots.specs.declared.event.SlotId.{SlotId}
use Rattle.cpm_slots.specs.Host.{Host, SlotState, slot_at, IsHost}
use Rattle.cpm_slots.proofs.SlotLaws.{slot_at-past}
use Rattle.cpm_machine.specs.MachineState.{MachineState}
use Rattle.cpm_play.specs.declared.player.Fork.{Fork}
use Rattle.cpm_play.specs.declared.player.Player.{Player}
use Rattle.cpm_play.specs.declared.player.Player.TheVariants.{Playing, Waiting}
use Rattle.cpm_play.specs.declared.scripted_slot.ScriptedSlot.{ScriptedSlot}
use Rattle.cpm_play.specs.Pacing.{IsOn}
use Rattle.cpm_play.specs.Playing.{HaveRoom, IsInOrder}
use Rattle.cpm_play.specs.ScriptedSlots.{IsNone, IsPlaying, IsResting, script_keys}
use Rattle.cpm_play.specs.Players.{AllDiffer, AllReady, HaveBecome, IsForkReady, IsPlayerGoing, IsPlayerReady, IsForkWaiting, StandsAs, ids_of, player_steps}
use Rattle.cpm_play.proofs.PlaceLemmas.{within-at, some-at, same-at}

-- ---- kinds of players

pub playing-waiting : (slot : ScriptedSlot) (fork : Fork) → Playing slot ≡ Waiting fork → ⊥
playing-waiting slot fork e = cc

pub same-playing : (a b : ScriptedSlot) → Playing a ≡ Playing b → a ≡ b
same-playing a b e = cc

-- ---- the numbers of the slots

-- the number of a player is none of others'
pub none-at : (id i : ℕ) (players : List Player) (slot : ScriptedSlot) → IsNone id (ids_of players) → slice_get players i ≡ Some (Playing slot) → slot.id.0 ≢ id
none-at id i [] slot none at = absurd (none-some (Playing slot) at)
none-at id zero (Playing x ∷ xs) slot none at = λ e. none.0 (ap (λ (s : ScriptedSlot). s.id.0) (same-playing x slot (same_Some (Playing x) (Playing slot) at)) ∙ e)
none-at id zero (Waiting f ∷ xs) slot none at = absurd (playing-waiting slot f (sym (same_Some (Waiting f) (Playing slot) at)))
none-at id (suc i) (Playing x ∷ xs) slot none at = none-at id i xs slot none.1 at
none-at id (suc i) (Waiting f ∷ xs) slot none at = none-at id i xs slot none at

-- a number that no player has
pub none-from : (id : ℕ) (players : List Player) → ((i : ℕ) (slot : ScriptedSlot) → slice_get players i ≡ Some (Playing slot) → slot.id.0 ≢ id) → IsNone id (ids_of players)
none-from id [] each = tt
none-from id (Playing x ∷ xs) each = (each 0 x refl, none-from id xs (λ i slot at. each (suc i) slot at))
none-from id (Waiting f ∷ xs) each = none-from id xs (λ i slot at. each (suc i) slot at)

-- players at different places have different numbers
pub apart-at : (i j : ℕ) (players : List Player) (a b : ScriptedSlot) → AllDiffer players → i ≢ j → slice_get players i ≡ Some (Playing a) → slice_get players j ≡ Some (Playing b) → a.id.0 ≢ b.id.0
apart-at i j [] a b differ ne at bt = absurd (none-some (Playing a) at)
apart-at zero zero (x ∷ xs) a b differ ne at bt = absurd (ne refl)
apart-at zero (suc j) (Playing x ∷ xs) a b differ ne at bt =
    let same = ap (λ (s : ScriptedSlot). s.id.0) (same-playing x a (same_Some (Playing x) (Playing a) at)) in
    λ e. none-at x.id.0 j xs b differ.0 bt (sym (same ∙ e))
apart-at zero (suc j) (Waiting f ∷ xs) a b differ ne at bt = absurd (playing-waiting a f (sym (same_Some (Waiting f) (Playing a) at)))
apart-at (suc i) zero (Playing x ∷ xs) a b differ ne at bt =
    let same = ap (λ (s : ScriptedSlot). s.id.0) (same-playing x b (same_Some (Playing x) (Playing b) bt)) in
    λ e. none-at x.id.0 i xs a differ.0 at (e ∙ sym same)
apart-at (suc i) zero (Waiting f ∷ xs) a b differ ne at bt = absurd (playing-waiting b f (sym (same_Some (Waiting f) (Playing b) bt)))
apart-at (suc i) (suc j) (Playing x ∷ xs) a b differ ne at bt = apart-at i j xs a b differ.1 (λ e. ne (ap suc e)) at bt
apart-at (suc i) (suc j) (Waiting f ∷ xs) a b differ ne at bt = apart-at i j xs a b differ (λ e. ne (ap suc e)) at bt

-- one that waited is played under a number of its own
pub none-forked : (id i : ℕ) (players : List Player) (fork : Fork) (child : ScriptedSlot) → slice_get players i ≡ Some (Waiting fork) → child.id.0 ≢ id → IsNone id (ids_of players) → IsNone id (ids_of (set players i (Playing child)))
none-forked id i [] fork child at ne none = absurd (none-some (Waiting fork) at)
none-forked id zero (Playing x ∷ xs) fork child at ne none = absurd (playing-waiting x fork (same_Some (Playing x) (Waiting fork) at))
none-forked id zero (Waiting f ∷ xs) fork child at ne none = (ne, none)
none-forked id (suc i) (Playing x ∷ xs) fork child at ne none = (none.0, none-forked id i xs fork child at ne none.1)
none-forked id (suc i) (Waiting f ∷ xs) fork child at ne none = none-forked id i xs fork child at ne none

pub differ-forked : (i : ℕ) (players : List Player) (fork : Fork) (child : ScriptedSlot) → slice_get players i ≡ Some (Waiting fork) → IsNone child.id.0 (ids_of players) → AllDiffer players → AllDiffer (set players i (Playing child))
differ-forked i [] fork child at none differ = absurd (none-some (Waiting fork) at)
differ-forked zero (Playing x ∷ xs) fork child at none differ = absurd (playing-waiting x fork (same_Some (Playing x) (Waiting fork) at))
differ-forked zero (Waiting f ∷ xs) fork child at none differ = (none, differ)
differ-forked (suc i) (Playing x ∷ xs) fork child at none differ = (none-forked x.id.0 i xs fork child at (λ e. none.0 (sym e)) differ.0, differ-forked i xs fork child at none.1 differ.1)
differ-forked (suc i) (Waiting f ∷ xs) fork child at none differ = differ-forked i xs fork child at none differ

-- one that keeps its number leaves the numbers
pub ids-kept : (i : ℕ) (players : List Player) (a b : ScriptedSlot) → slice_get players i ≡ Some (Playing a) → b.id ≡ a.id → ids_of (set players i (Playing b)) ≡ ids_of players
ids-kept i [] a b at same = absurd (none-some (Playing a) at)
ids-kept zero (Playing x ∷ xs) a b at same =
    ap (λ n. n ∷ ids_of xs) (ap (λ (n : SlotId). n.0) same ∙ sym (ap (λ (s : ScriptedSlot). s.id.0) (same-playing x a (same_Some (Playing x) (Playing a) at))))
ids-kept zero (Waiting f ∷ xs) a b at same = absurd (playing-waiting a f (sym (same_Some (Waiting f) (Playing a) at)))
ids-kept (suc i) (Playing x ∷ xs) a b at same = ap (λ ns. x.id.0 ∷ ns) (ids-kept i xs a b at same)
ids-kept (suc i) (Waiting f ∷ xs) a b at same = ids-kept i xs a b at same

-- ---- a session that rests, in another host

unfoldable pub playing-in : (steps : ℕ) (start : MachineState) (slot : ScriptedSlot) (old new : Host) → new.system ≡ old.system → slot_at slot.id.0 new.slots ≡ slot_at slot.id.0 old.slots → IsPlaying steps start slot old → IsPlaying steps start slot new
playing-in steps start slot old new system same playing = record {
  now = playing.now;
  stands = same ∙ playing.stands;
  room = subst (λ (d : Disk). HaveRoom d start (script_keys slot)) (sym system) playing.room;
  on = subst (λ (d : Disk). IsOn d (script_keys slot) steps start slot.pace slot.console.items slot.list.items playing.now) (sym system) playing.on;
}

resting-in : (steps : ℕ) (start : MachineState) (slot : ScriptedSlot) (old new : Host) → new.system ≡ old.system → slot_at slot.id.0 new.slots ≡ slot_at slot.id.0 old.slots → IsResting steps start slot old → IsResting steps start slot new
unfolding playing-in
resting-in steps start slot old new system same resting = record { playing = playing-in steps start slot old new system same resting.playing; quiet = resting.quiet }

-- one that is open has a number that was given
pub id-below : (h : Host) (steps : ℕ) (start : MachineState) (slot : ScriptedSlot) → IsHost h → IsResting steps start slot h → slot.id.0 < h.openings
id-below h steps start slot host resting = ⊎_elim (λ less. less) (λ past. absurd (none-some resting.playing.now (sym (slot_at-past h.openings slot.id.0 h.slots host.below past) ∙ resting.playing.stands))) (less-or slot.id.0 h.openings)
  where
    less-or : (a b : ℕ) → (a < b) ⊎ (b ≤ a)
    less-or zero zero = inr (omega arith)
    less-or zero (suc b) = inl (omega arith)
    less-or (suc a) zero = inr (omega arith)
    less-or (suc a) (suc b) = ⊎_elim (λ l. inl (omega (arith, l))) (λ g. inr (omega (arith, g))) (less-or a b)

pub going-in : (slots : List SlotState) (given : List Player) (p : Player) (slot : ScriptedSlot) (old new : Host) → new.system ≡ old.system → slot_at slot.id.0 new.slots ≡ slot_at slot.id.0 old.slots → IsPlayerGoing slots given old p slot → IsPlayerGoing slots given new p slot
going-in slots given p slot old new system same going = record {
  start = going.start;
  started = going.started;
  keys = going.keys;
  resting = resting-in (player_steps p) going.start slot old new system same going.resting;
}

-- ---- a fork

-- the player at a place, as it was given
pub given-at : (old h : Host) (given players : List Player) (place : ℕ) (q : Player) → HaveBecome old h given players → slice_get players place ≡ Some q → (p : Player) × (slice_get given place ≡ Some p) × StandsAs old.slots given players h p q
given-at old h given players place q come at =
    let within = within-at players place q at in
    let there = some-at given place (subst (λ n. place < n) come.long within) in
    (there.0, there.1, come.each place there.0 q there.1 at)

-- a player that waits is as it was given, and ready
pub waiting-given : (old h : Host) (given players : List Player) (place : ℕ) (fork : Fork) → AllReady old.system old.slots given → HaveBecome old h given players → slice_get players place ≡ Some (Waiting fork) →
    (slice_get given place ≡ Some (Waiting fork)) × IsForkReady old.system old.slots given fork × IsForkWaiting players fork
waiting-given old h given players place fork ready come at =
    let there = given-at old h given players place (Waiting fork) come at in
    let same : there.0 ≡ Waiting fork = there.2.0 in
    let given_so : slice_get given place ≡ Some (Waiting fork) = there.1 ∙ ap Some same in
    (given_so, subst (λ (o : Option Player). IfSome o (IsPlayerReady old.system old.slots given)) given_so (ready place), there.2.1)

-- the parent of one that waits
pub record HasParent (old h : Host) (given : List Player) (fork : Fork) (parent : ScriptedSlot) : Type 0 where
  pub first : ScriptedSlot
  pub given_so : slice_get given fork.parent ≡ Some (Playing first)
  pub going : IsPlayerGoing old.slots given h (Playing first) parent
  pub own : List Key
  pub keys : fork.keys.items ≡ keys_before fork.at (script_keys parent) ++ own
  pub order : IsInOrder fork.at own
  pub room : HaveRoom old.system going.start fork.keys.items

pub parent-of : (old h : Host) (given players : List Player) (place : ℕ) (fork : Fork) (parent : ScriptedSlot) → AllReady old.system old.slots given → HaveBecome old h given players →
    slice_get players place ≡ Some (Waiting fork) → slice_get players fork.parent ≡ Some (Playing parent) → HasParent old h given fork parent
parent-of old h given players place fork parent ready come at plays =
    let fork_ready = (waiting-given old h given players place fork ready come at).1 in
    let there = given-at old h given players fork.parent (Playing parent) come plays in
    let same : there.0 ≡ Playing fork_ready.parent = same-at (slice_get given fork.parent) there.0 (Playing fork_ready.parent) there.1 fork_ready.plays in
    let going : IsPlayerGoing old.slots given h (Playing fork_ready.parent) parent = subst (λ (p : Player). IsPlayerGoing old.slots given h p parent) same there.2 in
    record {
      first = fork_ready.parent;
      given_so = fork_ready.plays;
      going = going;
      own = fork_ready.own;
      keys = fork_ready.keys ∙ ap (λ (ks : List Key). keys_before fork.at ks ++ fork_ready.own) (sym going.keys);
      order = fork_ready.order;
      room = subst (λ (s : MachineState). HaveRoom old.system s fork.keys.items)
          (same-at (slot_at fork_ready.parent.id.0 old.slots) fork_ready.start going.start fork_ready.opened going.started) fork_ready.room;
    }
