-- What a fork leaves of a host and its players.
use Rattle.std.proofs.Common.{◌≡◌, ◌≢◌, ℕ, ◌+◌, ◌<◌, ◌≤◌, nat_le, nat_lt, ◌==◌, ◌||◌, Bool, true, false, Some, None, ◌⊎◌, inl, inr, List, [], ◌∷◌, length, take, set, sum_by, refl, sym, ap, ◌∙◌, subst, arith, slice_get, length-set, length-append, if◌then◌else◌}
use Rattle.std.proofs.lemmas.Bool.Decides.{nat_tests}
use Rattle.std.proofs.lemmas.Option.{none-some, same_Some}
use Rattle.std.proofs.lemmas.List.Sums.{sum_by-cons, sum_by-append}
use Rattle.cpm_geom.specs.Disk.{Disk}
use Rattle.cpm_script.specs.declared.script.Key.{Key}
use Rattle.cpm_slots.specs.declared.event.ForkError.{ForkError}
use Rattle.cpm_slots.specs.declared.event.ForkError.TheVariants as refusal
use Rattle.cpm_slots.specs.Host.{Host, SlotState, slot_at, quotas_of, fork_fault, with_forked, with_added, IsHost}
use Rattle.cpm_slots.proofs.OrderLaws.{has-fork, IsHost-added}
use Rattle.cpm_slots.proofs.SlotLaws.{slot_at-added, slot_at-new}
use Rattle.cpm_machine.specs.MachineState.{MachineState}
use Rattle.cpm_play.specs.declared.pace.Pace.{Pace}
use Rattle.cpm_play.specs.declared.player.Fork.{Fork}
use Rattle.cpm_play.specs.declared.player.Player.{Player}
use Rattle.cpm_play.specs.declared.player.Player.TheVariants.{Playing, Waiting}
use Rattle.cpm_play.specs.declared.scripted_slot.ScriptedSlot.{ScriptedSlot}
use Rattle.cpm_play.specs.Pacing.{forked_pace, IsOn}
use Rattle.cpm_play.specs.Playing.{HaveRoom}
use Rattle.cpm_play.specs.ScriptedSlots.{IsNone, IsPlaying, IsResting, script_keys}
use Rattle.cpm_play.specs.Players.{AllReady, ChangesPlayerAt, HaveBecome, IsForkedFrom, IsPlayerGoing, IsPlayRefusal, IsForkWaiting, StandsAs, fork_pages, forks_of, ids_of, is_fork, pages_of, play_error, quota_of, player_slot, start_at}
use Rattle.cpm_play.proofs.ForkLemmas.{on-fork, on-quota}
use Rattle.cpm_play.proofs.PlaceLemmas.{at-set, at-other, same-at, sum-at, sum-set}
use Rattle.cpm_play.proofs.PlayerLemmas.{HasParent, differ-forked, given-at, going-in, id-below, none-forked, none-from, parent-of, playing-waiting, same-playing, waiting-given}

-- What is known where a session is forked.
pub record IsForking (old h new : Host) (given players : List Player) (place : ℕ) (parent child : ScriptedSlot) (fork : Fork) : Type 0 where
  pub ready : AllReady old.system old.slots given
  pub come : HaveBecome old h given players
  pub waits : slice_get players place ≡ Some (Waiting fork)
  pub plays : slice_get players fork.parent ≡ Some (Playing parent)
  pub forked : IsForkedFrom parent fork child h new

module _ (old h new : Host) (given players : List Player) (place : ℕ) (parent child : ScriptedSlot) (fork : Fork) (k : IsForking old h new given players place parent child fork) where
  abbrev now : List Player
  now = set players place (Playing child)

  source : HasParent old h given fork parent
  source = parent-of old h given players place fork parent k.ready k.come k.waits k.plays

  wait : IsForkWaiting players fork
  wait = (waiting-given old h given players place fork k.ready k.come k.waits).2

  -- the state of the parent's slot
  abbrev state : MachineState
  state = source.going.resting.playing.now

  stands : slot_at parent.id.0 h.slots ≡ Some state
  stands = source.going.resting.playing.stands

  added : new ≡ with_added h state
  added = k.forked.host ∙ ap (with_forked h) stands

  orderly : IsHost new
  orderly = subst IsHost (sym added) (IsHost-added h state (has-fork h state (sym (ap (fork_fault h) stands) ∙ k.forked.accepted)) k.come.orderly)

  -- the slots that were there
  stays : (id : ℕ) → id < h.openings → slot_at id new.slots ≡ slot_at id h.slots
  stays id less = ap (λ (g : Host). slot_at id g.slots) added ∙ slot_at-added id (record { id = h.openings; state = state }) h.slots less

  -- the new one
  fresh : slot_at child.id.0 new.slots ≡ Some state
  fresh = ap (λ n. slot_at n new.slots) k.forked.id ∙ ap (λ (g : Host). slot_at h.openings g.slots) added ∙ slot_at-new h.openings state h.slots k.come.orderly.below

  system : new.system ≡ h.system
  system = ap (λ (g : Host). g.system) added

  -- the parent among the players is this one
  same-parent : wait.parent ≡ parent
  same-parent = same-playing wait.parent parent (same-at (slice_get players fork.parent) (Playing wait.parent) (Playing parent) wait.plays k.plays)

  resting : IsResting fork.steps source.going.start child new
  resting =
      let steps = source.going.resting.playing in
      let early : parent.pace.done ≤ fork.at = subst (λ (s : ScriptedSlot). s.pace.done ≤ fork.at) same-parent wait.done in
      let before = subst (λ (s : ScriptedSlot). Rattle.cpm_play.specs.Players.AllBefore fork.at (take s.pace.pressed (script_keys s))) same-parent wait.early in
      let ready = (waiting-given old h given players place fork k.ready k.come k.waits).1 in
      let on = on-fork h.system (script_keys parent) source.own _ fork.at fork.steps source.going.start parent.pace parent.console.items parent.list.items state before early ready.within source.order steps.on in
      let keyed : IsOn h.system (script_keys child) fork.steps source.going.start (forked_pace parent.pace fork.steps) parent.console.items parent.list.items state =
      subst (λ (ks : List Key). IsOn h.system ks fork.steps source.going.start (forked_pace parent.pace fork.steps) parent.console.items parent.list.items state) (sym (k.forked.keys ∙ source.keys)) on in
      let paced = subst (λ (x : Pace). IsOn h.system (script_keys child) fork.steps source.going.start x parent.console.items parent.list.items state) (sym k.forked.pace) keyed in
      let shown = subst (λ (xs : List ℕ). IsOn h.system (script_keys child) fork.steps source.going.start child.pace xs parent.list.items state) (sym k.forked.console) paced in
      let listed = subst (λ (xs : List ℕ). IsOn h.system (script_keys child) fork.steps source.going.start child.pace child.console.items xs state) (sym k.forked.list) shown in
      let playing : IsPlaying fork.steps source.going.start child new = record {
        now = state;
        stands = fresh;
        room = subst (λ (ks : List Key). HaveRoom new.system source.going.start ks) (sym k.forked.keys)
            (subst (λ (d : Disk). HaveRoom d source.going.start fork.keys.items) (sym (system ∙ k.come.rest.system)) source.room);
        on = subst (λ (d : Disk). IsOn d (script_keys child) fork.steps source.going.start child.pace child.console.items child.list.items state) (sym system) listed;
      } in
      record { playing = playing; quiet = source.going.resting.quiet }

  started : start_at old.slots given (Waiting fork) ≡ Some source.going.start
  started = ap (player_slot old.slots) source.given_so ∙ source.going.started

  child-goes : IsPlayerGoing old.slots given new (Waiting fork) child
  child-goes = record { start = source.going.start; started = started; keys = k.forked.keys; resting = resting }

  -- one that waits at another place
  waiting-on : (other : Fork) → IsForkWaiting players other → IsForkWaiting now other
  waiting-on other w = record {
    parent = w.parent;
    plays = at-other players place other.parent (Playing child) (λ e. playing-waiting w.parent fork (same-at (slice_get players place) (Playing w.parent) (Waiting fork) (ap (slice_get players) (sym e) ∙ w.plays) k.waits)) ∙ w.plays;
    done = w.done;
    early = w.early;
  }

  other-stands : (p q : Player) → StandsAs old.slots given players h p q → StandsAs old.slots given now new p q
  other-stands p (Playing slot) going = going-in old.slots given p slot h new system (stays slot.id.0 (id-below h _ going.start slot k.come.orderly going.resting)) going
  other-stands p (Waiting f) s = (s.0, waiting-on f s.1)

  each : (i : ℕ) (p q : Player) → slice_get given i ≡ Some p → slice_get now i ≡ Some q → StandsAs old.slots given now new p q
  each i p q at qt = by_test (i == place) refl
    where
      here : i ≡ place → StandsAs old.slots given now new p q
      here e =
          let there = waiting-given old h given players place fork k.ready k.come k.waits in
          let first : p ≡ Waiting fork = same-at (slice_get given place) p (Waiting fork) (ap (slice_get given) (sym e) ∙ at) there.0 in
          let second : q ≡ Playing child = same-at (slice_get now place) q (Playing child) (ap (slice_get now) (sym e) ∙ qt) (at-set players place (Waiting fork) (Playing child) k.waits) in
          subst (λ (x : Player). StandsAs old.slots given now new x q) (sym first) (subst (λ (x : Player). StandsAs old.slots given now new (Waiting fork) x) (sym second) child-goes)

      by_test : (b : Bool) → (i == place) ≡ b → StandsAs old.slots given now new p q
      by_test true e = here (grind (arith, nat_tests))
      by_test false e =
          let ne : i ≢ place = λ same. (let no : ⊥ = grind (arith, nat_tests) in no) in
          other-stands p q (k.come.each i p q at (sym (at-other players place i (Playing child) ne) ∙ qt))

  -- no player has its number
  none-child : IsNone child.id.0 (ids_of players)
  none-child = none-from child.id.0 players (λ i slot at e.
      let there = given-at old h given players i (Playing slot) k.come at in
      let below = id-below h _ there.2.start slot k.come.orderly there.2.resting in
      let number = k.forked.id in
      let no : ⊥ = omega (arith, below, number, e) in no)

  came : (id : ℕ) → id < old.openings → IsNone id (ids_of given) → IsNone id (ids_of now)
  came id less none =
      let later = k.come.later in
      let number = k.forked.id in
      none-forked id place players fork child k.waits (λ e. (let no : ⊥ = omega (arith, later, number, less, e) in no)) (k.come.came id less none)

  quota : state.quota ≡ source.going.start.quota
  quota = let playing = source.going.resting.playing in on-quota h.system (script_keys parent) _ source.going.start parent.pace parent.console.items parent.list.items state playing.on

  pages : pages_of old.slots given (Waiting fork) ≡ state.quota
  pages = ap quota_of started ∙ sym quota

  pub come-fork : HaveBecome old new given (set players place (Playing child))
  come-fork =
      let slots = k.come.slots in
      let numbers = k.come.numbers in
      let quotas = k.come.pages in
      let later = k.come.later in
      let number = k.forked.number in
      let forks = sum-set is_fork players place (Waiting fork) (Playing child) k.waits in
      let sums = sum-set (pages_of old.slots given) players place (Waiting fork) (Playing child) k.waits in
      let wanted = pages in
      let opened : new.openings ≡ h.openings + 1 = ap (λ (g : Host). g.openings) added in
      let longer : length new.slots ≡ length h.slots + 1 = ap (λ (g : Host). length g.slots) added ∙ length-append h.slots (record { id = h.openings; state = state } ∷ []) in
      let whole = ap (λ (g : Host). quotas_of g.slots) added ∙ sum_by-append (λ (x : SlotState). x.state.quota) h.slots (record { id = h.openings; state = state } ∷ []) in
      let one = sum_by-cons (λ (x : SlotState). x.state.quota) (record { id = h.openings; state = state }) [] in
      let more : quotas_of new.slots ≡ quotas_of h.slots + state.quota = omega (arith, whole, one) in
      record {
        long = length-set players place (Playing child) ∙ k.come.long;
        each = each;
        differ = differ-forked place players fork child k.waits none-child k.come.differ;
        rest = record {
          system = system ∙ k.come.rest.system;
          frames = ap (λ (g : Host). g.frames) added ∙ k.come.rest.frames;
          others = λ id less none. stays id (omega (arith, less, later)) ∙ k.come.rest.others id less none;
        };
        orderly = orderly;
        later = omega arith;
        counted = inr (omega (arith, opened, number));
        came = came;
        slots = omega (arith, slots, forks, longer);
        numbers = omega (arith, numbers, forks, opened);
        pages = omega (arith, quotas, sums, wanted, more);
      }

-- ---- a fork that is refused

-- a fork lacks a slot or frames, and so do all forks together
pub lack : (old h : Host) (given players : List Player) (place : ℕ) (parent : ScriptedSlot) (fork : Fork) (fault : ForkError) → AllReady old.system old.slots given → HaveBecome old h given players →
    slice_get players place ≡ Some (Waiting fork) → slice_get players fork.parent ≡ Some (Playing parent) → fork_fault h (slot_at parent.id.0 h.slots) ≡ Some fault → IsPlayRefusal old given (play_error place fault)
lack old h given players place parent fork fault ready come waits plays refused =
    by_tests (nat_le 64 (length h.slots)) (h.openings == 18446744073709551615) (nat_lt h.frames (quotas_of h.slots + state.quota)) refl refl refl (sym (ap (fork_fault h) going.resting.playing.stands) ∙ refused)
  where
    source : HasParent old h given fork parent
    source = parent-of old h given players place fork parent ready come waits plays

    going : IsPlayerGoing old.slots given h (Playing source.first) parent
    going = source.going

    state : MachineState
    state = going.resting.playing.now

    there : (x : Fork) × (slice_get given place ≡ Some (Waiting x))
    there = (fork, (waiting-given old h given players place fork ready come waits).0)

    pages : pages_of old.slots given (Waiting fork) ≡ state.quota
    pages =
        let playing = going.resting.playing in
        ap quota_of (ap (player_slot old.slots) source.given_so ∙ going.started)
        ∙ sym (on-quota h.system (script_keys parent) _ going.start parent.pace parent.console.items parent.list.items state playing.on)

    slots : length h.slots + forks_of players ≡ length old.slots + forks_of given
    slots = come.slots

    numbers : h.openings + forks_of players ≡ old.openings + forks_of given
    numbers = come.numbers

    sums : quotas_of h.slots + sum_by (pages_of old.slots given) players ≡ quotas_of old.slots + fork_pages old.slots given
    sums = come.pages

    one : 1 ≤ forks_of players
    one = sum-at is_fork players place (Waiting fork) waits

    some : pages_of old.slots given (Waiting fork) ≤ sum_by (pages_of old.slots given) players
    some = sum-at (pages_of old.slots given) players place (Waiting fork) waits

    frames : h.frames ≡ old.frames
    frames = come.rest.frames

    by_tests : (a b c : Bool) → nat_le 64 (length h.slots) ≡ a → (h.openings == 18446744073709551615) ≡ b → nat_lt h.frames (quotas_of h.slots + state.quota) ≡ c →
        (if a || b then Some refusal.NoSlot else if c then Some refusal.NoFrames else None) ≡ Some fault → IsPlayRefusal old given (play_error place fault)
    by_tests true b c e f g r =
        let is = same_Some refusal.NoSlot fault r in
        let full : 64 ≤ length h.slots = grind (arith, nat_tests) in
        let x = slots in let y = one in
        subst (λ (z : ForkError). IsPlayRefusal old given (play_error place z)) is (there, inl (omega (arith, full, x, y)))
    by_tests false true c e f g r =
        let is = same_Some refusal.NoSlot fault r in
        let last : h.openings ≡ 18446744073709551615 = grind (arith, nat_tests) in
        let x = numbers in let y = one in
        subst (λ (z : ForkError). IsPlayRefusal old given (play_error place z)) is (there, inr (omega (arith, last, x, y)))
    by_tests false false true e f g r =
        let is = same_Some refusal.NoFrames fault r in
        let less : h.frames < quotas_of h.slots + state.quota = grind (arith, nat_tests) in
        let x = sums in let y = some in let z = pages in let w = frames in
        subst (λ (v : ForkError). IsPlayRefusal old given (play_error place v)) is (there, omega (arith, less, x, y, z, w))
    by_tests false false false e f g r = absurd (none-some fault r)

pub refused-fork : (old h : Host) (given players : List Player) (place : ℕ) (parent : ScriptedSlot) (fork : Fork) (fault : ForkError) → AllReady old.system old.slots given → HaveBecome old h given players →
    slice_get players place ≡ Some (Waiting fork) → slice_get players fork.parent ≡ Some (Playing parent) → (fault ≡ refusal.OutOfMemory) ⊎ (fork_fault h (slot_at parent.id.0 h.slots) ≡ Some fault) → IsPlayRefusal old given (play_error place fault)
refused-fork old h given players place parent fork fault ready come waits plays (inl memory) = subst (λ (z : ForkError). IsPlayRefusal old given (play_error place z)) (sym memory) tt
refused-fork old h given players place parent fork fault ready come waits plays (inr refused) = lack old h given players place parent fork fault ready come waits plays refused

-- ---- the players

pub changes-fork : (players : List Player) (place : ℕ) (fork : Fork) (child : ScriptedSlot) → slice_get players place ≡ Some (Waiting fork) → ChangesPlayerAt place players (set players place (Playing child))
changes-fork players place fork child waits = record {
  keeps = record {
    long = length-set players place (Playing child);
    playing = λ i slot at. at-other players place i (Playing child) (λ e. playing-waiting slot fork (same-at (slice_get players place) (Playing slot) (Waiting fork) (ap (slice_get players) (sym e) ∙ at) waits)) ∙ at;
  };
  others = λ i ne. at-other players place i (Playing child) ne;
}
