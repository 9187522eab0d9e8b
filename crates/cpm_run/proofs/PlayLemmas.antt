-- The players of sessions, before and after they are played.
use Rattle.std.proofs.Common.{◌≡◌, ◌≢◌, ◌∙◌, ℕ, zero, suc, List, [], ◌∷◌, ◌++◌, Option, Some, None, length, ap, subst, sym, refl, arith, slice_get, sum_by, IfSome}
use Rattle.std.specs.Prelude.{option_map}
use Rattle.std.proofs.lemmas.Option.{slice_get-map}
use Rattle.std.proofs.lemmas.List.Sums.{sum_by-cons}
use Rattle.cpm_batch.specs.Inputs.{Forks, IsOpened, Opens, Restores, StartInput}
use Rattle.cpm_geom.specs.Disk.{Disk}
use Rattle.cpm_script.specs.Fork.{keys_before}
use Rattle.cpm_script.specs.declared.script.Key.{Key}
use Rattle.cpm_slots.specs.Host.{Host, SlotState, slot_at}
use Rattle.cpm_machine.specs.MachineState.{MachineState, opened_machine}
use Rattle.cpm_machine.specs.declared.opening.OpenError.{OpenError}
use Rattle.cpm_machine.specs.declared.opening.OpenError.TheVariants as fault
use Rattle.cpm_play.specs.Players.{AllReady, HasPlayed, HasRoomForForks, IsForkReady, IsPlayRefusal, IsPlayerReady, fork_pages, forks_of, is_fork, pages_of, player_keys, player_steps, quota_of, player_slot, start_at}
use Rattle.cpm_play.specs.Playing.{HaveRoom, IsInOrder, IsPlayed}
use Rattle.cpm_play.specs.ScriptedSlots.{IsReady, script_keys}
use Rattle.cpm_play.specs.declared.player.Fork.{Fork}
use Rattle.cpm_play.specs.declared.player.Player.{Player}
use Rattle.cpm_play.specs.declared.player.Player.TheVariants.{Playing, Waiting}
use Rattle.cpm_play.specs.declared.scripted_slot.ScriptedSlot.{ScriptedSlot}
use Rattle.cpm_config.specs.declared.config.SessionConfig.{SessionConfig}
use Rattle.cpm_play.specs.declared.error.PlayError.TheVariants.{ForkRefused}
use Rattle.cpm_slots.specs.declared.event.ForkError.{ForkError}
use Rattle.cpm_slots.specs.declared.event.ForkError.TheVariants as fork
use Rattle.cpm_run.specs.Playing.{AllEnded, HasEnded, HasPlayer, HasPlayerBy, HasSlot, HavePlayers, IsForkFor, IsForkRefused, IsForksRefusal, IsRefusedAmong, IsRefusedByName, IsSlotRefusal}
use Rattle.cpm_run.specs.Pressable.{ArePressable, IsForkPressable, IsPressableBy}
use Rattle.cpm_run.specs.Run.{HasForkRoom, IsForkAt, IsShortFor, IsShownAs, fork_of, fork_pages_in, forks_in, name_at, pages_by}
use Rattle.cpm_run.specs.declared.error.RunError.{RunError}
use Rattle.cpm_run.specs.declared.error.RunError.TheVariants as refusal
use Rattle.cpm_run.specs.declared.error.StartFault.TheVariants.{Unopened}
use Rattle.cpm_run.specs.Settled.{SettledSession, opening_at, opening_of, start_by, starts_of}

-- ---- the session of a player, and the slot of a session

-- the session at a place, whose player this is
record IsSessionOf (slots : List SlotState) (is : List SettledSession) (place : ℕ) (p : Player) : Type 0 where
  input : SettledSession
  there : slice_get is place ≡ Some input
  has : HasPlayer slots input p

session_at : (slots : List SlotState) (is : List SettledSession) (ps : List Player) (place : ℕ) (p : Player) → HavePlayers slots is ps → slice_get ps place ≡ Some p → IsSessionOf slots is place p
session_at slots [] [] place p all there = absurd (cc)
session_at slots [] (q ∷ ps) place p all there = absurd all
session_at slots (i ∷ is) [] place p all there = absurd all
session_at slots (i ∷ is) (q ∷ ps) zero p all there = record { input = i; there = refl; has = let same : q ≡ p = cc in subst (λ (x : Player). HasPlayer slots i x) same all.0 }
session_at slots (i ∷ is) (q ∷ ps) (suc place) p all there =
    let more = session_at slots is ps place p all.1 there in
    record { input = more.input; there = more.there; has = more.has }

-- the scripted slot of an opened session at a place
record HasSlotAt (slots : List SlotState) (ps : List Player) (place : ℕ) (i : SettledSession) : Type 0 where
  slot : ScriptedSlot
  plays : slice_get ps place ≡ Some (Playing slot)
  keys : script_keys slot ≡ i.keys
  stands : slot_at slot.id.0 slots ≡ Some (opening_of i.start)

slot_by : (slots : List SlotState) (ps : List Player) (place : ℕ) (b : StartInput) (i : SettledSession) (p : Player) → b ≡ i.start → IsOpened b → HasPlayerBy slots b i p → slice_get ps place ≡ Some p
    → HasSlotAt slots ps place i
slot_by slots ps place (Opens cpu quota drives) i (Playing slot) begins opened h there =
    record { slot = slot; plays = there; keys = h.keys; stands = h.slot ∙ ap (λ (b : StartInput). Some (opening_of b)) begins }
slot_by slots ps place (Opens cpu quota drives) i (Waiting fork) begins opened h there = absurd h
slot_by slots ps place (Forks parent at) i p begins opened h there = absurd opened
slot_by slots ps place (Restores x) i (Playing slot) begins opened h there =
    record { slot = slot; plays = there; keys = h.keys; stands = h.slot ∙ ap (λ (b : StartInput). Some (opening_of b)) begins }
slot_by slots ps place (Restores x) i (Waiting fork) begins opened h there = absurd h

slot_there : (slots : List SlotState) (is : List SettledSession) (ps : List Player) (place : ℕ) (i : SettledSession) → HavePlayers slots is ps → slice_get is place ≡ Some i → IsOpened i.start
    → HasSlotAt slots ps place i
slot_there slots [] ps place i all there opened = absurd (cc)
slot_there slots (j ∷ is) [] place i all there opened = absurd all
slot_there slots (j ∷ is) (p ∷ ps) zero i all there opened =
    let same : j ≡ i = cc in
    slot_by slots (p ∷ ps) zero i.start i p refl opened (subst (λ (x : SettledSession). HasPlayer slots x p) same all.0) refl
slot_there slots (j ∷ is) (p ∷ ps) (suc place) i all there opened =
    let more = slot_there slots is ps place i all.1 there opened in
    record { slot = more.slot; plays = more.plays; keys = more.keys; stands = more.stands }

-- ---- players can be played

slot_ready : (system : Disk) (slots : List SlotState) (start : MachineState) (i : SettledSession) (p : ScriptedSlot) → HasSlot slots start i p
    → IsInOrder 0 i.keys → HaveRoom system start i.keys → IsReady system slots p
slot_ready system slots start i p h order room = record {
  unplayed = h.unplayed;
  order = subst (λ (ks : List Key). IsInOrder 0 ks) (sym h.keys) order;
  room = subst (λ (ks : List Key). HaveRoom system start ks) (sym h.keys) room;
  start = start;
  opened = h.slot;
}

fork_ready : (system : Disk) (slots : List SlotState) (is : List SettledSession) (ps : List Player) (i : SettledSession) (parent at : ℕ) (fork : Fork) → HavePlayers slots is ps → IsForkFor i parent at fork
    → IsForkPressable system is i parent at → IsForkReady system slots ps fork
fork_ready system slots is ps i parent at fork all h can =
    let other = slot_there slots is ps parent can.other all can.there can.opened in
    record {
      parent = other.slot;
      plays = ap (slice_get ps) h.parent ∙ other.plays;
      own = can.own;
      keys = h.keys ∙ can.keys ∙ ap (λ (n : ℕ). keys_before n can.other.keys ++ can.own) (sym h.at) ∙ ap (λ (ks : List Key). keys_before fork.at ks ++ can.own) (sym other.keys);
      order = subst (λ (n : ℕ). IsInOrder n can.own) (sym h.at) can.order;
      start = opening_of can.other.start;
      opened = other.stands;
      room = subst (λ (ks : List Key). HaveRoom system (opening_of can.other.start) ks) (sym h.keys) can.room;
      within = let a = h.at in let s = h.steps in let w = can.within in omega (arith, a, s, w);
    }

ready_by : (system : Disk) (slots : List SlotState) (is : List SettledSession) (ps : List Player) (b : StartInput) (i : SettledSession) (p : Player) → HavePlayers slots is ps → HasPlayerBy slots b i p
    → IsPressableBy system is b i → IsPlayerReady system slots ps p
ready_by system slots is ps (Opens cpu quota drives) i (Playing slot) all h can = slot_ready system slots (opened_machine cpu quota drives) i slot h can.0 can.1
ready_by system slots is ps (Opens cpu quota drives) i (Waiting fork) all h can = absurd h
ready_by system slots is ps (Forks parent at) i (Playing slot) all h can = absurd h
ready_by system slots is ps (Forks parent at) i (Waiting fork) all h can = fork_ready system slots is ps i parent at fork all h can
ready_by system slots is ps (Restores x) i (Playing slot) all h can = slot_ready system slots x.state i slot h can.0 can.1
ready_by system slots is ps (Restores x) i (Waiting fork) all h can = absurd h

pub all_ready : (system : Disk) (slots : List SlotState) (is : List SettledSession) (ps : List Player) → HavePlayers slots is ps → ArePressable system is → AllReady system slots ps
all_ready system slots is ps all can = λ place. by_player place (slice_get ps place) refl
  where
    by_player : (place : ℕ) (o : Option Player) → slice_get ps place ≡ o → IfSome o (IsPlayerReady system slots ps)
    by_player place None there = tt
    by_player place (Some p) there =
        let s = session_at slots is ps place p all there in
        let pressable = subst (λ (o : Option SettledSession). IfSome o (λ i. IsPressableBy system is i.start i)) s.there (can place) in
        ready_by system slots is ps s.input.start s.input p all s.has pressable

-- ---- room for forks

fork_by : (slots : List SlotState) (b : StartInput) (i : SettledSession) (p : Player) → HasPlayerBy slots b i p → is_fork p ≡ fork_of b
fork_by slots (Opens cpu quota drives) i (Playing slot) h = refl
fork_by slots (Opens cpu quota drives) i (Waiting fork) h = absurd h
fork_by slots (Forks parent at) i (Playing slot) h = absurd h
fork_by slots (Forks parent at) i (Waiting fork) h = refl
fork_by slots (Restores x) i (Playing slot) h = refl
fork_by slots (Restores x) i (Waiting fork) h = absurd h

pub forks_are : (slots : List SlotState) (is : List SettledSession) (ps : List Player) → HavePlayers slots is ps → forks_of ps ≡ forks_in (starts_of is)
forks_are slots [] [] all = refl
forks_are slots [] (p ∷ ps) all = absurd all
forks_are slots (i ∷ is) [] all = absurd all
forks_are slots (i ∷ is) (p ∷ ps) all =
    let first = fork_by slots i.start i p all.0 in
    let rest = forks_are slots is ps all.1 in
    let a = sum_by-cons is_fork p ps in
    let b = sum_by-cons fork_of i.start (starts_of is) in
    omega arith

-- what the slot of a session at a place may write
quota_by : (slots : List SlotState) (b : StartInput) (i : SettledSession) (p : Player) → HasPlayerBy slots b i p → quota_of (player_slot slots (Some p)) ≡ (opening_of b).quota
quota_by slots (Opens cpu quota drives) i (Playing slot) h = ap quota_of h.slot
quota_by slots (Opens cpu quota drives) i (Waiting fork) h = absurd h
quota_by slots (Forks parent at) i (Playing slot) h = absurd h
quota_by slots (Forks parent at) i (Waiting fork) h = refl
quota_by slots (Restores x) i (Playing slot) h = ap quota_of h.slot
quota_by slots (Restores x) i (Waiting fork) h = absurd h

quota_there : (slots : List SlotState) (is : List SettledSession) (ps : List Player) (place : ℕ) → HavePlayers slots is ps
    → quota_of (player_slot slots (slice_get ps place)) ≡ (opening_at (slice_get (starts_of is) place)).quota
quota_there slots [] [] place all = refl
quota_there slots [] (p ∷ ps) place all = absurd all
quota_there slots (i ∷ is) [] place all = absurd all
quota_there slots (i ∷ is) (p ∷ ps) zero all = quota_by slots i.start i p all.0
quota_there slots (i ∷ is) (p ∷ ps) (suc place) all = quota_there slots is ps place all.1

module _ (slots : List SlotState) (is : List SettledSession) (ps : List Player) (all : HavePlayers slots is ps) where
  page_by : (b : StartInput) (i : SettledSession) (p : Player) → HasPlayerBy slots b i p → pages_of slots ps p ≡ pages_by (starts_of is) b
  page_by (Opens cpu quota drives) i (Playing slot) h = refl
  page_by (Opens cpu quota drives) i (Waiting fork) h = absurd h
  page_by (Forks parent at) i (Playing slot) h = absurd h
  page_by (Forks parent at) i (Waiting fork) h = ap (λ (n : ℕ). quota_of (player_slot slots (slice_get ps n))) h.parent ∙ quota_there slots is ps parent all
  page_by (Restores x) i (Playing slot) h = refl
  page_by (Restores x) i (Waiting fork) h = absurd h

  pages_from : (js : List SettledSession) (qs : List Player) → HavePlayers slots js qs → sum_by (pages_of slots ps) qs ≡ sum_by (pages_by (starts_of is)) (starts_of js)
  pages_from [] [] some = refl
  pages_from [] (q ∷ qs) some = absurd some
  pages_from (j ∷ js) [] some = absurd some
  pages_from (j ∷ js) (q ∷ qs) some =
      let first = page_by j.start j q some.0 in
      let rest = pages_from js qs some.1 in
      let a = sum_by-cons (pages_of slots ps) q qs in
      let b = sum_by-cons (pages_by (starts_of is)) j.start (starts_of js) in
      omega arith

  pub pages_are : fork_pages slots ps ≡ fork_pages_in (starts_of is)
  pages_are = pages_from is ps all

pub has_room : (h : Host) (is : List SettledSession) (ps : List Player) → HavePlayers h.slots is ps → HasRoomForForks h (forks_of ps) (fork_pages h.slots ps) → HasForkRoom (starts_of is) h
has_room h is ps all room =
    subst (λ (n : ℕ). HasRoomForForks h (forks_in (starts_of is)) n) (pages_are h.slots is ps all) (subst (λ (n : ℕ). HasRoomForForks h n (fork_pages h.slots ps)) (forks_are h.slots is ps all) room)

-- ---- once they were played

-- the start of the one that another is forked from
started_by : (slots : List SlotState) (b : StartInput) (i : SettledSession) (p : Player) (start : MachineState) → HasPlayerBy slots b i p → player_slot slots (Some p) ≡ Some start → start ≡ opening_of b
started_by slots (Opens cpu quota drives) i (Playing slot) start h is = let at = h.slot in cc
started_by slots (Opens cpu quota drives) i (Waiting fork) start h is = absurd h
started_by slots (Forks parent at) i (Playing slot) start h is = absurd h
started_by slots (Forks parent at) i (Waiting fork) start h is = absurd (cc)
started_by slots (Restores x) i (Playing slot) start h is = let at = h.slot in cc
started_by slots (Restores x) i (Waiting fork) start h is = absurd h

started_there : (slots : List SlotState) (is : List SettledSession) (ps : List Player) (place : ℕ) (start : MachineState) → HavePlayers slots is ps → player_slot slots (slice_get ps place) ≡ Some start
    → start ≡ opening_at (slice_get (starts_of is) place)
started_there slots [] [] place start all at = absurd (cc)
started_there slots [] (p ∷ ps) place start all at = absurd all
started_there slots (i ∷ is) [] place start all at = absurd all
started_there slots (i ∷ is) (p ∷ ps) zero start all at = started_by slots i.start i p start all.0 at
started_there slots (i ∷ is) (p ∷ ps) (suc place) start all at = started_there slots is ps place start all.1 at

module _ (system : Disk) (before now : List SlotState) (is : List SettledSession) (ps : List Player) (all : HavePlayers before is ps) where
  pub start_is : (b : StartInput) (i : SettledSession) (p : Player) (start : MachineState) → HasPlayerBy before b i p → start_at before ps p ≡ Some start → start ≡ start_by (starts_of is) b
  start_is (Opens cpu quota drives) i (Playing slot) start h at = let there = h.slot in cc
  start_is (Opens cpu quota drives) i (Waiting fork) start h at = absurd h
  start_is (Forks parent count) i (Playing slot) start h at = absurd h
  start_is (Forks parent count) i (Waiting fork) start h at = started_there before is ps parent start all (ap (λ (n : ℕ). player_slot before (slice_get ps n)) (sym h.parent) ∙ at)
  start_is (Restores x) i (Playing slot) start h at = let there = h.slot in cc
  start_is (Restores x) i (Waiting fork) start h at = absurd h

  pub keys_are : (b : StartInput) (i : SettledSession) (p : Player) → HasPlayerBy before b i p → player_keys p ≡ i.keys
  keys_are (Opens cpu quota drives) i (Playing slot) h = h.keys
  keys_are (Opens cpu quota drives) i (Waiting fork) h = absurd h
  keys_are (Forks parent at) i (Playing slot) h = absurd h
  keys_are (Forks parent at) i (Waiting fork) h = h.keys
  keys_are (Restores x) i (Playing slot) h = h.keys
  keys_are (Restores x) i (Waiting fork) h = absurd h

  pub steps_are : (b : StartInput) (i : SettledSession) (p : Player) → HasPlayerBy before b i p → player_steps p ≡ i.steps
  steps_are (Opens cpu quota drives) i (Playing slot) h = h.steps
  steps_are (Opens cpu quota drives) i (Waiting fork) h = absurd h
  steps_are (Forks parent at) i (Playing slot) h = absurd h
  steps_are (Forks parent at) i (Waiting fork) h = h.steps
  steps_are (Restores x) i (Playing slot) h = h.steps
  steps_are (Restores x) i (Waiting fork) h = absurd h

  ended : (i : SettledSession) (p q : Player) → HasPlayer before i p → HasPlayed system before now ps p q → HasEnded system is now i q
  ended i p q has h =
      let keys = subst (λ (ks : List Key). IsPlayed system ks (player_steps p) h.start h.last h.slot.console.items h.slot.list.items) (keys_are i.start i p has) h.session in
      let steps = subst (λ (n : ℕ). IsPlayed system i.keys n h.start h.last h.slot.console.items h.slot.list.items) (steps_are i.start i p has) keys in
      record {
        slot = h.slot;
        plays = h.plays;
        last = h.last;
        stands = h.stands;
        played = subst (λ (s : MachineState). IsPlayed system i.keys i.steps s h.last h.slot.console.items h.slot.list.items) (start_is i.start i p h.start has h.started) steps;
      }

  ended_from : (js : List SettledSession) (qs played : List Player) → HavePlayers before js qs → length played ≡ length qs
      → ((place : ℕ) (p q : Player) → slice_get qs place ≡ Some p → slice_get played place ≡ Some q → HasPlayed system before now ps p q) → AllEnded system is now js played
  ended_from [] [] [] some long each = tt
  ended_from [] [] (r ∷ rs) some long each = absurd (omega (arith, long))
  ended_from [] (q ∷ qs) rs some long each = absurd some
  ended_from (j ∷ js) [] rs some long each = absurd some
  ended_from (j ∷ js) (q ∷ qs) [] some long each = absurd (omega (arith, long))
  ended_from (j ∷ js) (q ∷ qs) (r ∷ rs) some long each =
      (ended j q r some.0 (each 0 q r refl refl), ended_from js qs rs some.1 (omega (arith, long)) (λ place p x there got. each (suc place) p x there got))

  pub all_ended : (played : List Player) → length played ≡ length ps
      → ((place : ℕ) (p q : Player) → slice_get ps place ≡ Some p → slice_get played place ≡ Some q → HasPlayed system before now ps p q) → AllEnded system is now is played
  all_ended played long each = ended_from is ps played all long each

-- ---- refusals

-- one is named of the forks for which there is no room
pub lacks_frames : (sessions : List SessionConfig) (h : Host) (ps : List Player) (place : ℕ) (shown : List ℕ) → IsPlayRefusal h ps (ForkRefused place fork.NoFrames) → IsShownAs (name_at sessions place) shown
    → IsForkRefused sessions h ps fault.NoFrames shown
lacks_frames sessions h ps place shown r told = record { place = place; fork = r.0.0; there = r.0.1; short = r.1; told = told }

pub lacks_slots : (sessions : List SessionConfig) (h : Host) (ps : List Player) (place : ℕ) (why : ForkError) (shown : List ℕ) → why ≢ fork.NoFrames → IsPlayRefusal h ps (ForkRefused place why)
    → IsShownAs (name_at sessions place) shown → IsForkRefused sessions h ps fault.NoSlot shown
lacks_slots sessions h ps place fork.NoSlot shown other r told = record { place = place; fork = r.0.0; there = r.0.1; short = r.1; told = told }
lacks_slots sessions h ps place fork.NoFrames shown other r told = absurd (other refl)
lacks_slots sessions h ps place _ shown other r told = absurd r.1

-- a session whose player is to be forked is forked
fork_at : (slots : List SlotState) (starts : List StartInput) (place : ℕ) (b : StartInput) (i : SettledSession) (fork : Fork) → slice_get starts place ≡ Some b → HasPlayerBy slots b i (Waiting fork)
    → IsForkAt starts place
fork_at slots starts place (Opens cpu quota drives) i fork there h = absurd h
fork_at slots starts place (Forks parent at) i fork there h = record { parent = parent; at = at; there = there }
fork_at slots starts place (Restores x) i fork there h = absurd h

-- where forks are refused, once all that are opened are open
pub fork_refused : (sessions : List SessionConfig) (start now : Host) (is : List SettledSession) (ps : List Player) (e : RunError) → HavePlayers now.slots is ps
    → ((whole : List StartInput) (fault : OpenError) (place : ℕ) → IsForkAt whole place → IsShortFor now (forks_in whole) (fork_pages_in whole) fault → IsRefusedAmong whole start 0 (starts_of is) (Unopened fault) place)
    → IsForksRefusal sessions now ps e → IsSlotRefusal sessions start (starts_of is) e
fork_refused sessions start now is ps e all short r = by_error e r
  where
    named : (fault : OpenError) (shown : List ℕ) → IsForkRefused sessions now ps fault shown → IsRefusedByName sessions start (starts_of is) (Unopened fault) shown
    named fault shown r =
        let s = session_at now.slots is ps r.place (Waiting r.fork) all r.there in
        let room = subst (λ (n : ℕ). IsShortFor now (forks_in (starts_of is)) n fault) (pages_are now.slots is ps all)
        (subst (λ (n : ℕ). IsShortFor now n (fork_pages now.slots ps) fault) (forks_are now.slots is ps all) r.short) in
        record {
          place = r.place;
          first = short (starts_of is) fault r.place (fork_at now.slots (starts_of is) r.place s.input.start s.input r.fork (slice_get-map (λ (x : SettledSession). x.start) is r.place ∙ ap (option_map (λ (x : SettledSession). x.start)) s.there) s.has) room;
          told = r.told;
        }

    by_error : (e : RunError) → IsForksRefusal sessions now ps e → IsSlotRefusal sessions start (starts_of is) e
    by_error (refusal.SessionRefused name fault) r = named fault name.bytes r
    by_error refusal.OutOfMemory r = tt
    by_error _ r = absurd r
