-- Sessions that are prepared one after another: opened, or to be forked.
use Rattle.std.proofs.Common.{◌≡◌, ◌∙◌, Bool, inl, inr, ◌<◌, ◌+◌, ℕ, List, [], ◌∷◌, ◌++◌, Option, Some, length, map, ap, refl, subst, sym, arith, append_assoc}
use Rattle.std.specs.Prelude.{⊤, option_map, string_bytes}
use Rattle.std.proofs.lemmas.List.{length-append}
use Rattle.cpm_batch.specs.Inputs.{Forks, Opens, Restores, StartInput, start_view}
use Rattle.cpm_batch.specs.Savings.{saving_view}
use Rattle.cpm_batch.specs.declared.saved.SavedMachine.{SavedMachine}
use Rattle.cpm_run.specs.declared.settled.SettledInput.{SettledInput}
use Rattle.cpm_batch.specs.declared.input.Start.{Start}
use Rattle.cpm_batch.specs.declared.input.Start.TheVariants as start
use Rattle.cpm_config.specs.declared.config.SessionConfig.{SessionConfig}
use Rattle.cpm_flags.specs.declared.regs.Cpu.{Cpu}
use Rattle.cpm_geom.specs.Disk.{Disk}
use Rattle.cpm_script.specs.declared.script.Key.{Key}
use Rattle.cpm_slots.specs.Host.{AllBelow, Host, SlotState, opened_slot, slot_at, with_added}
use Rattle.cpm_slots.proofs.SlotLaws.{AllBelow-added, slot_at-added, slot_at-new}
use Rattle.cpm_machine.specs.MachineState.{MachineState, opened_machine}
use Rattle.cpm_machine.specs.Saving.{Saving}
use Rattle.cpm_machine.specs.declared.opening.Opening.{Opening}
use Rattle.cpm_play.specs.Players.{AllDiffer, ids_of}
use Rattle.cpm_play.specs.ScriptedSlots.{AreDifferent, IsNone}
use Rattle.cpm_play.specs.declared.live.PlayEnd.{PlayEnd}
use Rattle.cpm_play.specs.declared.player.Fork.{Fork}
use Rattle.cpm_play.specs.declared.player.Player.{Player}
use Rattle.cpm_play.specs.declared.player.Player.TheVariants.{Playing, Waiting}
use Rattle.cpm_play.specs.declared.scripted_slot.ScriptedSlot.{ScriptedSlot}
use Rattle.cpm_run.specs.Playing.{HasPlayer, HasPlayerBy, HasSlot, HavePlayers, IsForkFor, IsOpeningRefusal, IsPrepared, IsPreparedBy, IsRefusedAmong, IsRefusedByName, IsRestoringRefusal, IsSlotRefusal, IsStartRefusal, OpensSlot, PlaysNext, RestoresSlot}
use Rattle.cpm_run.specs.declared.error.RunError.{RunError}
use Rattle.cpm_run.specs.declared.error.RunError.TheVariants as refusal
use Rattle.cpm_run.specs.declared.error.StartFault.{StartFault}
use Rattle.cpm_run.specs.declared.error.StartFault.TheVariants.{Elsewhere, Unopened}
use Rattle.cpm_run.specs.Run.{AllAccepted, IsOpening, IsShownAs, name_at}
use Rattle.cpm_store.specs.Files.{StoreName}
use Rattle.cpm_run.specs.Settled.{SettledSession, settled_view, starts_of}

-- ---- numbers of slots

-- each was given before
abbrev pub AllNumbered : ℕ → List ℕ → Type 0
AllNumbered n [] = ⊤
AllNumbered n (id ∷ ids) = (id < n) × AllNumbered n ids

numbered_more : (n : ℕ) (ids : List ℕ) → AllNumbered n ids → AllNumbered (n + 1) (ids ++ n ∷ [])
numbered_more n [] all = (omega arith, tt)
numbered_more n (id ∷ ids) all = (omega (arith, all.0), numbered_more n ids all.1)

none_more : (id n : ℕ) (ids : List ℕ) → id < n → IsNone id ids → IsNone id (ids ++ n ∷ [])
none_more id n [] below none = ((λ h. omega (arith, h, below)), tt)
none_more id n (x ∷ ids) below none = (none.0, none_more id n ids below none.1)

differ_more : (n : ℕ) (ids : List ℕ) → AllNumbered n ids → AreDifferent ids → AreDifferent (ids ++ n ∷ [])
differ_more n [] numbered all = (tt, tt)
differ_more n (id ∷ ids) numbered all = (none_more id n ids numbered.0 all.0, differ_more n ids numbered.1 all.1)

ids_playing : (ps : List Player) (p : ScriptedSlot) (n : ℕ) → p.id.0 ≡ n → ids_of (ps ++ Playing p ∷ []) ≡ ids_of ps ++ n ∷ []
ids_playing [] p n is = ap (λ (id : ℕ). id ∷ []) is
ids_playing (Playing q ∷ ps) p n is = ap (λ (ids : List ℕ). q.id.0 ∷ ids) (ids_playing ps p n is)
ids_playing (Waiting fork ∷ ps) p n is = ids_playing ps p n is

ids_waiting : (ps : List Player) (fork : Fork) → ids_of (ps ++ Waiting fork ∷ []) ≡ ids_of ps
ids_waiting [] fork = refl
ids_waiting (Playing q ∷ ps) fork = ap (λ (ids : List ℕ). q.id.0 ∷ ids) (ids_waiting ps fork)
ids_waiting (Waiting other ∷ ps) fork = ids_waiting ps fork

-- ---- players

slot_later : (slots : List SlotState) (new : SlotState) (start : MachineState) (i : SettledSession) (p : ScriptedSlot) → p.id.0 < new.id → HasSlot slots start i p → HasSlot (slots ++ new ∷ []) start i p
slot_later slots new start i p below s = record { slot = slot_at-added p.id.0 new slots below ∙ s.slot; keys = s.keys; steps = s.steps; unplayed = s.unplayed }

-- a player stays one when another slot is opened
player_later : (slots : List SlotState) (new : SlotState) (b : StartInput) (i : SettledSession) (p : Player) → AllNumbered new.id (ids_of (p ∷ [])) → HasPlayerBy slots b i p
    → HasPlayerBy (slots ++ new ∷ []) b i p
player_later slots new (Opens cpu quota drives) i (Playing q) below h = slot_later slots new (opened_machine cpu quota drives) i q below.0 h
player_later slots new (Opens cpu quota drives) i (Waiting fork) below h = absurd h
player_later slots new (Forks parent at) i (Playing q) below h = absurd h
player_later slots new (Forks parent at) i (Waiting fork) below h = h
player_later slots new (Restores x) i (Playing q) below h = slot_later slots new x.state i q below.0 h
player_later slots new (Restores x) i (Waiting fork) below h = absurd h

first_numbered : (n : ℕ) (p : Player) (ps : List Player) → AllNumbered n (ids_of (p ∷ ps)) → AllNumbered n (ids_of (p ∷ [])) × AllNumbered n (ids_of ps)
first_numbered n (Playing q) ps h = ((h.0, tt), h.1)
first_numbered n (Waiting fork) ps h = (tt, h)

players_later : (slots : List SlotState) (new : SlotState) (is : List SettledSession) (ps : List Player) → AllNumbered new.id (ids_of ps) → HavePlayers slots is ps → HavePlayers (slots ++ new ∷ []) is ps
players_later slots new [] [] numbered all = tt
players_later slots new [] (p ∷ ps) numbered all = absurd all
players_later slots new (i ∷ is) [] numbered all = absurd all
players_later slots new (i ∷ is) (p ∷ ps) numbered all =
    let first = first_numbered new.id p ps numbered in
    (player_later slots new i.start i p first.0 all.0, players_later slots new is ps first.1 all.1)

players_more : (slots : List SlotState) (is : List SettledSession) (ps : List Player) (i : SettledSession) (p : Player) → HavePlayers slots is ps → HasPlayer slots i p
    → HavePlayers slots (is ++ i ∷ []) (ps ++ p ∷ [])
players_more slots [] [] i p all one = (one, tt)
players_more slots [] (q ∷ ps) i p all one = absurd all
players_more slots (j ∷ is) [] i p all one = absurd all
players_more slots (j ∷ is) (q ∷ ps) i p all one = (all.0, players_more slots is ps i p all.1 one)

-- ---- one session

-- where its slot was opened
pub opens_slot : (x : SettledInput) (o : Opening) (old new : Host) (slot : ScriptedSlot) → x.start ≡ start.Opened o.cpu o.quota o.drives → OpensSlot o x.keys.items x.steps old new slot
    → IsPrepared (settled_view x) old new (Playing slot)
opens_slot x o old new slot is h =
    subst (λ (b : Start). IsPreparedBy (start_view b) (settled_view x) old new (Playing slot)) (sym is) (o, record { cpu = refl; quota = refl; drives = refl }, h)

-- where it was refused
pub start_refused : (x : SettledInput) (o : Opening) (h : Host) (e : RunError) → x.start ≡ start.Opened o.cpu o.quota o.drives → IsOpeningRefusal h o (string_bytes x.session.now.name) e
    → IsStartRefusal h (settled_view x).start (string_bytes x.session.now.name) e
start_refused x o h e is r = subst (λ (b : Start). IsStartRefusal h (start_view b) (string_bytes x.session.now.name) e) (sym is) (o, record { cpu = refl; quota = refl; drives = refl }, r)

-- where it goes on from a saving, or that was refused
pub restores_slot : (x : SettledInput) (saved : SavedMachine) (old new : Host) (slot : ScriptedSlot) → x.start ≡ start.Restored saved → RestoresSlot (saving_view saved) x.keys.items x.steps old new slot
    → IsPrepared (settled_view x) old new (Playing slot)
restores_slot x saved old new slot is h = subst (λ (b : Start). IsPreparedBy (start_view b) (settled_view x) old new (Playing slot)) (sym is) h

pub restoring_refused : (x : SettledInput) (saved : SavedMachine) (h : Host) (e : RunError) → x.start ≡ start.Restored saved → IsRestoringRefusal h (saving_view saved) (string_bytes x.session.now.name) e
    → IsStartRefusal h (settled_view x).start (string_bytes x.session.now.name) e
restoring_refused x saved h e is r = subst (λ (b : Start). IsStartRefusal h (start_view b) (string_bytes x.session.now.name) e) (sym is) r

-- where it is to be forked
pub waits : (x : SettledInput) (fork : Fork) (h : Host) → x.start ≡ start.Forked fork.parent fork.at → IsForkFor (settled_view x) fork.parent fork.at fork → IsPrepared (settled_view x) h h (Waiting fork)
waits x fork h is for = subst (λ (b : Start). IsPreparedBy (start_view b) (settled_view x) h h (Waiting fork)) (sym is) (for, refl)

-- ---- one after another

-- the first sessions have their players, and the rest are still to come; what holds of all that are given is kept
pub record IsPreparedTo (start now : Host) (all rest : List SettledSession) (ps : List Player) : Type 0 where
  pub done : List SettledSession
  pub parts : done ++ rest ≡ all
  pub players : HavePlayers now.slots done ps
  pub below : AllBelow now.openings now.slots
  pub numbered : AllNumbered now.openings (ids_of ps)
  pub differ : AllDiffer ps
  pub system : now.system ≡ start.system
  pub refused : (whole : List StartInput) (fault : StartFault) (place : ℕ) → IsRefusedAmong whole now (length done) (starts_of rest) fault place → IsRefusedAmong whole start 0 (starts_of all) fault place
  pub accepted : (whole : List StartInput) → AllAccepted whole now (starts_of rest) → AllAccepted whole start (starts_of all)

one_longer : (done : List SettledSession) (i : SettledSession) → length (done ++ i ∷ []) ≡ length done + 1
one_longer done i = let more = length-append done (i ∷ []) in omega (arith, more)

-- the session after these has this name
name_after : (done rest : List SettledSession) (i : SettledSession) → name_at (map (λ s. s.session) (done ++ i ∷ rest)) (length done) ≡ string_bytes i.session.name
name_after [] rest i = refl
name_after (s ∷ done) rest i = name_after done rest i

abbrev input_of : SessionConfig → StartInput → List Key → (before steps : ℕ) → Bool → Option PlayEnd → SettledSession
input_of session b keys before steps idle typing = record { session = session; start = b; keys = keys; before = before; steps = steps; is_idle = idle; typing = typing }

-- the next of those still to come
pub prepared_next : (start now : Host) (all : List SettledSession) (rest more : List SettledInput) (x : SettledInput) (ps : List Player) → rest ≡ x ∷ more → IsPreparedTo start now all (map settled_view rest) ps
    → IsPreparedTo start now all (settled_view x ∷ map settled_view more) ps
prepared_next start now all rest more x ps steps h = subst (λ (xs : List SettledInput). IsPreparedTo start now all (map settled_view xs) ps) steps h

-- a session whose slot is in this state has its player
abbrev HasPlayerIn : MachineState → SettledSession → Type 0
HasPlayerIn s i = (slots : List SlotState) (p : ScriptedSlot) → HasSlot slots s i p → HasPlayer slots i (Playing p)

-- one whose slot was added in a state
module _ (start now : Host) (all rest : List SettledSession) (i : SettledSession) (ps : List Player) (p : ScriptedSlot) (s : MachineState) (h : IsPreparedTo start now all (i ∷ rest) ps)
    (has : HasPlayerIn s i) (plays : PlaysNext i.keys i.steps now p)
    (refuses : (whole : List StartInput) (fault : StartFault) (from place : ℕ) → IsRefusedAmong whole (with_added now s) (from + 1) (starts_of rest) fault place → IsRefusedAmong whole now from (starts_of (i ∷ rest)) fault place)
    (accepts : (whole : List StartInput) → AllAccepted whole (with_added now s) (starts_of rest) → AllAccepted whole now (starts_of (i ∷ rest))) where
  added_more : (new : Host) → new ≡ with_added now s → IsPreparedTo start new all rest (ps ++ Playing p ∷ [])
  added_more new same =
      let n = now.openings in
      let next = with_added now s in
      let at : slot_at p.id.0 next.slots ≡ Some s = ap (λ id. slot_at id next.slots) plays.id ∙ slot_at-new n s now.slots h.below in
      let one : HasPlayer next.slots i (Playing p) = has next.slots p (record { slot = at; keys = plays.keys; steps = plays.steps; unplayed = plays.unplayed }) in
      let ids = ids_playing ps p n plays.id in
      let made : IsPreparedTo start next all rest (ps ++ Playing p ∷ []) = record {
        done = h.done ++ i ∷ [];
        parts = append_assoc h.done (i ∷ []) rest ∙ h.parts;
        players = players_more next.slots h.done ps i (Playing p) (players_later now.slots (record { id = n; state = s }) h.done ps h.numbered h.players) one;
        below = AllBelow-added n s now.slots h.below;
        numbered = subst (λ (xs : List ℕ). AllNumbered (n + 1) xs) (sym ids) (numbered_more n (ids_of ps) h.numbered);
        differ = subst AreDifferent (sym ids) (differ_more n (ids_of ps) h.numbered h.differ);
        system = h.system;
        refused = λ whole fault place f. h.refused whole fault place (refuses whole fault (length h.done) place (subst (λ (n : ℕ). IsRefusedAmong whole next n (starts_of rest) fault place) (one_longer h.done i) f));
        accepted = λ whole more. h.accepted whole (accepts whole more);
      } in
      subst (λ (host : Host). IsPreparedTo start host all rest (ps ++ Playing p ∷ [])) (sym same) made

-- one that is opened
opened_more : (start now new : Host) (all rest : List SettledSession) (session : SessionConfig) (cpu : Cpu) (quota : ℕ) (drives : List Disk) (keys : List Key) (before steps : ℕ) (idle : Bool) (typing : Option PlayEnd) (ps : List Player) (p : ScriptedSlot) (o : Opening)
    → IsPreparedTo start now all (input_of session (Opens cpu quota drives) keys before steps idle typing ∷ rest) ps → IsOpening cpu quota drives o → OpensSlot o keys steps now new p
    → IsPreparedTo start new all rest (ps ++ Playing p ∷ [])
opened_more start now new all rest session cpu quota drives keys before steps idle typing ps p o h is open_slot =
    let opening : opened_slot o ≡ opened_machine cpu quota drives =
    ap (λ cpu. opened_machine cpu o.quota o.drives.items) is.cpu ∙ ap (λ quota. opened_machine cpu quota o.drives.items) is.quota ∙ ap (λ drives. opened_machine cpu quota drives) is.drives in
    added_more start now all rest (input_of session (Opens cpu quota drives) keys before steps idle typing) ps p (opened_slot o) h
    (λ slots q has. record { slot = has.slot ∙ ap (λ (s : MachineState). Some s) opening; keys = has.keys; steps = has.steps; unplayed = has.unplayed }) open_slot.next
    (λ whole fault from place f. (o, is, inr (open_slot.accepted, f))) (λ whole more. (o, is, open_slot.accepted, more)) new open_slot.host

-- one that goes on from a saving
goes_on : (start now new : Host) (all rest : List SettledSession) (session : SessionConfig) (x : Saving) (keys : List Key) (before steps : ℕ) (idle : Bool) (typing : Option PlayEnd) (ps : List Player) (p : ScriptedSlot)
    → IsPreparedTo start now all (input_of session (Restores x) keys before steps idle typing ∷ rest) ps → RestoresSlot x keys steps now new p → IsPreparedTo start new all rest (ps ++ Playing p ∷ [])
goes_on start now new all rest session x keys before steps idle typing ps p h restores =
    added_more start now all rest (input_of session (Restores x) keys before steps idle typing) ps p x.state h (λ slots q has. has) restores.next
    (λ whole fault from place f. inr (restores.accepted, f)) (λ whole more. (restores.accepted, more)) new restores.host

-- one that is to be forked
forked_more : (start now new : Host) (all rest : List SettledSession) (session : SessionConfig) (parent at : ℕ) (keys : List Key) (before steps : ℕ) (idle : Bool) (typing : Option PlayEnd) (ps : List Player) (fork : Fork)
    → IsPreparedTo start now all (input_of session (Forks parent at) keys before steps idle typing ∷ rest) ps → IsForkFor (input_of session (Forks parent at) keys before steps idle typing) parent at fork → new ≡ now
    → IsPreparedTo start new all rest (ps ++ Waiting fork ∷ [])
forked_more start now new all rest session parent at keys before steps idle typing ps fork h is same =
    let i = input_of session (Forks parent at) keys before steps idle typing in
    let ids = ids_waiting ps fork in
    let made : IsPreparedTo start now all rest (ps ++ Waiting fork ∷ []) = record {
      done = h.done ++ i ∷ [];
      parts = append_assoc h.done (i ∷ []) rest ∙ h.parts;
      players = players_more now.slots h.done ps i (Waiting fork) h.players is;
      below = h.below;
      numbered = subst (λ (xs : List ℕ). AllNumbered now.openings xs) (sym ids) h.numbered;
      differ = subst AreDifferent (sym ids) h.differ;
      system = h.system;
      refused = λ whole fault place f. h.refused whole fault place (subst (λ (n : ℕ). IsRefusedAmong whole now n (starts_of rest) fault place) (one_longer h.done i) f);
      accepted = h.accepted;
    } in
    subst (λ (host : Host). IsPreparedTo start host all rest (ps ++ Waiting fork ∷ [])) (sym same) made

more_by : (start now new : Host) (all rest : List SettledSession) (session : SessionConfig) (b : StartInput) (keys : List Key) (before steps : ℕ) (idle : Bool) (typing : Option PlayEnd) (ps : List Player) (p : Player)
    → IsPreparedTo start now all (input_of session b keys before steps idle typing ∷ rest) ps → IsPreparedBy b (input_of session b keys before steps idle typing) now new p → IsPreparedTo start new all rest (ps ++ p ∷ [])
more_by start now new all rest session (Opens cpu quota drives) keys before steps idle typing ps (Playing slot) h r = opened_more start now new all rest session cpu quota drives keys before steps idle typing ps slot r.0 h r.1 r.2
more_by start now new all rest session (Opens cpu quota drives) keys before steps idle typing ps (Waiting fork) h r = absurd r
more_by start now new all rest session (Forks parent at) keys before steps idle typing ps (Playing slot) h r = absurd r
more_by start now new all rest session (Forks parent at) keys before steps idle typing ps (Waiting fork) h r = forked_more start now new all rest session parent at keys before steps idle typing ps fork h r.0 r.1
more_by start now new all rest session (Restores x) keys before steps idle typing ps (Playing slot) h r = goes_on start now new all rest session x keys before steps idle typing ps slot h r
more_by start now new all rest session (Restores x) keys before steps idle typing ps (Waiting fork) h r = absurd r

-- one player more
pub prepared_more : (start now new : Host) (all rest : List SettledSession) (i : SettledSession) (ps more : List Player) (p : Player) → IsPreparedTo start now all (i ∷ rest) ps
    → IsPreparedBy i.start i now new p → more ≡ ps ++ p ∷ [] → IsPreparedTo start new all rest more
prepared_more start now new all rest i ps more p h r pushed =
    subst (λ (qs : List Player). IsPreparedTo start new all rest qs) (sym pushed) (more_by start now new all rest i.session i.start i.keys i.before i.steps i.is_idle i.typing ps p h r)

-- the next session is refused
named_by : (start now : Host) (all rest : List SettledSession) (i : SettledSession) (ps : List Player) (fault : StartFault) (shown : List ℕ) → IsPreparedTo start now all (i ∷ rest) ps
    → ((whole : List StartInput) (place : ℕ) → IsRefusedAmong whole now place (starts_of (i ∷ rest)) fault place) → IsShownAs (string_bytes i.session.name) shown
    → IsRefusedByName (map (λ s. s.session) all) start (starts_of all) fault shown
named_by start now all rest i ps fault shown h refuses told =
    let named : name_at (map (λ s. s.session) all) (length h.done) ≡ string_bytes i.session.name =
    ap (λ (ss : List SettledSession). name_at (map (λ s. s.session) ss) (length h.done)) (sym h.parts) ∙ name_after h.done rest i in
    record {
      place = length h.done;
      first = h.refused (starts_of all) fault (length h.done) (refuses (starts_of all) (length h.done));
      told = subst (λ (n : StoreName). IsShownAs n shown) (sym named) told;
    }

refused_by : (start now : Host) (all rest : List SettledSession) (session : SessionConfig) (b : StartInput) (keys : List Key) (before steps : ℕ) (idle : Bool) (typing : Option PlayEnd) (ps : List Player) (e : RunError)
    → IsPreparedTo start now all (input_of session b keys before steps idle typing ∷ rest) ps → IsStartRefusal now b (string_bytes session.name) e → IsSlotRefusal (map (λ s. s.session) all) start (starts_of all) e
refused_by start now all rest session (Opens cpu quota drives) keys before steps idle typing ps (refusal.SessionRefused name fault) h r =
    named_by start now all rest (input_of session (Opens cpu quota drives) keys before steps idle typing) ps (Unopened fault) name.bytes h
    (λ whole place. (r.0, r.1, inl (ap (option_map Unopened) r.2.0, refl))) r.2.1
refused_by start now all rest session (Opens cpu quota drives) keys before steps idle typing ps refusal.OutOfMemory h r = tt
refused_by start now all rest session (Opens cpu quota drives) keys before steps idle typing ps _ h r = absurd r.2
refused_by start now all rest session (Forks parent at) keys before steps idle typing ps e h r = absurd r
refused_by start now all rest session (Restores x) keys before steps idle typing ps (refusal.SessionRefused name fault) h r =
    named_by start now all rest (input_of session (Restores x) keys before steps idle typing) ps (Unopened fault) name.bytes h (λ whole place. inl (r.0, refl)) r.1
refused_by start now all rest session (Restores x) keys before steps idle typing ps (refusal.SavedElsewhere name) h r =
    named_by start now all rest (input_of session (Restores x) keys before steps idle typing) ps Elsewhere name.bytes h (λ whole place. inl (r.0, refl)) r.1
refused_by start now all rest session (Restores x) keys before steps idle typing ps refusal.OutOfMemory h r = tt
refused_by start now all rest session (Restores x) keys before steps idle typing ps _ h r = absurd r

-- an opening that is refused
pub prepare_refused : (start now : Host) (all rest : List SettledSession) (i : SettledSession) (ps : List Player) (e : RunError) → IsPreparedTo start now all (i ∷ rest) ps
    → IsStartRefusal now i.start (string_bytes i.session.name) e → IsSlotRefusal (map (λ s. s.session) all) start (starts_of all) e
prepare_refused start now all rest i ps e h r = refused_by start now all rest i.session i.start i.keys i.before i.steps i.is_idle i.typing ps e h r
