-- Sessions that are kept on the way of a run stand there truly.
use Rattle.std.proofs.Common.{◌≡◌, ◌∙◌, ◌<◌, ◌≤◌, ◌==◌, nat_lt, ◌⊎◌, inl, inr, ◌++◌, ℕ, zero, suc, Bool, true, false, List, [], ◌∷◌, Option, None, Some, refl, sym, ap, ap₂, subst, arith, append-nil, length, take, slice_get, if◌then◌else◌}
use Rattle.std.specs.Prelude.{IfSome, option_and_then, option_map}
use Rattle.std.proofs.lemmas.Bool.{cases_lt}
use Rattle.std.proofs.lemmas.Bool.Decides.{nat_tests}
use Rattle.std.proofs.lemmas.List.{length-map}
use Rattle.std.proofs.lemmas.Option.{none-some, same_Some, slice_get-map}
use Rattle.cpm_batch.specs.Inputs.{Forks, Opens, Restores, StartInput}
use Rattle.cpm_geom.specs.Disk.{Disk}
use Rattle.cpm_machine.specs.Alone.{due}
use Rattle.cpm_machine.specs.MachineState.{MachineState}
use Rattle.cpm_machine.specs.Saving.{saving_with}
use Rattle.cpm_machine.specs.SystemDigest.{system_digest}
use Rattle.cpm_play.specs.Live.{AreBy}
use Rattle.cpm_play.specs.Pacing.{IsOn, forked_pace}
use Rattle.cpm_play.specs.Players.{AllBefore, AllReady, HaveBecome, IsPlayerGoing, StandsAs, player_slot, player_steps}
use Rattle.cpm_play.specs.Playing.{IsQuiet, presses_of}
use Rattle.cpm_play.specs.ScriptedSlots.{script_keys}
use Rattle.cpm_play.specs.declared.pace.Pace.{Pace}
use Rattle.cpm_play.specs.declared.player.Fork.{Fork}
use Rattle.cpm_play.specs.declared.player.Player.{Player}
use Rattle.cpm_play.specs.declared.player.Player.TheVariants.{Playing, Waiting}
use Rattle.cpm_play.specs.declared.scripted_slot.ScriptedSlot.{ScriptedSlot}
use Rattle.cpm_play.proofs.ForkLemmas.{on-fork}
use Rattle.cpm_play.proofs.PlayerLemmas.{parent-of, waiting-given}
use Rattle.cpm_play.proofs.RunLemmas.{bare, quiet-bare}
use Rattle.cpm_run.proofs.PlayLemmas.{all_ready, keys_are, start_is, steps_are}
use Rattle.cpm_run.specs.Kept.{standing_of, standing_of_player, standing_of_slot}
use Rattle.cpm_run.specs.Pressable.{ArePressable}
use Rattle.cpm_run.specs.Laws.{KeptIsTrue}
use Rattle.cpm_run.specs.Playing.{HasPlayer, HasPlayerBy, HavePlayers}
use Rattle.cpm_run.specs.Run.{start_of}
use Rattle.cpm_run.specs.Settled.{SettledSession}
use Rattle.cpm_run.specs.Rest.{RunStanding, SessionStanding, standing_at, stands_by}
use Rattle.cpm_run.specs.Standing.{IsBeforeFork, IsTrueOf, IsTrueStanding, StandsThere}
use Rattle.cpm_script.specs.Fork.{keys_before}
use Rattle.cpm_script.specs.declared.script.Key.{Key}
use Rattle.cpm_slots.specs.Host.{Host, SlotState, saving_of}

-- ---- one session

-- none of the keys comes after a count where none is due after it
by-none : (n : ℕ) (keys : List Key) → ((i : ℕ) → n < i → due i (presses_of keys) ≡ []) → AreBy n keys
by-none n [] none = tt
by-none n (k ∷ keys) none = (first (cases_lt n k.count), by-none n keys (λ i past. rest i past (k.count == i) (none i past)))
  where
    is-due : (b : Bool) → (k.count == k.count) ≡ b → (if b then k.byte ∷ due k.count (presses_of keys) else due k.count (presses_of keys)) ≡ [] → ⊥
    is-due true e none_there = cc
    is-due false e none_there = grind (arith, nat_tests)

    first : (n < k.count) ⊎ (k.count ≤ n) → k.count ≤ n
    first (inl past) = absurd (is-due (k.count == k.count) refl (none k.count past))
    first (inr at) = at

    rest : (i : ℕ) → n < i → (b : Bool) → (if b then k.byte ∷ due i (presses_of keys) else due i (presses_of keys)) ≡ [] → due i (presses_of keys) ≡ []
    rest i past true none_there = absurd (let no : ⊥ = cc in no)
    rest i past false none_there = none_there

-- a session that went so far stands there
pub stands-on : (system : Disk) (i : SettledSession) (start now : MachineState) (pace : Pace) (console list : List ℕ) → IsOn system i.keys i.steps start pace console list now → IsQuiet now
    → StandsThere system start i (record { pressed = pace.pressed; done = pace.done; console = console; list = list; saving = saving_with (system_digest system) now })
stands-on system i start now pace console list on quiet = record {
  within = let low = on.all.within in let most = on.all.most in omega (arith, low, most);
  few = on.within;
  early = by-none pace.done (take pace.pressed i.keys) on.came;
  come = on.coming;
  later = on.later;
  console = sym (append-nil console) ∙ ap (λ (xs : List ℕ). console ++ xs) (sym quiet.screen) ∙ ap (λ (s : MachineState). s.session.console.screen) on.state;
  list = sym (append-nil list) ∙ ap (λ (xs : List ℕ). list ++ xs) (sym quiet.printer) ∙ ap (λ (s : MachineState). s.session.console.printer) on.state;
  saving = ap (saving_with (system_digest system)) (quiet-bare now quiet ∙ ap bare on.state);
}

-- those that were pressed are among the keys before a fork
taken-before : (at n : ℕ) (keys own : List Key) → AllBefore at (take n keys) → n ≤ length keys → take n (keys_before at keys ++ own) ≡ take n keys
taken-before at zero keys own before within = refl
taken-before at (suc n) [] own before within = absurd (let no : ⊥ = omega (arith, within) in no)
taken-before at (suc n) (k ∷ ks) own before within =
    let early : nat_lt k.count at ≡ true = let first = before.0 in grind (arith, nat_tests) in
    rw early (ap (λ (xs : List Key). k ∷ xs) (taken-before at n ks own before.1 (omega (arith, within))))

-- ---- sessions and their players

-- the standing of a player at a place
standing-there : (h : Host) (now : List Player) (place : ℕ) (q : Player) → slice_get now place ≡ Some q → standing_at (standing_of h now) place ≡ standing_of_player h q
standing-there h now place q at =
    ap (option_and_then (λ (s : Option SessionStanding). s)) (slice_get-map (standing_of_player h) now place ∙ ap (option_map (standing_of_player h)) at)

player-long : (slots : List SlotState) (is : List SettledSession) (ps : List Player) → HavePlayers slots is ps → length ps ≡ length is
player-long slots [] [] all = refl
player-long slots [] (p ∷ ps) all = absurd all
player-long slots (i ∷ is) [] all = absurd all
player-long slots (i ∷ is) (p ∷ ps) all = ap suc (player-long slots is ps all.1)

-- the player of the session at a place
player-there : (slots : List SlotState) (is : List SettledSession) (ps : List Player) (place : ℕ) (i : SettledSession) → HavePlayers slots is ps → slice_get is place ≡ Some i
    → (p : Player) × (slice_get ps place ≡ Some p) × HasPlayer slots i p
player-there slots [] ps place i all at = absurd (none-some i at)
player-there slots (j ∷ is) [] place i all at = absurd all
player-there slots (j ∷ is) (p ∷ ps) zero i all at = (p, refl, subst (λ (x : SettledSession). HasPlayer slots x p) (same_Some j i at) all.0)
player-there slots (j ∷ is) (p ∷ ps) (suc place) i all at = player-there slots is ps place i all.1 at

some-there : (now : List Player) (place : ℕ) → place < length now → (q : Player) × (slice_get now place ≡ Some q)
some-there [] place within = absurd (omega arith)
some-there (q ∷ now) zero within = (q, refl)
some-there (q ∷ now) (suc place) within = some-there now place (omega arith)

within-there : (is : List SettledSession) (place : ℕ) (i : SettledSession) → slice_get is place ≡ Some i → place < length is
within-there [] place i at = absurd (none-some i at)
within-there (j ∷ is) zero i at = omega arith
within-there (j ∷ is) (suc place) i at = let h = within-there is place i at in omega (arith, h)

-- a session that waits to be forked begins so
fork-start : (slots : List SlotState) (b : StartInput) (i : SettledSession) (fork : Fork) → HasPlayerBy slots b i (Waiting fork) → (b ≡ Forks fork.parent fork.at) × (fork.keys.items ≡ i.keys) × (fork.steps ≡ i.steps)
fork-start slots (Opens cpu quota drives) i fork h = absurd h
fork-start slots (Forks parent at) i fork h = (ap₂ (λ (a b : ℕ). Forks a b) (sym h.parent) (sym h.at), h.keys, h.steps)
fork-start slots (Restores x) i fork h = absurd h

-- one that has a standing of its own
true-own : (system : Disk) (inputs : List SettledSession) (all : RunStanding) (own : Option SessionStanding) (i : SettledSession) (s : SessionStanding) → own ≡ Some s → StandsThere system (start_of inputs i) i s
    → IsTrueOf system inputs all own i
true-own system inputs all own i s is there =
    subst (λ (o : Option SessionStanding). IsTrueOf system inputs all o i) (sym is) (record { there = there; ahead = tt })

-- one that is still to be forked from one that has
true-fork : (system : Disk) (inputs : List SettledSession) (all : RunStanding) (own : Option SessionStanding) (i : SettledSession) (s : SessionStanding) (parent at : ℕ) → own ≡ None → i.start ≡ Forks parent at
    → standing_at all parent ≡ Some s → (s.done ≤ at) × AllBefore at (take s.pressed i.keys) → StandsThere system (start_of inputs i) i s → IsTrueOf system inputs all own i
true-fork system inputs all own i s parent at none begins stands early there =
    subst (λ (o : Option SessionStanding). IsTrueOf system inputs all o i) (sym none)
    (record {
      there = subst (λ (b : StartInput). IfSome (stands_by all None b) (StandsThere system (start_of inputs i) i)) (sym begins)
          (subst (λ (o : Option SessionStanding). IfSome o (StandsThere system (start_of inputs i) i)) (sym stands) there);
      ahead = subst (λ (b : StartInput). IsBeforeFork None (stands_by all None b) i.keys b) (sym begins)
          (subst (λ (o : Option SessionStanding). IsBeforeFork None o i.keys (Forks parent at)) (sym stands) early);
    })

module _ (inputs : List SettledSession) (old h : Host) (ps now : List Player) (pressable : ArePressable old.system inputs) (all : HavePlayers old.slots inputs ps) (come : HaveBecome old h ps now) where
  ready : AllReady old.system old.slots ps
  ready = all_ready old.system old.slots inputs ps all pressable

  -- a session that went so far by the keys and for the steps of this one
  stands-by : (i : SettledSession) (keys : List Key) (steps : ℕ) (start s : MachineState) (pace : Pace) (console list : List ℕ) → keys ≡ i.keys → steps ≡ i.steps → start ≡ start_of inputs i
      → IsOn h.system keys steps start pace console list s → IsQuiet s
      → StandsThere old.system (start_of inputs i) i (record { pressed = pace.pressed; done = pace.done; console = console; list = list; saving = saving_of h s })
  stands-by i keys steps start s pace console list same_keys same_steps same_start on quiet =
      let first = subst (λ (ks : List Key). IsOn h.system ks steps start pace console list s) same_keys on in
      let second = subst (λ (n : ℕ). IsOn h.system i.keys n start pace console list s) same_steps first in
      let third : IsOn h.system i.keys i.steps (start_of inputs i) pace console list s = subst (λ (x : MachineState). IsOn h.system i.keys i.steps x pace console list s) same_start second in
      let there = stands-on h.system i (start_of inputs i) s pace console list third quiet in
      subst (λ (d : Disk). StandsThere d (start_of inputs i) i (record { pressed = pace.pressed; done = pace.done; console = console; list = list; saving = saving_of h s })) come.rest.system there

  playing-true : (place : ℕ) (i : SettledSession) (p : Player) (slot : ScriptedSlot) → HasPlayer old.slots i p → slice_get now place ≡ Some (Playing slot) → IsPlayerGoing old.slots ps h p slot →
      IsTrueOf old.system inputs (standing_of h now) (standing_at (standing_of h now) place) i
  playing-true place i p slot has at going =
      let s = going.resting.playing.now in
      let there = stands-by i (script_keys slot) (player_steps p) going.start s slot.pace slot.console.items slot.list.items (going.keys ∙ keys_are old.system old.slots h.slots inputs ps all i.start i p has)
      (steps_are old.system old.slots h.slots inputs ps all i.start i p has) (start_is old.system old.slots h.slots inputs ps all i.start i p going.start has going.started)
      going.resting.playing.on going.resting.quiet in
      true-own old.system inputs (standing_of h now) (standing_at (standing_of h now) place) i (standing_of_slot h slot s)
      (standing-there h now place (Playing slot) at ∙ ap (option_map (standing_of_slot h slot)) going.resting.playing.stands) there

  waiting-true : (place : ℕ) (i : SettledSession) (fork : Fork) → HasPlayer old.slots i (Waiting fork) → slice_get now place ≡ Some (Waiting fork) →
      IsTrueOf old.system inputs (standing_of h now) (standing_at (standing_of h now) place) i
  waiting-true place i fork has at =
      let given = waiting-given old h ps now place fork ready come at in
      let wait = given.2 in
      let slot = wait.parent in
      let source = parent-of old h ps now place fork slot ready come at wait.plays in
      let going = source.going in
      let s = going.resting.playing.now in
      let begins = fork-start old.slots i.start i fork has in
      let on = on-fork h.system (script_keys slot) source.own (player_steps (Playing source.first)) fork.at fork.steps going.start slot.pace slot.console.items slot.list.items s wait.early wait.done given.1.within
      source.order going.resting.playing.on in
      let keys : keys_before fork.at (script_keys slot) ++ source.own ≡ i.keys = sym source.keys ∙ begins.1 in
      let before : AllBefore fork.at (take slot.pace.pressed i.keys) =
      subst (λ (ks : List Key). AllBefore fork.at (take slot.pace.pressed ks)) keys
      (subst (λ (ks : List Key). AllBefore fork.at ks) (sym (taken-before fork.at slot.pace.pressed (script_keys slot) source.own wait.early going.resting.playing.on.within)) wait.early) in
      let there = stands-by i (keys_before fork.at (script_keys slot) ++ source.own) fork.steps going.start s (forked_pace slot.pace fork.steps) slot.console.items slot.list.items (sym source.keys ∙ begins.1) begins.2
      (start_is old.system old.slots h.slots inputs ps all i.start i (Waiting fork) going.start has (ap (player_slot old.slots) source.given_so ∙ going.started)) on going.resting.quiet in
      true-fork old.system inputs (standing_of h now) (standing_at (standing_of h now) place) i (standing_of_slot h slot s) fork.parent fork.at (standing-there h now place (Waiting fork) at) begins.0
      (standing-there h now fork.parent (Playing slot) wait.plays ∙ ap (option_map (standing_of_slot h slot)) going.resting.playing.stands) (wait.done, before) there

  each-true : (place : ℕ) (i : SettledSession) (p q : Player) → slice_get now place ≡ Some q → HasPlayer old.slots i p → StandsAs old.slots ps now h p q →
      IsTrueOf old.system inputs (standing_of h now) (standing_at (standing_of h now) place) i
  each-true place i p (Playing slot) at has stands = playing-true place i p slot has at stands
  each-true place i p (Waiting fork) at has stands = waiting-true place i fork (subst (λ (x : Player). HasPlayer old.slots i x) stands.0 has) at

  at-place : (place : ℕ) (o : Option SettledSession) → slice_get inputs place ≡ o → IfSome o (IsTrueOf old.system inputs (standing_of h now) (standing_at (standing_of h now) place))
  at-place place None there = tt
  at-place place (Some i) there =
      let within = within-there inputs place i there in
      let long = player-long old.slots inputs ps all in
      let same = come.long in
      let mine = player-there old.slots inputs ps place i all there in
      let q = some-there now place (omega (arith, within, long, same)) in
      each-true place i mine.0 q.0 q.1 mine.2 (come.each place mine.0 q.0 mine.1 q.1)

  pub true-standing : IsTrueStanding old.system inputs (standing_of h now)
  true-standing = record {
    long = length-map now (standing_of_player h) ∙ come.long ∙ player-long old.slots inputs ps all;
    each = λ place. at-place place (slice_get inputs place) refl;
  }

pub kept-is_true : KeptIsTrue
kept-is_true inputs old h players now pressable all come = true-standing inputs old h players now pressable all come
