-- A round of turns, step by step.
use Rattle.std.proofs.Common.{◌≡◌, ◌≢◌, ℕ, zero, suc, [], ◌∷◌, ◌+◌, ◌-◌, ◌<◌, ◌≤◌, min, nat_le, ◌==◌, ◌||◌, Bool, true, false, Some, ◌⊎◌, inl, inr, ⊎_elim, List, length, take, set, refl, sym, ap, ◌∙◌, subst, arith, slice_get, length-set}
use Rattle.std.proofs.lemmas.Bool.Decides.{nat_tests}
use Rattle.std.proofs.lemmas.Bool.{cases_lt, or_parts, true≢false}
use Rattle.std.proofs.lemmas.List.{set-get_or}
use Rattle.std.proofs.lemmas.Option.{get_or_from_slice_get, none-some, same_Some}
use Rattle.cpm_slots.specs.Host.{Host, slot_at}
use Rattle.cpm_machine.specs.MachineState.{MachineState}
use Rattle.cpm_play.specs.declared.player.Fork.{Fork}
use Rattle.cpm_play.specs.declared.player.Player.{Player}
use Rattle.cpm_play.specs.declared.player.Player.TheVariants.{Playing, Waiting}
use Rattle.cpm_play.specs.declared.scripted_slot.ScriptedSlot.{ScriptedSlot}
use Rattle.cpm_play.specs.ScriptedSlots.{AreDifferent, IsNone, IsResting, Moves, script_keys, steps_of}
use Rattle.cpm_play.specs.Players.{AllBefore, AllReady, ChangesPlayerAt, HaveBecome, IsFar, IsPlayerGoing, IsForkWaiting, KeepsPlaying, LeavesFewer, NoneIsDue, StandsAs, has_fork, ids_of, is_due, is_over, is_fork, left_in_player, players_left, pages_of, waits}
use Rattle.cpm_play.proofs.PlaceLemmas.{at-other, at-set, same-at, sum-none, sum-set, within-at}
use Rattle.cpm_play.proofs.PlayerLemmas.{apart-at, going-in, given-at, ids-kept, none-at, playing-waiting, same-playing}

-- ---- forks that are due

pub keeps-on : (a b d : List Player) → KeepsPlaying a b → KeepsPlaying b d → KeepsPlaying a d
keeps-on a b d k l = record { long = l.long ∙ k.long; playing = λ i slot at. l.playing i slot (k.playing i slot at) }

pub fewer-on : (a b d : List Player) → LeavesFewer a b → LeavesFewer b d → LeavesFewer a d
fewer-on a b d (inl less) (inl more) = inl (omega (arith, less, more))
fewer-on a b d (inl less) (inr same) = inl (subst (λ (x : List Player). players_left x < players_left a) (sym same) less)
fewer-on a b d (inr same) (inl more) = inl (subst (λ (x : List Player). players_left d < players_left x) same more)
fewer-on a b d (inr same) (inr also) = inr (also ∙ same)

far-less : (parent m n place : ℕ) (players : List Player) → n ≤ m → IsFar parent m players place → IsFar parent n players place
far-less parent m n place players less far = λ fork slot waits mine plays.
    let there = far fork slot waits mine plays in
    let room = there.1 in
    (there.0, omega (arith, less, room))

far-kept : (parent n place k : ℕ) (old new : List Player) → ChangesPlayerAt place old new → slice_get new parent ≡ slice_get old parent → k ≢ place → IsFar parent n old k → IsFar parent n new k
far-kept parent n place k old new change same ne far = λ fork slot waits mine plays. far fork slot (sym (change.others k ne) ∙ waits) mine (sym same ∙ plays)

pub far-more : (parent steps more place : ℕ) (old new : List Player) → ((k : ℕ) → k < place → IsFar parent steps old k) → ChangesPlayerAt place old new → slice_get new parent ≡ slice_get old parent → IsFar parent more new place →
    (k : ℕ) → k < place + 1 → IsFar parent (min steps more) new k
far-more parent steps more place old new far change same now k less = by_test (k == place) refl
  where
    by_test : (b : Bool) → (k == place) ≡ b → IsFar parent (min steps more) new k
    by_test true e =
        let here : k ≡ place = grind (arith, nat_tests) in
        subst (λ n. IsFar parent (min steps more) new n) (sym here) (far-less parent more (min steps more) place new (omega arith) now)
    by_test false e =
        let ne : k ≢ place = λ h. (let no : ⊥ = grind (arith, nat_tests) in no) in
        far-less parent steps (min steps more) k new (omega arith) (far-kept parent steps place k old new change same ne (far k (omega (arith, less, ne))))

pub far-all : (parent steps place : ℕ) (players : List Player) → length players ≤ place → ((k : ℕ) → k < place → IsFar parent steps players k) → NoneIsDue parent steps players
far-all parent steps place players all far k fork slot waits mine plays =
    let within = within-at players k (Waiting fork) waits in
    far k (omega (arith, all, within)) fork slot waits mine plays

-- where no session is to be forked, none is due, and none comes to be by a turn
no-fork-at : (players : List Player) (place : ℕ) (p : Player) → has_fork players ≡ false → slice_get players place ≡ Some p → waits p ≡ false
no-fork-at [] place p none at = absurd (none-some p at)
no-fork-at (x ∷ xs) zero p none at = ap waits (sym (same_Some x p at)) ∙ (or_parts (waits x) (has_fork xs) none).0
no-fork-at (x ∷ xs) (suc place) p none at = no-fork-at xs place p (or_parts (waits x) (has_fork xs) none).1 at

pub far-none : (parent steps : ℕ) (players : List Player) → has_fork players ≡ false → NoneIsDue parent steps players
far-none parent steps players none place fork slot there mine plays =
    absurd (true≢false (no-fork-at players place (Waiting fork) none there))

pub none-set : (players : List Player) (place : ℕ) (slot : ScriptedSlot) → has_fork players ≡ false → has_fork (set players place (Playing slot)) ≡ false
none-set [] place slot none = refl
none-set (x ∷ xs) zero slot none = (or_parts (waits x) (has_fork xs) none).1
none-set (x ∷ xs) (suc place) slot none =
    let parts = or_parts (waits x) (has_fork xs) none in
    ap (λ b. b || has_fork (set xs place (Playing slot))) parts.0 ∙ none-set xs place slot parts.1

-- ---- a turn

-- What is known where a player has a turn.
pub record IsTurn (old h new : Host) (given players : List Player) (place steps : ℕ) (slot next : ScriptedSlot) : Type 0 where
  pub ready : AllReady old.system old.slots given
  pub come : HaveBecome old h given players
  pub plays : slice_get players place ≡ Some (Playing slot)
  pub moves : Moves slot next h new
  pub goes : (n : ℕ) (start : MachineState) → IsResting n start slot h → IsResting n start next new
  pub early : (at : ℕ) → slot.pace.done < at → AllBefore at (take slot.pace.pressed (script_keys slot)) → AllBefore at (take next.pace.pressed (script_keys next))
  pub done : next.pace.done ≤ slot.pace.done + steps
  pub far : NoneIsDue place steps players

module _ (old h new : Host) (given players : List Player) (place steps : ℕ) (slot next : ScriptedSlot) (k : IsTurn old h new given players place steps slot next) where
  abbrev after : List Player
  after = set players place (Playing next)

  ids-after : ids_of after ≡ ids_of players
  ids-after = ids-kept place players slot next k.plays k.moves.id

  -- the one that had the turn
  turned : (p : Player) → IsPlayerGoing old.slots given h p slot → IsPlayerGoing old.slots given new p next
  turned p going = record {
    start = going.start;
    started = going.started;
    keys = k.moves.keys ∙ going.keys;
    resting = k.goes _ going.start going.resting;
  }

  -- one that waits for it, or for another
  waits-after : (i : ℕ) (fork : Fork) → slice_get players i ≡ Some (Waiting fork) → IsForkWaiting players fork → IsForkWaiting after fork
  waits-after i fork at w = by_test (fork.parent == place) refl
    where
      here : fork.parent ≡ place → IsForkWaiting after fork
      here e =
          let plays : slice_get players fork.parent ≡ Some (Playing slot) = ap (slice_get players) e ∙ k.plays in
          let same : w.parent ≡ slot = same-playing w.parent slot (same-at (slice_get players fork.parent) (Playing w.parent) (Playing slot) w.plays plays) in
          let far = k.far i fork slot at e k.plays in
          let before = subst (λ (s : ScriptedSlot). AllBefore fork.at (take s.pace.pressed (script_keys s))) same w.early in
          let reach = far.1 in
          let done = k.done in
          record {
            parent = next;
            plays = ap (slice_get after) e ∙ at-set players place (Playing slot) (Playing next) k.plays;
            done = omega (arith, reach, done);
            early = k.early fork.at (not-due fork slot far.0) before;
          }
        where
          not-due : (f : Fork) (s : ScriptedSlot) → is_due f s ≡ false → s.pace.done < f.at
          not-due f s none = by_case (nat_le f.at s.pace.done) refl none
            where
              by_case : (b : Bool) → nat_le f.at s.pace.done ≡ b → (b || (steps_of s == 0)) ≡ false → s.pace.done < f.at
              by_case true e' n = absurd (let no : ⊥ = cc in no)
              by_case false e' n = grind (arith, nat_tests)

      there : fork.parent ≢ place → IsForkWaiting after fork
      there ne = record { parent = w.parent; plays = at-other players place fork.parent (Playing next) ne ∙ w.plays; done = w.done; early = w.early }

      by_test : (b : Bool) → (fork.parent == place) ≡ b → IsForkWaiting after fork
      by_test true e = here (grind (arith, nat_tests))
      by_test false e = there (λ same. (let no : ⊥ = grind (arith, nat_tests) in no))

  -- the others
  leaves : (id : ℕ) → id ≢ slot.id.0 → slot_at id new.slots ≡ slot_at id h.slots
  leaves id ne = k.moves.others.others id ((λ e. ne (sym e)), tt)

  stands-after : (i : ℕ) (p q : Player) → i ≢ place → slice_get players i ≡ Some q → StandsAs old.slots given players h p q → StandsAs old.slots given after new p q
  stands-after i p (Playing other) ne at going =
      going-in old.slots given p other h new k.moves.others.system (leaves other.id.0 (apart-at i place players other slot k.come.differ ne at k.plays)) going
  stands-after i p (Waiting fork) ne at s = (s.0, waits-after i fork at s.1)

  each-after : (i : ℕ) (p q : Player) → slice_get given i ≡ Some p → slice_get after i ≡ Some q → StandsAs old.slots given after new p q
  each-after i p q at qt = by_test (i == place) refl
    where
      here : i ≡ place → StandsAs old.slots given after new p q
      here e =
          let there : slice_get given place ≡ Some p = ap (slice_get given) (sym e) ∙ at in
          let second : q ≡ Playing next = same-at (slice_get after place) q (Playing next) (ap (slice_get after) (sym e) ∙ qt) (at-set players place (Playing slot) (Playing next) k.plays) in
          subst (λ (x : Player). StandsAs old.slots given after new p x) (sym second) (turned p (k.come.each place p (Playing slot) there k.plays))

      by_test : (b : Bool) → (i == place) ≡ b → StandsAs old.slots given after new p q
      by_test true e = here (grind (arith, nat_tests))
      by_test false e =
          let ne : i ≢ place = λ same. (let no : ⊥ = grind (arith, nat_tests) in no) in
          let was = sym (at-other players place i (Playing next) ne) ∙ qt in
          stands-after i p q ne was (k.come.each i p q at was)

  pub come-turn : HaveBecome old new given (set players place (Playing next))
  come-turn =
      let orderly = k.moves.orderly k.come.orderly in
      let slots = k.come.slots in
      let numbers = k.come.numbers in
      let quotas = k.come.pages in
      let count = orderly.count in
      let same = orderly.quotas in
      let openings = k.moves.others.openings in
      let forks = sum-set is_fork players place (Playing slot) (Playing next) k.plays in
      let sums = sum-set (pages_of old.slots given) players place (Playing slot) (Playing next) k.plays in
      let later = k.come.later in
      record {
        long = length-set players place (Playing next) ∙ k.come.long;
        each = each-after;
        differ = subst AreDifferent (sym ids-after) k.come.differ;
        rest = record {
          system = k.moves.others.system ∙ k.come.rest.system;
          frames = k.moves.others.frames ∙ k.come.rest.frames;
          others = λ id less none. leaves id (λ e. none-at id place players slot (k.come.came id less none) k.plays (sym e)) ∙ k.come.rest.others id less none;
        };
        orderly = orderly.orderly;
        later = omega (arith, later, openings);
        counted = ⊎_elim (λ e. inl (openings ∙ e)) (λ l. inr (omega (arith, l, openings))) k.come.counted;
        came = λ id less none. subst (IsNone id) (sym ids-after) (k.come.came id less none);
        slots = omega (arith, slots, count, forks);
        numbers = omega (arith, numbers, openings, forks);
        pages = omega (arith, quotas, same, sums);
      }

-- ---- what is left

-- a place whose player has nothing left to do, and from which nothing is to be forked
abbrev pub IsIdle : List Player → ℕ → Type 0
IsIdle players place = (slot : ScriptedSlot) → slice_get players place ≡ Some (Playing slot) → (steps_of slot ≡ 0) × ((other : ℕ) (fork : Fork) → slice_get players other ≡ Some (Waiting fork) → fork.parent ≡ place → ⊥)

-- fewer are left, or as many, and nothing is left at the places so far
abbrev pub IsLeft : List Player → List Player → ℕ → Type 0
IsLeft old now place = (players_left now < players_left old) ⊎ ((players_left now ≡ players_left old) × ((k : ℕ) → k < place → IsIdle now k))

-- a turn of the player at a place, behind the forks that were due
pub left-turn : (old before players : List Player) (place steps : ℕ) (slot next : ScriptedSlot) → IsLeft old before place → LeavesFewer before players → NoneIsDue place steps players → slice_get players place ≡ Some (Playing slot) →
    steps_of next ≤ steps_of slot - 1 → IsLeft old (set players place (Playing next)) (place + 1)
left-turn old before players place steps slot next left fewer far plays fell = go left fewer
  where
    after : List Player
    after = set players place (Playing next)

    sums : players_left after + steps_of slot ≡ players_left players + steps_of next
    sums = sum-set left_in_player players place (Playing slot) (Playing next) plays

    less : players_left after ≤ players_left players
    less = let s = sums in let f = fell in omega (arith, s, f)

    -- where it had steps, fewer are left
    some : 0 < steps_of slot → players_left after < players_left players
    some more = let s = sums in let f = fell in omega (arith, s, f, more)

    due : (fork : Fork) → steps_of slot ≡ 0 → is_due fork slot ≡ true
    due fork none = by_case (nat_le fork.at slot.pace.done)
      where
        by_case : (b : Bool) → (b || (steps_of slot == 0)) ≡ true
        by_case true = refl
        by_case false = grind (arith, nat_tests)

    idle : steps_of slot ≡ 0 → ((k : ℕ) → k < place → IsIdle players k) → (k : ℕ) → k < place + 1 → IsIdle after k
    idle none earlier k below = by_test (k == place) refl
      where
        here : k ≡ place → IsIdle after k
        here e now at =
            let same : Playing now ≡ Playing next = same-at (slice_get after place) (Playing now) (Playing next) (ap (slice_get after) (sym e) ∙ at) (at-set players place (Playing slot) (Playing next) plays) in
            let is = ap steps_of (same-playing now next same) in
            let f = fell in
            let spent : steps_of now ≡ 0 = omega (arith, is, f, none) in (
              spent,
              λ other fork waits mine.
                  let ne : other ≢ place = λ o. playing-waiting next fork (same-at (slice_get after place) (Playing next) (Waiting fork) (at-set players place (Playing slot) (Playing next) plays) (ap (slice_get after) (sym o) ∙ waits)) in
                  let was = sym (at-other players place other (Playing next) ne) ∙ waits in
                  let bad = sym (due fork none) ∙ (far other fork slot was (mine ∙ e) plays).0 in
                  (let no : ⊥ = cc in no),
            )

        there : k ≢ place → k < place → IsIdle after k
        there ne less now at =
            let was = sym (at-other players place k (Playing next) ne) ∙ at in
            let idle = earlier k less now was in (
              idle.0,
              λ other fork waits mine.
                  let off : other ≢ place = λ o. playing-waiting next fork (same-at (slice_get after place) (Playing next) (Waiting fork) (at-set players place (Playing slot) (Playing next) plays) (ap (slice_get after) (sym o) ∙ waits)) in
                  idle.1 other fork (sym (at-other players place other (Playing next) off) ∙ waits) mine,
            )

        by_test : (b : Bool) → (k == place) ≡ b → IsIdle after k
        by_test true e = here (grind (arith, nat_tests))
        by_test false e = let ne : k ≢ place = λ same. (let no : ⊥ = grind (arith, nat_tests) in no) in there ne (omega (arith, below, ne))

    same-left : players_left before ≡ players_left old → players ≡ before → ((k : ℕ) → k < place → IsIdle before k) → IsLeft old after (place + 1)
    same-left as_many same earlier =
        let l = less in
        let s = ap players_left same in
        ⊎_elim (λ more. let m = some more in inl (omega (arith, m, s, as_many)))
        (λ none. let spent : steps_of slot ≡ 0 = omega (arith, none) in
        let whole = sums in let f = fell in
        inr (omega (arith, whole, f, spent, s, as_many), idle spent (subst (λ (ps : List Player). (k : ℕ) → k < place → IsIdle ps k) (sym same) earlier)))
        (cases_lt 0 (steps_of slot))

    go : IsLeft old before place → LeavesFewer before players → IsLeft old after (place + 1)
    go (inl under) (inl lower) = let l = less in inl (omega (arith, under, lower, l))
    go (inl under) (inr same) = let l = less in let s = ap players_left same in inl (omega (arith, under, s, l))
    go (inr even) (inl lower) = let l = less in let e = even.0 in inl (omega (arith, e, lower, l))
    go (inr even) (inr same) = same-left even.0 same even.1

-- where no player has a turn at a place, since it waits
pub left-waits : (old before players : List Player) (place : ℕ) → IsLeft old before place → LeavesFewer before players → ((slot : ScriptedSlot) → slice_get players place ≡ Some (Playing slot) → ⊥) → IsLeft old players (place + 1)
left-waits old before players place left fewer waits = go left fewer
  where
    go : IsLeft old before place → LeavesFewer before players → IsLeft old players (place + 1)
    go (inl under) (inl lower) = inl (omega (arith, under, lower))
    go (inl under) (inr same) = let s = ap players_left same in inl (omega (arith, under, s))
    go (inr even) (inl lower) = let e = even.0 in inl (omega (arith, e, lower))
    go (inr even) (inr same) =
        let s = ap players_left same in
        inr (s ∙ even.0, λ k below. by_test k below (k == place) refl)
      where
        by_test : (k : ℕ) → k < place + 1 → (b : Bool) → (k == place) ≡ b → IsIdle players k
        by_test k below true e = λ slot at. absurd (waits slot (ap (slice_get players) (sym (let h : k ≡ place = grind (arith, nat_tests) in h)) ∙ at))
        by_test k below false e =
            let ne : k ≢ place = λ h. (let no : ⊥ = grind (arith, nat_tests) in no) in
            subst (λ (ps : List Player). IsIdle ps k) (sym same) (even.1 k (omega (arith, below, ne)))

-- where the player at a place is passed by, since it executes no more and none is still to be forked
pub left-over : (old players : List Player) (place : ℕ) (p : Player) → IsLeft old players place → has_fork players ≡ false → slice_get players place ≡ Some p → is_over p ≡ true → IsLeft old players (place + 1)
left-over old players place (Playing slot) left none at over =
    let spent : steps_of slot ≡ 0 = grind (arith, nat_tests) in
    let same : set players place (Playing slot) ≡ players = ap (set players place) (sym (get_or_from_slice_get players place (Playing slot) (Playing slot) at)) ∙ set-get_or players place (Playing slot) in
    subst (λ (ps : List Player). IsLeft old ps (place + 1)) same (left-turn old players players place 1 slot slot left (inr refl) (far-none place 1 players none) at (omega (arith, spent)))
left-over old players place (Waiting fork) left none at over = absurd (true≢false (sym over))

-- a round leaves fewer, where some were left
pub left-round : (old h : Host) (given start now : List Player) (place : ℕ) → HaveBecome old h given now → length now ≤ place → 0 < players_left start → IsLeft start now place → players_left now < players_left start
left-round old h given start now place come all some (inl less) = less
left-round old h given start now place come all some (inr even) =
    let none : players_left now ≡ 0 = sum-none left_in_player now spent in
    let e = even.0 in
    absurd (let no : ⊥ = omega (arith, none, e, some) in no)
  where
    idle : (k : ℕ) (q : Player) → slice_get now k ≡ Some q → IsIdle now k
    idle k q at = let within = within-at now k q at in even.1 k (omega (arith, within, all))

    spent : (k : ℕ) (q : Player) → slice_get now k ≡ Some q → left_in_player q ≡ 0
    spent k (Playing slot) at = (idle k (Playing slot) at slot at).0
    spent k (Waiting fork) at =
        let there = given-at old h given now k (Waiting fork) come at in
        let w = there.2.1 in
        absurd ((idle fork.parent (Playing w.parent) w.plays w.parent w.plays).1 k fork at refl)
