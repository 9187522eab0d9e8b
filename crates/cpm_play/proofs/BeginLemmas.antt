-- Players before the first round: what waits in their slots is taken.
use Rattle.std.proofs.Common.{◌≡◌, ◌≢◌, ℕ, ◌+◌, ◌<◌, ◌≤◌, ◌==◌, Bool, true, false, Option, Some, inl, List, [], length, set, sum_by, take, refl, sym, ap, ◌∙◌, subst, arith, slice_get, length-set}
use Rattle.std.specs.Prelude.{IfSome}
use Rattle.std.proofs.lemmas.Bool.Decides.{nat_tests}
use Rattle.cpm_script.specs.declared.script.Key.{Key}
use Rattle.cpm_slots.specs.Host.{Host, SlotState, slot_at, IsHost}
use Rattle.cpm_machine.specs.MachineState.{MachineState}
use Rattle.cpm_play.specs.declared.pace.Pace.{Pace}
use Rattle.cpm_play.specs.declared.player.Fork.{Fork}
use Rattle.cpm_play.specs.declared.player.Player.{Player}
use Rattle.cpm_play.specs.declared.player.Player.TheVariants.{Playing, Waiting}
use Rattle.cpm_play.specs.declared.scripted_slot.ScriptedSlot.{ScriptedSlot}
use Rattle.cpm_play.specs.Pacing.{first_pace, IsOn}
use Rattle.cpm_play.specs.Playing.{IsQuiet}
use Rattle.cpm_play.specs.ScriptedSlots.{AreDifferent, IsNone, IsPlaying, IsReady, IsResting, LeavesOthers, Moves, StaysOrderly, script_keys, steps_of}
use Rattle.cpm_play.specs.Players.{AllBefore, AllDiffer, AllReady, HaveBecome, IsForkReady, IsForkWaiting, IsPlayerReady, StandsAs, fork_pages, forks_of, ids_of, is_fork, pages_of, player_keys, player_steps, start_at}
use Rattle.cpm_play.proofs.PaceLemmas.{on-start}
use Rattle.cpm_play.proofs.PlaceLemmas.{at-other, at-set, same-at, sum-set, within-at}
use Rattle.cpm_play.proofs.PlayerLemmas.{apart-at, ids-kept, none-at, playing-in, same-playing}

-- ---- on the way

-- a session is at its start; what waits in its slot was taken where it stands before some place
pub record IsPlayerBegun (i place : ℕ) (slots : List SlotState) (given : List Player) (h : Host) (player : Player) (slot : ScriptedSlot) : Type 0 where
  pub start : MachineState
  pub started : start_at slots given player ≡ Some start
  pub keys : script_keys slot ≡ player_keys player
  pub playing : IsPlaying (player_steps player) start slot h
  pub quiet : i < place → IsQuiet playing.now

abbrev pub BegunAs : (i place : ℕ) → List SlotState → (given now : List Player) → Host → Player → Player → Type 0
BegunAs i place slots given now h player (Playing slot) = IsPlayerBegun i place slots given h player slot
BegunAs i place slots given now h player (Waiting fork) = (player ≡ Waiting fork) × IsForkWaiting now fork

-- all players, and those before a place have what waited
pub record HaveBegun (old h : Host) (given now : List Player) (place : ℕ) : Type 0 where
  pub long : length now ≡ length given
  pub each : (i : ℕ) (p q : Player) → slice_get given i ≡ Some p → slice_get now i ≡ Some q → BegunAs i place old.slots given now h p q
  pub ids : ids_of now ≡ ids_of given
  pub rest : LeavesOthers (ids_of given) old h
  pub orderly : StaysOrderly old h
  pub forks : forks_of now ≡ forks_of given
  pub pages : sum_by (pages_of old.slots given) now ≡ fork_pages old.slots given

-- ---- at first

playing-ready : (h : Host) (p : ScriptedSlot) (ready : IsReady h.system h.slots p) → IsPlaying (steps_of p) ready.start p h
playing-ready h p ready =
    let unplayed = ready.unplayed in
    let steps = steps_of p in
    let all : steps ≡ p.pace.until = let done = unplayed.done in omega arith in
    let pace : p.pace ≡ first_pace steps =
    ap (λ (n : ℕ). let x : Pace = record { pressed = n; done = p.pace.done; until = p.pace.until } in x) unplayed.pressed
    ∙ ap (λ (n : ℕ). let x : Pace = record { pressed = 0; done = n; until = p.pace.until } in x) unplayed.done
    ∙ ap (λ (n : ℕ). let x : Pace = record { pressed = 0; done = 0; until = n } in x) (sym all) in
    let on : IsOn h.system (script_keys p) steps ready.start (first_pace steps) [] [] ready.start = on-start h.system (script_keys p) steps ready.start ready.order in
    let first = subst (λ (x : Pace). IsOn h.system (script_keys p) steps ready.start x [] [] ready.start) (sym pace) on in
    let second = subst (λ (xs : List ℕ). IsOn h.system (script_keys p) steps ready.start p.pace xs [] ready.start) (sym unplayed.console) first in
    let third : IsOn h.system (script_keys p) steps ready.start p.pace p.console.items p.list.items ready.start =
    subst (λ (xs : List ℕ). IsOn h.system (script_keys p) steps ready.start p.pace p.console.items xs ready.start) (sym unplayed.list) second in
    record { now = ready.start; stands = ready.opened; room = ready.room; on = third }

module _ (h : Host) (players : List Player) (ready : AllReady h.system h.slots players) where
  ready-at : (place : ℕ) (p : Player) → slice_get players place ≡ Some p → IsPlayerReady h.system h.slots players p
  ready-at place p at = subst (λ (o : Option Player). IfSome o (IsPlayerReady h.system h.slots players)) at (ready place)

  waiting-at : (fork : Fork) → IsForkReady h.system h.slots players fork → IsForkWaiting players fork
  waiting-at fork k =
      let parent : IsReady h.system h.slots k.parent = ready-at fork.parent (Playing k.parent) k.plays in
      let done = parent.unplayed.done in
      record {
        parent = k.parent;
        plays = k.plays;
        done = omega (arith, done);
        early = subst (λ n. AllBefore fork.at (take n (script_keys k.parent))) (sym parent.unplayed.pressed) tt;
      }

  begun-ready : (i : ℕ) (p : Player) → IsPlayerReady h.system h.slots players p → BegunAs i 0 h.slots players players h p p
  begun-ready i (Playing slot) k = record {
    start = k.start;
    started = k.opened;
    keys = refl;
    playing = playing-ready h slot k;
    quiet = λ less. absurd (let no : ⊥ = omega (arith, less) in no);
  }
  begun-ready i (Waiting fork) k = (refl, waiting-at fork k)

  pub begun-start : IsHost h → HaveBegun h h players players 0
  begun-start host = record {
    long = refl;
    each = λ i p q at bt. subst (λ (x : Player). BegunAs i 0 h.slots players players h p x) (same-at (slice_get players i) p q at bt) (begun-ready i p (ready-at i p at));
    ids = refl;
    rest = record { system = refl; frames = refl; openings = refl; others = λ id none. refl };
    orderly = record { orderly = host; count = refl; quotas = refl };
    forks = refl;
    pages = refl;
  }

-- ---- one player more

-- What is known where what waits in the slot of a player was taken.
pub record IsTakenAt (old h new : Host) (given players : List Player) (place : ℕ) (slot next : ScriptedSlot) : Type 0 where
  pub differ : AllDiffer given
  pub begun : HaveBegun old h given players place
  pub plays : slice_get players place ≡ Some (Playing slot)
  pub moves : Moves slot next h new
  pub goes : (n : ℕ) (start : MachineState) → IsPlaying n start slot h → IsResting n start next new
  pub pace : next.pace ≡ slot.pace

module _ (old h new : Host) (given players : List Player) (place : ℕ) (slot next : ScriptedSlot) (k : IsTakenAt old h new given players place slot next) where
  abbrev after : List Player
  after = set players place (Playing next)

  all-differ : AllDiffer players
  all-differ = subst AreDifferent (sym k.begun.ids) k.differ

  ids-after : ids_of after ≡ ids_of players
  ids-after = ids-kept place players slot next k.plays k.moves.id

  -- the one at the place
  taken-so : (p : Player) → IsPlayerBegun place place old.slots given h p slot → IsPlayerBegun place (place + 1) old.slots given new p next
  taken-so p begun =
      let resting = k.goes _ begun.start begun.playing in
      record { start = begun.start; started = begun.started; keys = k.moves.keys ∙ begun.keys; playing = resting.playing; quiet = λ less. resting.quiet }

  -- one that waits for it, or for another
  waits-after : (fork : Fork) → IsForkWaiting players fork → IsForkWaiting after fork
  waits-after fork w = by_test (fork.parent == place) refl
    where
      here : fork.parent ≡ place → IsForkWaiting after fork
      here e =
          let plays : slice_get players fork.parent ≡ Some (Playing slot) = ap (slice_get players) e ∙ k.plays in
          let same : w.parent ≡ slot = same-playing w.parent slot (same-at (slice_get players fork.parent) (Playing w.parent) (Playing slot) w.plays plays) in
          let before = subst (λ (s : ScriptedSlot). AllBefore fork.at (take s.pace.pressed (script_keys s))) same w.early in
          let done = subst (λ (s : ScriptedSlot). s.pace.done ≤ fork.at) same w.done in
          record {
            parent = next;
            plays = ap (slice_get after) e ∙ at-set players place (Playing slot) (Playing next) k.plays;
            done = subst (λ (x : Pace). x.done ≤ fork.at) (sym k.pace) done;
            early = subst (λ (x : Pace). AllBefore fork.at (take x.pressed (script_keys next))) (sym k.pace)
                (subst (λ (ks : List Key). AllBefore fork.at (take slot.pace.pressed ks)) (sym k.moves.keys) before);
          }

      there : fork.parent ≢ place → IsForkWaiting after fork
      there ne = record { parent = w.parent; plays = at-other players place fork.parent (Playing next) ne ∙ w.plays; done = w.done; early = w.early }

      by_test : (b : Bool) → (fork.parent == place) ≡ b → IsForkWaiting after fork
      by_test true e = here (grind (arith, nat_tests))
      by_test false e = there (λ same. (let no : ⊥ = grind (arith, nat_tests) in no))

  leaves : (id : ℕ) → id ≢ slot.id.0 → slot_at id new.slots ≡ slot_at id h.slots
  leaves id ne = k.moves.others.others id ((λ e. ne (sym e)), tt)

  -- the others
  others-after : (i : ℕ) (p q : Player) → i ≢ place → slice_get players i ≡ Some q → BegunAs i place old.slots given players h p q → BegunAs i (place + 1) old.slots given after new p q
  unfolding playing-in
  others-after i p (Playing other) ne at begun = record {
    start = begun.start;
    started = begun.started;
    keys = begun.keys;
    playing = playing-in (player_steps p) begun.start other h new k.moves.others.system (leaves other.id.0 (apart-at i place players other slot all-differ ne at k.plays)) begun.playing;
    quiet = λ less. begun.quiet (omega (arith, less, ne));
  }
  others-after i p (Waiting fork) ne at s = (s.0, waits-after fork s.1)

  each-after : (i : ℕ) (p q : Player) → slice_get given i ≡ Some p → slice_get after i ≡ Some q → BegunAs i (place + 1) old.slots given after new p q
  each-after i p q at qt = by_test (i == place) refl
    where
      here : i ≡ place → BegunAs i (place + 1) old.slots given after new p q
      here e =
          let there : slice_get given place ≡ Some p = ap (slice_get given) (sym e) ∙ at in
          let second : q ≡ Playing next = same-at (slice_get after place) q (Playing next) (ap (slice_get after) (sym e) ∙ qt) (at-set players place (Playing slot) (Playing next) k.plays) in
          let P : ℕ → Type 0 = λ n. BegunAs n (place + 1) old.slots given after new p q in
          subst P (sym e)
          (subst (λ (x : Player). BegunAs place (place + 1) old.slots given after new p x) (sym second) (taken-so p (k.begun.each place p (Playing slot) there k.plays)))

      by_test : (b : Bool) → (i == place) ≡ b → BegunAs i (place + 1) old.slots given after new p q
      by_test true e = here (grind (arith, nat_tests))
      by_test false e =
          let ne : i ≢ place = λ same. (let no : ⊥ = grind (arith, nat_tests) in no) in
          let was = sym (at-other players place i (Playing next) ne) ∙ qt in
          others-after i p q ne was (k.begun.each i p q at was)

  pub begun-next : HaveBegun old new given (set players place (Playing next)) (place + 1)
  begun-next =
      let orderly = k.moves.orderly k.begun.orderly.orderly in
      let was = k.begun.forks in
      let were = k.begun.pages in
      let forks = sum-set is_fork players place (Playing slot) (Playing next) k.plays in
      let sums = sum-set (pages_of old.slots given) players place (Playing slot) (Playing next) k.plays in
      record {
        long = length-set players place (Playing next) ∙ k.begun.long;
        each = each-after;
        ids = ids-after ∙ k.begun.ids;
        rest = record {
          system = k.moves.others.system ∙ k.begun.rest.system;
          frames = k.moves.others.frames ∙ k.begun.rest.frames;
          openings = k.moves.others.openings ∙ k.begun.rest.openings;
          others = λ id none. leaves id (λ e. none-at id place players slot (subst (IsNone id) (sym k.begun.ids) none) k.plays (sym e)) ∙ k.begun.rest.others id none;
        };
        orderly = record { orderly = orderly.orderly; count = orderly.count ∙ k.begun.orderly.count; quotas = orderly.quotas ∙ k.begun.orderly.quotas };
        forks = omega (arith, was, forks);
        pages = omega (arith, were, sums);
      }

-- one that waits to be forked has no slot
pub begun-waits : (old h : Host) (given players : List Player) (place : ℕ) → ((slot : ScriptedSlot) → slice_get players place ≡ Some (Playing slot) → ⊥) → HaveBegun old h given players place → HaveBegun old h given players (place + 1)
begun-waits old h given players place waits k = record {
  long = k.long;
  each = λ i p q at qt. further i p q qt (k.each i p q at qt);
  ids = k.ids;
  rest = k.rest;
  orderly = k.orderly;
  forks = k.forks;
  pages = k.pages;
}
  where
    further : (i : ℕ) (p q : Player) → slice_get players i ≡ Some q → BegunAs i place old.slots given players h p q → BegunAs i (place + 1) old.slots given players h p q
    further i p (Playing slot) qt begun = record {
      start = begun.start;
      started = begun.started;
      keys = begun.keys;
      playing = begun.playing;
      quiet = λ less. begun.quiet (let ne : i ≢ place = λ e. waits slot (ap (slice_get players) (sym e) ∙ qt) in omega (arith, less, ne));
    }
    further i p (Waiting fork) qt s = s

-- ---- all of them

pub begun-all : (old h : Host) (given now : List Player) (place : ℕ) → AllDiffer given → length now ≤ place → HaveBegun old h given now place → HaveBecome old h given now
begun-all old h given now place differ all k =
    let openings = k.rest.openings in
    let count = k.orderly.count in
    let same = k.orderly.quotas in
    let forks = k.forks in
    let pages = k.pages in
    record {
      long = k.long;
      each = λ i p q at qt. stands i p q qt (k.each i p q at qt);
      differ = subst AreDifferent (sym k.ids) differ;
      rest = record { system = k.rest.system; frames = k.rest.frames; others = λ id less none. k.rest.others id none };
      orderly = k.orderly.orderly;
      later = omega (arith, openings);
      counted = inl openings;
      came = λ id less none. subst (IsNone id) (sym k.ids) none;
      slots = omega (arith, count, forks);
      numbers = omega (arith, openings, forks);
      pages = omega (arith, same, pages);
    }
  where
    stands : (i : ℕ) (p q : Player) → slice_get now i ≡ Some q → BegunAs i place old.slots given now h p q → StandsAs old.slots given now h p q
    stands i p (Playing slot) qt begun =
        let within = within-at now i (Playing slot) qt in
        record { start = begun.start; started = begun.started; keys = begun.keys; resting = record { playing = begun.playing; quiet = begun.quiet (omega (arith, within, all)) } }
    stands i p (Waiting fork) qt s = s
