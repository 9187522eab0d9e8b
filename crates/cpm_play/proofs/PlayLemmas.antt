-- Players after the last round.
use Rattle.std.proofs.Common.{◌≡◌, ℕ, zero, suc, ◌<◌, nat_lt, ◌||◌, Bool, true, false, Option, Some, inl, ⊎_elim, List, [], ◌∷◌, take, refl, sym, ap, ◌∙◌, subst, arith, slice_get}
use Rattle.std.specs.Prelude.{IfSome}
use Rattle.std.proofs.lemmas.Bool.Decides.{nat_tests}
use Rattle.std.proofs.lemmas.List.Sums.{sum_by-cons}
use Rattle.std.proofs.lemmas.Option.{none-some, same_Some}
use Rattle.cpm_geom.specs.Disk.{Disk}
use Rattle.cpm_script.specs.declared.script.Key.{Key}
use Rattle.cpm_slots.specs.Host.{Host, IsHost}
use Rattle.cpm_play.specs.declared.pace.Pace.{Pace}
use Rattle.cpm_play.specs.declared.player.Fork.{Fork}
use Rattle.cpm_play.specs.declared.player.Player.{Player}
use Rattle.cpm_play.specs.declared.player.Player.TheVariants.{Playing, Waiting}
use Rattle.cpm_play.specs.declared.scripted_slot.ScriptedSlot.{ScriptedSlot}
use Rattle.cpm_play.specs.Pacing.{first_pace, IsOn}
use Rattle.cpm_play.specs.Playing.{IsPlayed}
use Rattle.cpm_play.specs.ScriptedSlots.{IsPlaying, IsReady, IsResting, script_keys, steps_of}
use Rattle.cpm_play.specs.Players.{AllBefore, AllDiffer, AllPlayed, AllReady, HaveBecome, HasPlayed, HasRoomForForks, IsForkReady, IsPlayerReady, IsForkWaiting, StandsAs, forks_of, fork_pages, still_plays, is_fork, left_in_player, players_left, pages_of, player_steps}
use Rattle.cpm_play.proofs.PaceLemmas.{on-start, on-end}
use Rattle.cpm_play.proofs.PlaceLemmas.{same-at, sum-none}

-- ---- after the last

pub some-left : (players : List Player) → still_plays players ≡ true → 0 < players_left players
some-left [] goes = absurd (let no : ⊥ = cc in no)
some-left (p ∷ ps) goes = by_test (nat_lt 0 (left_in_player p)) refl goes (some-left ps)
  where
    by_test : (b : Bool) → nat_lt 0 (left_in_player p) ≡ b → (b || still_plays ps) ≡ true → (still_plays ps ≡ true → 0 < players_left ps) → 0 < players_left (p ∷ ps)
    by_test true e h rest =
        let all = sum_by-cons left_in_player p ps in
        let first : 0 < left_in_player p = grind (arith, nat_tests) in
        omega (arith, all, first)
    by_test false e h rest =
        let all = sum_by-cons left_in_player p ps in
        let some = rest h in
        omega (arith, all, some)

-- nothing is left to any of them
first-none : (p : Player) (rest : Bool) → (nat_lt 0 (left_in_player p) || rest) ≡ false → (left_in_player p ≡ 0) × (rest ≡ false)
first-none p rest none = by_test (nat_lt 0 (left_in_player p)) refl none
  where
    by_test : (b : Bool) → nat_lt 0 (left_in_player p) ≡ b → (b || rest) ≡ false → (left_in_player p ≡ 0) × (rest ≡ false)
    by_test true e h = absurd (let no : ⊥ = cc in no)
    by_test false e h = (grind (arith, nat_tests), h)

none-left : (players : List Player) (place : ℕ) (p : Player) → still_plays players ≡ false → slice_get players place ≡ Some p → left_in_player p ≡ 0
none-left [] place p none at = absurd (none-some p at)
none-left (x ∷ xs) zero p none at = ap left_in_player (sym (same_Some x p at)) ∙ (first-none x (still_plays xs) none).0
none-left (x ∷ xs) (suc place) p none at = none-left xs place p (first-none x (still_plays xs) none).1 at

module _ (old h : Host) (players now : List Player) (come : HaveBecome old h players now) (none : still_plays now ≡ false) where
  played : (p q : Player) → left_in_player q ≡ 0 → StandsAs old.slots players now h p q → HasPlayed old.system old.slots h.slots players p q
  played p (Playing slot) spent going =
      let playing = going.resting.playing in
      let end : IsPlayed h.system (script_keys slot) (player_steps p) going.start playing.now slot.console.items slot.list.items =
      on-end h.system (script_keys slot) (player_steps p) going.start slot.pace slot.console.items slot.list.items playing.now playing.on going.resting.quiet spent in
      record {
        slot = slot;
        plays = refl;
        start = going.start;
        last = playing.now;
        started = going.started;
        stands = playing.stands;
        session = subst (λ (ks : List Key). IsPlayed old.system ks (player_steps p) going.start playing.now slot.console.items slot.list.items) going.keys
            (subst (λ (d : Disk). IsPlayed d (script_keys slot) (player_steps p) going.start playing.now slot.console.items slot.list.items) come.rest.system end);
      }
  played p (Waiting fork) spent stands = absurd (let no : ⊥ = omega (arith, spent) in no)

  pub played-all : AllPlayed old h players now
  played-all = record {
    long = come.long;
    differ = come.differ;
    each = λ place p q at bt. played p q (none-left now place q none bt) (come.each place p q at bt);
  }

  -- none waits
  no-fork : (place : ℕ) (q : Player) → slice_get now place ≡ Some q → is_fork q ≡ 0
  no-fork place (Playing slot) at = refl
  no-fork place (Waiting fork) at = let spent = none-left now place (Waiting fork) none at in absurd (let no : ⊥ = omega (arith, spent) in no)

  no-pages : (place : ℕ) (q : Player) → slice_get now place ≡ Some q → pages_of old.slots players q ≡ 0
  no-pages place (Playing slot) at = refl
  no-pages place (Waiting fork) at = let spent = none-left now place (Waiting fork) none at in absurd (let no : ⊥ = omega (arith, spent) in no)

  pub room-all : HasRoomForForks old (forks_of players) (fork_pages old.slots players)
  room-all =
      let forks = sum-none is_fork now no-fork in
      let pages = sum-none (pages_of old.slots players) now no-pages in
      let slots = come.slots in
      let numbers = come.numbers in
      let quotas = come.pages in
      let few = come.orderly.few in
      let within = come.orderly.quotas in
      let frames = come.rest.frames in
      record {
        slots = omega (arith, forks, slots, few);
        numbers = λ some. ⊎_elim (λ same. absurd (let no : ⊥ = omega (arith, forks, numbers, some, same) in no)) (λ less. omega (arith, forks, numbers, less)) come.counted;
        frames = omega (arith, pages, quotas, within, frames);
      }
