-- The recording that a session is played by, and the place of what passes a test.
use Rattle.std.proofs.Common.{◌≡◌, ◌∙◌, ◌<◌, ◌≤◌, ◌+◌, ℕ, Bool, true, false, cond, if◌then◌else◌, List, length, drop, get_or, take, Some, None, ap, sym, arith, refl}
use Rattle.std.specs.Prelude.{nat_lt}
use Rattle.std.specs.Str.{bytes_eq}
use Rattle.std.proofs.lemmas.Bool.Decides.{nat_tests}
use Rattle.std.proofs.lemmas.List.{at_drop_all, drop_more, take_all}
use Rattle.cpm_batch.specs.Sources.{replay_of}
use Rattle.cpm_batch.specs.declared.source.Replay.{Replay}

-- ---- going through recordings

replays_from : (rs : List Replay) (i : ℕ) (d : Replay) (name : List ℕ) → i < length rs
    → replay_of (drop i rs) name ≡ (if bytes_eq (get_or rs i d).session.now name then Some (get_or rs i d).file.now else replay_of (drop (i + 1) rs) name)
replays_from rs i d name within = ap (λ xs. replay_of xs name) (drop_more rs i d within)

-- the one in turn is of the session, or not
pub replay_here : (rs : List Replay) (i : ℕ) (d : Replay) (name : List ℕ) → i < length rs → bytes_eq (get_or rs i d).session.now name ≡ true → replay_of (drop i rs) name ≡ Some (get_or rs i d).file.now
replay_here rs i d name within same =
    replays_from rs i d name within ∙ ap (λ (b : Bool). if b then Some (get_or rs i d).file.now else replay_of (drop (i + 1) rs) name) same

pub replay_later : (rs : List Replay) (i : ℕ) (d : Replay) (name : List ℕ) → i < length rs → bytes_eq (get_or rs i d).session.now name ≡ false
    → replay_of (drop (i + 1) rs) name ≡ replay_of (drop i rs) name
replay_later rs i d name within other =
    sym (replays_from rs i d name within ∙ ap (λ (b : Bool). if b then Some (get_or rs i d).file.now else replay_of (drop (i + 1) rs) name) other)

-- none is left
pub no_replay : (rs : List Replay) (i : ℕ) (name : List ℕ) → length rs ≤ i → replay_of (drop i rs) name ≡ None
no_replay rs i name past = at_drop_all (λ (rest : List Replay). replay_of rest name) rs i past

-- ---- a place that was found, or not

pub place_is : (t : Bool) (first place : ℕ) → cond t (Some first) None ≡ Some place → first ≡ place
place_is true first place found = cc
place_is false first place found = absurd (cc)

pub past_all : (first : ℕ) (xs : List ℕ) → cond (nat_lt first (length xs)) (Some first) None ≡ None → take first xs ≡ xs
past_all first xs none = by_test (nat_lt first (length xs)) refl none
  where
    by_test : (t : Bool) → nat_lt first (length xs) ≡ t → cond t (Some first) None ≡ None → take first xs ≡ xs
    by_test true e none = absurd (cc)
    by_test false e none = take_all first xs (grind (arith, nat_tests))
