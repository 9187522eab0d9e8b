-- The words of recordings, one after another.
use Rattle.std.proofs.Common.{◌≡◌, ◌∙◌, ◌<◌, ◌≤◌, ◌+◌, inr, ℕ, Bool, true, false, if◌then◌else◌, List, [], ◌∷◌, ◌++◌, length, drop, get_or, map, Option, Some, None, Result, Ok, Err, ap, sym, refl}
use Rattle.std.specs.Prelude.{◌||◌, is_some, not, option_map}
use Rattle.std.specs.List.{list_any}
use Rattle.std.specs.Str.{bytes_eq}
use Rattle.std.specs.Borrow.{Bor}
use Rattle.std.proofs.lemmas.List.{at_drop_all, drop_more, map_push}
use Rattle.cpm_batch.specs.declared.source.Replay.{Replay}
use Rattle.cpm_config.specs.declared.config.SessionConfig.{SessionConfig}
use Rattle.cpm_host.specs.declared.error.HostError.{HostError}
use Rattle.cpm_config.specs.Rules.{place_of, session_view}
use Rattle.cpm_commands.specs.Replays.{IsNextRefused, IsReplayRefusal, NamedReplay, NotParted, NotThere, Repeated, ReplayFault}
use Rattle.cpm_commands.specs.Replays.{is_replayed, next_replay, or_refused, replay_by, replay_parts, replay_view, replays_from}

-- what the words that are left come to, after these
abbrev pub from_here : List SessionConfig → List Replay → List (Bor (List ℕ)) → ℕ → Result (List NamedReplay) ReplayFault
from_here sessions before words i = replays_from sessions (map replay_view before) (map (λ w. w.now) (drop i words))

here : (sessions : List SessionConfig) (before : List Replay) (words : List (Bor (List ℕ))) (i : ℕ) (d : Bor (List ℕ)) → i < length words
    → from_here sessions before words i
    ≡ or_refused (next_replay sessions (map replay_view before) (get_or words i d).now) (λ r. replays_from sessions (map replay_view before ++ r ∷ []) (map (λ w. w.now) (drop (i + 1) words)))
here sessions before words i d within = ap (λ (ws : List (Bor (List ℕ))). replays_from sessions (map replay_view before) (map (λ w. w.now) ws)) (drop_more words i d within)

-- one more
pub replay_more : (sessions : List SessionConfig) (before now more : List Replay) (r : Replay) (words : List (Bor (List ℕ))) (i : ℕ) (d : Bor (List ℕ)) → now ≡ before → i < length words
    → next_replay sessions (map replay_view now) (get_or words i d).now ≡ Ok (replay_view r) → more ≡ before ++ r ∷ [] → from_here sessions more words (i + 1) ≡ from_here sessions before words i
replay_more sessions before now more r words i d same within taken pushed =
    let rest = map (λ w. w.now) (drop (i + 1) words) in
    let next = ap (λ (rs : List Replay). next_replay sessions (map replay_view rs) (get_or words i d).now) (sym same) ∙ taken in
    ap (λ (rs : List Replay). replays_from sessions (map replay_view rs) rest) pushed ∙ ap (λ (ns : List NamedReplay). replays_from sessions ns rest) (map_push replay_view before r)
    ∙ sym (here sessions before words i d within ∙ ap (λ (t : Result NamedReplay ReplayFault). or_refused t (λ x. replays_from sessions (map replay_view before ++ x ∷ []) rest)) next)

-- the word in turn is refused
pub replay_refused : (sessions : List SessionConfig) (before now : List Replay) (words : List (Bor (List ℕ))) (i : ℕ) (d : Bor (List ℕ)) (e : HostError) → now ≡ before → i < length words
    → from_here sessions before words i ≡ replays_from sessions [] (map (λ w. w.now) words) → IsNextRefused sessions (map replay_view now) (get_or words i d).now e
    → IsReplayRefusal sessions (map (λ w. w.now) words) e
replay_refused sessions before now words i d e same within so_far h =
    let rest = map (λ w. w.now) (drop (i + 1) words) in
    let next = ap (λ (rs : List Replay). next_replay sessions (map replay_view rs) (get_or words i d).now) (sym same) ∙ h.1 in
    inr (
      h.0,
      sym so_far ∙ here sessions before words i d within ∙ ap (λ (t : Result NamedReplay ReplayFault). or_refused t (λ x. replays_from sessions (map replay_view before ++ x ∷ []) rest)) next,
      h.2,
    )

-- none is left
pub replays_done : (sessions : List SessionConfig) (before : List Replay) (words : List (Bor (List ℕ))) (i : ℕ) → length words ≤ i
    → from_here sessions before words i ≡ replays_from sessions [] (map (λ w. w.now) words) → replays_from sessions [] (map (λ w. w.now) words) ≡ Ok (map replay_view before)
replays_done sessions before words i past so_far =
    sym so_far ∙ at_drop_all (λ (ws : List (Bor (List ℕ))). replays_from sessions (map replay_view before) (map (λ w. w.now) ws)) words i past

-- ---- how a word is judged

any_replayed : (name : List ℕ) (rs : List Replay) → is_replayed (map replay_view rs) name ≡ list_any (λ r. bytes_eq r.session.now name) rs
any_replayed name [] = refl
any_replayed name (r ∷ rs) = ap (λ (t : Bool). bytes_eq r.session.now name || t) (any_replayed name rs)

pub not_parted : (sessions : List SessionConfig) (before : List Replay) (word : List ℕ) (found : Option Replay) → option_map replay_view found ≡ replay_parts word → found ≡ None
    → next_replay sessions (map replay_view before) word ≡ Err (NotParted word)
not_parted sessions before word found seen none = ap (replay_by sessions (map replay_view before) word) (sym seen ∙ ap (option_map replay_view) none)

module _ (sessions : List SessionConfig) (before : List Replay) (word : List ℕ) (found : Option Replay) (r : Replay) (seen : option_map replay_view found ≡ replay_parts word) where
  abbrev judged : (there again : Bool) → Result NamedReplay ReplayFault
  judged there again = if not there then Err (NotThere r.session.now) else (if again then Err (Repeated r.session.now) else Ok (replay_view r))

  next_is : found ≡ Some r → next_replay sessions (map replay_view before) word ≡ judged (is_some (place_of r.session.now (map session_view sessions))) (is_replayed (map replay_view before) r.session.now)
  next_is is = ap (replay_by sessions (map replay_view before) word) (sym seen ∙ ap (option_map replay_view) is)

  -- the code's values
  pub not_there : (there : Bool) → found ≡ Some r → there ≡ is_some (place_of r.session.now (map session_view sessions)) → there ≡ false → next_replay sessions (map replay_view before) word ≡ Err (NotThere r.session.now)
  not_there there is test none = next_is is ∙ ap (λ (t : Bool). judged t (is_replayed (map replay_view before) r.session.now)) (sym test ∙ none)

  pub repeated : (there again : Bool) → found ≡ Some r → there ≡ is_some (place_of r.session.now (map session_view sessions)) → there ≡ true
      → again ≡ list_any (λ x. bytes_eq x.session.now r.session.now) before → again ≡ true → next_replay sessions (map replay_view before) word ≡ Err (Repeated r.session.now)
  repeated there again is test some told twice =
      next_is is ∙ ap (λ (t : Bool). judged t (is_replayed (map replay_view before) r.session.now)) (sym test ∙ some) ∙ ap (judged true) (any_replayed r.session.now before ∙ sym told ∙ twice)

  pub taken : (there again : Bool) → found ≡ Some r → there ≡ is_some (place_of r.session.now (map session_view sessions)) → there ≡ true
      → again ≡ list_any (λ x. bytes_eq x.session.now r.session.now) before → again ≡ false → next_replay sessions (map replay_view before) word ≡ Ok (replay_view r)
  taken there again is test some told new =
      next_is is ∙ ap (λ (t : Bool). judged t (is_replayed (map replay_view before) r.session.now)) (sym test ∙ some) ∙ ap (judged true) (any_replayed r.session.now before ∙ sym told ∙ new)
