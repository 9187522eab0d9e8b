-- What a checkpoint says of one session more.
use Rattle.std.proofs.Common.{◌≡◌, ◌∙◌, ◌<◌, ◌+◌, ℕ, zero, suc, List, [], ◌∷◌, ◌++◌, Option, None, Some, ap, arith, drop, get_or, length, map, refl, subst, sym, take}
use Rattle.std.specs.Prelude.{option_and_then, option_map}
use Rattle.std.proofs.lemmas.List.{map-append, map_more}
use Rattle.std.proofs.lemmas.Option.{none-some, same_Some}
use Rattle.cpm_checkpoint.specs.CheckpointBytes.{SessionValue, session_value, session_values}
use Rattle.cpm_checkpoint.specs.declared.checkpoint.CheckpointSession.{CheckpointSession}
use Rattle.cpm_run.specs.Kept.{kept_view, standing_view}
use Rattle.cpm_run.specs.Rest.{RunStanding, SessionStanding, standing_if_begun, standing_read}
use Rattle.cpm_run.specs.declared.standing.KeptSession.{KeptSession}

-- a session and others, where both are read
abbrev read-both : Option (Option SessionStanding) → Option RunStanding → Option RunStanding
read-both m r = option_and_then (λ s. option_map (λ ss. s ∷ ss) r) m

read-behind : (m : Option (Option SessionStanding)) (r more : Option RunStanding) (ss : RunStanding) (s : Option SessionStanding) → read-both m r ≡ Some ss
    → ((rs : RunStanding) → r ≡ Some rs → more ≡ Some (rs ++ s ∷ [])) → read-both m more ≡ Some (ss ++ s ∷ [])
read-behind None r more ss s is next = absurd (none-some ss is)
read-behind (Some a) None more ss s is next = absurd (none-some ss is)
read-behind (Some a) (Some rs) more ss s is next =
    ap (λ (r : Option RunStanding). option_map (λ xs. a ∷ xs) r) (next rs refl) ∙ ap (λ (xs : RunStanding). Some (xs ++ s ∷ [])) (same_Some (a ∷ rs) ss is)

pub read-one-more : (vs : List (Option SessionValue)) (v : Option SessionValue) (ss : RunStanding) (s : Option SessionStanding) → standing_read vs ≡ Some ss → standing_if_begun v ≡ Some s
    → standing_read (vs ++ v ∷ []) ≡ Some (ss ++ s ∷ [])
read-one-more [] v ss s is one =
    ap (λ (m : Option (Option SessionStanding)). read-both m (Some [])) one ∙ ap (λ (xs : RunStanding). Some (xs ++ s ∷ [])) (same_Some [] ss is)
read-one-more (w ∷ vs) v ss s is one =
    read-behind (standing_if_begun w) (standing_read vs) (standing_read (vs ++ v ∷ [])) ss s is (λ rs are. read-one-more vs v rs s are one)

both-none : (m : Option (Option SessionStanding)) → read-both m None ≡ None
both-none None = refl
both-none (Some a) = refl

pub none_left : {A : Type 0} → (o : Option A) → ((x : A) → o ≡ Some x → ⊥) → o ≡ None
none_left {A} None unless = refl
none_left {A} (Some x) unless = absurd (unless x refl)

-- one of the sessions of a checkpoint can't be read
pub read-none : (cs : List (Option CheckpointSession)) (i : ℕ) (c : Option CheckpointSession) → i < length cs → c ≡ get_or cs i c → standing_if_begun (option_map session_value c) ≡ None
    → standing_read (session_values cs) ≡ None
read-none [] i c within is none = absurd (omega (arith, within))
read-none (x ∷ cs) zero c within is none =
    ap (λ (m : Option (Option SessionStanding)). read-both m (standing_read (session_values cs))) (ap (λ (y : Option CheckpointSession). standing_if_begun (option_map session_value y)) (sym is) ∙ none)
read-none (x ∷ cs) (suc i) c within is none =
    ap (λ (r : Option RunStanding). read-both (standing_if_begun (option_map session_value x)) r) (read-none cs i c (omega (arith, within)) is none)
    ∙ both-none (standing_if_begun (option_map session_value x))

-- of the sessions of a checkpoint one more was read
pub read-more : (cs : List (Option CheckpointSession)) (i : ℕ) (c : Option CheckpointSession) (ss more : RunStanding) (s : Option SessionStanding) → i < length cs → c ≡ get_or cs i c
    → standing_read (session_values (take i cs)) ≡ Some ss → standing_if_begun (option_map session_value c) ≡ Some s → more ≡ ss ++ s ∷ []
    → standing_read (session_values (take (i + 1) cs)) ≡ Some more
read-more cs i c ss more s within is before one are =
    ap standing_read (map_more (option_map session_value) cs i c within ∙ ap (λ (x : Option CheckpointSession). session_values (take i cs) ++ option_map session_value x ∷ []) (sym is))
    ∙ read-one-more (session_values (take i cs)) (option_map session_value c) ss s before one ∙ ap (λ (xs : RunStanding). Some xs) (sym are)

-- one session more was written, where these are of what is kept
pub written-more : (cs : List (Option CheckpointSession)) (c : Option CheckpointSession) (ks : List (Option KeptSession)) (n : ℕ) (k : Option KeptSession) (more : List (Option CheckpointSession)) → n < length ks → k ≡ get_or ks n k
    → standing_read (session_values cs) ≡ Some (standing_view (take n ks)) → standing_if_begun (option_map session_value c) ≡ Some (option_map kept_view k) → more ≡ cs ++ c ∷ []
    → standing_read (session_values more) ≡ Some (standing_view (take (n + 1) ks))
written-more cs c ks n k more within is before one are =
    ap (λ (xs : List (Option CheckpointSession)). standing_read (session_values xs)) are
    ∙ ap standing_read (map-append (option_map session_value) cs (c ∷ []))
    ∙ read-one-more (session_values cs) (option_map session_value c) (standing_view (take n ks)) (option_map kept_view k) before one
    ∙ ap (λ (x : Option KeptSession). Some (standing_view (take n ks) ++ option_map kept_view x ∷ [])) is
    ∙ ap (λ (xs : RunStanding). Some xs) (sym (map_more (option_map kept_view) ks n k within))
