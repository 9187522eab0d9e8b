-- One more element of an array. These stand in the place of a search in each loop.
use Rattle.std.proofs.Common.{◌≡◌, ◌<◌, ◌+◌, ℕ, List, [], ◌∷◌, ◌++◌, length, get_or, drop, map, Option, Some, None, refl, ap, ◌∙◌, sym}
use Rattle.std.specs.Prelude.{Result, Ok, Err, option_map, option_and_then}
use Rattle.std.specs.Borrow.{Bor}
use Rattle.std.proofs.lemmas.List.{drop_more}
use Rattle.toml.specs.Data.{as_str}
use Rattle.toml.specs.View.{items_view, view}
use Rattle.toml.specs.declared.value.Value.{Value}
use Rattle.cpm_config.specs.Entries.{SessionEntries, Text, ◌>>=◌, or_wanted, result_map, session_draft_view, session_in, sessions_of, texts_of}
use Rattle.cpm_config.specs.declared.draft.SessionDraft.{SessionDraft}
use Rattle.cpm_config.specs.declared.fault.KeyFault.{KeyFault}
use Rattle.cpm_config.specs.declared.field.ConfigKey.{ConfigKey}

mapped : {A B : Type 0} (f : A → B) (xs : List A) (x : A) (rest : List B) → map f (xs ++ x ∷ []) ++ rest ≡ map f xs ++ f x ∷ rest
mapped f [] x rest = refl
mapped f (y ∷ ys) x rest = ap (λ zs. f y ∷ zs) (mapped f ys x rest)

abbrev now : Bor Text → Text
now t = t.now

next : (vs : List Value) (i : ℕ) (v : Value) → i < length vs → v ≡ get_or vs i v → v ∷ drop (i + 1) vs ≡ drop i vs
next vs i v within at = ap (λ (x : Value). x ∷ drop (i + 1) vs) at ∙ sym (drop_more vs i v within)

texts_more : (p : ConfigKey) (done : List (Bor Text)) (t : Bor Text) (r : Option (List Text)) → result_map (λ ts. map now (done ++ t ∷ []) ++ ts) (or_wanted p r)
    ≡ result_map (λ ts. map now done ++ ts) (or_wanted p (option_map (λ ts. t.now ∷ ts) r))
texts_more p done t None = refl
texts_more p done t (Some ts) = ap (λ (us : List Text). Ok us) (mapped now done t ts)

-- a text more, of an array that is read as texts
pub texts_step : (p : ConfigKey) (done new : List (Bor Text)) (vs : List Value) (i : ℕ) (v : Value) (t : Bor Text) → i < length vs → v ≡ get_or vs i v
    → Some t.now ≡ as_str (view v) → new ≡ done ++ t ∷ []
    → result_map (λ ts. map now new ++ ts) (or_wanted p (texts_of (items_view (drop (i + 1) vs))))
    ≡ result_map (λ ts. map now done ++ ts) (or_wanted p (texts_of (items_view (drop i vs))))
texts_step p done new vs i v t within at text pushed =
    let rest = texts_of (items_view (drop (i + 1) vs)) in
    ap (λ (xs : List (Bor Text)). result_map (λ ts. map now xs ++ ts) (or_wanted p rest)) pushed
    ∙ texts_more p done t rest
    ∙ ap (λ (o : Option Text). result_map (λ ts. map now done ++ ts) (or_wanted p (option_and_then (λ u. option_map (λ ts. u ∷ ts) rest) o))) text
    ∙ ap (λ (xs : List Value). result_map (λ ts. map now done ++ ts) (or_wanted p (texts_of (items_view xs)))) (next vs i v within at)

sessions_more : (done : List SessionDraft) (s : SessionDraft) (r : Result (List SessionEntries) KeyFault) → result_map (λ ss. map session_draft_view (done ++ s ∷ []) ++ ss) r
    ≡ result_map (λ ss. map session_draft_view done ++ ss) (result_map (λ ss. session_draft_view s ∷ ss) r)
sessions_more done s (Ok ss) = ap (λ (us : List SessionEntries). Ok us) (mapped session_draft_view done s ss)
sessions_more done s (Err e) = refl

-- a session more, of an array that is read as sessions
pub sessions_step : (n : ℕ) (done new : List SessionDraft) (vs : List Value) (i : ℕ) (v : Value) (s : SessionDraft) → i < length vs → v ≡ get_or vs i v
    → session_in n (view v) ≡ Ok (session_draft_view s) → new ≡ done ++ s ∷ []
    → result_map (λ ss. map session_draft_view new ++ ss) (sessions_of (n + 1) (items_view (drop (i + 1) vs)))
    ≡ result_map (λ ss. map session_draft_view done ++ ss) (sessions_of n (items_view (drop i vs)))
sessions_step n done new vs i v s within at read pushed =
    let rest = sessions_of (n + 1) (items_view (drop (i + 1) vs)) in
    ap (λ (xs : List SessionDraft). result_map (λ ss. map session_draft_view xs ++ ss) rest) pushed
    ∙ sessions_more done s rest
    ∙ ap (λ (r : Result SessionEntries KeyFault). result_map (λ ss. map session_draft_view done ++ ss) (r >>= (λ u. result_map (λ ss. u ∷ ss) rest))) (sym read)
    ∙ ap (λ (xs : List Value). result_map (λ ss. map session_draft_view done ++ ss) (sessions_of n (items_view xs))) (next vs i v within at)
