-- The lines of keys, and the records of all sessions.
use Rattle.std.proofs.Common.{◌≡◌, ◌∙◌, ◌<◌, ◌≤◌, ◌+◌, ℕ, List, [], ◌∷◌, ◌++◌, Option, Some, length, map, refl, sym, subst, ap, slice_get, get_or, drop, append-nil, append_assoc}
use Rattle.std.specs.Prelude.{option_map}
use Rattle.std.specs.List.{All}
use Rattle.std.proofs.lemmas.List.{at_drop_all, drop_more}
use Rattle.std.proofs.lemmas.List.Elements.{All-drop}
use Rattle.std.proofs.lemmas.Option.{get_or_from_slice_get, slice_get-get_or, slice_get-map, slice_get_within}
use Rattle.cpm_script.specs.Recording.{key_line, recorded}
use Rattle.cpm_script.specs.declared.script.Key.{Key}
use Rattle.cpm_store.specs.Writes.{NamedBytes}
use Rattle.cpm_run.specs.Run.{record_of, record_outputs, stop_of}
use Rattle.cpm_run.specs.Settled.{SettledSession, settled_view}
use Rattle.cpm_run.specs.Settling.{AreBelow80h}
use Rattle.cpm_run.specs.declared.options.RecordFile.{RecordFile}
use Rattle.cpm_run.specs.declared.report.SessionStop.{SessionStop}
use Rattle.cpm_run.specs.declared.settled.SettledInput.{SettledInput}

-- ---- lines

pub lines-begun : (keys : List Key) (lines : List ℕ) → lines ≡ [] → lines ++ recorded (drop 0 keys) ≡ recorded keys
lines-begun keys lines none = ap (λ (ls : List ℕ). ls ++ recorded keys) none

pub lines-more : (keys : List Key) (i : ℕ) (d : Key) (lines more : List ℕ) → i < length keys → more ≡ lines ++ key_line (get_or keys i d) → lines ++ recorded (drop i keys) ≡ recorded keys
    → more ++ recorded (drop (i + 1) keys) ≡ recorded keys
lines-more keys i d lines more within is all =
    ap (λ (ls : List ℕ). ls ++ recorded (drop (i + 1) keys)) is ∙ append_assoc lines (key_line (get_or keys i d)) (recorded (drop (i + 1) keys))
    ∙ ap (λ (ks : List Key). lines ++ recorded ks) (sym (drop_more keys i d within)) ∙ all

pub lines-all : (keys : List Key) (i : ℕ) (lines : List ℕ) → length keys ≤ i → lines ++ recorded (drop i keys) ≡ recorded keys → lines ≡ recorded keys
lines-all keys i lines past all = sym (append-nil lines) ∙ sym (at_drop_all (λ (ks : List Key). lines ++ recorded ks) keys i past) ∙ all

-- ---- records

none_left : (rs : List RecordFile) → record_outputs rs [] ≡ []
none_left [] = refl
none_left (r ∷ rs) = refl

pub records-past : (rs : List RecordFile) (ss : List SettledInput) (i : ℕ) (outputs : List NamedBytes) → length ss ≤ i
    → outputs ++ record_outputs (drop i rs) (map settled_view (drop i ss)) ≡ record_outputs rs (map settled_view ss) → outputs ≡ record_outputs rs (map settled_view ss)
records-past rs ss i outputs past all =
    sym (append-nil outputs) ∙ ap (λ (os : List NamedBytes). outputs ++ os) (sym (none_left (drop i rs)))
    ∙ sym (at_drop_all (λ (xs : List SettledInput). outputs ++ record_outputs (drop i rs) (map settled_view xs)) ss i past) ∙ all

pub records-all : (rs : List RecordFile) (ss : List SettledInput) (i : ℕ) (outputs : List NamedBytes) → length rs ≤ i
    → outputs ++ record_outputs (drop i rs) (map settled_view (drop i ss)) ≡ record_outputs rs (map settled_view ss) → outputs ≡ record_outputs rs (map settled_view ss)
records-all rs ss i outputs past all =
    sym (append-nil outputs) ∙ sym (at_drop_all (λ (xs : List RecordFile). outputs ++ record_outputs xs (map settled_view (drop i ss))) rs i past) ∙ all

pub records-more : (rs : List RecordFile) (ss : List SettledInput) (i : ℕ) (d : RecordFile) (e : SettledInput) (own : List Key) (outputs more : List NamedBytes) → i < length rs → i < length ss
    → e ≡ get_or ss i e → own ≡ drop e.before e.keys.items → more ≡ outputs ++ record_of (get_or rs i d) own
    → outputs ++ record_outputs (drop i rs) (map settled_view (drop i ss)) ≡ record_outputs rs (map settled_view ss)
    → more ++ record_outputs (drop (i + 1) rs) (map settled_view (drop (i + 1) ss)) ≡ record_outputs rs (map settled_view ss)
records-more rs ss i d e own outputs more there too at own_is is all =
    let rest = record_outputs (drop (i + 1) rs) (map settled_view (drop (i + 1) ss)) in
    ap (λ (os : List NamedBytes). os ++ rest) is ∙ append_assoc outputs (record_of (get_or rs i d) own) rest
    ∙ ap (λ (ks : List Key). outputs ++ (record_of (get_or rs i d) ks ++ rest)) (own_is ∙ ap (λ (x : SettledInput). drop x.before x.keys.items) at)
    ∙ ap (λ (xs : List SettledInput). outputs ++ record_outputs (get_or rs i d ∷ drop (i + 1) rs) (map settled_view xs)) (sym (drop_more ss i e too))
    ∙ ap (λ (xs : List RecordFile). outputs ++ record_outputs xs (map settled_view (drop i ss))) (sym (drop_more rs i d there)) ∙ all

-- own keys are below 80h
pub own-below : (ss : List SettledInput) (i : ℕ) (e : SettledInput) (own : List Key) → All (λ s. AreBelow80h s.keys) (map settled_view ss) → i < length ss → e ≡ get_or ss i e → own ≡ drop e.before e.keys.items
    → AreBelow80h own
own-below ss i e own below within at is =
    let there : slice_get (map settled_view ss) i ≡ Some (settled_view (get_or ss i e)) = slice_get-map settled_view ss i ∙ ap (option_map settled_view) (slice_get-get_or ss i e within) in
    let here = get_or_from_slice_get (map settled_view ss) i (settled_view (get_or ss i e)) (settled_view e) there in
    let all = subst (λ (s : SettledSession). AreBelow80h s.keys) here (below i (settled_view e) (slice_get_within (map settled_view ss) i (settled_view (get_or ss i e)) there)) in
    subst AreBelow80h (sym (is ∙ ap (λ (x : SettledInput). drop x.before x.keys.items) at)) (All-drop (λ k. k.byte < 128) (get_or ss i e).before (get_or ss i e).keys.items all)

-- ---- how sessions stopped

pub stops_all : (ss : List SettledInput) → map (λ i. stop_of (settled_view i)) ss ≡ map stop_of (map settled_view ss)
stops_all [] = refl
stops_all (s ∷ ss) = ap (λ (ts : List SessionStop). stop_of (settled_view s) ∷ ts) (stops_all ss)
