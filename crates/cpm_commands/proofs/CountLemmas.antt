-- The count of the last key of a script.
use Rattle.std.proofs.Common.{◌≡◌, ◌∙◌, ◌<◌, ◌≤◌, ◌+◌, ℕ, List, [], ◌∷◌, ap, drop, get_or, length, map, refl, sym}
use Rattle.std.proofs.lemmas.List.{at_drop_all, drop_more}
use Rattle.cpm_script.specs.Cues.{Awaited, Counted, CueText, Pressed, cue_text, last_cue_count}
use Rattle.cpm_script.specs.declared.cue.Cue.{Cue}

one_more : (n : ℕ) (c : CueText) (cs : List CueText) → last_cue_count (last_cue_count n (c ∷ [])) cs ≡ last_cue_count n (c ∷ cs)
one_more n (Counted key) cs = refl
one_more n (Awaited text) cs = refl
one_more n (Pressed byte) cs = refl

-- one cue further
pub count_more : (last more : ℕ) (cs : List Cue) (i : ℕ) (c : Cue) → i < length cs → c ≡ get_or cs i c → more ≡ last_cue_count last (cue_text c ∷ [])
    → last_cue_count more (map cue_text (drop (i + 1) cs)) ≡ last_cue_count last (map cue_text (drop i cs))
count_more last more cs i c within is taken =
    ap (λ (n : ℕ). last_cue_count n (map cue_text (drop (i + 1) cs))) taken ∙ one_more last (cue_text c) (map cue_text (drop (i + 1) cs))
    ∙ sym (ap (λ (rest : List Cue). last_cue_count last (map cue_text rest)) (drop_more cs i c within ∙ ap (λ (x : Cue). x ∷ drop (i + 1) cs) (sym is)))

pub count_all : (last : ℕ) (cs : List Cue) (i : ℕ) → length cs ≤ i → last ≡ last_cue_count last (map cue_text (drop i cs))
count_all last cs i past = sym (at_drop_all (λ (rest : List Cue). last_cue_count last (map cue_text rest)) cs i past)
