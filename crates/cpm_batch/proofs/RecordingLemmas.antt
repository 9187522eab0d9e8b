-- What a recording says from a count on.
use Rattle.std.proofs.Common.{◌≡◌, ◌∙◌, ℕ, Bool, true, List, [], ◌∷◌, map, Result, Ok, ap, refl, sym, subst, arith}
use Rattle.std.specs.Prelude.{IfOk, nat_le}
use Rattle.std.proofs.lemmas.Bool.{and_parts}
use Rattle.std.proofs.lemmas.Bool.Decides.{nat_tests}
use Rattle.cpm_script.specs.Cues.{Counted, cue_text}
use Rattle.cpm_script.specs.Laws.{AreFrom, RecordingsInOrder}
use Rattle.cpm_script.specs.Recording.{AreTyped, recording}
use Rattle.cpm_script.specs.declared.cue.Cue.{Cue}
use Rattle.cpm_script.specs.declared.cue.Cue.TheVariants.{Key as Timed}
use Rattle.cpm_script.specs.declared.fault.LineFault.{LineFault}
use Rattle.cpm_script.specs.declared.script.Key.{Key}
use Rattle.cpm_batch.specs.Sources.{IsRecordingOf, are_late}

counted_said : (keys : List Key) → map cue_text (map Timed keys) ≡ map Counted keys
counted_said [] = refl
counted_said (k ∷ ks) = ap (λ cs. Counted k ∷ cs) (counted_said ks)

typed_from : (n : ℕ) (keys : List Key) → AreTyped n keys → AreFrom n keys
typed_from n [] typed = tt
typed_from n (k ∷ ks) typed = (typed.0, typed_from k.count ks typed.3)

late_from : (at n : ℕ) (keys : List Key) → AreTyped n keys → are_late at keys ≡ true → AreFrom at keys
late_from at n [] typed late = tt
late_from at n (k ∷ ks) typed late =
    let first : nat_le at k.count ≡ true = (and_parts (nat_le at k.count) (are_late at ks) late).0 in
    (grind (arith, nat_tests), typed_from k.count ks typed.3)

-- the code's values
pub recorded_says : (text : List ℕ) (at : ℕ) (keys now then_now : List Key) (cues : List Cue) (late : Bool) → RecordingsInOrder → recording text ≡ Ok keys → now ≡ keys → then_now ≡ keys
    → late ≡ are_late at now → late ≡ true → cues ≡ map Timed then_now → IsRecordingOf at text (map cue_text cues)
recorded_says text at keys now then_now cues late order read same same_then test is made =
    let typed : AreTyped 0 keys = subst (λ (r : Result (List Key) (ℕ × LineFault)). IfOk r (AreTyped 0)) read (order text) in
    record {
      keys = keys;
      read = read;
      late = late_from at 0 keys typed (ap (are_late at) (sym same) ∙ sym test ∙ is);
      says = ap (map cue_text) (made ∙ ap (map Timed) same_then) ∙ counted_said keys;
    }
