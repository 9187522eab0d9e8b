-- Bytes that are appended one after another.
use Rattle.std.proofs.Common.{◌≡◌, ◌∙◌, ℕ, List, ◌++◌, ap, append_assoc}

pub five_appended : (a b c d e old first second third fourth new : List ℕ) → first ≡ old ++ a → second ≡ first ++ b → third ≡ second ++ c
    → fourth ≡ third ++ d → new ≡ fourth ++ e → new ≡ old ++ (a ++ (b ++ (c ++ (d ++ e))))
five_appended a b c d e old first second third fourth new one two three four five =
    five ∙ ap (λ (x : List ℕ). x ++ e) (four ∙ ap (λ (x : List ℕ). x ++ d) (three ∙ ap (λ (x : List ℕ). x ++ c)
    (two ∙ ap (λ (x : List ℕ). x ++ b) one))) ∙ joined
  where
    joined : ((((old ++ a) ++ b) ++ c) ++ d) ++ e ≡ old ++ (a ++ (b ++ (c ++ (d ++ e))))
    joined = simp append_assoc
