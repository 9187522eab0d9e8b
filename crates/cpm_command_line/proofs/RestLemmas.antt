-- The words behind the first one.
use Rattle.std.proofs.Common.{◌≡◌, ◌∙◌, ◌-◌, ap, sym, subst, ℕ, List, drop, length, map, take}
use Rattle.std.proofs.Math.Seq.{take-length}
use Rattle.std.proofs.lemmas.List.{drop-map, length-drop}
use Rattle.std.specs.Borrow.{Bor}
use Rattle.clap.specs.Words.{Text}

-- the slice of references from 1 on stands for the words without the first
pub rest_words : (xs : List (Bor Text)) → drop 1 (map (λ w. w.now) xs) ≡ map (λ w. w.now) (take (length xs - 1) (drop 1 xs))
rest_words xs =
    let whole : take (length xs - 1) (drop 1 xs) ≡ drop 1 xs =
    subst (λ (n : ℕ). take n (drop 1 xs) ≡ drop 1 xs) (length-drop 1 xs) (take-length (drop 1 xs)) in
    drop-map (λ w. w.now) 1 xs ∙ ap (map (λ w. w.now)) (sym whole)
