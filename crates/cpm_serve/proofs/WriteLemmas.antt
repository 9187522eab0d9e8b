-- What stands of bytes that were written, or begun.
use Rattle.std.proofs.Common.{◌≡◌, ◌∙◌, ℕ, List, [], ◌++◌, length, take, drop, Option, sym, ap, subst, append-nil, append_assoc, take-append-drop}
use Rattle.std.proofs.Math.Seq.{take-append_seam}
use Rattle.std.specs.Prelude.{OnErr, Result, Ok, Err}
use Rattle.std.specs.Io.KnownBytes.{Appends, Keeps, WriteAppends}
use Rattle.std.proofs.KnownBytes.{Appends-kept, Appends-trans}
use Rattle.cpm_serve.specs.Written.{AppendsFirst}

-- so much of a line was written, and this is left of it
abbrev pub IsLineWritten : (line rest : List ℕ) (old now : Option (List ℕ)) → Type 0
IsLineWritten line rest old now = (done : List ℕ) × (line ≡ done ++ rest) × Appends old now done

pub written-more : (line rest : List ℕ) (old now next : Option (List ℕ)) (n : ℕ) → IsLineWritten line rest old now → Appends now next (take n rest) →
    IsLineWritten line (drop n rest) old next
written-more line rest old now next n (done, split, added) more = (
  done ++ take n rest,
  split ∙ ap (λ xs. done ++ xs) (sym (take-append-drop n rest)) ∙ sym (append_assoc done (take n rest) (drop n rest)),
  Appends-trans old now next done (take n rest) added more,
)

-- an error wrote nothing more
pub written-same : (line rest : List ℕ) (old now next : Option (List ℕ)) → IsLineWritten line rest old now → Keeps now next → IsLineWritten line rest old next
written-same line rest old now next (done, split, added) keeps = (done, split, Appends-kept old now next done added keeps)

pub written-first : (line rest : List ℕ) (old now : Option (List ℕ)) → IsLineWritten line rest old now → AppendsFirst old now line
written-first line rest old now (done, split, added) = record {
  count = length done;
  added = subst (Appends old now) (sym (ap (take (length done)) split ∙ take-append_seam done rest)) added;
}

pub written-ok : {E : Type 0} (line rest : List ℕ) (old now next : Option (List ℕ)) (r : Result ℕ E) (n : ℕ) → IsLineWritten line rest old now → r ≡ Ok n → WriteAppends now next r rest →
    AppendsFirst old next line
written-ok line rest old now next r n k is more =
    written-first line (drop n rest) old next (written-more line rest old now next n k (subst (λ q. WriteAppends now next q rest) is more))

-- ---- bytes one after another

-- all was written, and then an error wrote nothing more
pub first-all : (xs : List ℕ) (old now next : Option (List ℕ)) → Appends old now xs → Keeps now next → AppendsFirst old next xs
first-all xs old now next whole keeps = written-first xs [] old next (xs, sym (append-nil xs), Appends-kept old now next xs whole keeps)

-- a beginning of the first bytes is one of both
pub first-more : (xs ys : List ℕ) (old now : Option (List ℕ)) → AppendsFirst old now xs → AppendsFirst old now (xs ++ ys)
first-more xs ys old now k =
    let done = take k.count xs in
    let left = drop k.count xs in
    written-first (xs ++ ys) (left ++ ys) old now (done, ap (λ zs. zs ++ ys) (sym (take-append-drop k.count xs)) ∙ append_assoc done left ys, k.added)

-- the first bytes, and a beginning of those behind them
pub first-after : (xs ys : List ℕ) (old now next : Option (List ℕ)) → Appends old now xs → AppendsFirst now next ys → AppendsFirst old next (xs ++ ys)
first-after xs ys old now next whole k =
    let done = take k.count ys in
    let left = drop k.count ys in
    written-first (xs ++ ys) left old next
    (xs ++ done, ap (λ zs. xs ++ zs) (sym (take-append-drop k.count ys)) ∙ sym (append_assoc xs done left), Appends-trans old now next xs done whole k.added)

-- ---- where it failed

pub on-err : {A E P : Type 0} (r : Result A E) → P → OnErr r P
on-err (Ok x) p = tt
on-err (Err e) p = p

pub err-so : {A E P Q : Type 0} (r : Result A E) → (P → Q) → OnErr r P → OnErr r Q
err-so (Ok x) f k = tt
err-so (Err e) f k = f k
