-- The table of the first pass is the one table.
use Rattle.std.proofs.Common.{◌≡◌, ◌⊎◌, inl, inr, ℕ, List, [], ◌∷◌, ap, sym, ◌∙◌, refl, subst, arith}
use Rattle.std.specs.Prelude.{Option, None, Some, Result, Ok, Err, Bool, true, false, ◌||◌, ◌==◌, if◌then◌else◌, is_some, is_ok}
use Rattle.std.specs.declared.cmp.Ordering.{Ordering}
use Rattle.std.specs.declared.cmp.Ordering.TheVariants.{Less, Equal, Greater}
use Rattle.std.specs.Ordering.{is_eq}
use Rattle.std.specs.BTreeMap.{is_at}
use Rattle.std.proofs.lemmas.Bool.{true≢false}
use Rattle.std.proofs.lemmas.Cmp.{nat_list_cmp_total, tied_itself}
use Rattle.std.proofs.lemmas.Map.Lookups.{exact_bytes}
use Rattle.cpm_asm_expression.specs.Names.{Extends, NameTable, no_names, name_cmp}
use Rattle.cpm_asm_expression.specs.declared.names.Name.{Name}
use Rattle.cpm_asm.specs.Pieces.{NumberedStatement, pieces}
use Rattle.cpm_asm.specs.Statements.{StatementParts}
use Rattle.cpm_asm.specs.Measures.{is_wrong}
use Rattle.cpm_asm.specs.Places.{depth, lowest_fault, is_defined, is_misplaced, is_nameless, position_after, placed_over, start}
use Rattle.cpm_asm.specs.Passes.{at_end, position_behind, both_passes, first_pass, is_end_statement, last_or, with_label, statement_of, second_behind, second_pass, table_after, measure_of, unless_first, unless_second, with_statement_bytes}
use Rattle.cpm_asm.specs.Assembled.{AssemblesTo, HasLabel, IsLabelled, IsTableOf, OrLater, UnlessLast, image_from}
use Rattle.cpm_asm.specs.declared.measure.Measure.{Measure}
use Rattle.cpm_asm.specs.declared.place.Position.{Position}
use Rattle.cpm_asm.specs.declared.error.AsmError.{AsmError}
use Rattle.cpm_asm.specs.declared.error.AsmErrorKind.{AsmErrorKind}
use Rattle.cpm_asm.proofs.Fitting.{fits}
use Rattle.cpm_asm.proofs.Laying.{AllFit, lies}
use Rattle.cpm_asm.proofs.Stable.{measured_stable}

-- ---- names

same_order : (r : Ordering) → is_eq r ≡ true → r ≡ Equal
same_order Less h = absurd (true≢false (sym h))
same_order Equal h = refl
same_order Greater h = absurd (true≢false (sym h))

-- names that compare alike are one
one_name : (a b : Name) → is_at (name_cmp a) b ≡ true → a ≡ b
one_name a b h = ap (λ (letters : List ℕ). record { letters = letters }) (exact_bytes a.letters b.letters (same_order _ h))

itself : (n : Name) → is_at (name_cmp n) n ≡ true
itself n = ap is_eq (tied_itself nat_list_cmp_total n.letters)

keeps_by : (m : NameTable) (name : Name) (v : ℕ) → is_some (m name) ≡ false → (n : Name) (w : ℕ) (b : Bool) → is_at (name_cmp name) n ≡ b → m n ≡ Some w → (if b then Some v else m n) ≡ Some w
keeps_by m name v free n w true at h = absurd (true≢false (sym (ap is_some (ap m (one_name name n at) ∙ h)) ∙ free))
keeps_by m name v free n w false at h = h

extends_defined : (m : NameTable) (label : Option Name) (v : ℕ) → is_defined m label ≡ false → Extends m (table_after m label v)
extends_defined m None v free n w h = h
extends_defined m (Some name) v free n w h = keeps_by m name v free n w (is_at (name_cmp name) n) refl h

label_there : (m : NameTable) (label : Option Name) (v : ℕ) (t : NameTable) → Extends (table_after m label v) t → HasLabel t label v
label_there m None v t e = tt
label_there m (Some name) v t e = e name v (ap (λ b. if b then Some v else m name) (itself name))

by_name : (m : NameTable) (name : Name) (k : ℕ) (n : Name) (v : ℕ) (b : Bool) → is_at (name_cmp name) n ≡ b → (if b then Some k else m n) ≡ Some v → (m n ≡ Some v) ⊎ (Some name ≡ Some n)
by_name m name k n v true at h = inr (ap (λ x. Some x) (one_name name n at))
by_name m name k n v false at h = inl h

earlier_or_here : (m : NameTable) (label : Option Name) (k : ℕ) (n : Name) (v : ℕ) → table_after m label k n ≡ Some v → (m n ≡ Some v) ⊎ (label ≡ Some n)
earlier_or_here m None k n v h = inl h
earlier_or_here m (Some name) k n v h = by_name m name k n v (is_at (name_cmp name) n) refl h

-- ---- faults that are not found

first_of_three : (a b c : Bool) → (a || b || c) ≡ false → a ≡ false
first_of_three true b c h = absurd (true≢false h)
first_of_three false b c h = refl

first_of_two : (a b : Bool) → (a || b) ≡ false → a ≡ false
first_of_two true b h = absurd (true≢false h)
first_of_two false b h = refl

chain_none : (b1 b2 b3 b4 b5 : Bool) (f1 f2 f3 f4 f5 : AsmErrorKind)
    → (if b1 then Some f1 else if b2 then Some f2 else if b3 then Some f3 else if b4 then Some f4 else if b5 then Some f5 else None) ≡ None
    → (b1 ≡ false) × (b2 ≡ false) × (b4 ≡ false) × (b3 ≡ false) × (b5 ≡ false)
chain_none true b2 b3 b4 b5 f1 f2 f3 f4 f5 h = absurd (true≢false (ap is_some h))
chain_none false true b3 b4 b5 f1 f2 f3 f4 f5 h = absurd (true≢false (ap is_some h))
chain_none false false true b4 b5 f1 f2 f3 f4 f5 h = absurd (true≢false (ap is_some h))
chain_none false false false true b5 f1 f2 f3 f4 f5 h = absurd (true≢false (ap is_some h))
chain_none false false false false true f1 f2 f3 f4 f5 h = absurd (true≢false (ap is_some h))
chain_none false false false false false f1 f2 f3 f4 f5 h = (refl, refl, refl, refl, refl)

nothing_found : (m : NameTable) (p : Position) (s : StatementParts) (k : Measure) → lowest_fault m p s k ≡ None → (is_wrong s.deed ≡ false) × (is_defined m s.label ≡ false) × (k.is_unknown ≡ false) × (k.is_outside ≡ false) × (k.is_below ≡ false)
unfolding lowest_fault
nothing_found m p s k h =
    let none = chain_none (is_wrong s.deed || is_misplaced p s.deed || is_nameless s) (is_defined m s.label) (k.is_outside || placed_over p.address s) k.is_unknown k.is_below _ _ _ _ _ h in
    (first_of_three (is_wrong s.deed) (is_misplaced p s.deed) (is_nameless s) none.0, none.1, none.2, first_of_two k.is_outside (placed_over p.address s) none.3, none.4)

unless_ok : (p : Position) (x : NumberedStatement) (xs : List NumberedStatement) (o : Option AsmErrorKind) (r : Result NameTable AsmError) (t : NameTable) → unless_first p x xs o r ≡ Ok t → (o ≡ None) × (r ≡ Ok t)
unless_ok p x xs None r t h = (refl, h)
unless_ok p x xs (Some kind) r t h = absurd (true≢false (ap is_ok (sym h)))

ok_or : Result NameTable AsmError → NameTable
ok_or (Ok t) = t
ok_or (Err e) = no_names

end_by : (b : Bool) (e : AsmError) (m t : NameTable) → (if b then Ok m else Err e) ≡ Ok t → m ≡ t
unfolding ok_or
end_by true e m t h = ap ok_or h
end_by false e m t h = absurd (true≢false (ap is_ok (sym h)))

at_end_ok : (p : Position) (m t : NameTable) → at_end p m ≡ Ok t → m ≡ t
at_end_ok p m t h = end_by (depth p == 0) _ m t h

-- ---- the table

-- a table behind another, of the statements between, and of no others
pub record Behind (m t : NameTable) (p : Position) (xs : List NumberedStatement) : Type 0 where
  pub extends : Extends m t
  pub table : IsTableOf t p xs
  pub only : (n : Name) (v : ℕ) → t n ≡ Some v → (m n ≡ Some v) ⊎ IsLabelled t n p xs
  pub fit : AllFit t p xs

-- the same, where the source may have ended
record BehindLast (last : Bool) (m t : NameTable) (p : Position) (xs : List NumberedStatement) : Type 0 where
  extends : Extends m t
  table : UnlessLast last (IsTableOf t p xs)
  only : (n : Name) (v : ℕ) → t n ≡ Some v → (m n ≡ Some v) ⊎ OrLater last (IsLabelled t n p xs)
  fit : UnlessLast last (AllFit t p xs)

after_last : (last : Bool) (m t : NameTable) (q p : Position) (xs : List NumberedStatement) → last_or last (at_end q m) (first_pass m p xs) ≡ Ok t
    → (first_pass m p xs ≡ Ok t → Behind m t p xs) → BehindLast last m t p xs
after_last true m t q p xs h later =
    let same = at_end_ok q m t h in
    record { extends = λ n v k. ap (λ (r : NameTable). r n) (sym same) ∙ k; table = tt; only = λ n v k. inl (ap (λ (r : NameTable). r n) same ∙ k); fit = tt }
after_last false m t q p xs h later = let b = later h in record { extends = b.extends; table = b.table; only = b.only; fit = b.fit }

combine : (m t : NameTable) (label : Option Name) (k : ℕ) (n : Name) (v : ℕ) (Later : Type 0)
    → (table_after m label k n ≡ Some v) ⊎ Later → (m n ≡ Some v) ⊎ ((label ≡ Some n) ⊎ Later)
combine m t label k n v Later (inl h) = elim (earlier_or_here m label k n v h) [ inl old ↦ inl old | inr here ↦ inr (inl here) ]
combine m t label k n v Later (inr later) = inr (inr later)

step : (m t : NameTable) (p : Position) (x : NumberedStatement) (xs : List NumberedStatement) → (is_wrong (statement_of p x).deed ≡ false) × (is_defined m (statement_of p x).label ≡ false) × ((measure_of m p x).is_unknown ≡ false) × ((measure_of m p x).is_outside ≡ false) × ((measure_of m p x).is_below ≡ false)
    → BehindLast (is_end_statement (statement_of p x).deed) (with_label m p x) t (position_behind m p x) xs → Behind m t p (x ∷ xs)
step m t p x xs quiet rest =
    let s = statement_of p x in
    let k = measure_of m p x in
    let extends : Extends m t = λ n v h. rest.extends n v (extends_defined m s.label k.label quiet.1 n v h) in
    let same : k ≡ measure_of t p x = sym (measured_stable m t p.address s.deed extends quiet.0 quiet.2) in
    record {
      extends = extends;
      table = subst (λ (j : Measure). HasLabel t s.label j.label × UnlessLast (is_end_statement s.deed) (IsTableOf t (position_after p x.line s.deed j) xs)) same
          (label_there m s.label k.label t rest.extends, rest.table);
      only = λ n v h. subst (λ (j : Measure). (m n ≡ Some v) ⊎ ((s.label ≡ Some n) ⊎ OrLater (is_end_statement s.deed) (IsLabelled t n (position_after p x.line s.deed j) xs))) same
          (combine m t s.label k.label n v (OrLater (is_end_statement s.deed) (IsLabelled t n (position_behind m p x) xs)) (rest.only n v h));
      fit = (
        fits t p.address s.deed quiet.0 (ap (λ (j : Measure). j.is_outside) (sym same) ∙ quiet.3) (ap (λ (j : Measure). j.is_below) (sym same) ∙ quiet.4),
        subst (λ (j : Measure). UnlessLast (is_end_statement s.deed) (AllFit t (position_after p x.line s.deed j) xs)) same rest.fit,
      );
    }

pub one_table : (m t : NameTable) (p : Position) (xs : List NumberedStatement) → first_pass m p xs ≡ Ok t → Behind m t p xs
one_table m t p [] h =
    let same = at_end_ok p m t h in
    record { extends = λ n v k. ap (λ (r : NameTable). r n) (sym same) ∙ k; table = tt; only = λ n v k. inl (ap (λ (r : NameTable). r n) same ∙ k); fit = tt }
one_table m t p (x ∷ xs) h =
    let s = statement_of p x in
    let k = measure_of m p x in
    let parts = unless_ok p x xs (lowest_fault m p s k) _ t h in
    let quiet = nothing_found m p s k parts.0 in
    let rest = after_last (is_end_statement s.deed) (with_label m p x) t p (position_behind m p x) xs parts.1 (λ e. one_table (with_label m p x) t (position_behind m p x) xs e) in
    step m t p x xs quiet rest

-- ---- the image

image_or : Result (List ℕ) AsmError → List ℕ
image_or (Ok image) = image
image_or (Err e) = []

unless_image : (line : ℕ) (o : Option AsmErrorKind) (r : Result (List ℕ) AsmError) (final : List ℕ) → unless_second line o r ≡ Ok final → r ≡ Ok final
unless_image line None r final h = h
unless_image line (Some kind) r final h = absurd (true≢false (ap is_ok (sym h)))

image_last : (last : Bool) (image final rest : List ℕ) (r : Result (List ℕ) AsmError) → last_or last (Ok image) r ≡ Ok final → (r ≡ Ok final → final ≡ rest) → final ≡ last_or last image rest
unfolding image_or
image_last true image final rest r h later = sym (ap image_or h)
image_last false image final rest r h later = later h

pub laid_image : (names : NameTable) (xs : List NumberedStatement) (image final : List ℕ) (p : Position) → second_pass names image p xs ≡ Ok final → final ≡ image_from names image p xs
unfolding image_or
laid_image names [] image final p h = sym (ap image_or h)
laid_image names (x ∷ xs) image final p h =
    image_last (is_end_statement (statement_of p x).deed) (with_statement_bytes names image p x) final (image_from names (with_statement_bytes names image p x) (position_behind names p x) xs) _
    (unless_image x.line _ _ final h) (λ e. laid_image names xs (with_statement_bytes names image p x) final (position_behind names p x) e)

pub no_name : (names : NameTable) (n : Name) (v : ℕ) (xs : List NumberedStatement) → (no_names n ≡ Some v) ⊎ IsLabelled names n start xs → IsLabelled names n start xs
no_name names n v xs (inl h) = absurd (true≢false (sym (ap is_some h)))
no_name names n v xs (inr h) = h

unfoldable pub from_passes : (source image : List ℕ) (first : Result NameTable AsmError) → first_pass no_names start (pieces source) ≡ first → second_behind (pieces source) first ≡ Ok image → AssemblesTo source image
from_passes source image (Ok names) p h =
    let b = one_table no_names names start (pieces source) p in
    let bytes = laid_image names (pieces source) [] image start h in
    record {
      names = names;
      table = b.table;
      only = λ n v k. no_name names n v (pieces source) (b.only n v k);
      bytes = bytes;
      places = lies names (pieces source) [] image start bytes b.fit (omega arith) (omega arith);
    }
from_passes source image (Err e) p h = absurd (true≢false (ap is_ok (sym h)))

pub assembled : (source image : List ℕ) → both_passes source ≡ Ok image → AssemblesTo source image
unfolding both_passes
assembled source image h = from_passes source image (first_pass no_names start (pieces source)) refl h
