-- Each statement's bytes stand at its address in the image.
use Rattle.std.proofs.Common.{◌≡◌, ◌≤◌, ℕ, ◌+◌, ◌-◌, Bool, true, false, List, [], ◌∷◌, ◌++◌, length, take, drop, ap, sym, ◌∙◌, refl, arith, append_assoc, append-nil, length-append, subst}
use Rattle.std.specs.Prelude.{if◌then◌else◌, nat_le, replicate}
use Rattle.std.proofs.lemmas.List.{drop_at, length-replicate, take_at}
use Rattle.cpm_asm_expression.specs.Names.{NameTable}
use Rattle.cpm_asm.specs.Pieces.{NumberedStatement}
use Rattle.cpm_asm.specs.Statements.{Deed, Wrong, Nothing, End, Origin, Equate, If, EndIf, Nest, Unnest, Space, Bytes, Words, Plain, Byte, Word, Restart}
use Rattle.cpm_asm.specs.Places.{position_at, depth, first_open, in_if, position_after}
use Rattle.cpm_asm.specs.Passes.{position_behind, bytes_given, is_end_statement, laid, last_or, statement_of, measure_of, with_statement_bytes}
use Rattle.cpm_asm.specs.Assembled.{EachLies, LiesAt, UnlessLast, image_from}
use Rattle.cpm_asm.specs.declared.measure.Measure.{Measure}
use Rattle.cpm_asm.specs.declared.place.Position.{Position}

-- each statement has room for its bytes before the next
abbrev pub AllFit : NameTable → Position → List NumberedStatement → Type 0
AllFit t p [] = Unit {0}
AllFit t p (x ∷ xs) = (p.address + length (bytes_given t p x).bytes ≤ (measure_of t p x).next) × UnlessLast (is_end_statement (statement_of p x).deed) (AllFit t (position_behind t p x) xs)

-- ---- the address behind a statement

if_address : (b c : Bool) (p q r : Position) (a : ℕ) → p.address ≡ a → q.address ≡ a → r.address ≡ a → (if b then p else if c then q else r).address ≡ a
if_address true c p q r a h i j = h
if_address false true p q r a h i j = i
if_address false false p q r a h i j = j

in_if_address : (p : Position) (line : ℕ) (holds : Bool) → (in_if p line holds).address ≡ p.address
in_if_address p line holds =
    if_address (nat_le 8 (depth p)) holds p
    (record { address = p.address; held = p.held + 1; skipped = p.skipped; outermost = first_open p line })
    (record { address = p.address; held = p.held; skipped = p.skipped + 1; outermost = first_open p line }) p.address refl refl refl

moved_address : (p : Position) (line : ℕ) (d : Deed) (k : Measure) → (position_after p line d k).address ≡ k.next
moved_address p line Wrong k = refl
moved_address p line Nothing k = refl
moved_address p line End k = refl
moved_address p line (Origin e) k = refl
moved_address p line (Equate e) k = refl
moved_address p line (If e) k = in_if_address (position_at p k.next) line k.holds
moved_address p line EndIf k = refl
moved_address p line Nest k = in_if_address (position_at p k.next) line false
moved_address p line Unnest k = refl
moved_address p line (Space e) k = refl
moved_address p line (Bytes list) k = refl
moved_address p line (Words list) k = refl
moved_address p line (Plain i) k = refl
moved_address p line (Byte f e) k = refl
moved_address p line (Word f e) k = refl
moved_address p line (Restart e) k = refl

-- ---- what is laid

laid_length : (image : List ℕ) (a next : ℕ) (bytes : List ℕ) → 256 ≤ a → length image ≤ a - 256 → a + length bytes ≤ next → length (laid image a bytes) ≤ next - 256
unfolding laid
laid_length image a next [] low h fit = omega (arith, low, h, fit)
laid_length image a next (b ∷ bs) low h fit =
    let zeros : List ℕ = replicate (a - 256 - length image) 0 in
    omega (arith, low, h, fit, length-append (image ++ zeros) (b ∷ bs), length-append image zeros, length-replicate {A = ℕ} (a - 256 - length image) 0)

lies_at : (image : List ℕ) (a : ℕ) (bytes more : List ℕ) → length image ≤ a - 256 → LiesAt (laid image a bytes ++ more) a bytes
unfolding laid
lies_at image a [] more h = refl
lies_at image a (b ∷ bs) more h =
    let zeros : List ℕ = replicate (a - 256 - length image) 0 in
    let size : length (image ++ zeros) ≡ a - 256 = omega (arith, h, length-append image zeros, length-replicate {A = ℕ} (a - 256 - length image) 0) in
    ap (λ (xs : List ℕ). take (length (b ∷ bs)) (drop (a - 256) xs)) (append_assoc (image ++ zeros) (b ∷ bs) more)
    ∙ ap (take (length (b ∷ bs))) (drop_at (image ++ zeros) ((b ∷ bs) ++ more) (a - 256) size)
    ∙ take_at (b ∷ bs) more (length (b ∷ bs)) refl

-- what is added behind an image
abbrev Adds : List ℕ → List ℕ → Type 0
Adds image final = (more : List ℕ) × (final ≡ image ++ more)

laid_adds : (image : List ℕ) (a : ℕ) (bytes : List ℕ) → Adds image (laid image a bytes)
unfolding laid
laid_adds image a [] = ([], sym (append-nil image))
laid_adds image a (b ∷ bs) = (replicate (a - 256 - length image) 0 ++ b ∷ bs, append_assoc image (replicate (a - 256 - length image) 0) (b ∷ bs))

adds_on : (first second third : List ℕ) → Adds first second → Adds second third → Adds first third
adds_on first second third f s = (f.0 ++ s.0, s.1 ∙ ap (λ (xs : List ℕ). xs ++ s.0) f.1 ∙ append_assoc first f.0 s.0)

last_adds : (last : Bool) (image rest : List ℕ) → Adds image rest → Adds image (last_or last image rest)
last_adds true image rest h = ([], sym (append-nil image))
last_adds false image rest h = h

from_adds : (t : NameTable) (xs : List NumberedStatement) (image : List ℕ) (p : Position) → Adds image (image_from t image p xs)
from_adds t [] image p = ([], sym (append-nil image))
from_adds t (x ∷ xs) image p =
    let wider = with_statement_bytes t image p x in
    adds_on image wider _ (laid_adds image p.address (bytes_given t p x).bytes)
    (last_adds (is_end_statement (statement_of p x).deed) wider (image_from t wider (position_behind t p x) xs) (from_adds t xs wider (position_behind t p x)))

-- ---- all statements

lies_behind : (last : Bool) (t : NameTable) (wider final : List ℕ) (p : Position) (xs : List NumberedStatement) → final ≡ last_or last wider (image_from t wider p xs)
    → UnlessLast last (AllFit t p xs) → (final ≡ image_from t wider p xs → AllFit t p xs → EachLies t final p xs) → UnlessLast last (EachLies t final p xs)
lies_behind true t wider final p xs is fit later = tt
lies_behind false t wider final p xs is fit later = later is fit

pub lies : (t : NameTable) (xs : List NumberedStatement) (image final : List ℕ) (p : Position) → final ≡ image_from t image p xs → AllFit t p xs → 256 ≤ p.address → length image ≤ p.address - 256
    → EachLies t final p xs
lies t [] image final p is fit low short = tt
lies t (x ∷ xs) image final p is fit low short =
    let wider = with_statement_bytes t image p x in
    let bytes = (bytes_given t p x).bytes in
    let next = (measure_of t p x).next in
    let q = position_behind t p x in
    let there : q.address ≡ next = moved_address p x.line (statement_of p x).deed (measure_of t p x) in
    let size = laid_length image p.address next bytes low short fit.0 in
    let adds = last_adds (is_end_statement (statement_of p x).deed) wider (image_from t wider q xs) (from_adds t xs wider q) in (
      subst (λ (xs : List ℕ). LiesAt xs p.address bytes) (sym (is ∙ adds.1)) (lies_at image p.address bytes adds.0 short),
      lies_behind (is_end_statement (statement_of p x).deed) t wider final q xs is fit.1
          (λ e f. lies t xs wider final q e f (omega (arith, there, fit.0, low)) (omega (arith, there, size))),
    )
