-- Drives that are appended and read.
use Rattle.std.proofs.Common.{◌≡◌, ◌∙◌, ◌≤◌, ℕ, zero, suc, Bool, true, false, List, [], ◌∷◌, ◌++◌, Some}
use Rattle.std.proofs.Common.{inl, inr, length, map, ap, arith, append_assoc, refl, sym, subst, ◌⊎◌}
use Rattle.std.specs.Prelude.{IfOk, Ok, Err, Result, if◌then◌else◌, nat_lt, ◌==◌}
use Rattle.std.specs.Int.{to_le_bytes, w16}
use Rattle.std.specs.List.{concat}
use Rattle.std.proofs.lemmas.Bool.Decides.{nat_tests}
use Rattle.std.proofs.lemmas.List.{length-map}
use Rattle.cpm_flags.specs.Arithmetic.{bit}
use Rattle.cpm_geom.specs.Disk.{Disk}
use Rattle.cpm_geom.specs.Geometry.{format_of_length}
use Rattle.cpm_geom.specs.declared.format.Format.{Format}
use Rattle.cpm_geom.specs.declared.format.Format.TheVariants as format
use Rattle.cpm_saved.specs.Layout.{AreBelow, Below, Fixed, Read, Rest, Run, AnyWord, are_below, as_read, by_mark, decoded, then_read}
use Rattle.cpm_saved.specs.Reading.{IsPartAppended, IsPartRead}
use Rattle.cpm_saved.specs.SavedDisks.{image_fields, image_in, image_layout, is_large}
use Rattle.cpm_saved.specs.declared.part.SavingPart.TheVariants as part
use Rattle.cpm_saved.specs.declared.reader.RestoreError.{RestoreError}
use Rattle.cpm_saved.specs.declared.reader.RestoreError.TheVariants.{Damaged, OutOfMemory}

-- ---- which blocks are reserved

marks_same : (r : List Bool) → map (λ (x : Bool). if◌then◌else◌ {A = ℕ} x 1 0) r ≡ map bit r
marks_same [] = refl
marks_same (true ∷ r) = ap (λ (xs : List ℕ). 1 ∷ xs) (marks_same r)
marks_same (false ∷ r) = ap (λ (xs : List ℕ). 0 ∷ xs) (marks_same r)

bits_below : (r : List Bool) → AreBelow 2 (map bit r)
bits_below [] k d within = absurd (omega (arith, within))
bits_below (true ∷ r) zero d within = omega arith
bits_below (false ∷ r) zero d within = omega arith
bits_below (x ∷ r) (suc k) d within = bits_below r k d (omega (arith, within))

pub reserved_appended : (r : List Bool) (n : ℕ) (a b c : List ℕ) → n ≡ length r → length r ≤ 512 → IsPartAppended (AnyWord part.Drive) n a b
    → c ≡ b ++ map (λ (x : Bool). if◌then◌else◌ {A = ℕ} x 1 0) r → IsPartAppended (Run part.Drive 512 2) (map bit r) a c
reserved_appended r n a b c is few word e =
    let long = length-map r bit in
    let count : n ≡ length (map bit r) = omega (arith, is, long) in record {
      bytes = e ∙ ap (λ (xs : List ℕ). b ++ xs) (marks_same r)
          ∙ ap (λ (xs : List ℕ). xs ++ map bit r) (word.bytes ∙ ap (λ (k : ℕ). a ++ to_le_bytes w16 k) count)
          ∙ append_assoc a (to_le_bytes w16 (length (map bit r))) (map bit r);
      fits = (omega (arith, few, long), omega (arith, few, long), bits_below r);
    }

-- marks that are 0 or 1 are those of what is reserved by them
pub marks_back : (xs : List ℕ) → are_below 2 xs ≡ true → map bit (map (λ (x : ℕ). x == 1) xs) ≡ xs
marks_back [] e = refl
marks_back (zero ∷ xs) e = ap (λ (ys : List ℕ). 0 ∷ ys) (marks_back xs e)
marks_back (suc zero ∷ xs) e = ap (λ (ys : List ℕ). 1 ∷ ys) (marks_back xs e)
marks_back (suc (suc k) ∷ xs) e =
    let over : nat_lt (suc (suc k)) 2 ≡ false = grind (arith, nat_tests) in absurd (cc)

-- ---- images

small_length : (n : ℕ) → format_of_length n ≡ Some format.Ibm3740 → n ≡ 256256
unfolding format_of_length
small_length n e = grind (arith, nat_tests)

large_length : (n : ℕ) → format_of_length n ≡ Some format.Large → n ≡ 2105344
unfolding format_of_length
large_length n e = grind (arith, nat_tests)

pub image_appended : (f : Format) (flag : Bool) (bytes xs a b c : List ℕ) → flag ≡ is_large f → bytes ≡ xs → format_of_length (length bytes) ≡ Some f
    → IsPartAppended (Below part.Image 2) (bit flag) a b → IsPartAppended (Fixed part.Image (length bytes)) bytes b c → IsPartAppended image_layout (image_in f xs) a c
image_appended format.Ibm3740 flag bytes xs a b c is same long mark h = record {
  bytes =
      h.bytes ∙ ap (λ (ys : List ℕ). ys ++ bytes) (mark.bytes ∙ ap (λ (k : Bool). a ++ bit k ∷ []) is) ∙ append_assoc a (0 ∷ []) bytes
      ∙ ap (λ (ys : List ℕ). a ++ (0 ∷ ys)) same;
  fits = (ap (λ (ys : List ℕ). length ys) (sym same) ∙ small_length (length bytes) long, refl, subst (λ (ys : List ℕ). AreBelow 256 ys) same h.fits.2);
}
image_appended format.Large flag bytes xs a b c is same long mark h = record {
  bytes =
      h.bytes ∙ ap (λ (ys : List ℕ). ys ++ bytes) (mark.bytes ∙ ap (λ (k : Bool). a ++ bit k ∷ []) is) ∙ append_assoc a (1 ∷ []) bytes
      ∙ ap (λ (ys : List ℕ). a ++ (1 ∷ ys)) same;
  fits = (ap (λ (ys : List ℕ). length ys) (sym same) ∙ large_length (length bytes) long, refl, subst (λ (ys : List ℕ). AreBelow 256 ys) same h.fits.2);
}

some_format : (f g : Format) → Some f ≡ Some g → f ≡ g
some_format f g e = cc

pub is_small_length : format_of_length 256256 ≡ Some format.Ibm3740
unfolding format_of_length
is_small_length = refl

pub is_large_length : format_of_length 2105344 ≡ Some format.Large
unfolding format_of_length
is_large_length = refl

abbrev image_next : ℕ × Rest → Read (List ℕ ⊎ List ℕ)
image_next =
    by_mark (λ (r : Rest). as_read (λ (v : List ℕ). inl v) (decoded (Fixed part.Image 256256) r))
    (λ (r : Rest). as_read (λ (v : List ℕ). inr v) (decoded (Fixed part.Image 2105344) r))

pub small_read : (old mid new : Rest) (result : Result Disk RestoreError) → decoded (Below part.Image 2) old ≡ Ok (0, mid)
    → IsPartRead (Fixed part.Image 256256) (λ (d : Disk). concat d.sectors) mid new result → IfOk result (λ (d : Disk). format_of_length 256256 ≡ Some d.format)
    → IsPartRead image_layout image_fields old new result
small_read old mid new (Ok d) mark is kind =
    let same : format.Ibm3740 ≡ d.format = some_format format.Ibm3740 d.format (sym is_small_length ∙ kind) in
    ap (then_read image_next) mark ∙ ap (as_read (λ (v : List ℕ). inl v)) is ∙ ap (λ (f : Format). Ok (image_in f (concat d.sectors), new)) same
small_read old mid new (Err (Damaged damage)) mark is format = ap (then_read image_next) mark ∙ ap (as_read (λ (v : List ℕ). inl v)) is
small_read old mid new (Err OutOfMemory) mark is format = tt

pub large_read : (old mid new : Rest) (result : Result Disk RestoreError) → decoded (Below part.Image 2) old ≡ Ok (1, mid)
    → IsPartRead (Fixed part.Image 2105344) (λ (d : Disk). concat d.sectors) mid new result → IfOk result (λ (d : Disk). format_of_length 2105344 ≡ Some d.format)
    → IsPartRead image_layout image_fields old new result
large_read old mid new (Ok d) mark is kind =
    let same : format.Large ≡ d.format = some_format format.Large d.format (sym is_large_length ∙ kind) in
    ap (then_read image_next) mark ∙ ap (as_read (λ (v : List ℕ). inr v)) is ∙ ap (λ (f : Format). Ok (image_in f (concat d.sectors), new)) same
large_read old mid new (Err (Damaged damage)) mark is format = ap (then_read image_next) mark ∙ ap (as_read (λ (v : List ℕ). inr v)) is
large_read old mid new (Err OutOfMemory) mark is format = tt
