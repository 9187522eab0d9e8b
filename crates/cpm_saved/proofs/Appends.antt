-- Values that are appended one after another.
use Rattle.std.proofs.Common.{◌≡◌, ◌∙◌, ℕ, List, ◌++◌, ap, append_assoc, arith, ◌<◌, ◌≤◌, ◌+◌, Bool, true, false, [], ◌∷◌, zero, suc}
use Rattle.std.proofs.Common.{length, get_or, length-append, subst, refl, Some, None}
use Rattle.std.proofs.lemmas.List.{append-nil}
use Rattle.std.proofs.lemmas.List.Elements.{All-append}
use Rattle.std.specs.List.{All}
use Rattle.std.specs.Int.{to_le_bytes, w16}
use Rattle.cpm_flags.specs.Arithmetic.{bit}
use Rattle.cpm_flags.specs.FlagByte.{packed}
use Rattle.cpm_flags.specs.declared.regs.Cpu.TheVariants.{Z80}
use Rattle.cpm_flags.specs.declared.regs.Flags.{Flags}
use Rattle.cpm_saved.specs.Layout.{Among, AreBelow, Below, Both, AnyByte, Fixed, IsOf, Layout, Maybe, Run, Times, Within, AnyWord, coded, laid_out}
use Rattle.cpm_saved.specs.Reading.{IsPartAppended}
use Rattle.cpm_saved.specs.declared.part.SavingPart.{SavingPart}

pub bit_small : (b : Bool) → bit b < 2
bit_small true = omega arith
bit_small false = omega arith

pub flags_small : (f : Flags) → packed Z80 f < 256
flags_small f =
    omega (
      arith,
      bit_small f.sign,
      bit_small f.zero,
      bit_small f.bit5,
      bit_small f.half_carry,
      bit_small f.bit3,
      bit_small f.parity,
      bit_small f.subtract,
      bit_small f.carry,
    )

pub then_appended : (f g : Layout) (v : laid_out f) (w : laid_out g) (a b c : List ℕ)
    → IsPartAppended f v a b → IsPartAppended g w b c → IsPartAppended (Both f g) (v, w) a c
then_appended f g v w a b c one two = record {
  bytes = two.bytes ∙ ap (λ (xs : List ℕ). xs ++ coded g w) one.bytes ∙ append_assoc a (coded f v) (coded g w);
  fits = (one.fits, two.fits);
}

pub all_below : (xs : List ℕ) → ((i : ℕ) → get_or xs i 0 < 256) → AreBelow 256 xs
all_below [] h k d within = absurd (omega (arith, within))
all_below (x ∷ xs) h zero d within = h 0
all_below (x ∷ xs) h (suc k) d within = all_below xs (λ (i : ℕ). h (suc i)) k d (omega (arith, within))

pub run_appended : (field : SavingPart) (most count : ℕ) (old first second new front back : List ℕ)
    → count ≡ length front + length back → count ≤ most → most < 65536
    → first ≡ old ++ to_le_bytes w16 count → second ≡ first ++ front → new ≡ second ++ back → AreBelow 256 front → AreBelow 256 back
    → IsPartAppended (Run field most 256) (front ++ back) old new
run_appended field most count old first second new front back is few small one two three below_front below_back =
    let long = length-append front back in
    let same : count ≡ length (front ++ back) = omega (arith, is, long) in record {
      bytes = three ∙ ap (λ (xs : List ℕ). xs ++ back) (two ∙ ap (λ (xs : List ℕ). xs ++ front) (one ∙ ap (λ (n : ℕ). old ++ to_le_bytes w16 n) same))
          ∙ append_assoc (old ++ to_le_bytes w16 (length (front ++ back))) front back
          ∙ append_assoc old (to_le_bytes w16 (length (front ++ back))) (front ++ back);
      fits = (omega (arith, is, few, long), omega (arith, is, few, small, long), All-append (λ (b : ℕ). b < 256) front back below_front below_back);
    }

pub as_value : (f : Layout) (v w : laid_out f) (a b : List ℕ) → v ≡ w → IsPartAppended f v a b → IsPartAppended f w a b
as_value f v w a b e h = subst (λ (x : laid_out f). IsPartAppended f x a b) e h

-- bytes that pass a test
pub with_test : (field : SavingPart) (count : ℕ) (test : List ℕ → Bool) (bytes xs a b : List ℕ) → bytes ≡ xs → length xs ≡ count → test xs ≡ true
    → IsPartAppended (Fixed field (length bytes)) bytes a b → IsPartAppended (Among field count test) xs a b
with_test field count test bytes xs a b same long passes h = record {
  bytes = h.bytes ∙ ap (λ (ys : List ℕ). a ++ ys) same;
  fits = (long, passes, subst (λ (ys : List ℕ). AreBelow 256 ys) same h.fits.2);
}

-- a value that isn't there, and one that is
pub none_appended : (field : SavingPart) (f : Layout) (a b : List ℕ) → IsPartAppended (Below field 2) 0 a b → IsPartAppended (Maybe field f) None a b
none_appended field f a b h = record { bytes = h.bytes; fits = tt }

pub some_appended : (field : SavingPart) (f : Layout) (v : laid_out f) (a b c : List ℕ)
    → IsPartAppended (Below field 2) 1 a b → IsPartAppended f v b c → IsPartAppended (Maybe field f) (Some v) a c
some_appended field f v a b c mark h = record {
  bytes = h.bytes ∙ ap (λ (xs : List ℕ). xs ++ coded f v) mark.bytes ∙ append_assoc a (1 ∷ []) (coded f v);
  fits = h.fits;
}

-- four values
pub four_appended : (f : Layout) (p q r s : laid_out f) (a b c d e : List ℕ) → IsPartAppended f p a b → IsPartAppended f q b c → IsPartAppended f r c d → IsPartAppended f s d e
    → IsPartAppended (Times 4 f) (p ∷ q ∷ r ∷ s ∷ []) a e
four_appended f p q r s a b c d e one two three four = record {
  bytes =
      four.bytes ∙ ap (λ (xs : List ℕ). xs ++ coded f s) (three.bytes ∙ ap (λ (xs : List ℕ). xs ++ coded f r)
      (two.bytes ∙ ap (λ (xs : List ℕ). xs ++ coded f q) one.bytes))
      ∙ joined;
  fits = (refl, all);
}
  where
    joined : (((a ++ coded f p) ++ coded f q) ++ coded f r) ++ coded f s ≡ a ++ (coded f p ++ (coded f q ++ (coded f r ++ (coded f s ++ []))))
    joined = simp (append_assoc, append-nil)

    all : All (IsOf f) (p ∷ q ∷ r ∷ s ∷ [])
    all zero d within = one.fits
    all (suc zero) d within = two.fits
    all (suc (suc zero)) d within = three.fits
    all (suc (suc (suc zero))) d within = four.fits
    all (suc (suc (suc (suc k)))) d within = absurd (omega (arith, within))

-- four items are all of a list of four
pub four_got : {A : Type 0} → (xs : List A) (p q r s : A) → length xs ≡ 4 → get_or xs 0 p ∷ get_or xs 1 q ∷ get_or xs 2 r ∷ get_or xs 3 s ∷ [] ≡ xs
four_got {A} [] p q r s long = absurd (omega (arith, long))
four_got {A} (w ∷ []) p q r s long = absurd (omega (arith, long))
four_got {A} (w ∷ x ∷ []) p q r s long = absurd (omega (arith, long))
four_got {A} (w ∷ x ∷ y ∷ []) p q r s long = absurd (omega (arith, long))
four_got {A} (w ∷ x ∷ y ∷ z ∷ []) p q r s long = refl
four_got {A} (w ∷ x ∷ y ∷ z ∷ v ∷ vs) p q r s long = absurd (omega (arith, long))

-- bytes that pass a test, numbers below a limit, and numbers between two
pub tested_appended : (field : SavingPart) (count : ℕ) (test : List ℕ → Bool) (xs a b : List ℕ) → test xs ≡ true
    → IsPartAppended (Fixed field count) xs a b → IsPartAppended (Among field count test) xs a b
tested_appended field count test xs a b passes h = record { bytes = h.bytes; fits = (h.fits.0, passes, h.fits.2) }

pub below_appended : (field : SavingPart) (limit n : ℕ) (a b : List ℕ) → n < limit → IsPartAppended (AnyByte field) n a b → IsPartAppended (Below field limit) n a b
below_appended field limit n a b small h = record { bytes = h.bytes; fits = small }

pub within_appended : (field : SavingPart) (least most n : ℕ) (a b : List ℕ) → least ≤ n → n ≤ most → IsPartAppended (AnyWord field) n a b
    → IsPartAppended (Within field least most) n a b
within_appended field least most n a b low high h = record { bytes = h.bytes; fits = (low, high, h.fits.2) }
