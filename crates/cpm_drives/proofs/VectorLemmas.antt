-- The vectors of drives and of blocks.
use Rattle.std.proofs.Common.{◌≡◌, ◌<◌, ◌≤◌, ◌+◌, ◌-◌, ◌^◌, ℕ, suc, Bool, false, List, [], ◌∷◌, Option, Some, None, MatchOption, map, sum, length, get_or, refl, sym, ap, ◌∙◌, arith, zero-add}
use Rattle.std.specs.List.{range_with_len}
use Rattle.std.proofs.lemmas.Grind.{common_steps}
use Rattle.std.proofs.lemmas.List.{get_or_default}
use Rattle.std.proofs.lemmas.List.FromFn.{map-range_with_len_more}
use Rattle.std.proofs.Math.Nat.{pow-suc}
use Rattle.cpm_geom.specs.declared.dpb.Dpb.{Dpb}
use Rattle.cpm_drive.specs.declared.drive.Drive.{Drive}
use Rattle.cpm_drive.specs.declared.drive.Marks.{Marks}
use Rattle.cpm_drives.specs.Vectors.{drive_bit, vector_from, allocation_bit}
use Rattle.cpm_drives.proofs.MarkLemmas.{four}

-- a drive that is there, and such
abbrev pub IsTest : (Marks → Bool) → Option Drive → Bool → Type 0
IsTest test o b = MatchOption o (b ≡ false) (λ own. b ≡ test own.marks)

vector_more : (test : Marks → Bool) (n : ℕ) (o : Option Drive) (drives : List (Option Drive)) (b : Bool) → IsTest test o b → vector_from test n (o ∷ drives) ≡ drive_bit b n + vector_from test (n + 1) drives
unfolding vector_from
vector_more test n None drives b h = rw h (sym (zero-add (vector_from test (n + 1) drives)))
vector_more test n (Some d) drives b h = rw h refl

at_none : (test : Marks → Bool) (drives : List (Option Drive)) (k : ℕ) (o : Option Drive) (b : Bool) → k < length drives → IsTest test (get_or drives k o) b → IsTest test (get_or drives k None) b
at_none test drives k o b h t = rw (get_or_default drives k o None h) at t

vector_none : (test : Marks → Bool) (n : ℕ) → vector_from test n [] ≡ 0
unfolding vector_from
vector_none test n = refl

pub vector_of_four : (test : Marks → Bool) (drives : List (Option Drive)) (o p q r : Option Drive) (a b c d : Bool) → length drives ≡ 4 → IsTest test (get_or drives 0 o) a → IsTest test (get_or drives 1 p) b → IsTest test (get_or drives 2 q) c → IsTest test (get_or drives 3 r) d → vector_from test 0 drives ≡ drive_bit a 0 + (drive_bit b 1 + (drive_bit c 2 + drive_bit d 3))
vector_of_four test drives o p q r a b c d h ha hb hc hd =
    ap (vector_from test 0) (four drives None h) ∙ (vector_more test 0 _ _ a (at_none test drives 0 o a (omega arith) ha) ∙ ap (λ v. drive_bit a 0 + v) (vector_more test 1 _ _ b (at_none test drives 1 p b (omega arith) hb) ∙ ap (λ v. drive_bit b 1 + v) (vector_more test 2 _ _ c (at_none test drives 2 q c (omega arith) hc) ∙ ap (λ v. drive_bit c 2 + v) (vector_more test 3 _ _ d (at_none test drives 3 r d (omega arith) hd) ∙ (let none = vector_none test 4 in omega arith)))))

-- one more bit of a byte
pub byte_more : (d : Dpb) (reserved : List Bool) (k n byte new : ℕ) → n < 8 → byte ≡ sum (map (allocation_bit d reserved k) (range_with_len 0 n)) → byte + 2 ^ (8 - n) ≤ 256 → new ≡ allocation_bit d reserved k n → new ≤ 2 ^ (7 - n) → (byte + new ≡ sum (map (allocation_bit d reserved k) (range_with_len 0 (n + 1)))) × (byte + new + 2 ^ (8 - (n + 1)) ≤ 256)
byte_more d reserved k n byte new below is small bit_is bit_small =
    let more = map-range_with_len_more (allocation_bit d reserved k) 0 n n (zero-add n) in
    let e : 8 - n ≡ suc (7 - n) = omega arith in
    let f : 8 - (n + 1) ≡ 7 - n = omega arith in
    let twice = ap (λ m. 2 ^ m) e ∙ pow-suc 2 (7 - n) in
    let same = ap (λ m. 2 ^ m) f in
    (rw (more, is, bit_is) (grind (arith, common_steps)), omega arith)
