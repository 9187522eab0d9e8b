-- What a program finds of its line: names put into an array, and runs of bytes one behind the other.
use Rattle.std.proofs.Common.{◌≡◌, ℕ, ◌+◌, ◌<◌, List, [], ◌∷◌, ◌++◌, length, replicate, refl, ap, ◌∙◌, arith}
use Rattle.std.proofs.Math.Seq.{take_at, drop_at}
use borrow.Rule.Slice.PartMut.{put_mid}
use Rattle.cpm_memory.specs.Contents.{Contents, next, after_change, after_run}
use Rattle.cpm_directory.specs.CommandLine.{fcb_named}
use Rattle.cpm_ccp.specs.Loading.{name_bytes}

-- two names of 16 bytes, and a 0 behind them
pub two_names : (xs ys : List ℕ) → length xs ≡ 16 → length ys ≡ 16 → put_mid 16 16 (put_mid 0 16 (replicate 33 0) xs) ys ≡ xs ++ (ys ++ (0 ∷ []))
two_names xs ys a b =
    rw (take_at xs (replicate 17 0) 16 a, drop_at xs (replicate 17 0) 16 a) refl

pub length-name_bytes : (text : List ℕ) → length (name_bytes (fcb_named text)) ≡ 16
unfolding name_bytes fcb_named
length-name_bytes text = refl

-- bytes stored in two runs, the second where the first ends
pub run-append : (c : Contents) (a : ℕ) (xs ys : List ℕ) → a + length xs < 65536 → after_run c a (xs ++ ys) ≡ after_run (after_run c a xs) (a + length xs) ys
run-append c a [] ys h =
    let e : a ≡ a + 0 = omega arith in
    ap (λ (k : ℕ). after_run c k ys) e
run-append c a (x ∷ xs) ys h =
    let e : next a + length xs ≡ a + length (x ∷ xs) = omega arith in
    run-append (after_change c a x) (next a) xs ys (omega arith) ∙ ap (λ (k : ℕ). after_run (after_run (after_change c a x) (next a) xs) k ys) e
