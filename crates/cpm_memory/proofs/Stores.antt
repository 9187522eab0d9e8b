-- Bytes that are stored from an address on.
use Rattle.std.proofs.Common.{◌≡◌, ℕ, zero, suc, ◌+◌, ◌%◌, ◌<◌, List, [], ◌∷◌, ◌++◌, length, take, get_or, refl, ap, ◌∙◌, arith, inr}
use Rattle.cpm_memory.specs.Contents.{Contents, IsContents, CanSet, next, put, run_puts, after_set, after_sets}
use Rattle.cpm_memory.specs.Sets.{after_sets-append}
use Rattle.cpm_memory.specs.Room.{CanSet-room, limit-after_sets}

-- one byte more
run_puts-more : (a : ℕ) (bs : List ℕ) (i : ℕ) → a < 65536 → i < length bs → run_puts a (take (i + 1) bs) ≡ run_puts a (take i bs) ++ put ((a + i) % 65536) (get_or bs i 0) ∷ []
run_puts-more a [] i l h = absurd (omega arith)
run_puts-more a (b ∷ bs) zero l h = let e : (a + 0) % 65536 ≡ a = omega arith in rw e refl
run_puts-more a (b ∷ bs) (suc i) l h =
    let more = run_puts-more (next a) bs i (omega arith) (omega arith) in
    let e : (next a + i) % 65536 ≡ (a + suc i) % 65536 = omega arith in
    let one : suc i + 1 ≡ suc (i + 1) = omega arith in
    rw one (ap (λ ws. put a b ∷ ws) (more ∙ ap (λ k. run_puts (next a) (take i bs) ++ put k (get_or bs i 0) ∷ []) e))

pub stored-more : (c : Contents) (a : ℕ) (bs : List ℕ) (i : ℕ) → a < 65536 → i < length bs → after_sets c (run_puts a (take (i + 1) bs)) ≡ after_set (after_sets c (run_puts a (take i bs))) ((a + i) % 65536) (get_or bs i 0)
stored-more c a bs i l h =
    ap (after_sets c) (run_puts-more a bs i l h) ∙ after_sets-append c (run_puts a (take i bs)) (put ((a + i) % 65536) (get_or bs i 0) ∷ [])

-- each is possible where every page may be written
pub CanSet-stored : (c : Contents) (a : ℕ) (bs : List ℕ) (at : ℕ) → IsContents (after_sets c (run_puts a bs)) → at < 65536 → c.limit ≡ 256 → CanSet (after_sets c (run_puts a bs)) at
CanSet-stored c a bs at ok l all =
    CanSet-room (after_sets c (run_puts a bs)) 0 at ok l (inr (limit-after_sets c (run_puts a bs) ∙ all))
