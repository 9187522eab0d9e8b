-- A file's record is known by its group, its place in the map and its place in the block.
use Rattle.std.proofs.Common.{◌≡◌, ℕ, ◌/◌, ◌%◌, ◌*◌, ◌+◌, ◌<◌, sym, ap, ◌∙◌, arith}
use Rattle.std.proofs.lemmas.Nat.{div-add-mod', div-mul-add, mod-mul-add, div_below, mod_below}
use Rattle.cpm_geom.specs.declared.dpb.Dpb.{Dpb}
use Rattle.cpm_volume.specs.Files.{group_of, map_place, block_offset, drive_record, IsFormat}

-- a number is known by its quotient and its rest
by_parts : (m n k : ℕ) → m / k ≡ n / k → m % k ≡ n % k → m ≡ n
by_parts m n k q r = sym (div-add-mod' m k) ∙ (ap (λ a. a * k + m % k) q ∙ (ap (λ a. n / k * k + a) r ∙ div-add-mod' n k))

-- so is a sum of a multiple and a rest
by_sum : (a b c e k : ℕ) → b < k → e < k → a * k + b ≡ c * k + e → (a ≡ c) × (b ≡ e)
by_sum a b c e k l h same =
    (sym (div-mul-add a k b l) ∙ (ap (λ s. s / k) same ∙ div-mul-add c k e h), sym (mod-mul-add a k b l) ∙ (ap (λ s. s % k) same ∙ mod-mul-add c k e h))

same_place : (m n E w q : ℕ) → q * w ≡ 128 → m / 128 / E ≡ n / 128 / E → (m / 128 % E) * q + m % 128 / w ≡ (n / 128 % E) * q + n % 128 / w → m % 128 % w ≡ n % 128 % w → 0 < w → m ≡ n
same_place m n E w q whole g p o pos =
    let lm : m % 128 < q * w = rw whole (omega (arith, mod_below m 128)) in
    let ln : n % 128 < q * w = rw whole (omega (arith, mod_below n 128)) in
    let s = by_sum (m / 128 % E) (m % 128 / w) (n / 128 % E) (n % 128 / w) q (div_below (m % 128) w q pos lm) (div_below (n % 128) w q pos ln) p in
    by_parts m n 128 (by_parts (m / 128) (n / 128) E g s.0) (by_parts (m % 128) (n % 128) w s.1 o)

pub same_record : (d : Dpb) (m n : ℕ) → IsFormat d → group_of d (m / 128) ≡ group_of d (n / 128) → map_place d m ≡ map_place d n → block_offset d m ≡ block_offset d n → m ≡ n
unfolding group_of map_place block_offset
same_record d m n format g p o =
    same_place m n (d.extent_mask + 1) (d.block_mask + 1) (128 / (d.block_mask + 1)) format.whole_blocks g p o (omega arith)

-- records of different blocks are different
pub same_drive_record : (d : Dpb) (a b m n : ℕ) → drive_record d a m ≡ drive_record d b n → (a ≡ b) × (block_offset d m ≡ block_offset d n)
unfolding drive_record block_offset
same_drive_record d a b m n e =
    by_sum a _ b _ (d.block_mask + 1) (mod_below (m % 128) (d.block_mask + 1) (omega arith)) (mod_below (n % 128) (d.block_mask + 1) (omega arith)) e
