-- Where a record is among the records of its block and of its entry.
use Rattle.std.proofs.Common.{◌≡◌, ◌≢◌, ℕ, ◌+◌, ◌*◌, ◌/◌, ◌%◌, ◌<◌, ◌≤◌, eqb, cond, sym, refl, ap, ◌∙◌, inl, inr, arith}
use Rattle.std.proofs.Math.Nat.{mul_comm, mul_assoc, add-mul, mul-add-mod_self_right, mul-mod_left}
use Rattle.std.proofs.lemmas.Nat.{div-add-mod', div-mul-add, mod-mul-add, mod_below, le-div, same_from_place}
use Rattle.std.proofs.lemmas.Bool.{eq-eqb, ne_eqb, lt-ltb, cases_eq, cases_lt}
use Rattle.cpm_geom.specs.declared.dpb.Dpb.{Dpb}
use Rattle.cpm_volume.specs.declared.extent.Extent.{Extent}
use Rattle.cpm_volume.specs.Files.{extent_number, group_of, entry_place_of, IsFormat}
use Rattle.cpm_volume.specs.Laws.{position}
use Rattle.cpm_image_files.specs.Appending.{records_in_entry, entries_begun, blocks_begun}

-- ---- blocks
-- an extent is a whole number of blocks
whole : (q w a : ℕ) → q * w ≡ 128 → 128 * a ≡ (q * a) * w
whole q w a e = ap (λ k. k * a) (sym e) ∙ (mul_assoc q w a ∙ (ap (λ k. q * k) (mul_comm w a) ∙ sym (mul_assoc q a w)))

in_block : (d : Dpb) (a c : ℕ) → IsFormat d → (128 * a + c) % (d.block_mask + 1) ≡ c % (d.block_mask + 1)
in_block d a c format =
    ap (λ k. (k + c) % (d.block_mask + 1)) (whole _ _ a format.whole_blocks) ∙ mul-add-mod_self_right (128 / (d.block_mask + 1) * a) (d.block_mask + 1) c

placed : (r q w k c : ℕ) → q * w ≡ 128 → k * w + c % w ≡ c → (r * q + k) * w + c % w ≡ 128 * r + c
placed r q w k c e f =
    let split = add-mul (r * q) k w in
    let row : r * q * w ≡ r * 128 = mul_assoc r q w ∙ ap (λ m. r * m) e in
    omega arith

-- the place of a record in its entry's map
pub place_starts : (d : Dpb) (x : Extent) (current : ℕ) → IsFormat d → entry_place_of d x current * (d.block_mask + 1) + current % (d.block_mask + 1) ≡ records_in_entry d x current
unfolding entry_place_of
place_starts d x current format =
    placed (extent_number x % (d.extent_mask + 1)) (128 / (d.block_mask + 1)) (d.block_mask + 1) (current / (d.block_mask + 1)) current format.whole_blocks (div-add-mod' current (d.block_mask + 1))

pub zero_rest : (w : ℕ) → 0 % w ≡ 0
zero_rest w = sym (ap (λ k. k % w) (let z : 0 * w ≡ 0 = omega arith in z)) ∙ mul-mod_left 0 w

-- a multiple is no multiple and a rest
pub apart_from : (a b r w : ℕ) → r < w → r ≢ 0 → a * w ≢ b * w + r
apart_from a b r w below some e =
    some (sym (same_from_place a 0 b r w (omega arith) below (omega arith)).1)

pub same_factor : (a b w : ℕ) → 0 < w → a * w ≡ b * w → a ≡ b
same_factor a b w pos e = (same_from_place a 0 b 0 w pos pos (omega arith)).0

pub blocks_begun_at : (d : Dpb) (x : Extent) (current : ℕ) → IsFormat d → blocks_begun d (position x current) ≡ cond (eqb (current % (d.block_mask + 1)) 0) 1 0
unfolding blocks_begun position
blocks_begun_at d x current format = rw (in_block d (extent_number x) current format) refl

-- the record behind an extent begins a block
pub extent_begins_block : (d : Dpb) (x : Extent) → IsFormat d → blocks_begun d (position x 128) ≡ 1
extent_begins_block d x format =
    let multiple : 128 % (d.block_mask + 1) ≡ 0 = ap (λ k. k % (d.block_mask + 1)) (sym format.whole_blocks) ∙ mul-mod_left (128 / (d.block_mask + 1)) (d.block_mask + 1) in
    blocks_begun_at d x 128 format ∙ rw multiple refl

-- ---- entries
in_entry : (a c e : ℕ) → 0 < e → c < 128 → (128 * a + c) % (128 * e) ≡ 128 * (a % e) + c
in_entry a c e pos small =
    let parts = div-add-mod' a e in
    let row : a / e * (128 * e) ≡ 128 * (a / e * e) = sym (mul_assoc (a / e) 128 e) ∙ (ap (λ k. k * e) (mul_comm (a / e) 128) ∙ mul_assoc 128 (a / e) e) in
    let low = mod_below a e pos in
    let same : 128 * a + c ≡ a / e * (128 * e) + (128 * (a % e) + c) = omega arith in
    ap (λ k. k % (128 * e)) same ∙ mod-mul-add (a / e) (128 * e) (128 * (a % e) + c) (omega arith)

-- a record within an extent begins no entry, but for record 0, whose entry was made
pub begins_no_entry : (d : Dpb) (x : Extent) (current : ℕ) → current < 128 → (current ≡ 0 → extent_number x ≡ 0) → entries_begun d (position x current) ≡ 0
unfolding entries_begun position
begins_no_entry d x current small begun =
    elim (cases_eq current 0) [
      | inl z ↦
          let first : 128 * extent_number x + current ≡ 0 = let e = begun z in omega arith in
          rw first refl
      | inr some ↦
          let rest = in_entry (extent_number x) current (d.extent_mask + 1) (omega arith) small in
          rw (lt-ltb 0 (128 * extent_number x + current) (omega arith), ne_eqb ((128 * extent_number x + current) % (128 * (d.extent_mask + 1))) 0 (λ z. some (omega arith))) refl
    ]

behind : (d : Dpb) (x : Extent) → (128 * extent_number x + 128) % (128 * (d.extent_mask + 1)) ≡ 128 * ((extent_number x + 1) % (d.extent_mask + 1))
behind d x =
    let same : 128 * extent_number x + 128 ≡ 128 * (extent_number x + 1) + 0 = omega arith in
    ap (λ k. k % (128 * (d.extent_mask + 1))) same ∙ (in_entry (extent_number x + 1) 0 (d.extent_mask + 1) (omega arith) (omega arith) ∙ omega arith)

next_in_group : (a e : ℕ) → (a + 1) / e ≡ a / e → (a + 1) % e ≡ a % e + 1
next_in_group a e same =
    let parts = div-add-mod' a e in
    let next = rw same at (div-add-mod' (a + 1) e) in
    omega arith

next_group : (a e : ℕ) → 0 < e → (a + 1) / e ≢ a / e → (a + 1) % e ≡ 0
next_group a e pos other =
    let parts = div-add-mod' a e in
    let low = mod_below a e pos in
    elim (cases_lt (a % e + 1) e) [
      | inl within ↦ absurd (other (
          let same : a + 1 ≡ a / e * e + (a % e + 1) = omega arith in
          ap (λ k. k / e) same ∙ div-mul-add (a / e) e (a % e + 1) within))
      | inr past ↦
          let row = add-mul (a / e) 1 e in
          let same : a + 1 ≡ (a / e + 1) * e = omega arith in
          ap (λ k. k % e) same ∙ mul-mod_left (a / e + 1) e
    ]

-- the next extent is in the entry: its records follow those of this one
pub next_follows : (d : Dpb) (x : Extent) → group_of d (extent_number x + 1) ≡ group_of d (extent_number x) → (extent_number x + 1) % (d.extent_mask + 1) ≡ extent_number x % (d.extent_mask + 1) + 1
unfolding group_of
next_follows d x same = next_in_group (extent_number x) (d.extent_mask + 1) same

-- or it is the first of another
pub next_is_first : (d : Dpb) (x : Extent) → group_of d (extent_number x + 1) ≢ group_of d (extent_number x) → (extent_number x + 1) % (d.extent_mask + 1) ≡ 0
unfolding group_of
next_is_first d x other = next_group (extent_number x) (d.extent_mask + 1) (omega arith) other

pub extent_begins_no_entry : (d : Dpb) (x : Extent) → group_of d (extent_number x + 1) ≡ group_of d (extent_number x) → entries_begun d (position x 128) ≡ 0
unfolding entries_begun position
extent_begins_no_entry d x same =
    let follows = next_follows d x same in
    let rest = behind d x in
    rw (lt-ltb 0 (128 * extent_number x + 128) (omega arith), ne_eqb ((128 * extent_number x + 128) % (128 * (d.extent_mask + 1))) 0 (λ z. absurd (omega arith))) refl

pub extent_begins_entry : (d : Dpb) (x : Extent) → group_of d (extent_number x + 1) ≢ group_of d (extent_number x) → entries_begun d (position x 128) ≡ 1
unfolding entries_begun position
extent_begins_entry d x other =
    let first = next_is_first d x other in
    let rest = behind d x in
    rw (lt-ltb 0 (128 * extent_number x + 128) (omega arith), eq-eqb ((128 * extent_number x + 128) % (128 * (d.extent_mask + 1))) 0 (omega arith)) refl

-- a greater number is of no lesser group
div_grows : (a b e : ℕ) → 0 < e → a ≤ b → a / e ≤ b / e
div_grows a b e pos h =
    let parts = div-add-mod' a e in
    le-div (a / e) b e pos (omega arith)

pub group_grows : (d : Dpb) (a b : ℕ) → a ≤ b → group_of d a ≤ group_of d b
unfolding group_of
group_grows d a b h = div_grows a b (d.extent_mask + 1) (omega arith) h
