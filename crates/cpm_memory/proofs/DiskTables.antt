-- The disk tables of a memory at its opening.
use Rattle.std.proofs.Common.{◌≡◌, ℕ, ◌+◌, ◌*◌, ◌/◌, ◌%◌, ◌<◌, List, [], map, get_or, refl, arith, ap, sym, ◌∙◌}
use Rattle.std.specs.List.{range_with_len}
use Rattle.std.proofs.lemmas.List.FromFn.{get_or-map-range_with_len}
use Rattle.cpm_memory.specs.Contents.{byte_at, word_at, next}
use Rattle.cpm_geom.specs.Geometry.{dpb_of, sector_of, skew}
use Rattle.cpm_geom.specs.declared.format.Format.{Format}
use Rattle.cpm_geom.specs.declared.format.Format.TheVariants.{Ibm3740, Large}
use Rattle.cpm_memory.specs.Layout.{skew_address}
use Rattle.cpm_memory.specs.DiskTables.{format_offset, parameter_block, parameter_block_address, parameter_header, header_address}
use Rattle.cpm_memory.specs.Opening.{opening, opening_byte}
use Rattle.cpm_memory.specs.Opened.{byte_at-opening}
use Rattle.cpm_memory.specs.Laws.{HasDiskTables}

abbrev byte : ℕ → ℕ
byte a = opening_byte (a / 256) (a % 256)

abbrev header_word : Format → ℕ → ℕ → ℕ
header_word f drive k = byte (header_address f drive + 2 * k) + 256 * byte (next (header_address f drive + 2 * k))

abbrev header : Format → ℕ → List ℕ
header f drive = map (header_word f drive) (range_with_len 0 8)

offset-small : (f : Format) → format_offset f < 17
offset-small Ibm3740 = omega arith
offset-small Large = omega arith

skew-bytes : map byte (range_with_len skew_address 26) ≡ skew
unfolding opening_byte sector_of skew
skew-bytes = refl

sector-skew : (k : ℕ) → get_or skew k 0 ≡ sector_of Ibm3740 k
unfolding sector_of
sector-skew k = refl

parameter_block-bytes : (f : Format) → map byte (range_with_len (parameter_block_address f) 15) ≡ parameter_block (dpb_of f)
unfolding opening_byte dpb_of
parameter_block-bytes Ibm3740 = refl
parameter_block-bytes Large = refl

header-words : (f : Format) → map (header f) (range_with_len 0 5) ≡ map (parameter_header f) (range_with_len 0 5)
unfolding opening_byte
header-words Ibm3740 = refl
header-words Large = refl

-- bytes of a table from an address on
bytes-at : (limit first size k : ℕ) (table : List ℕ) → map byte (range_with_len first size) ≡ table → first + size < 65536 → k < size → byte_at (opening limit) (first + k) ≡ get_or table k 0
bytes-at limit first size k table e within l =
    byte_at-opening limit (first + k) (omega (arith, within, l))
    ∙ sym (get_or-map-range_with_len byte first size k (first + k) 0 l refl)
    ∙ ap (λ xs. get_or xs k 0) e

header-at : (f : Format) (drive : ℕ) → drive < 5 → header f drive ≡ parameter_header f drive
header-at f drive l =
    sym (get_or-map-range_with_len (header f) 0 5 drive drive [] l (omega arith))
    ∙ ap (λ xs. get_or xs drive []) (header-words f)
    ∙ get_or-map-range_with_len (parameter_header f) 0 5 drive drive [] l (omega arith)

word-at : (limit : ℕ) (f : Format) (drive k : ℕ) → drive < 5 → k < 8 → word_at (opening limit) (header_address f drive + 2 * k) ≡ get_or (parameter_header f drive) k 0
word-at limit f drive k ld lk =
    let small = offset-small f in
    ap (λ b. b + 256 * byte_at (opening limit) (next (header_address f drive + 2 * k))) (byte_at-opening limit (header_address f drive + 2 * k) (omega arith))
    ∙ ap (λ b. byte (header_address f drive + 2 * k) + 256 * b) (byte_at-opening limit (next (header_address f drive + 2 * k)) (omega arith))
    ∙ sym (get_or-map-range_with_len (header_word f drive) 0 8 k k 0 lk (omega arith))
    ∙ ap (λ xs. get_or xs k 0) (header-at f drive ld)

pub has-disk-tables : (limit : ℕ) → HasDiskTables limit
has-disk-tables limit = record {
  sectors = λ k l. bytes-at limit skew_address 26 k skew skew-bytes (omega arith) l ∙ sector-skew k;
  parameters = λ f k l. bytes-at limit (parameter_block_address f) 15 k (parameter_block (dpb_of f)) (parameter_block-bytes f) (let small = offset-small f in omega arith) l;
  headers = λ f drive k ld lk. word-at limit f drive k ld lk;
}
