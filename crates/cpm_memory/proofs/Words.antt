-- A word that is stored in one page.
use Rattle.std.proofs.Common.{◌≡◌, ◌≢◌, ℕ, ◌+◌, ◌/◌, ◌%◌, ◌<◌, List, Bool, true, false, length, set, get_or, ap, sym, ◌∙◌, arith}
use Rattle.std.proofs.lemmas.List.{set-set, set-get_or, get_or-set_same}
use Rattle.cpm_memory.specs.Contents.{Contents, page_of, next, is_written, after_set, after_sets, word_puts}
use Rattle.cpm_memory.specs.Stamps.{stamp_at, next_stamp, after_stamp, after_stamps}

-- the next address lies in the same page
pub same_page : (address : ℕ) → address < 65536 → address % 256 ≢ 255 → page_of (next address) ≡ page_of address
same_page address fits ne = omega arith

-- a mark that is set stays as it is
pub marked : (ws : List Bool) (page : ℕ) → get_or ws page false ≡ true → set ws page true ≡ ws
marked ws page e = ap (set ws page) (sym e) ∙ set-get_or ws page false

-- both bytes are stored, and no page is written anew
pub word-stored : (c : Contents) (index address value low : ℕ) → index ≡ address → low ≡ value % 256 → address < 65536 → address % 256 ≢ 255 → is_written c (page_of address) ≡ true → record { bytes = set (set c.bytes (index + 1) (value / 256)) index low; written = c.written; limit = c.limit } ≡ after_sets c (word_puts address value)
unfolding after_set
word-stored c index address value low same rest fits ne settled =
    let after : index + 1 ≡ next address = omega (arith, same, fits, ne) in
    let once : set c.written (page_of (next address)) true ≡ c.written = ap (λ p. set c.written p true) (same_page address fits ne) ∙ marked c.written (page_of address) settled in
    let twice : set (set c.written (page_of (next address)) true) (page_of address) true ≡ c.written = ap (λ ws. set ws (page_of address) true) once ∙ marked c.written (page_of address) settled in
    ap (λ i. stored_at i index low c.written) after
    ∙ ap (λ i. stored_at (next address) i low c.written) same
    ∙ ap (λ b. stored_at (next address) address b c.written) rest
    ∙ ap (stored_at (next address) address (value % 256)) (sym twice)
  where
    stored_at : ℕ → ℕ → ℕ → List Bool → Contents
    stored_at i k b ws = record { bytes = set (set c.bytes i (value / 256)) k b; written = ws; limit = c.limit }

-- the stamp of their page is raised by both
raised-twice : (stamps : List ℕ) (page : ℕ) → page < length stamps → stamp_at stamps page < 18446744073709551614 → set stamps page (stamp_at stamps page + 2) ≡ after_stamp (after_stamp stamps page) page
unfolding after_stamp
raised-twice stamps page l below =
    let once : get_or (set stamps page (next_stamp (stamp_at stamps page))) page 0 ≡ next_stamp (stamp_at stamps page) = get_or-set_same stamps page (next_stamp (stamp_at stamps page)) 0 l in
    let sum : stamp_at stamps page + 2 ≡ next_stamp (get_or (set stamps page (next_stamp (stamp_at stamps page))) page 0) = omega (arith, once, below) in
    ap (set stamps page) sum
    ∙ sym (set-set stamps page (next_stamp (stamp_at stamps page)) (next_stamp (get_or (set stamps page (next_stamp (stamp_at stamps page))) page 0)))

pub word-stamped : (stamps : List ℕ) (index address value : ℕ) → index ≡ address → address < 65536 → address % 256 ≢ 255 → page_of index < length stamps → stamp_at stamps (page_of index) < 18446744073709551614 → set stamps (page_of index) (stamp_at stamps (page_of index) + 2) ≡ after_stamps stamps (word_puts address value)
word-stamped stamps index address value same fits ne l below =
    raised-twice stamps (page_of index) l below
    ∙ ap (λ i. after_stamp (after_stamp stamps (page_of i)) (page_of i)) same
    ∙ ap (λ p. after_stamp (after_stamp stamps p) (page_of address)) (sym (same_page address fits ne))
