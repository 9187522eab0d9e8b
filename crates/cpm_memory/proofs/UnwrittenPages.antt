-- A page that was not written keeps its bytes at opening.
use Rattle.std.proofs.Common.{◌≡◌, ◌≢◌, ℕ, ◌+◌, ◌/◌, ◌%◌, ◌<◌, Bool, true, false, Option, Some, None, is_some, unwrap_or, List, get_or, set, ap, sym, ◌∙◌, inl, inr, arith}
use Rattle.std.proofs.Math.ListN.{get_or-map}
use Rattle.std.proofs.lemmas.List.{get_or-set_other}
use Rattle.std.proofs.lemmas.Bool.{cases_eq, false≢true}
use Rattle.cpm_memory.specs.Contents.{Contents, byte_at, is_written, page_of}
use Rattle.cpm_memory.specs.Frames.{Frames, IsStoreSound, boot_of, frame_of, memory_of, private_at, table_at}
use Rattle.cpm_memory.specs.Opening.{opening_byte}
use Rattle.cpm_memory.specs.Unwritten.{IsBlankUnwritten}
use Rattle.cpm_memory.proofs.Bytes.{byte_at-table}

-- contents in which one page changed at most, which is written then
pub IsBlankUnwritten-kept : (c : Contents) (bytes : List ℕ) (marks : List Bool) (page : ℕ) → get_or marks page false ≡ true → ((p : ℕ) → p ≢ page → get_or marks p false ≡ is_written c p) → ((a : ℕ) → a < 65536 → page_of a ≢ page → get_or bytes a 0 ≡ byte_at c a)
    → IsBlankUnwritten c → IsBlankUnwritten (record { bytes = bytes; written = marks; limit = c.limit })
IsBlankUnwritten-kept c bytes marks page here others same blank address l unwritten =
    elim (cases_eq (page_of address) page) [
      | inl e ↦ absurd (false≢true (sym unwritten ∙ (ap (λ p. get_or marks p false) e ∙ here)))
      | inr ne ↦ same address l ne ∙ blank address l (sym (others (page_of address) ne) ∙ unwritten)
    ]

-- a byte of a page was stored, which is written then
pub IsBlankUnwritten-stored : (c : Contents) (marks : List Bool) (address value : ℕ) → get_or marks (page_of address) false ≡ true → ((p : ℕ) → p ≢ page_of address → get_or marks p false ≡ is_written c p)
    → IsBlankUnwritten c → IsBlankUnwritten (record { bytes = set c.bytes address value; written = marks; limit = c.limit })
IsBlankUnwritten-stored c marks address value here others =
    IsBlankUnwritten-kept c (set c.bytes address value) marks (page_of address) here others
    (λ a l ne. get_or-set_other c.bytes address a value 0 (λ e. ne (ap page_of e)))

-- the memory of a table
pub IsBlankUnwritten-memory_of : (s : Frames) (t : ℕ) → IsStoreSound s → IsBlankUnwritten (memory_of s t)
IsBlankUnwritten-memory_of s t ok address l unwritten =
    byte_at-table s t address l ∙ cases (private_at s t (page_of address)) (sym (get_or-map is_some (table_at s t).places (page_of address) None) ∙ unwritten)
  where
    cases : (o : Option ℕ) → is_some o ≡ false → get_or (frame_of s (unwrap_or o (s.private + boot_of (address / 256)))) (address % 256) 0 ≡ opening_byte (address / 256) (address % 256)
    cases None e = ok.boot (address / 256) (address % 256) (omega (arith, l)) (omega arith)
    cases (Some f) e = absurd (false≢true (sym e))
