-- The pages of a memory, and the memory of these pages.
use Rattle.std.proofs.Common.{◌≡◌, ◌≢◌, ◌∙◌, ◌<◌, ◌+◌, ◌-◌, ◌*◌, ◌/◌, ◌%◌, ℕ, Bool, true, false, cond, is_some, map, List, Option, Some, None, length}
use Rattle.std.proofs.Common.{get_or, drop, ap, arith, refl, sym, length-drop}
use Rattle.std.specs.List.{slice_range}
use Rattle.std.proofs.Math.ListN.{get_or-map}
use Rattle.std.proofs.lemmas.List.{get_or-drop, get_or-set_other, get_or-set_same, get_or-take, length-map, length-take-le}
use Rattle.std.proofs.lemmas.Grind.{same_number_lists}
use Rattle.std.proofs.lemmas.Bool.{false≢true}
use Rattle.cpm_memory.specs.Contents.{Contents, IsContents, byte_at, is_written}
use Rattle.cpm_memory.specs.Opening.{opening_byte}
use Rattle.cpm_memory.specs.Scratch.{byte_with, with_page}
use Rattle.cpm_memory.specs.Tabulated.{get_or-tabulated, length-tabulated, same_as_tabulated, tabulated}
use Rattle.cpm_memory.specs.Unwritten.{IsBlankUnwritten}
use Rattle.cpm_memory.proofs.PutBack.{chosen, passed}
use Rattle.cpm_saved.specs.Layout.{IsOf}
use Rattle.cpm_saved.specs.SavedMemory.{byte_of_page, memory_fields, memory_layout, memory_of_fields, page_layout, saved_page}

-- ---- the bytes of a page among those of all pages

page_size : (bytes : List ℕ) (page : ℕ) → length bytes ≡ 65536 → page < 256 → length (slice_range bytes (256 * page) (256 * page + 256)) ≡ 256
page_size bytes page all low =
    let count : 256 * page + 256 - 256 * page ≡ 256 = omega arith in
    length-take-le (256 * page + 256 - 256 * page) (drop (256 * page) bytes) (omega (arith, length-drop (256 * page) bytes, all, low)) ∙ count

page_byte : (bytes : List ℕ) (page offset : ℕ) → offset < 256
    → get_or (slice_range bytes (256 * page) (256 * page + 256)) offset 0 ≡ get_or bytes (256 * page + offset) 0
page_byte bytes page offset low =
    get_or-take (256 * page + 256 - 256 * page) (drop (256 * page) bytes) offset 0 (omega (arith, low)) ∙ get_or-drop (256 * page) bytes offset 0

page_number : (page offset : ℕ) → offset < 256 → (256 * page + offset) / 256 ≡ page
page_number page offset low = omega (arith, low)

page_offset : (page offset : ℕ) → offset < 256 → (256 * page + offset) % 256 ≡ offset
page_offset page offset low = omega (arith, low)

page_place : (a : ℕ) → 256 * (a / 256) + a % 256 ≡ a
page_place a = omega arith

-- bytes are those of a page of a memory, where they are its bytes one by one
pub page_is : (byte : ℕ → ℕ) (page : ℕ) (bytes : List ℕ) → page < 256 → length bytes ≡ 256 → ((k : ℕ) → k < 256 → byte (256 * page + k) ≡ get_or bytes k 0)
    → slice_range (tabulated 65536 byte) (256 * page) (256 * page + 256) ≡ bytes
page_is byte page bytes low count same =
    let size = page_size (tabulated 65536 byte) page (length-tabulated 65536 byte) low in
    same_number_lists (slice_range (tabulated 65536 byte) (256 * page) (256 * page + 256)) bytes (size ∙ sym count) (λ k within.
    let small : k < 256 = omega (arith, size, within) in
    page_byte (tabulated 65536 byte) page k small ∙ get_or-tabulated 65536 byte (256 * page + k) 0 (omega (arith, small, low)) ∙ same k small)

-- ---- a page, if it was written

abbrev page_bytes : Contents → ℕ → List ℕ
page_bytes c page = slice_range c.bytes (256 * page) (256 * page + 256)

abbrev saved_by : List ℕ → Bool → Option (List ℕ)
saved_by bytes mark = cond {A = Option (List ℕ)} mark (Some bytes) None

pub saved_none : (c : Contents) (page : ℕ) → is_written c page ≡ false → saved_page c page ≡ None
saved_none c page e = ap (saved_by (page_bytes c page)) e

pub saved_some : (c : Contents) (page : ℕ) (bytes : List ℕ) → is_written c page ≡ true → slice_range c.bytes (256 * page) (256 * page + 256) ≡ bytes
    → saved_page c page ≡ Some bytes
saved_some c page bytes e is = ap (saved_by (page_bytes c page)) e ∙ ap (λ (xs : List ℕ). Some xs) is

-- ---- a memory is that of its pages

saved_mark : (bytes : List ℕ) (mark : Bool) → is_some (saved_by bytes mark) ≡ mark
saved_mark bytes true = refl
saved_mark bytes false = refl

byte_back : (c : Contents) → IsBlankUnwritten c → (a : ℕ) → a < 65536 → (mark : Bool) → is_written c (a / 256) ≡ mark
    → get_or c.bytes a 0 ≡ byte_of_page (a / 256) (a % 256) (saved_by (page_bytes c (a / 256)) mark)
byte_back c blank a low true e =
    ap (λ (k : ℕ). get_or c.bytes k 0) (sym (page_place a)) ∙ sym (page_byte c.bytes (a / 256) (a % 256) (omega arith))
byte_back c blank a low false e = blank a low e

abbrev contents : List ℕ → List Bool → ℕ → Contents
contents bytes written limit = record { bytes = bytes; written = written; limit = limit }

marks_back : (c : Contents) → IsContents c → map is_some (tabulated 256 (saved_page c)) ≡ c.written
marks_back c is =
    let pages = tabulated 256 (saved_page c) in
    same_as_tabulated 256 (is_written c) (map is_some pages) false (length-map pages is_some ∙ length-tabulated 256 (saved_page c))
    (λ k low. get_or-map is_some pages k None ∙ ap (λ (o : Option (List ℕ)). is_some o) (get_or-tabulated 256 (saved_page c) k None low)
    ∙ saved_mark (page_bytes c k) (is_written c k))
    ∙ sym (same_as_tabulated 256 (is_written c) c.written false is.pages (λ k low. refl))

pub memory_back : (c : Contents) → IsContents c → IsBlankUnwritten c → memory_of_fields c.limit (memory_fields c) ≡ c
memory_back c is blank =
    let pages = tabulated 256 (saved_page c) in
    let byte = λ (a : ℕ). byte_of_page (a / 256) (a % 256) (get_or pages (a / 256) None) in
    let bytes : tabulated 65536 byte ≡ c.bytes = sym (same_as_tabulated 65536 byte c.bytes 0 is.size (λ a low.
    byte_back c blank a low (is_written c (a / 256)) refl
    ∙ ap (byte_of_page (a / 256) (a % 256)) (sym (get_or-tabulated 256 (saved_page c) (a / 256) None (omega (arith, low)))))) in
    ap (λ (xs : List ℕ). contents xs (map is_some pages) c.limit) bytes ∙ ap (λ (ws : List Bool). contents c.bytes ws c.limit) (marks_back c is)

-- ---- the pages of a memory are those that it was made of

written_is : (limit : ℕ) (pages : List (Option (List ℕ))) (page : ℕ) → is_written (memory_of_fields limit pages) page ≡ is_some (get_or pages page None)
written_is limit pages page = get_or-map is_some pages page None

abbrev byte_in : List (Option (List ℕ)) → ℕ → ℕ
byte_in pages a = byte_of_page (a / 256) (a % 256) (get_or pages (a / 256) None)

-- a byte of a page that was written
byte_there : (pages : List (Option (List ℕ))) (page offset : ℕ) (bytes : List ℕ) → get_or pages page None ≡ Some bytes → offset < 256
    → byte_in pages (256 * page + offset) ≡ get_or bytes offset 0
byte_there pages page offset bytes e low =
    ap (λ (p : ℕ). byte_of_page p ((256 * page + offset) % 256) (get_or pages p None)) (page_number page offset low)
    ∙ ap (λ (k : ℕ). byte_of_page page k (get_or pages page None)) (page_offset page offset low)
    ∙ ap (byte_of_page page offset) e

page_back : (limit : ℕ) (pages : List (Option (List ℕ))) (page : ℕ) (o : Option (List ℕ)) → get_or pages page None ≡ o → page < 256 → IsOf page_layout o
    → get_or pages page None ≡ saved_page (memory_of_fields limit pages) page
page_back limit pages page None e low of =
    e ∙ sym (saved_none (memory_of_fields limit pages) page (written_is limit pages page ∙ ap (λ (o : Option (List ℕ)). is_some o) e))
page_back limit pages page (Some bytes) e low of =
    e ∙ sym (saved_some (memory_of_fields limit pages) page bytes (written_is limit pages page ∙ ap (λ (o : Option (List ℕ)). is_some o) e)
    (page_is (byte_in pages) page bytes low of.0 (λ k small. byte_there pages page k bytes e small)))

pub fields_back : (limit : ℕ) (pages : List (Option (List ℕ))) → IsOf memory_layout pages → memory_fields (memory_of_fields limit pages) ≡ pages
fields_back limit pages of =
    let count : length pages ≡ 256 = of.0 in
    sym (same_as_tabulated 256 (saved_page (memory_of_fields limit pages)) pages None count
    (λ k low. page_back limit pages k (get_or pages k None) refl low (of.1 k None (omega (arith, low, count)))))

blank_page : (page offset : ℕ) (o : Option (List ℕ)) → is_some o ≡ false → byte_of_page page offset o ≡ opening_byte page offset
blank_page page offset None e = refl
blank_page page offset (Some bytes) e = absurd (false≢true (sym e))

pub blank_back : (limit : ℕ) (pages : List (Option (List ℕ))) → IsBlankUnwritten (memory_of_fields limit pages)
blank_back limit pages address low unwritten =
    get_or-tabulated 65536 (byte_in pages) address 0 low
    ∙ blank_page (address / 256) (address % 256) (get_or pages (address / 256) None) (sym (written_is limit pages (address / 256)) ∙ unwritten)

-- ---- a page that is put

pub page_put : (c : Contents) (page : ℕ) (bytes : List ℕ) → length c.written ≡ 256 → page < 256 → length bytes ≡ 256
    → saved_page (with_page c page bytes) page ≡ Some bytes
page_put c page bytes marks low count =
    saved_some (with_page c page bytes) page bytes (get_or-set_same c.written page true false (omega (arith, marks, low)))
    (page_is (byte_with c page bytes) page bytes low count (λ k small.
    chosen ((256 * page + k) / 256) page (get_or bytes ((256 * page + k) % 256) 0) (byte_at c (256 * page + k)) (page_number page k small)
    ∙ ap (λ (i : ℕ). get_or bytes i 0) (page_offset page k small)))

-- the other pages keep their bytes
pub page_kept : (c : Contents) (page other : ℕ) (bytes : List ℕ) → length c.bytes ≡ 65536 → other < 256 → other ≢ page
    → saved_page (with_page c page bytes) other ≡ saved_page c other
page_kept c page other bytes all low apart =
    ap (λ (xs : List ℕ). saved_by xs (is_written (with_page c page bytes) other))
    (page_is (byte_with c page bytes) other (page_bytes c other) low (page_size c.bytes other all low) (λ k small.
    passed ((256 * other + k) / 256) page (get_or bytes ((256 * other + k) % 256) 0) (byte_at c (256 * other + k))
    (λ e. apart (sym (page_number other k small) ∙ e)) ∙ sym (page_byte c.bytes other k small)))
    ∙ ap (saved_by (page_bytes c other)) (get_or-set_other c.written page other true false apart)
