-- A memory in a saving: the pages that were written. All of it is own.
use Rattle.std.specs.Prelude.{ℕ, ◌+◌, ◌*◌, ◌/◌, ◌%◌, if◌then◌else◌, List, Option, Some, None, is_some, map, slice_index, slice_index_or, slice_range}
use Rattle.cpm_memory.specs.Contents.{Contents, is_written}
use Rattle.cpm_memory.specs.Opening.{opening_byte}
use Rattle.cpm_memory.specs.Tabulated.{tabulated}
use Rattle.cpm_saved.specs.Layout.{Layout, Fixed, Maybe, Times, laid_out}
use Rattle.cpm_saved.specs.declared.part.SavingPart.TheVariants as part

-- for each page whether it was written, and then its bytes
abbrev pub page_layout : Layout
page_layout = Maybe part.Page (Fixed part.Page 256)

abbrev pub memory_layout : Layout
memory_layout = Times 256 page_layout

-- the bytes of a page, if it was written
abbrev pub saved_page : Contents → ℕ → Option (List ℕ)
saved_page c page = if is_written c page then Some (slice_range c.bytes (256 * page) (256 * page + 256)) else None

abbrev pub memory_fields : Contents → laid_out memory_layout
memory_fields c = tabulated 256 (saved_page c)

-- the byte at an offset of a page: that of the page if it was written, else as at opening
abbrev pub byte_of_page : ℕ → ℕ → Option (List ℕ) → ℕ
byte_of_page page offset None = opening_byte page offset
byte_of_page page offset (Some bytes) = slice_index bytes offset

-- the memory of these pages, of which so many may be written
abbrev pub memory_of_fields : ℕ → List (Option (List ℕ)) → Contents
memory_of_fields limit pages =
    record {
      bytes = tabulated 65536 (λ a. byte_of_page (a / 256) (a % 256) (slice_index_or pages (a / 256) None));
      written = map is_some pages;
      limit = limit;
    }
