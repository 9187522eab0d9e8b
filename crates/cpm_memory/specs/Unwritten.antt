-- What a page that was not written has: its bytes at opening.
use Rattle.std.specs.Prelude.{◌≡◌, ℕ, ◌/◌, ◌%◌, ◌<◌, false}
use Rattle.cpm_memory.specs.Contents.{Contents, byte_at, is_written, page_of}
use Rattle.cpm_memory.specs.Opening.{opening_byte}

-- each byte of a page that was not written is that at opening (own)
abbrev pub IsBlankUnwritten : Contents → Type 0
IsBlankUnwritten c = (address : ℕ) → address < 65536 → is_written c (page_of address) ≡ false → byte_at c address ≡ opening_byte (address / 256) (address % 256)
