-- What a memory at its opening has.
use Rattle.std.specs.Prelude.{◌≡◌, ℕ, ◌/◌, ◌%◌, ◌<◌, Bool, false, refl}
use Rattle.cpm_memory.specs.Contents.{byte_at, touched_of}
use Rattle.cpm_memory.specs.Tabulated.{get_or-tabulated, count_by-tabulated_none}
use Rattle.cpm_memory.specs.Opening.{opening, opening_byte}

-- its bytes
pub byte_at-opening : (limit address : ℕ) → address < 65536 → byte_at (opening limit) address ≡ opening_byte (address / 256) (address % 256)
byte_at-opening limit address l = get_or-tabulated 65536 (λ a. opening_byte (a / 256) (a % 256)) address 0 l

-- no page is written
pub touched_of-opening : (limit : ℕ) → touched_of (opening limit) ≡ 0
unfolding touched_of
touched_of-opening limit = count_by-tabulated_none (λ (w : Bool). w) 256 (λ _. false) (λ _. refl)
