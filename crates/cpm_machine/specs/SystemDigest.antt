-- The digest of a system drive. (own)
use Rattle.std.specs.Prelude.{ℕ, List}
use Rattle.std.specs.List.{concat}
use Rattle.sha2.specs.Sha256.{sha256}
use Rattle.cpm_geom.specs.Disk.{Disk}

-- own: SHA-256 of the image's bytes, which are its sectors one after the other
unfoldable pub system_digest : Disk → List ℕ
system_digest system = sha256 (concat system.sectors)
