-- What a machine is made of at its opening. (own)
use Rattle.std.specs.Prelude.{◌≡◌, ℕ, List}
use Rattle.cpm_console.specs.Terminal.{blank_terminal}
use Rattle.cpm_memory.specs.Contents.{Contents}
use Rattle.cpm_memory.specs.Flat.{flat_contents}
use Rattle.cpm_memory.specs.Opening.{opening}
use Rattle.cpm_decode.specs.Cache.{IsRightFor}
use Rattle.cpm_machine.specs.declared.machine.Parts.{Parts}

-- a blank console, a memory at its opening, and a cache that is right for any memory
pub record AreNew (quota : ℕ) (parts : Parts) : Type 0 where
  pub console : parts.console ≡ blank_terminal
  pub memory : flat_contents parts.memory ≡ opening quota
  pub cache : (c : Contents) (stamps : List ℕ) → IsRightFor c stamps parts.cache
