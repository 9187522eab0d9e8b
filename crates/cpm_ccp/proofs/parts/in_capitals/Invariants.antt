use Rattle.std.proofs.Common.{◌≡◌, map, take}
use Rattle.arrayvec.specs.ArrayVec.{array_vec_len}
use Rattle.cpm_ccp.specs.Capitals.{capital}
use Rattle.cpm_ccp.proofs.parts.in_capitals.Given as goal

abbrev pub invariant-loop-character : goal.invariant-loop-character
invariant-loop-character l =
    (l.capitals.items ≡ map capital (take l.character-index l.text)) × (array_vec_len l.capitals ≡ l.character-index)
