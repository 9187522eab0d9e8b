use Rattle.std.proofs.Common.{◌≡◌, ◌<◌, ◌||◌, eqb, ℕ, length, get_or, take, true}
use Rattle.std.specs.List.{list_any}
use Rattle.cpm_directory.proofs.reserved.mark.Given as goal

abbrev pub invariant-loop-number : goal.invariant-loop-number
invariant-loop-number l =
    (length l.blocks ≡ 512) × (get_or l.blocks 0 true ≡ get_or l.initial.blocks 0 true) × ((b : ℕ) → 0 < b → b < 512 → get_or l.blocks b true ≡ (get_or l.initial.blocks b true || list_any (λ number. eqb number b) (take l.number-index l.numbers)))
