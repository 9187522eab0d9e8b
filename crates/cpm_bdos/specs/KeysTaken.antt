-- How keys leave a console.
use Rattle.std.specs.Prelude.{ℕ, ◌≡◌, ◌≤◌, List, drop}

-- of the old keys the first was taken, or none; the others stay, in their order, and none came
pub record IsFromFront (old new : List ℕ) : Type 0 where
  pub count : ℕ
  pub few : count ≤ 1
  pub rest : new ≡ drop count old
