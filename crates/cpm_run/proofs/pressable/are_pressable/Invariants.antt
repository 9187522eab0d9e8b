use Rattle.std.proofs.Common.{◌<◌, ℕ, map, slice_get}
use Rattle.std.specs.Prelude.{IfSome}
use Rattle.cpm_geom.specs.Disk.{Disk}
use Rattle.cpm_run.specs.Pressable.{IsPressableBy}
use Rattle.cpm_run.specs.Settled.{settled_view}
use Rattle.cpm_run.proofs.pressable.are_pressable.Given as goal

abbrev pub invariant-loop-input : goal.invariant-loop-input
invariant-loop-input l =
    (system : Disk) (place : ℕ) → place < l.input-index → IfSome (slice_get (map settled_view l.inputs) place) (λ i. IsPressableBy system (map settled_view l.inputs) i.start i)
