use Rattle.std.proofs.Common.{◌≡◌, ◌++◌, drop, length, map}
use Rattle.std.specs.Vec.Iter.{into_iter_items, into_iter_len}
use Rattle.cpm_geom.specs.Disk.{Disk}
use Rattle.cpm_run.specs.Kept.{standing_view}
use Rattle.cpm_run.specs.Settled.{settled_view}
use Rattle.cpm_run.specs.Rest.{rest_of}
use Rattle.cpm_run.specs.Standing.{IsTrueStanding, join_all, join_standings}
use Rattle.cpm_run.proofs.joining.join_kept.Given as goal

abbrev pub invariant-loop-session : goal.invariant-loop-session
invariant-loop-session l =
    let kept = standing_view l.kept in
    let inputs = map settled_view l.inputs in
    let n = length l.all.items in
    record {
      joined : (system : Disk) → IsTrueStanding system inputs kept → IsTrueStanding system (rest_of inputs kept) (standing_view l.fn.rest.items)
          → standing_view l.all.items ++ join_all kept (map settled_view (drop n l.inputs)) (drop n kept) (standing_view (into_iter_items l.others)) ≡ join_standings inputs kept (standing_view l.fn.rest.items);
      others : into_iter_items l.others ≡ drop n l.fn.rest.items;
    }

abbrev pub decreases-loop-session : goal.decreases-loop-session
decreases-loop-session l = into_iter_len l.others
