use Rattle.std.proofs.Common.{⊎_elim, Some, ap, inl, inr, map, refl}
use Rattle.std.proofs.lemmas.List.{nil_from_length}
use Rattle.std.specs.Array.Iter.{array_into_iter_items}
use Rattle.std.specs.Iterator.Adapters.{zip_first, zip_second}
use Rattle.std.specs.List.{flat_map}
use Rattle.std.specs.Slice.Iter.{iter_rest}
use Rattle.cpm_batch.specs.Outputs.{named_image}
use Rattle.cpm_commands.proofs.ListLemmas.{part_ended, zip_ended}
use Rattle.cpm_commands.proofs.left.add_drives.Goals as goal

pub returns-clause-added : goal.returns-clause-added
returns-clause-added c =
    let l = c.loop-name in
    let ended = zip_ended (map (λ n. n.now) (iter_rest (zip_first l.name-iterator))) (array_into_iter_items (zip_second l.name-iterator))
    (⊎_elim (λ a. inl (ap (map (λ n. n.now)) (nil_from_length _ a.1.0))) (λ b. inr (nil_from_length _ b.1.0)) c.in-None.ensures.steps) in
    part_ended (flat_map (λ p. named_image (Some p.0) p.1)) refl _ _ _ ended l.invariant.added
