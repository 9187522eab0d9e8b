use Rattle.std.proofs.Common.{⊎_elim, arith, inl, inr, map, refl, string_bytes}
use Rattle.std.proofs.lemmas.List.{nil_from_length}
use Rattle.std.specs.Iterator.Adapters.{zip_first, zip_second}
use Rattle.std.specs.Slice.Iter.{iter_rest}
use Rattle.std.specs.Vec.Iter.{into_iter_items}
use Rattle.cpm_commands.proofs.ListLemmas.{part_ended, zip_ended}
use Rattle.cpm_commands.proofs.get.outputs_of.Goals as goal

pub returns : goal.returns
returns c =
    let l = c.loop-path in
    let held = l.path-iterator.b.rest.ok in
    let ended = zip_ended (iter_rest (zip_first l.path-iterator)) (into_iter_items (zip_second l.path-iterator))
    (⊎_elim (λ a. inl (nil_from_length _ a.1.0)) (λ b. inr (nil_from_length _ (omega (arith, b.1.0, held)))) c.in-None.ensures.steps) in
    part_ended (map (λ p. (string_bytes p.0, p.1.items))) refl _ _ _ ended l.invariant
