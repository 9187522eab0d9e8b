use Rattle.std.proofs.Common.{◌≡◌, ◌<◌, ℕ, List, length, get_or, set, ◌∙◌, sym, inl, inr, arith}
use Rattle.std.proofs.lemmas.List.{length-set, get_or-set_same, get_or-set_other}
use Rattle.std.proofs.lemmas.Bool.{cases_eq}
use Rattle.cpm_drive.proofs.NamedLemmas.{marked_is}
use Rattle.cpm_image_files.proofs.renaming.with_attributes.Goals as goal

fits_set : (xs : List ℕ) (place v : ℕ) → place < length xs → v < 256 → ((k : ℕ) → get_or xs k 0 < 256) → (k : ℕ) → get_or (set xs place v) k 0 < 256
fits_set xs place v within small fits k =
    elim (cases_eq k place) [
      | inl e ↦ rw (e, get_or-set_same xs place v 0 within) small
      | inr other ↦ rw (get_or-set_other xs place k v 0 other) (fits k)
    ]

pub loop-place-preserved : goal.loop-place-preserved
loop-place-preserved c =
    let within : c.loop-place.place < length c.loop-place.marked = omega (arith, c.loop-place.invariant.0) in
    let fits : c.with_attribute.result < 256 = omega arith in
    let size : length (set c.loop-place.marked c.loop-place.place c.with_attribute.result) ≡ length c.loop-place.marked = length-set c.loop-place.marked c.loop-place.place c.with_attribute.result in (
      size ∙ c.loop-place.invariant.0,
      λ k h. elim (cases_eq k c.loop-place.place) [
        | inl e ↦ rw (e, get_or-set_same c.loop-place.marked c.loop-place.place c.with_attribute.result 0 within) c.with_attribute.ensures
        | inr other ↦ rw (get_or-set_other c.loop-place.marked c.loop-place.place k c.with_attribute.result 0 other) (c.loop-place.invariant.1 k (omega arith))
      ],
      λ k. fits_set c.loop-place.marked c.loop-place.place c.with_attribute.result within fits c.loop-place.invariant.2 k,
    )

pub returns-clause-value : goal.returns-clause-value
returns-clause-value c =
    marked_is c.args.name.now c.args.attributes.now c.loop-place.marked (c.told-name ∙ sym c.told-attributes) (c.loop-place.invariant.0 ∙ sym c.told-name) (λ k h. c.loop-place.invariant.1 k (omega (arith, c.told-name)))

pub returns-clause-bytes : goal.returns-clause-bytes
returns-clause-bytes c = record { count = c.loop-place.invariant.0; bytes_fit = c.loop-place.invariant.2 }
