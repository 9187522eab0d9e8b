use Rattle.std.proofs.Common.{◌≡◌, ◌≢◌, ◌<◌, ◌≤◌, ◌*◌, ◌+◌, ◌-◌, ap, ◌∙◌, sym, inl, inr, arith}
use Rattle.std.proofs.lemmas.Bool.{cases_eq}
use Rattle.cpm_geom.specs.Geometry.{dpb_of}
use Rattle.cpm_volume.specs.Files.{extent_number, group_of, entry_block}
use Rattle.cpm_image_files.proofs.CountLemmas.{group_small, end_is}
use Rattle.cpm_image_files.proofs.records.end_of.Goals as goal
use Rattle.cpm_image_files.proofs.records.end_of.Goals.{then-block_of-ne0, else-block_of-ne0}

pub overflow_mul-start : goal.overflow_mul-start
overflow_mul-start c =
    let number = extent_number c.args.entry.now.extent in
    let g : c.group_of.result ≡ group_of (dpb_of c.args.format) number = c.group_of.ensures ∙ ap (group_of (dpb_of c.args.format)) (c.from.ensures ∙ c.number.ensures.value) in
    let low : number < 512 = rw (sym c.number.ensures.value) c.number.ensures.small in
    let bound : c.group_of.result * c.records_in_entry-size.result + c.records_in_entry-size.result ≤ 65536 = rw (g, c.records_in_entry-size.ensures.value) (group_small c.args.format number low) in
    omega arith

pub overflow_add-number-end : goal.overflow_add-number-end
overflow_add-number-end c =
    let number = extent_number c.args.entry.now.extent in
    let g : c.group_of.result ≡ group_of (dpb_of c.args.format) number = c.group_of.ensures ∙ ap (group_of (dpb_of c.args.format)) (c.from.ensures ∙ c.number.ensures.value) in
    let low : number < 512 = rw (sym c.number.ensures.value) c.number.ensures.small in
    let bound : c.group_of.result * c.records_in_entry-size.result + c.records_in_entry-size.result ≤ 65536 = rw (g, c.records_in_entry-size.ensures.value) (group_small c.args.format number low) in
    omega arith

pub loop-number-preserved : goal.loop-number-preserved
loop-number-preserved c =
    let from = c.loop-number.auto.number in
    elim c.if-block_of-ne0.branch [
      | then-block_of-ne0 w ↦
          let back : c.loop-number.number + 1 - 1 ≡ c.loop-number.number = omega arith in
          let some : entry_block (dpb_of c.args.format) c.args.entry.now (c.loop-number.number + 1 - 1) ≢ 0 = λ z. w.if-block_of-ne0.true (c.block_of.ensures ∙ (ap (entry_block (dpb_of c.args.format) c.args.entry.now) (sym back) ∙ z)) in
          rw w.end-is (omega arith, λ h. (omega arith, some), λ n a b past. absurd (omega arith))
      | else-block_of-ne0 w ↦
          let so_far = c.loop-number.invariant in
          rw w.end-is (
            omega (arith, so_far.0),
            so_far.1,
            λ n a b past. elim (cases_eq n c.loop-number.number) [
              | inl e ↦ rw e (sym c.block_of.ensures ∙ w.if-block_of-ne0.false)
              | inr other ↦ so_far.2 n a (omega arith) past
            ],
          )
    ]

pub returns : goal.returns
returns c =
    let number = extent_number c.args.entry.now.extent in
    let size = c.records_in_entry-size.result in
    let g : c.group_of.result ≡ group_of (dpb_of c.args.format) number = c.group_of.ensures ∙ ap (group_of (dpb_of c.args.format)) (c.from.ensures ∙ c.number.ensures.value) in
    let low : number < 512 = rw (sym c.number.ensures.value) c.number.ensures.small in
    let bound : c.group_of.result * size + size ≤ 65536 = rw (g, c.records_in_entry-size.ensures.value) (group_small c.args.format number low) in
    let all = c.loop-number.invariant in
    let last : c.loop-number.number ≤ c.group_of.result * size + size = omega arith in
    let within : c.loop-number.end ≤ c.group_of.result * size + size = omega (arith, all.0) in
    record {
      end = end_is c.args.format c.args.entry.now c.loop-number.end size (c.group_of.result * size) c.records_in_entry-size.ensures.value (ap (λ k. k * size) g) within all.1 (λ n a b past. all.2 n a (omega arith) past);
      small = omega arith;
    }
