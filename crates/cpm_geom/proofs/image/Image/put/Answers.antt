use Rattle.std.proofs.Common.{◌≡◌, List, ℕ, arith, refl, ap, set, length, ◌∙◌, ◌+◌, ◌*◌, ◌-◌}
use Rattle.std.proofs.lemmas.List.{with_items_is}
use borrow.Rule.Slice.PartMut.{put_mid}
use Rattle.cpm_geom.specs.Disk.{Disk, sectors_of}
use Rattle.cpm_geom.specs.Geometry.{sector_count}
use Rattle.cpm_geom.proofs.SectorLemmas.{put_is_set, put_length}
use Rattle.cpm_geom.proofs.GeometryLemmas.{format_size, sector_count_small}
use Rattle.cpm_geom.proofs.image.Image.put.Goals as goal

pub overflow_mul-start : goal.overflow_mul-start
overflow_mul-start c = omega (arith, sector_count_small c.args.self.now.format)

pub overflow_add-start : goal.overflow_add-start
overflow_add-start c = omega (arith, sector_count_small c.args.self.now.format)

pub slice_bounds-copy_from_slice-end : goal.slice_bounds-copy_from_slice-end
slice_bounds-copy_from_slice-end c =
    let size = format_size c.self.inside.format _ c.self.invariant in
    let same : sector_count c.self.inside.format ≡ sector_count c.args.self.now.format = ap (λ (d : Disk). sector_count d.format) c.self.view_is in
    omega (arith, c.deref_mut.ensures.len)

pub returns : goal.returns
returns c =
    let size = format_size c.self.inside.format _ c.self.invariant in
    let count : sector_count c.self.inside.format ≡ sector_count c.args.self.now.format = ap (λ (d : Disk). sector_count d.format) c.self.view_is in
    let bytes = c.deref_mut.ensures.value in
    let len : length c.deref_mut.result.now ≡ length c.self.inside.bytes.items = ap length bytes in
    let new = c.copy_from_slice.ensures.after in
    let same = put_is_set c.deref_mut.result.now c.copy_from_slice.new.self c.args.data.now c.args.place (c.args.place * 128) (c.args.place * 128 + 128 - c.args.place * 128) refl (omega arith) (omega arith) new c.told-data in
    let room = put_length c.deref_mut.result.now c.copy_from_slice.new.self (c.args.place * 128) (c.args.place * 128 + 128 - c.args.place * 128) (omega (arith, ap length new, c.told-data)) (omega arith) in
    let items = with_items_is c.self.inside.bytes (put_mid (c.args.place * 128) (c.args.place * 128 + 128 - c.args.place * 128) c.deref_mut.result.now c.copy_from_slice.new.self) (omega (arith, c.self.inside.bytes.ok.0)) in
    let sectors = ap sectors_of items ∙ (same ∙ ap (λ b. set (sectors_of b) c.args.place c.args.data.now) bytes) in
    let change : List (List ℕ) → Disk = λ s. record { format = c.self.inside.format; sectors = s } in
    rw (← c.self.view_is) (ap change sectors)
