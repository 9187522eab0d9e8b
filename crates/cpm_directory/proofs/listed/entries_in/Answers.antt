use Rattle.std.proofs.Common.{◌≡◌, ◌+◌, ◌<◌, ℕ, List, get_or, set, length, ap, ◌∙◌, inl, inr, arith}
use Rattle.std.proofs.lemmas.Bool.{cases_eq}
use Rattle.std.proofs.lemmas.List.{get_or-set_same, get_or-set_other, length-set}
use Rattle.cpm_geom.specs.Geometry.{dpb_of}
use Rattle.cpm_geom.specs.Disk.{Disk}
use Rattle.cpm_geom.specs.declared.dpb.Dpb.{Dpb}
use Rattle.cpm_volume.specs.declared.extent.Entry.{Entry}
use Rattle.cpm_volume.specs.Files.{entry_at, no_entry}
use Rattle.cpm_directory.specs.Directory.{entries_of}
use Rattle.cpm_directory.proofs.DriveLemmas.{last_entry_small}
use Rattle.cpm_directory.proofs.listed.entries_in.Goals as goal

pub overflow_add-index-end : goal.overflow_add-index-end
overflow_add-index-end c =
    let d : c.dpb-index-end.result ≡ dpb_of c.args.image.now.format = cc in
    let last = ap (λ (p : Dpb). p.last_entry) d in
    omega (arith, last_entry_small c.args.image.now.format)

pub bounds-entries-from : goal.bounds-entries-from
bounds-entries-from c =
    let d : c.dpb-index-end.result ≡ dpb_of c.args.image.now.format = cc in
    let last = ap (λ (p : Dpb). p.last_entry) d in
    omega (arith, last_entry_small c.args.image.now.format)

-- one entry more is listed
one_more : (disk : Disk) (es : List Entry) (n : ℕ) (e : Entry) → n < length es → e ≡ entry_at (entries_of disk) n → ((k : ℕ) → k < n → get_or es k no_entry ≡ entry_at (entries_of disk) k) → (k : ℕ) → k < n + 1 → get_or (set es n e) k no_entry ≡ entry_at (entries_of disk) k
one_more disk es n e within value before k h =
    elim (cases_eq k n) [
      | inl same ↦ rw same (get_or-set_same es n e no_entry within ∙ value)
      | inr other ↦ get_or-set_other es n k e no_entry other ∙ before k (omega arith)
    ]

pub loop-index-preserved : goal.loop-index-preserved
loop-index-preserved c =
    let d : c.dpb-index-end.result ≡ dpb_of c.args.image.now.format = cc in
    let last = ap (λ (p : Dpb). p.last_entry) d in
    let small = last_entry_small c.args.image.now.format in
    let place : c.from.result ≡ c.loop-index.index = c.from.ensures in
    rw place (
      length-set c.loop-index.entries c.loop-index.index c.entry.result ∙ c.loop-index.invariant.0,
      one_more c.args.image.now c.loop-index.entries c.loop-index.index c.entry.result (omega (arith, c.loop-index.invariant.0)) c.entry.ensures.value c.loop-index.invariant.1,
    )
