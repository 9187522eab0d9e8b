use Rattle.std.proofs.Common.{◌≡◌, ◌+◌, List, [], ◌∷◌, ◌++◌, true, false, length, sym, subst, ap, ◌∙◌, arith}
use Rattle.std.specs.List.{list_any}
use Rattle.cpm_geom.specs.Geometry.{dpb_of}
use Rattle.cpm_geom.specs.declared.dpb.Dpb.{Dpb}
use Rattle.cpm_volume.specs.declared.extent.Entry.{Entry}
use Rattle.cpm_volume.specs.Files.{InUse}
use Rattle.cpm_directory.specs.Directory.{entries_of}
use Rattle.cpm_directory.proofs.DriveLemmas.{last_entry_small, entries_length}
use Rattle.cpm_image_files.specs.ImageFiles.{entry_on}
use Rattle.cpm_image_files.specs.Listing.{lists, AreListed}
use Rattle.cpm_image_files.specs.declared.listing.DiskFile.{DiskFile}
use Rattle.cpm_image_files.proofs.ListingLemmas.{unused_entry, listed_entry, new_entry}
use Rattle.cpm_image_files.proofs.listing.files_of.Goals as goal
use Rattle.cpm_image_files.proofs.listing.files_of.Goals.{then-entry+then-not-is_listed+in_ok-push, else-entry, else-entry-via-then-entry+else-not-is_listed, else-entry-via-else-entry}

pub overflow_add-index-end : goal.overflow_add-index-end
overflow_add-index-end c =
    let d : c.dpb-index-end.result ≡ dpb_of c.args.image.now.format = cc in
    let last = ap (λ (p : Dpb). p.last_entry) d in
    omega (arith, last_entry_small c.args.image.now.format)

pub loop-index-preserved : goal.loop-index-preserved
loop-index-preserved c =
    let disk = c.args.image.now in
    let i = c.loop-index.index in
    let is : c.entry-entry.result ≡ entry_on disk i = c.entry-entry.ensures.value in
    elim c.if-entry.branch [
      | then-entry+then-not-is_listed+in_ok-push w ↦
          let items : c.if-entry.files.items ≡ c.loop-index.files.items ++ w.file_of.result ∷ [] = cc (w.files-is, w.in_ok-push.ensures.items) in
          let apart : list_any (lists (entry_on disk i)) c.loop-index.files.items ≡ false = cc (w.is_listed.ensures, w.if-not-is_listed.true, w.deref.ensures.value) in
          let used : InUse (entries_of disk) i = record { used = λ z. w.if-entry.true (ap (λ (e : Entry). e.user) is ∙ z) } in
          subst (λ (fs : List DiskFile). AreListed disk (i + 1) fs) (sym items) (new_entry disk i c.loop-index.files.items w.file_of.result c.loop-index.invariant used apart (w.file_of.ensures.user ∙ ap (λ (e : Entry). e.user) is) (w.file_of.ensures.name ∙ ap (λ (e : Entry). e.extent.name) is) w.file_of.ensures.records)
      | else-entry w ↦
          let items : c.if-entry.files.items ≡ c.loop-index.files.items = cc w.files-is in
          subst (λ (fs : List DiskFile). AreListed disk (i + 1) fs) (sym items) (elim w.else-entry.branch [
            | else-entry-via-then-entry+else-not-is_listed v ↦
                let there : list_any (lists (entry_on disk i)) c.loop-index.files.items ≡ true = cc (v.is_listed.ensures, v.if-not-is_listed.false, v.deref.ensures.value) in
                listed_entry disk i c.loop-index.files.items c.loop-index.invariant there
            | else-entry-via-else-entry v ↦ unused_entry disk i c.loop-index.files.items c.loop-index.invariant (ap (λ (e : Entry). e.user) (sym is) ∙ v.if-entry.false)
          ])
    ]

pub returns : goal.returns
returns c =
    let d : c.dpb-index-end.result ≡ dpb_of c.args.image.now.format = cc in
    let last = ap (λ (p : Dpb). p.last_entry) d in
    let size = entries_length c.args.image.now in
    let all : c.loop-index.index ≡ length (entries_of c.args.image.now) = omega arith in
    subst (λ k. AreListed c.args.image.now k c.loop-index.files.items) all c.loop-index.invariant
