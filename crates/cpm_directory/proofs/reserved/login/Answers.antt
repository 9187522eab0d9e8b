use Rattle.std.proofs.Common.{◌≡◌, ◌<◌, ◌+◌, ◌||◌, true, length, get_or, take, sym, ap, ◌∙◌, arith}
use Rattle.std.proofs.Common.{eqb}
use Rattle.std.specs.List.{list_any}
use Rattle.std.proofs.Math.Seq.{take-length}
use Rattle.cpm_geom.specs.Geometry.{dpb_of}
use Rattle.cpm_geom.specs.declared.dpb.Dpb.{Dpb}
use Rattle.cpm_volume.specs.declared.extent.Entry.{Entry}
use Rattle.cpm_volume.specs.Files.{entry_at, no_entry}
use Rattle.cpm_directory.specs.Directory.{entries_of}
use Rattle.cpm_volume.specs.Reserved.{is_directory_block}
use Rattle.cpm_directory.specs.Login.{reserved_at_login, has_block}
use Rattle.cpm_directory.proofs.DriveLemmas.{last_entry_small, last_block_small, entries_length}
use Rattle.cpm_directory.proofs.LoginLemmas.{entry_in_use, entry_unused, logged_in}
use Rattle.cpm_directory.proofs.reserved.login.Goals as goal
use Rattle.cpm_directory.proofs.reserved.login.Goals.{then-entry, else-entry}

pub overflow_add-index-end : goal.overflow_add-index-end
overflow_add-index-end c =
    let d : c.dpb-dpb.result ≡ dpb_of c.args.image.now.format = cc in
    let last = ap (λ (p : Dpb). p.last_entry) d in
    omega (arith, last_entry_small c.args.image.now.format)

pub loop-index-preserved : goal.loop-index-preserved
unfolding entry_at
loop-index-preserved c =
    let d : c.dpb-dpb.result ≡ dpb_of c.args.image.now.format = cc in
    let last = ap (λ (p : Dpb). p.last_entry) d in
    let size = entries_length c.args.image.now in
    let below : c.loop-index.index < length (entries_of c.args.image.now) = omega arith in
    let is : c.entry-entry.result ≡ get_or (entries_of c.args.image.now) c.loop-index.index no_entry = c.entry-entry.ensures.value in
    let user = ap (λ (x : Entry). x.user) is in
    elim c.if-entry.branch [
      | then-entry w ↦ (
        rw w.blocks-is w.mark.ensures.size,
        rw w.blocks-is (w.mark.ensures.zero ∙ c.loop-index.invariant.1),
        λ b low high. rw w.blocks-is (entry_in_use b (entries_of c.args.image.now) c.loop-index.index no_entry (is_directory_block c.dpb-dpb.result b) (get_or c.loop-index.blocks b true) (get_or w.mark.new.blocks b true) below (λ e. w.if-entry.true (user ∙ e)) (c.loop-index.invariant.2 b low high) (w.mark.ensures.others b low high ∙ ap (λ (x : Entry). get_or c.loop-index.blocks b true || list_any (λ number. eqb number b) x.extent.blocks) is)),
      )
      | else-entry w ↦ (
        rw w.blocks-is c.loop-index.invariant.0,
        rw w.blocks-is c.loop-index.invariant.1,
        λ b low high. rw w.blocks-is (entry_unused b (entries_of c.args.image.now) c.loop-index.index no_entry (is_directory_block c.dpb-dpb.result b) (get_or c.loop-index.blocks b true) below (sym user ∙ w.if-entry.false) (c.loop-index.invariant.2 b low high)),
      )
    ]

pub invariant_of-result : goal.invariant_of-result
invariant_of-result c =
    let d : c.dpb-dpb.result ≡ dpb_of c.args.image.now.format = cc in
    let last = ap (λ (p : Dpb). p.last_block) d in
    (c.loop-index.invariant.0, omega (arith, last_block_small c.args.image.now.format))

pub returns : goal.returns
returns c =
    let d : c.dpb-dpb.result ≡ dpb_of c.args.image.now.format = cc in
    let last = ap (λ (p : Dpb). p.last_entry) d in
    let block = ap (λ (p : Dpb). p.last_block) d in
    let size = entries_length c.args.image.now in
    let small = last_block_small c.args.image.now.format in
    let all : take c.loop-index.index (entries_of c.args.image.now) ≡ entries_of c.args.image.now = ap (λ k. take k (entries_of c.args.image.now)) (let e : c.loop-index.index ≡ length (entries_of c.args.image.now) = omega arith in e) ∙ take-length (entries_of c.args.image.now) in
    logged_in c.dpb-dpb.result (entries_of c.args.image.now) c.loop-index.blocks (c.from.result + 1) c.loop-index.invariant.0 (omega arith) (omega arith) c.loop-index.invariant.1 (λ b low high. c.loop-index.invariant.2 b low high ∙ ap (λ es. is_directory_block c.dpb-dpb.result b || list_any (has_block b) es) all) ∙ ap (λ p. reserved_at_login p (entries_of c.args.image.now)) d
