use Rattle.std.proofs.Common.{◌≡◌, ◌∙◌, ◌+◌, sym, ap, arith}
use Rattle.cpm_geom.specs.Geometry.{dpb_of}
use Rattle.cpm_geom.specs.declared.dpb.Dpb.{Dpb}
use Rattle.cpm_directory.specs.declared.pattern.Pattern.{Pattern}
use Rattle.cpm_directory.proofs.DriveLemmas.{last_entry_small, entries_length}
use Rattle.cpm_drive.specs.Named as drive
use Rattle.cpm_drives.specs.Search.{pattern_of}
use Rattle.cpm_drives.proofs.SearchLemmas.{search_found, search_none}
use Rattle.cpm_drives.proofs.disks.Disks.search_on.Goals as goal

pub overflow_add-index : goal.overflow_add-index
overflow_add-index c =
    let within = c.in-Some.ensures.within in
    let small = last_entry_small c.lent_at-image.result.format in omega arith

pub overflow_add-dpb : goal.overflow_add-dpb
overflow_add-dpb c =
    let d : c.dpb-dpb.result ≡ dpb_of c.lent_at-image.result.format = c.dpb-dpb.ensures ∙ ap dpb_of c.format.ensures.format in
    let last = ap (λ (p : Dpb). p.last_entry) d in
    let small = last_entry_small c.lent_at-image.result.format in omega arith

pub returns-in-Some : goal.returns-in-Some
returns-in-Some c =
    let d : c.dpb-dpb.result ≡ dpb_of c.lent_at-image.result.format = c.dpb-dpb.ensures ∙ ap dpb_of c.format.ensures.format in
    let pat = c.pattern-pattern.ensures ∙ ap (λ (p : Dpb). pattern_of p c.args.sought.now c.use_drive.new.self.user) d in
    let found = c.in-Some.ensures.found in
    λ fcb. rw (c.directory_code.ensures, c.from.ensures) (search_found c.args.self.now c.use_drive.new.self c.args.system.now c.lent_at-image.result c.args.sought.now fcb c.args.buffer.now c.search.new.buffer c.in-Some.index c.use_drive.ensures c.lent_at-image.ensures (found ∙ ap (λ (p : Pattern). drive.searched c.lent_at-image.result p c.args.sought.now.next c.args.buffer.now) pat))

pub returns-in-None : goal.returns-in-None
returns-in-None c =
    let d : c.dpb-dpb.result ≡ dpb_of c.lent_at-image.result.format = c.dpb-dpb.ensures ∙ ap dpb_of c.format.ensures.format in
    let pat = c.pattern-pattern.ensures ∙ ap (λ (p : Dpb). pattern_of p c.args.sought.now c.use_drive.new.self.user) d in
    let found = c.in-None.ensures.found in
    let count = ap (λ (p : Dpb). p.last_entry + 1) d ∙ sym (entries_length c.lent_at-image.result) in
    λ fcb. rw c.from-in-None.ensures (search_none c.args.self.now c.use_drive.new.self c.args.system.now c.lent_at-image.result c.args.sought.now fcb c.args.buffer.now c.search.new.buffer _ c.use_drive.ensures c.lent_at-image.ensures count (found ∙ ap (λ (p : Pattern). drive.searched c.lent_at-image.result p c.args.sought.now.next c.args.buffer.now) pat))
