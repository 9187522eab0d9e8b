use Rattle.std.proofs.Common.{◌≡◌, ◌<◌, ◌||◌, eqb, true, false, length, get_or, sym, ap, ◌∙◌, arith}
use Rattle.std.specs.List.{list_any}
use Rattle.cpm_volume.specs.declared.extent.Entry.{Entry}
use Rattle.cpm_volume.specs.Files.{entry_at, no_entry}
use Rattle.cpm_directory.specs.Directory.{entries_of}
use Rattle.cpm_directory.proofs.DriveLemmas.{entries_length}
use Rattle.cpm_directory.proofs.LoginLemmas.{entry_in_use, entry_unused}
use Rattle.cpm_directory.proofs.checking.add_blocks.Goals as goal

pub returns-then-entry : goal.returns-then-entry
unfolding entry_at
returns-then-entry c =
    let es = entries_of c.args.image.now in
    let size = entries_length c.args.image.now in
    let below : c.args.index < length es = omega (arith, c.requires.index) in
    let is : c.entry-entry.result ≡ get_or es c.args.index no_entry = c.entry-entry.ensures.value in
    let user = ap (λ (x : Entry). x.user) is in
    record {
      size = c.mark.ensures.size;
      at = λ b low high. entry_in_use b es c.args.index no_entry false (get_or c.args.blocks.now b true) (get_or c.mark.new.blocks b true) below (λ e. c.if-entry.true (user ∙ e)) (c.requires.before.at b low high) (c.mark.ensures.others b low high ∙ ap (λ (x : Entry). get_or c.args.blocks.now b true || list_any (λ number. eqb number b) x.extent.blocks) is);
    }

pub returns-else-entry : goal.returns-else-entry
unfolding entry_at
returns-else-entry c =
    let es = entries_of c.args.image.now in
    let size = entries_length c.args.image.now in
    let below : c.args.index < length es = omega (arith, c.requires.index) in
    let is : c.entry-entry.result ≡ get_or es c.args.index no_entry = c.entry-entry.ensures.value in
    record {
      size = c.requires.before.size;
      at = λ b low high. entry_unused b es c.args.index no_entry false (get_or c.args.blocks.now b true) below (sym (ap (λ (x : Entry). x.user) is) ∙ c.if-entry.false) (c.requires.before.at b low high);
    }
