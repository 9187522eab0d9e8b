use Rattle.std.proofs.Common.{ℕ, List, Option, subst, sym}
use Rattle.std.proofs.lemmas.Result.{on_ok_weaker}
use Rattle.cpm_memory.specs.Flat.{flat_contents}
use Rattle.cpm_saved.proofs.MaybeAppends.{none_appended, some_appended}
use Rattle.cpm_saved.proofs.MemoryLaws.{saved_none, saved_some}
use Rattle.cpm_saved.specs.Layout.{Fixed}
use Rattle.cpm_saved.specs.Reading.{IsPartAppended}
use Rattle.cpm_saved.specs.SavedMemory.{page_layout}
use Rattle.cpm_saved.specs.declared.part.SavingPart.TheVariants as part
use Rattle.cpm_saved.proofs.memory.append_page.Goals as goal

pub returns-in_ok-append_flag-in-Some : goal.returns-in_ok-append_flag-in-Some
returns-in_ok-append_flag-in-Some c =
    let bytes = c.in-Some.bytes.now in
    let old = c.args.out.now.items in
    let marked = c.append_flag.new.out.items in
    let new = c.append_bytes.new.out.items in
    let page = c.in-Some.ensures in
    on_ok_weaker c.append_bytes.result (λ here.
    subst (λ (o : Option (List ℕ)). IsPartAppended page_layout o old new) (sym (saved_some (flat_contents c.args.memory.now) c.args.page bytes page.0 (sym page.1)))
    (some_appended part.Page (Fixed part.Page 256) bytes old marked new (c.in_ok-append_flag-in-Some.ensures part.Page)
    (subst (λ (n : ℕ). IsPartAppended (Fixed part.Page n) bytes marked new) page.2 (here part.Page)))) c.append_bytes.ensures

pub returns-in-None : goal.returns-in-None
returns-in-None c =
    let old = c.args.out.now.items in
    let new = c.append_flag-in-None.new.out.items in
    on_ok_weaker c.append_flag-in-None.result (λ here.
    subst (λ (o : Option (List ℕ)). IsPartAppended page_layout o old new) (sym (saved_none (flat_contents c.args.memory.now) c.args.page c.in-None.ensures))
    (none_appended part.Page (Fixed part.Page 256) old new (here part.Page))) c.append_flag-in-None.ensures
