use Rattle.std.proofs.Common.{◌≡◌, ◌+◌, ℕ, List, Option, arith, subst, sym}
use Rattle.cpm_memory.specs.Flat.{flat_contents}
use Rattle.cpm_memory.specs.Tabulated.{tabulated, tabulated_more, tabulated_none}
use Rattle.cpm_saved.proofs.TimesLemmas.{times_begun, times_more}
use Rattle.cpm_saved.specs.Layout.{Times}
use Rattle.cpm_saved.specs.Reading.{IsPartAppended}
use Rattle.cpm_saved.specs.SavedMemory.{page_layout, saved_page}
use Rattle.cpm_saved.proofs.memory.append_memory.Goals as goal

pub loop-page-init : goal.loop-page-init
loop-page-init c =
    let items = c.args.out.now.items in
    subst (λ (vs : List (Option (List ℕ))). IsPartAppended (Times 0 page_layout) vs items items)
    (sym (tabulated_none (saved_page (flat_contents c.args.memory.now)))) (times_begun page_layout items)

pub loop-page-preserved : goal.loop-page-preserved
loop-page-preserved c =
    let page = c.loop-page.page in
    let saved = saved_page (flat_contents c.args.memory.now) in
    let old = c.args.out.now.items in
    let new = c.append_page.new.out.items in
    subst (λ (vs : List (Option (List ℕ))). IsPartAppended (Times (page + 1) page_layout) vs old new) (sym (tabulated_more page saved))
    (times_more page_layout page (tabulated page saved) (saved page) old c.loop-page.out.items new c.loop-page.invariant c.in_ok-append_page.ensures)

pub returns : goal.returns
returns c =
    let saved = saved_page (flat_contents c.args.memory.now) in
    let all : c.loop-page.page ≡ 256 = omega (arith, c.loop-page-test.false, c.loop-page.auto.page-end) in
    subst (λ (n : ℕ). IsPartAppended (Times n page_layout) (tabulated n saved) c.args.out.now.items c.loop-page.out.items) all c.loop-page.invariant
