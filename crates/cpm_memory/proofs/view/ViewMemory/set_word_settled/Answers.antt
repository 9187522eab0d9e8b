use Rattle.std.proofs.Common.{◌≡◌, ◌≢◌, ℕ, ◌%◌, ◌/◌, ◌<◌, true, false, get_or, arith, ap, ◌∙◌}
use Rattle.cpm_memory.specs.Contents.{Contents, page_of, next, is_written, after_set}
use Rattle.cpm_memory.specs.Room.{written-after_set}
use Rattle.cpm_memory.specs.View.{contents_of, ViewLeads-on}
use Rattle.cpm_memory.proofs.Words.{same_page}
use Rattle.cpm_memory.proofs.view.ViewMemory.set_word_settled.Goals as goal

-- so the store of the high byte writes no page anew
high-written : (c d : Contents) (address value : ℕ) → address < 65536 → address % 256 ≢ 255 → is_written c (page_of address) ≡ true → d ≡ after_set c (next address) value → d.written ≡ c.written
high-written c d address value fits ne settled e =
    ap (λ (m : Contents). m.written) e ∙ written-after_set c (next address) value (ap (is_written c) (same_page address fits ne) ∙ settled)

pub set-requires-2 : goal.set-requires-2
set-requires-2 c = λ _.
    let settled = c.is_settled.ensures c.if-not-is_settled.false in
    let stored : contents_of c.set.new.self ≡ after_set (contents_of c.args.self.now) (next c.args.address) (c.args.value / 256) = rw (← c.next_in_page.ensures) c.set.ensures.contents in
    ap (λ ws. get_or ws (page_of c.args.address) false) (high-written _ _ c.args.address _ (omega arith) c.if-address-eq255.false settled stored) ∙ settled

pub returns-clause-pages : goal.returns-clause-pages
returns-clause-pages c =
    let settled = c.is_settled.ensures c.if-not-is_settled.false in
    let stored : contents_of c.set.new.self ≡ after_set (contents_of c.args.self.now) (next c.args.address) (c.args.value / 256) = rw (← c.next_in_page.ensures) c.set.ensures.contents in
    let first = high-written _ _ c.args.address _ (omega arith) c.if-address-eq255.false settled stored in
    ap (λ (m : Contents). m.written) c.set-2.ensures.contents
    ∙ written-after_set (contents_of c.set.new.self) c.args.address _ (ap (λ ws. get_or ws (page_of c.args.address) false) first ∙ settled)
    ∙ first

pub returns-clause-leads : goal.returns-clause-leads
returns-clause-leads c = ViewLeads-on _ _ _ c.set.ensures.leads c.set-2.ensures.leads
