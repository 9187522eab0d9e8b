use Rattle.std.proofs.Common.{◌∙◌, ◌+◌, ◌++◌, ◌∷◌, [], ℕ, arith, ap, refl, sym}
use Rattle.std.specs.Io.BufRead.{drop_through}
use Rattle.cpm_journal.proofs.LineLaws.{read-none, read-torn, read-whole}
use Rattle.cpm_journal.proofs.lines.line_of.Goals as goal

pub returns-in-None : goal.returns-in-None
returns-in-None c text e = read-none text c.args.line.items (sym c.args.line.ok.0 ∙ c.in-None.ensures.cases.0) e

pub returns-in-Some-eq10 : goal.returns-in-Some-eq10
returns-in-Some-eq10 c text e =
    let left = c.pop.new.self.items in
    let whole = read-whole text left (ap (λ (b : ℕ). left ++ b ∷ []) (sym c.in-Some-eq10.field-0-test) ∙ sym c.in-Some-eq10.ensures.items ∙ e) in
    record { free = whole.0; behind = drop_through 0x0A text; left = refl; text_is = whole.1 }

pub returns-in-Some : goal.returns-in-Some
returns-in-Some c text e =
    let torn = read-torn text c.pop.new.self.items c.in-Some.field-0 (sym c.in-Some.ensures.items ∙ e) c.in-Some.field-0-test.1 in
    (torn.0, torn.1 ∙ ap (λ k. k + 1) (sym (c.len.ensures ∙ c.pop.new.self.ok.0)), omega arith)
