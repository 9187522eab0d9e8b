use Rattle.std.proofs.Common.{length, ap, refl, subst, ◌∙◌, arith}
use Rattle.cpm_play.specs.Shown.{AreNoted}
use Rattle.cpm_play.proofs.ShownLemmas.{grown-cut, short-cut}
use Rattle.cpm_play.proofs.shown.Shown.cut.Goals as goal

pub returns-clause-grown : goal.returns-clause-grown
returns-clause-grown c = λ _.
    let old = c.args.self.now in
    let len = c.len.ensures in
    let gone = c.saturating_sub-gone.ensures in
    let less = c.saturating_sub.ensures in
    let fits = c.as_slice.ensures.len in
    let same = ap length c.as_slice.ensures.value in
    grown-cut old _ c.in-Ok.longest c.saturating_sub-gone.result refl (subst (λ tail. AreNoted old.cues.now tail c.in-Ok.longest old.found.items c.note.new.found.items) c.as_slice.ensures.value c.in-Ok.ensures)
    (omega arith) (c.drop.ensures.items ∙ c.drain.ensures.kept)

pub returns-clause-short : goal.returns-clause-short
returns-clause-short c = λ _.
    let len = c.len.ensures in
    let fits = c.as_slice.ensures.len in
    let same = ap length c.as_slice.ensures.value in
    let gone = c.saturating_sub-gone.ensures in
    let less = c.saturating_sub.ensures in
    let kept = c.drop.new.self.0 in
    let count = kept.ok.0 in
    let room = kept.ok.1 in
    let small = kept.small in
    let left = c.len-2.ensures in
    let at = c.saturating_add-self.ensures in
    short-cut _ c.args.self.now.tail.items c.in-Ok.longest c.saturating_sub-gone.result (c.drop.ensures.items ∙ c.drain.ensures.kept) (omega arith) (omega arith) c.in-Ok.ensures.least
