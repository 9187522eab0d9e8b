use Rattle.std.proofs.Common.{◌≡◌, ℕ, ◌-◌, Bool, List, true, false, count_by, set, refl, ap, sym, ◌∙◌, subst, arith}
use Rattle.std.proofs.lemmas.List.{get_or-set_same, get_or-set_other}
use Rattle.std.specs.Vec.{with_items}
use Rattle.cpm_memory.specs.Contents.{Contents, touched_of}
use Rattle.cpm_memory.specs.Flat.{flat_contents}
use Rattle.cpm_memory.specs.Raised.{AreStamps-raised}
use Rattle.cpm_memory.specs.Scratch.{byte_with}
use Rattle.cpm_memory.specs.Stamps.{AreStamps, after_stamp}
use Rattle.cpm_memory.specs.Tabulated.{tabulated}
use Rattle.cpm_memory.proofs.Counting.{one_marked}
use Rattle.cpm_memory.proofs.SavedPages.{block_put, IsBlankUnwritten-put}
use Rattle.cpm_memory.proofs.Words.{marked}
use Rattle.cpm_memory.proofs.flat.FlatMemory.put_page.Goals as goal
use Rattle.cpm_memory.proofs.flat.FlatMemory.put_page.Goals.{then-not-self-index, else-not-self-index}

pub invariant_of-self-clause-counted : goal.invariant_of-self-clause-counted
invariant_of-self-clause-counted c =
    elim c.if-not-self-index.branch [
      | then-not-self-index w ↦ rw w.self-is (one_marked c.args.self.now.written _ c.args.self.now.touched (omega (arith, c.args.self.now.pages)) w.if-not-self-index.true c.args.self.now.counted)
      | else-not-self-index w ↦ rw w.self-is c.args.self.now.counted
    ]

pub invariant_of-self-clause-within : goal.invariant_of-self-clause-within
unfolding touched_of
invariant_of-self-clause-within c =
    elim c.if-not-self-index.branch [
      | then-not-self-index w ↦
          let some : c.args.self.now.limit - count_by (λ w. w) c.args.self.now.written ≡ 0 → ⊥ = λ none. (let is = c.requires.room none in let new = w.if-not-self-index.true in cc) in
          rw w.self-is (omega (arith, c.args.self.now.counted, some))
      | else-not-self-index w ↦ rw w.self-is c.args.self.now.within
    ]

pub invariant_of-self-clause-stamped : goal.invariant_of-self-clause-stamped
unfolding after_stamp
invariant_of-self-clause-stamped c =
    subst AreStamps (sym (ap (λ n. set c.args.self.now.stamps c.args.page n) c.saturating_add.ensures))
    (AreStamps-raised c.args.self.now.stamps c.args.page c.args.self.now.stamped)

-- contents by their parts
abbrev contents : List ℕ → List Bool → ℕ → Contents
contents bytes written limit = record { bytes = bytes; written = written; limit = limit }

pub invariant_of-self-clause-blank : goal.invariant_of-self-clause-blank
invariant_of-self-clause-blank c =
    let old = c.args.self.now in
    let page = c.args.page in
    let bytes = block_put old.bytes (flat_contents old) page c.from.result c.deref_mut.result.now c.args.bytes.now c.copy_page.new.bytes refl old.size (omega (arith, old.size, old.bytes.ok.0)) (omega arith) c.requires.size c.from.ensures c.deref_mut.ensures.value c.copy_page.ensures in
    let items = (with_items old.bytes c.copy_page.new.bytes).items in
    elim c.if-not-self-index.branch [
      | then-not-self-index w ↦
          rw w.self-is (IsBlankUnwritten-put (flat_contents old) page c.args.bytes.now items (set old.written page true) bytes (get_or-set_same old.written page true false (omega (arith, old.pages))) (λ p ne. get_or-set_other old.written page p true false ne) old.blank)
      | else-not-self-index w ↦ rw w.self-is (IsBlankUnwritten-put (flat_contents old) page c.args.bytes.now items old.written bytes w.if-not-self-index.false (λ p ne. refl) old.blank)
    ]

pub returns-clause-contents : goal.returns-clause-contents
returns-clause-contents c =
    let old = c.args.self.now in
    let page = c.args.page in
    let bytes = block_put old.bytes (flat_contents old) page c.from.result c.deref_mut.result.now c.args.bytes.now c.copy_page.new.bytes refl old.size (omega (arith, old.size, old.bytes.ok.0)) (omega arith) c.requires.size c.from.ensures c.deref_mut.ensures.value c.copy_page.ensures in
    let stored = tabulated 65536 (byte_with (flat_contents old) page c.args.bytes.now) in
    elim c.if-not-self-index.branch [
      | then-not-self-index w ↦ rw w.self-is (ap (λ (xs : List ℕ). contents xs (set old.written page true) old.limit) bytes)
      | else-not-self-index w ↦ rw w.self-is (ap (λ (xs : List ℕ). contents xs old.written old.limit) bytes ∙ ap (λ ws. contents stored ws old.limit) (sym (marked old.written page w.if-not-self-index.false)))
    ]

pub returns-clause-stamps : goal.returns-clause-stamps
unfolding after_stamp
returns-clause-stamps c = ap (λ n. set c.args.self.now.stamps c.args.page n) c.saturating_add.ensures
