use Rattle.std.proofs.Common.{◌≡◌, ◌∙◌, ◌+◌, ℕ, List, Option, Ok, Some, None, Bor, ap, arith, length, option_map, subst, sym}
use Rattle.std.specs.Option.{IfSome}
use Rattle.std.proofs.lemmas.Result.{err_from_is_err_and}
use Rattle.cpm_memory.specs.Contents.{Contents}
use Rattle.cpm_memory.specs.Flat.{flat_contents}
use Rattle.cpm_memory.specs.Tabulated.{tabulated}
use Rattle.cpm_saved.proofs.ReadPages.{PagesRead, page_absent, page_there, pages_begun, pages_done}
use Rattle.cpm_saved.proofs.TimesLemmas.{so_far_unread}
use Rattle.cpm_saved.specs.Layout.{decoded}
use Rattle.cpm_saved.specs.SavedMemory.{page_layout, saved_page}
use Rattle.cpm_saved.proofs.memory.read_memory.Goals as goal
use Rattle.cpm_saved.proofs.memory.read_memory.Goals.{in-Some, in_default}

pub loop-page-init : goal.loop-page-init
loop-page-init c = pages_begun (flat_contents c.in_ok-memory.memory) c.args.reader.now c.in_ok-memory.ensures

pub returns-in_err-bytes-clause-read : goal.returns-in_err-bytes-clause-read
returns-in_err-bytes-clause-read c =
    let p = err_from_is_err_and c.from_residual-in_err-bytes.result c.from_residual-in_err-bytes.ensures.1 in
    let page = c.loop-page.page in
    rw (p.1, p.2) (so_far_unread 256 page page_layout (tabulated page (saved_page (flat_contents c.loop-page.memory))) c.args.reader.now c.loop-page.reader
    c.in_err-bytes.field-0.0 c.loop-page.invariant.so_far c.loop-page-test.true c.in_err-bytes.ensures.read)

pub put_page-requires-clause-room : goal.put_page-requires-clause-room
put_page-requires-clause-room c = λ none.
    let few = c.loop-page.invariant.few in
    let limit = c.loop-page.invariant.limit in
    absurd (omega (arith, none, few, limit, c.loop-page-test.true))

pub loop-page-preserved : goal.loop-page-preserved
loop-page-preserved c =
    let page = c.loop-page.page in
    let old = c.args.reader.now in
    let now = c.loop-page.reader in
    let next = c.read_page.new.reader in
    let memory = c.loop-page.memory in
    let whole = λ (m : Contents). PagesRead (page + 1) m old next in
    elim c.match-branch-3.branch [
      | in-Some w ↦
          let bytes = w.in-Some.bytes.now in
          let read : decoded page_layout now ≡ Ok (Some bytes, next) =
          c.in_ok-bytes.ensures.read ∙ ap (λ (o : Option (Bor (List ℕ))). Ok (option_map (λ (b : Bor (List ℕ)). b.now) o, next)) w.in-Some.is in
          let size : length bytes ≡ 256 =
          subst (λ (o : Option (Bor (List ℕ))). IfSome o (λ b. length b.now ≡ 256)) w.in-Some.is c.in_ok-bytes.ensures.size in
          subst whole (sym (ap flat_contents w.memory-is ∙ w.put_page.ensures.contents))
          (page_there page (flat_contents memory) bytes old now next c.loop-page.invariant c.loop-page-test.true read
          (omega (arith, memory.size)) memory.pages size)
      | in_default w ↦
          let read : decoded page_layout now ≡ Ok (None, next) =
          c.in_ok-bytes.ensures.read ∙ ap (λ (o : Option (Bor (List ℕ))). Ok (option_map (λ (b : Bor (List ℕ)). b.now) o, next)) w.in_default.is in
          subst whole (sym (ap flat_contents w.memory-is))
          (page_absent page (flat_contents memory) old now next c.loop-page.invariant c.loop-page-test.true read)
    ]

pub returns-clause-read : goal.returns-clause-read
returns-clause-read c =
    pages_done c.loop-page.page (flat_contents c.loop-page.memory) c.args.reader.now c.loop-page.reader c.loop-page.invariant
    (omega (arith, c.loop-page-test.false, c.loop-page.auto.page-end))

pub returns-clause-limit : goal.returns-clause-limit
returns-clause-limit c = c.loop-page.invariant.limit
