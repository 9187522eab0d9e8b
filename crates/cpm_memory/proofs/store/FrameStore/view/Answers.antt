use Rattle.std.proofs.Common.{false, arith, ap, sym, ◌∙◌, get_or, length}
use Rattle.std.proofs.lemmas.Bool.{false≢true}
use Rattle.std.proofs.lemmas.List.{get_or-replicate}
use Rattle.cpm_memory.specs.Contents.{touched_of}
use Rattle.cpm_memory.specs.Tabulated.{length-tabulated, get_or-tabulated}
use Rattle.cpm_memory.specs.Frames.{memory_of, frame_of_page, reserved_by, table_at}
use Rattle.cpm_memory.specs.Memories.{HasReservation-taken, memory-reserved}
use Rattle.cpm_memory.proofs.store.FrameStore.view.Goals as goal

pub invariant_of-result-clause-taken : goal.invariant_of-result-clause-taken
invariant_of-result-clause-taken c = HasReservation-taken c.args.self.now c.args.table (omega arith) c.requires

pub invariant_of-result-clause-pages : goal.invariant_of-result-clause-pages
invariant_of-result-clause-pages c = ap length c.places-places.ensures ∙ length-tabulated 256 (frame_of_page c.args.self.now c.index-index.result)

pub invariant_of-result-clause-placed : goal.invariant_of-result-clause-placed
invariant_of-result-clause-placed c = λ page l.
    ap (λ xs. get_or xs page 0) c.places-places.ensures
    ∙ get_or-tabulated 256 (frame_of_page c.args.self.now c.index-index.result) page 0 l
    ∙ ap (λ t. frame_of_page c.args.self.now t page) c.index-index.ensures.index

pub invariant_of-result-clause-alone : goal.invariant_of-result-clause-alone
invariant_of-result-clause-alone c = λ page l marked. absurd (false≢true (sym (get_or-replicate 256 page false false l) ∙ marked))

pub invariant_of-result-clause-counted : goal.invariant_of-result-clause-counted
invariant_of-result-clause-counted c = c.touched-touched.ensures ∙ ap (λ t. touched_of (memory_of c.args.self.now t)) c.index-index.ensures.index

pub invariant_of-result-clause-limited : goal.invariant_of-result-clause-limited
invariant_of-result-clause-limited c = c.limit-limit.ensures.pages ∙ ap (λ t. reserved_by (table_at c.args.self.now t)) c.index-index.ensures.index

pub returns-clause-memory : goal.returns-clause-memory
returns-clause-memory c = memory-reserved c.args.self.now c.args.table (omega arith) (HasReservation-taken c.args.self.now c.args.table (omega arith) c.requires)
