use Rattle.std.proofs.Common.{◌≡◌, ◌+◌, [], ◌∷◌, length, refl, arith, ap, sym, ◌∙◌}
use Rattle.cpm_memory.specs.Contents.{Contents, after_run}
use Rattle.cpm_memory.specs.Room.{pages_of_run, room-less}
use Rattle.cpm_bdos.proofs.Pages.{pages-le}
use Rattle.cpm_ccp.proofs.LoadingTexts.{run-append}
use Rattle.cpm_ccp.proofs.loading.fill_buffer.Goals as goal

pub change_run-requires-2-clause-room : goal.change_run-requires-2-clause-room
change_run-requires-2-clause-room g c =
    let one : pages_of_run 128 1 ≡ 1 = refl in
    c.change_run.ensures.room _ (room-less _ _ 5 (omega (arith, one, pages-le 129 (length c.args.tail.now))) c.requires.room)

pub change_run-requires-3-clause-room : goal.change_run-requires-3-clause-room
change_run-requires-3-clause-room g c =
    let one : pages_of_run 128 1 ≡ 1 = refl in
    let n = length c.args.tail.now in
    c.change_run-2.ensures.room _ (c.change_run.ensures.room _ (room-less _ _ 5 (omega (arith, one, pages-le 129 n, pages-le (129 + n) 1)) c.requires.room))

pub returns-clause-contents : goal.returns-clause-contents
returns-clause-contents g c =
    let m = g.M.Memory.contents c.args.memory.now in
    let tail = c.args.tail.now in
    let counted : Contents = after_run m 128 (length tail ∷ []) in
    c.change_run-3.ensures.contents
    ∙ (ap (λ (k : Contents). after_run k (129 + length tail) (0 ∷ [])) (c.change_run-2.ensures.contents ∙ ap (λ (k : Contents). after_run k 129 tail) c.change_run.ensures.contents)
    ∙ sym (run-append counted 129 tail (0 ∷ []) (omega arith)))

pub returns-clause-room : goal.returns-clause-room
returns-clause-room g c = λ k h.
    let one : pages_of_run 128 1 ≡ 1 = refl in
    let n = length c.args.tail.now in
    c.change_run-3.ensures.room k (c.change_run-2.ensures.room _ (c.change_run.ensures.room _ (room-less _ _ (k + 5) (omega (arith, one, pages-le 129 n, pages-le (129 + n) 1)) h)))
