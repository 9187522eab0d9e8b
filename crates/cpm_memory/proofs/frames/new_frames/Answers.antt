use Rattle.std.proofs.Common.{◌≡◌, [], ◌∷◌, ◌++◌, arith, ap, sym, ◌∙◌, subst}
use Rattle.cpm_memory.specs.Frames.{AreNewFrames}
use Rattle.cpm_memory.specs.Tabulated.{tabulated, tabulated_none, tabulated_more}
use Rattle.cpm_memory.proofs.NewStore.{AreNewFrames-from}
use Rattle.cpm_memory.proofs.frames.new_frames.Goals as goal

pub loop-frame-init : goal.loop-frame-init
loop-frame-init c = c.in_ok-frames.ensures.items ∙ sym (tabulated_none (λ _. c.opening_page-zeros.result))

pub loop-frame-preserved : goal.loop-frame-preserved
loop-frame-preserved c =
    c.in_ok-push.ensures.items ∙ ap (λ xs. xs ++ c.opening_page-zeros.result ∷ []) c.loop-frame.invariant ∙ sym (tabulated_more c.loop-frame._frame (λ _. c.opening_page-zeros.result))

pub returns : goal.returns
returns c =
    let n = c.args.private in
    let z = c.opening_page-zeros.result in
    let b = c.opening_page.result in
    let j = c.opening_page-2.result in
    let d = c.opening_page-3.result in
    let all : c.loop-frame._frame ≡ n = omega arith in
    let made : c.loop-frame.frames.items ≡ tabulated n (λ _. z) = c.loop-frame.invariant ∙ ap (λ k. tabulated k (λ _. z)) all in
    let e : c.push-5.new.self.items ≡ (((tabulated n (λ _. z) ++ z ∷ []) ++ b ∷ []) ++ j ∷ []) ++ d ∷ [] =
    c.in_ok-push-5.ensures.items ∙ ap (λ xs. xs ++ d ∷ []) (c.in_ok-push-4.ensures.items ∙ ap (λ xs. xs ++ j ∷ []) (c.in_ok-push-3.ensures.items ∙ ap (λ xs. xs ++ b ∷ []) (c.in_ok-push-2.ensures.items ∙ ap (λ xs. xs ++ z ∷ []) made))) in
    subst (λ xs. AreNewFrames xs n) (sym e) (AreNewFrames-from n z b j d c.opening_page-zeros.ensures c.opening_page.ensures c.opening_page-2.ensures c.opening_page-3.ensures)
