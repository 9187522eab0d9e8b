-- What a writer that paints has sent in the end.
use Rattle.std.proofs.Common.{◌≡◌, ℕ, List, ◌++◌, Option, subst}
use Rattle.std.specs.Io.KnownBytes.{Appends}
use Rattle.std.proofs.KnownBytes.{Appends-trans}
use Rattle.cpm_screen.specs.Outputs.{ShownBytes, screen_after}
use Rattle.cpm_screen.specs.Painted.{PainterState, end_bytes, fitted}
use Rattle.cpm_screen.specs.PaintedOutputs.{HasSent, IsFinished, IsPainted}
use Rattle.cpm_screen.specs.Pictures.{PaintsAnew}

pub finished_by : {W : Type 0} (contents : W → Option (List ℕ)) (sent now : List ℕ) (p q : PainterState) (s t : ShownBytes) (before between after : W)
    → HasSent contents sent now before between → IsPainted now q t → q.rows ≡ p.rows → q.columns ≡ p.columns → t ≡ s
    → Appends (contents between) (contents after) (end_bytes q.rows) → IsFinished contents sent p s before after
finished_by {W} contents sent now p q s t before between after has painted rows columns shown ended =
    let one = subst (λ (bs : List ℕ). IsPainted bs q t) has.sent_is painted in
    let two = subst (λ (x : ShownBytes). IsPainted (sent ++ has.more) q x) shown one in
    let three = subst (λ (n : ℕ). PaintsAnew (sent ++ has.more) n q.columns (fitted n q.columns (screen_after s.terminal s.bytes))) rows two in
    let four = subst (λ (n : ℕ). PaintsAnew (sent ++ has.more) p.rows n (fitted p.rows n (screen_after s.terminal s.bytes))) columns three in
    let left = subst (λ (n : ℕ). Appends (contents between) (contents after) (end_bytes n)) rows ended in
    record { more = has.more; painted = four; got = Appends-trans _ _ _ _ _ has.got left }
