use Rattle.std.proofs.Common.{◌≡◌, ℕ, ◌+◌, ◌/◌, ◌<◌, true, Option, Some, None, is_some, unwrap_or, refl, arith, ◌∙◌}
use Rattle.cpm_memory.specs.Frames.{private_at, boot_of}
use Rattle.cpm_memory.proofs.Copies.{written-place}
use Rattle.cpm_memory.proofs.view.ViewMemory.is_settled.Goals as goal

private_some : (o : Option ℕ) (private boot : ℕ) → unwrap_or o (private + boot) < private → is_some o ≡ true
private_some None private boot below = absurd (omega arith)
private_some (Some frame) private boot below = refl

pub returns : goal.returns
returns c = λ marked.
    let v = c.args.self.now in
    let page = c.args.address / 256 in
    let l : page < 256 = omega arith in
    written-place v.store.now v.table page v.sound v.within l
    ∙ private_some (private_at v.store.now v.table page) v.store.now.private (boot_of page) (v.alone page l marked).private
