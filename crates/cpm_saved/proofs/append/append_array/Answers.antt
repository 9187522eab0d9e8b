use Rattle.std.proofs.Common.{refl, true}
use Rattle.cpm_saved.proofs.Appends.{with_test}
use Rattle.cpm_saved.proofs.append.append_array.Goals as goal

pub returns : goal.returns
returns g c = λ field. with_test field _ (λ _. true) _ _ _ _ refl c.told-bytes refl (c.in_ok-append_bytes.ensures field)
