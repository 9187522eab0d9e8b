use Rattle.std.proofs.Common.{arith}
use Rattle.cpm_drive.specs.declared.drive.Marks.{Marks}
use Rattle.cpm_drives.specs.Vectors.{login_vector}
use Rattle.cpm_drives.proofs.VectorLemmas.{vector_of_four}
use Rattle.cpm_drives.proofs.disks.Disks.login_vector.Goals as goal

pub returns : goal.returns
unfolding login_vector
returns c =
    let own = vector_of_four (λ (marks : Marks). marks.is_logged_in) c.args.self.now.drives c.index-self-0.result c.index-self-1.result c.index-self-2.result c.index-self-3.result c.is_logged_in.result c.is_logged_in-2.result c.is_logged_in-3.result c.is_logged_in-4.result (omega arith) c.is_logged_in.ensures c.is_logged_in-2.ensures c.is_logged_in-3.ensures c.is_logged_in-4.ensures in
    rw (c.vector_of-own.ensures.value, c.drive_bit.ensures.value) (let e = own in omega arith)
