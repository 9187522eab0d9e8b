use Rattle.cpm_volume.proofs.EncodingLemmas.{same_entry_bytes, same_entry, same_fcb_bytes, same_fcb}
use Rattle.cpm_volume.proofs.laws.entries_are_their_bytes.Goals as goal

pub returns : goal.returns
returns c =
    λ d. record { entry_bytes_back = same_entry_bytes d; entry_back = same_entry d; fcb_bytes_back = same_fcb_bytes d; fcb_back = same_fcb d }
