use Rattle.cpm_ccp.proofs.WaitLaws.{WaitsForKeys-now}
use Rattle.cpm_ccp.proofs.laws.waits_for_keys_of_lines.Goals as goal

pub returns : goal.returns
returns c = WaitsForKeys-now
