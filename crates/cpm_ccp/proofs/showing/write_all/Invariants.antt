use Rattle.std.proofs.Common.{◌≡◌, ◌≤◌, ◌+◌, ◌*◌, length, drop}
use Rattle.cpm_ccp.specs.Showing.{wrote_all}
use Rattle.cpm_ccp.proofs.showing.write_all.Given as goal

abbrev pub invariant-loop-character : goal.invariant-loop-character
invariant-loop-character l = record {
  shown : wrote_all l.console (drop l.character-index l.text) ≡ wrote_all l.initial.console l.text;
  screen : length l.console.screen ≤ length l.initial.console.screen + 8 * l.character-index;
  printer : length l.console.printer ≤ length l.initial.console.printer + 8 * l.character-index;
}
