use Rattle.std.proofs.Common.{◌≡◌, ◌≤◌, take, map}
use Rattle.cpm_store.specs.Files.{WhereTold}
use Rattle.cpm_store.specs.Log.{AreWrites, LogLeadsBy}
use Rattle.cpm_store.specs.Writes.{WritesAll, named_output}
use Rattle.cpm_store.proofs.writes.write_all.Given as goal

abbrev pub invariant-loop-output : goal.invariant-loop-output
invariant-loop-output g l = record {
  written : WhereTold (g.S.Store.files l.fn.store) (g.S.Store.files l.store) (WritesAll (map named_output (take l.output-index l.outputs)));
  log : LogLeadsBy g.S.Store.does (AreWrites (map named_output (take l.output-index l.outputs))) l.fn.store l.store;
  uncounted : g.S.Store.failed l.store ≡ g.S.Store.failed l.fn.store;
  counted : g.S.Store.failed l.fn.store ≤ g.S.Store.failed l.store;
  place : l.place ≡ l.output-index;
}
