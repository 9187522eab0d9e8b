use Rattle.std.proofs.Common.{refl}
use Rattle.cpm_serve.specs.Owned.{owned_answer}
use Rattle.cpm_serve.proofs.EventLemmas.{plain-with}
use Rattle.cpm_serve.proofs.many.perform.Goals as goal

pub returns-in-Key : goal.returns-in-Key
returns-in-Key g c = rw c.in-Key.is (plain-with g.F.Folder.does _ c.args.host.now.host c.press.new.host.host c.args.folder.now (owned_answer c.press.result) c.press.ensures (λ lacked. refl) refl tt)

pub returns-in-Grant : goal.returns-in-Grant
returns-in-Grant g c = rw c.in-Grant.is (plain-with g.F.Folder.does _ c.args.host.now.host c.grant.new.host.host c.args.folder.now (owned_answer c.grant.result) c.grant.ensures (λ lacked. refl) refl tt)

pub returns-in-Take : goal.returns-in-Take
returns-in-Take g c = rw c.in-Take.is (plain-with g.F.Folder.does _ c.args.host.now.host c.take.new.host.host c.args.folder.now (owned_answer c.take.result) c.take.ensures (λ lacked. refl) refl tt)

pub returns-in-List : goal.returns-in-List
returns-in-List g c = rw c.in-List.is (plain-with g.F.Folder.does _ c.args.host.now.host c.take-in-List.new.host.host c.args.folder.now (owned_answer c.take-in-List.result) c.take-in-List.ensures (λ lacked. refl) refl tt)

pub returns-in-Look : goal.returns-in-Look
returns-in-Look g c = rw c.in-Look.is (plain-with g.F.Folder.does _ c.args.host.now.host c.look.new.host.host c.args.folder.now (owned_answer c.look.result) c.look.ensures (λ lacked. refl) refl tt)

pub returns-in-Peek : goal.returns-in-Peek
returns-in-Peek g c = rw c.in-Peek.is (plain-with g.F.Folder.does _ c.args.host.now.host c.args.host.now.host c.args.folder.now (owned_answer c.peek.result) c.peek.ensures (λ lacked. refl) refl tt)

pub returns-in-Fork : goal.returns-in-Fork
returns-in-Fork g c = rw c.in-Fork.is (plain-with g.F.Folder.does _ c.args.host.now.host c.fork.new.host.host c.args.folder.now (owned_answer c.fork.result) c.fork.ensures (λ lacked. refl) refl tt)

pub returns-in-Turn : goal.returns-in-Turn
returns-in-Turn g c = rw c.in-Turn.is (plain-with g.F.Folder.does _ c.args.host.now.host c.turn.new.host.host c.args.folder.now (owned_answer c.turn.result) c.turn.ensures (λ lacked. refl) refl tt)

pub returns-in-Put : goal.returns-in-Put
returns-in-Put g c = rw c.in-Put.is (c.put_file.ensures c.args.host.now.host)

pub returns-in-Get : goal.returns-in-Get
returns-in-Get g c = rw c.in-Get.is (c.get_file.ensures c.args.host.now.host)

pub returns-in-Files : goal.returns-in-Files
returns-in-Files g c = rw c.in-Files.is (c.list_files.ensures c.args.host.now.host)
