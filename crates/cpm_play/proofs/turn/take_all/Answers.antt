use Rattle.std.proofs.Common.{◌≡◌, ◌∙◌, ◌<◌, ℕ, [], arith, length}
use Rattle.cpm_console.specs.declared.device.Device.{Device}
use Rattle.cpm_slots.specs.Host.{slot_at}
use Rattle.cpm_machine.specs.MachineState.{MachineState}
use Rattle.cpm_play.specs.ScriptedSlots.{waits_in, IsPlaying, Moves}
use Rattle.cpm_play.proofs.HostLemmas.{moves-on}
use Rattle.cpm_play.proofs.ScriptedSlotLemmas.{fewer-wait, moves-chunk, none-wait, playing-take, stays-empty}
use Rattle.cpm_play.proofs.turn.take_all.Goals as goal
use Rattle.cpm_play.proofs.turn.take_all.Goals.{In_ok-add_bytes}

-- with one chunk more
playing : (c : In_ok-add_bytes) (steps : ℕ) (start : MachineState) → IsPlaying steps start c.args.slot.now c.args.host.now.host → IsPlaying steps start c.add_bytes.new.self c.read-count.new.host.host
playing c steps start r =
    let l = c.loop in
    playing-take steps c.read-count.result (length l.chunk) start c.args.device c.read-count.new.chunk l.slot c.add_bytes.new.self l.host.host c.read-count.new.host.host
    c.read-count.ensures.bytes c.read-count.ensures.host c.in_ok-add_bytes.ensures.added (l.invariant.playing steps start r)

stays : (c : In_ok-add_bytes) (other : Device) → waits_in other (slot_at c.args.slot.now.id.0 c.args.host.now.host.slots) ≡ [] → waits_in other (slot_at c.add_bytes.new.self.id.0 c.read-count.new.host.host.slots) ≡ []
stays c other none =
    let l = c.loop in
    stays-empty (length l.chunk) c.args.device other _ l.slot c.add_bytes.new.self l.host.host c.read-count.new.host.host
    c.read-count.ensures.host c.in_ok-add_bytes.ensures.added (l.invariant.stays other none)

moves : (c : In_ok-add_bytes) → Moves c.args.slot.now c.add_bytes.new.self c.args.host.now.host c.read-count.new.host.host
moves c =
    let l = c.loop in
    moves-on c.args.slot.now l.slot c.add_bytes.new.self c.args.host.now.host l.host.host c.read-count.new.host.host l.invariant.moves
    (moves-chunk (length l.chunk) c.args.device _ l.slot c.add_bytes.new.self l.host.host c.read-count.new.host.host c.read-count.ensures.host c.in_ok-add_bytes.ensures.added)

pub loop-smaller : goal.loop-smaller
loop-smaller c =
    let l = c.loop in
    fewer-wait c.read-count.result (length l.chunk) c.args.device c.read-count.new.chunk _ l.slot c.add_bytes.new.self l.host.host c.read-count.new.host.host
    c.read-count.ensures.bytes c.if-count-eq0.false c.read-count.ensures.host c.in_ok-add_bytes.ensures.added

pub loop-preserved : goal.loop-preserved
loop-preserved c =
    let k = (goal.at.loop-preserved c).In_ok-add_bytes in
    record {
      playing = playing k;
      stays = stays k;
      moves = moves k;
      pace = c.add_bytes.ensures.pace ∙ c.loop.invariant.pace;
      room = c.read-count.ensures.length ∙ c.loop.invariant.room;
    }

pub returns-then-count-eq0-clause-playing : goal.returns-then-count-eq0-clause-playing
returns-then-count-eq0-clause-playing c = playing (goal.at.returns-then-count-eq0-clause-playing c).In_ok-add_bytes

pub returns-then-count-eq0-clause-stays : goal.returns-then-count-eq0-clause-stays
returns-then-count-eq0-clause-stays c = stays (goal.at.returns-then-count-eq0-clause-stays c).In_ok-add_bytes

pub returns-then-count-eq0-clause-moves : goal.returns-then-count-eq0-clause-moves
returns-then-count-eq0-clause-moves c = moves (goal.at.returns-then-count-eq0-clause-moves c).In_ok-add_bytes

pub returns-then-count-eq0-clause-empty : goal.returns-then-count-eq0-clause-empty
returns-then-count-eq0-clause-empty c =
    let l = c.loop in
    let long = l.invariant.room in
    let some : 0 < length l.chunk = omega arith in
    none-wait c.read-count.result (length l.chunk) c.args.device c.read-count.new.chunk _ l.slot c.add_bytes.new.self l.host.host c.read-count.new.host.host
    c.read-count.ensures.bytes c.if-count-eq0.true some c.read-count.ensures.host c.in_ok-add_bytes.ensures.added
