use Rattle.std.proofs.Common.{◌≡◌, sym, subst, arith, List, length, map}
use Rattle.cpm_geom.specs.Disk.{Disk}
use Rattle.cpm_slots.specs.Host.{new_host}
use Rattle.cpm_play.specs.Players.{AllDiffer, AllReady}
use Rattle.cpm_play.specs.declared.player.Player.{Player}
use Rattle.cpm_run.proofs.FinishLemmas.{all_finished, written_back}
use Rattle.cpm_run.proofs.PlayLemmas.{all_ready, fork_refused, has_room}
use Rattle.cpm_run.specs.Pressable.{ArePressable}
use Rattle.cpm_run.specs.Settled.{settled_view, starts_of}
use Rattle.cpm_run.proofs.play.play_all.Goals as goal

pub play-requires-clause-ready : goal.play-requires-clause-ready
play-requires-clause-ready g c =
    let slots = c.in_ok-host.host.host.slots in
    let system = c.in_ok-host.host.host.system in
    let keys = subst (λ (d : Disk). ArePressable d (map settled_view c.args.inputs.items)) (sym c.in_ok-host.ensures.system) c.requires.keys in
    let ready = all_ready system slots (map settled_view c.args.inputs.items) c.in_ok-host.players.items c.in_ok-host.ensures.prepared keys in
    subst (λ (ps : List Player). AllReady system slots ps) (sym c.as_mut_slice.ensures.value) ready

pub finish_all-requires : goal.finish_all-requires
finish_all-requires g c =
    let players = c.in_ok-host.players in
    let whole : players.len ≡ length players.items = let ok = players.ok.0 in omega (arith, ok) in
    let back = written_back players.len players.items c.as_mut_slice.result.now c.play.new.players whole c.as_mut_slice.ensures.value c.in-Ok.ensures.played.long in
    subst (λ (ps : List Player). AllDiffer ps) (sym back) c.in-Ok.ensures.played.differ

pub returns-clause-reports : goal.returns-clause-reports
returns-clause-reports g c =
    let start = c.in_ok-host.host.host in
    let players = c.in_ok-host.players in
    let begun = c.as_mut_slice.result.now in
    let whole : players.len ≡ length players.items = let ok = players.ok.0 in omega (arith, ok) in
    let back = written_back players.len players.items begun c.play.new.players whole c.as_mut_slice.ensures.value c.in-Ok.ensures.played.long in
    (all_finished c.args.system start c.play.new.host.host c.args.config.now.sessions.items c.as_slice.result.now (map settled_view c.args.inputs.items) players.items begun
    c.play.new.players _ c.in_ok-left.left.0.items c.in_ok-left.left.1.items c.in_ok-host.ensures.system c.in-Ok.ensures.others.system c.as_slice.ensures.value c.as_mut_slice.ensures.value back c.requires.sessions
    c.in_ok-host.ensures.prepared c.in-Ok.ensures.played c.in_ok-left.ensures).0

pub returns-clause-files : goal.returns-clause-files
returns-clause-files g c =
    let start = c.in_ok-host.host.host in
    let players = c.in_ok-host.players in
    let begun = c.as_mut_slice.result.now in
    let whole : players.len ≡ length players.items = let ok = players.ok.0 in omega (arith, ok) in
    let back = written_back players.len players.items begun c.play.new.players whole c.as_mut_slice.ensures.value c.in-Ok.ensures.played.long in
    (all_finished c.args.system start c.play.new.host.host c.args.config.now.sessions.items c.as_slice.result.now (map settled_view c.args.inputs.items) players.items begun
    c.play.new.players _ c.in_ok-left.left.0.items c.in_ok-left.left.1.items c.in_ok-host.ensures.system c.in-Ok.ensures.others.system c.as_slice.ensures.value c.as_mut_slice.ensures.value back c.requires.sessions
    c.in_ok-host.ensures.prepared c.in-Ok.ensures.played c.in_ok-left.ensures).1

pub returns-clause-savings : goal.returns-clause-savings
returns-clause-savings g c =
    let start = c.in_ok-host.host.host in
    let players = c.in_ok-host.players in
    let begun = c.as_mut_slice.result.now in
    let whole : players.len ≡ length players.items = let ok = players.ok.0 in omega (arith, ok) in
    let back = written_back players.len players.items begun c.play.new.players whole c.as_mut_slice.ensures.value c.in-Ok.ensures.played.long in
    (all_finished c.args.system start c.play.new.host.host c.args.config.now.sessions.items c.as_slice.result.now (map settled_view c.args.inputs.items) players.items begun
    c.play.new.players _ c.in_ok-left.left.0.items c.in_ok-left.left.1.items c.in_ok-host.ensures.system c.in-Ok.ensures.others.system c.as_slice.ensures.value c.as_mut_slice.ensures.value back c.requires.sessions
    c.in_ok-host.ensures.prepared c.in-Ok.ensures.played c.in_ok-left.ensures).2

pub returns-clause-accepted : goal.returns-clause-accepted
returns-clause-accepted g c =
    let start = c.in_ok-host.host.host in
    let inputs = map settled_view c.args.inputs.items in
    c.in_ok-host.ensures.accepted (starts_of inputs) (has_room start inputs c.in_ok-host.players.items c.in_ok-host.ensures.prepared (rw (sym c.as_mut_slice.ensures.value) c.in-Ok.ensures.room))

pub returns-in-Err-clause-refusal : goal.returns-in-Err-clause-refusal
returns-in-Err-clause-refusal g c =
    let start = c.in_ok-host.host.host in
    let inputs = map settled_view c.args.inputs.items in
    let players = c.in_ok-host.players.items in
    fork_refused c.args.config.now.sessions.items (new_host c.args.system c.args.config.now.frames) start inputs players c.fork_refusal.result c.in_ok-host.ensures.prepared c.in_ok-host.ensures.short
    (c.fork_refusal.ensures start players (rw (sym c.as_mut_slice.ensures.value) c.in-Err.ensures.refused))
