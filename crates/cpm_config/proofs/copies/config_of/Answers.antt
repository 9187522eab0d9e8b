use Rattle.std.proofs.Common.{rules, List, [], map, ap, ◌∙◌}
use mir.Syntax.{w64}
use mir.Val.{SFits}
use Rattle.cpm_config.specs.Entries.{draft_view, session_draft_view}
use Rattle.cpm_config.specs.Rules.{sessions_fault}
use Rattle.cpm_config.proofs.RuleLemmas.{good-config, passed}
use Rattle.cpm_config.proofs.copies.config_of.Goals as goal

pub unsigned_16-requires : goal.unsigned_16-requires
unsigned_16-requires c =
    let fits : SFits w64 c.args.draft.now.frames = search rules in
    passed 65535 c.args.draft.now.frames fits (good-config (draft_view c.args.draft.now) c.requires).frames

pub unsigned-requires : goal.unsigned-requires
unsigned-requires c =
    let fits : SFits w64 c.args.draft.now.quantum = search rules in
    passed 9223372036854775808 c.args.draft.now.quantum fits (good-config (draft_view c.args.draft.now) c.requires).quantum

pub sessions_of-requires : goal.sessions_of-requires
sessions_of-requires c =
    ap (λ (ss : List _). sessions_fault 1 [] (map session_draft_view ss)) c.as_slice.ensures.value
    ∙ (good-config (draft_view c.args.draft.now) c.requires).sessions
