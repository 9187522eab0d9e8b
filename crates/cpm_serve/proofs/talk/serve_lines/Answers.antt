use Rattle.std.proofs.Common.{◌≡◌, ◌∙◌, ◌++◌, ◌∷◌, [], List, ℕ, arith, ap, subst}
use Rattle.std.specs.Prelude.{string_bytes}
use Rattle.std.specs.Io.BufRead.{strip_last}
use Rattle.std.specs.Io.KnownBytes.{Appends}
use Rattle.cpm_serve.specs.Lines.{CutEventsLead, IsLineCut, IsLineServed, KeptEventsLead}
use Rattle.cpm_serve.specs.Talk.{IsLineKept}
use Rattle.cpm_serve.specs.Written.{AppendsFirst}
use Rattle.cpm_serve.proofs.TalkLemmas.{talk_begun, talk_cut, talk_ended, talk_full, talk_more, talk_stopped, talk_unwritten, whole-cut, whole-served}
use Rattle.cpm_serve.proofs.talk.serve_lines.Goals as goal

pub loop-line-init : goal.loop-line-init
loop-line-init g c = talk_begun g.F.Folder.does (g.R.Read.remaining c.args.input.now) c.args.server.now.host.host c.args.folder.now (g.W.Write.contents c.args.out.now)

pub returns-in-Ok-None-clause-talked : goal.returns-in-Ok-None-clause-talked
returns-in-Ok-None-clause-talked g c =
    talk_ended g.F.Folder.does (g.R.Read.remaining c.args.input.now) (g.R.Read.remaining c.loop-line.input) c.args.server.now.host.host c.loop-line.server.host.host c.args.folder.now c.loop-line.folder
    (g.W.Write.contents c.args.out.now) (g.W.Write.contents c.loop-line.out) c.loop-line._line c.loop-line.invariant
    (rw c.in-Ok-None.field-0-is at c.in-Ok-None.ensures) (let t = c.loop-line-test.true in omega (arith, t))

pub returns-in-Err-clause-partly : goal.returns-in-Err-clause-partly
returns-in-Err-clause-partly g c =
    talk_stopped g.F.Folder.does c.in-Err.error (g.R.Read.remaining c.args.input.now) (g.R.Read.remaining c.loop-line.input) c.args.server.now.host.host c.loop-line.server.host.host
    c.args.folder.now c.loop-line.folder (g.W.Write.contents c.args.out.now) (g.W.Write.contents c.loop-line.out) c.loop-line._line c.loop-line.invariant

pub returns-in-Err-serve-clause-partly : goal.returns-in-Err-serve-clause-partly
returns-in-Err-serve-clause-partly g c =
    let kept = c.in-Ok-Some.line.items in
    let by = c.in-Err-serve.error in
    let k : IsLineKept (g.R.Read.remaining c.loop-line.input) (g.R.Read.remaining c.next_line.new.input) kept = rw c.in-Ok-Some.field-0-is at c.in-Ok-Some.ensures in
    let e : c.without_newline.result.now ≡ strip_last 0x0A kept = c.without_newline.ensures ∙ ap (strip_last 0x0A) c.deref.ensures.value in
    let leads = CutEventsLead by g.F.Folder.does c.loop-line.server.host.host c.loop-line.folder c.serve.new.folder in
    talk_cut g.F.Folder.does by c.unserved.result (g.R.Read.remaining c.args.input.now) (g.R.Read.remaining c.loop-line.input) (g.R.Read.remaining c.next_line.new.input)
    c.args.server.now.host.host c.loop-line.server.host.host c.serve.new.self.host.host c.args.folder.now c.loop-line.folder c.serve.new.folder (g.W.Write.contents c.args.out.now) (g.W.Write.contents c.loop-line.out) c.loop-line._line
    (strip_last 0x0A k.whole) c.unserved.ensures c.loop-line.invariant k.read
    (whole-cut leads k.whole kept c.loop-line.server.host.host c.serve.new.self.host.host k.first
    (subst (λ (l : List ℕ). IsLineCut leads l c.loop-line.server.host.host c.serve.new.self.host.host) e c.in-Err-serve.ensures.cut))

pub returns-in-Err-write_reply-clause-partly : goal.returns-in-Err-write_reply-clause-partly
returns-in-Err-write_reply-clause-partly g c =
    let kept = c.in-Ok-Some.line.items in
    let text = string_bytes c.in-Ok.reply in
    let k : IsLineKept (g.R.Read.remaining c.loop-line.input) (g.R.Read.remaining c.next_line.new.input) kept = rw c.in-Ok-Some.field-0-is at c.in-Ok-Some.ensures in
    let e : c.without_newline.result.now ≡ strip_last 0x0A kept = c.without_newline.ensures ∙ ap (strip_last 0x0A) c.deref.ensures.value in
    let begun : AppendsFirst (g.W.Write.contents c.loop-line.out) (g.W.Write.contents c.write_reply.new.out) (text ++ 0x0A ∷ []) =
    subst (λ (t : List ℕ). AppendsFirst (g.W.Write.contents c.loop-line.out) (g.W.Write.contents c.write_reply.new.out) (t ++ 0x0A ∷ [])) c.as_str.ensures.value c.in-Err-write_reply.ensures.begun in
    let leads = KeptEventsLead g.F.Folder.does c.loop-line.server.host.host c.loop-line.folder c.serve.new.folder in
    talk_unwritten g.F.Folder.does c.in-Err-write_reply.error (g.R.Read.remaining c.args.input.now) (g.R.Read.remaining c.loop-line.input) (g.R.Read.remaining c.next_line.new.input)
    c.args.server.now.host.host c.loop-line.server.host.host c.serve.new.self.host.host c.args.folder.now c.loop-line.folder c.serve.new.folder
    (g.W.Write.contents c.args.out.now) (g.W.Write.contents c.loop-line.out) (g.W.Write.contents c.write_reply.new.out) c.loop-line._line
    (strip_last 0x0A k.whole) text c.loop-line.invariant k.read
    (whole-served leads k.whole kept text c.loop-line.server.host.host c.serve.new.self.host.host k.first
    (subst (λ (l : List ℕ). IsLineServed leads l c.loop-line.server.host.host c.serve.new.self.host.host text) e c.in-Ok.ensures.served))
    begun

pub loop-line-preserved : goal.loop-line-preserved
loop-line-preserved g c =
    let kept = c.in-Ok-Some.line.items in
    let text = string_bytes c.in-Ok.reply in
    let k : IsLineKept (g.R.Read.remaining c.loop-line.input) (g.R.Read.remaining c.next_line.new.input) kept = rw c.in-Ok-Some.field-0-is at c.in-Ok-Some.ensures in
    let e : c.without_newline.result.now ≡ strip_last 0x0A kept = c.without_newline.ensures ∙ ap (strip_last 0x0A) c.deref.ensures.value in
    let written : Appends (g.W.Write.contents c.loop-line.out) (g.W.Write.contents c.write_reply.new.out) (text ++ 0x0A ∷ []) =
    subst (λ (t : List ℕ). Appends (g.W.Write.contents c.loop-line.out) (g.W.Write.contents c.write_reply.new.out) (t ++ 0x0A ∷ [])) c.as_str.ensures.value c.in_default.ensures.whole in
    let leads = KeptEventsLead g.F.Folder.does c.loop-line.server.host.host c.loop-line.folder c.serve.new.folder in
    talk_more g.F.Folder.does (g.R.Read.remaining c.args.input.now) (g.R.Read.remaining c.loop-line.input) (g.R.Read.remaining c.next_line.new.input)
    c.args.server.now.host.host c.loop-line.server.host.host c.serve.new.self.host.host c.args.folder.now c.loop-line.folder c.serve.new.folder
    (g.W.Write.contents c.args.out.now) (g.W.Write.contents c.loop-line.out) (g.W.Write.contents c.write_reply.new.out) c.loop-line._line
    (strip_last 0x0A k.whole) text c.loop-line.invariant k.read
    (whole-served leads k.whole kept text c.loop-line.server.host.host c.serve.new.self.host.host k.first
    (subst (λ (l : List ℕ). IsLineServed leads l c.loop-line.server.host.host c.serve.new.self.host.host text) e c.in-Ok.ensures.served))
    written

pub returns-clause-talked : goal.returns-clause-talked
returns-clause-talked g c =
    talk_full g.F.Folder.does (g.R.Read.remaining c.args.input.now) (g.R.Read.remaining c.loop-line.input) c.args.server.now.host.host c.loop-line.server.host.host c.args.folder.now c.loop-line.folder
    (g.W.Write.contents c.args.out.now) (g.W.Write.contents c.loop-line.out) c.loop-line._line c.loop-line.invariant
    (let f = c.loop-line-test.false in let t = c.loop-line.auto._line-end in omega (arith, f, t))
