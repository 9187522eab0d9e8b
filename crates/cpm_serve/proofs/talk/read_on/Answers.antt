use Rattle.std.proofs.Common.{◌≡◌, ◌-◌, [], arith, length, subst, sym}
use Rattle.std.specs.Io.BufRead.{FillKeeps}
use Rattle.std.proofs.KnownBytes.{Consumes-kept, Consumes-nil}
use Rattle.std.proofs.BufReadLemmas.{Consumes_shown}
use Rattle.cpm_serve.specs.Talk.{IsReadOn, most_kept}
use Rattle.cpm_serve.proofs.TalkLemmas.{read-chunk, read-end, read-none}
use Rattle.cpm_serve.proofs.talk.read_on.Goals as goal

pub returns-then-eq : goal.returns-then-eq
returns-then-eq g c = read-none _ _ c.args.line.now.items (Consumes-kept _ _ _ [] (Consumes-nil _) c.fill_buf.follows.holds-at-none.0)

pub returns-then-end-eq0 : goal.returns-then-end-eq0
returns-then-end-eq0 g c =
    let shown = c.in-Ok.available.now in
    let end = c.length_through-end in
    let room : c.saturating_sub-room.result ≡ most_kept - length c.args.line.now.items =
    let r = c.saturating_sub-room.ensures in let n = c.len.ensures in let k = c.args.line.now.ok.0 in omega (arith, r, n, k) in
    let rested = c.fill_buf.follows.lender-at-none in
    let filled = subst (FillKeeps _ (g.R.Read.remaining rested) (g.R.BufRead.consumable_len rested)) c.in-Ok.is c.fill_buf.follows.holds-at-none in
    let moved = Consumes_shown _ _ _ _ shown end.result.0 end.ensures.within c.in-Ok.ensures.front c.in-Ok.ensures.end filled.0 filled.1 c.consume.ensures.bytes in
    read-end _ _ c.args.line.now.items c.extend_from_slice.new.self.items shown end.result.0 c.saturating_sub-room.result c.min.result end.ensures.within end.ensures.through c.min.ensures
    room c.in_ok-extend_from_slice.ensures.items moved.0 c.in-Ok.ensures.end c.if-end-eq0.true

pub returns-else-end-eq0 : goal.returns-else-end-eq0
returns-else-end-eq0 g c =
    let shown = c.in-Ok.available.now in
    let end = c.length_through-end in
    let room : c.saturating_sub-room.result ≡ most_kept - length c.args.line.now.items =
    let r = c.saturating_sub-room.ensures in let n = c.len.ensures in let k = c.args.line.now.ok.0 in omega (arith, r, n, k) in
    let rested = c.fill_buf.follows.lender-at-none in
    let filled = subst (FillKeeps _ (g.R.Read.remaining rested) (g.R.BufRead.consumable_len rested)) c.in-Ok.is c.fill_buf.follows.holds-at-none in
    let moved = Consumes_shown _ _ _ _ shown end.result.0 end.ensures.within c.in-Ok.ensures.front c.in-Ok.ensures.end filled.0 filled.1 c.consume.ensures.bytes in
    subst (IsReadOn _ _ c.args.line.now.items c.extend_from_slice.new.self.items) (sym end.ensures.found)
    (read-chunk _ _ c.args.line.now.items c.extend_from_slice.new.self.items shown end.result.0 c.saturating_sub-room.result c.min.result end.ensures.within end.ensures.through c.min.ensures
    room c.in_ok-extend_from_slice.ensures.items moved.0 c.if-end-eq0.false)
