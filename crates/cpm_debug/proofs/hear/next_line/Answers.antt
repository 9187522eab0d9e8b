use Rattle.std.proofs.Common.{◌≡◌, ◌∙◌, ◌++◌, ◌-◌, ◌<◌, IfSome, refl, ap, arith, List, ℕ, length, Option, Some, None, []}
use Rattle.std.specs.Io.BufRead.{take_through}
use Rattle.cpm_debug.proofs.HearingLemmas.{hears_cut, hears_end, hears_line}
use Rattle.cpm_debug.proofs.hear.next_line.Goals as goal

-- what was read behind nothing
whole : (known : Option (List ℕ)) (start line : List ℕ) → start ≡ [] → IfSome known (λ xs. line ≡ start ++ take_through 10 xs) → IfSome known (λ xs. line ≡ take_through 10 xs)
whole None start line none read = tt
whole (Some xs) start line none read = read ∙ ap (λ s. s ++ take_through 10 xs) none

pub returns-then-count-eq0 : goal.returns-then-count-eq0
returns-then-count-eq0 g c =
    hears_end c.args.room.now c.args.room.now (g.R.Read.remaining c.args.input.now) (g.R.Read.remaining c.read_until.new.self) (c.in_ok-count.ensures.end c.if-count-eq0.true)

pub returns-then-count-room : goal.returns-then-count-room
returns-then-count-room g c =
    let none = c.new-line.ensures.len in
    let counted = c.in_ok-count.ensures.ok in
    let len = c.read_until.new.buf.ok.0 in
    let size : length c.read_until.new.buf.items ≡ c.in_ok-count.count = omega arith in
    let read = whole (g.R.Read.remaining c.args.input.now) c.new-line.result.items c.read_until.new.buf.items c.new-line.ensures.items c.in_ok-count.ensures.bytes in
    hears_cut c.args.room.now c.args.room.now c.in_ok-count.count (g.R.Read.remaining c.args.input.now) (g.R.Read.remaining c.read_until.new.self) c.read_until.new.buf.items read size c.if-count-room.true

pub returns : goal.returns
returns g c =
    let none = c.new-line.ensures.len in
    let counted = c.in_ok-count.ensures.ok in
    let len = c.read_until.new.buf.ok.0 in
    let size : length c.read_until.new.buf.items ≡ c.in_ok-count.count = omega arith in
    let some : 0 < c.in_ok-count.count = let f = c.if-count-eq0.false in omega arith in
    let read = whole (g.R.Read.remaining c.args.input.now) c.new-line.result.items c.read_until.new.buf.items c.new-line.ensures.items c.in_ok-count.ensures.bytes in
    hears_line c.args.room.now c.in_ok-count.count (c.args.room.now - c.in_ok-count.count) (g.R.Read.remaining c.args.input.now) (g.R.Read.remaining c.read_until.new.self) c.read_until.new.buf.items read
    c.in_ok-count.ensures.rest size some (let f = c.if-count-room.false in omega arith) refl
