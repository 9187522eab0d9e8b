use Rattle.std.proofs.Common.{◌≡◌, ◌++◌, ◌≤◌, IfSome, ap, arith, length, option_map, subst, take}
use Rattle.cpm_host.proofs.InputLemmas.{whole_read}
use Rattle.cpm_host.proofs.input.read_whole.Goals as goal

pub returns-clause-bytes : goal.returns-clause-bytes
returns-clause-bytes g c =
    let count = c.in_ok-count.ensures.ok in
    let below = c.if-count-gt-MOST_FILE.false in
    let none = c.new-bytes.ensures.len in
    let len = c.read_to_end.new.buf.ok.0 in
    let fits : length c.read_to_end.new.buf.items ≤ 16777216 = omega arith in
    let same : c.take.result.inner.now ≡ c.args.reader.now = ap (λ r. r.now) c.take.ensures.inner in
    let read = subst (λ (r : g.row.R.Denot). IfSome (option_map (take c.take.result.limit) (g.R.Read.remaining r))
    (λ xs. c.read_to_end.new.buf.items ≡ c.new-bytes.result.items ++ xs)) same c.in_ok-count.ensures.bytes in
    whole_read (g.R.Read.remaining c.args.reader.now) c.new-bytes.result.items c.read_to_end.new.buf.items c.take.result.limit 16777216 c.take.ensures.limit
    c.new-bytes.ensures.items read fits
