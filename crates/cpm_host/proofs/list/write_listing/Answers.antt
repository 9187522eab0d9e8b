use Rattle.std.proofs.Common.{◌≡◌, ◌∙◌, ◌++◌, ◌+◌, ◌-◌, ◌%◌, ◌<◌, ◌≤◌, ap, sym, subst, List, [], ◌∷◌, ℕ, length, drop, min, arith}
use Rattle.std.proofs.KnownBytes.{Appends-kept}
use Rattle.std.specs.Io.KnownBytes.{Appends}
use Rattle.cpm_listing.specs.Instruction.{instruction_length, instruction_line}
use Rattle.cpm_host.specs.Listing.{four}
use Rattle.cpm_host.proofs.ListLemmas.{IsListed, IsListed-all, IsListed-more, IsListed-none, less_left, none_left, some_left}
use Rattle.cpm_host.proofs.list.write_listing.Goals as goal

pub loop-rest-init : goal.loop-rest-init
loop-rest-init g c = IsListed-none c.args.cpu c.args.bytes.now (g.W.Write.contents c.args.out.now)

pub overflow_sub-address : goal.overflow_sub-address
overflow_sub-address g c = let within = c.loop-rest.invariant.within in omega (arith, within)

pub loop-rest-smaller : goal.loop-rest-smaller
loop-rest-smaller g c =
    let rest = c.loop-rest.rest.now in
    let behind : c.split_at.result.1.now ≡ drop (min c.instruction_length-length.result (length rest)) rest = c.split_at.ensures.back ∙ ap (λ (n : ℕ). drop n rest) c.min.ensures in
    subst (λ (xs : List ℕ). length xs < length rest) (sym behind) (less_left c.instruction_length-length.result rest c.instruction_length-length.ensures.some (some_left rest c.loop-rest-test.ensures))

pub loop-rest-preserved : goal.loop-rest-preserved
loop-rest-preserved g c =
    let bytes = c.args.bytes.now in
    let rest = c.loop-rest.rest.now in
    let size : c.instruction_length-length.result ≡ instruction_length c.args.cpu (four rest) = c.instruction_length-length.ensures.value ∙ ap (instruction_length c.args.cpu) c.four-instruction.ensures in
    let behind : c.split_at.result.1.now ≡ drop (min (instruction_length c.args.cpu (four rest)) (length rest)) rest =
    c.split_at.ensures.back ∙ ap (λ (n : ℕ). drop n rest) (c.min.ensures ∙ ap (λ (n : ℕ). min n (length rest)) size) in
    let line : c.as_str.result.now ≡ instruction_line c.args.cpu ((256 + (length bytes - length rest)) % 65536) (four rest) =
    c.as_str.ensures.value ∙ c.instruction_line-line.ensures ∙ ap (instruction_line c.args.cpu ((256 + (length bytes - length rest)) % 65536)) c.four-instruction.ensures in
    let writes = subst (λ (xs : List ℕ). Appends (g.W.Write.contents c.loop-rest.out) (g.W.Write.contents c.write_line.new.out) (xs ++ 10 ∷ [])) line c.in_ok-write_line.ensures in
    subst (λ (xs : List ℕ). IsListed c.args.cpu bytes xs (g.W.Write.contents c.args.out.now) (g.W.Write.contents c.write_line.new.out)) (sym behind)
    (IsListed-more c.args.cpu bytes rest _ _ _ c.loop-rest.invariant (some_left rest c.loop-rest-test.ensures) (subst (λ (n : ℕ). 1 ≤ n) size c.instruction_length-length.ensures.some) writes)

pub returns : goal.returns
returns g c =
    let all = IsListed-all c.args.cpu c.args.bytes.now c.loop-rest.rest.now (g.W.Write.contents c.args.out.now) (g.W.Write.contents c.loop-rest.out) c.loop-rest.invariant
    (none_left c.loop-rest.rest.now c.loop-rest-test.ensures) in
    Appends-kept (g.W.Write.contents c.args.out.now) (g.W.Write.contents c.loop-rest.out) (g.W.Write.contents c.flush.new.self) _ all c.in_ok-flush.ensures.bytes
