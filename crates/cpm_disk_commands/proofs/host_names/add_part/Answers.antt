use Rattle.std.proofs.Common.{◌<◌, ◌+◌, length, get_or, drop, arith}
use Rattle.cpm_disk_commands.specs.HostNames.{host_part, shown_small}
use Rattle.cpm_disk_commands.proofs.ListingLemmas.{appended, appended_all, host_end, host_more}
use Rattle.cpm_disk_commands.proofs.host_names.add_part.Goals as goal

pub loop-byte-preserved : goal.loop-byte-preserved
loop-byte-preserved c =
    let part = c.args.part.now in
    let l : c.loop-byte.byte-index < length part = omega arith in
    let rest = host_part (drop (c.loop-byte.byte-index + 1) part) in
    record {
      text = appended c.loop-byte.text.bytes c.add_character.new.text.bytes (shown_small (get_or part c.loop-byte.byte-index 0)) rest _ _ c.loop-byte.invariant.text (host_more part c.loop-byte.byte-index l) c.add_character.ensures.text;
      short = omega (arith, c.add_character.ensures.length, c.loop-byte.invariant.short);
    }

pub returns-clause-text : goal.returns-clause-text
returns-clause-text c = appended_all c.loop-byte.text.bytes _ _ c.loop-byte.invariant.text (host_end c.args.part.now c.loop-byte.byte-index (omega arith))
