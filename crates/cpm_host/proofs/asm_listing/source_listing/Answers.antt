use Rattle.cpm_host.specs.AsmListing.{source_listing}
use Rattle.cpm_host.proofs.AsmListingLemmas.{lines_end}
use Rattle.cpm_host.proofs.asm_listing.source_listing.Goals as goal

pub returns : goal.returns
unfolding source_listing
returns c =
    let l = c.loop-places in
    lines_end c.args.program.now.image.items l.text.items _ l.rest.now l.number l.places.now c.loop-places-test.ensures l.invariant.same
