use Rattle.std.proofs.Common.{◌≡◌, map, take}
use Rattle.cpm_console.specs.Terminal.{said}
use Rattle.cpm_ccp.specs.Listing.{low_seven}
use Rattle.cpm_ccp.proofs.listing.say_low_seven.Given as goal

abbrev pub invariant-loop-character : goal.invariant-loop-character
invariant-loop-character l =
    l.console ≡ said l.initial.console (map low_seven (take l.character-index l.text))
