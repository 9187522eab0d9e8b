use Rattle.std.proofs.Common.{◌≡◌, ◌≤◌, length, take}
use Rattle.std.specs.Prelude.{map}
use Rattle.cpm_screen.specs.Pictures.{seen_character, without_end_spaces}
use Rattle.cpm_screen.proofs.picture.characters_end.Given as goal

abbrev pub invariant-loop-end : goal.invariant-loop-end
invariant-loop-end l =
    record {
      within : l.end ≤ length l.cells;
      line : without_end_spaces (map seen_character l.cells) ≡ without_end_spaces (take l.end (map seen_character l.cells));
    }

abbrev pub decreases-loop-end : goal.decreases-loop-end
decreases-loop-end l = l.end
