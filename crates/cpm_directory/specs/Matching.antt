-- Which entries are looked for, and the first of them.
use Rattle.std.specs.Prelude.{ℕ, ◌+◌, Bool, true, ◌&&◌, ◌==◌, nat_lt, if◌then◌else◌, List, Option, Some, None, length, drop}
use Rattle.std.specs.List.{position_or_len}
use Rattle.cpm_geom.specs.declared.dpb.Dpb.{Dpb}
use Rattle.cpm_volume.specs.declared.extent.Entry.{Entry}
use Rattle.cpm_volume.specs.Files.{extent_number, group_of, name_matches}
use Rattle.cpm_directory.specs.declared.pattern.Pattern.{Pattern}
use Rattle.cpm_directory.specs.declared.pattern.Pattern.TheVariants.{Every, Files}

-- own: an extent is of a group that is asked for, if one is
abbrev pub is_in_group : Dpb → Option ℕ → ℕ → Bool
is_in_group d None number = true
is_in_group d (Some group) number = group_of d number == group

-- CP/M 2.2 Operating System Manual, section 5.2, Operating System Call Conventions, SEARCH FOR FIRST: a question mark matches any character;
-- own: in the low seven bits of each
unfoldable pub is_match : Dpb → Pattern → Entry → Bool
is_match d Every e = true
is_match d (Files user name group) e =
    (e.user == user) && (name_matches name e.extent.name && is_in_group d group (extent_number e.extent))

-- the index of the first entry from a place on that is looked for; the number of entries where there is none
unfoldable pub match_from : Dpb → Pattern → List Entry → ℕ → ℕ
match_from d pattern es from =
    if nat_lt from (length es) then from + position_or_len (is_match d pattern) (drop from es) else length es
