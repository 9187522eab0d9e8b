-- The first entries of a directory that is to change, and what is written of it.
use Rattle.std.proofs.Common.{◌≡◌, ◌≢◌, ℕ, ◌<◌, ◌≤◌, true, false, List, Option, Some, None, length, get_or, set, sym, refl, ◌∙◌}
use Rattle.std.proofs.lemmas.List.{length-set, get_or-set_same, get_or-set_other}
use Rattle.std.proofs.lemmas.List.Sums.{position_or_len_is}
use Rattle.cpm_geom.specs.declared.dpb.Dpb.{Dpb}
use Rattle.cpm_volume.specs.declared.extent.Entry.{Entry}
use Rattle.cpm_volume.specs.Files.{entry_at, no_entry, first_match, matches, Volume}
use Rattle.cpm_volume.specs.Operations.{with_entry}
use Rattle.cpm_directory.specs.Matching.{is_match}
use Rattle.cpm_directory.specs.declared.pattern.Pattern.TheVariants.{Files}
use Rattle.cpm_drive.specs.declared.change.Change.{Change}
use Rattle.cpm_drive.specs.Judged.{entries_after, with_change}

pub after_length : (es : List Entry) (change : Option Change) → length (entries_after es change) ≡ length es
after_length es None = refl
after_length es (Some c) = length-set es c.index c.entry

pub entry_changed : (es : List Entry) (c : Change) (i : ℕ) → c.index ≡ i → i < length es → entry_at (entries_after es (Some c)) i ≡ c.entry
unfolding entry_at
entry_changed es c i e h = rw e (get_or-set_same es i c.entry no_entry h)

pub entry_other : (es : List Entry) (c : Change) (i : ℕ) → c.index ≢ i → entry_at (entries_after es (Some c)) i ≡ entry_at es i
unfolding entry_at
entry_other es c i n = get_or-set_other es c.index i c.entry no_entry (λ e. n (sym e))

same_match : (d : Dpb) (user : ℕ) (name : List ℕ) (group : ℕ) (e : Entry) → is_match d (Files user name (Some group)) e ≡ matches d user name group e
unfolding is_match matches
same_match d user name group e = refl

pub match_is : (d : Dpb) (es : List Entry) (user : ℕ) (name : List ℕ) (group i : ℕ) → i ≤ length es → ((k : ℕ) → k < i → is_match d (Files user name (Some group)) (entry_at es k) ≡ false) → (i < length es → is_match d (Files user name (Some group)) (entry_at es i) ≡ true) → first_match d es user name group ≡ i
unfolding first_match entry_at
match_is d es user name group i h before here =
    position_or_len_is (matches d user name group) es i no_entry h (λ k l. sym (same_match d user name group (get_or es k no_entry)) ∙ before k l) (λ l. sym (same_match d user name group (get_or es i no_entry)) ∙ here l)

-- a volume with an entry that is one of its directory's
pub change_is : (v : Volume) (c : Change) → c.index < length v.entries → with_entry v c.index (set v.entries c.index c.entry) ≡ with_change v (Some c)
unfolding with_entry with_change entry_at
change_is v c h = rw (get_or-set_same v.entries c.index c.entry no_entry h) refl
