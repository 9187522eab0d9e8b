-- A session's own drives and the system drive, and the drives once one is used.
use Rattle.std.proofs.Common.{◌≡◌, inl, inr, ◌<◌, ◌∙◌, ℕ, Bool, true, false, Option, Some, None, is_some, length, get_or, slice_set, sym, ap, refl}
use Rattle.std.proofs.lemmas.List.{get_or_past, get_or_default, get_or-set_same, set-set, set-get_or}
use Rattle.std.proofs.lemmas.Bool.{cases_lt}
use Rattle.cpm_geom.specs.Disk.{Disk}
use Rattle.cpm_drive.specs.declared.drive.Drive.{Drive}
use Rattle.cpm_drive.specs.declared.drive.Marks.{Marks}
use Rattle.cpm_drive.specs.Reads.{lent_drive}
use Rattle.cpm_drives.specs.declared.disks.Disks.{Disks}
use Rattle.cpm_drives.specs.Disks.{own_drive, system_drive, drive_at, with_drive}
use Rattle.cpm_drives.specs.Selecting.{ready, drive_in_use, protect}
use Rattle.cpm_drives.specs.Files.{marked_drive}

true_false : true ≡ false → ⊥
true_false h = cc

-- the drive at an index of the array is an own one
pub is_own_drive : (disks : Disks) (i n : ℕ) (d : Drive) (o : Option Drive) → i ≡ n → i < length disks.drives → get_or disks.drives i o ≡ Some d → own_drive disks n ≡ Some d
unfolding own_drive
is_own_drive disks i n d o e h is = rw (← e) (get_or_default disks.drives i None o h ∙ is)

pub is_no_drive : (disks : Disks) (i n : ℕ) (o : Option Drive) → i ≡ n → i < length disks.drives → get_or disks.drives i o ≡ None → own_drive disks n ≡ None
unfolding own_drive
is_no_drive disks i n o e h is = rw (← e) (get_or_default disks.drives i None o h ∙ is)

-- the drive of a number, and the drives with another there
pub drive_at-own : (disks : Disks) (system : Disk) (n : ℕ) (d : Drive) → own_drive disks n ≡ Some d → drive_at disks system n ≡ d
unfolding drive_at
drive_at-own disks system n d e = rw e refl

pub drive_at-system : (disks : Disks) (system : Disk) (n : ℕ) → own_drive disks n ≡ None → drive_at disks system n ≡ system_drive disks system
unfolding drive_at
drive_at-system disks system n e = rw e refl

pub with_drive-own : (disks : Disks) (n : ℕ) (d new : Drive) → own_drive disks n ≡ Some d → with_drive disks n new ≡ record disks { drives = slice_set disks.drives n (Some new) }
unfolding with_drive
with_drive-own disks n d new e = rw e refl

pub with_drive-system : (disks : Disks) (n : ℕ) (new : Drive) → own_drive disks n ≡ None → with_drive disks n new ≡ record disks { system = new.marks }
unfolding with_drive
with_drive-system disks n new e = rw e refl

-- a drive that is used
pub used-own : (disks : Disks) (system : Disk) (n : ℕ) (d : Drive) → own_drive disks n ≡ Some d → drive_in_use disks system n ≡ record disks { drives = slice_set disks.drives n (Some (ready d)) }
unfolding drive_in_use
used-own disks system n d e = rw (drive_at-own disks system n d e) (with_drive-own disks n d (ready d) e)

pub used-system : (disks : Disks) (system : Disk) (n : ℕ) → own_drive disks n ≡ None → drive_in_use disks system n ≡ record disks { system = (ready (system_drive disks system)).marks }
unfolding drive_in_use
used-system disks system n e = rw (drive_at-system disks system n e) (with_drive-system disks n (ready (system_drive disks system)) e)

none_of : (o : Option Drive) → is_some o ≡ false → o ≡ None
none_of None h = refl
none_of (Some d) h = absurd (true_false h)

pub not_own : (disks : Disks) (n : ℕ) → is_some (own_drive disks n) ≡ false → own_drive disks n ≡ None
not_own disks n h = none_of (own_drive disks n) h

-- no drive at the index of an own one
pub is_own_and_none : (disks : Disks) (i n : ℕ) (o : Option Drive) → i ≡ n → i < length disks.drives → get_or disks.drives i o ≡ None → is_some (own_drive disks n) ≡ true → ⊥
is_own_and_none disks i n o e h is own =
    let none : own_drive disks n ≡ None = is_no_drive disks i n o e h is in
    true_false (sym own ∙ ap (λ (x : Option Drive). is_some x) none)

-- the drive at an index that is put back once it is used, and the marks of the system drive that are
pub own_used : (disks : Disks) (system : Disk) (i n : ℕ) (d new : Drive) → i ≡ n → own_drive disks n ≡ Some d → new ≡ ready d → record disks { drives = slice_set disks.drives i (Some new) } ≡ drive_in_use disks system n
own_used disks system i n d new e own is = rw (used-own disks system n d own, e, is) refl

pub system_used : (disks : Disks) (system : Disk) (n : ℕ) (marks : Marks) → own_drive disks n ≡ None → lent_drive system marks ≡ ready (system_drive disks system) → record disks { system = marks } ≡ drive_in_use disks system n
system_used disks system n marks own is =
    let e : marks ≡ (ready (system_drive disks system)).marks = ap (λ (d : Drive). d.marks) is in
    rw (used-system disks system n own, e) refl

pub own_protected : (disks : Disks) (system : Disk) (i : ℕ) (d : Drive) → i ≡ disks.current → own_drive disks disks.current ≡ Some d → record disks { drives = slice_set disks.drives i (Some (record d { marks = record d.marks { is_protected = true } })) } ≡ protect disks system
unfolding protect
own_protected disks system i d e own =
    rw (e, drive_at-own disks system disks.current d own, with_drive-own disks disks.current d (record d { marks = record d.marks { is_protected = true } }) own) refl

pub system_protected : (disks : Disks) (system : Disk) → own_drive disks disks.current ≡ None → record disks { system = record disks.system { is_protected = true } } ≡ protect disks system
unfolding protect system_drive
system_protected disks system none =
    rw (drive_at-system disks system disks.current none, with_drive-system disks disks.current (system_drive disks system) none) refl

pub own_at : (disks : Disks) (i n : ℕ) (o : Option Drive) → i ≡ n → i < length disks.drives → own_drive disks n ≡ get_or disks.drives i o
unfolding own_drive
own_at disks i n o e h = rw (← e) (get_or_default disks.drives i None o h)

pub own_is_some : (disks : Disks) (i n : ℕ) (o : Option Drive) → i ≡ n → i < length disks.drives → is_some (own_drive disks n) ≡ true → is_some (get_or disks.drives i o) ≡ true
own_is_some disks i n o e h own = rw (own_at disks i n o e h) at own

-- a drive that is used is the one that is there then
none_some : (d : Drive) → None ≡ Some d → ⊥
none_some d h = cc

own_within : (disks : Disks) (n : ℕ) (d : Drive) → own_drive disks n ≡ Some d → n < length disks.drives
unfolding own_drive
own_within disks n d own =
    elim (cases_lt n (length disks.drives)) [ inl below ↦ below | inr past ↦ absurd (none_some d (sym (get_or_past disks.drives n None past) ∙ own)) ]

own_put : (disks : Disks) (n : ℕ) (d new : Drive) → own_drive disks n ≡ Some d → own_drive (record disks { drives = slice_set disks.drives n (Some new) }) n ≡ Some new
unfolding own_drive
own_put disks n d new own = get_or-set_same disks.drives n (Some new) None (own_within disks n d own)

system_put : (disks : Disks) (n : ℕ) (marks : Marks) → own_drive (record disks { system = marks }) n ≡ own_drive disks n
unfolding own_drive
system_put disks n marks = refl

protected_by : (image : Disk) (marks : Marks) (logged : Bool) → marks.is_logged_in ≡ logged → lent_drive image (record (ready (lent_drive image (record marks { is_protected = true }))).marks { is_protected = true }) ≡ ready (lent_drive image (record marks { is_protected = true }))
protected_by image marks true h = rw h refl
protected_by image marks false h = rw h refl

ready_is_protected_by : (image : Disk) (marks : Marks) (logged : Bool) → marks.is_logged_in ≡ logged → (ready (lent_drive image (record marks { is_protected = true }))).marks.is_protected ≡ true
ready_is_protected_by image marks true h = rw h refl
ready_is_protected_by image marks false h = rw h refl

ready_is_protected : (image : Disk) (marks : Marks) → (ready (lent_drive image (record marks { is_protected = true }))).marks.is_protected ≡ true
ready_is_protected image marks = ready_is_protected_by image marks marks.is_logged_in refl

lent_protected : (image : Disk) (marks : Marks) → marks.is_protected ≡ true → lent_drive image (record marks { is_protected = true }) ≡ lent_drive image marks
lent_protected image marks h = ap (λ b. lent_drive image (record marks { is_protected = b })) (sym h)

ready_protected : (image : Disk) (marks : Marks) → lent_drive image (record (ready (lent_drive image (record marks { is_protected = true }))).marks { is_protected = true }) ≡ ready (lent_drive image (record marks { is_protected = true }))
ready_protected image marks = protected_by image marks marks.is_logged_in refl

used_at_by : (disks : Disks) (system : Disk) (n : ℕ) (o : Option Drive) → own_drive disks n ≡ o → drive_at (drive_in_use disks system n) system n ≡ ready (drive_at disks system n)
unfolding system_drive
used_at_by disks system n None none =
    let own : own_drive (drive_in_use disks system n) n ≡ None = ap (λ ds. own_drive ds n) (used-system disks system n none) ∙ (system_put disks n _ ∙ none) in
    drive_at-system (drive_in_use disks system n) system n own ∙ (ap (λ ds. system_drive ds system) (used-system disks system n none) ∙ (ready_protected system disks.system ∙ ap ready (sym (drive_at-system disks system n none))))
used_at_by disks system n (Some d) own =
    let put : own_drive (drive_in_use disks system n) n ≡ Some (ready d) = ap (λ ds. own_drive ds n) (used-own disks system n d own) ∙ own_put disks n d (ready d) own in
    drive_at-own (drive_in_use disks system n) system n (ready d) put ∙ ap ready (sym (drive_at-own disks system n d own))

used_with_by : (disks : Disks) (system : Disk) (n : ℕ) (new : Drive) (o : Option Drive) → own_drive disks n ≡ o → with_drive (drive_in_use disks system n) n new ≡ with_drive disks n new
used_with_by disks system n new None none =
    let own : own_drive (drive_in_use disks system n) n ≡ None = ap (λ ds. own_drive ds n) (used-system disks system n none) ∙ (system_put disks n _ ∙ none) in
    with_drive-system (drive_in_use disks system n) n new own ∙ (ap (λ (ds : Disks). record ds { system = new.marks }) (used-system disks system n none) ∙ sym (with_drive-system disks n new none))
used_with_by disks system n new (Some d) own =
    let put : own_drive (drive_in_use disks system n) n ≡ Some (ready d) = ap (λ ds. own_drive ds n) (used-own disks system n d own) ∙ own_put disks n d (ready d) own in
    with_drive-own (drive_in_use disks system n) n (ready d) new put ∙ (ap (λ (ds : Disks). record ds { drives = slice_set ds.drives n (Some new) }) (used-own disks system n d own) ∙ (ap (λ xs. record disks { drives = xs }) (set-set disks.drives n (Some (ready d)) (Some new)) ∙ sym (with_drive-own disks n d new own)))

pub used_at : (disks : Disks) (system : Disk) (n : ℕ) → drive_at (drive_in_use disks system n) system n ≡ ready (drive_at disks system n)
used_at disks system n = used_at_by disks system n (own_drive disks n) refl

pub used_with : (disks : Disks) (system : Disk) (n : ℕ) (new : Drive) → with_drive (drive_in_use disks system n) n new ≡ with_drive disks n new
used_with disks system n new = used_with_by disks system n new (own_drive disks n) refl

-- the system drive once it is used is protected
used_protected_by : (disks now : Disks) (system : Disk) (n : ℕ) → now ≡ drive_in_use disks system n → own_drive now n ≡ None → (o : Option Drive) → own_drive disks n ≡ o → drive_at now system n ≡ lent_drive system now.system
unfolding system_drive
used_protected_by disks now system n e none None was =
    let marks : now.system ≡ (ready (system_drive disks system)).marks = ap (λ (ds : Disks). ds.system) (e ∙ used-system disks system n was) in
    let same : (ready (system_drive disks system)).marks.is_protected ≡ true = ready_is_protected system disks.system in
    let is : now.system.is_protected ≡ true = ap (λ (m : Marks). m.is_protected) marks ∙ same in
    drive_at-system now system n none ∙ lent_protected system now.system is
used_protected_by disks now system n e none (Some d) was =
    let put : own_drive now n ≡ Some (ready d) = ap (λ ds. own_drive ds n) (e ∙ used-own disks system n d was) ∙ own_put disks n d (ready d) was in
    absurd (none_some (ready d) (sym none ∙ put))

pub used_protected : (disks now : Disks) (system : Disk) (n : ℕ) → now ≡ drive_in_use disks system n → own_drive now n ≡ None → drive_at now system n ≡ lent_drive system now.system
used_protected disks now system n e none = used_protected_by disks now system n e none (own_drive disks n) refl

pub system_is_protected : (disks now : Disks) (system : Disk) (n : ℕ) → now ≡ drive_in_use disks system n → is_some (own_drive now n) ≡ false → now.system.is_protected ≡ true
unfolding system_drive
system_is_protected disks now system n e other =
    let none = not_own now n other in
    ap (λ (m : Marks). m.is_protected) (ap (λ (d : Drive). d.marks) (sym (used_protected disks now system n e none) ∙ drive_at-system now system n none))

-- putting back what is there changes nothing
with_same_by : (disks now : Disks) (system : Disk) (n : ℕ) → now ≡ drive_in_use disks system n → (o : Option Drive) → own_drive now n ≡ o → with_drive now n (drive_at now system n) ≡ now
unfolding own_drive
with_same_by disks now system n e None none =
    with_drive-system now n (drive_at now system n) none ∙ ap (λ (d : Drive). record now { system = d.marks }) (used_protected disks now system n e none)
with_same_by disks now system n e (Some d) own =
    ap (with_drive now n) (drive_at-own now system n d own) ∙ (with_drive-own now n d d own ∙ ap (λ xs. record now { drives = xs }) (ap (λ (o : Option Drive). slice_set now.drives n o) (sym own) ∙ set-get_or now.drives n None))

pub with_same : (disks now : Disks) (system : Disk) (n : ℕ) → now ≡ drive_in_use disks system n → with_drive now n (drive_at now system n) ≡ now
with_same disks now system n e = with_same_by disks now system n e (own_drive now n) refl

-- a use leaves the user
used_user_by : (disks : Disks) (system : Disk) (n : ℕ) (o : Option Drive) → own_drive disks n ≡ o → (drive_in_use disks system n).user ≡ disks.user
used_user_by disks system n None none = ap (λ (ds : Disks). ds.user) (used-system disks system n none)
used_user_by disks system n (Some d) own = ap (λ (ds : Disks). ds.user) (used-own disks system n d own)

pub used_user : (disks now : Disks) (system : Disk) (n : ℕ) → now ≡ drive_in_use disks system n → now.user ≡ disks.user
used_user disks now system n e = ap (λ (ds : Disks). ds.user) e ∙ used_user_by disks system n (own_drive disks n) refl

ready_image_by : (d : Drive) (logged : Bool) → d.marks.is_logged_in ≡ logged → (ready d).image ≡ d.image
ready_image_by d true h = rw h refl
ready_image_by d false h = rw h refl

pub ready_image : (d : Drive) → (ready d).image ≡ d.image
ready_image d = ready_image_by d d.marks.is_logged_in refl

-- a drive with the marks that it has now
pub marked-own : (disks : Disks) (system : Disk) (n : ℕ) (d : Drive) → own_drive disks n ≡ Some d → marked_drive disks system n ≡ d
unfolding marked_drive
marked-own disks system n d e = rw e refl

pub marked-system : (disks : Disks) (system : Disk) (n : ℕ) → own_drive disks n ≡ None → marked_drive disks system n ≡ lent_drive system disks.system
unfolding marked_drive
marked-system disks system n e = rw e refl
