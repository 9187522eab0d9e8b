-- Calls on drives.
use Rattle.std.proofs.Common.{◌≡◌, ◌+◌, ◌*◌, ◌<◌, length, if◌then◌else◌, is_some, unwrap_or, get_or, true, false, ℕ, List, Option, Some, Result, Ok, Err, slice_set, refl, sym, ap, ◌∙◌}
use Rattle.cpm_geom.specs.Disk.{Disk}
use Rattle.cpm_volume.specs.declared.fcb.Fcb.{Fcb}
use Rattle.cpm_volume.specs.declared.answer.Fault.{Fault}
use Rattle.cpm_volume.specs.declared.answer.Fault.TheVariants.{Select, ReadOnly}
use Rattle.cpm_volume.specs.Names.{is_read_only, NameOutcome, none_named, file_read_only, named}
use Rattle.cpm_volume.specs.Names as names
use Rattle.cpm_volume.specs.Operations.{Close, refused, close_fault, closed, with_entry}
use Rattle.cpm_volume.specs.Operations as operations
use Rattle.cpm_geom.specs.Geometry.{dpb_of}
use Rattle.cpm_volume.specs.Files.{extent_number}
use Rattle.cpm_directory.specs.Directory.{entries_of}
use Rattle.cpm_drive.specs.declared.drive.Drive.{Drive}
use Rattle.cpm_drive.specs.declared.drive.Marks.{Marks}
use Rattle.cpm_drive.specs.Calls.{after_open, open_index, close_answer, drive_closed, after_close}
use Rattle.cpm_drive.specs.Drive.{volume_of, drive_after}
use Rattle.cpm_drive.specs.Named.{after_named}
use Rattle.cpm_drive.specs.Reads.{lent_drive}
use Rattle.cpm_drives.specs.Calls.{OnDrive, on_drive, file_call, drive_named, on_named_drive, code_or_none, code_or_fault, unless_protected, unless_read_only, RefusesProtected, IsNamed}
use Rattle.cpm_drives.specs.declared.disks.Disks.{Disks}
use Rattle.cpm_drives.specs.Disks.{own_drive, is_there, drive_at, with_drive}
use Rattle.cpm_drives.specs.Selecting.{ready}
use Rattle.cpm_drives.proofs.DriveLemmas.{is_own_drive, not_own, system_is_protected, drive_at-own, with_drive-own, with_drive-system, used_at, used_with, used_protected, used_user, with_same}
use Rattle.cpm_drives.specs.Files.{open_file, open_file_on, by_open, compute_size, compute_size_on, set_random_record, set_random_record_on, with_random, by_named, by_close, unless_past}

-- a call on all entries of a name
named_as : (drive : Drive) (fcb : Fcb) (buffer : List ℕ) (n : NameOutcome) → on_drive (code_or_fault (after_named drive n).0) (after_named drive n).1 fcb buffer ≡ by_named drive fcb buffer n
unfolding after_named
named_as drive fcb buffer none_named = refl
named_as drive fcb buffer file_read_only = refl
named_as drive fcb buffer (named first volume) = refl

pub named_call : (drive new : Drive) (fcb : Fcb) (buffer : List ℕ) (n : NameOutcome) (r : Result (Option ℕ) Fault) → ◌≡◌ {A = Result (Option ℕ) Fault × Drive} (r, new) (after_named drive n) → on_drive (code_or_fault r) new fcb buffer ≡ by_named drive fcb buffer n
named_call drive new fcb buffer n r e =
    ap (λ (p : Result (Option ℕ) Fault × Drive). on_drive (code_or_fault p.0) p.1 fcb buffer) e ∙ named_as drive fcb buffer n

-- a close leaves a protected drive as it was
closed_protected : (image : Disk) (marks : Marks) (c : Close) → marks.is_protected ≡ true → drive_closed (lent_drive image marks) c ≡ lent_drive image marks
unfolding drive_closed drive_after with_entry volume_of
closed_protected image marks refused h = refl
closed_protected image marks (close_fault which) h = refl
closed_protected image marks (closed index entries extent) h = rw h refl

pub lent_close : (image : Disk) (marks : Marks) (fcb : Fcb) (buffer : List ℕ) (c : Close) (r : Result (Option ℕ) Fault) (new : Fcb) → marks.is_protected ≡ true → ◌≡◌ {A = Result (Option ℕ) Fault × Fcb} (r, new) (close_answer fcb c) → on_drive (code_or_fault r) (lent_drive image marks) new buffer ≡ by_close buffer (after_close (lent_drive image marks) fcb c)
unfolding after_close
lent_close image marks fcb buffer c r new h e =
    ap (λ (p : Result (Option ℕ) Fault × Fcb). on_drive (code_or_fault p.0) (lent_drive image marks) p.1 buffer) e ∙ ap (λ (d : Drive). on_drive (code_or_fault (close_answer fcb c).0) d (close_answer fcb c).1 buffer) (sym (closed_protected image marks c h))

-- a call that nothing refuses
pub allowed : (drive : Drive) (fcb : Fcb) (buffer : List ℕ) (call : OnDrive) → drive.marks.is_protected ≡ false → call ≡ unless_protected drive fcb buffer call
allowed drive fcb buffer call h = rw h refl

pub written : (drive : Drive) (fcb : Fcb) (buffer : List ℕ) (call : OnDrive) → (drive.marks.is_protected ≡ false) × (is_read_only fcb.extent.name ≡ false) → call ≡ unless_protected drive fcb buffer (unless_read_only drive fcb buffer call)
written drive fcb buffer call h = rw (h.0, h.1) refl

pub within : (drive : Drive) (fcb : Fcb) (buffer : List ℕ) (call : OnDrive) → get_or fcb.random_record 2 0 ≡ 0 → call ≡ unless_past drive fcb buffer call
within drive fcb buffer call h = rw h refl

-- there is no such drive
pub no_drive : (call : Drive → OnDrive) (disks now : Disks) (system : Disk) (fcb : Fcb) (buffer : List ℕ) (e : Fault) → (e ≡ Select) × (is_there disks (drive_named disks fcb.drive) ≡ false) × (now ≡ disks) → file_call (Err e) now fcb buffer ≡ on_named_drive call disks system fcb buffer
unfolding on_named_drive
no_drive call disks now system fcb buffer e h = rw (h.0, h.1, h.2) refl

-- a call on the drive once it is used
on_used : (call : Drive → OnDrive) (disks now : Disks) (system : Disk) (fcb : Fcb) (buffer : List ℕ) (n : ℕ) → IsNamed disks now system fcb n → on_named_drive call disks system fcb buffer ≡ file_call (call (drive_at now system n)).answer (with_drive now n (call (drive_at now system n)).drive) (call (drive_at now system n)).fcb (call (drive_at now system n)).buffer
unfolding on_named_drive
on_used call disks now system fcb buffer n h =
    let there : is_there disks (drive_named disks fcb.drive) ≡ true = rw h.0 at h.1 in
    let at : drive_at now system n ≡ ready (drive_at disks system n) = ap (λ ds. drive_at ds system n) h.2 ∙ used_at disks system n in
    let same : with_drive now n (call (ready (drive_at disks system n))).drive ≡ with_drive disks n (call (ready (drive_at disks system n))).drive = ap (λ ds. with_drive ds n (call (ready (drive_at disks system n))).drive) h.2 ∙ used_with disks system n (call (ready (drive_at disks system n))).drive in
    rw (at, same, there, h.0) refl

pub own_call : (call : ℕ → Drive → OnDrive) (disks now : Disks) (system : Disk) (fcb : Fcb) (buffer : List ℕ) (n i : ℕ) (at : Option Drive) (d : Drive) (o : OnDrive) → IsNamed disks now system fcb n → i ≡ n → i < length now.drives → get_or now.drives i at ≡ Some d → o ≡ call now.user d → file_call o.answer (record now { drives = slice_set now.drives i (Some o.drive) }) o.fcb o.buffer ≡ on_named_drive (call disks.user) disks system fcb buffer
own_call call disks now system fcb buffer n i at d o h e below there is =
    let own = is_own_drive now i n d at e below there in
    let done = on_used (call disks.user) disks now system fcb buffer n h in
    let by_user = is ∙ ap (λ u. call u d) (used_user disks now system n h.2) in
    rw (by_user, e, done, drive_at-own now system n d own, with_drive-own now n d (call disks.user d).drive own) refl

-- on the system drive, which stays as it is
pub system_call : (call : ℕ → Drive → OnDrive) (disks now : Disks) (system : Disk) (fcb : Fcb) (buffer : List ℕ) (n : ℕ) (o : OnDrive) → IsNamed disks now system fcb n → is_some (own_drive now n) ≡ false → o ≡ call now.user (lent_drive system now.system) → o.drive ≡ lent_drive system now.system → file_call o.answer now o.fcb o.buffer ≡ on_named_drive (call disks.user) disks system fcb buffer
system_call call disks now system fcb buffer n o h other is stays =
    let none = not_own now n other in
    let by_user = is ∙ ap (λ u. call u (lent_drive system now.system)) (used_user disks now system n h.2) in
    let done = on_used (call disks.user) disks now system fcb buffer n h in
    let at = used_protected disks now system n h.2 none in
    let marks : (call disks.user (lent_drive system now.system)).drive.marks ≡ now.system = ap (λ (d : Drive). d.marks) (rw by_user at stays) in
    rw (by_user, done, at, with_drive-system now n (call disks.user (lent_drive system now.system)).drive none, marks) refl

pub refused_call : (call : Drive → OnDrive) (disks now : Disks) (system : Disk) (fcb : Fcb) (buffer : List ℕ) (n : ℕ) → IsNamed disks now system fcb n → is_some (own_drive now n) ≡ false → RefusesProtected call fcb buffer → file_call (Err ReadOnly) now fcb buffer ≡ on_named_drive call disks system fcb buffer
refused_call call disks now system fcb buffer n h other refuses =
    let o = on_drive (Err ReadOnly) (lent_drive system now.system) fcb buffer in
    system_call (λ user. call) disks now system fcb buffer n o h other (refuses (lent_drive system now.system) (system_is_protected disks now system n h.2 other)) refl

-- a call that leaves the drive as it is
pub stay_call : (call : Drive → OnDrive) (disks now : Disks) (system : Disk) (fcb : Fcb) (buffer : List ℕ) (n : ℕ) (o : OnDrive) → IsNamed disks now system fcb n → o ≡ call (drive_at now system n) → o.drive ≡ drive_at now system n → file_call o.answer now o.fcb o.buffer ≡ on_named_drive call disks system fcb buffer
stay_call call disks now system fcb buffer n o h is stays =
    let done = on_used call disks now system fcb buffer n h in
    let same : (call (drive_at now system n)).drive ≡ drive_at now system n = rw is at stays in
    rw (is, done, same, with_same disks now system n h.2) refl

pub open_call : (disks now : Disks) (system image : Disk) (fcb new : Fcb) (buffer : List ℕ) (n : ℕ) (r : Option ℕ) → IsNamed disks now system fcb n → image ≡ (drive_at now system n).image → ◌≡◌ {A = Option ℕ × Fcb} (r, new) (after_open fcb (open_index (dpb_of image.format) (entries_of image) now.user fcb.extent) (operations.open_file_on_volume (dpb_of image.format) (entries_of image) now.user fcb.extent)) → file_call (code_or_none r) now new buffer ≡ open_file disks system fcb buffer
unfolding open_file open_file_on
open_call disks now system image fcb new buffer n r h is done =
    let user = used_user disks now system n h.2 in
    let o : OnDrive = on_drive (code_or_none r) (drive_at now system n) new buffer in
    stay_call (open_file_on disks.user fcb buffer) disks now system fcb buffer n o h (ap (λ (p : Option ℕ × Fcb). by_open (drive_at now system n) buffer p) done ∙ (ap (λ (im : Disk). by_open (drive_at now system n) buffer (after_open fcb (open_index (dpb_of im.format) (entries_of im) now.user fcb.extent) (operations.open_file_on_volume (dpb_of im.format) (entries_of im) now.user fcb.extent))) is ∙ ap (λ u. open_file_on u fcb buffer (drive_at now system n)) user)) refl

pub size_call : (disks now : Disks) (system image : Disk) (fcb : Fcb) (buffer : List ℕ) (n : ℕ) (r : Option ℕ) → IsNamed disks now system fcb n → image ≡ (drive_at now system n).image → r ≡ names.compute_size_on_volume (entries_of image) now.user fcb.extent.name → file_call (Ok (if is_some r then 0 else 255)) now (with_random fcb (unwrap_or r 0)) buffer ≡ compute_size disks system fcb buffer
unfolding compute_size compute_size_on
size_call disks now system image fcb buffer n r h is done =
    let user = used_user disks now system n h.2 in
    let size : r ≡ names.compute_size_on_volume (entries_of (drive_at now system n).image) disks.user fcb.extent.name = done ∙ (ap (λ (im : Disk). names.compute_size_on_volume (entries_of im) now.user fcb.extent.name) is ∙ ap (λ u. names.compute_size_on_volume (entries_of (drive_at now system n).image) u fcb.extent.name) user) in
    let o : OnDrive = on_drive (Ok (if is_some r then 0 else 255)) (drive_at now system n) (with_random fcb (unwrap_or r 0)) buffer in
    stay_call (compute_size_on disks.user fcb buffer) disks now system fcb buffer n o h (rw size refl) refl

pub position_call : (disks now : Disks) (system : Disk) (fcb : Fcb) (buffer : List ℕ) (n : ℕ) → IsNamed disks now system fcb n → file_call (Ok 0) now (with_random fcb (128 * extent_number fcb.extent + fcb.current_record)) buffer ≡ set_random_record disks system fcb buffer
unfolding set_random_record set_random_record_on
position_call disks now system fcb buffer n h =
    let o : OnDrive = on_drive (Ok 0) (drive_at now system n) (with_random fcb (128 * extent_number fcb.extent + fcb.current_record)) buffer in
    stay_call (set_random_record_on fcb buffer) disks now system fcb buffer n o h refl refl
