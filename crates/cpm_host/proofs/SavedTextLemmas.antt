-- What is told of a saved machine is what its parts are.
use Rattle.std.proofs.Common.{◌≡◌, ◌∙◌, ◌++◌, ◌∷◌, [], ℕ, List, Option, Some, None, Err, Ok, OnOk, Result, ap, append_assoc, arith, codes, decimal, get_or, length, refl, subst, sym}
use Rattle.std.proofs.KnownBytes.{Appends-kept, Appends-nil, Appends-trans}
use Rattle.std.specs.Io.KnownBytes.{Appends, Keeps}
use Rattle.std.specs.List.{concat}
use Rattle.cpm_directory.specs.Directory.{entries_of}
use Rattle.cpm_directory.specs.WellFormed.{IsChecked}
use Rattle.cpm_directory.specs.declared.fault.DriveFault.{DriveFault}
use Rattle.cpm_disk_commands.specs.Listing.{IsListTold, list_text}
use Rattle.cpm_disk_commands.specs.declared.damage.Damage.{Damage}
use Rattle.cpm_disk_commands.specs.declared.error.DiskCommandError.{DiskCommandError}
use Rattle.cpm_disk_commands.specs.declared.error.DiskCommandError.TheVariants.{Damaged}
use Rattle.cpm_drives.specs.Disks.{images_of}
use Rattle.cpm_geom.specs.Disk.{Disk}
use Rattle.cpm_geom.specs.Geometry.{dpb_of}
use Rattle.cpm_geom.specs.declared.format.Format.{Format}
use Rattle.cpm_image_files.specs.Listing.{IsListed}
use Rattle.cpm_image_files.specs.declared.listing.DiskListing.{DiskListing}
use Rattle.cpm_machine.specs.declared.reply.Look.{Look}
use Rattle.std.proofs.lemmas.Grind.{common_steps}
use Rattle.cpm_listing.specs.Registers.{regs_line}
use Rattle.cpm_machine.specs.Saving.{Saving}
use Rattle.cpm_machine.specs.Serve.{look_of}
use Rattle.cpm_memory.specs.Contents.{touched_of}
use Rattle.cpm_run.specs.Ending.{end_word}
use Rattle.hex.specs.Hex.{encode_lower}
use Rattle.cpm_host.specs.declared.error.HostError.{HostError}
use Rattle.cpm_host.specs.SavedText.{AreDrivesTold, HasAppended, IsDriveTold, IsDriveToldIfAny, IsSavedTold, drive_line, head_text, machine_text, processor_word, program_words, waiting_words}
use Rattle.cpm_host.specs.SavedText.IsDriveTold.{Listed, Unlisted}

-- the parts of the text, joined as they are written
abbrev pub joined : (cpu program ended waits registers : List ℕ) (pages quota : ℕ) (digest : List ℕ) → List ℕ
joined cpu program ended waits registers pages quota digest =
    codes "format 1\n"
    ++ ((cpu ++ (program ++ (codes ", " ++ (ended ++ (waits ++ (codes "\n" ++ (registers ++ (codes "\n" ++ (decimal pages ++ (codes " of " ++ decimal quota))))))))))
    ++ (codes " pages are written\nsystem drive " ++ (digest ++ codes "\n")))

-- joined as they are told
abbrev regrouped : (cpu program ended waits registers pages quota digest : List ℕ) → List ℕ
regrouped cpu program ended waits registers pages quota digest =
    codes "format 1\n" ++ cpu ++ program ++ codes ", " ++ ended ++ waits ++ codes "\n" ++ registers ++ codes "\n" ++ pages ++ codes " of " ++ quota
    ++ codes " pages are written\n" ++ codes "system drive " ++ digest ++ codes "\n"

regroup : (cpu program ended waits registers pages quota digest : List ℕ) →
    codes "format 1\n" ++ ((cpu ++ (program ++ (codes ", " ++ (ended ++ (waits ++ (codes "\n" ++ (registers ++ (codes "\n" ++ (pages ++ (codes " of " ++ quota))))))))))
    ++ (codes " pages are written\nsystem drive " ++ (digest ++ codes "\n"))) ≡ regrouped cpu program ended waits registers pages quota digest
regroup cpu program ended waits registers pages quota digest = simp append_assoc

pub text_joined : (x : Saving) (look : Look) (cpu program ended waits registers : List ℕ) (pages quota : ℕ) (digest : List ℕ) → look ≡ look_of x.state → cpu ≡ processor_word x.state.cpu →
    program ≡ program_words x.state.with_program → ended ≡ end_word look.ended → waits ≡ waiting_words look.waiting → registers ≡ regs_line x.state.cpu look.regs look.count →
    pages ≡ look.pages → quota ≡ x.state.quota → digest ≡ encode_lower x.system_digest → joined cpu program ended waits registers pages quota digest ≡ head_text x
unfolding look_of touched_of
text_joined x look cpu program ended waits registers pages quota digest is_look is_cpu is_program is_ended is_waits is_registers is_pages is_quota is_digest =
    let e = is_ended ∙ ap (λ (l : Look). end_word l.ended) is_look in
    let w = is_waits ∙ ap (λ (l : Look). waiting_words l.waiting) is_look in
    let r = is_registers ∙ ap (λ (l : Look). regs_line x.state.cpu l.regs l.count) is_look in
    let p = is_pages ∙ ap (λ (l : Look). l.pages) is_look in
    (λ i. joined (is_cpu i) (is_program i) (e i) (w i) (r i) (p i) (is_quota i) (is_digest i))
    ∙ regroup (processor_word x.state.cpu) (program_words x.state.with_program) (end_word x.state.ended) (waiting_words (look_of x.state).waiting)
    (regs_line x.state.cpu x.state.session.regs x.state.count) (decimal (touched_of x.state.memory)) (decimal x.state.quota) (encode_lower x.system_digest)

-- ---- a drive

-- its line is joined from these
line_regrouped : (letter count : List ℕ) → letter ++ (codes ": " ++ (count ++ codes " bytes\n")) ≡ letter ++ codes ": " ++ count ++ codes " bytes\n"
line_regrouped letter count = grind (arith, common_steps)

pub line_joined : (letter line bytes : List ℕ) (disk : Disk) → line ≡ letter ++ (codes ": " ++ (decimal (length bytes) ++ codes " bytes\n")) → bytes ≡ concat disk.sectors → line ≡ drive_line letter disk
line_joined letter line bytes disk is from =
    is ∙ line_regrouped letter (decimal (length bytes)) ∙ ap (λ (bs : List ℕ). letter ++ codes ": " ++ decimal (length bs) ++ codes " bytes\n") from

-- its line was written and then more
told_if_any : (letter : List ℕ) (drive : Option Disk) (disk : Disk) (before after : Option (List ℕ)) → drive ≡ Some disk → HasAppended before after (IsDriveTold letter disk) →
    HasAppended before after (IsDriveToldIfAny letter drive)
told_if_any letter drive disk before after there told = subst (λ (d : Option Disk). HasAppended before after (IsDriveToldIfAny letter d)) (sym there) told

pub drive_listed : (letter line : List ℕ) (drive : Option Disk) (disk : Disk) (format : Format) (listing : DiskListing) (before middle after : Option (List ℕ)) → drive ≡ Some disk →
    IsListed disk listing → format ≡ disk.format → line ≡ drive_line letter disk → Appends before middle line → Appends middle after (list_text format None listing) →
    HasAppended before after (IsDriveToldIfAny letter drive)
drive_listed letter line drive disk format listing before middle after there listed of_disk is_line first second =
    let files = subst (λ (f : Format). Appends middle after (list_text f None listing)) of_disk second in
    let lined = subst (λ (xs : List ℕ). Appends before middle xs) is_line first in
    told_if_any letter drive disk before after there (drive_line letter disk ++ list_text disk.format None listing, Appends-trans before middle after _ _ lined files, Listed listing listed refl)

pub drive_unlisted : (letter line : List ℕ) (drive : Option Disk) (disk : Disk) (fault : DriveFault) (before middle after : Option (List ℕ)) → drive ≡ Some disk →
    IsChecked (dpb_of disk.format) (entries_of disk) (Err fault) → line ≡ drive_line letter disk → Appends before middle line → Appends middle after (codes "its directory is damaged\n") →
    HasAppended before after (IsDriveToldIfAny letter drive)
drive_unlisted letter line drive disk fault before middle after there checked is_line first second =
    let lined = subst (λ (xs : List ℕ). Appends before middle xs) is_line first in
    told_if_any letter drive disk before after there (drive_line letter disk ++ codes "its directory is damaged\n", Appends-trans before middle after _ _ lined second, Unlisted fault checked refl)

-- a call of which something else follows where it succeeds
pub on_ok : (r : Result (Unit {0}) HostError) (P Q : Type 0) → (P → Q) → OnOk r P → OnOk r Q
on_ok (Ok x) P Q follows holds = follows holds
on_ok (Err e) P Q follows holds = tt

-- the fault of a damaged directory
pub fault_told : (disk : Disk) (image : List ℕ) (e : DiskCommandError) (shown : _) (damage : Damage) → e ≡ Damaged shown damage → IsListTold disk image e →
    IsChecked (dpb_of disk.format) (entries_of disk) (Err damage.fault)
fault_told disk image e shown damage is told = (subst (λ (e : DiskCommandError). IsListTold disk image e) is told).1

-- ---- all of it

-- a list of four
pub four_drives : (ds : List (Option Disk)) (a b c d : Option Disk) → length ds ≡ 4 → ds ≡ get_or ds 0 a ∷ get_or ds 1 b ∷ get_or ds 2 c ∷ get_or ds 3 d ∷ []
four_drives [] a b c d is = absurd (let bad : ⊥ = omega (arith, is) in bad)
four_drives (p ∷ []) a b c d is = absurd (let bad : ⊥ = omega (arith, is) in bad)
four_drives (p ∷ q ∷ []) a b c d is = absurd (let bad : ⊥ = omega (arith, is) in bad)
four_drives (p ∷ q ∷ r ∷ []) a b c d is = absurd (let bad : ⊥ = omega (arith, is) in bad)
four_drives (p ∷ q ∷ r ∷ s ∷ []) a b c d is = refl
four_drives (p ∷ q ∷ r ∷ s ∷ t ∷ ts) a b c d is = absurd (let bad : ⊥ = omega (arith, is) in bad)

pub drives_told : (a b c d : Option Disk) (s0 s1 s2 s3 s4 : Option (List ℕ)) → HasAppended s0 s1 (IsDriveToldIfAny (codes "A") a) → HasAppended s1 s2 (IsDriveToldIfAny (codes "B") b) →
    HasAppended s2 s3 (IsDriveToldIfAny (codes "C") c) → HasAppended s3 s4 (IsDriveToldIfAny (codes "D") d) → HasAppended s0 s4 (AreDrivesTold (a ∷ b ∷ c ∷ d ∷ []))
drives_told a b c d s0 s1 s2 s3 s4 first second third fourth =
    let last = fourth.0 ++ [] in
    let both = third.0 ++ last in
    let three = second.0 ++ both in (
      first.0 ++ three,
      Appends-trans s0 s1 s4 first.0 three first.1 (Appends-trans s1 s2 s4 second.0 both second.1 (Appends-trans s2 s3 s4 third.0 last third.1 (Appends-trans s3 s4 s4 fourth.0 [] fourth.1 (Appends-nil s4)))),
      (first.0, three, refl, first.2, (second.0, both, refl, second.2, (third.0, last, refl, third.2, (fourth.0, [], refl, fourth.2, refl)))),
    )

pub machine_told : (x : Saving) (bytes : List ℕ) (drives : List (Option Disk)) (before middle after : Option (List ℕ)) → bytes ≡ machine_text x → drives ≡ images_of x.state.session.disks →
    Appends before middle bytes → HasAppended middle after (AreDrivesTold drives) → HasAppended before after (IsSavedTold x)
machine_told x bytes drives before middle after is_text are_drives first rest =
    let lined = subst (λ (bs : List ℕ). Appends before middle bs) is_text first in
    let told = subst (λ (ds : List (Option Disk)). AreDrivesTold ds rest.0) are_drives rest.2 in
    (machine_text x ++ rest.0, Appends-trans before middle after _ _ lined rest.1, (rest.0, refl, told))

-- what a vector has got that was empty
pub told_text : (x : Saving) (got : List ℕ) → HasAppended (Some []) (Some got) (IsSavedTold x) → IsSavedTold x got
told_text x got told = subst (IsSavedTold x) (sym told.1) told.2

pub saved_told : (x : Saving) (text : List ℕ) (before written flushed : Option (List ℕ)) → IsSavedTold x text → Appends before written text → Keeps written flushed →
    HasAppended before flushed (IsSavedTold x)
saved_told x text before written flushed told wrote kept = (text, Appends-kept before written flushed text wrote kept, told)
