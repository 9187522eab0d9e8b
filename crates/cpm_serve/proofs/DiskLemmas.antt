-- Files on a drive that no session has.
use Rattle.std.proofs.Common.{◌≡◌, ◌∙◌, ◌<◌, ◌≤◌, ◌+◌, ◌||◌, ℕ, List, [], ◌∷◌, ◌++◌, length, map, drop, drop-cons, drop_of_length-le, get_or, add-one, append-nil, append_assoc, true, false, Option, Some, None, refl, sym, subst, ap}
use Rattle.std.specs.Prelude.{Result, Ok, Err, option_map}
use Rattle.std.specs.List.{concat, list_any}
use Rattle.std.specs.Str.{bytes_eq}
use Rattle.cpm_geom.specs.Disk.{Disk}
use Rattle.cpm_disk_commands.specs.Names.{with_marks}
use Rattle.cpm_disk_commands.specs.Refusals.{IsNotName}
use Rattle.cpm_disk_commands.specs.declared.error.DiskCommandError.{DiskCommandError}
use Rattle.cpm_disk_commands.specs.declared.error.DiskCommandError.TheVariants as told
use Rattle.cpm_image_files.specs.ImageFiles.{IsPut, IsPutRefusal, records_for}
use Rattle.cpm_image_files.specs.Listing.{IsListRefusal, IsListed}
use Rattle.cpm_image_files.specs.Taken.{IsGetRefusal, IsGot}
use Rattle.cpm_image_files.specs.declared.listing.DiskFile.{DiskFile}
use Rattle.cpm_image_files.specs.declared.listing.DiskListing.{DiskListing}
use Rattle.cpm_image_files.specs.declared.refusal.ImageFilesError.{ImageFilesError}
use Rattle.cpm_image_files.specs.declared.refusal.ImageFilesError.TheVariants as fault
use Rattle.cpm_slots.specs.Host.{Host}
use Rattle.cpm_store.specs.Laws.{has_name_among}
use Rattle.cpm_store.specs.Writes.{named_output}
use Rattle.cpm_store.specs.declared.writes.Output.{Output}
use Rattle.cpm_protocol.specs.Replies.{Answered, Refused}
use Rattle.cpm_protocol.specs.Requests.{Files, Get, Put}
use Rattle.cpm_protocol.specs.declared.word.WireRefusal.{WireRefusal}
use Rattle.cpm_protocol.specs.declared.word.WireRefusal.TheVariants as refusal
use Rattle.cpm_serve.specs.DriveFiles.{DiskWork, IsGetWork, IsListWork, IsPutWork, OfDisk, OfNamed, disk_file_name, disk_refusal, got_accesses, got_answer, name_line, name_lines, no_work, put_accesses, put_answer}
use Rattle.cpm_serve.specs.DriveFiles.{put_made, put_writes, stored_answer, text_made}
use Rattle.cpm_serve.specs.Drives.{disk_answered}
use Rattle.cpm_serve.specs.Folder.{AccessesLead, AreNoFolderWrites, FolderAccess, FolderAnswer, Released, hold_access, write_access}
use Rattle.cpm_serve.specs.Reading.{IsFileDisk, IsHeldDisk, work_answer}
use Rattle.cpm_serve.specs.ServedWith.{IsRequestServedWith}
use Rattle.cpm_serve.proofs.ServedLemmas.{same-outcome}

-- ---- a text that is no name

pub put-unnamed : {F : Type 0} (does : F → FolderAccess → F → Type 0) (h : Host) (drive name text : List ℕ) (a : Answered) (from : F) → disk_file_name name ≡ None → a ≡ Refused refusal.BadName →
    IsRequestServedWith (AccessesLead does from from) (Put drive name text) h h a
put-unnamed does h drive name text a from none is = record {
  lacked = false;
  answers = [];
  made = no_work;
  work = subst (λ (n : Option (List ℕ)). OfNamed (IsPutWork text) n (Err refusal.OutOfMemory) no_work) (sym none) tt;
  served = same-outcome refl (is ∙ ap (λ (n : Option (List ℕ)). put_answer (length text) n [] no_work) (sym none));
  leads = subst (λ (n : Option (List ℕ)). AccessesLead does from from (put_accesses drive n [] no_work)) (sym none) refl;
  unwritten = λ x. absurd cc;
}

pub get-unnamed : {F : Type 0} (does : F → FolderAccess → F → Type 0) (h : Host) (drive name : List ℕ) (a : Answered) (from : F) → disk_file_name name ≡ None → a ≡ Refused refusal.BadName →
    IsRequestServedWith (AccessesLead does from from) (Get drive name) h h a
get-unnamed does h drive name a from none is = record {
  lacked = false;
  answers = [];
  made = no_work;
  work = subst (λ (n : Option (List ℕ)). OfNamed IsGetWork n (Err refusal.OutOfMemory) no_work) (sym none) tt;
  served = same-outcome refl (is ∙ ap (λ (n : Option (List ℕ)). got_answer n [] no_work) (sym none));
  leads = subst (λ (n : Option (List ℕ)). AccessesLead does from from (got_accesses drive n [])) (sym none) refl;
  unwritten = λ x. absurd cc;
}

-- ---- a file that is put

-- for whose text there is no memory
pub put-lacked : {F : Type 0} (does : F → FolderAccess → F → Type 0) (h : Host) (drive name text n : List ℕ) (a : Answered) (from : F) → disk_file_name name ≡ Some n → a ≡ Refused refusal.OutOfMemory →
    IsRequestServedWith (AccessesLead does from from) (Put drive name text) h h a
put-lacked does h drive name text n a from at is = record {
  lacked = true;
  answers = [];
  made = no_work;
  work = subst (λ (o : Option (List ℕ)). OfNamed (IsPutWork text) o (Err refusal.OutOfMemory) no_work) (sym at) tt;
  served = same-outcome refl is;
  leads = subst (λ (o : Option (List ℕ)). AccessesLead does from from (put_accesses drive o [] no_work)) (sym at) refl;
  unwritten = λ x. subst (λ (o : Option (List ℕ)). AreNoFolderWrites (put_accesses drive o [] no_work)) (sym at) tt;
}

-- whose drive is not read
pub put-unread : {F : Type 0} (does : F → FolderAccess → F → Type 0) (h : Host) (drive name text n : List ℕ) (why : WireRefusal) (a : Answered) (from mid to : F) → disk_file_name name ≡ Some n →
    IsHeldDisk does drive from mid (Err why) → does mid Released to → a ≡ Refused why → IsRequestServedWith (AccessesLead does from to) (Put drive name text) h h a
put-unread does h drive name text n why a from mid to at k did is =
    let by = k.answer in
    record {
      lacked = false;
      answers = by ∷ [];
      made = no_work;
      work = subst (λ (o : Option (List ℕ)). OfNamed (IsPutWork text) o (disk_answered by) no_work) (sym at) (subst (λ (r : Result Disk WireRefusal). OfNamed (IsPutWork text) (Some n) r no_work) k.is tt);
      served = same-outcome refl (is ∙ ap (λ (r : Result Disk WireRefusal). put_made (length text) r no_work []) k.is ∙ ap (λ (o : Option (List ℕ)). put_answer (length text) o (by ∷ []) no_work) (sym at));
      leads = subst (λ (o : Option (List ℕ)). AccessesLead does from to (put_accesses drive o (by ∷ []) no_work)) (sym at)
          (subst (λ (r : Result Disk WireRefusal). AccessesLead does from to (hold_access drive by ∷ put_writes drive r no_work [])) k.is (mid, k.did, (to, did, refl)));
      unwritten = λ x. absurd cc;
    }

-- which is not put
pub put-refused : {F : Type 0} (does : F → FolderAccess → F → Type 0) (h : Host) (drive name text n : List ℕ) (disk : Disk) (why : WireRefusal) (a : Answered) (from mid to : F) → disk_file_name name ≡ Some n →
    IsHeldDisk does drive from mid (Ok disk) → IsPutWork text disk n (Err why) → does mid Released to → a ≡ Refused why → IsRequestServedWith (AccessesLead does from to) (Put drive name text) h h a
put-refused does h drive name text n disk why a from mid to at k work did is =
    let by = k.answer in
    let made : DiskWork = Err why in
    record {
      lacked = false;
      answers = by ∷ [];
      made = made;
      work = subst (λ (o : Option (List ℕ)). OfNamed (IsPutWork text) o (disk_answered by) made) (sym at) (subst (λ (r : Result Disk WireRefusal). OfNamed (IsPutWork text) (Some n) r made) k.is work);
      served = same-outcome refl (is ∙ ap (λ (r : Result Disk WireRefusal). put_made (length text) r made []) k.is ∙ ap (λ (o : Option (List ℕ)). put_answer (length text) o (by ∷ []) made) (sym at));
      leads = subst (λ (o : Option (List ℕ)). AccessesLead does from to (put_accesses drive o (by ∷ []) made)) (sym at)
          (subst (λ (r : Result Disk WireRefusal). AccessesLead does from to (hold_access drive by ∷ put_writes drive r made [])) k.is (mid, k.did, (to, did, refl)));
      unwritten = λ x. absurd cc;
    }

-- which is put, and the image written or not
pub put-done : {F : Type 0} (does : F → FolderAccess → F → Type 0) (h : Host) (drive name text n : List ℕ) (disk : Disk) (image : List ℕ) (wrote : FolderAnswer) (a : Answered) (from mid to : F) →
    disk_file_name name ≡ Some n → IsHeldDisk does drive from mid (Ok disk) → IsPutWork text disk n (Ok image) → does mid (write_access ((drive, image) ∷ []) wrote) to →
    a ≡ stored_answer (length text) wrote → IsRequestServedWith (AccessesLead does from to) (Put drive name text) h h a
put-done does h drive name text n disk image wrote a from mid to at k work did is =
    let by = k.answer in
    let made : DiskWork = Ok image in
    record {
      lacked = false;
      answers = by ∷ wrote ∷ [];
      made = made;
      work = subst (λ (o : Option (List ℕ)). OfNamed (IsPutWork text) o (disk_answered by) made) (sym at) (subst (λ (r : Result Disk WireRefusal). OfNamed (IsPutWork text) (Some n) r made) k.is work);
      served = same-outcome refl (is ∙ ap (λ (r : Result Disk WireRefusal). put_made (length text) r made (wrote ∷ [])) k.is ∙ ap (λ (o : Option (List ℕ)). put_answer (length text) o (by ∷ wrote ∷ []) made) (sym at));
      leads = subst (λ (o : Option (List ℕ)). AccessesLead does from to (put_accesses drive o (by ∷ wrote ∷ []) made)) (sym at)
          (subst (λ (r : Result Disk WireRefusal). AccessesLead does from to (hold_access drive by ∷ put_writes drive r made (wrote ∷ []))) k.is (mid, k.did, (to, did, refl)));
      unwritten = λ x. absurd cc;
    }

-- ---- a file that is given

pub get-unread : {F : Type 0} (does : F → FolderAccess → F → Type 0) (h : Host) (drive name n : List ℕ) (why : WireRefusal) (a : Answered) (from to : F) → disk_file_name name ≡ Some n →
    IsFileDisk does drive from to (Err why) → a ≡ Refused why → IsRequestServedWith (AccessesLead does from to) (Get drive name) h h a
get-unread does h drive name n why a from to at k is =
    let by = k.answer in
    record {
      lacked = false;
      answers = by ∷ [];
      made = no_work;
      work = subst (λ (o : Option (List ℕ)). OfNamed IsGetWork o (disk_answered by) no_work) (sym at) (subst (λ (r : Result Disk WireRefusal). OfNamed IsGetWork (Some n) r no_work) k.is tt);
      served = same-outcome refl (is ∙ ap (λ (r : Result Disk WireRefusal). text_made r no_work) k.is ∙ ap (λ (o : Option (List ℕ)). got_answer o (by ∷ []) no_work) (sym at));
      leads = subst (λ (o : Option (List ℕ)). AccessesLead does from to (got_accesses drive o (by ∷ []))) (sym at) (to, k.did, refl);
      unwritten = λ x. absurd cc;
    }

work-text : (disk : Disk) (made : DiskWork) → (let r : Result Disk WireRefusal = Ok disk in work_answer made ≡ text_made r made)
work-text disk (Ok text) = refl
work-text disk (Err why) = refl

pub get-done : {F : Type 0} (does : F → FolderAccess → F → Type 0) (h : Host) (drive name n : List ℕ) (disk : Disk) (made : DiskWork) (a : Answered) (from to : F) → disk_file_name name ≡ Some n →
    IsFileDisk does drive from to (Ok disk) → IsGetWork disk n made → a ≡ work_answer made → IsRequestServedWith (AccessesLead does from to) (Get drive name) h h a
get-done does h drive name n disk made a from to at k work is =
    let by = k.answer in
    record {
      lacked = false;
      answers = by ∷ [];
      made = made;
      work = subst (λ (o : Option (List ℕ)). OfNamed IsGetWork o (disk_answered by) made) (sym at) (subst (λ (r : Result Disk WireRefusal). OfNamed IsGetWork (Some n) r made) k.is work);
      served = same-outcome refl (is ∙ work-text disk made ∙ ap (λ (r : Result Disk WireRefusal). text_made r made) k.is ∙ ap (λ (o : Option (List ℕ)). got_answer o (by ∷ []) made) (sym at));
      leads = subst (λ (o : Option (List ℕ)). AccessesLead does from to (got_accesses drive o (by ∷ []))) (sym at) (to, k.did, refl);
      unwritten = λ x. absurd cc;
    }

-- ---- a list

pub list-unread : {F : Type 0} (does : F → FolderAccess → F → Type 0) (h : Host) (drive : List ℕ) (why : WireRefusal) (a : Answered) (from to : F) → IsFileDisk does drive from to (Err why) → a ≡ Refused why →
    IsRequestServedWith (AccessesLead does from to) (Files drive) h h a
list-unread does h drive why a from to k is = record {
  lacked = false;
  answers = k.answer ∷ [];
  made = no_work;
  work = subst (λ (r : Result Disk WireRefusal). OfDisk IsListWork r no_work) k.is tt;
  served = same-outcome refl (is ∙ ap (λ (r : Result Disk WireRefusal). text_made r no_work) k.is);
  leads = (to, k.did, refl);
  unwritten = λ x. absurd cc;
}

pub list-done : {F : Type 0} (does : F → FolderAccess → F → Type 0) (h : Host) (drive : List ℕ) (disk : Disk) (made : DiskWork) (a : Answered) (from to : F) → IsFileDisk does drive from to (Ok disk) →
    IsListWork disk made → a ≡ work_answer made → IsRequestServedWith (AccessesLead does from to) (Files drive) h h a
list-done does h drive disk made a from to k work is = record {
  lacked = false;
  answers = k.answer ∷ [];
  made = made;
  work = subst (λ (r : Result Disk WireRefusal). OfDisk IsListWork r made) k.is work;
  served = same-outcome refl (is ∙ work-text disk made ∙ ap (λ (r : Result Disk WireRefusal). text_made r made) k.is);
  leads = (to, k.did, refl);
  unwritten = λ x. absurd cc;
}

-- ---- names

pub not-named : (text : List ℕ) (e : DiskCommandError) → IsNotName text e → None ≡ disk_file_name text
not-named text (told.NotName shown) k = ap (option_map (with_marks false false)) (sym k.1)
not-named text (told.NotPattern shown) k = absurd k
not-named text (told.NotPair shown) k = absurd k
not-named text (told.PutTwice shown about) k = absurd k
not-named text (told.NotImage shown count) k = absurd k
not-named text (told.Damaged shown damage) k = absurd k
not-named text (told.LeftDamaged shown damage) k = absurd k
not-named text (told.NoFile shown pattern user) k = absurd k
not-named text (told.Refused shown about reason) k = absurd k
not-named text (told.NoHostName shown about) k = absurd k
not-named text (told.OutputUnwritable reason) k = absurd k
not-named text told.OutOfMemory k = absurd k

pub names-step : (files : List DiskFile) (i : ℕ) (d : DiskFile) → i < length files → name_lines (drop i files) ≡ name_line (get_or files i d) ++ name_lines (drop (i + 1) files)
unfolding name_lines
names-step files i d within = ap name_lines (drop-cons files i d within ∙ ap (λ n. get_or files i d ∷ drop n files) (sym (add-one i)))

pub names-more : (text now : List ℕ) (files : List DiskFile) (i : ℕ) (d : DiskFile) → i < length files → now ≡ text ++ name_line (get_or files i d) → text ++ name_lines (drop i files) ≡ name_lines files →
    now ++ name_lines (drop (i + 1) files) ≡ name_lines files
names-more text now files i d within e k =
    let rest = name_lines (drop (i + 1) files) in
    ap (λ xs. xs ++ rest) e ∙ append_assoc text (name_line (get_or files i d)) rest ∙ ap (λ xs. text ++ xs) (sym (names-step files i d within)) ∙ k

pub names-all : (text : List ℕ) (files : List DiskFile) (i : ℕ) → length files ≤ i → text ++ name_lines (drop i files) ≡ name_lines files → text ≡ name_lines files
unfolding name_lines
names-all text files i past k = sym (append-nil text) ∙ ap (λ xs. text ++ xs) (sym (ap name_lines (drop_of_length-le files past))) ∙ k

pub any-named : (n : List ℕ) (files : List Output) → list_any (λ (o : Output). bytes_eq n o.name.now) files ≡ has_name_among n (map named_output files)
any-named n [] = refl
any-named n (o ∷ files) = ap (λ b. bytes_eq n o.name.now || b) (any-named n files)

abbrev pub no_file : DiskFile
no_file = record { user = 0; name = []; records = 0 }

-- ---- what the work makes, as the code says it

pub put-made : (disk new : Disk) (user : ℕ) (name text image : List ℕ) → user ≡ 0 → IsPut disk user name text new → image ≡ concat new.sectors → IsPutWork text disk name (Ok image)
put-made disk new user name text image e k is = (new, subst (λ u. IsPut disk u name text new) e k, is)

pub put-not : (disk : Disk) (user : ℕ) (name text : List ℕ) (error : ImageFilesError) (why : WireRefusal) → user ≡ 0 → IsPutRefusal disk user name (records_for (length text)) error → why ≡ disk_refusal error →
    IsPutWork text disk name (Err why)
put-not disk user name text error why e k is = (error, subst (λ u. IsPutRefusal disk u name (records_for (length text)) error) e k, is)

pub get-made : (disk : Disk) (user : ℕ) (name bytes : List ℕ) → user ≡ 0 → IsGot disk user name bytes → IsGetWork disk name (Ok bytes)
get-made disk user name bytes e k = subst (λ u. IsGot disk u name bytes) e k

pub get-not : (disk : Disk) (user : ℕ) (name : List ℕ) (error : ImageFilesError) (why : WireRefusal) → user ≡ 0 → IsGetRefusal disk user name error → why ≡ disk_refusal error → IsGetWork disk name (Err why)
get-not disk user name error why e k is = (error, subst (λ u. IsGetRefusal disk u name error) e k, is)

pub list-made : (disk : Disk) (listing : DiskListing) (text : List ℕ) → IsListed disk listing → text ≡ name_lines listing.files.items → IsListWork disk (Ok text)
list-made disk listing text k is = (listing, k, is)

pub list-not : (disk : Disk) (error : ImageFilesError) (why : WireRefusal) → IsListRefusal disk error → why ≡ disk_refusal error → IsListWork disk (Err why)
list-not disk error why k is = (error, k, is)

pub list-lacked : (disk : Disk) (listing : DiskListing) → IsListed disk listing → IsListWork disk (Err refusal.OutOfMemory)
list-lacked disk listing k = (fault.OutOfMemory, k.sound, refl)
