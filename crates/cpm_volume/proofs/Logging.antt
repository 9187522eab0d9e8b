-- What a call has written is what it changed.
use Rattle.std.proofs.Common.{◌≡◌, ℕ, zero, suc, ◌+◌, ◌*◌, ◌%◌, ◌<◌, Bool, true, false, not, ◌&&◌, eqb, ltb, List, [], ◌∷◌, ◌++◌, Option, Some, None, length, map, set, replicate, append_assoc, append-nil, sym, refl, ap, ◌∙◌, inl, inr, arith}
use Rattle.std.specs.Prelude.{⊤}
use Rattle.std.specs.List.{range_with_len, list_any}
use Rattle.std.proofs.lemmas.List.{length-append}
use Rattle.std.proofs.lemmas.List.FromFn.{map-range_with_len_more}
use Rattle.std.proofs.Math.Seq.{set-append_seam}
use Rattle.std.proofs.lemmas.Bool.{ltb-true, not-false, cond_both, cases_Bool}
use Rattle.cpm_geom.specs.declared.dpb.Dpb.{Dpb}
use Rattle.cpm_volume.specs.declared.extent.Extent.{Extent}
use Rattle.cpm_volume.specs.declared.extent.Entry.{Entry}
use Rattle.cpm_volume.specs.Files.{extent_number, group_of, entry_place_of, block_number, entry_at, first_match, first_free, Volume, DiskWrite, entry_put, record_put}
use Rattle.cpm_volume.specs.Operations.{Answer, no_record, no_extent, no_entry_free, fault, bad_sector, read_only, VolumeOutcome, ends, gives, with_entry, merged, agree, has_bad_block, closed_entry, is_unchanged, Close, refused, close_fault, closed, close_extent, open_extent, open_to_read, made_extent, make_extent, close_file_on_volume, make_file_on_volume, Purpose, reading, writing, Target, Place, stopped, standing, opened_in, made_in, opened_or_made, have_extent, closed_in, cross, next_target, target_of, next_place, place_at, record_in_block, get_record, BlockChoice, no_such_block, none_free, old_block, new_block, block_to_write, cleared_records, taken_records, taken_writes, put_found, put_record, read_in, write_in, read_next_on_volume, write_next_on_volume, read_random_on_volume, write_random_on_volume, write_random_cleared_on_volume}
use Rattle.cpm_volume.specs.Names.{is_named, first_named, change_named, named_writes, NameOutcome, none_named, file_read_only, named, protects, deletion, renaming, marking, reserved_after, erase_files_on_volume, rename_files_on_volume, set_attributes_on_volume}
use Rattle.cpm_volume.specs.LogLaws.{logged, logged_all, IsLogged, CallsLog, NamedCallsLog}
use Rattle.cpm_volume.proofs.Entries.{entry_at-set_same}

-- ---- writes in order
pub logged_append : (a b : List DiskWrite) (v : Volume) → logged_all (a ++ b) v ≡ logged_all b (logged_all a v)
unfolding logged_all
logged_append [] b v = refl
logged_append (w ∷ a) b v = logged_append a b (logged w v)

-- the entries and the records after writes are those before them and the writes', whatever else the volume has
same_entry : (w : DiskWrite) (v v' : Volume) → v.entries ≡ v'.entries → (logged w v).entries ≡ (logged w v').entries
unfolding logged
same_entry (entry_put i e) v v' h = ap (λ es. set es i e) h
same_entry (record_put n bytes) v v' h = h

same_record : (w : DiskWrite) (v v' : Volume) → v.records ≡ v'.records → (logged w v).records ≡ (logged w v').records
unfolding logged
same_record (entry_put i e) v v' h = h
same_record (record_put n bytes) v v' h = ap (λ rs. set rs n bytes) h

same_entries : (ws : List DiskWrite) (v v' : Volume) → v.entries ≡ v'.entries → (logged_all ws v).entries ≡ (logged_all ws v').entries
unfolding logged_all
same_entries [] v v' h = h
same_entries (w ∷ ws) v v' h = same_entries ws (logged w v) (logged w v') (same_entry w v v' h)

same_records : (ws : List DiskWrite) (v v' : Volume) → v.records ≡ v'.records → (logged_all ws v).records ≡ (logged_all ws v').records
unfolding logged_all
same_records [] v v' h = h
same_records (w ∷ ws) v v' h = same_records ws (logged w v) (logged w v') (same_record w v v' h)

-- nothing written, nothing changed
pub log_none : (v v' : Volume) → v'.written ≡ v.written → v'.entries ≡ v.entries → v'.records ≡ v.records → IsLogged v v'
unfolding logged_all
log_none v v' w e r = record { writes = []; log = w ∙ sym (append-nil v.written); entries = e; records = r }

pub log_nothing : (v : Volume) → IsLogged v v
log_nothing v = log_none v v refl refl refl

-- one call after the other
pub log_then : (v v1 v2 : Volume) → IsLogged v v1 → IsLogged v1 v2 → IsLogged v v2
log_then v v1 v2 a b = record {
  writes = a.writes ++ b.writes;
  log = b.log ∙ (ap (λ ws. ws ++ b.writes) a.log ∙ append_assoc v.written a.writes b.writes);
  entries = b.entries ∙ (same_entries b.writes v1 (logged_all a.writes v) a.entries ∙ ap (λ (it : Volume). it.entries) (sym (logged_append a.writes b.writes v)));
  records = b.records ∙ (same_records b.writes v1 (logged_all a.writes v) a.records ∙ ap (λ (it : Volume). it.records) (sym (logged_append a.writes b.writes v)));
}

-- an entry that is put
pub log_entry : (v : Volume) (i : ℕ) (e : Entry) → i < length v.entries → IsLogged v (with_entry v i (set v.entries i e))
unfolding with_entry logged_all logged
log_entry v i e h = record {
  writes = entry_put i (entry_at (set v.entries i e) i) ∷ [];
  log = refl;
  entries = ap (λ f. set v.entries i f) (sym (entry_at-set_same v.entries i e h));
  records = refl;
}

-- ---- close and make
ClosesLogged : Volume → Close → Type 0
ClosesLogged v refused = ⊤
ClosesLogged v (close_fault which) = ⊤
ClosesLogged v (closed index entries extent) = IsLogged v (with_entry v index entries)

MakesLogged : Volume → Option (List Entry × Extent) → Type 0
MakesLogged v None = ⊤
MakesLogged v (Some made_extent) = IsLogged v (with_entry v (first_free v.entries) made_extent.0)

closes : (d : Dpb) (protected : Bool) (v : Volume) (user : ℕ) (x : Extent) → ClosesLogged v (close_extent d protected v.entries user x)
unfolding close_extent ClosesLogged
closes d protected v user x =
    let i = first_match d v.entries user x.name (group_of d (extent_number x)) in
    let e = entry_at v.entries i in
    let both : Extent = record x { blocks = merged x.blocks e.extent.blocks } in
    let after = closed_entry e both in
    cond_both (not (ltb i (length v.entries))) refused _ (ClosesLogged v) (λ _. tt) (λ within.
    cond_both (has_bad_block d x.blocks) (close_fault bad_sector) _ (ClosesLogged v) (λ _. tt) (λ _.
    cond_both (not (agree x.blocks e.extent.blocks)) refused _ (ClosesLogged v) (λ _. tt) (λ _.
    cond_both (protected && not (is_unchanged e.extent after.extent)) (close_fault read_only) (closed i (set v.entries i after) both) (ClosesLogged v) (λ _. tt) (λ _.
    log_entry v i after (ltb-true _ _ (not-false _ within))))))

makes : (v : Volume) (user : ℕ) (x : Extent) (number : ℕ) → MakesLogged v (make_extent v.entries user x number)
unfolding make_extent MakesLogged
makes v user x number =
    cond_both (ltb (first_free v.entries) (length v.entries)) (Some (set v.entries (first_free v.entries) (record { user = user; extent = made_extent x number }), made_extent x number)) None (MakesLogged v) (λ free. log_entry v (first_free v.entries) (record { user = user; extent = made_extent x number }) (ltb-true _ _ free)) (λ _. tt)

-- ---- on the way to the record
PlaceLogged : Volume → Place → Type 0
PlaceLogged v (stopped answer v' x) = IsLogged v v'
PlaceLogged v (standing v' x current) = IsLogged v v'

opens : (v v' : Volume) (x : Extent) (t : Target) (it : Option Extent) → IsLogged v v' → PlaceLogged v (opened_in v' x t it)
unfolding opened_in PlaceLogged
opens v v' x t None log = log
opens v v' x t (Some it) log = log

makes_in : (v v' : Volume) (x : Extent) (t : Target) (it : Option (List Entry × Extent)) → MakesLogged v' it → IsLogged v v' → PlaceLogged v (made_in v' x t it)
unfolding made_in PlaceLogged MakesLogged
makes_in v v' x t None log before = before
makes_in v v' x t (Some it) log before = log_then v v' (with_entry v' (first_free v'.entries) it.0) before log

opens_or_makes : (v v' : Volume) (user : ℕ) (x : Extent) (t : Target) (it : Option Extent) → IsLogged v v' → PlaceLogged v (opened_or_made v' user x t it)
unfolding opened_or_made PlaceLogged
opens_or_makes v v' user x t None log = makes_in v v' x t (make_extent v'.entries user x t.number) (makes v' user x t.number) log
opens_or_makes v v' user x t (Some it) log = log

has : (d : Dpb) (purpose : Purpose) (v v' : Volume) (user : ℕ) (x : Extent) (t : Target) → IsLogged v v' → PlaceLogged v (have_extent d purpose v' user x t)
unfolding have_extent
has d reading v v' user x t log = opens v v' x t (open_to_read d v'.entries user x.name t.number) log
has d writing v v' user x t log = opens_or_makes v v' user x t (open_extent d v'.entries user x.name t.number) log

closes_in : (d : Dpb) (purpose : Purpose) (v : Volume) (user : ℕ) (x : Extent) (t : Target) (it : Close) → ClosesLogged v it → PlaceLogged v (closed_in d purpose v user x t it)
unfolding closed_in PlaceLogged ClosesLogged
closes_in d purpose v user x t refused log = log_nothing v
closes_in d purpose v user x t (close_fault which) log = log_nothing v
closes_in d purpose v user x t (closed i es y) log = has d purpose v (with_entry v i es) user y t log

crosses : (d : Dpb) (purpose : Purpose) (protected : Bool) (v : Volume) (user : ℕ) (x : Extent) (t : Target) → PlaceLogged v (cross d purpose protected v user x t)
unfolding cross
crosses d purpose protected v user x t =
    closes_in d purpose v user x t (close_extent d protected v.entries user x) (closes d protected v user x)

stands : (v : Volume) (x : Extent) (current : ℕ) → PlaceLogged v (standing v x current)
unfolding PlaceLogged
stands v x current = log_nothing v

stops : (v : Volume) (answer : Answer) (x : Extent) → PlaceLogged v (stopped answer v x)
unfolding PlaceLogged
stops v answer x = log_nothing v

at_next : (d : Dpb) (purpose : Purpose) (protected : Bool) (v : Volume) (user : ℕ) (x : Extent) (current : ℕ) → PlaceLogged v (next_place d purpose protected v user x current)
unfolding next_place
at_next d purpose protected v user x current =
    cond_both (ltb current 128) (standing v x current) _ (PlaceLogged v) (λ _. stands v x current) (λ _.
    cond_both (eqb (extent_number x) 511) (stopped no_record v x) (cross d purpose protected v user x (next_target x)) (PlaceLogged v) (λ _. stops v no_record x) (λ _.
    crosses d purpose protected v user x (next_target x)))

at_any : (d : Dpb) (purpose : Purpose) (protected : Bool) (v : Volume) (user : ℕ) (x : Extent) (t : Target) → PlaceLogged v (place_at d purpose protected v user x t)
unfolding place_at
at_any d purpose protected v user x t =
    cond_both (eqb t.number (extent_number x)) (standing v x t.current) (cross d purpose protected v user x t) (PlaceLogged v) (λ _. stands v x t.current) (λ _. crosses d purpose protected v user x t)

-- ---- at the record
OutcomeLogged : Volume → VolumeOutcome → Type 0
OutcomeLogged v o = IsLogged v o.volume

gets : (d : Dpb) (v v' : Volume) (x : Extent) (current next : ℕ) → IsLogged v v' → OutcomeLogged v (get_record d v' x current next)
unfolding get_record ends gives OutcomeLogged
gets d v v' x current next log =
    let b = block_number x (entry_place_of d x current) in
    cond_both (not (ltb current x.record_count)) (ends no_record v' x current) _ (OutcomeLogged v) (λ _. log) (λ _.
    cond_both (ltb d.last_block b) (ends (fault bad_sector) v' x current) _ (OutcomeLogged v) (λ _. log) (λ _.
    cond_both (eqb b 0) (ends no_record v' x current) (gives v' x next (record_in_block d b current)) (OutcomeLogged v) (λ _. log) (λ _. log)))

-- records of zeros, written one after the other
clears_records : (start count : ℕ) (v : Volume) → (logged_all (map (λ place. record_put (start + place) (replicate 128 0)) (range_with_len 0 count)) v).records ≡ cleared_records start count v.records
unfolding cleared_records logged_all logged
clears_records start zero v = refl
clears_records start (suc count) v =
    let writes = map (λ place. record_put (start + place) (replicate 128 0)) (range_with_len 0 count) in
    let more : suc count ≡ count + 1 = omega arith in
    let split = ap (λ n. map (λ place. record_put (start + place) (replicate 128 0)) (range_with_len 0 n)) more ∙ map-range_with_len_more (λ place. record_put (start + place) (replicate 128 0)) 0 count count (omega arith) in
    ap (λ (it : Volume). it.records) (ap (λ ws. logged_all ws v) split ∙ logged_append writes (record_put (start + count) (replicate 128 0) ∷ []) v) ∙ ap (λ rs. set rs (start + count) (replicate 128 0)) (clears_records start count v)

clears_no_entry : (start : ℕ) (places : List ℕ) (v : Volume) → (logged_all (map (λ place. record_put (start + place) (replicate 128 0)) places) v).entries ≡ v.entries
unfolding logged_all logged
clears_no_entry start [] v = refl
clears_no_entry start (place ∷ places) v = clears_no_entry start places (record v { records = set v.records (start + place) (replicate 128 0) })

taken_logged : (d : Dpb) (clears : Bool) (b : ℕ) (v : Volume) → (logged_all (taken_writes d clears b) v).records ≡ taken_records d clears b v.records
unfolding taken_writes taken_records logged_all
taken_logged d false b v = refl
taken_logged d true b v = clears_records (b * (d.block_mask + 1)) (d.block_mask + 1) v

taken_no_entry : (d : Dpb) (clears : Bool) (b : ℕ) (v : Volume) → (logged_all (taken_writes d clears b) v).entries ≡ v.entries
unfolding taken_writes logged_all
taken_no_entry d false b v = refl
taken_no_entry d true b v = clears_no_entry (b * (d.block_mask + 1)) (range_with_len 0 (d.block_mask + 1)) v

-- a record that is put, into a block that was cleared before or not
log_record : (d : Dpb) (clears : Bool) (b n : ℕ) (bytes : List ℕ) (v v' : Volume) → v'.written ≡ (v.written ++ taken_writes d clears b) ++ record_put n bytes ∷ [] → v'.entries ≡ v.entries → v'.records ≡ set (taken_records d clears b v.records) n bytes → IsLogged v v'
unfolding logged_all logged
log_record d clears b n bytes v v' w e r =
    let split = logged_append (taken_writes d clears b) (record_put n bytes ∷ []) v in
    record {
      writes = taken_writes d clears b ++ record_put n bytes ∷ [];
      log = w ∙ append_assoc v.written (taken_writes d clears b) (record_put n bytes ∷ []);
      entries = e ∙ (sym (taken_no_entry d clears b v) ∙ sym (ap (λ (it : Volume). it.entries) split));
      records = r ∙ (ap (λ rs. set rs n bytes) (sym (taken_logged d clears b v)) ∙ sym (ap (λ (it : Volume). it.records) split));
    }

log_old : (n : ℕ) (bytes : List ℕ) (v v' : Volume) → v'.written ≡ v.written ++ record_put n bytes ∷ [] → v'.entries ≡ v.entries → v'.records ≡ set v.records n bytes → IsLogged v v'
unfolding logged_all logged
log_old n bytes v v' w e r = record { writes = record_put n bytes ∷ []; log = w; entries = e; records = r }

puts_found : (d : Dpb) (clears : Bool) (v v' : Volume) (x : Extent) (current next : ℕ) (bytes : List ℕ) (found : BlockChoice) → IsLogged v v' → OutcomeLogged v (put_found d clears v' x current next bytes found)
unfolding put_found ends OutcomeLogged
puts_found d clears v v' x current next bytes no_such_block log = log
puts_found d clears v v' x current next bytes none_free log = log
puts_found d clears v v' x current next bytes (old_block b) log =
    log_then v v' (record v' { records = set v'.records (record_in_block d b current) bytes; written = v'.written ++ record_put (record_in_block d b current) bytes ∷ [] }) log (log_old (record_in_block d b current) bytes v' _ refl refl refl)
puts_found d clears v v' x current next bytes (new_block b) log =
    log_then v v' (record v' { reserved = set v'.reserved b true; records = set (taken_records d clears b v'.records) (record_in_block d b current) bytes; written = (v'.written ++ taken_writes d clears b) ++ record_put (record_in_block d b current) bytes ∷ [] }) log (log_record d clears b (record_in_block d b current) bytes v' _ refl refl refl)

puts : (d : Dpb) (clears : Bool) (v v' : Volume) (x : Extent) (current next : ℕ) (bytes : List ℕ) → IsLogged v v' → OutcomeLogged v (put_record d clears v' x current next bytes)
unfolding put_record
puts d clears v v' x current next bytes log =
    puts_found d clears v v' x current next bytes (block_to_write d v'.reserved (block_number x (entry_place_of d x current))) log

-- ---- the calls on a record
reads_in : (d : Dpb) (current step : ℕ) (v : Volume) (place : Place) → PlaceLogged v place → OutcomeLogged v (read_in d current step place)
unfolding read_in ends PlaceLogged OutcomeLogged
reads_in d current step v (stopped answer v' x) log = log
reads_in d current step v (standing v' x here) log = gets d v v' x here (here + step) log

writes_in : (d : Dpb) (clears : Bool) (current step : ℕ) (bytes : List ℕ) (v : Volume) (place : Place) → PlaceLogged v place → OutcomeLogged v (write_in d clears current step bytes place)
unfolding write_in ends PlaceLogged OutcomeLogged
writes_in d clears current step bytes v (stopped answer v' x) log = log
writes_in d clears current step bytes v (standing v' x here) log = puts d clears v v' x here (here + step) bytes log

pub calls_log : (d : Dpb) (v : Volume) (user : ℕ) (x : Extent) → CallsLog d v user x
unfolding OutcomeLogged ClosesLogged MakesLogged close_file_on_volume make_file_on_volume read_next_on_volume read_random_on_volume write_next_on_volume write_random_on_volume write_random_cleared_on_volume
calls_log d v user x = record {
  sequential_read = λ protected current. reads_in d current 1 v (next_place d reading protected v user x current) (at_next d reading protected v user x current);
  random_read = λ protected current n. reads_in d current 0 v (place_at d reading protected v user x (target_of no_extent n)) (at_any d reading protected v user x (target_of no_extent n));
  sequential_write = λ current bytes. writes_in d false current 1 bytes v (next_place d writing false v user x current) (at_next d writing false v user x current);
  random_write = λ current n bytes. writes_in d false current 0 bytes v (place_at d writing false v user x (target_of no_entry_free n)) (at_any d writing false v user x (target_of no_entry_free n));
  clearing_write = λ current n bytes. writes_in d true current 0 bytes v (place_at d writing false v user x (target_of no_entry_free n)) (at_any d writing false v user x (target_of no_entry_free n));
  close = λ protected index after x' h. (let log = closes d protected v user x in rw h at log);
  make = λ after x' h. (let log = makes v user x (x.ex % 32) in rw h at log);
}

-- ---- the calls on all entries of a name
named_no_record : (user : ℕ) (pattern : List ℕ) (i : ℕ) (es now : List Entry) (v : Volume) → (logged_all (named_writes user pattern i es now) v).records ≡ v.records
unfolding named_writes logged_all logged
named_no_record user pattern i [] now v = refl
named_no_record user pattern i (e ∷ es) [] v = refl
named_no_record user pattern i (e ∷ es) (n ∷ now) v =
    elim (cases_Bool (is_named user pattern e)) [
      | inl t ↦ rw t (named_no_record user pattern (i + 1) es now (record v { entries = set v.entries i n }))
      | inr f ↦ rw f (named_no_record user pattern (i + 1) es now v)
    ]

-- the entries behind the first ones
named_entries : (user : ℕ) (pattern : List ℕ) (f : Entry → Entry) (i : ℕ) (first es : List Entry) (v : Volume) → i ≡ length first → v.entries ≡ first ++ es → (logged_all (named_writes user pattern i es (change_named user pattern f es)) v).entries ≡ first ++ change_named user pattern f es
unfolding named_writes change_named logged_all logged
named_entries user pattern f i first [] v size h = h
named_entries user pattern f i first (e ∷ es) v size h =
    let more : (it : Entry) → i + 1 ≡ length (first ++ it ∷ []) = λ it. rw (length-append, size) refl in
    elim (cases_Bool (is_named user pattern e)) [
      | inl t ↦
          let put = rw (h, size) (set-append_seam first e es (f e)) ∙ sym (append_assoc first (f e ∷ []) es) in
          rw t (named_entries user pattern f (i + 1) (first ++ f e ∷ []) es (record v { entries = set v.entries i (f e) }) (more (f e)) put ∙ append_assoc first (f e ∷ []) (change_named user pattern f es))
      | inr o ↦ rw o (named_entries user pattern f (i + 1) (first ++ e ∷ []) es v (more e) (h ∙ sym (append_assoc first (e ∷ []) es)) ∙ append_assoc first (e ∷ []) (change_named user pattern f es))
    ]

log_named : (user : ℕ) (pattern : List ℕ) (f : Entry → Entry) (v v' : Volume) → v'.written ≡ v.written ++ named_writes user pattern 0 v.entries (change_named user pattern f v.entries) → v'.entries ≡ change_named user pattern f v.entries → v'.records ≡ v.records → IsLogged v v'
log_named user pattern f v v' w e r = record {
  writes = named_writes user pattern 0 v.entries (change_named user pattern f v.entries);
  log = w;
  entries = e ∙ sym (named_entries user pattern f 0 [] v.entries v refl refl);
  records = r ∙ sym (named_no_record user pattern 0 v.entries (change_named user pattern f v.entries) v);
}

NamedLogged : Volume → NameOutcome → Type 0
NamedLogged v none_named = ⊤
NamedLogged v file_read_only = ⊤
NamedLogged v (named first v') = IsLogged v v'

erases : (d : Dpb) (v : Volume) (user : ℕ) (pattern : List ℕ) → NamedLogged v (erase_files_on_volume d v user pattern)
unfolding erase_files_on_volume NamedLogged
erases d v user pattern =
    let after : Volume = record v { entries = change_named user pattern deletion v.entries; reserved = reserved_after d user pattern v.entries v.reserved; written = v.written ++ named_writes user pattern 0 v.entries (change_named user pattern deletion v.entries) } in
    cond_both (not (ltb (first_named v.entries user pattern) (length v.entries))) none_named _ (NamedLogged v) (λ _. tt) (λ _.
    cond_both (list_any (protects user pattern) v.entries) file_read_only (named (first_named v.entries user pattern) after) (NamedLogged v) (λ _. tt) (λ _.
    log_named user pattern deletion v after refl refl refl))

renames : (v : Volume) (user : ℕ) (pattern name : List ℕ) → NamedLogged v (rename_files_on_volume v user pattern name)
unfolding rename_files_on_volume NamedLogged
renames v user pattern name =
    let after : Volume = record v { entries = change_named user pattern (renaming name) v.entries; written = v.written ++ named_writes user pattern 0 v.entries (change_named user pattern (renaming name) v.entries) } in
    cond_both (not (ltb (first_named v.entries user pattern) (length v.entries))) none_named _ (NamedLogged v) (λ _. tt) (λ _.
    cond_both (list_any (protects user pattern) v.entries) file_read_only (named (first_named v.entries user pattern) after) (NamedLogged v) (λ _. tt) (λ _.
    log_named user pattern (renaming name) v after refl refl refl))

marks : (v : Volume) (user : ℕ) (pattern : List ℕ) → NamedLogged v (set_attributes_on_volume v user pattern)
unfolding set_attributes_on_volume NamedLogged
marks v user pattern =
    let after : Volume = record v { entries = change_named user pattern (marking pattern) v.entries; written = v.written ++ named_writes user pattern 0 v.entries (change_named user pattern (marking pattern) v.entries) } in
    cond_both (not (ltb (first_named v.entries user pattern) (length v.entries))) none_named (named (first_named v.entries user pattern) after) (NamedLogged v) (λ _. tt) (λ _.
    log_named user pattern (marking pattern) v after refl refl refl)

pub named_calls_log : (d : Dpb) (v : Volume) (user : ℕ) (pattern : List ℕ) → NamedCallsLog d v user pattern
unfolding NamedLogged
named_calls_log d v user pattern = record {
  erase = λ first v' h. (let log = erases d v user pattern in rw h at log);
  rename = λ name first v' h. (let log = renames v user pattern name in rw h at log);
  attributes = λ first v' h. (let log = marks v user pattern in rw h at log);
}
