-- The laws of reads.
use Rattle.std.proofs.Common.{◌≡◌, ◌≢◌, ◌⊎◌, ℕ, ◌/◌, ◌%◌, ◌*◌, ◌+◌, ◌<◌, ◌≤◌, Bool, true, List, [], Some, None, length, get_or, sym, refl, ap, ◌∙◌, inl, inr, arith}
use Rattle.std.proofs.lemmas.Bool.{eq-eqb, ne_eqb, cases_eq, cases_lt, lt-ltb, le-ltb}
use Rattle.std.proofs.lemmas.Bool.Decides.{nat_tests}
use Rattle.cpm_geom.specs.declared.dpb.Dpb.{Dpb}
use Rattle.cpm_volume.specs.declared.extent.Extent.{Extent}
use Rattle.cpm_volume.specs.declared.extent.Entry.{Entry}
use Rattle.cpm_volume.specs.Files.{extent_number, group_of, map_place, deleted, entry_at, is_of, first_of, record_count_of, block_number, block_if, open_record_count, open_block, entry_block, file_block, open_file_block, directory_records, drive_record, record_in, open_file_record, Volume, IsSound}
use Rattle.cpm_volume.specs.Operations.{Answer, done, no_record, no_extent, read_only, fault, VolumeOutcome, ends, gives, opened_extent, open_to_read, reading, Target, stopped, standing, opened_in, have_extent, cross, next_target, target_of, next_place, place_at, get_record, read_in, read_next_on_volume, read_random_on_volume}
use Rattle.cpm_volume.specs.Laws.{OthersStay, FileStays, position, StaysSound, HasReadRecord, HasNone, IsProtected, ReadsNext, ReadsRandom}
use Rattle.cpm_volume.proofs.Entries.{first_of_passes}
use Rattle.cpm_volume.proofs.NameLemmas.{first_match_plain}
use Rattle.cpm_volume.proofs.Records.{place_back, record_back}
use Rattle.cpm_volume.proofs.Moving.{LacksExtent, no_file, number_below, closed_volume, sound_closed, same_file, same_records, same_reserved, others_closed, file_closed, lacks, closes}
use Rattle.cpm_volume.proofs.Opening as opening

own_count : (number : ℕ) (x stored : Extent) → number ≡ extent_number x → open_record_count number x stored ≡ x.record_count
unfolding open_record_count
own_count number x stored h = grind (arith, nat_tests)

-- the block of a record of the extent itself
pub own_block : (d : Dpb) (es : List Entry) (user : ℕ) (x : Extent) (n : ℕ) → n / 128 ≡ extent_number x → open_file_block d es user x n ≡ block_if x.record_count (n % 128) x (map_place d n)
unfolding open_file_block open_block
own_block d es user x n h =
    rw (eq-eqb _ _ (ap (group_of d) h), own_count (n / 128) x _ h) refl

-- ---- the count is 0 past the entry's number
no_count : (number own count k : ℕ) → own < number → k < record_count_of number own count → ⊥
unfolding record_count_of
no_count number own count k h l = grind (arith, nat_tests)

none_if : (count k place : ℕ) (x : Extent) → (k < count → ⊥) → block_if count k x place ≡ 0
unfolding block_if
none_if count k place x h =
    elim (cases_lt k count) [ inl lt ↦ absurd (h lt) | inr ge ↦ rw (le-ltb _ _ ge) refl ]

past_entry : (d : Dpb) (e : Entry) (n : ℕ) → extent_number e.extent < n / 128 → entry_block d e n ≡ 0
unfolding entry_block
past_entry d e n h = none_if _ _ _ _ (no_count (n / 128) (extent_number e.extent) e.extent.record_count (n % 128) h)

past_directory : (d : Dpb) (es : List Entry) (user : ℕ) (name : List ℕ) (n : ℕ) → 511 < n / 128 → file_block d es user name n ≡ 0
unfolding file_block
past_directory d es user name n h =
    past_entry d _ n (let b = number_below (entry_at es (first_of d es user name (group_of d (n / 128)))).extent in omega arith)

past_count : (number k : ℕ) (x stored : Extent) → extent_number x < number → extent_number stored < number → k < open_record_count number x stored → ⊥
unfolding open_record_count record_count_of
past_count number k x stored a b l = grind (arith, nat_tests)

pub past_file : (d : Dpb) (es : List Entry) (user : ℕ) (x : Extent) (n : ℕ) → 511 < n / 128 → open_file_block d es user x n ≡ 0
unfolding open_file_block open_block
past_file d es user x n h =
    elim (cases_eq (group_of d (n / 128)) (group_of d (extent_number x))) [
      | inl g ↦
          let stored = (entry_at es (first_of d es user x.name (group_of d (n / 128)))).extent in
          rw (eq-eqb _ _ g) (none_if _ _ _ _ (past_count (n / 128) (n % 128) x stored (let b = number_below x in omega arith) (let b = number_below stored in omega arith)))
      | inr g ↦ rw (ne_eqb _ _ g) (past_directory d es user x.name n h)
    ]

-- ---- the record of the extent
abbrev ReadsRecord : Dpb → ℕ → Volume → Extent → ℕ → ℕ → Type 0
ReadsRecord d user v x n next =
    ((get_record d v x (n % 128) next ≡ ends no_record v x (n % 128)) × (open_file_record d v.entries v.records user x n ≡ None)) ⊎ ((number : ℕ) × (get_record d v x (n % 128) next ≡ gives v x next number) × (open_file_record d v.entries v.records user x n ≡ Some (get_or v.records number [])) × (directory_records d ≤ number))

past_records : (d : Dpb) (b n : ℕ) → directory_records d ≤ b * (d.block_mask + 1) → directory_records d ≤ drive_record d b n
unfolding drive_record
past_records d b n h = omega (arith, h)

reads_record : (d : Dpb) (user : ℕ) (v : Volume) (x : Extent) (n next : ℕ) → IsSound d v user x → n / 128 ≡ extent_number x → ReadsRecord d user v x n next
unfolding get_record open_file_record record_in block_if
reads_record d user v x n next sound h =
    rw (own_block d v.entries user x n h, place_back d x n h, record_back d (block_number x (map_place d n)) n) (elim (cases_lt (n % 128) x.record_count) [
      | inr ge ↦ inl (rw (le-ltb _ _ ge) refl, rw (le-ltb _ _ ge) refl)
      | inl lt ↦ elim (cases_eq (block_number x (map_place d n)) 0) [
        | inl z ↦ inl (rw (lt-ltb _ _ lt, z, le-ltb d.last_block 0 (omega arith)) refl, rw (lt-ltb _ _ lt, z) refl)
        | inr there ↦
            let stored = sound.kept.stored (map_place d n) there in
            inr (drive_record d (block_number x (map_place d n)) n, rw (lt-ltb _ _ lt, le-ltb _ _ stored.within, ne_eqb _ _ there) refl, rw (lt-ltb _ _ lt, ne_eqb _ _ there) refl, past_records d (block_number x (map_place d n)) n stored.outside)
      ]
    ])

-- ---- the file in another extent, every record as it was
pub record SameFile (d : Dpb) (user : ℕ) (v : Volume) (x : Extent) (number : ℕ) (v1 : Volume) (x1 : Extent) : Type 0 where
  pub number_is : extent_number x1 ≡ number
  pub sound : IsSound d v1 user x1
  pub reserved : v1.reserved ≡ v.reserved
  pub records : v1.records ≡ v.records
  pub others : OthersStay d user x.name v v1
  pub file : FileStays d user v x v1 x1

same_there : (d : Dpb) (user : ℕ) (v : Volume) (x : Extent) (number : ℕ) → IsSound d v user x → extent_number x ≡ number → SameFile d user v x number v x
same_there d user v x number sound e = record {
  number_is = e;
  sound = sound;
  reserved = refl;
  records = refl;
  others = record { stay = λ other name m ok apart. refl };
  file = record { stay = λ m. refl };
}

-- what is said of a read that came to its record
abbrev Reads : Dpb → ℕ → Volume → Extent → ℕ → ℕ → VolumeOutcome → Type 0
Reads d user v x n after o =
    StaysSound d user v x o × FileStays d user v x o.volume o.extent × (((o.answer ≡ done) × HasReadRecord d user v x n o × (position o.extent o.current ≡ after)) ⊎ ((o.answer ≡ no_record) × HasNone d user v x n o × (position o.extent o.current ≡ n)))

gives_there : (d : Dpb) (user : ℕ) (v : Volume) (x : Extent) (n next after : ℕ) (v1 : Volume) (x1 : Extent) (number : ℕ) → SameFile d user v x (n / 128) v1 x1 → next ≤ 128 → 128 * (n / 128) + next ≡ after → open_file_record d v1.entries v1.records user x1 n ≡ Some (get_or v1.records number []) → directory_records d ≤ number → Reads d user v x n after (gives v1 x1 next number)
unfolding gives position
gives_there d user v x n next after v1 x1 number same small last there outside = (
  record { sound = same.sound; current = small; reserved = λ b h. rw same.reserved h; others = same.others },
  same.file,
  inl (refl, record { number = number; given = refl; there = sym (same.file.stay n) ∙ (there ∙ ap (λ records. Some (get_or records number [])) same.records); outside = outside }, rw same.number_is last),
)

ends_there : (d : Dpb) (user : ℕ) (v : Volume) (x : Extent) (n after : ℕ) (v1 : Volume) (x1 : Extent) → SameFile d user v x (n / 128) v1 x1 → open_file_record d v1.entries v1.records user x1 n ≡ None → Reads d user v x n after (ends no_record v1 x1 (n % 128))
unfolding ends position
ends_there d user v x n after v1 x1 same none = (
  record { sound = same.sound; current = omega arith; reserved = λ b h. rw same.reserved h; others = same.others },
  same.file,
  inr (refl, record { none = sym (same.file.stay n) ∙ none; given = refl }, rw same.number_is (omega arith)),
)

reads_there : (d : Dpb) (user : ℕ) (v : Volume) (x : Extent) (n here next after : ℕ) (v1 : Volume) (x1 : Extent) → SameFile d user v x (n / 128) v1 x1 → here ≡ n % 128 → next ≤ 128 → 128 * (n / 128) + next ≡ after → Reads d user v x n after (get_record d v1 x1 here next)
reads_there d user v x n here next after v1 x1 same at_here small last =
    elim (reads_record d user v1 x1 n next same.sound (sym same.number_is)) [
      | inl e ↦ rw (at_here, e.0) (ends_there d user v x n after v1 x1 same e.1)
      | inr e ↦ rw (at_here, e.1) (gives_there d user v x n next after v1 x1 e.0 same small last e.2 e.3)
    ]

-- ---- after the close, the extent of a number
module _ (d : Dpb) (user : ℕ) (v : Volume) (x : Extent) (user_ok : user ≢ deleted) (sound : IsSound d v user x) (t : Target) (small : t.number < 512) where
  v1 : Volume
  v1 = closed_volume d user v x user_ok sound

  s1 : IsSound d v1 user x
  unfolding v1
  s1 = sound_closed d user v x user_ok sound

  file1 : (n : ℕ) → file_block d v1.entries user x.name n ≡ open_file_block d v.entries user x n
  unfolding v1
  file1 = same_file d user v x user_ok sound

  reserved1 : v1.reserved ≡ v.reserved
  unfolding v1
  reserved1 = same_reserved d user v x user_ok sound

  records1 : v1.records ≡ v.records
  unfolding v1
  records1 = same_records d user v x user_ok sound

  abbrev Answers : Type 0
  Answers =
      ((x' : Extent) × (have_extent d reading v1 user x t ≡ standing v1 x' t.current) × SameFile d user v x t.number v1 x') ⊎ ((have_extent d reading v1 user x t ≡ stopped t.missing v1 x) × LacksExtent d user v x t.number v1)

  not_there : length v1.entries ≤ first_of d v1.entries user x.name (group_of d t.number) → have_extent d reading v1 user x t ≡ stopped t.missing v1 x
  unfolding have_extent opened_in open_to_read
  not_there past =
      rw (first_match_plain d v1.entries user x.name (group_of d t.number) sound.kept.plain, le-ltb _ _ past) refl

  lacks_it : length v1.entries ≤ first_of d v1.entries user x.name (group_of d t.number) → LacksExtent d user v x t.number v1
  unfolding v1
  lacks_it past = lacks d user v x user_ok sound t small past

  module _ (there : first_of d v1.entries user x.name (group_of d t.number) < length v1.entries) where
    index : ℕ
    index = first_of d v1.entries user x.name (group_of d t.number)

    matched : is_of d user x.name (group_of d t.number) (entry_at v1.entries index) ≡ true
    unfolding index
    matched = first_of_passes d v1.entries user x.name (group_of d t.number) there

    by_entry : (n : ℕ) → n / 128 ≡ t.number → open_file_block d v.entries user x n ≡ entry_block d (entry_at v1.entries index) n
    unfolding file_block index
    by_entry n h = sym (file1 n) ∙ rw h refl

    lesser_answer : extent_number (entry_at v1.entries index).extent < t.number → have_extent d reading v1 user x t ≡ stopped t.missing v1 x
    unfolding have_extent opened_in open_to_read index
    lesser_answer l =
        rw (first_match_plain d v1.entries user x.name (group_of d t.number) sound.kept.plain, lt-ltb _ _ there, lt-ltb _ _ l) refl

    others1 : OthersStay d user x.name v v1
    unfolding v1
    others1 = others_closed d user v x user_ok sound

    closed1 : FileStays d user v x v1 x
    unfolding v1
    closed1 = file_closed d user v x user_ok sound

    lesser_lacks : extent_number (entry_at v1.entries index).extent < t.number → LacksExtent d user v x t.number v1
    lesser_lacks l = record {
      sound = s1;
      reserved = reserved1;
      others = others1;
      file = closed1;
      none = λ n h. no_file d v user x n (by_entry n h ∙ past_entry d _ n (rw h l));
    }

    next : Extent
    next = opened_extent (entry_at v1.entries index).extent t.number

    module _ (greater : t.number ≤ extent_number (entry_at v1.entries index).extent) where
      sound_next : IsSound d v1 user next
      unfolding next
      sound_next = record {
        volume = s1.volume;
        well_formed = s1.well_formed;
        kept = opening.open_kept d v1.entries v1.reserved user x.name t.number index user_ok sound.kept.plain small s1.well_formed matched;
        map = rw (opening.opened_map (entry_at v1.entries index).extent t.number) (s1.volume.maps index (opening.there_used d v1.entries v1.reserved user x.name t.number index user_ok sound.kept.plain small s1.well_formed matched));
      }

      same_next : (m : ℕ) → open_file_record d v1.entries v1.records user next m ≡ open_file_record d v.entries v.records user x m
      unfolding open_file_record next
      same_next m =
          rw (opening.open_same d v1.entries v1.reserved user x.name t.number index user_ok sound.kept.plain small s1.well_formed matched greater m ∙ file1 m, records1) refl

      number_next : extent_number next ≡ t.number
      unfolding next
      number_next = opening.opened_number (entry_at v1.entries index).extent t.number small

      opens : have_extent d reading v1 user x t ≡ standing v1 next t.current
      unfolding have_extent opened_in open_to_read next index
      opens =
          rw (first_match_plain d v1.entries user x.name (group_of d t.number) sound.kept.plain, lt-ltb _ _ there, le-ltb _ _ greater) refl

      same_file_next : SameFile d user v x t.number v1 next
      same_file_next = record { number_is = number_next; sound = sound_next; reserved = reserved1; records = records1; others = others1; file = record { stay = same_next } }

  answers : Answers
  answers =
      elim (cases_lt (first_of d v1.entries user x.name (group_of d t.number)) (length v1.entries)) [
        | inr past ↦ inr (not_there past, lacks_it past)
        | inl there ↦ elim (cases_lt (extent_number (entry_at v1.entries (index there)).extent) t.number) [
          | inl l ↦ inr (lesser_answer there l, lesser_lacks there l)
          | inr g ↦ inl (next there, opens there g, same_file_next there g)
        ]
      ]

  -- where a read that crosses comes to
  abbrev Crosses : Bool → Type 0
  Crosses protected =
      ((x' : Extent) × (cross d reading protected v user x t ≡ standing v1 x' t.current) × SameFile d user v x t.number v1 x') ⊎ (((cross d reading protected v user x t ≡ stopped t.missing v1 x) × LacksExtent d user v x t.number v1) ⊎ ((protected ≡ true) × (cross d reading protected v user x t ≡ stopped (fault read_only) v x)))

  closes1 : (protected : Bool) → (cross d reading protected v user x t ≡ have_extent d reading v1 user x t) ⊎ ((protected ≡ true) × (cross d reading protected v user x t ≡ stopped (fault read_only) v x))
  unfolding v1
  closes1 protected = closes d user v x user_ok sound reading protected t

  crosses : (protected : Bool) → Crosses protected
  crosses protected =
      elim (closes1 protected) [
        | inr p ↦ inr (inr p)
        | inl e ↦ elim answers [
          | inl a ↦ inl (a.0, e ∙ a.1, a.2)
          | inr a ↦ inr (inl (e ∙ a.0, a.1))
        ]
      ]

-- ---- a read that did not come to its record
abbrev Misses : Dpb → ℕ → Volume → Extent → ℕ → ℕ → Answer → VolumeOutcome → Type 0
Misses d user v x current n answer o =
    StaysSound d user v x o × FileStays d user v x o.volume o.extent × (o.answer ≡ answer) × HasNone d user v x n o × (o.extent ≡ x) × (o.current ≡ current)

misses : (d : Dpb) (user : ℕ) (v : Volume) (x : Extent) (current n number : ℕ) (answer : Answer) (left : Volume) → current ≤ 128 → LacksExtent d user v x number left → n / 128 ≡ number → Misses d user v x current n answer (ends answer left x current)
unfolding ends
misses d user v x current n number answer left small lack inside =
    (record { sound = lack.sound; current = small; reserved = λ b h. rw lack.reserved h; others = lack.others }, lack.file, refl, record { none = lack.none n inside; given = refl }, refl, refl)

misses_last : (d : Dpb) (user : ℕ) (v : Volume) (x : Extent) (current n : ℕ) → current ≤ 128 → IsSound d v user x → 511 < n / 128 → Misses d user v x current n no_record (ends no_record v x current)
unfolding ends
misses_last d user v x current n small sound past =
    (record { sound = sound; current = small; reserved = λ b h. h; others = record { stay = λ other name m ok apart. refl } }, record { stay = λ m. refl }, refl, record { none = no_file d v user x n (past_file d v.entries user x n past); given = refl }, refl, refl)

-- ---- a read that a protected drive refused
abbrev Refuses : Dpb → ℕ → Bool → Volume → Extent → ℕ → VolumeOutcome → Type 0
Refuses d user protected v x current o =
    StaysSound d user v x o × FileStays d user v x o.volume o.extent × IsProtected protected v x current o

refuses : (d : Dpb) (user : ℕ) (protected : Bool) (v : Volume) (x : Extent) (current : ℕ) → current ≤ 128 → IsSound d v user x → protected ≡ true → Refuses d user protected v x current (ends (fault read_only) v x current)
unfolding ends
refuses d user protected v x current small sound is_protected =
    (record { sound = sound; current = small; reserved = λ b h. h; others = record { stay = λ other name m ok apart. refl } }, record { stay = λ m. refl }, record { answer = refl; protected_is = is_protected; untouched = record { volume = refl; extent = refl; current_is = refl; read = refl } })

-- ---- a random read
at_from : (d : Dpb) (user : ℕ) (protected : Bool) (v : Volume) (x : Extent) (current n : ℕ) (o : VolumeOutcome) → Reads d user v x n n o → ReadsRandom d user protected v x current n o
at_from d user protected v x current n o r =
    elim r.2 [ inl h ↦ (r.0, r.1, inl h) | inr h ↦ (r.0, r.1, inr (inl h)) ]

at_miss : (d : Dpb) (user : ℕ) (protected : Bool) (v : Volume) (x : Extent) (current n : ℕ) (o : VolumeOutcome) → Misses d user v x current n no_extent o → ReadsRandom d user protected v x current n o
at_miss d user protected v x current n o m = (m.0, m.1, inr (inr (inl (m.2, m.3, m.4, m.5))))

at_refused : (d : Dpb) (user : ℕ) (protected : Bool) (v : Volume) (x : Extent) (current n : ℕ) (o : VolumeOutcome) → Refuses d user protected v x current o → ReadsRandom d user protected v x current n o
at_refused d user protected v x current n o r = (r.0, r.1, inr (inr (inr r.2)))

pub reads_at : (d : Dpb) (user : ℕ) (protected : Bool) (v : Volume) (x : Extent) (current n : ℕ) → user ≢ deleted → IsSound d v user x → current ≤ 128 → n < 65536 → ReadsRandom d user protected v x current n (read_random_on_volume d protected v user x current n)
unfolding read_random_on_volume read_in place_at target_of
reads_at d user protected v x current n user_ok sound small h =
    elim (cases_eq (n / 128) (extent_number x)) [
      | inl same ↦ rw (eq-eqb _ _ same) (at_from d user protected v x current n _ (reads_there d user v x n (n % 128) (n % 128 + 0) n v x (same_there d user v x (n / 128) sound (sym same)) refl (omega arith) (omega arith)))
      | inr other ↦
          let inside : n / 128 < 512 = omega arith in
          elim (crosses d user v x user_ok sound (target_of no_extent n) inside protected) [
            | inl m ↦ rw (ne_eqb _ _ other, m.1) (at_from d user protected v x current n _ (reads_there d user v x n (n % 128) (n % 128 + 0) n (v1 d user v x user_ok sound (target_of no_extent n) inside) m.0 m.2 refl (omega arith) (omega arith)))
            | inr e ↦ elim e [
              | inl s ↦ rw (ne_eqb _ _ other, s.0) (at_miss d user protected v x current n _ (misses d user v x current n (n / 128) no_extent _ small s.1 refl))
              | inr p ↦ rw (ne_eqb _ _ other, p.1) (at_refused d user protected v x current n _ (refuses d user protected v x current small sound p.0))
            ]
          ]
    ]

-- ---- a sequential read
next_from : (d : Dpb) (user : ℕ) (protected : Bool) (v : Volume) (x : Extent) (current : ℕ) (o : VolumeOutcome) → Reads d user v x (position x current) (position x current + 1) o → ReadsNext d user protected v x current o
next_from d user protected v x current o r =
    elim r.2 [ inl h ↦ (r.0, r.1, inl h) | inr h ↦ (r.0, r.1, inr (inl h)) ]

next_miss : (d : Dpb) (user : ℕ) (protected : Bool) (v : Volume) (x : Extent) (current : ℕ) (o : VolumeOutcome) → Misses d user v x current (position x current) no_record o → ReadsNext d user protected v x current o
next_miss d user protected v x current o m =
    (m.0, m.1, inr (inl (m.2, m.3, rw (m.4, m.5) refl)))

next_refused : (d : Dpb) (user : ℕ) (protected : Bool) (v : Volume) (x : Extent) (current : ℕ) (o : VolumeOutcome) → Refuses d user protected v x current o → ReadsNext d user protected v x current o
next_refused d user protected v x current o r = (r.0, r.1, inr (inr r.2))

pub reads_next : (d : Dpb) (user : ℕ) (protected : Bool) (v : Volume) (x : Extent) (current : ℕ) → user ≢ deleted → IsSound d v user x → current ≤ 128 → ReadsNext d user protected v x current (read_next_on_volume d protected v user x current)
unfolding read_next_on_volume read_in next_place next_target position
reads_next d user protected v x current user_ok sound small =
    elim (cases_lt current 128) [
      | inl lt ↦
          let number : extent_number x ≡ (128 * extent_number x + current) / 128 = omega arith in
          rw (lt-ltb _ _ lt) (next_from d user protected v x current _ (reads_there d user v x (128 * extent_number x + current) current (current + 1) (128 * extent_number x + current + 1) v x (same_there d user v x _ sound number) (omega arith) (omega arith) (omega arith)))
      | inr ge ↦ elim (cases_eq (extent_number x) 511) [
        | inl last ↦ rw (le-ltb _ _ ge, eq-eqb _ _ last) (next_miss d user protected v x current _ (misses_last d user v x current (128 * extent_number x + current) small sound (omega arith)))
        | inr more ↦
            let inside : extent_number x + 1 < 512 = let b = number_below x in omega arith in
            let number : (128 * extent_number x + current) / 128 ≡ extent_number x + 1 = omega arith in
            elim (crosses d user v x user_ok sound (next_target x) inside protected) [
              | inl m ↦ rw (le-ltb _ _ ge, ne_eqb _ _ more, m.1) (next_from d user protected v x current _ (reads_there d user v x (128 * extent_number x + current) 0 1 (128 * extent_number x + current + 1) (v1 d user v x user_ok sound (next_target x) inside) m.0 (rw number m.2) (omega arith) (omega arith) (omega arith)))
              | inr e ↦ elim e [
                | inl s ↦ rw (le-ltb _ _ ge, ne_eqb _ _ more, s.0) (next_miss d user protected v x current _ (misses d user v x current (128 * extent_number x + current) (extent_number x + 1) no_record _ small s.1 number))
                | inr p ↦ rw (le-ltb _ _ ge, ne_eqb _ _ more, p.1) (next_refused d user protected v x current _ (refuses d user protected v x current small sound p.0))
              ]
            ]
      ]
    ]
