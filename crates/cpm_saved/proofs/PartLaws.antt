-- Each part of a session is that of its fields, and fields are those of their part.
use Rattle.std.proofs.Common.{◌≡◌, ◌∙◌, ◌+◌, ◌*◌, ◌/◌, ◌%◌, ◌<◌, ℕ, zero, suc, Bool, true, false, List, [], ◌∷◌}
use Rattle.std.proofs.Common.{Option, Some, None, inl, inr, map, get_or, ap, arith, refl, sym}
use Rattle.std.specs.Prelude.{◌==◌, option_map}
use Rattle.std.specs.List.{All, concat, range_with_len}
use Rattle.std.proofs.lemmas.List.FromFn.{get_or-map-range_with_len}
use Rattle.cpm_flags.specs.Arithmetic.{bit}
use Rattle.cpm_flags.specs.FlagByte.{packed, unpacked}
use Rattle.cpm_flags.specs.declared.regs.Alternate.{Alternate}
use Rattle.cpm_flags.specs.declared.regs.Cpu.TheVariants.{Z80}
use Rattle.cpm_flags.specs.declared.regs.Flags.{Flags}
use Rattle.cpm_flags.specs.declared.regs.Regs.{Regs}
use Rattle.cpm_geom.proofs.JoinedLemmas.{bytes_joined, disk_joined}
use Rattle.cpm_geom.specs.Disk.{Disk, IsDisk, disk_of}
use Rattle.cpm_geom.specs.Geometry.{format_of_length}
use Rattle.cpm_geom.specs.declared.format.Format.{Format}
use Rattle.cpm_geom.specs.declared.format.Format.TheVariants as format
use Rattle.cpm_console.specs.Terminal.{Terminal}
use Rattle.cpm_drive.specs.declared.drive.Drive.{Drive}
use Rattle.cpm_drive.specs.declared.drive.Marks.{Marks}
use Rattle.cpm_drives.specs.declared.disks.Disks.{Disks}
use Rattle.cpm_drives.specs.declared.search.Search.{Search}
use Rattle.cpm_saved.specs.Layout.{IfAny, IsOf, Maybe, laid_out}
use Rattle.cpm_saved.specs.SavedConsole.{console_fields, console_layout, console_of_fields}
use Rattle.cpm_saved.specs.SavedDisks.{AreWhole, IsWholeIfAny, disks_fields, disks_layout, disks_of_fields, drive_fields, drive_layout, drive_of_fields}
use Rattle.cpm_saved.specs.SavedDisks.{image_fields, image_in, image_layout, image_of_fields, marks_fields, marks_layout, marks_of_fields}
use Rattle.cpm_saved.specs.SavedDisks.{search_fields, search_layout, search_of_fields}
use Rattle.cpm_saved.specs.SavedRegisters.{bank_fields, bank_layout, bank_of_fields, flags_unset, pointers_fields, pointers_layout}
use Rattle.cpm_saved.specs.SavedRegisters.{registers_fields, registers_layout, registers_of_fields, registers_with}
use Rattle.cpm_saved.specs.declared.part.SavingPart.TheVariants as part
use Rattle.cpm_saved.proofs.Appends.{bit_small}
use Rattle.cpm_saved.proofs.DiskSteps.{is_large_length, is_small_length}

-- ---- yes and no, as 1 and 0

bit_back : (b : Bool) → (bit b == 1) ≡ b
bit_back true = refl
bit_back false = refl

mark_back : (n : ℕ) → n < 2 → bit (n == 1) ≡ n
mark_back zero low = refl
mark_back (suc zero) low = refl
mark_back (suc (suc n)) low = absurd (omega (arith, low))

-- ---- each of a list, and one of an option

rest_all : {A : Type 0} → (is : A → Type 0) (x : A) (xs : List A) → All is (x ∷ xs) → All is xs
rest_all {A} is x xs all = λ (k : ℕ) (d : A) within. all (suc k) d (omega (arith, within))

each_back : {A B : Type 0} → (there : A → B) (back : B → A) (is : A → Type 0) → ((a : A) → is a → back (there a) ≡ a)
    → (xs : List A) → All is xs → map back (map there xs) ≡ xs
each_back {A} {B} there back is one [] all = refl
each_back {A} {B} there back is one (x ∷ xs) all =
    let head = one x (all 0 x (omega arith)) in
    let tail = each_back there back is one xs (rest_all is x xs all) in
    λ i. head i ∷ tail i

any_back : {A B : Type 0} → (there : A → B) (back : B → A) (is : A → Type 0) → ((a : A) → is a → back (there a) ≡ a)
    → (o : Option A) → IfAny is o → option_map back (option_map there o) ≡ o
any_back {A} {B} there back is one None there_is = refl
any_back {A} {B} there back is one (Some a) there_is = ap (λ (x : A). Some x) (one a there_is)

-- ---- flags

abbrev sum_of : (s z y h x p n c : ℕ) → ℕ
sum_of s z y h x p n c = 128 * s + 64 * z + 32 * y + 16 * h + 8 * x + 4 * p + 2 * n + c

-- the bits of a sum of bits are these
bits_of_sum : (s z y h x p n c : ℕ) → s < 2 → z < 2 → y < 2 → h < 2 → x < 2 → p < 2 → n < 2 → c < 2
    → (sum_of s z y h x p n c / 128 % 2 ≡ s) × (sum_of s z y h x p n c / 64 % 2 ≡ z) × (sum_of s z y h x p n c / 32 % 2 ≡ y)
    × (sum_of s z y h x p n c / 16 % 2 ≡ h) × (sum_of s z y h x p n c / 8 % 2 ≡ x) × (sum_of s z y h x p n c / 4 % 2 ≡ p)
    × (sum_of s z y h x p n c / 2 % 2 ≡ n) × (sum_of s z y h x p n c / 1 % 2 ≡ c)
bits_of_sum s z y h x p n c s_low z_low y_low h_low x_low p_low n_low c_low =
    (omega arith, omega arith, omega arith, omega arith, omega arith, omega arith, omega arith, omega arith)

test_back : (n : ℕ) (b : Bool) → n ≡ bit b → (n == 1) ≡ b
test_back n b e = ap (λ (m : ℕ). m == 1) e ∙ bit_back b

flags_back : (f : Flags) → unpacked Z80 flags_unset (packed Z80 f) ≡ f
flags_back f =
    let bits = bits_of_sum (bit f.sign) (bit f.zero) (bit f.bit5) (bit f.half_carry) (bit f.bit3) (bit f.parity) (bit f.subtract) (bit f.carry)
    (bit_small f.sign) (bit_small f.zero) (bit_small f.bit5) (bit_small f.half_carry) (bit_small f.bit3) (bit_small f.parity)
    (bit_small f.subtract) (bit_small f.carry) in
    λ i. record {
      sign = test_back _ f.sign bits.0 i;
      zero = test_back _ f.zero bits.1 i;
      bit5 = test_back _ f.bit5 bits.2 i;
      half_carry = test_back _ f.half_carry bits.3 i;
      bit3 = test_back _ f.bit3 bits.4 i;
      parity = test_back _ f.parity bits.5 i;
      subtract = test_back _ f.subtract bits.6 i;
      carry = test_back _ f.carry bits.7 i;
    }

-- what is true of the numbers below 256, one by one
each_byte : (f g : ℕ → ℕ) → map f (range_with_len 0 256) ≡ map g (range_with_len 0 256) → (n : ℕ) → n < 256 → f n ≡ g n
each_byte f g e n h =
    sym (get_or-map-range_with_len f 0 256 n n (f n) h (omega arith)) ∙ ap (λ xs. get_or xs n (f n)) e
    ∙ get_or-map-range_with_len g 0 256 n n (f n) h (omega arith)

packed_back : (n : ℕ) → n < 256 → packed Z80 (unpacked Z80 flags_unset n) ≡ n
packed_back = each_byte (λ n. packed Z80 (unpacked Z80 flags_unset n)) (λ n. n) refl

-- ---- registers

bank_back : (r : Alternate) → bank_of_fields (bank_fields r) ≡ r
bank_back r = ap (λ (f : Flags). record r { flags = f }) (flags_back r.flags)

bank_fields_back : (v : laid_out bank_layout) → IsOf bank_layout v → bank_fields (bank_of_fields v) ≡ v
bank_fields_back v is = let flags = packed_back v.1.0 is.1.0 in λ i. (v.0, (flags i, v.1.1))

pub registers_back : (r : Regs) → registers_of_fields (registers_fields r) ≡ r
registers_back r =
    let main = flags_back r.flags in
    let one = bit_back r.iff1 in
    let two = bit_back r.iff2 in
    let other = bank_back r.alternate in
    λ i. record r { flags = main i; iff1 = one i; iff2 = two i; alternate = other i }

pointers_fields_back : (m a : Alternate) (v : laid_out pointers_layout) → IsOf pointers_layout v → pointers_fields (registers_with m v a) ≡ v
pointers_fields_back m a v is =
    let one = mark_back v.1.1.1.1.1.1.0 is.1.1.1.1.1.1.0 in
    let two = mark_back v.1.1.1.1.1.1.1 is.1.1.1.1.1.1.1 in
    λ i. (v.0, (v.1.0, (v.1.1.0, (v.1.1.1.0, (v.1.1.1.1.0, (v.1.1.1.1.1.0, (one i, two i)))))))

pub registers_fields_back : (v : laid_out registers_layout) → IsOf registers_layout v → registers_fields (registers_of_fields v) ≡ v
registers_fields_back v is =
    let main = bank_fields_back v.0 is.0 in
    let pointers = pointers_fields_back (bank_of_fields v.0) (bank_of_fields v.1.1) v.1.0 is.1.0 in
    let other = bank_fields_back v.1.1 is.1.1 in
    λ i. (main i, (pointers i, other i))

-- ---- the console

pub console_back : (t : Terminal) → console_of_fields (console_fields t) ≡ t
console_back t = ap (λ (b : Bool). record t { list_echo = b }) (bit_back t.list_echo)

pub console_fields_back : (v : laid_out console_layout) → IsOf console_layout v → console_fields (console_of_fields v) ≡ v
console_fields_back v is = let echo = mark_back v.1.1.1.1 is.1.1.1.1 in λ i. (v.0, (v.1.0, (v.1.1.0, (v.1.1.1.0, echo i))))

-- ---- marks

marks_back : (m : Marks) → marks_of_fields (marks_fields m) ≡ m
marks_back m =
    let reserved = each_back bit (λ n. n == 1) (λ b. Unit {0}) (λ b _. bit_back b) m.reserved (λ k d within. tt) in
    let logged = bit_back m.is_logged_in in
    let protected = bit_back m.is_protected in
    λ i. record m { reserved = reserved i; is_logged_in = logged i; is_protected = protected i }

marks_fields_back : (v : laid_out marks_layout) → IsOf marks_layout v → marks_fields (marks_of_fields v) ≡ v
marks_fields_back v is =
    let reserved = each_back (λ n. n == 1) bit (λ n. n < 2) mark_back v.0 is.0.2 in
    let logged = mark_back v.1.0 is.1.0 in
    let protected = mark_back v.1.1 is.1.1 in
    λ i. (reserved i, (logged i, protected i))

-- ---- images

image_of : (f : Format) (bytes : List ℕ) → image_of_fields (image_in f bytes) ≡ disk_of f bytes
image_of format.Ibm3740 bytes = refl
image_of format.Large bytes = refl

image_back : (d : Disk) → IsDisk d → image_of_fields (image_fields d) ≡ d
image_back d whole = image_of d.format (concat d.sectors) ∙ disk_joined d whole

image_fields_back : (v : laid_out image_layout) → IsOf image_layout v → image_fields (image_of_fields v) ≡ v
image_fields_back (inl bytes) is =
    ap (λ (xs : List ℕ). image_in format.Ibm3740 xs) (bytes_joined format.Ibm3740 bytes (ap format_of_length is.0 ∙ is_small_length)).0
image_fields_back (inr bytes) is =
    ap (λ (xs : List ℕ). image_in format.Large xs) (bytes_joined format.Large bytes (ap format_of_length is.0 ∙ is_large_length)).0

-- ---- drives

drive_back : (d : Drive) → IsDisk d.image → drive_of_fields (drive_fields d) ≡ d
drive_back d whole =
    let image = image_back d.image whole in
    let marks = marks_back d.marks in
    λ i. record { image = image i; marks = marks i }

drive_if_any_back : (o : Option Drive) → IsWholeIfAny o → option_map drive_of_fields (option_map drive_fields o) ≡ o
drive_if_any_back None whole = refl
drive_if_any_back (Some d) whole = ap (λ (x : Drive). Some x) (drive_back d whole)

drive_fields_back : (v : laid_out drive_layout) → IsOf drive_layout v → drive_fields (drive_of_fields v) ≡ v
drive_fields_back v is =
    let marks = marks_fields_back v.0 is.0 in
    let image = image_fields_back v.1 is.1 in
    λ i. (marks i, image i)

-- ---- the place of a search

search_back : (s : Search) → search_of_fields (search_fields s) ≡ s
search_back s = ap (λ (b : Bool). record s { is_every = b }) (bit_back s.is_every)

search_if_any_back : (o : Option Search) → option_map search_of_fields (option_map search_fields o) ≡ o
search_if_any_back None = refl
search_if_any_back (Some s) = ap (λ (x : Search). Some x) (search_back s)

search_fields_back : (v : laid_out search_layout) → IsOf search_layout v → search_fields (search_of_fields v) ≡ v
search_fields_back v is = let every = mark_back v.1.0 is.1.0 in λ i. (v.0, (every i, v.1.1))

-- ---- the drives, and what the calls on files keep

pub disks_back : (d : Disks) → AreWhole d → disks_of_fields (disks_fields d) ≡ d
disks_back d whole =
    let drives = each_back (option_map drive_fields) (option_map drive_of_fields) IsWholeIfAny drive_if_any_back d.drives whole in
    let system = marks_back d.system in
    let sought = search_if_any_back d.sought in
    λ i. record d { drives = drives i; system = system i; sought = sought i }

pub disks_fields_back : (v : laid_out disks_layout) → IsOf disks_layout v → disks_fields (disks_of_fields v) ≡ v
disks_fields_back v is =
    let drive = any_back drive_of_fields drive_fields (IsOf drive_layout) drive_fields_back in
    let drives = each_back (option_map drive_of_fields) (option_map drive_fields) (IsOf (Maybe part.Drive drive_layout)) drive v.0 is.0.1 in
    let system = marks_fields_back v.1.0 is.1.0 in
    let sought = any_back search_of_fields search_fields (IsOf search_layout) search_fields_back v.1.1.1.1 is.1.1.1.1 in
    λ i. (drives i, (system i, (v.1.1.0, (v.1.1.1.0, sought i))))
