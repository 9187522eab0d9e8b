-- Layouts of values in bytes: what a value is written as, and what is read of bytes. All of it is own.
use Rattle.std.proofs.Common.{inl, inr}
use Rattle.std.specs.Prelude.{◌≡◌, ◌<◌, ◌≤◌, ◌⊎◌, ◌+◌, ◌^◌, ⊤, ℕ, zero, suc, Bool, true, ◌==◌, ◌&&◌, nat_lt, nat_le, if◌then◌else◌}
use Rattle.std.specs.Prelude.{List, [], ◌∷◌, ◌++◌, length, take, drop, Option, Some, None, Result, Ok, Err}
use Rattle.std.specs.List.{All, list_all}
use Rattle.std.specs.Int.{from_le_bytes, to_le_bytes, w16, w64}
use Rattle.cpm_saved.specs.declared.part.SavingDamage.{SavingDamage}
use Rattle.cpm_saved.specs.declared.part.SavingPart.{SavingPart}

-- Each part has the name by which it is refused.
pub data Layout : Type 0 where
  -- a byte below this number
  Below : (field : SavingPart) → (limit : ℕ) → Layout
  -- a number of 16 bits, from the least to the most, the lowest byte first
  Within : (field : SavingPart) → (least most : ℕ) → Layout
  -- a number of 64 bits, the lowest byte first
  Long : (field : SavingPart) → Layout
  -- just so many bytes, for which the test holds
  Among : (field : SavingPart) → (count : ℕ) → (test : List ℕ → Bool) → Layout
  -- how many bytes come, so many at most, as a number of 16 bits, and then these, each below the limit
  Run : (field : SavingPart) → (most limit : ℕ) → Layout
  -- one after the other
  Both : Layout → Layout → Layout
  -- 0; or 1 and a value
  Maybe : (field : SavingPart) → Layout → Layout
  -- 0 and a value of the one, or 1 and a value of the other
  Either : (field : SavingPart) → Layout → Layout → Layout
  -- so many values, one after another
  Times : (count : ℕ) → Layout → Layout

-- any byte, any number of 16 bits, and just so many bytes
abbrev pub AnyByte : SavingPart → Layout
AnyByte field = Below field 256

abbrev pub AnyWord : SavingPart → Layout
AnyWord field = Within field 0 65535

abbrev pub Fixed : SavingPart → ℕ → Layout
Fixed field count = Among field count (λ _. true)

-- what a layout lays out
abbrev pub laid_out : Layout → Type 0
laid_out (Below field limit) = ℕ
laid_out (Within field least most) = ℕ
laid_out (Long field) = ℕ
laid_out (Among field count test) = List ℕ
laid_out (Run field most limit) = List ℕ
laid_out (Both f g) = laid_out f × laid_out g
laid_out (Maybe field f) = Option (laid_out f)
laid_out (Either field f g) = laid_out f ⊎ laid_out g
laid_out (Times count f) = List (laid_out f)

-- what holds of a value, if there is one, and of one of two
abbrev pub IfAny : {A : Type 0} → (A → Type 0) → Option A → Type 0
IfAny {A} holds None = ⊤
IfAny {A} holds (Some v) = holds v

abbrev pub OfEither : {A B : Type 0} → (A → Type 0) → (B → Type 0) → A ⊎ B → Type 0
OfEither {A} {B} left right (inl v) = left v
OfEither {A} {B} left right (inr v) = right v

-- numbers that are below a limit
abbrev pub AreBelow : ℕ → List ℕ → Type 0
AreBelow limit bytes = All (λ b. b < limit) bytes

-- a value that can be laid out so
abbrev pub IsOf : (f : Layout) → laid_out f → Type 0
IsOf (Below field limit) n = n < limit
IsOf (Within field least most) n = (least ≤ n) × (n ≤ most) × (n < 2 ^ 16)
IsOf (Long field) n = n < 2 ^ 64
IsOf (Among field count test) bytes = (length bytes ≡ count) × (test bytes ≡ true) × AreBelow 256 bytes
IsOf (Run field most limit) bytes = (length bytes ≤ most) × (length bytes < 2 ^ 16) × AreBelow limit bytes
IsOf (Both f g) v = IsOf f v.0 × IsOf g v.1
IsOf (Maybe field f) v = IfAny (IsOf f) v
IsOf (Either field f g) v = OfEither (IsOf f) (IsOf g) v
IsOf (Times count f) vs = (length vs ≡ count) × All (IsOf f) vs

-- a layout by which each value is bytes: each limit is at most 256
abbrev pub IsByteLayout : Layout → Type 0
IsByteLayout (Below field limit) = limit ≤ 256
IsByteLayout (Within field least most) = ⊤
IsByteLayout (Long field) = ⊤
IsByteLayout (Among field count test) = ⊤
IsByteLayout (Run field most limit) = limit ≤ 256
IsByteLayout (Both f g) = IsByteLayout f × IsByteLayout g
IsByteLayout (Maybe field f) = IsByteLayout f
IsByteLayout (Either field f g) = IsByteLayout f × IsByteLayout g
IsByteLayout (Times count f) = IsByteLayout f

-- ---- written

abbrev pub coded_if_any : {A : Type 0} → (A → List ℕ) → Option A → List ℕ
coded_if_any {A} code None = 0 ∷ []
coded_if_any {A} code (Some v) = 1 ∷ code v

abbrev pub coded_either : {A B : Type 0} → (A → List ℕ) → (B → List ℕ) → A ⊎ B → List ℕ
coded_either {A} {B} left right (inl v) = 0 ∷ left v
coded_either {A} {B} left right (inr v) = 1 ∷ right v

abbrev pub coded_all : {A : Type 0} → (A → List ℕ) → List A → List ℕ
coded_all {A} code [] = []
coded_all {A} code (v ∷ vs) = code v ++ coded_all code vs

-- the bytes of a value
abbrev pub coded : (f : Layout) → laid_out f → List ℕ
coded (Below field limit) n = n ∷ []
coded (Within field least most) n = to_le_bytes w16 n
coded (Long field) n = to_le_bytes w64 n
coded (Among field count test) bytes = bytes
coded (Run field most limit) bytes = to_le_bytes w16 (length bytes) ++ bytes
coded (Both f g) v = coded f v.0 ++ coded g v.1
coded (Maybe field f) v = coded_if_any (coded f) v
coded (Either field f g) v = coded_either (coded f) (coded g) v
coded (Times count f) vs = coded_all (coded f) vs

-- ---- read

-- what is still to be read, and at which place of the whole it begins
pub record Rest : Type 0 where
  pub at : ℕ
  pub bytes : List ℕ

abbrev pub rest_at : ℕ → List ℕ → Rest
rest_at at bytes = record { at = at; bytes = bytes }

-- a value and what is behind it, or the part that can't be read, and where it begins
abbrev pub Read : Type 0 → Type 0
Read A = Result (A × Rest) SavingDamage

abbrev pub damaged : {A : Type 0} → SavingPart → Rest → Read A
damaged {A} field rest = Err (record { field = field; at = rest.at })

-- what was read is read on from, or made into something else
abbrev pub then_read : {A B : Type 0} → (A × Rest → Read B) → Read A → Read B
then_read {A} {B} next (Err damage) = Err damage
then_read {A} {B} next (Ok p) = next p

abbrev pub as_read : {A B : Type 0} → (A → B) → Read A → Read B
as_read {A} {B} make (Err damage) = Err damage
as_read {A} {B} make (Ok p) = Ok (make p.0, p.1)

-- so many bytes
abbrev pub first_bytes : SavingPart → ℕ → Rest → Read (List ℕ)
first_bytes field count rest =
    if nat_le count (length rest.bytes) then Ok (take count rest.bytes, rest_at (rest.at + count) (drop count rest.bytes)) else damaged field rest

-- what is read, where a test holds of it; else it can't be read where it begins
abbrev pub if_it : {A : Type 0} → (A → Bool) → SavingPart → Rest → Read A → Read A
if_it {A} test field rest (Err damage) = Err damage
if_it {A} test field rest (Ok p) = if test p.0 then Ok p else damaged field rest

-- one byte
abbrev pub front_byte : List ℕ → ℕ
front_byte [] = 0
front_byte (b ∷ bs) = b

abbrev pub first_byte : SavingPart → Rest → Read ℕ
first_byte field rest = as_read front_byte (first_bytes field 1 rest)

-- whether all are below a limit
abbrev pub are_below : ℕ → List ℕ → Bool
are_below limit bytes = list_all (λ b. nat_lt b limit) bytes

-- a number of 16 bits
abbrev pub first_two_bytes : SavingPart → Rest → Read ℕ
first_two_bytes field rest = as_read (from_le_bytes w16) (first_bytes field 2 rest)

-- and then another value
abbrev pub pair_read : {A B : Type 0} → (Rest → Read B) → A × Rest → Read (A × B)
pair_read {A} {B} read p = as_read (λ (v : B). (p.0, v)) (read p.1)

-- by a mark that is 0 or 1
abbrev pub by_mark : {A : Type 0} → (Rest → Read A) → (Rest → Read A) → ℕ × Rest → Read A
by_mark {A} zero_read one_read p = if p.0 == 0 then zero_read p.1 else one_read p.1

abbrev pub first_mark : SavingPart → Rest → Read ℕ
first_mark field rest = if_it (λ b. nat_lt b 2) field rest (first_byte field rest)

abbrev pub read_times : {A : Type 0} → ℕ → (Rest → Read A) → Rest → Read (List A)
read_times {A} zero read rest = Ok ([], rest)
read_times {A} (suc count) read rest =
    then_read (λ p. as_read (λ (vs : List A). p.0 ∷ vs) (read_times count read p.1)) (read rest)

-- the value with which bytes begin, if they begin with one
abbrev pub decoded : (f : Layout) → Rest → Read (laid_out f)
decoded (Below field limit) rest = if_it (λ b. nat_lt b limit) field rest (first_byte field rest)
decoded (Within field least most) rest = if_it (λ n. nat_le least n && nat_le n most) field rest (first_two_bytes field rest)
decoded (Long field) rest = as_read (from_le_bytes w64) (first_bytes field 8 rest)
decoded (Among field count test) rest = if_it test field rest (first_bytes field count rest)
decoded (Run field most limit) rest =
    if_it (are_below limit) field rest (then_read (λ p. first_bytes field p.0 p.1) (if_it (λ n. nat_le n most) field rest (first_two_bytes field rest)))
decoded (Both f g) rest = then_read (pair_read (decoded g)) (decoded f rest)
decoded (Maybe field f) rest = then_read (by_mark (λ r. Ok (None, r)) (λ r. as_read (λ (v : laid_out f). Some v) (decoded f r))) (first_mark field rest)
decoded (Either field f g) rest =
    then_read (by_mark (λ r. as_read (λ (v : laid_out f). inl v) (decoded f r)) (λ r. as_read (λ (v : laid_out g). inr v) (decoded g r)))
    (first_mark field rest)
decoded (Times count f) rest = read_times count (decoded f) rest
