-- The keys of a request that is read are bytes, and the number of a slot that is closed is within bounds.
use Rattle.std.proofs.Common.{◌≡◌, ℕ, List, true, false, Bool, Option, Some, None, refl, subst, IfOk}
use Rattle.std.specs.Prelude.{Result, Ok, Err, chars, ⊤}
use Rattle.std.specs.List.{list_all}
use Rattle.serde_json.specs.Data.{Data}
use Rattle.serde_json.specs.Find.{as_number, as_str, as_u64}
use Rattle.cpm_protocol.specs.Bytes.{is_byte_character, is_byte_text}
use Rattle.cpm_protocol.specs.Requests.{AskedFault, WireAsked, asked_as, asked_of_kind, asked_tag, bytes_field_at, cpu_at, field_at, files_asked, four_names_at}
use Rattle.cpm_protocol.specs.Requests.{fork_asked, four_names_if, get_asked, goal_of, grant_asked, key_asked, kind_at, known_or, list_asked, look_asked, most_bytes_at}
use Rattle.cpm_protocol.specs.Requests.{most_number, number_field_at, open_asked, or_wrong_field, passed_by, peek_asked, put_asked, read_by, request_asked, resume_asked}
use Rattle.cpm_protocol.specs.Requests.{Close, FourNames, is_number_within, number_within}
use Rattle.cpm_protocol.specs.Requests.{save_asked, slot_asked, tagged_as, take_asked, text_where, turn_asked, close_asked, is_file_name, is_short_text, unknown_name}
use Rattle.std.specs.Prelude.{option_and_then, option_map}
use Rattle.cpm_protocol.specs.Fields.{fields_of_kind}
use Rattle.cpm_protocol.specs.declared.fault.FieldFault.{FieldFault}
use Rattle.cpm_protocol.specs.declared.field.RequestField.{RequestField}
use Rattle.cpm_protocol.specs.declared.field.RequestField.TheVariants as field
use Rattle.cpm_protocol.specs.declared.kind.RequestKind.{RequestKind}
use Rattle.cpm_protocol.specs.declared.kind.RequestKind.TheVariants as kind
use Rattle.cpm_serve.specs.Parts.{HasByteKeys}

-- the first fault of a field, or what follows, as requests are read
infixl 10 ◌>>=◌
abbrev ◌>>=◌ : {A B : Type 0} → Result A FieldFault → (A → Result B FieldFault) → Result B FieldFault
Ok x >>= f = f x
Err fault >>= f = Err fault

abbrev HasSlotWithin : WireAsked → Type 0
HasSlotWithin (Close slot out) = is_number_within 0 most_number slot ≡ true
HasSlotWithin _ = ⊤

abbrev IsRead : WireAsked → Type 0
IsRead r = HasByteKeys r × HasSlotWithin r

-- a request that is read so
abbrev Fine : Result WireAsked FieldFault → Type 0
Fine r = IfOk r IsRead

then : {A : Type 0} (r : Result A FieldFault) (f : A → Result WireAsked FieldFault) → ((x : A) → r ≡ Ok x → Fine (f x)) → Fine (r >>= f)
then (Ok x) f fine = fine x refl
then (Err fault) f fine = tt

-- ---- a text of bytes

passed : (f : RequestField) (t : List ℕ) (keys : List ℕ) (b : Bool) → list_all is_byte_character (chars t) ≡ b → or_wrong_field f (option_map chars (passed_by (λ x. b) (Some t))) ≡ Ok keys → list_all is_byte_character keys ≡ true
passed f t keys true is e = let same : chars t ≡ keys = cc in subst (λ ks. list_all is_byte_character ks ≡ true) same is
passed f t keys false is e = cc

read_text : (f : RequestField) (o : Option (List ℕ)) (keys : List ℕ) → or_wrong_field f (option_map chars (passed_by is_byte_text o)) ≡ Ok keys → list_all is_byte_character keys ≡ true
read_text f None keys e = cc
read_text f (Some t) keys e = passed f t keys (is_byte_text t) refl e

read_field : (f : RequestField) (o : Option Data) (keys : List ℕ) → read_by (λ v. option_map chars (passed_by is_byte_text (as_str v))) f o ≡ Ok keys → list_all is_byte_character keys ≡ true
read_field f None keys e = cc
read_field f (Some v) keys e = read_text f (as_str v) keys e

-- ---- a number

passed-number : (f : RequestField) (low high n m : ℕ) (b : Bool) → is_number_within low high n ≡ b → or_wrong_field f (passed_by (λ x. b) (Some n)) ≡ Ok m → is_number_within low high m ≡ true
passed-number f low high n m true is e = let same : n ≡ m = cc in subst (λ k. is_number_within low high k ≡ true) same is
passed-number f low high n m false is e = cc

read_number : (f : RequestField) (low high : ℕ) (o : Option ℕ) (m : ℕ) → or_wrong_field f (passed_by (is_number_within low high) o) ≡ Ok m → is_number_within low high m ≡ true
read_number f low high None m e = cc
read_number f low high (Some n) m e = passed-number f low high n m (is_number_within low high n) refl e

number_field : (f : RequestField) (low high : ℕ) (o : Option Data) (m : ℕ) → read_by (number_within low high) f o ≡ Ok m → is_number_within low high m ≡ true
number_field f low high None m e = cc
number_field f low high (Some v) m e = read_number f low high (option_and_then as_u64 (as_number v)) m e

-- ---- each request

fine-key : (d : Data) → Fine (key_asked d)
unfolding key_asked
fine-key d = then (slot_asked d) _ (λ slot at. then (bytes_field_at field.Keys d) _ (λ keys e. (read_field field.Keys (field_at field.Keys d) keys e, tt)))

fine-turn : (d : Data) → Fine (turn_asked d)
unfolding turn_asked
fine-turn d = then (slot_asked d) _ (λ slot at. then (bytes_field_at field.Keys d) _ (λ keys e.
    then (number_field_at field.Steps 0 most_number d) _ (λ steps n. (read_field field.Keys (field_at field.Keys d) keys e, tt))))

fine-open : (d : Data) → Fine (open_asked d)
unfolding open_asked
fine-open d = then (cpu_at d) _ (λ cpu a. then (number_field_at field.Quota 0 0xFFFF d) _ (λ quota b. then (four_names_at field.Drives d) _ (λ drives e. (tt, tt))))

fine-resume : (d : Data) → Fine (resume_asked d)
unfolding resume_asked
fine-resume d = then (text_where is_file_name field.From d) _ (λ from a. (tt, tt))

fine-grant : (d : Data) → Fine (grant_asked d)
unfolding grant_asked
fine-grant d = then (slot_asked d) _ (λ slot a. then (number_field_at field.Steps 0 most_number d) _ (λ steps b. then (goal_of (field_at field.Until d) (field_at field.To d)) _ (λ goal e. (tt, tt))))

fine-take : (d : Data) → Fine (take_asked d)
unfolding take_asked
fine-take d = then (slot_asked d) _ (λ slot a. then (most_bytes_at d) _ (λ most b. (tt, tt)))

fine-list : (d : Data) → Fine (list_asked d)
unfolding list_asked
fine-list d = then (slot_asked d) _ (λ slot a. then (most_bytes_at d) _ (λ most b. (tt, tt)))

fine-look : (d : Data) → Fine (look_asked d)
unfolding look_asked
fine-look d = then (slot_asked d) _ (λ slot a. (tt, tt))

fine-peek : (d : Data) → Fine (peek_asked d)
unfolding peek_asked
fine-peek d = then (slot_asked d) _ (λ slot a. then (number_field_at field.Address 0 0xFFFF d) _ (λ address b. then (number_field_at field.Length 1 256 d) _ (λ length e. (tt, tt))))

fine-fork : (d : Data) → Fine (fork_asked d)
unfolding fork_asked
fine-fork d = then (slot_asked d) _ (λ slot a. (tt, tt))

fine-save : (d : Data) → Fine (save_asked d)
unfolding save_asked
fine-save d = then (slot_asked d) _ (λ slot a. then (text_where is_file_name field.File d) _ (λ file b. (tt, tt)))

fine-close : (d : Data) → Fine (close_asked d)
unfolding close_asked
fine-close d = then (slot_asked d) _ (λ slot a. then (four_names_if field.Out d) _ (λ out b. (tt, number_field field.Slot 0 most_number (field_at field.Slot d) slot a)))

fine-put : (d : Data) → Fine (put_asked d)
unfolding put_asked
fine-put d = then (text_where is_file_name field.Drive d) _ (λ drive a. then (text_where is_short_text field.Name d) _ (λ name b. then (bytes_field_at field.Text d) _ (λ text e. (read_field field.Text (field_at field.Text d) text e, tt))))

fine-get : (d : Data) → Fine (get_asked d)
unfolding get_asked
fine-get d = then (text_where is_file_name field.Drive d) _ (λ drive a. then (text_where is_short_text field.Name d) _ (λ name b. (tt, tt)))

fine-files : (d : Data) → Fine (files_asked d)
unfolding files_asked
fine-files d = then (text_where is_file_name field.Drive d) _ (λ drive a. (tt, tt))

fine-as : (k : RequestKind) (d : Data) → Fine (asked_as k d)
fine-as kind.Open d = fine-open d
fine-as kind.Resume d = fine-resume d
fine-as kind.Key d = fine-key d
fine-as kind.Grant d = fine-grant d
fine-as kind.Take d = fine-take d
fine-as kind.List d = fine-list d
fine-as kind.Look d = fine-look d
fine-as kind.Peek d = fine-peek d
fine-as kind.Fork d = fine-fork d
fine-as kind.Save d = fine-save d
fine-as kind.Close d = fine-close d
fine-as kind.Turn d = fine-turn d
fine-as kind.Put d = fine-put d
fine-as kind.Get d = fine-get d
fine-as kind.Files d = fine-files d

-- ---- a whole request

fine-known : (o : Option (List ℕ)) (r : Result WireAsked FieldFault) → Fine r → IfOk (known_or o r) IsRead
fine-known (Some name) r fine = tt
fine-known None (Ok x) fine = fine
fine-known None (Err fault) fine = tt

fine-kind : (d : Data) (k : Result RequestKind FieldFault) → IfOk (asked_of_kind d k) IsRead
fine-kind d (Err fault) = tt
fine-kind d (Ok k) = fine-known (unknown_name (fields_of_kind k) d) (tagged_as (asked_tag d) (asked_as k d)) (then (asked_tag d) (λ t. asked_as k d) (λ t e. fine-as k d))

fine : (d : Data) → IfOk (request_asked d) IsRead
unfolding request_asked
fine d = fine-kind d (kind_at d)

read : (d : Data) (r : WireAsked) → request_asked d ≡ Ok r → IsRead r
read d r e = subst (λ (x : Result WireAsked AskedFault). IfOk x IsRead) e (fine d)

pub byte-keys : (d : Data) (r : WireAsked) → request_asked d ≡ Ok r → HasByteKeys r
byte-keys d r e = (read d r e).0

pub slot-within : (d : Data) (slot : ℕ) (out : FourNames) → request_asked d ≡ Ok (Close slot out) → is_number_within 0 most_number slot ≡ true
slot-within d slot out e = (read d (Close slot out) e).1
