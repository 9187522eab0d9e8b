-- What the getters of clap read, in the words of `specs/`.
use Rattle.std.proofs.Common.{◌≡◌, ◌∙◌, ◌<◌, ◌≤◌, ◌∷◌, [], List, length, map, ⊎_elim, true≢false, arith, ℕ, Bool, true, false, Option, Some, None, Result, Ok, ap, codes, refl, subst, sym, option_map, IsSome}
use Rattle.std.specs.Str.Parse.{digits_value, without_leading_plus, ParsesUnsigned, ExplainsUnsignedError, HasUnsignedDigitsIfOk}
use Rattle.std.specs.declared.num.ParseIntError.{ParseIntError}
use Rattle.std.specs.Prelude.{find, option_and_then, slice_get}
use Rattle.std.specs.Borrow.{Bor}
use Rattle.std.specs.Str.{bytes_eq}
use Rattle.clap.specs.Words.{ReadsOne, Row, Text, all_of, first_of}
use Rattle.clap.specs.Values.{bool_text}
use Rattle.cpm_flags.specs.declared.regs.Cpu.{Cpu}
use Rattle.cpm_flags.specs.declared.regs.Cpu.TheVariants.{I8080, Z80}
use Rattle.cpm_command_line.specs.CommandLine.{IsCount, IsCountIfAny, IsFlag, IsPick, ReadsCount, ReadsCountIfAny, flag_text}
use Rattle.cpm_command_line.specs.DiskLine.{IsUser, IsUserIfAny, ReadsUser, ReadsUserIfAny}

-- an option is there where its image is
pub some_before : {A B : Type 0} (f : A → B) (o : Option A) (p : Option B) → option_map f o ≡ p → IsSome p → IsSome o
some_before f None p is some = subst IsSome (sym is) some
some_before f (Some x) p is some = refl

-- and is the image of what is there
pub some_image : {A B : Type 0} (f : A → B) (o : Option A) (p : Option B) (x : A) → option_map f o ≡ p → o ≡ Some x → p ≡ Some (f x)
some_image f o p x is there = sym is ∙ ap (option_map f) there

-- a getter that gave x read x from the text of its entry
pub one_read : {T E : Type 0} (G : Text → Result T E → Type 0) (text : Option Text) (r : Option T) (x : T) → (text ≡ None → r ≡ None)
    → ((t : Text) → text ≡ Some t → ReadsOne G t r) → r ≡ Some x → (t : Text) × (text ≡ Some t) × G t (Ok x)
one_read G None r x none value is = let bad = none refl in cc
one_read G (Some t) r x none value is = (t, refl, subst (ReadsOne G t) is (value t refl))

abbrev pub GivesCount : Text → Result ℕ ParseIntError → Type 0
GivesCount bs r = ParsesUnsigned 64 10 bs r × ExplainsUnsignedError 10 bs r × HasUnsignedDigitsIfOk bs r

-- the number that a getter gave
pub count_read : (text : Option Text) (r : Option ℕ) (n : ℕ) → (text ≡ None → r ≡ None) → ((t : Text) → text ≡ Some t → ReadsOne GivesCount t r)
    → r ≡ Some n → ReadsCount text n
count_read text r n none value is =
    let read = one_read GivesCount text r n none value is in
    let got = read.2.0 in
    record { digits = read.0; given = read.1; numeral = got.0.0; value = got.1 }

-- a getter gives a number where one stands
pub count_given : (text : Option Text) (r : Option ℕ) → ((t : Text) → text ≡ Some t → ReadsOne GivesCount t r) → IsCount text → IsSome r
count_given text (Some n) value count = refl
count_given text None value count =
    let read = value count.digits count.given in
    absurd (read.1.0 (count.numeral, count.fits))

-- the number that a getter gave, or none
pub count_if_any : (text : Option Text) (r : Option ℕ) → (text ≡ None → r ≡ None) → ((t : Text) → text ≡ Some t → ReadsOne GivesCount t r)
    → IsCountIfAny text → ReadsCountIfAny text r
count_if_any text (Some n) none value any = count_read text (Some n) n none value refl
count_if_any text None none value any = ⊎_elim (λ (h : text ≡ None). h) (λ count. absurd (true≢false (sym (count_given text None value count)))) any

-- what a flag's getter says is what stands there
pub pick_read : (text : Option Text) (b : Bool) → (text ≡ Some (codes "true") → b ≡ true) → (text ≡ Some (codes "false") → b ≡ false) → IsPick text
    → text ≡ Some (bool_text b)
pick_read text b on off pick = go pick.cpu pick.given
  where
    go : (cpu : Cpu) → text ≡ Some (flag_text cpu) → text ≡ Some (bool_text b)
    go I8080 is = is ∙ ap (λ (t : Bool). Some (bool_text t)) (sym (off is))
    go Z80 is = is ∙ ap (λ (t : Bool). Some (bool_text t)) (sym (on is))

-- and of any flag
pub flag_read : (text : Option Text) (b : Bool) → (text ≡ Some (codes "true") → b ≡ true) → (text ≡ Some (codes "false") → b ≡ false) → IsFlag text
    → text ≡ Some (bool_text b)
flag_read text b on off flag = go flag.value flag.given
  where
    go : (v : Bool) → text ≡ Some (bool_text v) → text ≡ Some (bool_text b)
    go false is = is ∙ ap (λ (t : Bool). Some (bool_text t)) (sym (off is))
    go true is = is ∙ ap (λ (t : Bool). Some (bool_text t)) (sym (on is))

-- the number of a user is a number
pub user_count : (text : Option Text) → IsUser text → IsCount text
user_count text user = record { digits = user.digits; given = user.given; numeral = user.numeral; fits = omega (arith, user.fits) }

-- the number of a user that a getter gave
pub user_read : (text : Option Text) (r : Option ℕ) (n : ℕ) → (text ≡ None → r ≡ None) → ((t : Text) → text ≡ Some t → ReadsOne GivesCount t r)
    → r ≡ Some n → IsUser text → ReadsUser text n
user_read text r n none value is user =
    let read = count_read text r n none value is in
    let there : Some user.digits ≡ Some read.digits = sym user.given ∙ read.given in
    let same : user.digits ≡ read.digits = cc in
    let low : digits_value 10 (without_leading_plus read.digits) ≤ 15 = subst (λ (d : Text). digits_value 10 (without_leading_plus d) ≤ 15) same user.fits in
    (read, subst (λ (m : ℕ). m ≤ 15) (sym read.value) low)

-- the number of a user that a getter gave, or none
pub user_if_any : (text : Option Text) (r : Option ℕ) → (text ≡ None → r ≡ None) → ((t : Text) → text ≡ Some t → ReadsOne GivesCount t r)
    → IsUserIfAny text → ReadsUserIfAny text r
user_if_any text (Some n) none value any =
    ⊎_elim (λ (h : text ≡ None). let bad = none h in cc) (λ user. user_read text (Some n) n none value refl user) any
user_if_any text None none value any =
    ⊎_elim (λ (h : text ≡ None). h) (λ user. absurd (true≢false (sym (count_given text None value (user_count text user))))) any

-- an argument with a first text has texts
pub all_there : (id : Text) (rows : List Row) → IsSome (first_of id rows) → IsSome (all_of id rows)
all_there id rows first = go (find (λ r. bytes_eq r.id id) rows) first
  where
    go : (found : Option Row) → IsSome (option_and_then (λ r. slice_get r.values 0) found) → IsSome (option_map (λ r. r.values) found)
    go None h = absurd (true≢false (sym h))
    go (Some r) h = refl

some_first : (texts : List Text) → IsSome (slice_get texts 0) → 0 < length texts
some_first [] h = absurd (true≢false (sym h))
some_first (t ∷ ts) h = omega arith

-- and one at least
pub one_there : (id : Text) (rows : List Row) (texts : List Text) → IsSome (first_of id rows) → all_of id rows ≡ Some texts → 0 < length texts
one_there id rows texts first is = go (find (λ r. bytes_eq r.id id) rows) first is
  where
    go : (found : Option Row) → IsSome (option_and_then (λ r. slice_get r.values 0) found) → option_map (λ r. r.values) found ≡ Some texts → 0 < length texts
    go None h e = absurd (true≢false (sym h))
    go (Some r) h e =
        let same : r.values ≡ texts = cc in
        some_first texts (subst (λ (vs : List Text). IsSome (slice_get vs 0)) same h)

-- and so are the words behind references
pub one_word : (words : List (Bor Text)) → 0 < length (map (λ w. w.now) words) → 0 < length words
one_word [] h = h
one_word (w ∷ ws) h = omega arith
