-- Bytes that are read, and the keys among them.
use Rattle.std.proofs.Common.{◌≡◌, ℕ, ◌<◌, ◌==◌, nat_lt, ◌++◌, Bool, true, false, if◌then◌else◌, List, [], ◌∷◌, Option, Some, None, MatchOption, Result, Ok, IfOk, refl, sym, ap, ap₂, ◌∙◌, subst, arith}
use Rattle.std.proofs.lemmas.Bool.Decides.{nat_tests}
use Rattle.std.specs.Char.{is_ascii}
use Rattle.std.proofs.lemmas.List.{append_assoc}
use Rattle.std.specs.Io.KnownBytes.{Consumes, Keeps}
use Rattle.cpm_play.specs.Typing.{AreKeysOf, HasReadKeys, end_key, typed_keys}

-- bytes that are consumed twice
pub consumes_more : (before middle after : Option (List ℕ)) (xs ys : List ℕ) → Consumes before middle xs → Consumes middle after ys → Consumes before after (xs ++ ys)
consumes_more None middle after xs ys a b = tt
consumes_more (Some w) None after xs ys a b = absurd a
consumes_more (Some w) (Some x) None xs ys a b = absurd b
consumes_more (Some w) (Some x) (Some y) xs ys a b = a ∙ ap (λ v. xs ++ v) b ∙ sym (append_assoc xs ys y)

consumes_none : (o : Option (List ℕ)) → Consumes o o []
consumes_none None = tt
consumes_none (Some xs) = refl

consumes_kept : (before after : Option (List ℕ)) → Keeps before after → Consumes before after []
consumes_kept None after k = tt
consumes_kept (Some xs) None k = k
consumes_kept (Some xs) (Some ys) k = sym k

-- bytes that have these keys
read_these : (before after : Option (List ℕ)) (bytes keys : List ℕ) → Consumes before after bytes → ((rest : List ℕ) → typed_keys (bytes ++ rest) ≡ keys ++ typed_keys rest) →
    HasReadKeys before after keys
read_these None after bytes keys consumed goes_on = tt
read_these (Some x) after bytes keys consumed goes_on = record { bytes = bytes; consumed = consumed; goes_on = goes_on }

pub read_none : (o : Option (List ℕ)) → HasReadKeys o o []
read_none o = read_these o o [] [] (consumes_none o) (λ rest. refl)

pub read_kept : (before after : Option (List ℕ)) → Keeps before after → HasReadKeys before after []
read_kept before after k = read_these before after [] [] (consumes_kept before after k) (λ rest. refl)

read_on : (before middle after : Option (List ℕ)) (keys more : List ℕ) → AreKeysOf before middle keys → AreKeysOf middle after more → AreKeysOf before after (keys ++ more)
read_on before middle after keys more a b = record {
  bytes = a.bytes ++ b.bytes;
  consumed = consumes_more before middle after a.bytes b.bytes a.consumed b.consumed;
  goes_on = λ rest. ap typed_keys (append_assoc a.bytes b.bytes rest) ∙ a.goes_on (b.bytes ++ rest) ∙ ap (λ v. keys ++ v) (b.goes_on rest) ∙ sym (append_assoc keys more (typed_keys rest));
}

pub read_more : (before middle after : Option (List ℕ)) (keys more : List ℕ) → HasReadKeys before middle keys → HasReadKeys middle after more → HasReadKeys before after (keys ++ more)
read_more None middle after keys more a b = tt
read_more (Some x) None after keys more a b = absurd a.consumed
read_more (Some x) (Some y) after keys more a b = read_on (Some x) (Some y) after keys more a b

-- ---- one byte

one_in : (b : ℕ) (rest : List ℕ) → (b == end_key) ≡ false → nat_lt b 0x80 ≡ true → typed_keys (b ∷ rest) ≡ b ∷ typed_keys rest
one_in b rest other low = ap₂ (λ (x y : Bool). if x then [] else (if y then b ∷ typed_keys rest else typed_keys rest)) other low

none_in : (b : ℕ) (rest : List ℕ) → (b == end_key) ≡ false → nat_lt b 0x80 ≡ false → typed_keys (b ∷ rest) ≡ typed_keys rest
none_in b rest other high = ap₂ (λ (x y : Bool). if x then [] else (if y then b ∷ typed_keys rest else typed_keys rest)) other high

module _ (before middle after : Option (List ℕ)) (b : ℕ) (read : HasReadKeys before middle []) (next : Consumes middle after (b ∷ [])) (other : b ≡ end_key → ⊥) where
  pub read_key : is_ascii b ≡ true → (b < 128) × HasReadKeys before after (b ∷ [])
  read_key low =
      let not_end : (b == end_key) ≡ false = grind (arith, nat_tests) in
      let below : b < 128 = grind (arith, nat_tests) in
      let is : nat_lt b 0x80 ≡ true = grind (arith, nat_tests) in
      (below, read_more before middle after [] (b ∷ []) read (read_these middle after (b ∷ []) (b ∷ []) next (λ rest. one_in b rest not_end is)))

  pub pass_byte : is_ascii b ≡ false → HasReadKeys before after []
  pass_byte high =
      let not_end : (b == end_key) ≡ false = grind (arith, nat_tests) in
      let is : nat_lt b 0x80 ≡ false = grind (arith, nat_tests) in
      read_more before middle after [] [] read (read_these middle after (b ∷ []) [] next (λ rest. none_in b rest not_end is))

-- what is ensured of a byte that came
pub of_byte : {E : Type 0} (P : Type 0) (Q : ℕ → Type 0) (r : Result (Option ℕ) E) (o : Option ℕ) (b : ℕ) → r ≡ Ok o → o ≡ Some b → IfOk r (λ x. MatchOption x P Q) → Q b
of_byte P Q r o b is some h = subst (λ x. MatchOption x P Q) some (subst (λ x. IfOk x (λ y. MatchOption y P Q)) is h)
