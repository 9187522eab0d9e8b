-- What has a value under a table has the same value under each table that extends it.
use Rattle.std.proofs.Common.{◌≡◌, ℕ, List, ap, ap₂, sym, ◌∙◌, refl}
use Rattle.std.specs.Prelude.{Option, None, Some, Bool, true, false, ◌||◌, is_some, option_and_then}
use Rattle.std.proofs.lemmas.Bool.{true≢false}
use Rattle.cpm_asm_expression.specs.Names.{NameTable, Extends}
use Rattle.cpm_asm_expression.specs.Values.{atom_value, changed, combined, named_value}
use Rattle.cpm_asm_expression.specs.Grammar.{Tree, atom, bracketed, weaker, prefixed, chained, value, Spells}
use Rattle.cpm_asm_expression.specs.Reading.{reading, value_at}
use Rattle.cpm_asm_expression.specs.Tokens.{tokens_of}
use Rattle.cpm_asm_expression.specs.declared.names.Name.{Name}
use Rattle.cpm_asm_expression.specs.declared.tokens.Atom.{Atom}
use Rattle.cpm_asm_expression.specs.declared.tokens.Atom.TheVariants as atoms
use Rattle.cpm_asm_expression.specs.declared.tokens.Token.{Token}
use Rattle.cpm_asm_expression.specs.declared.values.CheckedValue.{CheckedValue}
use Rattle.cpm_asm_expression.proofs.Sound.{only_spelled}
use Rattle.cpm_asm_expression.proofs.TreesRead.{spelled_read}

neither : (a b : Bool) → (a || b) ≡ false → (a ≡ false) × (b ≡ false)
neither true b h = absurd (true≢false h)
neither false b h = (refl, h)

named_stable : (m t : NameTable) (e : Extends m t) (n : Name) (o : Option ℕ) → m n ≡ o → (named_value o).is_unknown ≡ false → named_value (t n) ≡ named_value (m n)
named_stable m t e n None p h = absurd (true≢false h)
named_stable m t e n (Some v) p h = ap named_value (e n v p ∙ sym p)

atom_stable : (m t : NameTable) (e : Extends m t) (a : ℕ) (x : Atom) → (atom_value m a x).is_unknown ≡ false → atom_value t a x ≡ atom_value m a x
atom_stable m t e a (atoms.Number n) h = refl
atom_stable m t e a (atoms.Named n) h = named_stable m t e n (m n) refl h
atom_stable m t e a atoms.Here h = refl

tree_stable : (m t : NameTable) (e : Extends m t) (a : ℕ) {l : ℕ} (x : Tree l) → (value m a x).is_unknown ≡ false → value t a x ≡ value m a x
tree_stable m t e a (atom x) h = atom_stable m t e a x h
tree_stable m t e a (bracketed x) h = tree_stable m t e a x h
tree_stable m t e a (weaker l x) h = tree_stable m t e a x h
tree_stable m t e a (prefixed p x) h = ap (changed p) (tree_stable m t e a x h)
tree_stable m t e a (chained o x y) h =
    let known = neither (value m a x).is_unknown (value m a y).is_unknown h in
    ap₂ (combined o) (tree_stable m t e a x known.0) (tree_stable m t e a y known.1)

reading_stays : (m t : NameTable) (e : Extends m t) (a : ℕ) (ts : List Token) (v : CheckedValue) → reading m a ts ≡ Some v → v.is_unknown ≡ false → reading t a ts ≡ Some v
reading_stays m t e a ts v h known =
    let s = only_spelled m a ts v h in
    let same = tree_stable m t e a s.tree (ap (λ (x : CheckedValue). x.is_unknown) s.is ∙ known) in
    spelled_read t a ts v (record { tree = s.tree; is = same ∙ s.is; written = s.written })

from_tokens : (m t : NameTable) (e : Extends m t) (a : ℕ) (o : Option (List Token)) (v : CheckedValue)
    → option_and_then (reading m a) o ≡ Some v → v.is_unknown ≡ false → option_and_then (reading t a) o ≡ Some v
from_tokens m t e a None v h known = h
from_tokens m t e a (Some ts) v h known = reading_stays m t e a ts v h known

pub value_stays : (m t : NameTable) (a : ℕ) (text : List ℕ) (v : CheckedValue) → Extends m t → value_at m a text ≡ Some v → v.is_unknown ≡ false → value_at t a text ≡ Some v
unfolding value_at
value_stays m t a text v e h known = from_tokens m t e a (tokens_of text) v h known

read_elsewhere : (m t : NameTable) (a b : ℕ) (ts : List Token) (v : CheckedValue) → reading m a ts ≡ Some v → is_some (reading t b ts) ≡ true
read_elsewhere m t a b ts v h =
    let s = only_spelled m a ts v h in
    ap is_some (spelled_read t b ts (value t b s.tree) (record { tree = s.tree; is = refl; written = s.written }))

both_some : (x y : Option CheckedValue) → ((v : CheckedValue) → x ≡ Some v → is_some y ≡ true) → ((v : CheckedValue) → y ≡ Some v → is_some x ≡ true) → is_some x ≡ is_some y
both_some None None f g = refl
both_some None (Some w) f g = g w refl
both_some (Some v) y f g = sym (f v refl)

tokens_elsewhere : (m t : NameTable) (a b : ℕ) (o : Option (List Token)) → is_some (option_and_then (reading m a) o) ≡ is_some (option_and_then (reading t b) o)
tokens_elsewhere m t a b None = refl
tokens_elsewhere m t a b (Some ts) = both_some (reading m a ts) (reading t b ts) (λ v h. read_elsewhere m t a b ts v h) (λ v h. read_elsewhere t m b a ts v h)

pub expression_anywhere : (m t : NameTable) (a b : ℕ) (text : List ℕ) → is_some (value_at m a text) ≡ is_some (value_at t b text)
unfolding value_at
expression_anywhere m t a b text = tokens_elsewhere m t a b (tokens_of text)
