-- One more entry of a drive that is logged in, or from which a file is erased.
use Rattle.std.proofs.Common.{◌≡◌, ◌≢◌, ◌<◌, ◌+◌, ◌||◌, ◌&&◌, eqb, ℕ, List, length, get_or, set, take, true, false, not, Bool, sym, refl, ap, ◌∙◌, arith}
use Rattle.std.specs.List.{list_any}
use Rattle.std.proofs.lemmas.List.Folds.{list_any_more}
use Rattle.std.proofs.lemmas.Bool.{ne_eqb, eq-eqb}
use Rattle.cpm_volume.specs.declared.extent.Entry.{Entry}
use Rattle.std.proofs.Common.{ltb, inl, inr, ◌≤◌}
use Rattle.std.proofs.lemmas.List.{length-take-le, get_or-take, get_or-set_same, get_or-set_other}
use Rattle.std.proofs.lemmas.List.FromFn.{fill_by_all}
use Rattle.std.proofs.lemmas.Bool.{cases_eq, cases_lt, lt-ltb, le-ltb}
use Rattle.cpm_geom.specs.declared.dpb.Dpb.{Dpb}
use Rattle.cpm_volume.specs.Reserved.{is_reserved, is_directory_block}
use Rattle.cpm_volume.specs.Names.{is_named, is_erased, reserved_after}
use Rattle.cpm_directory.specs.Login.{has_block, reserved_at_login}

or_assoc : (a b c : Bool) → ((a || b) || c) ≡ (a || (b || c))
or_assoc true b c = refl
or_assoc false b c = refl

or_false : (a : Bool) → (a || false) ≡ a
or_false true = refl
or_false false = refl

pub entry_in_use : (b : ℕ) (es : List Entry) (i : ℕ) (d : Entry) (was old new : Bool) → i < length es → (get_or es i d).user ≢ 229 → old ≡ (was || list_any (has_block b) (take i es)) → new ≡ (old || list_any (λ number. eqb number b) (get_or es i d).extent.blocks) → new ≡ (was || list_any (has_block b) (take (i + 1) es))
unfolding has_block
entry_in_use b es i d was old new h used o n =
    rw (list_any_more (has_block b) es i d h, ne_eqb _ _ used) (n ∙ (rw o (or_assoc was _ _)))

pub entry_unused : (b : ℕ) (es : List Entry) (i : ℕ) (d : Entry) (was old : Bool) → i < length es → (get_or es i d).user ≡ 229 → old ≡ (was || list_any (has_block b) (take i es)) → old ≡ (was || list_any (has_block b) (take (i + 1) es))
unfolding has_block
entry_unused b es i d was old h unused o =
    rw (list_any_more (has_block b) es i d h, eq-eqb _ _ unused, or_false) o

-- the first tests of a table are the reserved blocks
pub logged_in : (d : Dpb) (es : List Entry) (blocks : List Bool) (count : ℕ) → length blocks ≡ 512 → count ≡ d.last_block + 1 → count ≤ 512 → get_or blocks 0 true ≡ is_directory_block d 0 → ((b : ℕ) → 0 < b → b < 512 → get_or blocks b true ≡ (is_directory_block d b || list_any (has_block b) es)) → take count blocks ≡ reserved_at_login d es
unfolding reserved_at_login
logged_in d es blocks count size e small zero others =
    let f : ℕ → Bool = λ b. is_directory_block d b || (ltb 0 b && list_any (has_block b) es) in
    rw e (fill_by_all (λ b. is_directory_block d b || (ltb 0 b && list_any (has_block b) es)) (take (d.last_block + 1) blocks) (d.last_block + 1) true (length-take-le (d.last_block + 1) blocks (omega arith)) (λ b h. get_or-take (d.last_block + 1) blocks b true h ∙ elim (cases_eq b 0) [
      | inl z ↦ rw z (zero ∙ sym (or_false _))
      | inr n ↦ rw (lt-ltb 0 b (omega arith)) (others b (omega arith) (omega arith))
    ]))

or_true : (a : Bool) → (a || true) ≡ true
or_true true = refl
or_true false = refl

and_false : (a : Bool) → (a && false) ≡ false
and_false true = refl
and_false false = refl

and_true : (a : Bool) → (a && true) ≡ a
and_true true = refl
and_true false = refl

kept : (was dir low : Bool) → was ≡ (was && (dir || not (low && false)))
kept false dir low = refl
kept true true low = refl
kept true false true = refl
kept true false false = refl

-- one more entry that is erased
split : (was dir low all one : Bool) → ((was && (dir || not (low && all))) && (dir || not (low && one))) ≡ (was && (dir || not (low && (all || one))))
split false dir low all one = refl
split true true low all one = refl
split true false false all one = refl
split true false true true one = refl
split true false true false one = refl

pub entry_erased : (user : ℕ) (name : List ℕ) (b : ℕ) (es : List Entry) (i : ℕ) (d : Entry) (was dir old new : Bool) → i < length es → is_named user name (get_or es i d) ≡ true → old ≡ (was && (dir || not (is_erased user name (take i es) b))) → new ≡ (old && (dir || not (ltb 0 b && list_any (λ number. eqb number b) (get_or es i d).extent.blocks))) → new ≡ (was && (dir || not (is_erased user name (take (i + 1) es) b)))
unfolding is_erased
entry_erased user name b es i d was dir old new h named o n =
    rw (list_any_more (λ (e : Entry). is_named user name e && list_any (λ number. eqb number b) e.extent.blocks) es i d h, named) (n ∙ (rw o (split was dir (ltb 0 b) _ _)))

pub entry_stays : (user : ℕ) (name : List ℕ) (b : ℕ) (es : List Entry) (i : ℕ) (d : Entry) (was dir old : Bool) → i < length es → is_named user name (get_or es i d) ≡ false → old ≡ (was && (dir || not (is_erased user name (take i es) b))) → old ≡ (was && (dir || not (is_erased user name (take (i + 1) es) b)))
unfolding is_erased
entry_stays user name b es i d was dir old h other o =
    rw (list_any_more (λ (e : Entry). is_named user name e && list_any (λ number. eqb number b) e.extent.blocks) es i d h, other, or_false) o

-- the first tests of a table are the blocks that stay reserved
pub erased : (d : Dpb) (user : ℕ) (name : List ℕ) (es : List Entry) (old new : List Bool) (count : ℕ) → length old ≡ 512 → length new ≡ 512 → count ≤ 512 → ((b : ℕ) → b < 512 → get_or new b true ≡ (get_or old b true && (is_directory_block d b || not (is_erased user name es b)))) → take count new ≡ reserved_after d user name es (take count old)
unfolding reserved_after is_reserved
erased d user name es old new count size size' small at =
    let l = length-take-le count old (omega arith) in
    rw l (fill_by_all (λ b. get_or (take count old) b true && (is_directory_block d b || not (is_erased user name es b))) (take count new) count true (length-take-le count new (omega arith)) (λ b h. get_or-take count new b true h ∙ (at b (omega arith) ∙ ap (λ (t : Bool). t && (is_directory_block d b || not (is_erased user name es b))) (sym (get_or-take count old b true h)))))

pub none_erased : (user : ℕ) (name : List ℕ) (b : ℕ) (es : List Entry) (was dir : Bool) → was ≡ (was && (dir || not (is_erased user name (take 0 es) b)))
unfolding is_erased
none_erased user name b es was dir = kept was dir (ltb 0 b)

-- one more number of an entry is marked, or released
pub more_marked : (numbers : List ℕ) (i b : ℕ) (was old new : Bool) → i < length numbers → old ≡ (was || list_any (λ number. eqb number b) (take i numbers)) → new ≡ (old || eqb (get_or numbers i 0) b) → new ≡ (was || list_any (λ number. eqb number b) (take (i + 1) numbers))
more_marked numbers i b was old new h o n =
    rw (list_any_more (λ number. eqb number b) numbers i 0 h) (n ∙ (rw o (or_assoc was _ _)))

pub mark_at : (tests : List Bool) (n b : ℕ) → b < length tests → get_or (set tests n true) b true ≡ (get_or tests b true || eqb n b)
mark_at tests n b h =
    elim (cases_eq b n) [
      | inl same ↦ rw (← same, get_or-set_same tests b true true h, eq-eqb b b refl) (sym (or_true _))
      | inr other ↦ rw (get_or-set_other tests n b true true other, ne_eqb n b (λ e. other (sym e))) (sym (or_false _))
    ]

pub not_marked : (test : Bool) (n b : ℕ) → n < b → test ≡ (test || eqb n b)
not_marked test n b h = rw (ne_eqb n b (λ e. omega arith)) (sym (or_false test))

pub more_released : (numbers : List ℕ) (i b : ℕ) (was dir old new : Bool) → i < length numbers → old ≡ (was && (dir || not (ltb 0 b && list_any (λ number. eqb number b) (take i numbers)))) → new ≡ (old && (dir || not (ltb 0 b && eqb (get_or numbers i 0) b))) → new ≡ (was && (dir || not (ltb 0 b && list_any (λ number. eqb number b) (take (i + 1) numbers))))
more_released numbers i b was dir old new h o n =
    rw (list_any_more (λ number. eqb number b) numbers i 0 h) (n ∙ (rw o (split was dir (ltb 0 b) _ _)))

-- a number that isn't 0 or the directory's is released, and another is not
pub release_at : (tests : List Bool) (n b : ℕ) (dir : ℕ → Bool) → b < length tests → 0 < n → dir n ≡ false → get_or (set tests n false) b true ≡ (get_or tests b true && (dir b || not (ltb 0 b && eqb n b)))
release_at tests n b dir h low free =
    elim (cases_eq b n) [
      | inl same ↦ rw (same, get_or-set_same tests n false true (omega arith), free, eq-eqb n n refl, lt-ltb 0 n low) (sym (and_false _))
      | inr other ↦ rw (get_or-set_other tests n b false true other, ne_eqb n b (λ e. other (sym e))) (kept _ (dir b) (ltb 0 b))
    ]

pub not_released : (test : Bool) (n b : ℕ) (dir : ℕ → Bool) → (0 < n → dir n ≡ true) → test ≡ (test && (dir b || not (ltb 0 b && eqb n b)))
not_released test n b dir stays =
    elim (cases_eq b n) [
      | inl same ↦ elim (cases_lt 0 n) [
        | inl low ↦ rw (same, stays low) (sym (and_true test))
        | inr none ↦ rw (same, le-ltb 0 n none) (whole test (dir n))
      ]
      | inr other ↦ rw (ne_eqb n b (λ e. other (sym e))) (kept test (dir b) (ltb 0 b))
    ]
  where
    whole : (test dir : Bool) → test ≡ (test && (dir || true))
    whole test true = sym (and_true test)
    whole test false = sym (and_true test)
