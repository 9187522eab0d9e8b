-- How many keys a script is known to have before a count: no more than a script may have.
use Rattle.std.proofs.Common.{◌≡◌, ◌∙◌, ◌<◌, ℕ, suc, ◌+◌, ◌≤◌, Bool, true, false, Option, Some, None, Result, Ok, Err, IfOk, List, [], ◌∷◌, length, map, get_or, drop, refl, sym, ap, subst, arith, if◌then◌else◌, cond}
use Rattle.std.specs.Option.{option_map_or}
use Rattle.std.specs.Prelude.{String, is_some, nat_lt, option_map, string_bytes}
use Rattle.std.specs.declared.alloc.Global.{Global}
use Rattle.std.proofs.lemmas.Bool.Decides.{nat_tests}
use Rattle.std.proofs.lemmas.List.{at_drop_all, drop_more}
use Rattle.cpm_script.specs.Cues.{Awaited, Counted, CueText, Pressed, cue_text, cued_key_count, cues}
use Rattle.cpm_script.specs.Fork.{keys_before, own_cues}
use Rattle.cpm_script.specs.Laws.{AreInOrder}
use Rattle.cpm_script.specs.declared.cue.Cue.{Cue}
use Rattle.cpm_script.specs.declared.cue.Cue.TheVariants as cue
use Rattle.cpm_script.specs.declared.fault.LineFault.{LineFault}
use Rattle.cpm_script.specs.declared.script.Key.{Key}
use Rattle.cpm_script.proofs.CueLaws.{cues-ordered}
use Rattle.cpm_script.proofs.ForkLemmas.{length-keys_before}
use Rattle.cpm_config.specs.declared.config.Origin.{Origin}
use Rattle.cpm_config.specs.declared.config.Origin.TheVariants as origin
use Rattle.cpm_store.specs.Files.{StoreFiles, StoreName}
use Rattle.cpm_batch.specs.Inputs.{HasForkedSaid, HasInputOf, HasSaid, SessionInput, known_before, known_of, own_count, timed_keys}
use Rattle.cpm_batch.specs.Sources.{replay_of, script_source, source_or}
use Rattle.cpm_batch.specs.declared.source.Replay.{Replay}

-- ---- what a script says has not too many keys

abbrev pub AreFew : List CueText → Type 0
AreFew said = cued_key_count said ≤ 4096

few-read : (text : List ℕ) (said : List CueText) → cues text ≡ Ok said → AreFew said
few-read text said is =
    let order : AreInOrder said = subst (λ (r : Result (List CueText) (ℕ × LineFault)). IfOk r AreInOrder) is (cues-ordered text) in
    order.few

-- the own script of a forked session is read as any script
own-read : (fault : Option (ℕ × LineFault)) (read : Result (List CueText) (ℕ × LineFault)) (said : List CueText) → own_cues fault read ≡ Ok said → read ≡ Ok said
own-read fault (Err first) said is = absurd (cc)
own-read None (Ok own) said is = is
own-read (Some fault) (Ok own) said is = absurd (cc)

-- ---- the keys that are known before a count are no more than all of them

-- how many keys they are; none where they aren't known
abbrev key_count : Option (List Key) → ℕ
key_count keys = option_map_or (λ ks. length ks) keys 0

few-more : (key : Key) (n : ℕ) (keys : Option (List Key)) → key_count keys ≤ n → key_count (option_map (λ ks. key ∷ ks) keys) ≤ suc n
few-more key n None few = omega arith
few-more key n (Some keys) few = omega (arith, few)

few-timed : (said : List CueText) → key_count (timed_keys said) ≤ cued_key_count said
few-timed [] = omega arith
few-timed (Counted key ∷ cs) = few-more key (cued_key_count cs) (timed_keys cs) (few-timed cs)
few-timed (Awaited text ∷ cs) = omega arith
few-timed (Pressed byte ∷ cs) = omega arith

fewer-before : (at n : ℕ) (keys : Option (List Key)) → key_count keys ≤ n → option_map_or (λ ks. length (keys_before at ks)) keys 0 ≤ n
fewer-before at n None few = few
fewer-before at n (Some keys) few = omega (arith, length-keys_before at keys, few)

few-known : (at : ℕ) (said : List CueText) → AreFew said → known_before at said ≤ 4096
few-known at said few = omega (arith, fewer-before at (cued_key_count said) (timed_keys said) (few-timed said), few)

-- that of a session that is opened, and of one that is forked; no recording stands in its place
few_opened : (files : Option StoreFiles) (name : Option (String Global)) (said : List CueText) → HasSaid files (script_source name) said → AreFew said
few_opened files None said none = subst AreFew (sym none) (omega arith)
few_opened files (Some name) said some = few-read some.text said some.read

few_forked : (files : Option StoreFiles) (name : Option (String Global)) (at before : ℕ) (said : List CueText) → HasForkedSaid files (script_source name) at before said → AreFew said
few_forked files None at before said none = subst AreFew (sym none) (omega arith)
few_forked files (Some name) at before said some = few-read some.text said (own-read _ (cues some.text) said some.read)

known_by : (at : ℕ) (file : Option StoreName) (said : List CueText) → (file ≡ None → AreFew said) → (if is_some file then 0 else known_before at said) ≤ 4096
known_by at None said few = few-known at said (few refl)
known_by at (Some name) said few = omega arith

-- of any session that was read not too many keys are known
pub few_of : (files : Option StoreFiles) (replays : List Replay) (before : List SessionInput) (o : Origin) (i : SessionInput) → HasInputOf files replays before o i → (at : ℕ) → known_of replays at i ≤ 4096
few_of files replays before (origin.Opened cpu quota drives) i h at =
    known_by at (replay_of replays (string_bytes i.session.name)) i.said
    (λ none. few_opened files i.session.keys i.said (subst (λ (f : Option StoreName). HasSaid files (source_or f i.session.keys) i.said) none h.said))
few_of files replays before (origin.Forked parent fork) i h at =
    let own = own_count h.parent fork in
    known_by at (replay_of replays (string_bytes i.session.name)) i.said
    (λ none. few_forked files i.session.keys own (known_of replays own h.parent) i.said
    (subst (λ (f : Option StoreName). HasForkedSaid files (source_or f i.session.keys) own (known_of replays own h.parent) i.said) none h.said))
few_of files replays before (origin.Restored saving) i h at =
    known_by at (replay_of replays (string_bytes i.session.name)) i.said
    (λ none. few_opened files i.session.keys i.said (subst (λ (f : Option StoreName). HasSaid files (source_or f i.session.keys) i.said) none h.said))

-- ---- counting them

-- this many, and those of these keys that come before a count; none where they aren't known
abbrev pub count_after : ℕ → ℕ → Option (List Key) → ℕ
count_after n at keys = option_map_or (λ ks. n + length (keys_before at ks)) keys 0

one-more : (n at : ℕ) (key : Key) (keys : Option (List Key))
    → count_after n at (option_map (λ ks. key ∷ ks) keys) ≡ count_after (if nat_lt key.count at then n + 1 else n) at keys
one-more n at key None = refl
one-more n at key (Some keys) = by_test (nat_lt key.count at)
  where
    by_test : (t : Bool) → n + length (cond t (key ∷ keys_before at keys) (keys_before at keys)) ≡ (if t then n + 1 else n) + length (keys_before at keys)
    by_test true = omega arith
    by_test false = omega arith

none-timed : (x : Cue) (rest : List Cue) → ((key : Key) → x ≡ cue.Key key → ⊥) → timed_keys (cue_text x ∷ map cue_text rest) ≡ None
none-timed (cue.Key key) rest other = absurd (other key refl)
none-timed (cue.Wait text) rest other = refl
none-timed (cue.Press byte) rest other = refl

-- those of the cues that are left, with the cue in turn in front
this-first : (n at : ℕ) (cs : List Cue) (i : ℕ) (x : Cue) → i < length cs → x ≡ get_or cs i x
    → count_after n at (timed_keys (map cue_text (drop i cs))) ≡ count_after n at (timed_keys (cue_text x ∷ map cue_text (drop (i + 1) cs)))
this-first n at cs i x within is =
    ap (λ (rest : List Cue). count_after n at (timed_keys (map cue_text rest))) (drop_more cs i x within ∙ ap (λ (y : Cue). y ∷ drop (i + 1) cs) (sym is))

key-first : (n at : ℕ) (cs : List Cue) (i : ℕ) (x : Cue) (key : Key) → i < length cs → x ≡ get_or cs i x → x ≡ cue.Key key
    → count_after n at (timed_keys (map cue_text (drop i cs))) ≡ count_after (if nat_lt key.count at then n + 1 else n) at (timed_keys (map cue_text (drop (i + 1) cs)))
key-first n at cs i x key within is this =
    this-first n at cs i x within is ∙ ap (λ (y : Cue). count_after n at (timed_keys (cue_text y ∷ map cue_text (drop (i + 1) cs)))) this
    ∙ one-more n at key (timed_keys (map cue_text (drop (i + 1) cs)))

-- it is a key that comes before the count, or a later one
pub early-counted : (n more at : ℕ) (cs : List Cue) (i : ℕ) (x : Cue) (key : Key) → i < length cs → x ≡ get_or cs i x → x ≡ cue.Key key → key.count < at → more ≡ n + 1
    → count_after more at (timed_keys (map cue_text (drop (i + 1) cs))) ≡ count_after n at (timed_keys (map cue_text (drop i cs)))
early-counted n more at cs i x key within is this early count =
    let test : nat_lt key.count at ≡ true = grind (arith, nat_tests) in
    let all = timed_keys (map cue_text (drop (i + 1) cs)) in
    ap (λ (m : ℕ). count_after m at all) (count ∙ ap (λ (t : Bool). if t then n + 1 else n) (sym test)) ∙ sym (key-first n at cs i x key within is this)

pub late-counted : (n same at : ℕ) (cs : List Cue) (i : ℕ) (x : Cue) (key : Key) → i < length cs → x ≡ get_or cs i x → x ≡ cue.Key key → at ≤ key.count → same ≡ n
    → count_after same at (timed_keys (map cue_text (drop (i + 1) cs))) ≡ count_after n at (timed_keys (map cue_text (drop i cs)))
late-counted n same at cs i x key within is this late count =
    let test : nat_lt key.count at ≡ false = grind (arith, nat_tests) in
    let all = timed_keys (map cue_text (drop (i + 1) cs)) in
    ap (λ (m : ℕ). count_after m at all) (count ∙ ap (λ (t : Bool). if t then n + 1 else n) (sym test)) ∙ sym (key-first n at cs i x key within is this)

-- it is none, so that no key is known
pub none-counted : (n at : ℕ) (cs : List Cue) (i : ℕ) (x : Cue) → i < length cs → x ≡ get_or cs i x → ((key : Key) → x ≡ cue.Key key → ⊥)
    → count_after n at (timed_keys (map cue_text (drop i cs))) ≡ 0
none-counted n at cs i x within is other = this-first n at cs i x within is ∙ ap (count_after n at) (none-timed x (drop (i + 1) cs) other)

-- none is left
pub all-counted : (n at : ℕ) (cs : List Cue) (i : ℕ) → length cs ≤ i → n ≡ count_after n at (timed_keys (map cue_text (drop i cs)))
all-counted n at cs i past =
    let none : n ≡ n + 0 = omega arith in
    none ∙ sym (at_drop_all (λ (rest : List Cue). count_after n at (timed_keys (map cue_text rest))) cs i past)
