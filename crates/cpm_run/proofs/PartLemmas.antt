-- Loops over what a session says.
use Rattle.std.proofs.Common.{◌≡◌, ◌∙◌, ◌<◌, ◌≤◌, ◌+◌, ℕ, zero, suc, Option, Some, None, List, [], ◌∷◌, Bool, true, if◌then◌else◌, subst, ◌++◌, length, map, get_or, drop, take, refl, sym, ap, arith, append_assoc, append-nil}
use Rattle.std.specs.Prelude.{Vec, max, option_map, slice_get, ◌==◌}
use Rattle.std.specs.declared.alloc.Global.{Global}
use Rattle.std.proofs.lemmas.Bool.Decides.{nat_tests}
use Rattle.std.proofs.lemmas.List.{at_drop_all, drop_more, map-append, take_more}
use Rattle.std.proofs.Math.Nat.{le-max_left, le-max_right, max-le}
use Rattle.cpm_batch.specs.Inputs.{Forks, IsOpened, StartInput, start_view, timed_keys}
use Rattle.cpm_batch.specs.declared.input.Start.{Start}
use Rattle.cpm_batch.specs.declared.input.Start.TheVariants as start
use Rattle.cpm_config.specs.declared.config.SessionConfig.{SessionConfig}
use Rattle.cpm_geom.specs.declared.image.Image.{Image}
use Rattle.cpm_play.specs.declared.live.TypedPlay.{TypedPlay}
use Rattle.cpm_script.specs.Cues.{Counted, CueText, all_said, cue_text, cued_key_count}
use Rattle.cpm_script.specs.declared.cue.Cue.{Cue}
use Rattle.cpm_script.specs.declared.cue.Cue.TheVariants as cue
use Rattle.cpm_script.specs.declared.script.Key.{Key}
use Rattle.cpm_run.specs.Settled.{fork_count, last_fork, opened_by, said_at, settled_view, starts_of, typed_view}
use Rattle.cpm_run.specs.Settling.{HasParent}
use Rattle.cpm_run.specs.declared.settled.SettledInput.{SettledInput}

-- a function of what is left, with the cue in turn in front
this_first : {Y : Type 0} (F : List CueText → Y) (cs : List Cue) (i : ℕ) (x : Cue) → i < length cs → x ≡ get_or cs i x
    → F (map cue_text (drop i cs)) ≡ F (cue_text x ∷ map cue_text (drop (i + 1) cs))
this_first F cs i x within is =
    ap (λ (rest : List Cue). F (map cue_text rest)) (drop_more cs i x within ∙ ap (λ (y : Cue). y ∷ drop (i + 1) cs) (sym is))

-- ---- counting keys

pub key_counted : (cs : List Cue) (i : ℕ) (x : Cue) (key : Key) → i < length cs → x ≡ get_or cs i x → x ≡ cue.Key key
    → cued_key_count (map cue_text (drop i cs)) ≡ suc (cued_key_count (map cue_text (drop (i + 1) cs)))
key_counted cs i x key within is this =
    this_first cued_key_count cs i x within is ∙ ap (λ (y : Cue). cued_key_count (cue_text y ∷ map cue_text (drop (i + 1) cs))) this

pub press_counted : (cs : List Cue) (i : ℕ) (x : Cue) (byte : ℕ) → i < length cs → x ≡ get_or cs i x → x ≡ cue.Press byte
    → cued_key_count (map cue_text (drop i cs)) ≡ suc (cued_key_count (map cue_text (drop (i + 1) cs)))
press_counted cs i x byte within is this =
    this_first cued_key_count cs i x within is ∙ ap (λ (y : Cue). cued_key_count (cue_text y ∷ map cue_text (drop (i + 1) cs))) this

pub wait_counted : (cs : List Cue) (i : ℕ) (x : Cue) (text : Vec ℕ Global) → i < length cs → x ≡ get_or cs i x → x ≡ cue.Wait text
    → cued_key_count (map cue_text (drop i cs)) ≡ cued_key_count (map cue_text (drop (i + 1) cs))
wait_counted cs i x text within is this =
    this_first cued_key_count cs i x within is ∙ ap (λ (y : Cue). cued_key_count (cue_text y ∷ map cue_text (drop (i + 1) cs))) this

pub none_counted : (cs : List Cue) (i : ℕ) → length cs ≤ i → cued_key_count (map cue_text (drop i cs)) ≡ 0
none_counted cs i past = at_drop_all (λ (rest : List Cue). cued_key_count (map cue_text rest)) cs i past

-- ---- keys with counts

-- these, and then those that come after them; none where they aren't known
abbrev pub timed_after : List Key → Option (List Key) → Option (List Key)
timed_after keys more = option_map (λ ks. keys ++ ks) more

none_before : (more : Option (List Key)) → timed_after [] more ≡ more
none_before None = refl
none_before (Some ks) = refl

pub nil_timed : (keys : List Key) (more : Option (List Key)) → keys ≡ [] → timed_after keys more ≡ more
nil_timed keys more none = ap (λ (ks : List Key). timed_after ks more) none ∙ none_before more

one_timed : (keys : List Key) (key : Key) (more : Option (List Key)) → timed_after (keys ++ key ∷ []) more ≡ timed_after keys (option_map (λ ks. key ∷ ks) more)
one_timed keys key None = refl
one_timed keys key (Some ks) = ap Some (append_assoc keys (key ∷ []) ks)

pub key_timed : (keys more : List Key) (cs : List Cue) (i : ℕ) (x : Cue) (key : Key) → i < length cs → x ≡ get_or cs i x → x ≡ cue.Key key → more ≡ keys ++ key ∷ []
    → timed_after more (timed_keys (map cue_text (drop (i + 1) cs))) ≡ timed_after keys (timed_keys (map cue_text (drop i cs)))
key_timed keys more cs i x key within is this pushed =
    ap (λ (ks : List Key). timed_after ks (timed_keys (map cue_text (drop (i + 1) cs)))) pushed ∙ one_timed keys key (timed_keys (map cue_text (drop (i + 1) cs)))
    ∙ sym (this_first (λ (said : List CueText). timed_after keys (timed_keys said)) cs i x within is
    ∙ ap (λ (y : Cue). timed_after keys (timed_keys (cue_text y ∷ map cue_text (drop (i + 1) cs)))) this)

none_first : (keys : List Key) (x : Cue) (rest : List Cue) → ((key : Key) → x ≡ cue.Key key → ⊥) → timed_after keys (timed_keys (cue_text x ∷ map cue_text rest)) ≡ None
none_first keys (cue.Key key) rest other = absurd (other key refl)
none_first keys (cue.Wait text) rest other = refl
none_first keys (cue.Press byte) rest other = refl

pub none_timed : (keys : List Key) (cs : List Cue) (i : ℕ) (x : Cue) → i < length cs → x ≡ get_or cs i x → ((key : Key) → x ≡ cue.Key key → ⊥)
    → None ≡ timed_after keys (timed_keys (map cue_text (drop i cs)))
none_timed keys cs i x within is other =
    sym (this_first (λ (said : List CueText). timed_after keys (timed_keys said)) cs i x within is ∙ none_first keys x (drop (i + 1) cs) other)

pub all_timed : (keys : List Key) (cs : List Cue) (i : ℕ) → length cs ≤ i → Some keys ≡ timed_after keys (timed_keys (map cue_text (drop i cs)))
all_timed keys cs i past =
    ap Some (sym (append-nil keys)) ∙ sym (at_drop_all (λ (rest : List Cue). timed_after keys (timed_keys (map cue_text rest))) cs i past)

-- ---- forks

max_moves : (a b c : ℕ) → max (max b a) c ≡ max a (max b c)
max_moves a b c =
    let up : max (max b a) c ≤ max a (max b c) =
    (let p = le-max_left a (max b c) in let q = le-max_right a (max b c) in let r = le-max_left b c in let s = le-max_right b c in
    max-le (max-le (omega (arith, q, r)) (omega (arith, p))) (omega (arith, q, s))) in
    let down : max a (max b c) ≤ max (max b a) c =
    (let p = le-max_left (max b a) c in let q = le-max_right (max b a) c in let r = le-max_left b a in let s = le-max_right b a in
    max-le (omega (arith, p, s)) (max-le (omega (arith, p, r)) (omega (arith, q)))) in
    omega (arith, up, down)

pub fork_more : (name : List ℕ) (last more : ℕ) (ss : List SessionConfig) (i : ℕ) (s : SessionConfig) → i < length ss → s ≡ get_or ss i s → more ≡ max (fork_count name s.origin) last
    → max more (last_fork name (drop (i + 1) ss)) ≡ max last (last_fork name (drop i ss))
fork_more name last more ss i s within is taken =
    ap (λ (m : ℕ). max m (last_fork name (drop (i + 1) ss))) taken ∙ max_moves last (fork_count name s.origin) (last_fork name (drop (i + 1) ss))
    ∙ sym (ap (λ (rest : List SessionConfig). max last (last_fork name rest)) (drop_more ss i s within ∙ ap (λ (y : SessionConfig). y ∷ drop (i + 1) ss) (sym is)))

zero_max : (n : ℕ) → max 0 n ≡ n
zero_max n =
    let up = le-max_right 0 n in
    let down : max 0 n ≤ n = max-le (omega arith) (omega arith) in
    omega (arith, up, down)

pub no_forks : (name : List ℕ) (ss : List SessionConfig) → max 0 (last_fork name ss) ≡ last_fork name ss
no_forks name ss = zero_max (last_fork name ss)

max_zero : (n : ℕ) → n ≡ max n 0
max_zero n =
    let up = le-max_left n 0 in
    let down : max n 0 ≤ n = max-le (omega arith) (omega arith) in
    omega (arith, up, down)

pub all_forks : (name : List ℕ) (last : ℕ) (ss : List SessionConfig) (i : ℕ) → length ss ≤ i → last ≡ max last (last_fork name (drop i ss))
all_forks name last ss i past = max_zero last ∙ sym (at_drop_all (λ (rest : List SessionConfig). max last (last_fork name rest)) ss i past)

-- ---- how a session is opened

there : (xs : List SettledInput) (i : ℕ) (d : SettledInput) (b : StartInput) → slice_get (starts_of (map settled_view xs)) i ≡ Some b
    → slice_get (starts_of (map settled_view xs)) i ≡ Some (start_view (get_or xs i d).start)
there [] i d b is = absurd (cc)
there (x ∷ xs) zero d b is = refl
there (x ∷ xs) (suc i) d b is = there xs i d b is

abbrev parents : List SettledInput → Start → Type 0
parents xs s = HasParent (starts_of (map settled_view xs)) (start_view s)

pub parent_start : (xs : List SettledInput) (s : Start) (parent at : ℕ) (d : SettledInput) → s ≡ start.Forked parent at → HasParent (starts_of (map settled_view xs)) (start_view s)
    → opened_by (starts_of (map settled_view xs)) (start_view s) ≡ Some (start_view (get_or xs parent d).start)
parent_start xs s parent at d is h =
    let p : HasParent (starts_of (map settled_view xs)) (Forks parent at) = subst (parents xs) is h in
    ap (λ (x : Start). opened_by (starts_of (map settled_view xs)) (start_view x)) is ∙ there xs parent d p.0 p.1

pub parent_opened : (xs : List SettledInput) (s : Start) (parent at : ℕ) (d : SettledInput) → s ≡ start.Forked parent at → HasParent (starts_of (map settled_view xs)) (start_view s)
    → IsOpened (start_view (get_or xs parent d).start)
parent_opened xs s parent at d is h =
    let p : HasParent (starts_of (map settled_view xs)) (Forks parent at) = subst (parents xs) is h in
    let here = there xs parent d p.0 p.1 in
    let found = p.1 in
    let same : p.0 ≡ start_view (get_or xs parent d).start = cc in
    subst IsOpened same p.2

-- ---- keys as cues

said_counted : (keys : List Key) → map cue_text (map cue.Key keys) ≡ map Counted keys
said_counted [] = refl
said_counted (k ∷ ks) = ap (λ (cs : List CueText). Counted k ∷ cs) (said_counted ks)

pub joined_said : (keys : List Key) (own all : List Cue) → all ≡ map cue.Key keys ++ own → map cue_text all ≡ map Counted keys ++ map cue_text own
joined_said keys own all is = ap (map cue_text) is ∙ map-append cue_text (map cue.Key keys) own ∙ ap (λ (cs : List CueText). cs ++ map cue_text own) (said_counted keys)

here_typed : (t : ℕ × TypedPlay) (place : ℕ) (said : List CueText) → place ≡ t.0 → said_at (typed_view (Some t)) place said ≡ map Counted t.1.live.keys.items
here_typed t place said at =
    let test : (place == t.0) ≡ true = grind (arith, nat_tests) in
    ap (λ (b : Bool). if b then map Counted t.1.live.keys.items else said) test

pub said_typed : (typed : Option (ℕ × TypedPlay)) (t : ℕ × TypedPlay) (place : ℕ) (cues v : Vec Cue Global) (keys : List Key) (none : List Cue) → typed ≡ Some t → t.0 ≡ place → keys ≡ t.1.live.keys.items → none ≡ []
    → v.items ≡ map cue.Key keys ++ none → all_said v ≡ said_at (typed_view typed) place (all_said cues)
said_typed typed t place cues v keys none is at own end h =
    joined_said keys none v.items h ∙ ap (λ (cs : List Cue). map Counted keys ++ map cue_text cs) end ∙ append-nil (map Counted keys) ∙ ap (map Counted) own
    ∙ sym (ap (λ (o : Option (ℕ × TypedPlay)). said_at (typed_view o) place (all_said cues)) is ∙ here_typed t place (all_said cues) (sym at))

-- ---- equal images

pub copied_more : (all done more : List Image) (i : ℕ) (d copy : Image) → i < length all → d ≡ get_or all i d → copy ≡ d → done ≡ take i all → more ≡ done ++ copy ∷ [] → more ≡ take (i + 1) all
copied_more all done more i d copy within is same so pushed =
    pushed ∙ ap (λ (xs : List Image). xs ++ copy ∷ []) so ∙ ap (λ (x : Image). take i all ++ x ∷ []) (same ∙ is) ∙ sym (take_more all i d within)
