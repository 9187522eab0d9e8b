-- What settling sessions rests on.
use Rattle.std.proofs.Common.{◌≡◌, ◌∙◌, ◌<◌, ◌≤◌, ◌^◌, ◌+◌, ⊎_elim, inl, inr, true≢false, ℕ, zero, suc, Bool, true, false, ◌&&◌, List, [], ◌∷◌, ◌++◌, length, drop, get_or, map, Option, Some, None, refl, sym, ap, subst, arith, append_assoc, append-nil}
use Rattle.std.specs.Prelude.{Vec, IfSome, IsSome, max, nat_le, nat_lt, option_map, slice_get}
use Rattle.std.proofs.lemmas.Bool.Decides.{nat_tests}
use Rattle.std.specs.List.{All}
use Rattle.std.specs.declared.alloc.Global.{Global}
use Rattle.std.proofs.Math.Nat.{le-max_left, le-max_right}
use Rattle.std.proofs.lemmas.List.{length-append, length-map, map-append, map_push}
use Rattle.std.proofs.lemmas.List.Elements.{All-append, All-cons, All-drop, All-filter, All-nil}
use Rattle.std.proofs.lemmas.Option.{get_or_from_slice_get, slice_get-map, slice_get_within}
use Rattle.cpm_batch.specs.Inputs.{Forks, IsOpened, Opens, Restores, SessionInput, StartInput, given, timed_keys}
use Rattle.cpm_batch.specs.declared.input.Input.{Input}
use Rattle.cpm_config.specs.declared.config.SessionConfig.{SessionConfig}
use Rattle.cpm_geom.specs.Disk.{Disk}
use Rattle.cpm_machine.specs.MachineState.{MachineState, opened_machine}
use Rattle.cpm_machine.specs.Serve.{look_of}
use Rattle.cpm_machine.specs.Step.{is_running}
use Rattle.cpm_play.specs.Cued.{HasEndedCued, IsCued, IsCuedFrom, key_count, waits_at}
use Rattle.cpm_play.specs.Live.{AreGiven}
use Rattle.cpm_play.specs.Playing.{EndsAs, HaveRoom, IsInOrder, alone_by}
use Rattle.cpm_script.specs.Cues.{Awaited, Counted, CueText, Pressed, cue_text, cued_key_count}
use Rattle.cpm_script.specs.Fork.{keys_before}
use Rattle.cpm_script.specs.Laws.{CountsRise, KeysAreAscii, PressesFollow}
use Rattle.cpm_script.specs.Recording.{AreTyped}
use Rattle.cpm_script.specs.Script.{most_keys}
use Rattle.cpm_script.specs.declared.cue.Cue.{Cue}
use Rattle.cpm_script.specs.declared.cue.Cue.TheVariants.{Key as Timed}
use Rattle.cpm_script.specs.declared.script.Key.{Key}
use Rattle.cpm_script.proofs.CueLemmas.{ascii-append, counted-keys}
use Rattle.cpm_run.specs.Pressable.{IsForkPressable, IsPressableBy}
use Rattle.cpm_run.specs.Run.{GivesItsKeysAgain, starts_read}
use Rattle.cpm_run.specs.Settled.{AreSettled, HasPlayedKeys, IsSettled, SessionPart, SettledSession, TypedSession}
use Rattle.cpm_run.specs.Settled.{before_in, forked_at, keys_if_settled, opened_by, opening_at, opening_of, part_of, said_at, settled_steps, settled_view, start_by, starts_of, steps_at, typing_at}
use Rattle.cpm_run.specs.Settling.{AreBelow80h, AreCounts, AreFitInputs, AreOpenable, AreSound, AreSoundKeys, HasParent, IsFitInput, IsFitPart, IsOpenable}
use Rattle.cpm_run.specs.Settling.{IsPartRefusal, IsSettlingRefusal, IsSoundAfter}
use Rattle.cpm_run.specs.declared.settled.SettledInput.{SettledInput}
use Rattle.cpm_run.specs.Refusing.{IsLimited}
use Rattle.cpm_run.specs.declared.error.RunError.{RunError}
use Rattle.cpm_run.specs.declared.options.RunOptions.{RunOptions}
use Rattle.cpm_run.proofs.OrderLemmas.{own_from}
use Rattle.cpm_run.proofs.PartLemmas.{joined_said}
use Rattle.cpm_run.proofs.ReplayLemmas.{counts_typed, gives_again}
use Rattle.cpm_run.proofs.RoomLemmas.{before_ordered, before_room, came_room, few_joined}

-- ---- keys below 80h

counted_below : (keys : List Key) → AreBelow80h keys → KeysAreAscii (map Counted keys)
counted_below [] all = tt
counted_below (k ∷ ks) all = (all 0 k (omega arith), counted_below ks (λ i d within. all (suc i) d (omega (arith, within))))

below_counted : (keys : List Key) → KeysAreAscii (map Counted keys) → AreBelow80h keys
below_counted [] all = All-nil (λ (k : Key). k.byte < 128)
below_counted (k ∷ ks) all = All-cons (λ (k : Key). k.byte < 128) k ks all.0 (below_counted ks all.1)

below_typed : (n : ℕ) (keys : List Key) → AreTyped n keys → AreBelow80h keys
below_typed n [] all = All-nil (λ (k : Key). k.byte < 128)
below_typed n (k ∷ ks) all = All-cons (λ (k : Key). k.byte < 128) k ks all.2 (below_typed k.count ks all.3)

-- ---- what a session says after its keys from before

pub cues_say : (before : List Key) (own cues : List Cue) → cues ≡ map Timed before ++ own → map cue_text cues ≡ map Counted before ++ map cue_text own
cues_say before own cues is = joined_said before own cues is

pub cues_ascii : (system : Disk) (p : SessionPart) (cues : List Cue) → IsFitPart system p → map cue_text cues ≡ map Counted p.before ++ p.said → KeysAreAscii (map cue_text cues)
cues_ascii system p cues fit says = subst KeysAreAscii (sym says) (ascii-append (map Counted p.before) p.said (counted_below p.before fit.before) fit.ascii)

-- the code's values
pub all_cues : (before first : List Key) (own all cues : List Cue) → first ≡ before → all ≡ map Timed first ++ own → cues ≡ all → cues ≡ map Timed before ++ own
all_cues before first own all cues same joined is = is ∙ joined ∙ ap (λ (ks : List Key). map Timed ks ++ own) same

pub all_keys : (before first came given rest keys : List Key) (n : ℕ) → first ≡ before → given ≡ came → n ≡ length before → rest ≡ drop n given → keys ≡ first ++ rest → keys ≡ before ++ drop (length before) came
all_keys before first came given rest keys n same is long left joined =
    joined ∙ ap (λ (ks : List Key). ks ++ rest) same ∙ ap (λ (ks : List Key). before ++ ks) (left ∙ ap (λ (m : ℕ). drop m given) long ∙ ap (λ (ks : List Key). drop (length before) ks) is)

-- ---- how it was played

-- these keys came from a start, after which so much was done
pub record CameFrom (system : Disk) (p : SessionPart) (stops_idle : Bool) (cues : List Cue) (came : List Key) (done : ℕ) (now start : MachineState) : Type 0 where
  pub by : IsCued system start p.limit p.at cues came
  pub ending : EndsAs (alone_by system came done start) now
  pub ends : HasEndedCued system start p.limit p.at stops_idle came done now
  pub waits : (look_of now).waiting ≡ waits_at system start came done

ended_as : (system : Disk) (start : MachineState) (steps from : ℕ) (stops_idle : Bool) (keys : List Key) (done : ℕ) (now other : MachineState) → now.ended ≡ other.ended
    → HasEndedCued system start steps from stops_idle keys done now → HasEndedCued system start steps from stops_idle keys done other
ended_as system start steps from false keys done now other same h = ⊎_elim (λ all. inl all) (λ over. inr (ap is_running (sym same) ∙ over)) h
ended_as system start steps from true keys done now other same h = ⊎_elim (λ over. inl (ap is_running (sym same) ∙ over)) (λ idle. inr idle) h

pub played_by : (system : Disk) (p : SessionPart) (stops_idle : Bool) (cues : List Cue) (came : List Key) (done : ℕ) (now start : MachineState) (keys : List Key) (steps : ℕ) (idle : Bool)
    → start ≡ p.opening → map cue_text cues ≡ map Counted p.before ++ p.said → CameFrom system p stops_idle cues came done now start → done ≤ p.limit
    → keys ≡ p.before ++ drop (length p.before) came → steps ≡ settled_steps stops_idle p done → idle ≡ stops_idle && (look_of now).waiting
    → HasPlayedKeys system p stops_idle keys steps idle
played_by system p stops_idle cues came done now start keys steps idle opened says h within joined long waits =
    let c : CameFrom system p stops_idle cues came done now p.opening = subst (λ (s : MachineState). CameFrom system p stops_idle cues came done now s) opened h in
    record {
      came = came;
      done = done;
      played = record {
        cues = cues;
        says = says;
        by = c.by;
        ends = ended_as system p.opening p.limit p.at stops_idle came done now (alone_by system came done p.opening) c.ending.ended c.ends;
        within = within;
      };
      all = joined;
      long = long;
      idle = waits ∙ ap (λ (b : Bool). stops_idle && b) c.waits;
    }

pub at_least : (stops_idle : Bool) (p : SessionPart) (done : ℕ) → p.at ≤ p.limit → p.at ≤ settled_steps stops_idle p done
at_least false p done within = within
at_least true p done within =
    let a = le-max_left p.at p.last in
    let b = le-max_right done (max p.at p.last) in
    omega (arith, a, b)

-- the keys that came are sound
pub came_sound : (system : Disk) (start : MachineState) (p : SessionPart) (own cues : List Cue) (came keys : List Key) (done steps : ℕ) → start ≡ p.opening → p.said ≡ map cue_text own
    → IsFitPart system p → cues ≡ map Timed p.before ++ own → IsCued system start p.limit p.at cues came → HaveRoom system start came → AreGiven (key_count cues) done came
    → keys ≡ p.before ++ drop (length p.before) came → p.at ≤ steps → AreSoundKeys system p keys steps
came_sound system start p own cues came keys done steps opened said fit are by all given joined late =
    let rise = subst (λ (cs : List CueText). CountsRise p.at cs) said fit.counts in
    let follow = subst (λ (cs : List CueText). PressesFollow false cs) said fit.presses in
    let cued = subst (λ (cs : List Cue). IsCuedFrom system start p.limit p.limit p.at [] 0 0 cs came) are by in
    let r = own_from system start p.limit p.at p.before [] 0 0 own came rise follow cued in
    let before = subst (λ (s : MachineState). HaveRoom system s p.before) (sym opened) fit.room in
    record {
      own = drop (length p.before) came;
      joined = joined;
      order = subst (λ (ks : List Key). IsInOrder p.at (drop (length p.before) ks)) (sym r.1) r.2;
      ascii = All-drop (λ (k : Key). k.byte < 128) (length p.before) came (below_typed 0 came given.typed);
      counts = All-drop (λ (k : Key). k.count < 2 ^ 64) (length p.before) came (counts_typed 0 came given.typed);
      room = subst (λ (s : MachineState). HaveRoom system s keys) opened
          (came_room system start p.limit p.at p.before came keys own cues fit.order before rise follow are by all joined);
      within = late;
    }

-- ---- keys as they are written

key_first : (key : Key) (cs : List CueText) (own : List Key) (rest : Option (List Key)) → ((ks : List Key) → rest ≡ Some ks → cs ≡ map Counted ks) → option_map (λ ks. key ∷ ks) rest ≡ Some own
    → Counted key ∷ cs ≡ map Counted own
key_first key cs own None same is = absurd (cc)
key_first key cs own (Some ks) same is =
    let first : key ∷ ks ≡ own = cc in
    ap (λ (x : List CueText). Counted key ∷ x) (same ks refl) ∙ ap (map Counted) first

timed_said : (said : List CueText) (own : List Key) → timed_keys said ≡ Some own → said ≡ map Counted own
timed_said [] own is = let none : [] ≡ own = cc in ap (map Counted) none
timed_said (Counted key ∷ cs) own is = key_first key cs own (timed_keys cs) (timed_said cs) is
timed_said (Awaited text ∷ cs) own is = absurd (cc)
timed_said (Pressed byte ∷ cs) own is = absurd (cc)

counted_order : (n : ℕ) (keys : List Key) → CountsRise n (map Counted keys) → IsInOrder n keys
counted_order n [] rise = tt
counted_order n (k ∷ ks) rise = (rise.0, counted_order k.count ks rise.1)

pub written_sound : (system : Disk) (p : SessionPart) (own keys : List Key) → IsFitPart system p → timed_keys p.said ≡ Some own → keys ≡ p.before ++ own
    → length p.opening.session.console.keys + length p.before + length own ≤ most_keys → AreCounts own → AreSoundKeys system p keys p.limit
written_sound system p own keys fit timed joined few counts =
    let said = timed_said p.said own timed in
    record {
      own = own;
      joined = joined;
      order = counted_order p.at own (subst (λ (cs : List CueText). CountsRise p.at cs) said fit.counts);
      ascii = below_counted own (subst KeysAreAscii said fit.ascii);
      counts = counts;
      room = few_joined system p.opening p.before own keys joined few;
      within = fit.within;
    }

pub written_part : (system : Disk) (p : SessionPart) (cues now : List Cue) (read : Option (Vec Key Global)) (own : Vec Key Global) (first last keys : List Key) → IsFitPart system p → now ≡ cues
    → option_map (λ (v : Vec Key Global). v.items) read ≡ timed_keys (map cue_text now) → read ≡ Some own → first ≡ p.before → last ≡ own.items → keys ≡ first ++ last → p.said ≡ map cue_text cues
    → length p.opening.session.console.keys + length first + length last ≤ most_keys → IfSome read (λ (v : Vec Key Global). AreCounts v.items) → AreSoundKeys system p keys p.limit
written_part system p cues now read own first last keys fit same timed some before are joined said few counts =
    let a = ap (λ (ks : List Key). length ks) before in
    let b = ap (λ (ks : List Key). length ks) are in
    let is : timed_keys p.said ≡ Some own.items =
    ap timed_keys said ∙ ap (λ (cs : List Cue). timed_keys (map cue_text cs)) (sym same) ∙ sym timed ∙ ap (λ (o : Option (Vec Key Global)). option_map (λ (v : Vec Key Global). v.items) o) some in
    written_sound system p own.items keys fit is (joined ∙ ap (λ (ks : List Key). ks ++ last) before ∙ ap (λ (ks : List Key). p.before ++ ks) are) (omega (arith, few, a, b))
    (subst (λ (o : Option (Vec Key Global)). IfSome o (λ (v : Vec Key Global). AreCounts v.items)) some counts)

-- ---- a session after those before it

abbrev pub IsSoundIn : Disk → List SettledSession → SettledSession → Type 0
IsSoundIn system ss s = IsPressableBy system ss s.start s × AreBelow80h s.keys × GivesItsKeysAgain s

-- the keys of an opened session are in order, and find room where they come
opened_keys : (system : Disk) (ss : List SettledSession) (b : StartInput) (s : SettledSession) → IsOpened b → IsPressableBy system ss b s → IsInOrder 0 s.keys × HaveRoom system (opening_of b) s.keys
opened_keys system ss (Opens cpu quota drives) s opened h = h
opened_keys system ss (Forks parent at) s opened h = absurd opened
opened_keys system ss (Restores x) s opened h = h

-- keys from before a session that begins after an opening
record AreFitBefore (system : Disk) (opening : MachineState) (keys : List Key) : Type 0 where
  below : AreBelow80h keys
  order : IsInOrder 0 keys
  room : HaveRoom system opening keys

none_before : (system : Disk) (opening : MachineState) → AreFitBefore system opening []
none_before system opening = record { below = All-nil (λ (k : Key). k.byte < 128); order = tt; room = tt }

fit_if : (system : Disk) (ss : List SettledSession) (at : ℕ) (b : StartInput) (o : Option SettledSession) → option_map (λ x. x.start) o ≡ Some b → IsOpened b → IfSome o (IsSoundIn system ss)
    → AreFitBefore system (opening_at (option_map (λ x. x.start) o)) (keys_before at (keys_if_settled o))
fit_if system ss at b None seen opened h = absurd (cc)
fit_if system ss at b (Some s) seen opened h =
    let same : b ≡ s.start = cc in
    let all = opened_keys system ss s.start s (subst IsOpened same opened) h.0 in
    record {
      below = All-filter (λ (k : Key). nat_lt k.count at) (λ (k : Key). k.byte < 128) s.keys h.1;
      order = before_ordered at s.keys all.0;
      room = before_room system (opening_of s.start) at s.keys all.0 all.1;
    }

fit_before : (system : Disk) (ss : List SettledSession) (b : StartInput) → AreSound system ss → HasParent (starts_of ss) b → AreFitBefore system (start_by (starts_of ss) b) (before_in ss b)
fit_before system ss (Opens cpu quota drives) sound parent = none_before system (opened_machine cpu quota drives)
fit_before system ss (Forks place at) sound parent =
    let seen = slice_get-map (λ (x : SettledSession). x.start) ss place in
    subst (λ (o : Option StartInput). AreFitBefore system (opening_at o) (keys_before at (keys_if_settled (slice_get ss place)))) (sym seen)
    (fit_if system ss at parent.0 (slice_get ss place) (sym seen ∙ parent.1) parent.2 (sound place))
fit_before system ss (Restores x) sound parent = none_before system x.state

pub part_fit : (system : Disk) (typed : Option TypedSession) (sessions : List SessionConfig) (ss : List SettledSession) (i : SessionInput) (p : SessionPart) → p ≡ part_of typed sessions ss i
    → AreSound system ss → IsFitInput typed (starts_of ss) i → IsFitPart system p
part_fit system typed sessions ss i p is sound fit =
    let before = fit_before system ss i.start sound fit.parent in
    let keys : before_in ss i.start ≡ p.before = sym (ap (λ (q : SessionPart). q.before) is) in
    let opening : start_by (starts_of ss) i.start ≡ p.opening = sym (ap (λ (q : SessionPart). q.opening) is) in
    let long : length (starts_of ss) ≡ length ss = length-map ss (λ (s : SettledSession). s.start) in
    let said : said_at typed (length (starts_of ss)) i.said ≡ p.said = ap (λ (n : ℕ). said_at typed n i.said) long ∙ sym (ap (λ (q : SessionPart). q.said) is) in
    let at : forked_at i.start ≡ p.at = sym (ap (λ (q : SessionPart). q.at) is) in
    let limit : steps_at typed (length (starts_of ss)) i.steps ≡ p.limit = ap (λ (n : ℕ). steps_at typed n i.steps) long ∙ sym (ap (λ (q : SessionPart). q.limit) is) in
    let within = fit.within in
    record {
      before = subst AreBelow80h keys before.below;
      order = subst (IsInOrder 0) keys before.order;
      ascii = subst KeysAreAscii said fit.ascii;
      counts = subst (λ (n : ℕ). CountsRise n p.said) at (subst (λ (cs : List CueText). CountsRise (forked_at i.start) cs) said fit.from_fork);
      presses = subst (λ (cs : List CueText). PressesFollow false cs) said fit.presses;
      room = subst (HaveRoom system p.opening) keys (subst (λ (s : MachineState). HaveRoom system s (before_in ss i.start)) opening before.room);
      within = omega (arith, within, at, limit);
    }

fork_sound : (system : Disk) (ss : List SettledSession) (parent at : ℕ) (b : StartInput) (own : List Key) (s : SettledSession) (o : Option SettledSession) → slice_get ss parent ≡ o
    → option_map (λ x. x.start) o ≡ Some b → IsOpened b → s.keys ≡ keys_before at (keys_if_settled o) ++ own → IsInOrder at own → HaveRoom system (opening_at (option_map (λ x. x.start) o)) s.keys → at ≤ s.steps
    → IsForkPressable system ss s parent at
fork_sound system ss parent at b own s None there seen opened joined order room within = absurd (cc)
fork_sound system ss parent at b own s (Some other) there seen opened joined order room within =
    let same : b ≡ other.start = cc in
    record { other = other; there = there; opened = subst IsOpened same opened; own = own; keys = joined; order = order; room = room; within = within }

pressable : (system : Disk) (ss : List SettledSession) (b : StartInput) (s : SettledSession) (own : List Key) → HasParent (starts_of ss) b → s.keys ≡ before_in ss b ++ own → IsInOrder (forked_at b) own
    → HaveRoom system (start_by (starts_of ss) b) s.keys → forked_at b ≤ s.steps → IsPressableBy system ss b s
pressable system ss (Opens cpu quota drives) s own parent joined order room within = (subst (λ (ks : List Key). IsInOrder 0 ks) (sym joined) order, room)
pressable system ss (Forks parent at) s own h joined order room within =
    let seen = slice_get-map (λ (x : SettledSession). x.start) ss parent in
    fork_sound system ss parent at h.0 own s (slice_get ss parent) refl (sym seen ∙ h.1) h.2 joined order (subst (λ (o : Option StartInput). HaveRoom system (opening_at o) s.keys) seen room) within
pressable system ss (Restores x) s own parent joined order room within = (subst (λ (ks : List Key). IsInOrder 0 ks) (sym joined) order, room)

pub session_sound : (system : Disk) (typed : Option TypedSession) (sessions : List SessionConfig) (ss : List SettledSession) (i : SessionInput) (p : SessionPart) (s : SettledSession)
    → p ≡ part_of typed sessions ss i → AreSound system ss → HasParent (starts_of ss) i.start → s.start ≡ i.start → s.before ≡ length p.before → AreSoundKeys system p s.keys s.steps → IsSoundAfter system ss s
session_sound system typed sessions ss i p s is sound parent begins first keys =
    let before : p.before ≡ before_in ss i.start = ap (λ (q : SessionPart). q.before) is in
    let at : p.at ≡ forked_at i.start = ap (λ (q : SessionPart). q.at) is in
    let joined : s.keys ≡ before_in ss i.start ++ keys.own = keys.joined ∙ ap (λ (ks : List Key). ks ++ keys.own) before in
    let late = keys.within in
    let room = subst (λ (m : MachineState). HaveRoom system m s.keys) (ap (λ (q : SessionPart). q.opening) is) keys.room in
    record {
      pressable = subst (λ (b : StartInput). IsPressableBy system ss b s) (sym begins)
          (pressable system ss i.start s keys.own parent joined (subst (λ (n : ℕ). IsInOrder n keys.own) at keys.order) room (omega (arith, late, at)));
      ascii = subst AreBelow80h (sym joined) (All-append (λ (k : Key). k.byte < 128) (before_in ss i.start) keys.own (fit_before system ss i.start sound parent).below keys.ascii);
      replays = gives_again system p s first keys;
    }

-- ---- one after another

-- the first are settled, and the rest are still to come
pub record IsSettledTo (system : Disk) (stops_idle : Bool) (typed : Option TypedSession) (sessions : List SessionConfig) (all rest : List SessionInput) (settled : List SettledSession) : Type 0 where
  pub done : List SessionInput
  pub parts : done ++ rest ≡ all
  pub starts : starts_read done ≡ starts_of settled
  pub keys : AreSettled system stops_idle typed sessions [] done settled
  pub fit : AreFitInputs typed (starts_of settled) rest
  pub sound : AreSound system settled

none_sound : (system : Disk) → AreSound system []
none_sound system place = tt

settled_none : (system : Disk) (stops_idle : Bool) (typed : Option TypedSession) (sessions : List SessionConfig) (all : List SessionInput) (settled : List SettledSession) → settled ≡ [] → AreFitInputs typed [] all
    → IsSettledTo system stops_idle typed sessions all all settled
settled_none system stops_idle typed sessions all settled none fit =
    let first : IsSettledTo system stops_idle typed sessions all all [] = record { done = []; parts = refl; starts = refl; keys = tt; fit = fit; sound = none_sound system } in
    subst (λ (ss : List SettledSession). IsSettledTo system stops_idle typed sessions all all ss) (sym none) first

-- at a place, also where one more stands behind
sound_there : (P : SettledSession → Type 0) (ss : List SettledSession) (s : SettledSession) → ((place : ℕ) → IfSome (slice_get ss place) P) → P s → (place : ℕ) → IfSome (slice_get (ss ++ s ∷ []) place) P
sound_there P [] s all one zero = one
sound_there P [] s all one (suc place) = tt
sound_there P (x ∷ ss) s all one zero = all zero
sound_there P (x ∷ ss) s all one (suc place) = sound_there P ss s (λ (n : ℕ). all (suc n)) one place

still_there : (ss : List SettledSession) (s other : SettledSession) (place : ℕ) → slice_get ss place ≡ Some other → slice_get (ss ++ s ∷ []) place ≡ Some other
still_there [] s other place is = absurd (cc)
still_there (x ∷ ss) s other zero is = is
still_there (x ∷ ss) s other (suc place) is = still_there ss s other place is

still_pressable : (system : Disk) (ss : List SettledSession) (s : SettledSession) (b : StartInput) (x : SettledSession) → IsPressableBy system ss b x → IsPressableBy system (ss ++ s ∷ []) b x
still_pressable system ss s (Opens cpu quota drives) x h = h
still_pressable system ss s (Forks parent at) x h = record {
  other = h.other;
  there = still_there ss s h.other parent h.there;
  opened = h.opened;
  own = h.own;
  keys = h.keys;
  order = h.order;
  room = h.room;
  within = h.within;
}
still_pressable system ss s (Restores y) x h = h

still_sound : (system : Disk) (ss : List SettledSession) (s : SettledSession) (o : Option SettledSession) → IfSome o (IsSoundIn system ss) → IfSome o (IsSoundIn system (ss ++ s ∷ []))
still_sound system ss s None h = tt
still_sound system ss s (Some x) h = (still_pressable system ss s x.start x h.0, h.1, h.2)

sound_more : (system : Disk) (ss : List SettledSession) (s : SettledSession) → AreSound system ss → IsSoundAfter system ss s → AreSound system (ss ++ s ∷ [])
sound_more system ss s all one =
    sound_there (IsSoundIn system (ss ++ s ∷ [])) ss s (λ (place : ℕ). still_sound system ss s (slice_get ss place) (all place))
    (still_pressable system ss s s.start s one.pressable, one.ascii, one.replays)

keys_more : (system : Disk) (stops_idle : Bool) (typed : Option TypedSession) (sessions : List SessionConfig) (before : List SettledSession) (is : List SessionInput) (ss : List SettledSession) (i : SessionInput) (s : SettledSession)
    → AreSettled system stops_idle typed sessions before is ss → IsSettled system stops_idle (typing_at typed (length (before ++ ss))) (part_of typed sessions (before ++ ss) i) i s
    → AreSettled system stops_idle typed sessions before (is ++ i ∷ []) (ss ++ s ∷ [])
keys_more system stops_idle typed sessions before [] [] i s all one =
    (subst (λ (xs : List SettledSession). IsSettled system stops_idle (typing_at typed (length xs)) (part_of typed sessions xs i) i s) (append-nil before) one, tt)
keys_more system stops_idle typed sessions before [] (x ∷ ss) i s all one = absurd all
keys_more system stops_idle typed sessions before (j ∷ is) [] i s all one = absurd all
keys_more system stops_idle typed sessions before (j ∷ is) (x ∷ ss) i s all one = (
  all.0,
  keys_more system stops_idle typed sessions (before ++ x ∷ []) is ss i s all.1
      (subst (λ (xs : List SettledSession). IsSettled system stops_idle (typing_at typed (length xs)) (part_of typed sessions xs i) i s) (sym (append_assoc before (x ∷ []) ss)) one),
)

-- the code's values: the next of those still to come, after those that are settled
pub settled_next : (system : Disk) (stops_idle : Bool) (typed : Option TypedSession) (sessions : List SessionConfig) (all : List SessionInput) (rest more : List Input) (input : Input) (settled now : List SettledInput)
    → rest ≡ input ∷ more → now ≡ settled → IsSettledTo system stops_idle typed sessions all (map given rest) (map settled_view settled)
    → IsSettledTo system stops_idle typed sessions all (given input ∷ map given more) (map settled_view now)
settled_next system stops_idle typed sessions all rest more input settled now steps same h =
    subst (λ (ss : List SettledInput). IsSettledTo system stops_idle typed sessions all (given input ∷ map given more) (map settled_view ss)) (sym same)
    (subst (λ (xs : List Input). IsSettledTo system stops_idle typed sessions all (map given xs) (map settled_view settled)) steps h)

pub first_settled : (system : Disk) (stops_idle : Bool) (typed : Option TypedSession) (sessions : List SessionConfig) (all rest : List Input) (settled : List SettledInput) → rest ≡ all → settled ≡ []
    → AreFitInputs typed [] (map given all) → IsSettledTo system stops_idle typed sessions (map given all) (map given rest) (map settled_view settled)
first_settled system stops_idle typed sessions all rest settled whole none fit =
    subst (λ (xs : List Input). IsSettledTo system stops_idle typed sessions (map given all) (map given xs) (map settled_view settled)) (sym whole)
    (settled_none system stops_idle typed sessions (map given all) (map settled_view settled) (ap (map settled_view) none) fit)

pub pushed_view : (settled now more : List SettledInput) (s : SettledInput) → now ≡ settled → more ≡ settled ++ s ∷ [] → map settled_view more ≡ map settled_view now ++ settled_view s ∷ []
pushed_view settled now more s same pushed =
    ap (map settled_view) pushed ∙ map_push settled_view settled s ∙ ap (λ (ss : List SettledInput). map settled_view ss ++ settled_view s ∷ []) (sym same)

-- the place of the next one, by the code's values
pub next_settled : (system : Disk) (stops_idle : Bool) (typed : Option TypedSession) (settled : List SettledInput) (p : SessionPart) (i : SessionInput) (s : SettledSession)
    → IsSettled system stops_idle (typing_at typed (length settled)) p i s → IsSettled system stops_idle (typing_at typed (length (map settled_view settled))) p i s
next_settled system stops_idle typed settled p i s h =
    subst (λ (n : ℕ). IsSettled system stops_idle (typing_at typed n) p i s) (sym (length-map settled settled_view)) h

-- one more
pub settled_more : (system : Disk) (stops_idle : Bool) (typed : Option TypedSession) (sessions : List SessionConfig) (all rest : List SessionInput) (i : SessionInput) (settled more : List SettledSession) (s : SettledSession)
    → IsSettledTo system stops_idle typed sessions all (i ∷ rest) settled → IsSettled system stops_idle (typing_at typed (length settled)) (part_of typed sessions settled i) i s → IsSoundAfter system settled s → more ≡ settled ++ s ∷ []
    → IsSettledTo system stops_idle typed sessions all rest more
settled_more system stops_idle typed sessions all rest i settled more s h one sound pushed =
    let begins : starts_of (settled ++ s ∷ []) ≡ starts_of settled ++ i.start ∷ [] =
    map_push (λ (x : SettledSession). x.start) settled s ∙ ap (λ (b : StartInput). starts_of settled ++ b ∷ []) one.start in
    let next : IsSettledTo system stops_idle typed sessions all rest (settled ++ s ∷ []) = record {
      done = h.done ++ i ∷ [];
      parts = append_assoc h.done (i ∷ []) rest ∙ h.parts;
      starts = map_push (λ (x : SessionInput). x.start) h.done i ∙ ap (λ (bs : List StartInput). bs ++ i.start ∷ []) h.starts ∙ sym begins;
      keys = keys_more system stops_idle typed sessions [] h.done settled i s h.keys one;
      fit = subst (λ (bs : List StartInput). AreFitInputs typed bs rest) (sym begins) h.fit.1;
      sound = sound_more system settled s h.sound sound;
    } in
    subst (λ (ss : List SettledSession). IsSettledTo system stops_idle typed sessions all rest ss) (sym pushed) next

-- ---- the next one is ready

there_after : {A : Type 0} (before after : List A) (x d : A) → get_or (before ++ x ∷ after) (length before) d ≡ x
there_after [] after x d = refl
there_after (y ∷ before) after x d = there_after before after x d

all_there : {A : Type 0} (P : A → Type 0) (before after : List A) (x : A) → All P (before ++ x ∷ after) → P x
all_there P before after x all =
    let long = length-append before (x ∷ after) in
    subst P (there_after before after x x) (all (length before) x (omega (arith, long)))

all_before : {A : Type 0} (P : A → Type 0) (before after : List A) → All P (before ++ after) → All P before
all_before P [] after all = All-nil P
all_before P (x ∷ before) after all = All-cons P x before (all 0 x (omega arith)) (all_before P before after (λ i d within. all (suc i) d (omega (arith, within))))

starts_joined : (before after : List SessionInput) → starts_read (before ++ after) ≡ starts_read before ++ starts_read after
starts_joined before after = map-append (λ (x : SessionInput). x.start) before after

openable_there : (starts : List StartInput) (b : StartInput) → AreOpenable starts → (IsOpened b → IsOpenable b) → HasParent starts b → IfSome (opened_by starts b) IsOpenable
openable_there starts (Opens cpu quota drives) all own h = own tt
openable_there starts (Forks parent at) all own h =
    let at_place : get_or starts parent h.0 ≡ h.0 = get_or_from_slice_get starts parent h.0 h.0 h.1 in
    let good : IsOpened h.0 → IsOpenable h.0 =
    subst (λ (b : StartInput). IsOpened b → IsOpenable b) at_place (all parent h.0 (slice_get_within starts parent h.0 h.1)) in
    subst (λ (o : Option StartInput). IfSome o IsOpenable) (sym h.1) (good h.2)
openable_there starts (Restores x) all own h = own tt

pub next_openable : (system : Disk) (stops_idle : Bool) (typed : Option TypedSession) (sessions : List SessionConfig) (all rest : List SessionInput) (i : SessionInput) (settled : List SettledSession)
    → IsSettledTo system stops_idle typed sessions all (i ∷ rest) settled → AreOpenable (starts_read all) → IfSome (opened_by (starts_of settled) i.start) IsOpenable
next_openable system stops_idle typed sessions all rest i settled h openable =
    let joined : starts_read all ≡ starts_read h.done ++ i.start ∷ starts_read rest = sym (ap starts_read h.parts) ∙ starts_joined h.done (i ∷ rest) in
    let good = subst AreOpenable joined openable in
    let own = all_there (λ (b : StartInput). IsOpened b → IsOpenable b) (starts_read h.done) (starts_read rest) i.start good in
    let before = all_before (λ (b : StartInput). IsOpened b → IsOpenable b) (starts_read h.done) (i.start ∷ starts_read rest) good in
    openable_there (starts_of settled) i.start (subst AreOpenable h.starts before) own h.fit.0.parent

-- ---- how settling is refused

pub next_refused : (system : Disk) (options : RunOptions) (typed : Option TypedSession) (sessions : List SessionConfig) (all rest : List SessionInput) (i : SessionInput) (settled : List SettledSession) (e : RunError)
    → IsSettledTo system options.stops_idle typed sessions all (i ∷ rest) settled → IsPartRefusal options typed (part_of typed sessions settled i) i e → IsSettlingRefusal system options typed sessions all e
next_refused system options typed sessions all rest i settled e h r =
    record { done = h.done; input = i; rest = rest; order = sym h.parts; settled = settled; before = h.keys; refused = r }

-- all are settled
pub all_settled : (system : Disk) (stops_idle : Bool) (typed : Option TypedSession) (sessions : List SessionConfig) (all rest : List SessionInput) (settled : List SettledSession) → rest ≡ []
    → IsSettledTo system stops_idle typed sessions all rest settled → AreSettled system stops_idle typed sessions [] all settled
all_settled system stops_idle typed sessions all rest settled none h =
    let whole : h.done ≡ all = sym (append-nil h.done) ∙ ap (λ (is : List SessionInput). h.done ++ is) (sym none) ∙ h.parts in
    subst (λ (is : List SessionInput). AreSettled system stops_idle typed sessions [] is settled) whole h.keys
