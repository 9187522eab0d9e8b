-- A session that is typed at: what is heard, one more key, turn and take, and where it is cut short or ends.
use Rattle.std.proofs.Common.{◌≡◌, ℕ, ◌+◌, ◌-◌, ◌^◌, ◌<◌, ◌≤◌, Bool, true, false, true≢false, inl, inr, Option, Some, None, List, [], ◌∷◌, ◌++◌, length, refl, sym, ap, ◌∙◌, subst, arith, append-nil}
use Rattle.std.proofs.lemmas.List.{append_assoc, length_push}
use Rattle.std.specs.Io.KnownBytes.{Appends}
use Rattle.cpm_geom.specs.Disk.{Disk}
use Rattle.cpm_script.specs.Recording.{key_line, recorded}
use Rattle.cpm_script.specs.declared.script.Key.{Key}
use Rattle.cpm_machine.specs.MachineState.{MachineState}
use Rattle.cpm_machine.specs.Serve.{keyed}
use Rattle.cpm_machine.specs.Step.{after, is_running}
use Rattle.cpm_play.specs.Cued.{StaysCued, known_to}
use Rattle.cpm_play.specs.Live.{IsGoing, IsNotGiven, IsUnreadable, IsUnshown, bytes_of}
use Rattle.cpm_play.specs.Output.{GetsOutput, OutputState}
use Rattle.cpm_play.specs.declared.live.LiveError.{LiveError}
use Rattle.cpm_play.specs.declared.live.LiveError.TheVariants.{Unreadable, Unwritable, Unprinted, Unrecorded, OutOfMemory}
use Rattle.cpm_play.specs.declared.live.PlayEnd.TheVariants.{Steps, Ended, Typing}
use Rattle.cpm_play.specs.Playing.{last_count, screen_at, waits_at, without_list, without_text}
use Rattle.cpm_play.specs.Sitting.{AreScripted, HasHeardOneMore, HasListened, HasPaused, IsCutShort, IsTypedPlay, IsWantedByPatient, Sitting}
use Rattle.cpm_play.specs.Typing.{HasReadKeys}
use Rattle.cpm_play.specs.Typist.{AreOften, HasAttended, HasHeard, HasHeardNothing, Hearing, IsHeard, IsHeardPatiently, TypingState, breaks, hearing, is_over, wants_key, key_heard, keys_heard}
use Rattle.cpm_play.specs.declared.typist.Heard.{Heard}
use Rattle.cpm_play.specs.declared.typist.Heard.TheVariants as heard
use Rattle.cpm_play.specs.declared.typist.KeyNeed.{KeyNeed}
use Rattle.cpm_play.specs.declared.typist.KeyNeed.TheVariants.{Pending, Possible, Wanted}
use Rattle.cpm_play.specs.declared.typist.TypingEnd.{TypingEnd}
use Rattle.cpm_play.specs.Wanting.{HasNoLongPoll, HasNoLongWait, HasPolled, HasWatched, IsKeyWanted, IsWatchedTurn, first_quantum, first_watch, longest_turn, polls_enough, watch_given}
use Rattle.cpm_play.specs.declared.watch.Watch.{Watch}
use Rattle.cpm_play.proofs.CuedLemmas.{cued-whole}
use Rattle.cpm_play.proofs.GoingLemmas.{going-come, going-ending, going-key, going-list, going-text, going-turn}
use Rattle.cpm_play.proofs.TypingLemmas.{read_more, read_none}
use Rattle.cpm_play.proofs.PollLemmas.{IsTimely, LeavesTurn, timely-key, timely-start, timely-turn}
use Rattle.cpm_play.proofs.WantingLemmas.{IsWatched, alone-before, wanted-append, watched-key, watched-start, watched-turn}

bytes-more : (keys : List Key) (k : Key) → bytes_of (keys ++ k ∷ []) ≡ bytes_of keys ++ k.byte ∷ []
bytes-more [] k = refl
bytes-more (x ∷ xs) k = ap (λ (v : List ℕ). x.byte ∷ v) (bytes-more xs k)

-- ---- what is heard

heard-more : (hs : List Hearing) (h : Hearing) → keys_heard (hs ++ h ∷ []) ≡ keys_heard hs ++ key_heard h.count h.heard
heard-more [] h = append-nil (key_heard h.count h.heard)
heard-more (x ∷ xs) h =
    ap (λ (v : List Key). key_heard x.count x.heard ++ v) (heard-more xs h) ∙ sym (append_assoc (key_heard x.count x.heard) (keys_heard xs) (key_heard h.count h.heard))

said-more : (a b c : Option (List Hearing)) (xs ys : List Hearing) → HasHeard a b xs → HasHeard b c ys → HasHeard a c (xs ++ ys)
said-more None b c xs ys p q = tt
said-more (Some x) None c xs ys p q = absurd p
said-more (Some x) (Some y) None xs ys p q = absurd q
said-more (Some x) (Some y) (Some z) xs ys p q = q ∙ ap (λ (l : List Hearing). l ++ ys) p ∙ append_assoc x xs ys

said-none : (a : Option (List Hearing)) → HasHeard a a []
said-none None = tt
said-none (Some x) = sym (append-nil x)

often-more : (from until k : ℕ) (hs : List Hearing) (h : Heard) → AreOften from until hs → k ≤ longest_turn → AreOften from (until + k) (hs ++ hearing until h ∷ [])
often-more from until k [] h often few = (often.0, often.1, (omega arith, omega arith))
often-more from until k (x ∷ xs) h often few = (often.0, often.1, often-more x.count until k xs h often.2 few)

-- the keys of a script stay those, where the typist breaks in no more than it did
scripted-on : (s : Sitting) (now next : TypingState) (scripted : List Key) (begun : ℕ) → is_over next ≡ is_over now → AreScripted s now scripted begun → AreScripted s next scripted begun
scripted-on s now next scripted begun same (inl all) = inl all
scripted-on s now next scripted begun same (inr some) = inr (some.0, same ∙ some.1, some.2)

module _ {s : Sitting} {before now : TypingState} {keys : List Key} {done : ℕ} (l : HasListened s before now keys done) where
  -- nothing was typed, by some later count
  listened-at : (next : TypingState) (later : ℕ) → IsHeard done now next heard.Nothing → AreOften l.begun later (l.answers ++ hearing done heard.Nothing ∷ []) →
      HasNoLongWait s.system s.start keys l.begun later → (s.is_patient ≡ true → HasNoLongPoll s.system s.start keys l.begun later) → HasListened s before next keys later
  listened-at next later is often brief answered = record {
    scripted = l.scripted;
    typed = l.typed;
    joined = l.joined;
    script = scripted-on s now next l.scripted l.begun is.stays l.script;
    begun = l.begun;
    at_once = l.at_once;
    answers = l.answers ++ hearing done heard.Nothing ∷ [];
    said = said-more before.heard now.heard next.heard l.answers (hearing done heard.Nothing ∷ []) l.said is.said;
    given = heard-more l.answers (hearing done heard.Nothing) ∙ append-nil (keys_heard l.answers) ∙ l.given;
    often = often;
    read = subst (λ v. HasReadKeys before.unread next.unread v) (append-nil (bytes_of l.typed)) (read_more before.unread now.unread next.unread (bytes_of l.typed) [] l.read is.read);
    wanted = l.wanted;
    brief = brief;
    answered = answered;
  }

  -- after the steps of a turn
  pub listened-on : (next : TypingState) (k : ℕ) → k ≤ longest_turn → IsHeard done now next heard.Nothing → HasNoLongWait s.system s.start keys l.begun (done + k) →
      (s.is_patient ≡ true → HasNoLongPoll s.system s.start keys l.begun (done + k)) → HasListened s before next keys (done + k)
  listened-on next k few is brief answered = listened-at next (done + k) is (often-more l.begun done k l.answers heard.Nothing l.often few) brief answered

  -- or after none
  pub listened-still : (next : TypingState) → IsHeard done now next heard.Nothing → HasListened s before next keys done
  listened-still next is =
      let often : AreOften l.begun done (l.answers ++ hearing done heard.Nothing ∷ []) =
      subst (λ (n : ℕ). AreOften l.begun n (l.answers ++ hearing done heard.Nothing ∷ [])) (let same : done + 0 ≡ done = omega arith in same)
      (often-more l.begun done 0 l.answers heard.Nothing l.often (omega arith)) in
      listened-at next done is often l.brief l.answered

  -- the typist failed
  pub listened-failed : (next : TypingState) → HasHeardNothing now next → HasListened s before next keys done
  listened-failed next none = record {
    scripted = l.scripted;
    typed = l.typed;
    joined = l.joined;
    script = scripted-on s now next l.scripted l.begun none.stays l.script;
    begun = l.begun;
    at_once = l.at_once;
    answers = l.answers;
    said = subst (HasHeard before.heard next.heard) (append-nil l.answers) (said-more before.heard now.heard next.heard l.answers [] l.said none.said);
    given = l.given;
    often = l.often;
    read = subst (λ v. HasReadKeys before.unread next.unread v) (append-nil (bytes_of l.typed)) (read_more before.unread now.unread next.unread (bytes_of l.typed) [] l.read none.read);
    wanted = l.wanted;
    brief = l.brief;
    answered = l.answered;
  }

  -- a key was typed
  pub listened-key : (next : TypingState) (byte : ℕ) (more : List Key) → IsHeard done now next (heard.Key byte) → more ≡ keys ++ record { count = done; byte = byte } ∷ [] →
      IsWantedByPatient s keys done → HasNoLongWait s.system s.start more l.begun done → (s.is_patient ≡ true → HasNoLongPoll s.system s.start more l.begun done) →
      HasListened s before next more done
  listened-key next byte more is joined wants brief answered =
      let key : Key = record { count = done; byte = byte } in
      record {
        scripted = l.scripted;
        typed = l.typed ++ key ∷ [];
        joined = joined ∙ ap (λ (ks : List Key). ks ++ key ∷ []) l.joined ∙ append_assoc l.scripted l.typed (key ∷ []);
        script = scripted-on s now next l.scripted l.begun is.stays l.script;
        begun = l.begun;
        at_once = l.at_once;
        answers = l.answers ++ hearing done (heard.Key byte) ∷ [];
        said = said-more before.heard now.heard next.heard l.answers (hearing done (heard.Key byte) ∷ []) l.said is.said;
        given = heard-more l.answers (hearing done (heard.Key byte)) ∙ ap (λ (ks : List Key). ks ++ key ∷ []) l.given;
        often = subst (λ (n : ℕ). AreOften l.begun n (l.answers ++ hearing done (heard.Key byte) ∷ [])) (let same : done + 0 ≡ done = omega arith in same)
            (often-more l.begun done 0 l.answers (heard.Key byte) l.often (omega arith));
        read = subst (λ v. HasReadKeys before.unread next.unread v) (sym (bytes-more l.typed key))
            (read_more before.unread now.unread next.unread (bytes_of l.typed) (byte ∷ []) l.read is.read.1);
        wanted = λ patient. wanted-append s.system s.start l.scripted l.typed key (l.wanted patient)
            (subst (λ (ks : List Key). IsKeyWanted s.system s.start ks done) l.joined (wants patient));
        brief = brief;
        answered = answered;
      }

-- a patient typist says something only where a key is wanted
pub patient-wanted : (need : KeyNeed) (said : Heard) → (said ≡ heard.Nothing → ⊥) → IsHeardPatiently need said → need ≡ Wanted
patient-wanted Wanted said other is = refl
patient-wanted Pending said other is = absurd (other is)
patient-wanted Possible said other is = absurd (other is)

pub is-wanted : (need : KeyNeed) → wants_key need ≡ true → need ≡ Wanted
is-wanted Wanted e = refl
is-wanted Pending e = absurd (let bad : ⊥ = cc in bad)
is-wanted Possible e = absurd (let bad : ⊥ = cc in bad)

pub not-wanted : (need : KeyNeed) → wants_key need ≡ false → need ≡ Wanted → ⊥
not-wanted need e wanted = absurd (true≢false (sym (ap wants_key wanted) ∙ e))

-- ---- the session

-- it goes, this was heard, and so much was watched
pub record IsLive (s : Sitting) (now : MachineState) (written_before written : OutputState) (unrecorded record_now : Option (List ℕ)) (before latest : TypingState) (keys : List Key) (done : ℕ) (watch : Watch)
    : Type 0 where
  pub going : IsGoing s.system s.steps (length keys) s.start now written_before written unrecorded record_now keys done
  pub listened : HasListened s before latest keys done
  pub polled : HasPolled s.system s.start keys watch.polls (last_count 0 keys) (done + 1) (screen_at s.system s.start keys done)
  pub timely : s.is_patient ≡ true → IsTimely s.system s.start keys s.steps listened.begun done watch

-- with other bounds of the number of its keys
going-wide : {system : Disk} {steps most : ℕ} {start now : MachineState} {before written : OutputState} {unrecorded record_now : Option (List ℕ)} {keys : List Key} {done : ℕ} →
    IsGoing system steps most start now before written unrecorded record_now keys done → (other : ℕ) → length keys ≤ other →
    IsGoing system steps other start now before written unrecorded record_now keys done
going-wide going other fits = record {
  console = going.console;
  list = going.list;
  gone = going.gone;
  shown = going.shown;
  printed = going.printed;
  quiet = going.quiet;
  within = going.within;
  few = fits;
  noted = going.noted;
}

-- one that breaks in isn't patient
over-impatient : (is_patient has_broken_in : Bool) → breaks is_patient has_broken_in ≡ true → is_patient ≡ false
over-impatient true has_broken_in over = absurd (true≢false (sym over))
over-impatient false has_broken_in over = refl

-- what a script gives by the time that the typist is asked
scripted-first : (s : Sitting) (before typing : TypingState) (keys : List Key) (done : ℕ) → s.is_patient ≡ before.is_patient → HasAttended before typing → done ≤ s.steps →
    StaysCued s.system s.start s.steps (known_to (is_over typing) done s.steps) done 0 s.cues keys → AreScripted s typing keys done
scripted-first s before typing keys done patience attended within cued = by_over (is_over typing) refl
  where
    by_over : (b : Bool) → is_over typing ≡ b → AreScripted s typing keys done
    by_over true over = inr (
      patience ∙ sym attended.nature ∙ over-impatient typing.is_patient typing.has_broken_in over,
      over,
      cued done (omega arith) (let P : Bool → Type 0 = λ b. done ≤ known_to b done s.steps in subst P (sym over) (omega arith)),
    )
    by_over false going = inl (
        cued-whole s.system s.start s.steps done 0 s.cues keys within
        (λ until low high. cued until low (let P : Bool → Type 0 = λ b. until ≤ known_to b done s.steps in subst P (sym going) high))
        )

pub live-start : (s : Sitting) (most : ℕ) (now : MachineState) (written_before written : OutputState) (unrecorded record_now : Option (List ℕ)) (before typing : TypingState) (keys : List Key) (done : ℕ) (watch : Watch) →
    IsGoing s.system s.steps most s.start now written_before written unrecorded record_now keys done → s.is_patient ≡ before.is_patient → HasAttended before typing →
    StaysCued s.system s.start s.steps (known_to (is_over typing) done s.steps) done 0 s.cues keys → (s.cues ≡ [] → done ≡ 0) →
    watch ≡ first_watch → IsLive s now written_before written unrecorded record_now before typing keys done watch
live-start s most now written_before written unrecorded record_now before typing keys done watch going patience attended cued first new =
    let watched = watched-start s.system s.start keys done watch (ap (λ (w : Watch). w.polls) new) in
    let quantum : watch.quantum ≡ first_quantum = ap (λ (w : Watch). w.quantum) new in
    let timely = timely-start s.system s.start keys s.steps done watch (omega arith) in
    record {
      going = going-wide going (length keys) (omega arith);
      listened = record {
        scripted = keys;
        typed = [];
        joined = sym (append-nil keys);
        begun = done;
        script = scripted-first s before typing keys done patience attended going.within cued;
        at_once = first;
        answers = [];
        said = subst (λ o. HasHeard before.heard o []) (sym attended.heard) (said-none before.heard);
        given = refl;
        often = (omega arith, omega arith);
        read = subst (λ o. HasReadKeys before.unread o []) (sym attended.unread) (read_none before.unread);
        wanted = λ _. tt;
        brief = watched.brief;
        answered = λ _. timely.answered;
      };
      polled = watched.polled;
      timely = λ _. timely;
    }

module _ {s : Sitting} {now : MachineState} {written_before written : OutputState} {unrecorded record_now : Option (List ℕ)} {before latest : TypingState} {keys : List Key} {done : ℕ} {watch : Watch}
    (live : IsLive s now written_before written unrecorded record_now before latest keys done watch) where
  pub live-watched : IsWatched s.system s.start keys live.listened.begun done watch
  live-watched = record { polled = live.polled; brief = live.listened.brief }

  -- nothing was typed, and the steps of a turn follow, whose text is taken
  pub live-turn : (next : TypingState) (k left : ℕ) (turned last : MachineState) (written_then : OutputState) (watch_then : Watch) → IsHeard done latest next heard.Nothing →
      0 < k → k ≤ s.steps - done → k ≤ longest_turn → waits_at s.system s.start keys done ≡ false → (now.session.console.keys ≡ [] → watch.polls < polls_enough) →
      (s.is_patient ≡ true → LeavesTurn left (s.steps - done)) → (s.is_patient ≡ true → IsWatchedTurn s.system left watch watch_then k now turned) →
      turned ≡ after s.system k now → HasWatched watch watch_then k turned → last ≡ without_list (without_text turned) → GetsOutput written written_then turned →
      IsLive s last written_before written_then unrecorded record_now before next keys (done + k) watch_then
  unfolding listened-on listened-at
  live-turn next k left turned last written_then watch_then is some fits few busy calls room counted there watches taken writes =
      let watched = watched-turn live.going live-watched k turned watch_then some few busy there watches in
      let timely : s.is_patient ≡ true → IsTimely s.system s.start keys s.steps live.listened.begun (done + k) watch_then =
      λ patient. timely-turn live.going (live.timely patient) calls k left turned watch_then there (counted patient) some few (omega arith) (room patient) in
      record {
        going = going-turn s.system s.steps (length keys) s.start now written_before written unrecorded record_now keys done live.going k turned last written_then fits there taken writes;
        listened = listened-on live.listened next k few is watched.brief (λ patient. (timely patient).answered);
        polled = watched.polled;
        timely = timely;
      }

  -- nothing was typed, and no step follows
  pub live-still : (next : TypingState) → IsHeard done latest next heard.Nothing → IsLive s now written_before written unrecorded record_now before next keys done watch
  unfolding listened-still listened-at
  live-still next is = record { going = live.going; listened = listened-still live.listened next is; polled = live.polled; timely = live.timely }

  -- the console or the list device failed
  pub live-unshown : (next : TypingState) (k : ℕ) (turned last : MachineState) (written_then : OutputState) (e : LiveError) → IsHeard done latest next heard.Nothing →
      k ≤ s.steps - done → turned ≡ after s.system k now → IsUnshown turned written written_then e →
      IsCutShort s last written_before written_then unrecorded record_now before next e
  live-unshown next k turned last written_then (Unreadable e) is fits there cut = absurd cut
  live-unshown next k turned last written_then (Unwritable e) is fits there cut = (
    keys,
    record {
      at = done;
      listened = listened-still live.listened next is;
      text = going-text s.system s.steps (length keys) s.start now written_before written unrecorded record_now keys done live.going k turned fits there cut;
    },
    live.going.noted,
  )
  live-unshown next k turned last written_then (Unprinted e) is fits there cut = (
    keys,
    record {
      at = done;
      listened = listened-still live.listened next is;
      list = going-list s.system s.steps (length keys) s.start now written_before written unrecorded record_now keys done live.going k turned written_then fits there cut.0 cut.1;
    },
    live.going.noted,
  )
  live-unshown next k turned last written_then (Unrecorded e) is fits there cut = absurd cut
  live-unshown next k turned last written_then OutOfMemory is fits there cut = absurd cut

  -- a key more
  pub live-key : (next : TypingState) (byte : ℕ) (pressed : MachineState) (record_then : Option (List ℕ)) (more : List Key) (watch_then : Watch) → IsHeard done latest next (heard.Key byte) →
      IsWantedByPatient s keys done → done < 2 ^ 64 → more ≡ keys ++ record { count = done; byte = byte } ∷ [] → pressed ≡ keyed byte now →
      Appends record_now record_then (key_line (record { count = done; byte = byte })) → watch_then ≡ watch_given watch →
      IsLive s pressed written_before written unrecorded record_then before next more done watch_then
  unfolding listened-key
  live-key next byte pressed record_then more watch_then is wants fits joined state notes given =
      let key : Key = record { count = done; byte = byte } in
      let longer : length more ≡ length keys + 1 = ap length joined ∙ length_push keys key in
      let watched = watched-key live.going live-watched watch_then more key (ap (λ (w : Watch). w.polls) given) joined refl in
      let quantum : watch_then.quantum ≡ first_quantum = ap (λ (w : Watch). w.quantum) given in
      let timely : s.is_patient ≡ true → IsTimely s.system s.start more s.steps live.listened.begun done watch_then =
      λ patient. timely-key s.system s.start keys more s.steps live.listened.begun done watch watch_then key (live.timely patient) (omega arith) joined refl
      (λ i sooner. alone-before s.system s.start keys more key i joined sooner) in
      record {
        going = going-key s.system s.steps (length more) s.start now written_before written unrecorded record_now keys done (going-wide live.going (length more) (omega arith))
            byte pressed record_then more is.read.0 fits (omega arith) joined state notes;
        listened = listened-key live.listened next byte more is joined wants watched.brief (λ patient. (timely patient).answered);
        polled = watched.polled;
        timely = timely;
      }

  -- ---- where it is cut short

  live-paused : (next : TypingState) → HasListened s before next keys done → HasPaused s now written_before written before next keys
  unfolding going-come
  live-paused next listened = record {
    come = going-come s.system s.steps (length keys) s.start now written_before written unrecorded record_now keys done live.going;
    listened = listened;
  }

  -- the typist failed
  pub live-unheard : (next : TypingState) (e : LiveError) → IsUnreadable e → HasListened s before next keys done → IsWantedByPatient s keys done →
      IsCutShort s now written_before written unrecorded record_now before next e
  unfolding going-come live-paused
  live-unheard next (Unreadable e) is listened wants = (keys, live-paused next listened, wants, live.going.noted)
  live-unheard next (Unwritable e) is listened wants = absurd is
  live-unheard next (Unprinted e) is listened wants = absurd is
  live-unheard next (Unrecorded e) is listened wants = absurd is
  live-unheard next OutOfMemory is listened wants = absurd is

  -- a key that was heard was not given
  pub live-not-given : (next : TypingState) (byte : ℕ) (same : MachineState) (record_then : Option (List ℕ)) (e : LiveError) → IsHeard done latest next (heard.Key byte) →
      IsWantedByPatient s keys done → same ≡ now → IsNotGiven e record_now record_then → IsCutShort s same written_before written unrecorded record_then before next e
  unfolding going-come live-paused
  live-not-given next byte same record_then e is wants still =
      let one : HasHeardOneMore s now written_before written before next keys = record {
        asked = latest;
        paused = live-paused latest live.listened;
        byte = byte;
        next = is;
        wanted = wants;
      } in
      by_error e (subst (λ m. HasHeardOneMore s m written_before written before next keys) (sym still) one)
    where
      by_error : (e : LiveError) → HasHeardOneMore s same written_before written before next keys → IsNotGiven e record_now record_then →
          IsCutShort s same written_before written unrecorded record_then before next e
      by_error (Unreadable e) one is = absurd is
      by_error (Unwritable e) one is = absurd is
      by_error (Unprinted e) one is = absurd is
      by_error (Unrecorded e) one is = (keys, one)
      by_error OutOfMemory one is = (keys, one, subst (λ o. Appends unrecorded o (recorded keys)) (sym is) live.going.noted)

  -- ---- where it ends

  -- no more is typed
  pub live-quit : (next : TypingState) (end : TypingEnd) → IsHeard done latest next (heard.End end) → IsWantedByPatient s keys done → IsTypedPlay s before next keys done (Typing end)
  live-quit next end is wants = record { asked = latest; listened = live.listened; why = (is, wants) }

  -- the machine has ended
  pub live-ended : (next : TypingState) → IsHeard done latest next heard.Nothing → is_running now.ended ≡ false → IsTypedPlay s before next keys done Ended
  live-ended next is ended = record {
    asked = next;
    listened = listened-still live.listened next is;
    why = (sym (ap is_running (going-ending s.system s.steps (length keys) s.start now written_before written unrecorded record_now keys done live.going).ended) ∙ ended, refl);
  }

  -- all steps were executed
  pub live-done : s.steps ≤ done → IsTypedPlay s before latest keys done Steps
  live-done all = let within = live.going.within in record { asked = latest; listened = live.listened; why = (omega arith, refl) }
