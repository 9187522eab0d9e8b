-- How a run is refused.
use Rattle.std.proofs.Common.{◌≡◌, ◌∙◌, ◌≤◌, ◌<◌, ◌+◌, ⊎_elim, inl, inr, ap, refl, subst, sym, arith, None, Some, Option, ℕ, zero, suc, List, [], ◌∷◌, ◌++◌, length, map, get_or, slice_get, Bool, true, false}
use Rattle.std.specs.Prelude.{IfSome, if◌then◌else◌, nat_lt, not, ◌||◌, chars, option_map}
use Rattle.std.proofs.lemmas.Bool.Decides.{nat_tests}
use Rattle.std.proofs.lemmas.Option.{slice_get-get_or, slice_get-map}
use Rattle.cpm_batch.specs.Inputs.{Forks, IsReadRefusal, Opens, Restores, SessionInput, StartInput}
use Rattle.cpm_batch.specs.Reads.{StopsReading}
use Rattle.cpm_batch.specs.declared.error.ReadError.{ReadError}
use Rattle.cpm_batch.specs.declared.error.ReadError.TheVariants as reading
use Rattle.cpm_shown.specs.Shown.{shown_of}
use Rattle.cpm_config.specs.declared.config.Config.{Config}
use Rattle.cpm_config.specs.declared.config.SessionConfig.{SessionConfig}
use Rattle.cpm_flags.specs.declared.regs.Cpu.{Cpu}
use Rattle.cpm_geom.specs.Disk.{Disk}
use Rattle.cpm_machine.specs.MachineState.{opened_machine}
use Rattle.cpm_machine.specs.Opening.{drives_fault, fault_else, opening_fault}
use Rattle.cpm_machine.specs.declared.opening.OpenError.{OpenError}
use Rattle.cpm_machine.specs.declared.opening.OpenError.TheVariants as opening
use Rattle.cpm_machine.specs.declared.opening.Opening.{Opening}
use Rattle.cpm_machine.specs.Saving.{Saving}
use Rattle.cpm_machine.specs.SystemDigest.{system_digest}
use Rattle.cpm_slots.specs.Host.{Host, are_same, lacks_slot, new_host, quotas_of, refusal_of, room_fault, with_added, with_opened}
use Rattle.cpm_store.specs.Files.{WhereTold}
use Rattle.cpm_store.specs.Log.{AreNoWrites, LogLeadsBy, StopsAfter}
use Rattle.cpm_store.specs.Writes.{NamedBytes, StopsAt, named_output}
use Rattle.cpm_store.specs.declared.writes.Output.{Output}
use Rattle.cpm_run.specs.Playing.{AreUnforked, IsRefusedAmong, IsRefusedByName, IsSlotRefusal}
use Rattle.cpm_run.specs.Pressable.{ArePressable, IsPressableBy}
use Rattle.cpm_run.specs.Refusals.{run_error_of_reading}
use Rattle.cpm_run.specs.Refusing.{FailsAtInput, IsOutputAt, IsPlaceRefusal, IsRunRefusal, IsRunnable, IsSettleRefusal, IsWriteRefusal, StopsAfterReading, StopsWriting}
use Rattle.cpm_run.specs.Rest.{RunStanding}
use Rattle.cpm_run.specs.Run.{AllAccepted, AreParts, GivesItsKeysAgain, GoesOnOrBegins, HasForkRoom, HasReadInputs, HasWrittenOutputs, IsOpening, RunParts, StoreActs, config_fault, kept_by_options, outputs_by, restoring_fault, starts_read}
use Rattle.cpm_run.specs.Settled.{AreSettled, AreUntouched, SettledSession, Streams, TypedSession, starts_of}
use Rattle.cpm_run.specs.Settling.{AreBelow80h, AreSettledBy, AreSound}
use Rattle.cpm_run.specs.declared.error.RunError.{RunError}
use Rattle.cpm_run.specs.declared.error.RunError.TheVariants as refusal
use Rattle.cpm_run.specs.declared.error.StartFault.{StartFault}
use Rattle.cpm_run.specs.declared.error.StartFault.TheVariants.{Elsewhere, Unopened}
use Rattle.cpm_run.specs.declared.options.RunOptions.{RunOptions}

-- ---- what was settled is what was read

pub settled_starts : (system : Disk) (idle : Bool) (typed : Option TypedSession) (sessions : List SessionConfig) (before : List SettledSession) (is : List SessionInput) (ss : List SettledSession)
    → AreSettled system idle typed sessions before is ss → starts_of ss ≡ starts_read is
settled_starts system idle typed sessions before [] [] h = refl
settled_starts system idle typed sessions before [] (s ∷ ss) h = absurd h
settled_starts system idle typed sessions before (i ∷ is) [] h = absurd h
settled_starts system idle typed sessions before (i ∷ is) (s ∷ ss) h =
    ap (λ (b : StartInput). b ∷ starts_of ss) h.0.start ∙ ap (λ (bs : List StartInput). i.start ∷ bs) (settled_starts system idle typed sessions (before ++ s ∷ []) is ss h.1)

pub settled_sessions : (system : Disk) (idle : Bool) (typed : Option TypedSession) (sessions : List SessionConfig) (before : List SettledSession) (is : List SessionInput) (ss : List SettledSession)
    → AreSettled system idle typed sessions before is ss → map (λ s. s.session) ss ≡ map (λ i. i.session) is
settled_sessions system idle typed sessions before [] [] h = refl
settled_sessions system idle typed sessions before [] (s ∷ ss) h = absurd h
settled_sessions system idle typed sessions before (i ∷ is) [] h = absurd h
settled_sessions system idle typed sessions before (i ∷ is) (s ∷ ss) h =
    ap (λ (x : SessionConfig). x ∷ map (λ s. s.session) ss) h.0.session ∙ ap (λ (xs : List SessionConfig). i.session ∷ xs) (settled_sessions system idle typed sessions (before ++ s ∷ []) is ss h.1)

pub sound_pressable : (system : Disk) (ss : List SettledSession) → AreSound system ss → ArePressable system ss
sound_pressable system ss sound = λ place. by_session (slice_get ss place) (sound place)
  where
    by_session : (o : Option SettledSession) → IfSome o (λ s. IsPressableBy system ss s.start s × AreBelow80h s.keys × GivesItsKeysAgain s) → IfSome o (λ s. IsPressableBy system ss s.start s)
    by_session None h = tt
    by_session (Some s) h = h.0

-- ---- none is refused that was accepted

refusal_by : Host → ℕ → List Disk → Option OpenError
refusal_by h quota drives = fault_else (if nat_lt quota 16 || nat_lt 256 quota then Some opening.BadQuota else drives_fault (length drives)) (room_fault h quota)

refusal_is : (h : Host) (cpu : Cpu) (quota : ℕ) (drives : List Disk) (o : Opening) → IsOpening cpu quota drives o → refusal_of h o ≡ refusal_by h quota drives
unfolding refusal_by
refusal_is h cpu quota drives o is = ap (λ (n : ℕ). refusal_by h n o.drives.items) is.quota ∙ ap (λ (ds : List Disk). refusal_by h quota ds) is.drives

host_is : (h : Host) (cpu : Cpu) (quota : ℕ) (drives : List Disk) (o : Opening) → IsOpening cpu quota drives o → with_opened h o ≡ with_added h (opened_machine cpu quota drives)
host_is h cpu quota drives o is =
    ap (λ (c : Cpu). with_added h (opened_machine c o.quota o.drives.items)) is.cpu ∙ ap (λ (n : ℕ). with_added h (opened_machine cpu n o.drives.items)) is.quota
    ∙ ap (λ (ds : List Disk). with_added h (opened_machine cpu quota ds)) is.drives

second_none : (a b : Option OpenError) → fault_else a b ≡ None → b ≡ None
second_none None b e = e
second_none (Some f) b e = absurd (cc)

has_number : (h : Host) (quota : ℕ) → room_fault h quota ≡ None → lacks_slot h ≡ false
has_number h quota none = by_test (lacks_slot h) refl none
  where
    by_test : (t : Bool) → lacks_slot h ≡ t → (if t then Some opening.NoSlot else (if nat_lt h.frames (quotas_of h.slots + quota) then Some opening.NoFrames else None)) ≡ None → t ≡ false
    by_test false e n = refl
    by_test true e n = absurd (cc)

numbered : (h : Host) (quota : ℕ) → room_fault h quota ≡ None → h.openings ≤ 18446744073709551615 → h.openings + 1 ≤ 18446744073709551615
numbered h quota none low = by_test (18446744073709551615) (has_number h quota none)
  where
    by_test : (n : ℕ) → lacks_slot h ≡ false → h.openings + 1 ≤ 18446744073709551615
    by_test n has = grind (arith, nat_tests)

numbered_opened : (h : Host) (o : Opening) → refusal_of h o ≡ None → h.openings ≤ 18446744073709551615 → h.openings + 1 ≤ 18446744073709551615
numbered_opened h o none low = numbered h o.quota (second_none (opening_fault o) (room_fault h o.quota) none) low

-- a saving that is not refused has a place
restored_room : (h : Host) (x : Saving) → restoring_fault h x ≡ None → room_fault h x.state.quota ≡ None
restored_room h x none = by_test (are_same x.system_digest (system_digest h.system)) (room_fault h x.state.quota) none
  where
    by_test : (same : Bool) (room : Option OpenError) → (if not same then Some Elsewhere else option_map Unopened room) ≡ None → room ≡ None
    by_test true None n = refl
    by_test true (Some e) n = absurd (cc)
    by_test false room n = absurd (cc)

never_short : (all : List StartInput) (h : Host) (fault : StartFault) (place : ℕ) → h.openings ≤ 18446744073709551615 → HasForkRoom all h → AreUnforked all h fault place → ⊥
never_short all h (Unopened opening.NoSlot) place low room short =
    ⊎_elim (λ slots. let s = room.slots in omega (arith, s, slots)) (λ numbers. by_forks _ room.numbers numbers) short.1
  where
    by_forks : (n : ℕ) → (0 < n → h.openings + n ≤ 18446744073709551615) → 18446744073709551615 < h.openings + n → ⊥
    by_forks zero has over = omega (arith, low, over)
    by_forks (suc n) has over = let r = has (omega arith) in omega (arith, r, over)
never_short all h (Unopened opening.NoFrames) place low room short = let f = room.frames in let s = short.1 in omega (arith, f, s)
never_short all h (Unopened _) place low room short = absurd short.1
never_short all h Elsewhere place low room short = short

never_both : (all starts : List StartInput) (h : Host) (from : ℕ) (fault : StartFault) (place : ℕ) → h.openings ≤ 18446744073709551615 → AllAccepted all h starts → IsRefusedAmong all h from starts fault place → ⊥
never_both all [] h from fault place low room short = never_short all h fault place low room short
never_both all (Opens cpu quota drives ∷ starts) h from fault place low was isn =
    let same : refusal_of h was.0 ≡ refusal_of h isn.0 = refusal_is h cpu quota drives was.0 was.1 ∙ sym (refusal_is h cpu quota drives isn.0 isn.1) in
    let next : with_opened h isn.0 ≡ with_opened h was.0 = host_is h cpu quota drives isn.0 isn.1 ∙ sym (host_is h cpu quota drives was.0 was.1) in
    ⊎_elim (λ refused. let bad : None ≡ Some fault = ap (option_map Unopened) (sym was.2 ∙ same) ∙ refused.0 in cc)
    (λ later. never_both all starts (with_opened h was.0) (from + 1) fault place (numbered_opened h was.0 was.2 low) was.3 (subst (λ (x : Host). IsRefusedAmong all x (from + 1) starts fault place) next later.1)) isn.2
never_both all (Forks parent at ∷ starts) h from fault place low was isn = never_both all starts h (from + 1) fault place low was isn
never_both all (Restores x ∷ starts) h from fault place low was isn =
    ⊎_elim (λ refused. let bad : None ≡ Some fault = sym was.0 ∙ refused.0 in cc)
    (λ later. never_both all starts (with_added h x.state) (from + 1) fault place (numbered h x.state.quota (restored_room h x was.0) low) was.1 later.1) isn

-- ---- refusals

-- no session of that name can be typed at
pub place_refused : {S : Type 0} (acts : StoreActs S) (config : Config) (options : RunOptions) (io : Streams) (s : S) (e : RunError) → config_fault config ≡ None → IsPlaceRefusal config options e
    → AreUntouched io → IsRunRefusal acts config options io s s e
place_refused acts config options io s (refusal.NoSession shown) faultless h untouched = (faultless, h, record { same = refl; untouched = untouched })
place_refused acts config options io s (refusal.NotOpened shown) faultless h untouched = (faultless, h, record { same = refl; untouched = untouched })
place_refused acts config options io s _ faultless h untouched = absurd h

-- what is needed could not be read, or is not what it should be
module _ {S : Type 0} (acts : StoreActs S) (config : Config) (options : RunOptions) (io : Streams) (old new : S) where
  fails : (e : ReadError) → (e ≡ reading.OutOfMemory → ⊥) → IsReadRefusal (acts.files old) config options.replays.now e → acts.files new ≡ acts.files old
      → LogLeadsBy acts.does (StopsReading config options.replays.now e) old new → AreUntouched io → FailsAtInput acts config options io old new e
  fails e other held same calls untouched = record {
    held = ⊎_elim (λ m. absurd (other m)) (λ f. f) held;
    same = same;
    calls = (calls.0, ⊎_elim (λ m. absurd (other m.0)) (λ f. f) calls.1, calls.2);
    untouched = untouched;
  }

  pub reading_refused : (e : ReadError) → IsRunnable config options → IsReadRefusal (acts.files old) config options.replays.now e → acts.files new ≡ acts.files old
      → LogLeadsBy acts.does (StopsReading config options.replays.now e) old new → LogLeadsBy acts.does AreNoWrites old new → AreUntouched io
      → IsRunRefusal acts config options io old new (run_error_of_reading e)
  reading_refused (reading.File name) runnable held same calls unwritten untouched = (runnable, fails (reading.File name) (λ m. cc) held same calls untouched)
  reading_refused (reading.Image name count) runnable held same calls unwritten untouched = (runnable, fails (reading.Image name count) (λ m. cc) held same calls untouched)
  reading_refused (reading.Script name line fault) runnable held same calls unwritten untouched = (runnable, fails (reading.Script name line fault) (λ m. cc) held same calls untouched)
  reading_refused (reading.Saving refused) runnable held same calls unwritten untouched = (runnable, fails (reading.Saving refused) (λ m. cc) held same calls untouched)
  reading_refused (reading.SavedDrives session drives names) runnable held same calls unwritten untouched = (runnable, fails (reading.SavedDrives session drives names) (λ m. cc) held same calls untouched)
  reading_refused (reading.ForkedEarly session at count) runnable held same calls unwritten untouched = (runnable, fails (reading.ForkedEarly session at count) (λ m. cc) held same calls untouched)
  reading_refused reading.OutOfMemory runnable held same calls unwritten untouched = (runnable, inl (record { same = same; calls = unwritten; untouched = untouched }))

-- settling is refused
pub settle_refused : {S : Type 0} (acts : StoreActs S) (config : Config) (options : RunOptions) (io : Streams) (system : Disk) (inputs : List SessionInput) (old new : S) (e : RunError)
    → IsRunnable config options → HasReadInputs acts config options system inputs old new → IsSettleRefusal config options io system inputs e → IsRunRefusal acts config options io old new e
settle_refused {S} acts config options io system inputs old new e runnable read r = by_error e r
  where
    after : (e : RunError) → IsSettleRefusal config options io system inputs e → StopsAfterReading acts config options io old new e
    after e r = record { system = system; inputs = inputs; read = read; refused = r }

    by_error : (e : RunError) → IsSettleRefusal config options io system inputs e → IsRunRefusal acts config options io old new e
    by_error (refusal.SessionRefused name fault) r = (runnable, after (refusal.SessionRefused name fault) r)
    by_error (refusal.FramesExceeded name quotas frames) r = (runnable, after (refusal.FramesExceeded name quotas frames) r)
    by_error (refusal.SavedElsewhere name) r = (runnable, after (refusal.SavedElsewhere name) r)
    by_error (refusal.InputUnreadable reason) r = (runnable, after (refusal.InputUnreadable reason) r)
    by_error (refusal.OutputUnwritable reason) r = (runnable, after (refusal.OutputUnwritable reason) r)
    by_error (refusal.ListUnwritable reason) r = (runnable, after (refusal.ListUnwritable reason) r)
    by_error (refusal.RecordUnwritable reason) r = (runnable, after (refusal.RecordUnwritable reason) r)
    by_error (refusal.TooManyKeys shown) r = (runnable, after (refusal.TooManyKeys shown) r)
    by_error refusal.OutOfMemory r = (runnable, inr (inl (after refusal.OutOfMemory r)))
    by_error _ r = absurd r

-- playing is refused: only for memory, since all were accepted
pub play_settled : (config : Config) (options : RunOptions) (io : Streams) (system : Disk) (inputs : List SessionInput) (settled : List SettledSession) (e : RunError)
    → AreSettledBy config options io system inputs settled → IsSlotRefusal config.sessions.items (new_host system config.frames) (starts_of settled) e → IsSettleRefusal config options io system inputs e
play_settled config options io system inputs settled e h r =
    by_error e (subst (λ (bs : List StartInput). IsSlotRefusal config.sessions.items (new_host system config.frames) bs e)
    (settled_starts system options.stops_idle h.typed config.sessions.items [] inputs settled h.keys) r)
  where
    never : (fault : StartFault) (shown : List ℕ) → IsRefusedByName config.sessions.items (new_host system config.frames) (starts_read inputs) fault shown → ⊥
    never fault shown isn = never_both (starts_read inputs) (starts_read inputs) (new_host system config.frames) 0 fault isn.place (omega arith) h.accepted isn.first

    by_error : (e : RunError) → IsSlotRefusal config.sessions.items (new_host system config.frames) (starts_read inputs) e → IsSettleRefusal config options io system inputs e
    by_error (refusal.SessionRefused name fault) r = absurd (never (Unopened fault) name.bytes r)
    by_error (refusal.SavedElsewhere name) r = absurd (never Elsewhere name.bytes r)
    by_error refusal.OutOfMemory r = inr (inr (record { accepted = h.accepted; typed = h.typed; heard = h.heard }))
    by_error _ r = absurd r

-- what a host refuses for a session it doesn't accept
pub slot_unaccepted : (sessions : List SessionConfig) (system : Disk) (frames : ℕ) (starts : List StartInput) (e : RunError) → IsSlotRefusal sessions (new_host system frames) starts e → (e ≡ refusal.OutOfMemory → ⊥)
    → AllAccepted starts (new_host system frames) starts → ⊥
slot_unaccepted sessions system frames starts e r other accepted = by_error e r other
  where
    never : (fault : StartFault) (shown : List ℕ) → IsRefusedByName sessions (new_host system frames) starts fault shown → ⊥
    never fault shown isn = never_both starts starts (new_host system frames) 0 fault isn.place (omega arith) accepted isn.first

    by_error : (e : RunError) → IsSlotRefusal sessions (new_host system frames) starts e → (e ≡ refusal.OutOfMemory → ⊥) → ⊥
    by_error (refusal.SessionRefused name fault) r other = never (Unopened fault) name.bytes r
    by_error (refusal.SavedElsewhere name) r other = never Elsewhere name.bytes r
    by_error refusal.OutOfMemory r other = other refl
    by_error _ r other = absurd r

-- ---- what was played

-- what comes together in a run that was settled so
abbrev pub parts_by : (config : Config) (options : RunOptions) (io : Streams) (system : Disk) (inputs : List SessionInput) (settled : List SettledSession) → AreSettledBy config options io system inputs settled
    → Option RunStanding → RunParts
parts_by config options io system inputs settled h from = record { system = system; inputs = inputs; typed = h.typed; settled = settled; from = from }

pub are_parts : (config : Config) (options : RunOptions) (io : Streams) (system : Disk) (inputs : List SessionInput) (settled : List SettledSession) (h : AreSettledBy config options io system inputs settled)
    (from : Option RunStanding) → GoesOnOrBegins system config.frames settled (kept_by_options system options settled) from → AreParts config options io (parts_by config options io system inputs settled h from)
are_parts config options io system inputs settled h from gone = record {
  accepted = h.accepted;
  heard = h.heard;
  keys = h.keys;
  gone = gone;
}

-- all that is written, by the parts of the run
pub written_as : {S : Type 0} (acts : StoreActs S) (ps qs : List NamedBytes) (old new : S) → ps ≡ qs → HasWrittenOutputs acts ps old new → HasWrittenOutputs acts qs old new
written_as acts ps qs old new are h = subst (λ (rs : List NamedBytes). HasWrittenOutputs acts rs old new) are h

-- where a write is refused
pub write_refused : {S : Type 0} (acts : StoreActs S) (config : Config) (options : RunOptions) (io : Streams) (parts : RunParts) (old between new : S) (ps : List NamedBytes) (place : ℕ) (e : RunError)
    → IsRunnable config options → HasReadInputs acts config options parts.system parts.inputs old between → AreParts config options io parts → ps ≡ outputs_by options parts → IsWriteRefusal ps place e
    → WhereTold (acts.files between) (acts.files new) (StopsAt ps place) → LogLeadsBy acts.does (StopsAfter ps place) between new → IsRunRefusal acts config options io old new e
write_refused {S} acts config options io parts old between new ps place e runnable read played are why hold calls = by_error e why
  where
    stops : (e : RunError) → IsWriteRefusal ps place e → StopsWriting acts config options io old new e
    stops e why = record {
      parts = parts;
      between = between;
      read = read;
      played = played;
      place = place;
      hold = subst (λ (qs : List NamedBytes). WhereTold (acts.files between) (acts.files new) (StopsAt qs place)) are hold;
      calls = subst (λ (qs : List NamedBytes). LogLeadsBy acts.does (StopsAfter qs place) between new) are calls;
      why = subst (λ (qs : List NamedBytes). IsWriteRefusal qs place e) are why;
    }

    by_error : (e : RunError) → IsWriteRefusal ps place e → IsRunRefusal acts config options io old new e
    by_error (refusal.WriteFault name) why = (runnable, stops (refusal.WriteFault name) why)
    by_error refusal.OutOfMemory why = (runnable, inr (inr (stops refusal.OutOfMemory why)))
    by_error _ why = absurd why

-- the output at a place, as it is named
pub output_at : (outputs : List Output) (place : ℕ) (o : Output) (shown : List ℕ) → place < length outputs → o ≡ get_or outputs place o → shown ≡ shown_of (chars o.name.now) → IsOutputAt (map named_output outputs) place shown
output_at outputs place o shown within is told = record {
  output = named_output o;
  there = slice_get-map named_output outputs place ∙ ap (option_map named_output) (slice_get-get_or outputs place o within ∙ ap (λ (x : Output). Some x) (sym is));
  told = told;
}
