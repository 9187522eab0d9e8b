-- What is restored of a machine's saving is the machine, and nothing else is.
use Rattle.std.proofs.Common.{◌≡◌, ◌∙◌, ◌<◌, ◌≤◌, ◌+◌, ℕ, zero, suc, Bool, true, false, List, [], ◌∷◌, ◌++◌, length, Ok, Err, ap, arith, refl, sym, subst, inl, inr}
use Rattle.std.specs.Prelude.{◌⊎◌, Result, if◌then◌else◌, ◌==◌, ◌&&◌, ◌||◌, not, nat_le, nat_lt}
use Rattle.std.proofs.lemmas.Bool.Decides.{nat_tests}
use Rattle.std.proofs.lemmas.List.{append-nil}
use Rattle.cpm_flags.specs.Arithmetic.{bit}
use Rattle.cpm_flags.specs.declared.regs.Cpu.{Cpu}
use Rattle.cpm_flags.specs.declared.regs.Cpu.TheVariants.{I8080, Z80}
use Rattle.cpm_bdos.specs.declared.session.Session.{Session}
use Rattle.cpm_memory.specs.Contents.{Contents, IsContents, touched_of}
use Rattle.cpm_memory.specs.Room.{HasRoom}
use Rattle.cpm_memory.specs.Unwritten.{IsBlankUnwritten}
use Rattle.cpm_saved.proofs.LayoutLaws.{values_read}
use Rattle.cpm_saved.proofs.MemoryLaws.{fields_back, memory_back}
use Rattle.cpm_saved.proofs.ModeLaws.{pointwise_same}
use Rattle.cpm_saved.proofs.ReadLaws.{read_written}
use Rattle.cpm_saved.proofs.SessionLaws.{session_back, session_fields_back}
use Rattle.cpm_saved.specs.Layout.{AreBelow, IsOf, Read, Rest, coded, decoded, laid_out, rest_at}
use Rattle.cpm_saved.specs.SavedMemory.{memory_fields, memory_layout, memory_of_fields}
use Rattle.cpm_saved.specs.SavedSession.{IsSessionFit, saved_session_fields, saved_session_layout, saved_session_of_fields}
use Rattle.cpm_saved.specs.Reading.{IsPartUnread}
use Rattle.cpm_saved.specs.declared.part.SavingDamage.{SavingDamage}
use Rattle.cpm_saved.specs.declared.part.SavingPart.TheVariants as part
use Rattle.cpm_saved.specs.declared.reader.RestoreError.{RestoreError}
use Rattle.cpm_saved.specs.declared.reader.RestoreError.TheVariants.{Damaged, OutOfMemory}
use Rattle.cpm_machine.specs.declared.reply.End.{End}
use Rattle.cpm_machine.specs.declared.reply.End.TheVariants as end
use Rattle.cpm_machine.specs.MachineState.{MachineState}
use Rattle.cpm_machine.specs.Runner.{IsRunnerSound}
use Rattle.cpm_machine.specs.Step.{is_running}
use Rattle.cpm_machine.specs.Saving.{IsSavable, IsUnrestored, Saving, can_count, can_write, checked, end_number, end_of_number, has_count_left, has_pages, magic, numbers_fields, processor_number}
use Rattle.cpm_machine.specs.Saving.{processor_of_number, restored, bytes_of_saving, saving_fields, saving_layout, saving_of_fields, version, whole_read}

-- ---- numbers

processor_back : (cpu : Cpu) → processor_of_number (processor_number cpu) ≡ cpu
processor_back I8080 = refl
processor_back Z80 = refl

processor_again : (n : ℕ) → n < 2 → processor_number (processor_of_number n) ≡ n
processor_again zero small = refl
processor_again (suc zero) small = refl
processor_again (suc (suc n)) small = absurd (omega (arith, small))

flag_back : (b : Bool) → (bit b == 1) ≡ b
flag_back true = refl
flag_back false = refl

flag_again : (n : ℕ) → n < 2 → bit (n == 1) ≡ n
flag_again zero small = refl
flag_again (suc zero) small = refl
flag_again (suc (suc n)) small = absurd (omega (arith, small))

end_back : (e : End) → end_of_number (end_number e) ≡ e
end_back end.Running = refl
end_back end.Halted = refl
end_back end.Illegal = refl
end_back end.Quota = refl
end_back end.CountEnd = refl
end_back end.Exited = refl

end_again : (n : ℕ) → n < 6 → end_number (end_of_number n) ≡ n
end_again zero small = refl
end_again (suc zero) small = refl
end_again (suc (suc zero)) small = refl
end_again (suc (suc (suc zero))) small = refl
end_again (suc (suc (suc (suc zero)))) small = refl
end_again (suc (suc (suc (suc (suc zero))))) small = refl
end_again (suc (suc (suc (suc (suc (suc n)))))) small = absurd (omega (arith, small))

-- ---- fields

abbrev made : List ℕ → Cpu → Bool → (quota count : ℕ) → End → Contents → Session → Saving
made digest cpu with_program quota count ended memory session =
    record {
      system_digest = digest;
      state = record { cpu = cpu; session = session; memory = memory; quota = quota; count = count; ended = ended; with_program = with_program };
    }

memory_again : (quota : ℕ) (c : Contents) → IsContents c → IsBlankUnwritten c → memory_of_fields quota (memory_fields c) ≡ record c { limit = quota }
memory_again quota c is blank = ap (λ (d : Contents). record d { limit = quota }) (memory_back c is blank)

parts_back : (x : Saving) (c : Contents) → IsSessionFit x.state.session → IsContents c → IsBlankUnwritten c → x.state.memory ≡ record c { limit = x.state.quota }
    → saving_of_fields (saving_fields x) ≡ x
parts_back x c session is blank same =
    let s = x.state in
    let d = x.system_digest in
    let memory : memory_of_fields s.quota (memory_fields s.memory) ≡ s.memory =
    ap (λ (m : Contents). memory_of_fields s.quota (memory_fields m)) same ∙ memory_again s.quota c is blank ∙ sym same in
    ap (λ (k : Cpu). made d k (bit s.with_program == 1) s.quota s.count (end_of_number (end_number s.ended))
    (memory_of_fields s.quota (memory_fields s.memory)) (saved_session_of_fields (saved_session_fields s.session))) (processor_back s.cpu)
    ∙ ap (λ (b : Bool). made d s.cpu b s.quota s.count (end_of_number (end_number s.ended))
    (memory_of_fields s.quota (memory_fields s.memory)) (saved_session_of_fields (saved_session_fields s.session))) (flag_back s.with_program)
    ∙ ap (λ (e : End). made d s.cpu s.with_program s.quota s.count e
    (memory_of_fields s.quota (memory_fields s.memory)) (saved_session_of_fields (saved_session_fields s.session))) (end_back s.ended)
    ∙ ap (λ (m : Contents). made d s.cpu s.with_program s.quota s.count s.ended m (saved_session_of_fields (saved_session_fields s.session))) memory
    ∙ ap (λ (t : Session). made d s.cpu s.with_program s.quota s.count s.ended s.memory t) (session_back s.session session)

saving_back : (x : Saving) → IsSavable x.state → saving_of_fields (saving_fields x) ≡ x
saving_back x ok =
    parts_back x x.state.memory ok.session ok.memory ok.blank (ap (λ (n : ℕ). record x.state.memory { limit = n }) ok.limit)

abbrev laid : (m v d : List ℕ) → (cpu program quota count ended : ℕ) → laid_out memory_layout → laid_out saved_session_layout → laid_out saving_layout
laid m v d cpu program quota count ended memory session = ((m, (v, d)), ((cpu, (program, (quota, (count, ended)))), (memory, session)))

saving_again : (v : laid_out saving_layout) → IsOf saving_layout v → saving_fields (saving_of_fields v) ≡ v
saving_again v of =
    let d = v.0.1.1 in
    let cpu = v.1.0.0 in
    let program = v.1.0.1.0 in
    let quota = v.1.0.1.1.0 in
    let count = v.1.0.1.1.1.0 in
    let ended = v.1.0.1.1.1.1 in
    let memory = v.1.1.0 in
    let session = v.1.1.1 in
    ap (λ (n : ℕ). laid magic version d n (bit (program == 1)) quota count (end_number (end_of_number ended))
    (memory_fields (memory_of_fields quota memory)) (saved_session_fields (saved_session_of_fields session))) (processor_again cpu of.1.0.0)
    ∙ ap (λ (n : ℕ). laid magic version d cpu n quota count (end_number (end_of_number ended))
    (memory_fields (memory_of_fields quota memory)) (saved_session_fields (saved_session_of_fields session))) (flag_again program of.1.0.1.0)
    ∙ ap (λ (n : ℕ). laid magic version d cpu program quota count n
    (memory_fields (memory_of_fields quota memory)) (saved_session_fields (saved_session_of_fields session))) (end_again ended of.1.0.1.1.1.1)
    ∙ ap (λ (p : laid_out memory_layout). laid magic version d cpu program quota count ended p (saved_session_fields (saved_session_of_fields session)))
    (fields_back quota memory of.1.1.0)
    ∙ ap (λ (t : laid_out saved_session_layout). laid magic version d cpu program quota count ended memory t) (session_fields_back session of.1.1.1)
    ∙ ap (λ (m : List ℕ). laid m version d cpu program quota count ended memory session) (sym (pointwise_same v.0.0 magic of.0.0.1))
    ∙ ap (λ (n : List ℕ). laid v.0.0 n d cpu program quota count ended memory session) (sym (pointwise_same v.0.1.0 version of.0.1.0.1))

-- ---- what no machine can be

counts : (count : ℕ) (r : Bool) → (r ≡ true → count < 18446744073709551615) → not (r && (count == 18446744073709551615)) ≡ true
counts count true grows = let small = grows refl in grind (arith, nat_tests)
counts count false grows = refl

has_count_sound : (s : MachineState) → IsRunnerSound s → has_count_left s ≡ true
has_count_sound s ok = counts s.count (is_running s.ended) ok.count

or_true : (b c : Bool) → c ≡ true → (b || c) ≡ true
or_true true c e = refl
or_true false c e = e

room_left : (pages quota limit : ℕ) → limit ≡ quota → (pages + 8 ≤ limit) ⊎ (limit ≡ 256) → ((quota == 256) || nat_le (pages + 8) quota) ≡ true
room_left pages quota limit e (inl h) =
    let test : nat_le (pages + 8) quota ≡ true = grind (arith, nat_tests) in or_true (quota == 256) (nat_le (pages + 8) quota) test
room_left pages quota limit e (inr h) =
    let test : (quota == 256) ≡ true = grind (arith, nat_tests) in ap (λ (b : Bool). b || nat_le (pages + 8) quota) test

pages_left : (pages quota : ℕ) (r : Bool) → (r ≡ true → ((quota == 256) || nat_le (pages + 8) quota) ≡ true)
    → ((not r || (quota == 256)) || nat_le (pages + 8) quota) ≡ true
pages_left pages quota true room = room refl
pages_left pages quota false room = refl

has_pages_sound : (s : MachineState) → IsRunnerSound s → IsSavable s → has_pages s ≡ true
has_pages_sound s ok savable =
    let within = savable.memory.within in
    let limit : s.memory.limit ≡ s.quota = savable.limit in
    let test : nat_le (touched_of s.memory) s.quota ≡ true = grind (arith, nat_tests) in
    ap (λ (b : Bool). b && ((not (is_running s.ended) || (s.quota == 256)) || nat_le (touched_of s.memory + 8) s.quota)) test
    ∙ pages_left (touched_of s.memory) s.quota (is_running s.ended) (λ (r : is_running s.ended ≡ true).
    room_left (touched_of s.memory) s.quota s.memory.limit limit (ok.room r))

pub checked_is : (x : Saving) → has_count_left x.state ≡ true → has_pages x.state ≡ true → checked x ≡ Ok x
checked_is x count pages = rw (count, pages) refl

abbrev ok : Saving → Result Saving SavingDamage
ok x = Ok x

some_same : (x y : Saving) → ok x ≡ ok y → x ≡ y
some_same x y e = cc

by_tests : (c p : Bool) (one two : SavingDamage) (x y : Saving)
    → (if not c then Err one else (if not p then Err two else Ok x)) ≡ Ok y → x ≡ y
by_tests true true one two x y e = some_same x y e
by_tests true false one two x y e = absurd (cc)
by_tests false p one two x y e = absurd (cc)

checked_some : (x y : Saving) → checked x ≡ Ok y → x ≡ y
checked_some x y e = by_tests (has_count_left x.state) (has_pages x.state) _ _ x y e

-- ---- whole savings

pub saved_restored : (x : Saving) → IsSavable x.state → IsRunnerSound x.state → IsOf saving_layout (saving_fields x) → restored (bytes_of_saving x) ≡ Ok x
unfolding restored bytes_of_saving
saved_restored x savable sound of =
    let v = saving_fields x in
    let bytes = coded saving_layout v in
    let read : decoded saving_layout (rest_at 0 bytes) ≡ Ok (v, rest_at (0 + length bytes) []) =
    ap (λ (xs : List ℕ). decoded saving_layout (rest_at 0 xs)) (sym (append-nil bytes)) ∙ values_read saving_layout v 0 [] of in
    ap whole_read read ∙ ap checked (saving_back x savable)
    ∙ checked_is x (has_count_sound x.state sound) (has_pages_sound x.state sound savable)

record WholeRead (r : Read (laid_out saving_layout)) (x : Saving) : Type 0 where
  v : laid_out saving_layout
  place : ℕ
  read : r ≡ Ok (v, rest_at place [])
  made : saving_of_fields v ≡ x

by_length : (t : Bool) (r : Result Saving SavingDamage) (damage : SavingDamage) (x : Saving) → (if t then r else Err damage) ≡ ok x → (t ≡ true) × (r ≡ ok x)
by_length true r damage x e = (refl, e)
by_length false r damage x e = absurd (cc)

none_left : (bytes : List ℕ) → (length bytes == 0) ≡ true → bytes ≡ []
none_left [] e = refl
none_left (b ∷ bs) e = absurd (grind (arith, nat_tests))

by_rest : (v : laid_out saving_layout) (place : ℕ) (bytes : List ℕ) (x : Saving) → whole_read (Ok (v, rest_at place bytes)) ≡ ok x
    → WholeRead (Ok (v, rest_at place bytes)) x
by_rest v place bytes x e =
    let w = by_length (length bytes == 0) (checked (saving_of_fields v)) _ x e in record {
      v = v;
      place = place;
      read = ap (λ (bs : List ℕ). Ok (v, rest_at place bs)) (none_left bytes w.0);
      made = checked_some (saving_of_fields v) x w.1;
    }

whole_some : (r : Read (laid_out saving_layout)) (x : Saving) → whole_read r ≡ Ok x → WholeRead r x
whole_some (Err damage) x e = absurd (cc)
whole_some (Ok p) x e = by_rest p.0 p.1.at p.1.bytes x e

pub restored_saved : (bytes : List ℕ) (x : Saving) → AreBelow 256 bytes → restored bytes ≡ Ok x → bytes_of_saving x ≡ bytes
unfolding restored bytes_of_saving
restored_saved bytes x all e =
    let w = whole_some (decoded saving_layout (rest_at 0 bytes)) x e in
    let written = read_written saving_layout w.v 0 w.place bytes [] all w.read in
    ap (λ (y : Saving). coded saving_layout (saving_fields y)) (sym w.made) ∙ ap (coded saving_layout) (saving_again w.v written.1)
    ∙ sym (append-nil (coded saving_layout w.v)) ∙ sym written.0

-- ---- what is read

pub unread_unrestored : (bytes : List ℕ) (fault : RestoreError) → IsPartUnread (decoded saving_layout (rest_at 0 bytes)) fault → IsUnrestored (restored bytes) fault
unfolding restored
unread_unrestored bytes (Damaged damage) h = ap whole_read h
unread_unrestored bytes OutOfMemory h = tt

pub rest_unrestored : (bytes : List ℕ) (v : laid_out saving_layout) (rest : Rest) → decoded saving_layout (rest_at 0 bytes) ≡ Ok (v, rest)
    → (length rest.bytes == 0) ≡ false → restored bytes ≡ Err (record { field = part.Rest; at = rest.at })
unfolding restored
rest_unrestored bytes v rest e more =
    ap whole_read e ∙ ap (λ (b : Bool). if b then checked (saving_of_fields v) else Err (record { field = part.Rest; at = rest.at })) more

pub whole_restored : (bytes : List ℕ) (x : Saving) (rest : Rest) (c : Contents) → IsSessionFit x.state.session → IsContents c → IsBlankUnwritten c
    → x.state.memory ≡ record c { limit = x.state.quota } → decoded saving_layout (rest_at 0 bytes) ≡ Ok (saving_fields x, rest)
    → (length rest.bytes == 0) ≡ true → restored bytes ≡ checked x
unfolding restored
whole_restored bytes x rest c session is blank same e ends =
    ap whole_read e ∙ ap (λ (b : Bool). if b then checked (saving_of_fields (saving_fields x)) else Err (record { field = part.Rest; at = rest.at })) ends
    ∙ ap checked (parts_back x c session is blank same)

pub touched_limit : (c : Contents) (n : ℕ) → touched_of (record c { limit = n }) ≡ touched_of c
unfolding touched_of
touched_limit c n = refl

pub checked_fails : (x : Saving) → has_count_left x.state ≡ true → has_pages x.state ≡ false → checked x ≡ Err (record { field = part.Page; at = 54 })
checked_fails x count pages = rw (count, pages) refl

below_greatest : (count : ℕ) → count < 18446744073709551616 → not (true && (count == 18446744073709551615)) ≡ true → count < 18446744073709551615
below_greatest count fits e = grind (arith, nat_tests)

room_of_test : (pages quota limit : ℕ) → limit ≡ quota → ((quota == 256) || nat_le (pages + 8) quota) ≡ true → (pages + 8 ≤ limit) ⊎ (limit ≡ 256)
room_of_test pages quota limit e test = by_case (quota == 256) refl test
  where
    by_case : (t : Bool) → (quota == 256) ≡ t → (t || nat_le (pages + 8) quota) ≡ true → (pages + 8 ≤ limit) ⊎ (limit ≡ 256)
    by_case true is h = let all : limit ≡ 256 = grind (arith, nat_tests) in inr all
    by_case false is h = let few : pages + 8 ≤ limit = grind (arith, nat_tests) in inl few

and_right : (a b : Bool) → (a && b) ≡ true → b ≡ true
and_right true b e = e
and_right false b e = absurd (cc)

runs_room : (runs : Bool) (pages quota : ℕ) → runs ≡ true → can_write runs pages quota ≡ true → ((quota == 256) || nat_le (pages + 8) quota) ≡ true
runs_room true pages quota r e = and_right (nat_le pages quota) ((quota == 256) || nat_le (pages + 8) quota) e
runs_room false pages quota r e = absurd (cc)

runs_count : (runs : Bool) (count : ℕ) → runs ≡ true → can_count runs count ≡ true → not (true && (count == 18446744073709551615)) ≡ true
runs_count true count r e = e
runs_count false count r e = absurd (cc)

pub sound_checked : (s : MachineState) → s.memory.limit ≡ s.quota → s.count < 18446744073709551616 → has_count_left s ≡ true → has_pages s ≡ true → IsRunnerSound s
sound_checked s limit fits count pages = record {
  limit = limit;
  count = λ r. below_greatest s.count fits (runs_count (is_running s.ended) s.count r count);
  room = λ r. room_of_test (touched_of s.memory) s.quota s.memory.limit limit (runs_room (is_running s.ended) (touched_of s.memory) s.quota r pages);
}
