-- Where a machine that is played live wants a key, and what is watched of it. All of it is own, but for the calls that ask.
use Rattle.std.specs.Prelude.{⊤, ◌≡◌, ℕ, zero, suc, ◌+◌, ◌-◌, ◌*◌, ◌^◌, ◌<◌, ◌≤◌, min, max, nat_le, Bool, true, false, not, ◌==◌, ◌&&◌, ◌||◌, ◌⊎◌}
use Rattle.std.specs.Prelude.{List, [], ◌∷◌, ◌++◌, length, if◌then◌else◌}
use Rattle.cpm_console.specs.Terminal.{step_output}
use Rattle.cpm_flags.specs.declared.regs.Regs.{Regs}
use Rattle.cpm_geom.specs.Disk.{Disk}
use Rattle.cpm_memory.specs.Layout.{bdos_address, first_bios_address}
use Rattle.cpm_script.specs.declared.script.Key.{Key}
use Rattle.cpm_machine.specs.MachineState.{MachineState}
use Rattle.cpm_machine.specs.Serve.{look_of}
use Rattle.cpm_machine.specs.Step.{is_running}
use Rattle.cpm_machine.specs.Until.{begins_at, executed_until, why_until}
use Rattle.cpm_machine.specs.declared.reply.Look.{Look}
use Rattle.cpm_machine.specs.declared.reply.Why.{Why}
use Rattle.cpm_machine.specs.declared.reply.Why.TheVariants.{Break}
use Rattle.cpm_play.specs.Playing.{alone_by, last_count, printer_at, screen_at, waits_at}
use Rattle.cpm_play.specs.declared.typist.KeyNeed.{KeyNeed}
use Rattle.cpm_play.specs.declared.typist.KeyNeed.TheVariants.{Pending, Possible, Wanted}
use Rattle.cpm_play.specs.declared.watch.Watch.{Watch}

-- ---- the calls that ask whether a key is there

-- CP/M 2.2 Operating System Manual, section 5.2, the functions by the number in C: 11, GET CONSOLE STATUS; and 6, DIRECT CONSOLE I/O, with FFh in E, by which
-- a key is read if one is there. Own: and with FEh, which asks whether one is. With less in E it shows a byte
abbrev pub is_poll : Regs → Bool
is_poll regs = (regs.c == 11) || ((regs.c == 6) && nat_le 0xFE regs.e)

-- section 6.6, The BIOS Entry Points: CONST, call 2
abbrev pub console_status_address : ℕ
console_status_address = first_bios_address + 2

-- the machine runs, and its next step begins such a call in the program: of the BDOS, or CONST
abbrev pub asks_by_bdos : MachineState → Bool
asks_by_bdos s = is_running s.ended && (begins_at bdos_address s.session && is_poll s.session.regs)

abbrev pub asks_by_status : MachineState → Bool
asks_by_status s = is_running s.ended && begins_at console_status_address s.session

abbrev pub asks_for_key : MachineState → Bool
asks_for_key s = asks_by_bdos s || asks_by_status s

-- ---- where a key is wanted

-- at a count within these, the machine run alone asks for a key and has shown just this
pub record HasAsked (system : Disk) (start : MachineState) (keys : List Key) (from until : ℕ) (shown : List ℕ) (at : ℕ) : Type 0 where
  pub later : from ≤ at
  pub sooner : at < until
  pub asks : asks_for_key (alone_by system keys at start) ≡ true
  pub still : screen_at system start keys at ≡ shown

-- so it does at so many counts, the latest first
unfoldable pub HasPolled : Disk → MachineState → List Key → (count from until : ℕ) → (shown : List ℕ) → Type 0
HasPolled system start keys zero from until shown = ⊤
HasPolled system start keys (suc count) from until shown =
    (at : ℕ) × HasAsked system start keys from until shown at × HasPolled system start keys count from at shown

-- how many of them show that it does nothing else
abbrev pub polls_enough : ℕ
polls_enough = 64

-- After these keys and so many steps the machine run alone wants a key: none is pending, and it waits for one, or it has asked 64 times since the last key
-- and has shown nothing between.
pub record IsKeyWanted (system : Disk) (start : MachineState) (keys : List Key) (done : ℕ) : Type 0 where
  pub none : (alone_by system keys done start).session.console.keys ≡ []
  pub why : (waits_at system start keys done ≡ true)
      ⊎ HasPolled system start keys polls_enough (last_count 0 keys) (done + 1) (screen_at system start keys done)

-- each of the keys that come after these was wanted where it came
abbrev pub AreWantedAfter : Disk → MachineState → (given keys : List Key) → Type 0
AreWantedAfter system start given [] = ⊤
AreWantedAfter system start given (k ∷ keys) = IsKeyWanted system start given k.count × AreWantedAfter system start (given ++ k ∷ []) keys

-- ---- where none was given

-- own: the steps of the longest turn
abbrev pub longest_turn : ℕ
longest_turn = 100000

-- from one count up to another it waits for a key for no longer than a turn: of 100,001 counts in a row there is one at which it does not wait
abbrev pub HasNoLongWait : Disk → MachineState → List Key → (from until : ℕ) → Type 0
HasNoLongWait system start keys from until =
    (n : ℕ) → from ≤ n → n + longest_turn < until → ((i : ℕ) → n ≤ i → i ≤ n + longest_turn → waits_at system start keys i ≡ true) → ⊥

-- own: polls that are counted in a row are less than so many steps apart
abbrev pub poll_pause : ℕ
poll_pause = 10000

-- no key is pending, the machine has shown just this, and where it begins a call of the BDOS that is a poll
pub record DoesNoMore (shown : List ℕ) (s : MachineState) : Type 0 where
  pub none : s.session.console.keys ≡ []
  pub still : s.session.console.screen ≡ shown
  pub only : is_running s.ended ≡ true → begins_at bdos_address s.session ≡ true → is_poll s.session.regs ≡ true

-- From one count up to another the machine run alone polls steadily, by calls of one kind. At each count it does no more. Behind each it asks again, less than
-- 10,000 steps later. And in less than 10,000 steps it puts no more bytes on its list device than may wait there where a step begins: behind more a turn ends.
pub record PollsSteadily (system : Disk) (start : MachineState) (keys : List Key) (asks : MachineState → Bool) (from until : ℕ) : Type 0 where
  pub calm : (i : ℕ) → from ≤ i → i ≤ until → DoesNoMore (screen_at system start keys from) (alone_by system keys i start)
  pub often : (i : ℕ) → from ≤ i → i + poll_pause ≤ until → (at : ℕ) × (i < at) × (at < i + poll_pause) × (asks (alone_by system keys at start) ≡ true)
  pub prints : (i j : ℕ) → from ≤ i → i ≤ j → j < i + poll_pause → j ≤ until →
      length (printer_at system start keys j) ≤ length (printer_at system start keys i) + step_output

-- own: the steps of 150 of the longest turns
abbrev pub longest_polling : ℕ
longest_polling = 15000000

-- from one count up to another it polls steadily for no longer, by either kind of call: then a key comes (which is pending at its count)
abbrev pub HasNoLongPoll : Disk → MachineState → List Key → (from until : ℕ) → Type 0
HasNoLongPoll system start keys from until =
    (n : ℕ) → from ≤ n → n + longest_polling < until
    → (PollsSteadily system start keys asks_by_bdos n (n + longest_polling) ⊎ PollsSteadily system start keys asks_by_status n (n + longest_polling)) → ⊥

-- ---- what is watched

-- what it can do with a key, of which this is seen
abbrev pub need_of : Watch → Look → KeyNeed
need_of watch look = if look.keys == 0 then (if look.waiting || nat_le polls_enough watch.polls then Wanted else Possible) else Pending

-- before which address the next turn stops
abbrev pub watched_address : Watch → ℕ
watched_address watch = if watch.at_status then console_status_address else bdos_address

-- own: the steps of the first turn at most, and of the first after a key
abbrev pub first_quantum : ℕ
first_quantum = 100

-- how many steps the next turn has at most
abbrev pub most_watched : Watch → ℕ
most_watched watch = if watch.is_pause then poll_pause else min (max watch.quantum first_quantum) longest_turn

-- twice as many, as far as they fit
abbrev pub doubled : ℕ → ℕ
doubled n = min (n * 2) (2 ^ 64 - 1)

-- how many polls came in a row, where a turn stopped before one more, or before another call
abbrev pub polls_more : Bool → ℕ → ℕ
polls_more true polls = min (polls + 1) (2 ^ 32 - 1)
polls_more false polls = 0

-- those before a text don't count
abbrev pub polls_kept : ℕ → Look → ℕ
polls_kept polls look = if look.console == 0 then polls else 0

-- what is watched before the first turn, after a turn that was not watched, and after a key
abbrev pub first_watch : Watch
first_watch = record { polls = 0; at_status = false; is_pause = false; quantum = first_quantum }

abbrev pub watch_passed : Watch → Watch
watch_passed watch = record watch { polls = 0; quantum = doubled watch.quantum }

abbrev pub watch_given : Watch → Watch
watch_given watch = record watch { polls = 0; quantum = first_quantum }

-- after a turn that stopped before a call, and after one that stopped before none: then calls of the other kind are watched, for twice as long
abbrev pub watch_called : (asks : Bool) → Watch → Watch
watch_called asks watch = record { polls = polls_more asks watch.polls; at_status = false; is_pause = watch.at_status; quantum = watch.quantum }

abbrev pub watch_uncalled : Watch → Watch
watch_uncalled watch = record { polls = watch.polls; at_status = not watch.at_status; is_pause = false; quantum = doubled watch.quantum }

abbrev pub watch_by : Why → (asks : Bool) → Watch → Watch
watch_by Break asks watch = watch_called asks watch
watch_by _ asks watch = watch_uncalled watch

-- after a turn that left this
abbrev pub watch_after : Watch → Look → Why → Watch
watch_after watch look why = watch_by why (watch.at_status || is_poll look.regs) (record watch { polls = polls_kept watch.polls look })

-- a turn of so many steps that left this state has seen no more polls than there were, or one more where the machine then asks for a key
abbrev pub HasWatched : (old new : Watch) → (steps : ℕ) → MachineState → Type 0
HasWatched old new steps now =
    (new.polls ≤ polls_kept old.polls (look_of now))
    ⊎ ((0 < steps) × (asks_for_key now ≡ true) × (new.polls ≤ polls_kept old.polls (look_of now) + 1))

-- a turn of at most so many steps was watched: how many it had, and what was seen of the state that it left
pub record IsWatchedTurn (system : Disk) (most : ℕ) (old new : Watch) (steps : ℕ) (before now : MachineState) : Type 0 where
  pub executed : steps ≡ executed_until system (watched_address old) (min (most_watched old) most) before
  pub seen : new ≡ watch_after old (look_of now) (why_until (watched_address old) (min (most_watched old) most) steps now)
