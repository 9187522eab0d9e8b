-- The life of a slot: the opening from which it comes, and all that was asked of it and of those that it was forked or restored from, up to then. (own)
use Rattle.std.specs.Prelude.{ℕ, ◌==◌, List, [], ◌∷◌, ◌++◌, map, Option, Some, None, if◌then◌else◌}
use Rattle.cpm_machine.specs.declared.opening.Opening.{Opening}
use Rattle.cpm_machine.specs.declared.opening.OpenError.{OpenError}
use Rattle.cpm_machine.specs.Saving.{restored}
use Rattle.cpm_slots.specs.declared.event.ForkError.{ForkError}
use Rattle.cpm_slots.specs.declared.event.HostRestoreError.{HostRestoreError}
use Rattle.cpm_slots.specs.declared.event.Reply.{Reply}
use Rattle.cpm_slots.specs.Serving.{Ask}
use Rattle.cpm_slots.specs.Host.{Host, Happening, Opens, Forks, Restores, Asks, slot_at, refusal_of, fork_fault, restore_fault, reply_at, after_one}

pub record Life : Type 0 where
  pub opening : Opening
  -- its own events, in order: those of the slot that it was forked from, up to the fork, or that was saved, up to the saving; then those that name it
  pub asks : List Ask
  -- the reply to each
  pub replies : List Reply

-- under the number of its slot
pub record NamedLife : Type 0 where
  pub id : ℕ
  pub life : Life

-- the life of the slot of a number
abbrev pub life_of : ℕ → List NamedLife → Option Life
life_of id [] = None
life_of id (x ∷ xs) = if x.id == id then Some x.life else life_of id xs

-- with one more, of a slot that has just been added
abbrev pub with_life : ℕ → Option Life → List NamedLife → List NamedLife
with_life id None lives = lives
with_life id (Some life) lives = lives ++ record { id = id; life = life } ∷ []

-- a life that goes on by what is asked, and by the reply
abbrev pub lived_on : Life → Ask → Reply → Life
lived_on life ask reply = record life { asks = life.asks ++ ask ∷ []; replies = life.replies ++ reply ∷ [] }

abbrev pub lived_by : ℕ → Ask → Reply → NamedLife → NamedLife
lived_by id ask reply x = if x.id == id then record { id = id; life = lived_on x.life ask reply } else x

-- an opening begins a life, where it is not refused
abbrev pub begun_if : Option OpenError → Host → Opening → List NamedLife → List NamedLife
begun_if None h o lives = with_life h.openings (Some (record { opening = o; asks = []; replies = [] })) lives
begun_if (Some fault) h o lives = lives

-- a fork gives the new slot the life of the other one so far
abbrev pub parted_if : Option ForkError → Host → ℕ → List NamedLife → List NamedLife
parted_if None h id lives = with_life h.openings (life_of id lives) lives
parted_if (Some fault) h id lives = lives

-- a restoring gives the new slot the life that its saving comes from
abbrev pub continued_if : Option HostRestoreError → Host → Life → List NamedLife → List NamedLife
continued_if None h life lives = with_life h.openings (Some life) lives
continued_if (Some fault) h life lives = lives

-- the lives of all slots after one thing that happened to a host, where it is told which life the saving of any bytes comes from
abbrev pub lives_by : (origin : List ℕ → Life) → Host → Happening → List NamedLife → List NamedLife
lives_by origin h (Opens o) lives = begun_if (refusal_of h o) h o lives
lives_by origin h (Forks id) lives = parted_if (fork_fault h (slot_at id h.slots)) h id lives
lives_by origin h (Restores bytes) lives = continued_if (restore_fault h (restored bytes)) h (origin bytes) lives
lives_by origin h (Asks id ask) lives = map (lived_by id ask (reply_at h id ask)) lives

-- and after all
abbrev pub lives : (origin : List ℕ → Life) → List Happening → Host → List NamedLife → List NamedLife
lives origin [] h ls = ls
lives origin (x ∷ xs) h ls = lives origin xs (after_one h x) (lives_by origin h x ls)
