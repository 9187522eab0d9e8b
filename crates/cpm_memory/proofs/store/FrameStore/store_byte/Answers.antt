use Rattle.std.proofs.Common.{◌≡◌, ◌/◌, ◌<◌, List, ℕ, [], arith, get_or, ap, subst, refl, ◌∙◌, sym}
use Rattle.cpm_memory.specs.Contents.{after_set}
use Rattle.cpm_memory.specs.Frames.{ChangesTable, MovesAtMost, memory_of}
use Rattle.cpm_memory.specs.Kept.{with_stamp}
use Rattle.cpm_memory.specs.Stamps.{after_stamp}
use Rattle.cpm_memory.proofs.Accesses.{IsRaised, IsRaised-from, ChangesTable-raised}
use Rattle.cpm_memory.proofs.store.FrameStore.store_byte.Goals as goal
use Rattle.cpm_memory.proofs.store.FrameStore.store_byte.Goals.{After-raise_stamp}

raised : (c : After-raise_stamp) → c.raise_stamp.new.self ≡ with_stamp c.set_byte.new.self c.args.table (c.args.address / 256)
raised c = c.raise_stamp.ensures.raised ∙ ap (λ t. with_stamp c.set_byte.new.self t (c.args.address / 256)) c.index-index.ensures.index

-- what raising a stamp leaves of the store in which the byte was put
stamped : (c : After-raise_stamp) → IsRaised c.set_byte.new.self c.raise_stamp.new.self c.args.table (c.args.address / 256)
stamped c =
    let within : c.args.table < 64 = omega (arith, c.index-index.ensures.index, c.index-index.ensures.within) in
    IsRaised-from c.set_byte.new.self c.set_byte.new.self c.raise_stamp.new.self c.args.table (c.args.address / 256) c.set_byte.ensures.sound within refl (raised c)

pub returns-clause-memory : goal.returns-clause-memory
returns-clause-memory c =
    ap (λ s. memory_of s c.args.table) (raised c)
    ∙ subst (λ t. memory_of c.set_byte.new.self t ≡ after_set (memory_of c.args.self.now t) c.args.address c.args.value) c.index-index.ensures.index c.set_byte.ensures.memory

pub returns-clause-stamps : goal.returns-clause-stamps
returns-clause-stamps c = (stamped c).stamps ∙ ap (λ (xs : List (List ℕ)). after_stamp (get_or xs c.args.table []) (c.args.address / 256)) c.set_byte.ensures.stamps

pub returns-clause-others : goal.returns-clause-others
returns-clause-others c =
    ChangesTable-raised c.args.self.now c.set_byte.new.self c.raise_stamp.new.self c.args.table c.args.table (c.args.address / 256)
    (subst (λ t. ChangesTable c.args.self.now c.set_byte.new.self t) c.index-index.ensures.index c.set_byte.ensures.others) (raised c)

pub returns-clause-other_stamps : goal.returns-clause-other_stamps
returns-clause-other_stamps c = λ t ne. (stamped c).others t ne ∙ ap (λ (xs : List (List ℕ)). get_or xs t []) c.set_byte.ensures.stamps

pub returns-clause-moves : goal.returns-clause-moves
returns-clause-moves c =
    subst (λ s. MovesAtMost c.args.self.now s c.args.table (c.args.address / 256)) (sym (raised c))
    (subst (λ t. MovesAtMost c.args.self.now c.set_byte.new.self t (c.args.address / 256)) c.index-index.ensures.index c.set_byte.ensures.moves)
