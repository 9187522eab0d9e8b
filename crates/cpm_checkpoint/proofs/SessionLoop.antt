-- Sessions that are read one after another, as a loop does.
use Rattle.std.proofs.Common.{◌≡◌, ◌∙◌, ◌<◌, ◌≤◌, ◌+◌, ◌-◌, ℕ, suc, List, [], ◌∷◌, ◌++◌, Option, Ok, Err, ap, append_assoc, arith, refl, sym}
use Rattle.std.proofs.lemmas.List.{append-nil}
use Rattle.cpm_checkpoint.specs.CheckpointBytes.{SessionValue}
use Rattle.cpm_checkpoint.specs.CheckpointReading.{IsRefusedAt, Parsed, Unread, marked_read, sessions_read}
use Rattle.cpm_checkpoint.proofs.Fields.{◌>>=◌}
use Rattle.cpm_checkpoint.specs.declared.checkpoint.CheckpointError.{CheckpointError}
use Rattle.cpm_checkpoint.specs.declared.checkpoint.CheckpointError.TheVariants.{Damaged, OutOfMemory}

-- what was read before, and what is still read
abbrev pub with_front : List (Option SessionValue) → Parsed (List (Option SessionValue)) → Parsed (List (Option SessionValue))
with_front front read = read >>= λ p. Ok (front ++ p.0, p.1)

regroup : (front : List (Option SessionValue)) (o : Option SessionValue) (read : Parsed (List (Option SessionValue)))
    → with_front front (read >>= λ p. Ok (o ∷ p.0, p.1)) ≡ with_front (front ++ o ∷ []) read
regroup front o (Ok p) = ap (λ (os : List (Option SessionValue)). Ok (os, p.1)) (simp append_assoc)
regroup front o (Err at) = refl

pub goes_on : (front : List (Option SessionValue)) (count i : ℕ) (rest : Unread) (o : Option SessionValue) (after : Unread)
    (all : Parsed (List (Option SessionValue))) → i < count → marked_read rest ≡ Ok (o, after)
    → with_front front (sessions_read (count - i) rest) ≡ all → with_front (front ++ o ∷ []) (sessions_read (count - (i + 1)) after) ≡ all
unfolding sessions_read
goes_on front count i rest o after all more here so_far =
    let next : count - i ≡ suc (count - (i + 1)) = omega (arith, more) in
    let one : with_front front (sessions_read (count - i) rest) ≡ with_front (front ++ o ∷ []) (sessions_read (count - (i + 1)) after) =
    rw (next, here) (regroup front o (sessions_read (count - (i + 1)) after)) in
    sym one ∙ so_far

pub ends : (fault : CheckpointError) (front : List (Option SessionValue)) (count i : ℕ) (rest : Unread) (all : Parsed (List (Option SessionValue)))
    → i < count → IsRefusedAt (marked_read rest) fault → with_front front (sessions_read (count - i) rest) ≡ all → IsRefusedAt all fault
unfolding sessions_read
ends OutOfMemory front count i rest all more here so_far = tt
ends (Damaged at) front count i rest all more here so_far =
    let next : count - i ≡ suc (count - (i + 1)) = omega (arith, more) in
    let one : with_front front (sessions_read (count - i) rest) ≡ Err at = rw (next, here) refl in
    sym so_far ∙ one

pub is_done : (front : List (Option SessionValue)) (count i : ℕ) (rest : Unread) (all : Parsed (List (Option SessionValue))) → count ≤ i
    → with_front front (sessions_read (count - i) rest) ≡ all → all ≡ Ok (front, rest)
unfolding sessions_read
is_done front count i rest all done so_far =
    let none : count - i ≡ 0 = omega (arith, done) in
    let one : with_front front (sessions_read (count - i) rest) ≡ Ok (front, rest) =
    rw none (ap (λ (os : List (Option SessionValue)). Ok (os, rest)) (append-nil front)) in
    sym so_far ∙ one
