use Rattle.std.proofs.Common.{◌≢◌, ◌+◌, ◌<◌, ◌++◌, ℕ, List, [], ◌∷◌, length, take, get_or, arith, ap, sym, ◌∙◌}
use Rattle.std.proofs.lemmas.List.{take_all, take_more, take_more_set, get_or-set_other}
use Rattle.cpm_bdos.specs.Disks.{changed_bytes}
use Rattle.cpm_bdos.proofs.FcbChanges.{length-changed, changed-same, changed-other}
use Rattle.cpm_bdos.proofs.transfer.put_changes.Goals.{then-new-place, else-new-place}
use Rattle.cpm_bdos.proofs.transfer.put_changes.Goals as goal

pub loop-place-preserved : goal.loop-place-preserved
loop-place-preserved c =
    let n = c.loop-place.place in
    let old = c.args.old.now in
    let new = c.args.new.now in
    let there = c.args.bytes.now in
    let bytes = c.loop-place.bytes in
    let changed = changed_bytes old new there in
    let inside : n < length changed = omega (arith, length-changed old new there (omega arith) (omega arith)) in
    let more = take_more changed n 0 inside in
    elim c.if-new-place.branch [
      | then-new-place w ↦
          record {
            size = c.if-new-place.array_long;
            changed = ap (λ (bs : List ℕ). take (n + 1) bs) w.bytes-is
                ∙ (take_more_set bytes n (get_or new n 0) (omega arith)
                ∙ (ap (λ (bs : List ℕ). bs ++ get_or new n 0 ∷ []) c.loop-place.invariant.changed
                ∙ (ap (λ (b : ℕ). take n changed ++ b ∷ []) (sym (changed-other old new there n (omega arith) (omega arith) (omega arith) w.if-new-place.true))
                ∙ sym more)));
            rest = λ k above.
                (let apart : k ≢ n = omega arith in
                ap (λ (bs : List ℕ). get_or bs k 0) w.bytes-is
                ∙ (get_or-set_other bytes n k (get_or new n 0) 0 apart ∙ c.loop-place.invariant.rest k (omega arith)));
          }
      | else-new-place w ↦
          record {
            size = c.if-new-place.array_long;
            changed = ap (λ (bs : List ℕ). take (n + 1) bs) w.bytes-is
                ∙ (take_more bytes n 0 (omega arith)
                ∙ (ap (λ (bs : List ℕ). bs ++ get_or bytes n 0 ∷ []) c.loop-place.invariant.changed
                ∙ (ap (λ (b : ℕ). take n changed ++ b ∷ []) (c.loop-place.invariant.rest n (omega arith) ∙ sym (changed-same old new there n (omega arith) (omega arith) (omega arith) w.if-new-place.false))
                ∙ sym more)));
            rest = λ k above. ap (λ (bs : List ℕ). get_or bs k 0) w.bytes-is ∙ c.loop-place.invariant.rest k (omega arith);
          }
    ]

pub returns : goal.returns
returns c =
    let n = c.loop-place.place in
    let changed = changed_bytes c.args.old.now c.args.new.now c.args.bytes.now in
    let size = length-changed c.args.old.now c.args.new.now c.args.bytes.now (omega arith) (omega arith) in
    sym (take_all n c.loop-place.bytes (omega arith)) ∙ (c.loop-place.invariant.changed ∙ take_all n changed (omega (arith, size)))
