use Rattle.std.proofs.Common.{◌≡◌, Some, inr, option_map, ap, ◌∙◌, sym}
use Rattle.std.proofs.lemmas.Result.{IfOk-weaker}
use Rattle.cpm_store.specs.Files.{file_at}
use Rattle.cpm_store.specs.Memory.{files_in}
use Rattle.cpm_store.proofs.memory.MemoryStoreStore.read.Goals as goal

pub returns-in-Some-clause-found : goal.returns-in-Some-clause-found
returns-in-Some-clause-found c =
    IfOk-weaker c.copy_of.result _ _ (λ v is.
    ap (λ m. file_at m c.args.name.now) (sym c.is_failing.ensures.files)
    ∙ ap (option_map (λ w. w.items)) (sym c.in-Some.ensures.value) ∙ ap Some (sym (is ∙ c.as_slice.ensures.value))) c.copy_of.ensures.copy

pub returns-in-Some-clause-absent : goal.returns-in-Some-clause-absent
returns-in-Some-clause-absent c none =
    let there : files_in c.args.self.now c.args.name.now ≡ Some c.in-Some.bytes.now.items =
    ap (λ m. file_at m c.args.name.now) (sym c.is_failing.ensures.files) ∙ ap (option_map (λ w. w.items)) (sym c.in-Some.ensures.value) in
    absurd (cc)

pub returns-clause-refused : goal.returns-clause-refused
returns-clause-refused c _ =
    inr (ap (λ m. file_at m c.args.name.now) (sym c.is_failing.ensures.files) ∙ ap (option_map (λ w. w.items)) (sym c.in_default.ensures.value))

pub returns-in-Some-clause-gave : goal.returns-in-Some-clause-gave
returns-in-Some-clause-gave c =
    IfOk-weaker c.copy_of.result _ _ (λ v is. (
      ap (λ m. file_at m c.args.name.now) (sym c.is_failing.ensures.files)
          ∙ ap (option_map (λ w. w.items)) (sym c.in-Some.ensures.value) ∙ ap Some (sym (is ∙ c.as_slice.ensures.value)),
      ap (λ m. file_at m) c.is_failing.ensures.files,
    )) c.copy_of.ensures.copy
