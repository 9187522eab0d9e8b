use Rattle.std.proofs.Common.{◌≡◌, ◌∙◌, ◌∷◌, ◌+◌, [], ap, arith, drop, inl, length, length-append, refl, string_bytes, sym}
use Rattle.std.proofs.lemmas.List.{drop_all, drop_more}
use Rattle.std.proofs.lemmas.Result.{err_from_is_err_and}
use Rattle.cpm_image_files.specs.declared.name.FileName.{FileName}
use Rattle.cpm_host.specs.declared.error.HostError.TheVariants.{OutOfMemory}
use Rattle.cpm_commands.specs.Get.{taken_outputs}
use Rattle.cpm_commands.proofs.GetLemmas.{taken_all, taken_more, taken_push, taking_stopped, taking_stops_more}
use Rattle.cpm_commands.proofs.get.take_all.Goals as goal

pub loop-file-preserved : goal.loop-file-preserved
loop-file-preserved c =
    let named = c.args.named.now in
    let i = c.loop-file.file-index in
    let file = c.file-item.result in
    let l = c.loop-file in
    let path = c.in_ok-path.path in
    let bytes = c.in_ok-path.bytes in
    let rest : drop i named ≡ file ∷ drop (i + 1) named = drop_more named i file c.loop-file-test.true ∙ ap (λ (f : FileName). f ∷ drop (i + 1) named) (sym c.file-item.is) in
    let pushed = (λ j. taken_outputs (c.in_ok-push.ensures.items j) (c.in_ok-push-2.ensures.items j)) ∙ taken_push l.paths.items l.contents.items path bytes l.invariant.even in
    record {
      leads = taken_more c.args.image.now c.args.to c.args.is_text named (drop i named) (drop (i + 1) named) file (taken_outputs l.paths.items l.contents.items)
          (taken_outputs c.push.new.self.items c.push-in-loop-file.new.self.items) (string_bytes path, bytes.items) rest pushed c.in_ok-path.ensures.taken l.invariant.leads;
      stops = taking_stops_more c.args.name.now c.args.image.now c.args.to c.args.is_text named (drop i named) (drop (i + 1) named) file (string_bytes path, bytes.items) rest
          c.in_ok-path.ensures.taken l.invariant.stops;
      even = omega (arith, ap length c.in_ok-push.ensures.items, ap length c.in_ok-push-2.ensures.items, length-append l.paths.items (path ∷ []), length-append l.contents.items (bytes ∷ []), l.invariant.even);
    }

pub returns-in_err-path-clause-refusal : goal.returns-in_err-path-clause-refusal
returns-in_err-path-clause-refusal c =
    let p = err_from_is_err_and c.from_residual.result c.from_residual.ensures.1 in
    let named = c.args.named.now in
    let i = c.loop-file.file-index in
    let file = c.file-item.result in
    let rest : drop i named ≡ file ∷ drop (i + 1) named = drop_more named i file c.loop-file-test.true ∙ ap (λ (f : FileName). f ∷ drop (i + 1) named) (sym c.file-item.is) in
    rw (p.1, p.2) (taking_stopped c.args.name.now c.args.image.now c.args.to c.args.is_text named (drop i named) (drop (i + 1) named) file c.in_err-path.field-0.0 rest
    c.in_err-path.ensures.refusal c.loop-file.invariant.stops)

pub returns-in_err-push-clause-refusal : goal.returns-in_err-push-clause-refusal
returns-in_err-push-clause-refusal c =
    let p = err_from_is_err_and c.from_residual-in_err-push.result c.from_residual-in_err-push.ensures.1 in
    let named = c.args.named.now in
    let i = c.loop-file.file-index in
    let file = c.file-item.result in
    let rest : drop i named ≡ file ∷ drop (i + 1) named = drop_more named i file c.loop-file-test.true ∙ ap (λ (f : FileName). f ∷ drop (i + 1) named) (sym c.file-item.is) in
    rw (p.1, p.2) (taking_stopped c.args.name.now c.args.image.now c.args.to c.args.is_text named (drop i named) (drop (i + 1) named) file OutOfMemory rest (inl refl)
    c.loop-file.invariant.stops)

pub returns-in_err-push-2-clause-refusal : goal.returns-in_err-push-2-clause-refusal
returns-in_err-push-2-clause-refusal c =
    let p = err_from_is_err_and c.from_residual-in_err-push-2.result c.from_residual-in_err-push-2.ensures.1 in
    let named = c.args.named.now in
    let i = c.loop-file.file-index in
    let file = c.file-item.result in
    let rest : drop i named ≡ file ∷ drop (i + 1) named = drop_more named i file c.loop-file-test.true ∙ ap (λ (f : FileName). f ∷ drop (i + 1) named) (sym c.file-item.is) in
    rw (p.1, p.2) (taking_stopped c.args.name.now c.args.image.now c.args.to c.args.is_text named (drop i named) (drop (i + 1) named) file OutOfMemory rest (inl refl)
    c.loop-file.invariant.stops)

pub returns-clause-taken : goal.returns-clause-taken
returns-clause-taken c =
    let named = c.args.named.now in
    let i = c.loop-file.file-index in
    taken_all c.args.image.now c.args.to c.args.is_text named (drop i named) (taken_outputs c.loop-file.paths.items c.loop-file.contents.items)
    (drop_all i named c.loop-file-test.false) c.loop-file.invariant.leads
