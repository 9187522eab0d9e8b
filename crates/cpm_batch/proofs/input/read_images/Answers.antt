use Rattle.std.proofs.lemmas.Result.{err_from_is_err_and}
use Rattle.std.specs.Prelude.{string_bytes}
use Rattle.cpm_store.proofs.LogLemmas.{unwritten_more}
use Rattle.cpm_batch.proofs.InputLemmas.{image_as, image_refusal_as, name_read, name_refused}
use Rattle.cpm_batch.proofs.ReadLemmas.{image_read_as, images_more, only_read_as, only_read_failed, only_read_then}
use Rattle.cpm_batch.specs.Inputs.{image_needs}
use Rattle.cpm_batch.proofs.StopLemmas.{image_stopped_as, name_stopped, stopped_memory}
use Rattle.cpm_batch.proofs.input.read_images.Goals as goal

pub returns-in_err-read_image-clause-refusal : goal.returns-in_err-read_image-clause-refusal
returns-in_err-read_image-clause-refusal g c =
    let p = err_from_is_err_and c.from_residual.result c.from_residual.ensures.1 in
    let i = c.loop-name.invariant in
    rw (p.1, p.2) (name_refused (g.S.Store.files c.args.store.now) c.args.names.now c.loop-name.name-index c.name-item.result c.loop-name.images.items _ c.loop-name-test.true c.name-item.is i.images
    (image_refusal_as (g.S.Store.files c.args.store.now) (g.S.Store.files c.loop-name.store) (string_bytes c.name-item.result) c.as_str.result.now _ i.store.same c.as_str.ensures.value
    c.in_err-read_image.ensures.refusal))

pub loop-name-preserved : goal.loop-name-preserved
loop-name-preserved g c =
    let i = c.loop-name.invariant in
    let files = g.S.Store.files c.args.store.now in
    record {
      images = name_read files c.args.names.now c.loop-name.name-index c.name-item.result c.loop-name.images.items c.push.new.self.items c.in_ok-read_image.field-0 c.loop-name-test.true
          c.name-item.is c.in_ok-push.ensures.items i.images
          (image_as files (g.S.Store.files c.loop-name.store) (string_bytes c.name-item.result) c.as_str.result.now c.in_ok-read_image.field-0 i.store.same c.as_str.ensures.value c.in_ok-read_image.ensures.image);
      log = images_more g.S.Store.does c.args.names.now c.loop-name.name-index c.name-item.result c.loop-name.images.items c.push.new.self.items c.in_ok-read_image.field-0 c.args.store.now
          c.loop-name.store c.read_image.new.store c.loop-name-test.true c.name-item.is c.in_ok-push.ensures.items i.log
          (image_read_as g.S.Store.does (string_bytes c.name-item.result) c.as_str.result.now c.in_ok-read_image.field-0 c.loop-name.store c.read_image.new.store c.as_str.ensures.value
          c.in_ok-read_image.ensures.log);
      store = only_read_as _ tt (only_read_then i.store c.in_ok-read_image.ensures.store);
    }

pub returns-in_err-read_image-clause-refused_log : goal.returns-in_err-read_image-clause-refused_log
returns-in_err-read_image-clause-refused_log g c =
    let p = err_from_is_err_and c.from_residual.result c.from_residual.ensures.1 in
    let does = g.S.Store.does in
    rw (p.1, p.2) (name_stopped does c.args.names.now c.loop-name.name-index c.name-item.result c.loop-name.images.items _ c.args.store.now c.loop-name.store c.read_image.new.store
    c.loop-name-test.true c.name-item.is c.loop-name.invariant.log
    (image_stopped_as does (string_bytes c.name-item.result) c.as_str.result.now _ c.loop-name.store c.read_image.new.store c.as_str.ensures.value c.in_err-read_image.ensures.refused_log))

pub returns-in_err-push-clause-refused_log : goal.returns-in_err-push-clause-refused_log
returns-in_err-push-clause-refused_log g c =
    let p = err_from_is_err_and c.from_residual-in_err-push.result c.from_residual-in_err-push.ensures.1 in
    rw (p.1, p.2) (stopped_memory g.S.Store.does (image_needs c.args.names.now) c.args.store.now c.read_image.new.store
    (unwritten_more g.S.Store.does c.args.store.now c.loop-name.store c.read_image.new.store c.loop-name.invariant.store.unwritten c.in_ok-read_image.ensures.store.unwritten))

pub returns-in_err-read_image-clause-store : goal.returns-in_err-read_image-clause-store
returns-in_err-read_image-clause-store g c =
    let p = err_from_is_err_and c.from_residual.result c.from_residual.ensures.1 in
    rw (p.1, p.2) (only_read_failed (only_read_then c.loop-name.invariant.store c.in_err-read_image.ensures.store))

pub returns-in_err-push-clause-store : goal.returns-in_err-push-clause-store
returns-in_err-push-clause-store g c =
    let p = err_from_is_err_and c.from_residual-in_err-push.result c.from_residual-in_err-push.ensures.1 in
    rw (p.1, p.2) (only_read_as _ (λ f. f) (only_read_then c.loop-name.invariant.store c.in_ok-read_image.ensures.store))
