use Rattle.std.proofs.Common.{List, ◌+◌, drop, get_or, inl, inr, map, refl, subst}
use Rattle.std.proofs.lemmas.Result.{err_from_is_err_and}
use Rattle.cpm_image_files.specs.declared.name.FileName.{FileName}
use Rattle.cpm_host.specs.declared.error.HostError.TheVariants.{OutOfMemory}
use Rattle.cpm_commands.specs.Disk.{IsPutNamed, IsPutUnnamed, IsWordPut}
use Rattle.cpm_commands.proofs.DiskLemmas.{no_text, put_more, put_stopped, put_stops_more, rest_now}
use Rattle.cpm_commands.proofs.disk.put_words.Goals as goal

pub returns-in_err-path-clause-refusal : goal.returns-in_err-path-clause-refusal
returns-in_err-path-clause-refusal g c =
    let p = err_from_is_err_and c.from_residual.result c.from_residual.ensures.1 in
    let words = c.args.words.now in
    let i = c.loop-word.word-index in
    let word = (get_or words i no_text).now in
    let fault = c.in_err-path.field-0.0 in
    let why = subst (λ (b : List FileName). IsPutUnnamed word c.args.user c.args.how b fault) c.as_slice.ensures.value c.in_err-path.ensures.refusal in
    rw (p.1, p.2) (put_stopped g.F.Store.does c.args.name.now c.args.user c.args.how (map (λ w. w.now) words) (map (λ w. w.now) (drop i words))
    (map (λ w. w.now) (drop (i + 1) words)) word c.loop-word.before.items c.args.image c.loop-word.image c.args.files.now c.loop-word.files c.loop-word.files fault
    (rest_now words i c.loop-word-test.true) (inr (inl (why, refl))) c.loop-word.invariant.stops)

pub returns-in_err-push-clause-refusal : goal.returns-in_err-push-clause-refusal
returns-in_err-push-clause-refusal g c =
    let p = err_from_is_err_and c.from_residual-in_err-push.result c.from_residual-in_err-push.ensures.1 in
    let words = c.args.words.now in
    let i = c.loop-word.word-index in
    let word = (get_or words i no_text).now in
    rw (p.1, p.2) (put_stopped g.F.Store.does c.args.name.now c.args.user c.args.how (map (λ w. w.now) words) (map (λ w. w.now) (drop i words))
    (map (λ w. w.now) (drop (i + 1) words)) word c.loop-word.before.items c.args.image c.loop-word.image c.args.files.now c.loop-word.files c.loop-word.files OutOfMemory
    (rest_now words i c.loop-word-test.true) (inl (refl, refl)) c.loop-word.invariant.stops)

pub returns-in_err-image-clause-refusal : goal.returns-in_err-image-clause-refusal
returns-in_err-image-clause-refusal g c =
    let p = err_from_is_err_and c.from_residual-in_err-image.result c.from_residual-in_err-image.ensures.1 in
    let words = c.args.words.now in
    let i = c.loop-word.word-index in
    let word = (get_or words i no_text).now in
    let path = c.in_ok-path.path.now in
    let file = c.in_ok-path.file in
    let fault = c.in_err-image.field-0.0 in
    let names = subst (λ (b : List FileName). IsPutNamed word c.args.user c.args.how b path file) c.as_slice.ensures.value c.in_ok-path.ensures.named in
    rw (p.1, p.2) (put_stopped g.F.Store.does c.args.name.now c.args.user c.args.how (map (λ w. w.now) words) (map (λ w. w.now) (drop i words))
    (map (λ w. w.now) (drop (i + 1) words)) word c.loop-word.before.items c.args.image c.loop-word.image c.args.files.now c.loop-word.files c.put_path.new.files fault
    (rest_now words i c.loop-word-test.true) (inr (inr (path, file, names, c.in_err-image.ensures.refusal))) c.loop-word.invariant.stops)

pub loop-word-preserved : goal.loop-word-preserved
loop-word-preserved g c =
    let does = g.F.Store.does in
    let words = c.args.words.now in
    let i = c.loop-word.word-index in
    let word = (get_or words i no_text).now in
    let path = c.in_ok-path.path.now in
    let file = c.in_ok-path.file in
    let before = c.loop-word.before.items in
    let names = subst (λ (b : List FileName). IsPutNamed word c.args.user c.args.how b path file) c.as_slice.ensures.value c.in_ok-path.ensures.named in
    let put : IsWordPut does c.args.user c.args.how before word file c.loop-word.image c.in_ok-image.image c.loop-word.files c.put_path.new.files =
    record { path = path; names = names; put = c.in_ok-image.ensures.put } in
    let rest = rest_now words i c.loop-word-test.true in
    record {
      leads = put_more does c.args.user c.args.how (map (λ w. w.now) words) (map (λ w. w.now) (drop i words)) (map (λ w. w.now) (drop (i + 1) words)) word file before
          c.push.new.self.items c.args.image c.loop-word.image c.in_ok-image.image c.args.files.now c.loop-word.files c.put_path.new.files rest c.in_ok-push.ensures.items put
          c.loop-word.invariant.leads;
      stops = put_stops_more does c.args.name.now c.args.user c.args.how (map (λ w. w.now) words) (map (λ w. w.now) (drop i words)) (map (λ w. w.now) (drop (i + 1) words)) word
          file before c.push.new.self.items c.args.image c.loop-word.image c.in_ok-image.image c.args.files.now c.loop-word.files c.put_path.new.files rest
          c.in_ok-push.ensures.items put c.loop-word.invariant.stops;
    }
