use Rattle.std.proofs.Common.{List, ◌+◌, drop, get_or, inl, inr, map, refl, subst}
use Rattle.std.proofs.lemmas.Result.{err_from_is_err_and}
use Rattle.cpm_image_files.specs.declared.listing.DiskFile.{DiskFile}
use Rattle.cpm_disk_commands.specs.Matching.{IsMatchRefusal}
use Rattle.cpm_host.specs.declared.error.HostError.TheVariants.{OutOfMemory}
use Rattle.cpm_commands.proofs.DiskLemmas.{named_all, named_stopped, no_rest, no_text, rest_now}
use Rattle.cpm_commands.proofs.disk.files_named.Goals as goal

pub returns-in_err-found-clause-refusal : goal.returns-in_err-found-clause-refusal
returns-in_err-found-clause-refusal c =
    let p = err_from_is_err_and c.from_residual-in_err-found.result c.from_residual-in_err-found.ensures.1 in
    let name = c.args.name.now in
    let patterns = c.args.patterns.now in
    let i = c.loop-pattern.pattern-index in
    let text = (get_or patterns i no_text).now in
    let fault = c.in_err-found.field-0.0 in
    let why = subst (λ (fs : List DiskFile). IsMatchRefusal name text c.args.user fs fault) c.deref.ensures.value c.in_err-found.ensures in
    rw p.1 (inr (
      c.in_ok-listing.listing,
      c.in_ok-listing.ensures,
      named_stopped name (map (λ w. w.now) patterns) (map (λ w. w.now) (drop i patterns)) (map (λ w. w.now) (drop (i + 1) patterns)) text c.args.user
          c.in_ok-listing.listing.files.items p.0 (rest_now patterns i c.loop-pattern-test.true) (inr (fault, why, p.2)) c.loop-pattern.invariant.stops,
    ))

pub returns-in_err-add_new-clause-refusal : goal.returns-in_err-add_new-clause-refusal
returns-in_err-add_new-clause-refusal c =
    let p = err_from_is_err_and c.from_residual-in_err-add_new.result c.from_residual-in_err-add_new.ensures.1 in
    let patterns = c.args.patterns.now in
    let i = c.loop-pattern.pattern-index in
    let text = (get_or patterns i no_text).now in
    rw (p.1, p.2) (inr (
      c.in_ok-listing.listing,
      c.in_ok-listing.ensures,
      named_stopped c.args.name.now (map (λ w. w.now) patterns) (map (λ w. w.now) (drop i patterns)) (map (λ w. w.now) (drop (i + 1) patterns)) text c.args.user
          c.in_ok-listing.listing.files.items OutOfMemory (rest_now patterns i c.loop-pattern-test.true) (inl refl) c.loop-pattern.invariant.stops,
    ))

pub returns-clause-named : goal.returns-clause-named
returns-clause-named c =
    let patterns = c.args.patterns.now in
    let i = c.loop-pattern.pattern-index in (
      c.in_ok-listing.listing,
      c.in_ok-listing.ensures,
      named_all (map (λ w. w.now) patterns) (map (λ w. w.now) (drop i patterns)) c.args.user c.in_ok-listing.listing.files.items c.loop-pattern.named.items
          (no_rest (λ w. w.now) patterns i c.loop-pattern-test.false) c.loop-pattern.invariant.leads,
    )
