use Rattle.std.proofs.Common.{◌≡◌, ◌<◌, ◌∷◌, [], ◌++◌, length, arith}
use Rattle.cpm_disk_commands.proofs.MatchLemmas.{found_more, found_same, found_all, found_some, whatever_error}
use Rattle.cpm_disk_commands.proofs.matching.files_of.Goals as goal
use Rattle.cpm_disk_commands.proofs.matching.files_of.Goals.{in-Some+in_ok-push, in_default}

pub loop-file-preserved : goal.loop-file-preserved
loop-file-preserved c =
    let l : c.loop-file.file-index < length c.args.files.now = omega arith in
    elim c.match-file_meant.branch [
      | in-Some+in_ok-push w ↦
          let pushed : c.match-file_meant.found.items ≡ c.loop-file.found.items ++ w.in-Some.name ∷ [] = cc (w.found-is, w.in_ok-push.ensures.items) in
          found_more c.args.user c.args.pattern.now c.args.files.now c.loop-file.file-index _ c.loop-file.found.items c.match-file_meant.found.items w.in-Some.name _ l w.in-Some.ensures pushed c.loop-file.invariant
      | in_default w ↦
          let kept : c.match-file_meant.found.items ≡ c.loop-file.found.items = cc w.found-is in
          found_same c.args.user c.args.pattern.now c.args.files.now c.loop-file.file-index _ c.loop-file.found.items c.match-file_meant.found.items _ l w.in_default.ensures kept c.loop-file.invariant
    ]

pub returns-clause-found : goal.returns-clause-found
returns-clause-found c = found_all c.args.user c.args.pattern.now c.args.files.now c.loop-file.file-index c.loop-file.found.items _ (omega arith) c.loop-file.invariant

pub returns-in_err-push-clause-some : goal.returns-in_err-push-clause-some
returns-in_err-push-clause-some c =
    let l : c.loop-file.file-index < length c.args.files.now = omega arith in
    whatever_error _ _ (found_some c.args.user c.args.pattern.now c.args.files.now c.loop-file.file-index _ c.loop-file.found.items _ l c.in-Some.ensures.0 c.loop-file.invariant)
