use Rattle.std.proofs.Common.{◌≡◌, ◌∙◌, ◌+◌, ◌<◌, ◌∷◌, [], ◌++◌, ℕ, List, Some, None, ap, arith, get_or, length, map, string_bytes, subst, sym}
use Rattle.std.proofs.lemmas.List.{get_or-map, length-map, map-append}
use Rattle.cpm_disk_commands.specs.Folder.{is_kept, name_unless}
use Rattle.cpm_disk_commands.specs.Names.{one_name}
use Rattle.cpm_disk_commands.specs.declared.folder.FolderName.{FolderName}
use Rattle.cpm_disk_commands.proofs.FolderLemmas.{all_sorted, kept_more, left_more, AreSorted}
use Rattle.cpm_disk_commands.proofs.folder.names_of_folder.Goals as goal
use Rattle.cpm_disk_commands.proofs.folder.names_of_folder.Goals.{in-Some+in_ok-push-in-Some, in-None+in_ok-push-in-None}

pub loop-name-preserved : goal.loop-name-preserved
loop-name-preserved c =
    let names = map string_bytes c.args.names.now in
    let i = c.loop-name.name-index in
    let text = c.as_str.result.now in
    let kept = c.loop-name.kept.items in
    let left : List (List ℕ) = map (λ n. n.now) c.loop-name.left_out.items in
    let l : i < length names = omega (arith, length-map c.args.names.now string_bytes, c.loop-name-test.true) in
    let is : get_or names i [] ≡ text = get_or-map string_bytes c.args.names.now i c.name-item.result [] c.loop-name-test.true ∙ ap string_bytes (sym c.name-item.is) ∙ sym c.as_str.ensures.value in
    elim c.match-file_after.branch [
      | in-Some+in_ok-push-in-Some w ↦
          let more : FolderName = record { name = w.as_str-in-Some.result; file = w.in-Some.file } in
          let pushed : c.match-file_after.kept.items ≡ kept ++ more ∷ [] = cc (w.kept-is, w.in_ok-push-in-Some.ensures.items) in
          let same : map (λ n. n.now) c.match-file_after.left_out.items ≡ left = cc w.left_out-is in
          let file = subst (λ (ks : List FolderName). name_unless (is_kept ks) (one_name text) ≡ Some w.in-Some.file.name) c.as_slice.ensures.value w.in-Some.ensures.0 in
          let named : w.as_str-in-Some.result.now ≡ text = cc (c.as_str.ensures.value, w.as_str-in-Some.ensures.value) in
          subst (λ (xs : List (List ℕ)). AreSorted names (i + 1) c.match-file_after.kept.items xs) (sym same)
          (kept_more names i kept c.match-file_after.kept.items left text more l is named w.in-Some.ensures.1 file pushed c.loop-name.invariant)
      | in-None+in_ok-push-in-None w ↦
          let pushed : map (λ n. n.now) c.match-file_after.left_out.items ≡ left ++ text ∷ [] =
          ap (map (λ n. n.now)) (cc (w.left_out-is, w.in_ok-push-in-None.ensures.items)) ∙ map-append (λ n. n.now) c.loop-name.left_out.items (w.as_str-in-None.result ∷ [])
          ∙ ap (λ (t : List ℕ). left ++ t ∷ []) (cc (c.as_str.ensures.value, w.as_str-in-None.ensures.value)) in
          let same : c.match-file_after.kept.items ≡ kept = cc w.kept-is in
          let file = subst (λ (ks : List FolderName). name_unless (is_kept ks) (one_name text) ≡ None) c.as_slice.ensures.value w.in-None.ensures in
          subst (λ (ks : List FolderName). AreSorted names (i + 1) ks (map (λ n. n.now) c.match-file_after.left_out.items)) (sym same)
          (left_more names i kept left (map (λ n. n.now) c.match-file_after.left_out.items) text l is file pushed c.loop-name.invariant)
    ]

pub returns-clause-kept : goal.returns-clause-kept
returns-clause-kept c =
    (all_sorted (map string_bytes c.args.names.now) c.loop-name.name-index c.loop-name.kept.items (map (λ n. n.now) c.loop-name.left_out.items)
    (omega (arith, length-map c.args.names.now string_bytes, c.loop-name-test.false)) c.loop-name.invariant).0

pub returns-clause-left_out : goal.returns-clause-left_out
returns-clause-left_out c =
    (all_sorted (map string_bytes c.args.names.now) c.loop-name.name-index c.loop-name.kept.items (map (λ n. n.now) c.loop-name.left_out.items)
    (omega (arith, length-map c.args.names.now string_bytes, c.loop-name-test.false)) c.loop-name.invariant).1
