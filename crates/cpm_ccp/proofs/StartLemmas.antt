-- A program that starts: the length of its line, and the pages and the limit of its memory.
use Rattle.std.proofs.Common.{◌≡◌, ℕ, ◌+◌, ◌≤◌, List, [], ◌∷◌, ◌++◌, length, refl, ◌∙◌, arith}
use Rattle.std.proofs.lemmas.List.{length-append, length-map}
use Rattle.cpm_memory.specs.Contents.{Contents, touched_of, after_run}
use Rattle.cpm_memory.proofs.Runs.{touched_of-run, limit-run}
use Rattle.cpm_directory.specs.CommandLine.{fcb_named, text_behind_name}
use Rattle.cpm_bdos.specs.declared.session.Session.{Session}
use Rattle.cpm_bdos.proofs.Pages.{pages-le}
use Rattle.cpm_ccp.specs.Capitals.{capital}
use Rattle.cpm_ccp.specs.Parts.{typed_line}
use Rattle.cpm_ccp.specs.Loading.{name_bytes, default_files, memory_started}

pub length-line_of : (s : Session) → length (typed_line s) ≡ length s.line.characters
length-line_of s = length-map s.line.characters capital

length-name_bytes : (text : List ℕ) → length (name_bytes (fcb_named text)) ≡ 16
unfolding name_bytes fcb_named
length-name_bytes text = refl

length-default_files : (tail : List ℕ) → length (default_files tail) ≡ 33
unfolding default_files
length-default_files tail =
    let first = length-name_bytes tail in
    let second = length-name_bytes (text_behind_name tail) in
    simp (length-append) (omega (arith, first, second))

-- four runs of bytes lie in eight pages at most
pub pages_started : (tail : List ℕ) (m : Contents) → length tail ≤ 255 → touched_of (memory_started tail m) ≤ touched_of m + 8
unfolding memory_started
pages_started tail m few =
    let size = length-default_files tail in
    let one = after_run m 92 (default_files tail) in
    let two = after_run one 128 (length tail ∷ []) in
    let three = after_run two 129 (tail ++ (0 ∷ [])) in
    let more = length-append tail (0 ∷ []) in
    let a = touched_of-run m 92 (default_files tail) (omega arith) (omega (arith, size)) in
    let b = touched_of-run one 128 (length tail ∷ []) (omega arith) (omega arith) in
    let c = touched_of-run two 129 (tail ++ (0 ∷ [])) (omega arith) (omega (arith, more)) in
    let d = touched_of-run three 60414 (6 ∷ 228 ∷ []) (omega arith) (omega arith) in
    omega (arith, a, b, c, d, pages-le 92 (length (default_files tail)), pages-le 128 1, pages-le 129 (length (tail ++ (0 ∷ []))), pages-le 60414 2)

pub limit_started : (tail : List ℕ) (m : Contents) → (memory_started tail m).limit ≡ m.limit
unfolding memory_started
limit_started tail m =
    let one = after_run m 92 (default_files tail) in
    let two = after_run one 128 (length tail ∷ []) in
    let three = after_run two 129 (tail ++ (0 ∷ [])) in
    limit-run three 60414 (6 ∷ 228 ∷ []) ∙ (limit-run two 129 (tail ++ (0 ∷ [])) ∙ (limit-run one 128 (length tail ∷ []) ∙ limit-run m 92 (default_files tail)))
