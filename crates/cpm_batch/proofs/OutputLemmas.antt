-- Files of sessions, one after another.
use Rattle.std.proofs.Common.{◌≡◌, ◌∙◌, ℕ, List, [], ◌++◌, Option, None, String, ap, append_assoc, append-nil, map, sym}
use Rattle.std.specs.Prelude.{option_map, slice_get, slice_index_or, string_bytes}
use Rattle.std.specs.declared.alloc.Global.{Global}
use Rattle.cpm_geom.specs.Disk.{Disk}
use Rattle.cpm_store.specs.Files.{StoreName}
use Rattle.cpm_store.specs.Writes.{NamedBytes}
use Rattle.cpm_batch.specs.declared.output.SessionFiles.{SessionFiles}
use Rattle.cpm_batch.specs.Outputs.{files_of_all, image_at, image_outputs, left_by, named_image}

-- where no session is left, all files are there
pub all_files : (done : List NamedBytes) (rest : List SessionFiles) (all : List NamedBytes) → rest ≡ [] → done ++ files_of_all (map left_by rest) ≡ all → done ≡ all
all_files done rest all none so_far = sym (append-nil done) ∙ ap (λ (fs : List SessionFiles). done ++ files_of_all (map left_by fs)) (sym none) ∙ so_far

-- the image at a place, by the name and the drive there
pub image_is : (names : List (String Global)) (drives : List (Option Disk)) (place : ℕ) (name : Option StoreName) (d : Option Disk) → name ≡ option_map string_bytes (slice_get names place)
    → d ≡ slice_index_or drives place None → named_image name d ≡ image_at names drives place
unfolding image_at
image_is names drives place name d is drive = ap (λ n. named_image n d) is ∙ ap (λ x. named_image (option_map string_bytes (slice_get names place)) x) drive

-- four images, one after another
pub four_images : (names : List (String Global)) (drives : List (Option Disk)) (o a b c d : List NamedBytes) → a ≡ o ++ image_at names drives 0 → b ≡ a ++ image_at names drives 1
    → c ≡ b ++ image_at names drives 2 → d ≡ c ++ image_at names drives 3 → d ≡ o ++ image_outputs names drives
unfolding image_outputs
four_images names drives o a b c d one two three four =
    let i = image_at names drives 0 in
    let j = image_at names drives 1 in
    let k = image_at names drives 2 in
    let l = image_at names drives 3 in
    let all : d ≡ ((o ++ i ++ j) ++ k) ++ l = four ∙ ap (λ xs. xs ++ l) (three ∙ ap (λ xs. xs ++ k) (two ∙ ap (λ xs. xs ++ j) one)) in
    all ∙ append_assoc ((o ++ i) ++ j) k l ∙ append_assoc (o ++ i) j (k ++ l) ∙ append_assoc o i (j ++ (k ++ l))
