use Rattle.std.proofs.Common.{◌≡◌, ◌≢◌, Bool, true, false, not, ◌&&◌, ℕ, List, sym, ◌∙◌, refl, inl, inr, arith}
use Rattle.std.specs.List.{list_any}
use Rattle.std.proofs.lemmas.Bool.{and_parts, cases_Bool, false≢true}
use Rattle.cpm_geom.specs.Disk.{Disk}
use Rattle.cpm_volume.specs.Files.{deleted, same_name}
use Rattle.cpm_volume.specs.Names.{is_named}
use Rattle.cpm_directory.specs.Directory.{entries_of}
use Rattle.cpm_image_files.specs.Taken.{IsFreeName}
use Rattle.cpm_image_files.proofs.CountLemmas.{any_there, any_absent}
use Rattle.cpm_image_files.proofs.renaming.refusal_of.Goals as goal

not_true : (b : Bool) → not b ≡ true → b ≡ false
not_true true h = absurd (false≢true h)
not_true false h = refl

-- a name that is not taken is free
free_name : (disk : Disk) (user u : ℕ) (name new_name : List ℕ) → user ≢ deleted → u ≡ user → (not (same_name name new_name) && list_any (is_named u new_name) (entries_of disk)) ≡ false → IsFreeName disk user name new_name
free_name disk user u name new_name live e h =
    elim (cases_Bool (same_name name new_name)) [
      | inl t ↦ inl t
      | inr f ↦ inr (any_absent disk user new_name live (rw (f, e) at h))
    ]

pub returns-then-not-is_there : goal.returns-then-not-is_there
returns-then-not-is_there c =
    let live : c.args.file.now.user ≢ deleted = λ z. absurd (let small = c.args.file.now.within in omega arith) in
    any_absent c.args.image.now c.args.file.now.user c.args.file.now.name live (sym c.is_there.ensures ∙ c.if-not-is_there.true)

pub returns-then-is_taken : goal.returns-then-is_taken
returns-then-is_taken c =
    let live : c.args.file.now.user ≢ deleted = λ z. absurd (let small = c.args.file.now.within in omega arith) in
    let parts = and_parts (not (same_name c.args.file.now.name c.args.name.now.name)) (list_any (is_named c.args.name.now.user c.args.name.now.name) (entries_of c.args.image.now)) (sym c.is_taken.ensures ∙ c.if-is_taken.true) in
    let other : same_name c.args.file.now.name c.args.name.now.name ≡ false = not_true _ parts.0 in
    (any_there c.args.image.now c.args.file.now.user c.args.file.now.name live (sym c.is_there.ensures ∙ c.if-not-is_there.false), other, any_there c.args.image.now c.args.file.now.user c.args.name.now.name live (rw c.requires at parts.1))

pub returns-then-is_protected : goal.returns-then-is_protected
returns-then-is_protected c =
    let live : c.args.file.now.user ≢ deleted = λ z. absurd (let small = c.args.file.now.within in omega arith) in
    (free_name c.args.image.now c.args.file.now.user c.args.name.now.user c.args.file.now.name c.args.name.now.name live c.requires (sym c.is_taken.ensures ∙ c.if-is_taken.false), sym c.is_protected.ensures ∙ c.if-is_protected.true)

pub returns : goal.returns
returns c =
    let live : c.args.file.now.user ≢ deleted = λ z. absurd (let small = c.args.file.now.within in omega arith) in
    (any_there c.args.image.now c.args.file.now.user c.args.file.now.name live (sym c.is_there.ensures ∙ c.if-not-is_there.false), free_name c.args.image.now c.args.file.now.user c.args.name.now.user c.args.file.now.name c.args.name.now.name live c.requires (sym c.is_taken.ensures ∙ c.if-is_taken.false), sym c.is_protected.ensures ∙ c.if-is_protected.false)
