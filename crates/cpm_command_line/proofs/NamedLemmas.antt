-- Entries that are whole as those of some command are so as those of the command of their name.
use Rattle.std.proofs.Common.{◌≡◌, Bool, true, false, List, inl, inr, codes, subst, sym}
use Rattle.std.specs.Str.{bytes_eq}
use Rattle.clap.specs.Words.{Row, Text}
use Rattle.cpm_command_line.specs.CommandLine.{IsWholeAsm, IsWholeCheck, IsWholeDebug, IsWholeList, IsWholeOf, IsWholePlay, IsWholeRun, IsWholeSaved, IsWholeServe}
use Rattle.cpm_command_line.specs.DiskLine.{IsWholeDiskOf, IsWholeGet, IsWholeListing, IsWholeNew, IsWholePut, IsWholeRemove, IsWholeRename}

-- one of two claims
abbrev pub Chosen : Bool → Type 0 → Type 0 → Type 0
Chosen true P Q = P
Chosen false P Q = Q

-- the entries are whole as those of the program's command of this name
abbrev pub IsWholeAs : Text → List Row → Type 0
IsWholeAs name rows =
    Chosen (bytes_eq name (codes "com")) (IsWholePlay rows)
    (Chosen (bytes_eq name (codes "boot")) (IsWholePlay rows)
    (Chosen (bytes_eq name (codes "asm")) (IsWholeAsm rows)
    (Chosen (bytes_eq name (codes "list")) (IsWholeList rows)
    (Chosen (bytes_eq name (codes "check")) (IsWholeCheck rows)
    (Chosen (bytes_eq name (codes "run")) (IsWholeRun rows)
    (Chosen (bytes_eq name (codes "debug")) (IsWholeDebug rows)
    (Chosen (bytes_eq name (codes "serve")) (IsWholeServe rows) (IsWholeSaved rows))))))))

pub whole_as : (p : Text × List Row) → IsWholeOf p → IsWholeAs p.0 p.1
whole_as p (inl h) = subst (λ n. IsWholeAs n p.1) (sym h.0) h.1
whole_as p (inr (inl h)) = subst (λ n. IsWholeAs n p.1) (sym h.0) h.1
whole_as p (inr (inr (inl h))) = subst (λ n. IsWholeAs n p.1) (sym h.0) h.1
whole_as p (inr (inr (inr (inl h)))) = subst (λ n. IsWholeAs n p.1) (sym h.0) h.1
whole_as p (inr (inr (inr (inr (inl h))))) = subst (λ n. IsWholeAs n p.1) (sym h.0) h.1
whole_as p (inr (inr (inr (inr (inr (inl h)))))) = subst (λ n. IsWholeAs n p.1) (sym h.0) h.1
whole_as p (inr (inr (inr (inr (inr (inr (inl h))))))) = subst (λ n. IsWholeAs n p.1) (sym h.0) h.1
whole_as p (inr (inr (inr (inr (inr (inr (inr (inl h)))))))) = subst (λ n. IsWholeAs n p.1) (sym h.0) h.1
whole_as p (inr (inr (inr (inr (inr (inr (inr (inr h)))))))) = subst (λ n. IsWholeAs n p.1) (sym h.0) h.1

-- and of no other name than these it is the last one
pub whole_last : (p : Text × List Row) → (p.0 ≡ codes "com" → ⊥) → (p.0 ≡ codes "boot" → ⊥) → (p.0 ≡ codes "asm" → ⊥) → (p.0 ≡ codes "list" → ⊥) → (p.0 ≡ codes "check" → ⊥)
    → (p.0 ≡ codes "run" → ⊥) → (p.0 ≡ codes "debug" → ⊥) → (p.0 ≡ codes "serve" → ⊥) → IsWholeOf p
    → (p.0 ≡ codes "saved") × IsWholeSaved p.1
whole_last p no_com no_boot no_asm no_list no_check no_run no_debug no_serve (inl h) = absurd (no_com h.0)
whole_last p no_com no_boot no_asm no_list no_check no_run no_debug no_serve (inr (inl h)) = absurd (no_boot h.0)
whole_last p no_com no_boot no_asm no_list no_check no_run no_debug no_serve (inr (inr (inl h))) = absurd (no_asm h.0)
whole_last p no_com no_boot no_asm no_list no_check no_run no_debug no_serve (inr (inr (inr (inl h)))) = absurd (no_list h.0)
whole_last p no_com no_boot no_asm no_list no_check no_run no_debug no_serve (inr (inr (inr (inr (inl h))))) = absurd (no_check h.0)
whole_last p no_com no_boot no_asm no_list no_check no_run no_debug no_serve (inr (inr (inr (inr (inr (inl h)))))) = absurd (no_run h.0)
whole_last p no_com no_boot no_asm no_list no_check no_run no_debug no_serve (inr (inr (inr (inr (inr (inr (inl h))))))) = absurd (no_debug h.0)
whole_last p no_com no_boot no_asm no_list no_check no_run no_debug no_serve (inr (inr (inr (inr (inr (inr (inr (inl h)))))))) = absurd (no_serve h.0)
whole_last p no_com no_boot no_asm no_list no_check no_run no_debug no_serve (inr (inr (inr (inr (inr (inr (inr (inr h)))))))) = h

-- the entries are whole as those of the command of `disk` of this name
abbrev pub IsWholeDiskAs : Text → List Row → Type 0
IsWholeDiskAs name rows =
    Chosen (bytes_eq name (codes "new")) (IsWholeNew rows)
    (Chosen (bytes_eq name (codes "list")) (IsWholeListing rows)
    (Chosen (bytes_eq name (codes "put")) (IsWholePut rows)
    (Chosen (bytes_eq name (codes "get")) (IsWholeGet rows)
    (Chosen (bytes_eq name (codes "remove")) (IsWholeRemove rows) (IsWholeRename rows)))))

pub disk_whole_as : (p : Text × List Row) → IsWholeDiskOf p → IsWholeDiskAs p.0 p.1
disk_whole_as p (inl h) = subst (λ n. IsWholeDiskAs n p.1) (sym h.0) h.1
disk_whole_as p (inr (inl h)) = subst (λ n. IsWholeDiskAs n p.1) (sym h.0) h.1
disk_whole_as p (inr (inr (inl h))) = subst (λ n. IsWholeDiskAs n p.1) (sym h.0) h.1
disk_whole_as p (inr (inr (inr (inl h)))) = subst (λ n. IsWholeDiskAs n p.1) (sym h.0) h.1
disk_whole_as p (inr (inr (inr (inr (inl h))))) = subst (λ n. IsWholeDiskAs n p.1) (sym h.0) h.1
disk_whole_as p (inr (inr (inr (inr (inr h))))) = subst (λ n. IsWholeDiskAs n p.1) (sym h.0) h.1

pub disk_whole_last : (p : Text × List Row) → (p.0 ≡ codes "new" → ⊥) → (p.0 ≡ codes "list" → ⊥) → (p.0 ≡ codes "put" → ⊥) → (p.0 ≡ codes "get" → ⊥)
    → (p.0 ≡ codes "remove" → ⊥) → IsWholeDiskOf p → (p.0 ≡ codes "rename") × IsWholeRename p.1
disk_whole_last p no_new no_list no_put no_get no_remove (inl h) = absurd (no_new h.0)
disk_whole_last p no_new no_list no_put no_get no_remove (inr (inl h)) = absurd (no_list h.0)
disk_whole_last p no_new no_list no_put no_get no_remove (inr (inr (inl h))) = absurd (no_put h.0)
disk_whole_last p no_new no_list no_put no_get no_remove (inr (inr (inr (inl h)))) = absurd (no_get h.0)
disk_whole_last p no_new no_list no_put no_get no_remove (inr (inr (inr (inr (inl h))))) = absurd (no_remove h.0)
disk_whole_last p no_new no_list no_put no_get no_remove (inr (inr (inr (inr (inr h))))) = h
