-- Names that stand before.
use Rattle.std.proofs.Common.{◌≡◌, ◌<◌, ◌+◌, ℕ, Bool, List, [], ◌∷◌, ◌++◌, Some, append_assoc, length, get_or, take, drop, map, refl, ap, ap₂, ◌∙◌, sym}
use Rattle.std.specs.Prelude.{◌||◌, if◌then◌else◌}
use Rattle.std.specs.List.{list_any}
use Rattle.std.specs.Str.{bytes_eq}
use Rattle.std.proofs.lemmas.List.{drop_more, map_more}
use Rattle.cpm_config.specs.Entries.{Text}
use Rattle.cpm_config.specs.Rules.{PlacedName, is_among, name_placed, repeated_after}
use Rattle.cpm_config.specs.declared.field.Field.TheVariants.{Frames}
use Rattle.cpm_config.specs.declared.config.SessionConfig.{SessionConfig}
use Rattle.cpm_config.specs.declared.names.NameUse.{NameUse}

among-placed : (ns : List NameUse) (t : Text) → list_any (λ n. bytes_eq n.name.now t) ns ≡ is_among (map name_placed ns) t
among-placed [] t = refl
among-placed (n ∷ ns) t = ap (λ b. bytes_eq n.name.now t || b) (among-placed ns t)

-- what is read past the end
abbrev pub blank : NameUse
blank = record { place = record { session = 0; field = Frames }; name = record { ref_ptr = (0, 0); now = [] } }

abbrev pub at : List NameUse → ℕ → NameUse
at ns i = get_or ns i blank

-- the name at a place either stands before it, or the names after it are looked at
pub repeated-step : (ns : List NameUse) (i : ℕ) (found : Bool) → i < length ns
    → found ≡ list_any (λ n. bytes_eq n.name.now (at ns i).name.now) (take i ns)
    → repeated_after (map name_placed (take i ns)) (map name_placed (drop i ns))
    ≡ (if found then Some (at ns i).place else repeated_after (map name_placed (take (i + 1) ns)) (map name_placed (drop (i + 1) ns)))
repeated-step ns i found within is =
    ap (λ (rest : List NameUse). repeated_after (map name_placed (take i ns)) (map name_placed rest)) (drop_more ns i blank within)
    ∙ ap₂ (λ (b : Bool) (before : List PlacedName). if b then Some (at ns i).place else repeated_after before (map name_placed (drop (i + 1) ns)))
    (sym (is ∙ among-placed (take i ns) (at ns i).name.now)) (sym (map_more name_placed ns i blank within))

-- the names of one session more, with those after it
pub placed_step : (done new one rest : List PlacedName) → new ≡ done ++ one → new ++ rest ≡ done ++ (one ++ rest)
placed_step done new one rest more = ap (λ (ps : List PlacedName). ps ++ rest) more ∙ append_assoc done one rest

-- a session at a place, with those after it
pub session_at : (ss : List SessionConfig) (i : ℕ) (s : SessionConfig) → i < length ss → s ≡ get_or ss i s → s ∷ drop (i + 1) ss ≡ drop i ss
session_at ss i s within is = ap (λ (t : SessionConfig). t ∷ drop (i + 1) ss) is ∙ sym (drop_more ss i s within)
