-- A document with nothing in it.
use Rattle.std.proofs.Common.{◌≡◌, ℕ, List, Some, ap, refl, sym, ◌∙◌}
use Rattle.std.specs.Prelude.{Ok, Err}
use Rattle.toml.specs.Data.{Members, no_members}
use Rattle.toml.specs.Errors.{IsBlank}
use Rattle.toml.specs.Parse.{lines, parse_document}
use Rattle.cpm_config.specs.Entries.{ConfigEntries, config_in, config_key, top}
use Rattle.cpm_config.specs.declared.fault.KeyFault.TheVariants.{Wanted}
use Rattle.cpm_config.specs.declared.field.Field.TheVariants.{Frames}

-- it lacks its first key
pub no_config : (ms : Members) → ms ≡ no_members → config_in ms ≡ Err (Wanted (config_key top Frames))
unfolding config_in
no_config ms none = ap config_in none

-- a blank text writes it
pub no_document : (text : List ℕ) → IsBlank text → parse_document text ≡ Some no_members
unfolding parse_document lines
no_document text blank = rw blank refl

pub nothing_read : (ms : Members) (c : ConfigEntries) → ms ≡ no_members → config_in ms ≡ Ok c → ⊥
nothing_read ms c none read =
    let clash : Err (Wanted (config_key top Frames)) ≡ Ok c = sym (no_config ms none) ∙ read in
    absurd (cc)

pub nothing_written : (text : List ℕ) (ms : Members) → IsBlank text → parse_document text ≡ Some ms → ms ≡ no_members
nothing_written text ms blank parsed =
    let same : Some ms ≡ Some no_members = sym parsed ∙ no_document text blank in
    cc
