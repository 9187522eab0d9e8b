use Rattle.std.proofs.Common.{◌≡◌, ◌<◌, ℕ, get_or, arith, refl, sym, ap, ◌∙◌}
use Rattle.cpm_geom.specs.declared.format.Format.{Format}
use Rattle.cpm_geom.specs.declared.format.Format.TheVariants.{Ibm3740, Large}
use Rattle.cpm_geom.specs.Geometry.{sectors_per_track, dpb_of, sector_of, skew}
use Rattle.cpm_geom.proofs.format.Format.sector_of.Goals as goal

in_skew : (f : Format) (i : ℕ) → f ≡ Ibm3740 → i < sectors_per_track f → i < 26
unfolding sectors_per_track dpb_of
in_skew f i is h = let short = rw is at h in omega arith

in_byte : (f : Format) (i : ℕ) → f ≡ Large → i < sectors_per_track f → i < 256
unfolding sectors_per_track dpb_of
in_byte f i is h = let short = rw is at h in omega arith

by_skew : (f : Format) (i : ℕ) → f ≡ Ibm3740 → sector_of f i ≡ get_or skew i 0
unfolding sector_of
by_skew f i is = rw is refl

as_it_is : (f : Format) (i : ℕ) → f ≡ Large → sector_of f i ≡ i
unfolding sector_of
as_it_is f i is = rw is refl

pub bounds-from : goal.bounds-from
bounds-from c = let h = in_skew c.args.self c.args.place c.in-Ibm3740.is c.requires in omega arith

pub overflow_cast-result : goal.overflow_cast-result
overflow_cast-result c = let h = in_byte c.args.self c.args.place c.in-Large.is c.requires in omega arith

pub returns-in-Ibm3740 : goal.returns-in-Ibm3740
unfolding skew
returns-in-Ibm3740 c =
    let place : c.from.result ≡ c.args.place = c.from.ensures in
    ap (λ i. get_or skew i 0) place ∙ sym (by_skew c.args.self c.args.place c.in-Ibm3740.is)

pub returns-in-Large : goal.returns-in-Large
returns-in-Large c = sym (as_it_is c.args.self c.args.place c.in-Large.is)
