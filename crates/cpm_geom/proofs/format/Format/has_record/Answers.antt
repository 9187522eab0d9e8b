use Rattle.std.proofs.Common.{◌≡◌, ◌↔◌, ℕ, IsTrue, ltb}
use Rattle.std.proofs.lemmas.Bool.{lt-ltb}
use borrow.Author.Tests.{ltb-true}
use Rattle.cpm_geom.specs.declared.format.Format.{Format}
use Rattle.cpm_geom.specs.Geometry.{tracks_of, track_of, IsRecord}
use Rattle.cpm_geom.proofs.format.Format.has_record.Goals as goal

by_track : (f : Format) (n a b : ℕ) → a ≡ track_of f n → b ≡ tracks_of f → IsTrue (ltb a b) ↔ IsRecord f n
by_track f n a b e g =
    rw (e, g) ((λ t. record { track_there = ltb-true _ _ t }), λ r. lt-ltb _ _ r.track_there)

pub returns : goal.returns
returns c = by_track c.args.self c.args.number c.track_of.result c.from.result c.track_of.ensures (cc)
