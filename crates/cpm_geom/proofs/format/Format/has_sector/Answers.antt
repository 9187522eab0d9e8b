use Rattle.std.proofs.Common.{◌≡◌, ◌↔◌, ◌<◌, ◌≤◌, ◌-◌, ℕ, IsTrue, ltb, arith, sym, ◌∙◌}
use Rattle.std.proofs.lemmas.Bool.{lt-ltb, leb-true, le-ltb, false≢true}
use borrow.Author.Tests.{ltb-true}
use Rattle.cpm_geom.specs.declared.format.Format.{Format}
use Rattle.cpm_geom.specs.Geometry.{tracks_of, first_sector_of, sectors_per_track, IsSector}
use Rattle.cpm_geom.proofs.format.Format.has_sector.Goals as goal
use Rattle.cpm_geom.proofs.format.Format.has_sector.Goals.{then-track-tracks, else-track-tracks}

by_tests : (f : Format) (track sector first count : ℕ) → track < tracks_of f → first_sector_of f ≤ sector → first ≡ first_sector_of f → count ≡ sectors_per_track f → IsTrue (ltb (sector - first) count) ↔ IsSector f track sector
by_tests f track sector first count there above e g =
    rw (e, g) ((λ t. let below = ltb-true _ _ t in record { track_there = there; first = above; last = omega arith }), λ s. lt-ltb _ _ (let last = s.last in omega arith))

pub returns-then-first_sector-sector : goal.returns-then-first_sector-sector
returns-then-first_sector-sector c =
    elim c.if-track-tracks.branch [
      | then-track-tracks w ↦
          let there : c.args.track < tracks_of c.args.self = omega arith in
          let above = leb-true _ _ (sym w.value-is ∙ c.if-first_sector-sector.true) in
          by_tests c.args.self c.args.track c.args.sector _ _ there (omega arith) c.first_sector-then-first_sector-sector.ensures c.sectors_per_track.ensures.value
      | else-track-tracks w ↦ absurd (false≢true (sym (le-ltb _ _ w.if-track-tracks.false) ∙ (sym w.value-is ∙ c.if-first_sector-sector.true)))
    ]
