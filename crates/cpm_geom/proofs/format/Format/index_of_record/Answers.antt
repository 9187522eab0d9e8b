use Rattle.std.proofs.Common.{arith}
use Rattle.cpm_geom.specs.Geometry.{record_index}
use Rattle.cpm_geom.proofs.GeometryLemmas.{record_sector, tracks_small}
use Rattle.cpm_geom.proofs.format.Format.index_of_record.Goals as goal

pub overflow_cast-track : goal.overflow_cast-track
overflow_cast-track c = let h = c.requires.track_there in omega (arith, tracks_small c.args.self)

pub index_of_sector-requires : goal.index_of_sector-requires
index_of_sector-requires c =
    let h = record_sector c.args.self c.args.number c.requires in
    let e = c.sectors_per_track.ensures.value in
    rw (c.track_of-track.ensures, c.from-sector.ensures, c.sector_of.ensures, e) h

pub returns-clause-place : goal.returns-clause-place
unfolding record_index
returns-clause-place c = cc
