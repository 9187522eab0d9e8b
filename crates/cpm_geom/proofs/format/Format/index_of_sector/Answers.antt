use Rattle.std.proofs.Common.{◌≡◌, ◌+◌, ◌*◌, arith}
use Rattle.cpm_geom.specs.Geometry.{sector_index}
use Rattle.cpm_geom.proofs.GeometryLemmas.{sector_within}
use Rattle.cpm_geom.proofs.format.Format.index_of_sector.Goals as goal

pub returns-clause-place : goal.returns-clause-place
unfolding sector_index
returns-clause-place c = cc

pub returns-clause-within : goal.returns-clause-within
unfolding sector_index
returns-clause-within c =
    let h = sector_within c.args.self c.args.track c.args.sector c.requires in
    let place : c.from.result * c.from-2.result + c.from-3.result ≡ sector_index c.args.self c.args.track c.args.sector = cc in
    omega arith
