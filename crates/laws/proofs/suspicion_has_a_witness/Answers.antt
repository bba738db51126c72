use Rattle.laws.proofs.Witnessing.{none_without_witness}
use Rattle.laws.proofs.suspicion_has_a_witness.Goals as goal

pub returns : goal.returns
returns g c = none_without_witness g.H.PointHash.hash_of
