use Rattle.laws.proofs.Converging.{nodes_converge, sweeps_converge, converged_agree}
use Rattle.laws.proofs.Delivering.{delivered_converge}
use Rattle.laws.proofs.Exchanging.{calls_take}
use Rattle.laws.proofs.Partitions.{partitions_heal}
use Rattle.laws.proofs.Rounds.{rounds_converge, stretches_converge}
use Rattle.laws.proofs.Sizes.{entries_size}
use Rattle.laws.proofs.Worlds.{worlds_converge}
use Rattle.laws.proofs.convergence.Goals as goal

pub returns-clause-converge : goal.returns-clause-converge
returns-clause-converge g c = nodes_converge

pub returns-clause-sweeps : goal.returns-clause-sweeps
returns-clause-sweeps g c = sweeps_converge

pub returns-clause-agree : goal.returns-clause-agree
returns-clause-agree g c = converged_agree g.H.PointHash.hash_of

pub returns-clause-delivered : goal.returns-clause-delivered
returns-clause-delivered g c = delivered_converge

pub returns-clause-calls : goal.returns-clause-calls
returns-clause-calls g c = calls_take g.H.PointHash.hash_of

pub returns-clause-worlds : goal.returns-clause-worlds
returns-clause-worlds g c = worlds_converge g.H.PointHash.hash_of

pub returns-clause-partitions : goal.returns-clause-partitions
returns-clause-partitions g c = partitions_heal

pub returns-clause-rounds : goal.returns-clause-rounds
returns-clause-rounds g c = rounds_converge g.H.PointHash.hash_of

pub returns-clause-sizes : goal.returns-clause-sizes
returns-clause-sizes g c = entries_size

pub returns-clause-lossy : goal.returns-clause-lossy
returns-clause-lossy g c = stretches_converge g.H.PointHash.hash_of
