use Rattle.laws.proofs.Closing.{passes_read_forward}
use Rattle.laws.proofs.Reading.{histories_read_forward}
use Rattle.laws.proofs.monotonic_reads.Goals as goal

pub returns-clause-histories : goal.returns-clause-histories
returns-clause-histories g c = histories_read_forward g.H.PointHash.hash_of

pub returns-clause-passes : goal.returns-clause-passes
returns-clause-passes g c = passes_read_forward g.H.PointHash.hash_of
