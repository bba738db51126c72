use Rattle.hash_ring.proofs.Consistency.{owner-joins, owner-leaves, others-with_server, owners-without}
use Rattle.hash_ring.proofs.laws.consistency.Goals as goal

pub returns-clause-joins : goal.returns-clause-joins
returns-clause-joins c = owner-joins

pub returns-clause-leaves : goal.returns-clause-leaves
returns-clause-leaves c = owner-leaves

pub returns-clause-join_order : goal.returns-clause-join_order
returns-clause-join_order c = others-with_server

pub returns-clause-leave_order : goal.returns-clause-leave_order
returns-clause-leave_order c = owners-without
