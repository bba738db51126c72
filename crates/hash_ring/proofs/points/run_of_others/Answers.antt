use Rattle.std.proofs.Common.{◌∙◌, sym, arith}
use Rattle.hash_ring.specs.declared.points.Point.{Point}
use Rattle.hash_ring.specs.Servers.{is_same}
use Rattle.hash_ring.proofs.Runs.{position_found, position_none, position_or_len-le}
use Rattle.hash_ring.proofs.points.run_of_others.Goals as goal

pub returns-in-Some-clause-run : goal.returns-in-Some-clause-run
returns-in-Some-clause-run c = position_found (λ (p : Point). is_same p.server c.args.server) c.args.points.now c.in-Some.place (sym c.first_of.ensures ∙ c.in-Some.is)

pub returns-in-None-clause-run : goal.returns-in-None-clause-run
returns-in-None-clause-run c = position_none (λ (p : Point). is_same p.server c.args.server) c.args.points.now (sym c.first_of.ensures ∙ c.in-None.is)

pub returns-in-Some-clause-bound : goal.returns-in-Some-clause-bound
returns-in-Some-clause-bound c =
    omega (arith, returns-in-Some-clause-run c, position_or_len-le (λ (p : Point). is_same p.server c.args.server) c.args.points.now)
