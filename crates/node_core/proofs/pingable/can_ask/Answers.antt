use Rattle.std.proofs.Common.{◌≡◌, ◌&&◌, ◌<◌, ◌∙◌, not, eqb, length, sym, arith}
use Rattle.std.specs.List.{filter}
use Rattle.change_core.specs.declared.changes.Change.{Change}
use Rattle.detector_core.proofs.OrderLemmas.{not_is}
use Rattle.detector_core.proofs.SampleLemmas.{filter-list_any, filter-list_some}
use Rattle.node_core.proofs.Pinging.{asked_count, is_pinged}
use Rattle.node_core.proofs.pingable.can_ask.Goals as goal

pub returns-then-helpers-gt0-clause-some : goal.returns-then-helpers-gt0-clause-some
returns-then-helpers-gt0-clause-some c =
    λ h. let size = asked_count c.args.members.now c.requires c.args.own c.args.target in
    let found : 0 < length (filter (λ (m : Change). is_pinged c.args.own m && not (eqb m.address c.args.target)) c.args.members.now)
    = filter-list_some (λ (m : Change). is_pinged c.args.own m && not (eqb m.address c.args.target)) c.args.members.now (sym c.has_other.ensures ∙ h) in
    omega (arith, size, found, c.if-helpers-gt0.true)

pub returns-then-helpers-gt0-clause-none : goal.returns-then-helpers-gt0-clause-none
returns-then-helpers-gt0-clause-none c =
    λ h. let size = asked_count c.args.members.now c.requires c.args.own c.args.target in
    let found : length (filter (λ (m : Change). is_pinged c.args.own m && not (eqb m.address c.args.target)) c.args.members.now) ≡ 0
    = filter-list_any (λ (m : Change). is_pinged c.args.own m && not (eqb m.address c.args.target)) c.args.members.now (sym c.has_other.ensures ∙ not_is c.has_other.result h) in
    omega (arith, size, found)
