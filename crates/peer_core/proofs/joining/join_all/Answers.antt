use Rattle.std.proofs.Common.{arith}
use Rattle.peer_core.proofs.Turns.{few_joined, joining_ends, joining_on, leads_joined}
use Rattle.peer_core.proofs.Parts.{does_left, does_stop_at, leads_none, leads_then}
use Rattle.peer_core.proofs.Exchanges.{joins_all, joins_none, joins_on}
use Rattle.peer_core.proofs.joining.join_all.Goals as goal

pub returns-in_err-joined-clause-did : goal.returns-in_err-joined-clause-did
returns-in_err-joined-clause-did g c =
    let came = g.L.Link.may_answer in
    does_left
    (joining_on came c.args.now c.args.hosts.now c.loop-host.count c.loop-host.host-index c.host-item.result c.loop-host-test.true c.host-item.is c.loop-host.invariant.left)
    (does_stop_at _ _ _ c.from_residual.result c.from_residual.ensures.1 c.in_err-joined.ensures.did)

pub loop-host-preserved : goal.loop-host-preserved
loop-host-preserved g c =
    let came = g.L.Link.may_answer in record {
      left = leads_then
          (joining_on came c.args.now c.args.hosts.now c.loop-host.count c.loop-host.host-index c.host-item.result c.loop-host-test.true c.host-item.is c.loop-host.invariant.left)
          (leads_joined came c.args.now c.loop-host.count c.counted-count.result c.host-item.result _ c.in_ok-joined.joined c.counted-count.ensures c.in_ok-joined.ensures.did);
      sent = joins_on c.loop-host.host-index c.host-item.result c.loop-host-test.true c.host-item.is c.loop-host.invariant.sent c.in_ok-joined.ensures.sent;
      fits = c.join_host.ensures.fits;
      few = few_joined c.loop-host.count c.counted-count.result c.loop-host.host-index c.in_ok-joined.joined c.counted-count.ensures c.loop-host.invariant.few;
    }

pub returns-clause-did : goal.returns-clause-did
returns-clause-did g c = joining_ends g.L.Link.may_answer c.args.now c.args.hosts.now c.loop-host.count c.loop-host.host-index c.loop-host-test.false c.loop-host.invariant.left

pub loop-host-init : goal.loop-host-init
loop-host-init g c = record { left = leads_none _ _ _; sent = joins_none c.args.hosts.now; fits = c.requires.fits; few = omega arith }

pub returns-in_err-joined-clause-sent : goal.returns-in_err-joined-clause-sent
returns-in_err-joined-clause-sent g c = joins_all (joins_on c.loop-host.host-index c.host-item.result c.loop-host-test.true c.host-item.is c.loop-host.invariant.sent c.in_err-joined.ensures.sent)

pub returns-clause-sent : goal.returns-clause-sent
returns-clause-sent g c = joins_all c.loop-host.invariant.sent
