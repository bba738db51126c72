use Rattle.std.proofs.Common.{[], rules}
use Rattle.peer_core.proofs.Turns.{asking_ends, asking_on, does_unless, leads_unless}
use Rattle.peer_core.proofs.Parts.{does_left, does_next, does_stop_at, leads_none, leads_then, leads_rest}
use Rattle.peer_core.proofs.Exchanges.{sent_none, sent_then}
use Rattle.peer_core.proofs.probing.ask_helpers.Goals as goal

pub returns-in_err-outcome-clause-did : goal.returns-in_err-outcome-clause-did
returns-in_err-outcome-clause-did g c =
    let came = g.L.Link.may_answer in
    does_left
    (asking_on came c.args.now c.args.probe.now c.args.helpers.now c.loop-helper.helper-index c.helper-item.result c.loop-helper-test.true c.helper-item.is c.loop-helper.invariant.left)
    (does_stop_at _ _ _ c.from_residual.result c.from_residual.ensures.1 c.in_err-outcome.ensures.did)

pub returns-then-is_some-clause-did : goal.returns-then-is_some-clause-did
returns-then-is_some-clause-did g c =
    let came = g.L.Link.may_answer in
    does_left
    (asking_on came c.args.now c.args.probe.now c.args.helpers.now c.loop-helper.helper-index c.helper-item.result c.loop-helper-test.true c.helper-item.is c.loop-helper.invariant.left)
    (does_next _ _ _ _ c.in_ok-outcome.ensures.did (does_unless _ _ _ c.end_by-end.ensures (search rules)))

pub loop-helper-preserved : goal.loop-helper-preserved
loop-helper-preserved g c =
    let came = g.L.Link.may_answer in record {
      left = leads_then
          (asking_on came c.args.now c.args.probe.now c.args.helpers.now c.loop-helper.helper-index c.helper-item.result c.loop-helper-test.true c.helper-item.is c.loop-helper.invariant.left)
          (leads_unless _ _ _ _ c.end_by-end.ensures (search rules) (leads_rest _ _ _ c.in_ok-outcome.ensures.did));
      sent = sent_then c.loop-helper.invariant.sent c.in_ok-outcome.ensures.sent;
      fits = c.ask_helper.ensures.fits;
    }

pub returns-clause-did : goal.returns-clause-did
returns-clause-did g c = asking_ends g.L.Link.may_answer c.args.now c.args.probe.now c.args.helpers.now c.loop-helper.helper-index c.loop-helper-test.false c.loop-helper.invariant.left

pub loop-helper-init : goal.loop-helper-init
loop-helper-init g c = record { left = leads_none _ _ _; sent = sent_none []; fits = c.requires }

pub returns-in_err-outcome-clause-sent : goal.returns-in_err-outcome-clause-sent
returns-in_err-outcome-clause-sent g c = sent_then c.loop-helper.invariant.sent c.in_err-outcome.ensures.sent

pub returns-then-is_some-clause-sent : goal.returns-then-is_some-clause-sent
returns-then-is_some-clause-sent g c = sent_then c.loop-helper.invariant.sent c.in_ok-outcome.ensures.sent
