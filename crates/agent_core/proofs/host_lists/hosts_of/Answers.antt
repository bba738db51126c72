use Rattle.std.proofs.Common.{[], List, Bor, ℕ, get_or, sym}
use Rattle.std.proofs.lemmas.List.{get_or_default}
use Rattle.agent_core.proofs.Hosting.{fails}
use Rattle.agent_core.proofs.host_lists.hosts_of.Goals as goal

pub returns-in-Err-clause-fault : goal.returns-in-Err-clause-fault
returns-in-Err-clause-fault c =
    let none : Bor (List ℕ) = record { ref_ptr = (0, 0); now = [] } in
    let line = get_or c.args.lines.now c.loop-place.place none in
    fails c.args.lines.now c.loop-place.place line c.trim-text.result.now c.loop-place.hosts.items c.in-Err.fault c.loop-place-test.true
    (get_or_default c.args.lines.now c.loop-place.place none line c.loop-place-test.true) c.loop-place.invariant c.trim-text.ensures.trim
    (sym c.if-names_host.ensures) c.in-Err.ensures.fault.1 c.in-Err.ensures.fault.0
