use Rattle.std.proofs.Common.{All, None, rules, refl, ◌≡◌, ◌∙◌, ap, arith, subst, sym}
use Rattle.locked_node.specs.Passes.{Fits}
use Rattle.locked_node.specs.declared.node.LockedNode.{LockedNode}
use Rattle.node_core.specs.Configs.{bad_field}
use Rattle.peer_core.proofs.Acts.{said_so}
use Rattle.server.proofs.Starts.{healed_by, not_opened, not_run, started_by}
use Rattle.server.specs.Starting.{AreCountsInRange, IsNotStarted, error_of_server}
use Rattle.server.specs.Working.{hosts_of}
use Rattle.server.proofs.starting.start.Goals as goal

pub returns-in_err-port-clause-refused : goal.returns-in_err-port-clause-refused
returns-in_err-port-clause-refused g c =
    let out = c.from_residual-in_err-port in
    let fine : bad_field c.args.settings.now.config ≡ None = search rules in
    let counts : AreCountsInRange c.args.settings.now = c.if-not-are_counts_in_range.ensures.0 refl in
    said_so (IsNotStarted c.args.settings.now) out.result c.in_err-port.field-0.0 out.ensures.1 (not_opened c.args.settings.now c.in_err-port.field-0.0 fine counts c.in_err-port.ensures)

pub start-requires-clause-workers : goal.start-requires-clause-workers
start-requires-clause-workers g c κs within =
    subst (λ (node : LockedNode g.row.H.Denot). All (Fits node) c.in_ok-node.workers.items) (sym (c.joining-server.ensures.node ∙ c.new-server.ensures.node)) c.in_ok-node.ensures.workers

pub returns-in_err-running-clause-refused : goal.returns-in_err-running-clause-refused
returns-in_err-running-clause-refused g c =
    let out = c.from_residual-in_err-running in
    let fine : bad_field c.args.settings.now.config ≡ None = search rules in
    let counts : AreCountsInRange c.args.settings.now = c.if-not-are_counts_in_range.ensures.0 refl in
    said_so (IsNotStarted c.args.settings.now) out.result (error_of_server c.in_err-running.field-0.0) out.ensures.1 (not_run c.args.settings.now c.in_err-running.field-0.0 fine counts)

pub returns-clause-started : goal.returns-clause-started
returns-clause-started g c =
    let made = c.joining-server.ensures in
    let new = c.new-server.ensures in
    started_by g.H.PointHash.hash_of c.args.hash c.args.handler c.args.settings.now c.in_ok-created.created c.in_ok-node.node _ c.in_ok-node.workers.items
    c.in_ok-node.handles.items c.in_ok-node.rounds c.in_ok-running.running c.in_ok-created.ensures.created c.in_ok-node.ensures.opening (made.node ∙ new.node)
    (made.handler ∙ new.handler) refl
    (healed_by _ _ _ c.in_ok-healing.healing c.joining-server.result.healing (made.healing ∙ new.healing) c.in_ok-healing.ensures.heals)
    (ap hosts_of made.hosts ∙ c.in_ok-hosts.ensures.copied)
    c.in_ok-node.ensures.count c.in_ok-node.ensures.left c.in_ok-node.ensures.all c.in_ok-node.ensures.handles
    c.in_ok-running.ensures.started c.in_ok-running.ensures.period (omega (arith, c.in_ok-node.ensures.room, c.in_ok-running.ensures.room))
