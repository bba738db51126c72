use Rattle.std.proofs.Common.{◌≡◌, rules}
use Rattle.std.proofs.lemmas.Option.{IfSome_then}
use Rattle.std.specs.Prelude.{IsTrue}
use Rattle.agent_peers.proofs.Relaying.{chosen_after, if_none, kept_by_sender, kept_joining, kept_quiet, kept_unnamed, looks_nowhere}
use Rattle.agent_node.proofs.Made.{made_then}
use Rattle.agent_peers.proofs.relays.agreed_owner.Goals as goal

pub returns-in_err-owner-clause-withheld : goal.returns-in_err-owner-clause-withheld
returns-in_err-owner-clause-withheld g c =
    if_none c.from_residual.result (kept_quiet g.L.Link.may_answer g.L.Link.went c.args.request.now c.args.link.now c.args.caller.now _ c.in_err-owner.ensures.quiet)

pub returns-then-not-meet_sender-clause-withheld : goal.returns-then-not-meet_sender-clause-withheld
returns-then-not-meet_sender-clause-withheld g c =
    kept_joining g.L.Link.may_answer g.L.Link.went c.args.request.now c.args.link.now _ c.args.caller.now _ _ _ c.in_ok-owner.ensures.quiet c.meet_sender.ensures.tried
    (looks_nowhere _)

pub returns-clause-chosen : goal.returns-clause-chosen
returns-clause-chosen g c =
    let same : c.in_ok-owner.owner ≡ c.args.request.now.source = search rules in
    let came : IsTrue c.meet_sender.result = search rules in
    IfSome_then c.owner_after_join.result c.owner_after_join.ensures.chosen
    (λ owner later. chosen_after g.L.Link.may_answer g.L.Link.went c.args.request.now c.in_ok-owner.owner owner c.args.link.now _ c.args.caller.now _ _ _ same
    c.in_ok-owner.ensures.named (c.meet_sender.ensures.met came) later)

pub returns-clause-withheld : goal.returns-clause-withheld
returns-clause-withheld g c =
    if_none c.owner_after_join.result
    (kept_joining g.L.Link.may_answer g.L.Link.went c.args.request.now c.args.link.now _ c.args.caller.now _ _ _ c.in_ok-owner.ensures.quiet c.meet_sender.ensures.tried
    c.owner_after_join.ensures.quiet)

pub returns-in_err-owner-clause-kept : goal.returns-in_err-owner-clause-kept
returns-in_err-owner-clause-kept g c = if_none c.from_residual.result (kept_unnamed c.args.request.now c.args.caller.now _ c.in_err-owner.ensures.unnamed)

pub returns-then-not-meet_sender-clause-kept : goal.returns-then-not-meet_sender-clause-kept
returns-then-not-meet_sender-clause-kept g c =
    let same : c.in_ok-owner.owner ≡ c.args.request.now.source = search rules in
    kept_by_sender c.args.request.now c.in_ok-owner.owner _ c.args.caller.now _ _ same c.in_ok-owner.ensures.named c.meet_sender.ensures.tried

pub returns-clause-kept : goal.returns-clause-kept
returns-clause-kept g c =
    let same : c.in_ok-owner.owner ≡ c.args.request.now.source = search rules in
    if_none c.owner_after_join.result
    (kept_by_sender c.args.request.now c.in_ok-owner.owner _ c.args.caller.now _ _ same c.in_ok-owner.ensures.named
    (made_then _ _ _ _ _ c.meet_sender.ensures.tried c.owner_after_join.ensures.quiet))
