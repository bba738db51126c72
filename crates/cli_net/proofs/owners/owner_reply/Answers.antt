use Rattle.cli_core.specs.Owner.{hash_by}
use Rattle.cli_net.proofs.Owned.{unsaid_by}
use Rattle.cli_net.proofs.owners.owner_reply.Goals as goal

pub returns-clause-fault : goal.returns-clause-fault
returns-clause-fault g c =
    let words = c.args.words.now in
    unsaid_by g.L.Link.may_answer words.host (hash_by words.sum) words.replicas words.key.now words.body.now c.in_ok-owner.owner c.in_ok-owner.ensures.owner c.reply_of.result c.reply_of.ensures.fault
