use Rattle.peer_core.proofs.Healed.{says_so}
use Rattle.peer_core.proofs.meeting.misnames.Goals as goal

pub returns-in-Ack : goal.returns-in-Ack
returns-in-Ack c = says_so c.args.own.now c.args.content.now c.in-Ack.news c.any_differs.result c.as_slice.result.now c.in-Ack.is c.as_slice.ensures.items c.any_differs.ensures
