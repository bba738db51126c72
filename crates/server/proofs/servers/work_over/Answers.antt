use Rattle.std.proofs.Common.{refl}
use Rattle.peer_core.specs.Handling.{between}
use Rattle.peer_core.proofs.Acts.{chain_more, chain_none}
use Rattle.server.specs.Working.{IsConnection}
use Rattle.server.proofs.Worked.{an_answer, by_same, then_same}
use Rattle.server.proofs.servers.work_over.Goals as goal

pub loop-served-init : goal.loop-served-init
loop-served-init g c = record {
  made = chain_none c.args.member.now.node (λ old new. IsConnection g.H.PointHash.hash_of (between g.A.HandlerMut.handled old new)) c.args.handler.now c.args.member.now.pass.now;
  same = record { node = refl; pass = refl; link = refl };
}

pub loop-served-preserved : goal.loop-served-preserved
loop-served-preserved g c =
    let before = c.loop-served.invariant in
    let next = c.answer_over in record {
      made =
          chain_more c.args.member.now.node (λ old new. IsConnection g.H.PointHash.hash_of (between g.A.HandlerMut.handled old new)) c.loop-served.served c.args.handler.now c.loop-served.handler next.new.handler
          c.args.member.now.pass.now c.loop-served.member.pass.now next.new.member.pass.now before.made
          (by_same before.same (an_answer g.H.PointHash.hash_of (between g.A.HandlerMut.handled c.loop-served.handler next.new.handler) _ _ _ _ next.result _ _ next.ensures.answered));
      same = then_same before.same next.ensures.same;
    }
