use Rattle.cluster_core.proofs.channel_links.ask_at.Goals as goal

pub returns-in-Some-clause-answered : goal.returns-in-Some-clause-answered
returns-in-Some-clause-answered g c = λ answered. (c.in-Some.post.now, c.in-Some.ensures.its, c.exchange.ensures.answered)
