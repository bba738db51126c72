use Rattle.std.proofs.Common.{◌∙◌, refl, set, subst, sym, List}
use Rattle.std.specs.Arc.{arc_value}
use Rattle.cluster_core.specs.declared.channel_links.Mailbox.{Mailbox}
use Rattle.peer_core.specs.Links.{any_answer}
use Rattle.cluster_core.specs.Clusters.{NodeDoes, SeatState}
use Rattle.peer_core.specs.Correcting.{IsCorrectingRound}
use Rattle.cluster_core.proofs.Crews.{node_did, same_addresses}
use Rattle.cluster_core.proofs.clusters.Cluster.correcting_round.Goals as goal

pub invariant_of-self : goal.invariant_of-self
invariant_of-self g c =
    c.self.invariant
    ∙ sym (same_addresses c.self.inside.seats.items c.in-Some.at c.index_mut.result.now c.correcting_round.new.self (rw c.deref.ensures.value at c.in-Some.ensures.some.0)
    c.index_mut.ensures.value c.correcting_round.ensures.made.address)

pub returns-in-Some-clause-made : goal.returns-in-Some-clause-made
returns-in-Some-clause-made g c =
    λ some.
    let posts : List Mailbox = (arc_value c.self.inside.posts).items in
    let seats : List (SeatState _) = c.self.inside.seats.items in
    let now : List (SeatState _) = set seats c.in-Some.at c.correcting_round.new.self in
    subst (λ s. NodeDoes (IsCorrectingRound any_answer c.args.now) c.args.address c.correcting_round.result s (record { posts = posts; seats = now })) c.self.view_is
    (node_did (IsCorrectingRound any_answer c.args.now) c.args.address c.correcting_round.result (record { posts = posts; seats = seats }) (record { posts = posts; seats = now }) c.in-Some.at c.index_mut.result.now c.correcting_round.new.self
    (rw c.deref.ensures.value at c.in-Some.ensures.some.0) (rw c.deref.ensures.value at c.in-Some.ensures.its) c.index_mut.ensures.value c.correcting_round.ensures.made refl refl)
