use Rattle.std.proofs.Common.{◌∙◌, refl, set, subst, sym, List}
use Rattle.std.specs.Arc.{arc_value}
use Rattle.cluster_core.specs.declared.channel_links.Mailbox.{Mailbox}
use Rattle.peer_core.specs.Links.{any_answer}
use Rattle.cluster_core.specs.Clusters.{HasNoNode, NodeDoes, SeatState}
use Rattle.peer_core.specs.Healing.{IsHealing, after_round}
use Rattle.cluster_core.proofs.Crews.{node_did, same_addresses}
use Rattle.cluster_core.proofs.clusters.Cluster.heal.Goals as goal

pub invariant_of-self : goal.invariant_of-self
invariant_of-self g c =
    c.self.invariant
    ∙ sym (same_addresses c.self.inside.seats.items c.in-Some.at c.index_mut.result.now c.heal.new.self (rw c.deref.ensures.value at c.in-Some.ensures.some.0)
    c.index_mut.ensures.value c.heal.ensures.made.address)

pub returns-in-Some-clause-healed : goal.returns-in-Some-clause-healed
returns-in-Some-clause-healed g c =
    λ some.
    let posts : List Mailbox = (arc_value c.self.inside.posts).items in
    let seats : List (SeatState _) = c.self.inside.seats.items in
    let now : List (SeatState _) = set seats c.in-Some.at c.heal.new.self in
    subst (λ s. NodeDoes (IsHealing any_answer c.args.now c.args.healing.now.hosts (after_round c.args.healing.now).0) c.args.address c.heal.result s (record { posts = posts; seats = now })) c.self.view_is
    (node_did (IsHealing any_answer c.args.now c.args.healing.now.hosts (after_round c.args.healing.now).0) c.args.address c.heal.result (record { posts = posts; seats = seats }) (record { posts = posts; seats = now }) c.in-Some.at c.index_mut.result.now c.heal.new.self
    (rw c.deref.ensures.value at c.in-Some.ensures.some.0) (rw c.deref.ensures.value at c.in-Some.ensures.its) c.index_mut.ensures.value c.heal.ensures.made refl refl)

pub returns-in-Some-clause-no_node : goal.returns-in-Some-clause-no_node
returns-in-Some-clause-no_node g c =
    λ none. absurd ((rw c.deref.ensures.value at c.in-Some.ensures.some.1) (subst (λ s. HasNoNode s c.args.address) (sym c.self.view_is) none))

pub returns-in-None-clause-healed : goal.returns-in-None-clause-healed
returns-in-None-clause-healed g c =
    λ some. absurd (some (subst (λ s. HasNoNode s c.args.address) c.self.view_is (rw c.deref.ensures.value at c.in-None.ensures.none)))

pub returns-in-None-clause-healing : goal.returns-in-None-clause-healing
returns-in-None-clause-healing g c =
    λ some. absurd (some (subst (λ s. HasNoNode s c.args.address) c.self.view_is (rw c.deref.ensures.value at c.in-None.ensures.none)))
