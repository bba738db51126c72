use Rattle.std.proofs.Common.{◌≡◌, ◌∙◌, List, ap, subst, sym}
use Rattle.std.specs.Arc.{arc_value}
use Rattle.cluster_core.specs.declared.channel_links.Mailbox.{Mailbox}
use Rattle.cluster_core.specs.Clusters.{HasNoPost}
use Rattle.cluster_core.proofs.Crews.{no_post}
use Rattle.cluster_core.proofs.clusters.Cluster.ask.Goals as goal

pub returns-clause-closed : goal.returns-clause-closed
returns-clause-closed g c =
    λ none.
    let same : c.deref-2.result.now ≡ c.args.self.now.posts = c.deref-2.ensures.value ∙ ap (λ v. v.items) c.deref.ensures ∙ ap (λ v. v.posts) c.self.view_is in
    c.ask_one.ensures.closed (subst (λ (ps : List Mailbox). HasNoPost ps c.args.to) (sym same) none)

pub returns-clause-no_node : goal.returns-clause-no_node
returns-clause-no_node g c =
    λ none.
    let same : c.deref-2.result.now ≡ (arc_value c.self.inside.posts).items = c.deref-2.ensures.value ∙ ap (λ v. v.items) c.deref.ensures in
    c.ask_one.ensures.closed (subst (λ (ps : List Mailbox). HasNoPost ps c.args.to) (sym same)
    (no_post (arc_value c.self.inside.posts).items c.self.inside.seats.items c.args.self.now c.args.to c.self.invariant c.self.view_is none))
