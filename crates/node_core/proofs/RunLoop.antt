-- A run goes on by one step, and its node is that of its log.
use Rattle.std.proofs.Common.{◌≡◌, ℕ, List, [], ◌∷◌, ◌++◌, map, ◌∙◌, ap, subst, refl}
use Rattle.std.specs.List.{filter}
use Rattle.change_core.specs.declared.changes.Change.{Change}
use Rattle.change_core.specs.Members.{members}
use Rattle.change_core.specs.Status.{is_serving}
use Rattle.change_core.proofs.Members.{members-IsMemberList, members-members}
use Rattle.hash_ring.specs.declared.servers.Server.{Server}
use Rattle.hash_ring.specs.Points.{points}
use Rattle.hash_ring.specs.Serving.{server_of, servers_of}
use Rattle.node_core.specs.declared.events.Event.{Event}
use Rattle.node_core.specs.declared.events.Reply.{Reply}
use Rattle.node_core.specs.Agreement.{IsNodeOf}
use Rattle.node_core.specs.Invariant.{IsSeen}
use Rattle.node_core.specs.Node.{Node, Seen}
use Rattle.node_core.specs.Run.{IsRun, log}
use Rattle.node_core.specs.Step.{NodeStep}
use Rattle.node_core.proofs.Following.{members_are_log}

pub Run-push : {H : Type 0} (hash_of : H → List ℕ → ℕ) (old mid new : Node H) (events : List Event) (replies : List Reply) (event : Event) (reply : Reply)
    → IsRun hash_of old events replies mid → NodeStep hash_of mid event reply new → IsRun hash_of old (events ++ event ∷ []) (replies ++ reply ∷ []) new
Run-push {H} hash_of old mid new [] [] event reply run step = (new, subst (λ (n : Node H). NodeStep hash_of n event reply new) run step, refl)
Run-push hash_of old mid new [] (r ∷ rs) event reply run step = absurd run
Run-push hash_of old mid new (e ∷ es) [] event reply run step = absurd run
Run-push hash_of old mid new (e ∷ es) (r ∷ rs) event reply run step = (run.0, run.1, Run-push hash_of run.0 mid new es rs event reply run.2 step)

pub IsNodeOf-run : {H : Type 0} (hash_of : H → List ℕ → ℕ) (old new : Seen H) (events : List Event) (replies : List Reply)
    → IsSeen hash_of old → IsSeen hash_of new → IsRun hash_of old.node events replies new.node → IsNodeOf hash_of new (log old.node.own old.node.members events replies)
IsNodeOf-run hash_of old new events replies before after run =
    let L : List Change = log old.node.own old.node.members events replies in
    let same : new.node.members ≡ members L = members_are_log hash_of old.node new.node events replies (members-IsMemberList old.node.members before.kept.one_each) run in
    record {
      members_are = same;
      points_are = after.ring ∙ ap (λ (ss : List Server). points (hash_of new.node.hash) new.node.config.replicas ss)
          (ap servers_of same ∙ ap (λ (ms : List Change). map server_of (filter (λ (c : Change). is_serving c.status) ms)) (members-members L));
    }
