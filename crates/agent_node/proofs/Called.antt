-- The calls of a thread, by what the lock and the node answered.
use Rattle.std.proofs.Common.{◌≡◌, ℕ, List, Result, Ok, Err, subst, sym, inl, inr, refl}
use Rattle.std.specs.Prelude.{IfErr, IfOk}
use Rattle.hash_ring.specs.declared.hash.Sha256Hash.{Sha256Hash}
use Rattle.turn_lock.specs.declared.errors.LockError.{LockError}
use Rattle.node_core.specs.Calls.{OfEvent, OfView, WithReply, WithView}
use Rattle.node_core.specs.Viewing.{Viewed}
use Rattle.node_core.specs.declared.errors.NodeError.{NodeError}
use Rattle.node_core.specs.declared.events.Event.{Event}
use Rattle.node_core.specs.declared.events.Reply.{Reply}
use Rattle.locked_node.specs.declared.node.LockedNode.{LockedNode}
use Rattle.locked_node.specs.Passes.{NodePass, IsBarred, IsCalled}
use Rattle.peer_core.specs.Errors.{error_of_node}
use Rattle.peer_core.specs.Parts.{Part, Calls, Does, Tries, allowed, let_in}
use Rattle.peer_core.specs.declared.errors.ClusterError.{ClusterError}
use Rattle.peer_core.proofs.Acts.{makes_as, makes_one}
use Rattle.peer_core.proofs.Parts.{bars_node, does_call, does_try, locked_out}
use Rattle.agent_node.specs.Calling.{Calling, Looks}

module _ (hash : Sha256Hash → List ℕ → ℕ) (locked : LockedNode Sha256Hash) (p q : NodePass Sha256Hash) where
  -- a call that the lock alone may refuse
  pub called_once : {A : Type 0} (event : Event) (reply_of : A → Reply) (r : Result A LockError) (answer : Result A ClusterError)
      → IfOk r (λ a. IsCalled hash locked p q (OfEvent event) (WithReply (reply_of a))) → IfErr r (IsBarred locked p q)
      → answer ≡ let_in r → Does locked (Calls event reply_of) answer p q
  called_once event reply_of r answer called barred is =
      subst (λ it. Does locked (Calls event reply_of) it p q) (sym is) (does_call hash event reply_of r called barred)

  -- a call that the node may refuse too
  pub tried_once : {A : Type 0} (event : Event) (reply_of : Result A NodeError → Reply) (r : Result (Result A NodeError) LockError) (answer : Result A ClusterError)
      → IfOk r (λ a. IsCalled hash locked p q (OfEvent event) (WithReply (reply_of a))) → IfErr r (IsBarred locked p q)
      → answer ≡ allowed r → Does locked (Tries event reply_of) answer p q
  tried_once event reply_of r answer called barred is =
      subst (λ it. Does locked (Tries event reply_of) it p q) (sym is) (does_try hash event reply_of r called barred)

  looks : (r : Result (Result (Viewed Sha256Hash) NodeError) LockError) → IfOk r (λ it. IsCalled hash locked p q OfView (WithView it))
      → IfErr r (IsBarred locked p q) → Does locked Looks (allowed r) p q
  looks (Ok (Ok view)) called barred = record { makes = makes_one called; barred = tt }
  looks (Ok (Err n)) called barred = record {
    makes = makes_as (Looks (Err (error_of_node n))) (λ acts one. inr (n, one, refl)) (makes_one called);
    barred = bars_node locked q n;
  }
  looks (Err l) called barred = locked_out Looks l barred (λ acts none. inl none)

  -- a view
  pub looked_once : (r : Result (Result (Viewed Sha256Hash) NodeError) LockError) (answer : Result (Viewed Sha256Hash) ClusterError)
      → IfOk r (λ it. IsCalled hash locked p q OfView (WithView it)) → IfErr r (IsBarred locked p q)
      → answer ≡ allowed r → Does locked Looks answer p q
  looked_once r answer called barred is = subst (λ it. Does locked Looks it p q) (sym is) (looks r called barred)

-- what was done by the node and the pass of a thread, as contracts see both
pub as_seen : {A : Type 0} (P : Part Sha256Hash A) (r : Result A ClusterError) (caller : Calling) (locked node : LockedNode Sha256Hash) (p q : NodePass Sha256Hash)
    → record { node = node; pass = p } ≡ caller → locked ≡ node → Does locked P r p q → Does caller.node P r caller.pass q
as_seen P r caller locked node p q seen same does =
    subst (λ (it : Calling). Does it.node P r it.pass q) seen (subst (λ it. Does it P r p q) same does)
