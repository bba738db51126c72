-- A member: a node, the pass by which it is called, and the link over which it asks others.
use Rattle.std.specs.Prelude.{◌≡◌, ℕ, List, Result, IfOk, IfErr}
use denote.Ref.{MutBor}
use Rattle.node_core.specs.declared.events.Event.{Event}
use Rattle.node_core.specs.declared.events.Reply.{Reply}
use Rattle.node_core.specs.Calls.{Call, OfEvent, Answer, WithReply}
use Rattle.turn_lock.specs.declared.errors.LockError.{LockError}
use Rattle.locked_node.specs.declared.node.LockedNode.{LockedNode}
use Rattle.locked_node.specs.Passes.{NodePass, IsBarred, IsCalled}
use Rattle.peer_core.specs.declared.errors.ClusterError.{ClusterError}
use Rattle.peer_core.specs.Acts.{OfActs, Makes}
use Rattle.peer_core.specs.Parts.{Part, Does}

-- The node, and the pass and the link as the member borrows them.
pub record Caller (H L : Type 0) : Type 0 where
  pub node : LockedNode H
  pub pass : MutBor (NodePass H)
  pub link : MutBor L

module _ {H L : Type 0} where
  -- The member did the part, with this result. It has the same node, the same pass and the same link.
  pub record Done {A : Type 0} (P : Part H A) (r : Result A ClusterError) (old new : Caller H L) : Type 0 where
    pub node : new.node ≡ old.node
    pub pass : new.pass.ghost_name ≡ old.pass.ghost_name
    pub link : new.link.ghost_name ≡ old.link.ghost_name
    pub does : Does old.node P r old.pass.now new.pass.now

  -- what went over the member's link
  abbrev pub Over : (L → L → OfActs H) → Caller H L → Caller H L → Type 0
  Over Goes old new = Makes old.node (Goes old.link.now new.link.now) old.pass.now new.pass.now

  -- The member made this call of the node, with this answer; or the lock refused the pass, and nothing changed. It has the same node,
  -- the same pass and the same link, which was not called.
  pub record Called {A : Type 0} (hash_of : H → List ℕ → ℕ) (call : Call) (answer_of : A → Answer H) (r : Result A LockError) (old new : Caller H L) : Type 0 where
    pub node : new.node ≡ old.node
    pub pass : new.pass.ghost_name ≡ old.pass.ghost_name
    pub link : new.link ≡ old.link
    pub called : IfOk r (λ a. IsCalled hash_of old.node old.pass.now new.pass.now call (answer_of a))
    pub refused : IfErr r (IsBarred old.node old.pass.now new.pass.now)

  -- the same of the call that an event names
  abbrev pub Replied : {A : Type 0} → (H → List ℕ → ℕ) → Event → (A → Reply) → Result A LockError → Caller H L → Caller H L → Type 0
  Replied hash_of event reply_of = Called hash_of (OfEvent event) (λ a. WithReply (reply_of a))
