-- What the laws on owners and on texts say of two nodes that serve one message, and of one that is given a request.
use Rattle.std.proofs.Common.{◌≡◌, ◌≢◌, ◌⊎◌, ℕ, ◌<◌, length, List, Result, Ok, Err, IfOk, inl, inr}
use Rattle.change_core.specs.declared.addresses.Address.{Address}
use Rattle.hash_ring.specs.declared.servers.Server.{Server}
use Rattle.message_core.specs.declared.messages.Content.TheVariants.{Forward, Reply}
use Rattle.message_core.specs.declared.messages.Message.{Message}
use Rattle.locked_node.specs.declared.node.LockedNode.{LockedNode}
use Rattle.locked_node.specs.Passes.{NodePass}
use Rattle.peer_core.specs.declared.errors.ClusterError.{ClusterError}
use Rattle.peer_core.specs.Acts.{Makes, acts_of}
use Rattle.peer_core.specs.Handling.{Handled, between}
use Rattle.peer_core.specs.Links.{MayAnswer, Went}
use Rattle.peer_core.specs.Resending.{SendsRequest}
use Rattle.peer_core.specs.Serving.{Serves, message_from}
use Rattle.laws.specs.Ending.{TextsAreDone}
use Rattle.laws.specs.Owning.{by_message, LooksSo, OneHandles}

module _ {L H A : Type 0} (hash_of : H → List ℕ → ℕ) (Came : MayAnswer) (went : Went L) (handled : Handled A) where
  -- of two nodes that serve a Forward, and name owners by the same servers, one does not call its handler
  pub one_of_two : OneHandles hash_of Came went handled
      → (one other : LockedNode H) (p q r s : NodePass H) (message : Message) (now : ℕ) (first second : Result Message ClusterError) (was is before after : A)
      → Makes one (Serves hash_of Came (between handled was is) message now message.content first) p q
      → Makes other (Serves hash_of Came (between handled before after) message now message.content second) r s
      → (keys : List (List ℕ)) (body : List ℕ) → message.content ≡ Forward keys body → 0 < length keys
      → Makes one (λ acts. Makes other (λ more. (a b : Address) (hash : H) (replicas : ℕ) (servers : List Server)
      → LooksSo a hash replicas servers acts → LooksSo b hash replicas servers more → a ≢ b → (is ≡ was) ⊎ (after ≡ before)) r s) p q
  one_of_two law one other p q r s message now first second was is before after makes others keys body forward few = record {
    entries = makes.entries;
    made = makes.made;
    so = record {
      entries = others.entries;
      made = others.made;
      so = λ a b hash replicas servers looks look apart.
          elim (law keys few a b hash replicas servers (by_message message now first) (by_message message now second) was is before after
          (acts_of makes.entries) (acts_of others.entries) ((body, forward), makes.so) looks ((body, forward), others.so) look apart) [
            | inl left ↦ inl left.0
            | inr left ↦ inr left.0
          ];
    };
  }

  -- the text of a request is that of one call of the own handler, or that of a Reply, of which the link's last call shows this
  pub text_given : {B : Type 0} (there : Handled B) → TextsAreDone hash_of Came went handled there
      → (keys : List (List ℕ)) (body : List ℕ) (r : Result (List ℕ) ClusterError) (was is : A) (old new : L) (locked : LockedNode H) (p q : NodePass H)
      → Makes locked (SendsRequest hash_of went handled keys body r was is old new) p q
      → (Shows : Message → Type 0) → ((owner : Address) (message reply : Message) (mid : L) → went owner message (Ok reply) mid new → Shows reply)
      → IfOk r (λ text. handled keys body (Ok text) was is ⊎ ((is ≡ was) × ((reply : Message) × (reply.content ≡ Reply text) × Shows reply)))
  text_given there law keys body (Err e) was is old new locked p q makes Shows shown = tt
  text_given there law keys body (Ok text) was is old new locked p q makes Shows shown =
      let done = law keys body text was is old new (acts_of makes.entries) makes.so in
      let ends = done.3.4 in
      elim ends.2 [
        | inl here ↦ inl here.1
        | inr other ↦
            let goes = other.1.2 in
            inr (other.0, (other.1.0, other.1.1, shown goes.0 (message_from ends.0 (Forward keys body)) other.1.0 done.1 goes.3))
      ]
