-- How a request was done that has a text: by one call of one handler, that of the node that it entered at, or that of a node which owned its keys.
use Rattle.std.specs.Prelude.{◌≡◌, ◌⊎◌, ℕ, ◌<◌, length, List, Contains, Some, Ok}
use Rattle.change_core.specs.declared.addresses.Address.{Address}
use Rattle.message_core.specs.declared.messages.Content.TheVariants.{Forward, Reply}
use Rattle.message_core.specs.declared.messages.Message.{Message}
use Rattle.node_core.specs.Viewing.{Viewed}
use Rattle.forward_core.specs.Attempts.{most_sends}
use Rattle.forward_core.specs.Routes.{AllOwnedBy}
use Rattle.peer_core.specs.Acts.{Act, OfActs, Just, Then, looked}
use Rattle.peer_core.specs.Handling.{Handled, between}
use Rattle.peer_core.specs.Handlings.{FailsOver}
use Rattle.peer_core.specs.Links.{MayAnswer, Went}
use Rattle.peer_core.specs.Resending.{GoesToOwner, Sending, SendsRequest}
use Rattle.peer_core.specs.Serving.{Serves}

-- each view among these acts is of the node at this address
abbrev pub IsNodeAt : {H : Type 0} → Address → OfActs H
IsNodeAt {H} a acts = (view : Viewed H) → Contains acts (looked (Ok view)) → view.own ≡ a

module _ {H B : Type 0} (hash_of : H → List ℕ → ℕ) (Came : MayAnswer) (handled : Handled B) where
  -- the node at this address made this answer to a Forward of the keys and the body, whoever sent it, between these states of its handler
  abbrev pub IsAnswerOf : Address → List (List ℕ) → List ℕ → Message → B → B → OfActs H
  IsAnswerOf a keys body answer before after acts =
      IsNodeAt a acts
      × ((message : Message) × (now : ℕ) × (message.content ≡ Forward keys body)
      × Serves hash_of Came (between handled before after) message now message.content (Ok answer) acts)

  -- the node at this address owned the keys by a view of these acts, and its handler was called once, between these states, and gave this text
  abbrev pub IsDoneAt : Address → List (List ℕ) → List ℕ → List ℕ → B → B → OfActs H
  IsDoneAt a keys body text before after acts =
      ((view : Viewed H) × Contains acts (looked (Ok view)) × AllOwnedBy hash_of view keys (Some a)) × handled keys body (Ok text) before after

  -- a node that answers a Forward by a Reply did it so
  abbrev pub RepliesAreDone : Type 0
  RepliesAreDone =
      (a : Address) (keys : List (List ℕ)) (body text : List ℕ) (answer : Message) (before after : B) (acts : List (Act H)) → answer.content ≡ Reply text
      → IsAnswerOf a keys body answer before after acts → IsDoneAt a keys body text before after acts

module _ {L H A B : Type 0} (hash_of : H → List ℕ → ℕ) (Came : MayAnswer) (went : Went L) (here : Handled A) (there : Handled B) where
  -- After Forwards that failed, fewer than four, the last view ends a request that has this text. By it the node owns the keys, and its handler was called once
  -- and gave the text; or its handler was not called, and the text is that of a Reply which came for one Forward more to the owner by that view: and whichever
  -- node made that Reply to such a Forward owned the keys by a view of its own, and its handler was called once for it and gave the text.
  abbrev pub IsDone : List (List ℕ) → List ℕ → List ℕ → A → A → L → L → OfActs H
  IsDone keys body text was is old new acts =
      (failed : List (Sending H)) × (mid : L) × (length failed < most_sends)
      × Then (FailsOver hash_of went keys body failed old mid)
      (λ ends. (view : Viewed H) × Just (looked (Ok view)) ends
      × ((AllOwnedBy hash_of view keys (Some view.own) × here keys body (Ok text) was is × (new ≡ mid))
      ⊎ ((is ≡ was)
      × ((reply : Message) × (reply.content ≡ Reply text) × GoesToOwner hash_of went keys body view (Ok reply) mid new
      × ((a : Address) (before after : B) (its : List (Act H))
      → IsAnswerOf hash_of Came there a keys body reply before after its → IsDoneAt hash_of Came there a keys body text before after its))))) acts

  -- each request that has a text was done so
  abbrev pub TextsAreDone : Type 0
  TextsAreDone =
      (keys : List (List ℕ)) (body text : List ℕ) (was is : A) (old new : L) (acts : List (Act H))
      → SendsRequest hash_of went here keys body (Ok text) was is old new acts → IsDone keys body text was is old new acts
