-- The effect of the workers of a node on it.
use Rattle.std.specs.Prelude.{ℕ, List, Result, IfOk}
use Rattle.message_core.specs.declared.messages.Message.{Message}
use Rattle.locked_node.specs.declared.node.LockedNode.{LockedNode}
use Rattle.locked_node.specs.Passes.{NodePass}
use Rattle.peer_core.specs.declared.errors.ClusterError.{ClusterError}
use Rattle.peer_core.specs.Acts.{OfActs, Chain, Makes, Times}
use Rattle.peer_core.specs.Members.{Caller, Done}
use Rattle.peer_core.specs.Handling.{Handled, Handlings, MayHandle, between, shared}
use Rattle.peer_core.specs.Serving.{Serves}
use Rattle.peer_core.specs.Links.{any_answer}

-- the result of a handler that only its workers know may be any
abbrev pub any_text : MayHandle
any_text keys body answer = Unit {0}

module _ {H : Type 0} where
  -- the same kind of acts again and again, as often as it may be
  abbrev pub Repeats : OfActs H → OfActs H
  Repeats One acts = (n : ℕ) × Times One n acts

  -- a message was served once, at the moment 0, over a link whose answers may be any, whatever the result
  abbrev pub IsMessageServed : (H → List ℕ → ℕ) → Handlings → OfActs H
  IsMessageServed hash_of Handled acts =
      (message : Message) × (r : Result Message ClusterError) × Serves hash_of any_answer Handled message 0 message.content r acts

  -- by this member the message was served once, at the moment 0, over a link of which nothing is known, with this result: its answer, or where the lock
  -- refuses the pass
  abbrev pub ServesSo : {L : Type 0} → (H → List ℕ → ℕ) → Handlings → Message → Result Message ClusterError → Caller H L → Caller H L → Type 0
  ServesSo hash_of Handled message r old new = Done (Serves hash_of any_answer Handled message 0 message.content) r old new

  -- the same, with some result
  abbrev pub ServesOnce : {L : Type 0} → (H → List ℕ → ℕ) → Handlings → Message → Caller H L → Caller H L → Type 0
  ServesOnce hash_of Handled message old new = (r : Result Message ClusterError) × ServesSo hash_of Handled message r old new

  -- the same, and if there is an answer, that was put where this is so
  abbrev pub AnswersOnce : {L : Type 0} → (H → List ℕ → ℕ) → Handlings → (Message → Type 0) → Message → Caller H L → Caller H L → Type 0
  AnswersOnce hash_of Handled PutIn message old new = (r : Result Message ClusterError) × ServesSo hash_of Handled message r old new × IfOk r PutIn

  -- by this pass messages were served so, by a handler whose results may be any, and no other call was made
  abbrev pub HasWorked : (H → List ℕ → ℕ) → LockedNode H → NodePass H → NodePass H → Type 0
  HasWorked hash_of locked old new = Makes locked (Repeats (IsMessageServed hash_of (shared any_text))) old new

  -- messages were served so one after the other, as often as it may be, each by the handler as the one before left it
  abbrev pub ServesEach : {A : Type 0} → (H → List ℕ → ℕ) → Handled A → A → A → OfActs H
  ServesEach hash_of handled was is acts = (n : ℕ) × Chain (λ old new. IsMessageServed hash_of (between handled old new)) n was is acts
