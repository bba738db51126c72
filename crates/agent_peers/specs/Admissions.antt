-- The admission of new members.
use Rattle.std.specs.Prelude.{◌≡◌, ◌⊎◌, ℕ, Bool, Option, Some, None, cond, is_some}
use Rattle.change_core.specs.declared.changes.Entry.{Entry}
use Rattle.hash_ring.specs.declared.hash.Sha256Hash.{Sha256Hash}
use Rattle.node_core.specs.declared.events.Event.TheVariants as call
use Rattle.node_core.specs.declared.events.Reply.TheVariants as reply
use Rattle.turn_lock.specs.declared.errors.LockError.{LockError}
use Rattle.locked_node.specs.Passes.{Refuses}
use Rattle.peer_core.specs.Acts.{OfActs, Just, Then, did}
use Rattle.agent_node.specs.Calling.{Calling, HasMade}
use Rattle.message_core.specs.declared.kinds.Reason.TheVariants as reason
use Rattle.message_core.specs.declared.messages.Content.{Content}
use Rattle.message_core.specs.declared.messages.Content.TheVariants.{Join, Joined, Ping, Ack, PingReq, PingReqAck, Forward, Reply, NotOwner, Refused}
use Rattle.line_service.specs.declared.inputs.Input.{Input}
use Rattle.line_service.specs.declared.inputs.Input.TheVariants as input
use Rattle.agent_core.specs.Warnings.{may_join}

-- the sender, if the content is that of a Join
abbrev pub sender_of_join : Content → ℕ → Option ℕ
sender_of_join (Join news) source = Some source
sender_of_join (Joined news) source = None
sender_of_join (Ping news) source = None
sender_of_join (Ack news) source = None
sender_of_join (PingReq news target) source = None
sender_of_join (PingReqAck news target reached) source = None
sender_of_join (Forward keys body) source = None
sender_of_join (Reply body) source = None
sender_of_join NotOwner source = None
sender_of_join (Refused why) source = None

-- the sender of a Join
abbrev pub joiner : Input → Option ℕ
joiner (input.Message message) = sender_of_join message.content message.source
joiner (input.Refused why) = None
joiner input.Nothing = None

-- what a node that holds this number of addresses answers in place of a Join: a refusal, if it is not to admit the sender
abbrev pub admitted : Input → ℕ → Bool → Input
admitted join addresses is_known = cond (may_join addresses is_known) join (input.Refused reason.Full)

-- in place of a Join of this sender: the node is asked for its entry of the sender, and how many addresses it holds
abbrev pub IsChosen : ℕ → Input → Input → OfActs Sha256Hash
IsChosen source join chosen acts =
    (known : Option Entry) × (held : ℕ) × Then (Just (did (call.Member source) (reply.Member known))) (Just (did call.Len (reply.Len held))) acts
    × (chosen ≡ admitted join held (is_some known))

-- the same, or the lock refuses the pass, and the Join stays
abbrev pub Admits : ℕ → Input → Input → Calling → Calling → Type 0
Admits source join chosen old new = HasMade (IsChosen source join chosen) old new ⊎ ((chosen ≡ join) × ((l : LockError) × Refuses new.node new.pass l))
