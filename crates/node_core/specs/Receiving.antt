-- The effect of a message on a node.
use Rattle.std.specs.Prelude.{◌≡◌, ℕ, Bool, true, false, Result, Ok, Err}
use Rattle.message_core.specs.declared.messages.Message.{Message}
use Rattle.message_core.specs.declared.messages.Content.{Content}
use Rattle.message_core.specs.declared.messages.Content.TheVariants.{Join, Joined, Ping, Ack, PingReq, PingReqAck, Forward, Reply, NotOwner, Refused}
use Rattle.node_core.specs.declared.errors.NodeError.{NodeError}
use Rattle.node_core.specs.declared.errors.NodeError.TheVariants as error
use Rattle.node_core.specs.declared.events.Received.{Received}
use Rattle.node_core.specs.declared.events.Stopped.{Stopped}
use Rattle.node_core.specs.declared.events.Taken.{Taken}
use Rattle.node_core.specs.declared.events.Received.TheVariants as received
use Rattle.node_core.specs.Messages.{carried, joined_by, ack_by, told}
use Rattle.node_core.specs.Node.{Node}
use Rattle.node_core.specs.Taking.{TakeStep}

-- the answer to a message of this source, once its changes are processed
abbrev pub AnswerStep : {H : Type 0} → Node H → ℕ → Content → Message → Node H → Type 0
AnswerStep mid source (Join news) answer new = (answer ≡ joined_by mid) × (new ≡ mid)
AnswerStep mid source (Ping news) answer new = (answer ≡ ack_by mid source news.checksum) × (new ≡ told mid source)
AnswerStep mid source other answer new = ⊥

-- whether a message is of the membership
abbrev pub is_gossip : Content → Bool
is_gossip (Join news) = true
is_gossip (Joined news) = true
is_gossip (Ping news) = true
is_gossip (Ack news) = true
is_gossip (PingReq news target) = true
is_gossip (PingReqAck news target reached) = true
is_gossip (Forward keys body) = false
is_gossip (Reply body) = false
is_gossip NotOwner = false
is_gossip (Refused reason) = false

-- whether it needs an answer
abbrev pub is_answered : Content → Bool
is_answered (Join news) = true
is_answered (Joined news) = false
is_answered (Ping news) = true
is_answered (Ack news) = false
is_answered (PingReq news target) = false
is_answered (PingReqAck news target reached) = false
is_answered (Forward keys body) = false
is_answered (Reply body) = false
is_answered NotOwner = false
is_answered (Refused reason) = false

-- the result of a message that needs no answer, by the result of its changes
abbrev pub as_taken : Result Taken Stopped → Received
as_taken (Ok taken) = received.Done taken
as_taken (Err stopped) = received.Stopped stopped

-- the result of a message whose changes were processed, by its answer
abbrev pub as_answered : Taken → Result Message NodeError → Received
as_answered taken (Ok message) = received.Answer taken message
as_answered taken (Err error) = received.NoAnswer taken

-- the changes of a message of the membership are processed; if all are and it needs an answer, the answer is returned, or out of memory;
-- any other does nothing
abbrev pub ReceiveStep : {H : Type 0} → Node H → Message → ℕ → Received → Node H → Type 0
ReceiveStep old message moment (received.Done taken) new =
    (is_gossip message.content ≡ true) × (is_answered message.content ≡ false) × TakeStep old (carried message.content) moment (Ok taken) new
ReceiveStep {H} old message moment (received.Answer taken answer) new =
    (mid : Node H) × TakeStep old (carried message.content) moment (Ok taken) mid × AnswerStep mid message.source message.content answer new
ReceiveStep old message moment (received.NoAnswer taken) new =
    (is_answered message.content ≡ true) × TakeStep old (carried message.content) moment (Ok taken) new
ReceiveStep old message moment (received.Stopped stopped) new =
    (is_gossip message.content ≡ true) × TakeStep old (carried message.content) moment (Err stopped) new
ReceiveStep old message moment received.NotGossip new = (is_gossip message.content ≡ false) × (new ≡ old)

-- a message is made, or out of memory, and nothing changes
abbrev pub MakeStep : {H : Type 0} → Node H → Message → Node H → Result Message NodeError → Node H → Type 0
MakeStep old message after (Ok made) new = (made ≡ message) × (new ≡ after)
MakeStep old message after (Err error.Memory) new = new ≡ old
MakeStep old message after (Err other) new = ⊥
