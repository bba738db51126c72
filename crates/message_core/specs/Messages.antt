-- The kind of a message.
use Rattle.message_core.specs.declared.kinds.Kind.{Kind}
use Rattle.message_core.specs.declared.kinds.Kind.TheVariants as kind
use Rattle.message_core.specs.declared.messages.Content.{Content}
use Rattle.message_core.specs.declared.messages.Content.TheVariants.{Join, Joined, Ping, Ack, PingReq, PingReqAck, Forward, Reply, NotOwner, Refused}

-- the kind of a message
abbrev pub kind_of : Content → Kind
kind_of (Join g) = kind.Join
kind_of (Joined g) = kind.Joined
kind_of (Ping g) = kind.Ping
kind_of (Ack g) = kind.Ack
kind_of (PingReq g a) = kind.PingReq
kind_of (PingReqAck g a b) = kind.PingReqAck
kind_of (Forward ks t) = kind.Forward
kind_of (Reply t) = kind.Reply
kind_of NotOwner = kind.NotOwner
kind_of (Refused r) = kind.Refused
