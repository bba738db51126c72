-- Links over channels.
use Rattle.std.specs.Prelude.{◌≡◌, ℕ, List, Result, Ok, Err}
use Rattle.std.specs.Arc.{arc_value}
use Rattle.crossbeam_channel.specs.declared.err.RecvError.{RecvError}
use Rattle.crossbeam_channel.specs.declared.err.SendError.{SendError}
use Rattle.crossbeam_channel.specs.declared.err.SendError.TheVariants.{Disconnected, OutOfMemory}
use Rattle.cluster_core.specs.declared.channel_links.ChannelLink.{ChannelLink}
use Rattle.message_core.specs.declared.messages.Message.{Message}
use Rattle.cluster_core.specs.declared.channel_links.Job.{Job}
use Rattle.cluster_core.specs.declared.channel_links.Job.TheVariants.{Serve, Stop}
use Rattle.cluster_core.specs.declared.channel_links.Mailbox.{Mailbox}
use Rattle.peer_core.specs.declared.errors.LinkError.{LinkError}
use Rattle.peer_core.specs.declared.errors.LinkError.TheVariants.{Closed, Memory}

-- the posts of the nodes that a link reaches
abbrev pub reached_by : ChannelLink → List Mailbox
reached_by link = (arc_value link.posts).items

-- how often a link has failed
abbrev pub failures_of : ChannelLink → ℕ
failures_of link = link.failures

-- the errors of a question over channels
abbrev pub IsChannelFault : LinkError → Type 0
IsChannelFault Closed = Unit {0}
IsChannelFault Memory = Unit {0}
IsChannelFault other = ⊥

-- a link's result for a send over a channel
abbrev pub sent_as : {T : Type 0} → Result (Unit {0}) (SendError T) → Result (Unit {0}) LinkError
sent_as (Ok done) = Ok done
sent_as (Err (OutOfMemory item)) = Err Memory
sent_as (Err (Disconnected item)) = Err Closed

-- a link's result for a receive over a channel
abbrev pub heard_as : {T : Type 0} → Result T RecvError → Result T LinkError
heard_as (Ok item) = Ok item
heard_as (Err error) = Err Closed

-- the job is to answer the message
abbrev pub Carries : Message → Job → Type 0
Carries message (Serve copy to) = copy ≡ message
Carries message Stop = ⊥
