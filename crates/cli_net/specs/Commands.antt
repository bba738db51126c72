-- The input and the output of a command that speaks to nodes.
use Rattle.std.specs.Prelude.{◌≡◌, ℕ, List, [], Option}
use Rattle.cli_core.specs.Owner.{hash_by}
use Rattle.peer_core.specs.Links.{MayAnswer}
use Rattle.cli_net.specs.Asking.{IsReply, IsUnasked, LeavesReply, WritesReply, request}
use Rattle.cli_net.specs.Membership.{IsUnwritten, WritesSeen, membership_text}
use Rattle.cli_net.specs.Owning.{IsAnswered, IsUnanswered}
use Rattle.server.specs.Working.{RoundTimes}
use Rattle.cli_net.specs.Service.{IsUnserved, Served}
use Rattle.cli_net.specs.Telling.{IsUntold, Tells}
use Rattle.cli_core.specs.declared.words.ClusterCommand.{ClusterCommand}
use Rattle.cli_core.specs.declared.words.ClusterCommand.TheVariants.{Serve, Ask, AskAny, Members, Tell}
use Rattle.cli_net.specs.declared.commands.ClusterCommandError.{ClusterCommandError}
use Rattle.cli_net.specs.declared.commands.ClusterCommandError.TheVariants as fault

-- The output of a command that succeeds, by the answer; for `serve`, whose rounds go by this clock, all that `Served` has. `tell` passes on the known input.
abbrev pub CommandFinishes : MayAnswer → RoundTimes → ClusterCommand → Option (List ℕ) → Option (List ℕ) → Option (List ℕ) → Type 0
CommandFinishes May Time (Serve words) known old new = Served Time words old new
CommandFinishes May Time (Ask words) known old new = WritesReply (IsReply May words.address (request words.key.now words.body.now)) old new
CommandFinishes May Time (AskAny words) known old new =
    WritesReply (IsAnswered May words.host (hash_by words.sum) words.replicas words.key.now words.body.now) old new
CommandFinishes May Time (Members words) known old new = WritesSeen May words.host [] (membership_text words.form) old new
CommandFinishes May Time (Tell host) known old new = Tells May host known old new

-- the error of one that fails, and the output then; `serve` and `tell` have separate errors
abbrev pub CommandFails : MayAnswer → ClusterCommand → ClusterCommandError → Option (List ℕ) → Option (List ℕ) → Option (List ℕ) → Type 0
CommandFails May (Serve words) (fault.Serve e) known old new = IsUnserved words e old new
CommandFails May (Ask words) (fault.Ask e) known old new =
    LeavesReply (IsReply May words.address (request words.key.now words.body.now))
    (IsUnasked May words.address (request words.key.now words.body.now)) e old new
CommandFails May (AskAny words) (fault.Ask e) known old new =
    LeavesReply (IsAnswered May words.host (hash_by words.sum) words.replicas words.key.now words.body.now)
    (IsUnanswered May words.host (hash_by words.sum) words.replicas words.key.now words.body.now) e old new
CommandFails May (Members words) (fault.Ask e) known old new = IsUnwritten May words.host [] (membership_text words.form) e old new
CommandFails May (Tell host) (fault.Tell e) known old new = IsUntold May host known e old new
CommandFails May other e known old new = ⊥

-- the input that is read, if that is specified: only `tell` reads
abbrev pub CommandReads : ClusterCommand → Option (List ℕ) → Option (List ℕ) → Type 0
CommandReads (Tell host) known left = Unit {0}
CommandReads other known left = left ≡ known
