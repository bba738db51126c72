-- A server: its node, its output and its end.
use Rattle.std.specs.Prelude.{◌≡◌, ◌≢◌, ◌⊎◌, ℕ, ◌*◌, ◌^◌, ◌-◌, Bool, true, false, List, [], ◌∷◌, ◌++◌, Option, Some, None, Result, Ok, Err, codes, length}
use Rattle.std.specs.Io.KnownBytes.{Appends, Keeps}
use Rattle.change_core.specs.Address.{address_text}
use Rattle.change_core.specs.declared.addresses.Address.{Address}
use Rattle.wire_json.specs.Input.{AppendsPrefix}
use Rattle.detector_core.specs.Choices.{seeded}
use Rattle.hash_ring.specs.declared.hash.Sha256Hash.{Sha256Hash}
use Rattle.hash_ring.specs.declared.hash.SumHash.{SumHash}
use Rattle.node_core.specs.Configs.{standard}
use Rattle.node_core.specs.declared.configs.Config.{Config}
use Rattle.node_core.specs.Node.{Seen}
use Rattle.node_core.specs.Parts.{seen_of}
use Rattle.node_core.specs.World.{initial_node}
use Rattle.locked_node.specs.declared.node.LockedNode.{LockedNode}
use Rattle.locked_node.specs.Passes.{NodePass, AreAll, AreFresh, IsClosed, IsNew, opening_of}
use Rattle.peer_core.specs.Acts.{Makes}
use Rattle.peer_core.specs.declared.errors.ClusterError.{ClusterError}
use Rattle.peer_core.specs.declared.errors.ClusterError.TheVariants as error
use Rattle.peer_core.specs.Joining.{IsJoin}
use Rattle.peer_core.specs.Links.{MayAnswer, any_answer}
use Rattle.peer_core.specs.Parts.{Does}
use Rattle.server.specs.Starting.{IsHealedAs}
use Rattle.line_service.specs.Timeouts.{AreStandardTimeouts}
use Rattle.cli_core.specs.Owner.{hash_by}
use Rattle.cli_net.specs.declared.faults.ServeError.{ServeError}
use Rattle.cli_net.specs.declared.faults.ServeError.TheVariants as serve
use Rattle.server.specs.Threads.{ServeTogether}
use Rattle.server.specs.Working.{AreRounds, RoundTimes, hosts_of}
use Rattle.server.specs.declared.errors.EndError.{EndError}
use Rattle.server.specs.declared.errors.EndError.TheVariants as end
use Rattle.server.specs.declared.servers.Server.{Server}
use Rattle.cli_net.specs.declared.echoes.Echo.{Echo}
use Rattle.cli_net.specs.declared.serving.ClosedNode.{ClosedNode}
use Rattle.cli_net.specs.declared.serving.ClosedNode.TheVariants as served
use Rattle.cli_net.specs.Echoes.{MayEcho}
use Rattle.line_service.specs.declared.timeouts.Timeouts.{Timeouts}
use Rattle.cli_core.specs.declared.words.ServeWords.{ServeWords}

-- the standard configuration with the points, the weight and the limits of gossip of the words
abbrev pub config_of : ServeWords → Config
config_of words = record standard { replicas = words.replicas; weight = words.weight; per_message = words.per_message; piggyback = words.piggyback }

module _ {H : Type 0} (hash_of : H → List ℕ → ℕ) where
  -- the new node of the arguments, alone at moment 0, its incarnation its seed
  abbrev pub IsCreated : H → ServeWords → Seen H → Type 0
  IsCreated hash words node = node ≡ seen_of hash_of (initial_node hash (config_of words) words.address words.incarnation 0 (seeded words.incarnation))

-- a server's error for the result of a join
abbrev pub join_fault : Result ℕ ClusterError → Option ServeError
join_fault (Ok n) = None
join_fault (Err error.Memory) = Some serve.OutOfMemory
join_fault (Err other) = Some serve.NoneJoined

-- `serving`, a space, the address and a newline
abbrev pub serving_line : ℕ → List ℕ
serving_line a = codes "serving " ++ (address_text a ++ 10 ∷ [])

-- all that is written by a server that serves its last connection
abbrev pub service_text : ℕ → List ℕ
service_text a = serving_line a ++ (codes "done" ++ 10 ∷ [])

-- the output at an error: none before the node listens, its first line after, a prefix of all if the writer failed
abbrev pub LeavesService : ℕ → ServeError → Option (List ℕ) → Option (List ℕ) → Type 0
LeavesService a serve.NoneJoined old new = Keeps old new
LeavesService a serve.CannotListen old new = Keeps old new
LeavesService a serve.NoThread old new = Appends old new (serving_line a)
LeavesService a serve.StillHeld old new = Appends old new (serving_line a)
LeavesService a serve.Miscounted old new = Appends old new (serving_line a)
LeavesService a serve.CannotWrite old new = AppendsPrefix old new (service_text a)
LeavesService a serve.OutOfMemory old new = Keeps old new ⊎ Appends old new (serving_line a)

-- the output at an error of writing that a server listens
abbrev pub LeavesServing : ℕ → ServeError → Option (List ℕ) → Option (List ℕ) → Type 0
LeavesServing a serve.CannotWrite old new = AppendsPrefix old new (serving_line a)
LeavesServing a serve.OutOfMemory old new = Keeps old new
LeavesServing a other old new = ⊥

-- the errors of a server whose threads have ended
abbrev pub IsEndFault : ServeError → Type 0
IsEndFault serve.StillHeld = Unit {0}
IsEndFault serve.Miscounted = Unit {0}
IsEndFault other = ⊥

-- the errors of a port that is not opened
abbrev pub IsPortFault : ServeError → Type 0
IsPortFault fault = (fault ≡ serve.CannotListen) ⊎ (fault ≡ serve.OutOfMemory)

-- the errors of threads that were not started, or of their end
abbrev pub IsThreadFault : ServeError → Type 0
IsThreadFault serve.NoThread = Unit {0}
IsThreadFault serve.OutOfMemory = Unit {0}
IsThreadFault other = IsEndFault other

-- a server's error for that of its end
abbrev pub end_fault : EndError → ServeError
end_fault end.Memory = serve.OutOfMemory
end_fault other = serve.StillHeld

-- The node asked these hosts to admit it, over a link that answered so, with this result.
pub record IsJoinedTo {H : Type 0} (Came : MayAnswer) (node : LockedNode H) (hosts : List Address) (now : ℕ) (fault : Option ServeError) (old new : NodePass H) : Type 0 where
  pub joined : Result ℕ ClusterError
  pub does : Does node (IsJoin Came now hosts) joined old new
  pub is : fault ≡ join_fault joined

-- The node was made by the arguments; if they name hosts, it asked them to admit it, by a new pass and over a link that answered so, with
-- this result; else that pass made no call.
pub record HasEntered {H : Type 0} (hash_of : H → List ℕ → ℕ) (Came : MayAnswer) (hash : H) (words : ServeWords) (fault : Option ServeError) : Type 0 where
  pub node : LockedNode H
  pub now : ℕ
  pub old : NodePass H
  pub new : NodePass H
  pub created : IsCreated hash_of hash words (opening_of node)
  pub fresh : IsNew node (2 ^ 32 - 1) old
  pub joined : words.hosts.items ≢ [] → IsJoinedTo Came node words.hosts.items now fault old new
  pub alone : words.hosts.items ≡ [] → new ≡ old

-- the same over a link whose answers may be any, under the sum of the bytes or under SHA-256's first eight
abbrev pub EntersBy : Bool → ServeWords → Option ServeError → Type 0
EntersBy true words = let hash : SumHash = record {} in HasEntered (λ (h : SumHash). hash_by true) any_answer hash words
EntersBy false words = let hash : Sha256Hash = record {} in HasEntered (λ (h : Sha256Hash). hash_by false) any_answer hash words

-- the end of a server shows the result of entering: no host admitted it; or, unless it ended out of memory, it entered before
abbrev pub TellsEntry : {T : Type 0} → (Option ServeError → Type 0) → Result T ServeError → Type 0
TellsEntry Entered (Ok t) = Entered None
TellsEntry Entered (Err serve.NoneJoined) = Entered (Some serve.NoneJoined)
TellsEntry Entered (Err serve.OutOfMemory) = Unit {0}
TellsEntry Entered (Err other) = Entered None

-- The threads of a server ended, and its node was closed with all passes that came back, so that it is the node after one legal history of all their
-- calls. Since they were given to the threads, rounds alone were made by that of the timer, each after a rest for the period and at a moment that the
-- clock told, and none where the period is 0; and by the workers' as many connections were served as the server has, and nothing else was done.
pub record HasEnded {H : Type 0} (Time : RoundTimes) (hash_of : H → List ℕ → ℕ) (server : Server H Echo) (period : ℕ) (timer : NodePass H) (workers : List (NodePass H)) (node : Seen H) : Type 0 where
  pub of_timer : NodePass H
  pub of_workers : List (NodePass H)
  pub rounds : Makes server.node (AreRounds Time period (hosts_of server.hosts) server.healing) timer of_timer
  pub resting : period ≡ 0 → of_timer ≡ timer
  pub connections : ServeTogether hash_of (MayEcho server.handler.address) server.node workers of_workers server.connections
  pub closed : IsClosed hash_of server.node (of_workers ++ of_timer ∷ []) node

-- This is the node of a server that entered so, and then only served, as many connections as the words ask for, at its own address and with these timeouts,
-- healing where the words ask for it. The passes of its rounds and its workers are all that it has, and were new before it entered.
pub record HasServed {H : Type 0} (Time : RoundTimes) (hash_of : H → List ℕ → ℕ) (Came : MayAnswer) (hash : H) (timeouts : Timeouts) (words : ServeWords) (node : Seen H) : Type 0 where
  pub entry : HasEntered hash_of Came hash words None
  pub crew : List (NodePass H)
  pub server : Server H Echo
  pub its : entry.node ≡ server.node
  pub own : server.handler.address ≡ words.address
  pub waiting : server.timeouts ≡ timeouts
  pub healing : IsHealedAs words.heal words.address words.hosts.items server.healing
  pub count : length crew ≡ words.workers
  pub all : AreAll server.node (crew ++ entry.old ∷ [])
  pub fresh : AreFresh server.node (crew ++ entry.old ∷ [])
  pub hosts : server.hosts ≡ None
  pub requests : server.connections ≡ words.requests
  pub ended : HasEnded Time hash_of server words.period entry.new crew node

-- the same under the hash of the words: the sum of the bytes, or SHA-256's first eight
abbrev pub ServesBy : RoundTimes → ServeWords → Timeouts → ClosedNode → Type 0
ServesBy Time words timeouts (served.Sum node) =
    let hash : SumHash = record {} in (words.sum ≡ true) × HasServed Time (λ (h : SumHash). hash_by true) any_answer hash timeouts words node
ServesBy Time words timeouts (served.Sha256 node) =
    let hash : Sha256Hash = record {} in (words.sum ≡ false) × HasServed Time (λ (h : Sha256Hash). hash_by false) any_answer hash timeouts words node

-- some node was served so with the standard timeouts
abbrev pub ServesAsStandard : RoundTimes → ServeWords → Type 0
ServesAsStandard Time words = (timeouts : Timeouts) × AreStandardTimeouts timeouts × (node : ClosedNode) × ServesBy Time words timeouts node

-- the server of these arguments served its last connection: all is written, the node was made so, and admitted if hosts are named, before,
-- and was closed after
abbrev pub Served : RoundTimes → ServeWords → Option (List ℕ) → Option (List ℕ) → Type 0
Served Time words old new = Appends old new (service_text words.address) × EntersBy words.sum words None × ServesAsStandard Time words

-- the error if it did not, and the output then: no host admitted it only if hosts are named, and the error shows the result of entering
pub record IsUnserved (words : ServeWords) (e : ServeError) (old new : Option (List ℕ)) : Type 0 where
  pub left : LeavesService words.address e old new
  pub named : e ≡ serve.NoneJoined → words.hosts.items ≢ []
  pub entered : TellsEntry {T = Unit {0}} (EntersBy words.sum words) (Err e)
