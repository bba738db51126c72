-- The argument of the command line for each part of a command. A `Row` is what `clap` found for a name: its values and how they came.
use Rattle.std.specs.Prelude.{◌≡◌, ◌⊎◌, ◌≤◌, ℕ, Bool, true, false, List, [], Option, Some, None, IsSomeAnd, Ok, String, map, codes, option_map, string_bytes}
use Rattle.std.specs.Global.{Global}
use Rattle.std.specs.Str.Parse.{ParsesUnsigned}
use Rattle.std.specs.declared.num.ParseIntError.{ParseIntError}
use Rattle.clap.specs.Words.{Row, Text, all_of, first_of, found_of, one_of, rows_of}
use Rattle.clap.specs.declared.parser.matches.ArgMatches.{ArgMatches}
use Rattle.http_header.specs.Token.{lowercase}
use Rattle.change_core.specs.Address.{address_text}
use Rattle.change_core.specs.Numbers.{greatest_number}
use Rattle.cli_core.specs.declared.words.OwnerWords.{OwnerWords}
use Rattle.cli_core.specs.declared.words.SimWords.{SimWords}
use Rattle.cli_core.specs.declared.subcommands.Subcommand.{Subcommand}
use Rattle.cli_core.specs.declared.subcommands.Subcommand.TheVariants.{Fold, Hash, Owner, Sim}
use Rattle.cli_core.specs.declared.words.ClusterCommand.{ClusterCommand}
use Rattle.cli_core.specs.declared.words.ClusterCommand.TheVariants.{Serve, Ask, AskAny, Members, Tell}
use Rattle.cli_core.specs.declared.words.AskAnyWords.{AskAnyWords}
use Rattle.cli_core.specs.declared.words.MembersForm.{MembersForm}
use Rattle.cli_core.specs.declared.words.MembersForm.TheVariants.{Digest, Lines as LinesForm, Table}
use Rattle.cli_core.specs.declared.words.MembersWords.{MembersWords}
use Rattle.cli_core.specs.declared.words.ServeWords.{ServeWords}
use Rattle.cli_words.specs.declared.words.Words.{Words}
use Rattle.cli_words.specs.declared.words.Words.TheVariants.{Lines, Cluster, Agent}
use Rattle.cli_words.specs.declared.agent_words.AgentWords.{AgentWords}
use Rattle.cli_words.specs.declared.agent_words.FollowingWords.{FollowingWords}
use Rattle.cli_words.specs.declared.agent_words.LogLevel.{LogLevel}
use Rattle.cli_words.specs.declared.agent_words.LogLevel.TheVariants.{Off, Error, Warn, Info, Debug}

-- the arguments that a parse holds: a `Row` for each name that it found
abbrev pub rows_in : ArgMatches → List Row
rows_in matches = rows_of (found_of matches)

-- the argument of this name is there, and it is this number, as a `u64` is read
pub record IsNumberAt (rows : List Row) (name : Text) (n : ℕ) : Type 0 where
  pub text : Text
  pub given : one_of name rows ≡ Some text
  pub reads : ParsesUnsigned {E = ParseIntError} 64 10 text (Ok n)

-- whether the flag of this name is set; a text that is neither true nor false is not covered
pub record IsFlagAt (rows : List Row) (name : Text) (is_set : Bool) : Type 0 where
  pub absent : one_of name rows ≡ None → is_set ≡ false
  pub set : one_of name rows ≡ Some (codes "true") → is_set ≡ true
  pub unset : one_of name rows ≡ Some (codes "false") → is_set ≡ false

-- the argument of this name is the text of this address
abbrev pub IsAddressAt : List Row → Text → ℕ → Type 0
IsAddressAt rows name a = first_of name rows ≡ Some (address_text a)

-- the arguments of this name are these addresses, in their order; without such an argument there is none
abbrev pub AreAddressesAt : List Row → Text → List ℕ → Type 0
AreAddressesAt rows name addresses =
    (all_of name rows ≡ Some (map address_text addresses)) ⊎ ((all_of name rows ≡ None) × (addresses ≡ []))

-- the number of owners, the key, the points and the hash: each is the argument of its name
pub record IsOwnedAt (rows : List Row) (words : OwnerWords) : Type 0 where
  pub count : IsNumberAt rows (codes "n") words.count
  pub replicas : IsNumberAt rows (codes "replicas") words.replicas
  pub sum : IsFlagAt rows (codes "sum") words.sum
  pub key : first_of (codes "key") rows ≡ Some words.key.now

-- so are the points and the hash of a script's nodes
pub record IsScriptAt (rows : List Row) (words : SimWords) : Type 0 where
  pub replicas : IsNumberAt rows (codes "replicas") words.replicas
  pub sum : IsFlagAt rows (codes "sum") words.sum

-- the options and the numbers of a server are those of the arguments of their names
pub record AreNumbersAt (rows : List Row) (words : ServeWords) : Type 0 where
  pub incarnation : IsNumberAt rows (codes "incarnation") words.incarnation
  pub requests : IsNumberAt rows (codes "requests") words.requests
  pub workers : IsNumberAt rows (codes "workers") words.workers
  pub period : IsNumberAt rows (codes "period") words.period
  pub replicas : IsNumberAt rows (codes "replicas") words.replicas
  pub weight : IsNumberAt rows (codes "weight") words.weight
  pub per_message : IsNumberAt rows (codes "per-message") words.per_message
  pub piggyback : IsNumberAt rows (codes "piggyback") words.piggyback
  pub heal : IsFlagAt rows (codes "heal") words.heal
  pub sum : IsFlagAt rows (codes "sum") words.sum

-- its address and its hosts are, too
pub record IsServedAt (rows : List Row) (words : ServeWords) : Type 0 where
  pub address : IsAddressAt rows (codes "address") words.address
  pub hosts : AreAddressesAt rows (codes "host") words.hosts.items
  pub numbers : AreNumbersAt rows words

-- the node that is asked, the key and the request are the arguments of their names
pub record IsAskedAt (rows : List Row) (a : ℕ) (k b : Text) : Type 0 where
  pub address : IsAddressAt rows (codes "address") a
  pub key : first_of (codes "key") rows ≡ Some k
  pub body : first_of (codes "body") rows ≡ Some b

-- so they are where the owner is asked, and the points and the hash
pub record IsAnyAskedAt (rows : List Row) (words : AskAnyWords) : Type 0 where
  pub asked : IsAskedAt rows words.host words.key.now words.body.now
  pub replicas : IsNumberAt rows (codes "replicas") words.replicas
  pub sum : IsFlagAt rows (codes "sum") words.sum

-- how members are written: as lines if the flag for them is set, else as a table if its flag is
abbrev pub IsFormAt : List Row → MembersForm → Type 0
IsFormAt rows LinesForm = IsFlagAt rows (codes "lines") true
IsFormAt rows Table = IsFlagAt rows (codes "lines") false × IsFlagAt rows (codes "table") true
IsFormAt rows Digest = IsFlagAt rows (codes "lines") false × IsFlagAt rows (codes "table") false

-- the node whose members are written is the argument of its name, and the flags say how
pub record AreMembersAt (rows : List Row) (words : MembersWords) : Type 0 where
  pub host : IsAddressAt rows (codes "host") words.host
  pub form : IsFormAt rows words.form

-- the option of this name is the text of this address, or is absent if there is none
abbrev pub IsOptionAt : List Row → Text → Option ℕ → Type 0
IsOptionAt rows name None = first_of name rows ≡ None
IsOptionAt rows name (Some a) = IsAddressAt rows name a

-- the name of a level of the log
abbrev pub level_name : LogLevel → Text
level_name Off = codes "off"
level_name Error = codes "error"
level_name Warn = codes "warn"
level_name Info = codes "info"
level_name Debug = codes "debug"

-- the argument of this name is this number; without a number, it is absent or not a number in the range
abbrev pub IsNumberIfAt : List Row → Text → (ℕ → Type 0) → Option ℕ → Type 0
IsNumberIfAt rows name IsIn None = ((n : ℕ) × IsNumberAt rows name n × IsIn n) → ⊥
IsNumberIfAt rows name IsIn (Some n) = IsNumberAt rows name n

-- the argument for the field that names keys is this name, in any case
abbrev pub IsKeyFieldAt : List Row → Text → Type 0
IsKeyFieldAt rows name = IsSomeAnd (first_of (codes "key-field") rows) (λ text. name ≡ lowercase text)

-- the argument for the name of the cluster is this name; without a name, it is absent
abbrev pub IsClusterAt : List Row → Option Text → Type 0
IsClusterAt rows name = first_of (codes "cluster") rows ≡ name

-- the argument for the file of hosts is this path; without a path, it is absent
abbrev pub IsHostsFileAt : List Row → Option (String Global) → Type 0
IsHostsFileAt rows path = first_of (codes "hosts-file") rows ≡ option_map string_bytes path

-- how an agent follows its application is what the arguments of these names say
pub record IsFollowingAt (rows : List Row) (words : FollowingWords) : Type 0 where
  pub no_wait : IsFlagAt rows (codes "no-wait-app") words.no_wait
  pub leave_after : IsNumberAt rows (codes "leave-after") words.leave_after

-- the numbers and flags of an agent, and the level of its log, are those of the arguments of their names
pub record AreAgentNumbersAt (rows : List Row) (words : AgentWords) : Type 0 where
  pub hands : IsNumberAt rows (codes "hands") words.hands
  pub http_connections : IsNumberAt rows (codes "http-connections") words.http_connections
  pub period : IsNumberAt rows (codes "period") words.period
  pub per_message : IsNumberAt rows (codes "per-message") words.per_message
  pub replicas : IsNumberAt rows (codes "replicas") words.replicas
  pub weight : IsNumberAt rows (codes "weight") words.weight
  pub incarnation : IsNumberIfAt rows (codes "incarnation") (λ n. n ≤ greatest_number) words.incarnation
  pub http_any : IsFlagAt rows (codes "http-any") words.http_any
  pub following : IsFollowingAt rows words.following
  pub tell_app : IsFlagAt rows (codes "tell-app") words.tell_app
  pub any_request : IsFlagAt rows (codes "any-request") words.any_request
  pub level : first_of (codes "log") rows ≡ Some (level_name words.level)
  pub log_json : IsFlagAt rows (codes "log-json") words.log_json

-- and its addresses are, too, the field that names keys, the name of the cluster, and the path of the file of hosts
pub record IsAgentAt (rows : List Row) (words : AgentWords) : Type 0 where
  pub address : IsAddressAt rows (codes "address") words.address
  pub bind : IsOptionAt rows (codes "bind") words.bind
  pub http : IsOptionAt rows (codes "http") words.http
  pub app : IsOptionAt rows (codes "app") words.app
  pub hosts : AreAddressesAt rows (codes "host") words.hosts.items
  pub key_field : IsKeyFieldAt rows words.key_field
  pub cluster : IsClusterAt rows words.cluster
  pub hosts_file : IsHostsFileAt rows words.hosts_file
  pub numbers : AreAgentNumbersAt rows words

-- the command of a subcommand of this name over lines, by the arguments after it
abbrev pub AreLinesOf : Text → List Row → Subcommand → Type 0
AreLinesOf name rows Fold = name ≡ codes "fold"
AreLinesOf name rows (Hash text) = (name ≡ codes "hash") × (first_of (codes "text") rows ≡ Some text.now)
AreLinesOf name rows (Owner words) = (name ≡ codes "owner") × IsOwnedAt rows words
AreLinesOf name rows (Sim words) = (name ≡ codes "sim") × IsScriptAt rows words

-- the command of a subcommand of this name with nodes, by the arguments after it
abbrev pub IsCommandOf : Text → List Row → ClusterCommand → Type 0
IsCommandOf name rows (Serve words) = (name ≡ codes "serve") × IsServedAt rows words
IsCommandOf name rows (Ask words) =
    (name ≡ codes "ask") × (IsFlagAt rows (codes "any") false × IsAskedAt rows words.address words.key.now words.body.now)
IsCommandOf name rows (AskAny words) = (name ≡ codes "ask") × (IsFlagAt rows (codes "any") true × IsAnyAskedAt rows words)
IsCommandOf name rows (Members words) = (name ≡ codes "members") × AreMembersAt rows words
IsCommandOf name rows (Tell host) = (name ≡ codes "tell") × IsAddressAt rows (codes "host") host

-- the command of a subcommand of this name, by the arguments after it
abbrev pub AreWordsOf : Text → List Row → Words → Type 0
AreWordsOf name rows (Lines subcommand) = AreLinesOf name rows subcommand
AreWordsOf name rows (Cluster words) = IsCommandOf name rows words.command × IsClusterAt rows words.cluster
AreWordsOf name rows (Agent words) = (name ≡ codes "agent") × IsAgentAt rows words

-- the command of the arguments, by the subcommand that they name and the arguments after it; with none it is `fold`
abbrev pub AreAskedBy : Option (Text × List Row) → Words → Type 0
AreAskedBy None words = words ≡ Lines Fold
AreAskedBy (Some named) words = AreWordsOf named.0 named.1 words
