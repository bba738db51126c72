-- The command line: each subcommand by its options and its arguments, in their order.
use Rattle.std.specs.Prelude.{ℕ, true, false, List, [], ◌∷◌, Some, codes}
use Rattle.clap.specs.Lexer.{usize_max}
use Rattle.clap.specs.Simple.{new_shape}
use Rattle.clap.specs.Words.{App, Rule, Shape, Text, new_rule}
use Rattle.clap.specs.declared.builder.action.ArgAction.TheVariants.{Append, SetTrue}
use Rattle.clap.specs.declared.builder.value_parser.ValueParser.TheVariants.{Unsigned}
use Rattle.change_core.specs.Numbers.{greatest_number, greatest_weight, most_members}
use Rattle.hash_ring.specs.Points.{max_replicas}
use Rattle.cli_core.specs.Words.{most_requests}

-- an argument that has to be given: a text, which may be empty
abbrev pub word : Text → Rule
word name = record (new_rule name) { required = true; value_names = 1 }

-- an argument that has to be given: a whole number in a range
abbrev pub number_word : Text → ℕ → ℕ → Rule
number_word name least most = record (word name) { parser = Some (Unsigned least most) }

-- an option with a whole number in a range, and the number if it is not given
abbrev pub option : Text → Text → ℕ → ℕ → Rule
option name default least most = record (new_rule name) {
  long = Some name;
  value_names = 1;
  parser = Some (Unsigned least most);
  defaults = default ∷ [];
}

-- an option with no value
abbrev pub flag : Text → Rule
flag name = record (new_rule name) { long = Some name; action = Some SetTrue }

-- any number of arguments
abbrev pub words : Text → Rule
words name = record (new_rule name) {
  range = Some (record { start_inclusive = 0; end_inclusive = usize_max });
  action = Some Append;
  value_names = 1;
}

-- an option with a rule on another argument; which rule, and on which argument, is not said
abbrev pub with_another : Rule → Rule
with_another rule = record rule { is_free = false }

-- `--replicas`: the virtual nodes of a server of weight 1, from 1 to `max_replicas`; 100 by default
abbrev pub replicas : Rule
replicas = option (codes "replicas") (codes "100") 1 max_replicas

-- `--sum`: the ring hashes by the sum of the bytes, not by SHA-256
abbrev pub sum : Rule
sum = flag (codes "sum")

-- `--workers`: how many threads serve connections, from 1 to 16; 2 by default
abbrev pub workers : Rule
workers = option (codes "workers") (codes "2") 1 16

-- `--period`: the milliseconds between two rounds of gossip; 0, the default: no rounds
abbrev pub period : Rule
period = option (codes "period") (codes "0") 0 greatest_number

-- `--weight`: the node's weight, from 1 to `greatest_weight`; 1 by default
abbrev pub weight : Rule
weight = option (codes "weight") (codes "1") 1 greatest_weight

-- `--per-message`: how many changes a message carries at most, from 1 to `most_members`; 64 by default
abbrev pub per_message : Rule
per_message = option (codes "per-message") (codes "64") 1 most_members

-- `--piggyback`: how often a change is passed on for each decimal digit of the number of serving members, from 1 to 1,000; 15 by default
abbrev pub piggyback : Rule
piggyback = option (codes "piggyback") (codes "15") 1 1000

-- the incarnation of the node, up to 2^53 - 1
abbrev pub incarnation : Rule
incarnation = number_word (codes "incarnation") 0 greatest_number

-- how many connections are served, from 1 to `most_requests`
abbrev pub requests : Rule
requests = number_word (codes "requests") 1 most_requests

-- the running nodes to join, any number
abbrev pub hosts : Rule
hosts = words (codes "host")

-- an option with one value, as a text
abbrev pub address_option : Text → Rule
address_option name = record (new_rule name) { long = Some name; value_names = 1 }

-- `--cluster`: the name of the cluster; none by default
abbrev pub cluster : Rule
cluster = address_option (codes "cluster")

-- a subcommand of this name, with these options and arguments
abbrev pub subcommand : Text → List Rule → Shape
subcommand name rules = record (new_shape name) { rules = rules }

-- `fold`: no option and no argument
abbrev pub fold_words : Shape
fold_words = subcommand (codes "fold") []

-- `hash`: the text
abbrev pub hash_words : Shape
hash_words = subcommand (codes "hash") (word (codes "text") ∷ [])

-- `owner`: how many owners, the options of the ring, and the key
abbrev pub owner_words : Shape
owner_words = subcommand (codes "owner")
    (option (codes "n") (codes "1") 0 most_members ∷ replicas ∷ sum ∷ word (codes "key") ∷ [])

-- `sim`: the options of the ring
abbrev pub sim_words : Shape
sim_words = subcommand (codes "sim") (replicas ∷ sum ∷ [])

-- `serve`: the node's address, its incarnation, how many connections it serves, and the hosts to join
abbrev pub serve_words : Shape
serve_words = subcommand (codes "serve")
    (workers ∷ period ∷ replicas ∷ sum ∷ weight ∷ per_message ∷ piggyback ∷ flag (codes "heal") ∷ word (codes "address") ∷ incarnation ∷ requests ∷ hosts ∷ [])

-- `ask`: the address of a node, the key and the body, and the name of the cluster; `--any` leaves the choice of the owner to the program, by the options of the ring
abbrev pub ask_words : Shape
ask_words = subcommand (codes "ask")
    (flag (codes "any") ∷ with_another replicas ∷ with_another sum ∷ cluster
    ∷ word (codes "address") ∷ word (codes "key") ∷ word (codes "body") ∷ [])

-- `members`: the host that is asked, and the name of the cluster; `--lines` prints one change a line, `--table` a table
abbrev pub members_words : Shape
members_words = subcommand (codes "members") (flag (codes "lines") ∷ flag (codes "table") ∷ cluster ∷ word (codes "host") ∷ [])

-- `tell`: the host that gets the changes, and the name of the cluster
abbrev pub tell_words : Shape
tell_words = subcommand (codes "tell") (cluster ∷ word (codes "host") ∷ [])

-- `--log`: what the log tells, by the name of a level; `info` by default
abbrev pub log : Rule
log = record (new_rule (codes "log")) { long = Some (codes "log"); value_names = 1; defaults = codes "info" ∷ [] }

-- `--hands`: how many requests of other nodes the application is given at a time, from 1 to 256; 32 by default
abbrev pub hands : Rule
hands = option (codes "hands") (codes "32") 1 256

-- `--http-connections`: how many HTTP connections are open at a time, from 1 to 65,536; 10,000 by default
abbrev pub http_connections : Rule
http_connections = option (codes "http-connections") (codes "10000") 1 65536

-- `--tell-app`: whether the application is told of the ring; it needs `--app`
abbrev pub tell_app : Rule
tell_app = with_another (flag (codes "tell-app"))

-- the field that names the key of any HTTP request; X-Ringpop-Key by default
abbrev pub key_field_option : Rule
key_field_option = record (new_rule (codes "key-field")) { long = Some (codes "key-field"); value_names = 1; defaults = codes "X-Ringpop-Key" ∷ [] }

-- `--key-field`: that field; it needs `--any-request`
abbrev pub key_field : Rule
key_field = with_another key_field_option

-- `--period` of an agent: the milliseconds between two rounds of gossip, from 1 to 60,000; 200 by default
abbrev pub agent_period : Rule
agent_period = option (codes "period") (codes "200") 1 60000

-- `--per-message` of an agent: how many changes a message carries, from 1 to `most_members`; 1,024 by default
abbrev pub agent_per_message : Rule
agent_per_message = option (codes "per-message") (codes "1024") 1 most_members

-- `--incarnation`: the incarnation of the node, up to 2^53 - 1; none by default
abbrev pub incarnation_option : Rule
incarnation_option = record (new_rule (codes "incarnation")) {
  long = Some (codes "incarnation");
  value_names = 1;
  parser = Some (Unsigned 0 greatest_number);
}

-- `--leave-after`: the seconds after which the node leaves if its application accepts no connection, up to 86,400; 10 by default
abbrev pub leave_after : Rule
leave_after = option (codes "leave-after") (codes "10") 0 86400

-- `--hosts-file`: the path of a file of hosts; none by default
abbrev pub hosts_file : Rule
hosts_file = address_option (codes "hosts-file")

-- `agent`: where it listens, and answers HTTP, and the application's address; whether that is told of the ring; its numbers, and the log; its own address and the hosts to join
abbrev pub agent_words : Shape
agent_words = subcommand (codes "agent")
    (address_option (codes "bind") ∷ address_option (codes "http") ∷ flag (codes "http-any") ∷ address_option (codes "app")
    ∷ flag (codes "no-wait-app") ∷ leave_after ∷ tell_app ∷ flag (codes "any-request") ∷ key_field ∷ cluster ∷ hosts_file ∷ hands ∷ http_connections ∷ agent_period ∷ agent_per_message ∷ replicas ∷ weight ∷ incarnation_option ∷ log ∷ flag (codes "log-json") ∷ word (codes "address") ∷ hosts ∷ [])

-- a command with no subcommand
abbrev pub leaf : Shape → App
leaf shape = record { top = shape; subs = [] }

-- the program, which has a version, no argument but its subcommands', and its subcommands
abbrev pub ringpop_app : App
ringpop_app = record {
  top = record (subcommand (codes "ringpop") []) { is_leaf = false; has_version = true };
  subs = fold_words ∷ hash_words ∷ owner_words ∷ sim_words ∷ serve_words ∷ agent_words ∷ ask_words ∷ members_words ∷ tell_words ∷ [];
}
