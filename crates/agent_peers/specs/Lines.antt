-- What comes over the connections of other nodes, whose lines have the name of their cluster if it has one.
use Rattle.std.specs.Prelude.{◌≡◌, ◌≢◌, ◌⊎◌, ℕ, List, Option, Some, None, Result, Ok, Err, Vec}
use Rattle.std.specs.Global.{Global}
use Rattle.message_core.specs.declared.errors.WireError.{WireError}
use Rattle.message_core.specs.declared.errors.WireError.TheVariants as wire
use Rattle.message_core.specs.declared.kinds.Reason.TheVariants as reason
use Rattle.cluster_names.specs.Lines.{IsNextLine}
use Rattle.cluster_names.specs.Names.{IsPlain, named}
use Rattle.line_service.specs.Answering.{Hears}
use Rattle.line_service.specs.declared.inputs.Input.{Input}
use Rattle.line_service.specs.declared.inputs.Input.TheVariants as input
use Rattle.agent_peers.specs.declared.lines.Heard.{Heard}
use Rattle.agent_peers.specs.declared.lines.Heard.TheVariants as heard

-- what a line is that came to a node of a cluster with this name: an input, if it has the name, or if out of memory to read it; else one of
-- another cluster
abbrev pub IsHeardBy : List ℕ → List ℕ → Heard → Type 0
IsHeardBy name came (heard.Input it) =
    ((plain : List ℕ) × IsPlain plain × (came ≡ named name plain) × Hears (Some plain) it) ⊎ (it ≡ input.Refused reason.Memory)
IsHeardBy name came (heard.Foreign foreign) = (foreign.items ≡ came) × ((plain : List ℕ) → came ≢ named name plain)

-- what the result of reading one line is at a node of a cluster with this name
abbrev pub IsHeardAs : List ℕ → Result (Option (Vec ℕ Global)) WireError → Heard → Type 0
IsHeardAs name (Ok (Some came)) it = IsHeardBy name came.items it
IsHeardAs name (Ok None) it = it ≡ heard.Input input.Nothing
IsHeardAs name (Err wire.Io) it = it ≡ heard.Input input.Nothing
IsHeardAs name (Err wire.Memory) it = it ≡ heard.Input (input.Refused reason.Memory)
IsHeardAs name (Err other) it = it ≡ heard.Input (input.Refused reason.Malformed)

-- one line of the bytes was read at a node of a cluster with this name, and this is what it is
abbrev pub HearsNamed : List ℕ → Option (List ℕ) → Heard → Type 0
HearsNamed name known it = (read : Result (Option (Vec ℕ Global)) WireError) × IsNextLine known read × IsHeardAs name read it

-- what was heard at a node of this cluster: where the cluster has no name, any line is an input
abbrev pub HearsOwn : Option (List ℕ) → Option (List ℕ) → Heard → Type 0
HearsOwn None known (heard.Input it) = Hears known it
HearsOwn None known (heard.Foreign foreign) = ⊥
HearsOwn (Some name) known it = HearsNamed name known it

-- what came over a connection to a node of this cluster: what its bytes are; out of memory for them; or, if the connection failed or its line was not
-- whole in time, an input that needs no answer
abbrev pub HearsCame : Option (List ℕ) → Result (Vec ℕ Global) WireError → Heard → Type 0
HearsCame cluster (Ok bytes) it = HearsOwn cluster (Some bytes.items) it
HearsCame cluster (Err wire.Memory) it = it ≡ heard.Input (input.Refused reason.Memory)
HearsCame cluster (Err other) it = it ≡ heard.Input input.Nothing

-- the input of what was heard: a line of another cluster or of none is refused as malformed
abbrev pub input_of : Heard → Input
input_of (heard.Input it) = it
input_of (heard.Foreign foreign) = input.Refused reason.Malformed
