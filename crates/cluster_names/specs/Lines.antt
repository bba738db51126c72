-- Lines between the nodes of a cluster, which have its name if it has one.
use Rattle.std.specs.Prelude.{◌≡◌, ◌≢◌, ◌⊎◌, ℕ, List, Option, Some, None, Result, Err, Vec}
use Rattle.std.specs.Global.{Global}
use Rattle.message_core.specs.declared.errors.WireError.{WireError}
use Rattle.message_core.specs.declared.errors.WireError.TheVariants as wire
use Rattle.wire_json.specs.Input.{TakesLine}
use Rattle.cluster_names.specs.Names.{IsPlain, named}
use Rattle.cluster_names.specs.declared.lines.Line.{Line}
use Rattle.cluster_names.specs.declared.lines.Line.TheVariants as line

-- a line as a node of this cluster sends it: with the cluster's name, if it has one
abbrev pub line_sent : Option (List ℕ) → List ℕ → List ℕ
line_sent None plain = plain
line_sent (Some name) plain = named name plain

-- a line that came is of the node's own cluster, and this is the line without the name; where the cluster has no name each line is
abbrev pub IsOwnLine : Option (List ℕ) → List ℕ → List ℕ → Type 0
IsOwnLine None came own = own ≡ came
IsOwnLine (Some name) came own = IsPlain own × (came ≡ named name own)

-- A line that came to a node of this cluster is one of its own, without the name, or another: where the cluster has no name each is its own, else
-- those that have the name.
abbrev pub IsSorted : Option (List ℕ) → List ℕ → Line → Type 0
IsSorted cluster came (line.Own own) = IsOwnLine cluster came own.items
IsSorted None came (line.Foreign foreign) = ⊥
IsSorted (Some name) came (line.Foreign foreign) = (foreign.items ≡ came) × ((plain : List ℕ) → came ≢ named name plain)

-- one line of the bytes was read; or out of memory to read by
abbrev pub IsNextLine : Option (List ℕ) → Result (Option (Vec ℕ Global)) WireError → Type 0
IsNextLine known read = ((left : Option (List ℕ)) × TakesLine known read left) ⊎ (read ≡ Err wire.Memory)
