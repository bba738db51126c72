-- What is read of a member of a shared node never goes back: monotonic reads.
use Rattle.std.specs.Prelude.{◌≡◌, ◌⊎◌, ℕ, Option, Some, List, ◌∷◌, ◌++◌}
use Rattle.change_core.specs.declared.changes.Change.{Change}
use Rattle.change_core.specs.declared.changes.Entry.{Entry}
use Rattle.change_core.specs.Change.{Exceeds}
use Rattle.node_core.specs.declared.events.Event.TheVariants as call
use Rattle.node_core.specs.declared.events.Reply.TheVariants as answer
use Rattle.node_core.specs.Calls.{OfEvent, WithReply}
use Rattle.node_core.specs.Invariant.{IsNode}
use Rattle.node_core.specs.Node.{Node}
use Rattle.turn_lock.specs.History.{turn}
use Rattle.locked_node.specs.History.{CallEntry, History, LegalHistory, entry_of}

-- the change that an entry of the address is
abbrev pub change_at : ℕ → Entry → Change
change_at a e = record { address = a; incarnation = e.incarnation; status = e.status; weight = e.weight }

-- of one address, this entry is the one read earlier, or holds against it
abbrev pub IsNoOlder : ℕ → Entry → Entry → Type 0
IsNoOlder a earlier now = (now ≡ earlier) ⊎ Exceeds (change_at a now) (change_at a earlier)

-- an entry is found that is no older than the one read earlier
abbrev pub StillThere : ℕ → Entry → Option Entry → Type 0
StillThere a earlier found = (now : Entry) × (found ≡ Some now) × IsNoOlder a earlier now

-- a call of `member` that finds this of the address
abbrev pub read : {H : Type 0} → ℕ → Option Entry → Node H → CallEntry H
read a found after = entry_of (OfEvent (call.Member a)) (WithReply (answer.Member found)) after

-- where a call reads an entry of an address, each later call, by whatever pass, reads an entry that is no older
abbrev pub HistoriesReadForward : {H : Type 0} → (H → List ℕ → ℕ) → Type 0
HistoriesReadForward {H} hash_of =
    (opening last : Node H) (first between rest : History H) (n m a : ℕ) (earlier : Entry) (found : Option Entry) (x y : Node H) → IsNode opening
    → LegalHistory hash_of opening (first ++ turn n (read a (Some earlier) x) ∷ (between ++ turn m (read a found y) ∷ rest)) last
    → StillThere a earlier found
