-- The events of a world through which one and the same node runs on at its address.
use Rattle.std.specs.Prelude.{◌≡◌, ℕ, List}
use Rattle.change_core.specs.Ascending.{In}
use Rattle.node_core.specs.World.{WorldEvent, Starts, Restarts, Calls}

-- the event starts a node at this address, for the first time or again
abbrev pub Begins : {H : Type 0} → ℕ → WorldEvent H → Type 0
Begins a (Starts hash config own incarnation moment generator) = own ≡ a
Begins a (Restarts hash config own incarnation moment generator) = own ≡ a
Begins a (Calls own event reply after) = ⊥

-- the node at this address runs on through these events: none of them starts it
abbrev pub RunsOn : {H : Type 0} → ℕ → List (WorldEvent H) → Type 0
RunsOn {H} a events = (e : WorldEvent H) → In e events → Begins a e → ⊥
