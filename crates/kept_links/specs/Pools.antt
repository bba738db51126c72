-- Connections that rest.
use Rattle.std.specs.Prelude.{◌==◌, ◌&&◌, ◌-◌, ◌/◌, ℕ, nat_lt, Bool, List, length, count_by}
use Rattle.change_core.specs.declared.addresses.Address.{Address}
use Rattle.kept_links.specs.declared.pools.Spare.{Spare}

module _ {S : Type 0} where
  -- whether a connection that rests leads to an address
  abbrev pub leads_to : Address → Spare S → Bool
  leads_to to spare = spare.to == to

  -- whether another connection to an address may rest, of this greatest number: fewer rest, and fewer than half as many lead to the address
  abbrev pub has_room : List (Spare S) → ℕ → Address → Bool
  has_room spares most to = nat_lt (length spares) most && nat_lt (count_by (leads_to to) spares) (most - most / 2)
