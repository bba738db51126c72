-- The definitions of the theorem of consistent hashing (Karger and others, STOC 1997).
use Rattle.std.specs.Prelude.{not, List}
use Rattle.std.specs.List.{filter}
use Rattle.change_core.specs.declared.addresses.Address.{Address}
use Rattle.hash_ring.specs.Servers.{is_same}

-- the addresses other than one
abbrev pub others : Address → List Address → List Address
others a addresses = filter (λ b. not (is_same b a)) addresses
