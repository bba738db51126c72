-- The fields of a `Gossip`: its pending changes are kept in a map by address.
use Rattle.indexmap.specs.IndexMap.{values}
use Rattle.gossip_core.specs.declared.gossip.Gossip.TheInside.{Inside}
use Rattle.gossip_core.specs.Dissemination.{Dissemination, IsBounded}
use Rattle.gossip_core.specs.Pending.{IsByAddress}

-- the model of the fields: the factor, the limit, and the changes of the map in their order
abbrev pub seen : Inside → Dissemination
seen g = record { factor = g.factor; limit = g.limit; pending = values g.pending }

-- the model is within its bounds, and each change is under its address
pub record IsKept (g : Inside) : Type 0 where
  pub bounded : IsBounded (seen g)
  pub by_address : IsByAddress g.pending
