-- The route of a request: to the one owner of all its keys. If two of them have different owners they have diverged, and if no member
-- serves there is no node for it (ringpop-go, package forward).
use Rattle.std.specs.Prelude.{◌≡◌, ◌≢◌, ◌==◌, ℕ, List, All, Option, Some, None, Result, Ok, Err, if◌then◌else◌}
use Rattle.std.specs.List.{Contains}
use Rattle.change_core.specs.declared.addresses.Address.{Address}
use Rattle.hash_ring.specs.Points.{owner}
use Rattle.node_core.specs.Viewing.{Viewed}
use Rattle.forward_core.specs.declared.errors.ForwardError.{ForwardError}
use Rattle.forward_core.specs.declared.errors.ForwardError.TheVariants as error
use Rattle.forward_core.specs.declared.routes.Route.{Route}
use Rattle.forward_core.specs.declared.routes.Route.TheVariants.{Here, To, Nobody}

-- the owner of a key among the servers of a view; hash_of is what its hash gives
abbrev pub owner_in : {H : Type 0} → (H → List ℕ → ℕ) → Viewed H → List ℕ → Option Address
owner_in hash_of view key = owner (hash_of view.hash) view.replicas view.servers key

-- each of the keys has this owner, or none has one
abbrev pub AllOwnedBy : {H : Type 0} → (H → List ℕ → ℕ) → Viewed H → List (List ℕ) → Option Address → Type 0
AllOwnedBy hash_of view keys o = All (λ key. owner_in hash_of view key ≡ o) keys

-- two of the keys have different owners
pub record HaveDiverged {H : Type 0} (hash_of : H → List ℕ → ℕ) (view : Viewed H) (keys : List (List ℕ)) : Type 0 where
  pub one : List ℕ
  pub other : List ℕ
  pub one_listed : Contains keys one
  pub other_listed : Contains keys other
  pub differ : owner_in hash_of view one ≢ owner_in hash_of view other

-- the route of keys with this owner, for the node of an address
abbrev pub route_to : Option Address → Address → Route
route_to None own = Nobody
route_to (Some a) own = if a == own then Here else To a

-- all keys have one owner, and the route leads there; or they have diverged
abbrev pub IsRouteOf : {H : Type 0} → (H → List ℕ → ℕ) → Viewed H → List (List ℕ) → Result Route ForwardError → Type 0
IsRouteOf hash_of view keys (Ok route) = (o : Option Address) × AllOwnedBy hash_of view keys o × (route ≡ route_to o view.own)
IsRouteOf hash_of view keys (Err error.Diverged) = HaveDiverged hash_of view keys
IsRouteOf hash_of view keys (Err other) = ⊥
