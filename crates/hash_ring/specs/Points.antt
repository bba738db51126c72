-- The points of servers, and the owners of a key. No ring is in it. A hash is a function from bytes to numbers.
-- A server's points on a circle, and a key's owner the first of them clockwise: ringpop-go, package hashring. That ties go to the lesser
-- address, and that the next owners are the servers by distance, is this project's.
use Rattle.std.specs.Prelude.{◌≡◌, ◌⊎◌, ◌≤◌, ℕ, zero, suc, ◌+◌, ◌*◌, ◌-◌, ◌%◌, ◌^◌, ◌<◌, List, ◌++◌, map, min, take, Option}
use Rattle.std.specs.Int.{w64, from_be_bytes}
use Rattle.std.specs.List.{Contains, flat_map, range_with_len, slice_get}
use Rattle.std.specs.Ordering.{nat_cmp, ordering_then}
use Rattle.std.specs.declared.cmp.Ordering.{Ordering}
use Rattle.sha2.specs.Sha256.{sha256}
use Rattle.change_core.specs.declared.addresses.Address.{Address}
use Rattle.change_core.specs.Address.{address_text}
use Rattle.change_core.specs.Numeral.{number_text}
use Rattle.change_core.specs.Ascending.{ascending, In}
use Rattle.hash_ring.specs.declared.hash.Sha256Hash.{Sha256Hash}
use Rattle.hash_ring.specs.declared.points.Point.{Point}
use Rattle.hash_ring.specs.declared.servers.Server.{Server}
use Rattle.hash_ring.specs.Servers.{shares, addresses_of}

-- the first eight bytes of the SHA-256 as a number, the high byte first
abbrev pub hash_number : List ℕ → ℕ
hash_number bytes = from_be_bytes w64 (take 8 (sha256 bytes))

-- the hash of a ring by SHA-256
abbrev pub hash_of : Sha256Hash → List ℕ → ℕ
hash_of hash = hash_number

-- the maximum of points that a server has for each unit of its weight
abbrev pub max_replicas : ℕ
max_replicas = 1000

-- from 1 to that number
abbrev pub IsReplicas : ℕ → Type 0
IsReplicas r = (1 ≤ r) × (r ≤ max_replicas)

-- by hash, then by address
abbrev pub point_cmp : Point → Point → Ordering
point_cmp p q = ordering_then (nat_cmp p.hash q.hash) (nat_cmp p.server q.server)

-- from one number up to another, wrapping around at 2^64
abbrev pub clockwise : ℕ → ℕ → ℕ
clockwise from to = (to + (2 ^ 64 - from)) % 2 ^ 64

-- the least of f's values below n, and 2^64 - 1 where n is 0
abbrev pub least : (ℕ → ℕ) → ℕ → ℕ
least f zero = 2 ^ 64 - 1
least f (suc n) = min (least f n) (f n)

module _ (hash : List ℕ → ℕ) where
  -- the hash of the server's text followed by i in decimal (ringpop-go, package hashring)
  abbrev pub point : Address → ℕ → ℕ
  point server i = hash (address_text server ++ number_text i)

  -- the distance of the nearest of a server's first n points above a key, wrapping around
  abbrev pub distance : ℕ → Address → List ℕ → ℕ
  distance n server key = least (λ i. clockwise (hash key) (point server i)) n

  -- the same of one among servers, which has as many points as its weight times the replicas
  abbrev pub distance_among : ℕ → List Server → List ℕ → Address → ℕ
  distance_among replicas servers key a = distance (replicas * shares a servers) a key

  -- the servers by their distance, then by address
  abbrev pub by_distance : ℕ → List Server → List ℕ → Address → Address → Ordering
  by_distance replicas servers key a b = ordering_then (nat_cmp (distance_among replicas servers key a) (distance_among replicas servers key b)) (nat_cmp a b)

  -- the servers of a key, the nearest first
  abbrev pub owners : ℕ → List Server → List ℕ → List Address
  owners replicas servers key = ascending (by_distance replicas servers key) (addresses_of servers)

  -- the first of them, if there is any
  abbrev pub owner : ℕ → List Server → List ℕ → Option Address
  owner replicas servers key = slice_get (owners replicas servers key) 0

  -- the first n points of a server
  abbrev pub points_of : ℕ → Address → List Point
  points_of n server = map (λ i. record { hash = point server i; server = server }) (range_with_len 0 n)

  -- the points of a server by its weight
  abbrev pub points_by : ℕ → Server → List Point
  points_by replicas s = points_of (replicas * s.weight) s.address

  -- the points of the servers, ascending, without repetition
  abbrev pub points : ℕ → List Server → List Point
  points replicas servers = ascending point_cmp (flat_map (points_by replicas) servers)

-- their hashes fit in 64 bits
abbrev pub AreSmall : List Point → Type 0
AreSmall ps = (p : Point) → In p ps → p.hash < 2 ^ 64

-- a way from a key up to one of a server's first n points, and none of them has a shorter one
pub record IsLeastWay (hash : List ℕ → ℕ) (n : ℕ) (server : Address) (key : List ℕ) (way : ℕ) : Type 0 where
  pub index : ℕ
  pub counted : index < n
  pub reached : way ≡ clockwise (hash key) (point hash server index)
  pub least : (i : ℕ) → i < n → way ≤ clockwise (hash key) (point hash server i)

-- p is one of the points that a server of the list has by its weight
pub record IsPointAmong (hash : List ℕ → ℕ) (replicas : ℕ) (servers : List Server) (p : Point) : Type 0 where
  pub server : Server
  pub listed : Contains servers server
  pub index : ℕ
  pub counted : index < replicas * server.weight
  pub its_hash : p.hash ≡ point hash server.address index
  pub its_server : p.server ≡ server.address

-- a is nearer to the key than b, or as near and of the lesser address
abbrev pub IsBefore : (List ℕ → ℕ) → ℕ → List Server → List ℕ → Address → Address → Type 0
IsBefore hash replicas servers key a b =
    (distance_among hash replicas servers key a < distance_among hash replicas servers key b)
    ⊎ ((distance_among hash replicas servers key a ≡ distance_among hash replicas servers key b) × (a < b))

-- p has the lesser hash, or the same one and the lesser address
abbrev pub IsPointBefore : Point → Point → Type 0
IsPointBefore p q = (p.hash < q.hash) ⊎ ((p.hash ≡ q.hash) × (p.server < q.server))

-- no server is nearer to the key, and none as near has a lesser address
pub record IsNearest (hash : List ℕ → ℕ) (replicas : ℕ) (servers : List Server) (key : List ℕ) (a : Address) : Type 0 where
  pub served : Contains (addresses_of servers) a
  pub least : (b : Address) → Contains (addresses_of servers) b → (distance_among hash replicas servers key a < distance_among hash replicas servers key b) ⊎ ((distance_among hash replicas servers key a ≡ distance_among hash replicas servers key b) × (a ≤ b))
