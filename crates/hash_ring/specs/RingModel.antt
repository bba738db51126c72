-- The model of a ring: the servers of ringpop-go, package hashring, with their points kept in order. Weights and room are this project's.
use Rattle.std.specs.Prelude.{◌≡◌, ◌⊎◌, ℕ, ◌+◌, ◌-◌, ◌*◌, ◌≤◌, nat_lt, min, if◌then◌else◌, List, ◌++◌, length, vec_len, vec_capacity}
use Rattle.std.specs.Global.{Vec}
use Rattle.hash_ring.specs.declared.points.Point.{Point}
use Rattle.hash_ring.specs.declared.servers.Server.{Server}
use Rattle.change_core.specs.Ascending.{ascending, In, IsAscending}
use Rattle.hash_ring.specs.Servers.{shares, AreServers}
use Rattle.hash_ring.specs.Points.{point_cmp, points, AreSmall, IsReplicas}

-- the hash, the number of replicas, the servers ascending, the points ascending, and for how many more points there is room
pub record RingModel (H : Type 0) : Type 0 where
  pub hash : H
  pub replicas : ℕ
  pub servers : List Server
  pub points : List Point
  pub room : ℕ

-- the ring of these servers: hash_of is the function that hash represents
abbrev pub ring_of : {H : Type 0} → H → (List ℕ → ℕ) → ℕ → List Server → ℕ → RingModel H
ring_of hash hash_of replicas servers room =
    record { hash = hash; replicas = replicas; servers = servers; points = points hash_of replicas servers; room = room }

-- the points are those that are merged and the late ones; there is room for more if there is room for a server, for its points in addition
-- to the late ones, and for all of them once they are merged
abbrev pub ring_model : {H : Type 0} → H → ℕ → Vec Server → Vec Point → Vec Point → RingModel H
ring_model hash replicas servers points late =
    record {
      hash = hash;
      replicas = replicas;
      servers = servers.items;
      points = ascending point_cmp (points.items ++ late.items);
      room = if nat_lt (vec_len servers) (vec_capacity servers)
          then min (vec_capacity points - vec_len points - vec_len late) (vec_capacity late - vec_len late)
          else 0;
    }

-- the servers are such, the points are theirs, and each one's points fit in what is spare
pub record IsRing (hash_of : List ℕ → ℕ) (replicas : ℕ) (servers : List Server) (ps : List Point) (spare : ℕ) : Type 0 where
  pub replicas_fit : IsReplicas replicas
  pub servers_fit : AreServers servers
  pub points_are : ps ≡ points hash_of replicas servers
  pub small : AreSmall ps
  pub fits : (s : Server) → In s servers → replicas * s.weight ≤ spare

-- the points of the servers are those that are merged, which ascend, and others that came late: there is room for these too
pub record IsKept (hash_of : List ℕ → ℕ) (replicas : ℕ) (servers : List Server) (ps late : List Point) (spare space : ℕ) : Type 0 where
  pub ring : IsRing hash_of replicas servers (ascending point_cmp (ps ++ late)) spare
  pub ascends : IsAscending point_cmp ps
  pub apart : (p : Point) → In p ps → In p late → ⊥
  pub merges : length ps + length (ascending point_cmp late) ≤ space

-- the server is there with at least that weight, or there is room for its points
abbrev pub HasRoom : {H : Type 0} → RingModel H → Server → Type 0
HasRoom r s = (s.weight ≤ shares s.address r.servers) ⊎ (r.replicas * s.weight ≤ r.room)
