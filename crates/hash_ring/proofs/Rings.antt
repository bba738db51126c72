-- What contracts see of a ring, from its fields.
use Rattle.std.proofs.Common.{◌≡◌, ℕ, ◌*◌, ◌<◌, ◌≤◌, inl, inr, List, ◌++◌, not, ap, sym, ◌∙◌, subst, arith}
use Rattle.std.specs.List.{filter, flat_map}
use Rattle.std.specs.Global.{Vec}
use Rattle.change_core.specs.declared.addresses.Address.{Address}
use Rattle.change_core.specs.Ascending.{put, ascending, In, IsAscending}
use Rattle.change_core.proofs.Order.{ascending_ascends, in_ascending, in_append, in_put}
use Rattle.hash_ring.specs.declared.points.Point.{Point}
use Rattle.hash_ring.specs.declared.servers.Server.{Server}
use Rattle.hash_ring.specs.Points.{point_cmp, points_by, points, AreSmall}
use Rattle.hash_ring.specs.Servers.{is_same, server_cmp, without, AreServers}
use Rattle.hash_ring.specs.RingModel.{ring_of, ring_model, IsRing}
use Rattle.hash_ring.proofs.PointOrder.{point_exact, server_exact}
use Rattle.hash_ring.proofs.Walk.{in_points, in_points_of}
use Rattle.hash_ring.proofs.Weights.{in_without, AreServers-put, AreServers-without}
use Rattle.hash_ring.proofs.Edits.{points_merge, points-without, filter_small}

pub ring_is : {H : Type 0} (hash : H) (hash_of : List ℕ → ℕ) (replicas : ℕ) (servers : Vec Server) (ps late : Vec Point) (all : List Server) → servers.items ≡ all → ascending point_cmp (ps.items ++ late.items) ≡ points hash_of replicas all → ring_model hash replicas servers ps late ≡ ring_of hash hash_of replicas all (ring_model hash replicas servers ps late).room
ring_is hash hash_of replicas servers ps late all e f =
    λ i. record { hash = hash; replicas = replicas; servers = e i; points = f i; room = (ring_model hash replicas servers ps late).room }

module _ (hash : List ℕ → ℕ) (replicas : ℕ) (servers : List Server) (ps : List Point) {spare : ℕ} (ring : IsRing hash replicas servers ps spare) where
  pub ring_ascends : IsAscending point_cmp ps
  ring_ascends = subst (IsAscending point_cmp) (sym ring.points_are) (ascending_ascends point_exact (flat_map (points_by hash replicas) servers))

  -- a server more, whose address none has
  in_fresh : (s : Server) (p : Point) → In p (ascending point_cmp (points_by hash replicas s)) → p.server ≡ s.address
  in_fresh s p h = ap (λ (q : Point). q.server) (in_points_of hash (replicas * s.weight) s.address p (in_ascending point_exact p (points_by hash replicas s) h)).2

  pub fresh_apart : (s : Server) (fresh : List Point) → ((t : Server) → In t servers → t.address ≡ s.address → ⊥) → fresh ≡ ascending point_cmp (points_by hash replicas s) → (p : Point) → In p ps → In p fresh → ⊥
  fresh_apart s fresh absent e p h k =
      let m = in_points hash replicas servers p (subst (In p) ring.points_are h) in
      absent m.0 m.1 (sym m.2 ∙ in_fresh s p (subst (In p) e k))

  pub points_added : (s : Server) (fresh new : List Point) → fresh ≡ ascending point_cmp (points_by hash replicas s) → new ≡ ascending point_cmp (ps ++ fresh) → new ≡ points hash replicas (put server_cmp s servers)
  points_added s fresh new e f =
      f ∙ (λ i. ascending point_cmp (ring.points_are i ++ e i)) ∙ points_merge hash replicas s servers

  pub ring_added : (s : Server) (all : List Server) (fresh new : List Point) → ((t : Server) → In t servers → t.address ≡ s.address → ⊥) → 0 < s.weight → all ≡ put server_cmp s servers → fresh ≡ ascending point_cmp (points_by hash replicas s) → new ≡ ascending point_cmp (ps ++ fresh) → AreSmall fresh → replicas * s.weight ≤ spare → IsRing hash replicas all new spare
  ring_added s all fresh new absent w e f h small fit = record {
    replicas_fit = ring.replicas_fit;
    servers_fit = subst AreServers (sym e) (AreServers-put s servers absent w ring.servers_fit);
    points_are = points_added s fresh new f h ∙ ap (points hash replicas) (sym e);
    small = λ p k. elim (in_append p ps fresh (in_ascending point_exact p (ps ++ fresh) (subst (In p) h k))) [ inl m ↦ ring.small p m | inr m ↦ small p m ];
    fits = λ x p. elim (in_put server_exact s x servers (subst (In x) e p)) [ inl q ↦ subst (λ (y : Server). replicas * y.weight ≤ spare) (sym q) fit | inr m ↦ ring.fits x m ];
  }

  -- a server less
  pub points_removed : (a : Address) (new : List Point) → new ≡ filter (λ (p : Point). not (is_same p.server a)) ps → new ≡ points hash replicas (without a servers)
  points_removed a new e = e ∙ (ap (filter (λ (p : Point). not (is_same p.server a))) ring.points_are ∙ points-without hash replicas a servers)

  pub absent_after : (a : Address) (all : List Server) → all ≡ without a servers → (t : Server) → In t all → t.address ≡ a → ⊥
  absent_after a all e t h = (in_without a t servers (subst (In t) e h)).1

  pub ring_removed : (a : Address) (all : List Server) (new : List Point) → all ≡ without a servers → new ≡ filter (λ (p : Point). not (is_same p.server a)) ps → IsRing hash replicas all new spare
  ring_removed a all new e f = record {
    replicas_fit = ring.replicas_fit;
    servers_fit = subst AreServers (sym e) (AreServers-without a servers ring.servers_fit);
    points_are = points_removed a new f ∙ ap (points hash replicas) (sym e);
    small = subst AreSmall (sym f) (filter_small _ ps ring.small);
    fits = λ x p. ring.fits x (in_without a x servers (subst (In x) e p)).0;
  }

-- other room is spare
pub ring_fits : (hash : List ℕ → ℕ) (replicas : ℕ) (servers : List Server) (ps : List Point) (spare more : ℕ) → IsRing hash replicas servers ps spare → ((s : Server) → In s servers → replicas * s.weight ≤ more) → IsRing hash replicas servers ps more
ring_fits hash replicas servers ps spare more ring fits = record {
  replicas_fit = ring.replicas_fit;
  servers_fit = ring.servers_fit;
  points_are = ring.points_are;
  small = ring.small;
  fits = fits;
}

pub ring_spare : (hash : List ℕ → ℕ) (replicas : ℕ) (servers : List Server) (ps : List Point) (spare more : ℕ) → IsRing hash replicas servers ps spare → spare ≤ more → IsRing hash replicas servers ps more
ring_spare hash replicas servers ps spare more ring le = ring_fits hash replicas servers ps spare more ring (λ s h. let old = ring.fits s h in omega (arith, old, le))
