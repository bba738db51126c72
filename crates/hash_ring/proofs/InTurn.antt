-- Servers taken one after another.
use Rattle.std.proofs.Common.{◌≡◌, ℕ, ◌+◌, ◌*◌, ◌<◌, ◌≤◌, List, [], ◌∷◌, ◌++◌, take, length, get_or, refl, ap, sym, ◌∙◌, subst, inl, inr, arith, append-nil}
use Rattle.std.specs.List.{flat_map}
use Rattle.std.proofs.lemmas.Grind.{flat_map-append}
use Rattle.std.proofs.lemmas.List.{take_more}
use Rattle.change_core.specs.Ascending.{In}
use Rattle.change_core.proofs.Order.{in_append, in_put}
use Rattle.hash_ring.proofs.PointOrder.{server_exact}
use Rattle.hash_ring.proofs.Weights.{in_without}
use Rattle.hash_ring.specs.declared.points.Point.{Point}
use Rattle.hash_ring.specs.declared.servers.Server.{Server}
use Rattle.hash_ring.specs.Points.{points_by, points_of}
use Rattle.hash_ring.specs.Servers.{with_each, with_server, without}

up_to : (ss : List Server) (i : ℕ) (s : Server) → i < length ss → s ≡ get_or ss i s → take (i + 1) ss ≡ take i ss ++ s ∷ []
up_to ss i s l e = take_more ss i s l ∙ ap (λ t. take i ss ++ t ∷ []) (sym e)

each-append : (ss ts held : List Server) → with_each (ss ++ ts) held ≡ with_each ts (with_each ss held)
each-append [] ts held = refl
each-append (s ∷ ss) ts held = each-append ss ts (with_server s held)

-- one more is put in
pub each_more : (ss held : List Server) (i : ℕ) (s : Server) → i < length ss → s ≡ get_or ss i s → with_server s (with_each (take i ss) held) ≡ with_each (take (i + 1) ss) held
each_more ss held i s l e = sym (ap (λ ts. with_each ts held) (up_to ss i s l e) ∙ each-append (take i ss) (s ∷ []) held)

-- the points of one more
pub points_more : (hash : List ℕ → ℕ) (replicas count : ℕ) (ss : List Server) (i : ℕ) (s : Server) (old new : List Point) → i < length ss → s ≡ get_or ss i s → count ≡ replicas * s.weight
    → old ≡ flat_map (points_by hash replicas) (take i ss) → new ≡ old ++ points_of hash count s.address → new ≡ flat_map (points_by hash replicas) (take (i + 1) ss)
points_more hash replicas count ss i s old new l e n f h =
    h ∙ (λ j. f j ++ points_of hash (n j) s.address)
    ∙ ap (λ ps. flat_map (points_by hash replicas) (take i ss) ++ ps) (sym (append-nil (points_by hash replicas s)))
    ∙ sym (flat_map-append (points_by hash replicas) (take i ss) (s ∷ []))
    ∙ ap (flat_map (points_by hash replicas)) (sym (up_to ss i s l e))

-- and there is room for those of each
pub fits_put : (replicas count : ℕ) (s : Server) (held new : List Server) (space more : ℕ) → count ≡ replicas * s.weight → count ≤ more → space ≤ more → new ≡ with_server s held
    → ((t : Server) → In t held → replicas * t.weight ≤ space) → (t : Server) → In t new → replicas * t.weight ≤ more
fits_put replicas count s held new space more n le grown e fits t h =
    elim (in_put server_exact s t (without s.address held) (subst (In t) e h)) [
      | inl q ↦ subst (λ (u : Server). replicas * u.weight ≤ more) (sym q) (omega (arith, n, le))
      | inr k ↦ let old = fits t (in_without s.address t held k).0 in omega (arith, old, grown)
    ]

-- the most points of one, with one more
pub most_more : (replicas count : ℕ) (ss : List Server) (i : ℕ) (s : Server) (most more : ℕ) → i < length ss → s ≡ get_or ss i s → count ≡ replicas * s.weight → most ≤ more → count ≤ more
    → ((t : Server) → In t (take i ss) → replicas * t.weight ≤ most) → (t : Server) → In t (take (i + 1) ss) → replicas * t.weight ≤ more
most_more replicas count ss i s most more l e n le grown old t h =
    elim (in_append t (take i ss) (s ∷ []) (subst (In t) (up_to ss i s l e) h)) [
      | inl k ↦ let held = old t k in omega (arith, held, le)
      | inr (inl q) ↦ subst (λ (u : Server). replicas * u.weight ≤ more) (sym q) (omega (arith, n, grown))
      | inr (inr k) ↦ absurd k
    ]
