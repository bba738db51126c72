-- Definitions of private functions alone: no public contract cites them.
use Rattle.std.specs.Prelude.{◌≡◌, ◌⊎◌, ℕ, ◌<◌, ◌≤◌, Bool, true, false, not, List, [], ◌∷◌, ◌++◌, length, take, drop, if◌then◌else◌}
use Rattle.std.specs.List.{filter, list_any}
use Rattle.change_core.specs.declared.addresses.Address.{Address}
use Rattle.hash_ring.specs.declared.points.Point.{Point}
use Rattle.std.specs.Ordering.{nat_cmp}
use Rattle.std.specs.declared.cmp.Ordering.TheVariants.{Less}
use Rattle.change_core.specs.Ascending.{ascending, In, IsAscending}
use Rattle.hash_ring.specs.Points.{clockwise, point_cmp}
use Rattle.hash_ring.specs.Servers.{is_same}

-- as `contains` of a list of addresses tests
abbrev pub has : List Address → Address → Bool
has servers a = list_any (λ s. is_same s a) servers

-- the servers of the points that are not among those named, each where it comes first
abbrev pub firsts : List Address → List Point → List Address
firsts named [] = []
firsts named (p ∷ ps) = if has named p.server then firsts named ps else p.server ∷ firsts (named ++ p.server ∷ []) ps

-- the points before a hash, and those at or after it
abbrev pub IsBelow : ℕ → List Point → Type 0
IsBelow h ps = (p : Point) → In p ps → p.hash < h

-- the points at or after a hash
abbrev pub IsFrom : ℕ → List Point → Type 0
IsFrom h ps = (p : Point) → In p ps → h ≤ p.hash

-- those named, without repetition and in the order of addresses
pub record IsSorted (named sorted : List Address) : Type 0 where
  pub ascends : IsAscending nat_cmp sorted
  pub listed : (a : Address) → In a sorted → In a named
  pub all : (a : Address) → In a named → In a sorted
  pub fits : length sorted ≤ length named

-- a point by its distance above a hash, wrapping around
abbrev pub turn : ℕ → Point → Point
turn from p = record { hash = clockwise from p.hash; server = p.server }

-- p is as near above a hash as q, or nearer, or as near with the lesser address
abbrev pub IsNear : ℕ → Point → Point → Type 0
IsNear h p q = (turn h p ≡ turn h q) ⊎ (point_cmp (turn h p) (turn h q) ≡ Less)

-- the server of the nearest of the points
pub record IsNext (h : ℕ) (ps : List Point) (a : Address) : Type 0 where
  pub point : Point
  pub listed : In point ps
  pub server : a ≡ point.server
  pub nearest : (q : Point) → In q ps → IsNear h point q

-- the first servers of the points from a hash on, wrapping around
pub record AreMet (h : ℕ) (ps : List Point) (count : ℕ) (named : List Address) : Type 0 where
  pub start : ℕ
  pub low : IsBelow h (take start ps)
  pub high : IsFrom h (drop start ps)
  pub met : named ≡ take count (firsts [] (drop start ps ++ take start ps))

-- the points of a server are removed from all, which are merged before, if it was there
abbrev pub IsTaken : Address → List Point → List Point → Bool → List Point → List Point → Type 0
IsTaken a ps late true new more = (new ≡ filter (λ (p : Point). not (is_same p.server a)) (ascending point_cmp (ps ++ late))) × (more ≡ [])
IsTaken a ps late false new more = (new ≡ ps) × (more ≡ late)
