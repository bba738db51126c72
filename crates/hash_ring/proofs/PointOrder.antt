-- The orders of addresses and points, and the least of a function's values.
use Rattle.std.proofs.Common.{rules, ◌&&◌, ◌≡◌, ℕ, zero, suc, ◌^◌, ◌<◌, ◌≤◌, Bool, true, false, cond, refl, ap, ◌⊎◌, inl, inr, arith, ltb, eqb}
use Rattle.std.specs.declared.cmp.Ordering.{Ordering}
use Rattle.std.specs.declared.cmp.Ordering.TheVariants.{Less, Equal, Greater}
use Rattle.std.specs.Ordering.{nat_cmp, ordering_then, eq_by_cmp}
use Rattle.std.specs.Cmp.Rules.{comparing}
use Rattle.std.proofs.lemmas.Cmp.{then_total, on_total, nat_cmp_total}
use Rattle.std.proofs.lemmas.Map.Lookups.{exact_pairs, exact_unsigned}
use Rattle.change_core.specs.declared.addresses.Address.{Address}
use Rattle.hash_ring.specs.declared.points.Point.{Point}
use Rattle.hash_ring.specs.declared.servers.Server.{Server}
use Rattle.hash_ring.specs.Servers.{server_cmp}
use Rattle.hash_ring.specs.Points.{point_cmp, least}
use Rattle.change_core.specs.Ascending.{IsExact}
use Rattle.change_core.proofs.Ascends.{address_exact}

same_point : (p q : Point) → point_cmp p q ≡ Equal → p ≡ q
same_point p q h =
    ap (λ (r : ℕ × Address). record { hash = r.0; server = r.1 }) (exact_pairs nat_cmp nat_cmp exact_unsigned exact_unsigned (p.hash, p.server) (q.hash, q.server) h)

pub point_exact : IsExact point_cmp
point_exact = record {
  total = then_total (on_total (λ p. p.hash) nat_cmp_total) (on_total (λ p. p.server) address_exact.total);
  same = same_point;
}

same_server : (s t : Server) → server_cmp s t ≡ Equal → s ≡ t
same_server s t h =
    ap (λ (r : Address × ℕ). record { address = r.0; weight = r.1 }) (exact_pairs nat_cmp nat_cmp exact_unsigned exact_unsigned (s.address, s.weight) (t.address, t.weight) h)

pub server_exact : IsExact server_cmp
server_exact = record {
  total = then_total (on_total (λ s. s.address) nat_cmp_total) (on_total (λ s. s.weight) nat_cmp_total);
  same = same_server;
}

-- servers by a number each, then by address
abbrev pub by : (Address → ℕ) → Address → Address → Ordering
by number a b = ordering_then (nat_cmp (number a) (number b)) (nat_cmp a b)

-- a server as a point at its number
abbrev pub at : (Address → ℕ) → Address → Point
at number a = record { hash = number a; server = a }

pub by_exact : (number : Address → ℕ) → IsExact (by number)
by_exact number = record {
  total = on_total (at number) point_exact.total;
  same = λ a b h. ap (λ p. p.server) (same_point (at number a) (at number b) h);
}

-- ---- points in order

less_split_cases : (m n : ℕ) (o : Ordering) → (b c : Bool) → ltb m n ≡ b → eqb m n ≡ c → ordering_then (cond b Less (cond c Equal Greater)) o ≡ Less → (m < n) ⊎ ((m ≡ n) × (o ≡ Less))
less_split_cases m n o true c e f h = inl (Rattle.std.proofs.lemmas.Bool.ltb-true m n e)
less_split_cases m n o false true e f h = inr (Rattle.std.proofs.lemmas.Bool.eqb-true m n f, h)
less_split_cases m n o false false e f h = cc h

-- a point is below another by its hash, or at one hash by its server
pub less_split : (p q : Point) → point_cmp p q ≡ Less → (p.hash < q.hash) ⊎ ((p.hash ≡ q.hash) × (nat_cmp p.server q.server ≡ Less))
less_split p q h = less_split_cases p.hash q.hash (nat_cmp p.server q.server) (ltb p.hash q.hash) (eqb p.hash q.hash) refl refl h

pub less_by_hash : (p q : Point) → p.hash < q.hash → point_cmp p q ≡ Less
less_by_hash p q h = rw (Rattle.std.proofs.lemmas.Bool.lt-ltb p.hash q.hash h)

pub less_by_server : (p q : Point) → p.hash ≡ q.hash → nat_cmp p.server q.server ≡ Less → point_cmp p q ≡ Less
less_by_server p q e h = rw (Rattle.std.proofs.lemmas.Bool.le-ltb p.hash q.hash (omega arith), Rattle.std.proofs.lemmas.Bool.eq-eqb p.hash q.hash e) h

pub less_hash_le : (p q : Point) → point_cmp p q ≡ Less → p.hash ≤ q.hash
less_hash_le p q h = elim (less_split p q h) [ inl k ↦ omega arith | inr k ↦ omega (arith, k.0) ]

pub less_address_le : (s t : Server) → server_cmp s t ≡ Less → s.address ≤ t.address
less_address_le s t h = less_hash_le (record { hash = s.address; server = s.weight }) (record { hash = t.address; server = t.weight }) h

-- ---- the least of a function's values below n

pub least-le : (f : ℕ → ℕ) (n i : ℕ) → i < n → least f n ≤ f i
least-le f zero i h = absurd (omega arith)
least-le f (suc n) i h =
    elim (Rattle.std.proofs.lemmas.Bool.cases_order i n) [
      | inl e ↦ omega (arith, ap f e)
      | inr (inl k) ↦ omega (arith, least-le f n i k)
      | inr (inr k) ↦ absurd (omega arith)
    ]

-- and of more values no greater
pub least-more : (f : ℕ → ℕ) (m n : ℕ) → m ≤ n → least f n ≤ least f m
least-more f m zero h = omega (arith, ap (least f) (same m h))
  where
    same : (m : ℕ) → m ≤ 0 → m ≡ 0
    same m h = omega arith
least-more f m (suc n) h =
    elim (Rattle.std.proofs.lemmas.Bool.cases_lt n m) [
      | inl k ↦ let e : m ≡ suc n = omega arith in omega (arith, ap (least f) e)
      | inr k ↦ omega (arith, least-more f m n k)
    ]

-- it is one of them, where they stay below 2 ^ 64 and n is not 0
pub least_is_one : (f : ℕ → ℕ) (n : ℕ) → ((i : ℕ) → f i < 2 ^ 64) → 0 < n → (i : ℕ) × (i < n) × (least f n ≡ f i)
least_is_one f zero small h = absurd (omega arith)
least_is_one f (suc zero) small h = let s = small 0 in (0, omega arith, omega arith)
least_is_one f (suc (suc n)) small h =
    let one = least_is_one f (suc n) small (omega arith) in
    elim (Rattle.std.proofs.lemmas.Bool.cases_lt (f (suc n)) (least f (suc n))) [
      | inl k ↦ (suc n, omega arith, omega arith)
      | inr k ↦ (one.0, omega (arith, one.1), omega (arith, one.2))
    ]

-- points tie in their order if and only if they are equal
pub point_ties : (p q : Point) → (eqb p.hash q.hash && eqb p.server q.server) ≡ eq_by_cmp point_cmp p q
point_ties p q = search (comparing, rules)
