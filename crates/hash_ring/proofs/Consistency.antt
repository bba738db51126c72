-- What one server's coming and going does to the owners of a key.
use Rattle.std.proofs.Common.{◌≡◌, ◌⊎◌, ℕ, ◌*◌, Bool, true, false, cond, not, List, [], ◌∷◌, Some, None, refl, ap, sym, ◌∙◌, inl, inr}
use Rattle.std.specs.List.{filter, slice_get}
use Rattle.std.specs.declared.cmp.Ordering.{Ordering}
use Rattle.std.specs.Ordering.{is_lt, is_eq, nat_cmp, ordering_then}
use Rattle.change_core.specs.declared.addresses.Address.{Address}
use Rattle.change_core.specs.Ascending.{put, In, IsAscending}
use Rattle.change_core.proofs.Order.{ascending_ascends, same_ascending, in_ascending, ascending_in, in_filter, filter_in, filter_all, filter_ascends}
use Rattle.hash_ring.specs.Consistency.{others}
use Rattle.hash_ring.specs.Points.{by_distance, distance, distance_among, owner, owners}
use Rattle.hash_ring.specs.Servers.{is_same, address_of_server, addresses_of, server_cmp, weight_of, weight_or_none, with_server, without}
use Rattle.hash_ring.specs.declared.servers.Server.{Server}
use Rattle.hash_ring.proofs.Firsts.{same_is, is_same_itself, test_cases}
use Rattle.hash_ring.proofs.ListMembers.{in_map}
use Rattle.hash_ring.proofs.PointOrder.{by_exact}
use Rattle.hash_ring.proofs.Weights.{absent_if_none, differs, in_without, weight_if_listed, listed_if_weight}

-- ---- other servers keep their weights

pub weight_of-without : (a b : Address) (servers : List Server) → (b ≡ a → ⊥) → weight_of b (without a servers) ≡ weight_of b servers
weight_of-without a b [] n = refl
weight_of-without a b (t ∷ ts) n =
    let rest = weight_of-without a b ts n in
    test_cases _ (is_same t.address a)
    (λ e. let other = differs t.address b (λ q. n (sym q ∙ same_is t.address a e)) in rw (e, other) rest)
    (λ e. test_cases _ (is_same t.address b) (λ f. rw (e, f) refl) (λ f. rw (e, f) rest))

-- ---- lists without some member

filter-put : {K : Type 0} (R : K → K → Ordering) (p : K → Bool) (x : K) (ys : List K) → p x ≡ false → filter p (put R x ys) ≡ filter p ys
filter-put R p x [] h = rw h refl
filter-put R p x (y ∷ ys) h =
    test_cases _ (is_lt (R x y))
    (λ l. rw (l, h) refl)
    (λ l. test_cases _ (is_eq (R x y)) (λ e. rw (l, e) refl) (λ e. rw (l, e) (ap (λ zs. cond (p y) (y ∷ zs) zs) (filter-put R p x ys h))))

filter-filter : {K : Type 0} (p : K → Bool) (xs : List K) → filter p (filter p xs) ≡ filter p xs
filter-filter p xs = filter_all p (filter p xs) (λ x h. (in_filter p x xs h).1)

pub without-with_server : (s : Server) (servers : List Server) → without s.address (with_server s servers) ≡ without s.address servers
without-with_server s servers =
    let other : Server → Bool = λ t. not (is_same t.address s.address) in
    filter-put server_cmp other s (without s.address servers) (ap not (is_same_itself s.address)) ∙ filter-filter other servers

-- the order of a list's members alone counts
ascends_same : {K : Type 0} (R T : K → K → Ordering) (xs : List K) → ((x y : K) → In x xs → In y xs → R x y ≡ T x y) → IsAscending R xs → IsAscending T xs
ascends_same R T [] same up = tt
ascends_same R T (x ∷ xs) same up = (
  (λ y h. sym (same x y (inl refl) (inr h)) ∙ up.0 y h),
  ascends_same R T xs (λ y z h k. same y z (inr h) (inr k)) up.1,
)

-- a list that gives an address the same weight as another has it, too
listed_alike : (a : Address) (one other : List Server) → weight_of a one ≡ weight_of a other → In a (addresses_of one) → In a (addresses_of other)
listed_alike a one other e h = let w = weight_if_listed a one h in listed_if_weight a other w.0 (sym e ∙ w.1)

module _ (hash : List ℕ → ℕ) (replicas : ℕ) where
  -- a server's distance depends on its own weight alone
  same_distance : (one other : List Server) (key : List ℕ) (a : Address) → weight_of a one ≡ weight_of a other → distance_among hash replicas one key a ≡ distance_among hash replicas other key a
  same_distance one other key a e = ap (λ w. distance hash (replicas * weight_or_none w) a key) e

  -- so servers to which two lists give the same weights stand in one order
  pub owners-alike : (one other : List Server) (key : List ℕ) (p : Address → Bool) → ((a : Address) → p a ≡ true → weight_of a one ≡ weight_of a other) → filter p (owners hash replicas one key) ≡ filter p (owners hash replicas other key)
  owners-alike one other key p same =
      same_ascending (by_exact (distance_among hash replicas other key)) (picked one) (picked other)
      (ascends_same (by_distance hash replicas one key) (by_distance hash replicas other key) (picked one)
      (λ x y h k i. ordering_then (nat_cmp (far x h i) (far y k i)) (nat_cmp x y))
      (ascends one))
      (ascends other)
      (λ a h. moved one other a (same a (is_picked one a h)) h)
      (λ a h. moved other one a (sym (same a (is_picked other a h))) h)
    where
      picked : List Server → List Address
      picked ss = filter p (owners hash replicas ss key)

      is_picked : (ss : List Server) (a : Address) → In a (picked ss) → p a ≡ true
      is_picked ss a h = (in_filter p a (owners hash replicas ss key) h).1

      far : (a : Address) → In a (picked one) → distance_among hash replicas one key a ≡ distance_among hash replicas other key a
      far a h = same_distance one other key a (same a (is_picked one a h))

      ascends : (ss : List Server) → IsAscending (by_distance hash replicas ss key) (picked ss)
      ascends ss = filter_ascends (by_distance hash replicas ss key) p (owners hash replicas ss key) (ascending_ascends (by_exact (distance_among hash replicas ss key)) (addresses_of ss))

      moved : (from to : List Server) (a : Address) → weight_of a from ≡ weight_of a to → In a (picked from) → In a (picked to)
      moved from to a e h =
          let k = in_filter p a (owners hash replicas from key) h in
          filter_in p a (owners hash replicas to key)
          (ascending_in (by_exact (distance_among hash replicas to key)) a (addresses_of to)
          (listed_alike a from to e (in_ascending (by_exact (distance_among hash replicas from key)) a (addresses_of from) k.0)))
          k.1

  -- to take a server out takes it out of the owners alone
  pub owners-without : (servers : List Server) (a : Address) (key : List ℕ) → owners hash replicas (without a servers) key ≡ others a (owners hash replicas servers key)
  owners-without servers a key =
      let other : Address → Bool = λ b. not (is_same b a) in
      sym (filter_all other (owners hash replicas (without a servers) key) apart)
      ∙ owners-alike (without a servers) servers key other (λ b h. weight_of-without a b servers (λ e. not_both (is_same b a) h (ap (λ x. is_same x a) e ∙ is_same_itself a)))
    where
      apart : (b : Address) → In b (owners hash replicas (without a servers) key) → not (is_same b a) ≡ true
      apart b h =
          let m = in_map address_of_server b (without a servers) (in_ascending (by_exact (distance_among hash replicas (without a servers) key)) b (addresses_of (without a servers)) h) in
          ap not (differs b a (λ q. (in_without a m.0 servers m.1).1 (sym m.2 ∙ q)))

      not_both : (b : Bool) → not b ≡ true → b ≡ true → ⊥
      not_both true h k = cc h
      not_both false h k = cc k

  -- a server that joins, or changes its weight, leaves the others in their order
  pub others-with_server : (servers : List Server) (s : Server) (key : List ℕ) → others s.address (owners hash replicas (with_server s servers) key) ≡ others s.address (owners hash replicas servers key)
  others-with_server servers s key =
      sym (owners-without (with_server s servers) s.address key)
      ∙ ap (λ ss. owners hash replicas ss key) (without-with_server s servers)
      ∙ owners-without servers s.address key

  first_others : (a : Address) (xs ys : List Address) → ys ≡ others a xs → (slice_get xs 0 ≡ Some a) ⊎ (slice_get ys 0 ≡ slice_get xs 0)
  first_others a [] ys e = inr (ap (λ zs. slice_get zs 0) e)
  first_others a (x ∷ xs) ys e =
      test_cases _ (is_same x a)
      (λ s. inl (ap Some (same_is x a s)))
      (λ s. let same : ys ≡ x ∷ others a xs = rw s at e in inr (ap (λ zs. slice_get zs 0) same))

  -- the owner of a key stays, or it is the server that leaves
  pub owner-leaves : (servers : List Server) (a : Address) (key : List ℕ) → (owner hash replicas servers key ≡ Some a) ⊎ (owner hash replicas (without a servers) key ≡ owner hash replicas servers key)
  owner-leaves servers a key = first_others a (owners hash replicas servers key) (owners hash replicas (without a servers) key) (owners-without servers a key)

  others_all : (servers : List Server) (a : Address) (key : List ℕ) → weight_of a servers ≡ None → others a (owners hash replicas servers key) ≡ owners hash replicas servers key
  others_all servers a key e =
      filter_all (λ b. not (is_same b a)) (owners hash replicas servers key)
      (λ b h.
      let m = in_map address_of_server b servers (in_ascending (by_exact (distance_among hash replicas servers key)) b (addresses_of servers) h) in
      ap not (differs b a (λ q. absent_if_none servers a e m.0 m.1 (sym m.2 ∙ q))))

  -- and the owner stays, or becomes the server that joins
  pub owner-joins : (servers : List Server) (s : Server) (key : List ℕ) → weight_of s.address servers ≡ None → (owner hash replicas (with_server s servers) key ≡ Some s.address) ⊎ (owner hash replicas (with_server s servers) key ≡ owner hash replicas servers key)
  owner-joins servers s key e =
      elim (first_others s.address (owners hash replicas (with_server s servers) key) (owners hash replicas servers key) (sym (others-with_server servers s key ∙ others_all servers s.address key e))) [
        | inl it ↦ inl it
        | inr stays ↦ inr (sym stays)
      ]
