-- Servers and their weights.
use Rattle.std.proofs.Common.{◌≡◌, ℕ, zero, suc, ◌*◌, ◌<◌, Bool, true, false, not, List, [], ◌∷◌, Option, Some, None, ◌==◌, refl, ap, sym, ◌∙◌, subst, inl, inr, arith}
use Rattle.std.proofs.lemmas.Bool.{eqb-true}
use Rattle.change_core.specs.declared.addresses.Address.{Address}
use Rattle.change_core.specs.Ascending.{put, In, IsAscending}
use Rattle.change_core.proofs.Order.{in_put, put_new, put_old, put_ascends, same_ascending, in_filter, filter_in, filter_all, filter_ascends}
use Rattle.std.specs.Option.{is_some}
use Rattle.hash_ring.proofs.ListMembers.{in_map, map_in}
use Rattle.hash_ring.specs.declared.servers.Server.{Server}
use Rattle.hash_ring.specs.Servers.{is_same, address_of_server, addresses_of, server_cmp, without, with_server, weight_of, shares, EachOnce, AreServers, has_weight}
use Rattle.hash_ring.proofs.PointOrder.{server_exact}
use Rattle.hash_ring.proofs.Firsts.{same_is, is_same_itself, test_cases}

pub positive_product : (m n : ℕ) → 0 < m → 0 < n → 0 < m * n
positive_product zero n h k = absurd (omega arith)
positive_product (suc m) zero h k = absurd (omega arith)
positive_product (suc m) (suc n) h k = omega arith

pub not_same : (a b : Address) → is_same a b ≡ false → a ≡ b → ⊥
not_same a b f e = apart (is_same b b) (ap (λ x. is_same x b) (sym e) ∙ f) (is_same_itself b)
  where
    apart : (c : Bool) → c ≡ false → c ≡ true → ⊥
    apart true f t = cc f
    apart false f t = cc t

-- a server has its own weight, where each address stands once
pub shares_in : (servers : List Server) → EachOnce servers → (s : Server) → In s servers → shares s.address servers ≡ s.weight
shares_in [] once s h = absurd h
shares_in (t ∷ ts) once s h =
    test_cases _ (is_same t.address s.address)
    (λ e. rw e (ap (λ (x : Server). x.weight) (once t s (inl refl) h (same_is t.address s.address e))))
    (λ e. rw e (shares_in ts (λ x y p q. once x y (inr p) (inr q)) s (in_rest e h)))
  where
    in_rest : is_same t.address s.address ≡ false → In s (t ∷ ts) → In s ts
    in_rest e (inl q) = absurd (not_same t.address s.address e (ap address_of_server (sym q)))
    in_rest e (inr k) = k

-- a server's weight is found by its address, where each address stands once
pub weight_of_in : (servers : List Server) → EachOnce servers → (s : Server) → In s servers → weight_of s.address servers ≡ Some s.weight
weight_of_in [] once s h = absurd h
weight_of_in (t ∷ ts) once s h =
    test_cases _ (is_same t.address s.address)
    (λ e. rw e (ap (λ (x : Server). Some x.weight) (once t s (inl refl) h (same_is t.address s.address e))))
    (λ e. rw e (weight_of_in ts (λ x y p q. once x y (inr p) (inr q)) s (in_rest e h)))
  where
    in_rest : is_same t.address s.address ≡ false → In s (t ∷ ts) → In s ts
    in_rest e (inl q) = absurd (not_same t.address s.address e (ap address_of_server (sym q)))
    in_rest e (inr k) = k

-- and there is none where no server has it
pub weight_of_absent : (servers : List Server) (a : Address) → ((t : Server) → In t servers → t.address ≡ a → ⊥) → weight_of a servers ≡ None
weight_of_absent [] a absent = refl
weight_of_absent (t ∷ ts) a absent =
    test_cases _ (is_same t.address a)
    (λ e. absurd (absent t (inl refl) (same_is t.address a e)))
    (λ e. rw e (weight_of_absent ts a (λ x h. absent x (inr h))))

-- a weight that is found is a server's
pub in_weight_of : (servers : List Server) (a : Address) (w : ℕ) → weight_of a servers ≡ Some w → (t : Server) × In t servers × (t.address ≡ a) × (t.weight ≡ w)
in_weight_of [] a w h = cc h
in_weight_of (t ∷ ts) a w h =
    test_cases _ (is_same t.address a)
    (λ e. (t, inl refl, same_is t.address a e, some_same t.weight w (rw e at h)))
    (λ e. let m = in_weight_of ts a w (rw e at h) in (m.0, inr m.1, m.2, m.3))
  where
    some_same : (v w : ℕ) → Some v ≡ Some w → v ≡ w
    some_same v w e = cc

-- no server has an address that has no weight
pub absent_if_none : (servers : List Server) (a : Address) → weight_of a servers ≡ None → (t : Server) → In t servers → t.address ≡ a → ⊥
absent_if_none [] a e t h q = h
absent_if_none (x ∷ xs) a e t h q =
    test_cases _ (is_same x.address a)
    (λ s. some_none x.weight (rw s at e))
    (λ s. elim h [
      | inl k ↦ not_same x.address a s (ap address_of_server (sym k) ∙ q)
      | inr m ↦ absent_if_none xs a (rw s at e) t m q
    ])
  where
    some_none : (w : ℕ) → Some w ≡ None → ⊥
    some_none w e = cc e

-- an address that a list has is given a weight there
pub weight_if_listed : (a : Address) (servers : List Server) → In a (addresses_of servers) → (w : ℕ) × (weight_of a servers ≡ Some w)
weight_if_listed a servers h =
    let m = in_map address_of_server a servers h in
    by_weight m.0 m.1 (sym m.2) (weight_of a servers) refl
  where
    by_weight : (s : Server) → In s servers → s.address ≡ a → (o : Option ℕ) → weight_of a servers ≡ o → (w : ℕ) × (weight_of a servers ≡ Some w)
    by_weight s k q None n = absurd (absent_if_none servers a n s k q)
    by_weight s k q (Some w) e = (w, e)

-- and one that is given a weight is there
pub listed_if_weight : (a : Address) (servers : List Server) (w : ℕ) → weight_of a servers ≡ Some w → In a (addresses_of servers)
listed_if_weight a servers w e =
    let t = in_weight_of servers a w e in
    subst (λ b. In b (addresses_of servers)) t.2 (map_in address_of_server t.0 servers t.1)

-- the servers of other addresses
pub in_without : (a : Address) (t : Server) (servers : List Server) → In t (without a servers) → In t servers × (t.address ≡ a → ⊥)
in_without a t servers h =
    let k = in_filter (λ (s : Server). not (is_same s.address a)) t servers h in
    (k.0, (λ e. not_both (is_same t.address a) k.1 (ap (λ x. is_same x a) e ∙ is_same_itself a)))
  where
    not_both : (b : Bool) → not b ≡ true → b ≡ true → ⊥
    not_both true h k = cc h
    not_both false h k = cc k

-- to take out an address that no server has changes nothing
pub differs : (a b : Address) → (a ≡ b → ⊥) → is_same a b ≡ false
differs a b n = test_cases _ (is_same a b) (λ e. absurd (n (same_is a b e))) (λ e. e)

pub without_none : (a : Address) (servers : List Server) → weight_of a servers ≡ None → without a servers ≡ servers
without_none a servers e = filter_all (λ (s : Server). not (is_same s.address a)) servers (λ s h. ap not (differs s.address a (absent_if_none servers a e s h)))

pub once_without : (a : Address) (servers : List Server) → EachOnce servers → EachOnce (without a servers)
once_without a servers once = λ s t h k. once s t (in_without a s servers h).0 (in_without a t servers k).0

pub once_put : (s : Server) (others : List Server) → ((t : Server) → In t others → t.address ≡ s.address → ⊥) → EachOnce others → EachOnce (put server_cmp s others)
once_put s others absent once = λ x y h k e.
    elim (in_put server_exact s x others h) [
      | inl p ↦ elim (in_put server_exact s y others k) [
        | inl q ↦ p ∙ sym q
        | inr m ↦ absurd (absent y m (sym e ∙ ap address_of_server p))
      ]
      | inr m ↦ elim (in_put server_exact s y others k) [
        | inl q ↦ absurd (absent x m (e ∙ ap address_of_server q))
        | inr n ↦ once x y m n e
      ]
    ]

pub weighed_put : (s : Server) (others : List Server) → 0 < s.weight → ((t : Server) → In t others → 0 < t.weight) → (t : Server) → In t (put server_cmp s others) → 0 < t.weight
weighed_put s others h all t k = elim (in_put server_exact s t others k) [
  | inl e ↦ subst (λ (x : Server). 0 < x.weight) (sym e) h
  | inr m ↦ all t m
]

pub AreServers-put : (s : Server) (others : List Server) → ((t : Server) → In t others → t.address ≡ s.address → ⊥) → 0 < s.weight → AreServers others → AreServers (put server_cmp s others)
AreServers-put s others absent some are = record {
  ascends = put_ascends server_exact s others are.ascends;
  once = once_put s others absent are.once;
  weighed = weighed_put s others some are.weighed;
}

pub AreServers-without : (a : Address) (servers : List Server) → AreServers servers → AreServers (without a servers)
AreServers-without a servers are = record {
  ascends = filter_ascends server_cmp (λ (s : Server). not (is_same s.address a)) servers are.ascends;
  once = once_without a servers are.once;
  weighed = λ s h. are.weighed s (in_without a s servers h).0;
}

pub positive_factor : (m n : ℕ) → 0 < m * n → 0 < n
positive_factor m zero h = absurd (omega arith)
positive_factor m (suc n) h = omega arith

-- a server that is there takes its own place
pub with_server_there : (s : Server) (servers : List Server) → IsAscending server_cmp servers → EachOnce servers → In s servers → with_server s servers ≡ servers
with_server_there s servers up once h =
    let other : Server → Bool = λ t. not (is_same t.address s.address) in
    same_ascending server_exact (with_server s servers) servers
    (put_ascends server_exact s (without s.address servers) (filter_ascends server_cmp other servers up)) up
    (λ z k. elim (in_put server_exact s z (without s.address servers) k) [
      | inl e ↦ subst (λ (x : Server). In x servers) (sym e) h
      | inr m ↦ (in_without s.address z servers m).0
    ])
    (λ z k. test_cases _ (is_same z.address s.address)
    (λ e. subst (λ (x : Server). In x (with_server s servers)) (once s z h k (sym (same_is z.address s.address e))) (put_new server_exact s (without s.address servers)))
    (λ e. put_old server_exact s z (without s.address servers) (filter_in other z servers k (ap not e))))

-- a server whose weight is found is there
pub in_if_weight : (servers : List Server) (s : Server) → weight_of s.address servers ≡ Some s.weight → In s servers
in_if_weight servers s e =
    let m = in_weight_of servers s.address s.weight e in
    let same : m.0 ≡ s = λ i. record { address = m.2 i; weight = m.3 i } in
    subst (λ (t : Server). In t servers) same m.1

pub weight_if_had : (w : ℕ) (o : Option ℕ) → false ≡ not (has_weight w o) → o ≡ Some w
weight_if_had w None h = cc h
weight_if_had w (Some v) h = ap Some (eqb-true v w (had (v == w) h))
  where
    had : (b : Bool) → false ≡ not b → b ≡ true
    had true h = refl
    had false h = cc h

pub none_if_not_some : {X : Type 0} (o : Option X) → is_some o ≡ false → o ≡ None
none_if_not_some None h = refl
none_if_not_some (Some x) h = cc h
