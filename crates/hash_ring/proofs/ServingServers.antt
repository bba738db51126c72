-- The servers that the members are, and how one change more alters them.
use Rattle.std.proofs.Common.{◌≡◌, ℕ, ◌<◌, Bool, true, false, not, List, [], ◌∷◌, ◌++◌, Option, Some, None, map, refl, ap, sym, ◌∙◌, subst, inl, inr}
use Rattle.std.specs.List.{filter}
use Rattle.std.specs.declared.cmp.Ordering.TheVariants.{Less}
use Rattle.std.proofs.lemmas.Bool.{lt-ltb}
use Rattle.std.proofs.lemmas.Simd.{map-map}
use Rattle.change_core.specs.declared.changes.Change.{Change}
use Rattle.change_core.specs.Ascending.{In, IsAscending}
use Rattle.change_core.specs.Members.{members, greatest, serving, is_news, address_of_change, AllAbove, IsMemberList}
use Rattle.change_core.specs.Status.{is_serving}
use Rattle.change_core.proofs.Members.{IsGreatest-greatest, greatest-members, Contains-member_list, IsMemberList-members}
use Rattle.change_core.proofs.News.{greatest-news, greatest-others}
use Rattle.change_core.proofs.Order.{in_put, put_new, put_old, put_ascends, same_ascending, in_filter, filter_in, filter_ascends}
use Rattle.change_core.proofs.Serving.{IsMemberList-filter}
use Rattle.hash_ring.specs.declared.servers.Server.{Server}
use Rattle.hash_ring.specs.Servers.{is_same, address_of_server, addresses_of, server_cmp, with_server, without, weight_of, EachOnce}
use Rattle.hash_ring.specs.Serving.{server_of, servers_of, serving_weight}
use Rattle.hash_ring.proofs.Firsts.{same_is, test_cases}
use Rattle.hash_ring.proofs.FreshPoints.{in_of_contains, contains_of_in}
use Rattle.hash_ring.proofs.ListMembers.{in_map, map_in}
use Rattle.hash_ring.proofs.PointOrder.{server_exact}
use Rattle.hash_ring.proofs.Weights.{in_without, not_same, weight_of_absent, weight_of_in}

not_both : (b : Bool) → b ≡ false → b ≡ true → ⊥
not_both true f t = cc f
not_both false f t = cc t

-- they are the addresses that serve
pub addresses_of-servers_of : (cs : List Change) → addresses_of (servers_of cs) ≡ serving cs
addresses_of-servers_of cs = map-map address_of_server server_of (filter (λ (c : Change). is_serving c.status) (members cs))

-- a server is a member that serves
server_is : (cs : List Change) (s : Server) → In s (servers_of cs) → (c : Change) × (greatest cs s.address ≡ Some c) × (is_serving c.status ≡ true) × (s ≡ server_of c)
server_is cs s h =
    let m = in_map server_of s (filter (λ (c : Change). is_serving c.status) (members cs)) h in
    let k = in_filter (λ (c : Change). is_serving c.status) m.0 (members cs) m.1 in
    let held = Contains-member_list (members cs) m.0 (IsMemberList-members cs) (contains_of_in m.0 (members cs) k.0) in
    (m.0, subst (λ a. greatest cs a ≡ Some m.0) (sym (ap (λ (t : Server). t.address) m.2)) (sym (greatest-members cs m.0.address) ∙ held), k.1, m.2)

is_server : (cs : List Change) (a : ℕ) (c : Change) → greatest cs a ≡ Some c → is_serving c.status ≡ true → In (server_of c) (servers_of cs)
is_server cs a c e s =
    let g = IsGreatest-greatest (members cs) a c (greatest-members cs a ∙ e) in
    map_in server_of c (filter (λ (d : Change). is_serving d.status) (members cs)) (filter_in (λ (d : Change). is_serving d.status) c (members cs) (in_of_contains c (members cs) g.listed) s)

-- each has its member's weight
once_served : (cs : List Change) → EachOnce (servers_of cs)
once_served cs = λ s t h k e.
    let v = server_is cs s h in
    let w = server_is cs t k in
    let held : Some v.0 ≡ Some w.0 = sym v.1 ∙ (ap (greatest cs) e ∙ w.1) in
    let same : v.0 ≡ w.0 = cc held in
    v.3 ∙ (ap server_of same ∙ sym w.3)

weight_of-serving : (cs : List Change) (a : ℕ) (c : Change) → greatest cs a ≡ Some c → is_serving c.status ≡ true → weight_of a (servers_of cs) ≡ Some c.weight
weight_of-serving cs a c e s =
    let g = IsGreatest-greatest cs a c e in
    subst (λ b. weight_of b (servers_of cs) ≡ Some c.weight) g.about (weight_of_in (servers_of cs) (once_served cs) (server_of c) (is_server cs a c e s))

-- and an address of which nothing is held that serves has none
pub weight_of-servers_of : (cs : List Change) (a : ℕ) → weight_of a (servers_of cs) ≡ serving_weight (greatest cs a)
weight_of-servers_of cs a = by_held (greatest cs a) refl
  where
    by_held : (o : Option Change) → greatest cs a ≡ o → weight_of a (servers_of cs) ≡ serving_weight (greatest cs a)
    by_held None e = weight_of_absent (servers_of cs) a absent ∙ ap serving_weight (sym e)
      where
        absent : (s : Server) → In s (servers_of cs) → s.address ≡ a → ⊥
        absent s h q =
            let w = server_is cs s h in
            let held : None ≡ Some w.0 = sym e ∙ ap (greatest cs) (sym q) ∙ w.1 in
            cc held
    by_held (Some c) e = test_cases _ (is_serving c.status)
        (λ s. weight_of-serving cs a c e s ∙ rw (e, s) refl)
        (λ s. weight_of_absent (servers_of cs) a (absent s) ∙ rw (e, s) refl)
      where
        absent : is_serving c.status ≡ false → (s : Server) → In s (servers_of cs) → s.address ≡ a → ⊥
        absent gone s h q =
            let w = server_is cs s h in
            let held : Some w.0 ≡ Some c = sym w.1 ∙ ap (greatest cs) q ∙ e in
            let same : w.0 ≡ c = cc held in
            not_both (is_serving c.status) gone (ap (λ (d : Change). is_serving d.status) (sym same) ∙ w.2)

-- they ascend
above_in : (a : ℕ) (cs : List Change) → AllAbove a (map address_of_change cs) → (c : Change) → In c cs → a < c.address
above_in a [] h c k = absurd k
above_in a (d ∷ ds) h c (inl e) = subst (λ (x : Change). a < x.address) (sym e) h.0
above_in a (d ∷ ds) h c (inr k) = above_in a ds h.1 c k

less_by_address : (s t : Server) → s.address < t.address → server_cmp s t ≡ Less
less_by_address s t h = rw (lt-ltb s.address t.address h) refl

servers_ascend : (cs : List Change) → IsMemberList cs → IsAscending server_cmp (map server_of cs)
servers_ascend [] h = tt
servers_ascend (c ∷ cs) h = (
  (λ s k. let m = in_map server_of s cs k in subst (λ (t : Server). server_cmp (server_of c) t ≡ Less) (sym m.2) (less_by_address (server_of c) (server_of m.0) (above_in c.address cs h.0 m.0 m.1))),
  servers_ascend cs h.1,
)

pub IsAscending-servers_of : (cs : List Change) → IsAscending server_cmp (servers_of cs)
IsAscending-servers_of cs =
    servers_ascend (filter (λ (c : Change). is_serving c.status) (members cs)) (IsMemberList-filter (λ (c : Change). is_serving c.status) (members cs) (IsMemberList-members cs))

module _ (cs : List Change) (c : Change) where
  other_before : (s : Server) → (c.address ≡ s.address → ⊥) → In s (servers_of (cs ++ c ∷ [])) → In s (servers_of cs)
  other_before s n h =
      let w = server_is (cs ++ c ∷ []) s h in
      subst (λ t. In t (servers_of cs)) (sym w.3) (is_server cs s.address w.0 (sym (greatest-others cs c s.address n) ∙ w.1) w.2)

  other_after : (s : Server) → (c.address ≡ s.address → ⊥) → In s (servers_of cs) → In s (servers_of (cs ++ c ∷ []))
  other_after s n h =
      let w = server_is cs s h in
      subst (λ t. In t (servers_of (cs ++ c ∷ []))) (sym w.3) (is_server (cs ++ c ∷ []) s.address w.0 (greatest-others cs c s.address n ∙ w.1) w.2)

  its_own : is_news cs c ≡ true → (s : Server) → s.address ≡ c.address → In s (servers_of (cs ++ c ∷ [])) → (is_serving c.status ≡ true) × (s ≡ server_of c)
  its_own news s e h =
      let w = server_is (cs ++ c ∷ []) s h in
      let held : Some c ≡ Some w.0 = sym (greatest-news cs c news) ∙ (ap (greatest (cs ++ c ∷ [])) (sym e) ∙ w.1) in
      let same : c ≡ w.0 = cc held in
      (ap (λ (d : Change). is_serving d.status) same ∙ w.2, w.3 ∙ ap server_of (sym same))

  -- the subject of news is a server from then on, with its weight, where the change's status serves
  pub servers_of-with_server : is_news cs c ≡ true → is_serving c.status ≡ true → servers_of (cs ++ c ∷ []) ≡ with_server (server_of c) (servers_of cs)
  servers_of-with_server news serving =
      let before = servers_of cs in
      let other : Server → Bool = λ s. not (is_same s.address c.address) in
      same_ascending server_exact (servers_of (cs ++ c ∷ [])) (with_server (server_of c) before)
      (IsAscending-servers_of (cs ++ c ∷ []))
      (put_ascends server_exact (server_of c) (without c.address before) (filter_ascends server_cmp other before (IsAscending-servers_of cs)))
      (λ s h. test_cases _ (is_same s.address c.address)
      (λ e. let own = its_own news s (same_is s.address c.address e) h in subst (λ t. In t (with_server (server_of c) before)) (sym own.1) (put_new server_exact (server_of c) (without c.address before)))
      (λ e. put_old server_exact (server_of c) s (without c.address before) (filter_in other s before (other_before s (λ q. not_same s.address c.address e (sym q)) h) (ap not e))))
      (λ s h. elim (in_put server_exact (server_of c) s (without c.address before) h) [
        | inl e ↦ subst (λ t. In t (servers_of (cs ++ c ∷ []))) (sym e) (is_server (cs ++ c ∷ []) c.address c (greatest-news cs c news) serving)
        | inr k ↦ let m = in_without c.address s before k in other_after s (λ q. m.1 (sym q)) m.0
      ])

  -- and none where it does not
  pub servers_of-without : is_news cs c ≡ true → is_serving c.status ≡ false → servers_of (cs ++ c ∷ []) ≡ without c.address (servers_of cs)
  servers_of-without news gone =
      let before = servers_of cs in
      let other : Server → Bool = λ s. not (is_same s.address c.address) in
      same_ascending server_exact (servers_of (cs ++ c ∷ [])) (without c.address before)
      (IsAscending-servers_of (cs ++ c ∷ []))
      (filter_ascends server_cmp other before (IsAscending-servers_of cs))
      (λ s h. test_cases _ (is_same s.address c.address)
      (λ e. absurd (not_both (is_serving c.status) gone (its_own news s (same_is s.address c.address e) h).0))
      (λ e. filter_in other s before (other_before s (λ q. not_same s.address c.address e (sym q)) h) (ap not e)))
      (λ s h. let m = in_without c.address s before h in other_after s (λ q. m.1 (sym q)) m.0)
