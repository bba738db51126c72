-- Looking a server up by its address.
use Rattle.std.proofs.Common.{◌≡◌, ℕ, ◌<◌, ◌≤◌, List, Some, None, Result, Ok, Err, length, get_or, arith, inl, inr, sym, ap, subst}
use Rattle.std.specs.List.Sorted.{IsSearchInRange, IsBinarySearchResult, IsNonDecreasingBy}
use Rattle.std.specs.Ordering.{nat_cmp, ordering_index}
use Rattle.std.proofs.lemmas.Cmp.{ranked}
use Rattle.std.proofs.lemmas.Bool.{cases_lt}
use Rattle.std.proofs.lemmas.Bool.Decides.{nat_tests}
use Rattle.change_core.specs.declared.addresses.Address.{Address}
use Rattle.change_core.specs.Ascending.{In}
use Rattle.hash_ring.specs.Servers.{AreServers, weight_of}
use Rattle.hash_ring.specs.declared.servers.Server.{Server}
use Rattle.hash_ring.proofs.Placed.{at_in, in_at, ascending_at}
use Rattle.hash_ring.proofs.PointOrder.{server_exact, less_address_le}
use Rattle.hash_ring.proofs.Weights.{weight_of_in, weight_of_absent}

module _ (servers : List Server) (a : Address) (are : AreServers servers) where
  address_le : (i j : ℕ) (d : Server) → i ≤ j → j < length servers → (get_or servers i d).address ≤ (get_or servers j d).address
  address_le i j d l k = elim (cases_lt i j) [
    | inl less ↦ less_address_le (get_or servers i d) (get_or servers j d) (ascending_at server_exact servers i j d are.ascends less k)
    | inr same ↦ let e : i ≡ j = omega arith in omega (arith, ap (λ n. (get_or servers n d).address) e)
  ]

  comparisons_rise : IsNonDecreasingBy (λ (s : Server). ordering_index (nat_cmp s.address a)) servers
  comparisons_rise i j d l n = let rise = address_le i j d l n in grind (arith, nat_tests)

  -- a binary search by address ends at its server, or nowhere where there is none
  pub searched_there : (i : ℕ) (r : Result ℕ ℕ) (s : Server) → r ≡ Ok i → IsSearchInRange r (length servers) → IsBinarySearchResult (λ (t : Server). nat_cmp t.address a) servers r → s ≡ get_or servers i s → weight_of a servers ≡ Some s.weight
  searched_there i (Ok j) s e within equal at =
      let place : j ≡ i = cc e in
      let low : i < length servers = omega (arith, within, place) in
      let here : In s servers = subst (λ t. In t servers) (sym at) (in_at servers i s low) in
      let same : s.address ≡ a = subst (λ (t : Server). t.address ≡ a) (sym at) (subst (λ k. (get_or servers k s).address ≡ a) place (ranked _ a _ (sym (equal s)))) in
      subst (λ b. weight_of b servers ≡ Some s.weight) same (weight_of_in servers are.once s here)
  searched_there i (Err j) s e within parted at = cc e

  pub searched_none : (i : ℕ) (r : Result ℕ ℕ) → r ≡ Err i → IsBinarySearchResult (λ (t : Server). nat_cmp t.address a) servers r → weight_of a servers ≡ None
  searched_none i (Ok j) e equal = cc e
  searched_none i (Err j) e parted = weight_of_absent servers a (λ t h same.
      let m = at_in t servers h in
      let parts = parted comparisons_rise in
      elim (cases_lt m.0 j) [
        | inl less ↦
            let below : (get_or servers m.0 t).address < a = ranked _ a _ (sym (parts.0 m.0 t (omega arith) less)) in
            omega (arith, below, ap (λ (x : Server). x.address) (m.2 t), same)
        | inr more ↦
            let above : a < (get_or servers m.0 t).address = ranked _ a _ (sym (parts.1 m.0 t more m.1)) in
            omega (arith, above, ap (λ (x : Server). x.address) (m.2 t), same)
      ])
