-- Routes by their owners.
use Rattle.std.proofs.Common.{◌≡◌, ◌≢◌, ◌<◌, ℕ, ◌==◌, Bool, true, false, cond, not, List, [], ◌∷◌, length, slice_index_or, Option, Some, None, Result, Ok, refl, sym, ap, ◌∙◌, subst, Contains, true≢false, arith, nat_eq, suc, rules}
use Rattle.std.specs.Option.{option_eq}
use Rattle.change_core.specs.declared.addresses.Address.{Address}
use Rattle.hash_ring.proofs.Nearest.{owner_nobody}
use Rattle.node_core.specs.Viewing.{Viewed}
use Rattle.forward_core.specs.declared.errors.ForwardError.{ForwardError}
use Rattle.forward_core.specs.declared.routes.Route.{Route}
use Rattle.forward_core.specs.declared.routes.Route.TheVariants.{Here, To, Nobody}
use Rattle.forward_core.specs.Routes.{route_to, owner_in, AllOwnedBy, HaveDiverged, IsRouteOf}

-- nobody serves where a key has no owner, and then no key has one
pub servers-no_owner : {H : Type 0} (hash_of : H → List ℕ → ℕ) (view : Viewed H) (key : List ℕ) → owner_in hash_of view key ≡ None → view.servers ≡ []
servers-no_owner hash_of view key e = owner_nobody (hash_of view.hash) view.replicas view.servers key None (sym e)

pub owner_in-no_servers : {H : Type 0} (hash_of : H → List ℕ → ℕ) (view : Viewed H) (key : List ℕ) → view.servers ≡ [] → owner_in hash_of view key ≡ None
owner_in-no_servers hash_of view key e = rw e

-- the route to nobody is that of no owner
pub owner-nobody : (o : Option Address) (own : Address) → route_to o own ≡ Nobody → o ≡ None
owner-nobody None own e = refl
owner-nobody (Some a) own e = by (a == own) e
  where
    by : (b : Bool) → cond b Here (To a) ≡ Nobody → Some a ≡ None
    by true h = cc h
    by false h = cc h

-- any other route has an owner
pub owner-somebody : (o : Option Address) (own : Address) → route_to o own ≢ Nobody → (a : Address) × (o ≡ Some a)
owner-somebody None own e = absurd (e refl)
owner-somebody (Some a) own e = (a, refl)

-- the route of a key goes to nobody exactly where nobody serves
pub route-nobody : {H : Type 0} (hash_of : H → List ℕ → ℕ) (view : Viewed H) (key : List ℕ) (o : Option Address) (own : Address) (r : Route)
    → o ≡ owner_in hash_of view key → r ≡ route_to o own
    → (◌≡◌ {A = Result Route ForwardError} (Ok r) (Ok Nobody) → view.servers ≡ []) × (view.servers ≡ [] → ◌≡◌ {A = Result Route ForwardError} (Ok r) (Ok Nobody))
route-nobody hash_of view key o own r of to = (
  λ e. let nobody : r ≡ Nobody = cc e in servers-no_owner hash_of view key (sym of ∙ owner-nobody o own (sym to ∙ nobody)),
  λ e. let f : Route → Result Route ForwardError = λ x. Ok x in ap f (to ∙ ap (λ x. route_to x own) (of ∙ owner_in-no_servers hash_of view key e)),
)

-- a route elsewhere than to nobody is that of one owner
pub has_owner : {H : Type 0} (hash_of : H → List ℕ → ℕ) (view : Viewed H) (keys : List (List ℕ)) (r : Route)
    → IsRouteOf hash_of view keys (Ok r) → r ≢ Nobody → (a : Address) × AllOwnedBy hash_of view keys (Some a)
has_owner hash_of view keys r routed other =
    let somebody = owner-somebody routed.0 view.own (λ e. other (routed.2 ∙ e)) in
    (somebody.0, subst (AllOwnedBy hash_of view keys) somebody.1 routed.1)

option_eq-refl : (p q : Option ℕ) → p ≡ q → option_eq nat_eq p q ≡ true
option_eq-refl None q e = subst (λ x. option_eq nat_eq None x ≡ true) e refl
option_eq-refl (Some a) q e = subst (λ x. option_eq nat_eq (Some a) x ≡ true) e (search rules)

-- a key among the others whose owner is not that of the first
pub diverged : {H : Type 0} (hash_of : H → List ℕ → ℕ) (view : Viewed H) (keys others : List (List ℕ)) (first other : List ℕ) (i : ℕ)
    → keys ≡ first ∷ others → i < length others → other ≡ slice_index_or others i other
    → not (option_eq nat_eq (owner_in hash_of view other) (owner_in hash_of view first)) ≡ true
    → HaveDiverged hash_of view keys
diverged hash_of view keys others first other i split within at apart = record {
  one = first;
  other = other;
  one_listed = subst (λ ks. Contains ks first) (sym split) (0, omega arith, refl);
  other_listed = subst (λ ks. Contains ks other) (sym split) (suc i, omega arith, sym at);
  differ = λ e. true≢false (sym apart ∙ ap not (option_eq-refl (owner_in hash_of view other) (owner_in hash_of view first) (sym e)));
}
