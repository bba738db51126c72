-- Who handles a request.
use Rattle.std.proofs.Common.{◌≡◌, ◌∙◌, ◌⊎◌, ℕ, refl, sym, subst, inl, inr, Some, Result, Ok, Err, List, [], ◌++◌, Contains, get_or, arith}
use Rattle.std.specs.Option.{option_cmp}
use Rattle.std.specs.Ordering.{nat_cmp}
use Rattle.std.specs.declared.cmp.Ordering.TheVariants.{Less}
use Rattle.change_core.specs.declared.addresses.Address.{Address}
use Rattle.hash_ring.specs.Points.{owner}
use Rattle.hash_ring.specs.Servers.{weight_of}
use Rattle.hash_ring.specs.declared.servers.Server.{Server}
use Rattle.hash_ring.proofs.Disagreement.{owners_differ}
use Rattle.message_core.specs.declared.messages.Content.{Content}
use Rattle.message_core.specs.declared.messages.Message.{Message}
use Rattle.node_core.specs.Viewing.{Viewed}
use Rattle.forward_core.specs.declared.errors.ForwardError.{ForwardError}
use Rattle.forward_core.specs.declared.errors.ForwardError.TheVariants as refusal
use Rattle.forward_core.specs.declared.routes.Route.{Route}
use Rattle.forward_core.specs.declared.routes.Route.TheVariants as route
use Rattle.forward_core.specs.Routes.{IsRouteOf}
use Rattle.peer_core.specs.declared.errors.ClusterError.{ClusterError}
use Rattle.peer_core.specs.declared.errors.ClusterError.TheVariants as error
use Rattle.peer_core.specs.Acts.{Act, looked}
use Rattle.peer_core.specs.Handling.{Handled, between}
use Rattle.peer_core.specs.Handlings.{OwnsAll}
use Rattle.peer_core.specs.Links.{MayAnswer, Went}
use Rattle.peer_core.specs.Resending.{EndsBy, SendsRequest}
use Rattle.peer_core.specs.Serving.{Forwards, IsRouted, Serves}
use Rattle.peer_core.proofs.HandlingCounts.{here_owns}
use Rattle.peer_core.proofs.Servings.{has_first, has_later}
use Rattle.laws.specs.Owning.{AreOwnedBy, Given, HandlersDiffer, IsGiven, IsLeft, LooksSo, OneHandles, OthersDoNot, uncalled}

module _ {H A : Type 0} (hash_of : H → List ℕ → ℕ) (handled : Handled A) (keys : List (List ℕ)) (body : List ℕ) (was is : A) where
  abbrev Uncalled : Result Message ClusterError → List (Act H) → Type 0
  Uncalled r acts = (is ≡ was) × Forwards hash_of (between uncalled was is) keys body r acts

  -- for a Forward the node owned its keys by its view, or its handler was not called
  routed_so : (view : Viewed H) (way : Result Route ForwardError) (told : Content) → IsRouteOf hash_of view keys way
      → IsRouted (between handled was is) keys body way told → (way ≡ Ok route.Here) ⊎ ((is ≡ was) × IsRouted (between uncalled was is) keys body way told)
  routed_so view (Ok route.Here) told leads h = inl refl
  routed_so view (Ok (route.To owner)) told leads h = inr (h.0, h)
  routed_so view (Ok route.Nobody) told leads h = inr (h.0, h)
  routed_so view (Err refusal.Diverged) told leads h = inr (h.0, h)
  routed_so view (Err refusal.Nobody) told leads h = absurd h
  routed_so view (Err refusal.RetriesSpent) told leads h = absurd h
  routed_so view (Err refusal.InFlight) told leads h = absurd h
  routed_so view (Err refusal.NotInFlight) told leads h = absurd h

  forwards_so : (r : Result Message ClusterError) (acts : List (Act H)) → Forwards hash_of (between handled was is) keys body r acts → OwnsAll hash_of keys acts ⊎ Uncalled r acts
  forwards_so (Ok m) acts (inl h) = absurd h
  forwards_so (Err e) acts (inl h) = inr (h.0, inl h)
  forwards_so r acts (inr (Ok view, (first, next, e, seen, (told, (way, leads, routed), gives)))) =
      go (routed_so view way told leads routed)
    where
      go : (way ≡ Ok route.Here) ⊎ ((is ≡ was) × IsRouted (between uncalled was is) keys body way told) → OwnsAll hash_of keys acts ⊎ Uncalled r acts
      go (inl here) =
          inl (
            view,
            has_first (looked (Ok view)) acts first next e seen,
            here_owns hash_of keys view (subst (λ (w : Result Route ForwardError). IsRouteOf hash_of view keys w) here leads),
          )
      go (inr (same, h)) = inr (same, inr (Ok view, (first, next, e, seen, (told, (way, leads, h), gives))))
  forwards_so r acts (inr (Err n, (first, next, e, seen, h))) = inr (h.0, inr (Err n, (first, next, e, seen, h)))

module _ {L H A : Type 0} (hash_of : H → List ℕ → ℕ) (went : Went L) (handled : Handled A) (keys : List (List ℕ)) (body : List ℕ) where
  -- and so for a request
  ends_so : (r : Result (List ℕ) ClusterError) (was is : A) (old new : L) (acts xs ys : List (Act H)) → acts ≡ xs ++ ys → EndsBy hash_of went handled keys body r was is old new ys
      → OwnsAll hash_of keys acts ⊎ ((is ≡ was) × EndsBy hash_of went uncalled keys body r was is old new ys)
  ends_so r was is old new acts xs ys e (EndsBy.by_error why refused) = inr (refl, EndsBy.by_error why refused)
  ends_so r was is old new acts xs ys e (EndsBy.by_owner view answer just gone is_so) = inr (refl, EndsBy.by_owner view answer just gone is_so)
  ends_so r was is old new acts xs ys e (EndsBy.by_handler answer (view, just, owned, called) same) =
      let has : Contains acts (looked (Ok view)) =
      has_later (looked (Ok view)) acts xs ys e (subst (λ (zs : List (Act H)). Contains zs (looked (Ok view))) (sym just) (0, omega arith, refl)) in inl (view, has, owned)

  sends_so : (r : Result (List ℕ) ClusterError) (was is : A) (old new : L) (acts : List (Act H)) → SendsRequest hash_of went handled keys body r was is old new acts
      → OwnsAll hash_of keys acts ⊎ ((is ≡ was) × SendsRequest hash_of went uncalled keys body r was is old new acts)
  sends_so (Err error.RetriesSpent) was is old new acts h = inr (h.0, h)
  sends_so r was is old new acts (n, lt, (mid, (xs, ys, e, failed, ends))) =
      elim (ends_so r was is mid new acts xs ys e ends) [ inl owns ↦ inl owns | inr left ↦ inr (left.0, (n, lt, (mid, (xs, ys, e, failed, left.1)))) ]

module _ {L H A : Type 0} (hash_of : H → List ℕ → ℕ) (Came : MayAnswer) (went : Went L) (handled : Handled A) where
  given_so : (given : Given L) (keys : List (List ℕ)) (was is : A) (acts : List (Act H)) → IsGiven hash_of Came went handled given keys was is acts
      → OwnsAll hash_of keys acts ⊎ IsLeft hash_of Came went given keys was is acts
  given_so (Given.by_service body r old new) keys was is acts h = sends_so hash_of went handled keys body r was is old new acts h
  given_so (Given.by_message message now r) keys was is acts ((body, told), served) =
      elim (forwards_so hash_of handled keys body was is r acts
      (subst (λ (c : Content). Serves hash_of Came (between handled was is) message now c r acts) told served)) [
        | inl owns ↦ inl owns
        | inr left ↦ inr (left.0, ((body, told), subst (λ (c : Content). Serves hash_of Came (between uncalled was is) message now c r acts) (sym told) left.1))
      ]

  -- so the node is the owner, or its handler was not called
  owns_or_not : (given : Given L) (keys : List (List ℕ)) (a : Address) (hash : H) (replicas : ℕ) (servers : List Server) (was is : A) (acts : List (Act H))
      → IsGiven hash_of Came went handled given keys was is acts → LooksSo a hash replicas servers acts
      → AreOwnedBy hash_of hash replicas servers keys a ⊎ IsLeft hash_of Came went given keys was is acts
  owns_or_not given keys a hash replicas servers was is acts asked looks = go (given_so given keys was is acts asked)
    where
      seen_so : OwnsAll hash_of keys acts → AreOwnedBy hash_of hash replicas servers keys a
      seen_so (view, has, owned) =
          let (own_is, hash_is, replicas_is, servers_is) = looks view has in
          λ k d within.
          subst (λ (b : Address). owner (hash_of hash) replicas servers (get_or keys k d) ≡ Some b) own_is
          (subst (λ (ss : List Server). owner (hash_of hash) replicas ss (get_or keys k d) ≡ Some view.own) servers_is
          (subst (λ (n : ℕ). owner (hash_of hash) n view.servers (get_or keys k d) ≡ Some view.own) replicas_is
          (subst (λ (h : H). owner (hash_of h) view.replicas view.servers (get_or keys k d) ≡ Some view.own) hash_is (owned k d within))))

      go : OwnsAll hash_of keys acts ⊎ IsLeft hash_of Came went given keys was is acts
          → AreOwnedBy hash_of hash replicas servers keys a ⊎ IsLeft hash_of Came went given keys was is acts
      go (inl owns) = inl (seen_so owns)
      go (inr left) = inr left

pub others_do_not : {L H A : Type 0} (hash_of : H → List ℕ → ℕ) (Came : MayAnswer) (went : Went L) (handled : Handled A) → OthersDoNot hash_of Came went handled
others_do_not hash_of Came went handled given keys a hash replicas servers was is acts asked looks other =
    elim (owns_or_not hash_of Came went handled given keys a hash replicas servers was is acts asked looks) [ inl owns ↦ absurd (other owns) | inr left ↦ left ]

pub one_handles : {L H A : Type 0} (hash_of : H → List ℕ → ℕ) (Came : MayAnswer) (went : Went L) (handled : Handled A) → OneHandles hash_of Came went handled
one_handles {L} {H} {A} hash_of Came went handled keys some a b hash replicas servers first second was is before after acts more by_a looks_a by_b looks_b apart =
    go (owns_or_not hash_of Came went handled first keys a hash replicas servers was is acts by_a looks_a)
    (owns_or_not hash_of Came went handled second keys b hash replicas servers before after more by_b looks_b)
  where
    go : AreOwnedBy hash_of hash replicas servers keys a ⊎ IsLeft hash_of Came went first keys was is acts
        → AreOwnedBy hash_of hash replicas servers keys b ⊎ IsLeft hash_of Came went second keys before after more
        → IsLeft hash_of Came went first keys was is acts ⊎ IsLeft hash_of Came went second keys before after more
    go (inr left) of_b = inl left
    go (inl of_a) (inr left) = inr left
    go (inl of_a) (inl of_b) = absurd (apart (let both : Some a ≡ Some b = sym (of_a 0 [] some) ∙ of_b 0 [] some in cc))

pub handlers_differ : {L H A : Type 0} (hash_of : H → List ℕ → ℕ) (Came : MayAnswer) (went : Went L) (handled : Handled A) → HandlersDiffer hash_of Came went handled
handlers_differ {L} {H} {A} hash_of Came went handled keys some a b hash replicas one other first second was is before after acts more by_a looks_a by_b looks_b apart =
    go (owns_or_not hash_of Came went handled first keys a hash replicas one was is acts by_a looks_a)
    (owns_or_not hash_of Came went handled second keys b hash replicas other before after more by_b looks_b)
  where
    go : AreOwnedBy hash_of hash replicas one keys a ⊎ IsLeft hash_of Came went first keys was is acts
        → AreOwnedBy hash_of hash replicas other keys b ⊎ IsLeft hash_of Came went second keys before after more
        → (IsLeft hash_of Came went first keys was is acts ⊎ IsLeft hash_of Came went second keys before after more)
        ⊎ ((option_cmp nat_cmp (weight_of a other) (weight_of a one) ≡ Less) ⊎ (option_cmp nat_cmp (weight_of b one) (weight_of b other) ≡ Less))
    go (inr left) of_b = inl (inl left)
    go (inl of_a) (inr left) = inl (inr left)
    go (inl of_a) (inl of_b) = inr (owners_differ (hash_of hash) replicas one other (get_or keys 0 []) a b (of_a 0 [] some) (of_b 0 [] some) apart)
