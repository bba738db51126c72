-- Which agents ask their applications for a request.
use Rattle.std.proofs.Common.{◌≡◌, ◌≢◌, ◌∙◌, ℕ, ◌<◌, true, false, refl, sym, subst, inl, inr, arith, Some, Result, Ok, List, [], ◌++◌, length, get_or, true≢false}
use Rattle.std.specs.Prelude.{Contains}
use Rattle.std.proofs.lemmas.List.Elements.{Contains-append_left}
use Rattle.change_core.specs.declared.addresses.Address.{Address}
use Rattle.hash_ring.specs.Points.{owner, hash_number, hash_of}
use Rattle.hash_ring.specs.declared.hash.Sha256Hash.{Sha256Hash}
use Rattle.hash_ring.specs.declared.servers.Server.{Server}
use Rattle.hash_ring.proofs.Disagreement.{owners_differ}
use Rattle.message_core.specs.declared.messages.Content.{Content}
use Rattle.message_core.specs.declared.messages.Content.TheVariants as content
use Rattle.message_core.specs.declared.messages.Message.{Message}
use Rattle.node_core.specs.Viewing.{Viewed}
use Rattle.peer_core.specs.Acts.{Act, Just, looked}
use Rattle.peer_core.specs.Handling.{Handled, between}
use Rattle.peer_core.specs.Handlings.{Ends, IsHandledSo, OwnsAll}
use Rattle.peer_core.specs.Links.{any_answer}
use Rattle.peer_core.specs.declared.errors.ClusterError.{ClusterError}
use Rattle.peer_core.proofs.HandlingCounts.{requests_handled, servings_handled}
use Rattle.peer_core.proofs.Served.{serves_as}
use Rattle.peer_core.proofs.Servings.{has_later}
use Rattle.line_service.specs.declared.inputs.Input.TheVariants as input
use Rattle.agent_peers.specs.Serving.{AsksFor, asks}
use Rattle.agent_api.specs.Asking.{notes_asking}
use Rattle.agent_node.specs.Noting.{notes_call}
use Rattle.agent_api.specs.Onces.{Noted, notes_send, unnoted}
use Rattle.agent.specs.Owning.{AskersDiffer, AskersOwn, HasAsked, LooksSo, OneAsks}

-- the only act of the later of two parts is among all
last_seen : (view : Viewed Sha256Hash) (acts xs ys : List (Act Sha256Hash)) → acts ≡ xs ++ ys → Just (looked (Ok view)) ys → Contains acts (looked (Ok view))
last_seen view acts xs ys e just =
    has_later (looked (Ok view)) acts xs ys e (subst (λ (zs : List (Act Sha256Hash)). Contains zs (looked (Ok view))) (sym just) (0, omega arith, refl))

-- and each of the earlier
seen_before : (view : Viewed Sha256Hash) (acts xs ys : List (Act Sha256Hash)) → acts ≡ xs ++ ys → Contains xs (looked (Ok view)) → Contains acts (looked (Ok view))
seen_before view acts xs ys e has =
    subst (λ (zs : List (Act Sha256Hash)). Contains zs (looked (Ok view))) (sym e) (Contains-append_left xs ys (looked (Ok view)) has)

module _ {A : Type 0} (handled : Handled A) (keys : List (List ℕ)) where
  -- a request for which the application was asked
  requested_owns : (request : List ℕ) (r : Result (List ℕ) ClusterError) (old new : Noted) (acts : List (Act Sha256Hash))
      → Ends hash_of notes_send notes_asking keys request r false true old new acts → OwnsAll hash_of keys acts
  requested_owns request r old new acts (failed, mid, inl (few, (xs, ys, e, over, (view, just, inl (owned, called, stays))))) = (view, last_seen view acts xs ys e just, owned)
  requested_owns request r old new acts (failed, mid, inl (few, (xs, ys, e, over, (view, just, inr (unmoved, gone))))) = absurd (true≢false unmoved)
  requested_owns request r old new acts (failed, mid, inr (why, is, unmoved, stays, over, how)) = absurd (true≢false unmoved)

  -- a Forward for which it was
  served_owns : (was is : A) (message : Message) (body : List ℕ) → message.content ≡ content.Forward keys body
      → (acts : List (Act Sha256Hash)) → AsksFor (asks handled true was is) (input.Message message) acts → OwnsAll hash_of keys acts
  served_owns was is message body told acts (xs, ys, e, (now, r, served), later) =
      go (subst (λ (c : Content). IsHandledSo hash_of notes_call c r false true xs) told
      (servings_handled hash_of any_answer notes_call message now r false true xs
      (serves_as hash_of (asks handled true was is) (between notes_call false true) (λ ks one answer called. refl) (λ never. absurd never) any_answer message now message.content r xs served)))
    where
      go : IsHandledSo hash_of notes_call (content.Forward keys body) r false true xs → OwnsAll hash_of keys acts
      go (inl ((view, has, owned), called)) = (view, seen_before view acts xs ys e has, owned)
      go (inr (unmoved, away)) = absurd (true≢false unmoved)

  asked_owns : (acts : List (Act Sha256Hash)) → HasAsked handled keys acts → OwnsAll hash_of keys acts
  asked_owns acts (HasAsked.by_client is_repeatable noted request r (requested, sent)) =
      requested_owns request r (unnoted is_repeatable) noted acts (requests_handled hash_of notes_send notes_asking keys request r false true (unnoted is_repeatable) noted acts sent)
  asked_owns acts (HasAsked.by_node was is message body told asked) = served_owns was is message body told acts asked

  -- so the agent owns the first of the keys among the servers that its views name
  owns_first : (own replicas : ℕ) (servers : List Server) (acts : List (Act Sha256Hash)) → 0 < length keys → HasAsked handled keys acts
      → LooksSo own replicas servers acts → owner hash_number replicas servers (get_or keys 0 []) ≡ Some own
  owns_first own replicas servers acts some asked looks =
      let (view, has, owned) = asked_owns acts asked in
      let (own_is, replicas_is, servers_is) = looks view has in
      subst (λ (a : Address). owner hash_number replicas servers (get_or keys 0 []) ≡ Some a) own_is
      (subst (λ (ss : List Server). owner hash_number replicas ss (get_or keys 0 []) ≡ Some view.own) servers_is
      (subst (λ (n : ℕ). owner hash_number n view.servers (get_or keys 0 []) ≡ Some view.own) replicas_is (owned 0 [] some)))

module _ {A : Type 0} (handled : Handled A) where
  pub askers_own : AskersOwn handled
  askers_own keys acts asked = let (view, has, owned) = asked_owns handled keys acts asked in (view, (has, owned))

  pub one_asks : OneAsks handled
  one_asks keys some a b replicas servers acts more by_a looks_a by_b looks_b =
      let of_a : owner hash_number replicas servers (get_or keys 0 []) ≡ Some a = owns_first handled keys a replicas servers acts some by_a looks_a in
      let of_b : owner hash_number replicas servers (get_or keys 0 []) ≡ Some b = owns_first handled keys b replicas servers more some by_b looks_b in
      let both : Some a ≡ Some b = sym of_a ∙ of_b in (cc, of_a)

  pub askers_differ : AskersDiffer handled
  askers_differ keys some acts more by_one by_other =
      let (one, seen, owned) = asked_owns handled keys acts by_one in
      let (other, watched, held) = asked_owns handled keys more by_other in (
        one,
        other,
        (seen, owned),
        (watched, held),
        λ alike apart.
            owners_differ hash_number one.replicas one.servers other.servers (get_or keys 0 []) one.own other.own (owned 0 [] some)
            (subst (λ (n : ℕ). owner hash_number n other.servers (get_or keys 0 []) ≡ Some other.own) (sym alike) (held 0 [] some)) apart,
      )
