-- A leaver stays out: what is held of it rises, and it has asserted nothing greater.
use Rattle.std.proofs.Common.{◌≡◌, ℕ, ◌≤◌, ◌<◌, true, List, ◌++◌, Some, refl, sym, ◌∙◌, ap, subst, inl, inr, arith}
use Rattle.std.proofs.lemmas.Bool.{false≢true}
use Rattle.change_core.specs.declared.changes.Change.{Change}
use Rattle.change_core.specs.declared.statuses.Status.{Status}
use Rattle.change_core.specs.declared.statuses.Status.TheVariants.{Alive, Suspect, Faulty, Leave, Tombstone}
use Rattle.change_core.specs.Ascending.{In}
use Rattle.change_core.specs.Change.{Exceeds}
use Rattle.change_core.specs.Members.{greatest, serving}
use Rattle.change_core.specs.Status.{rank, is_serving}
use Rattle.change_core.proofs.Ascends.{Contains-In}
use Rattle.change_core.proofs.Order.{in_ascending}
use Rattle.change_core.proofs.Serving.{greatest-serving}
use Rattle.hash_ring.specs.Points.{distance_among}
use Rattle.hash_ring.specs.Servers.{addresses_of}
use Rattle.hash_ring.specs.Serving.{servers_of}
use Rattle.hash_ring.proofs.PointOrder.{by_exact}
use Rattle.hash_ring.proofs.ServingServers.{addresses_of-servers_of}
use Rattle.node_core.specs.Node.{Node}
use Rattle.node_core.specs.World.{World, WorldEvent, MayAllHappen, IsTrueWorld, IsTrueNode, IsAssertedAt, world_after, nothing}
use Rattle.node_core.proofs.Listed.{In-greatest, address-greatest}
use Rattle.node_core.proofs.World.{worlds_are_true}
use Rattle.laws.specs.Leaving.{IsGone, AssertsNoneAfter, HoldsAsGone, LeaversStayOut}
use Rattle.laws.proofs.Rising.{Rises, world_after-append, all-append, rises-after, settled-after}

-- a status of no lesser rank than leave is one that is gone
gone_by_rank : (s : Status) → 3 ≤ rank s → IsGone s
gone_by_rank Alive h = absurd (omega (arith, h))
gone_by_rank Suspect h = absurd (omega (arith, h))
gone_by_rank Faulty h = absurd (omega (arith, h))
gone_by_rank Leave h = inl refl
gone_by_rank Tombstone h = inr refl

rank_of_gone : (s : Status) → IsGone s → 3 ≤ rank s
rank_of_gone s (inl e) = subst (λ (x : Status). 3 ≤ rank x) (sym e) (omega arith)
rank_of_gone s (inr e) = subst (λ (x : Status). 3 ≤ rank x) (sym e) (omega arith)

gone_out : (s : Status) → IsGone s → is_serving s ≡ true → ⊥
gone_out s (inl e) h = false≢true (ap is_serving (sym e) ∙ h)
gone_out s (inr e) h = false≢true (ap is_serving (sym e) ∙ h)

-- what is no less than an entry that is gone, at no later incarnation, is at that incarnation and gone
still_gone : (left now : Change) → (Exceeds left now → ⊥) → now.incarnation ≤ left.incarnation → IsGone left.status → (now.incarnation ≡ left.incarnation) × IsGone now.status
still_gone left now no_less within gone =
    let same : now.incarnation ≡ left.incarnation = equal_from (λ k. no_less (inl k)) in
    (same, gone_by_rank now.status (above (λ k. no_less (inr (same, inl k)))))
  where
    equal_from : (now.incarnation < left.incarnation → ⊥) → now.incarnation ≡ left.incarnation
    equal_from h = omega (arith, h, within)

    above : (rank now.status < rank left.status → ⊥) → 3 ≤ rank now.status
    above h = let r : 3 ≤ rank left.status = rank_of_gone left.status gone in omega (arith, h, r)

-- a node that holds an address as gone does not count it among its servers
holds_as_gone : {H : Type 0} (hash_of : H → List ℕ → ℕ) (node : Node H) (a : ℕ) (entry : Change) → greatest node.members a ≡ Some entry → IsGone entry.status
    → HoldsAsGone hash_of node a entry.incarnation
holds_as_gone {H} hash_of node a entry e gone = record {
  entry = entry;
  held = e;
  same = refl;
  gone = gone;
  not_serving = out;
  no_owner = λ key h. out (subst (λ (xs : List ℕ). In a xs) (addresses_of-servers_of node.members)
      (in_ascending (by_exact (distance_among (hash_of node.hash) node.config.replicas (servers_of node.members) key)) a (addresses_of (servers_of node.members)) h));
}
  where
    out : In a (serving node.members) → ⊥
    out h =
        let r = greatest-serving node.members a (Contains-In a (serving node.members) h) in
        let both : Some r.0 ≡ Some entry = sym r.1 ∙ e in
        let same : r.0 ≡ entry = cc in
        gone_out entry.status gone (subst (λ (c : Change). is_serving c.status ≡ true) same r.2)

true-after : {H : Type 0} (hash_of : H → List ℕ → ℕ) (past events : List (WorldEvent H)) → MayAllHappen hash_of nothing past → MayAllHappen hash_of (world_after nothing past) events
    → IsTrueWorld (world_after (world_after nothing past) events)
true-after {H} hash_of past events may more =
    subst (λ (w : World H). IsTrueWorld w) (world_after-append past events nothing) (worlds_are_true hash_of (past ++ events) (all-append hash_of past events nothing may more))

-- what a node holds that has risen from an entry that is gone, while the address has asserted no later incarnation
stays : {H : Type 0} (hash_of : H → List ℕ → ℕ) (asserted : List Change) (b a : ℕ) (old new : Node H) (left : Change) → IsTrueNode asserted b new
    → Rises old.members new.members a left → IsGone left.status → AssertsNoneAfter asserted a left.incarnation → HoldsAsGone hash_of new a left.incarnation
stays {H} hash_of asserted b a old new left true_node rose gone none =
    subst (λ (i : ℕ). HoldsAsGone hash_of new a i) still.0 (holds_as_gone hash_of new a rose.now rose.now_is still.1)
  where
    at : IsAssertedAt asserted rose.now.address rose.now.incarnation
    at = (true_node.entries rose.now (In-greatest new.members a rose.now rose.now_is)).incarnation

    within : rose.now.incarnation ≤ left.incarnation
    within = subst (λ (i : ℕ). i ≤ left.incarnation) at.3 (none at.0 at.1 (at.2 ∙ address-greatest new.members a rose.now rose.now_is))

    still : (rose.now.incarnation ≡ left.incarnation) × IsGone rose.now.status
    still = still_gone left rose.now rose.no_less within gone

pub leavers_stay_out : {H : Type 0} (hash_of : H → List ℕ → ℕ) → LeaversStayOut hash_of
leavers_stay_out {H} hash_of past events b a old new left may more on there later held gone none =
    by_node (rises-after hash_of (world_after nothing past) events b a old left (settled-after hash_of nothing past (λ x n e. cc) may) more on there held)
  where
    by_node : (n : Node H) × ((world_after (world_after nothing past) events).nodes b ≡ Some n) × Rises old.members n.members a left → HoldsAsGone hash_of new a left.incarnation
    by_node (n, placed, rose) =
        let both : Some n ≡ Some new = sym placed ∙ later in
        let same : n ≡ new = cc in
        stays hash_of (world_after (world_after nothing past) events).asserted b a old new left ((true-after hash_of past events may more).nodes b new later)
        (subst (λ (m : Node H). Rises old.members m.members a left) same rose) gone none
