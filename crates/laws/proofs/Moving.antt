-- What a call of a node makes of what it still has to take and to pass on: no call makes it more, and each message makes it less while something is pending.
use Rattle.std.proofs.Common.{arith, ◌≡◌, ◌≢◌, ℕ, zero, suc, ◌+◌, ◌*◌, ◌<◌, ◌≤◌, ◌&&◌, Bool, true, false, cond, eqb, not, List, [], ◌∷◌, length, Option, Some, None, refl, sym, ◌∙◌, ap, subst, inl, inr}
use Rattle.std.specs.Prelude.{filter, map, nat_lt, take}
use Rattle.std.specs.List.{count_by}
use Rattle.std.proofs.Math.Nat.{suc-mul, mul-le-mul_right}
use Rattle.std.proofs.lemmas.Bool.{cases_eq, eqb-true, ne_eqb, and_parts, not-true, eqb-false}
use Rattle.std.proofs.lemmas.List.{length-map}
use Rattle.change_core.specs.declared.changes.Change.{Change}
use Rattle.change_core.specs.declared.changes.Sourced.{Sourced}
use Rattle.change_core.specs.declared.statuses.Status.{Status}
use Rattle.change_core.specs.Ascending.{In}
use Rattle.change_core.specs.Change.{Exceeds, exceeds}
use Rattle.change_core.specs.Members.{addresses, greatest, serving, members, alters, address_of_change, is_news}
use Rattle.change_core.specs.Refutation.{refutation, is_refuted}
use Rattle.change_core.specs.Status.{rank, is_serving}
use Rattle.change_core.proofs.Members.{members-IsMemberList}
use Rattle.change_core.proofs.Order.{filter_in}
use Rattle.change_core.proofs.Precedence.{Exceeds-true, Exceeds-trans, Exceeds-irrefl, exceeds-true, exceeds-false}
use Rattle.gossip_core.specs.declared.pending.Pending.{Pending}
use Rattle.gossip_core.specs.Pending.{may_go_to, put_pending, issued, counted, limit_for}
use Rattle.hash_ring.proofs.Rooms.{length-filter_le}
use Rattle.node_core.specs.Invariant.{IsNode}
use Rattle.node_core.specs.Messages.{told}
use Rattle.node_core.specs.Node.{Node, altered, asserted_by, at_moment, members_after, own_change}
use Rattle.node_core.specs.Taking.{NoneRefused, alteration, altered_by, refusal, took, took_all}
use Rattle.node_core.proofs.Configured.{limits_within}
use Rattle.node_core.proofs.Invariant.{own_change_kept, alters_held, at_kept, told_kept, took_kept}
use Rattle.node_core.proofs.Kept.{greatest_here, greatest_there}
use Rattle.node_core.proofs.Listed.{In-below, In-counted, In-map, address-greatest, greatest-member}
use Rattle.node_core.proofs.Log.{took_all_members, took_all-own}
use Rattle.node_core.proofs.Synchronising.{Exceeds-refutation}
use Rattle.laws.specs.Rounds.{Size}
use Rattle.laws.proofs.Exchanging.{took-status}
use Rattle.laws.proofs.Measure.{no_more-addresses, in_addresses, fewer-pass, unsent, unsent-put, unsent-filter, unsent-counted, unsent-issued}

-- a list of changes holds what a node answers to those about itself, if this is the status that each node has of itself
abbrev pub IsClosed : List Change → (ℕ → Option Status) → Type 0
IsClosed cs status_of =
    (c d : Change) → In c cs → In d cs → c.address ≡ d.address → status_of d.address ≡ Some d.status → c.status ≢ d.status → In (refutation d c) cs

-- of some that are pending the first are some
some_taken : (n : ℕ) (ps : List Pending) (q : Pending) → 1 ≤ n → In q ps → map (λ (p : Pending). p.sourced) (take n ps) ≡ [] → ⊥
some_taken n [] q some h none = h
some_taken zero (p ∷ ps) q some h none = absurd (omega (arith, some))
some_taken (suc n) (p ∷ ps) q some h none = let no : p.sourced ∷ map (λ (r : Pending). r.sourced) (take n ps) ≡ [] = none in cc

-- what is news to what comes after is news to what was before
alters-before : (o : Option Change) (s c : Change) → alters o s ≡ true → exceeds c s ≡ true → alters o c ≡ true
alters-before None s c new more = refl
alters-before (Some d) s c new more = exceeds-true c d (Exceeds-trans c s d (Exceeds-true c s more) (Exceeds-true s d new))

module _ {H : Type 0} (size : Size) (status_of : ℕ → Option Status) (closed : IsClosed size.changes status_of) where
  pub record IsFitNode (node : Node H) : Type 0 where
    pub kept : IsNode node
    pub fit : (x : ℕ) (c : Change) → greatest node.members x ≡ Some c → In c size.changes
    pub own_status : status_of node.own ≡ Some (own_change node).status
    pub limits : (n : ℕ) → n ≤ length (addresses size.changes) → limit_for node.config.piggyback n ≤ size.limit

  -- what a node, where there is one, still has to take and to pass on

  abbrev pub news_of : Option (Node H) → ℕ
  news_of None = 0
  news_of (Some node) = count_by (is_news node.members) size.changes

  abbrev pub pending_of : Option (Node H) → List Pending
  pending_of None = []
  pending_of (Some node) = node.gossip.pending

  abbrev pub unsent_of : Option (Node H) → ℕ
  unsent_of o = unsent size.limit (pending_of o)

  -- where one node becomes another it has no more left to do, and if it took nothing all that is pending was so before
  pub record Less (o p : Option (Node H)) : Type 0 where
    pub news : news_of p ≤ news_of o
    pub work : news_of p * size.limit + unsent_of p ≤ news_of o * size.limit + unsent_of o
    pub still : news_of o ≤ news_of p → (q : Pending) → In q (pending_of p) → (r : Pending) × In r (pending_of o) × (r.sourced ≡ q.sourced)

  -- and one message to a target issued what is pending
  abbrev pub Sent : ℕ → Option (Node H) → Option (Node H) → Type 0
  Sent t o p = news_of o ≤ news_of p → (q : Pending) → In q (pending_of p) → q.sourced.source ≢ t → unsent_of p + 1 ≤ unsent_of o

  pub less-same : (o : Option (Node H)) → Less o o
  less-same o = record { news = omega arith; work = omega arith; still = λ h q listed. (q, listed, refl) }

  pub unsent-falls : (o p : Option (Node H)) → Less o p → news_of o ≤ news_of p → unsent_of p ≤ unsent_of o
  unsent-falls o p less same =
      let news : news_of p ≤ news_of o = less.news in
      let equal : news_of p ≡ news_of o = omega (arith, news, same) in
      let rows : news_of p * size.limit ≡ news_of o * size.limit = ap (λ n. n * size.limit) equal in
      let work : news_of p * size.limit + unsent_of p ≤ news_of o * size.limit + unsent_of o = less.work in
      omega (arith, rows, work)

  pub less-both : (o p q : Option (Node H)) → Less o p → Less p q → Less o q
  less-both o p q first second =
      let first_news : news_of p ≤ news_of o = first.news in
      let second_news : news_of q ≤ news_of p = second.news in
      let first_work : news_of p * size.limit + unsent_of p ≤ news_of o * size.limit + unsent_of o = first.work in
      let second_work : news_of q * size.limit + unsent_of q ≤ news_of p * size.limit + unsent_of p = second.work in
      record {
        news = omega (arith, first_news, second_news);
        work = omega (arith, first_work, second_work);
        still = λ h r listed.
            let late = second.still (omega (arith, h, first_news)) r listed in
            let early = first.still (omega (arith, h, second_news)) late.0 late.1 in
            (early.0, early.1, early.2 ∙ late.2);
      }

  pub less-sent : (t : ℕ) (o p q : Option (Node H)) → Less o p → Sent t p q → Less p q → Sent t o q
  less-sent t o p q first sent second h r listed other =
      let first_news : news_of p ≤ news_of o = first.news in
      let second_news : news_of q ≤ news_of p = second.news in
      let one : unsent_of q + 1 ≤ unsent_of p = sent (omega (arith, h, first_news)) r listed other in
      let fell : unsent_of p ≤ unsent_of o = unsent-falls o p first (omega (arith, h, second_news)) in
      omega (arith, one, fell)

  pub sent-less : (t : ℕ) (o p q : Option (Node H)) → Sent t o p → Less o p → Less p q → Sent t o q
  sent-less t o p q sent first second h r listed other =
      let first_news : news_of p ≤ news_of o = first.news in
      let second_news : news_of q ≤ news_of p = second.news in
      let late = second.still (omega (arith, h, first_news)) r listed in
      let one : unsent_of p + 1 ≤ unsent_of o = sent (omega (arith, h, second_news)) late.0 late.1 (λ e. other (ap (λ (s : Sourced). s.source) (sym late.2) ∙ e)) in
      let fell : unsent_of q ≤ unsent_of p = unsent-falls p q second (omega (arith, h, first_news)) in
      omega (arith, one, fell)

  module _ (node : Node H) (is : IsFitNode node) where
    few_members : length node.members ≤ length (addresses size.changes)
    few_members =
        let mine : length (map address_of_change node.members) ≡ length node.members = length-map node.members address_of_change in
        let few : length (map address_of_change node.members) ≤ length (addresses size.changes)
        = no_more-addresses (map address_of_change node.members) (addresses size.changes) is.kept.one_each among in
        omega (arith, mine, few)
      where
        among : (a : ℕ) → In a (map address_of_change node.members) → In a (addresses size.changes)
        among a h =
            let r = In-map address_of_change a node.members h in
            subst (λ (x : ℕ). In x (addresses size.changes)) r.2
            (in_addresses r.0 size.changes (is.fit r.0.address r.0 (greatest-member node.members r.0 is.kept.one_each r.1)))

    few_serving : length (serving node.members) ≤ length (addresses size.changes)
    few_serving =
        let mapped : length (serving node.members) ≡ length (filter (λ (c : Change). is_serving c.status) (members node.members))
        = length-map (filter (λ (c : Change). is_serving c.status) (members node.members)) address_of_change in
        let fewer : length (filter (λ (c : Change). is_serving c.status) (members node.members)) ≤ length (members node.members)
        = length-filter_le (λ (c : Change). is_serving c.status) (members node.members) in
        let same : length (members node.members) ≡ length node.members = ap length (members-IsMemberList node.members is.kept.one_each) in
        omega (arith, mapped, fewer, same, few_members)

    pub limit-few : node.gossip.limit ≤ size.limit
    limit-few =
        subst (λ (n : ℕ). n ≤ size.limit) (sym (is.kept.limit_is ∙ ap (λ (f : ℕ). limit_for f (length (serving node.members))) is.kept.factor_is))
        (is.limits (length (serving node.members)) few_serving)

  -- one node becomes another that fits
  pub record Moves (old new : Node H) : Type 0 where
    pub is : IsFitNode new
    pub less : Less (Some old) (Some new)

  pub moves-same : (node : Node H) → IsFitNode node → Moves node node
  moves-same node is = record { is = is; less = less-same (Some node) }

  pub moves-both : (old mid new : Node H) → Moves old mid → Moves mid new → Moves old new
  moves-both old mid new first second = record { is = second.is; less = less-both (Some old) (Some mid) (Some new) first.less second.less }

  pub moves-at : (node : Node H) (moment : ℕ) → IsFitNode node → Moves node (at_moment node moment)
  moves-at node moment is = record {
    is = record { kept = at_kept node is.kept moment; fit = is.fit; own_status = is.own_status; limits = is.limits };
    less = record { news = omega arith; work = omega arith; still = λ h q listed. (q, listed, refl) };
  }

  -- an entry is altered

  module _ (node : Node H) (is : IsFitNode node) (s : Sourced) (new : alters (greatest node.members s.change.address) s.change ≡ true) (fits : In s.change size.changes)
      (kept : IsNode (altered node s)) (status : (own_change (altered node s)).status ≡ (own_change node).status) where
    abbrev a : ℕ
    a = s.change.address

    abbrev after : List Change
    after = members_after node s.change

    fit_still : (x : ℕ) (c : Change) → greatest after x ≡ Some c → In c size.changes
    fit_still x c e = elim (cases_eq a x) [
      | inl here ↦
          let same : Some s.change ≡ Some c = sym (greatest_here node is.kept s new) ∙ ap (λ (y : ℕ). greatest after y) here ∙ e in
          let change : s.change ≡ c = cc in
          subst (λ (d : Change). In d size.changes) change fits
      | inr there ↦ is.fit x c (sym (greatest_there node is.kept s x there) ∙ e)
    ]

    was_news : (c : Change) → is_news after c ≡ true → is_news node.members c ≡ true
    was_news c h = elim (cases_eq a c.address) [
      | inl here ↦
          let held : greatest after c.address ≡ Some s.change = ap (λ (y : ℕ). greatest after y) (sym here) ∙ greatest_here node is.kept s new in
          alters-before (greatest node.members c.address) s.change c
          (ap (λ (y : ℕ). alters (greatest node.members y) s.change) (sym here) ∙ new) (ap (λ (o : Option Change). alters o c) (sym held) ∙ h)
      | inr there ↦ ap (λ (o : Option Change). alters o c) (sym (greatest_there node is.kept s c.address there)) ∙ h
    ]

    no_news : is_news after s.change ≡ false
    no_news = ap (λ (o : Option Change). alters o s.change) (greatest_here node is.kept s new) ∙ exceeds-false s.change s.change (Exceeds-irrefl s.change)

    fewer : count_by (is_news after) size.changes + 1 ≤ count_by (is_news node.members) size.changes
    fewer = fewer-pass (is_news after) (is_news node.members) was_news size.changes s.change fits no_news new

    pub moves-altered : Moves node (altered node s)
    moves-altered = record {
      is = record { kept = kept; fit = fit_still; own_status = is.own_status ∙ ap Some (sym status); limits = is.limits };
      less = record {
        news = omega (arith, fewer);
        work =
            let row : (count_by (is_news after) size.changes + 1) * size.limit ≤ count_by (is_news node.members) size.changes * size.limit
            = mul-le-mul_right size.limit fewer in
            let split : (count_by (is_news after) size.changes + 1) * size.limit ≡ count_by (is_news after) size.changes * size.limit + size.limit
            = ap (λ (n : ℕ). n * size.limit) (omega arith) ∙ suc-mul (count_by (is_news after) size.changes) size.limit in
            let put : unsent size.limit (put_pending node.gossip.pending s) ≤ unsent size.limit node.gossip.pending + size.limit
            = unsent-put size.limit node.gossip.pending s in
            let stay : unsent size.limit (altered node s).gossip.pending ≤ unsent size.limit (put_pending node.gossip.pending s)
            = unsent-filter size.limit (λ (p : Pending). nat_lt p.count (limit_for node.gossip.factor (length (serving after)))) (put_pending node.gossip.pending s) in
            omega (arith, row, split, put, stay);
        still = λ h. absurd (omega (arith, fewer, h));
      };
    }

  -- one given change is taken

  module _ (node : Node H) (is : IsFitNode node) (s : Sourced) (free : refusal node s.change ≡ None) (fits : In s.change size.changes) where
    abbrev held : Change
    held = own_change node

    held_is : greatest node.members node.own ≡ Some held
    held_is = is.kept.held_is ∙ ap Some (sym (own_change_kept node is.kept))

    kept_after : (r : Sourced) → alteration node s ≡ Some r → IsNode (altered node r)
    kept_after r e = subst (λ (o : Option Sourced). IsNode (altered_by node o)) e (took_kept node is.kept s free)

    status_after : (own_change (took node s)).status ≡ held.status
    status_after = took-status false node (s.change ∷ []) (took node s) is.kept (tt, tt) (record {
      taken = s.change ∷ [];
      of_given = λ c h. h;
      covers = λ w. let no : false ≡ true = w in cc;
      members_are = took_all_members node (s ∷ []) (members-IsMemberList node.members is.kept.one_each);
      own_stays = took_all-own node (s ∷ []);
      kept = took_kept node is.kept s free;
    })

    -- a refutation

    refuted_parts : is_refuted node.own (greatest node.members node.own) s.change ≡ true
        → (s.change.address ≡ node.own) × (exceeds s.change held ≡ true) × (not (eqb (rank s.change.status) (rank held.status)) ≡ true)
    refuted_parts e =
        let all : (eqb s.change.address node.own && (exceeds s.change held && not (eqb (rank s.change.status) (rank held.status)))) ≡ true
        = sym (ap (λ (o : Option Change). is_refuted node.own o s.change) held_is) ∙ e in
        let parts = and_parts _ _ all in
        let more = and_parts _ _ parts.1 in
        (eqb-true s.change.address node.own parts.0, more.0, more.1)

    refutation_fits : is_refuted node.own (greatest node.members node.own) s.change ≡ true → In (refutation held s.change) size.changes
    refutation_fits e =
        let parts = refuted_parts e in
        let about : held.address ≡ node.own = address-greatest node.members node.own held held_is in
        closed s.change held fits (is.fit node.own held held_is) (parts.0 ∙ sym about) (ap status_of about ∙ is.own_status)
        (λ same. eqb-false (rank s.change.status) (rank held.status) (not-true (eqb (rank s.change.status) (rank held.status)) parts.2) (ap rank same))

    pub moves-took : Moves node (took node s)
    moves-took = by_refuted (is_refuted node.own (greatest node.members node.own) s.change) refl
      where
        as_taken : (r : Sourced) → alteration node s ≡ Some r → took node s ≡ altered node r
        as_taken r e = ap (λ (o : Option Sourced). altered_by node o) e

        altering : (r : Sourced) → alteration node s ≡ Some r → alters (greatest node.members r.change.address) r.change ≡ true → In r.change size.changes → Moves node (took node s)
        altering r e new fit = subst (λ (n : Node H). Moves node n) (sym (as_taken r e))
            (moves-altered node is r new fit (kept_after r e) (ap (λ (n : Node H). (own_change n).status) (sym (as_taken r e)) ∙ status_after))

        by_news : (b : Bool) → alters (greatest node.members s.change.address) s.change ≡ b → alteration node s ≡ cond b (Some s) None → Moves node (took node s)
        by_news true new e = altering s e new fits
        by_news false old e = subst (λ (o : Option Sourced). Moves node (altered_by node o)) (sym e) (moves-same node is)

        by_refuted : (b : Bool) → is_refuted node.own (greatest node.members node.own) s.change ≡ b → Moves node (took node s)
        by_refuted true e =
            let parts = refuted_parts e in
            let r : Sourced = asserted_by node.own (refutation held s.change) in
            let same : held ≡ is.kept.held = own_change_kept node is.kept in
            altering r
            (ap (λ b. cond b (Some r) (cond (alters (greatest node.members s.change.address) s.change) (Some s) None)) e)
            (alters_held node is.kept (refutation held s.change) (address-greatest node.members node.own held held_is)
            (subst (λ (d : Change). Exceeds (refutation held s.change) d) same (Exceeds-refutation held s.change (Exceeds-true s.change held parts.1))))
            (refutation_fits e)
        by_refuted false e = by_news (alters (greatest node.members s.change.address) s.change) refl
            (ap (λ b. cond b (Some (asserted_by node.own (refutation held s.change))) (cond (alters (greatest node.members s.change.address) s.change) (Some s) None)) e)

  pub moves-took_all : (node : Node H) (ss : List Sourced) → IsFitNode node → NoneRefused node ss → ((s : Sourced) → In s ss → In s.change size.changes) → Moves node (took_all node ss)
  moves-took_all node [] is free fits = moves-same node is
  moves-took_all node (s ∷ ss) is free fits =
      let one = moves-took node is s free.0 (fits s (inl refl)) in
      moves-both node (took node s) (took_all (took node s) ss) one (moves-took_all (took node s) ss one.is free.1 (λ t h. fits t (inr h)))

  -- a message is made

  module _ (node : Node H) (target : ℕ) (is : IsFitNode node) where
    abbrev k : ℕ
    k = node.config.per_message

    after_issue : unsent size.limit (told node target).gossip.pending ≤ unsent size.limit (counted target k node.gossip.pending)
    after_issue = unsent-filter size.limit (λ (p : Pending). nat_lt p.count node.gossip.limit) (counted target k node.gossip.pending)

    unspent : (p : Pending) → In p node.gossip.pending → p.count < size.limit
    unspent p listed =
        let below : p.count < node.gossip.limit = is.kept.unspent p listed in
        omega (arith, below, limit-few node is)

    -- what is issued is counted
    issuing : (s : Sourced) (ss : List Sourced) → issued target k node.gossip.pending ≡ s ∷ ss → unsent size.limit (told node target).gossip.pending + 1 ≤ unsent size.limit node.gossip.pending
    issuing s ss e =
        let less : unsent size.limit (counted target k node.gossip.pending) + 1 ≤ unsent size.limit node.gossip.pending
        = unsent-issued size.limit target k node.gossip.pending s ss e unspent in
        omega (arith, less, after_issue)

    -- where it leaves as much to pass on nothing is issued
    pub told-silent : unsent size.limit node.gossip.pending ≤ unsent size.limit (told node target).gossip.pending → issued target k node.gossip.pending ≡ []
    told-silent h = by_issue (issued target k node.gossip.pending) refl
      where
        by_issue : (l : List Sourced) → issued target k node.gossip.pending ≡ l → issued target k node.gossip.pending ≡ []
        by_issue [] e = e
        by_issue (s ∷ ss) e = absurd (omega (arith, h, issuing s ss e))

    told_less : Less (Some node) (Some (told node target))
    told_less = record {
      news = omega arith;
      work =
          let counted_on : unsent size.limit (counted target k node.gossip.pending) ≤ unsent size.limit node.gossip.pending = unsent-counted size.limit target k node.gossip.pending in
          omega (arith, counted_on, after_issue);
      still = λ h q listed. In-counted target k node.gossip.pending q (In-below node.gossip.limit (counted target k node.gossip.pending) q listed);
    }

    pub moves-told : Moves node (told node target)
    moves-told = record {
      is = record { kept = told_kept node is.kept target; fit = is.fit; own_status = is.own_status; limits = is.limits };
      less = told_less;
    }

    -- what is pending and did not come from the target is issued to it, or others are
    pub told-sent : Sent target (Some node) (Some (told node target))
    told-sent h q listed other = by_issue (issued target k node.gossip.pending) refl
      where
        was : (r : Pending) × In r node.gossip.pending × (r.sourced ≡ q.sourced)
        was = told_less.still h q listed

        goes : In was.0 (filter (may_go_to target) node.gossip.pending)
        goes = filter_in (may_go_to target) was.0 node.gossip.pending was.1
            (ap not (ne_eqb was.0.sourced.source target (λ e. other (ap (λ (s : Sourced). s.source) (sym was.2) ∙ e))))

        some : 1 ≤ k
        some = (limits_within node.config is.kept.configured).some

        by_issue : (l : List Sourced) → issued target k node.gossip.pending ≡ l → unsent size.limit (told node target).gossip.pending + 1 ≤ unsent size.limit node.gossip.pending
        by_issue (s ∷ ss) e = issuing s ss e
        by_issue [] e = absurd (some_taken k (filter (may_go_to target) node.gossip.pending) was.0 some goes e)
