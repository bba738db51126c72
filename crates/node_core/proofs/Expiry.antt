-- The entry that is due first is that of the timer that is due first.
use Rattle.std.proofs.Common.{◌≡◌, ℕ, zero, suc, ◌<◌, ◌≤◌, Bool, true, false, cond, not, eqb, List, [], ◌∷◌, map, Option, Some, None, refl, sym, ◌∙◌, ap, subst, inl, inr, arith}
use Rattle.std.specs.Prelude.{option_map, All, IfSome}
use Rattle.std.proofs.lemmas.List.Elements.{All-contains}
use Rattle.std.specs.List.{find}
use Rattle.std.proofs.lemmas.Bool.{eqb-true, eqb-false, eq-eqb, ne_eqb, and_parts, and_from, false≢true, not-true, leb-true, le-leb}
use Rattle.change_core.specs.declared.changes.Change.{Change}
use Rattle.change_core.specs.declared.statuses.Status.{Status}
use Rattle.change_core.specs.declared.statuses.Status.TheVariants.{Alive, Suspect, Faulty, Leave, Tombstone}
use Rattle.change_core.specs.Ascending.{In}
use Rattle.change_core.specs.Members.{greatest, IsMemberList, address_of_change, AllAbove}
use Rattle.change_core.specs.Status.{rank}
use Rattle.change_core.proofs.Precedence.{same_change}
use Rattle.detector_core.specs.declared.timers.Timer.{Timer}
use Rattle.detector_core.specs.declared.timers.Due.{Due}
use Rattle.detector_core.specs.Timers.{due_at, IsAscending, IsLeastDue}
use Rattle.detector_core.proofs.TimerLemmas.{gives_least_due}
use Rattle.hash_ring.proofs.FreshPoints.{in_of_contains, contains_of_in}
use Rattle.hash_ring.proofs.Placed.{at_in}
use Rattle.member_core.specs.declared.verdicts.Verdict.TheVariants.{Take}
use Rattle.member_core.specs.Membership.{judged}
use Rattle.node_core.specs.Edits.{membership_of}
use Rattle.node_core.specs.Expiring.{due, expired, is_due, is_reached, timer_of}
use Rattle.node_core.specs.Invariant.{IsNode, Purpose, purpose, purpose_of}
use Rattle.node_core.specs.Node.{Node, at_moment, has_deadline, is_timed, next_status}
use Rattle.node_core.specs.Parts.{Parts, AreParts, node_of}
use Rattle.node_core.proofs.Editing.{judged-known}
use Rattle.node_core.proofs.Listed.{In-find, In-greatest, address-greatest}

All-In : {X : Type 0} (P : X → Type 0) (xs : List X) (x : X) → All P xs → In x xs → P x
All-In P xs x all h = All-contains P xs x all (contains_of_in x xs h)

-- the timer of an address is the one of the list about it
timer_of-In : (ts : List Timer) (t : Timer) → IsAscending ts → In t ts → timer_of ts t.address ≡ Some t
timer_of-In [] t rising h = absurd h
timer_of-In (u ∷ ts) t rising (inl e) =
    ap (λ b. cond b (Some u) (timer_of ts t.address)) (eq-eqb u.address t.address (ap (λ (x : Timer). x.address) (sym e))) ∙ ap (λ (x : Timer). Some x) (sym e)
timer_of-In (u ∷ ts) t rising (inr h) =
    let at = at_in t ts h in
    let below : u.address < t.address
    = subst (λ (x : Timer). u.address < x.address) (at.2 u) (rising zero (suc at.0) u (omega arith) (omega (arith, at.1))) in
    ap (λ b. cond b (Some u) (timer_of ts t.address)) (ne_eqb u.address t.address (λ e. omega (arith, e, below)))
    ∙ timer_of-In ts t (λ i j d low within. rising (suc i) (suc j) d (omega (arith, low)) (omega (arith, within))) h

above-In : (m : ℕ) (M : List Change) (c : Change) → AllAbove m (map address_of_change M) → In c M → m < c.address
above-In m [] c h k = absurd k
above-In m (d ∷ M) c h (inl e) = subst (λ (x : Change). m < x.address) (sym e) h.0
above-In m (d ∷ M) c h (inr k) = above-In m M c h.1 k

-- the first that passes is the one of the least address
find_least : (test : Change → Bool) (M : List Change) (c : Change) → IsMemberList M → In c M → test c ≡ true → ((d : Change) → In d M → test d ≡ true → c.address ≤ d.address) → find test M ≡ Some c
find_least test [] c one h e least = absurd h
find_least test (x ∷ M) c one h e least = by_test (test x) refl h (λ k. find_least test M c one.1 k e (λ d j f. least d (inr j) f))
  where
    by_test : (b : Bool) → test x ≡ b → In c (x ∷ M) → (In c M → find test M ≡ Some c) → cond b (Some x) (find test M) ≡ Some c
    by_test true f (inl same) again = ap (λ (y : Change). Some y) (sym same)
    by_test true f (inr k) again = absurd (omega (arith, above-In x.address M c one.0 k, least x (inl refl) f))
    by_test false f (inl same) again = absurd (false≢true (sym f ∙ ap test (sym same) ∙ e))
    by_test false f (inr k) again = again k

-- an entry that has a timer is another's, suspect or faulty
pub record HasPurpose (own : ℕ) (held : Option Change) (p : Purpose) : Type 0 where
  pub entry : Change
  pub entry_is : held ≡ Some entry
  pub timed : is_timed own entry ≡ true
  pub incarnation_is : p.0 ≡ entry.incarnation
  pub next_is : p.1 ≡ next_status entry.status

purpose-some : (own : ℕ) (o : Option Change) (p : Purpose) → Some p ≡ purpose own o → HasPurpose own o p
purpose-some own None p e = cc
purpose-some own (Some c) p e = by_test (is_timed own c) refl e
  where
    by_test : (b : Bool) → is_timed own c ≡ b → Some p ≡ cond b (Some (c.incarnation, next_status c.status)) None → HasPurpose own (Some c) p
    by_test true f k =
        let same : p ≡ (c.incarnation, next_status c.status) = cc in
        record { entry = c; entry_is = refl; timed = f; incarnation_is = ap (λ (x : Purpose). x.0) same; next_is = ap (λ (x : Purpose). x.1) same }
    by_test false f k = cc

reached-some : (now : ℕ) (o : Option Timer) → is_reached now o ≡ true → (t : Timer) × (o ≡ Some t) × (t.deadline ≤ now)
reached-some now None e = absurd (false≢true e)
reached-some now (Some t) e = (t, refl, leb-true t.deadline now e)

pub later : (s : Status) → has_deadline s ≡ true → rank s < rank (next_status s)
later Alive h = absurd (false≢true h)
later Suspect h = omega arith
later Faulty h = omega arith
later Leave h = absurd (false≢true h)
later Tombstone h = absurd (false≢true h)

-- what is due by the timers: an entry that is held, of another
pub record IsDue {H : Type 0} (node : Node H) (d : Due) : Type 0 where
  pub entry : Change
  pub held : greatest node.members d.address ≡ Some entry
  pub first : due node ≡ Some entry
  pub incarnation_is : d.incarnation ≡ entry.incarnation
  pub next_is : d.next ≡ next_status entry.status
  pub timed : is_timed node.own entry ≡ true

module _ {H : Type 0} (node : Node H) (kept : IsNode node) (rising : IsAscending node.timers) where
  -- a due entry has a timer past its deadline
  timer-due : (c : Change) → is_due node c ≡ true → (t : Timer) × (timer_of node.timers c.address ≡ Some t) × (t.deadline ≤ node.moment)
  timer-due c e = reached-some node.moment (timer_of node.timers c.address) (and_parts (is_timed node.own c) (is_reached node.moment (timer_of node.timers c.address)) e).1

  pub due-none : due_at node.timers node.moment ≡ None → due node ≡ None
  due-none e = by_find (due node) refl
    where
      by_find : (o : Option Change) → due node ≡ o → o ≡ None
      by_find None f = refl
      by_find (Some c) f =
          let found = In-find (is_due node) c node.members f in
          let r = timer-due c found.1 in
          let runs = In-find (λ (t : Timer). eqb t.address c.address) r.0 node.timers r.1 in
          let none : All (λ t. node.moment < t.deadline) node.timers = (gives_least_due node.timers node.moment rising).none.0 e in
          absurd (omega (arith, All-In (λ (t : Timer). node.moment < t.deadline) node.timers r.0 none runs.0, r.2))

  least : (d : Due) → due_at node.timers node.moment ≡ Some d → IsLeastDue node.timers node.moment d
  least d e = subst (λ (o : Option Due). IfSome o (IsLeastDue node.timers node.moment)) e (gives_least_due node.timers node.moment rising).some

  pub due-some : (d : Due) → due_at node.timers node.moment ≡ Some d → IsDue node d
  due-some d e =
      let l = least d e in
      let runs : In l.timer node.timers = in_of_contains l.timer node.timers l.runs in
      let of_d : timer_of node.timers d.address ≡ Some l.timer
      = ap (timer_of node.timers) (ap (λ (x : Due). x.address) l.same) ∙ timer_of-In node.timers l.timer rising runs in
      let h : HasPurpose node.own (greatest node.members d.address) (purpose_of l.timer)
      = purpose-some node.own (greatest node.members d.address) (purpose_of l.timer) (sym (ap (option_map purpose_of) of_d) ∙ kept.timed d.address) in
      let about : h.entry.address ≡ d.address = address-greatest node.members d.address h.entry h.entry_is in
      let reached : is_reached node.moment (timer_of node.timers h.entry.address) ≡ true
      = ap (λ (a : ℕ). is_reached node.moment (timer_of node.timers a)) about ∙ ap (is_reached node.moment) of_d ∙ le-leb l.timer.deadline node.moment l.past in
      record {
        entry = h.entry;
        held = h.entry_is;
        first = find_least (is_due node) node.members h.entry kept.one_each (In-greatest node.members d.address h.entry h.entry_is) (and_from _ _ h.timed reached)
            (λ c j f. let r = timer-due c f in
            let there = In-find (λ (t : Timer). eqb t.address c.address) r.0 node.timers r.1 in
            let low : d.address ≤ r.0.address = All-In (λ (t : Timer). t.deadline ≤ node.moment → d.address ≤ t.address) node.timers r.0 l.least there.0 r.2 in
            omega (arith, about, low, eqb-true r.0.address c.address there.1));
        incarnation_is = ap (λ (x : Due). x.incarnation) l.same ∙ h.incarnation_is;
        next_is = ap (λ (x : Due). x.next) l.same ∙ h.next_is;
        timed = h.timed;
      }

-- what is due becomes this change, where the weight is the held one
abbrev pub change_due : Due → ℕ → Change
change_due d weight = record { address = d.address; incarnation = d.incarnation; status = d.next; weight = weight }

module _ {H : Type 0} (node : Node H) (d : Due) (is : IsDue node d) (weight : ℕ) (same : weight ≡ is.entry.weight) where
  change_due-expired : change_due d weight ≡ expired is.entry
  change_due-expired = same_change (change_due d weight) (expired is.entry) (sym (address-greatest node.members d.address is.entry is.held)) (is.incarnation_is) (is.next_is) same

  pub some-due : Some (change_due d weight) ≡ option_map expired (due node)
  some-due = ap (λ (c : Change). Some c) change_due-expired ∙ ap (option_map expired) (sym is.first)

-- and that is taken
pub judged-due : {H : Type 0} (hash_of : H → List ℕ → ℕ) (p : Parts H) → AreParts hash_of p → (moment : ℕ) (d : Due) → (is : IsDue (at_moment (node_of p) moment) d) → (weight : ℕ) → weight ≡ is.entry.weight
    → judged (membership_of (node_of p)) (change_due d weight) ≡ Take (change_due d weight)
judged-due hash_of p parts moment d is weight same =
    let c : Change = is.entry in
    let timed = and_parts (has_deadline c.status) (not (eqb c.address p.members.own.address)) is.timed in
    let held : greatest p.members.members c.address ≡ Some c = ap (greatest p.members.members) (address-greatest p.members.members d.address c is.held) ∙ is.held in
    subst (λ (x : Change). judged (membership_of (node_of p)) x ≡ Take x) (sym (change_due-expired (at_moment (node_of p) moment) d is weight same))
    (judged-known hash_of p parts (expired c) c (eqb-false c.address p.members.own.address (not-true (eqb c.address p.members.own.address) timed.1)) held
    (inr (refl, inl (later c.status timed.0))))
