-- Every entry that is held or told in a world has its witness among the events.
use Rattle.std.proofs.Common.{◌≡◌, ◌≢◌, ◌⊎◌, ℕ, ◌+◌, ◌≤◌, Bool, true, false, cond, eqb, ◌&&◌, List, [], ◌∷◌, ◌++◌, length, Option, Some, None, Ok, refl, sym, ◌∙◌, ap, subst, inl, inr, map, append-nil, append_assoc}
use Rattle.std.specs.Option.{option_and_then}
use Rattle.std.proofs.lemmas.Bool.{eq-eqb, eqb-true, eqb-false, false≢true}
use Rattle.change_core.specs.declared.changes.Change.{Change}
use Rattle.change_core.specs.declared.statuses.Status.{Status}
use Rattle.change_core.specs.declared.statuses.Status.TheVariants.{Alive, Suspect, Faulty, Leave, Tombstone}
use Rattle.change_core.specs.Ascending.{In}
use Rattle.change_core.specs.Change.{change_of}
use Rattle.change_core.specs.Members.{greatest, IsMemberList}
use Rattle.change_core.proofs.Members.{IsMemberList-from_members, members-IsMemberList}
use Rattle.change_core.proofs.Order.{in_append}
use Rattle.change_core.proofs.Precedence.{same_change}
use Rattle.detector_core.specs.declared.timers.Timer.{Timer}
use Rattle.detector_core.specs.Probing.{OpenedProbe, ProbeState, running_target, unasked_target}
use Rattle.gossip_core.specs.declared.pending.Pending.{Pending}
use Rattle.message_core.specs.declared.messages.Message.{Message}
use Rattle.node_core.specs.declared.configs.Config.{Config}
use Rattle.node_core.specs.declared.events.Event.{Event}
use Rattle.node_core.specs.declared.events.Event.TheVariants as call
use Rattle.node_core.specs.declared.events.Reply.{Reply}
use Rattle.node_core.specs.declared.events.Reply.TheVariants as answer
use Rattle.node_core.specs.declared.events.Received.{Received}
use Rattle.node_core.specs.declared.events.Received.TheVariants as received
use Rattle.node_core.specs.declared.events.NodeLost.TheVariants as lost
use Rattle.node_core.specs.declared.events.NodeOutcome.TheVariants as answered
use Rattle.node_core.specs.Expiring.{due, expired, timer_of}
use Rattle.node_core.specs.Messages.{carried}
use Rattle.node_core.specs.Node.{Node, altered, asserts, at_moment, birth, has_deadline, next_status, said_by, wait_for}
use Rattle.node_core.specs.Probes.{suspicion_in}
use Rattle.node_core.specs.Run.{given_in, received_in, said_in}
use Rattle.node_core.specs.Step.{NodeStep}
use Rattle.node_core.specs.World.{World, WorldEvent, Starts, Restarts, Calls, Comes, MayHappen, MayAllHappen, happens, world_after, nothing, initial_node, placed_at, begins, called, made_in}
use Rattle.node_core.proofs.Listed.{address-greatest, In-greatest, In-map, In-take}
use Rattle.node_core.proofs.Probed.{IsOfOther, running_other, unasked_other}
use Rattle.node_core.proofs.Suspecting.{suspicion-some}
use Rattle.rand_pcg.specs.Lcg.{Lcg}
use Rattle.laws.specs.Running.{Begins, RunsOn}
use Rattle.laws.specs.Witnesses.{Holds, Tells, CallIn, IsSuspicion, IsSuspected, IsExpiry, Takes, IsExpired, IsDeclaredFaulty, WitnessOf, HasWitness, AllHaveWitnesses, NoneWithoutWitness}
use Rattle.laws.proofs.Altering.{HoldsItself, TimerFrom}
use Rattle.laws.proofs.Calling.{IsCallOf, Puts, IsDue, due_parts, calls_are}
use Rattle.laws.proofs.Rising.{settled-step, world_after-append}

-- a witness among events is one among more of them

module _ {H : Type 0} (events more : List (WorldEvent H)) where
  abbrev CallIn-more : (own : ℕ) → CallIn events own → CallIn (events ++ more) own
  CallIn-more own k = record {
    earlier = k.earlier;
    later = k.later ++ more;
    event = k.event;
    reply = k.reply;
    before = k.before;
    after = k.after;
    placed = ap (λ (es : List (WorldEvent H)). es ++ more) k.placed ∙ append_assoc k.earlier (Calls own k.event k.reply k.after ∷ k.later) more;
    there = k.there;
  }

  suspected-more : (c : Change) → IsSuspected events c → IsSuspected (events ++ more) c
  suspected-more c h = record { own = h.own; another = h.another; call = CallIn-more h.own h.call; alive = h.alive; verdict = h.verdict }

  expired-more : (from to : Status) (wait : Config → ℕ) (witness : List (WorldEvent H) → Change → Type 0) (c : Change)
      → IsExpired from to wait witness events c → IsExpired from to wait witness (events ++ more) c
  expired-more from to wait witness c h = record {
    own = h.own;
    another = h.another;
    call = CallIn-more h.own h.call;
    held = h.held;
    expiry = h.expiry;
    taking = h.taking;
    taken = h.taken;
    runs_on = h.runs_on;
    waited = h.waited;
    witnessed = h.witnessed;
  }

  witness-more : (s : Status) (c : Change) → WitnessOf s events c → WitnessOf s (events ++ more) c
  witness-more Alive c h = tt
  witness-more Suspect c h = suspected-more c h
  witness-more Faulty c h = expired-more Suspect Faulty (λ config. config.suspect_ms) (IsSuspected {H = H}) c h
  witness-more Leave c h = tt
  witness-more Tombstone c h = expired-more Faulty Tombstone (λ config. config.faulty_ms) (IsDeclaredFaulty {H = H}) c h

-- a witness is the same whatever status the entry has since

suspected-as : {H : Type 0} (events : List (WorldEvent H)) (c : Change) (s : Status) → IsSuspected events c → IsSuspected events (record c { status = s })
suspected-as events c s h = record { own = h.own; another = h.another; call = h.call; alive = h.alive; verdict = h.verdict }

faulty-as : {H : Type 0} (events : List (WorldEvent H)) (c : Change) (s : Status) → IsDeclaredFaulty events c → IsDeclaredFaulty events (record c { status = s })
faulty-as events c s h = record {
  own = h.own;
  another = h.another;
  call = h.call;
  held = h.held;
  expiry = h.expiry;
  taking = h.taking;
  taken = h.taken;
  runs_on = h.runs_on;
  waited = h.waited;
  witnessed = suspected-as h.call.earlier c s h.witnessed;
}

-- what its address asserts wants none
asserted-witness : {H : Type 0} (events : List (WorldEvent H)) (c : Change) (s : Status) → asserts s ≡ true → WitnessOf s events c
asserted-witness events c Alive h = tt
asserted-witness events c Suspect h = absurd (false≢true h)
asserted-witness events c Faulty h = absurd (false≢true h)
asserted-witness events c Leave h = tt
asserted-witness events c Tombstone h = absurd (false≢true h)

-- how things stand after some events

-- the node at an address took an entry in a call, for which its timer is set, and ran on
record IsTakenAt {H : Type 0} (events : List (WorldEvent H)) (own : ℕ) (config : Config) (c : Change) (t : Timer) : Type 0 where
  taking : CallIn events own
  taken : Takes taking.before taking.after c
  runs_on : RunsOn own taking.later
  deadline_is : t.deadline ≡ taking.after.moment + wait_for config c.status

record NodeStands {H : Type 0} (events : List (WorldEvent H)) (a : ℕ) (node : Node H) : Type 0 where
  is_own : node.own ≡ a
  listed : IsMemberList node.members
  itself : HoldsItself node
  others : IsOfOther node.own node.probing
  known : (c : Change) → Holds node c → HasWitness events c
  timed : (b : ℕ) (c : Change) (t : Timer) → b ≢ node.own → greatest node.members b ≡ Some c → has_deadline c.status ≡ true → timer_of node.timers b ≡ Some t → IsTakenAt events a node.config c t

record WorldStands {H : Type 0} (events : List (WorldEvent H)) (w : World H) : Type 0 where
  reached : world_after nothing events ≡ w
  nodes : (a : ℕ) (node : Node H) → w.nodes a ≡ Some node → NodeStands events a node
  told : (message : Message) (c : Change) → In message w.messages → Tells message c → HasWitness events c

-- an event of another node changes nothing for this one

taken-more : {H : Type 0} (events : List (WorldEvent H)) (e : WorldEvent H) (own : ℕ) (config : Config) (c : Change) (t : Timer) → (Begins own e → ⊥)
    → IsTakenAt events own config c t → IsTakenAt (events ++ e ∷ []) own config c t
taken-more {H} events e own config c t on h = record {
  taking = CallIn-more events (e ∷ []) own h.taking;
  taken = h.taken;
  runs_on = λ d k. elim (in_append d h.taking.later (e ∷ []) k) [ inl j ↦ h.runs_on d j | inr j ↦ of_one d j ];
  deadline_is = h.deadline_is;
}
  where
    of_one : (d : WorldEvent H) → In d (e ∷ []) → Begins own d → ⊥
    of_one d (inl same) b = on (subst (λ (x : WorldEvent H). Begins own x) same b)
    of_one d (inr j) b = j

stands-more : {H : Type 0} (events : List (WorldEvent H)) (e : WorldEvent H) (a : ℕ) (node : Node H) → (Begins a e → ⊥) → NodeStands events a node → NodeStands (events ++ e ∷ []) a node
stands-more events e a node on h = record {
  is_own = h.is_own;
  listed = h.listed;
  itself = h.itself;
  others = h.others;
  known = λ c k. witness-more events (e ∷ []) c.status c (h.known c k);
  timed = λ b c t other held has k. taken-more events e a node.config c t on (h.timed b c t other held has k);
}

-- a node put at its address
placed_stands : {H : Type 0} (events : List (WorldEvent H)) (e : WorldEvent H) (w : World H) (own : ℕ) (node : Node H) → WorldStands events w
    → ((a : ℕ) → a ≢ own → Begins a e → ⊥) → NodeStands (events ++ e ∷ []) own node
    → (a : ℕ) (n : Node H) → placed_at own node w.nodes a ≡ Some n → NodeStands (events ++ e ∷ []) a n
placed_stands {H} events e w own node stands apart new a n placed = by_address (eqb a own) refl placed
  where
    by_address : (b : Bool) → eqb a own ≡ b → cond b (Some node) (w.nodes a) ≡ Some n → NodeStands (events ++ e ∷ []) a n
    by_address true t k =
        let same : node ≡ n = cc in
        subst (λ (x : Node H). NodeStands (events ++ e ∷ []) a x) same (subst (λ (x : ℕ). NodeStands (events ++ e ∷ []) x node) (sym (eqb-true a own t)) new)
    by_address false t k = stands-more events e a n (apart a (eqb-false a own t)) (stands.nodes a n k)

-- a node begins

initial_node_stands : {H : Type 0} (events : List (WorldEvent H)) (hash : H) (config : Config) (own incarnation moment : ℕ) (generator : Lcg)
    → NodeStands events own (initial_node hash config own incarnation moment generator)
initial_node_stands {H} events hash config own incarnation moment generator = record {
  is_own = refl;
  listed = (tt, tt);
  itself = (birth own incarnation config.weight, ap (λ b. cond b (Some (birth own incarnation config.weight)) None) (eq-eqb own own refl), refl);
  others = λ p e. cc;
  known = known;
  timed = λ b c t other held has k. cc;
}
  where
    known : (c : Change) → Holds (initial_node hash config own incarnation moment generator) c → HasWitness events c
    known c (inl (inl e)) = subst (λ (x : Change). HasWitness events x) (sym e) tt
    known c (inl (inr k)) = absurd k
    known c (inr (p, inl e, about)) = subst (λ (x : Change). HasWitness events x) (ap (λ (q : Pending). q.sourced.change) (sym e) ∙ about) tt
    known c (inr (p, inr k, about)) = absurd k

begins_stands : {H : Type 0} (events : List (WorldEvent H)) (e : WorldEvent H) (w : World H) (hash : H) (config : Config) (own incarnation moment : ℕ) (generator : Lcg)
    → happens w e ≡ begins w hash config own incarnation moment generator → ((a : ℕ) → a ≢ own → Begins a e → ⊥) → WorldStands events w
    → WorldStands (events ++ e ∷ []) (begins w hash config own incarnation moment generator)
begins_stands {H} events e w hash config own incarnation moment generator is apart stands = record {
  reached = world_after-append events (e ∷ []) nothing ∙ ap (λ (x : World H). happens x e) stands.reached ∙ is;
  nodes = placed_stands events e w own (initial_node hash config own incarnation moment generator) stands apart
      (initial_node_stands (events ++ e ∷ []) hash config own incarnation moment generator);
  told = λ m c h t. witness-more events (e ∷ []) c.status c (stands.told m c h t);
}

-- a call of a node

-- a probe that asked no helper yet runs
running-unasked : (s : ProbeState) (number target : ℕ) → unasked_target s number ≡ Some target → running_target s number ≡ Some target
running-unasked s number target e = by_running s.running e
  where
    by_tests : (p : OpenedProbe) (b d : Bool) → cond (b && d) (Some p.target) None ≡ Some target → cond b (Some p.target) None ≡ Some target
    by_tests p true true k = k
    by_tests p true false k = cc
    by_tests p false d k = k

    by_running : (o : Option OpenedProbe) → option_and_then (λ a. cond (eqb number s.last && eqb (length a.asked) 0) (Some a.target) None) o ≡ Some target
        → option_and_then (λ a. cond (eqb number s.last) (Some a.target) None) o ≡ Some target
    by_running None k = k
    by_running (Some p) k = by_tests p (eqb number s.last) (eqb (length p.asked) 0) k

-- what a call is given stands in a message that came
given_told : {H : Type 0} (events : List (WorldEvent H)) (messages : List Message) → ((m : Message) (c : Change) → In m messages → Tells m c → HasWitness events c)
    → (event : Event) (reply : Reply) (c : Change) → Comes messages event → In c (given_in event reply) → HasWitness events c
given_told events messages told (call.Take given moment) reply c comes h = absurd comes
given_told {H} events messages told (call.Receive message moment) (answer.Receive r) c comes h = of_received r h
  where
    of_all : In c (map change_of (carried message.content)) → HasWitness events c
    of_all k = let r = In-map change_of c (carried message.content) k in told message c comes (r.0, r.1, r.2)

    of_received : (r : Received) → In c (received_in (map change_of (carried message.content)) r) → HasWitness events c
    of_received (received.Done t) k = of_all k
    of_received (received.Answer t made) k = of_all k
    of_received (received.NoAnswer t) k = of_all k
    of_received (received.Stopped s) k = of_all (In-take s.taken c (map change_of (carried message.content)) k)
    of_received received.NotGossip k = absurd k
given_told events messages told event reply c comes h = absurd h

module _ {H : Type 0} (hash_of : H → List ℕ → ℕ) (events : List (WorldEvent H)) (own : ℕ) (event : Event) (reply : Reply) (before after : Node H)
    (there : (world_after nothing events).nodes own ≡ Some before) (old : NodeStands events own before) (step : NodeStep hash_of before event reply after) where
  -- this call, the last of the events
  abbrev more : List (WorldEvent H)
  more = events ++ Calls own event reply after ∷ []

  abbrev this : CallIn more own
  this = record { earlier = events; later = []; event = event; reply = reply; before = before; after = after; placed = refl; there = there }

  another : (a : ℕ) → a ≢ before.own → own ≢ a
  another a other e = other (sym e ∙ sym old.is_own)

  -- a verdict witnesses a suspicion
  verdict_witness : (target : ℕ) (c : Change) → target ≢ before.own → Some c ≡ suspicion_in (greatest before.members target)
      → ((d : Change) → d.address ≡ target → c ≡ d → IsSuspicion before event reply d) → HasWitness more c
  verdict_witness target c other is verdict =
      let s = suspicion-some before.members target c (sym is) in
      let about : s.held.address ≡ target = address-greatest before.members target s.held s.held_is in
      let as_alive : s.held ≡ record s.held { status = Alive } = same_change s.held (record s.held { status = Alive }) refl refl s.alive refl in
      subst (λ (x : Change). HasWitness more x) (sym s.same) (of_held s.held about (s.held_is ∙ ap Some as_alive) (verdict (record s.held { status = Suspect }) about s.same))
    where
      of_held : (h : Change) → h.address ≡ target → greatest before.members target ≡ Some (record h { status = Alive }) → IsSuspicion before event reply (record h { status = Suspect })
          → IsSuspected more (record h { status = Suspect })
      of_held h about alive v = record {
        own = own;
        another = another h.address (λ e. other (sym about ∙ e));
        call = this;
        alive = ap (greatest before.members) about ∙ alive;
        verdict = v;
      }

  -- an expiry witnesses what it makes of an entry
  expiry_witness : (moment : ℕ) (entry change : Change) → due (at_moment before moment) ≡ Some entry → change ≡ expired entry → after ≡ altered (at_moment before moment) (said_by before change)
      → ((c : Change) → change ≡ c → IsExpiry event reply c) → HasWitness more (expired entry)
  expiry_witness moment entry change due_is becomes after_is expiry =
      by_status entry.status refl (old.known entry (inl (In-greatest before.members entry.address entry d.held))) waited d.dated
    where
      d : IsDue before moment entry
      d = due_parts before old.listed moment entry due_is

      set : IsTakenAt events own before.config entry d.timer
      set = old.timed entry.address entry d.timer d.another d.held d.dated d.timer_is

      waited : set.taking.after.moment + wait_for before.config entry.status ≤ after.moment
      waited = subst (λ (n : ℕ). n ≤ after.moment) set.deadline_is
          (subst (λ (n : ℕ). d.timer.deadline ≤ n) (ap (λ (n : Node H). n.moment) (sym after_is)) d.reached)

      as_is : (s : Status) → entry.status ≡ s → entry ≡ record entry { status = s }
      as_is s e = same_change entry (record entry { status = s }) refl refl e refl

      by_status : (s : Status) → entry.status ≡ s → WitnessOf s events entry → set.taking.after.moment + wait_for before.config s ≤ after.moment → has_deadline s ≡ true
          → WitnessOf (next_status s) more (expired entry)
      by_status Alive e w waited h = absurd (false≢true h)
      by_status Suspect e w waited h = record {
        own = own;
        another = another entry.address d.another;
        call = this;
        held = d.held ∙ ap Some (as_is Suspect e);
        expiry = expiry (record entry { status = Faulty }) (becomes ∙ ap (λ (s : Status). record entry { status = next_status s }) e);
        taking = set.taking;
        taken = subst (λ (c : Change). Takes set.taking.before set.taking.after c) (as_is Suspect e) set.taken;
        runs_on = set.runs_on;
        waited = waited;
        witnessed = suspected-as events entry (next_status entry.status) w;
      }
      by_status Faulty e w waited h = record {
        own = own;
        another = another entry.address d.another;
        call = this;
        held = d.held ∙ ap Some (as_is Faulty e);
        expiry = expiry (record entry { status = Tombstone }) (becomes ∙ ap (λ (s : Status). record entry { status = next_status s }) e);
        taking = set.taking;
        taken = subst (λ (c : Change). Takes set.taking.before set.taking.after c) (as_is Faulty e) set.taken;
        runs_on = set.runs_on;
        waited = waited;
        witnessed = faulty-as events entry (next_status entry.status) w;
      }
      by_status Leave e w waited h = absurd (false≢true h)
      by_status Tombstone e w waited h = absurd (false≢true h)

module _ {H : Type 0} (hash_of : H → List ℕ → ℕ) (events : List (WorldEvent H)) (own : ℕ) (before : Node H) (there : (world_after nothing events).nodes own ≡ Some before)
    (old : NodeStands events own before) where
  -- what a call says witnesses itself
  said_witness : (event : Event) (reply : Reply) (after : Node H) → NodeStep hash_of before event reply after → (c : Change) → In c (said_in reply)
      → HasWitness (events ++ Calls own event reply after ∷ []) c
  said_witness event (answer.Leave (Ok change)) after step c (inl same) = of_event event step
    where
      of_event : (event : Event) → NodeStep hash_of before event (answer.Leave (Ok change)) after → HasWitness (events ++ Calls own event (answer.Leave (Ok change)) after ∷ []) c
      of_event call.Leave step = asserted-witness _ c c.status (ap (λ (x : Change). asserts x.status) (same ∙ step.1))
      of_event event step = elim step [ ]
  said_witness event (answer.Rejoin (Ok change)) after step c (inl same) = of_event event step
    where
      of_event : (event : Event) → NodeStep hash_of before event (answer.Rejoin (Ok change)) after → HasWitness (events ++ Calls own event (answer.Rejoin (Ok change)) after ∷ []) c
      of_event call.Rejoin step = asserted-witness _ c c.status (ap (λ (x : Change). asserts x.status) (same ∙ step.2))
      of_event event step = elim step [ ]
  said_witness event (answer.Expire (Ok (Some change))) after step c (inl same) = of_event event step
    where
      of_event : (event : Event) → NodeStep hash_of before event (answer.Expire (Ok (Some change))) after → HasWitness (events ++ Calls own event (answer.Expire (Ok (Some change))) after ∷ []) c
      of_event (call.Expire moment) step =
          subst (λ (x : Change). HasWitness (events ++ Calls own (call.Expire moment) (answer.Expire (Ok (Some change))) after ∷ []) x) (sym (same ∙ step.2))
          (expiry_witness hash_of events own (call.Expire moment) (answer.Expire (Ok (Some change))) before after there old step moment step.0 change step.1 step.2 step.3 (λ x e. e))
      of_event event step = elim step [ ]
  said_witness event (answer.Lost (Ok (lost.Suspect (Some change)))) after step c (inl same) = of_event event step
    where
      of_event : (event : Event) → NodeStep hash_of before event (answer.Lost (Ok (lost.Suspect (Some change)))) after
          → HasWitness (events ++ Calls own event (answer.Lost (Ok (lost.Suspect (Some change)))) after ∷ []) c
      of_event (call.Lost number moment) step =
          subst (λ (x : Change). HasWitness (events ++ Calls own (call.Lost number moment) (answer.Lost (Ok (lost.Suspect (Some change)))) after ∷ []) x) (sym same)
          (verdict_witness hash_of events own (call.Lost number moment) (answer.Lost (Ok (lost.Suspect (Some change)))) before after there old step step.0 change
          (unasked_other before.own before.probing old.others number step.0 step.1) step.3.change_is
          (λ d about e. (running-unasked before.probing number step.0 step.1 ∙ ap Some (sym about), e)))
      of_event event step = elim step [ ]
  said_witness event (answer.HelperSaid (Ok (answered.Suspect (Some change)))) after step c (inl same) = of_event event step
    where
      of_event : (event : Event) → NodeStep hash_of before event (answer.HelperSaid (Ok (answered.Suspect (Some change)))) after
          → HasWitness (events ++ Calls own event (answer.HelperSaid (Ok (answered.Suspect (Some change)))) after ∷ []) c
      of_event (call.HelperSaid number helper said moment) step =
          subst (λ (x : Change). HasWitness (events ++ Calls own (call.HelperSaid number helper said moment) (answer.HelperSaid (Ok (answered.Suspect (Some change)))) after ∷ []) x) (sym same)
          (verdict_witness hash_of events own (call.HelperSaid number helper said moment) (answer.HelperSaid (Ok (answered.Suspect (Some change)))) before after there old step step.0 change
          (running_other before.own before.probing old.others number step.0 step.2) step.3.change_is
          (λ d about e. (step.2 ∙ ap Some (sym about), e)))
      of_event event step = elim step [ ]
  said_witness event (answer.Leave (Ok change)) after step c (inr h) = absurd h
  said_witness event (answer.Rejoin (Ok change)) after step c (inr h) = absurd h
  said_witness event (answer.Expire (Ok (Some change))) after step c (inr h) = absurd h
  said_witness event (answer.Lost (Ok (lost.Suspect (Some change)))) after step c (inr h) = absurd h
  said_witness event (answer.HelperSaid (Ok (answered.Suspect (Some change)))) after step c (inr h) = absurd h
  said_witness event reply after step c h = absurd h

  module _ (messages : List Message) (told : (m : Message) (c : Change) → In m messages → Tells m c → HasWitness events c) (event : Event) (reply : Reply) (after : Node H)
      (comes : Comes messages event) (step : NodeStep hash_of before event reply after) where
    is : IsCallOf before event reply after
    is = calls_are hash_of before old.listed old.itself old.others event reply after step

    puts_witness : (c : Change) → Puts event reply c → HasWitness (events ++ Calls own event reply after ∷ []) c
    puts_witness c (inl given) = witness-more events (Calls own event reply after ∷ []) c.status c (given_told events messages told event reply c comes given)
    puts_witness c (inr (inl mine)) = asserted-witness (events ++ Calls own event reply after ∷ []) c c.status mine
    puts_witness c (inr (inr said)) = said_witness event reply after step c said

    held_witness : (c : Change) → Holds before c ⊎ Puts event reply c → HasWitness (events ++ Calls own event reply after ∷ []) c
    held_witness c (inl held) = witness-more events (Calls own event reply after ∷ []) c.status c (old.known c held)
    held_witness c (inr put) = puts_witness c put

    call_stands : NodeStands (events ++ Calls own event reply after ∷ []) own after
    call_stands = record {
      is_own = is.alters.own_is ∙ old.is_own;
      listed = IsMemberList-from_members after.members (settled-step hash_of before after event reply (members-IsMemberList before.members old.listed) step);
      itself = is.alters.itself old.itself;
      others = subst (λ (a : ℕ). IsOfOther a after.probing) (sym is.alters.own_is) is.others;
      known = λ c h. held_witness c (is.alters.known c h);
      timed = λ b c t other held has k. by_timer b c t (λ e. other (e ∙ sym is.alters.own_is)) held has
          (is.alters.timers b c t (λ e. other (e ∙ sym is.alters.own_is)) held has k);
    }
      where
        by_timer : (b : ℕ) (c : Change) (t : Timer) → b ≢ before.own → greatest after.members b ≡ Some c → has_deadline c.status ≡ true → TimerFrom before after b c t
            → IsTakenAt (events ++ Calls own event reply after ∷ []) own after.config c t
        by_timer b c t other held has (inl same) =
            subst (λ (f : Config). IsTakenAt (events ++ Calls own event reply after ∷ []) own f c t) (sym is.alters.config_is)
            (taken-more events (Calls own event reply after) own before.config c t (λ h. h) (old.timed b c t other same.0 has same.1))
        by_timer b c t other held has (inr set) =
            let about : c.address ≡ b = address-greatest after.members b c held in
            record {
              taking = record { earlier = events; later = []; event = event; reply = reply; before = before; after = after; placed = refl; there = there };
              taken = (λ h. set.0 (ap (greatest before.members) (sym about) ∙ h), ap (greatest after.members) about ∙ held);
              runs_on = λ e h k. h;
              deadline_is = set.1;
            }

calls_stand : {H : Type 0} (hash_of : H → List ℕ → ℕ) (events : List (WorldEvent H)) (w : World H) (own : ℕ) (event : Event) (reply : Reply) (before after : Node H) → WorldStands events w
    → w.nodes own ≡ Some before → Comes w.messages event → NodeStep hash_of before event reply after
    → WorldStands (events ++ Calls own event reply after ∷ []) (called w (Some before) own event reply after)
calls_stand {H} hash_of events w own event reply before after stands placed comes step = record {
  reached = world_after-append events (Calls own event reply after ∷ []) nothing ∙ ap (λ (x : World H). happens x (Calls own event reply after)) stands.reached
      ∙ ap (λ (o : Option (Node H)). called w o own event reply after) placed;
  nodes = placed_stands events (Calls own event reply after) w own after stands (λ a other h. h)
      (call_stands hash_of events own before there old w.messages stands.told event reply after comes step);
  told = λ m c h t. by_message m c t (in_append m w.messages (made_in reply) h);
}
  where
    there : (world_after nothing events).nodes own ≡ Some before
    there = ap (λ (x : World H). x.nodes own) stands.reached ∙ placed

    old : NodeStands events own before
    old = stands.nodes own before placed

    by_message : (m : Message) (c : Change) → Tells m c → In m w.messages ⊎ In m (made_in reply) → HasWitness (events ++ Calls own event reply after ∷ []) c
    by_message m c t (inl k) = witness-more events (Calls own event reply after ∷ []) c.status c (stands.told m c k t)
    by_message m c t (inr k) = held_witness hash_of events own before there old w.messages stands.told event reply after comes step c
        ((calls_are hash_of before old.listed old.itself old.others event reply after step).told m c k t)

-- any events

happens_stands : {H : Type 0} (hash_of : H → List ℕ → ℕ) (events : List (WorldEvent H)) (w : World H) (e : WorldEvent H) → WorldStands events w → MayHappen hash_of w e
    → WorldStands (events ++ e ∷ []) (happens w e)
happens_stands hash_of events w (Starts hash config own incarnation moment generator) stands may =
    begins_stands events (Starts hash config own incarnation moment generator) w hash config own incarnation moment generator refl (λ a other h. other (sym h)) stands
happens_stands hash_of events w (Restarts hash config own incarnation moment generator) stands may =
    begins_stands events (Restarts hash config own incarnation moment generator) w hash config own incarnation moment generator refl (λ a other h. other (sym h)) stands
happens_stands {H} hash_of events w (Calls own event reply after) stands may =
    subst (λ (o : Option (Node H)). WorldStands (events ++ Calls own event reply after ∷ []) (called w o own event reply after)) (sym may.1)
    (calls_stand hash_of events w own event reply may.0 after stands may.1 may.2 may.3)

all_stand : {H : Type 0} (hash_of : H → List ℕ → ℕ) (past events : List (WorldEvent H)) (w : World H) → WorldStands past w → MayAllHappen hash_of w events
    → (now : World H) × WorldStands (past ++ events) now
all_stand {H} hash_of past [] w stands may = (w, subst (λ (es : List (WorldEvent H)). WorldStands es w) (sym (append-nil past)) stands)
all_stand {H} hash_of past (e ∷ events) w stands may =
    let rest = all_stand hash_of (past ++ e ∷ []) events (happens w e) (happens_stands hash_of past w e stands may.0) may.1 in
    (rest.0, subst (λ (es : List (WorldEvent H)). WorldStands es rest.0) (append_assoc past (e ∷ []) events) rest.1)

pub none_without_witness : {H : Type 0} (hash_of : H → List ℕ → ℕ) → NoneWithoutWitness hash_of
none_without_witness {H} hash_of events may = by_world (all_stand hash_of [] events nothing (record { reached = refl; nodes = λ a n e. cc; told = λ m c h t. absurd h }) may)
  where
    by_world : (now : World H) × WorldStands events now → AllHaveWitnesses events
    by_world (now, stands) = record {
      held = λ a node c e h. (stands.nodes a node (ap (λ (x : World H). x.nodes a) (sym stands.reached) ∙ e)).known c h;
      told = λ m c h t. stands.told m c (subst (λ (x : World H). In m x.messages) stands.reached h) t;
    }
