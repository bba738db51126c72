-- A call in a world that makes no change of its own delivers a message and may send one, so worlds converge as networks do.
use Rattle.std.proofs.Common.{arith, ◌≡◌, ◌≢◌, ◌⊎◌, ℕ, zero, suc, Bool, true, cond, List, [], ◌∷◌, ◌++◌, Option, Some, None, Ok, map, take, append-nil, length, slice_get, refl, sym, ◌∙◌, ap, subst, inl, inr}
use Rattle.std.specs.List.{Contains}
use Rattle.std.proofs.lemmas.Bool.{cases_eq, eq-eqb, ne_eqb}
use Rattle.change_core.specs.declared.changes.Change.{Change}
use Rattle.change_core.specs.Ascending.{In}
use Rattle.change_core.specs.Change.{change_of}
use Rattle.change_core.specs.Members.{greatest}
use Rattle.change_core.proofs.Members.{Contains-nil, Contains-here, Contains-there, Contains-cons_cases, IsGreatest-greatest}
use Rattle.message_core.specs.declared.messages.Message.{Message}
use Rattle.node_core.specs.declared.events.Event.{Event}
use Rattle.node_core.specs.declared.events.Event.TheVariants as call
use Rattle.node_core.specs.declared.events.Received.{Received}
use Rattle.node_core.specs.declared.events.Received.TheVariants as received
use Rattle.node_core.specs.declared.events.Reply.{Reply}
use Rattle.node_core.specs.declared.events.Reply.TheVariants as answer
use Rattle.node_core.specs.Invariant.{IsNode}
use Rattle.node_core.specs.Messages.{carried}
use Rattle.node_core.specs.Node.{Node}
use Rattle.node_core.specs.Run.{given_in, said_in, received_in}
use Rattle.node_core.proofs.Listed.{In-map, In-from_Contains}
use Rattle.node_core.specs.World.{World, Calls, Comes, MayHappen, happens, world_after, called, made_in, placed_at}
use Rattle.laws.specs.Convergence.{Nodes, IsThere, AreNodes, HoldsNoLess, Takes, GathersThenBroadcasts, HaveConverged}
use Rattle.laws.specs.Delivery.{Network, NetworkEvent, Delivers, AtNode, hop_of, NetworkRun, SendStep, DeliveryStep, with_message}
use Rattle.laws.specs.Worlds.{with_made, senders_after, ReceivesNumber, sends, GossipCall, event_of, MayAllGossip, transmissions, all_transmissions, no_senders, WorldsConverge}
use Rattle.laws.proofs.Converging.{are_still}
use Rattle.laws.proofs.Delivering.{delivered_converge}
use Rattle.laws.proofs.Exchanging.{calls_take, merged-members}
use Rattle.laws.proofs.Telling.{calls_tell}

-- the network has the world's nodes, and a message tells all that the sender of the world's message of its number held, so each change that this carries
pub record IsNetworkOf {H : Type 0} (w : World H) (s : Network H) : Type 0 where
  pub nodes_are : s.nodes ≡ w.nodes
  pub told : (k : ℕ) (m : Message) (c : Change) → slice_get w.messages k ≡ Some m → Contains (map change_of (carried m.content)) c → Contains (s.messages k) c
  pub unsent : (k : ℕ) → slice_get w.messages k ≡ None → s.messages k ≡ []

-- numbers of messages

at_next : (ms : List Message) → slice_get ms (length ms) ≡ None
at_next [] = refl
at_next (m ∷ ms) = at_next ms

at_more : (ms : List Message) (m : Message) (k : ℕ) (n : Message) → slice_get (ms ++ m ∷ []) k ≡ Some n → (slice_get ms k ≡ Some n) ⊎ ((k ≡ length ms) × (n ≡ m))
at_more [] m zero n e = let same : n ≡ m = cc in inr (refl, same)
at_more [] m (suc k) n e = cc
at_more (l ∷ ms) m zero n e = inl e
at_more (l ∷ ms) m (suc k) n e = elim (at_more ms m k n e) [ inl old ↦ inl old | inr new ↦ inr (ap suc new.0, new.1) ]

none_more : (ms : List Message) (m : Message) (k : ℕ) → slice_get (ms ++ m ∷ []) k ≡ None → (slice_get ms k ≡ None) × (k ≢ length ms)
none_more [] m zero e = cc
none_more [] m (suc k) e = (refl, λ i. omega (arith, i))
none_more (l ∷ ms) m zero e = cc
none_more (l ∷ ms) m (suc k) e = let r = none_more ms m k e in (r.0, λ i. r.1 (omega (arith, i)))

-- what a call takes stands in the message that comes

first_of : (cs : List Change) (n : ℕ) (c : Change) → Contains (take n cs) c → Contains cs c
first_of cs zero c h = absurd (Contains-nil c h)
first_of [] (suc n) c h = h
first_of (d ∷ ds) (suc n) c h = by_place (Contains-cons_cases d (take n ds) c h) (λ k. first_of ds n c k)
  where
    by_place : (d ≡ c) ⊎ Contains (take n ds) c → (Contains (take n ds) c → Contains ds c) → Contains (d ∷ ds) c
    by_place (inl e) again = subst (λ (x : Change). Contains (d ∷ ds) x) e (Contains-here d ds)
    by_place (inr k) again = Contains-there d ds c (again k)

received-of : (given : List Change) (r : Received) (c : Change) → Contains (received_in given r) c → Contains given c
received-of given (received.Done taken) c h = h
received-of given (received.Answer taken reply) c h = h
received-of given (received.NoAnswer taken) c h = h
received-of given (received.Stopped stopped) c h = first_of given stopped.taken c h
received-of given received.NotGossip c h = absurd (Contains-nil c h)

answered-of : (message : Message) (moment : ℕ) (reply : Reply) (c : Change) → Contains (given_in (call.Receive message moment) reply) c → Contains (map change_of (carried message.content)) c
answered-of message moment (answer.Receive result) c h = received-of (map change_of (carried message.content)) result c h
answered-of message moment reply c h = absurd (Contains-nil c h)

given-of : (messages : List Message) (told : ℕ → List Change) (event : Event) (reply : Reply) (k : ℕ) (c : Change) → Comes messages event → ReceivesNumber messages event k
    → ((n : ℕ) (m : Message) (d : Change) → slice_get messages n ≡ Some m → Contains (map change_of (carried m.content)) d → Contains (told n) d)
    → Contains (given_in event reply) c → Contains (told k) c
given-of messages told (call.Take given moment) reply k c comes number all h = absurd comes
given-of messages told (call.Receive message moment) reply k c comes number all h = all k message c number (answered-of message moment reply c h)
given-of messages told event reply k c comes number all h = absurd (Contains-nil c h)

-- a call makes one message at most
made-one : (reply : Reply) → (made_in reply ≡ []) ⊎ ((m : Message) × (made_in reply ≡ m ∷ []))
made-one (answer.JoinMessage (Ok message)) = inr (message, refl)
made-one (answer.PingTo (Ok message)) = inr (message, refl)
made-one (answer.PingReqTo (Ok message)) = inr (message, refl)
made-one (answer.PingReqAckTo (Ok message)) = inr (message, refl)
made-one (answer.Receive (received.Answer taken message)) = inr (message, refl)
made-one reply = inl refl

module _ {H : Type 0} (hash_of : H → List ℕ → ℕ) (w : World H) (s : Network H) (own k : ℕ) (event : Event) (reply : Reply) (after : Node H) (whole : Bool)
    (shows : IsNetworkOf w s) (are : AreNodes w.nodes) (may : MayHappen hash_of w (Calls own event reply after)) (quiet : said_in reply ≡ []) (number : ReceivesNumber w.messages event k)
    (covers : whole ≡ true → HoldsNoLess after (s.messages k)) where
  before : Node H
  before = may.0

  kept : IsNode may.0
  kept = are.kept own may.0 may.1

  -- the world after the call
  abbrev later : World H
  later = happens w (Calls own event reply after)

  later_is : later ≡ called w (Some may.0) own event reply after
  later_is = ap (λ (o : Option (Node H)). called w o own event reply after) may.1

  taking : Takes whole may.0 (s.messages k) after
  taking =
      let t = calls_take hash_of may.0 after event reply kept may.3 quiet in
      record {
        taken = given_in event reply;
        of_given = λ c h. given-of w.messages s.messages event reply k c may.2 number shows.told h;
        covers = covers;
        members_are = merged-members hash_of may.0 after event reply kept may.3 quiet;
        own_stays = t.own_stays;
        kept = t.kept;
      }

  abbrev result : List Message → Network H
  result ms = record { nodes = placed_at own after w.nodes; messages = with_made (length w.messages) ms after.members s.messages }

  abbrev IsDelivered : List Message → Type 0
  IsDelivered ms = NetworkRun s (Delivers k own whole ∷ sends own (length w.messages) ms) (result ms) × IsNetworkOf later (result ms)

  comes : DeliveryStep s k own whole (result [])
  comes = record {
    node = may.0;
    new = after;
    node_is = ap (λ (f : Nodes H). f own) shows.nodes_are ∙ may.1;
    takes = taking;
    nodes_are = ap (λ (f : Nodes H). placed_at own after f) (sym shows.nodes_are);
    messages_stay = refl;
  }

  nodes_later : later.nodes ≡ placed_at own after w.nodes
  nodes_later = ap (λ (v : World H). v.nodes) later_is

  messages_later : later.messages ≡ w.messages ++ made_in reply
  messages_later = ap (λ (v : World H). v.messages) later_is

  pub later_are : AreNodes later.nodes
  later_are = are_still w.nodes later.nodes own may.0 after may.1 nodes_later are taking.own_stays taking.kept

  -- nothing is made
  silent : made_in reply ≡ [] → IsDelivered []
  silent none = ((result [], comes, refl), shown)
    where
      same : later.messages ≡ w.messages
      same = messages_later ∙ ap (λ (ms : List Message). w.messages ++ ms) none ∙ append-nil w.messages

      shown : IsNetworkOf later (result [])
      shown = record {
        nodes_are = sym nodes_later;
        told = λ n m c at h. shows.told n m c (ap (λ (ms : List Message). slice_get ms n) (sym same) ∙ at) h;
        unsent = λ n at. shows.unsent n (ap (λ (ms : List Message). slice_get ms n) (sym same) ∙ at);
      }

  abbrev sent : Network H
  sent = record { nodes = placed_at own after w.nodes; messages = with_message (length w.messages) after.members s.messages }

  -- a message is made
  speaking : (m : Message) → made_in reply ≡ m ∷ [] → IsDelivered (m ∷ [])
  speaking m one = ((result [], comes, (sent, sends, refl)), shown)
    where
      sends : SendStep (result []) own (length w.messages) sent
      sends = record {
        node = after;
        node_is = ap (λ b. cond b (Some after) (w.nodes own)) (eq-eqb own own refl);
        is_new = shows.unsent (length w.messages) (at_next w.messages);
        nodes_stay = refl;
        messages_are = refl;
      }

      more : later.messages ≡ w.messages ++ m ∷ []
      more = messages_later ∙ ap (λ (ms : List Message). w.messages ++ ms) one

      here : (n : ℕ) → n ≡ length w.messages → sent.messages n ≡ after.members
      here n e = ap (λ b. cond b after.members (s.messages n)) (eq-eqb n (length w.messages) e)

      elsewhere : (n : ℕ) → n ≢ length w.messages → sent.messages n ≡ s.messages n
      elsewhere n e = ap (λ b. cond b after.members (s.messages n)) (ne_eqb n (length w.messages) e)

      tells : (n : Message) (c : Change) → n ≡ m → Contains (map change_of (carried n.content)) c → Contains after.members c
      tells n c e h =
          let r = In-map change_of c (carried n.content) (In-from_Contains c (map change_of (carried n.content)) h) in
          let made : In n (made_in reply) = subst (λ (ms : List Message). In n ms) (sym one) (inl e) in
          let held : greatest after.members r.0.change.address ≡ Some r.0.change = calls_tell hash_of may.0 after event reply n r.0 kept may.3 made r.1 in
          subst (λ (d : Change). Contains after.members d) r.2 (IsGreatest-greatest after.members r.0.change.address r.0.change held).listed

      told : (n : ℕ) (l : Message) (c : Change) → slice_get later.messages n ≡ Some l → Contains (map change_of (carried l.content)) c → Contains (sent.messages n) c
      told n l c at h = elim (cases_eq n (length w.messages)) [
        | inl is ↦ elim (at_more w.messages m n l (ap (λ (ms : List Message). slice_get ms n) (sym more) ∙ at)) [
          | inl old ↦
              let none : slice_get w.messages n ≡ None = ap (λ (j : ℕ). slice_get w.messages j) is ∙ at_next w.messages in
              let no : None ≡ Some l = sym none ∙ old in cc
          | inr new ↦ subst (λ (L : List Change). Contains L c) (sym (here n is)) (tells l c new.1 h)
        ]
        | inr other ↦ elim (at_more w.messages m n l (ap (λ (ms : List Message). slice_get ms n) (sym more) ∙ at)) [
          | inl old ↦ subst (λ (L : List Change). Contains L c) (sym (elsewhere n other)) (shows.told n l c old h)
          | inr new ↦ absurd (other new.0)
        ]
      ]

      shown : IsNetworkOf later sent
      shown = record {
        nodes_are = sym nodes_later;
        told = told;
        unsent = λ n at.
            let r = none_more w.messages m n (ap (λ (ms : List Message). slice_get ms n) (sym more) ∙ at) in
            elsewhere n r.1 ∙ shows.unsent n r.0;
      }

  pub delivers : IsDelivered (made_in reply)
  delivers = elim (made-one reply) [
    | inl none ↦ subst (λ (ms : List Message). IsDelivered ms) (sym none) (silent none)
    | inr some ↦ subst (λ (ms : List Message). IsDelivered ms) (sym some.1) (speaking some.0 some.1)
  ]

-- events one after another

happen-both : {H : Type 0} (s t u : Network H) (es fs : List NetworkEvent) → NetworkRun s es t → NetworkRun t fs u → NetworkRun s (es ++ fs) u
happen-both {H = H} s t u [] fs first second = subst (λ (x : Network H). NetworkRun x fs u) first second
happen-both {H = H} s t u (e ∷ es) fs first second = (first.0, first.1, happen-both first.0 t u es fs first.2 second)

module _ {H : Type 0} (hash_of : H → List ℕ → ℕ) where
  running : (w : World H) (s : Network H) (qs : List (GossipCall H)) → IsNetworkOf w s → AreNodes w.nodes → MayAllGossip hash_of w s.messages qs
      → (t : Network H) × NetworkRun s (all_transmissions w qs) t × IsNetworkOf (world_after w (map event_of qs)) t
  running w s [] shows are quiet = (s, refl, shows)
  running w s (q ∷ qs) shows are quiet =
      let one = delivers hash_of w s q.own q.number q.event q.reply q.after q.whole shows are quiet.0.may quiet.0.asserts_nothing quiet.0.receives quiet.0.covers in
      let still = later_are hash_of w s q.own q.number q.event q.reply q.after q.whole shows are quiet.0.may quiet.0.asserts_nothing quiet.0.receives quiet.0.covers in
      let mid : Network H = record { nodes = placed_at q.own q.after w.nodes; messages = senders_after w s.messages q } in
      let rest = running (happens w (event_of q)) mid qs one.1 still quiet.1 in
      (rest.0, happen-both s mid rest.0 (transmissions w q) (all_transmissions (happens w (event_of q)) qs) one.0 rest.1, rest.2)

  abbrev opening : World H → Network H
  opening w = record { nodes = w.nodes; messages = no_senders }

  ending : (w : World H) (calls : List (GossipCall H)) (t : Network H) → AreNodes w.nodes → NetworkRun (opening w) (all_transmissions w calls) t
      → IsNetworkOf (world_after w (map event_of calls)) t → ((a : ℕ) → IsThere w.nodes a → GathersThenBroadcasts AtNode w.nodes (map hop_of (all_transmissions w calls)) a)
      → HaveConverged w.nodes (world_after w (map event_of calls)).nodes
  ending w calls t are all shows each =
      subst (λ (f : Nodes H). HaveConverged w.nodes f) shows.nodes_are (delivered_converge (opening w) t (all_transmissions w calls) are (λ m. refl) all each)

  opened : (w : World H) → w.messages ≡ [] → IsNetworkOf w (opening w)
  opened w none = record {
    nodes_are = refl;
    told = λ k m c at h. let no : None ≡ Some m = ap (λ (ms : List Message). slice_get ms k) (sym none) ∙ at in cc;
    unsent = λ k at. refl;
  }

  pub worlds_converge : WorldsConverge hash_of
  worlds_converge w calls are none quiet each =
      let run = running w (opening w) calls (opened w none) are quiet in
      ending w calls run.0 are run.1 run.2 each
