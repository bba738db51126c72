-- What one alteration of the parts makes of the node.
use Rattle.std.proofs.Common.{◌≡◌, ℕ, ◌+◌, ◌≤◌, Bool, true, false, cond, List, [], ◌∷◌, ◌++◌, map, length, Result, Ok, Err, inl, inr, sym, ◌∙◌, ap, subst}
use Rattle.std.specs.Prelude.{OnOk, OnErr}
use Rattle.std.specs.List.{filter}
use Rattle.std.proofs.lemmas.List.{length-map}
use Rattle.std.proofs.lemmas.Bool.{cases_Bool}
use Rattle.change_core.specs.declared.changes.Change.{Change}
use Rattle.change_core.specs.declared.changes.Sourced.{Sourced}
use Rattle.change_core.specs.Members.{members, serving, is_news, address_of_change}
use Rattle.change_core.specs.Status.{is_serving}
use Rattle.change_core.proofs.Members.{members-members}
use Rattle.detector_core.specs.declared.timers.Timer.{Timer}
use Rattle.detector_core.specs.Timers.{TimerList, IsAscending, with_timer, without_timer}
use Rattle.detector_core.proofs.TimerLemmas.{IsAscending-with_timer, IsAscending-without_timer}
use Rattle.gossip_core.specs.Dissemination.{Dissemination, with_news, adjusted}
use Rattle.hash_ring.specs.declared.servers.Server.{Server}
use Rattle.hash_ring.specs.RingModel.{RingModel, ring_of}
use Rattle.hash_ring.specs.Servers.{with_server, without}
use Rattle.hash_ring.specs.Serving.{server_of, servers_of}
use Rattle.hash_ring.proofs.ServingServers.{servers_of-with_server, servers_of-without}
use Rattle.member_core.specs.Membership.{Membership, IsMembership}
use Rattle.node_core.specs.declared.configs.Config.{Config}
use Rattle.node_core.specs.declared.errors.NodeError.{NodeError}
use Rattle.node_core.specs.Invariant.{IsNode}
use Rattle.node_core.specs.Node.{Node, altered, asserts, is_timed, members_after, next_status, timers_with, wait_for}
use Rattle.node_core.specs.Parts.{Parts, AreParts, node_of}
use Rattle.node_core.proofs.Agreed.{ring_of-hash}
use Rattle.node_core.proofs.Kept.{altered_kept}

-- there are as many servers as members that serve
pub length-servers_of : (cs : List Change) → length (servers_of cs) ≡ length (serving cs)
length-servers_of cs =
    length-map (filter (λ (c : Change). is_serving c.status) (members cs)) server_of
    ∙ sym (length-map (filter (λ (c : Change). is_serving c.status) (members cs)) address_of_change)

-- the servers once a change about an address is put in
abbrev pub servers_with : Change → List Server → List Server
servers_with c servers = cond (is_serving c.status) (with_server (server_of c) servers) (without c.address servers)

pub servers_of-news : (cs : List Change) (c : Change) → is_news cs c ≡ true → servers_of (cs ++ c ∷ []) ≡ servers_with c (servers_of cs)
servers_of-news cs c news = elim (cases_Bool (is_serving c.status)) [
  | inl s ↦ servers_of-with_server cs c news s ∙ ap (λ b. cond b (with_server (server_of c) (servers_of cs)) (without c.address (servers_of cs))) (sym s)
  | inr s ↦ servers_of-without cs c news s ∙ ap (λ b. cond b (with_server (server_of c) (servers_of cs)) (without c.address (servers_of cs))) (sym s)
]

pub IsAscending-timers_with : (own : ℕ) (config : Config) (moment : ℕ) (timers : List Timer) (c : Change) → IsAscending timers → IsAscending (timers_with own config moment timers c)
IsAscending-timers_with own config moment timers c rising = by (is_timed own c)
  where
    timer : Timer
    timer = record { address = c.address; incarnation = c.incarnation; next = next_status c.status; deadline = moment + wait_for config c.status }

    by : (b : Bool) → IsAscending (cond b (with_timer timers timer) (without_timer timers c.address))
    by true = IsAscending-with_timer timers timer rising
    by false = IsAscending-without_timer timers c.address rising

module _ {H : Type 0} (hash_of : H → List ℕ → ℕ) (p : Parts H) (parts : AreParts hash_of p) (news : Sourced)
    (fresh : is_news p.members.members news.change ≡ true) (stays : news.change.address ≡ p.members.own.address → asserts news.change.status ≡ true)
    (m : Membership) (ring : RingModel H) (gossip : Dissemination) (timers : TimerList) where
  -- the parts after it
  abbrev pub edited : Parts H
  edited = record { config = p.config; members = m; ring = ring; gossip = gossip; timers = timers; probing = p.probing; moment = p.moment }

  -- what the edit of the parts says of them
  pub record Edited (r : Result (Unit {0}) NodeError) : Type 0 where
    pub members_ok : OnOk r (m.members ≡ members (p.members.members ++ news.change ∷ []))
    pub own_is : m.own.address ≡ p.members.own.address
    pub max_is : m.max ≡ p.members.max
    pub valid : OnOk r (IsMembership m.own m.members m.max)
    pub ring_ok : OnOk r (ring ≡ ring_of p.ring.hash (hash_of p.ring.hash) p.ring.replicas (servers_with news.change p.ring.servers) ring.room)
    pub timers_ok : OnOk r (timers.timers ≡ timers_with p.members.own.address p.config p.moment p.timers.timers news.change)
    pub gossip_ok : OnOk r (gossip ≡ adjusted (with_news p.gossip news) (length ring.servers))
    pub members_err : OnErr r (m ≡ record p.members { room = m.room })
    pub ring_err : OnErr r (ring ≡ record p.ring { room = ring.room })
    pub rest_err : OnErr r ((timers.timers ≡ p.timers.timers) × (gossip ≡ p.gossip))

  servers_after : servers_of (members_after (node_of p) news.change) ≡ servers_with news.change (servers_of p.members.members)
  servers_after =
      ap (λ (ms : List Change). map server_of (filter (λ (c : Change). is_serving c.status) ms)) (members-members (p.members.members ++ news.change ∷ []))
      ∙ servers_of-news p.members.members news.change fresh

  ring_after : ring ≡ ring_of p.ring.hash (hash_of p.ring.hash) p.ring.replicas (servers_with news.change p.ring.servers) ring.room
      → ring ≡ ring_of p.ring.hash (hash_of p.ring.hash) p.config.replicas (servers_of (members_after (node_of p) news.change)) ring.room
  ring_after e =
      e ∙ ap (λ (r : RingModel H). ring_of p.ring.hash (hash_of p.ring.hash) r.replicas (servers_with news.change r.servers) ring.room) parts.ring_is
      ∙ ap (λ (ss : List Server). ring_of p.ring.hash (hash_of p.ring.hash) p.config.replicas ss ring.room) (sym servers_after)

  node_after : Edited (Ok tt) → node_of edited ≡ altered (node_of p) news
  node_after e =
      let r = ring_after e.ring_ok in
      ap (λ (a : ℕ). record (node_of edited) { own = a }) e.own_is
      ∙ ap (λ (x : RingModel H). record (node_of edited) { own = p.members.own.address; hash = x.hash }) r
      ∙ ap (λ (ms : List Change). record (node_of edited) { own = p.members.own.address; hash = p.ring.hash; members = ms }) e.members_ok
      ∙ ap (λ (ts : List Timer). record (node_of edited) { own = p.members.own.address; hash = p.ring.hash; members = members_after (node_of p) news.change; timers = ts }) e.timers_ok
      ∙ ap (λ (g : Dissemination). record (altered (node_of p) news) { gossip = g })
      (e.gossip_ok ∙ ap (λ (n : ℕ). adjusted (with_news p.gossip news) n) (ap (λ (x : RingModel H). length x.servers) r ∙ length-servers_of (members_after (node_of p) news.change)))

  pub edited_is : (r : Result (Unit {0}) NodeError) → Edited r → OnOk r (node_of edited ≡ altered (node_of p) news)
  edited_is (Ok done) e = node_after e
  edited_is (Err error) e = tt

  -- after a refusal nothing but room has changed
  node_same : (error : NodeError) → Edited (Err error) → node_of edited ≡ node_of p
  node_same error e =
      ap (λ (x : Membership). record (node_of edited) { own = x.own.address; members = x.members }) e.members_err
      ∙ ap (λ (x : RingModel H). record (node_of edited) { own = p.members.own.address; members = p.members.members; hash = x.hash }) e.ring_err
      ∙ ap (λ (ts : List Timer). record (node_of p) { timers = ts; gossip = gossip }) e.rest_err.0
      ∙ ap (λ (g : Dissemination). record (node_of p) { gossip = g }) e.rest_err.1

  pub edited_parts : (r : Result (Unit {0}) NodeError) → Edited r → AreParts hash_of edited
  edited_parts (Ok done) e =
      let max : m.max ≡ p.config.max_members = e.max_is ∙ parts.most in
      let fits : length (members_after (node_of p) news.change) ≤ p.config.max_members
      = subst (λ (ms : List Change). length ms ≤ p.config.max_members) e.members_ok (subst (λ (n : ℕ). length m.members ≤ n) max e.valid.fits) in
      record {
        kept = subst (λ (n : Node H). IsNode n) (sym (node_after e)) (altered_kept (node_of p) parts.kept news fresh stays fits);
        membership = e.valid;
        most = max;
        ring_is = ring_of-hash hash_of ring p.ring.hash p.config.replicas (servers_of m.members)
            (ring_after e.ring_ok ∙ ap (λ (ms : List Change). ring_of p.ring.hash (hash_of p.ring.hash) p.config.replicas (servers_of ms) ring.room) (sym e.members_ok));
        rising = subst (λ (ts : List Timer). IsAscending ts) (sym e.timers_ok) (IsAscending-timers_with p.members.own.address p.config p.moment p.timers.timers news.change parts.rising);
      }
  edited_parts (Err error) e = record {
    kept = subst (λ (n : Node H). IsNode n) (sym (node_same error e)) parts.kept;
    membership = subst (λ (x : Membership). IsMembership x.own x.members x.max) (sym e.members_err) parts.membership;
    most = ap (λ (x : Membership). x.max) e.members_err ∙ parts.most;
    ring_is = ring_of-hash hash_of ring p.ring.hash p.config.replicas (servers_of m.members)
        (e.ring_err ∙ ap (λ (x : RingModel H). record x { room = ring.room }) parts.ring_is
        ∙ ap (λ (ms : List Change). ring_of p.ring.hash (hash_of p.ring.hash) p.config.replicas (servers_of ms) ring.room) (sym (ap (λ (x : Membership). x.members) e.members_err)));
    rising = subst (λ (ts : List Timer). IsAscending ts) (sym e.rest_err.0) parts.rising;
  }
