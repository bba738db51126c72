-- The parts of a node that begins.
use Rattle.std.proofs.Common.{◌≡◌, ℕ, List, [], ◌∷◌, map, None, sym, ◌∙◌, ap, subst, arith}
use Rattle.std.specs.List.{filter}
use Rattle.change_core.specs.declared.changes.Change.{Change}
use Rattle.change_core.specs.Status.{is_serving}
use Rattle.change_core.proofs.Members.{members-IsMemberList}
use Rattle.detector_core.specs.Probing.{ProbeState}
use Rattle.detector_core.specs.Timers.{TimerList, IsAscending}
use Rattle.gossip_core.specs.Dissemination.{Dissemination, with_news}
use Rattle.gossip_core.specs.Pending.{limit_for}
use Rattle.hash_ring.specs.declared.servers.Server.{Server}
use Rattle.hash_ring.specs.RingModel.{RingModel, ring_of}
use Rattle.hash_ring.specs.Serving.{server_of, servers_of}
use Rattle.member_core.specs.Membership.{Membership, IsMembership}
use Rattle.rand_pcg.specs.Lcg.{Lcg}
use Rattle.node_core.specs.declared.configs.Config.{Config}
use Rattle.node_core.specs.Configs.{IsConfig}
use Rattle.node_core.specs.Invariant.{IsNode}
use Rattle.node_core.specs.Node.{Node, asserted_by, birth}
use Rattle.node_core.specs.Parts.{Parts, AreParts, node_of}
use Rattle.node_core.specs.World.{initial_node}
use Rattle.node_core.proofs.Agreed.{ring_of-hash}
use Rattle.node_core.proofs.Invariant.{initial_node_kept}

-- the server that a node alone is
pub servers_of-birth : (own incarnation weight : ℕ) → servers_of (birth own incarnation weight ∷ []) ≡ server_of (birth own incarnation weight) ∷ []
servers_of-birth own incarnation weight =
    ap (λ (ms : List Change). map server_of (filter (λ (c : Change). is_serving c.status) ms)) (members-IsMemberList (birth own incarnation weight ∷ []) (tt, tt))

-- nothing is passed on yet
abbrev pub untold : ℕ → Dissemination
untold piggyback = record { factor = piggyback; limit = limit_for piggyback 1; pending = [] }

module _ {H : Type 0} (hash_of : H → List ℕ → ℕ) (hash : H) (config : Config) (own incarnation moment : ℕ) (generator : Lcg)
    (m : Membership) (ring : RingModel H) (gossip : Dissemination) (timers : TimerList) (probing : ProbeState) where
  -- what the constructors of the parts say
  pub record Begun : Type 0 where
    pub own_is : m.own ≡ birth own incarnation config.weight
    pub members_are : m.members ≡ m.own ∷ []
    pub max_is : m.max ≡ config.max_members
    pub membership : IsMembership m.own m.members m.max
    pub ring_is : ring ≡ ring_of hash (hash_of hash) config.replicas (record { address = own; weight = config.weight } ∷ []) ring.room
    pub gossip_is : gossip ≡ with_news (untold config.piggyback) (asserted_by m.own.address m.own)
    pub timers_are : timers ≡ record { timers = []; room = 0 }
    pub probing_is : probing ≡ record { last = 0; helpers = config.helpers; rest = []; generator = generator; running = None }

  abbrev begun : Parts H
  begun = record {
    config = config;
    members = m;
    ring = ring;
    gossip = gossip;
    timers = timers;
    probing = probing;
    moment = moment;
  }

  module _ (b : Begun) where
    members_begun : m.members ≡ birth own incarnation config.weight ∷ []
    members_begun = b.members_are ∙ ap (λ (c : Change). c ∷ []) b.own_is

    gossip_begun : gossip ≡ with_news (untold config.piggyback) (asserted_by own (birth own incarnation config.weight))
    gossip_begun = b.gossip_is
        ∙ ap (λ (c : Change). with_news (untold config.piggyback) (asserted_by c.address c)) b.own_is

    node_begun : node_of begun ≡ initial_node hash config own incarnation moment generator
    node_begun =
        ap (λ (c : Change). record (node_of begun) { own = c.address }) b.own_is
        ∙ ap (λ (r : RingModel H). record (node_of begun) { own = own; hash = r.hash }) b.ring_is
        ∙ ap (λ (ms : List Change). record (node_of begun) { own = own; hash = hash; members = ms }) members_begun
        ∙ ap (λ (g : Dissemination). record (node_of begun) { own = own; hash = hash; members = birth own incarnation config.weight ∷ []; gossip = g }) gossip_begun
        ∙ ap (λ (t : TimerList). record (initial_node hash config own incarnation moment generator) { timers = t.timers; probing = probing }) b.timers_are
        ∙ ap (λ (s : ProbeState). record (initial_node hash config own incarnation moment generator) { probing = s }) b.probing_is

    pub parts_begun : IsConfig config → AreParts hash_of begun
    parts_begun configured = record {
      kept = subst (λ (n : Node H). IsNode n) (sym node_begun) (initial_node_kept hash config own incarnation moment generator configured);
      membership = b.membership;
      most = b.max_is;
      ring_is = ring_of-hash hash_of ring hash config.replicas (servers_of m.members)
          (b.ring_is ∙ ap (λ (ss : List Server). ring_of hash (hash_of hash) config.replicas ss ring.room)
          (sym (ap servers_of members_begun ∙ servers_of-birth own incarnation config.weight)));
      rising = subst (λ (t : TimerList). IsAscending t.timers) (sym b.timers_are) (λ i j d low here. absurd (omega (arith, here)));
    }
