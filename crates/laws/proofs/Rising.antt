-- What a node of a world holds of an address never goes back while the node runs on.
use Rattle.std.proofs.Common.{◌≡◌, ℕ, Bool, true, false, cond, eqb, List, [], ◌∷◌, ◌++◌, Option, Some, refl, sym, ◌∙◌, ap, subst, inl, inr}
use Rattle.std.specs.List.{Contains}
use Rattle.std.proofs.lemmas.Bool.{eqb-true}
use Rattle.std.proofs.lemmas.List.Elements.{Contains-append_left}
use Rattle.change_core.specs.declared.changes.Change.{Change}
use Rattle.change_core.specs.Change.{Exceeds}
use Rattle.change_core.specs.Members.{greatest, members}
use Rattle.change_core.proofs.Members.{IsGreatest-greatest, greatest-members, members-IsMemberList}
use Rattle.change_core.proofs.Precedence.{Exceeds-irrefl, Exceeds-split}
use Rattle.node_core.specs.declared.events.Event.{Event}
use Rattle.node_core.specs.declared.events.Reply.{Reply}
use Rattle.node_core.specs.Log.{log_given}
use Rattle.node_core.specs.Node.{Node, birth}
use Rattle.node_core.specs.Run.{given_in, said_in, log_step}
use Rattle.node_core.specs.Step.{NodeStep}
use Rattle.node_core.specs.World.{World, WorldEvent, Starts, Restarts, Calls, MayHappen, MayAllHappen, happens, world_after, initial_node, placed_at, called}
use Rattle.node_core.proofs.Following.{Follows-step}
use Rattle.node_core.proofs.Log.{IsSettled, settled-by}
use Rattle.laws.specs.Running.{Begins, RunsOn}
use Rattle.laws.proofs.Covering.{log_given-old, greatest-still}

-- events that happen after others
pub world_after-append : {H : Type 0} (past events : List (WorldEvent H)) (w : World H) → world_after w (past ++ events) ≡ world_after (world_after w past) events
world_after-append [] events w = refl
world_after-append (e ∷ past) events w = world_after-append past events (happens w e)

pub all-append : {H : Type 0} (hash_of : H → List ℕ → ℕ) (past events : List (WorldEvent H)) (w : World H)
    → MayAllHappen hash_of w past → MayAllHappen hash_of (world_after w past) events → MayAllHappen hash_of w (past ++ events)
all-append hash_of [] events w may more = more
all-append hash_of (e ∷ past) events w may more = (may.0, all-append hash_of past events (happens w e) may.1 more)

-- what is held of the address is no less in K than in L
pub record Rises (L K : List Change) (a : ℕ) (held : Change) : Type 0 where
  pub now : Change
  pub now_is : greatest K a ≡ Some now
  pub no_less : Exceeds held now → ⊥

-- a list that keeps what another has
pub rises : (L K : List Change) (a : ℕ) (held : Change) → ((c : Change) → Contains L c → Contains K c) → greatest L a ≡ Some held → Rises L (members K) a held
rises L K a held kept e =
    let still = greatest-still L K a held kept e in
    let is = IsGreatest-greatest L a held e in
    record {
      now = still.0;
      now_is = greatest-members K a ∙ still.1;
      no_less = (IsGreatest-greatest K a still.0 still.1).highest held (kept held is.listed) is.about;
    }

pub rises-then : (L M K : List Change) (a : ℕ) (held : Change) (first : Rises L M a held) → Rises M K a first.now → Rises L K a held
rises-then L M K a held first next = record {
  now = next.now;
  now_is = next.now_is;
  no_less = λ h. elim (Exceeds-split held first.now next.now h) [ inl k ↦ first.no_less k | inr k ↦ next.no_less k ];
}

module _ {H : Type 0} (hash_of : H → List ℕ → ℕ) where
  -- a call keeps the members one for each address
  pub settled-step : (old new : Node H) (event : Event) (reply : Reply) → IsSettled old → NodeStep hash_of old event reply new → IsSettled new
  settled-step old new event reply settled step = settled-by new (log_step old.own old.members event reply) (Follows-step hash_of old settled event reply new step).members_is

  -- and raises what is held, or leaves it
  pub rises-step : (old new : Node H) (event : Event) (reply : Reply) (a : ℕ) (held : Change) → IsSettled old → NodeStep hash_of old event reply new
      → greatest old.members a ≡ Some held → Rises old.members new.members a held
  rises-step old new event reply a held settled step e =
      let K = log_step old.own old.members event reply in
      subst (λ (M : List Change). Rises old.members M a held) (sym (Follows-step hash_of old settled event reply new step).members_is)
      (rises old.members K a held
      (λ c h. Contains-append_left (log_given old.own old.members (given_in event reply)) (said_in reply) c (log_given-old old.own old.members (given_in event reply) c h)) e)

  -- each node of a world holds one entry for each address
  abbrev pub AreSettled : World H → Type 0
  AreSettled w = (a : ℕ) (node : Node H) → w.nodes a ≡ Some node → IsSettled node

  placed_settled : (w : World H) (own : ℕ) (node : Node H) → AreSettled w → IsSettled node → (a : ℕ) (n : Node H) → placed_at own node w.nodes a ≡ Some n → IsSettled n
  placed_settled w own node are settled a n e = by_address (eqb a own) e
    where
      by_address : (b : Bool) → cond b (Some node) (w.nodes a) ≡ Some n → IsSettled n
      by_address true k = let same : node ≡ n = cc in subst (λ (x : Node H). IsSettled x) same settled
      by_address false k = are a n k

  pub settled-happens : (w : World H) (e : WorldEvent H) → AreSettled w → MayHappen hash_of w e → AreSettled (happens w e)
  settled-happens w (Starts hash config own incarnation moment generator) are may =
      placed_settled w own (initial_node hash config own incarnation moment generator) are (members-IsMemberList (birth own incarnation config.weight ∷ []) (tt, tt))
  settled-happens w (Restarts hash config own incarnation moment generator) are may =
      placed_settled w own (initial_node hash config own incarnation moment generator) are (members-IsMemberList (birth own incarnation config.weight ∷ []) (tt, tt))
  settled-happens w (Calls own event reply after) are may =
      subst (λ (o : Option (Node H)). AreSettled (called w o own event reply after)) (sym may.1)
      (placed_settled w own after are (settled-step may.0 after event reply (are own may.0 may.1) may.3))

  pub settled-after : (w : World H) (events : List (WorldEvent H)) → AreSettled w → MayAllHappen hash_of w events → AreSettled (world_after w events)
  settled-after w [] are may = are
  settled-after w (e ∷ es) are may = settled-after (happens w e) es (settled-happens w e are may.0) may.1

  -- the node at an address after one event that does not start it holds no less of each address
  keeps : (w : World H) (e : WorldEvent H) (b a : ℕ) (old : Node H) (held : Change) → AreSettled w → MayHappen hash_of w e → (Begins b e → ⊥) → w.nodes b ≡ Some old
      → greatest old.members a ≡ Some held → (new : Node H) × ((happens w e).nodes b ≡ Some new) × Rises old.members new.members a held
  keeps w e b a old held are may on there g = of_event e may on
    where
      still : (own : ℕ) (node : Node H) → (own ≡ b → ⊥) → (new : Node H) × (placed_at own node w.nodes b ≡ Some new) × Rises old.members new.members a held
      still own node other = (old, by_address (eqb b own) refl, record { now = held; now_is = g; no_less = Exceeds-irrefl held })
        where
          by_address : (t : Bool) → eqb b own ≡ t → cond t (Some node) (w.nodes b) ≡ Some old
          by_address true k = absurd (other (sym (eqb-true b own k)))
          by_address false k = there

      of_call : (own : ℕ) (event : Event) (reply : Reply) (after before : Node H) → w.nodes own ≡ Some before → NodeStep hash_of before event reply after
          → (t : Bool) → eqb b own ≡ t → (new : Node H) × (cond t (Some after) (w.nodes b) ≡ Some new) × Rises old.members new.members a held
      of_call own event reply after before placed step false k = (old, there, record { now = held; now_is = g; no_less = Exceeds-irrefl held })
      of_call own event reply after before placed step true k =
          let is : Some old ≡ Some before = sym there ∙ ap w.nodes (eqb-true b own k) ∙ placed in
          let same : before ≡ old = cc in
          (after, refl, rises-step old after event reply a held (are b old there) (subst (λ (n : Node H). NodeStep hash_of n event reply after) same step) g)

      of_event : (e : WorldEvent H) → MayHappen hash_of w e → (Begins b e → ⊥) → (new : Node H) × ((happens w e).nodes b ≡ Some new) × Rises old.members new.members a held
      of_event (Starts hash config own incarnation moment generator) may on = still own (initial_node hash config own incarnation moment generator) on
      of_event (Restarts hash config own incarnation moment generator) may on = still own (initial_node hash config own incarnation moment generator) on
      of_event (Calls own event reply after) may on =
          subst (λ (o : Option (Node H)). (new : Node H) × ((called w o own event reply after).nodes b ≡ Some new) × Rises old.members new.members a held) (sym may.1)
          (of_call own event reply after may.0 may.1 may.3 (eqb b own) refl)

  -- what a node holds of an address after events through which it runs on is no less than before
  pub rises-after : (w : World H) (events : List (WorldEvent H)) (b a : ℕ) (old : Node H) (held : Change) → AreSettled w → MayAllHappen hash_of w events → RunsOn b events
      → w.nodes b ≡ Some old → greatest old.members a ≡ Some held → (new : Node H) × ((world_after w events).nodes b ≡ Some new) × Rises old.members new.members a held
  rises-after w [] b a old held are may on there g = (old, there, record { now = held; now_is = g; no_less = Exceeds-irrefl held })
  rises-after w (e ∷ es) b a old held are may on there g =
      let one = keeps w e b a old held are may.0 (on e (inl refl)) there g in
      let rest = rises-after (happens w e) es b a one.0 one.2.now (settled-happens w e are may.0) may.1 (λ d h. on d (inr h)) one.1 one.2.now_is in
      (rest.0, rest.1, rises-then old.members one.0.members rest.0.members a held one.2 rest.2)
