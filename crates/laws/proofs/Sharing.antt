-- One order of the calls of shared nodes is a run of a world.
use Rattle.std.proofs.Common.{◌≡◌, ◌⊎◌, ℕ, Bool, true, false, cond, eqb, List, [], ◌∷◌, ◌++◌, Option, Some, None, refl, sym, ◌∙◌, ap, subst, inl, inr, map, filter, append-nil, append_assoc}
use Rattle.std.proofs.lemmas.Bool.{eq-eqb, eqb-true, eqb-false, ne_eqb, cases_eq}
use Rattle.change_core.specs.Ascending.{In}
use Rattle.message_core.specs.declared.messages.Message.{Message}
use Rattle.node_core.specs.Calls.{Call, OfEvent, OfView, Answer, WithReply, WithView, CallStep}
use Rattle.node_core.specs.Node.{Node}
use Rattle.node_core.specs.World.{World, WorldEvent, MayAllHappen, IsTrueWorld, happens, called, placed_at, nothing, world_after}
use Rattle.node_core.proofs.World.{worlds_are_true}
use Rattle.turn_lock.specs.declared.kept.Turn.{Turn}
use Rattle.locked_node.specs.History.{CallEntry, History, LegalHistory}
use Rattle.laws.proofs.Rising.{world_after-append, all-append}
use Rattle.laws.proofs.Witnessing.{none_without_witness}
use Rattle.laws.specs.Sharing.{SharedNode, NodeCall, IsOrder, IsWorldRun, TellTheTruth, SharedNodesAreWorlds, AreApart, AllCome, ComesBy, created, starts, address_of, calls_at, made_by, all_made, events_of, events_of_call, events_of_calls, world_of}

pub In-mapped : {X Y : Type 0} (f : X → Y) (x : X) (xs : List X) → In x xs → In (f x) (map f xs)
In-mapped f x [] h = absurd h
In-mapped f x (y ∷ ys) (inl e) = inl (ap f e)
In-mapped f x (y ∷ ys) (inr h) = inr (In-mapped f x ys h)

pub In-from_mapped : {X Y : Type 0} (f : X → Y) (y : Y) (xs : List X) → In y (map f xs) → (x : X) × In x xs × (f x ≡ y)
In-from_mapped f y [] h = absurd h
In-from_mapped f y (x ∷ xs) (inl e) = (x, inl refl, sym e)
In-from_mapped f y (x ∷ xs) (inr h) = let r = In-from_mapped f y xs h in (r.0, inr r.1, r.2)

-- an address is among some, or not
decided : (a : ℕ) (xs : List ℕ) → In a xs ⊎ (In a xs → ⊥)
decided a [] = inr (λ h. h)
decided a (x ∷ xs) = elim (cases_eq a x) [
  | inl e ↦ inl (inl e)
  | inr other ↦ elim (decided a xs) [ inl h ↦ inl (inr h) | inr h ↦ inr (λ k. elim k [ inl e ↦ other e | inr j ↦ h j ]) ]
]

module _ {H : Type 0} where
  at_own : (own : ℕ) (node : Node H) (nodes : ℕ → Option (Node H)) → placed_at own node nodes own ≡ Some node
  at_own own node nodes = ap (λ b. cond b (Some node) (nodes own)) (eq-eqb own own refl)

  at_other : (own : ℕ) (node : Node H) (nodes : ℕ → Option (Node H)) (a : ℕ) → (a ≡ own → ⊥) → placed_at own node nodes a ≡ nodes a
  at_other own node nodes a other = ap (λ b. cond b (Some node) (nodes a)) (ne_eqb a own other)

module _ {H : Type 0} (hash_of : H → List ℕ → ℕ) where
  abbrev Nodes : Type 0
  Nodes = List (SharedNode hash_of)

  -- all begin

  abbrev starting : Nodes → List (WorldEvent H)
  starting nodes = map (λ (n : SharedNode hash_of). starts n.birth) nodes

  -- a world with these nodes begun: they are new, all others are unchanged, and no message was made
  record Begun (w : World H) (nodes : Nodes) (after : World H) : Type 0 where
    pub there : (n : SharedNode hash_of) → In n nodes → after.nodes (address_of n) ≡ Some (created n.birth)
    pub others : (a : ℕ) → (In a (map (λ (n : SharedNode hash_of). address_of n) nodes) → ⊥) → after.nodes a ≡ w.nodes a
    pub messages : after.messages ≡ w.messages
    pub may : MayAllHappen hash_of w (starting nodes)

  all_begin : (nodes : Nodes) (w : World H) → AreApart nodes
      → ((n : SharedNode hash_of) → In n nodes → w.nodes (address_of n) ≡ None)
      → Begun w nodes (world_after w (starting nodes))
  all_begin [] w apart absent = record { there = λ n h. absurd h; others = λ a h. refl; messages = refl; may = tt }
  all_begin (n ∷ ns) w apart absent =
      let placed : ℕ → Option (Node H) = placed_at (address_of n) (created n.birth) w.nodes in
      let not_n : (m : SharedNode hash_of) → In m ns → address_of m ≡ address_of n → ⊥ =
      λ m h e. apart.0 (subst (λ (a : ℕ). In a (map (λ (x : SharedNode hash_of). address_of x) ns)) e (In-mapped (λ (x : SharedNode hash_of). address_of x) m ns h)) in
      let rest = all_begin ns (happens w (starts n.birth)) apart.1
      (λ m h. at_other (address_of n) (created n.birth) w.nodes (address_of m) (not_n m h) ∙ absent m (inr h)) in
      record {
        there = λ m h. elim h [
          | inl e ↦ subst (λ (x : SharedNode hash_of). (world_after w (starting (n ∷ ns))).nodes (address_of x) ≡ Some (created x.birth)) (sym e)
              (rest.others (address_of n) apart.0 ∙ at_own (address_of n) (created n.birth) w.nodes)
          | inr k ↦ rest.there m k
        ];
        others = λ a h. rest.others a (λ k. h (inr k)) ∙ at_other (address_of n) (created n.birth) w.nodes a (λ k. h (inl k));
        messages = rest.messages;
        may = (absent n (inl refl), rest.may);
      }

  -- the calls, one after another

  -- from this node these are legal calls, up to that node
  abbrev LegalCalls : Node H → List (CallEntry H) → Node H → Type 0
  LegalCalls node [] last = last ≡ node
  LegalCalls node (e ∷ es) last = CallStep hash_of node e.call e.answer e.after × LegalCalls e.after es last

  legal_calls : (opening last : Node H) (history : History H) → LegalHistory hash_of opening history last
      → LegalCalls opening (map (λ (t : Turn (CallEntry H)). t.entry) history) last
  legal_calls opening last [] legal = legal
  legal_calls opening last (t ∷ ts) legal = (legal.0, legal_calls t.entry.after last ts legal.1)

  -- a shared node is there, and the calls that are left to it lead to what it is in the end
  abbrev IsOnWay : World H → List (NodeCall H) → SharedNode hash_of → Type 0
  IsOnWay w calls n = (node : Node H) × (w.nodes (address_of n) ≡ Some node) × LegalCalls node (calls_at (address_of n) calls) n.now

  abbrev AreOnWay : World H → List (NodeCall H) → Nodes → Type 0
  AreOnWay w calls nodes = (n : SharedNode hash_of) → In n nodes → IsOnWay w calls n

  -- what these calls come to from a world
  record RunsFrom (w : World H) (calls : List (NodeCall H)) (nodes : Nodes) : Type 0 where
    pub may : MayAllHappen hash_of w (events_of_calls calls)
    pub now : (n : SharedNode hash_of) → In n nodes → (world_after w (events_of_calls calls)).nodes (address_of n) ≡ Some n.now
    pub others : (a : ℕ) → (In a (map (λ (n : SharedNode hash_of). address_of n) nodes) → ⊥) → (world_after w (events_of_calls calls)).nodes a ≡ w.nodes a
    pub messages : (world_after w (events_of_calls calls)).messages ≡ w.messages ++ all_made calls

  -- the calls left to a node after one of it, and after one of another
  calls_own : (c : NodeCall H) (cs : List (NodeCall H)) → calls_at c.own (c ∷ cs) ≡ c.entry ∷ calls_at c.own cs
  calls_own c cs =
      let rest : List (NodeCall H) = filter (λ (x : NodeCall H). eqb x.own c.own) cs in
      ap (λ b. map (λ (x : NodeCall H). x.entry) (cond b (c ∷ rest) rest)) (eq-eqb c.own c.own refl)

  calls_other : (c : NodeCall H) (cs : List (NodeCall H)) (a : ℕ) → (c.own ≡ a → ⊥) → calls_at a (c ∷ cs) ≡ calls_at a cs
  calls_other c cs a other =
      let rest : List (NodeCall H) = filter (λ (x : NodeCall H). eqb x.own a) cs in
      ap (λ b. map (λ (x : NodeCall H). x.entry) (cond b (c ∷ rest) rest)) (ne_eqb c.own a other)

  -- one call, as events: one or none
  record OneCall (w : World H) (own : ℕ) (call : Call) (answer : Answer H) (after : Node H) : Type 0 where
    pub may : MayAllHappen hash_of w (events_of_call own call answer after)
    pub placed : (a : ℕ) → (world_after w (events_of_call own call answer after)).nodes a ≡ placed_at own after w.nodes a
    pub messages : (world_after w (events_of_call own call answer after)).messages ≡ w.messages ++ made_by answer

  one_call : (w : World H) (own : ℕ) (node : Node H) (call : Call) (answer : Answer H) (after : Node H) → w.nodes own ≡ Some node
      → CallStep hash_of node call answer after → ComesBy w.messages call → OneCall w own call answer after
  one_call w own node (OfEvent event) (WithReply reply) after there step comes = record {
    may = ((node, there, comes, step), tt);
    placed = λ a. ap (λ (o : Option (Node H)). (called w o own event reply after).nodes a) there;
    messages = ap (λ (o : Option (Node H)). (called w o own event reply after).messages) there;
  }
  one_call w own node OfView (WithView result) after there step comes = record { may = tt; placed = λ a. by_address a (eqb a own) refl; messages = sym (append-nil w.messages) }
    where
      by_address : (a : ℕ) (b : Bool) → eqb a own ≡ b → w.nodes a ≡ cond b (Some after) (w.nodes a)
      by_address a true e = ap w.nodes (eqb-true a own e) ∙ there ∙ ap Some (sym step.1)
      by_address a false e = refl
  one_call w own node call answer after there step comes = elim step [ ]

  module _ (w : World H) (c : NodeCall H) (cs : List (NodeCall H)) (nodes : Nodes) where
    on_way : (after : World H) → ((a : ℕ) → after.nodes a ≡ placed_at c.own c.entry.after w.nodes a) → AreOnWay w (c ∷ cs) nodes → AreOnWay after cs nodes
    on_way after placed are n h = by_address (are n h) (eqb (address_of n) c.own) refl
      where
        by_address : IsOnWay w (c ∷ cs) n → (b : Bool) → eqb (address_of n) c.own ≡ b → IsOnWay after cs n
        by_address (old, there, legal) true e =
            let own : address_of n ≡ c.own = eqb-true (address_of n) c.own e in
            let more : LegalCalls old (c.entry ∷ calls_at c.own cs) n.now =
            subst (λ (es : List (CallEntry H)). LegalCalls old es n.now) (ap (λ (a : ℕ). calls_at a (c ∷ cs)) own ∙ calls_own c cs) legal in (
              c.entry.after,
              placed (address_of n) ∙ ap (λ (b : Bool). cond b (Some c.entry.after) (w.nodes (address_of n))) e,
              subst (λ (a : ℕ). LegalCalls c.entry.after (calls_at a cs) n.now) (sym own) more.1,
            )
        by_address (old, there, legal) false e =
            let other : address_of n ≡ c.own → ⊥ = eqb-false (address_of n) c.own e in (
              old,
              placed (address_of n) ∙ ap (λ (b : Bool). cond b (Some c.entry.after) (w.nodes (address_of n))) e ∙ there,
              subst (λ (es : List (CallEntry H)). LegalCalls old es n.now) (calls_other c cs (address_of n) (λ k. other (sym k))) legal,
            )

    -- the first call is of a node that is there
    first : AreOnWay w (c ∷ cs) nodes → In c.own (map (λ (n : SharedNode hash_of). address_of n) nodes) → ComesBy w.messages c.entry.call
        → OneCall w c.own c.entry.call c.entry.answer c.entry.after
    first are known comes =
        let r = In-from_mapped (λ (n : SharedNode hash_of). address_of n) c.own nodes known in
        let mine = are r.0 r.1 in
        let legal : LegalCalls mine.0 (c.entry ∷ calls_at c.own cs) r.0.now =
        subst (λ (es : List (CallEntry H)). LegalCalls mine.0 es r.0.now) (ap (λ (a : ℕ). calls_at a (c ∷ cs)) r.2 ∙ calls_own c cs) mine.2 in
        one_call w c.own mine.0 c.entry.call c.entry.answer c.entry.after (ap w.nodes (sym r.2) ∙ mine.1) legal.0 comes

  runs : (calls : List (NodeCall H)) (w : World H) (nodes : Nodes) → AreOnWay w calls nodes
      → ((c : NodeCall H) → In c calls → In c.own (map (λ (n : SharedNode hash_of). address_of n) nodes)) → AllCome w.messages calls → RunsFrom w calls nodes
  runs [] w nodes are known come = record {
    may = tt;
    now = λ n h. (are n h).1 ∙ ap Some (sym (are n h).2);
    others = λ a h. refl;
    messages = sym (append-nil w.messages);
  }
  runs (c ∷ cs) w nodes are known come =
      let E : List (WorldEvent H) = events_of_call c.own c.entry.call c.entry.answer c.entry.after in
      let F : List (WorldEvent H) = events_of_calls cs in
      let one = first w c cs nodes are (known c (inl refl)) come.0 in
      let between : World H = world_after w E in
      let rest = runs cs between nodes (on_way w c cs nodes between one.placed are) (λ d h. known d (inr h))
      (subst (λ (ms : List Message). AllCome ms cs) (sym one.messages) come.1) in
      let joined : world_after w (E ++ F) ≡ world_after between F = world_after-append E F w in
      record {
        may = all-append hash_of E F w one.may rest.may;
        now = λ n h. ap (λ (x : World H). x.nodes (address_of n)) joined ∙ rest.now n h;
        others = λ a h. ap (λ (x : World H). x.nodes a) joined ∙ rest.others a h ∙ one.placed a
            ∙ at_other c.own c.entry.after w.nodes a (λ k. h (subst (λ (b : ℕ). In b (map (λ (n : SharedNode hash_of). address_of n) nodes)) (sym k) (known c (inl refl))));
        messages = ap (λ (x : World H). x.messages) joined ∙ rest.messages ∙ ap (λ (ms : List Message). ms ++ all_made cs) one.messages
            ∙ append_assoc w.messages (made_by c.entry.answer) (all_made cs);
      }

  module _ (nodes : Nodes) (calls : List (NodeCall H)) (apart : AreApart nodes) (order : IsOrder nodes calls) where
    begun : Begun nothing nodes (world_after nothing (starting nodes))
    begun = all_begin nodes nothing apart (λ n h. refl)

    abbrev started : World H
    started = world_after nothing (starting nodes)

    run : RunsFrom started calls nodes
    run = runs calls started nodes
        (λ n h. (
          created n.birth,
          begun.there n h,
          subst (λ (es : List (CallEntry H)). LegalCalls (created n.birth) es n.now) (sym (order.each n h)) (legal_calls (created n.birth) n.now n.history n.legal),
        ))
        order.no_other (subst (λ (ms : List Message). AllCome ms calls) (sym begun.messages) order.come)

    joined : world_of nodes calls ≡ world_after started (events_of_calls calls)
    joined = world_after-append (starting nodes) (events_of_calls calls) nothing

    pub may : MayAllHappen hash_of nothing (events_of nodes calls)
    may = all-append hash_of (starting nodes) (events_of_calls calls) nothing begun.may run.may

    now : (n : SharedNode hash_of) → In n nodes → (world_of nodes calls).nodes (address_of n) ≡ Some n.now
    now n h = ap (λ (x : World H). x.nodes (address_of n)) joined ∙ run.now n h

    messages : (world_of nodes calls).messages ≡ all_made calls
    messages = ap (λ (x : World H). x.messages) joined ∙ run.messages ∙ ap (λ (ms : List Message). ms ++ all_made calls) begun.messages

    absent : (a : ℕ) → (In a (map (λ (n : SharedNode hash_of). address_of n) nodes) → ⊥) → (world_of nodes calls).nodes a ≡ None
    absent a h = ap (λ (x : World H). x.nodes a) joined ∙ run.others a h ∙ begun.others a h

    no_other : (a : ℕ) (node : Node H) → (world_of nodes calls).nodes a ≡ Some node → In a (map (λ (n : SharedNode hash_of). address_of n) nodes)
    no_other a node e = elim (decided a (map (λ (n : SharedNode hash_of). address_of n) nodes)) [
      | inl h ↦ h
      | inr h ↦ let no : None ≡ Some node = sym (absent a h) ∙ e in cc
    ]

    true_world : IsTrueWorld (world_of nodes calls)
    true_world = worlds_are_true hash_of (events_of nodes calls) may

    pub shared : IsWorldRun nodes calls × TellTheTruth nodes calls
    shared = (
      record { may = may; now = now; no_other = no_other; messages = messages },
      record {
        held = λ n h. true_world.nodes (address_of n) n.now (now n h);
        told = λ m h. true_world.messages m (subst (λ (ms : List Message). In m ms) (sym messages) h);
        witnessed = none_without_witness hash_of (events_of nodes calls) may;
      },
    )

pub shared_nodes_are_worlds : {H : Type 0} (hash_of : H → List ℕ → ℕ) → SharedNodesAreWorlds hash_of
shared_nodes_are_worlds hash_of nodes calls apart order = shared hash_of nodes calls apart order
