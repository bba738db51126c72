-- Nodes whose messages may be late, lost, repeated and in any order come to hold the same.
use Rattle.std.proofs.Common.{◌≡◌, ◌≢◌, ◌⊎◌, ℕ, Bool, cond, List, [], ◌∷◌, map, Option, refl, sym, ◌∙◌, ap, subst, inl, inr}
use Rattle.std.proofs.lemmas.Bool.{cases_eq, eq-eqb, ne_eqb}
use Rattle.change_core.specs.declared.changes.Change.{Change}
use Rattle.change_core.specs.Members.{greatest, IsMemberList}
use Rattle.change_core.proofs.Members.{greater-None}
use Rattle.node_core.specs.Node.{Node}
use Rattle.laws.specs.Convergence.{Nodes, IsThere, AreNodes}
use Rattle.laws.specs.Delivery.{Place, Network, NetworkEvent, hop_of, SendStep, DeliveryStep, NetworkStep, NetworkRun, NetworksConverge}
use Rattle.laws.specs.Delivery.Place.{AtNode, InMessage}
use Rattle.laws.specs.Delivery.NetworkEvent.{Sends, Delivers}
use Rattle.laws.proofs.Converging.{elsewhere, stay-none, stay-both, taker-still, taker-stays, taker-keeps, taker-covers, taker-of_others, taker-of_itself}
use Rattle.laws.proofs.Staying.{members_of, members-at, HaveStayed, ended}
use Rattle.laws.proofs.Spreading.{Covers, covers-refl, Lists, Goes, Run}

-- places apart

abbrev number_of : Place → ℕ
number_of (AtNode a) = a
number_of (InMessage m) = m

abbrev is_node : Place → Type 0
is_node (AtNode a) = Unit {0}
is_node (InMessage m) = ⊥

node-not_message : (a m : ℕ) → AtNode a ≡ InMessage m → ⊥
node-not_message a m e = subst (λ (p : Place). is_node p) e tt

same_place : (p q : Place) → (p ≡ q) ⊎ (p ≢ q)
same_place (AtNode a) (AtNode b) = elim (cases_eq a b) [ inl e ↦ inl (ap AtNode e) | inr n ↦ inr (λ k. n (ap number_of k)) ]
same_place (AtNode a) (InMessage m) = inr (λ k. node-not_message a m k)
same_place (InMessage m) (AtNode a) = inr (λ k. node-not_message a m (sym k))
same_place (InMessage m) (InMessage n) = elim (cases_eq m n) [ inl e ↦ inl (ap InMessage e) | inr o ↦ inr (λ k. o (ap number_of k)) ]

-- what is held at each place

abbrev holds : {H : Type 0} → Network H → Lists Place
holds s (AtNode a) = members_of (s.nodes a)
holds s (InMessage m) = s.messages m

abbrev IsPlace : {H : Type 0} → Nodes H → Place → Type 0
IsPlace nodes (AtNode a) = IsThere nodes a
IsPlace nodes (InMessage m) = Unit {0}

-- every message tells what a node held, or nothing yet
abbrev AreLists : {H : Type 0} → Network H → Type 0
AreLists s = (m : ℕ) → IsMemberList (s.messages m)

-- a message is sent

module _ {H : Type 0} (before after : Network H) (sender message : ℕ) (sends : SendStep before sender message after) where
  here : after.messages message ≡ sends.node.members
  here = ap (λ (f : ℕ → List Change). f message) sends.messages_are ∙ ap (λ b. cond b sends.node.members (before.messages message)) (eq-eqb message message refl)

  others : (m : ℕ) → m ≢ message → after.messages m ≡ before.messages m
  others m other = ap (λ (f : ℕ → List Change). f m) sends.messages_are ∙ ap (λ b. cond b sends.node.members (before.messages m)) (ne_eqb m message other)

  is_told : after.messages message ≡ holds before (AtNode sender)
  is_told = here ∙ sym (members-at before.nodes sender sends.node sends.node_is)

  sent-goes : Goes AtNode (holds before) (hop_of (Sends sender message)) (holds after)
  sent-goes = record {
    others_stay = stay;
    keeps = λ x. subst (λ (L : List Change). Covers (greatest (after.messages message) x) (greatest L x)) (sym sends.is_new) (greater-None (greatest (after.messages message) x));
    covers = λ w x. subst (λ (L : List Change). Covers (greatest L x) (greatest (holds before (AtNode sender)) x)) (sym is_told) (covers-refl (greatest (holds before (AtNode sender)) x));
    of_others = λ x other. inr (ap (λ (L : List Change). greatest L x) is_told);
    of_itself = λ x home less. absurd (node-not_message x message home);
  }
    where
      stay : (p : Place) → p ≢ InMessage message → holds after p ≡ holds before p
      stay (AtNode a) other = ap (λ (f : Nodes H). members_of (f a)) sends.nodes_stay
      stay (InMessage m) other = others m (λ k. other (ap InMessage k))

  sent-lists : AreNodes before.nodes → AreLists before → AreLists after
  sent-lists are lists m = elim (cases_eq m message) [
    | inl is ↦ subst (λ (L : List Change). IsMemberList L) (sym (ap (λ (n : ℕ). after.messages n) is ∙ here)) (are.kept sender sends.node sends.node_is).one_each
    | inr other ↦ subst (λ (L : List Change). IsMemberList L) (sym (others m other)) (lists m)
  ]

-- a message comes

module _ {H : Type 0} (before after : Network H) (message taker : ℕ) (whole : Bool) (comes : DeliveryStep before message taker whole after) (are : AreNodes before.nodes) (lists : AreLists before) where
  came-goes : Goes AtNode (holds before) (hop_of (Delivers message taker whole)) (holds after)
  came-goes = record {
    others_stay = stay;
    keeps = taker-keeps before.nodes after.nodes taker comes.node comes.new whole (before.messages message) are comes.node_is (lists message) comes.takes comes.nodes_are;
    covers = taker-covers before.nodes after.nodes taker comes.node comes.new whole (before.messages message) are comes.node_is (lists message) comes.takes comes.nodes_are;
    of_others = λ x other. taker-of_others before.nodes after.nodes taker comes.node comes.new whole (before.messages message) are comes.node_is (lists message) comes.takes comes.nodes_are
        x (λ k. other (ap AtNode k));
    of_itself = λ x home less.
        let is : x ≡ taker = ap number_of home in
        let itself = taker-of_itself before.nodes after.nodes taker comes.node comes.new whole (before.messages message) are comes.node_is (lists message) comes.takes comes.nodes_are in
        subst (λ (y : ℕ). greatest (members_of (after.nodes taker)) y ≡ greatest (members_of (before.nodes taker)) y) (sym is)
        (itself (subst (λ (y : ℕ). Covers (greatest (members_of (before.nodes taker)) y) (greatest (before.messages message) y)) is less));
  }
    where
      stay : (p : Place) → p ≢ AtNode taker → holds after p ≡ holds before p
      stay (AtNode a) other = ap (λ (o : Option (Node H)). members_of o)
          (elsewhere before.nodes after.nodes taker comes.node comes.new comes.node_is comes.nodes_are a (λ k. other (ap AtNode k)))
      stay (InMessage m) other = ap (λ (f : ℕ → List Change). f m) comes.messages_stay

-- one event

module _ {H : Type 0} where
  goes : (before after : Network H) (e : NetworkEvent) → AreNodes before.nodes → AreLists before → NetworkStep before e after → Goes AtNode (holds before) (hop_of e) (holds after)
  goes before after (Sends sender message) are lists step = sent-goes before after sender message step
  goes before after (Delivers message taker whole) are lists step = came-goes before after message taker whole step are lists

  still : (before after : Network H) (e : NetworkEvent) → AreNodes before.nodes → AreLists before → NetworkStep before e after → AreNodes after.nodes
  still before after (Sends sender message) are lists step = subst (λ (f : Nodes H). AreNodes f) (sym step.nodes_stay) are
  still before after (Delivers message taker whole) are lists step =
      taker-still before.nodes after.nodes taker step.node step.new whole (before.messages message) are step.node_is (lists message) step.takes step.nodes_are

  stays : (before after : Network H) (e : NetworkEvent) → AreNodes before.nodes → AreLists before → NetworkStep before e after → HaveStayed before.nodes after.nodes
  stays before after (Sends sender message) are lists step = stay-none before.nodes after.nodes step.nodes_stay
  stays before after (Delivers message taker whole) are lists step =
      taker-stays before.nodes after.nodes taker step.node step.new whole (before.messages message) are step.node_is (lists message) step.takes step.nodes_are

  listed : (before after : Network H) (e : NetworkEvent) → AreNodes before.nodes → AreLists before → NetworkStep before e after → AreLists after
  listed before after (Sends sender message) are lists step = sent-lists before after sender message step are lists
  listed before after (Delivers message taker whole) are lists step = λ m. subst (λ (f : ℕ → List Change). IsMemberList (f m)) (sym step.messages_stay) (lists m)

  ends-there : (first : Nodes H) (before after : Network H) (e : NetworkEvent) → ((a : ℕ) → IsThere before.nodes a → IsThere first a) → NetworkStep before e after
      → IsPlace first (hop_of e).taker × IsPlace first (hop_of e).giver
  ends-there first before after (Sends sender message) back step = (tt, back sender (step.node, step.node_is))
  ends-there first before after (Delivers message taker whole) back step = (back taker (step.node, step.node_is), tt)

  -- events one after another

  running : (first : Nodes H) (before after : Network H) (es : List NetworkEvent) → AreNodes before.nodes → AreLists before → ((a : ℕ) → IsThere before.nodes a → IsThere first a)
      → NetworkRun before es after → Run same_place AtNode (λ p. IsPlace first p) (holds before) (map hop_of es) (holds after)
  running first before after [] are lists back all = ap {B = Lists Place} (λ (s : Network H). holds s) all
  running first before after (e ∷ es) are lists back all =
      let ends = ends-there first before all.0 e back all.1 in (
        holds all.0,
        ends.0,
        ends.1,
        goes before all.0 e are lists all.1,
        running first all.0 after es (still before all.0 e are lists all.1) (listed before all.0 e are lists all.1)
            (λ a there. let b = (stays before all.0 e are lists all.1).came a there.0 there.1 in back a (b.0, b.1)) all.2,
      )

  ending : (before after : Network H) (es : List NetworkEvent) → AreNodes before.nodes → AreLists before → NetworkRun before es after → AreNodes after.nodes
  ending before after [] are lists all = subst (λ (s : Network H). AreNodes s.nodes) (sym all) are
  ending before after (e ∷ es) are lists all = ending all.0 after es (still before all.0 e are lists all.1) (listed before all.0 e are lists all.1) all.2

  staying : (before after : Network H) (es : List NetworkEvent) → AreNodes before.nodes → AreLists before → NetworkRun before es after → HaveStayed before.nodes after.nodes
  staying before after [] are lists all = stay-none before.nodes after.nodes (ap (λ (s : Network H). s.nodes) all)
  staying before after (e ∷ es) are lists all =
      stay-both before.nodes all.0.nodes after.nodes (stays before all.0 e are lists all.1)
      (staying all.0 after es (still before all.0 e are lists all.1) (listed before all.0 e are lists all.1) all.2)

  homes : (before : Network H) → ((m : ℕ) → before.messages m ≡ []) → (p : Place) → IsPlace before.nodes p → (holds before p ≡ []) ⊎ ((a : ℕ) × (AtNode a ≡ p))
  homes before none (AtNode a) is = inr (a, refl)
  homes before none (InMessage m) is = inl (none m)

  no-lists : (before : Network H) → ((m : ℕ) → before.messages m ≡ []) → AreLists before
  no-lists before none m = subst (λ (L : List Change). IsMemberList L) (sym (none m)) tt

  pub delivered_converge : NetworksConverge H
  delivered_converge before after events are none all each =
      ended same_place AtNode (λ p. IsPlace before.nodes p) before.nodes after.nodes (holds before) (holds after) (map hop_of events)
      (running before.nodes before after events are (no-lists before none) (λ a there. there) all)
      (λ a. refl) (λ a. refl) (λ a there. there) (λ a there. there) (homes before none)
      (ending before after events are (no-lists before none) all) (staying before after events are (no-lists before none) all) each
