-- Two nodes that tell each other all that they hold.
use Rattle.std.proofs.Common.{◌≡◌, ◌≢◌, ℕ, List, ◌++◌, Some, Ok, refl, sym, ◌∙◌, ap, subst, inl, inr}
use Rattle.std.proofs.lemmas.Bool.{cases_eq}
use Rattle.change_core.specs.declared.changes.Change.{Change}
use Rattle.change_core.specs.Members.{greatest, greater, members, IsMemberList}
use Rattle.change_core.proofs.Members.{greatest-append, greatest-members, members-IsMemberList, IsMemberList-members, IsGreatest-greatest, same_members}
use Rattle.change_core.proofs.SameChanges.{HaveSameChanges-refl}
use Rattle.hash_ring.specs.Points.{points}
use Rattle.hash_ring.specs.Serving.{servers_of}
use Rattle.node_core.specs.declared.events.Event.TheVariants as event
use Rattle.node_core.specs.declared.events.Reply.TheVariants as reply
use Rattle.node_core.specs.Agreement.{IsNodeOf}
use Rattle.node_core.specs.Calls.{OfEvent, WithReply}
use Rattle.node_core.specs.Invariant.{IsNode, IsSeen}
use Rattle.node_core.specs.Itself.{IsItself}
use Rattle.node_core.specs.Log.{log_given, refuted}
use Rattle.node_core.specs.Node.{Node, Seen, at_moment}
use Rattle.node_core.proofs.Agreeing.{agree_still}
use Rattle.node_core.proofs.Itself.{calls_leave_itself}
use Rattle.node_core.proofs.Log.{took_all_members, took_all-own}
use Rattle.node_core.proofs.Synchronising.{takes_greatest}
use Rattle.laws.specs.Reconciliation.{TakesAllOf, Reconcile, NodesReconcile, ReconciledAgree}
use Rattle.laws.proofs.Covering.{log_given-old, greatest-swapped, greatest-log_given, greatest-still, log_given-quiet}

-- one node takes all of another

module _ {H : Type 0} (taker giver new : Node H) (takes : TakesAllOf taker giver new) (listed : IsMemberList taker.members) where
  abbrev log : List Change
  log = log_given taker.own taker.members giver.members

  members_are : new.members ≡ members log
  members_are =
      ap (λ (n : Node H). n.members) takes.step.new_is
      ∙ took_all_members (at_moment taker takes.moment) takes.given (members-IsMemberList taker.members listed)
      ∙ ap (λ (cs : List Change). members (log_given taker.own taker.members cs)) takes.all

  own_same : new.own ≡ taker.own
  own_same = ap (λ (n : Node H). n.own) takes.step.new_is ∙ took_all-own (at_moment taker takes.moment) takes.given

  listed_still : IsMemberList new.members
  listed_still = subst (λ (M : List Change). IsMemberList M) (sym members_are) (IsMemberList-members log)

  holds : (x : ℕ) → greatest new.members x ≡ greatest log x
  holds x = ap (λ (M : List Change). greatest M x) members_are ∙ greatest-members log x

  -- of others the greatest of both
  of_others : (x : ℕ) → x ≢ taker.own → greatest new.members x ≡ greatest (taker.members ++ giver.members) x
  of_others x other = holds x ∙ (takes_greatest taker.own taker.members giver.members).of_others x other

  -- of each address nothing less than the giver
  covers : (x : ℕ) → greatest (new.members ++ giver.members) x ≡ greatest new.members x
  covers x =
      greatest-append new.members giver.members x ∙ ap (λ o. greater o (greatest giver.members x)) (holds x)
      ∙ sym (greatest-append log giver.members x) ∙ greatest-log_given taker.own taker.members giver.members x ∙ sym (holds x)

  -- of itself still something
  holds_itself : (held : Change) → greatest taker.members taker.own ≡ Some held → (now : Change) × (greatest new.members taker.own ≡ Some now)
  holds_itself held e =
      let still = greatest-still taker.members log taker.own held (log_given-old taker.own taker.members giver.members) e in
      (still.0, holds taker.own ∙ still.1)

  -- of all the greatest of both, where it refuted nothing
  unrefuted : takes.taken.refuted ≡ 0 → (x : ℕ) → greatest new.members x ≡ greatest (taker.members ++ giver.members) x
  unrefuted none x =
      let count : takes.taken.refuted ≡ refuted taker.own taker.members giver.members
      = takes.step.refuted_is ∙ ap (λ (cs : List Change). refuted taker.own taker.members cs) takes.all in
      holds x ∙ ap (λ (L : List Change). greatest L x) ((takes_greatest taker.own taker.members giver.members).unrefuted (sym count ∙ none))

  -- of itself too, where the giver holds the same of it
  of_itself : (held : Change) → greatest taker.members taker.own ≡ Some held → greatest giver.members taker.own ≡ Some held
      → greatest new.members taker.own ≡ greatest (taker.members ++ giver.members) taker.own
  of_itself held mine theirs =
      holds taker.own ∙ ap (λ (L : List Change). greatest L taker.own)
      (log_given-quiet taker.own taker.members giver.members held mine (IsGreatest-greatest giver.members taker.own held theirs).highest)

-- two nodes tell each other

module _ {H : Type 0} (a b a' b' : Node H) (they : Reconcile a b a' b') (a_kept : IsNode a) (b_kept : IsNode b) (apart : a.own ≢ b.own) where
  abbrev mid : Node H
  mid = they.between

  mid_listed : IsMemberList mid.members
  mid_listed = listed_still a b mid they.first a_kept.one_each

  -- the second exchange leaves of all but b what a holds
  after_two : (x : ℕ) → x ≢ b.own → greatest b'.members x ≡ greatest mid.members x
  after_two x other =
      of_others b mid b' they.second b_kept.one_each x other ∙ greatest-swapped b.members mid.members x ∙ covers a b mid they.first a_kept.one_each x

  -- where what a takes last is the greatest of both, it holds what b does
  as_other : (x : ℕ) → greatest a'.members x ≡ greatest (mid.members ++ b'.members) x → greatest a'.members x ≡ greatest b'.members x
  as_other x e = e ∙ greatest-swapped mid.members b'.members x ∙ covers b mid b' they.second b_kept.one_each x

  after_three : (x : ℕ) → greatest a'.members x ≡ greatest b'.members x
  after_three x = elim (cases_eq x a.own) [
    | inl e ↦ subst (λ (y : ℕ). greatest a'.members y ≡ greatest b'.members y) (own ∙ sym e) itself
    | inr h ↦ as_other x (of_others mid b' a' they.third mid_listed x (λ k. h (k ∙ own)))
  ]
    where
      own : mid.own ≡ a.own
      own = own_same a b mid they.first a_kept.one_each

      held : (now : Change) × (greatest mid.members a.own ≡ Some now)
      held = holds_itself a b mid they.first a_kept.one_each a_kept.held a_kept.held_is

      mine : greatest mid.members mid.own ≡ Some held.0
      mine = ap (λ (y : ℕ). greatest mid.members y) own ∙ held.1

      itself : greatest a'.members mid.own ≡ greatest b'.members mid.own
      itself = as_other mid.own
          (of_itself mid b' a' they.third mid_listed held.0 mine (after_two mid.own (λ k. apart (sym own ∙ k)) ∙ mine))

  b_listed : IsMemberList b'.members
  b_listed = listed_still b mid b' they.second b_kept.one_each

  same : a'.members ≡ b'.members
  same = same_members a'.members b'.members (listed_still mid b' a' they.third mid_listed) b_listed after_three

  others : (x : ℕ) → x ≢ a.own → x ≢ b.own → greatest a'.members x ≡ greatest (a.members ++ b.members) x
  others x not_a not_b = after_three x ∙ after_two x not_b ∙ of_others a b mid they.first a_kept.one_each x not_a

  two : they.second.taken.refuted ≡ 0 → mid.members ≡ b'.members
  two none = same_members mid.members b'.members mid_listed b_listed (λ x. sym (
      unrefuted b mid b' they.second b_kept.one_each none x ∙ greatest-swapped b.members mid.members x ∙ covers a b mid they.first a_kept.one_each x
      ))

pub nodes_reconcile : {H : Type 0} → NodesReconcile H
nodes_reconcile a b a' b' they a_kept b_kept apart = record {
  members_same = same a b a' b' they a_kept b_kept apart;
  of_others = others a b a' b' they a_kept b_kept apart;
  two_suffice = two a b a' b' they a_kept b_kept apart;
}

-- such nodes agree

took_itself : {H : Type 0} (hash_of : H → List ℕ → ℕ) (taker giver new : Node H) → TakesAllOf taker giver new → IsItself taker new
took_itself hash_of taker giver new takes =
    calls_leave_itself hash_of taker new (OfEvent (event.Take takes.given takes.moment)) (WithReply (reply.Take (Ok takes.taken))) takes.step

after_both : {H : Type 0} (old middle new : Node H) → IsItself old middle → IsItself middle new → IsItself old new
after_both old middle new first then = record {
  own_stays = then.own_stays ∙ first.own_stays;
  hash_stays = then.hash_stays ∙ first.hash_stays;
  config_stays = then.config_stays ∙ first.config_stays;
}

-- a node is one of the members that it holds
pub node_of_members : {H : Type 0} (hash_of : H → List ℕ → ℕ) (seen : Seen H) (M : List Change) → IsSeen hash_of seen → seen.node.members ≡ M → IsNodeOf hash_of seen M
node_of_members {H} hash_of seen M is e =
    let listed : members seen.node.members ≡ seen.node.members = members-IsMemberList seen.node.members is.kept.one_each in
    record {
      members_are = sym listed ∙ ap members e;
      points_are = is.ring ∙ ap (λ (L : List Change). points (hash_of seen.node.hash) seen.node.config.replicas (servers_of L)) e;
    }

pub reconciled_agree : {H : Type 0} (hash_of : H → List ℕ → ℕ) → ReconciledAgree hash_of
reconciled_agree {H} hash_of a b a' b' a_kept b_kept apart they a_seen b_seen hash replicas =
    let e : a'.node.members ≡ b'.node.members = same a.node b.node a'.node b'.node they a_kept b_kept apart in
    agree_still hash_of a b a' b' b'.node.members b'.node.members
    (node_of_members hash_of a' b'.node.members a_seen e)
    (node_of_members hash_of b' b'.node.members b_seen refl)
    (after_both a.node they.between a'.node (took_itself hash_of a.node b.node they.between they.first) (took_itself hash_of they.between b'.node a'.node they.third))
    (took_itself hash_of b.node they.between b'.node they.second)
    (HaveSameChanges-refl b'.node.members) hash replicas
