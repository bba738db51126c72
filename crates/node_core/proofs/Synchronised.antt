-- A node that takes all that another holds.
use Rattle.std.proofs.Common.{◌≡◌, ◌≤◌, ℕ, List, [], ◌∷◌, map, refl, sym, ◌∙◌, ap, subst}
use Rattle.change_core.specs.declared.changes.Change.{Change}
use Rattle.change_core.specs.Members.{greatest, members}
use Rattle.change_core.proofs.Members.{greatest-members, members-IsMemberList}
use Rattle.change_core.specs.Change.{change_of}
use Rattle.node_core.specs.Log.{log_given, refuted}
use Rattle.node_core.specs.Messages.{full_sync}
use Rattle.node_core.specs.Node.{Node, at_moment, said_by}
use Rattle.node_core.specs.Synchronisation.{NodesSynchronise}
use Rattle.node_core.proofs.Log.{took_all_members}
use Rattle.node_core.proofs.Synchronising.{takes_greatest}

changes_said : {H : Type 0} (node : Node H) (cs : List Change) → map change_of (map (said_by node) cs) ≡ cs
changes_said node [] = refl
changes_said node (c ∷ cs) = ap (λ ds. c ∷ ds) (changes_said node cs)

pub nodes_synchronise : {H : Type 0} → NodesSynchronise H
nodes_synchronise {H} taker giver new moment taken kept given_kept step =
    let given : map change_of (full_sync giver) ≡ giver.members = changes_said giver giver.members in
    let all : new.members ≡ members (log_given taker.own taker.members giver.members)
    = ap (λ (n : Node H). n.members) step.new_is
    ∙ took_all_members (at_moment taker moment) (full_sync giver) (members-IsMemberList taker.members kept.one_each)
    ∙ ap (λ (cs : List Change). members (log_given taker.own taker.members cs)) given in
    let holds : (a : ℕ) → greatest new.members a ≡ greatest (log_given taker.own taker.members giver.members) a
    = λ a. ap (λ (M : List Change). greatest M a) all ∙ greatest-members (log_given taker.own taker.members giver.members) a in
    let count : taken.refuted ≡ refuted taker.own taker.members giver.members
    = step.refuted_is ∙ ap (λ (cs : List Change). refuted taker.own taker.members cs) given in
    let takes = takes_greatest taker.own taker.members giver.members in
    record {
      refuted_once = subst (λ (n : ℕ). n ≤ 1) (sym count) (takes.refuted_once given_kept.one_each);
      of_others = λ a other. holds a ∙ takes.of_others a other;
      unrefuted = λ none a. holds a ∙ ap (λ (L : List Change). greatest L a) (takes.unrefuted (sym count ∙ none));
      of_itself = λ held c one h g. holds taker.own ∙ takes.of_itself held c given_kept.one_each (sym count ∙ one) h g;
    }
