use Rattle.std.proofs.Common.{rules, ◌≡◌, List, [], ◌∷◌, sym, subst, Option, Some}
use Rattle.atomic_table.specs.Table.{opening}
use Rattle.turn_lock.specs.Rule.{IsInTurn, first_view}
use Rattle.turn_lock.proofs.Steps.{starts}
use Rattle.turn_lock.proofs.make.open.Goals as goal

pub new-requires : goal.new-requires
new-requires g c = let stands_for = g.S.Kept.stands_for in let terms = c.args.terms.now in let opens = c.requires.opening in let items : c.push_reserved.new.self.items ≡ Some c.args.state ∷ [] = search rules in
    subst (λ (xs : List (Option g.row.S.Denot)). IsInTurn stands_for terms (opening (0 ∷ 0 ∷ []) xs (first_view {E = g.row.S-Entry.Denot} terms))) (sym items)
    (starts stands_for terms c.args.state opens.0 c.requires.few (subst (λ o. stands_for o [] c.args.state) opens.0 opens.1))
