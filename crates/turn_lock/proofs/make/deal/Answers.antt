use Rattle.std.proofs.Common.{rules, arith, ◌≡◌, ℕ, ◌+◌, [], ◌∷◌, ◌++◌, map, drop, sym, ap, ◌∙◌, subst}
use Rattle.std.specs.List.{All, range_with_len}
use Rattle.turn_lock.specs.declared.pass.Pass.{Pass}
use Rattle.turn_lock.specs.Seats.{IsDealt}
use Rattle.turn_lock.specs.Rule.{outside, known, unused, kept_part, cut_part}
use Rattle.std.proofs.lemmas.List.{map_push}
use Rattle.std.proofs.lemmas.List.Elements.{All-push}
use Rattle.turn_lock.proofs.Lists.{unused_drop, unused_gone, numbers_push}
use Rattle.turn_lock.proofs.Steps.{splits_at}
use Rattle.turn_lock.proofs.make.deal.Goals as goal

pub split_seat-seat-requires : goal.split_seat-seat-requires
split_seat-seat-requires g c = let i : ℕ = c.loop-number.number in let o = c.args.board.now.shared.key.opening.value in let ps = drop (i + 1) (unused {E = g.row.S-Entry.Denot} c.args.passes) in (
  search rules,
  search rules,
  splits_at g.S.Kept.stands_for c.args.board.now.shared.key _ i o [] ps _ (ap (λ m. m.0) c.loop-number.invariant.root ∙ ap (λ l. outside o l 0) (unused_drop g.row.S-Entry.Denot c.args.passes i (omega arith))),
)

pub loop-number-preserved : goal.loop-number-preserved
loop-number-preserved g c =
    let i : ℕ = c.loop-number.number in let o = c.args.board.now.shared.key.opening.value in let ps = drop (i + 1) (unused {E = g.row.S-Entry.Denot} c.args.passes) in let was = c.loop-number.invariant in
    let is : c.loop-number.root.me ≡ (outside o (known i [] ∷ ps) 0, []) = was.root ∙ ap (λ l. (outside o l 0, [])) (unused_drop g.row.S-Entry.Denot c.args.passes i (omega arith)) in
    let pass : Pass g.row.S.Denot g.row.S-Entry.Denot = record { name = c.args.name; number = i; left = c.args.turns; seat = c.split_seat-seat.result } in
    let items : c.push_reserved.new.self.items ≡ c.loop-number.dealt.items ++ pass ∷ [] = search rules in
    let P = IsDealt c.args.board.now.shared.table_id o c.args.name c.args.turns in record {
      table = search rules;
      root = c.split_seat-seat.ensures.2 ∙ ap (λ m. (kept_part m.0, m.1)) is;
      dealt = subst (All P) (sym items) (All-push P c.loop-number.dealt.items pass was.dealt (search rules, search rules, search rules, c.split_seat-seat.ensures.4 ∙ ap (λ m. (cut_part m.0, [])) is));
      room = search rules;
      numbers = ap (map (λ p. p.number)) items ∙ (map_push (λ p. p.number) c.loop-number.dealt.items pass ∙ (ap (λ l. l ++ i ∷ []) was.numbers ∙ sym (numbers_push i)));
    }

pub returns-clause-dealt : goal.returns-clause-dealt
returns-clause-dealt g c =
    let i : ℕ = c.loop-number.number in let o = c.args.board.now.shared.key.opening.value in let count : i + 1 ≡ c.args.passes = omega arith in let was = c.loop-number.invariant in
    let is : c.loop-number.root.me ≡ (outside o (known i [] ∷ []) 0, []) =
    was.root ∙ ap (λ l. (outside o l 0, [])) (unused_drop g.row.S-Entry.Denot c.args.passes i (omega arith) ∙ ap (λ l. known i [] ∷ l) (unused_gone g.row.S-Entry.Denot c.args.passes (i + 1) (omega arith))) in
    let pass : Pass g.row.S.Denot g.row.S-Entry.Denot = record { name = c.args.name; number = i; left = c.args.turns; seat = c.loop-number.root } in
    let items : c.push_reserved-2.new.self.items ≡ c.loop-number.dealt.items ++ pass ∷ [] = search rules in
    let P = IsDealt c.args.board.now.shared.table_id o c.args.name c.args.turns in
    subst (All P) (sym items) (All-push P c.loop-number.dealt.items pass was.dealt (search rules, search rules, search rules, is))

pub returns-clause-numbers : goal.returns-clause-numbers
returns-clause-numbers g c =
    let i : ℕ = c.loop-number.number in let count : i + 1 ≡ c.args.passes = omega arith in let was = c.loop-number.invariant in
    let pass : Pass g.row.S.Denot g.row.S-Entry.Denot = record { name = c.args.name; number = i; left = c.args.turns; seat = c.loop-number.root } in
    let items : c.push_reserved-2.new.self.items ≡ c.loop-number.dealt.items ++ pass ∷ [] = search rules in
    ap (map (λ p. p.number)) items ∙ (map_push (λ p. p.number) c.loop-number.dealt.items pass ∙ (ap (λ l. l ++ i ∷ []) was.numbers ∙ (sym (numbers_push i) ∙ ap (range_with_len 0) count)))
