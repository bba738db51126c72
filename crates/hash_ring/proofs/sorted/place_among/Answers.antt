use Rattle.std.proofs.Common.{refl}
use Rattle.hash_ring.proofs.Placed.{found, splits, less_before, greater_from}
use Rattle.hash_ring.proofs.sorted.place_among.Goals as goal

pub returns-in-Ok-clause-below : goal.returns-in-Ok-clause-below
returns-in-Ok-clause-below g c =
    let there = found g.T.Ord.cmp c.args.item.now c.args.items.now c.args.items.now c.in-Ok.place (λ y. c.requires.exact.same y c.args.item.now) refl c.in-Ok.ensures.bound c.in-Ok.ensures.ok in
    absurd (c.requires.absent there)

pub returns-in-Ok-clause-above : goal.returns-in-Ok-clause-above
returns-in-Ok-clause-above g c =
    let there = found g.T.Ord.cmp c.args.item.now c.args.items.now c.args.items.now c.in-Ok.place (λ y. c.requires.exact.same y c.args.item.now) refl c.in-Ok.ensures.bound c.in-Ok.ensures.ok in
    absurd (c.requires.absent there)

pub returns-in-Err-clause-below : goal.returns-in-Err-clause-below
returns-in-Err-clause-below g c =
    less_before c.requires.exact c.args.item.now c.args.items.now c.in-Err.place
    (splits c.requires.exact c.args.item.now c.args.items.now c.args.items.now c.in-Err.place c.requires.ascends refl c.in-Err.ensures.position)

pub returns-in-Err-clause-above : goal.returns-in-Err-clause-above
returns-in-Err-clause-above g c =
    greater_from c.requires.exact c.args.item.now c.args.items.now c.in-Err.place
    (splits c.requires.exact c.args.item.now c.args.items.now c.args.items.now c.in-Err.place c.requires.ascends refl c.in-Err.ensures.position)
