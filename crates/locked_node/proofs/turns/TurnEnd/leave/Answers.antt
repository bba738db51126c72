use Rattle.std.proofs.Common.{[]}
use contract.BorrowLft.{⊑_meet, ⊑_static}
use Rattle.locked_node.proofs.turns.TurnEnd.leave.Goals as goal

-- whatever parts a node has, each lives as long as the hash or for ever
pub leave-requires : goal.leave-requires
leave-requires g c κs within =
    let L = g.row.H.lives in
    let lock = κs.1.1.0 in
    let pass = κs.1.1.1.0 in
    let ever = ⊑_static lock in
    let one = ⊑_meet lock L [] within.0 ever in
    let pair = ⊑_meet lock _ _ one one in
    let ring = ⊑_meet lock _ _ (⊑_meet lock _ _ (⊑_meet lock _ _ pair ever) ever) ever in
    let rings = ⊑_meet lock _ _ (⊑_meet lock _ _ ring (⊑_meet lock _ _ ring ever)) ever in
    let node = ⊑_meet lock _ _ (⊑_meet lock _ _ one (⊑_meet lock _ _ pair rings)) ever in
    let two = ⊑_meet pass L [] within.1 (⊑_static pass) in (
      ⊑_meet lock _ _ one (⊑_meet lock _ _ (⊑_meet lock _ _ one node) ever),
      (
        ⊑_meet pass _ _ two (⊑_meet pass _ _ (⊑_meet pass _ _ two (⊑_static pass)) (⊑_static pass)),
        (c.requires.1.1.1.0, c.requires.1.1.1.1),
      ),
    )
