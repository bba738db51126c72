use Rattle.std.proofs.Common.{rules, arith}
use Rattle.std.proofs.lemmas.Fmt.{length-decimal-le}
use Rattle.change_core.proofs.NumberTexts.{number_text-decimal}
use Rattle.hash_ring.proofs.points.point_hash.Goals as goal

pub push_str-requires : goal.push_str-requires
push_str-requires g c = rw c.format.ensures.text (omega (arith, length-decimal-le 4 c.args.index (omega arith) (omega arith) (omega arith)))

pub returns-clause-hash : goal.returns-clause-hash
returns-clause-hash g c = rw (number_text-decimal c.args.index (omega arith)) (search rules)
