use Rattle.std.proofs.Common.{◌≡◌, ◌<◌, ◌∙◌, length, map, sym, ap, arith}
use Rattle.agent_core.specs.Parts.{joined}
use Rattle.agent_core.proofs.Parting.{no_parts, read-more, read-none}
use Rattle.agent_core.proofs.parts.parts_in.Goals as goal

pub loop-rest-init : goal.loop-rest-init
loop-rest-init c = read-none c.new-parts.result.items c.args.bytes.now c.new-parts.ensures.items

pub returns-in_default-clause-none : goal.returns-in_default-clause-none
returns-in_default-clause-none c = λ _ parts same.
    let some : 0 < length c.loop-rest.rest.now = grind arith in
    let size : length c.args.bytes.now ≡ length (joined parts) = ap length same in
    no_parts (map (λ p. p.now) c.loop-rest.parts.items) parts c.loop-rest.rest.now (omega arith) some c.in_default.ensures.none (sym same ∙ c.loop-rest.invariant)

pub loop-rest-preserved : goal.loop-rest-preserved
loop-rest-preserved c =
    read-more c.loop-rest.parts.items c.push.new.self.items c.in-Some.part c.args.bytes.now c.loop-rest.rest.now c.in-Some.after.now
    c.loop-rest.invariant c.in-Some.ensures.part c.in_ok-push.ensures.items
