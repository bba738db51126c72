use Rattle.std.proofs.Common.{◌≡◌, ◌+◌, ◌^◌, ◌-◌, ◌%◌, min, sum}
use Rattle.peer_core.specs.Parts.{let_in}
use Rattle.core_tests.proofs.Counted.{one_of_two}
use Rattle.core_tests.proofs.locked.counted.send_both.Goals as goal

pub returns : goal.returns
returns g c =
    one_of_two (λ hash bytes. sum bytes % 2 ^ 64) (λ to message answer. Unit {0}) (λ to message answer old new. Unit {0})
    (λ keys body answer old new. new.calls ≡ min (old.calls + 1) (2 ^ 64 - 1)) c.one_owner.ensures.one c.args.one.now.member.node c.args.other.now.member.node
    c.args.one.now.member.pass.now c.serve-first.new.self.pass.now c.args.other.now.member.pass.now c.serve-second.new.self.pass.now c.args.message.now c.args.now
    (let_in c.serve-first.result) (let_in c.serve-second.result) c.args.one.now.handler c.serve-first.new.handler c.args.other.now.handler c.serve-second.new.handler
    c.serve-first.ensures.done.does.makes c.serve-second.ensures.done.does.makes
