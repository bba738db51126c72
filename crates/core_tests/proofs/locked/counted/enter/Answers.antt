use Rattle.std.proofs.Common.{◌≡◌, ◌+◌, ◌^◌, ◌-◌, ◌%◌, min, sum, IfOk, Some}
use Rattle.core_tests.proofs.Counted.{text_given}
use Rattle.core_tests.proofs.locked.counted.enter.Goals as goal

pub returns-clause-done : goal.returns-clause-done
returns-clause-done g c =
    text_given (λ hash bytes. sum bytes % 2 ^ 64) (λ to message answer. Unit {0}) (λ to message answer old new. IfOk answer (λ reply. new.last ≡ Some reply.source))
    (λ keys body answer old new. new.calls ≡ min (old.calls + 1) (2 ^ 64 - 1)) (λ keys body answer old new. new.calls ≡ min (old.calls + 1) (2 ^ 64 - 1))
    c.done_once.ensures.texts c.keys-keys.result c.text-body.result c.handle_or_forward.result c.args.own.now c.handle_or_forward.new.handler c.args.near.now
    c.handle_or_forward.new.link c.args.node.now c.args.pass.now c.handle_or_forward.new.pass c.handle_or_forward.ensures.sent
    (λ reply. c.handle_or_forward.new.link.last ≡ Some reply.source) (λ owner message reply mid shown. shown)
