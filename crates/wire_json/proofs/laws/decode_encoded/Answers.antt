use Rattle.std.proofs.Common.{rules}
use Rattle.wire_json.proofs.laws.decode_encoded.Goals as goal

pub returns-clause-same : goal.returns-clause-same
returns-clause-same c =
    let only = c.decode.ensures.only c.args.message.now (rw c.deref.ensures.value c.in_ok-line.ensures.line) in
    search rules

pub returns-clause-err : goal.returns-clause-err
returns-clause-err c =
    let only = c.decode.ensures.only c.args.message.now (rw c.deref.ensures.value c.in_ok-line.ensures.line) in
    search rules
