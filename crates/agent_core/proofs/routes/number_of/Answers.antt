use Rattle.std.proofs.Common.{◌≢◌, get_or, arith, lit<}
use Rattle.std.proofs.lemmas.Bool.{both_ways}
use Rattle.std.proofs.lemmas.Str.Pattern.{starts_char}
use Rattle.agent_core.proofs.Requesting.{number_of-parsed, number_of-unread}
use Rattle.agent_core.proofs.routes.number_of.Goals as goal

pub returns-then-number-most : goal.returns-then-number-most
returns-then-number-most c =
    let sign = starts_char 43 c.args.digits.now c.starts_with.result c.starts_with.ensures.cases (lit< tt) (lit< tt) in
    let unsigned : get_or c.args.digits.now 0 0 ≢ 43 = λ e. both_ways _ c.if-starts_with.false (sign.1 e) in
    number_of-parsed c.args.most c.args.digits.now c.in-Ok.number c.in-Ok.ensures.value.0 unsigned (omega arith) (omega arith)

pub returns-in_default : goal.returns-in_default
returns-in_default c =
    let sign = starts_char 43 c.args.digits.now c.starts_with.result c.starts_with.ensures.cases (lit< tt) (lit< tt) in
    let unsigned : get_or c.args.digits.now 0 0 ≢ 43 = λ e. both_ways _ c.if-starts_with.false (sign.1 e) in
    number_of-unread c.args.most c.args.digits.now (omega arith) c.in_default.ensures.value.0 unsigned
