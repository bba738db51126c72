use Rattle.std.proofs.Common.{◌+◌, ◌*◌, ◌∙◌, arith}
use Rattle.change_core.proofs.PrefixNumbers.{upto_digit, zero_digit, next_digit, scan_stop, scanned_zero, scanned_great, scanned_more, stopped_none, stopped_some, same_read, not_read}
use Rattle.change_core.proofs.decimals.read_front.Goals as goal

pub returns-then-number-eq0-clause-read : goal.returns-then-number-eq0-clause-read
returns-then-number-eq0-clause-read c =
    let at = c.digits.invariant in
    let digit = c.in-Some.ensures.digit in
    (omega arith, zero_digit c.digits.number c.in-Some.digit c.args.bytes.now c.digits.rest.now c.in-Some.behind.now c.if-number-eq0.true at.text digit.1)

pub returns-then-number-eq0-clause-exact : goal.returns-then-number-eq0-clause-exact
returns-then-number-eq0-clause-exact c = λ n rest few stops e.
    let digit = c.in-Some.ensures.digit in
    let read = next_digit c.args.most c.digits.number c.in-Some.digit c.args.bytes.now c.digits.rest.now c.in-Some.behind.now digit.0 digit.1 c.digits.invariant.left ∙ scanned_zero c.args.most (10 * c.digits.number + c.in-Some.digit) c.in-Some.behind.now c.if-number-eq0.true in
    same_read c.args.most 0 n c.args.bytes.now c.in-Some.behind.now rest read (omega arith) few stops e

pub returns-then-number-most-clause-exact : goal.returns-then-number-most-clause-exact
returns-then-number-most-clause-exact c = λ n rest few stops e.
    let digit = c.in-Some.ensures.digit in
    let read = next_digit c.args.most c.digits.number c.in-Some.digit c.args.bytes.now c.digits.rest.now c.in-Some.behind.now digit.0 digit.1 c.digits.invariant.left ∙ scanned_great c.args.most (10 * c.digits.number + c.in-Some.digit) c.in-Some.behind.now (omega arith) in
    not_read c.args.most n c.args.bytes.now rest read (omega arith) few stops e

pub digits-preserved : goal.digits-preserved
digits-preserved c =
    let at = c.digits.invariant in
    let digit = c.in-Some.ensures.digit in
    record {
      few = omega arith;
      text = upto_digit c.digits.number c.in-Some.digit c.args.bytes.now c.digits.rest.now c.in-Some.behind.now digit.0 (omega (arith, at.few)) (omega arith) at.text digit.1;
      left = next_digit c.args.most c.digits.number c.in-Some.digit c.args.bytes.now c.digits.rest.now c.in-Some.behind.now digit.0 digit.1 at.left ∙ scanned_more c.args.most (10 * c.digits.number + c.in-Some.digit) c.in-Some.behind.now (omega arith) (omega arith);
    }

pub returns-then-number-eq0-2-clause-exact : goal.returns-then-number-eq0-2-clause-exact
returns-then-number-eq0-2-clause-exact c = λ n rest few stops e.
    let read = c.digits.invariant.left ∙ scan_stop c.args.most c.digits.number c.digits.rest.now (c.first_digit.ensures.none c.in_default.is) ∙ stopped_none c.digits.number c.digits.rest.now c.if-number-eq0-2.true in
    not_read c.args.most n c.args.bytes.now rest read (omega arith) few stops e

pub returns-clause-exact : goal.returns-clause-exact
returns-clause-exact c = λ n rest few stops e.
    let read = c.digits.invariant.left ∙ scan_stop c.args.most c.digits.number c.digits.rest.now (c.first_digit.ensures.none c.in_default.is) ∙ stopped_some c.digits.number c.digits.rest.now (omega arith) in
    same_read c.args.most c.digits.number n c.args.bytes.now c.digits.rest.now rest read (omega arith) few stops e
