use Rattle.std.proofs.Common.{◌≡◌, length, min, rules}
use Rattle.line_service.proofs.Parts.{left_after, none_left}
use Rattle.line_service.proofs.answers.Answer.write_on.Goals as goal

pub returns-clause-written : goal.returns-clause-written
returns-clause-written g c =
    let same : c.deref.result.now ≡ c.args.self.now.line.items = search rules in
    let begins : c.min-start.result ≡ min c.args.self.now.written (length c.args.self.now.line.items) = search rules in
    (_, c.in_ok-count.ensures.bytes, left_after _ _ _ _ c.in_ok-count.count same begins)

pub returns-clause-whole : goal.returns-clause-whole
returns-clause-whole g c =
    let same : c.deref.result.now ≡ c.args.self.now.line.items = search rules in
    let begins : c.min-start.result ≡ min c.args.self.now.written (length c.args.self.now.line.items) = search rules in
    let full : c.len-2.result ≡ length c.args.self.now.line.items = search rules in
    none_left _ _ _ _ c.in_ok-count.count same begins c.len-2.result full c.in_ok-count.ensures.bound
