use Rattle.std.proofs.Common.{◌≡◌, None, Some, arith, false, true}
use Rattle.cli_words.proofs.cluster_words.words_without_hosts.Goals as goal

pub returns-in_err-incarnation-clause-taken : goal.returns-in_err-incarnation-clause-taken
returns-in_err-incarnation-clause-taken c = λ has. let never : false ≡ true = c.in_err-incarnation.ensures.taken has.incarnation in cc

pub returns-in_err-requests-clause-taken : goal.returns-in_err-requests-clause-taken
returns-in_err-requests-clause-taken c = λ has.
    let n = has.requests in
    let never : None ≡ Some n.0 = c.in_err-requests.ensures.taken n.0 n.1 n.2.0 n.2.1 in cc

pub returns-in_err-workers-clause-taken : goal.returns-in_err-workers-clause-taken
returns-in_err-workers-clause-taken c = λ has. let never : false ≡ true = c.in_err-workers.ensures.taken has.workers in cc

pub returns-in_err-period-clause-taken : goal.returns-in_err-period-clause-taken
returns-in_err-period-clause-taken c = λ has.
    let n = has.period in
    let never : None ≡ Some n.0 = c.in_err-period.ensures.taken n.0 n.1 (omega arith) n.2 in cc

pub returns-in_err-weight-clause-taken : goal.returns-in_err-weight-clause-taken
returns-in_err-weight-clause-taken c = λ has. let never : false ≡ true = c.in_err-weight.ensures.taken has.weight in cc

pub returns-in_err-per_message-clause-taken : goal.returns-in_err-per_message-clause-taken
returns-in_err-per_message-clause-taken c = λ has. let never : false ≡ true = c.in_err-per_message.ensures.taken has.per_message in cc

pub returns-in_err-piggyback-clause-taken : goal.returns-in_err-piggyback-clause-taken
returns-in_err-piggyback-clause-taken c = λ has. let never : false ≡ true = c.in_err-piggyback.ensures.taken has.piggyback in cc
