use Rattle.std.proofs.Common.{IsSome, codes}
use Rattle.clap.specs.Words.{first_of}
use Rattle.cli_words.specs.Whole.{IsBadArgument, IsNoAddressAmong, IsNoAddressAt}
use Rattle.cli_words.specs.Words.{rows_in}
use Rattle.cli_words.proofs.Given.{named_by}
use Rattle.cli_words.proofs.agent_reading.addresses_in.Goals as goal

pub returns-in_err-address-clause-fault : goal.returns-in_err-address-clause-fault
returns-in_err-address-clause-fault c =
    let rows = rows_in c.args.matches.now in
    named_by (IsSome (first_of (codes "address") rows)) (IsSome (first_of (codes "address") rows)) (IsNoAddressAt rows (codes "address")) rows _ (λ has. has) (λ bad. IsBadArgument.address bad) c.address_at.result c.address_at.ensures.fault
    c.in_err-address.field-0.0 c.in_err-address.ensures.fault c.from_residual.result c.from_residual.ensures.1

pub returns-in_err-bind-clause-fault : goal.returns-in_err-bind-clause-fault
returns-in_err-bind-clause-fault c =
    let rows = rows_in c.args.matches.now in
    named_by (Unit {0}) (IsSome (first_of (codes "address") rows)) (IsNoAddressAt rows (codes "bind")) rows _ (λ has. tt) (λ bad. IsBadArgument.bind bad) c.option_at.result c.option_at.ensures.fault
    c.in_err-bind.field-0.0 c.in_err-bind.ensures.fault c.from_residual-in_err-bind.result c.from_residual-in_err-bind.ensures.1

pub returns-in_err-http-clause-fault : goal.returns-in_err-http-clause-fault
returns-in_err-http-clause-fault c =
    let rows = rows_in c.args.matches.now in
    named_by (Unit {0}) (IsSome (first_of (codes "address") rows)) (IsNoAddressAt rows (codes "http")) rows _ (λ has. tt) (λ bad. IsBadArgument.http bad) c.option_at-2.result c.option_at-2.ensures.fault
    c.in_err-http.field-0.0 c.in_err-http.ensures.fault c.from_residual-in_err-http.result c.from_residual-in_err-http.ensures.1

pub returns-in_err-app-clause-fault : goal.returns-in_err-app-clause-fault
returns-in_err-app-clause-fault c =
    let rows = rows_in c.args.matches.now in
    named_by (Unit {0}) (IsSome (first_of (codes "address") rows)) (IsNoAddressAt rows (codes "app")) rows _ (λ has. tt) (λ bad. IsBadArgument.app bad) c.option_at-3.result c.option_at-3.ensures.fault
    c.in_err-app.field-0.0 c.in_err-app.ensures.fault c.from_residual-in_err-app.result c.from_residual-in_err-app.ensures.1

pub returns-in_err-hosts-clause-fault : goal.returns-in_err-hosts-clause-fault
returns-in_err-hosts-clause-fault c =
    let rows = rows_in c.args.matches.now in
    named_by (Unit {0}) (IsSome (first_of (codes "address") rows)) (IsNoAddressAmong rows (codes "host")) rows _ (λ has. tt) (λ bad. IsBadArgument.host bad) c.hosts_at.result c.hosts_at.ensures.fault
    c.in_err-hosts.field-0.0 c.in_err-hosts.ensures.fault c.from_residual-in_err-hosts.result c.from_residual-in_err-hosts.ensures.1
