use Rattle.std.proofs.Common.{◌≡◌, ◌<◌, ◌^◌, ℕ, List, Option, IfSome, ap, arith, codes, inl, inr, false, length, subst, true}
use Rattle.std.proofs.lemmas.List.{length-map}
use Rattle.clap.specs.Words.{Row, Text, all_of}
use Rattle.change_core.specs.Address.{address_text}
use Rattle.cli_words.specs.Whole.{HasBadAddress, HasServed}
use Rattle.cli_words.specs.Words.{AreAddressesAt, rows_in}
use Rattle.cli_words.proofs.Given.{absent_of}
use Rattle.cli_words.proofs.cluster_words.serve_words.Goals as goal

-- hosts are as many as their words
few_hosts : (rows : List Row) (hosts : List ℕ) → AreAddressesAt rows (codes "host") hosts
    → IfSome (all_of (codes "host") rows) (λ texts. length texts < 2 ^ 32) → length hosts < 2 ^ 32
few_hosts rows hosts (inl is) few =
    let fewer = subst (λ (o : Option (List Text)). IfSome o (λ texts. length texts < 2 ^ 32)) is few in
    omega (arith, length-map hosts address_text, fewer)
few_hosts rows hosts (inr none) few = omega (arith, ap length none.1)

pub returns-in-None-clause-fault : goal.returns-in-None-clause-fault
returns-in-None-clause-fault c =
    let rows = rows_in c.args.matches.now in
    let hosts = few_hosts rows c.in_ok-hosts.hosts.items c.in_ok-hosts.ensures.ok in
    absent_of (HasServed rows) (HasBadAddress rows) (λ has. let never : false ≡ true = c.in-None.ensures.taken has.numbers (hosts has.few) in cc) c.absent.result c.absent.ensures
