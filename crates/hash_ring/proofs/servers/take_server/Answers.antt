use Rattle.std.proofs.Common.{not, rules, ap, sym, ◌∙◌}
use Rattle.std.proofs.lemmas.Fn.{filter_same}
use Rattle.hash_ring.specs.declared.servers.Server.{Server}
use Rattle.std.specs.Option.{is_some}
use Rattle.hash_ring.specs.Servers.{is_same, weight_of}
use Rattle.hash_ring.proofs.Weights.{none_if_not_some, without_none}
use Rattle.hash_ring.proofs.servers.take_server.Goals as goal

pub returns-then-is_none-clause-servers : goal.returns-then-is_none-clause-servers
returns-then-is_none-clause-servers c =
    sym (without_none c.args.address c.args.servers.now.items (none_if_not_some (weight_of c.args.address c.args.servers.now.items) (ap (λ ss. is_some (weight_of c.args.address ss)) (sym c.deref.ensures.value) ∙ (ap is_some (sym c.weight_among.ensures) ∙ c.if-is_none.ensures))))

pub returns-clause-servers : goal.returns-clause-servers
returns-clause-servers c =
    filter_same _ (λ (s : Server). not (is_same s.address c.args.address)) _ (λ x b f' k. search rules) _ _ c.retain.ensures.filtered
