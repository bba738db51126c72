use Rattle.std.proofs.Common.{◌≡◌, ap, ◌∙◌, sym, subst, nat_eq, map, rules}
use Rattle.std.specs.Map.{keys_of, values_of}
use Rattle.indexmap.specs.IndexMap.{insert_entry}
use Rattle.gossip_core.specs.Pending.{subject, fresh, NoneAbout}
use Rattle.gossip_core.proofs.PendingLemmas.{values_of-insert, by_address-insert, NoneAbout-from_lookup}
use Rattle.gossip_core.proofs.pending.put.Goals as goal

-- what the map's `insert` leaves, by the sourced change
inserted : (c : goal.In_ok-insert) → (let s = c.args.sourced in c.insert.new.self.entries ≡ insert_entry nat_eq c.args.pending.now.entries s.change.address (fresh s))
inserted c = c.in_ok-insert.ensures.entries ∙ ap (λ a. insert_entry nat_eq c.args.pending.now.entries a (fresh c.args.sourced)) c.subject.ensures

pub returns-clause-ok : goal.returns-clause-ok
returns-clause-ok c = ap values_of (inserted c) ∙ values_of-insert c.args.pending.now.entries c.args.sourced c.requires

pub returns-clause-by_address : goal.returns-clause-by_address
returns-clause-by_address c =
    subst (λ es. map subject (values_of es) ≡ keys_of es) (sym (inserted c)) (by_address-insert c.args.pending.now.entries c.args.sourced c.requires)

pub returns-in_err-insert-clause-out_of_memory : goal.returns-in_err-insert-clause-out_of_memory
returns-in_err-insert-clause-out_of_memory c =
    let absent = NoneAbout-from_lookup c.subject.result c.args.pending.now.entries c.requires c.in_err-insert.ensures.absent in
    let none = subst (λ a. NoneAbout a (values_of c.args.pending.now.entries)) c.subject.ensures absent in
    search (rules, none)
