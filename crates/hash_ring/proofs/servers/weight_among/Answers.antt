use Rattle.std.proofs.Common.{rules, sym}
use Rattle.std.proofs.lemmas.List.Sorted.{answers_always}
use Rattle.hash_ring.specs.declared.servers.Server.{Server}
use Rattle.hash_ring.proofs.LookUp.{searched_there, searched_none}
use Rattle.hash_ring.proofs.servers.weight_among.Goals as goal

pub returns-in-Ok : goal.returns-in-Ok
returns-in-Ok c =
    let facts = c.binary_search_by_key.ensures in
    let by_address = facts.position (λ (s : Server). s.address) (answers_always _ _ _ (λ f a r g called. search rules)) in
    let server = c.index-servers-place.result in
    rw (← c.index-servers-place.is) (sym (searched_there c.args.servers.now c.args.address c.requires c.in-Ok.place c.binary_search_by_key.result server c.in-Ok.is facts.bound by_address c.index-servers-place.is))

pub returns-in-Err : goal.returns-in-Err
returns-in-Err c =
    let by_address = c.binary_search_by_key.ensures.position (λ (s : Server). s.address) (answers_always _ _ _ (λ f a r g called. search rules)) in
    sym (searched_none c.args.servers.now c.args.address c.requires c.in-Err.field-0 c.binary_search_by_key.result c.in-Err.is by_address)
