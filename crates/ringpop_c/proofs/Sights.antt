-- What is looked up in a view of a node is what the node answers.
use Rattle.std.proofs.Common.{refl}
use Rattle.ringpop_c.specs.Views.{ViewsNameOwners}

pub views_name_owners : ViewsNameOwners
views_name_owners node key = (refl, (λ n place answer told. told))
