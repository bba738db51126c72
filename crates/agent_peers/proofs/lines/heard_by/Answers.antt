use Rattle.std.proofs.Common.{◌≢◌, ℕ, IfNone, List, Option, Vec, refl, subst}
use Rattle.std.specs.Global.{Global}
use Rattle.cluster_names.specs.Names.{named}
use Rattle.agent_peers.proofs.lines.heard_by.Goals as goal

pub returns-in-Ok-None : goal.returns-in-Ok-None
returns-in-Ok-None c =
    let none : (plain : List ℕ) → c.deref.result.now ≢ named c.args.name.now plain =
    subst (λ (o : Option (Vec ℕ Global)). IfNone o ((plain : List ℕ) → c.deref.result.now ≢ named c.args.name.now plain)) c.in-Ok-None.field-0-is c.in-Ok-None.ensures.other in
    (refl, subst (λ xs. (plain : List ℕ) → xs ≢ named c.args.name.now plain) c.deref.ensures.value none)
