-- What is made of what was heard of a host.
use Rattle.std.proofs.Common.{◌≡◌, ℕ, sym, subst, Bool, Result}
use Rattle.locked_node.specs.declared.node.LockedNode.{LockedNode}
use Rattle.locked_node.specs.Passes.{NodePass}
use Rattle.peer_core.specs.declared.errors.ClusterError.{ClusterError}
use Rattle.peer_core.specs.declared.hearing.Heard.{Heard}
use Rattle.peer_core.specs.Joining.{HearsHost}
use Rattle.peer_core.specs.Parts.{Does}

-- what is known of the heard
pub hears_as : {H : Type 0} (now : ℕ) (heard known : Heard) {locked : LockedNode H} {p q : NodePass H} {r : Result Bool ClusterError}
    → heard ≡ known → Does locked (HearsHost now known) r p q → Does locked (HearsHost now heard) r p q
hears_as now heard known {locked = locked} {p = p} {q = q} {r = r} e d = subst (λ (x : Heard). Does locked (HearsHost now x) r p q) (sym e) d
