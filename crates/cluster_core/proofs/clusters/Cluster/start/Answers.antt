use Rattle.std.proofs.Common.{rules, refl, subst, ◌≡◌, IfOk, IfErr, ℕ, List}
use Rattle.std.specs.Prelude.{Result, Ok, Err}
use Rattle.node_core.specs.Workers.{IsCrew}
use Rattle.node_core.specs.Node.{Seen}
use Rattle.cluster_core.specs.Clusters.{AreApart, IsAbandoned, IsNotStarted}
use Rattle.cluster_core.specs.declared.clusters.StartError.{StartError}
use Rattle.cluster_core.specs.declared.clusters.StartError.TheVariants.{BadCount, SameAddress, NoThread, Memory}
use Rattle.cluster_core.proofs.clusters.Cluster.start.Goals as goal

if_ok_so : {A E P : Type 0} (r : Result A E) → P → IfOk r (λ _. P)
if_ok_so (Ok a) p = p
if_ok_so (Err e) p = tt

-- who could be served and was given up was not started
abandoned_so : {H A : Type 0} (r : Result A (StartError H)) (nodes : List (Seen H)) (workers : ℕ)
    → IfErr r IsAbandoned → IsCrew workers → AreApart nodes → IfErr r (IsNotStarted nodes workers)
abandoned_so (Ok a) nodes workers given crew apart = tt
abandoned_so (Err NoThread) nodes workers given crew apart = (crew, apart)
abandoned_so (Err Memory) nodes workers given crew apart = (crew, apart)
abandoned_so (Err (BadCount back)) nodes workers given crew apart = absurd given
abandoned_so (Err (SameAddress back)) nodes workers given crew apart = absurd given

-- the same nodes are apart, or are not
apart_so : {H : Type 0} {seen nodes : List (Seen H)} → seen ≡ nodes → AreApart seen → AreApart nodes
apart_so same apart = subst (λ ns. AreApart ns) same apart

twins_so : {H : Type 0} {seen nodes : List (Seen H)} → seen ≡ nodes → (AreApart seen → ⊥) → AreApart nodes → ⊥
twins_so same twins = subst (λ ns. AreApart ns → ⊥) same twins

pub returns-then-has_duplicate_address-clause-refused : goal.returns-then-has_duplicate_address-clause-refused
returns-then-has_duplicate_address-clause-refused g c =
    (refl, (search rules, search rules), twins_so c.deref.ensures.value (c.has_duplicate_address.ensures.twins c.if-has_duplicate_address.true))

pub returns-clause-can : goal.returns-clause-can
returns-clause-can g c =
    if_ok_so c.launch.result
    ((search rules, search rules), apart_so c.deref.ensures.value (c.has_duplicate_address.ensures.apart c.if-has_duplicate_address.false))

pub returns-clause-refused : goal.returns-clause-refused
returns-clause-refused g c =
    abandoned_so c.launch.result _ _ c.launch.ensures.abandoned (search rules, search rules)
    (apart_so c.deref.ensures.value (c.has_duplicate_address.ensures.apart c.if-has_duplicate_address.false))
