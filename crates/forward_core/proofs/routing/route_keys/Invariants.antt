use Rattle.std.proofs.Common.{◌≡◌, ℕ, ◌<◌, List, slice_index_or}
use Rattle.forward_core.specs.Routes.{owner_in}
use Rattle.forward_core.proofs.routing.route_keys.Given as goal

abbrev pub invariant-loop-key : goal.invariant-loop-key
invariant-loop-key g l = (k : ℕ) (d : List ℕ) → k < l.key-index → owner_in g.H.PointHash.hash_of l.view (slice_index_or l.others k d) ≡ l.owner
