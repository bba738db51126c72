use Rattle.serde_json.specs.View.{view}
use Rattle.agent_core.specs.Requests.{element_at}
use Rattle.agent_core.proofs.Listing.{SoFar}
use Rattle.agent_core.proofs.key_lists.keys_of_elements.Given as goal

-- the keys so far stand before those that are left
abbrev pub invariant-loop-element : goal.invariant-loop-element
invariant-loop-element l = SoFar view element_at l.elements l.element-index l.items.items
