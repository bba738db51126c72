-- The value in a handle.
use Rattle.std.specs.Prelude.{Option}
use Rattle.ringpop_c.specs.declared.handles.RingpopNode.{RingpopNode}
use Rattle.ringpop_c.specs.declared.handles.RingpopView.{RingpopView}
use Rattle.ringpop_c.specs.Owned.{HeldNode, HeldView}

-- the node in a handle, if it is full
abbrev pub node_in : RingpopNode → Option HeldNode
node_in handle = handle.slot.value

-- the view in a handle, if it is full
abbrev pub view_in : RingpopView → Option HeldView
view_in handle = handle.slot.value
