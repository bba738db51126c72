-- The memory that a slot owns, and the value that it holds.
use base.Fml.{Fml, ftrue}
use base.Stored.{Coded}
use denote.RattleType.{RattleType}
use denote.RawPtr.{Ptr}
use Rattle.std.specs.Prelude.{Option, Some, None}
use Rattle.std.specs.Box.Ownership.{box_owns}
use Rattle.std.specs.Coded.{coded_option}
use Rattle.std.specs.Global.{Global}
use Rattle.std_heap.specs.contracts.GlobalAllocator.TheImpl.{ghosts}
use Rattle.ringpop_c.specs.contracts.slots.BoxedNode.{the_row as node}
use Rattle.ringpop_c.specs.contracts.slots.BoxedView.{the_row as view}

-- nothing where the slot is empty, else the box at the pointer
abbrev pub slot_owns : (T : RattleType) → Global → Ptr → Option T.Denot → Fml
slot_owns T alloc p None = ftrue
slot_owns T alloc p (Some x) = box_owns (ghosts.dealloc_token alloc) T p x

-- the type of the value in the box of a node
abbrev pub node_row : RattleType
node_row = node

-- the type of the value in the box of a view
abbrev pub view_row : RattleType
view_row = view

-- the model of a node in a box
abbrev pub HeldNode : Type 0
HeldNode = node_row.Denot

-- the model of a view in a box
abbrev pub HeldView : Type 0
HeldView = view_row.Denot

-- how a ghost field stores a node, or that there is none
abbrev pub node_coded : Coded (Option HeldNode)
node_coded = coded_option node_row.coded

-- how a ghost field stores a view, or that there is none
abbrev pub view_coded : Coded (Option HeldView)
view_coded = coded_option view_row.coded
