-- A slot of a view goes to another thread as the box that it may own does.
use denote.Param.Send.{IsSend, sendable}
use Rattle.std_heap.specs.contracts.Global as Heap
use Rattle.std_heap.proofs.Global.TheSendSync as heap
use Rattle.ringpop_c.specs.Owned.{view_row}
use Rattle.ringpop_c.specs.contracts.slots.ViewSlot.{the_row, struct, the_codes, the_heap}
use Rattle.ringpop_c.proofs.slots.BoxedView.TheSendSync as boxed
use Rattle.ringpop_c.proofs.Sending.{moves, slot_moves}

pub send : IsSend the_row
send = moves struct (the_codes Heap.the_row.coded) the_heap (search sendable, (heap.the_field_send, tt)) (λ s. slot_moves view_row boxed.the_send s.alloc s.ptr s.value)
