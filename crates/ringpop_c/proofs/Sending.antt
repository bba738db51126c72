-- A slot goes to another thread as the box that it may own does.
use mir.Raw.{raw}
use base.Fml.{Fml}
use base.Shift.{Keyless}
use denote.Memory.{lone}
use denote.Param.Send.{IsSend, AllSend, owning_send, struct_send}
use denote.RattleType.{RattleType}
use denote.RawPtr.{Ptr}
use denote.Struct.Owning.{Owning, Codes, owning, row, shape, fields, to}
use denote.Struct.Record.{Record}
use denote.Struct.Struct.{exits_of}
use Rattle.std.proofs.Crossing as heap
use Rattle.std.specs.Global.{Global}
use Rattle.std.specs.Prelude.{Option, Some, None}
use Rattle.std_alloc.proofs.SendSync.{quiet, lies}
use Rattle.ringpop_c.specs.Owned.{slot_owns}

-- what a slot owns is tied to no thread, where what stands in its box is not
pub slot_moves : (R : RattleType) → IsSend R → (alloc : Global) (p : Ptr) (held : Option R.Denot) → Keyless (slot_owns R alloc p held)
slot_moves R sent alloc p None = tt
slot_moves R sent alloc p (Some x) = (lies R sent p x, heap.frees.frees alloc (raw (lone R.mir)) p)

-- a type moves with its fields and what it owns beside them
pub moves : (N : Record) (codes : Codes N) (heap : N.D → Fml) → AllSend (fields (owning N codes heap)) → ((d : N.D) → Keyless (heap d)) → IsSend (row (owning N codes heap))
moves N codes heap sent owned =
    let O : Owning = owning N codes heap in
    owning_send O sent owned (λ k. quiet (to O) (exits_of k (fields O)) ((struct_send (shape O) sent).leaving k))
