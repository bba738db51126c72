use Rattle.std.proofs.Common.{map, take}
use Rattle.std.specs.List.{AllByRecursion}
use Rattle.wire_json.specs.Forms.{IsChange, change_data}
use Rattle.wire_json.specs.Sending.{SendsAll}
use Rattle.wire_json.proofs.message_values.send_each_change.Given as goal

abbrev pub invariant-loop-change : goal.invariant-loop-change
invariant-loop-change g l = record {
  so_far : SendsAll (map change_data (take l.change-index l.changes)) (g.S.Serializer.written l.fn.out) (g.S.Serializer.written l.out);
  valid : AllByRecursion IsChange (take l.change-index l.changes);
}
