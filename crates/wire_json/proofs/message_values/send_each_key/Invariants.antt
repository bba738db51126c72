use Rattle.std.proofs.Common.{map, take, IsUtf8}
use Rattle.std.specs.List.{AllByRecursion}
use Rattle.serde_json.specs.Data.{string}
use Rattle.wire_json.specs.Sending.{SendsAll}
use Rattle.wire_json.proofs.message_values.send_each_key.Given as goal

abbrev pub invariant-loop-key : goal.invariant-loop-key
invariant-loop-key g l = record {
  so_far : SendsAll (map string (take l.key-index l.keys)) (g.S.Serializer.written l.fn.out) (g.S.Serializer.written l.out);
  texts : AllByRecursion IsUtf8 (take l.key-index l.keys);
}
