use Rattle.std.proofs.Common.{IsUtf8}
use Rattle.serde_json.specs.Data.{string}
use Rattle.wire_json.proofs.Elements.{all_taken}
use Rattle.wire_json.proofs.Sent.{taken_sent}
use Rattle.wire_json.proofs.message_values.send_each_key.Goals as goal

pub loop-key-preserved : goal.loop-key-preserved
loop-key-preserved g c = record {
  so_far = taken_sent string c.args.keys.now c.loop-key.key-index c.key-item.result (g.S.Serializer.written c.args.out.now) (g.S.Serializer.written c.loop-key.out) (g.S.Serializer.written c.send_element.new.out)
      c.loop-key-test.true c.key-item.is c.loop-key.invariant.so_far (rw (← c.as_str.ensures) c.in_ok-send_element.ensures.sent);
  texts = all_taken IsUtf8 c.args.keys.now c.loop-key.key-index c.key-item.result c.loop-key-test.true c.key-item.is c.loop-key.invariant.texts (rw (← c.as_str.ensures) c.in_ok-send_element.ensures.utf8);
}
