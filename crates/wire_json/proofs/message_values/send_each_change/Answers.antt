use Rattle.wire_json.specs.Forms.{IsChange, change_data}
use Rattle.wire_json.proofs.Elements.{all_taken}
use Rattle.wire_json.proofs.Sent.{taken_sent}
use Rattle.wire_json.proofs.message_values.send_each_change.Goals as goal

pub loop-change-preserved : goal.loop-change-preserved
loop-change-preserved g c = record {
  so_far = taken_sent change_data c.args.changes.now c.loop-change.change-index c.change-item.result (g.S.Serializer.written c.args.out.now) (g.S.Serializer.written c.loop-change.out) (g.S.Serializer.written c.send_change.new.out)
      c.loop-change-test.true c.change-item.is c.loop-change.invariant.so_far c.in_ok-send_change.ensures.sent;
  valid = all_taken IsChange c.args.changes.now c.loop-change.change-index c.change-item.result c.loop-change-test.true c.change-item.is c.loop-change.invariant.valid c.in_ok-send_change.ensures.valid;
}
