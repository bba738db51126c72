use Rattle.wire_json.proofs.Sent.{message_sent}
use Rattle.wire_json.proofs.message_values.send_message.Goals as goal

pub returns-clause-sent : goal.returns-clause-sent
returns-clause-sent g c =
    message_sent c.args.message.now c.field_count.result (g.S.Serializer.written c.args.out.now) (g.S.Serializer.written c.begin_map.new.self) (g.S.Serializer.written c.send_fields.new.out)
    (g.S.Serializer.written c.end_map.new.self) c.field_count.ensures c.in_ok-begin_map.ensures c.in_ok-send_fields.ensures.sent c.in_ok-end_map.ensures
