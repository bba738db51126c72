use Rattle.std.proofs.lemmas.Result.{on_ok_weaker}
use Rattle.wire_json.proofs.Sent.{change_sent}
use Rattle.wire_json.proofs.change_lines.send_change.Goals as goal

pub returns-clause-sent : goal.returns-clause-sent
returns-clause-sent g c =
    on_ok_weaker c.end_map.result
    (change_sent c.args.change.now c.field_count.result (g.S.Serializer.written c.args.out.now) (g.S.Serializer.written c.begin_map.new.self) (g.S.Serializer.written c.send_address.new.out)
    (g.S.Serializer.written c.send_incarnation.new.out) (g.S.Serializer.written c.send_address-2.new.out) (g.S.Serializer.written c.send_incarnation-2.new.out) (g.S.Serializer.written c.send_text.new.out)
    (g.S.Serializer.written c.send_weight.new.out) (g.S.Serializer.written c.end_map.new.self)
    c.field_count.ensures c.in_ok-begin_map.ensures c.in_ok-send_address.ensures.sent c.in_ok-send_incarnation.ensures.sent c.in_ok-send_address-2.ensures.sent c.in_ok-send_incarnation-2.ensures.sent
    (rw (← c.word.ensures) c.in_ok-send_text.ensures.sent) c.in_ok-send_weight.ensures.sent)
    c.end_map.ensures

pub returns-clause-valid : goal.returns-clause-valid
returns-clause-valid g c =
    on_ok_weaker c.end_map.result
    (λ _. record {
      address = c.send_address.ensures.valid;
      incarnation = c.send_incarnation.ensures.valid;
      source = c.send_address-2.ensures.valid;
      source_incarnation = c.send_incarnation-2.ensures.valid;
      weight = c.send_weight.ensures.valid;
    })
    c.end_map.ensures
