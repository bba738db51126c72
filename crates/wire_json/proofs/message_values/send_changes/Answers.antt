use Rattle.std.proofs.Common.{length, map, arith}
use Rattle.std.proofs.lemmas.List.{length-map}
use Rattle.wire_json.specs.Forms.{change_data}
use Rattle.message_core.specs.declared.fields.Field.TheVariants as field
use Rattle.wire_json.proofs.Sent.{list_sent}
use Rattle.wire_json.proofs.message_values.send_changes.Goals as goal

pub returns-clause-sent : goal.returns-clause-sent
returns-clause-sent g c =
    let cs = c.args.changes.now in
    list_sent field.Changes (map change_data cs) (length cs) (g.S.Serializer.written c.args.out.now) (g.S.Serializer.written c.key.new.self) (g.S.Serializer.written c.begin_seq.new.self)
    (g.S.Serializer.written c.send_each_change.new.out) (g.S.Serializer.written c.end_seq.new.self) (omega (arith, length-map cs change_data)) (rw (← c.name.ensures) c.in_ok-key.ensures) c.in_ok-begin_seq.ensures
    c.in_ok-send_each_change.ensures.sent c.in_ok-end_seq.ensures
