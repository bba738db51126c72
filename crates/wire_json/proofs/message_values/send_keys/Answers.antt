use Rattle.std.proofs.Common.{length, map, arith}
use Rattle.std.proofs.lemmas.List.{length-map}
use Rattle.serde_json.specs.Data.{string}
use Rattle.message_core.specs.declared.fields.Field.TheVariants as field
use Rattle.wire_json.proofs.Sent.{list_sent}
use Rattle.wire_json.proofs.message_values.send_keys.Goals as goal

pub returns-clause-sent : goal.returns-clause-sent
returns-clause-sent g c =
    let ks = c.args.keys.now in
    list_sent field.Keys (map string ks) (length ks) (g.S.Serializer.written c.args.out.now) (g.S.Serializer.written c.key.new.self) (g.S.Serializer.written c.begin_seq.new.self)
    (g.S.Serializer.written c.send_each_key.new.out) (g.S.Serializer.written c.end_seq.new.self) (omega (arith, length-map ks string)) (rw (← c.name.ensures) c.in_ok-key.ensures)
    (rw (← c.as_slice-list.ensures.items) c.in_ok-begin_seq.ensures) (rw (← c.as_slice-list.ensures.items) c.in_ok-send_each_key.ensures.sent) c.in_ok-end_seq.ensures
