use Rattle.std.proofs.Common.{inl, inr, refl, rules}
use Rattle.serde_json.specs.View.{view}
use Rattle.message_core.specs.declared.fields.Field.TheVariants as field
use Rattle.wire_json.proofs.OneField.{others, is_at, counts, names, reads}
use Rattle.wire_json.proofs.partial.PartialChange.read.Goals as goal

pub returns-in-address : goal.returns-in-address
returns-in-address c = λ ms h.
    let other = others field.Address c.args.name.now c.in-address.is in
    reads c.args.name.now (view c.args.value.now) ms c.args.self.now _ h (inl (c.in-address.is, is_at _ _ c.address_of-self.ensures)) (inr (other field.IncarnationNumber refl, refl)) (inr (other field.Source refl, refl)) (inr (other field.SourceIncarnationNumber refl, refl)) (inr (other field.Status refl, refl)) (other field.Tombstone refl) (inr (other field.Weight refl, refl))

pub returns-in-incarnationNumber : goal.returns-in-incarnationNumber
returns-in-incarnationNumber c = λ ms h.
    let other = others field.IncarnationNumber c.args.name.now c.in-incarnationNumber.is in
    reads c.args.name.now (view c.args.value.now) ms c.args.self.now _ h (inr (other field.Address refl, refl)) (inl (c.in-incarnationNumber.is, counts _ _ c.incarnation_of-self.ensures)) (inr (other field.Source refl, refl)) (inr (other field.SourceIncarnationNumber refl, refl)) (inr (other field.Status refl, refl)) (other field.Tombstone refl) (inr (other field.Weight refl, refl))

pub returns-in-source : goal.returns-in-source
returns-in-source c = λ ms h.
    let other = others field.Source c.args.name.now c.in-source.is in
    reads c.args.name.now (view c.args.value.now) ms c.args.self.now _ h (inr (other field.Address refl, refl)) (inr (other field.IncarnationNumber refl, refl)) (inl (c.in-source.is, is_at _ _ c.address_of-self-in-source.ensures)) (inr (other field.SourceIncarnationNumber refl, refl)) (inr (other field.Status refl, refl)) (other field.Tombstone refl) (inr (other field.Weight refl, refl))

pub returns-in-sourceIncarnationNumber : goal.returns-in-sourceIncarnationNumber
returns-in-sourceIncarnationNumber c = λ ms h.
    let other = others field.SourceIncarnationNumber c.args.name.now c.in-sourceIncarnationNumber.is in
    reads c.args.name.now (view c.args.value.now) ms c.args.self.now _ h (inr (other field.Address refl, refl)) (inr (other field.IncarnationNumber refl, refl)) (inr (other field.Source refl, refl)) (inl (c.in-sourceIncarnationNumber.is, counts _ _ c.incarnation_of-self-in-sourceIncarnationNumber.ensures)) (inr (other field.Status refl, refl)) (other field.Tombstone refl) (inr (other field.Weight refl, refl))

pub returns-in-status : goal.returns-in-status
returns-in-status c = λ ms h.
    let other = others field.Status c.args.name.now c.in-status.is in
    reads c.args.name.now (view c.args.value.now) ms c.args.self.now _ h (inr (other field.Address refl, refl)) (inr (other field.IncarnationNumber refl, refl)) (inr (other field.Source refl, refl)) (inr (other field.SourceIncarnationNumber refl, refl)) (inl (c.in-status.is, names _ _ c.status_of-self.ensures)) (other field.Tombstone refl) (inr (other field.Weight refl, refl))

pub returns-in-weight : goal.returns-in-weight
returns-in-weight c = λ ms h.
    let other = others field.Weight c.args.name.now c.in-weight.is in
    reads c.args.name.now (view c.args.value.now) ms c.args.self.now _ h (inr (other field.Address refl, refl)) (inr (other field.IncarnationNumber refl, refl)) (inr (other field.Source refl, refl)) (inr (other field.SourceIncarnationNumber refl, refl)) (inr (other field.Status refl, refl)) (other field.Tombstone refl) (inl (c.in-weight.is, c.weight_of-self.ensures))

-- a field of any other name
pub returns-else-str_eq-7 : goal.returns-else-str_eq-7
returns-else-str_eq-7 c = λ ms h. reads c.args.name.now (view c.args.value.now) ms c.args.self.now c.args.self.now h
    (inr (search rules, refl))
    (inr (search rules, refl))
    (inr (search rules, refl))
    (inr (search rules, refl))
    (inr (search rules, refl))
    (search rules)
    (inr (search rules, refl))
