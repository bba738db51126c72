-- Why no node is made, from what the node answered.
use Rattle.std.proofs.Common.{◌≡◌, ◌↔◌, Result, Ok, Err, inl, inr, refl, sym, ◌∙◌, ap, subst}
use Rattle.std.specs.Prelude.{Option, Some, None, IfErr}
use Rattle.node_core.specs.declared.configs.Config.{Config}
use Rattle.node_core.specs.declared.configs.ConfigField.{ConfigField}
use Rattle.node_core.specs.declared.errors.NodeError.{NodeError}
use Rattle.node_core.specs.declared.errors.NodeError.TheVariants as refusal
use Rattle.node_core.specs.Configs.{bad_field}
use Rattle.ringpop_c.specs.declared.codes.Code.{Code}
use Rattle.ringpop_c.specs.Creation.{IsConfigFault}
use Rattle.ringpop_c.specs.Codes.{code_of_error}

-- a node refuses a configuration exactly for its first field that is out of its range
abbrev NamesField : {X : Type 0} → Config → Result X NodeError → Type 0
NamesField config made = (field : ConfigField) → (made ≡ Err (refusal.BadConfig field)) ↔ (bad_field config ≡ Some field)

abbrev refusal_in : {X : Type 0} → Result X NodeError → NodeError
refusal_in (Ok x) = refusal.Memory
refusal_in (Err e) = e

fault : {X : Type 0} (config : Config) (made : Result X NodeError) (error : NodeError) → NamesField config made
    → IfErr made (λ e. bad_field config ≡ None → e ≡ refusal.Memory) → made ≡ Err error
    → (bad : Option ConfigField) → bad_field config ≡ bad → IsConfigFault config (code_of_error error)
fault config made error known other is (Some field) bad =
    let same : error ≡ refusal.BadConfig field = sym (ap refusal_in is) ∙ ap refusal_in ((known field).1 bad) in
    inl (field, bad, ap code_of_error same)
fault config made error known other is None bad =
    inr (bad, ap code_of_error (subst (λ r. IfErr r (λ e. bad_field config ≡ None → e ≡ refusal.Memory)) is other bad))

pub refused : {X : Type 0} (config : Config) (made : Result X NodeError) (error : NodeError) (answer : Code) → NamesField config made
    → IfErr made (λ e. bad_field config ≡ None → e ≡ refusal.Memory) → made ≡ Err error → answer ≡ code_of_error error → IsConfigFault config answer
refused config made error answer known other is told =
    subst (λ (c : Code). IsConfigFault config c) (sym told) (fault config made error known other is (bad_field config) refl)
