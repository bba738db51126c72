use Rattle.std.proofs.Common.{ap}
use Rattle.agent_core.proofs.Packing.{unpacked-packed}
use Rattle.agent_core.proofs.laws.packs.Goals as goal

pub returns-clause-status : goal.returns-clause-status
returns-clause-status c = λ status is_json body low high. ap (λ p. p.status) (unpacked-packed status is_json body low high)

pub returns-clause-is_json : goal.returns-clause-is_json
returns-clause-is_json c = λ status is_json body low high. ap (λ p. p.is_json) (unpacked-packed status is_json body low high)

pub returns-clause-body : goal.returns-clause-body
returns-clause-body c = λ status is_json body low high. ap (λ p. p.body) (unpacked-packed status is_json body low high)
