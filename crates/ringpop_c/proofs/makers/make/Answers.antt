use Rattle.ringpop_c.proofs.Creation.{refused}
use Rattle.ringpop_c.proofs.makers.make.Goals as goal

-- src/makers.rt:17:1
pub returns-clause-refusal : goal.returns-clause-refusal
returns-clause-refusal c =
    refused c.args.config c.new.result c.in-Err.error c.of_error.result
    c.new.ensures.bad_config c.new.ensures.refusal c.in-Err.is c.of_error.ensures
