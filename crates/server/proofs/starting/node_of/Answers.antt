use Rattle.std.proofs.Common.{refl, subst, sym}
use Rattle.node_core.specs.Configs.{bad_field}
use Rattle.server.specs.Starting.{IsNotCreated}
use Rattle.server.specs.declared.starting.StartError.{StartError}
use Rattle.server.proofs.Starts.{not_created}
use Rattle.server.proofs.starting.node_of.Goals as goal

pub returns-in-Err-clause-refused : goal.returns-in-Err-clause-refused
returns-in-Err-clause-refused g c =
    subst (λ (e : StartError). IsNotCreated c.args.settings.now e) (sym c.start_error.ensures)
    (not_created c.args.settings.now (bad_field c.args.settings.now.config) refl c.new-made.result c.in-Err.error c.new-made.ensures.bad_config c.in-Err.ensures.refusal c.in-Err.is)
