use Rattle.std.proofs.Common.{arith}
use Rattle.agent_core.specs.Tellings.{new_telling}
use Rattle.agent_core.proofs.Noting.{latest_is, pause_is, told_is}
use Rattle.agent_core.proofs.laws.tellings.Goals as goal

pub returns-clause-latest : goal.returns-clause-latest
returns-clause-latest c = latest_is new_telling

pub returns-clause-told : goal.returns-clause-told
returns-clause-told c = told_is new_telling

pub returns-clause-pause : goal.returns-clause-pause
returns-clause-pause c = λ events. pause_is new_telling events (omega arith)
