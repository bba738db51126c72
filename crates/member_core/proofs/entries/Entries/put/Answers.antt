use Rattle.member_core.specs.declared.errors.MemberError.TheVariants.{Full}
use Rattle.member_core.proofs.Edits.{IsTable-put}
use Rattle.member_core.proofs.entries.Entries.put.Goals as goal

pub invariant_of-self : goal.invariant_of-self
invariant_of-self c = (IsTable-put c.put.result Full c.self.inside.changes.items c.put.new.changes.items c.self.inside.max c.args.change.now c.self.invariant.0 c.put.ensures.full.1 c.put.ensures.ok c.put.ensures.err, tt)

pub returns-clause-valid : goal.returns-clause-valid
returns-clause-valid c = IsTable-put c.put.result Full c.self.inside.changes.items c.put.new.changes.items c.self.inside.max c.args.change.now c.self.invariant.0 c.put.ensures.full.1 c.put.ensures.ok c.put.ensures.err
