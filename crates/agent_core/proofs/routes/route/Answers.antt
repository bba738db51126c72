use Rattle.std.proofs.Common.{◌≡◌, None, codes, inr, option_copied}
use Rattle.agent_core.specs.Requests.{after, open_at}
use Rattle.agent_core.proofs.Requesting.{stripped, asked-open, answered-open}
use Rattle.agent_core.proofs.routes.route.Goals as goal

pub returns-clause-action : goal.returns-clause-action
returns-clause-action c =
    let keys : None ≡ after (codes "/keys/") c.args.path.now = rw c.in_default.is at (stripped (codes "/keys/") c.args.path.now c.strip_prefix.result c.strip_prefix.ensures.cases) in
    let owner : None ≡ after (codes "/owner/") c.args.path.now = rw c.in_default-strip_prefix.is at (stripped (codes "/owner/") c.args.path.now c.strip_prefix-2.result c.strip_prefix-2.ensures.cases) in
    let query = option_copied c.args.query in
    (answered-open c.open.result _ (open_at c.args.method.now c.args.path.now query c.args.body.now) (asked-open c.args.method.now c.args.path.now c.args.body.now query keys owner) c.open.ensures.action c.open.ensures.refused).0

pub returns-clause-refused : goal.returns-clause-refused
returns-clause-refused c =
    let keys : None ≡ after (codes "/keys/") c.args.path.now = rw c.in_default.is at (stripped (codes "/keys/") c.args.path.now c.strip_prefix.result c.strip_prefix.ensures.cases) in
    let owner : None ≡ after (codes "/owner/") c.args.path.now = rw c.in_default-strip_prefix.is at (stripped (codes "/owner/") c.args.path.now c.strip_prefix-2.result c.strip_prefix-2.ensures.cases) in
    let query = option_copied c.args.query in
    (answered-open c.open.result _ (open_at c.args.method.now c.args.path.now query c.args.body.now) (asked-open c.args.method.now c.args.path.now c.args.body.now query keys owner) c.open.ensures.action c.open.ensures.refused).1

pub returns-clause-memory : goal.returns-clause-memory
returns-clause-memory c = λ e. inr (inr (c.open.ensures.memory e))
