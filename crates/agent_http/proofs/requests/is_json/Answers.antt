use Rattle.std.proofs.Common.{List, MatchBool, codes, subst, ℕ}
use Rattle.agent_http.specs.Lists.{IsName, IsOther}
use Rattle.agent_http.proofs.requests.is_json.Goals as goal

pub returns : goal.returns
returns c =
    subst (λ (kind : List ℕ). MatchBool c.is_name.result (IsName (codes "application/json") kind) (IsOther (codes "application/json") kind)) c.media_type.ensures c.is_name.ensures
