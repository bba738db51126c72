-- The fields of a response that have dates.
use Rattle.std.proofs.Common.{◌≡◌, ℕ, List, ◌++◌, None, sym, append-nil}
use Rattle.http1.specs.Fields.{Header}
use Rattle.agent_http.specs.Replies.{date_field}

-- no field comes after others
pub no_date : (name : List ℕ) (old : List Header) → old ≡ old ++ date_field name None
no_date name old = sym (append-nil old)
