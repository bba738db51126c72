-- What a message to a target takes of the pending changes.
use Rattle.std.proofs.Common.{◌≡◌, ℕ, ◌<◌, cond, eqb, nat_lt, List, [], map, ◌∙◌, ap}
use Rattle.std.specs.List.{list_any}
use Rattle.std.proofs.lemmas.Bool.{lt-ltb}
use Rattle.std.proofs.lemmas.List.{map-id}
use Rattle.change_core.specs.declared.changes.Sourced.{Sourced}
use Rattle.change_core.specs.Ascending.{In}
use Rattle.change_core.proofs.Order.{filter_all}
use Rattle.gossip_core.specs.declared.pending.Pending.{Pending}
use Rattle.gossip_core.specs.Dissemination.{Dissemination, after_issue}
use Rattle.gossip_core.specs.Pending.{issued, counted, below, once_more, subject}

-- where nothing is issued nothing is counted
counted-nothing : (target k : ℕ) (ps : List Pending) → issued target k ps ≡ [] → counted target k ps ≡ ps
counted-nothing target k ps e =
    ap (λ (ss : List Sourced). map (λ (p : Pending). cond (list_any (λ (s : Sourced). eqb s.change.address (subject p)) ss) (once_more p) p) ps) e ∙ map-id ps

-- an issue of nothing changes nothing
pub after_issue-nothing : (g : Dissemination) (target k : ℕ) → ((p : Pending) → In p g.pending → p.count < g.limit) → issued target k g.pending ≡ [] → after_issue g target k ≡ g
after_issue-nothing g target k unspent e =
    ap (λ (ps : List Pending). record g { pending = ps }) (ap (below g.limit) (counted-nothing target k g.pending e) ∙ filter_all (λ (p : Pending). nat_lt p.count g.limit) g.pending (λ p k. lt-ltb p.count g.limit (unspent p k)))
