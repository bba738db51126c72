-- What a node tells is what it holds.
use Rattle.std.proofs.Common.{◌≡◌, List, [], ◌∷◌, map, refl, ◌∙◌, ap}
use Rattle.change_core.specs.declared.changes.Change.{Change}
use Rattle.change_core.specs.declared.changes.Sourced.{Sourced}
use Rattle.member_core.specs.Membership.{said_by}
use Rattle.change_core.specs.Change.{change_of}

changes_said : (own : Change) (cs : List Change) → map change_of (map (said_by own) cs) ≡ cs
changes_said own [] = refl
changes_said own (c ∷ cs) = ap (λ ds. c ∷ ds) (changes_said own cs)

-- a list of what a node says of its members, without their sources
pub changes_told : (own : Change) (given : List Sourced) (said lent held : List Change) → given ≡ map (said_by own) lent → lent ≡ said → said ≡ held
    → map change_of given ≡ held
changes_told own given said lent held all same is = ap (λ ss. map change_of ss) all ∙ changes_said own lent ∙ (same ∙ is)
