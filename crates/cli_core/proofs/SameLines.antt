-- Inputs of the same lines have the same output.
use Rattle.std.proofs.Common.{◌≡◌, ℕ, ◌≤◌, List, [], ◌∷◌, map, length, ap, subst, ◌∙◌, inl, inr}
use Rattle.std.specs.List.{Contains}
use Rattle.change_core.specs.declared.changes.Change.{Change}
use Rattle.change_core.specs.declared.changes.Sourced.{Sourced}
use Rattle.change_core.specs.Change.{change_of}
use Rattle.change_core.specs.Members.{HaveSameChanges}
use Rattle.change_core.specs.Numbers.{greatest_number}
use Rattle.change_core.proofs.Members.{members-same}
use Rattle.cli_core.specs.Input.{lines_of}
use Rattle.cli_core.specs.Changes.{IsChangeLine, AreChangeLines, ComeTo, HaveSameLines}
use Rattle.cli_core.specs.Runs.{RunsTo}
use Rattle.wire_json.proofs.Uniqueness.{one_line_change}
use Rattle.cli_core.proofs.Listed.{none, here, there, first_or_later}

-- a line among change lines is a change among theirs
heard_at : (lines : List (List ℕ)) (cs : List Sourced) (line : List ℕ) → AreChangeLines lines cs → Contains lines line
    → (c : Sourced) × IsChangeLine line c × Contains (map change_of cs) c.change
heard_at [] cs line p h = absurd (none line h)
heard_at (l ∷ lines) [] line p h = absurd p
heard_at (l ∷ lines) (c ∷ cs) line p h = elim (first_or_later l lines line h) [
  | inl is ↦ (c, subst (λ l. IsChangeLine l c) is p.0, here c.change (map change_of cs))
  | inr rest ↦ let (d, q, i) = heard_at lines cs line p.1 rest in (d, q, there c.change (map change_of cs) d.change i)
]

-- a change among those of change lines is one of a line
line_at : (lines : List (List ℕ)) (cs : List Sourced) (c : Change) → AreChangeLines lines cs → Contains (map change_of cs) c
    → (line : List ℕ) × Contains lines line × (d : Sourced) × IsChangeLine line d × (d.change ≡ c)
line_at [] [] c p h = absurd (none c h)
line_at [] (d ∷ cs) c p h = absurd p
line_at (l ∷ lines) [] c p h = absurd p
line_at (l ∷ lines) (d ∷ cs) c p h = elim (first_or_later d.change (map change_of cs) c h) [
  | inl is ↦ (l, here l lines, d, p.0, is)
  | inr rest ↦ let (line, i, e, q, same) = line_at lines cs c p.1 rest in (line, there l lines line i, e, q, same)
]

-- lines that are all among change lines are change lines
all_heard : (lines : List (List ℕ)) → ((line : List ℕ) → Contains lines line → (c : Sourced) × IsChangeLine line c) → (cs : List Sourced) × AreChangeLines lines cs
all_heard [] each = ([], tt)
all_heard (l ∷ lines) each =
    let (c, is) = each l (here l lines) in
    let (cs, are) = all_heard lines (λ line h. each line (there l lines line h)) in
    (c ∷ cs, (is, are))

to_same : (lines others : List (List ℕ)) (cs ds : List Sourced) → AreChangeLines lines cs → AreChangeLines others ds → ((line : List ℕ) → Contains lines line → Contains others line)
    → (c : Change) → Contains (map change_of cs) c → Contains (map change_of ds) c
to_same lines others cs ds p q each c h =
    let (line, i, d, is, same) = line_at lines cs c p h in
    let (e, other, found) = heard_at others ds line q (each line i) in
    let one : e ≡ d = one_line_change line e d other is in
    subst (λ (x : Change). Contains (map change_of ds) x) (ap change_of one ∙ same) found

pub come_to_same : (lines others : List (List ℕ)) (held : List Change) → ComeTo lines held → HaveSameLines lines others → ComeTo others held
come_to_same lines others held p same =
    let (cs, are) = all_heard others (λ line h. let (c, is, found) = heard_at lines p.heard line p.read (same.from line h) in (c, is)) in
    let changes : HaveSameChanges (map change_of p.heard) (map change_of cs) = record {
      to = to_same lines others p.heard cs p.read are same.to;
      from = to_same others lines cs p.heard are p.read same.from;
    } in
    record { heard = cs; read = are; are_members = p.are_members ∙ members-same (map change_of p.heard) (map change_of cs) changes; fits = p.fits }

-- inputs of the same lines run to the same output
pub runs_to_same : (text : List Change → List ℕ) (input other output : List ℕ) → RunsTo text input output → HaveSameLines (lines_of input) (lines_of other)
    → length (lines_of other) ≤ greatest_number → RunsTo text other output
runs_to_same text input other output p same few =
    record { held = p.held; come_to = come_to_same (lines_of input) (lines_of other) p.held p.come_to same; counted = few; is = p.is }
