-- An input has one output at most, and one that has an output has no fault of its own.
use Rattle.std.proofs.Common.{◌≡◌, ℕ, ◌≤◌, List, [], ◌∷◌, ◌++◌, map, length, Option, Some, None, refl, sym, ap, subst, ◌∙◌, append_assoc, append-nil, arith}
use Rattle.std.proofs.lemmas.List.{map-append}
use Rattle.change_core.specs.declared.changes.Change.{Change}
use Rattle.change_core.specs.declared.changes.Sourced.{Sourced}
use Rattle.change_core.specs.Change.{change_of}
use Rattle.change_core.specs.Members.{greatest, members}
use Rattle.change_core.specs.Numbers.{most_members}
use Rattle.change_core.proofs.Members.{greatest-members}
use Rattle.change_core.proofs.News.{length-members_known, length-members_new}
use Rattle.wire_json.proofs.Uniqueness.{one_line_change, sound_line}
use Rattle.cli_core.specs.declared.faults.LineError.{LineError}
use Rattle.cli_core.specs.declared.faults.LineError.TheVariants.{Wire, TooManyMembers, ReadFailed, OutOfMemory as LineOutOfMemory}
use Rattle.cli_core.specs.declared.faults.RunError.{RunError}
use Rattle.cli_core.specs.declared.faults.RunError.TheVariants.{AtLine, OutOfMemory, CannotWrite}
use Rattle.cli_core.specs.Input.{lines_of}
use Rattle.cli_core.specs.Changes.{IsChangeLine, AreChangeLines, ComeTo, IsLineFault, IsFaultAt, IsFirstFault, IsRefused, IsTooMany, IsOutside}
use Rattle.cli_core.specs.Runs.{RunsTo}

-- ---- all lines

same_cons : (c d : Sourced) (cs ds : List Sourced) → c ≡ d → cs ≡ ds → c ∷ cs ≡ d ∷ ds
same_cons c d cs ds p q = cc

pub one_heard : (lines : List (List ℕ)) (cs ds : List Sourced) → AreChangeLines lines cs → AreChangeLines lines ds → cs ≡ ds
one_heard [] [] [] p q = refl
one_heard [] [] (d ∷ ds) p q = absurd q
one_heard [] (c ∷ cs) ds p q = absurd p
one_heard (l ∷ lines) [] ds p q = absurd p
one_heard (l ∷ lines) (c ∷ cs) [] p q = absurd q
one_heard (l ∷ lines) (c ∷ cs) (d ∷ ds) p q = same_cons c d cs ds (one_line_change l c d p.0 q.0) (one_heard lines cs ds p.1 q.1)

pub one_come_to : (lines : List (List ℕ)) (held now : List Change) → ComeTo lines held → ComeTo lines now → held ≡ now
one_come_to lines held now p q =
    p.are_members ∙ ap (λ cs. members (map change_of cs)) (one_heard lines p.heard q.heard p.read q.read) ∙ sym q.are_members

pub one_output : (text : List Change → List ℕ) (input output other : List ℕ) → RunsTo text input output → RunsTo text input other → output ≡ other
one_output text input output other p q = p.is ∙ ap text (one_come_to (lines_of input) p.held q.held p.come_to q.come_to) ∙ sym q.is

-- ---- a fault

-- what the lines in front, and those after them, are
pub parted : (before left : List (List ℕ)) (cs : List Sourced) → AreChangeLines (before ++ left) cs
    → (xs ys : List Sourced) × (cs ≡ xs ++ ys) × AreChangeLines before xs × AreChangeLines left ys
parted [] left cs p = ([], cs, refl, tt, p)
parted (l ∷ before) left [] p = absurd p
parted (l ∷ before) left (c ∷ cs) p =
    let (xs, ys, e, prefix, back) = parted before left cs p.1 in
    (c ∷ xs, ys, ap (λ ds. c ∷ ds) e, (p.0, prefix), back)

-- one change more comes to no fewer members
no_fewer_one : (cs : List Change) (c : Change) → length (members cs) ≤ length (members (cs ++ c ∷ []))
no_fewer_one cs c = by_held (greatest cs c.address) refl
  where
    by_held : (o : Option Change) → greatest cs c.address ≡ o → length (members cs) ≤ length (members (cs ++ c ∷ []))
    by_held None e = omega (arith, length-members_new cs c e)
    by_held (Some d) e = omega (arith, length-members_known cs c d e)

pub no_fewer : (cs ds : List Change) → length (members cs) ≤ length (members (cs ++ ds))
no_fewer cs [] = rw append-nil (omega arith)
no_fewer cs (d ∷ ds) =
    let more = no_fewer (cs ++ d ∷ []) ds in
    let same : (cs ++ d ∷ []) ++ ds ≡ cs ++ d ∷ ds = append_assoc cs (d ∷ []) ds in
    omega (arith, no_fewer_one cs d, rw same at more)

-- where a change was one too many, all that come to members are too many
too_many : (cs : List Change) (c : Change) (ds : List Change) → IsTooMany (members cs) c → length (members (cs ++ c ∷ ds)) ≤ most_members → ⊥
too_many cs c ds t few =
    let unknown : greatest cs c.address ≡ None = sym (greatest-members cs c.address) ∙ t.unknown in
    let more = no_fewer (cs ++ c ∷ []) ds in
    let same : (cs ++ c ∷ []) ++ ds ≡ cs ++ c ∷ ds = append_assoc cs (c ∷ []) ds in
    let counted = rw same at more in
    let full = t.full in
    omega (arith, length-members_new cs c unknown, counted)

no_line_fault : (cs : List Change) (line : List ℕ) (c : Sourced) (ds : List Change) (f : LineError) → IsChangeLine line c → IsLineFault (members cs) line f
    → length (members (cs ++ c.change ∷ ds)) ≤ most_members → IsOutside (AtLine 0 f)
no_line_fault cs line c ds (Wire e) p f few = absurd (sound_line line c e p f)
no_line_fault cs line c ds TooManyMembers p f few =
    let same : f.0 ≡ c = one_line_change line f.0 c f.1 p in
    let many = subst (λ (x : Sourced). IsTooMany (members cs) x.change) same f.2 in
    absurd (too_many cs c.change ds many few)
no_line_fault cs line c ds ReadFailed p f few = tt
no_line_fault cs line c ds LineOutOfMemory p f few = tt

no_fault_at : (cs : List Change) (left : List (List ℕ)) (ys : List Sourced) (f : LineError) → AreChangeLines left ys → IsFaultAt (members cs) left f
    → length (members (cs ++ map change_of ys)) ≤ most_members → IsOutside (AtLine 0 f)
no_fault_at cs [] ys (Wire e) p h few = absurd h
no_fault_at cs [] ys TooManyMembers p h few = absurd h
no_fault_at cs [] ys ReadFailed p h few = tt
no_fault_at cs [] ys LineOutOfMemory p h few = tt
no_fault_at cs (line ∷ left) [] f p h few = absurd p
no_fault_at cs (line ∷ left) (c ∷ ys) f p h few = no_line_fault cs line c (map change_of ys) f p.0 h few

pub outside_anywhere : (m n : ℕ) (f : LineError) → IsOutside (AtLine m f) → IsOutside (AtLine n f)
outside_anywhere m n (Wire e) h = h
outside_anywhere m n TooManyMembers h = h
outside_anywhere m n ReadFailed h = tt
outside_anywhere m n LineOutOfMemory h = tt

-- lines that come to members have no fault of their own
pub no_fault_before : (before left : List (List ℕ)) (held now : List Change) (f : LineError) → ComeTo before held → ComeTo (before ++ left) now → IsFaultAt held left f
    → IsOutside (AtLine 0 f)
no_fault_before before left held now f p q is =
    let (xs, ys, all, prefix, back) = parted before left q.heard q.read in
    let same : xs ≡ p.heard = one_heard before xs p.heard prefix p.read in
    let are : held ≡ members (map change_of xs) = p.are_members ∙ ap (λ cs. members (map change_of cs)) (sym same) in
    let split : map change_of q.heard ≡ map change_of xs ++ map change_of ys = ap (map change_of) all ∙ map-append change_of xs ys in
    let total : length now ≡ length (members (map change_of xs ++ map change_of ys)) = ap length (q.are_members ∙ ap members split) in
    let few : length (members (map change_of xs ++ map change_of ys)) ≤ most_members = let fits = q.fits in omega arith in
    no_fault_at (map change_of xs) left ys f back (rw are at is) few

-- an input that has an output has no fault of its own
pub no_first_fault : (text : List Change → List ℕ) (input output : List ℕ) (n : ℕ) (f : LineError) → RunsTo text input output → IsFirstFault input n f → IsOutside (AtLine n f)
no_first_fault text input output n f p q =
    outside_anywhere 0 n f (no_fault_before q.before q.left q.held p.held f q.come_to (subst (λ ls. ComeTo ls p.held) q.lines p.come_to) q.is)

pub no_refusal : (text : List Change → List ℕ) (input output : List ℕ) (e : RunError) → RunsTo text input output → IsRefused input e → IsOutside e
no_refusal text input output (AtLine n f) p q = no_first_fault text input output n f p q
no_refusal text input output OutOfMemory p q = tt
no_refusal text input output CannotWrite p q = tt
