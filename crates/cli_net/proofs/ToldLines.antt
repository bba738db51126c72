-- Change lines that are to be told, one after the other.
use Rattle.std.proofs.Common.{◌≡◌, ◌≢◌, ℕ, ◌+◌, ◌≤◌, true, List, [], ◌∷◌, ◌++◌, length, Option, Some, None, Ok, Err, Vec, IfSome, refl, sym, ap, ◌∙◌, append_assoc, subst}
use Rattle.std.specs.Global.{Global}
use Rattle.std.proofs.KnownBytes.{Keeps-refl}
use Rattle.std.proofs.lemmas.Slice.Zip.{AllZip-long}
use Rattle.change_core.specs.Numbers.{most_members}
use Rattle.change_core.specs.declared.addresses.Address.{Address}
use Rattle.change_core.specs.declared.changes.Sourced.{Sourced}
use Rattle.wire_json.specs.Forms.{ChangeFault}
use Rattle.wire_json.specs.Lines.{Faults}
use Rattle.wire_json.specs.Input.{TakesLine, after_line, line_of}
use Rattle.message_core.specs.declared.errors.WireError.{WireError}
use Rattle.message_core.specs.declared.errors.WireError.TheVariants as wire
use Rattle.cli_core.proofs.CountedLines.{IsReadError, line_taken}
use Rattle.cli_core.proofs.Folding.{AreChangeLines-more, bad_line, fault_line, unread}
use Rattle.cli_core.proofs.Lines.{lines_of-first}
use Rattle.cli_core.specs.Changes.{AreChangeLines, IsChangeLine, IsFaultAt}
use Rattle.cli_core.specs.Faults.{fault_of_wire}
use Rattle.cli_core.specs.Input.{lines_of}
use Rattle.cli_core.specs.declared.faults.LineError.{LineError}
use Rattle.cli_core.specs.declared.faults.LineError.TheVariants as line
use Rattle.peer_core.specs.Links.{MayAnswer}
use Rattle.cli_net.specs.Telling.{HearsChange, IsNoNews, IsUntold, IsWrong, TakesTurn}
use Rattle.cli_net.specs.declared.faults.AskError.{AskError}
use Rattle.cli_net.specs.declared.faults.TellError.{TellError}
use Rattle.cli_net.specs.declared.faults.TellError.TheVariants as tell

-- ---- one line

-- what is wrong with a line alone is wrong with it where no member is held, but for a member too many
wrong : (lines : List (List ℕ)) (what : LineError) → (what ≡ line.TooManyMembers → ⊥) → IsFaultAt [] lines what → IsWrong lines what
wrong (l ∷ ls) (line.Wire e) n h = h
wrong (l ∷ ls) line.TooManyMembers n h = absurd (n refl)
wrong (l ∷ ls) line.ReadFailed n h = tt
wrong (l ∷ ls) line.OutOfMemory n h = tt
wrong [] (line.Wire e) n h = absurd h
wrong [] line.TooManyMembers n h = absurd h
wrong [] line.ReadFailed n h = tt
wrong [] line.OutOfMemory n h = absurd h

of_a_line : (e : WireError) → fault_of_wire e ≡ line.TooManyMembers → ⊥
of_a_line wire.LineTooLong q = cc
of_a_line wire.BadJson q = cc
of_a_line wire.NotObject q = cc
of_a_line wire.UnknownKind q = cc
of_a_line (wire.MissingField f) q = cc
of_a_line (wire.BadField f) q = cc
of_a_line wire.TooMany q = cc
of_a_line wire.Io q = cc
of_a_line wire.Memory q = cc

-- no line could be read
pub unheard : (known left : Option (List ℕ)) (e : WireError) → TakesLine known (Err e) left → IsReadError e
    → IfSome known (λ xs. HearsChange xs (Err (fault_of_wire e)) left)
unheard None left e t i = tt
unheard (Some xs) left e t i = wrong (lines_of xs) (fault_of_wire e) (of_a_line e) (unread (Some xs) left [] e (line_taken (Some xs) left (Err e) t i))

-- a line was read that is not a change
pub no_change : (known left : Option (List ℕ)) (v : Vec ℕ Global) (e : WireError) → TakesLine known (Ok (Some v)) left
    → (e ≢ wire.Memory → Faults ChangeFault v.items e) → IfSome known (λ xs. HearsChange xs (Err (fault_of_wire e)) left)
no_change None left v e t h = tt
no_change (Some xs) left v e t h =
    wrong (lines_of xs) (fault_of_wire e) (of_a_line e) (bad_line (Some xs) left [] v (fault_of_wire e) (line_taken (Some xs) left (Ok (Some v)) t tt) (fault_line [] v.items e h))

-- a line was read that is a change
pub a_change : (known left : Option (List ℕ)) (v : Vec ℕ Global) (c : Sourced) → TakesLine known (Ok (Some v)) left → IsChangeLine v.items c
    → IfSome known (λ xs. HearsChange xs (Ok (Some c)) left)
a_change None left v c t i = tt
a_change (Some xs) left v c t i = (line_of xs, after_line xs, t.2, lines_of-first xs t.0, subst (λ (l : List ℕ). IsChangeLine l c) t.1 i)

-- ---- all lines

-- the lines read so far stand before those that are left, and are these changes
pub record HasRead (known left : Option (List ℕ)) (changes : List Sourced) : Type 0 where
  pub is : IfSome known (λ input. (rest : List ℕ) × (before : List (List ℕ)) × (left ≡ Some rest)
      × (lines_of input ≡ before ++ lines_of rest) × AreChangeLines before changes)

goes_known : (input : List ℕ) (left later : Option (List ℕ)) (old new : List Sourced)
    → (rest : List ℕ) × (before : List (List ℕ)) × (left ≡ Some rest) × (lines_of input ≡ before ++ lines_of rest) × AreChangeLines before old
    → IfSome left (λ xs. TakesTurn xs old (Ok true) later new)
    → (rest : List ℕ) × (before : List (List ℕ)) × (later ≡ Some rest) × (lines_of input ≡ before ++ lines_of rest) × AreChangeLines before new
goes_known input left later old new p h =
    let (rest, before, is, lines, read) = p in
    let (next, after, c, later_is, first, is_change, new_is) = rw is at h in (
      after,
      before ++ next ∷ [],
      later_is,
      lines ∙ ap (λ ls. before ++ ls) first ∙ sym (append_assoc before (next ∷ []) (lines_of after)),
      subst (AreChangeLines (before ++ next ∷ [])) (sym new_is) (AreChangeLines-more before old next c read is_change),
    )

pub goes : (known left later : Option (List ℕ)) (old new : List Sourced) → HasRead known left old
    → IfSome left (λ xs. TakesTurn xs old (Ok true) later new) → HasRead known later new
goes None left later old new p h = record { is = tt }
goes (Some input) left later old new p h = record { is = goes_known input left later old new p.is h }

counted : (lines : List (List ℕ)) (changes : List Sourced) → AreChangeLines lines changes → length lines ≡ length changes
counted lines changes h = sym (AllZip-long IsChangeLine lines changes h)

faults_known : (input : List ℕ) (left later : Option (List ℕ)) (old new : List Sourced) (e : TellError)
    → (rest : List ℕ) × (before : List (List ℕ)) × (left ≡ Some rest) × (lines_of input ≡ before ++ lines_of rest) × AreChangeLines before old
    → length old ≤ most_members → IfSome left (λ xs. TakesTurn xs old (Err e) later new) → ((f : AskError) → e ≡ tell.Asked f → ⊥)
    → IsNoNews (Some input) e
faults_known input left later old new (tell.AtLine number what) p few h n =
    let (rest, before, is, lines, read) = p in
    let (place, wrong) = rw is at h in
    record {
      before = before;
      left = lines_of rest;
      changes = old;
      lines = lines;
      read = (read, few);
      place = place ∙ ap (λ m. m + 1) (sym (counted before old read));
      is = wrong;
    }
faults_known input left later old new tell.TooManyChanges p few h n =
    let (rest, before, is, lines, read) = p in
    let (next, later, c, first, is_change, full) = rw is at h in
    record {
      before = before;
      next = next;
      later = later;
      changes = old;
      change = c;
      lines = lines ∙ ap (λ ls. before ++ ls) first;
      read = read;
      full = full;
      is = is_change;
    }
faults_known input left later old new (tell.Asked f) p few h n = absurd (n f refl)

pub faults : (known left later : Option (List ℕ)) (old new : List Sourced) (e : TellError) → HasRead known left old → length old ≤ most_members
    → IfSome left (λ xs. TakesTurn xs old (Err e) later new) → ((f : AskError) → e ≡ tell.Asked f → ⊥) → IsNoNews known e
faults None left later old new (tell.AtLine number what) p few h n = tt
faults None left later old new tell.TooManyChanges p few h n = tt
faults None left later old new (tell.Asked f) p few h n = absurd (n f refl)
faults (Some input) left later old new e p few h n = faults_known input left later old new e p.is few h n

-- where the lines are not told nothing is written
pub unread_by : (May : MayAnswer) (to : Address) (known old : Option (List ℕ)) (e : TellError) → IsNoNews known e → IsUntold May to known e old old
unread_by May to known old (tell.AtLine number what) h = (h, Keeps-refl old)
unread_by May to known old tell.TooManyChanges h = (h, Keeps-refl old)
unread_by May to known old (tell.Asked e) h = absurd h
