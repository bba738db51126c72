-- Folding an input line by line.
use Rattle.std.proofs.Common.{◌≡◌, ◌≢◌, ℕ, ◌+◌, ◌≤◌, true, false, List, [], ◌∷◌, ◌++◌, map, length, length-append, Option, Some, None, Ok, Err, Vec, Global, refl, sym, ap, ◌∙◌, append_assoc, append-nil, inl, inr, arith}
use Rattle.std.specs.Prelude.{IfSome}
use Rattle.std.proofs.lemmas.List.{map-append}
use Rattle.change_core.specs.declared.changes.Change.{Change}
use Rattle.change_core.specs.declared.changes.Sourced.{Sourced}
use Rattle.change_core.specs.Change.{change_of}
use Rattle.change_core.specs.Members.{members}
use Rattle.change_core.specs.Numbers.{greatest_number, most_members}
use Rattle.change_core.proofs.Members.{members-append}
use Rattle.wire_json.specs.Forms.{ChangeFault}
use Rattle.wire_json.specs.Lines.{Faults}
use Rattle.message_core.specs.declared.errors.WireError.{WireError}
use Rattle.message_core.specs.declared.errors.WireError.TheVariants.{LineTooLong, BadJson, NotObject, UnknownKind, MissingField, BadField, TooMany, Io, Memory}
use Rattle.cli_core.specs.declared.faults.LineError.{LineError}
use Rattle.cli_core.specs.declared.faults.RunError.TheVariants.{AtLine}
use Rattle.cli_core.specs.Input.{lines_of}
use Rattle.cli_core.specs.Counted.{IsCountedFault, IsUnread, ReadsLine}
use Rattle.cli_core.specs.Faults.{fault_of_wire}
use Rattle.cli_core.specs.Changes.{IsChangeLine, AreChangeLines, ComeTo, IsLineFault, IsFaultAt, IsCounted, IsHeard, IsRefused, Hears}

-- ---- one line

-- an error of decoding is the fault of the line
pub fault_line : (held : List Change) (line : List ℕ) (e : WireError) → (e ≢ Memory → Faults ChangeFault line e) → IsLineFault held line (fault_of_wire e)
fault_line held line LineTooLong h = h (λ q. cc)
fault_line held line BadJson h = h (λ q. cc)
fault_line held line NotObject h = h (λ q. cc)
fault_line held line UnknownKind h = h (λ q. cc)
fault_line held line (MissingField f) h = h (λ q. cc)
fault_line held line (BadField f) h = h (λ q. cc)
fault_line held line TooMany h = h (λ q. cc)
fault_line held line Io h = tt
fault_line held line Memory h = tt

unread_known : (held : List Change) (lines : List (List ℕ)) (e : WireError) → IsUnread lines e → IsFaultAt held lines (fault_of_wire e)
unread_known held [] e h = rw h tt
unread_known held (line ∷ lines) Io h = tt
unread_known held (line ∷ lines) LineTooLong h = inl (inl (refl, h))
unread_known held (line ∷ lines) Memory h = tt
unread_known held (line ∷ lines) other h = absurd h

-- an error of reading is the fault of the line that was to be read
pub unread : (known new : Option (List ℕ)) (held : List Change) (e : WireError) → IfSome known (λ xs. ReadsLine xs (Err e) new)
    → IfSome known (λ xs. IsFaultAt held (lines_of xs) (fault_of_wire e))
unread None new held e h = tt
unread (Some xs) new held e h = unread_known held (lines_of xs) e h

-- an error of reading tells of a line that is counted, or of the machine
pub counted_read : (number : ℕ) (e : WireError) → IsCountedFault number e → IsCounted number (fault_of_wire e)
counted_read number e (inl q) = rw q (inl tt)
counted_read number e (inr (inl q)) = rw q (inl tt)
counted_read number e (inr (inr q)) = inr q.1

-- no line was left
pub last_line : (known new : Option (List ℕ)) (held : List Change) → IfSome known (λ xs. ReadsLine xs (Ok None) new) → IfSome known (λ xs. Hears xs held (Ok false) new held)
last_line None new held h = tt
last_line (Some xs) new held h = (h, refl)

-- a line was read, and it is at fault
pub bad_line : (known new : Option (List ℕ)) (held : List Change) (v : Vec ℕ Global) (f : LineError) → IfSome known (λ xs. ReadsLine xs (Ok (Some v)) new) → IsLineFault held v.items f
    → IfSome known (λ xs. IsFaultAt held (lines_of xs) f)
bad_line None new held v f h i = tt
bad_line (Some xs) new held v f h i = let (rest, e, lines) = h in rw lines i

-- a line was read, and its change taken
pub good_line : (known new : Option (List ℕ)) (held now : List Change) (v : Vec ℕ Global) → IfSome known (λ xs. ReadsLine xs (Ok (Some v)) new)
    → (c : Sourced) × IsChangeLine v.items c × (now ≡ members (held ++ c.change ∷ []))
    → IfSome known (λ xs. Hears xs held (Ok true) new now)
good_line None new held now v h p = tt
good_line (Some xs) new held now v h p = let (rest, e, lines) = h in (v.items, rest, p.0, e, lines, p.1, p.2)

-- ---- all lines

pub AreChangeLines-more : (lines : List (List ℕ)) (heard : List Sourced) (line : List ℕ) (c : Sourced) → AreChangeLines lines heard → IsChangeLine line c
    → AreChangeLines (lines ++ line ∷ []) (heard ++ c ∷ [])
AreChangeLines-more [] [] line c h i = (i, tt)
AreChangeLines-more [] (d ∷ heard) line c h i = absurd h
AreChangeLines-more (l ∷ lines) [] line c h i = absurd h
AreChangeLines-more (l ∷ lines) (d ∷ heard) line c h i = (h.0, AreChangeLines-more lines heard line c h.1 i)

pub ComeTo-more : (lines : List (List ℕ)) (held now : List Change) (line : List ℕ) (c : Sourced) → ComeTo lines held → IsChangeLine line c
    → now ≡ members (held ++ c.change ∷ []) → length now ≤ most_members → ComeTo (lines ++ line ∷ []) now
ComeTo-more lines held now line c p i e fits = record {
  heard = p.heard ++ c ∷ [];
  read = AreChangeLines-more lines p.heard line c p.read i;
  are_members =
      e ∙ ap (λ cs. members (cs ++ c.change ∷ [])) p.are_members
      ∙ members-append (map change_of p.heard) (c.change ∷ [])
      ∙ ap members (sym (map-append change_of p.heard (c ∷ [])));
  fits = fits;
}

-- all lines of the known bytes come to these members
abbrev pub ComesTo : Option (List ℕ) → List Change → Type 0
ComesTo known held = IfSome known (λ input. IsHeard input held)

-- the lines heard so far stand before those that are left, and come to these members
pub record HasHeard (known left : Option (List ℕ)) (number : ℕ) (held : List Change) : Type 0 where
  pub is : IfSome known (λ input. (rest : List ℕ) × (before : List (List ℕ)) × (left ≡ Some rest)
      × (lines_of input ≡ before ++ lines_of rest) × ComeTo before held × (number ≡ length before + 1))

goes_known : (input : List ℕ) (left new : Option (List ℕ)) (number : ℕ) (held now : List Change)
    → (rest : List ℕ) × (before : List (List ℕ)) × (left ≡ Some rest) × (lines_of input ≡ before ++ lines_of rest) × ComeTo before held × (number ≡ length before + 1)
    → IfSome left (λ xs. Hears xs held (Ok true) new now) → length now ≤ most_members
    → (rest : List ℕ) × (before : List (List ℕ)) × (new ≡ Some rest) × (lines_of input ≡ before ++ lines_of rest) × ComeTo before now × (number + 1 ≡ length before + 1)
goes_known input left new number held now p h fits =
    let (rest, before, is, lines, come_to, place) = p in
    let (line, after, c, left_is, first, is_line, now_is) = rw is at h in (
      after,
      before ++ line ∷ [],
      left_is,
      lines ∙ ap (λ ls. before ++ ls) first ∙ sym (append_assoc before (line ∷ []) (lines_of after)),
      ComeTo-more before held now line c come_to is_line now_is fits,
      omega (arith, length-append before (line ∷ [])),
    )

pub goes : (known left new : Option (List ℕ)) (number : ℕ) (held now : List Change) → HasHeard known left number held
    → IfSome left (λ xs. Hears xs held (Ok true) new now) → length now ≤ most_members → HasHeard known new (number + 1) now
goes None left new number held now p h fits = record { is = tt }
goes (Some input) left new number held now p h fits = record { is = goes_known input left new number held now p.is h fits }

pub ends : (known left new : Option (List ℕ)) (number : ℕ) (held now : List Change) → HasHeard known left number held
    → IfSome left (λ xs. Hears xs held (Ok false) new now) → number ≤ greatest_number + 1
    → ComesTo known now
ends None left new number held now p h few = tt
ends (Some input) left new number held now p h few =
    let (rest, before, is, lines, come_to, place) = p.is in
    let (none, same) = rw is at h in
    let all : lines_of input ≡ before = lines ∙ ap (λ xs. before ++ lines_of xs) none ∙ append-nil before in
    rw (all, same) (come_to, omega arith)

pub faults : (known left new : Option (List ℕ)) (number : ℕ) (held now : List Change) (f : LineError) → HasHeard known left number held
    → IfSome left (λ xs. Hears xs held (Err f) new now) → IsCounted number f → IfSome known (λ input. IsRefused input (AtLine number f))
faults None left new number held now f p h counted = tt
faults (Some input) left new number held now f p h counted =
    let (rest, before, is, lines, come_to, place) = p.is in
    let fault = rw is at h in
    record { before = before; left = lines_of rest; held = held; lines = lines; come_to = come_to; place = place; is = fault; counted = counted }
