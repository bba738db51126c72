-- The members of a list of changes: the greatest change of each address that it names.
use Rattle.std.specs.Prelude.{Bool, true, ◌≡◌, ℕ, ◌<◌, cond, ◌==◌, List, [], ◌∷◌, ◌++◌, map, Option, Some, None, filter}
use Rattle.std.specs.List.{filter_map, join_with_byte, Contains}
use Rattle.std.specs.Ordering.{nat_cmp}
use Rattle.change_core.specs.Ascending.{ascending}
use Rattle.change_core.specs.Numeral.{number_text}
use Rattle.change_core.specs.declared.changes.Change.{Change}
use Rattle.change_core.specs.Address.{address_text}
use Rattle.change_core.specs.Change.{Exceeds, exceeds}
use Rattle.change_core.specs.Status.{status_word, is_serving}

-- of two changes that may be there the one that is; if both are, the second if it exceeds the first, and else the first
abbrev pub greater : Option Change → Option Change → Option Change
greater None d = d
greater (Some c) None = Some c
greater (Some c) (Some d) = Some (cond (exceeds d c) d c)

-- the change about an address that no change about it in the list exceeds
abbrev pub greatest : List Change → ℕ → Option Change
greatest [] a = None
greatest (c ∷ cs) a = cond (c.address == a) (greater (Some c) (greatest cs a)) (greatest cs a)

-- c is about the address, and no change about it in the list exceeds c
pub record IsGreatest (cs : List Change) (a : ℕ) (c : Change) : Type 0 where
  pub listed : Contains cs c
  pub about : c.address ≡ a
  pub highest : (d : Change) → Contains cs d → d.address ≡ a → Exceeds d c → ⊥

-- each change of one list is in the other, in any order and any number
pub record HaveSameChanges (cs ds : List Change) : Type 0 where
  pub to : (c : Change) → Contains cs c → Contains ds c
  pub from : (c : Change) → Contains ds c → Contains cs c

-- a change that would alter the members: it exceeds all changes about its address in the list, if there are any
pub record IsNews (cs : List Change) (c : Change) : Type 0 where
  pub exceeds_all : (d : Change) → Contains cs d → d.address ≡ c.address → Exceeds c d

-- a change alters the entry of its address: there is none, or the change exceeds it
abbrev pub alters : Option Change → Change → Bool
alters None given = true
alters (Some held) given = exceeds given held

-- the test of `IsNews`
abbrev pub is_news : List Change → Change → Bool
is_news cs c = alters (greatest cs c.address) c

-- the address that a change is about
abbrev pub address_of_change : Change → ℕ
address_of_change c = c.address

-- the addresses that a list names, ascending, without repetition
abbrev pub addresses : List Change → List ℕ
addresses cs = ascending nat_cmp (map address_of_change cs)

-- the greatest change of each address that a list names, ascending by address
abbrev pub members : List Change → List Change
members cs = filter_map (greatest cs) (addresses cs)

-- each number of the list is above this one
abbrev pub AllAbove : ℕ → List ℕ → Type 0
AllAbove a [] = Unit {0}
AllAbove a (b ∷ bs) = (a < b) × AllAbove a bs

-- each number is below all later ones
abbrev pub IsRising : List ℕ → Type 0
IsRising [] = Unit {0}
IsRising (a ∷ as') = AllAbove a as' × IsRising as'

-- one change for each address, ascending by address
abbrev pub IsMemberList : List Change → Type 0
IsMemberList cs = IsRising (map address_of_change cs)

-- the members in the ring, ascending
abbrev pub serving : List Change → List ℕ
serving cs = map address_of_change (filter (λ c. is_serving c.status) (members cs))

-- '*' and the weight, and nothing for the least weight, which is 1
abbrev pub weight_text : ℕ → List ℕ
weight_text w = cond (w == 1) [] (42 ∷ number_text w)

-- address, status word, incarnation and weight, without spaces
abbrev pub change_text : Change → List ℕ
change_text c = address_text c.address ++ (status_word c.status ++ (number_text c.incarnation ++ weight_text c.weight))

-- the texts of the changes of a list, in its order, joined by ';'
abbrev pub digest_text : List Change → List ℕ
digest_text cs = join_with_byte 59 (map change_text cs)
