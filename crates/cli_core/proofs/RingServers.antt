-- The servers that the members that serve are, listed one after another.
use Rattle.std.proofs.Common.{◌≡◌, ℕ, ◌+◌, ◌<◌, true, false, List, [], ◌∷◌, ◌++◌, map, length, get_or, take, refl, sym, ap, subst, ◌∙◌, append_assoc, append-nil, inl, inr, arith, rules}
use Rattle.std.specs.List.{filter}
use Rattle.std.specs.Ordering.{nat_cmp, ordering_then}
use Rattle.std.specs.Cmp.{nat_cmp_is}
use Rattle.std.specs.declared.cmp.Ordering.TheVariants.{Greater}
use Rattle.std.proofs.lemmas.Bool.{cases_Bool, ne_eqb}
use Rattle.std.proofs.lemmas.List.{map-append, take_more}
use Rattle.std.proofs.lemmas.List.Elements.{filter-append}
use Rattle.change_core.specs.declared.changes.Change.{Change}
use Rattle.change_core.specs.Ascending.{put}
use Rattle.change_core.specs.Members.{address_of_change, AllAbove, IsMemberList}
use Rattle.change_core.specs.Status.{is_serving, IsServing}
use Rattle.change_core.specs.declared.statuses.Status.{Status}
use Rattle.change_core.specs.declared.statuses.Status.TheVariants.{Alive, Suspect, Faulty, Leave, Tombstone}
use Rattle.change_core.proofs.Members.{members-IsMemberList}
use Rattle.hash_ring.specs.declared.servers.Server.{Server}
use Rattle.hash_ring.specs.Servers.{server_cmp, with_each, with_server, without}
use Rattle.hash_ring.specs.Serving.{server_of, servers_of}

-- the test of a status says what the fact says
pub is_serving-yes : (s : Status) → IsServing s → is_serving s ≡ true
is_serving-yes Alive h = refl
is_serving-yes Suspect h = refl
is_serving-yes Faulty h = absurd (search rules)
is_serving-yes Leave h = absurd (search rules)
is_serving-yes Tombstone h = absurd (search rules)

pub is_serving-no : (s : Status) → (IsServing s → ⊥) → is_serving s ≡ false
is_serving-no Alive h = absurd (h (search rules))
is_serving-no Suspect h = absurd (h (search rules))
is_serving-no Faulty h = refl
is_serving-no Leave h = refl
is_serving-no Tombstone h = refl

-- those of a list that serve
abbrev pub listed : List Change → List Server
listed cs = map server_of (filter (λ (c : Change). is_serving c.status) cs)

-- of a member list they are its servers
pub listed-members : (cs : List Change) → IsMemberList cs → listed cs ≡ servers_of cs
listed-members cs h = ap listed (sym (members-IsMemberList cs h))

-- each address is below a
abbrev AllUnder : ℕ → List Server → Type 0
AllUnder a [] = Unit {0}
AllUnder a (s ∷ servers) = (s.address < a) × AllUnder a servers

without-under : (a : ℕ) (servers : List Server) → AllUnder a servers → without a servers ≡ servers
without-under a [] h = refl
without-under a (s ∷ servers) h =
    let less = h.0 in
    simp (ne_eqb s.address a (λ e. omega arith)) (ap (λ ss. s ∷ ss) (without-under a servers h.1))

server_cmp-above : (s t : Server) → t.address < s.address → server_cmp s t ≡ Greater
server_cmp-above s t h = ap (λ o. ordering_then o (nat_cmp s.weight t.weight)) (sym (nat_cmp_is s.address t.address Greater h))

put-last : (s : Server) (servers : List Server) → AllUnder s.address servers → put server_cmp s servers ≡ servers ++ s ∷ []
put-last s [] h = refl
put-last s (t ∷ servers) h = simp (server_cmp-above s t h.0) (ap (λ ss. t ∷ ss) (put-last s servers h.1))

with_server-last : (s : Server) (servers : List Server) → AllUnder s.address servers → with_server s servers ≡ servers ++ s ∷ []
with_server-last s servers h = ap (put server_cmp s) (without-under s.address servers h) ∙ put-last s servers h

above : (cs : List Change) (a : ℕ) (c : Change) (rest : List Change) → AllAbove a (map address_of_change (cs ++ c ∷ rest)) → a < c.address
above [] a c rest h = h.0
above (d ∷ cs) a c rest h = above cs a c rest h.1

under : (cs : List Change) (c : Change) (rest : List Change) → IsMemberList (cs ++ c ∷ rest) → AllUnder c.address (listed cs)
under [] c rest m = tt
under (d ∷ cs) c rest m = elim (cases_Bool (is_serving d.status)) [
  | inl t ↦ simp t (above cs d.address c rest m.0, under cs c rest m.1)
  | inr f ↦ simp f (under cs c rest m.1)
]

listed-append : (cs ds : List Change) → listed (cs ++ ds) ≡ listed cs ++ listed ds
listed-append cs ds = ap (map server_of) (filter-append (λ (c : Change). is_serving c.status) cs ds) ∙ map-append server_of (filter (λ (c : Change). is_serving c.status) cs) (filter (λ (c : Change). is_serving c.status) ds)

listed-serving : (c : Change) → is_serving c.status ≡ true → listed (c ∷ []) ≡ server_of c ∷ []
listed-serving c t = simp t refl

listed-other : (c : Change) → is_serving c.status ≡ false → listed (c ∷ []) ≡ []
listed-other c f = simp f refl

passed : (cs : List Change) (c : Change) → is_serving c.status ≡ false → listed (cs ++ c ∷ []) ≡ listed cs
passed cs c f = listed-append cs (c ∷ []) ∙ ap (λ ss. listed cs ++ ss) (listed-other c f) ∙ append-nil (listed cs)

-- the members up to one of them
up_to : (cs : List Change) (i : ℕ) (c : Change) → i < length cs → c ≡ get_or cs i c → take (i + 1) cs ≡ take i cs ++ c ∷ []
up_to cs i c l e = take_more cs i c l ∙ ap (λ d. take i cs ++ d ∷ []) (sym e)

-- a member that serves is listed last
pub listed-more : (cs : List Change) (i : ℕ) (c : Change) → i < length cs → c ≡ get_or cs i c → is_serving c.status ≡ true
    → listed (take i cs) ++ server_of c ∷ [] ≡ listed (take (i + 1) cs)
listed-more cs i c l e t =
    ap (λ ss. listed (take i cs) ++ ss) (sym (listed-serving c t)) ∙ sym (listed-append (take i cs) (c ∷ [])) ∙ ap listed (sym (up_to cs i c l e))

-- another is passed over
pub listed-passed : (cs : List Change) (i : ℕ) (c : Change) → i < length cs → c ≡ get_or cs i c → is_serving c.status ≡ false
    → listed (take i cs) ≡ listed (take (i + 1) cs)
listed-passed cs i c l e f = sym (passed (take i cs) c f) ∙ ap listed (sym (up_to cs i c l e))

-- those of the rest, put in among those of the front, are those of all
with_rest : (cs ds : List Change) → IsMemberList (cs ++ ds) → with_each (listed ds) (listed cs) ≡ listed (cs ++ ds)
with_rest cs [] m = ap listed (sym (append-nil cs))
with_rest cs (d ∷ ds) m =
    let parted : cs ++ d ∷ ds ≡ (cs ++ d ∷ []) ++ ds = sym (append_assoc cs (d ∷ []) ds) in
    let rest = with_rest (cs ++ d ∷ []) ds (subst IsMemberList parted m) ∙ ap listed (sym parted) in
    elim (cases_Bool (is_serving d.status)) [
      | inl t ↦
          let added : with_server (server_of d) (listed cs) ≡ listed (cs ++ d ∷ []) =
          with_server-last (server_of d) (listed cs) (under cs d ds m) ∙ ap (λ ss. listed cs ++ ss) (sym (listed-serving d t)) ∙ sym (listed-append cs (d ∷ [])) in
          simp t (ap (with_each (listed ds)) added ∙ rest)
      | inr f ↦ simp f (ap (with_each (listed ds)) (sym (passed cs d f)) ∙ rest)
    ]

-- the servers of a member list, put in one after another, are these servers
pub each-servers_of : (cs : List Change) → IsMemberList cs → with_each (servers_of cs) [] ≡ servers_of cs
each-servers_of cs m =
    let whole = listed-members cs m in
    ap (λ ss. with_each ss []) (sym whole) ∙ with_rest [] cs m ∙ whole
