-- What a verdict tells of its change, and what a commit leaves of a membership.
use Rattle.std.proofs.Common.{◌≡◌, ℕ, ◌+◌, ◌<◌, Bool, true, false, eqb, ltb, ◌&&◌, List, [], ◌∷◌, ◌++◌, Some, None, IsTrue, length, inl, inr, arith, sym, ◌∙◌, ap, subst}
use Rattle.std.specs.Option.{IsSome, is_none, is_some}
use Rattle.std.proofs.lemmas.Bool.{cases_Bool, eqb-true, eqb-false}
use Rattle.std.proofs.lemmas.List.Elements.{Contains-push}
use Rattle.change_core.specs.declared.changes.Change.{Change}
use Rattle.change_core.specs.Numbers.{greatest_number}
use Rattle.change_core.specs.Status.{rank}
use Rattle.change_core.specs.Change.{Exceeds, Overrides, exceeds}
use Rattle.change_core.specs.Members.{greatest, members, alters, is_news}
use Rattle.change_core.specs.Refutation.{refutation, refutations, is_refuted, log_one}
use Rattle.change_core.proofs.Precedence.{Exceeds-true, exceeds-true, exceeds-false}
use Rattle.change_core.proofs.Members.{greatest-members, members-same_greatest, greatest-overridden}
use Rattle.change_core.proofs.News.{greatest-news, greatest-others, members-no_news}
use Rattle.member_core.specs.declared.verdicts.Verdict.{Verdict}
use Rattle.member_core.specs.declared.verdicts.Verdict.TheVariants.{Old, Take, Refute, Exhausted, Full}
use Rattle.member_core.specs.Table.{IsTable}
use Rattle.member_core.specs.Membership.{Membership, IsMembership, IsOwnStatus, judged, judged_other, put_in, CanCommit, own_after}
use Rattle.member_core.specs.Places.{CanPut}
use Rattle.member_core.proofs.Edits.{IsTable-members, same_address}

-- the node's own entry after a change that was put in
pub greatest-own_after : (own c : Change) (cs : List Change) → greatest cs own.address ≡ Some own → (c.address ≡ own.address → is_news cs c ≡ true) → greatest (members (cs ++ c ∷ [])) own.address ≡ Some (own_after own c)
greatest-own_after own c cs holds news = greatest-members (cs ++ c ∷ []) own.address ∙ elim (cases_Bool (eqb c.address own.address)) [
  | inl t ↦ let same : c.address ≡ own.address = eqb-true c.address own.address t in simp t (ap (greatest (cs ++ c ∷ [])) (sym same) ∙ greatest-news cs c (news same))
  | inr f ↦ simp f (greatest-others cs c own.address (eqb-false c.address own.address f) ∙ holds)
]

address-own_after : (own c : Change) → (own_after own c).address ≡ own.address
address-own_after own c = elim (cases_Bool (eqb c.address own.address)) [ inl t ↦ simp t (eqb-true c.address own.address t) | inr f ↦ simp f ]

-- the membership stands after a change that may be put in
pub IsMembership-put : (own c : Change) (cs after : List Change) (max : ℕ) → IsMembership own cs max → (greatest cs c.address ≡ None → length cs < max) → (c.address ≡ own.address → IsTrue (is_news cs c) × IsOwnStatus c.status) → after ≡ members (cs ++ c ∷ []) → IsMembership (own_after own c) after max
IsMembership-put own c cs after max m fits its_own e =
    let t : IsTable (members (cs ++ c ∷ [])) max = IsTable-members cs max c (record { sorted = m.sorted; fits = m.fits; positive = m.positive; limited = m.limited }) (λ p. omega (arith, fits p.0, p.1)) in
    subst (λ ms. IsMembership (own_after own c) ms max) (sym e) (record {
      sorted = t.sorted;
      holds_itself = ap (greatest (members (cs ++ c ∷ []))) (address-own_after own c) ∙ greatest-own_after own c cs m.holds_itself (λ s. (its_own s).0);
      alive_or_leave = elim (cases_Bool (eqb c.address own.address)) [ inl u ↦ simp u (its_own (eqb-true c.address own.address u)).1 | inr u ↦ simp u m.alive_or_leave ];
      fits = t.fits;
      positive = m.positive;
      limited = m.limited;
    })

-- about the node itself a change is news where it exceeds the node's own entry
pub is_news-own : (m : Membership) (c : Change) → IsMembership m.own m.members m.max → c.address ≡ m.own.address → is_news m.members c ≡ exceeds c m.own
is_news-own m c stands same = ap (λ o. alters o c) (ap (greatest m.members) same ∙ stands.holds_itself)

-- a refutation exceeds what it refutes, and the entry before it
module _ (m : Membership) (given next : Change) (stands : IsMembership m.own m.members m.max) (answer : judged m given ≡ Refute given next) where
  -- what the verdict tells
  pub refuted : (given.address ≡ m.own.address) × (exceeds given m.own ≡ true) × (next ≡ refutation m.own given)
  refuted = elim (cases_Bool (eqb given.address m.own.address)) [
    | inl self ↦ elim (cases_Bool (exceeds given m.own)) [
      | inl news ↦ elim (cases_Bool (eqb (rank given.status) (rank m.own.status))) [
        | inl same ↦ let q : Take given ≡ Refute given next = simp (self, news, same) at answer in absurd cc
        | inr other ↦ elim (cases_Bool (ltb given.incarnation greatest_number)) [
          | inl left ↦ let q : Refute given (refutation m.own given) ≡ Refute given next = simp (self, news, other, left) at answer in (eqb-true given.address m.own.address self, news, cc)
          | inr none ↦ let q : Exhausted ≡ Refute given next = simp (self, news, other, none) at answer in absurd cc
        ]
      ]
      | inr old ↦ let q : Old ≡ Refute given next = simp (self, old) at answer in absurd cc
    ]
    | inr another ↦ elim (cases_Bool (is_news m.members given)) [
      | inl news ↦ elim (cases_Bool (is_none (greatest m.members given.address) && eqb (length m.members) m.max)) [
        | inl full ↦ let q : Full ≡ Refute given next = simp (another, news, full) at answer in absurd cc
        | inr room ↦ let q : Take given ≡ Refute given next = simp (another, news, room) at answer in absurd cc
      ]
      | inr old ↦ let q : Old ≡ Refute given next = simp (another, old) at answer in absurd cc
    ]
  ]

  next_address : next.address ≡ m.own.address
  next_address = ap (λ (c : Change). c.address) refuted.2

  next_incarnation : next.incarnation ≡ given.incarnation + 1
  next_incarnation = ap (λ (c : Change). c.incarnation) refuted.2

  next_status : next.status ≡ m.own.status
  next_status = ap (λ (c : Change). c.status) refuted.2

  held : greatest m.members next.address ≡ Some m.own
  held = ap (greatest m.members) next_address ∙ stands.holds_itself

  given_exceeds : Exceeds given m.own
  given_exceeds = Exceeds-true given m.own refuted.1

  next_exceeds : Exceeds next m.own
  next_exceeds = elim given_exceeds [ inl l ↦ inl (omega (arith, next_incarnation, l)) | inr p ↦ inl (omega (arith, next_incarnation, p.0)) ]

  pub known-refuted : IsSome (greatest m.members next.address)
  known-refuted = ap is_some held

  next_news : is_news m.members next ≡ true
  next_news = is_news-own m next stands next_address ∙ exceeds-true next m.own next_exceeds

  pub CanPut-refute : CanPut m next
  CanPut-refute = record {
    fits = λ none. absurd (not_none none);
    has_room = λ none. absurd (not_none none);
    own = λ s. (next_news, subst IsOwnStatus (sym next_status) stands.alive_or_leave);
  }
    where
      not_none : greatest m.members next.address ≡ None → ⊥
      not_none none = let q : Some m.own ≡ None = sym held ∙ none in cc

  not_given : Exceeds given next → ⊥
  not_given e = elim e [ inl l ↦ omega (arith, next_incarnation, l) | inr p ↦ omega (arith, next_incarnation, p.0) ]

  -- what is refuted leaves no trace beside its refutation
  pub members-refuted : members (m.members ++ given ∷ next ∷ []) ≡ members (m.members ++ next ∷ [])
  members-refuted = members-same_greatest (m.members ++ given ∷ next ∷ []) (m.members ++ next ∷ []) (λ a. greatest-overridden m.members (next ∷ []) given a (next, Contains-push m.members next, next_address ∙ sym refuted.0, not_given))

  pub own_after-refuted : own_after m.own next ≡ next
  own_after-refuted = elim (cases_Bool (eqb next.address m.own.address)) [ inl t ↦ simp t | inr f ↦ absurd (eqb-false next.address m.own.address f next_address) ]

-- the verdict alters an entry
abbrev pub Alters : Verdict → Type 0
Alters Old = ⊥
Alters (Take c) = Unit {0}
Alters (Refute given next) = Unit {0}
Alters Exhausted = ⊥
Alters Full = ⊥

-- what a verdict that alters an entry puts in is what a log gains: the change, and its refutation where it calls for one
pub put_in-judged : (m : Membership) (given : Change) → IsMembership m.own m.members m.max → Alters (judged m given) → put_in (judged m given) ≡ given ∷ refutations m.own.address (greatest m.members m.own.address) given
put_in-judged m given stands alters = elim (cases_Bool (eqb given.address m.own.address)) [
  | inl self ↦ elim (cases_Bool (exceeds given m.own)) [
    | inl news ↦ elim (cases_Bool (eqb (rank given.status) (rank m.own.status))) [
      | inl same ↦ simp (self, news, same, stands.holds_itself)
      | inr other ↦ elim (cases_Bool (ltb given.incarnation greatest_number)) [
        | inl left ↦ simp (self, news, other, left, stands.holds_itself)
        | inr none ↦ let q : ⊥ = simp (self, news, other, none) at alters in absurd q
      ]
    ]
    | inr old ↦ let q : ⊥ = simp (self, old) at alters in absurd q
  ]
  | inr another ↦ elim (cases_Bool (is_news m.members given)) [
    | inl news ↦ elim (cases_Bool (is_none (greatest m.members given.address) && eqb (length m.members) m.max)) [
      | inl full ↦ let q : ⊥ = simp (another, news, full) at alters in absurd q
      | inr room ↦ simp (another, news, room, stands.holds_itself)
    ]
    | inr old ↦ let q : ⊥ = simp (another, old) at alters in absurd q
  ]
]

-- a verdict that may be committed alters an entry
pub Alters-committed : (m : Membership) (v : Verdict) → CanCommit m v → Alters v
Alters-committed m Old can = can
Alters-committed m (Take c) can = tt
Alters-committed m (Refute given next) can = tt
Alters-committed m Exhausted can = can
Alters-committed m Full can = can

-- a commit leaves the members of the log with the change, and its refutation where it calls for one
pub members-committed : (m : Membership) (given : Change) (v : Verdict) → IsMembership m.own m.members m.max → judged m given ≡ v → CanCommit m v → members (m.members ++ put_in v) ≡ members (log_one m.own.address m.members given)
members-committed m given v stands answer can =
    ap (λ (w : Verdict). members (m.members ++ put_in w)) (sym answer)
    ∙ ap (λ cs. members (m.members ++ cs)) (put_in-judged m given stands (subst Alters (sym answer) (Alters-committed m v can)))

-- what is news is not old
not_old : (m : Membership) (given : Change) → IsMembership m.own m.members m.max → is_news m.members given ≡ true → judged m given ≡ Old → ⊥
not_old m given stands news answer = elim (cases_Bool (eqb given.address m.own.address)) [
  | inl self ↦ let exceeding : exceeds given m.own ≡ true = sym (is_news-own m given stands (eqb-true given.address m.own.address self)) ∙ news in
      elim (cases_Bool (eqb (rank given.status) (rank m.own.status))) [
        | inl same ↦ let q : Take given ≡ Old = simp (self, exceeding, same) at answer in cc
        | inr other ↦ elim (cases_Bool (ltb given.incarnation greatest_number)) [
          | inl left ↦ let q : Refute given (refutation m.own given) ≡ Old = simp (self, exceeding, other, left) at answer in cc
          | inr none ↦ let q : Exhausted ≡ Old = simp (self, exceeding, other, none) at answer in cc
        ]
      ]
  | inr another ↦ elim (cases_Bool (is_none (greatest m.members given.address) && eqb (length m.members) m.max)) [
    | inl full ↦ let q : Full ≡ Old = simp (another, news, full) at answer in cc
    | inr room ↦ let q : Take given ≡ Old = simp (another, news, room) at answer in cc
  ]
]

pub is_news-old : (m : Membership) (given : Change) → IsMembership m.own m.members m.max → judged m given ≡ Old → is_news m.members given ≡ false
is_news-old m given stands answer = elim (cases_Bool (is_news m.members given)) [ inl news ↦ absurd (not_old m given stands news answer) | inr old ↦ old ]

pub judged-no_news : (m : Membership) (given : Change) → IsMembership m.own m.members m.max → is_news m.members given ≡ false → judged m given ≡ Old
judged-no_news m given stands old = elim (cases_Bool (eqb given.address m.own.address)) [
  | inl self ↦ let below : exceeds given m.own ≡ false = sym (is_news-own m given stands (eqb-true given.address m.own.address self)) ∙ old in simp (self, below)
  | inr another ↦ simp (another, old)
]

-- a verdict that alters an entry is on news
pub is_news-alters : (m : Membership) (given : Change) → IsMembership m.own m.members m.max → Alters (judged m given) → is_news m.members given ≡ true
is_news-alters m given stands alters = elim (cases_Bool (is_news m.members given)) [
  | inl news ↦ news
  | inr old ↦ absurd (subst Alters (judged-no_news m given stands old) alters)
]

-- the change calls for a refutation
abbrev pub refutes : Verdict → Bool
refutes Old = false
refutes (Take c) = false
refutes (Refute given next) = true
refutes Exhausted = true
refutes Full = false

-- a change is refuted, or would be if an incarnation were left, where the log calls for it
pub is_refuted-judged : (m : Membership) (given : Change) → IsMembership m.own m.members m.max → is_refuted m.own.address (greatest m.members m.own.address) given ≡ refutes (judged m given)
is_refuted-judged m given stands = elim (cases_Bool (eqb given.address m.own.address)) [
  | inl self ↦ elim (cases_Bool (exceeds given m.own)) [
    | inl news ↦ elim (cases_Bool (eqb (rank given.status) (rank m.own.status))) [
      | inl same ↦ simp (self, news, same, stands.holds_itself)
      | inr other ↦ elim (cases_Bool (ltb given.incarnation greatest_number)) [
        | inl left ↦ simp (self, news, other, left, stands.holds_itself)
        | inr none ↦ simp (self, news, other, none, stands.holds_itself)
      ]
    ]
    | inr old ↦ simp (self, old, stands.holds_itself)
  ]
  | inr another ↦ elim (cases_Bool (is_news m.members given)) [
    | inl news ↦ elim (cases_Bool (is_none (greatest m.members given.address) && eqb (length m.members) m.max)) [
      | inl full ↦ simp (another, news, full, stands.holds_itself)
      | inr room ↦ simp (another, news, room, stands.holds_itself)
    ]
    | inr old ↦ simp (another, old, stands.holds_itself)
  ]
]

-- an old change calls for no refutation
refutations-old : (m : Membership) (given : Change) → IsMembership m.own m.members m.max → is_news m.members given ≡ false → refutations m.own.address (greatest m.members m.own.address) given ≡ []
refutations-old m given stands old = elim (cases_Bool (eqb given.address m.own.address)) [
  | inl self ↦ let below : exceeds given m.own ≡ false = sym (is_news-own m given stands (eqb-true given.address m.own.address self)) ∙ old in simp (self, below, stands.holds_itself)
  | inr another ↦ simp (another, stands.holds_itself)
]

-- an old change leaves the members of the log as they were
pub members-old : (m : Membership) (given : Change) → IsMembership m.own m.members m.max → judged m given ≡ Old → members (log_one m.own.address m.members given) ≡ members m.members
members-old m given stands answer = let old : is_news m.members given ≡ false = is_news-old m given stands answer in
    ap (λ cs. members (m.members ++ given ∷ cs)) (refutations-old m given stands old) ∙ members-no_news m.members given old

-- a change about another that is held against is old
pub old_of_other : (ms : List Change) (max : ℕ) (c held : Change) → greatest ms c.address ≡ Some held → (Overrides c held → ⊥) → Old ≡ judged_other ms max c
old_of_other ms max c held e stands = let old : is_news ms c ≡ false = ap (λ o. alters o c) e ∙ exceeds-false c held (λ x. stands (sym (same_address ms c.address held e), x)) in simp old

-- a change about another is judged by what is held of it
pub judged-other : (own : Change) (ms : List Change) (max room : ℕ) (c : Change) → eqb c.address own.address ≡ false → judged_other ms max c ≡ judged (record { own = own; members = ms; max = max; room = room }) c
judged-other own ms max room c another = simp another

-- what a verdict puts in first is the change that was judged
abbrev Speaks : Change → Verdict → Type 0
Speaks given Old = Unit {0}
Speaks given (Take c) = given ≡ c
Speaks given (Refute refuted next) = given ≡ refuted
Speaks given Exhausted = Unit {0}
Speaks given Full = Unit {0}

speaks : (m : Membership) (given : Change) → Speaks given (judged m given)
speaks m given = elim (cases_Bool (eqb given.address m.own.address)) [
  | inl self ↦ elim (cases_Bool (exceeds given m.own)) [
    | inl news ↦ elim (cases_Bool (eqb (rank given.status) (rank m.own.status))) [
      | inl same ↦ simp (self, news, same)
      | inr other ↦ elim (cases_Bool (ltb given.incarnation greatest_number)) [
        | inl left ↦ simp (self, news, other, left)
        | inr none ↦ simp (self, news, other, none) tt
      ]
    ]
    | inr old ↦ simp (self, old) tt
  ]
  | inr another ↦ elim (cases_Bool (is_news m.members given)) [
    | inl news ↦ elim (cases_Bool (is_none (greatest m.members given.address) && eqb (length m.members) m.max)) [
      | inl full ↦ simp (another, news, full) tt
      | inr room ↦ simp (another, news, room)
    ]
    | inr old ↦ simp (another, old) tt
  ]
]

-- a change that is taken is the one that was judged
pub given-taken : (m : Membership) (given c : Change) → judged m given ≡ Take c → given ≡ c
given-taken m given c answer = subst (Speaks given) answer (speaks m given)

-- what `judge` answered may be committed, where it alters an entry and there is room
pub CanCommit-judged : (m : Membership) (given : Change) (v : Verdict) → judged m given ≡ v → Alters v → (greatest m.members given.address ≡ None → 0 < m.room) → CanCommit m v
CanCommit-judged m given v answer alters room = by v answer alters (subst (Speaks given) answer (speaks m given))
  where
    by : (v : Verdict) → judged m given ≡ v → Alters v → Speaks given v → CanCommit m v
    by Old answer alters same = alters
    by (Take c) answer alters same = subst (λ (d : Change). (judged m d ≡ Take c) × (greatest m.members d.address ≡ None → 0 < m.room)) same (answer, room)
    by (Refute refuted next) answer alters same = subst (λ (d : Change). judged m d ≡ Refute refuted next) same answer
    by Exhausted answer alters same = alters
    by Full answer alters same = alters
