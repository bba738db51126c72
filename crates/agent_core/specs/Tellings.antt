-- The ring as the application is told it: the text of a notice, and which one is to be told when.
use Rattle.std.specs.Prelude.{ℕ, ◌+◌, ◌*◌, ◌-◌, nat_lt, min, Bool, false, cond, bytes_eq, List, [], ◌∷◌, ◌++◌, codes, decimal, Option, Some, None, option_map}
use Rattle.change_core.specs.Address.{address_text}
use Rattle.change_core.specs.Digest.{digest_digits}
use Rattle.change_core.specs.declared.digests.Digest.{Digest}
use Rattle.agent_core.specs.Texts.{servers_list}
use Rattle.agent_core.specs.declared.tellings.Ring.{Ring}
use Rattle.agent_core.specs.declared.tellings.Telling.{Telling}

-- the one to be told or, if there is none, the one that was told last
abbrev pub last_of : Option Ring → Option Ring → Option Ring
last_of None told = told
last_of (Some next) told = Some next

-- the ring that was noted last
abbrev pub latest : Telling → Option Ring
latest t = last_of t.next t.told

-- whether there is a ring, and it has this digest
abbrev pub is_of : Option Ring → Digest → Bool
is_of None digest = false
is_of (Some ring) digest = bytes_eq ring.digest.bytes digest.bytes

-- whether the ring that was noted last has this digest
abbrev pub is_latest : Telling → Digest → Bool
is_latest t digest = is_of (latest t) digest

-- before the first ring
abbrev pub new_telling : Telling
new_telling = record { told = None; next = None; pause = 250; until = 0 }

-- once a ring is noted: it is the one to be told, unless the one that was noted last has its digest
abbrev pub noted : Telling → Ring → Telling
noted t ring = cond (is_latest t ring.digest) t (record t { next = Some ring })

-- once the application took the notice
abbrev pub taken : Telling → Telling
taken t = record { told = latest t; next = None; pause = 250; until = 0 }

-- the pause after one more failure: twice as long, up to eight seconds
abbrev pub longer : ℕ → ℕ
longer pause = cond (nat_lt pause 4000) (pause * 2) 8000

-- once the application did not take the notice: it is to be sent again after the pause
abbrev pub failed : Telling → ℕ → Telling
failed t now = record { told = t.told; next = t.next; pause = longer t.pause; until = min (now + t.pause) 18446744073709551615 }

-- once it is in a hurry: the notice is due now
abbrev pub hurried : Telling → Telling
hurried t = record { told = t.told; next = t.next; pause = 250; until = 0 }

-- how long it is from one moment to another, if there is a ring to be told
abbrev pub left_until : Option Ring → ℕ → ℕ → Option ℕ
left_until None until now = None
left_until (Some ring) until now = Some (until - now)

-- how long it is until the notice is to be sent
abbrev pub millis_left : Telling → ℕ → Option ℕ
millis_left t now = left_until t.next t.until now

-- a ring with its digest, and the members that serve
abbrev pub ring_part : Ring → List ℕ
ring_part ring = codes "{\"ring\":\"" ++ digest_digits ring.digest.bytes ++ codes "\",\"serving\":[" ++ servers_list ring.servers.items ++ codes "]}"

-- the ring before, or `null` if there was none
abbrev pub before_text : Option Ring → List ℕ
before_text None = codes "null"
before_text (Some ring) = ring_part ring

-- the text before the rings: the node's own address, and the points for a unit of weight
abbrev pub moved_head : ℕ → ℕ → List ℕ
moved_head own replicas = codes "{\"own\":\"" ++ (address_text own ++ (codes "\",\"replicas\":" ++ (decimal replicas ++ codes ",\"now\":")))

-- that text, the ring now and the one before, and a newline
abbrev pub moved_text : ℕ → ℕ → Ring → Option Ring → List ℕ
moved_text own replicas now before = moved_head own replicas ++ ring_part now ++ codes ",\"before\":" ++ before_text before ++ (codes "}" ++ 10 ∷ [])

-- the text of the notice, if there is a ring to be told: that ring, and the one that was told last
abbrev pub notice_of : ℕ → ℕ → Telling → Option (List ℕ)
notice_of own replicas t = option_map (λ next. moved_text own replicas next t.told) t.next

-- An event of a telling: a ring is noted, the application takes the notice, or it does not at a moment, or the telling is in a hurry.
pub data Event : Type 0 where
  Noted : Ring → Event
  Taken : Event
  Failed : ℕ → Event
  Hurried : Event

-- what an event makes of a telling
abbrev pub after : Telling → Event → Telling
after t (Noted ring) = noted t ring
after t Taken = taken t
after t (Failed now) = failed t now
after t Hurried = hurried t

-- what events make of it, one after the other
abbrev pub after_all : Telling → List Event → Telling
after_all t [] = t
after_all t (event ∷ events) = after_all (after t event) events

-- the digest of a ring, if there is one
abbrev pub digest_in : Option Ring → Option (List ℕ)
digest_in ring = option_map (λ (it : Ring). it.digest.bytes) ring

-- the digest of the last ring that is noted among events or, if none is, this one
abbrev pub last_noted : Option (List ℕ) → List Event → Option (List ℕ)
last_noted known [] = known
last_noted known (Noted ring ∷ events) = last_noted (Some ring.digest.bytes) events
last_noted known (Taken ∷ events) = last_noted known events
last_noted known (Failed now ∷ events) = last_noted known events
last_noted known (Hurried ∷ events) = last_noted known events

-- the digest of the last ring that was noted before the last notice that is taken among events: so far the one noted last, and the one taken last
abbrev pub last_taken : Option (List ℕ) → Option (List ℕ) → List Event → Option (List ℕ)
last_taken known told [] = told
last_taken known told (Noted ring ∷ events) = last_taken (Some ring.digest.bytes) told events
last_taken known told (Taken ∷ events) = last_taken known known events
last_taken known told (Failed now ∷ events) = last_taken known told events
last_taken known told (Hurried ∷ events) = last_taken known told events
