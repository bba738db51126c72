-- What an action makes the node do, and the reply or the refusal that comes of it.
use Rattle.std.specs.Prelude.{◌≡◌, ◌≢◌, ◌⊎◌, ◌||◌, ◌==◌, ℕ, Bool, true, false, cond, bytes_eq, map, string_bytes, List, [], ◌∷◌, ◌++◌, slice_get, take, codes, Option, Some, None, Result, Ok, Err}
use Rattle.change_core.specs.Digest.{digest_digits}
use Rattle.change_core.specs.declared.changes.Change.{Change}
use Rattle.hash_ring.specs.Points.{owner, owners, hash_number, hash_of}
use Rattle.hash_ring.specs.declared.hash.Sha256Hash.{Sha256Hash}
use Rattle.node_core.specs.Viewing.{Viewed}
use Rattle.node_core.specs.declared.events.Event.TheVariants as call
use Rattle.node_core.specs.declared.events.Reply.TheVariants as reply
use Rattle.peer_core.specs.Acts.{OfActs, Nothing, Then}
use Rattle.peer_core.specs.Forwarding.{IsRequest}
use Rattle.peer_core.specs.Parts.{Part, Tries}
use Rattle.peer_core.specs.Resending.{SendsRequest}
use Rattle.peer_core.specs.declared.errors.ClusterError.{ClusterError}
use Rattle.peer_core.specs.declared.errors.ClusterError.TheVariants as error
use Rattle.agent_core.specs.Levels.{level_line}
use Rattle.agent_core.specs.Metrics.{metrics_text}
use Rattle.agent_core.specs.Parts.{text_of_body}
use Rattle.agent_core.specs.Passing.{sent_text}
use Rattle.agent_core.specs.Texts.{all_owners_text, digest_line, members_text, on_ring, owners_text, ring_text, shown_owners}
use Rattle.agent_core.specs.declared.actions.Action.{Action}
use Rattle.agent_core.specs.declared.actions.Action.TheVariants as action
use Rattle.agent_core.specs.declared.answers.Kind.{Kind}
use Rattle.agent_core.specs.declared.answers.Kind.TheVariants as kind
use Rattle.agent_core.specs.declared.levels.LogLevel.{LogLevel}
use Rattle.agent_core.specs.declared.metrics.Counts.{Counts}
use Rattle.agent_core.specs.declared.passing.Outgoing.{Outgoing}
use Rattle.agent_core.specs.declared.passing.Outgoing.TheVariants.{Body}
use Rattle.agent_core.specs.declared.refusals.Refusal.{Refusal}
use Rattle.agent_core.specs.declared.refusals.Refusal.TheVariants as refusal
use Rattle.agent_api.specs.Asking.{answerer, notes_asking, AnyTimes}
use Rattle.agent_application.specs.Applications.{AnyHandling}
use Rattle.agent_node.specs.Calling.{Looks}
use Rattle.agent_node.specs.Digests.{digest_by, ring_digest}
use Rattle.peer_core.specs.Links.{any_answer}
use Rattle.agent_api.specs.Onces.{Noted, notes_send, unnoted}
use Rattle.agent_http.specs.Replies.{IsOpenText, IsText}
use Rattle.agent_http.specs.declared.replies.Reply.{Reply}
use Rattle.agent_http.specs.declared.replies.Reply.TheVariants.{Handled, Page, Ring, Unchanged}

-- the reply to an action, or its refusal
abbrev pub Outcome : Type 0
Outcome = Result Reply Refusal

-- the refusal for an error of a call of the node
abbrev pub refusal_of : ClusterError → Refusal
refusal_of error.Nobody = refusal.Nobody
refusal_of error.RetriesSpent = refusal.OwnerSilent
refusal_of error.HandlerFault = refusal.ApplicationFailed
refusal_of error.Memory = refusal.Memory
refusal_of error.AlreadyLeft = refusal.AlreadyLeft
refusal_of error.NotLeft = refusal.NotLeft
refusal_of error.Exhausted = refusal.Exhausted
refusal_of other = refusal.Spent

-- a call of the node is not made, and the action is refused so
abbrev pub Declines : Refusal → Outcome → OfActs Sha256Hash
Declines why outcome acts = Nothing acts × (outcome ≡ Err why)

-- what comes of the result of a call: what is made of its answer, or the refusal for its error
abbrev pub ComesOf : {A : Type 0} → (A → Outcome → Type 0) → Result A ClusterError → Outcome → Type 0
ComesOf Made (Ok answer) outcome = Made answer outcome
ComesOf Made (Err e) outcome = outcome ≡ Err (refusal_of e)

-- this is done by the node and no more, and the outcome is what comes of its result
abbrev pub After : {A : Type 0} → Part Sha256Hash A → (Result A ClusterError → Outcome → Type 0) → Outcome → OfActs Sha256Hash
After {A} Done Comes outcome acts = (result : Result A ClusterError) × Done result acts × Comes result outcome

-- the reply is this text, or memory ran out for it
abbrev pub Shows : Kind → List ℕ → Outcome → Type 0
Shows content text (Ok shown) = IsText content text shown
Shows content text (Err why) = why ≡ refusal.Memory

-- the reply is this text, which the page of any site may read, or memory ran out
abbrev pub ShowsOpen : List ℕ → Outcome → Type 0
ShowsOpen text (Ok shown) = IsOpenText text shown
ShowsOpen text (Err why) = why ≡ refusal.Memory

-- the reply is this line
abbrev pub Says : List ℕ → Outcome → Type 0
Says line (Ok shown) = IsText kind.Text (line ++ 10 ∷ []) shown
Says line (Err why) = ⊥

-- the first owners of a key by a view of the ring
abbrev pub first_owners : Viewed Sha256Hash → List ℕ → ℕ → List ℕ
first_owners view key count = take count (owners hash_number view.replicas view.servers key)

-- the reply is the first owners of a key by this view, if there are any; it is refused if there are none, or memory ran out
abbrev pub ShowsOwners : List ℕ → ℕ → Viewed Sha256Hash → Outcome → Type 0
ShowsOwners key count view (Ok shown) = (first_owners view key count ≢ []) × IsText kind.Json (owners_text (first_owners view key count)) shown
ShowsOwners key count view (Err why) = (why ≡ refusal.Memory) ⊎ ((why ≡ refusal.Nobody) × (first_owners view key count ≡ []))

-- the reply is these members, of the node at this address with this many replicas, and their digest
abbrev pub ShowsMembers : ℕ → ℕ → List Change → Outcome → Type 0
ShowsMembers own replicas held = Shows kind.Json (members_text own (digest_by held) replicas held)

-- the address of the node itself, if its keys are left out
abbrev pub hidden_of : ℕ → Bool → Option ℕ
hidden_of own only_others = cond only_others (Some own) None

-- the text of the first owners of a key by a view, by the address whose keys are left out, if there is one
abbrev pub key_text : Viewed Sha256Hash → ℕ → Option ℕ → List ℕ → List ℕ
key_text view count hidden key = shown_owners hidden (first_owners view key count)

-- the reply is the first owners of keys by this view, one list for each key in their order
abbrev pub ShowsAllOwners : Option ℕ → List (List ℕ) → ℕ → Viewed Sha256Hash → Outcome → Type 0
ShowsAllOwners hidden keys count view = Shows kind.Json (all_owners_text (map (key_text view count hidden) keys))

-- whether a text is the one of a digest
abbrev pub is_known : Option (List ℕ) → List ℕ → Bool
is_known None digest = false
is_known (Some after) digest = bytes_eq after (digest_digits digest)

-- the reply says that the ring has this digest still, or shows it with this text
abbrev pub IsRing : List ℕ → List ℕ → Bool → Reply → Type 0
IsRing bytes text known (Ring digest since shown) = (known ≡ false) × (digest.bytes ≡ bytes) × (string_bytes shown ≡ text)
IsRing bytes text known (Unchanged digest) = (known ≡ true) × (digest.bytes ≡ bytes)
IsRing bytes text known other = ⊥

-- the reply is the ring of a node at this address with this many replicas that holds these members, unless its digest has this text
abbrev pub ShowsRing : ℕ → ℕ → Option (List ℕ) → List Change → Outcome → Type 0
ShowsRing own replicas after held (Ok shown) =
    IsRing (ring_digest held) (ring_text own (ring_digest held) replicas (on_ring held)) (is_known after (ring_digest held)) shown
ShowsRing own replicas after held (Err why) = why ≡ refusal.Memory

-- the reply is the number of these members by status, and counts
abbrev pub ShowsCounts : List Change → Outcome → Type 0
ShowsCounts held outcome = (counts : Counts) × Shows kind.Text (metrics_text counts held) outcome

-- the reply is the text that answered a request, and the node that gave it
abbrev pub ShowsAnswer : ℕ → List ℕ → Outcome → Type 0
ShowsAnswer owner text (Ok shown) = shown ≡ Handled owner text
ShowsAnswer owner text (Err why) = ⊥

-- a request of keys, answered by the application or by their owner: by views of the node, other nodes and the application may answer anything, at any
-- moments; and what went over the link for it, which noted the node that answered last and whether one may have performed the request without its reply, and
-- whether the application was asked
abbrev pub IsRequested : Bool → Bool → Noted → List (List ℕ) → List ℕ → Part Sha256Hash (List ℕ)
IsRequested is_repeatable asked noted keys request r acts =
    IsRequest hash_of any_answer AnyHandling AnyTimes keys request r acts
    × SendsRequest hash_of notes_send notes_asking keys request r false asked (unnoted is_repeatable) noted acts

-- The refusal of a request that ended early, by whether a node may have performed it, whether it may be performed twice, and the limit of its wait: that
-- its answer was lost; or that its owner does not answer, if the wait has a limit and no node can have performed it. None if it can't end early.
abbrev pub early_refusal : Bool → Bool → Option ℕ → Option Refusal
early_refusal is_unsure true None = None
early_refusal is_unsure false None = Some refusal.AnswerLost
early_refusal is_unsure is_repeatable (Some limit) = Some (cond is_unsure refusal.AnswerLost refusal.OwnerSilent)

-- what comes of a request: the text that answered it, or the refusal for its error; or, in place of that for memory, this refusal, if it ended early
abbrev pub SettledBy : ℕ → Option Refusal → Result (List ℕ) ClusterError → Outcome → Type 0
SettledBy owner (Some why) (Err error.Memory) outcome = outcome ≡ Err why
SettledBy owner ending result outcome = ComesOf (ShowsAnswer owner) result outcome

-- whether a request may have been performed without an answer to it: by another node, as the link notes, or since the application was asked
abbrev pub is_in_doubt : Bool → Noted → Bool
is_in_doubt asked noted = noted.is_unsure || asked

-- The refusal of a request that ended early, after which this is noted of it: its link or its handler ended it, or memory ran out where it may have been
-- performed. None if it did not end early.
abbrev pub ending_of : Bool → Bool → Option ℕ → Bool → Noted → Option Refusal
ending_of is_over is_repeatable limit asked noted =
    cond (is_over || is_in_doubt asked noted) (early_refusal (is_in_doubt asked noted) is_repeatable limit) None

-- A request of one key is made, which this text has; it is not if memory runs out for its key. It may end early.
abbrev pub AsksOwner : Option ℕ → ℕ → List ℕ → List ℕ → Bool → Outcome → OfActs Sha256Hash
AsksOwner limit own key request is_repeatable outcome acts =
    Declines refusal.Memory outcome acts
    ⊎ ((asked : Bool) × (noted : Noted) × (is_over : Bool)
    × After (IsRequested is_repeatable asked noted (key ∷ []) request) (SettledBy (answerer own asked noted.last) (ending_of is_over is_repeatable limit asked noted)) outcome acts)

-- the owner of a key, and the node that would own it next, if there is one
abbrev pub Owners : Type 0
Owners = ℕ × Option ℕ

-- the node that would own a key next by a view: the second of its owners
abbrev pub next_owner : Viewed Sha256Hash → List ℕ → Option ℕ
next_owner view key = slice_get (owners hash_number view.replicas view.servers key) 1

-- what is found of the owners of a key by the result of a call for a view: the owner and the next, or why there is none
abbrev pub IsFound : List ℕ → Result (Viewed Sha256Hash) ClusterError → Result Owners Refusal → Type 0
IsFound key (Ok view) (Ok found) = (owner hash_number view.replicas view.servers key ≡ Some found.0) × (next_owner view key ≡ found.1)
IsFound key (Ok view) (Err why) = (why ≡ refusal.Memory) ⊎ ((owner hash_number view.replicas view.servers key ≡ None) × (why ≡ refusal.Nobody))
IsFound key (Err e) found = found ≡ Err (refusal_of e)

-- the node is asked for a view, by which this is the owner of a key and the next, or why there is none
abbrev pub Finds : List ℕ → Result Owners Refusal → OfActs Sha256Hash
Finds key found acts = (result : Result (Viewed Sha256Hash) ClusterError) × Looks result acts × IsFound key result found

-- the refusal of a request that finds no place: those of the node's own keys and those of each other owner have places of their own
abbrev pub crowded : ℕ → ℕ → Refusal
crowded own found = cond (found == own) refusal.Busy (refusal.OwnerBusy found)

-- a request of a key is made if its owner was found and there is a place for it; by the text that names the next owner, if it is passed on whole
abbrev pub AsksIfPlaced : Option ℕ → ℕ → List ℕ → Outgoing → Bool → Outcome → Result Owners Refusal → OfActs Sha256Hash
AsksIfPlaced limit own key request is_repeatable outcome (Ok found) acts =
    Declines (crowded own found.0) outcome acts ⊎ AsksOwner limit own key (sent_text found.1 request) is_repeatable outcome acts
AsksIfPlaced limit own key request is_repeatable outcome (Err why) acts = Declines why outcome acts

-- the owner of a key is found first, and then this request of it is made
abbrev pub Handles : Option ℕ → ℕ → List ℕ → Outgoing → Bool → Outcome → OfActs Sha256Hash
Handles limit own key request is_repeatable outcome acts =
    (found : Result Owners Refusal) × Then (Finds key found) (AsksIfPlaced limit own key request is_repeatable outcome found) acts

-- the node left, or had left already, and the agent stops; or it is refused as a leave is
abbrev pub Stops : Result Change ClusterError → Outcome → Type 0
Stops (Ok left) outcome = Says (codes "stopping") outcome
Stops (Err error.AlreadyLeft) outcome = Says (codes "stopping") outcome
Stops (Err e) outcome = outcome ≡ Err (refusal_of e)

-- no host has admitted the node: none has answered, or one has refused it
abbrev pub IsUnjoined : Refusal → Type 0
IsUnjoined (refusal.JoinRefused reason) = Unit {0}
IsUnjoined why = why ≡ refusal.NotJoined

-- the agent handles requests, or why it does not
abbrev pub IsHealth : Outcome → Type 0
IsHealth (Ok shown) = IsText kind.Text (codes "ok" ++ 10 ∷ []) shown
IsHealth (Err why) =
    IsUnjoined why ⊎ ((why ≡ refusal.HasLeft) ⊎ ((why ≡ refusal.ApplicationAwaited) ⊎ ((why ≡ refusal.CannotAccept) ⊎ (why ≡ refusal.ApplicationDown))))

-- the agent makes rounds, or it does not
abbrev pub IsLiveness : Outcome → Type 0
IsLiveness (Ok shown) = IsText kind.Text (codes "ok" ++ 10 ∷ []) shown
IsLiveness (Err why) = why ≡ refusal.NoRounds

-- the reply is the level of the log, if it is set the one that it is set to, and the one before; or memory ran out
abbrev pub ShowsLevel : Option LogLevel → Outcome → Type 0
ShowsLevel None outcome = (level : LogLevel) × Shows kind.Text (level_line level None) outcome
ShowsLevel (Some level) outcome = (before : LogLevel) × Shows kind.Text (level_line level (Some before)) outcome

-- An action of the agent whose node has this address and this many replicas, with this limit of a request's wait, if there is one; its outcome, and all
-- calls of the node that were made for it.
abbrev pub Performs : Option ℕ → ℕ → ℕ → Action → Outcome → OfActs Sha256Hash
Performs limit own replicas (action.Handle key body) outcome acts =
    (Declines refusal.NotJoined outcome acts ⊎ Declines refusal.Memory outcome acts) ⊎ Handles limit own key (Body (text_of_body body)) true outcome acts
Performs limit own replicas (action.Pass key request is_repeatable) outcome acts =
    Declines refusal.NotJoined outcome acts ⊎ Handles limit own key request is_repeatable outcome acts
Performs limit own replicas (action.Owners key count) outcome acts =
    Declines refusal.NotJoined outcome acts ⊎ After Looks (ComesOf (ShowsOwners key count)) outcome acts
Performs limit own replicas (action.AllOwners keys count only_others) outcome acts =
    Declines refusal.NotJoined outcome acts ⊎ After Looks (ComesOf (ShowsAllOwners (hidden_of own only_others) keys count)) outcome acts
Performs limit own replicas (action.Ring after) outcome acts =
    (Declines refusal.NotJoined outcome acts ⊎ Declines refusal.ManyQuestions outcome acts)
    ⊎ After (Tries call.Members reply.Members) (ComesOf (ShowsRing own replicas after)) outcome acts
Performs limit own replicas action.Members outcome acts = After (Tries call.Members reply.Members) (ComesOf (ShowsMembers own replicas)) outcome acts
Performs limit own replicas action.Digest outcome acts =
    After (Tries call.Digest reply.Digest) (ComesOf (λ digest. ShowsOpen (digest_line digest.bytes))) outcome acts
Performs limit own replicas action.Health outcome acts = Nothing acts × IsHealth outcome
Performs limit own replicas action.Live outcome acts = Nothing acts × IsLiveness outcome
Performs limit own replicas action.Metrics outcome acts = After (Tries call.Members reply.Members) (ComesOf ShowsCounts) outcome acts
Performs limit own replicas (action.Log level) outcome acts = Nothing acts × ShowsLevel level outcome
Performs limit own replicas action.Page outcome acts = Nothing acts × (outcome ≡ Ok Page)
Performs limit own replicas action.Leave outcome acts = After (Tries call.Leave reply.Leave) (ComesOf (λ left. Says (codes "left"))) outcome acts
Performs limit own replicas action.Rejoin outcome acts =
    Declines refusal.HasLeft outcome acts ⊎ After (Tries call.Rejoin reply.Rejoin) (ComesOf (λ back. Says (codes "back"))) outcome acts
Performs limit own replicas action.Stop outcome acts = After (Tries call.Leave reply.Leave) Stops outcome acts
