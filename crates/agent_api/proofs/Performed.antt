-- The calls of a thread, one after the other, and what comes of them.
use Rattle.std.proofs.Common.{◌≡◌, ◌∙◌, ℕ, Bool, ⊎_elim, false, true, length, List, [], Option, Result, Ok, Err, inl, inr, refl, subst, sym, true≢false}
use Rattle.std.specs.Prelude.{◌≢◌, ◌==◌, IfErr, IfOk}
use Rattle.hash_ring.specs.declared.hash.Sha256Hash.{Sha256Hash}
use Rattle.node_core.specs.Viewing.{Viewed}
use Rattle.peer_core.specs.Acts.{Then}
use Rattle.peer_core.specs.Parts.{Part, Does}
use Rattle.peer_core.specs.declared.errors.ClusterError.{ClusterError}
use Rattle.peer_core.proofs.Acts.{makes_as}
use Rattle.agent_core.specs.declared.answers.Kind.{Kind}
use Rattle.agent_core.specs.declared.answers.Kind.TheVariants as kind
use Rattle.agent_core.specs.Parts.{text_of_body}
use Rattle.agent_core.specs.Texts.{owners_text}
use Rattle.agent_core.specs.declared.passing.Outgoing.{Outgoing}
use Rattle.agent_core.specs.declared.passing.Outgoing.TheVariants.{Body}
use Rattle.agent_core.specs.declared.actions.Action.TheVariants as action
use Rattle.agent_core.specs.declared.refusals.Refusal.{Refusal}
use Rattle.agent_core.specs.declared.refusals.Refusal.TheVariants as refusal
use Rattle.agent_node.specs.Calling.{Calling, HasMade, Looks}
use Rattle.agent_api.specs.Performing.{After, AsksIfPlaced, Finds, IsFound, Outcome, Owners, Performs, Shows, ShowsOwners, crowded, first_owners}
use Rattle.agent_http.specs.Replies.{IsText}
use Rattle.agent_node.proofs.Made.{made_as, made_none, made_then}

-- a call, and what comes of its result
pub made_after : {A : Type 0} (Done : Part Sha256Hash A) (Comes : Result A ClusterError → Outcome → Type 0) (result : Result A ClusterError) (outcome : Outcome)
    (old new : Calling) → new.node ≡ old.node → Does old.node Done result old.pass new.pass → Comes result outcome → HasMade (After Done Comes outcome) old new
made_after Done Comes result outcome old new same does comes = record {
  node = same;
  makes = makes_as (After Done Comes outcome) (λ acts done. (result, done, comes)) does.makes;
}

-- a view, and what is found by it
pub made_found : (key : List ℕ) (result : Result (Viewed Sha256Hash) ClusterError) (found : Result Owners Refusal) (old new : Calling) → new.node ≡ old.node
    → Does old.node Looks result old.pass new.pass → IsFound key result found → HasMade (Finds key found) old new
made_found key result found old new same does is = record { node = same; makes = makes_as (Finds key found) (λ acts done. (result, done, is)) does.makes }

-- the owner of a key, and then a request of it
pub made_handled : (limit : Option ℕ) (own replicas : ℕ) (key : List ℕ) (request : Outgoing) (is_repeatable : Bool) (found : Result Owners Refusal) (outcome : Outcome) (a b c : Calling) → HasMade (Finds key found) a b
    → HasMade (AsksIfPlaced limit own key request is_repeatable outcome found) b c → HasMade (Performs limit own replicas (action.Pass key request is_repeatable) outcome) a c
made_handled limit own replicas key request is_repeatable found outcome a b c first next =
    let Next = AsksIfPlaced limit own key request is_repeatable outcome found in
    made_as (Performs limit own replicas (action.Pass key request is_repeatable) outcome) (Then (Finds key found) Next) a c (λ acts both. inr (found, both))
    (made_then (Finds key found) Next a b c first next)

-- a request that is a body alone is passed on as one that may be performed twice
pub made_body : (limit : Option ℕ) (own replicas : ℕ) (key body : List ℕ) (outcome : Outcome) (a b : Calling)
    → HasMade (Performs limit own replicas (action.Pass key (Body (text_of_body body)) true) outcome) a b → HasMade (Performs limit own replicas (action.Handle key body) outcome) a b
made_body limit own replicas key body outcome a b made =
    made_as (Performs limit own replicas (action.Handle key body) outcome) (Performs limit own replicas (action.Pass key (Body (text_of_body body)) true) outcome) a b
    (λ acts. ⊎_elim (λ declined. inl (inl declined)) (λ handled. inr handled)) made

-- no place for a request
pub made_crowded : (limit : Option ℕ) (own : ℕ) (found : Owners) (key : List ℕ) (request : Outgoing) (is_repeatable : Bool) (why : Refusal) (old : Calling)
    → why ≡ crowded own found.0 → HasMade (AsksIfPlaced limit own key request is_repeatable (Err why) (Ok found)) old old
made_crowded limit own found key request is_repeatable why old is =
    subst (λ (it : Refusal). HasMade (AsksIfPlaced limit own key request is_repeatable (Err it) (Ok found)) old old) (sym is)
    (made_none (AsksIfPlaced limit own key request is_repeatable (Err (crowded own found.0)) (Ok found)) old old refl (inl (refl, refl)))

-- a text, or out of memory for it
pub shows : (content : Kind) (text : List ℕ) (outcome : Outcome) → IfOk outcome (IsText content text) → IfErr outcome (λ e. e ≡ refusal.Memory) → Shows content text outcome
shows content text (Ok reply) said refused = said
shows content text (Err why) said refused = refused

-- a list that has an element
pub some_owners : (xs ys : List ℕ) → xs ≡ ys → false ≡ (length xs == 0) → ys ≢ []
some_owners xs ys same some none = true≢false (sym (subst (λ (zs : List ℕ). false ≡ (length zs == 0)) (same ∙ none) some))

-- the owners by a view, or out of memory for them
pub owners_shown : (view : Viewed Sha256Hash) (key : List ℕ) (count : ℕ) (outcome : Outcome)
    → first_owners view key count ≢ [] → Shows kind.Json (owners_text (first_owners view key count)) outcome → ShowsOwners key count view outcome
owners_shown view key count (Ok reply) some said = (some, said)
owners_shown view key count (Err why) some said = inl said
