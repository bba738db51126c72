-- A request that is passed on, or not.
use Rattle.std.proofs.Common.{◌≡◌, ◌∙◌, ℕ, List, [], ◌∷◌, ◌++◌, Option, Some, None, Result, Ok, Err, ap, append_assoc, append-nil, inl, inr, is_ok, refl, sym, subst, true, true≢false}
use Rattle.std.specs.Prelude.{◌≢◌, ◌⊎◌, IfNone}
use Rattle.change_core.specs.Status.{IsServing}
use Rattle.change_core.specs.declared.addresses.Address.{Address}
use Rattle.change_core.specs.declared.changes.Change.{Change}
use Rattle.hash_ring.specs.declared.hash.Sha256Hash.{Sha256Hash}
use Rattle.message_core.specs.declared.messages.Message.{Message}
use Rattle.node_core.specs.declared.events.Event.TheVariants as call
use Rattle.node_core.specs.declared.events.Reply.TheVariants as reply
use Rattle.peer_core.specs.Acts.{Act, OfActs, Just, Makes, Then, did, looked}
use Rattle.peer_core.specs.Exchanges.{SendsTo}
use Rattle.peer_core.specs.Joining.{IsJoin}
use Rattle.peer_core.specs.Links.{MayAnswer, Went}
use Rattle.peer_core.specs.Parts.{Calls, Does}
use Rattle.peer_core.specs.Serving.{message_by}
use Rattle.peer_core.specs.declared.errors.ClusterError.{ClusterError}
use Rattle.peer_core.proofs.Acts.{makes_as}
use Rattle.agent_node.specs.Calling.{Calling, HasMade}
use Rattle.agent_peers.specs.Relays.{Chooses, IsNotReturned, IsPassedOn, IsRelayed, Joins, Keeps, MayJoin, Meets, Names, NamesNobody, OnlyLooks, PassesOn, Withholds, is_look}
use Rattle.agent_peers.specs.declared.relays.Relayed.{Relayed}
use Rattle.agent_peers.specs.declared.relays.Relayed.TheVariants.{NotDone}
use Rattle.agent_node.proofs.Made.{made_as, made_both, made_none, made_then}

-- what holds anyway
pub if_none : {T P : Type 0} (found : Option T) → P → IfNone found P
if_none (Some it) holds = tt
if_none None holds = holds

-- one call that looks
looks_one : (acts : List (Act Sha256Hash)) (act : Act Sha256Hash) → acts ≡ act ∷ [] → is_look act ≡ true → OnlyLooks acts
looks_one acts act e looks = subst OnlyLooks (sym e) (looks, tt)

looks_both : (xs ys : List (Act Sha256Hash)) → OnlyLooks xs → OnlyLooks ys → OnlyLooks (xs ++ ys)
looks_both [] ys h k = k
looks_both (x ∷ xs) ys h k = (h.0, looks_both xs ys h.1 k)

-- the own entry
looks_own : (r : Result Change ClusterError) (acts : List (Act Sha256Hash)) → Calls call.Own reply.Own r acts → OnlyLooks acts
looks_own (Ok own) acts one = looks_one acts (did call.Own (reply.Own own)) one refl
looks_own (Err e) acts h = subst OnlyLooks (sym h.0) tt

-- what is done by a pass, as a thread sees it
pub own_quiet : (r : Result Change ClusterError) (old new : Calling) → new.node ≡ old.node → Does old.node (Calls call.Own reply.Own) r old.pass new.pass → HasMade OnlyLooks old new
own_quiet r old new same does = record { node = same; makes = makes_as OnlyLooks (looks_own r) does.makes }

pub quiet_both : (a b c : Calling) → HasMade OnlyLooks a b → HasMade OnlyLooks b c → HasMade OnlyLooks a c
quiet_both a b c h k =
    made_as OnlyLooks (Then OnlyLooks OnlyLooks) a c (λ acts t. subst OnlyLooks (sym t.2) (looks_both t.0 t.1 t.3 t.4)) (made_then OnlyLooks OnlyLooks a b c h k)

-- no call
pub looks_nowhere : (a : Calling) → HasMade OnlyLooks a a
looks_nowhere a = made_none OnlyLooks a a refl tt

-- another view, and then the own entry
pub chosen_later : (request : Message) (owner : Address) (own : Change) (a b c : Calling) → HasMade (Names request owner) a b → c.node ≡ b.node
    → Makes b.node (Just (did call.Own (reply.Own own))) b.pass c.pass → (owner ≢ request.source) ⊎ ¬ (IsServing own.status)
    → HasMade (Then (Names request owner) (IsNotReturned request owner)) a c
chosen_later request owner own a b c named same told may =
    made_then (Names request owner) (IsNotReturned request owner) a b c named
    (record { node = same; makes = makes_as (IsNotReturned request owner) (λ acts one. (own, one, may)) told })

module _ {L : Type 0} (Came : MayAnswer) (went : Went L) where
  -- looks, and then others
  withholds_then : (request : Message) (x y : L) (xs ys : List (Act Sha256Hash)) → Withholds Came went request x y xs → OnlyLooks ys → Withholds Came went request x y (xs ++ ys)
  withholds_then request x y xs ys (first, rest, e, looks, (mid, last, f, may, after)) k = (
    first,
    rest ++ ys,
    ap (λ (l : List (Act Sha256Hash)). l ++ ys) e ∙ append_assoc first rest ys,
    looks,
    (mid, last ++ ys, ap (λ (l : List (Act Sha256Hash)). l ++ ys) f ∙ append_assoc mid last ys, may, looks_both last ys after k),
  )

  withholds_looks : (request : Message) (x y : L) (acts : List (Act Sha256Hash)) → y ≡ x → OnlyLooks acts → Withholds Came went request x y acts
  withholds_looks request x y acts same looks = (acts, [], sym (append-nil acts), looks, ([], [], refl, inl (refl, same), tt))

  -- nothing went over the link, and no Join
  pub kept_quiet : (request : Message) (x : L) (a b : Calling) → HasMade OnlyLooks a b → HasMade (Withholds Came went request x x) a b
  kept_quiet request x a b quiet = made_as (Withholds Came went request x x) OnlyLooks a b (λ acts. withholds_looks request x x acts refl) quiet

  -- a Join may have gone, after looks, and before others
  pub kept_joining : (request : Message) (x y : L) (a b c d : Calling) → HasMade OnlyLooks a b → HasMade (MayJoin Came went request x y) b c → HasMade OnlyLooks c d
      → HasMade (Withholds Came went request x y) a d
  kept_joining request x y a b c d first may last =
      made_then OnlyLooks (Then (MayJoin Came went request x y) OnlyLooks) a b d first (made_then (MayJoin Came went request x y) OnlyLooks b c d may last)

  -- no Join was sent
  pub joins_nobody : (request : Message) (x : L) (a : Calling) → HasMade (MayJoin Came went request x x) a a
  joins_nobody request x a = made_none (MayJoin Came went request x x) a a refl (inl (refl, refl))

  -- the Join to the sender went over the link, with this result
  joins : (request : Message) (now : ℕ) (joined : Result ℕ ClusterError) (x y : L) (a b : Calling) → b.node ≡ a.node
      → Makes a.node (IsJoin Came now (request.source ∷ []) joined) a.pass b.pass → Makes a.node (SendsTo went (request.source ∷ []) x y) a.pass b.pass
      → HasMade (Joins Came went request joined x y) a b
  joins request now joined x y a b same asked sent =
      let So : OfActs Sha256Hash = λ acts. (moment : ℕ) × IsJoin Came moment (request.source ∷ []) joined acts in
      made_both So (SendsTo went (request.source ∷ []) x y) a b
      (record { node = same; makes = makes_as So (λ acts it. (now, it)) asked })
      (record { node = same; makes = sent })

  -- a Join was sent
  pub joins_sender : (request : Message) (now : ℕ) (joined : Result ℕ ClusterError) (x y : L) (a b : Calling) → b.node ≡ a.node
      → Makes a.node (IsJoin Came now (request.source ∷ []) joined) a.pass b.pass → Makes a.node (SendsTo went (request.source ∷ []) x y) a.pass b.pass
      → HasMade (MayJoin Came went request x y) a b
  joins_sender request now joined x y a b same asked sent =
      made_as (MayJoin Came went request x y) (Joins Came went request joined x y) a b (λ acts h. inr (joined, h)) (joins request now joined x y a b same asked sent)

  -- the sender's Joined came
  pub met : (request : Message) (now : ℕ) (joined : Result ℕ ClusterError) (x y : L) (a b : Calling) → is_ok joined ≡ true → b.node ≡ a.node
      → Makes a.node (IsJoin Came now (request.source ∷ []) joined) a.pass b.pass → Makes a.node (SendsTo went (request.source ∷ []) x y) a.pass b.pass
      → HasMade (Meets Came went request x y) a b
  met request now (Ok n) x y a b ok same asked sent =
      made_as (Meets Came went request x y) (Joins Came went request (Ok n) x y) a b (λ acts h. (n, h)) (joins request now (Ok n) x y a b same asked sent)
  met request now (Err e) x y a b ok same asked sent = absurd (true≢false (sym ok))

  -- it names the sender, and another does not
  pub chosen_after : (request : Message) (sender owner : Address) (x y : L) (a b c d : Calling) → sender ≡ request.source → HasMade (Names request sender) a b
      → HasMade (Meets Came went request x y) b c → HasMade (Then (Names request owner) (IsNotReturned request owner)) c d
      → HasMade (Chooses Came went request owner x y) a d
  chosen_after request sender owner x y a b c d same named meets later =
      let Last = Then (Names request owner) (IsNotReturned request owner) in
      let first = subst (λ (it : Address). HasMade (Names request it) a b) same named in
      made_as (Chooses Came went request owner x y) (Then (Names request request.source) (Then (Meets Came went request x y) Last)) a d (λ acts so. inr so)
      (made_then (Names request request.source) (Then (Meets Came went request x y) Last) a b d first (made_then (Meets Came went request x y) Last b c d meets later))

  -- so far the node was asked for views and its own entry alone, but for a Join to the sender
  chooses_withholds : (request : Message) (owner : Address) (x y : L) (acts : List (Act Sha256Hash)) → Chooses Came went request owner x y acts
      → Withholds Came went request x y acts
  chooses_withholds request owner x y acts (inl (names, other, same)) =
      withholds_looks request x y acts same (looks_one acts (looked (Ok names.0)) names.1 refl)
  chooses_withholds request owner x y acts (inr (first, rest, e, names, (mid, last, f, meets, (one, two, h, again, own)))) =
      let looks : OnlyLooks last = subst OnlyLooks (sym h)
      (looks_both one two (looks_one one (looked (Ok again.0)) again.1 refl) (looks_one two (did call.Own (reply.Own own.0)) own.1 refl)) in
      (first, rest, e, looks_one first (looked (Ok names.0)) names.1 refl, (mid, last, f, inr (Ok meets.0, meets.1), looks))

  -- the request is sent to that owner, by the node's own entry
  pub passes_on : (request : Message) (relayed : Relayed) (owner : Address) (own : Change) (x y z : L) (a b c : Calling)
      → HasMade (Chooses Came went request owner x y) a b → c.node ≡ b.node → Makes b.node (Just (did call.Own (reply.Own own))) b.pass c.pass
      → IsRelayed Came went owner (message_by own request.content) relayed y z → IsPassedOn Came went request relayed x z a c
  passes_on request relayed owner own x y z a b c chosen kept told came =
      let First = Chooses Came went request owner x y in
      let Next = Just (did call.Own (reply.Own own)) in
      inl (made_as (PassesOn Came went request relayed x z) (Then First Next) a c (λ acts so. (owner, own, y, so, came))
      (made_then First Next a b c chosen (record { node = kept; makes = told })))

  -- or it is not sent, since something is lacking then
  pub withheld_after : (request : Message) (owner : Address) (own : Result Change ClusterError) (x y : L) (a b c : Calling)
      → HasMade (Chooses Came went request owner x y) a b → c.node ≡ b.node → Does b.node (Calls call.Own reply.Own) own b.pass c.pass
      → IsPassedOn Came went request NotDone x y a c
  withheld_after request owner own x y a b c chosen same does =
      let So = Withholds Came went request x y in
      inr (
        refl,
        made_as So (Then So OnlyLooks) a c (λ acts t. subst So (sym t.2) (withholds_then request x y t.0 t.1 t.3 t.4))
            (made_then So OnlyLooks a b c (made_as So (Chooses Came went request owner x y) a b (chooses_withholds request owner x y) chosen) (own_quiet own b c same does)),
      )

-- no other node is the owner, so the request is kept; or its sender is
pub kept_unnamed : (request : Message) (a b : Calling) → HasMade (NamesNobody request) a b → HasMade (Keeps request) a b
kept_unnamed request a b h = made_as (Keeps request) (NamesNobody request) a b (λ acts none. inl none) h

pub kept_by_sender : (request : Message) (sender : Address) (So : OfActs Sha256Hash) (a b c : Calling) → sender ≡ request.source → HasMade (Names request sender) a b
    → HasMade So b c → HasMade (Keeps request) a c
kept_by_sender request sender So a b c same named later =
    let first = subst (λ (it : Address). HasMade (Names request it) a b) same named in
    made_as (Keeps request) (Then (Names request request.source) So) a c (λ acts t. inr (t.0, t.1, t.2, t.3, tt)) (made_then (Names request request.source) So a b c first later)
