-- How often applications are asked for a request, by all agents to which it comes.
use Rattle.std.proofs.Common.{◌≡◌, ◌≢◌, ◌∙◌, ◌⊎◌, ℕ, zero, suc, Bool, true, false, refl, sym, ap, subst, inl, inr, Some, None, Option, Result, Ok, Err, List, [], ◌∷◌, ◌++◌, append-nil, arith, true≢false}
use Rattle.std.specs.Global.{Global}
use Rattle.std.proofs.lemmas.Bool.{or_right}
use Rattle.std.specs.Prelude.{◌||◌, IfOk, IfSome, Vec, cond, is_err}
use Rattle.change_core.specs.declared.addresses.Address.{Address}
use Rattle.hash_ring.specs.declared.hash.Sha256Hash.{Sha256Hash}
use Rattle.message_core.specs.Messages.{kind_of}
use Rattle.message_core.specs.declared.kinds.Kind.TheVariants as kind
use Rattle.message_core.specs.declared.kinds.Reason.{Reason}
use Rattle.message_core.specs.declared.kinds.Reason.TheVariants as reason
use Rattle.message_core.specs.declared.messages.Content.{Content}
use Rattle.message_core.specs.declared.messages.Content.TheVariants as content
use Rattle.message_core.specs.declared.messages.Message.{Message}
use Rattle.node_core.specs.Viewing.{Viewed}
use Rattle.locked_node.specs.History.{CallEntry}
use Rattle.forward_core.specs.declared.errors.ForwardError.{ForwardError}
use Rattle.forward_core.specs.declared.errors.ForwardError.TheVariants as refusal
use Rattle.forward_core.specs.declared.routes.Route.{Route}
use Rattle.forward_core.specs.declared.routes.Route.TheVariants as route
use Rattle.peer_core.specs.Acts.{Act, OfActs, acts_of, looked}
use Rattle.peer_core.specs.Exchanges.{Errand, stays, goes_to, joins, errand_of, Runs, Sends}
use Rattle.peer_core.specs.Handling.{Handled, Handlings, handled_as}
use Rattle.peer_core.specs.Links.{Went, any_answer}
use Rattle.peer_core.specs.Resending.{EndsBy, Failed, ForwardsOver, IsResultOf, Sending, result_of_handler}
use Rattle.peer_core.specs.Serving.{Forwards, IsRouted, Says, Serves, message_by, message_from}
use Rattle.peer_core.specs.declared.errors.ClusterError.{ClusterError}
use Rattle.peer_core.specs.declared.errors.ClusterError.TheVariants as error
use Rattle.peer_core.specs.declared.errors.HandlerFault.{HandlerFault}
use Rattle.peer_core.specs.declared.errors.HandlerFault.TheVariants as fault
use Rattle.peer_core.specs.declared.errors.LinkError.{LinkError}
use Rattle.peer_core.specs.declared.errors.LinkError.TheVariants as link
use Rattle.peer_core.proofs.Exchanges.{calls_agree}
use Rattle.line_service.specs.Answering.{line_text}
use Rattle.line_service.specs.declared.inputs.Input.TheVariants as input
use Rattle.agent_core.specs.declared.refusals.Refusal.{Refusal}
use Rattle.agent_core.specs.declared.refusals.Refusal.TheVariants as refused
use Rattle.kept_links.specs.Exchanges.{is_forward}
use Rattle.agent_peers.specs.Serving.{AsksFor, IsAnsweredHere, IsServed, RespondsAsking, asks}
use Rattle.agent_api.specs.Asking.{notes_asking}
use Rattle.hash_ring.specs.Points.{hash_of}
use Rattle.agent_node.specs.Calling.{Calling, HasMade}
use Rattle.agent.specs.Journeys.{Asked, AsksOne, AsksOneAtMost, ClientsAreTold, EndsMeet, ForwardsAskOne, IsAskedOnce, IsDelivered, IsGossip, IsTold, IsTurnedAway, MakesGossip, PassesOnAlone, RequestsAskOne, SaysBusy, TellsOf, askings, busy_text, goes_on, travels, unasked}
use Rattle.agent_api.specs.Onces.{Noted, is_unsure, notes_send, unnoted, was_made}
use Rattle.agent_api.specs.Ending.{EndsOnce, undone_send}
use Rattle.agent_api.specs.Performing.{Outcome, SettledBy, early_refusal, ending_of, is_in_doubt}
use Rattle.agent_peers.specs.Relays.{Chooses, IsNotDone, IsOwnerBy, IsRelayOf, IsRelayedAs, PassesOn, Withholds, sent_back}
use Rattle.agent_http.specs.declared.replies.Reply as http
use Rattle.agent_http.specs.declared.replies.Reply.TheVariants as page
use Rattle.agent_peers.specs.declared.relays.Relayed.{Relayed}
use Rattle.agent_peers.specs.declared.relays.Relayed.TheVariants.{Lost, Reply, NoReply, NotDone}
use Rattle.agent_api.proofs.Ending.{requests_end_once}
use Rattle.line_service.proofs.LineTexts.{not_owner_not_refused, one_reply, reply_not_owner, reply_not_refused}

-- ---- what a node answers to a Forward

says_so : (told : Content) (answer : Message) (acts : List (Act Sha256Hash)) → Says told (Ok answer) acts → answer.content ≡ told
says_so told answer acts (inl h) = absurd h
says_so told answer acts (inr (own, (xs, ys, e, just, gives))) =
    let made : answer ≡ message_by own told = (let same : Ok answer ≡ Ok (message_by own told) = gives.1 in cc) in ap (λ (m : Message). m.content) made

-- a content of this kind
reply_kind : (told : Content) → kind_of told ≡ kind.Reply → (text : List ℕ) × (told ≡ content.Reply text)
reply_kind (content.Reply text) is = (text, refl)
reply_kind (content.Join news) is = absurd cc
reply_kind (content.Joined news) is = absurd cc
reply_kind (content.Ping news) is = absurd cc
reply_kind (content.Ack news) is = absurd cc
reply_kind (content.PingReq news target) is = absurd cc
reply_kind (content.PingReqAck news target reached) is = absurd cc
reply_kind (content.Forward keys body) is = absurd cc
reply_kind content.NotOwner is = absurd cc
reply_kind (content.Refused why) is = absurd cc

not_owner_kind : (told : Content) → kind_of told ≡ kind.NotOwner → told ≡ content.NotOwner
not_owner_kind content.NotOwner is = refl
not_owner_kind (content.Reply text) is = absurd cc
not_owner_kind (content.Join news) is = absurd cc
not_owner_kind (content.Joined news) is = absurd cc
not_owner_kind (content.Ping news) is = absurd cc
not_owner_kind (content.Ack news) is = absurd cc
not_owner_kind (content.PingReq news target) is = absurd cc
not_owner_kind (content.PingReqAck news target reached) is = absurd cc
not_owner_kind (content.Forward keys body) is = absurd cc
not_owner_kind (content.Refused why) is = absurd cc

module _ (Handles : Handlings) where
  -- only for a Forward is the application asked
  others_never : (message : Message) (now : ℕ) (told : Content) (r : Result Message ClusterError) (acts : List (Act Sha256Hash)) → is_forward told ≡ false
      → Serves hash_of any_answer Handles message now told r acts → Handles.never
  others_never message now (content.Forward keys body) r acts calm served = absurd (true≢false calm)
  others_never message now told r acts calm served = served.0

  unasked_for : (request : Message) (old new : Calling) → is_forward request.content ≡ false → HasMade (AsksFor Handles (input.Message request)) old new → Handles.never
  unasked_for request old new calm made =
      let (xs, ys, e, (now, r, served), later) = made.makes.so in others_never request now request.content r xs calm served

  module _ (keys : List (List ℕ)) (body : List ℕ) where
    abbrev Answers : Content → Type 0
    Answers told =
        ((told ≡ content.NotOwner) × Handles.never)
        ⊎ (((why : Reason) × (told ≡ content.Refused why)) ⊎ ((text : List ℕ) × (told ≡ content.Reply text) × Handles.once keys body (Ok text)))

    handled_so : (told : Content) (answer : Result (List ℕ) HandlerFault) → Handles.once keys body answer → told ≡ handled_as answer → Answers told
    handled_so told (Ok text) once is = inr (inr (text, is, once))
    handled_so told (Err fault.Failed) once is = inr (inl (reason.Failed, is))
    handled_so told (Err fault.Memory) once is = inr (inl (reason.Memory, is))

    routed_so : (way : Result Route ForwardError) (told : Content) → IsRouted Handles keys body way told → Answers told
    routed_so (Ok route.Here) told (answer, once, is) = handled_so told answer once is
    routed_so (Ok (route.To owner)) told (never, is) = inl (is, never)
    routed_so (Ok route.Nobody) told (never, is) = inr (inl (reason.Nobody, is))
    routed_so (Err refusal.Diverged) told (never, is) = inr (inl (reason.Diverged, is))
    routed_so (Err refusal.Nobody) told h = absurd h
    routed_so (Err refusal.RetriesSpent) told h = absurd h
    routed_so (Err refusal.InFlight) told h = absurd h
    routed_so (Err refusal.NotInFlight) told h = absurd h

    forwards_so : (answer : Message) (acts : List (Act Sha256Hash)) → Forwards hash_of Handles keys body (Ok answer) acts → Answers answer.content
    forwards_so answer acts (inl h) = absurd h
    forwards_so answer acts (inr (Ok view, (first, next, e, seen, (told, decided, gives)))) =
        let made : answer ≡ message_from view told = (let same : Ok answer ≡ Ok (message_from view told) = gives.1 in cc) in
        subst Answers (sym (ap (λ (m : Message). m.content) made)) (routed_so decided.0 told decided.2)
    forwards_so answer acts (inr (Err n, (first, next, e, seen, (never, says)))) = inr (inl (reason.Memory, says_so (content.Refused reason.Memory) answer next says))

    routed_once : (Handles.never → ⊥) → (way : Result Route ForwardError) (told : Content) → IsRouted Handles keys body way told
        → (answer : Result (List ℕ) HandlerFault) × Handles.once keys body answer
    routed_once some (Ok route.Here) told (answer, once, is) = (answer, once)
    routed_once some (Ok (route.To owner)) told (never, is) = absurd (some never)
    routed_once some (Ok route.Nobody) told (never, is) = absurd (some never)
    routed_once some (Err refusal.Diverged) told (never, is) = absurd (some never)
    routed_once some (Err refusal.Nobody) told h = absurd h
    routed_once some (Err refusal.RetriesSpent) told h = absurd h
    routed_once some (Err refusal.InFlight) told h = absurd h
    routed_once some (Err refusal.NotInFlight) told h = absurd h

    forwards_once : (Handles.never → ⊥) → (r : Result Message ClusterError) (acts : List (Act Sha256Hash)) → Forwards hash_of Handles keys body r acts
        → (answer : Result (List ℕ) HandlerFault) × Handles.once keys body answer
    forwards_once some (Ok answer) acts (inl h) = absurd h
    forwards_once some (Err e) acts (inl (never, h)) = absurd (some never)
    forwards_once some r acts (inr (Ok view, (first, next, e, seen, (told, decided, gives)))) = routed_once some decided.0 told decided.2
    forwards_once some r acts (inr (Err n, (first, next, e, seen, (never, says)))) = absurd (some never)

    module _ (request : Message) (is : request.content ≡ content.Forward keys body) where
      asked_once : (Handles.never → ⊥) → (old new : Calling) → HasMade (AsksFor Handles (input.Message request)) old new
          → (answer : Result (List ℕ) HandlerFault) × Handles.once keys body answer
      asked_once some old new made =
          let (xs, ys, e, (now, r, served), later) = made.makes.so in
          forwards_once some r xs (subst (λ (c : Content). Serves hash_of any_answer Handles request now c r xs) is served)

      -- the message whose line goes back
      line_so : (line : List ℕ) (acts : List (Act Sha256Hash)) → RespondsAsking Handles (input.Message request) line acts
          → (a : Message) × (line ≡ line_text a) × Answers a.content
      line_so line acts (now, (answer, (xs, ys, e, made, inl (none, short, same)))) =
          (answer, same, forwards_so answer xs (subst (λ (c : Content). Serves hash_of any_answer Handles request now c (Ok answer) xs) is made))
      line_so line acts (now, (answer, (xs, ys, e, made, inr (why, unsent, (refused, refuses, same))))) =
          (refused, same, inr (inl (why, says_so (content.Refused why) refused ys refuses)))

      never_if : (m a : Message) → line_text m ≡ line_text a → Answers a.content → m.content ≡ content.NotOwner → Handles.never
      never_if m a same (inl (are, never)) told = never
      never_if m a same (inr (inl (why, are))) told = absurd (not_owner_not_refused m a same why told are)
      never_if m a same (inr (inr (text, are, once))) told = absurd (reply_not_owner a m (sym same) text are told)

      once_if : (m a : Message) → line_text m ≡ line_text a → Answers a.content → (text : List ℕ) → m.content ≡ content.Reply text → Handles.once keys body (Ok text)
      once_if m a same (inl (are, never)) text told = absurd (reply_not_owner m a same text told are)
      once_if m a same (inr (inl (why, are))) text told = absurd (reply_not_refused m a same text why told are)
      once_if m a same (inr (inr (given, are, once))) text told =
          subst (λ (t : List ℕ). Handles.once keys body (Ok t)) (one_reply a m (sym same) given text are told) once

      -- the answer that came
      abbrev Shows : Message → Type 0
      Shows m = (m.content ≡ content.NotOwner → Handles.never) × ((text : List ℕ) → m.content ≡ content.Reply text → Handles.once keys body (Ok text))

      delivered_so : (line : Option (Vec ℕ Global)) (m : Message) → IsDelivered line (Ok m)
          → IfSome line (λ it. (old : Calling) × (new : Calling) × HasMade (RespondsAsking Handles (input.Message request) it.items) old new) → Shows m
      delivered_so line m (sent, e, text) responds =
          let (old, new, made) = subst (λ o. IfSome o (λ it. (old : Calling) × (new : Calling) × HasMade (RespondsAsking Handles (input.Message request) it.items) old new)) e responds in
          let (a, same, answers) = line_so sent.items (acts_of made.makes.entries) made.makes.so in
          (never_if m a (sym text ∙ same) answers, once_if m a (sym text ∙ same) answers)

      answered_so : (line : Option (Vec ℕ Global)) (m : Message) (old new : Calling) → IsDelivered line (Ok m)
          → IsAnsweredHere Handles (input.Message request) line old new → Shows m
      answered_so None m old new (sent, e, text) here = absurd cc
      answered_so (Some it) m old new delivered (asked, made) = delivered_so (Some it) m delivered (old, new, made)

-- ---- what goes over a link besides a request

gossip_parts : (xs ys : List (Act Sha256Hash)) → MakesGossip (xs ++ ys) → MakesGossip xs × MakesGossip ys
gossip_parts [] ys h = (tt, h)
gossip_parts (x ∷ xs) ys (calm, others) = let (a, b) = gossip_parts xs ys others in ((calm, a), b)

gossip_in : (acts xs ys : List (Act Sha256Hash)) → acts ≡ xs ++ ys → MakesGossip acts → MakesGossip xs × MakesGossip ys
gossip_in acts xs ys e h = gossip_parts xs ys (subst MakesGossip e h)

both_made : (P : OfActs Sha256Hash) (old new : Calling) → HasMade MakesGossip old new → HasMade P old new → (acts : List (Act Sha256Hash)) × MakesGossip acts × P acts
both_made P old new gossip made = (
  acts_of gossip.makes.entries,
  gossip.makes.so,
  subst (λ (es : List (CallEntry Sha256Hash)). P (acts_of es))
      (calls_agree old.node old.pass new.pass made.makes.entries gossip.makes.entries made.makes.made gossip.makes.made) made.makes.so,
)

not_named : (view : Viewed Sha256Hash) (told : Content) (a : Address) → is_forward told ≡ false → IsOwnerBy view told a → ⊥
not_named view (content.Forward keys body) a calm owns = true≢false calm
not_named view told a calm owns = owns

module _ {L : Type 0} (went : Went L)
    (still : (to : Address) (message : Message) (answer : Result Message LinkError) (old new : L) → is_forward message.content ≡ false → went to message answer old new → new ≡ old) where
  runs_still : (errand : Errand) (hosts left : List Address) (old new : L) → IsGossip errand → Runs went errand hosts left old new → new ≡ old
  runs_still stays hosts left old new calm (kept, same) = same
  runs_still (goes_to a message) hosts left old new calm (kept, (answer, goes)) = still a message answer old new calm goes
  runs_still (joins message) hosts left old new calm (host, is, (answer, goes)) = still host message answer old new calm goes

  sends_still : (hosts : List Address) (old new : L) (acts : List (Act Sha256Hash)) → MakesGossip acts → Sends went hosts old new acts → new ≡ old
  sends_still hosts old new [] calm (none, same) = same
  sends_still hosts old new (act ∷ acts) (calm, others) (left, mid, runs, rest) = sends_still left mid new acts others rest ∙ runs_still (errand_of act) hosts left old mid calm runs

  module _ (request : Message) where
    chooses_still : (a : Address) (old new : L) (acts : List (Act Sha256Hash)) → MakesGossip acts → Chooses any_answer went request a old new acts → new ≡ old
    chooses_still a old new acts calm (inl (names, other, same)) = same
    chooses_still a old new acts calm (inr (xs, ys, e, names, (us, vs, f, (count, (entered, (asked, part, sends))), later))) =
        sends_still asked old new us (gossip_in ys us vs f (gossip_in acts xs ys e calm).1).0 sends

    withholds_still : (old new : L) (acts : List (Act Sha256Hash)) → MakesGossip acts → Withholds any_answer went request old new acts → new ≡ old
    withholds_still old new acts calm (xs, ys, e, looks, (us, vs, f, inl (nothing, same), later)) = same
    withholds_still old new acts calm (xs, ys, e, looks, (us, vs, f, inr (joined, (entered, (asked, part, sends))), later)) =
        sends_still asked old new us (gossip_in ys us vs f (gossip_in acts xs ys e calm).1).0 sends

    -- nothing else is passed on
    chooses_nobody : (a : Address) (old new : L) (acts : List (Act Sha256Hash)) → is_forward request.content ≡ false → Chooses any_answer went request a old new acts → ⊥
    chooses_nobody a old new acts calm (inl ((view, just, owns), other, same)) = not_named view request.content a calm owns
    chooses_nobody a old new acts calm (inr (xs, ys, e, (view, just, owns), later)) = not_named view request.content request.source calm owns

    passes_nothing : (relayed : Relayed) (old new : L) (acts : List (Act Sha256Hash)) → is_forward request.content ≡ false → PassesOn any_answer went request relayed old new acts → ⊥
    passes_nothing relayed old new acts calm (owner, own, mid, (xs, ys, e, chooses, just), goes) = chooses_nobody owner old mid xs calm chooses

    relays_nothing : (relayed : Relayed) (old new : L) (passing passed : Calling) → is_forward request.content ≡ false → HasMade MakesGossip passing passed
        → IsRelayOf any_answer went (input.Message request) relayed old new passing passed → (relayed ≡ NotDone) × (new ≡ old)
    relays_nothing relayed old new passing passed calm gossip (inr (is, same, kept)) = (is, same)
    relays_nothing relayed old new passing passed calm gossip (inl (it, is, inl made)) =
        let at : it ≡ request = cc in
        absurd (passes_nothing relayed old new (acts_of made.makes.entries) calm (subst (λ (m : Message). PassesOn any_answer went m relayed old new (acts_of made.makes.entries)) at made.makes.so))
    relays_nothing relayed old new passing passed calm gossip (inl (it, is, inr (undone, made))) =
        let at : it ≡ request = cc in
        let (acts, quiet, withholds) = both_made (Withholds any_answer went it old new) passing passed gossip made in
        (undone, withholds_still old new acts quiet (subst (λ (m : Message). Withholds any_answer went m old new acts) at withholds))

    -- a request is passed on by one call of the link
    module _ (keys : List (List ℕ)) (body : List ℕ) (is : request.content ≡ content.Forward keys body) where
      abbrev Relays : Relayed → L → L → Type 0
      Relays relayed old new =
          ((to : Address) × (message : Message) × (answer : Result Message LinkError)
          × (message.content ≡ content.Forward keys body) × went to message answer old new × IsRelayedAs answer relayed)
          ⊎ ((relayed ≡ NotDone) × (new ≡ old))

      passes_one : (relayed : Relayed) (old new : L) (acts : List (Act Sha256Hash)) → MakesGossip acts → PassesOn any_answer went request relayed old new acts → Relays relayed old new
      passes_one relayed old new acts calm (owner, own, mid, (xs, ys, e, chooses, just), (answer, came, goes, known)) =
          inl (
            owner,
            message_by own request.content,
            answer,
            is,
            subst (λ (l : L). went owner (message_by own request.content) answer l new) (chooses_still owner old mid xs (gossip_in acts xs ys e calm).0 chooses) goes,
            known,
          )

      relays_one : (relayed : Relayed) (old new : L) (passing passed : Calling) → HasMade MakesGossip passing passed
          → IsRelayOf any_answer went (input.Message request) relayed old new passing passed → Relays relayed old new
      relays_one relayed old new passing passed gossip (inr (undone, same, kept)) = inr (undone, same)
      relays_one relayed old new passing passed gossip (inl (it, e, inl made)) =
          let at : it ≡ request = cc in
          let (acts, quiet, passes) = both_made (PassesOn any_answer went it relayed old new) passing passed gossip made in
          passes_one relayed old new acts quiet (subst (λ (m : Message). PassesOn any_answer went m relayed old new acts) at passes)
      relays_one relayed old new passing passed gossip (inl (it, e, inr (undone, made))) =
          let at : it ≡ request = cc in
          let (acts, quiet, withholds) = both_made (Withholds any_answer went it old new) passing passed gossip made in
          inr (undone, withholds_still old new acts quiet (subst (λ (m : Message). Withholds any_answer went m old new acts) at withholds))

-- ---- what a request asks

module _ {A : Type 0} (handled : Handled A) where
  lost_says : (answer : Result Message LinkError) → is_err answer ≡ true → SaysBusy answer
  lost_says (Ok message) lost = absurd (true≢false (sym lost))
  lost_says (Err e) lost = tt

  -- a message that is no request asks no application
  served_still : (went : Went (Asked A))
      → ((to : Address) (message : Message) (answer : Result Message LinkError) (old new : Asked A) → is_forward message.content ≡ false → went to message answer old new → new ≡ old)
      → (request : Message) → is_forward request.content ≡ false → (line : Option (Vec ℕ Global)) (before after : Asked A) (was is : A) (old : Calling)
      → (served : IsServed any_answer went handled (input.Message request) line before after was is old) → PassesOnAlone served → after ++ askings served ≡ before
  served_still went still request calm line before after was is old (IsServed.here new answered) alone =
      absurd (unasked_for (asks handled true was is) request old new calm answered.0)
  served_still went still request calm line before after was is old (IsServed.there unsent new passing passed relayed answered relays done same) alone =
      absurd (done (relays_nothing went still request relayed before after passing passed calm alone relays).0)
  served_still went still request calm line before after was is old (IsServed.here_again mid unsent new passing passed again last true answered relays once_more) alone =
      absurd (unasked_for (asks handled true mid is) request again last calm once_more.0)
  served_still went still request calm line before after was is old (IsServed.here_again mid unsent new passing passed again last false answered relays once_more) alone =
      append-nil after ∙ (relays_nothing went still request NotDone before after passing passed calm alone relays).1

  travels_still : (n : ℕ) (to : Address) (message : Message) (answer : Result Message LinkError) (old new : Asked A) → is_forward message.content ≡ false
      → travels handled n to message answer old new → new ≡ old
  travels_still zero to message answer old new calm (lost, same) = same
  travels_still (suc n) to message answer old new calm (inl (lost, same)) = same
  travels_still (suc n) to message answer old new calm (inr (line, delivered, inr (turned, same))) = same
  travels_still (suc n) to message answer old new calm (inr (line, delivered, inl (mid, was, is, calling, served, alone, grown))) =
      grown ∙ served_still (travels handled n) (travels_still n) message calm line old mid was is calling served alone

  -- nor does one over a link that is spent
  travels_unsent : (n : ℕ) (to : Address) (message : Message) (old new : Asked A) → travels handled n to message (Err link.Spent) old new → new ≡ old
  travels_unsent zero to message old new (lost, same) = same
  travels_unsent (suc n) to message old new (inl (lost, same)) = same
  travels_unsent (suc n) to message old new (inr (line, delivered, received)) = absurd (delivered refl)

  module _ (keys : List (List ℕ)) (body : List ℕ) where
    abbrev Asks : Result Message LinkError → Asked A → Asked A → Type 0
    Asks answer old new = AsksOneAtMost handled keys body answer old new

    -- the application that was asked here
    here_asks : (request : Message) → request.content ≡ content.Forward keys body → (line : Option (Vec ℕ Global)) (was is : A) (old new : Calling)
        → IsAnsweredHere (asks handled true was is) (input.Message request) line old new → (answer : Result Message LinkError) → IsDelivered line answer
        → ((result : Result (List ℕ) HandlerFault) × handled keys body result was is) × TellsOf handled keys body (was, is) answer
    here_asks request told line was is old new answered (Ok m) delivered =
        let (none, once) = answered_so (asks handled true was is) keys body request told line m old new delivered answered in
        (asked_once (asks handled true was is) keys body request told (λ never. never) old new answered.0, (none, once))
    here_asks request told line was is old new answered (Err e) delivered =
        (asked_once (asks handled true was is) keys body request told (λ never. never) old new answered.0, tt)

    -- it was not
    not_here : (request : Message) → request.content ≡ content.Forward keys body → (line : Option (Vec ℕ Global)) (was is : A) (old new : Calling)
        → IsAnsweredHere (asks handled false was is) (input.Message request) line old new → (answer : Result Message LinkError) → IsDelivered line answer → SaysBusy answer
    not_here request told line was is old new answered (Ok m) delivered =
        λ text replied. absurd ((answered_so (asks handled false was is) keys body request told line m old new delivered answered).1 text replied)
    not_here request told line was is old new answered (Err e) delivered = tt

    turned_busy : (request : Message) → request.content ≡ content.Forward keys body → (line : Option (Vec ℕ Global)) (answer : Result Message LinkError) → IsDelivered line answer
        → IsTurnedAway (input.Message request) line → SaysBusy answer
    turned_busy request told None (Ok m) (sent, e, text) turned = absurd cc
    turned_busy request told (Some it) (Ok m) delivered (inl answered) = (delivered_so unasked keys body request told (Some it) m delivered answered).1
    turned_busy request told (Some it) (Ok m) (sent, e, text) (inr (refusal, why, are, same)) =
        let at : it ≡ sent = (let both : Some it ≡ Some sent = e in cc) in
        λ given replied. absurd (reply_not_refused m refusal (sym text ∙ (ap (λ (v : Vec ℕ Global). v.items) (sym at) ∙ same)) given why replied are)
    turned_busy request told line (Err e) delivered turned = tt

    -- the line of a Reply that goes back is that of the answer which came
    replied_by : (relayed : Relayed) (line : Option (Vec ℕ Global)) (m : Message) (inner : Result Message LinkError) → line ≡ sent_back relayed → IsDelivered line (Ok m)
        → IsRelayedAs inner relayed → (that : Message) × (text : List ℕ) × (inner ≡ Ok that) × (that.content ≡ content.Reply text) × (line_text m ≡ line_text that)
    replied_by (Reply sent) line m inner is (got, e, text) (that, are, replies, items) =
        let same : got ≡ sent = (let both : Some got ≡ Some sent = sym e ∙ is in cc) in
        let (given, told) = reply_kind that.content replies in (that, given, are, told, sym text ∙ (ap (λ (v : Vec ℕ Global). v.items) same ∙ items))
    replied_by Lost line m inner is (got, e, text) known = absurd (let no : Some got ≡ None = sym e ∙ is in cc)
    replied_by NoReply line m inner is (got, e, text) known = absurd (let no : Some got ≡ None = sym e ∙ is in cc)
    replied_by NotDone line m inner is (got, e, text) known = absurd (let no : Some got ≡ None = sym e ∙ is in cc)

    passed_busy : (relayed : Relayed) (line : Option (Vec ℕ Global)) (answer inner : Result Message LinkError) → line ≡ sent_back relayed → IsDelivered line answer
        → IsRelayedAs inner relayed → SaysBusy inner → SaysBusy answer
    passed_busy relayed line (Ok m) inner is delivered known busy =
        λ text replied.
        let (that, given, are, told, same) = replied_by relayed line m inner is delivered known in
        one_reply m that same text given replied told ∙ subst (SaysBusy) are busy given told
    passed_busy relayed line (Err e) inner is delivered known busy = tt

    passed_tells : (one : A × A) (relayed : Relayed) (line : Option (Vec ℕ Global)) (answer inner : Result Message LinkError) → line ≡ sent_back relayed → IsDelivered line answer
        → IsRelayedAs inner relayed → TellsOf handled keys body one inner → TellsOf handled keys body one answer
    passed_tells one relayed line (Ok m) inner is delivered known tells =
        let (that, given, are, told, same) = replied_by relayed line m inner is delivered known in (
          λ none. reply_not_owner that m (sym same) given told none,
          λ text replied.
              subst (λ (t : List ℕ). handled keys body (Ok t) one.0 one.1) (one_reply that m (sym same) given text told replied)
              ((subst (TellsOf handled keys body one) are tells).1 given told),
        )
    passed_tells one relayed line (Err e) inner is delivered known tells = tt

    passed_asks : (relayed : Relayed) (line : Option (Vec ℕ Global)) (answer inner : Result Message LinkError) (old new : Asked A) → line ≡ sent_back relayed
        → IsDelivered line answer → IsRelayedAs inner relayed → Asks inner old new → Asks answer old new
    passed_asks relayed line answer inner old new is delivered known (inl (same, busy)) = inl (same, passed_busy relayed line answer inner is delivered known busy)
    passed_asks relayed line answer inner old new is delivered known (inr (one, asked, tells)) =
        inr (one, asked, passed_tells one relayed line answer inner is delivered known tells)

    -- no application was asked where the answer shows it
    undone_asks : (went : Went (Asked A)) → ((to : Address) (message : Message) (old new : Asked A) → went to message (Err link.Spent) old new → new ≡ old)
        → (to : Address) (message : Message) (inner : Result Message LinkError) (old new : Asked A) → went to message inner old new → IsNotDone inner → Asks inner old new → new ≡ old
    undone_asks went unsent to message inner old new goes shows (inl (same, busy)) = same
    undone_asks went unsent to message (Ok m) old new goes shows (inr (one, asked, tells)) = absurd (tells.0 (not_owner_kind m.content shows))
    undone_asks went unsent to message (Err e) old new goes shows (inr (one, asked, tells)) =
        unsent to message old new (subst (λ (x : LinkError). went to message (Err x) old new) shows goes)

    module _ (went : Went (Asked A))
        (still : (to : Address) (message : Message) (answer : Result Message LinkError) (old new : Asked A) → is_forward message.content ≡ false → went to message answer old new → new ≡ old)
        (unsent : (to : Address) (message : Message) (old new : Asked A) → went to message (Err link.Spent) old new → new ≡ old)
        (one_at_most : (to : Address) (message : Message) (answer : Result Message LinkError) (old new : Asked A) → message.content ≡ content.Forward keys body → went to message answer old new → Asks answer old new)
        (request : Message) (told : request.content ≡ content.Forward keys body) where
      there_asks : (relayed : Relayed) (line : Option (Vec ℕ Global)) (answer : Result Message LinkError) (old new : Asked A) → line ≡ sent_back relayed → IsDelivered line answer
          → relayed ≢ NotDone → Relays went still request keys body told relayed old new → Asks answer old new
      there_asks relayed line answer old new is delivered done (inr (undone, same)) = absurd (done undone)
      there_asks relayed line answer old new is delivered done (inl (to, message, inner, forward, goes, known)) =
          passed_asks relayed line answer inner old new is delivered known (one_at_most to message inner old new forward goes)

      not_there : (old new : Asked A) → Relays went still request keys body told NotDone old new → new ≡ old
      not_there old new (inr (undone, same)) = same
      not_there old new (inl (to, message, inner, forward, goes, known)) =
          undone_asks went unsent to message inner old new goes known (one_at_most to message inner old new forward goes)

      served_asks : (line : Option (Vec ℕ Global)) (answer : Result Message LinkError) → IsDelivered line answer → (before after : Asked A) (was is : A) (old : Calling)
          → (served : IsServed any_answer went handled (input.Message request) line before after was is old) → PassesOnAlone served → Asks answer before (after ++ askings served)
      served_asks line answer delivered before after was is old (IsServed.here new answered) alone =
          let (result, tells) = here_asks request told line was is old new answered answer delivered in inr ((was, is), (refl, result), tells)
      served_asks line answer delivered before after was is old (IsServed.there unsent new passing passed relayed answered relays done same) alone =
          subst (Asks answer before) (sym (append-nil after))
          (there_asks relayed line answer before after same delivered done (relays_one went still request keys body told relayed before after passing passed alone relays))
      served_asks line answer delivered before after was is old (IsServed.here_again mid unsent new passing passed again last true answered relays once_more) alone =
          let (result, tells) = here_asks request told line mid is again last once_more answer delivered in
          let same : after ≡ before = not_there before after (relays_one went still request keys body told NotDone before after passing passed alone relays) in
          inr ((mid, is), (ap (λ (xs : Asked A). xs ++ (mid, is) ∷ []) same, result), tells)
      served_asks line answer delivered before after was is old (IsServed.here_again mid unsent new passing passed again last false answered relays once_more) alone =
          inl (
            append-nil after ∙ not_there before after (relays_one went still request keys body told NotDone before after passing passed alone relays),
            not_here request told line mid is again last once_more answer delivered,
          )

    travels_asks : (n : ℕ) (to : Address) (message : Message) (answer : Result Message LinkError) (old new : Asked A) → message.content ≡ content.Forward keys body
        → travels handled n to message answer old new → Asks answer old new
    travels_asks zero to message answer old new told (lost, same) = inl (same, lost_says answer lost)
    travels_asks (suc n) to message answer old new told (inl (lost, same)) = inl (same, lost_says answer lost)
    travels_asks (suc n) to message answer old new told (inr (line, delivered, inr (turned, same))) = inl (same, turned_busy message told line answer delivered turned)
    travels_asks (suc n) to message answer old new told (inr (line, delivered, inl (mid, was, is, calling, served, alone, grown))) =
        subst (Asks answer old) (sym grown)
        (served_asks (travels handled n) (travels_still n) (travels_unsent n) (travels_asks n) message told line answer delivered old mid was is calling served alone)

  pub forwards_ask_one : ForwardsAskOne handled
  forwards_ask_one n to message keys body answer old new told goes = travels_asks keys body n to message answer old new told goes

-- ---- a request and its Forwards

module _ {L A B : Type 0} (went : Went L) (noted_of : L → Noted) (handled : Handled A) (own : Handled B)
    (marks : (to : Address) (message : Message) (answer : Result Message LinkError) (old new : L) → went to message answer old new
    → notes_send to message answer (noted_of old) (noted_of new))
    (n : ℕ) (keys : List (List ℕ)) (request : List ℕ) where
  abbrev Both : Type 0
  Both = L × Asked A

  abbrev noted : Both → Noted
  noted both = noted_of both.0

  abbrev goes : Went Both
  goes = goes_on went noted_of handled n

  abbrev Once : Result (List ℕ) ClusterError → B → B → Both → Both → Type 0
  Once = IsAskedOnce noted_of handled own keys request

  -- a call by which no node performed the request
  undone_still : (to : Address) (message : Message) (answer : Result Message LinkError) (old new : Both) → message.content ≡ content.Forward keys request
      → undone_send goes noted to message answer old new → new.1 ≡ old.1
  undone_still to message (Err e) old new told ((sent, journey, unmade), undone) = unmade undone
  undone_still to message (Ok m) old new told ((sent, journey, unmade), undone) = go (travels_asks handled keys request n to message (Ok m) old.1 new.1 told journey)
    where
      go : AsksOneAtMost handled keys request (Ok m) old.1 new.1 → new.1 ≡ old.1
      go (inl (same, busy)) = same
      go (inr (one, asked, tells)) = absurd (tells.0 undone)

  fails_still : (failed : List (Sending Sha256Hash)) (old new : Both) → ForwardsOver hash_of (undone_send goes noted) keys request failed old new
      → (new.1 ≡ old.1) × ((noted new).is_repeatable ≡ (noted old).is_repeatable)
  fails_still [] old new same = (ap (λ (l : Both). l.1) same, ap (λ (l : Both). (noted l).is_repeatable) same)
  fails_still ((view, answer) ∷ sends) old new (mid, (owner, owned, other, gone), rest) =
      let (later, kept) = fails_still sends mid new rest in (
        later ∙ undone_still owner (message_from view (content.Forward keys request)) answer old mid refl gone,
        kept ∙ (marks owner (message_from view (content.Forward keys request)) answer old.0 mid.0 gone.0.0).1.0,
      )

  one_more : (one : A × A) (old mid new : Asked A) → mid ≡ old → AsksOne handled keys request one mid new → AsksOne handled keys request one old new
  one_more one old mid new same (grown, asked) = (grown ∙ ap (λ (xs : Asked A). xs ++ one ∷ []) same, asked)

  -- the Forward that ends it
  elsewhere : (r : Result (List ℕ) ClusterError) (was is : B) (old mid new : Both) (to : Address) (message : Message) (answer : Result Message LinkError)
      → message.content ≡ content.Forward keys request → is ≡ was → mid.1 ≡ old.1 → (noted mid).is_repeatable ≡ false
      → goes to message answer mid new → IsResultOf answer r → Once r was is old new
  elsewhere (Ok text) was is old mid new to message answer told unmoved same once (sent, journey, unmade) (reply, replied, says) =
      go (travels_asks handled keys request n to message answer mid.1 new.1 told journey)
    where
      go : AsksOneAtMost handled keys request answer mid.1 new.1 → Once (Ok text) was is old new
      go (inl (still, busy)) = IsAskedOnce.nowhere unmoved (still ∙ same) (subst (SaysBusy) replied busy text says)
      go (inr (one, asked, tells)) =
          IsAskedOnce.there text one unmoved (one_more one old.1 mid.1 new.1 same asked) ((subst (TellsOf handled keys request one) replied tells).1 text says)
  elsewhere (Err error.Memory) was is old mid new to message answer told unmoved same once (sent, journey, unmade) ended =
      go (travels_asks handled keys request n to message answer mid.1 new.1 told journey) (was_made (noted mid).made (noted new).made) refl
    where
      go : AsksOneAtMost handled keys request answer mid.1 new.1 → (made : Bool) → was_made (noted mid).made (noted new).made ≡ made → Once (Err error.Memory) was is old new
      go (inl (still, busy)) made is_made = IsAskedOnce.nowhere unmoved (still ∙ same) tt
      go (inr (one, asked, tells)) false is_made = IsAskedOnce.nowhere unmoved (unmade is_made ∙ same) tt
      go (inr (one, asked, tells)) true is_made =
          IsAskedOnce.unanswered one unmoved (one_more one old.1 mid.1 new.1 same asked)
          (((marks to message answer mid.0 new.0 sent).1.1 once).0
          ∙ or_right (noted mid).is_unsure (is_unsure answer (was_made (noted mid).made (noted new).made))
          (ap (λ (it : Result Message LinkError). is_unsure it (was_made (noted mid).made (noted new).made)) ended ∙ is_made))
  elsewhere (Err e) was is old mid new to message answer told unmoved same once sent ended = absurd ended

  asked_once_in_all : (r : Result (List ℕ) ClusterError) (was is : B) (old new : Both) (acts : List (Act Sha256Hash)) → noted old ≡ unnoted false
      → EndsOnce goes own noted keys request r was is old new acts → Once r was is old new
  asked_once_in_all r was is old new acts fresh (failed, mid, inl (few, (xs, ys, parts, ((part, fails, over), sure), (view, just, inl (owned, (answer, called, same), kept))))) =
      IsAskedOnce.here answer called same (ap (λ (l : Both). l.1) kept ∙ (fails_still failed old mid over).0)
  asked_once_in_all r was is old new acts fresh
      (failed, mid, inl (few, (xs, ys, parts, ((part, fails, over), sure), (view, just, inr (unmoved, (answer, (owner, owned, other, gone), ends)))))) =
      let (same, kept) = fails_still failed old mid over in
      elsewhere r was is old mid new owner (message_from view (content.Forward keys request)) answer refl unmoved same
      (kept ∙ ap (λ (it : Noted). it.is_repeatable) fresh) gone ends
  asked_once_in_all r was is old new acts fresh (failed, mid, inr (why, refused, unmoved, kept, ((part, fails, over), sure))) =
      IsAskedOnce.nowhere unmoved (ap (λ (l : Both). l.1) kept ∙ (fails_still failed old mid over).0)
      (subst (λ (it : Result (List ℕ) ClusterError). IfOk it (λ text. text ≡ busy_text)) (sym refused) tt)

pub requests_ask_one : {L A B : Type 0} (went : Went L) (noted_of : L → Noted) (handled : Handled A) (own : Handled B)
    → ((to : Address) (message : Message) (answer : Result Message LinkError) (old new : L) → went to message answer old new
    → notes_send to message answer (noted_of old) (noted_of new))
    → RequestsAskOne went noted_of handled own
requests_ask_one {L} {A} went noted_of handled own marks n keys request r was is old new acts fresh sent =
    asked_once_in_all went noted_of handled own marks n keys request r was is old new acts fresh
    (requests_end_once (goes_on went noted_of handled n) own (λ (l : L × Asked A). noted_of l.0)
    (λ to message answer one other gone. marks to message answer one.0 other.0 gone.0) keys request r was is old new acts fresh sent)

-- ---- what a client is told

-- the refusal of one that is in doubt
doubtful_is_lost : (over in_doubt : Bool) (limit : Option ℕ) → in_doubt ≡ true → cond (over || in_doubt) (early_refusal in_doubt false limit) None ≡ Some refused.AnswerLost
doubtful_is_lost true true None doubts = refl
doubtful_is_lost true true (Some millis) doubts = refl
doubtful_is_lost false true None doubts = refl
doubtful_is_lost false true (Some millis) doubts = refl
doubtful_is_lost over false limit doubts = absurd (true≢false (sym doubts))

module _ {L A : Type 0} (noted_of : L → Noted) (handled : Handled A) (limit : Option ℕ) (owner : ℕ) (keys : List (List ℕ)) (request : List ℕ)
    (asked : Bool) (old new : L × Asked A) where
  abbrev Told : Outcome → Type 0
  Told = IsTold handled keys request owner asked old.1 new.1

  abbrev Doubts : Type 0
  Doubts = is_in_doubt asked (noted_of new.0) ≡ true

  abbrev Early : Option Refusal → Type 0
  Early ending = Doubts → ending ≡ Some refused.AnswerLost

  -- a text
  told_text : (text : List ℕ) (ending : Option Refusal) (outcome : Outcome) → SettledBy owner ending (Ok text) outcome
      → ((shown : http.Reply) → outcome ≡ Ok shown → shown ≡ page.Handled owner text → Told outcome) → Told outcome
  told_text text None (Ok shown) is so = so shown refl is
  told_text text (Some why) (Ok shown) is so = so shown refl is
  told_text text None (Err why) is so = absurd is
  told_text text (Some early) (Err why) is so = absurd is

  -- no application was asked
  told_none : (ending : Option Refusal) (e : ClusterError) (outcome : Outcome) → SettledBy owner ending (Err e) outcome → asked ≡ false → new.1 ≡ old.1 → Told outcome
  told_none ending e (Err why) is none same = inl (none, same)
  told_none None e (Ok shown) is none same = absurd cc
  told_none (Some why) error.Memory (Ok shown) is none same = absurd cc
  told_none (Some why) e (Ok shown) is none same = absurd cc

  -- it is not known
  told_lost : (ending : Option Refusal) (outcome : Outcome) → Early ending → SettledBy owner ending (Err error.Memory) outcome → Doubts → Told outcome
  told_lost None outcome early is doubts = let lost : None ≡ Some refused.AnswerLost = early doubts in absurd cc
  told_lost (Some lost) (Ok shown) early is doubts = absurd cc
  told_lost (Some lost) (Err why) early is doubts =
      let same : why ≡ lost = (let both : Err why ≡ Err lost = is in cc) in
      inr (inl (same ∙ (let it : Some lost ≡ Some refused.AnswerLost = early doubts in cc)))

  -- the agent's own application failed
  told_failed : (ending : Option Refusal) (outcome : Outcome) → SettledBy owner ending (Err error.HandlerFault) outcome → asked ≡ true → new.1 ≡ old.1 → Told outcome
  told_failed None (Ok shown) is own same = absurd cc
  told_failed (Some early) (Ok shown) is own same = absurd cc
  told_failed None (Err why) is own same = inr (inr ((let both : Err why ≡ Err refused.ApplicationFailed = is in cc), own, same))
  told_failed (Some early) (Err why) is own same = inr (inr ((let both : Err why ≡ Err refused.ApplicationFailed = is in cc), own, same))

  told_here : (answer : Result (List ℕ) HandlerFault) (ending : Option Refusal) (outcome : Outcome) → notes_asking keys request answer false asked → new.1 ≡ old.1
      → Early ending → SettledBy owner ending (result_of_handler answer) outcome → Told outcome
  told_here (Ok text) ending outcome (inl own) same early is =
      told_text text ending outcome is (λ shown ok handles. subst Told (sym ok) (text, handles, inl (own, same)))
  told_here (Ok text) ending outcome (inr (none, over)) same early is = absurd cc
  told_here (Err fault.Failed) ending outcome (inl own) same early is = told_failed ending outcome is own same
  told_here (Err fault.Failed) ending outcome (inr (none, over)) same early is = absurd cc
  told_here (Err fault.Memory) ending outcome (inl own) same early is =
      told_lost ending outcome early is (or_right (noted_of new.0).is_unsure asked own)
  told_here (Err fault.Memory) ending outcome (inr (none, over)) same early is = told_none ending error.Memory outcome is none same

  told_nowhere : (r : Result (List ℕ) ClusterError) (ending : Option Refusal) (outcome : Outcome) → asked ≡ false → new.1 ≡ old.1 → IfOk r (λ text. text ≡ busy_text)
      → SettledBy owner ending r outcome → Told outcome
  told_nowhere (Ok text) ending outcome none same busy is =
      told_text text ending outcome is (λ shown ok handles. subst Told (sym ok) (text, handles, inr (inr (none, same, busy))))
  told_nowhere (Err e) ending outcome none same busy is = told_none ending e outcome is none same

  told_so : (r : Result (List ℕ) ClusterError) (ending : Option Refusal) (outcome : Outcome) → IsAskedOnce noted_of handled notes_asking keys request r false asked old new
      → Early ending → SettledBy owner ending r outcome → Told outcome
  told_so r ending outcome (IsAskedOnce.here answer called gives same) early is =
      told_here answer ending outcome called same early (subst (λ (it : Result (List ℕ) ClusterError). SettledBy owner ending it outcome) gives is)
  told_so r ending outcome (IsAskedOnce.there text one none more given) early is =
      told_text text ending outcome is (λ shown ok handles. subst Told (sym ok) (text, handles, inr (inl (none, (one, more, given)))))
  told_so r ending outcome (IsAskedOnce.nowhere none same busy) early is = told_nowhere r ending outcome none same busy is
  told_so r ending outcome (IsAskedOnce.unanswered one none more doubt) early is =
      told_lost ending outcome early is (ap (λ (unsure : Bool). unsure || asked) doubt)

pub clients_are_told : {L A : Type 0} (went : Went L) (noted_of : L → Noted) (handled : Handled A)
    → ((to : Address) (message : Message) (answer : Result Message LinkError) (old new : L) → went to message answer old new
    → notes_send to message answer (noted_of old) (noted_of new))
    → ClientsAreTold went noted_of handled
clients_are_told went noted_of handled marks n limit owner keys request r asked old new over outcome acts fresh sent is =
    told_so noted_of handled limit owner keys request asked old new r (ending_of over false limit asked (noted_of new.0)) outcome
    (requests_ask_one went noted_of handled notes_asking marks n keys request r false asked old new acts fresh sent)
    (doubtful_is_lost over (is_in_doubt asked (noted_of new.0)) limit) is

-- ---- the two ends of a connection

pub ends_meet : {L A B : Type 0} (went : Went L) (noted_of : L → Noted) (handled : Handled A) (own : Handled B) → EndsMeet went noted_of handled own
ends_meet went noted_of handled own n keys request text view to reply sent state old new mid was is calling owned other made goes served alone grown items told =
    let journey : travels handled (suc n) to (message_from view (content.Forward keys request)) (Ok reply) old.1 new.1 =
    inr (Some sent, (sent, refl, items), inl (mid, was, is, calling, served, alone, grown)) in (
      0,
      omega arith,
      (
        old,
        (
          [],
          looked (Ok view) ∷ [],
          refl,
          Failed.is_over,
          EndsBy.by_owner view (Ok reply) refl (to, owned, other, (goes, journey, λ none. absurd (true≢false (sym made ∙ none)))) (reply, refl, told),
        ),
      ),
    )
