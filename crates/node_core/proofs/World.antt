-- Every run of the world tells the truth.
use Rattle.std.proofs.Common.{◌≡◌, ◌≢◌, ℕ, ◌<◌, Bool, true, false, cond, eqb, List, [], ◌∷◌, ◌++◌, Option, Some, None, refl, sym, ◌∙◌, ap, subst, inl, inr}
use Rattle.std.proofs.lemmas.Bool.{eqb-true, eqb-false, eq-eqb}
use Rattle.change_core.specs.declared.changes.Change.{Change}
use Rattle.change_core.specs.declared.changes.Sourced.{Sourced}
use Rattle.change_core.specs.Members.{greatest}
use Rattle.change_core.proofs.Members.{members-IsMemberList}
use Rattle.node_core.specs.declared.configs.Config.{Config}
use Rattle.node_core.specs.declared.events.Event.{Event}
use Rattle.node_core.specs.declared.events.Reply.{Reply}
use Rattle.rand_pcg.specs.Lcg.{Lcg}
use Rattle.gossip_core.specs.declared.pending.Pending.{Pending}
use Rattle.message_core.specs.declared.messages.Message.{Message}
use Rattle.node_core.specs.Node.{Node, birth, asserted_by, asserts}
use Rattle.gossip_core.specs.Pending.{fresh}
use Rattle.node_core.specs.Run.{given_in}
use Rattle.node_core.specs.Step.{NodeStep}
use Rattle.change_core.specs.Ascending.{In}
use Rattle.change_core.proofs.Order.{in_append_left, in_append_right, in_append}
use Rattle.node_core.specs.World.{World, WorldEvent, Starts, Restarts, Calls, WorldsAreTrue, IsTrueWorld, IsTrueNews, Comes, MayHappen, MayAllHappen, happens, world_after, nothing, initial_node, placed_at, begins, called, IsGrounded, last_about, later, refuted_in, renewed_in, asserted_in, made_in}
use Rattle.node_core.proofs.Following.{Follows-step}
use Rattle.node_core.proofs.Sound.{IsSound, IsTold, news-more, at-more, at-grounded, last-append, last-one, sound-more}
use Rattle.node_core.proofs.Steps.{IsSoundMessage, StepIsSound, step_sound, refuted_in-own}

pub record IsSoundWorld {H : Type 0} (w : World H) : Type 0 where
  pub there : (a : ℕ) (node : Node H) → w.nodes a ≡ Some node → (node.own ≡ a) × IsSound w.asserted node
  pub absent : (a : ℕ) → w.nodes a ≡ None → (d : Change) → In d w.asserted → d.address ≢ a
  pub told : (m : Message) → In m w.messages → IsSoundMessage w.asserted m
  pub asserting : (d : Change) → In d w.asserted → asserts d.status ≡ true

told-more : (A B : List Change) (m : Message) → IsSoundMessage A m → IsSoundMessage (A ++ B) m
told-more A B m h = record {
  source = at-more A (A ++ B) m.source m.source_incarnation (λ d k. in_append_left d A B k) h.source;
  news = λ s k. news-more A (A ++ B) s (λ d j. in_append_left d A B j) (h.news s k);
}

-- a node is put at its address, and what was asserted meanwhile was asserted by it
placed_sound : {H : Type 0} (w : World H) (own : ℕ) (node : Node H) (B : List Change) (ms : List Message) → IsSoundWorld w
    → node.own ≡ own → IsSound (w.asserted ++ B) node → ((d : Change) → In d B → d.address ≡ own)
    → ((m : Message) → In m ms → IsSoundMessage (w.asserted ++ B) m)
    → IsSoundWorld (record { nodes = placed_at own node w.nodes; messages = w.messages ++ ms; asserted = w.asserted ++ B })
placed_sound {H} w own node B ms sound about s mine made = record {
  there = λ a n e. by_address a n (eqb a own) refl e;
  absent = λ a e. by_absence a (eqb a own) refl e;
  told = λ m h. elim (in_append m w.messages ms h) [ inl k ↦ told-more w.asserted B m (sound.told m k) | inr k ↦ made m k ];
  asserting = s.asserting;
}
  where
    by_address : (a : ℕ) (n : Node H) (b : Bool) → eqb a own ≡ b → cond b (Some node) (w.nodes a) ≡ Some n → (n.own ≡ a) × IsSound (w.asserted ++ B) n
    by_address a n true t e =
        let same : node ≡ n = cc in
        (ap (λ (x : Node H). x.own) (sym same) ∙ about ∙ sym (eqb-true a own t), subst (λ (x : Node H). IsSound (w.asserted ++ B) x) same s)
    by_address a n false t e =
        let old = sound.there a n e in
        (old.0, sound-more w.asserted B n old.1 (λ d h k. eqb-false a own t (sym old.0 ∙ sym k ∙ mine d h)) (λ d h. s.asserting d (in_append_right d w.asserted B h)))

    by_absence : (a : ℕ) (b : Bool) → eqb a own ≡ b → cond b (Some node) (w.nodes a) ≡ None → (d : Change) → In d (w.asserted ++ B) → d.address ≢ a
    by_absence a true t e d h k = cc
    by_absence a false t e d h k =
        elim (in_append d w.asserted B h) [ inl j ↦ sound.absent a e d j k | inr j ↦ eqb-false a own t (sym k ∙ mine d j) ]

module _ {H : Type 0} (A : List Change) (hash : H) (config : Config) (own incarnation moment : ℕ) (generator : Lcg)
    (past : (c : Change) → In c A → c.address ≡ own → c.incarnation < incarnation) (asserting : (d : Change) → In d A → asserts d.status ≡ true) where
  -- a node that begins past all that its address has asserted
  initial_node_sound : IsSound (A ++ birth own incarnation config.weight ∷ []) (initial_node hash config own incarnation moment generator)
  initial_node_sound = record {
    settled = members-IsMemberList (birth own incarnation config.weight ∷ []) (tt, tt);
    held = birth own incarnation config.weight;
    held_is = ap (λ b. cond b (Some (birth own incarnation config.weight)) None) (eq-eqb own own refl);
    last_is = last-append own A (birth own incarnation config.weight ∷ []) ∙ ap (λ o. later o (last_about own A)) (last-one own (birth own incarnation config.weight) refl);
    above = λ d h e. elim (in_append d A (birth own incarnation config.weight ∷ []) h) [ inl k ↦ inr (inl (past d k e)) | inr k ↦ inl (of_one d k) ];
    asserting = λ d h. elim (in_append d A (birth own incarnation config.weight ∷ []) h) [ inl k ↦ asserting d k | inr k ↦ ap (λ (c : Change). asserts c.status) (of_one d k) ];
    grounded = λ c h. subst (λ (x : Change). IsGrounded (A ++ birth own incarnation config.weight ∷ []) x) (sym (of_one c h)) here;
    news = λ p h. of_pending p h;
    others = λ p e. cc;
    timed = λ t h. absurd h;
  }
    where
      of_one : (d : Change) → In d (birth own incarnation config.weight ∷ []) → d ≡ birth own incarnation config.weight
      of_one d (inl e) = e
      of_one d (inr k) = absurd k

      here : In (birth own incarnation config.weight) (A ++ birth own incarnation config.weight ∷ [])
      here = in_append_right (birth own incarnation config.weight) A (birth own incarnation config.weight ∷ []) (inl refl)

      of_pending : (p : Pending) → In p (fresh (asserted_by own (birth own incarnation config.weight)) ∷ []) → IsTold (A ++ birth own incarnation config.weight ∷ []) p.sourced
      of_pending p (inl e) = subst (λ (x : Pending). IsTold (A ++ birth own incarnation config.weight ∷ []) x.sourced) (sym e) (record { grounded = here; source = (birth own incarnation config.weight, here, refl, refl) })
      of_pending p (inr k) = absurd k

begins_sound : {H : Type 0} (w : World H) (hash : H) (config : Config) (own incarnation moment : ℕ) (generator : Lcg) → IsSoundWorld w
    → ((c : Change) → In c w.asserted → c.address ≡ own → c.incarnation < incarnation) → IsSoundWorld (begins w hash config own incarnation moment generator)
begins_sound {H} w hash config own incarnation moment generator sound past =
    let s = placed_sound w own (initial_node hash config own incarnation moment generator) (birth own incarnation config.weight ∷ []) [] sound refl
    (initial_node_sound w.asserted hash config own incarnation moment generator past sound.asserting) (λ d h. of_one d h) (λ m h. absurd h) in
    record { there = s.there; absent = s.absent; told = λ m h. told-more w.asserted (birth own incarnation config.weight ∷ []) m (sound.told m h); asserting = s.asserting }
  where
    of_one : (d : Change) → In d (birth own incarnation config.weight ∷ []) → d.address ≡ own
    of_one d (inl e) = ap (λ (c : Change). c.address) e
    of_one d (inr k) = absurd k

module _ {H : Type 0} (hash_of : H → List ℕ → ℕ) where
  calls_sound : (w : World H) (own : ℕ) (event : Event) (reply : Reply) (after before : Node H) → IsSoundWorld w → w.nodes own ≡ Some before → Comes w.messages event
      → NodeStep hash_of before event reply after → IsSoundWorld (called w (Some before) own event reply after)
  calls_sound w own event reply after before sound e comes step =
      let old = sound.there own before e in
      let s : StepIsSound w.asserted before event reply after = step_sound w.asserted before old.1 hash_of w.messages event reply after sound.told comes step in
      let f = Follows-step hash_of before old.1.settled event reply after step in
      placed_sound w own after (asserted_in before event reply) (made_in reply) sound (f.own_is ∙ old.0) s.node
      (λ d h. elim (in_append d (refuted_in before.own before.members (given_in event reply)) (renewed_in reply) h) [
        | inl k ↦ refuted_in-own before.own before.members (given_in event reply) d k ∙ old.0
        | inr k ↦ s.renewed d k ∙ old.0
      ])
      s.made

  happens_sound : (w : World H) (e : WorldEvent H) → IsSoundWorld w → MayHappen hash_of w e → IsSoundWorld (happens w e)
  happens_sound w (Starts hash config own incarnation moment generator) sound may =
      begins_sound w hash config own incarnation moment generator sound (λ c h k. absurd (sound.absent own may c h k))
  happens_sound w (Restarts hash config own incarnation moment generator) sound may = begins_sound w hash config own incarnation moment generator sound may
  happens_sound w (Calls own event reply after) sound may =
      subst (λ (o : Option (Node H)). IsSoundWorld (called w o own event reply after)) (sym may.1) (calls_sound w own event reply after may.0 sound may.1 may.2 may.3)

  all_sound : (w : World H) (events : List (WorldEvent H)) → IsSoundWorld w → MayAllHappen hash_of w events → IsSoundWorld (world_after w events)
  all_sound w [] sound may = sound
  all_sound w (e ∷ es) sound may = all_sound (happens w e) es (happens_sound w e sound may.0) may.1

nothing_sound : {H : Type 0} → IsSoundWorld (nothing {H = H})
nothing_sound = record { there = λ a n e. cc; absent = λ a e d h. absurd h; told = λ m h. absurd h; asserting = λ d h. absurd h }

true_news : (A : List Change) (s : Sourced) → IsTold A s → IsTrueNews A s
true_news A s h = record { entry = record { incarnation = at-grounded A s.change h.grounded; grounded = h.grounded }; source = h.source }

true_from_sound : {H : Type 0} (w : World H) → IsSoundWorld w → IsTrueWorld w
true_from_sound {H} w sound = record {
  nodes = λ a node e.
      let s = sound.there a node e in
      record {
        entries = λ c h. record { incarnation = at-grounded w.asserted c (s.1.grounded c h); grounded = s.1.grounded c h };
        passed_on = λ p h. true_news w.asserted p.sourced (s.1.news p h);
        timed = s.1.timed;
        is_own = s.0;
        itself = subst (λ (x : ℕ). greatest node.members x ≡ last_about x w.asserted) s.0 (s.1.held_is ∙ sym s.1.last_is);
      };
  messages = λ m h. record { source = (sound.told m h).source; changes = λ s k. true_news w.asserted s ((sound.told m h).news s k) };
}

pub worlds_are_true : {H : Type 0} (hash_of : H → List ℕ → ℕ) → WorldsAreTrue hash_of
worlds_are_true hash_of events may = true_from_sound (world_after nothing events) (all_sound hash_of nothing events nothing_sound may)
