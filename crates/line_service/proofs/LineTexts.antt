-- The lines of two answers to a request are one only if their contents are.
use Rattle.std.proofs.Common.{◌≡◌, ◌∙◌, ℕ, List, [], ◌∷◌, ◌++◌, Some, ap, append_assoc, arith, drop, get_or, sym}
use Rattle.json.specs.Print.{escape, escape_byte}
use Rattle.json.specs.Text as text
use Rattle.json.proofs.Printed.Strings.{content-escape}
use Rattle.message_core.specs.declared.kinds.Reason.{Reason}
use Rattle.message_core.specs.declared.messages.Content.{Content}
use Rattle.message_core.specs.declared.messages.Content.TheVariants as content
use Rattle.message_core.specs.declared.messages.Message.{Message}
use Rattle.line_service.specs.Answering.{line_text}

abbrev told : ℕ → ℕ → Content → Message
told a i it = record { source = a; source_incarnation = i; content = it }

-- the line of a message with this content
line_of : (m : Message) (it : Content) → m.content ≡ it → line_text m ≡ line_text (told m.source m.source_incarnation it)
line_of m it is = ap (λ (c : Content). line_text (told m.source m.source_incarnation c)) is

-- the string at the head of a text
string_at : (t u r s : List ℕ) → (escape t ++ 34 ∷ []) ++ r ≡ (escape u ++ 34 ∷ []) ++ s → t ≡ u
string_at t u r s same =
    let one : text.content text.plain (escape t ++ 34 ∷ r) ≡ text.content text.plain (escape u ++ 34 ∷ s) =
    ap (text.content text.plain) (sym (append_assoc (escape t) (34 ∷ []) r) ∙ (same ∙ append_assoc (escape u) (34 ∷ []) s)) in
    let some : Some t ≡ Some u = sym (content-escape t r) ∙ (one ∙ content-escape u s) in cc

reply_apart : ◌≡◌ {A = ℕ} 98 107 → ⊥
reply_apart same = omega arith

owner_apart : ◌≡◌ {A = ℕ} 110 114 → ⊥
owner_apart same = omega arith

module _ (m n : Message) (same : line_text m ≡ line_text n) where
  as_told : (it that : Content) → m.content ≡ it → n.content ≡ that
      → line_text (told m.source m.source_incarnation it) ≡ line_text (told n.source n.source_incarnation that)
  as_told it that is are = sym (line_of m it is) ∙ (same ∙ line_of n that are)

  pub one_reply : (t u : List ℕ) → m.content ≡ content.Reply t → n.content ≡ content.Reply u → t ≡ u
  unfolding escape_byte
  one_reply t u is are = string_at t u _ _ (ap (drop 9) (as_told (content.Reply t) (content.Reply u) is are))

  pub reply_not_owner : (t : List ℕ) → m.content ≡ content.Reply t → n.content ≡ content.NotOwner → ⊥
  unfolding escape_byte
  reply_not_owner t is are =
      reply_apart (ap (λ (l : List ℕ). get_or l 2 0) (as_told (content.Reply t) content.NotOwner is are))

  pub reply_not_refused : (t : List ℕ) (why : Reason) → m.content ≡ content.Reply t → n.content ≡ content.Refused why → ⊥
  unfolding escape_byte
  reply_not_refused t why is are =
      reply_apart (ap (λ (l : List ℕ). get_or l 2 0) (as_told (content.Reply t) (content.Refused why) is are))

  pub not_owner_not_refused : (why : Reason) → m.content ≡ content.NotOwner → n.content ≡ content.Refused why → ⊥
  unfolding escape_byte
  not_owner_not_refused why is are =
      owner_apart (ap (λ (l : List ℕ). get_or l 9 0) (as_told content.NotOwner (content.Refused why) is are))
