-- The membership that a running node answers to a join, and its text.
use Rattle.std.specs.Prelude.{◌≡◌, ◌⊎◌, ℕ, List, [], ◌∷◌, ◌++◌, map, replicate, Option, Ok, Err}
use Rattle.std.specs.List.{flat_map}
use Rattle.std.specs.Io.KnownBytes.{Appends, Keeps}
use Rattle.serde_json.specs.Written.{compact_text}
use Rattle.sha2.specs.Sha256.{sha256}
use Rattle.change_core.specs.declared.addresses.Address.{Address}
use Rattle.change_core.specs.declared.changes.Change.{Change}
use Rattle.change_core.specs.declared.changes.Sourced.{Sourced}
use Rattle.change_core.specs.Members.{digest_text, members}
use Rattle.wire_json.specs.Forms.{change_data}
use Rattle.wire_json.specs.Input.{AppendsPrefix}
use Rattle.message_core.specs.declared.messages.Content.{Content}
use Rattle.message_core.specs.declared.messages.Content.TheVariants as content
use Rattle.message_core.specs.declared.messages.News.{News}
use Rattle.cli_core.specs.Changes.{change_of}
use Rattle.cli_core.specs.Fold.{fold_text}
use Rattle.cli_core.specs.Table.{table_text}
use Rattle.cli_core.specs.declared.words.MembersForm.{MembersForm}
use Rattle.cli_core.specs.declared.words.MembersForm.TheVariants.{Digest, Lines, Table}
use Rattle.peer_core.specs.Links.{MayAnswer}
use Rattle.cli_net.specs.Asking.{Asked}
use Rattle.cli_net.specs.declared.faults.AskError.{AskError}
use Rattle.cli_net.specs.declared.faults.AskError.TheVariants as fault

-- a Join with these changes, and with a checksum of zeros, which no node reads
abbrev pub joining_with : List Sourced → Content
joining_with changes = content.Join (record { checksum = record { bytes = replicate 32 0 }; changes = changes })

-- the members in such an answer
abbrev pub told_members : News → List Change
told_members news = members (map change_of news.changes)

-- the digest in the answer is that of its members
abbrev pub IsWhole : News → Type 0
IsWhole news = news.checksum.bytes ≡ sha256 (digest_text (told_members news))

-- this is the answer to a join with these changes
abbrev pub IsTold : MayAnswer → Address → List Sourced → News → Type 0
IsTold May to changes news = Asked May to (joining_with changes) (Ok (content.Joined news))

-- this membership is the answer to a join with these changes, and it has its own digest
abbrev pub IsSeen : MayAnswer → Address → List Sourced → News → Type 0
IsSeen May to changes news = IsTold May to changes news × IsWhole news

-- a content that answers no Join
abbrev pub IsNoWelcome : Content → Type 0
IsNoWelcome (content.Join news) = Unit {0}
IsNoWelcome (content.Ping news) = Unit {0}
IsNoWelcome (content.Ack news) = Unit {0}
IsNoWelcome (content.PingReq news target) = Unit {0}
IsNoWelcome (content.PingReqAck news target reached) = Unit {0}
IsNoWelcome (content.Forward keys body) = Unit {0}
IsNoWelcome (content.Reply text) = Unit {0}
IsNoWelcome content.NotOwner = Unit {0}
IsNoWelcome other = ⊥

-- the error of a join without a membership; it is out of memory only if the link was
abbrev pub IsNotTold : MayAnswer → Address → List Sourced → AskError → Type 0
IsNotTold May to changes (fault.Refused reason) = Asked May to (joining_with changes) (Ok (content.Refused reason))
IsNotTold May to changes fault.Unexpected = (other : Content) × Asked May to (joining_with changes) (Ok other) × IsNoWelcome other
IsNotTold May to changes fault.NoAnswer = Asked May to (joining_with changes) (Err fault.NoAnswer)
IsNotTold May to changes fault.OutOfMemory = Asked May to (joining_with changes) (Err fault.OutOfMemory)
IsNotTold May to changes fault.NotOwner = ⊥
IsNotTold May to changes fault.CannotWrite = ⊥

-- the error if no membership was seen: none came; or one did, and its digest is another, or out of memory to see that
abbrev pub IsNotSeen : MayAnswer → Address → List Sourced → AskError → Type 0
IsNotSeen May to changes fault.Unexpected =
    IsNotTold May to changes fault.Unexpected ⊎ ((news : News) × IsTold May to changes news × (IsWhole news → ⊥))
IsNotSeen May to changes fault.OutOfMemory = IsNotTold May to changes fault.OutOfMemory ⊎ ((news : News) × IsTold May to changes news)
IsNotSeen May to changes other = IsNotTold May to changes other

-- a change's line
abbrev pub change_line : Sourced → List ℕ
change_line change = compact_text (change_data change) ++ 10 ∷ []

-- the output for a membership: a line for each change as it came, or a table of the members, or the text of `fold`
abbrev pub membership_text : MembersForm → News → List ℕ
membership_text Lines news = flat_map change_line news.changes
membership_text Table news = table_text (told_members news)
membership_text Digest news = fold_text (told_members news)

-- the part of a text that is written at an error: none if out of memory, a prefix of it if the writer failed
abbrev pub LeavesText : List ℕ → AskError → Option (List ℕ) → Option (List ℕ) → Type 0
LeavesText text fault.CannotWrite old new = AppendsPrefix old new text
LeavesText text fault.OutOfMemory old new = Keeps old new
LeavesText text other old new = ⊥

module _ (May : MayAnswer) (to : Address) (changes : List Sourced) (text : News → List ℕ) where
  -- a join with these changes got a membership, and this text of it is written
  abbrev pub WritesSeen : Option (List ℕ) → Option (List ℕ) → Type 0
  WritesSeen old new = (news : News) × IsSeen May to changes news × Appends old new (text news)

  -- the output at an error: a prefix of that text if one came and the writer failed, else none
  abbrev pub IsUnwritten : AskError → Option (List ℕ) → Option (List ℕ) → Type 0
  IsUnwritten fault.CannotWrite old new = (news : News) × IsSeen May to changes news × AppendsPrefix old new (text news)
  IsUnwritten other old new = IsNotSeen May to changes other × Keeps old new
