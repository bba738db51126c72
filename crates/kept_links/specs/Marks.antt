-- The mark of a line whose sender keeps the connection.
use Rattle.std.specs.Prelude.{◌≡◌, ◌≢◌, Bool, ℕ, List, [], ◌∷◌, ◌++◌, All}
use Rattle.kept_links.specs.declared.marks.Marked.{Marked}

-- a line with the mark
abbrev pub marked_text : List ℕ → List ℕ
marked_text line = line ++ 32 ∷ []

-- bytes are the end of a marked line and its newline, and no other newline is in them
abbrev pub IsMarked : List ℕ → Type 0
IsMarked bytes = (line : List ℕ) × (bytes ≡ line ++ 32 ∷ 10 ∷ []) × All (λ x. x ≢ 10) line

-- the stream below one that notes the mark
abbrev pub inner_of : {S : Type 0} → Marked S → S
inner_of marked = marked.stream

-- whether a stream notes that the line read last is marked
abbrev pub notes_mark : {S : Type 0} → Marked S → Bool
notes_mark marked = marked.is_marked
