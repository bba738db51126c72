-- Lines that come and go in parts over the connections of other nodes.
use Rattle.std.specs.Prelude.{Bool, ℕ, List, drop, length, ◌==◌, ◌||◌, nat_lt}
use Rattle.std.specs.List.{list_any}
use Rattle.wire_json.specs.Lines.{max_line}
use Rattle.line_service.specs.declared.answers.Answer.{Answer}

-- bytes have a newline
abbrev pub has_newline : List ℕ → Bool
has_newline bytes = list_any (λ b. b == 10) bytes

-- a line with these bytes at its end is over, if it was not before: it is longer than a line may be, or they have a newline
abbrev pub is_over_with : List ℕ → List ℕ → Bool
is_over_with line came = nat_lt max_line (length line) || has_newline came

-- a line is over: it is longer than a line may be, or has a newline
abbrev pub is_over : List ℕ → Bool
is_over line = is_over_with line line

-- what is left to be written of an answer
abbrev pub left_of : Answer → List ℕ
left_of answer = drop answer.written answer.line.items
