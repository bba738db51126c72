-- The table of members, for eyes.
use Rattle.std.specs.Prelude.{ℕ, ◌+◌, ◌*◌, ◌/◌, ◌%◌, ◌-◌, ◌^◌, ◌==◌, ◌||◌, false, List, [], ◌∷◌, ◌++◌, codes, if◌then◌else◌}
use Rattle.std.specs.Fmt.{decimal, format_spec, padded, padded_integral}
use Rattle.std.specs.List.{flat_map, sum_by}
use Rattle.change_core.specs.declared.changes.Change.{Change}
use Rattle.change_core.specs.Address.{address_text}
use Rattle.change_core.specs.Status.{is_serving, status_word}

-- a text, and spaces behind it up to this width
abbrev pub column : ℕ → List ℕ → List ℕ
column width text = padded (format_spec 32 1 0 width (2 ^ 64 - 1)) text

-- so for a number
abbrev pub number_column : ℕ → ℕ → List ℕ
number_column width n = padded_integral (format_spec 32 1 0 width (2 ^ 64 - 1)) false [] (decimal n)

-- the weight with which a member serves, 0 if it does not
abbrev pub served_weight : Change → ℕ
served_weight member = if is_serving member.status then member.weight else 0

-- the weights with which members serve, added up
abbrev pub total_weight : List Change → ℕ
total_weight members = sum_by served_weight members

-- the share that this weight has of a total, in percent with one decimal, rounded down; `-` for none
abbrev pub share_text : ℕ → ℕ → List ℕ
share_text weight total =
    if weight == 0 || total == 0
    then codes "-"
    else let thousandths = weight * 1000 / total in decimal (thousandths / 10) ++ (46 ∷ (decimal (thousandths % 10) ++ codes " %"))

-- a member's address, status, incarnation, weight and share, behind a newline
abbrev pub member_row : ℕ → Change → List ℕ
member_row total member =
    10 ∷ (column 21 (address_text member.address) ++ (32 ∷ (column 9 (status_word member.status) ++ (32 ∷ (number_column 16 member.incarnation
    ++ (32 ∷ (number_column 6 member.weight ++ (32 ∷ share_text (served_weight member) total))))))))

-- the names of the columns, and a row for each member
abbrev pub table_text : List Change → List ℕ
table_text members =
    (codes "ADDRESS               STATUS    INCARNATION      WEIGHT SHARE" ++ flat_map (member_row (total_weight members)) members) ++ 10 ∷ []
