-- Numbers as they are printed, digit by digit.
use Rattle.std.specs.Prelude.{ℕ, zero, suc, decimal, List, []}

-- a number's digits; 0 has none
abbrev pub upto : ℕ → List ℕ
upto zero = []
upto (suc n) = decimal (suc n)
