use Rattle.std.proofs.Common.{◌≡◌, ◌≤◌, ◌++◌, length}
use Rattle.change_core.specs.Printing.{upto}
use Rattle.change_core.proofs.PrefixNumbers.{scan}
use Rattle.change_core.proofs.decimals.read_front.Given as goal

-- the number so far is that of the digits so far, and what is read of the rest is what is read of all
abbrev pub invariant-digits : goal.invariant-digits
invariant-digits l = record {
  few : l.number ≤ l.most;
  text : l.bytes ≡ upto l.number ++ l.rest;
  left : scan l.most 0 l.bytes ≡ scan l.most l.number l.rest;
}

abbrev pub decreases-digits : goal.decreases-digits
decreases-digits l = length l.rest
