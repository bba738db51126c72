use Rattle.std.proofs.Common.{◌≡◌, List, ◌++◌}
use Rattle.serde_json.specs.View.{members_view}
use Rattle.serde_json.proofs.Views.{Entry}
use Rattle.wire_json.specs.Partial.{IsReadOf}
use Rattle.wire_json.proofs.partial.read_at_once.Given as goal

abbrev pub invariant-loop-name : goal.invariant-loop-name
invariant-loop-name l =
    (done : List Entry) × (l.fields.entries ≡ done ++ l.name-iterator) × IsReadOf (members_view done) l.change
