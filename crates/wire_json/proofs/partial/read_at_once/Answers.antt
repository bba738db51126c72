use Rattle.std.proofs.Common.{◌≡◌, [], ◌∷◌, ◌++◌, string_bytes, sym, ap, ◌∙◌, subst, append_assoc}
use Rattle.std.specs.List.Sorted.{IsStrictlySortedBy}
use Rattle.std.specs.Map.{keys_of}
use Rattle.std.specs.String.{string_cmp}
use Rattle.serde_json.specs.View.{view, members_view}
use Rattle.serde_json.specs.Data.{put}
use Rattle.serde_json.proofs.Views.{Entry, put_last}
use Rattle.wire_json.specs.Partial.{IsReadOf}
use Rattle.wire_json.proofs.partial.read_at_once.Goals as goal

-- the names ascend, so the next field is put last
pub loop-name-preserved : goal.loop-name-preserved
loop-name-preserved c =
    let done = c.loop-name.invariant.0 in
    let e : Entry = (c.in-Some.name.now, c.in-Some.value.now) in
    let left = c.next.new.self in
    let all : c.args.fields.now.entries ≡ done ++ e ∷ left = c.loop-name.invariant.1 ∙ ap (λ es. done ++ es) c.in-Some.ensures.steps in
    let last = put_last done e left (subst (λ es. IsStrictlySortedBy string_cmp (keys_of es)) all c.iter-name-items.ensures.ordered) in
    let named : c.as_str.result.now ≡ string_bytes e.0 = c.as_str.ensures.value in
    let read = c.in_ok-read.ensures (members_view done) c.loop-name.invariant.2 in (
      done ++ e ∷ [],
      all ∙ sym (append_assoc done (e ∷ []) left),
      subst (λ ms. IsReadOf ms c.read.new.self) (ap (λ k. put k (view e.1) (members_view done)) named ∙ last) read,
    )
