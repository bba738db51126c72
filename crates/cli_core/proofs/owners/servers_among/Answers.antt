use Rattle.std.proofs.Common.{◌≡◌, true, ◌++◌, ◌∷◌, [], ◌∙◌, ap, sym, take, arith}
use Rattle.std.proofs.lemmas.List.{take_all}
use Rattle.change_core.specs.Status.{is_serving}
use Rattle.hash_ring.specs.Serving.{server_of}
use Rattle.cli_core.proofs.RingServers.{listed, listed-members, listed-more, listed-passed, is_serving-yes, is_serving-no}
use Rattle.cli_core.proofs.owners.servers_among.Goals as goal
use Rattle.cli_core.proofs.owners.servers_among.Goals.{then-serving, else-serving}

pub members-preserved : goal.members-preserved
members-preserved c =
    let all = c.args.members.now in
    let member = c.member-item.result in
    elim c.if-serving.branch [
      | then-serving w ↦
          let serving : is_serving member.status ≡ true = is_serving-yes member.status (c.serving.ensures.0 w.if-serving.true) in
          rw w.servers-is record {
            so_far = w.push_reserved.ensures.items ∙ ap (λ ss. ss ++ server_of member ∷ []) c.members.invariant.so_far
                ∙ listed-more all c.members.member-index member (omega arith) c.member-item.is serving;
            few = omega (arith, w.push_reserved.ensures.len, c.members.invariant.few);
            roomy = omega (arith, w.push_reserved.ensures.capacity, c.members.invariant.roomy);
          }
      | else-serving w ↦ rw w.servers-is record {
        so_far = c.members.invariant.so_far ∙ listed-passed all c.members.member-index member (omega arith) c.member-item.is (is_serving-no member.status (λ h. absurd (cc (sym (c.serving.ensures.1 h) ∙ w.if-serving.false))));
        few = omega (arith, c.members.invariant.few);
        roomy = c.members.invariant.roomy;
      }
    ]

pub returns-clause-servers : goal.returns-clause-servers
returns-clause-servers c =
    let all = c.args.members.now in
    λ m.
    let whole : take c.members.member-index all ≡ all = take_all c.members.member-index all (omega (arith, c.members-test.false)) in
    c.members.invariant.so_far ∙ ap listed whole ∙ listed-members all m
