use Rattle.std.proofs.Common.{string_bytes}
use Rattle.agent_core.proofs.Growing.{grown}
use Rattle.agent_core.proofs.samples.push_buckets.Goals as goal

pub returns : goal.returns
returns c =
    let text = string_bytes c.args.text.now in
    let a0 = c.in_ok-push_bucket.ensures in
    let a1 = grown text _ _ _ _ a0 c.in_ok-push_bucket-2.ensures in
    let a2 = grown text _ _ _ _ a1 c.in_ok-push_bucket-3.ensures in
    let a3 = grown text _ _ _ _ a2 c.in_ok-push_bucket-4.ensures in
    let a4 = grown text _ _ _ _ a3 c.in_ok-push_bucket-5.ensures in
    let a5 = grown text _ _ _ _ a4 c.in_ok-push_bucket-6.ensures in
    let a6 = grown text _ _ _ _ a5 c.in_ok-push_bucket-7.ensures in
    let a7 = grown text _ _ _ _ a6 c.in_ok-push_bucket-8.ensures in
    let a8 = grown text _ _ _ _ a7 c.in_ok-push_bucket-9.ensures in
    let a9 = grown text _ _ _ _ a8 c.in_ok-push_bucket-10.ensures in
    let a10 = grown text _ _ _ _ a9 c.in_ok-push_bucket-11.ensures in
    grown text _ _ _ _ a10 c.in_ok-push_bucket-12.ensures
