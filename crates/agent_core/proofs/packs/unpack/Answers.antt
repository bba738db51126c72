use Rattle.std.proofs.Common.{arith}
use Rattle.std.proofs.lemmas.Str.{IsCharBoundary-after_ascii}
use Rattle.agent_core.proofs.packs.unpack.Goals as goal

pub split_at-requires : goal.split_at-requires
split_at-requires c =
    let space = rw c.as_bytes.ensures.value at c.in-Some.ensures.space in
    IsCharBoundary-after_ascii c.args.text.now 4 c.utf8.text space.0 (omega arith)
