use Rattle.std.proofs.Common.{inl, refl}
use Rattle.ringpop_c.proofs.Sent.{sent}
use Rattle.ringpop_c.proofs.buffers.send.Goals as goal

-- src/buffers.rt:47:1
pub returns-in-Ok-clause-line : goal.returns-in-Ok-clause-line
returns-in-Ok-clause-line c =
    inl (
      refl,
      sent c.args.message.now c.in-Ok.line.items c.as_slice.result.now _ c.in-Ok.ensures.text c.in-Ok.ensures.line
          c.in-Ok.ensures.one_line c.as_slice.ensures.value c.put.ensures,
    )
