use Rattle.std.specs.Io.Buffered.{reader_remaining}
use Rattle.line_service.proofs.Heard.{heard_by}
use Rattle.line_service.proofs.inputs.hear.Goals as goal

pub returns : goal.returns
returns g c =
    heard_by g.S.Read.remaining c.args.stream c.in-Ok.reader c.read_line-read.result (reader_remaining g.S.Read.remaining c.read_line-read.new.reader) c.input_of.result
    c.in-Ok.ensures.inner c.in-Ok.ensures.empty c.in-Ok.ensures.capacity c.read_line-read.ensures.taken c.input_of.ensures
