use Rattle.cli_core.proofs.CountedLines.{holds_count, made_of_line}
use Rattle.cli_core.proofs.counted.next_line.Goals as goal

pub returns-clause-read : goal.returns-clause-read
returns-clause-read g c =
    made_of_line c.args.number (g.R.Read.remaining c.args.reader.now) (g.R.Read.remaining c.read_line-read.new.reader) c.read_line-read.result c.counted.result
    c.read_line-read.ensures.taken c.read_line-read.ensures.err c.counted.ensures

pub returns-clause-counted : goal.returns-clause-counted
returns-clause-counted g c = (holds_count c.args.number c.read_line-read.result c.counted.result c.read_line-read.ensures.line c.read_line-read.ensures.err c.counted.ensures).0

pub returns-clause-short : goal.returns-clause-short
returns-clause-short g c = (holds_count c.args.number c.read_line-read.result c.counted.result c.read_line-read.ensures.line c.read_line-read.ensures.err c.counted.ensures).1

pub returns-clause-fault : goal.returns-clause-fault
returns-clause-fault g c = (holds_count c.args.number c.read_line-read.result c.counted.result c.read_line-read.ensures.line c.read_line-read.ensures.err c.counted.ensures).2
