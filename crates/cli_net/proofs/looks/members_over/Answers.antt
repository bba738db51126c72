use Rattle.std.proofs.Common.{◌≡◌, ◌∙◌, ap, subst, sym}
use Rattle.std.proofs.lemmas.Result.{on_ok_weaker}
use Rattle.std.specs.Io.KnownBytes.{Appends}
use Rattle.cli_core.specs.Table.{table_text}
use Rattle.cli_net.specs.Membership.{membership_text}
use Rattle.cli_net.proofs.looks.members_over.Goals as goal

pub returns-in-Table-clause-written : goal.returns-in-Table-clause-written
returns-in-Table-clause-written g c =
    let news = c.in_ok-news.news in
    let is_text = ap (λ form. membership_text form news) c.in-Table.is ∙ sym (ap table_text c.in_ok-news.ensures.members) in
    on_ok_weaker c.write_table.result
    (λ appends. (
      news,
      c.in_ok-news.ensures.seen,
      subst (λ text. Appends (g.W.Write.contents c.args.writer.now) (g.W.Write.contents c.write_table.new.writer) text) (sym is_text) appends,
    ))
    c.write_table.ensures.ok
