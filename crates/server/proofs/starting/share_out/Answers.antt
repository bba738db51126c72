use Rattle.std.proofs.Common.{◌∙◌, List, ap, arith, drop, take}
use Rattle.server.proofs.Starts.{all_dealt, first_count, first_fit, rest_count, rest_fit}
use Rattle.server.proofs.starting.share_out.Goals as goal

pub returns-in-Ok-split_off : goal.returns-in-Ok-split_off
returns-in-Ok-split_off g c =
    let node = c.in-Ok.node in let n = c.args.settings.now.workers in let more = c.args.settings.now.handles in let given = c.in-Ok.workers.items in let rounds = c.in-Ok.rounds in
    let same = c.in-Ok-reserve.ensures.items in
    let first = c.in-Ok-split_off.ensures.items ∙ ap (λ (xs : List _). take n xs) same in
    let rest = c.in-Ok-split_off.ensures.tail ∙ ap (λ (xs : List _). drop n xs) same in
    record {
      opening = c.in-Ok.ensures.node.0;
      rounds = c.in-Ok.ensures.fits.0;
      workers = first_fit node n more given rounds c.split_off.new.self.items first c.in-Ok.ensures.fits.1;
      handles = rest_fit node n more given rounds c.in-Ok-split_off.handles.items rest c.in-Ok.ensures.fits.1;
      count = first_count node n more given rounds c.split_off.new.self.items first c.in-Ok.ensures.count;
      left = rest_count node n more given rounds c.in-Ok-split_off.handles.items rest c.in-Ok.ensures.count;
      room = omega (arith, c.in-Ok.ensures.count, c.in-Ok.workers.ok.0, c.in-Ok-reserve.ensures.ok, c.in-Ok-split_off.ensures.capacity);
      all = all_dealt node n more given rounds c.split_off.new.self.items c.in-Ok-split_off.handles.items first rest c.in-Ok.ensures.all;
      refusal = tt;
    }
