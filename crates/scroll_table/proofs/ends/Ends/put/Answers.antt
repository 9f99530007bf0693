use Rattle.std.proofs.Common.{◌≡◌, slice_get, length, arith, ap, sym, ◌∙◌}
use Rattle.scroll_table.proofs.Places.{put_here, put_back, no_place}
use Rattle.scroll_table.proofs.ends.Ends.put.Goals as goal

pub returns-in-Ok-clause-ends : goal.returns-in-Ok-clause-ends
returns-in-Ok-clause-ends c =
    let old = c.requires.ends in
    let ids = c.args.self.now.ids.items in
    let is = c.in_ok-push.ensures.items in
    let fresh = no_place _ _ c.requires.fresh in
    let last : c.len-place.result ≡ length ids = omega (arith, c.len-place.ensures) in
    record {
      tree = old.tree;
      room = omega (arith, c.in_ok-push.ensures.len, c.requires.room);
      spare = λ k le low. old.spare k (omega (arith, le, c.in_ok-push.ensures.len)) low;
      here = λ q s at. ap (λ xs. slice_get xs s) is ∙ put_here ids c.args.self.now.slots c.insert.new.self c.args.id old.here old.back fresh c.len-place.result last c.in-Ok.ensures.updates.0 q s at;
      back = λ q s at. put_back ids c.args.self.now.slots c.insert.new.self c.args.id old.here old.back fresh c.len-place.result last c.in-Ok.ensures.updates.0 q s (sym (ap (λ xs. slice_get xs s) is) ∙ at);
    }
