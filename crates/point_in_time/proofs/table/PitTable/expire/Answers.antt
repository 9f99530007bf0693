use Rattle.std.proofs.Common.{None, cond, ap, sym, arith, ◌∙◌}
use Rattle.std.specs.FinMap as finite
use Rattle.task_ids.proofs.TaskIdKeys.{get_id}
use Rattle.task_events.specs.Contexts.{unexpired}
use Rattle.scroll_table.proofs.Kept.{len_rising}
use Rattle.point_in_time.specs.Pits.{Pits, gone_by}
use Rattle.point_in_time.proofs.table.PitTable.expire.Goals as goal

pub returns-clause-left : goal.returns-clause-left
returns-clause-left c id =
    get_id c.take_expired.new.contexts.entries id
    ∙ c.take_expired.ensures.left id
    ∙ ap (unexpired c.args.now) (sym (get_id c.self.inside.contexts.entries id) ∙ ap (λ (p : Pits). finite.get p.standing id) c.self.view_is)

pub returns-clause-cursors : goal.returns-clause-cursors
returns-clause-cursors c id =
    c.take_expired.ensures.cursors id
    ∙ ap (λ o. cond (gone_by c.args.now o) None (finite.get c.self.inside.cursors id)) (sym (get_id c.self.inside.contexts.entries id))
    ∙ ap (λ (p : Pits). cond (gone_by c.args.now (finite.get p.standing id)) None (finite.get p.cursors id)) c.self.view_is

pub returns-clause-count : goal.returns-clause-count
returns-clause-count c =
    let before = sym (len_rising c.self.inside.contexts.entries c.len-before.ensures.ordered) ∙ ap (λ (p : Pits). finite.len p.standing) c.self.view_is in
    let after = len_rising c.take_expired.new.contexts.entries c.len.ensures.ordered in
    let fewer = c.take_expired.ensures.fewer in
    let was = c.len-before.ensures.len in
    let is = c.len.ensures.len in
    omega (arith, before, after, fewer, was, is)
