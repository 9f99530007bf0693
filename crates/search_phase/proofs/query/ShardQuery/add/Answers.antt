-- A row that does not match, or does not stand after the cursor, changes no key; another one is kept where it stands among the first.
use Rattle.std.proofs.Common.{◌≡◌, true, take, sym, ap, ◌∙◌, heap_items}
use Rattle.task_events.specs.declared.request.ShardAsk.{ShardAsk}
use Rattle.task_events.specs.Answers.{window, is_found, hit_key}
use Rattle.task_events.specs.HitOrder.{placed, is_after, in_hit_order}
use Rattle.search_phase.specs.Queries.{QueryState}
use Rattle.search_phase.proofs.NextRows.{passed_over, shown_before, kept_one}
use Rattle.search_phase.proofs.query.ShardQuery.add.Goals as goal
use Rattle.search_phase.proofs.query.ShardQuery.add.Goals.{else-not-all-via-then-not-all+else-not-is_found, else-not-all-via-else-not-all}

pub returns-then-not-is_found-clause-first : goal.returns-then-not-is_found-clause-first
returns-then-not-is_found-clause-first c =
    let same = c.get-ask.ensures ∙ ap (λ (q : QueryState). q.ask) c.self.view_is in
    passed_over c.args.self.now.ask (c.args.place, c.args.doc.now) (heap_items c.args.found.now.first) c.requires.few
    (ap (λ (a : ShardAsk). is_found a.body a.slice c.args.doc.now) (sym same) ∙ sym c.is_found.ensures ∙ c.if-not-is_found.true)

pub returns-in_ok-keep_row-clause-first : goal.returns-in_ok-keep_row-clause-first
returns-in_ok-keep_row-clause-first c =
    let same = c.get-ask.ensures ∙ ap (λ (q : QueryState). q.ask) c.self.view_is in
    let matches : is_found c.args.self.now.ask.body c.args.self.now.ask.slice c.args.doc.now ≡ true =
    elim c.else-not-all.branch [
      | else-not-all-via-then-not-all+else-not-is_found w ↦ ap (λ (a : ShardAsk). is_found a.body a.slice c.args.doc.now) (sym same) ∙ sym w.is_found.ensures ∙ w.if-not-is_found.false
      | else-not-all-via-else-not-all w ↦ c.requires.certain w.if-not-all.false
    ] in
    kept_one c.args.self.now.ask (c.args.place, c.args.doc.now) (heap_items c.args.found.now.first) c.requires.few (heap_items c.keep_row.new.first) matches
    (ap (λ (a : ShardAsk). is_after a.after (hit_key a.body a.shard (c.args.place, c.args.doc.now))) (sym same) ∙ sym c.is_after_cursor.ensures ∙ c.if-is_after_cursor.true)
    (c.in_ok-keep_row.ensures.keys
    ∙ ap (λ n. take n (placed (hit_key c.get-ask.result.now.body c.get-ask.result.now.shard (c.args.place, c.args.doc.now)) (in_hit_order (heap_items c.args.found.now.first)))) c.most.ensures
    ∙ ap (λ (a : ShardAsk). take (window c.args.self.now.ask.body) (placed (hit_key a.body a.shard (c.args.place, c.args.doc.now)) (in_hit_order (heap_items c.args.found.now.first)))) same)

pub returns-else-is_after_cursor-clause-first : goal.returns-else-is_after_cursor-clause-first
returns-else-is_after_cursor-clause-first c =
    let same = c.get-ask.ensures ∙ ap (λ (q : QueryState). q.ask) c.self.view_is in
    let matches : is_found c.args.self.now.ask.body c.args.self.now.ask.slice c.args.doc.now ≡ true =
    elim c.else-not-all.branch [
      | else-not-all-via-then-not-all+else-not-is_found w ↦ ap (λ (a : ShardAsk). is_found a.body a.slice c.args.doc.now) (sym same) ∙ sym w.is_found.ensures ∙ w.if-not-is_found.false
      | else-not-all-via-else-not-all w ↦ c.requires.certain w.if-not-all.false
    ] in
    shown_before c.args.self.now.ask (c.args.place, c.args.doc.now) (heap_items c.args.found.now.first) c.requires.few matches
    (ap (λ (a : ShardAsk). is_after a.after (hit_key a.body a.shard (c.args.place, c.args.doc.now))) (sym same) ∙ sym c.is_after_cursor.ensures ∙ c.if-is_after_cursor.false)
