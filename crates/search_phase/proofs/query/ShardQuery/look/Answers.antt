-- The rows of one more turn are counted, and their keys are kept among the first.
use Rattle.std.proofs.Common.{◌≡◌, ℕ, ◌+◌, ◌-◌, ◌*◌, ◌≤◌, ◌++◌, List, length, take, filter, Some, sym, ap, ◌∙◌, subst, arith, heap_items}
use Rattle.std.specs.List.{slice_get}
use Rattle.std.specs.Option.{option_or}
use Rattle.task_events.specs.declared.request.HitKey.{HitKey}
use Rattle.task_events.specs.Answers.{window}
use Rattle.task_events.specs.HitOrder.{in_hit_order, is_after}
use Rattle.search_phase.specs.Queries.{QueryState, IsQuery, next_rows, last_place, keys_of_rows}
use Rattle.search_phase.proofs.Kept.{merged}
use Rattle.search_phase.proofs.Rows.{last_is}
use Rattle.search_phase.proofs.Turns.{turn_is, few_keys, few_next, few_kept, still_query}
use Rattle.search_phase.proofs.query.ShardQuery.look.Goals as goal

pub keep_all-requires-clause-few : goal.keep_all-requires-clause-few
keep_all-requires-clause-few c =
    let few = few_kept c.args.self.now (heap_items c.self.inside.first) (subst IsQuery c.self.view_is c.self.invariant.1) (ap (λ (q : QueryState). q.keys) c.self.view_is) in
    omega (arith, few, c.most-most.ensures)

pub overflow_add-self-2 : goal.overflow_add-self-2
overflow_add-self-2 c =
    let q = c.args.self.now in
    let next = next_rows q c.args.version c.args.shard.now.writes in
    let is : IsQuery q = subst IsQuery c.self.view_is c.self.invariant.1 in
    let so_far : q.count ≤ q.turns * 1024 = subst (λ n. q.count ≤ q.turns * n) turn_is is.few_counted in
    let count : c.self.inside.count ≡ q.count = ap (λ (s : QueryState). s.count) c.self.view_is in
    let begun : q.turns * 1024 ≤ c.args.version = c.requires.few in
    let found : c.in_ok-found.found.count ≡ length (keys_of_rows q.ask next) = c.in_ok-found.ensures.count in
    omega (arith, so_far, count, begun, found, few_keys q.ask next, few_next q c.args.version c.args.shard.now.writes, c.ranges.version.fits)

pub returns-clause-ok : goal.returns-clause-ok
returns-clause-ok c =
    let q = c.args.self.now in
    let next = next_rows q c.args.version c.args.shard.now.writes in
    let found = filter (is_after q.ask.after) (keys_of_rows q.ask next) in
    let same = c.self.view_is in
    let asks = ap (λ (s : QueryState). s.ask) same in
    let turns = ap (λ (s : QueryState). s.turns + 1) same in
    let last =
    c.or-self-inside.ensures
    ∙ ap (λ o. option_or o c.self.inside.last) (c.copied.ensures ∙ c.last.ensures.value ∙ ap (λ (ps : List ℕ). slice_get ps (length ps - 1)) c.requires.next)
    ∙ last_is c.self.inside.last next ∙ ap (λ (s : QueryState). last_place s.last next) same in
    let count = ap (λ n. c.self.inside.count + n) c.in_ok-found.ensures.count ∙ ap (λ (s : QueryState). s.count + length (keys_of_rows q.ask next)) same in
    let keys =
    c.in_ok-keep_all.ensures.ok
    ∙ ap (λ n. take n (in_hit_order (heap_items c.self.inside.first ++ c.into_vec.result.items))) c.most-most.ensures
    ∙ ap (λ (v : Rattle.std.proofs.Common.Vec HitKey Rattle.std.proofs.Common.Global). take (window q.ask.body) (in_hit_order (heap_items c.self.inside.first ++ v.items))) c.into_vec.ensures.value
    ∙ merged (window q.ask.body) (heap_items c.self.inside.first) (heap_items c.in_ok-found.found.first) found c.in_ok-found.ensures.first
    ∙ ap (λ (s : QueryState). take (window q.ask.body) (in_hit_order (s.keys ++ found))) same in
    λ i. record { ask = asks i; version = Some c.args.version; turns = turns i; last = last i; count = count i; keys = keys i }

pub invariant_of-self-2 : goal.invariant_of-self-2
invariant_of-self-2 c =
    let q = c.args.self.now in
    let next = next_rows q c.args.version c.args.shard.now.writes in (
      c.keep_all.ensures.still_ordered,
      subst IsQuery (sym (returns-clause-ok c))
          (still_query q c.args.version c.args.shard.now.writes next (subst IsQuery c.self.view_is c.self.invariant.1) c.requires.reads (few_next q c.args.version c.args.shard.now.writes)),
    )
