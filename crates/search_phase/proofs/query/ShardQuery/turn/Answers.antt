-- After the turn rows are left, or it was the last.
use Rattle.std.proofs.Common.{◌≡◌, ℕ, ◌+◌, ◌<◌, ◌≤◌, ◌∙◌, List, length, unwrap_or, sym, ap, subst, arith}
use Rattle.task_ids.specs.declared.doc.Doc.{Doc}
use Rattle.search_phase.specs.Queries.{QueryState, IsQueried, version_at, has_none_left, rows_left, queried}
use Rattle.search_phase.specs.declared.query.TurnAnswer.TheVariants.{More, Ready}
use Rattle.search_phase.specs.TurnAnswers.{query_answer}
use Rattle.search_phase.proofs.Growing.{IsQueried-grow}
use Rattle.search_phase.proofs.QueryTurns.{more_left, none_left, turn_open, turn_last}
use Rattle.search_phase.proofs.Turns.{turn_start}
use Rattle.search_phase.proofs.query.ShardQuery.turn.Goals as goal
use Rattle.search_phase.proofs.query.ShardQuery.turn.Goals.{Then-branch, After-give_top}

reads : (q inside : QueryState) (writes : List Doc) (all version : ℕ) → inside ≡ q → all ≡ length writes → version ≡ unwrap_or inside.version all → version ≡ version_at q writes
reads q inside writes all version same is h = h ∙ ap (unwrap_or inside.version) is ∙ ap (λ (s : QueryState). version_at s writes) same

pub look_on-requires-clause-few : goal.look_on-requires-clause-few
look_on-requires-clause-few c =
    let read = reads c.args.self.now _ c.args.shard.now.writes c.version.result c.unwrap_or-version.result c.self.view_is c.version.ensures c.unwrap_or-version.ensures in
    omega (arith, turn_start c.args.self.now c.args.shard.now.writes c.requires, read)

-- ---- rows are left

open_reads : (c : Then-branch) → c.unwrap_or-version.result ≡ version_at c.args.self.now c.args.shard.now.writes
open_reads c = reads c.args.self.now _ c.args.shard.now.writes c.version.result c.unwrap_or-version.result c.self.view_is c.version.ensures c.unwrap_or-version.ensures

open_left : (c : Then-branch) → 1024 < length (rows_left c.args.self.now c.unwrap_or-version.result c.args.shard.now.writes)
open_left c = c.in_ok-look_on.ensures.more.0 (grind (arith, c.if-branch.true))

opens : (c : Then-branch) → IsQueried c.args.self.now c.args.shard.now.writes → (c.look_on.new.self ≡ queried c.args.self.now.ask (version_at c.args.self.now c.args.shard.now.writes) (c.args.self.now.turns + 1) c.args.shard.now.writes)
    × IsQueried c.look_on.new.self c.args.shard.now.writes × (More ≡ query_answer c.look_on.new.self c.args.shard.now.writes)
opens c was = turn_open c.args.self.now c.args.shard.now.writes c.unwrap_or-version.result (open_reads c) c.look_on.new.self c.in_ok-look_on.ensures.ok c.requires was (open_left c)

pub returns-then-branch-clause-ready : goal.returns-then-branch-clause-ready
returns-then-branch-clause-ready c = more_left c.args.self.now c.args.shard.now.writes c.unwrap_or-version.result (open_reads c) c.look_on.new.self c.in_ok-look_on.ensures.ok (open_left c)

pub returns-then-branch-clause-ok : goal.returns-then-branch-clause-ok
returns-then-branch-clause-ok c = λ was. (opens c was).0

pub returns-then-branch-clause-goes_on : goal.returns-then-branch-clause-goes_on
returns-then-branch-clause-goes_on c = λ was. (opens c was).1

pub returns-then-branch-clause-answer : goal.returns-then-branch-clause-answer
returns-then-branch-clause-answer c = λ was. (opens c was).2

pub returns-then-branch-clause-stays : goal.returns-then-branch-clause-stays
returns-then-branch-clause-stays c = λ was within more. IsQueried-grow c.look_on.new.self c.args.shard.now.writes more within (opens c was).1

-- ---- it was the last

last_reads : (c : After-give_top) → c.unwrap_or-version.result ≡ version_at c.args.self.now c.args.shard.now.writes
last_reads c = reads c.args.self.now _ c.args.shard.now.writes c.version.result c.unwrap_or-version.result c.self.view_is c.version.ensures c.unwrap_or-version.ensures

last_left : (c : After-give_top) → length (rows_left c.args.self.now c.unwrap_or-version.result c.args.shard.now.writes) ≤ 1024
last_left c = grind (arith, c.in_ok-look_on.ensures.more, c.if-branch.false)

ends : (c : After-give_top) → IsQueried c.args.self.now c.args.shard.now.writes → (c.give_top.new.self ≡ queried c.args.self.now.ask (version_at c.args.self.now c.args.shard.now.writes) (c.args.self.now.turns + 1) c.args.shard.now.writes)
    × IsQueried c.give_top.new.self c.args.shard.now.writes × (Ready c.give_top.result ≡ query_answer c.give_top.new.self c.args.shard.now.writes)
ends c was =
    let last = turn_last c.args.self.now c.args.shard.now.writes c.unwrap_or-version.result (last_reads c) c.look_on.new.self c.in_ok-look_on.ensures.ok c.requires was (last_left c) in
    let given = c.give_top.ensures.given in
    (given ∙ last.0, subst (λ s. IsQueried s c.args.shard.now.writes) (sym given) last.1, ap Ready c.give_top.ensures.top ∙ last.2 ∙ ap (λ s. query_answer s c.args.shard.now.writes) (sym given))

pub returns-clause-ready : goal.returns-clause-ready
returns-clause-ready c =
    none_left c.args.self.now c.args.shard.now.writes c.unwrap_or-version.result (last_reads c) c.look_on.new.self c.in_ok-look_on.ensures.ok (last_left c)
    ∙ ap (λ q. has_none_left q c.args.shard.now.writes) (sym c.give_top.ensures.given)

pub returns-clause-ok : goal.returns-clause-ok
returns-clause-ok c = λ was. (ends c was).0

pub returns-clause-goes_on : goal.returns-clause-goes_on
returns-clause-goes_on c = λ was. (ends c was).1

pub returns-clause-answer : goal.returns-clause-answer
returns-clause-answer c = λ was. (ends c was).2

pub returns-clause-stays : goal.returns-clause-stays
returns-clause-stays c = λ was within more. IsQueried-grow c.give_top.new.self c.args.shard.now.writes more within (ends c was).1
