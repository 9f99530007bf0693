use Rattle.std.proofs.Common.{◌≡◌, ◌∙◌, ℕ, Bool, true, false, List, [], ◌∷◌, cond, refl, ap, subst}
use Rattle.serde_json.specs.Written.{compact_text}
use Rattle.task_ids.specs.declared.task_info.TaskInfo.{TaskInfo}
use Rattle.task_events.specs.Clock.{clock}
use Rattle.tasks_api.specs.declared.filter.Filter.{Filter}
use Rattle.tasks_api.specs.declared.list.GroupBy.{GroupBy}
use Rattle.tasks_api.specs.Filters.{filter_matches}
use Rattle.tasks_api.specs.Lists.{list_json, list_text, shown, task_json}
use Rattle.command_roots.specs.Roots.{rows_of}
use Rattle.world_steps.specs.World.{IsWorld}
use Rattle.world_steps.proofs.world.World.list.Goals as goal

-- what a filter lets through it lets through again
shown_twice : (wanted : Filter) (rows : List TaskInfo) → shown wanted (shown wanted rows) ≡ shown wanted rows
shown_twice wanted [] = refl
shown_twice wanted (row ∷ rows) = by_test (filter_matches wanted row) refl (shown_twice wanted rows)
  where
    by_test : (b : Bool) → filter_matches wanted row ≡ b → shown wanted (shown wanted rows) ≡ shown wanted rows → shown wanted (cond b (row ∷ shown wanted rows) (shown wanted rows)) ≡ cond b (row ∷ shown wanted rows) (shown wanted rows)
    by_test true e rest = rw e (ap (λ more. row ∷ more) rest)
    by_test false e rest = rest

-- lists of the same tasks are equal
same : (group : GroupBy) (detailed : Bool) (now : ℕ) (wanted : Filter) (rows others : List TaskInfo) → shown wanted rows ≡ shown wanted others → list_text group detailed now wanted rows ≡ list_text group detailed now wanted others
same group detailed now wanted rows others e = ap (λ tasks. compact_text (list_json group (task_json detailed now) tasks)) e

pub returns-in-Ok-clause-line : goal.returns-in-Ok-clause-line
returns-in-Ok-clause-line c =
    let s = c.self.inside.state in
    let goes = ap (λ w. w.stopped) c.self.view_is ∙ c.requires.goes_on in
    let world = subst (λ o. IsWorld s c.self.inside.ready o) goes c.self.invariant in
    let rows = c.as_slice.ensures.value ∙ c.in_ok-rows.ensures.rows in
    let once = ap (shown c.args.wanted.now) rows ∙ shown_twice c.args.wanted.now (rows_of s.cluster s.script.now s.history) in
    c.in-Ok.ensures ∙ (λ i. list_text c.args.group c.args.detailed (world.tied.tells.clock_is i) c.args.wanted.now c.as_slice.result.now) ∙ same c.args.group c.args.detailed (clock s.history) c.args.wanted.now c.as_slice.result.now (rows_of s.cluster s.script.now s.history) once
    ∙ ap (λ w. list_text c.args.group c.args.detailed (clock w.past) c.args.wanted.now (rows_of w.cluster w.script w.past)) c.self.view_is
