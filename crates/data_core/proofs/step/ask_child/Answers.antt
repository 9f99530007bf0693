-- The task has one ask more, and its letter carries the token.
use Rattle.std.proofs.Common.{◌≡◌, refl, sym, ap, ◌∙◌, subst}
use Rattle.std.specs.Prelude.{IfOk}
use Rattle.run_facts.specs.Cancels.{cancels_of}
use Rattle.node_link.specs.declared.body.Place.{Place}
use Rattle.live_tasks.proofs.Belonging.{together_stays}
use Rattle.live_tasks.specs.declared.entry.Entry.{Entry}
use Rattle.live_tasks.specs.Entries.{after_ask}
use Rattle.live_tasks.specs.Live.{entry_at}
use Rattle.data_parts.specs.Places.{child_place}
use Rattle.entry_facts.proofs.Cores.{task_at, task_goes_on}
use Rattle.entry_facts.proofs.Entries.{asked_of_run}
use Rattle.entry_facts.proofs.Letters.{ask_tells}
use Rattle.entry_facts.proofs.Live.{each_at}
use Rattle.data_core.specs.Cores.{IsGoodEntry}
use Rattle.data_core.specs.Steps.{Noted}
use Rattle.data_core.proofs.Asking.{can_ask_there, can_ask_now, asked_so}
use Rattle.data_core.proofs.Cases.{id_there}
use Rattle.data_core.proofs.Good.{asked_good}
use Rattle.data_core.proofs.Kept.{change_sound}
use Rattle.data_core.proofs.Planning.{moment}
use Rattle.data_core.proofs.Stepping.{found_is, its_id, noted_so}
use Rattle.data_core.proofs.step.ask_child.Goals as goal

pub child_place-place-requires : goal.child_place-place-requires
child_place-place-requires g c =
    let old = c.args.core.now in
    (each_at (IsGoodEntry (cancels_of g.W.Run.cancels) old.shards) old.live c.requires.sound.good c.args.task.number c.in-Some.entry.now (sym c.in-Some.ensures)).place

pub ask-requires-clause-can : goal.ask-requires-clause-can
ask-requires-clause-can g c = can_ask_there _ c.requires.unmarked c.requires.asks

pub returns-in_err-token-clause-of_run : goal.returns-in_err-token-clause-of_run
returns-in_err-token-clause-of_run g c =
    let old = c.args.core.now in
    let t = c.args.task in
    let live = c.ask.new.self in
    let there = id_there t (entry_at old.live t.number) c.requires.live in
    let e = there.0 in
    task_goes_on g.W.Run.setting _ old.shards old.live c.requires.of_run live t.number e e there.1 (c.in_err-token.ensures.err e there.1) (λ h. h)

pub returns-in_err-one-clause-of_run : goal.returns-in_err-one-clause-of_run
returns-in_err-one-clause-of_run g c =
    let old = c.args.core.now in
    let t = c.args.task in
    let live = c.ask.new.self in
    let x = c.in-Some.entry.now in
    let at = sym c.in-Some.ensures in
    let place = c.child_place-place.result in
    task_goes_on g.W.Run.setting _ old.shards old.live c.requires.of_run live t.number x (after_ask x c.args.to place) at (c.in_ok-token.ensures.asked x at)
    (asked_of_run g.W.Run.setting old.shards x c.args.to place (ap (λ (p : Place). p.search) c.child_place-place.ensures.place) (can_ask_now _ x at c.requires.asks))

pub returns-clause-of_run : goal.returns-clause-of_run
returns-clause-of_run g c =
    let old = c.args.core.now in
    let t = c.args.task in
    let live = c.ask.new.self in
    let x = c.in-Some.entry.now in
    let at = sym c.in-Some.ensures in
    let place = c.child_place-place.result in
    task_goes_on g.W.Run.setting _ old.shards old.live c.requires.of_run live t.number x (after_ask x c.args.to place) at (c.in_ok-token.ensures.asked x at)
    (asked_of_run g.W.Run.setting old.shards x c.args.to place (ap (λ (p : Place). p.search) c.child_place-place.ensures.place) (can_ask_now _ x at c.requires.asks))

pub new-requires-2-clause-asked : goal.new-requires-2-clause-asked
new-requires-2-clause-asked g c =
    let run = g.W.Run.setting in
    let old = c.args.core.now in
    let n = c.args.task.number in
    let x = c.in-Some.entry.now in
    let at = sym c.in-Some.ensures in
    ask_tells run old.shards x (task_at run old.cluster.shards old.shards old.live c.requires.of_run n x at) (moment old.shards old.clock x) _ c.args.request c.child_place-place.ensures.place refl (c.requires.planned x at)

pub returns-in_err-token-clause-sound : goal.returns-in_err-token-clause-sound
returns-in_err-token-clause-sound g c =
    let old = c.args.core.now in
    let t = c.args.task in
    let live = c.ask.new.self in
    let there = id_there t (entry_at old.live t.number) c.requires.live in
    let e = there.0 in
    let together = together_stays _ _ _ _ old.live live c.requires.sound.together c.ask.ensures.together in
    change_sound _ _ _ _ _ _ _ _ _ old live t.number e e c.requires.sound together c.ask.ensures.core there.1 (c.in_err-token.ensures.err e there.1) (λ good. good)

pub returns-in_err-one-clause-sound : goal.returns-in_err-one-clause-sound
returns-in_err-one-clause-sound g c =
    let old = c.args.core.now in
    let t = c.args.task in
    let live = c.ask.new.self in
    let there = id_there t (entry_at old.live t.number) c.requires.live in
    let e = there.0 in
    let together = together_stays _ _ _ _ old.live live c.requires.sound.together c.ask.ensures.together in
    change_sound _ _ _ _ _ _ _ _ _ old live t.number e (after_ask e c.args.to c.child_place-place.result) c.requires.sound together c.ask.ensures.core there.1 (c.in_ok-token.ensures.asked e there.1) (asked_good _ old.shards e c.args.to c.child_place-place.result)

pub returns-clause-sound : goal.returns-clause-sound
returns-clause-sound g c =
    let old = c.args.core.now in
    let t = c.args.task in
    let live = c.ask.new.self in
    let there = id_there t (entry_at old.live t.number) c.requires.live in
    let e = there.0 in
    let together = together_stays _ _ _ _ old.live live c.requires.sound.together c.ask.ensures.together in
    change_sound _ _ _ _ _ _ _ _ _ old live t.number e (after_ask e c.args.to c.child_place-place.result) c.requires.sound together c.ask.ensures.core there.1 (c.in_ok-token.ensures.asked e there.1) (asked_good _ old.shards e c.args.to c.child_place-place.result)

pub returns-clause-asked : goal.returns-clause-asked
returns-clause-asked g c = λ e at.
    let old = c.args.core.now in
    let t = c.args.task in
    let to = c.args.to in
    let live = c.ask.new.self in
    let place = c.child_place-place.result in
    let x = c.in-Some.entry.now in
    let same = found_is _ x e c.in-Some.ensures at in
    let change = c.in_ok-token.ensures.asked e at in
    let noted = noted_so old live t e (after_ask e to place) (its_id t _ e c.requires.live at) change in
    let at_place = c.child_place-place.ensures.place ∙ ap (λ (y : Entry). child_place y.place c.args.request) (sym same) in (
      subst (λ p. Noted e (after_ask e to p) old (record old { live = live })) at_place noted,
      asked_so old.pool e x same to c.args.request c.worker_of-worker.result place c.new.result c.in_ok-headers.headers c.new-2.result c.in_ok-one.field-0.items c.worker_of-worker.ensures c.child_place-place.ensures.place (c.new.ensures ∙ c.in_ok-token.ensures.token e at)
          (subst (λ r. IfOk r (λ h. h ≡ x.running.headers)) c.in_ok-headers.ensures.ok c.copy.ensures) c.new-2.ensures c.in_ok-one.ensures.post,
    )
