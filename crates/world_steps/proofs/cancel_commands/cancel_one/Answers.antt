use Rattle.std.proofs.Common.{◌≡◌, ◌∙◌, ◌∷◌, [], None, refl, sym, ap, subst, rules, length}
use Rattle.task_events.specs.declared.event.Event.TheVariants.{NotFound}
use Rattle.task_events.specs.declared.history.TheConstants.{MAX_EVENTS}
use Rattle.world_moves.specs.Cancels.{after_naming, target_of}
use Rattle.world_moves.specs.Moves.{IsPartOf, IsCutShort}
use Rattle.world_moves.proofs.CancelsUntouched.{noted}
use Rattle.world_moves.proofs.CutShort.{cut_first}
use Rattle.world_moves.proofs.DescriptionsAfter.{quiet}
use Rattle.world_moves.proofs.QuietCounts.{still_counts}
use Rattle.corpus_shards.proofs.Cases.{on_err}
use Rattle.world_steps.specs.Naming.{CanName}
use Rattle.world_steps.proofs.NamesOne.{names_none, names_one, ties_after_missing}
use Rattle.world_steps.proofs.NamingEnds.{nothing_named}
use Rattle.world_moves.proofs.PagesAfter.{quiet_pages}
use Rattle.world_moves.proofs.ReadsAfter.{reads_after}
use Rattle.world_steps.proofs.cancel_commands.cancel_one.Goals as goal

pub cancel_tasks-requires-clause-can : goal.cancel_tasks-requires-clause-can
cancel_tasks-requires-clause-can c =
    let s = c.args.state.now in
    let first = nothing_named s.cluster s.history c.args.number c.requires.begun c.requires.tied.ties.lawful in
    subst (λ ts. CanName c.args.number ts s.history) (sym c.from_ref.ensures.value) (c.in-Some.ensures.live.1, first.names c.in-Some.task, refl, tt)

pub returns-in-Some-clause-happened : goal.returns-in-Some-clause-happened
returns-in-Some-clause-happened c =
    let h = c.args.state.now.history in
    let one = names_one c.args.number c.args.wait h (target_of c.args.target.now h) c.in-Some.task c.in-Some.ensures.live.0 c.in-Some.ensures.live.1 ∙ ap (λ ts. after_naming c.args.number c.args.wait ts h) (sym c.from_ref.ensures.value) in
    rw one c.cancel_tasks.ensures.happened

pub returns-in-Some-clause-part : goal.returns-in-Some-clause-part
returns-in-Some-clause-part c =
    let h = c.args.state.now.history in
    let one = names_one c.args.number c.args.wait h (target_of c.args.target.now h) c.in-Some.task c.in-Some.ensures.live.0 c.in-Some.ensures.live.1 ∙ ap (λ ts. after_naming c.args.number c.args.wait ts h) (sym c.from_ref.ensures.value) in
    rw one c.cancel_tasks.ensures.part

pub returns-in-Some-clause-full : goal.returns-in-Some-clause-full
returns-in-Some-clause-full c =
    let h = c.args.state.now.history in
    let one = names_one c.args.number c.args.wait h (target_of c.args.target.now h) c.in-Some.task c.in-Some.ensures.live.0 c.in-Some.ensures.live.1 ∙ ap (λ ts. after_naming c.args.number c.args.wait ts h) (sym c.from_ref.ensures.value) in
    rw one c.cancel_tasks.ensures.full

pub returns-in_err-append-clause-part : goal.returns-in_err-append-clause-part
returns-in_err-append-clause-part c =
    let h = c.args.state.now.history in
    let missing = names_none c.args.number c.args.wait h (target_of c.args.target.now h) c.in_default.ensures.none in
    let same = c.in_err-append.ensures.err in
    on_err c.from_residual.result _ (NotFound c.args.number ∷ [], [], missing ∙ ap (λ g. NotFound c.args.number ∷ g) (sym same), same)

pub returns-clause-tied : goal.returns-clause-tied
returns-clause-tied c =
    let s = c.args.state.now in
    let happened = c.in_ok-append.ensures.ok in
    record {
      ties = rw happened (ties_after_missing s.cluster s.corpus.now s.script.now s.history _ _ s.flight c.args.number c.requires.tied.ties c.requires.tied.awaits c.requires.begun);
      cancels = rw happened (noted s.cluster _ s.history _ _ s.bans.items s.cores.items s.listings c.requires.tied.cancels (NotFound c.args.number) refl refl);
      counts = rw happened (still_counts None (NotFound c.args.number) s.history _ refl c.requires.tied.counts);
      tells = rw happened (quiet s.script.now s.history s.tables.items s.flight s.clock (NotFound c.args.number) refl c.requires.tied.tells);
      pages = rw happened (quiet_pages s.cluster s.corpus.now s.script.now s.history s.contexts.items c.requires.tied.pages (NotFound c.args.number) refl);
      shards = rw happened c.requires.tied.shards;
      awaits = rw happened tt;
      oldest = c.requires.tied.oldest;
      reads = rw happened (reads_after c.requires.tied.oldest s.cluster s.corpus.now s.script.now s.history c.requires.tied.reads c.requires.tied.ties.lawful (NotFound c.args.number) tt);
    }

pub returns-in_err-append-clause-full : goal.returns-in_err-append-clause-full
returns-in_err-append-clause-full c = λ failed.
    let h = c.args.state.now.history in
    let missing = names_none c.args.number c.args.wait h (target_of c.args.target.now h) c.in_default.ensures.none in
    let full : length h ≡ MAX_EVENTS = search rules in
    subst (λ whole. IsCutShort (λ past. IsPartOf h past whole) c.append.new.history) (sym missing) (cut_first h c.append.new.history [] (NotFound c.args.number) full c.in_err-append.ensures.err)
