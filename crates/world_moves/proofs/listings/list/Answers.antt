use Rattle.std.proofs.Common.{◌∙◌, ◌∷◌, Err, inr, refl, ap}
use Rattle.task_events.specs.declared.event.Event.TheVariants.{Mark, Listed}
use Rattle.task_laws.proofs.Reach.{reach_facts}
use Rattle.world_moves.specs.Moves.{IsPartly}
use Rattle.world_moves.specs.Listings.{ListSteps}
use Rattle.world_moves.proofs.NextChild.{listed_mark}
use Rattle.world_moves.proofs.NodeTables.{left_out, nobody_waits}
use Rattle.world_moves.proofs.CutShort.{cut_only}
use Rattle.world_moves.proofs.Outcomes.{stops_so}
use Rattle.world_moves.proofs.listings.list.Goals as goal

pub mark-requires-clause-cancels : goal.mark-requires-clause-cancels
mark-requires-clause-cancels c =
    let s = c.args.state.now in
    let child = c.in-Some.ensures.child.0 in
    let high = (reach_facts s.cluster s.history c.requires.tied.ties.lawful).live_in c.in-Some.task child.live in
    left_out s.cluster c.in-Some.task s.history _ _ s.bans.items s.cores.items s.listings child.unmarked high c.requires.tied.cancels

pub mark-requires-clause-shards : goal.mark-requires-clause-shards
mark-requires-clause-shards c = (c.requires.tied.oldest, c.requires.tied.shards, c.requires.tied.reads)

pub mark-requires-clause-lawful : goal.mark-requires-clause-lawful
mark-requires-clause-lawful c =
    let s = c.args.state.now in
    let found = c.in-Some.ensures.child in
    listed_mark s.cluster s.history c.args.listing c.in-Some.task c.in-Some.cancel c.requires.tied.ties.lawful c.requires.tied.awaits c.requires.opened found.0 found.1

pub mark-requires-clause-waiting : goal.mark-requires-clause-waiting
mark-requires-clause-waiting c =
    let s = c.args.state.now in
    let child = c.in-Some.ensures.child.0 in
    let high = (reach_facts s.cluster s.history c.requires.tied.ties.lawful).live_in c.in-Some.task child.live in
    nobody_waits s.cluster _ s.history _ _ s.bans.items s.cores.items _ c.requires.tied.cancels c.in-Some.task child.unmarked high

pub returns-in-Ok-clause-stepped : goal.returns-in-Ok-clause-stepped
returns-in-Ok-clause-stepped c =
    let s = c.args.state.now in
    let found = c.in-Some.ensures.child in
    (Mark c.in-Some.task c.in-Some.cancel, c.requires.opened, found, c.in-Ok.ensures.happened)

pub returns-in-Err-clause-part : goal.returns-in-Err-clause-part
returns-in-Err-clause-part c =
    let s = c.args.state.now in
    let found = c.in-Some.ensures.child in
    inr (Mark c.in-Some.task c.in-Some.cancel ∷ s.history, (Mark c.in-Some.task c.in-Some.cancel, c.requires.opened, found, refl), c.in-Err.ensures.part)

pub returns-in-Err-clause-stop : goal.returns-in-Err-clause-stop
returns-in-Err-clause-stop c =
    let s = c.args.state.now in
    let found = c.in-Some.ensures.child in
    stops_so c.in-Err.stop (IsPartly (ListSteps c.args.listing) s.history) ⊥ c.mark.new.state.history (λ failed. (let full = c.mark.ensures.full (c.in-Err.is ∙ ap Err failed) in
    cut_only (ListSteps c.args.listing) s.history c.mark.new.state.history (Mark c.in-Some.task c.in-Some.cancel) (Mark c.in-Some.task c.in-Some.cancel, c.requires.opened, found, refl) full.0 full.1)) (λ spent. c.mark.ensures.numbers (c.in-Err.is ∙ ap Err spent))

pub returns-in-Err-end_listing-clause-stop : goal.returns-in-Err-end_listing-clause-stop
returns-in-Err-end_listing-clause-stop c =
    let s = c.args.state.now in
    let l = c.args.listing in
    stops_so c.in-Err-end_listing.stop (IsPartly (ListSteps l) s.history) ⊥ c.end_listing.new.state.history (λ failed.
    cut_only (ListSteps l) s.history c.end_listing.new.state.history (Listed l.node l.parent) (Listed l.node l.parent, c.requires.opened, (refl, refl, c.in-None.ensures.none), refl)
    (c.end_listing.ensures.full (c.in-Err-end_listing.is ∙ ap Err failed)) c.in-Err-end_listing.ensures.err) (λ spent. c.end_listing.ensures.numbers (c.in-Err-end_listing.is ∙ ap Err spent))
