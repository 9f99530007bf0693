use Rattle.std.proofs.Common.{◌≡◌, Bool, true, false, Result, Ok, Err, refl, ap, rules, inl}
use Rattle.std.specs.BTreeSet.{btree_set_len}
use Rattle.task_events.specs.declared.stop.Stop.{Stop}
use Rattle.world_steps.proofs.Commanded.{partly_first}
use Rattle.world_steps.proofs.FirstListing.{listing_moves, listing_done, listing_partly, none_open}
use Rattle.world_steps.proofs.FirstReady.{nothing_in_flight, first_move, first_part, first_has_room}
use Rattle.world_moves.specs.Listings.{ListSteps}
use Rattle.world_moves.specs.Moves.{Delivers, IsPartly}
use Rattle.world_moves.proofs.Outcomes.{stops_as}
use Rattle.world_steps.specs.Runs.{FirstMoves, Steps}
use Rattle.world_steps.proofs.moving.move_first.Goals as goal

moves : (r : Result Bool Stop) → r ≡ Ok true → r ≡ Ok false → ⊥
moves r made rests = cc

fails : (stop : Stop) (moved : Bool) → Err stop ≡ Ok moved → ⊥
fails stop moved e = cc

pub returns-in-Ok : goal.returns-in-Ok
returns-in-Ok c =
    record {
      moved = λ _. inl c.in-Ok.ensures.delivered;
      room = λ _. c.in-Ok.ensures.room;
      rests = λ e. absurd (moves _ refl e);
      tied = c.in-Ok.ensures.tied;
      known = c.in-Ok.ensures.known;
      keeps = c.in-Ok.ensures.keeps;
      part = tt;
      laws = c.in-Ok.ensures.laws;
      stop = tt;
    }

pub returns-in-Err : goal.returns-in-Err
returns-in-Err c =
    let s = c.args.state.now in
    record {
      moved = λ e. absurd (fails _ _ e);
      room = λ e. absurd (fails _ _ e);
      rests = λ e. absurd (fails _ _ e);
      tied = tt;
      known = tt;
      keeps = c.in-Err.ensures.keeps;
      part = partly_first s.cluster s.corpus.now s.script.now s.history c.deliver_and_refresh.new.state.history c.in-Err.ensures.part;
      laws = c.in-Err.ensures.laws;
      stop = stops_as (IsPartly (λ x y. Delivers s.cluster x 0 y) s.history) (IsPartly (FirstMoves s.cluster s.corpus.now s.script.now) s.history) _ _ c.deliver_and_refresh.new.state.history c.in-Err.stop
          (λ past. partly_first s.cluster s.corpus.now s.script.now s.history past) (λ lacks. lacks) c.in-Err.ensures.stop;
    }

pub returns-in-Ok-list_and_refresh : goal.returns-in-Ok-list_and_refresh
returns-in-Ok-list_and_refresh c =
    let s = c.args.state.now in
    let none = nothing_in_flight s.history s.flight _ c.requires.tied.ties.sent (search rules) in
    record {
      moved = λ _. listing_moves s.cluster s.corpus.now s.script.now s.history s.listings c.in-Some.listing c.requires.tied.cancels.listings_are (search rules) (search rules) none c.in-Ok-list_and_refresh.field-0 c.list_and_refresh.new.state.history c.in-Ok-list_and_refresh.ensures.stepped;
      room = λ _. c.in-Ok-list_and_refresh.ensures.room (ap Ok (listing_done s.cluster s.corpus.now s.script.now s.history s.listings c.in-Some.listing c.requires.tied.cancels.listings_are (search rules) (search rules) none c.in-Ok-list_and_refresh.field-0 c.list_and_refresh.new.state.history c.in-Ok-list_and_refresh.ensures.stepped));
      rests = λ e. absurd (moves _ refl e);
      tied = c.in-Ok-list_and_refresh.ensures.tied;
      known = c.in-Ok-list_and_refresh.ensures.known;
      keeps = c.in-Ok-list_and_refresh.ensures.keeps;
      part = tt;
      laws = c.in-Ok-list_and_refresh.ensures.laws;
      stop = tt;
    }

pub returns-in-Err-list_and_refresh : goal.returns-in-Err-list_and_refresh
returns-in-Err-list_and_refresh c =
    let s = c.args.state.now in
    let none = nothing_in_flight s.history s.flight _ c.requires.tied.ties.sent (search rules) in
    record {
      moved = λ e. absurd (fails _ _ e);
      room = λ e. absurd (fails _ _ e);
      rests = λ e. absurd (fails _ _ e);
      tied = tt;
      known = tt;
      keeps = c.in-Err-list_and_refresh.ensures.keeps;
      part = listing_partly s.cluster s.corpus.now s.script.now s.history s.listings c.in-Some.listing c.requires.tied.cancels.listings_are (search rules) (search rules) none c.list_and_refresh.new.state.history c.in-Err-list_and_refresh.ensures.part;
      laws = c.in-Err-list_and_refresh.ensures.laws;
      stop = stops_as (IsPartly (ListSteps c.in-Some.listing) s.history) (IsPartly (FirstMoves s.cluster s.corpus.now s.script.now) s.history) _ _ c.list_and_refresh.new.state.history c.in-Err-list_and_refresh.stop
          (λ past. listing_partly s.cluster s.corpus.now s.script.now s.history s.listings c.in-Some.listing c.requires.tied.cancels.listings_are (search rules) (search rules) none past) (λ lacks. absurd lacks) c.in-Err-list_and_refresh.ensures.stop;
    }

pub returns-in-Ok-step_and_refresh : goal.returns-in-Ok-step_and_refresh
returns-in-Ok-step_and_refresh c =
    let s = c.args.state.now in
    let none = nothing_in_flight s.history s.flight _ c.requires.tied.ties.sent (search rules) in
    let empty : btree_set_len s.listings ≡ 0 = search rules in
    let closed = none_open s.history s.listings c.requires.tied.cancels.listings_are empty in
    record {
      moved = λ _. first_move s.cluster s.corpus.now s.script.now s.history c.args.ready.now.tasks c.in-Some-copied.task c.requires.known.tasks (search rules) (search rules) none closed c.in-Ok-step_and_refresh.field-0 c.step_and_refresh.new.state.history c.in-Ok-step_and_refresh.ensures.stepped;
      room = λ _. first_has_room s.cluster s.corpus.now s.script.now s.history c.args.ready.now.tasks c.in-Some-copied.task c.requires.known.tasks (search rules) (search rules) c.in-Ok-step_and_refresh.field-0 c.step_and_refresh.new.state.history c.in-Ok-step_and_refresh.ensures.stepped c.in-Ok-step_and_refresh.ensures.room;
      rests = λ e. absurd (moves _ refl e);
      tied = c.in-Ok-step_and_refresh.ensures.tied;
      known = c.in-Ok-step_and_refresh.ensures.known;
      keeps = c.in-Ok-step_and_refresh.ensures.keeps;
      part = tt;
      laws = c.in-Ok-step_and_refresh.ensures.laws;
      stop = tt;
    }

pub returns-in-Err-step_and_refresh : goal.returns-in-Err-step_and_refresh
returns-in-Err-step_and_refresh c =
    let s = c.args.state.now in
    let none = nothing_in_flight s.history s.flight _ c.requires.tied.ties.sent (search rules) in
    let empty : btree_set_len s.listings ≡ 0 = search rules in
    let closed = none_open s.history s.listings c.requires.tied.cancels.listings_are empty in
    record {
      moved = λ e. absurd (fails _ _ e);
      room = λ e. absurd (fails _ _ e);
      rests = λ e. absurd (fails _ _ e);
      tied = tt;
      known = tt;
      keeps = c.in-Err-step_and_refresh.ensures.keeps;
      part = first_part s.cluster s.corpus.now s.script.now s.history c.args.ready.now.tasks c.in-Some-copied.task c.requires.known.tasks (search rules) (search rules) none closed c.step_and_refresh.new.state.history c.in-Err-step_and_refresh.ensures.part;
      laws = c.in-Err-step_and_refresh.ensures.laws;
      stop = stops_as (IsPartly (Steps s.cluster s.corpus.now s.script.now c.in-Some-copied.task) s.history) (IsPartly (FirstMoves s.cluster s.corpus.now s.script.now) s.history) _ _ c.step_and_refresh.new.state.history c.in-Err-step_and_refresh.stop
          (λ past. first_part s.cluster s.corpus.now s.script.now s.history c.args.ready.now.tasks c.in-Some-copied.task c.requires.known.tasks (search rules) (search rules) none closed past) (λ lacks. absurd lacks) c.in-Err-step_and_refresh.ensures.stop;
    }
