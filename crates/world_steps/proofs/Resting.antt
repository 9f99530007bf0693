-- Where all has settled each live task waits for a moment, or stands above a live task that does. So where none waits for one, nothing is live.
use Rattle.std.proofs.Common.{◌≡◌, ◌≢◌, ◌≤◌, ℕ, Bool, true, false, List, [], length, Option, Some, None, refl, sym, ap, ◌∙◌}
use Rattle.std.specs.Prelude.{is_some}
use Rattle.task_ids.specs.declared.task_id.TaskId.{TaskId}
use Rattle.task_ids.specs.declared.cluster.Cluster.{Cluster}
use Rattle.task_ids.specs.declared.corpus.Corpus.{Corpus}
use Rattle.task_ids.specs.declared.doc.Doc.{Doc}
use Rattle.task_table.specs.Table.{Table}
use Rattle.task_events.specs.declared.event.Event.{Event}
use Rattle.task_events.specs.declared.step.Do.{Do}
use Rattle.task_events.specs.declared.step.Do.TheVariants.{AskNext, Turn, Wait, Finish}
use Rattle.task_events.specs.Asks.{unanswered}
use Rattle.task_events.specs.Bans.{mark_of, listing_is_open}
use Rattle.task_events.specs.Clock.{clock}
use Rattle.task_events.specs.Laws.{IsAtRest, IsLeaf, IsDrained}
use Rattle.task_events.specs.Steps.{event_of}
use Rattle.task_events.specs.Tasks.{is_live, is_new}
use Rattle.task_laws.proofs.Rest.{leaf}
use Rattle.task_work.specs.Works.{next_of, does_wait, due_in}
use Rattle.script_lang.specs.declared.command.Script.{Script}
use Rattle.world_moves.specs.declared.flight.Sent.{Sent}
use Rattle.node_parts.specs.declared.running.Running.{Running}
use Rattle.world_steps.specs.Draining.{due_of}
use Rattle.world_steps.specs.Runs as runs
use Rattle.world_steps.specs.Waits.{EachWaits, WaitsBelow}
use Rattle.world_steps.specs.World.{due_by}
use Rattle.world_moves.specs.Ties.{Ties}
use Rattle.world_moves.proofs.NoneAwaited.{none_to_await}
use Rattle.world_moves.proofs.StepsAfter.{is_kept, runs_of}
use Rattle.world_steps.proofs.FewAsks.{few_asks}
use Rattle.world_steps.proofs.Plans.{laws_at, next_new, next_old, ends_marked, waits_kept, writes_at}

waits_then : (cluster : Cluster) (t : TaskId) (h : List Event) (d : Do) → event_of cluster t h d ≡ None → does_wait d ≡ true
waits_then cluster t h (AskNext request) none = absurd (cc)
waits_then cluster t h Turn none = absurd (cc)
waits_then cluster t h (Wait due) none = refl
waits_then cluster t h (Finish reply) none = absurd (cc)

due_plain : (r : Running) (writes : List Doc) (now : ℕ) → r.is_new ≡ false → r.track.closed ≡ None → due_by r writes now ≡ due_in (next_of r.work writes now)
due_plain r writes now n m = rw (n, m) refl

some_moment : (o : Option ℕ) → is_some o ≡ true → (moment : ℕ) × (o ≡ Some moment)
some_moment None e = absurd (cc)
some_moment (Some moment) e = (moment, refl)

module _ (cluster : Cluster) (corpus : Corpus) (script : Script) (h : List Event) (tasks : TaskId → Option Running) (tables : List Table) (flight : List Sent) (ties : Ties cluster corpus script h tasks tables flight) where
  -- a task with no ask unanswered waits for a moment, if it waits
  leaf_waits : length h ≤ 4000000 → (u : TaskId) → IsLeaf u h → runs.next_of cluster corpus script u h ≡ None → (moment : ℕ) × (due_of cluster corpus script u h ≡ Some moment)
  leaf_waits room u l none = by_kept (tasks u) refl
    where
      by_kept : (o : Option Running) → tasks u ≡ o → (moment : ℕ) × (due_of cluster corpus script u h ≡ Some moment)
      by_kept None e = absurd (is_kept cluster corpus script h tasks tables flight ties u l.live e)
      by_kept (Some r) e =
          let writes = writes_at cluster corpus script h tasks tables flight ties u in
          let laws = laws_at cluster corpus script h tasks tables flight ties u l.live l.passed r e in
          let kept = runs_of cluster corpus script h tasks tables flight ties u r e in
          let waits = waits_then cluster u h (next_of r.work writes (clock h)) (sym (next_old cluster corpus script h tasks tables flight ties u l.live l.passed l.unmarked r e) ∙ none) in
          let found = some_moment (due_in (next_of r.work writes (clock h))) (sym (laws.moves (few_asks cluster u h ties.lawful room (none_to_await cluster u h ties.lawful l.answered)) writes (clock h) (none_to_await cluster u h ties.lawful l.answered)) ∙ waits) in
          (found.0, waits_kept cluster corpus script h tasks tables flight ties u l.live r e ∙ due_plain r writes (clock h) (kept.new ∙ l.passed) (ap (λ track. track.closed) kept.track ∙ l.unmarked) ∙ found.1)

  closed : runs.IsSettled cluster corpus script h → (n : ℕ) (p : TaskId) → listing_is_open n p h ≡ false
  closed s n p = s.no_listing (record { node = n; parent = p })

  at_rest : runs.IsSettled cluster corpus script h → IsAtRest h
  at_rest s = record {
    nothing_in_flight = s.nothing_in_flight;
    no_listing = closed s;
    no_first_step = λ t l. not_new t l (is_new t h) refl;
    no_cancelled_end = λ t l marked. waits_for_answers t l (mark_of t h) refl marked;
  }
    where
      not_new : (t : TaskId) → is_live t h ≡ true → (b : Bool) → is_new t h ≡ b → is_new t h ≡ false
      not_new t l false n = n
      not_new t l true n = absurd (let waits = s.all_wait t l in let moves = next_new cluster corpus script h tasks tables flight ties t n in cc)

      -- a marked task with all answers would end
      waits_for_answers : (t : TaskId) → is_live t h ≡ true → (o : Option ℕ) → mark_of t h ≡ o → o ≢ None → unanswered t h ≢ []
      waits_for_answers t l None m marked = absurd (marked refl)
      waits_for_answers t l (Some c) m marked = λ none.
          let ends = ends_marked cluster corpus script h tasks tables flight ties t c (not_new t l (is_new t h) refl) m none in
          let waits = s.all_wait t l in
          cc

  pub each_waits : length h ≤ 4000000 → runs.IsSettled cluster corpus script h → EachWaits cluster corpus script h
  each_waits room s t live =
      let found = leaf cluster h ties.lawful (at_rest s) t live in
      let waits = leaf_waits room found.0 found.1 (s.all_wait found.0 found.1.live) in
      (found.0, waits.0, found.2, waits.1)

  pub drained : length h ≤ 4000000 → runs.IsSettled cluster corpus script h → ((t : TaskId) → due_of cluster corpus script t h ≡ None) → IsDrained h
  drained room s none_due = record { nothing_in_flight = s.nothing_in_flight; no_listing = closed s; nothing_live = λ t. gone t (is_live t h) refl }
    where
      none_below : (t : TaskId) → WaitsBelow cluster corpus script t h → ⊥
      none_below t (u, moment, below, due) = let never = none_due u in cc

      gone : (t : TaskId) (b : Bool) → is_live t h ≡ b → is_live t h ≡ false
      gone t false e = e
      gone t true e = absurd (none_below t (each_waits room s t e))
