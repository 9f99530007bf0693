-- The answers that are due may come, and with them the tables say of the past what they should.
use Rattle.std.proofs.Common.{◌≡◌, ◌&&◌, ◌||◌, ℕ, true, false, Bool, not, List, ◌∷◌, Option, Some, map, refl, sym, ap, subst, ◌∙◌}
use Rattle.std.specs.Prelude.{slice_get}
use Rattle.std.specs.List.{AllByRecursion}
use Rattle.std.specs.BTreeSet.{BTreeSet}
use Rattle.std.specs.FinMap.{FinMap}
use Rattle.task_ids.specs.declared.task_id.TaskId.{TaskId}
use Rattle.task_ids.specs.declared.cluster.Cluster.{Cluster}
use Rattle.task_ids.specs.declared.corpus.Corpus.{Corpus}
use Rattle.task_ids.specs.TaskIdOrder.{task_id_cmp}
use Rattle.task_table.specs.Table.{Table}
use Rattle.cancel_core.specs.Cancellations.{Cancellations}
use Rattle.task_events.specs.declared.event.Event.{Event}
use Rattle.task_events.specs.declared.event.Event.TheVariants.{AnswerPlaced, AnswerDone}
use Rattle.task_events.specs.Tasks.{has_ended}
use Rattle.task_events.specs.Bans.{bans_are_placed}
use Rattle.task_events.specs.Messages.{in_flight}
use Rattle.task_events.specs.Cancels.{is_named, is_answered_placed, is_answered_done}
use Rattle.task_events.specs.Lawful.{AwaitsNoMark, Lawful}
use Rattle.script_lang.specs.declared.command.Script.{Script}
use Rattle.node_parts.specs.declared.running.Running.{Running}
use Rattle.node_parts.specs.declared.listing.Listing.{Listing}
use Rattle.command_roots.specs.Roots.{scripted}
use Rattle.world_moves.specs.declared.flight.Sent.{Sent}
use Rattle.world_moves.specs.Cancels.{named_by, is_answered, is_due, waiting_for, waits_for_end, due_for, left_of, with_answers}
use Rattle.world_moves.specs.Cancelling.{Cancelling}
use Rattle.world_moves.specs.Describing.{Describing}
use Rattle.world_moves.specs.Facts.{facts_of}
use Rattle.world_moves.specs.Flights.{message_of}
use Rattle.world_moves.specs.Plain.{AnswersPlainly}
use Rattle.corpus_shards.specs.Stored.{HasWritten}
use Rattle.corpus_shards.specs.declared.Shards.{Shards}
use Rattle.task_events.specs.declared.request.Request.{Request}
use Rattle.task_events.specs.Asks.{request_of_ask}
use Rattle.world_moves.specs.Good.{IsWithin, so_far}
use Rattle.world_moves.specs.Reads.{Oldest}
use Rattle.world_moves.specs.Ties.{Ties, IsKept, IsTableAt, IsGood}
use Rattle.world_moves.proofs.KeptTasks.{kept_same}
use Rattle.world_moves.proofs.CancelAnswers.{IsAnswerable, answers_appended, answers_keep, all_lawful, answered_after}
use Rattle.world_moves.proofs.DescriptionsAfter.{quiet}
use Rattle.world_moves.proofs.FlightAfter.{all_stay}
use Rattle.world_moves.proofs.NodeTablesSame.{listed_same}
use Rattle.world_moves.proofs.NamedCancels.{is_in, named_in, named_waits, named_found, named_differ, in_filter, filter_differ}
use Rattle.world_moves.proofs.TasksNamed.{through_with}
use Rattle.world_moves.proofs.QuietListings.{quiet_listings}
use Rattle.world_moves.proofs.WaitsAfter.{waits_stay}

-- the cancels that are answered: they named the task, are due, and are not answered yet
pub in_due : (t : TaskId) (h : List Event) (c : ℕ) → is_in c (due_for t h) ≡ ((is_due h c && not (is_answered c h)) && is_named c t h)
in_due t h c = in_filter (λ d. is_due h d && not (is_answered d h)) c (named_by t h) ∙ ap (λ b. (is_due h c && not (is_answered c h)) && b) (named_in c t h)

-- what these tests tell
when_answered : (due placed_once done_once named : Bool) → ((due && not (placed_once || done_once)) && named) ≡ true → (due ≡ true) × (placed_once ≡ false) × (done_once ≡ false) × (named ≡ true)
when_answered true false false true e = (refl, refl, refl, refl)
when_answered _ _ _ _ e = absurd (cc)

when_through : (placed waits_end ended : Bool) → (placed && (not waits_end || ended)) ≡ true → (placed ≡ true) × (waits_end ≡ true → ended ≡ true)
when_through true true true e = (refl, λ w. refl)
when_through true false ended e = (refl, λ w. absurd (cc))
when_through _ _ _ e = absurd (cc)

pub all_through : (c : ℕ) (h : List Event) → is_due h c ≡ true → (u : TaskId) → is_named c u h ≡ true → (bans_are_placed u h ≡ true) × (waits_for_end c h ≡ true → has_ended u h ≡ true)
all_through c h due u named = when_through (bans_are_placed u h) (waits_for_end c h) (has_ended u h) (through_with c u h due named)

answerable : (cluster : Cluster) (t : TaskId) (h : List Event) → Lawful cluster h → (c : ℕ) → is_in c (due_for t h) ≡ true → IsAnswerable (waits_for_end c h) c h
answerable cluster t h l c i = record {
  placed_once = tells.1;
  done_once = tells.2;
  found = named_found cluster c t h l tells.3;
  kind = named_waits c t h tells.3;
  placed = λ u n. (all_through c h tells.0 u n).0;
  ended = λ w u n. (all_through c h tells.0 u n).1 w;
}
  where
    tells : (is_due h c ≡ true) × (is_answered_placed c h ≡ false) × (is_answered_done c h ≡ false) × (is_named c t h ≡ true)
    tells = when_answered (is_due h c) (is_answered_placed c h) (is_answered_done c h) (is_named c t h) (sym (in_due t h c) ∙ i)

-- what one answer leaves as it is, the answers that are due leave
module _ (P : List Event → Type 0) (placed : (c : ℕ) (h : List Event) → P h → P (AnswerPlaced c ∷ h)) (done : (c : ℕ) (h : List Event) → P h → P (AnswerDone c ∷ h)) where
  pub kept : (t : TaskId) (h : List Event) → P h → P (with_answers t h)
  kept t h p = subst P (answers_appended h (due_for t h) h) (answers_keep P placed done h (due_for t h) h p)

-- who is answered after them
pub answered_due : (t : TaskId) (h : List Event) (c : ℕ) → is_answered c (with_answers t h) ≡ (is_answered c h || ((is_due h c && not (is_answered c h)) && is_named c t h))
answered_due t h c =
    let cs = due_for t h in
    ap (is_answered c) (sym (answers_appended h cs h)) ∙ answered_after h cs h c ∙ ap (λ b. is_answered c h || b) (in_due t h c)

-- they name nobody, and nothing more is waited for
pub named_still : (c : ℕ) (u t : TaskId) (h : List Event) → is_named c u (with_answers t h) ≡ is_named c u h
named_still c u t h = kept (λ past. is_named c u past ≡ is_named c u h) (λ d past e. e) (λ d past e. e) t h refl

pub left_still : (c : ℕ) (t : TaskId) (h : List Event) → left_of c (with_answers t h) ≡ left_of c h
left_still c t h = kept (λ past. left_of c past ≡ left_of c h) (λ d past e. e) (λ d past e. e) t h refl

module _ (cluster : Cluster) (t : TaskId) (h : List Event) where
  pub answers_lawful : Lawful cluster h → AwaitsNoMark h → Lawful cluster (with_answers t h)
  answers_lawful l awaits =
      subst (Lawful cluster) (answers_appended h (due_for t h) h)
      (all_lawful cluster h (due_for t h) h (filter_differ (λ c. is_due h c && not (is_answered c h)) (named_by t h) (named_differ cluster t h l)) (answerable cluster t h l) l awaits)

  pub answers_await : AwaitsNoMark h → AwaitsNoMark (with_answers t h)
  answers_await awaits = kept AwaitsNoMark (λ c past a. tt) (λ c past a. tt) t h awaits

  pub answers_tied : (corpus : Corpus) (script : Script) (tasks : TaskId → Option Running) (tables : List Table) (flight : List Sent)
      → Ties cluster corpus script h tasks tables flight → AwaitsNoMark h → Ties cluster corpus script (with_answers t h) tasks tables flight
  answers_tied corpus script tasks tables flight ties awaits = record {
    lawful = answers_lawful ties.lawful awaits;
    kept = kept (λ past. (u : TaskId) → IsKept cluster (so_far corpus script) past u (facts_of (scripted script) u past) (tasks u))
        (λ c past. kept_same cluster corpus (scripted script) (AnswerPlaced c) past tasks refl refl) (λ c past. kept_same cluster corpus (scripted script) (AnswerDone c) past tasks refl refl) t h ties.kept;
    listed = λ place. kept (λ past. IsTableAt cluster place past (slice_get tables place))
        (λ c past. listed_same cluster (AnswerPlaced c) past (λ n. refl) refl place _) (λ c past. listed_same cluster (AnswerDone c) past (λ n. refl) refl place _) t h (ties.listed place);
    sent = kept (λ past. map (message_of past) flight ≡ map Some (in_flight past)) (λ c past. all_stay (AnswerPlaced c) past flight _) (λ c past. all_stay (AnswerDone c) past flight _) t h ties.sent;
    good = kept (λ past. AllByRecursion (IsGood cluster (so_far corpus script past) past) (in_flight past)) (λ c past g. g) (λ c past g. g) t h ties.good;
    within = kept (λ past. (p : TaskId) (k : ℕ) (r : Request) → request_of_ask p k past ≡ Some r → IsWithin cluster (so_far corpus script past) r) (λ c past w. w) (λ c past w. w) t h ties.within;
    plain = kept (AnswersPlainly cluster corpus script) (λ c past p. p) (λ c past p. p) t h ties.plain;
  }

  -- what is written stays
  pub shards_answered : (corpus : Corpus) (script : Script) (oldest : Oldest) (shards : Shards) → HasWritten (so_far corpus script h) cluster.shards oldest shards → HasWritten (so_far corpus script (with_answers t h)) cluster.shards oldest shards
  shards_answered corpus script oldest shards has = kept (λ past. HasWritten (so_far corpus script past) cluster.shards oldest shards) (λ c past x. x) (λ c past x. x) t h has

  pub answers_noted : (tables : List Table) (roots : ℕ → Option TaskId) (bans : List (FinMap task_id_cmp ℕ)) (cores : List Cancellations) (listings : BTreeSet Listing)
      → Cancelling cluster (λ u. waiting_for u h) h tables roots bans cores listings → Cancelling cluster (λ u. waiting_for u (with_answers t h)) (with_answers t h) tables roots bans cores listings
  answers_noted tables roots bans cores listings c =
      kept (λ past. Cancelling cluster (λ u. waiting_for u past) past tables roots bans cores listings) (λ d past. noted_placed d past) (λ d past. noted_done d past) t h c
    where
      noted_placed : (d : ℕ) (past : List Event) → Cancelling cluster (λ u. waiting_for u past) past tables roots bans cores listings → Cancelling cluster (λ u. waiting_for u (AnswerPlaced d ∷ past)) (AnswerPlaced d ∷ past) tables roots bans cores listings
      noted_placed d past n = record { rows_are = n.rows_are; roots_are = n.roots_are; bans_are = n.bans_are; cores_are = n.cores_are; waits_are = λ place. waits_stay place past (AnswerPlaced d ∷ past) _ (quiet_listings (AnswerPlaced d) past refl) (n.waits_are place); listings_are = n.listings_are }

      noted_done : (d : ℕ) (past : List Event) → Cancelling cluster (λ u. waiting_for u past) past tables roots bans cores listings → Cancelling cluster (λ u. waiting_for u (AnswerDone d ∷ past)) (AnswerDone d ∷ past) tables roots bans cores listings
      noted_done d past n = record { rows_are = n.rows_are; roots_are = n.roots_are; bans_are = n.bans_are; cores_are = n.cores_are; waits_are = λ place. waits_stay place past (AnswerDone d ∷ past) _ (quiet_listings (AnswerDone d) past refl) (n.waits_are place); listings_are = n.listings_are }

  pub answers_described : (script : Script) (tables : List Table) (flight : List Sent) (now : ℕ) → Describing script h tables flight now → Describing script (with_answers t h) tables flight now
  answers_described script tables flight now d = kept (λ past. Describing script past tables flight now) (λ c past x. placed c past x) (λ c past x. done c past x) t h d
    where
      placed : (c : ℕ) (past : List Event) → Describing script past tables flight now → Describing script (AnswerPlaced c ∷ past) tables flight now
      placed c past x = quiet script past tables flight now (AnswerPlaced c) refl x

      done : (c : ℕ) (past : List Event) → Describing script past tables flight now → Describing script (AnswerDone c ∷ past) tables flight now
      done c past x = quiet script past tables flight now (AnswerDone c) refl x
