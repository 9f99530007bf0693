-- No shard of a search failed to which nothing happened.
use Rattle.std.proofs.Common.{◌≡◌, ◌≢◌, ◌⊎◌, ◌<◌, ◌≤◌, ℕ, Bool, true, false, cond, List, [], ◌∷◌, length, Option, Some, None, option_map, inl, inr, refl, sym, ap, subst, ◌∙◌, arith}
use Rattle.std.specs.Prelude.{◌==◌, option_and_then, filter_map}
use Rattle.std.specs.Option.{option_or}
use Rattle.std.proofs.lemmas.Bool.{cases_lt, ne_eqb}
use Rattle.task_ids.specs.declared.cluster.Cluster.{Cluster}
use Rattle.task_ids.specs.declared.corpus.Corpus.{Corpus}
use Rattle.task_ids.specs.declared.doc.Doc.{Doc}
use Rattle.task_ids.specs.declared.task_id.TaskId.{TaskId}
use Rattle.task_events.specs.declared.event.Event.{Event}
use Rattle.task_events.specs.declared.event.Event.TheVariants.{Root, Put, Reject, Refuse, Mark, End}
use Rattle.task_events.specs.declared.reply.SearchReply.{SearchReply}
use Rattle.task_events.specs.declared.reply.Counts.{Counts}
use Rattle.task_events.specs.declared.reply.Reply.{Reply}
use Rattle.task_events.specs.declared.reply.Reply.TheVariants.{Search, Top, Hits, AllFailed, Wrote, Cancelled, Rejected}
use Rattle.task_events.specs.declared.request.Request.{Request}
use Rattle.task_events.specs.declared.request.Request.TheVariants as asks
use Rattle.task_events.specs.declared.request.SearchAsk.{SearchAsk}
use Rattle.task_events.specs.Allowed.{cancellation_in}
use Rattle.std.proofs.lemmas.List.FromFn.{length-map-range_with_len}
use Rattle.task_events.specs.declared.context.Context.{Context}
use Rattle.task_events.specs.declared.reading.ShardRead.{ShardRead}
use Rattle.task_events.specs.declared.reading.ShardRead.TheVariants.{Newest}
use Rattle.task_events.specs.declared.reply.ShardCount.{ShardCount}
use Rattle.task_events.specs.Answers.{plain_answer}
use Rattle.task_events.specs.Contexts.{page_of}
use Rattle.task_events.specs.Readings.{Reading, search_reading, shard_read}
use Rattle.task_events.specs.Asks.{answer_of, rejection_of}
use Rattle.task_events.specs.Bans.{mark_of}
use Rattle.task_events.specs.Documents.{writes_of}
use Rattle.task_events.specs.Lawful.{Lawful}
use Rattle.task_events.specs.Laws.{CancelsWithCause}
use Rattle.task_events.specs.Same.{same_task}
use Rattle.task_events.specs.Searches.{failure_in}
use Rattle.task_events.specs.Requests.{request_of}
use Rattle.task_events.specs.Tasks.{child_of, last_number, parent_of, refusal_of, reply_of}
use Rattle.task_laws.proofs.Asks.{ask_facts}
use Rattle.task_laws.proofs.Content.{answer_facts}
use Rattle.task_laws.proofs.Counts.{is_for}
use Rattle.task_laws.proofs.Same.{same_task_tells, same_tests}
use Rattle.script_lang.specs.declared.command.Script.{Script}
use Rattle.task_events.specs.Steps.{counted}
use Rattle.world_moves.specs.Good.{so_far}
use Rattle.world_moves.specs.Plain.{AnswersPlainly, EndsPlainly, IsPlainReply}
use Rattle.command_roots.specs.Roots.{scripted}
use Rattle.task_events.specs.ShardOutcomes.{ask_for, answered_shards, failure_told, why_failed, is_query_of, is_fetch_of}
use Rattle.task_top.specs.Unharmed.{IsUnharmed, IsWholeAnswer}

-- ---- what is unharmed was so before

module _ (cluster : Cluster) (t : TaskId) where
  mark_before : (e : Event) (h : List Event) (u : TaskId) → mark_of u (e ∷ h) ≡ None → mark_of u h ≡ None
  mark_before (Mark v c) h u e = grind (arith, same_tests)
  mark_before _ h u e = e

  refusal_before : (e : Event) (h : List Event) (u : TaskId) → refusal_of u (e ∷ h) ≡ None → refusal_of u h ≡ None
  refusal_before (Refuse v c) h u e = grind (arith, same_tests)
  refusal_before _ h u e = e

  rejection_before : (e : Event) (h : List Event) (k : ℕ) → rejection_of t k (e ∷ h) ≡ None → rejection_of t k h ≡ None
  rejection_before (Reject n p j) h k e = grind (arith, same_tests)
  rejection_before _ h k e = e

  parent_still : (e : Event) (h : List Event) → Lawful cluster (e ∷ h) → (u : TaskId) → parent_of u h ≡ Some t → parent_of u (e ∷ h) ≡ Some t
  parent_still (Put v p k) h l u e = let next = l.0.takes.next in grind (arith, same_tests, (ask_facts cluster h l.1).child_is_born u t e)
  parent_still _ h l u e = e

  pub unharmed_before : (e : Event) (h : List Event) → Lawful cluster (e ∷ h) → IsUnharmed t (e ∷ h) → IsUnharmed t h
  unharmed_before e h l unharmed = record {
    unmarked = mark_before e h t unharmed.unmarked;
    not_refused = refusal_before e h t unharmed.not_refused;
    children_unmarked = λ u child. mark_before e h u (unharmed.children_unmarked u (parent_still e h l u child));
    children_not_refused = λ u child. refusal_before e h u (unharmed.children_not_refused u (parent_still e h l u child));
    none_rejected = λ k. rejection_before e h k (unharmed.none_rejected k);
  }

-- ---- nothing failed

parent_from : (o : Option TaskId) (p : TaskId) (k j : ℕ) → is_for p k o j ≡ true → o ≡ Some p
parent_from None p k j e = absurd (cc)
parent_from (Some q) p k j e = let same : q ≡ p = grind (arith, same_tests) in ap Some same

module _ (cluster : Cluster) (t : TaskId) (h : List Event) (lawful : Lawful cluster h) (causes : CancelsWithCause h) (unharmed : IsUnharmed t h) where
  is_parent : (k : ℕ) (u : TaskId) → child_of t k h ≡ Some u → parent_of u h ≡ Some t
  is_parent k u child = parent_from _ t k _ ((ask_facts cluster h lawful).child_knows t k u child)

  -- a child was not cancelled
  not_cancelled : (k : ℕ) (u : TaskId) → child_of t k h ≡ Some u → (v : TaskId) (c : ℕ) (reply : Reply) → reply_of u h ≡ Some reply → cancellation_in reply ≡ Some (v, c) → ⊥
  not_cancelled k u child v c reply replied cancelled =
      let parent = is_parent k u child in
      let unmarked = unharmed.children_unmarked u parent in
      let told = causes.ended_reply u reply replied (unharmed.children_not_refused u parent) in
      let none : cancellation_in reply ≡ None = told ∙ ap (option_map (λ d. (u, d))) unmarked in
      cc

  by_reply : (k : ℕ) (u : TaskId) → child_of t k h ≡ Some u → (o : Option Reply) → reply_of u h ≡ o → option_and_then failure_in o ≡ None
  by_reply k u child None e = refl
  by_reply k u child (Some (Search reply)) e = refl
  by_reply k u child (Some (AllFailed failed)) e = refl
  by_reply k u child (Some (Top top)) e = refl
  by_reply k u child (Some (Hits hits)) e = refl
  by_reply k u child (Some (Wrote counts)) e = refl
  by_reply k u child (Some (Cancelled v c counts)) e = absurd (not_cancelled k u child v c (Cancelled v c counts) e refl)
  by_reply k u child (Some (Rejected n)) e = absurd (let none = causes.no_rejection u (Rejected n) e in cc)

  by_child : (k : ℕ) (o : Option TaskId) → child_of t k h ≡ o → option_and_then failure_in (option_and_then (λ u. reply_of u h) o) ≡ None
  by_child k None e = refl
  by_child k (Some u) e = by_reply k u e (reply_of u h) refl

  none_for : (o : Option ℕ) → option_and_then failure_in (option_and_then (λ k. answer_of t k h) o) ≡ None
  none_for None = refl
  none_for (Some k) = let none = unharmed.none_rejected k in rw none (by_child k (child_of t k h) refl)

  no_cause : (shard : ℕ) → why_failed t h shard ≡ None
  no_cause shard = λ i. option_or (none_for (ask_for (is_query_of shard) t h) i) (none_for (ask_for (is_fetch_of shard) t h) i)

  none_among : (shards : List ShardRead) → filter_map (λ at. failure_told t h (shard_read at)) shards ≡ []
  none_among [] = refl
  none_among (at ∷ shards) = rw (no_cause (shard_read at)) (none_among shards)

  whole : (r : Reading) (writes : ℕ → List Doc) (answered : List ShardCount) → 1 ≤ length r.shards → IsWholeAnswer (plain_answer r writes answered [])
  whole r writes answered low = by_count (0 == length r.shards) (ne_eqb 0 (length r.shards) (λ e. omega arith)) _ refl
    where
      by_count : (b : Bool) → b ≡ false → (reply : SearchReply) → reply.failed ≡ [] → IsWholeAnswer (cond b (AllFailed []) (Search reply))
      by_count true is reply none = absurd (cc)
      by_count false is reply none = none

  pub whole_answer : (look : List Event → Corpus) (ask : SearchAsk) (reply : Reply) → IsPlainReply cluster look t (search_reading t ask cluster.shards) h reply → IsWholeAnswer reply
  whole_answer look ask reply plain =
      let r = search_reading t ask cluster.shards in
      let writes = writes_of (look h) cluster.shards ask.index in
      let answer : reply ≡ plain_answer r writes (answered_shards r writes t h) [] = plain.answer ∙ ap (plain_answer r writes (answered_shards r writes t h)) (none_among r.shards) in
      let many : length r.shards ≡ cluster.shards = length-map-range_with_len Newest 0 cluster.shards in
      subst IsWholeAnswer (sym answer) (whole r writes (answered_shards r writes t h) (omega (arith, many, cluster.shards_in_range.0)))

-- ---- each search

module _ (cluster : Cluster) (corpus : Corpus) (script : Script) (causes : (h : List Event) → Lawful cluster h → CancelsWithCause h) (t : TaskId) where
  -- a task that has replied has a number that was given
  replied_born : (h : List Event) → Lawful cluster h → (reply : Reply) → reply_of t h ≡ Some reply → t.number ≤ last_number t.node h
  replied_born h l reply e = by_case (cases_lt (last_number t.node h) t.number)
    where
      by_case : (last_number t.node h < t.number) ⊎ (t.number ≤ last_number t.node h) → t.number ≤ last_number t.node h
      by_case (inr low) = low
      by_case (inl past) =
          let ended = (answer_facts cluster h l).reply_ended t reply e in
          let not_ended = (ask_facts cluster h l).unborn_ended t past in
          absurd (cc)

  -- what it was asked to do was known when it ended
  asked_then : (e : Event) (h : List Event) → Lawful cluster (e ∷ h) → (reply : Reply) → reply_of t h ≡ Some reply → request_of (scripted script) t (e ∷ h) ≡ request_of (scripted script) t h
  asked_then (Root c u) h l reply e = let next = l.0.takes.next in grind (arith, same_tests, replied_born h l.1 reply e)
  asked_then (Put u p k) h l reply e = let next = l.0.takes.next in grind (arith, same_tests, replied_born h l.1 reply e)
  asked_then _ h l reply e = refl

  at_its_end : (h : List Event) → Lawful cluster h → IsUnharmed t h → (mark : Option ℕ) → mark_of t h ≡ mark → (request : Option Request) (ask : SearchAsk) → request ≡ Some (asks.Search ask)
      → (page : Option Context) (counts : Counts) (reply : Reply) → EndsPlainly cluster (so_far corpus script) t page mark counts request h reply → IsWholeAnswer reply
  at_its_end h l unharmed (Some c) e request ask asked page counts reply plain = absurd (let none = unharmed.unmarked in cc)
  at_its_end h l unharmed None e None ask asked page counts reply plain = absurd (cc)
  at_its_end h l unharmed None e (Some (asks.Search other)) ask asked page counts reply plain = whole_answer cluster t h l (causes h l) unharmed (so_far corpus script) other reply plain
  at_its_end h l unharmed None e (Some (asks.Query other)) ask asked page counts reply plain = absurd (cc)
  at_its_end h l unharmed None e (Some (asks.Fetch other)) ask asked page counts reply plain = absurd (cc)
  at_its_end h l unharmed None e (Some (asks.Reindex other)) ask asked page counts reply plain = absurd (cc)
  at_its_end h l unharmed None e (Some (asks.Slice other)) ask asked page counts reply plain = absurd (cc)
  at_its_end h l unharmed None e (Some (asks.Bulk other)) ask asked page counts reply plain = absurd (cc)
  at_its_end h l unharmed None e (Some (asks.BulkShard other)) ask asked page counts reply plain = absurd (cc)
  at_its_end h l unharmed None e (Some (asks.Scroll other)) ask asked page counts reply plain = absurd (cc)

  -- one event more
  step : (e : Event) (h : List Event) → Lawful cluster (e ∷ h) → AnswersPlainly cluster corpus script (e ∷ h) → (ask : SearchAsk) (reply : Reply) → request_of (scripted script) t (e ∷ h) ≡ Some (asks.Search ask) → reply_of t (e ∷ h) ≡ Some reply
      → IsUnharmed t (e ∷ h) → IsUnharmed t h → (AnswersPlainly cluster corpus script h → request_of (scripted script) t h ≡ Some (asks.Search ask) → reply_of t h ≡ Some reply → IsWholeAnswer reply) → IsWholeAnswer reply
  step (End u r) h l plain ask reply asked replied now before earlier = by_task (same_task_tells t u)
    where
      by_task : ((same_task t u ≡ true) × (t ≡ u)) ⊎ ((same_task t u ≡ false) × (t ≢ u)) → IsWholeAnswer reply
      by_task (inl (is_one, same)) =
          let given : Some r ≡ Some reply = rw is_one at replied in
          let it : r ≡ reply = cc in
          let mine : EndsPlainly cluster (so_far corpus script) t (page_of (scripted script) t h) (mark_of t h) (counted cluster corpus (scripted script) t h) (request_of (scripted script) t h) h r = subst (λ v. EndsPlainly cluster (so_far corpus script) v (page_of (scripted script) v h) (mark_of v h) (counted cluster corpus (scripted script) v h) (request_of (scripted script) v h) h r) (sym same) plain.0 in
          subst IsWholeAnswer it (at_its_end h l.1 before (mark_of t h) refl (request_of (scripted script) t h) ask asked (page_of (scripted script) t h) (counted cluster corpus (scripted script) t h) r mine)
      by_task (inr (differs, apart)) = earlier plain.1 asked (rw differs at replied)
  step (Refuse u c) h l plain ask reply asked replied now before earlier = by_task (same_task_tells t u)
    where
      by_task : ((same_task t u ≡ true) × (t ≡ u)) ⊎ ((same_task t u ≡ false) × (t ≢ u)) → IsWholeAnswer reply
      by_task (inl (is_one, same)) = absurd (let refused = rw is_one at now.not_refused in cc)
      by_task (inr (differs, apart)) = earlier plain asked (rw differs at replied)
  step (Root c u) h l plain ask reply asked replied now before earlier = earlier plain (sym (asked_then (Root c u) h l reply replied) ∙ asked) replied
  step (Put u p k) h l plain ask reply asked replied now before earlier = earlier plain (sym (asked_then (Put u p k) h l reply replied) ∙ asked) replied
  step _ h l plain ask reply asked replied now before earlier = earlier plain asked replied

  pub answers_wholly : (h : List Event) → Lawful cluster h → AnswersPlainly cluster corpus script h → (ask : SearchAsk) (reply : Reply) → request_of (scripted script) t h ≡ Some (asks.Search ask) → reply_of t h ≡ Some reply → IsUnharmed t h → IsWholeAnswer reply
  answers_wholly [] l plain ask reply asked replied unharmed = absurd (cc)
  answers_wholly (e ∷ h) l plain ask reply asked replied unharmed =
      let before = unharmed_before cluster t e h l unharmed in
      step e h l plain ask reply asked replied unharmed before (λ p a r. answers_wholly h l.1 p ask reply a r before)
