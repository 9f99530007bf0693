-- What is read after an event is read no lower than before.
use Rattle.std.proofs.Common.{◌≡◌, ◌≢◌, ◌⊎◌, ◌≤◌, ◌+◌, ℕ, Bool, true, false, cond, List, [], ◌∷◌, length, Option, Some, None, refl, sym, ap, subst, ◌∙◌, inl, inr, arith}
use Rattle.std.specs.Prelude.{slice_get, option_and_then, ⊤}
use Rattle.std.specs.Option.{option_or}
use Rattle.task_ids.specs.declared.task_id.TaskId.{TaskId}
use Rattle.task_ids.specs.declared.cluster.Cluster.{Cluster}
use Rattle.task_ids.specs.declared.corpus.Corpus.{Corpus}
use Rattle.script_lang.specs.declared.command.Script.{Script}
use Rattle.task_events.specs.declared.context.Context.{Context}
use Rattle.task_events.specs.declared.event.Event.{Event}
use Rattle.task_events.specs.declared.event.Event.TheVariants.{Begin, Root, Ask, Put, Reject, Pass, Refuse, Work, Write, End, AnswerPlaced, AnswerDone, Tick}
use Rattle.task_events.specs.declared.event.Outcome.{Outcome}
use Rattle.task_events.specs.declared.reply.Counts.{Counts}
use Rattle.task_events.specs.declared.reply.Reply.{Reply}
use Rattle.task_events.specs.declared.reply.Reply.TheVariants as replies
use Rattle.task_events.specs.declared.reply.SearchReply.{SearchReply}
use Rattle.task_events.specs.declared.reply.ShardCount.{ShardCount}
use Rattle.task_events.specs.declared.reply.ShardTop.{ShardTop}
use Rattle.task_events.specs.declared.request.Request.{Request}
use Rattle.task_events.specs.declared.request.Request.TheVariants as asks
use Rattle.task_events.specs.declared.request.SearchAsk.{SearchAsk}
use Rattle.task_events.specs.declared.request.ShardAsk.{ShardAsk}
use Rattle.task_events.specs.declared.request.WriteNote.{WriteNote}
use Rattle.task_events.specs.Asks.{last_ask, request_of_ask, rejection_of, answer_or, answer_of}
use Rattle.task_events.specs.Clock.{clock}
use Rattle.task_events.specs.Contexts.{after_end, asked_page, context_at, page_of}
use Rattle.task_events.specs.Lawful.{Lawful}
use Rattle.task_events.specs.Requests.{request_of}
use Rattle.task_events.specs.Same.{same_task, same_pair}
use Rattle.task_events.specs.Steps.{before_first_turn}
use Rattle.task_events.specs.Tasks.{is_live, last_number, parent_of, ask_of, child_of, reply_of}
use Rattle.task_events.specs.Written.{with_notes}
use Rattle.task_laws.proofs.Asks.{AskFacts, ask_facts}
use Rattle.task_laws.proofs.Content.{answer_facts}
use Rattle.task_laws.proofs.Same.{same_task_tells, same_pair_tells, same_tests}
use Rattle.search_phase.proofs.Sorting.{by_test}
use Rattle.command_roots.specs.Roots.{scripted}
use Rattle.world_moves.specs.Cancels.{with_answers}
use Rattle.world_moves.specs.Facts.{Facts, facts_of}
use Rattle.world_moves.specs.Good.{written, so_far}
use Rattle.world_moves.specs.Moves.{MayLeave}
use Rattle.world_moves.specs.Reads.{Oldest, KeepsFrom, ReadsFrom}
use Rattle.world_moves.proofs.AsksAfter.{answer_asked}
use Rattle.world_moves.proofs.CancelAnswersAfter.{kept}
use Rattle.world_moves.proofs.Children.{child_request}
use Rattle.world_moves.proofs.ContextsPast.{begun_there, unexpired_there, left_owned, taken_there, ended_there, WasThere, IsOpened}
use Rattle.world_moves.proofs.Growing.{few_grown}
use Rattle.world_moves.proofs.PagesAfter.{growing}
use Rattle.world_moves.proofs.ReadInTime.{put_for}
use Rattle.world_moves.proofs.UnbornTasks.{blank, unborn}
use Rattle.world_moves.proofs.WritesAfter.{notes_keep}

-- What a task replies that ends now is no lower either: what a query found, and what a search found, whose context may keep it.
pub record RepliesFrom (oldest : Oldest) (request : Option Request) (reply : Reply) : Type 0 where
  pub top : (ask : ShardAsk) (top : ShardTop) → request ≡ Some (asks.Query ask) → reply ≡ replies.Top top → oldest ask.index ask.shard ≤ top.version
  pub found : (ask : SearchAsk) (found : SearchReply) → request ≡ Some (asks.Search ask) → reply ≡ replies.Search found → (place : ℕ) (n : ShardCount) → slice_get found.shards place ≡ Some n → oldest ask.index n.shard ≤ n.version

-- A task that starts has the next number, and an ask is the next one of its task; so nothing was read for them before.
abbrev pub LeavesReads : Oldest → Script → Event → List Event → Type 0
LeavesReads oldest script (Root k t) h = t.number ≡ last_number t.node h + 1
LeavesReads oldest script (Put t p k) h = t.number ≡ last_number t.node h + 1
LeavesReads oldest script (Ask p k n r) h = k ≡ last_ask p h + 1
LeavesReads oldest script (End t reply) h = RepliesFrom oldest (request_of (scripted script) t h) reply
LeavesReads oldest script _ h = ⊤

-- a task that a cancellation has stopped tells of nothing that it read
pub leaver_reads : (oldest : Oldest) (script : Script) (counts : Counts) (t : TaskId) (h : List Event) (e : Event) → MayLeave counts t e h → LeavesReads oldest script e h
leaver_reads oldest script counts t h (Refuse u c) m = tt
leaver_reads oldest script counts t h (End u reply) m = record {
  top = λ ask top asked is. absurd (let f : replies.Cancelled t m.1.0 counts ≡ replies.Top top = sym m.1.1 ∙ is in cc);
  found = λ ask found asked is place n at. absurd (let f : replies.Cancelled t m.1.0 counts ≡ replies.Search found = sym m.1.1 ∙ is in cc);
}
leaver_reads oldest script counts t h _ m = absurd m

-- an ask for something is one of those that the task has made
asked_within : (cluster : Cluster) (h : List Event) → Lawful cluster h → (p : TaskId) (k : ℕ) (child : Request) → request_of_ask p k h ≡ Some child → (1 ≤ k) × (k ≤ last_ask p h)
asked_within cluster [] l p k child e = absurd (cc)
asked_within cluster (Ask q j n made ∷ h) l p k child e = by_pair (same_pair_tells p k q j) (asked_within cluster h l.1 p k child)
  where
    by_pair : ((same_pair p k q j ≡ true) × (p ≡ q) × (k ≡ j)) ⊎ ((same_pair p k q j ≡ false) × (p ≡ q → k ≢ j)) → (request_of_ask p k h ≡ Some child → (1 ≤ k) × (k ≤ last_ask p h)) → (1 ≤ k) × (k ≤ last_ask p (Ask q j n made ∷ h))
    by_pair (inl (one, same, number)) before = (let next = l.0.next in omega (arith, next, number), grind (arith, same_tests))
    by_pair (inr (other, apart)) before = let was = before (rw other at e) in (was.0, grind (arith, same_tests, was.1, l.0.next))
asked_within cluster (_ ∷ h) l p k child e = asked_within cluster h l.1 p k child e

module _ (oldest : Oldest) (cluster : Cluster) (corpus : Corpus) (script : Script) (h : List Event) (reads : ReadsFrom oldest cluster corpus script h) where
  -- what was written stays
  low_after : (e : Event) (index : List ℕ) (shard : ℕ) → oldest index shard ≤ length (written cluster (so_far corpus script (e ∷ h)) index shard)
  low_after e index shard =
      let more = growing cluster corpus script h e index shard in
      few_grown (oldest index shard) (written cluster (so_far corpus script h) index shard) (written cluster (so_far corpus script (e ∷ h)) index shard) more.0 more.1 (reads.low index shard)

  -- ---- events after which tasks and contexts are as before

  written_reads : (index : List ℕ) (shard : ℕ) (outcome : Outcome) (id : List ℕ) → ReadsFrom oldest cluster corpus script (Write index shard outcome id ∷ h)
  written_reads index shard outcome id = record { low = low_after (Write index shard outcome id); begun = reads.begun; tops = reads.tops; contexts = reads.contexts; pages = reads.pages }

  placed_reads : (c : ℕ) → ReadsFrom oldest cluster corpus script (AnswerPlaced c ∷ h)
  placed_reads c = record { low = reads.low; begun = reads.begun; tops = reads.tops; contexts = reads.contexts; pages = reads.pages }

  done_reads : (c : ℕ) → ReadsFrom oldest cluster corpus script (AnswerDone c ∷ h)
  done_reads c = record { low = reads.low; begun = reads.begun; tops = reads.tops; contexts = reads.contexts; pages = reads.pages }

  -- ---- contexts

  -- what a context keeps it kept before
  were : (id : TaskId) (c : Context) → WasThere (context_at (scripted script) id h) c → KeepsFrom oldest c
  were id c (d, was, own, shards, ask) place n at = rw ask (reads.contexts id d was place n (rw shards at at))

  contexts_after : (e : Event) → LeavesReads oldest script e h → (id : TaskId) (c : Context) → context_at (scripted script) id (e ∷ h) ≡ Some c → KeepsFrom oldest c
  contexts_after (Begin k) above id c is = reads.contexts id c (begun_there ((scripted script).clears k h) id (context_at (scripted script) id h) c is)
  contexts_after (Root k t) above id c is = were id c (taken_there (clock h) t ((scripted script).root k h) id (context_at (scripted script) id h) c is)
  contexts_after (Pass t) above id c is = were id c (taken_there (clock h) t (request_of (scripted script) t h) id (context_at (scripted script) id h) c is)
  contexts_after (Tick ms) above id c is = reads.contexts id c (unexpired_there (clock h + ms) (context_at (scripted script) id h) c is)
  contexts_after (End t reply) above id c is =
      of_end (ended_there (clock h) t (request_of (scripted script) t h) reply id (context_at (scripted script) id h) c (left_owned t (after_end (clock h) t (request_of (scripted script) t h) reply id (context_at (scripted script) id h)) c is))
    where
      of_end : IsOpened (clock h) t (request_of (scripted script) t h) reply id c ⊎ WasThere (context_at (scripted script) id h) c → KeepsFrom oldest c
      of_end (inl (ask, found, request, good, same, this)) = subst (KeepsFrom oldest) (sym this) (above.found ask found request good)
      of_end (inr was) = were id c was
  contexts_after _ above id c is = reads.contexts id c is

  -- the context of which a request asks for a page
  page_asked : (o : Option Request) (c : Context) → asked_page (λ id. context_at (scripted script) id h) o ≡ Some c → KeepsFrom oldest c
  page_asked (Some (asks.Scroll ask)) c is = reads.contexts ask.id c is
  page_asked (Some (asks.Search ask)) c is = absurd (cc)
  page_asked (Some (asks.Query ask)) c is = absurd (cc)
  page_asked (Some (asks.Fetch ask)) c is = absurd (cc)
  page_asked (Some (asks.Reindex ask)) c is = absurd (cc)
  page_asked (Some (asks.Slice ask)) c is = absurd (cc)
  page_asked (Some (asks.Bulk ask)) c is = absurd (cc)
  page_asked (Some (asks.BulkShard ask)) c is = absurd (cc)
  page_asked None c is = absurd (cc)

  -- a task that is live after another has left was live
  still_live : (t u : TaskId) (b : Bool) → same_task t u ≡ b → cond b false (is_live t h) ≡ true → is_live t h ≡ true
  still_live t u true e l = absurd (cc)
  still_live t u false e l = l

  module _ (lawful : Lawful cluster h) where
    facts : AskFacts h
    facts = ask_facts cluster h lawful

    -- ---- a task that starts now

    nothing_yet : (t u : TaskId) → t ≡ u → u.number ≡ last_number u.node h + 1 → facts_of (scripted script) t h ≡ blank
    nothing_yet t u same next = subst (λ v. facts_of (scripted script) v h ≡ blank) (sym same) (unborn cluster u (scripted script) h lawful (omega (arith, next)))

    -- has asked for nothing
    not_asked : (t u : TaskId) (k : ℕ) (r : Request) → t ≡ u → u.number ≡ last_number u.node h + 1 → request_of_ask t k h ≡ Some r → ⊥
    not_asked t u k r same next e =
        let made = asked_within cluster h lawful t k r e in
        let none : last_ask t h ≡ 0 = subst (λ v. last_ask v h ≡ 0) (sym same) (facts.unborn_asks u (omega (arith, next))) in
        omega (arith, made.0, made.1, none)

    -- and has not ended
    no_reply : (u : TaskId) (reply : Reply) → u.number ≡ last_number u.node h + 1 → reply_of u h ≡ Some reply → ⊥
    no_reply u reply next e =
        let ended = (answer_facts cluster h lawful).reply_ended u reply e in
        let f : false ≡ true = sym (facts.unborn_ended u (omega (arith, next))) ∙ ended in
        cc

    -- ---- turns

    abbrev ReadAt : ShardAsk → List Event → Type 0
    ReadAt ask past = oldest ask.index ask.shard ≤ length (written cluster (so_far corpus script past) ask.index ask.shard)

    begun_after : (e : Event) → LeavesReads oldest script e h → (t : TaskId) (ask : ShardAsk) (past : List Event) → is_live t (e ∷ h) ≡ true → request_of (scripted script) t (e ∷ h) ≡ Some (asks.Query ask) → before_first_turn t (e ∷ h) ≡ Some past → ReadAt ask past
    begun_after (Root k u) above t ask past l q b = by_case (same_task_tells t u)
      where
        by_case : ((same_task t u ≡ true) × (t ≡ u)) ⊎ ((same_task t u ≡ false) × (t ≢ u)) → ReadAt ask past
        by_case (inl (is_one, same)) = absurd (let none : None ≡ Some past = sym (ap (λ (f : Facts). f.began) (nothing_yet t u same above)) ∙ b in cc)
        by_case (inr (differs, apart)) = reads.begun t ask past (rw differs at l) (rw differs at q) b
    begun_after (Put u p k) above t ask past l q b = by_case (same_task_tells t u)
      where
        by_case : ((same_task t u ≡ true) × (t ≡ u)) ⊎ ((same_task t u ≡ false) × (t ≢ u)) → ReadAt ask past
        by_case (inl (is_one, same)) = absurd (let none : None ≡ Some past = sym (ap (λ (f : Facts). f.began) (nothing_yet t u same above)) ∙ b in cc)
        by_case (inr (differs, apart)) = reads.begun t ask past (rw differs at l) (rw differs at q) b
    begun_after (Refuse u c) above t ask past l q b = reads.begun t ask past (still_live t u (same_task t u) refl l) q b
    begun_after (End u reply) above t ask past l q b = reads.begun t ask past (still_live t u (same_task t u) refl l) q b
    begun_after (Work u) above t ask past l q b = by_test (same_task t u) (λ same. first (before_first_turn t h) refl (rw same at b)) (λ differs. reads.begun t ask past l q (rw differs at b))
      where
        first : (o : Option (List Event)) → before_first_turn t h ≡ o → option_or o (Some h) ≡ Some past → ReadAt ask past
        first None e is = let this : h ≡ past = cc in subst (ReadAt ask) this (reads.low ask.index ask.shard)
        first (Some before) e is = let this : before ≡ past = cc in reads.begun t ask past l q (e ∙ ap Some this)
    begun_after _ above t ask past l q b = reads.begun t ask past l q b

    -- ---- answers

    abbrev IsOver : ShardAsk → ShardTop → Type 0
    IsOver ask top = oldest ask.index ask.shard ≤ top.version

    -- an answer after an event is the reply of the child that was put
    told_by : (p : TaskId) (k : ℕ) (top : ShardTop) (reply_after : TaskId → Option Reply) → answer_or (rejection_of p k h) (option_and_then reply_after (child_of p k h)) ≡ Some (replies.Top top)
        → (u : TaskId) × (rejection_of p k h ≡ None) × (child_of p k h ≡ Some u) × (reply_after u ≡ Some (replies.Top top))
    told_by p k top reply_after e = by_parts (rejection_of p k h) refl (child_of p k h) refl e
      where
        by_parts : (o : Option ℕ) → rejection_of p k h ≡ o → (child : Option TaskId) → child_of p k h ≡ child → answer_or o (option_and_then reply_after child) ≡ Some (replies.Top top)
            → (u : TaskId) × (rejection_of p k h ≡ None) × (child_of p k h ≡ Some u) × (reply_after u ≡ Some (replies.Top top))
        by_parts (Some n) i child j told = absurd (let f : Some (replies.Rejected n) ≡ Some (replies.Top top) = told in cc)
        by_parts None i None j told = absurd (cc)
        by_parts None i (Some u) j told = (u, i, j, told)

    answered_so : (p : TaskId) (k : ℕ) (u : TaskId) (reply : Reply) → rejection_of p k h ≡ None → child_of p k h ≡ Some u → reply_of u h ≡ Some reply → answer_of p k h ≡ Some reply
    answered_so p k u reply i j told = rw (i, j) told

    tops_after : (e : Event) → LeavesReads oldest script e h → (p : TaskId) (k : ℕ) (ask : ShardAsk) (top : ShardTop) → is_live p (e ∷ h) ≡ true → request_of_ask p k (e ∷ h) ≡ Some (asks.Query ask) → answer_of p k (e ∷ h) ≡ Some (replies.Top top) → IsOver ask top
    tops_after (Root c u) above p k ask top l q told = by_case (same_task_tells p u)
      where
        by_case : ((same_task p u ≡ true) × (p ≡ u)) ⊎ ((same_task p u ≡ false) × (p ≢ u)) → IsOver ask top
        by_case (inl (is_one, same)) = absurd (not_asked p u k (asks.Query ask) same above q)
        by_case (inr (differs, apart)) = reads.tops p k ask top (rw differs at l) q told
    tops_after (Ask o j n r) above p k ask top l q told = by_case (same_pair_tells p k o j)
      where
        by_case : ((same_pair p k o j ≡ true) × (p ≡ o) × (k ≡ j)) ⊎ ((same_pair p k o j ≡ false) × (p ≡ o → k ≢ j)) → IsOver ask top
        by_case (inl (is_one, same, number)) =
            let made = answer_asked p k h facts (answer_facts cluster h lawful) (replies.Top top) told in
            let last : last_ask p h ≡ last_ask o h = ap (λ v. last_ask v h) same in
            let next : j ≡ last_ask o h + 1 = above in
            absurd (omega (arith, made, last, next, number))
        by_case (inr (differs, apart)) = reads.tops p k ask top l (rw differs at q) told
    tops_after (Put u o j) above p k ask top l q told = by_case (same_task_tells p u)
      where
        by_pair : is_live p h ≡ true → ((same_pair p k o j ≡ true) × (p ≡ o) × (k ≡ j)) ⊎ ((same_pair p k o j ≡ false) × (p ≡ o → k ≢ j)) → IsOver ask top
        by_pair live (inl (is_one, same, number)) = of_rejection (rejection_of p k h) (rw is_one at told)
          where
            of_rejection : (x : Option ℕ) → answer_or x (reply_of u h) ≡ Some (replies.Top top) → IsOver ask top
            of_rejection None e = absurd (no_reply u (replies.Top top) above e)
            of_rejection (Some n) e = absurd (let f : Some (replies.Rejected n) ≡ Some (replies.Top top) = e in cc)
        by_pair live (inr (differs, apart)) = reads.tops p k ask top live q (rw differs at told)

        by_case : ((same_task p u ≡ true) × (p ≡ u)) ⊎ ((same_task p u ≡ false) × (p ≢ u)) → IsOver ask top
        by_case (inl (is_one, same)) = absurd (not_asked p u k (asks.Query ask) same above q)
        by_case (inr (differs, apart)) = by_pair (rw differs at l) (same_pair_tells p k o j)
    tops_after (Reject n o j) above p k ask top l q told =
        by_test (same_pair p k o j) (λ same. absurd (let f : Some (replies.Rejected n) ≡ Some (replies.Top top) = rw same at told in cc)) (λ differs. reads.tops p k ask top l q (rw differs at told))
    tops_after (Refuse u c) above p k ask top l q told =
        let by = told_by p k top (λ t. reply_of t (Refuse u c ∷ h)) told in
        let its = by.3 in
        by_test (same_task by.0 u) (λ same. absurd (let f = rw same at its in cc))
        (λ differs. reads.tops p k ask top (still_live p u (same_task p u) refl l) q (answered_so p k by.0 (replies.Top top) by.1 by.2 (rw differs at its)))
    tops_after (End u reply) above p k ask top l q told = by_case (same_task_tells by.0 u)
      where
        by : (v : TaskId) × (rejection_of p k h ≡ None) × (child_of p k h ≡ Some v) × (reply_of v (End u reply ∷ h) ≡ Some (replies.Top top))
        by = told_by p k top (λ t. reply_of t (End u reply ∷ h)) told

        by_case : ((same_task by.0 u ≡ true) × (by.0 ≡ u)) ⊎ ((same_task by.0 u ≡ false) × (by.0 ≢ u)) → IsOver ask top
        by_case (inl (is_one, same)) =
            let its = by.3 in
            let found = rw is_one at its in
            let put = put_for p k (parent_of by.0 h) (ask_of by.0 h) (facts.child_knows p k by.0 by.2) in
            let request : request_of (scripted script) u h ≡ Some (asks.Query ask) =
            ap (λ v. request_of (scripted script) v h) (sym same) ∙ child_request cluster (scripted script) by.0 p h lawful put.0 ∙ ap (λ j. request_of_ask p j h) put.1 ∙ q in
            above.top ask top request (cc)
        by_case (inr (differs, apart)) = let its = by.3 in reads.tops p k ask top (still_live p u (same_task p u) refl l) q (answered_so p k by.0 (replies.Top top) by.1 by.2 (rw differs at its))
    tops_after _ above p k ask top l q told = reads.tops p k ask top l q told

    -- ---- pages

    pages_after : (e : Event) → LeavesReads oldest script e h → (t : TaskId) (c : Context) → is_live t (e ∷ h) ≡ true → page_of (scripted script) t (e ∷ h) ≡ Some c → KeepsFrom oldest c
    pages_after (Root k u) above t c l is = by_test (same_task t u) (λ same. page_asked ((scripted script).root k h) c (rw same at is)) (λ differs. reads.pages t c (rw differs at l) (rw differs at is))
    pages_after (Pass u) above t c l is = by_test (same_task t u) (λ same. page_asked (request_of (scripted script) t h) c (rw same at is)) (λ differs. reads.pages t c l (rw differs at is))
    pages_after (Put u p k) above t c l is = by_case (same_task_tells t u)
      where
        by_case : ((same_task t u ≡ true) × (t ≡ u)) ⊎ ((same_task t u ≡ false) × (t ≢ u)) → KeepsFrom oldest c
        by_case (inl (is_one, same)) = absurd (let none : None ≡ Some c = sym (ap (λ (f : Facts). f.page) (nothing_yet t u same above)) ∙ is in cc)
        by_case (inr (differs, apart)) = reads.pages t c (rw differs at l) is
    pages_after (Refuse u k) above t c l is = reads.pages t c (still_live t u (same_task t u) refl l) is
    pages_after (End u reply) above t c l is = reads.pages t c (still_live t u (same_task t u) refl l) is
    pages_after _ above t c l is = reads.pages t c l is

    -- ---- any event

    pub reads_after : (e : Event) → LeavesReads oldest script e h → ReadsFrom oldest cluster corpus script (e ∷ h)
    reads_after e above = record { low = low_after e; begun = begun_after e above; tops = tops_after e above; contexts = contexts_after e above; pages = pages_after e above }

-- ---- several events

module _ (oldest : Oldest) (cluster : Cluster) (corpus : Corpus) (script : Script) where
  -- the answers that are due
  pub answers_reads : (t : TaskId) (h : List Event) → ReadsFrom oldest cluster corpus script h → ReadsFrom oldest cluster corpus script (with_answers t h)
  answers_reads t h reads = kept (ReadsFrom oldest cluster corpus script) (λ c past x. placed_reads oldest cluster corpus script past x c) (λ c past x. done_reads oldest cluster corpus script past x c) t h reads

  -- the writes of a turn
  pub notes_reads : (notes : List WriteNote) (h : List Event) → ReadsFrom oldest cluster corpus script h → ReadsFrom oldest cluster corpus script (with_notes notes h)
  notes_reads notes h reads = notes_keep (ReadsFrom oldest cluster corpus script) (λ index shard outcome id past x. written_reads oldest cluster corpus script past x index shard outcome id) notes h reads
