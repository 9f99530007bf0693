-- The task that a command has started ends, with a reply of its own: that of a search or a scroll with one of a search, that of a reindex with what it has done.
use Rattle.std.proofs.Common.{◌≡◌, ◌≢◌, ◌⊎◌, ◌≤◌, ℕ, Bool, true, false, cond, List, [], ◌∷◌, ◌++◌, Option, Some, None, inl, inr, refl, sym, subst, ◌∙◌, arith}
use Rattle.std.specs.Prelude.{◌==◌, is_some, length, ⊤}
use Rattle.task_ids.specs.declared.cluster.Cluster.{Cluster}
use Rattle.task_ids.specs.declared.corpus.Corpus.{Corpus}
use Rattle.task_ids.specs.declared.doc.Doc.{Doc}
use Rattle.task_ids.specs.declared.task_id.TaskId.{TaskId}
use Rattle.task_events.specs.declared.event.Event.{Event}
use Rattle.task_events.specs.declared.event.Event.TheVariants.{Root, Put, Refuse, End}
use Rattle.task_events.specs.declared.reply.FailedShard.{FailedShard}
use Rattle.task_events.specs.declared.reply.SearchReply.{SearchReply}
use Rattle.task_events.specs.declared.reply.Counts.{Counts}
use Rattle.task_events.specs.declared.reply.Reply.{Reply}
use Rattle.task_events.specs.declared.reply.Reply.TheVariants.{Search, AllFailed, Cancelled}
use Rattle.task_events.specs.declared.request.Request.{Request}
use Rattle.task_events.specs.declared.request.Request.TheVariants as asks
use Rattle.task_events.specs.Answers.{plain_answer}
use Rattle.task_events.specs.Contexts.{page_of}
use Rattle.task_events.specs.Readings.{Reading, search_reading, page_reading}
use Rattle.task_events.specs.declared.context.Context.{Context}
use Rattle.task_events.specs.declared.reply.ShardCount.{ShardCount}
use Rattle.task_events.specs.Bans.{mark_of}
use Rattle.task_events.specs.Lawful.{Lawful}
use Rattle.task_events.specs.Same.{same_task}
use Rattle.task_events.specs.Requests.{Scripted, request_of}
use Rattle.task_events.specs.Tasks.{no_counts, is_live, last_number, reply_of}
use Rattle.task_laws.proofs.Asks.{ask_facts}
use Rattle.task_laws.proofs.Content.{answer_facts}
use Rattle.task_laws.proofs.Same.{same_task_tells, same_tests}
use Rattle.script_lang.specs.declared.command.Script.{Script}
use Rattle.task_events.specs.Steps.{counted}
use Rattle.world_moves.specs.Good.{so_far}
use Rattle.world_moves.specs.Plain.{AnswersPlainly, EndsPlainly}
use Rattle.command_roots.specs.Roots.{root_request, scripted}
use Rattle.task_top.specs.EachLine.{IsReindexReply, IsSearchReply}

module _ (k : ℕ) (t : TaskId) (base : List Event) where
  -- once it is not live any more it has replied
  pub has_replied : (later : List Event) → is_live t (later ++ Root k t ∷ base) ≡ false → is_some (reply_of t (later ++ Root k t ∷ base)) ≡ true
  has_replied [] gone = absurd (grind (arith, same_tests))
  has_replied (Root c u ∷ later) gone = grind (arith, same_tests, has_replied later)
  has_replied (Put u p j ∷ later) gone = grind (arith, same_tests, has_replied later)
  has_replied (Refuse u c ∷ later) gone = grind (arith, same_tests, has_replied later)
  has_replied (End u r ∷ later) gone = grind (arith, same_tests, has_replied later)
  has_replied (_ ∷ later) gone = has_replied later gone

  module _ (cluster : Cluster) where
    -- its number was given
    born : (later : List Event) → Lawful cluster (later ++ Root k t ∷ base) → t.number ≤ last_number t.node (later ++ Root k t ∷ base)
    born [] l = grind (arith, same_tests)
    born (Root c u ∷ later) l = let next = l.0.takes.next in grind (arith, same_tests, born later l.1)
    born (Put u p j ∷ later) l = let next = l.0.takes.next in grind (arith, same_tests, born later l.1)
    born (_ ∷ later) l = born later l.1

    -- it was asked what its command asks
    pub asked_to : (said : Scripted) (later : List Event) → Lawful cluster (later ++ Root k t ∷ base) → request_of said t (later ++ Root k t ∷ base) ≡ said.root k base
    asked_to said [] l = grind (arith, same_tests)
    asked_to said (Root c u ∷ later) l = let next = l.0.takes.next in grind (arith, same_tests, asked_to said later l.1, born later l.1)
    asked_to said (Put u p j ∷ later) l = let next = l.0.takes.next in grind (arith, same_tests, asked_to said later l.1, born later l.1)
    asked_to said (_ ∷ later) l = asked_to said later l.1

    -- it had not ended before it was started
    new_then : (reply : Reply) → Lawful cluster (Root k t ∷ base) → reply_of t base ≡ Some reply → ⊥
    new_then reply l e =
        let next = l.0.takes.next in
        let ended = (answer_facts cluster base l.1).reply_ended t reply e in
        let not_ended = (ask_facts cluster base l.1).unborn_ended t (omega arith) in
        cc

-- ---- the reply

plain_reply : (t : TaskId) (r : Reading) (writes : ℕ → List Doc) (answered : List ShardCount) (failed : List FailedShard) → IsSearchReply t (plain_answer r writes answered failed)
plain_reply t r writes answered failed = by_count (length failed == length r.shards) _
  where
    by_count : (b : Bool) (reply : SearchReply) → IsSearchReply t (cond b (AllFailed failed) (Search reply))
    by_count true reply = tt
    by_count false reply = tt

-- the reply of a task that was asked so by its command
abbrev pub IsReplyOf : Request → TaskId → Reply → Type 0
IsReplyOf (asks.Search ask) = IsSearchReply
IsReplyOf (asks.Scroll ask) = IsSearchReply
IsReplyOf (asks.Reindex ask) = IsReindexReply
IsReplyOf _ = λ t reply. ⊤

cancelled_so : (request : Request) (t u : TaskId) (c : ℕ) (counts : Counts) → u ≡ t → IsReplyOf request t (Cancelled u c counts)
cancelled_so (asks.Search ask) t u c counts same = same
cancelled_so (asks.Scroll ask) t u c counts same = same
cancelled_so (asks.Reindex ask) t u c counts same = same
cancelled_so (asks.Query ask) t u c counts same = tt
cancelled_so (asks.Fetch ask) t u c counts same = tt
cancelled_so (asks.Slice ask) t u c counts same = tt
cancelled_so (asks.Bulk ask) t u c counts same = tt
cancelled_so (asks.BulkShard ask) t u c counts same = tt

module _ (cluster : Cluster) (look : List Event → Corpus) (t : TaskId) (h : List Event) where
  ends_so : (page : Option Context) (mark : Option ℕ) (counts : Counts) (request : Request) (reply : Reply) → EndsPlainly cluster look t page mark counts (Some request) h reply → IsReplyOf request t reply
  ends_so page (Some c) counts request reply e = subst (IsReplyOf request t) (sym e) (cancelled_so request t t c counts refl)
  ends_so page None counts (asks.Search ask) reply e = subst (IsSearchReply t) (sym e.answer) (plain_reply t (search_reading t ask cluster.shards) _ _ _)
  ends_so (Some c) None counts (asks.Scroll ask) reply e = subst (IsSearchReply t) (sym e.answer) (plain_reply t (page_reading c) _ _ _)
  ends_so None None counts (asks.Scroll ask) reply e = absurd e
  ends_so page None counts (asks.Reindex ask) reply e = subst (IsReindexReply t) (sym e) tt
  ends_so page None counts (asks.Query ask) reply e = tt
  ends_so page None counts (asks.Fetch ask) reply e = tt
  ends_so page None counts (asks.Slice ask) reply e = tt
  ends_so page None counts (asks.Bulk ask) reply e = tt
  ends_so page None counts (asks.BulkShard ask) reply e = tt

module _ (cluster : Cluster) (corpus : Corpus) (script : Script) (k : ℕ) (t : TaskId) (base : List Event) (request : Request) (asked : root_request script k base ≡ Some request) where
  -- A task that a command has started replies so.
  pub replies_so : (later : List Event) (reply : Reply) → Lawful cluster (later ++ Root k t ∷ base) → AnswersPlainly cluster corpus script (later ++ Root k t ∷ base) → reply_of t (later ++ Root k t ∷ base) ≡ Some reply → IsReplyOf request t reply
  replies_so [] reply l p e = absurd (new_then k t base cluster reply l e)
  replies_so (End u r ∷ later) reply l p e = by_task (replies_so later reply l.1 p.1) (same_task_tells t u)
    where
      by_task : (reply_of t (later ++ Root k t ∷ base) ≡ Some reply → IsReplyOf request t reply) → ((same_task t u ≡ true) × (t ≡ u)) ⊎ ((same_task t u ≡ false) × (t ≢ u)) → IsReplyOf request t reply
      by_task earlier (inl (is_one, same)) =
          let given : Some r ≡ Some reply = rw is_one at e in
          let it : r ≡ reply = cc in
          let past = later ++ Root k t ∷ base in
          let page = page_of (scripted script) t past in
          let counts = counted cluster corpus (scripted script) t past in
          let mine : EndsPlainly cluster (so_far corpus script) t page (mark_of t past) counts (request_of (scripted script) t past) past r =
          subst (λ v. EndsPlainly cluster (so_far corpus script) v (page_of (scripted script) v past) (mark_of v past) (counted cluster corpus (scripted script) v past) (request_of (scripted script) v past) past r) (sym same) p.0 in
          let so : EndsPlainly cluster (so_far corpus script) t page (mark_of t past) counts (Some request) past r =
          subst (λ o. EndsPlainly cluster (so_far corpus script) t page (mark_of t past) counts o past r) (asked_to k t base cluster (scripted script) later l.1 ∙ asked) mine in
          subst (IsReplyOf request t) it (ends_so cluster (so_far corpus script) t past page (mark_of t past) counts request r so)
      by_task earlier (inr (differs, apart)) = earlier (rw differs at e)
  replies_so (Refuse u c ∷ later) reply l p e = by_task (replies_so later reply l.1 p) (same_task_tells t u)
    where
      some_reply : (x y : Reply) → Some x ≡ Some y → x ≡ y
      some_reply x y e = cc

      by_task : (reply_of t (later ++ Root k t ∷ base) ≡ Some reply → IsReplyOf request t reply) → ((same_task t u ≡ true) × (t ≡ u)) ⊎ ((same_task t u ≡ false) × (t ≢ u)) → IsReplyOf request t reply
      by_task earlier (inl (is_one, same)) =
          let given : Some (Cancelled u c no_counts) ≡ Some reply = rw is_one at e in
          subst (IsReplyOf request t) (some_reply (Cancelled u c no_counts) reply given) (cancelled_so request t u c no_counts (sym same))
      by_task earlier (inr (differs, apart)) = earlier (rw differs at e)
  replies_so (Root c u ∷ later) reply l p e = replies_so later reply l.1 p e
  replies_so (_ ∷ later) reply l p e = replies_so later reply l.1 p e
