-- What a task has counted once all its asks are answered is what its tree has written.
use Rattle.std.proofs.Common.{◌≡◌, ℕ, Bool, true, false, cond, not, List, [], Option, Some, None, refl, sym, ap, ◌∙◌, arith}
use Rattle.std.specs.List.{sum_by}
use Rattle.std.specs.Prelude.{◌==◌}
use Rattle.task_ids.specs.declared.task_id.TaskId.{TaskId}
use Rattle.task_ids.specs.declared.cluster.Cluster.{Cluster}
use Rattle.task_ids.specs.declared.corpus.Corpus.{Corpus}
use Rattle.task_events.specs.declared.event.Event.{Event}
use Rattle.task_events.specs.declared.event.Outcome.{Outcome}
use Rattle.task_events.specs.declared.reply.Counts.{Counts}
use Rattle.task_events.specs.declared.reply.Reply.{Reply}
use Rattle.task_events.specs.declared.request.ReindexAsk.{ReindexAsk}
use Rattle.task_events.specs.declared.request.Request.{Request}
use Rattle.task_events.specs.declared.request.Request.TheVariants.{Search, Query, Fetch, Scroll, Reindex, Slice, Bulk, BulkShard}
use Rattle.task_events.specs.declared.step.Asked.{Asked}
use Rattle.task_events.specs.Asks.{unanswered}
use Rattle.task_events.specs.Counting.{answers_in, carried, sums_of}
use Rattle.task_events.specs.Kinds.{kind_of}
use Rattle.task_events.specs.Lawful.{Lawful}
use Rattle.task_events.specs.Requests.{Scripted, request_of}
use Rattle.task_events.specs.SliceTask.{slice_counts}
use Rattle.task_events.specs.Steps.{asked_by, counted, progress_of}
use Rattle.task_events.specs.Tasks.{child_of, no_counts, parent_of, reply_of}
use Rattle.task_events.specs.Written.{writes_by}
use Rattle.task_laws.proofs.Asks.{AskFacts, ask_facts}
use Rattle.task_laws.proofs.Same.{same_tests}
use Rattle.write_laws.specs.KindsAsked.{KeepsToKinds, is_part, is_slice, is_step_of_slice, may_ask, reads_shard}
use Rattle.write_laws.specs.TreeWrites.{is_to_write, tree_writes}
use Rattle.write_laws.proofs.AnswersCount.{answers_tell}
use Rattle.write_laws.proofs.ByKind.{child_kind, may_have_asked, own_none, part_alone, part_asked, tree_none, writing_asked}
use Rattle.write_laws.proofs.Tells.{IsNumberOf, telling_asked}
use Rattle.write_laws.proofs.Trees.{by_children, children_writes}

-- ---- what a task that writes asks for tells what was written

step_tells : (child : Request) → is_step_of_slice child ≡ true → reads_shard child ≡ false
step_tells (Search ask) e = refl
step_tells (Scroll ask) e = refl
step_tells (Bulk ask) e = refl
step_tells (Reindex ask) e = refl
step_tells (Slice ask) e = refl
step_tells (BulkShard ask) e = refl
step_tells (Query ask) e = sym e
step_tells (Fetch ask) e = sym e

slice_tells : (child : Request) → is_slice child ≡ true → reads_shard child ≡ false
slice_tells (Slice ask) e = refl
slice_tells (Search ask) e = refl
slice_tells (Scroll ask) e = refl
slice_tells (Bulk ask) e = refl
slice_tells (Reindex ask) e = refl
slice_tells (BulkShard ask) e = refl
slice_tells (Query ask) e = sym e
slice_tells (Fetch ask) e = sym e

part_tells : (child : Request) → is_part child ≡ true → reads_shard child ≡ false
part_tells (BulkShard ask) e = refl
part_tells (Slice ask) e = refl
part_tells (Search ask) e = refl
part_tells (Scroll ask) e = refl
part_tells (Bulk ask) e = refl
part_tells (Reindex ask) e = refl
part_tells (Query ask) e = sym e
part_tells (Fetch ask) e = sym e

asked_tells : (request child : Request) → is_to_write request ≡ true → may_ask request child ≡ true → reads_shard child ≡ false
asked_tells (Reindex ask) child w may = by_slice (is_slice child) refl
  where
    by_slice : (b : Bool) → is_slice child ≡ b → reads_shard child ≡ false
    by_slice true e = slice_tells child e
    by_slice false e = step_tells child (rw e at may)
asked_tells (Slice ask) child w may = step_tells child may
asked_tells (Bulk ask) child w may = part_tells child may
asked_tells (BulkShard ask) child w may = absurd (cc)
asked_tells (Search ask) child w may = absurd (cc)
asked_tells (Query ask) child w may = absurd (cc)
asked_tells (Fetch ask) child w may = absurd (cc)
asked_tells (Scroll ask) child w may = absurd (cc)

child_tells : (request child : Option Request) → writing_asked request ≡ true → may_have_asked request child ≡ true → telling_asked child ≡ true
child_tells None child w may = absurd (cc)
child_tells (Some request) None w may = may
child_tells (Some request) (Some child) w may = ap not (asked_tells request child w may)

-- ---- what was counted

module _ (cluster : Cluster) (corpus : Corpus) (said : Scripted) (h : List Event) (l : Lawful cluster h) (keeps : KeepsToKinds said h) (test : Outcome → Bool) (number : Counts → ℕ) (is : IsNumberOf test number)
    (told : (c : TaskId) (reply : Reply) → reply_of c h ≡ Some reply → telling_asked (request_of said c h) ≡ true → number (carried reply) ≡ tree_writes test c h) where
  f : AskFacts h
  f = ask_facts cluster h l

  module _ (t : TaskId) (answered : unanswered t h ≡ []) where
    -- by the answers of those that it asked for
    by_answers : (request : Request) → request_of said t h ≡ Some request → is_to_write request ≡ true → is_part request ≡ false → sum_by (λ reply. number (carried reply)) (answers_in (asked_by t h)) ≡ tree_writes test t h
    by_answers request e writes apart =
        let parts = answers_tell cluster h l t answered test number is child_told in
        let own = own_none cluster said test h l keeps t (rw e apart) in
        parts ∙ omega (arith, own, by_children cluster test h l t)
      where
        child_told : (k : ℕ) (c : TaskId) (reply : Reply) → child_of t k h ≡ Some c → reply_of c h ≡ Some reply → number (carried reply) ≡ tree_writes test c h
        child_told k c reply put replied =
            let known = f.child_knows t k c put in
            let mine : parent_of c h ≡ Some t = grind (arith, same_tests, known) in
            let writing : writing_asked (request_of said t h) ≡ true = rw e writes in
            told c reply replied (child_tells (request_of said t h) (request_of said c h) writing (child_kind cluster said h l keeps c t mine))

    -- a part has written itself what it has counted, and asks for nothing
    by_itself : part_asked (request_of said t h) ≡ true → writes_by test t h ≡ tree_writes test t h
    by_itself e =
        let none : children_writes test t h ≡ 0 = rw (part_alone cluster said h l keeps t e) refl in
        omega (arith, none, by_children cluster test h l t)

    reindex_number : (ask : ReindexAsk) (b : Bool) → (ask.slices == 1) ≡ b → (asked : List Asked) → number (cond b (slice_counts asked) (sums_of (answers_in asked))) ≡ sum_by (λ reply. number (carried reply)) (answers_in asked)
    reindex_number ask true e asked = is.slice asked
    reindex_number ask false e asked = is.sums (answers_in asked)

    quiet : (request : Request) → request_of said t h ≡ Some request → is_to_write request ≡ false → number no_counts ≡ tree_writes test t h
    quiet request e none = is.none ∙ sym (tree_none cluster said test h l keeps t (rw e none))

    by_request : (request : Request) → request_of said t h ≡ Some request → number ((kind_of request).counts (progress_of cluster corpus said t request h)) ≡ tree_writes test t h
    by_request (Search ask) e = quiet (Search ask) e refl
    by_request (Query ask) e = quiet (Query ask) e refl
    by_request (Fetch ask) e = quiet (Fetch ask) e refl
    by_request (Scroll ask) e = quiet (Scroll ask) e refl
    by_request (Reindex ask) e = reindex_number ask (ask.slices == 1) refl (asked_by t h) ∙ by_answers (Reindex ask) e refl refl
    by_request (Slice ask) e = is.slice (asked_by t h) ∙ by_answers (Slice ask) e refl refl
    by_request (Bulk ask) e = is.written (answers_in (asked_by t h)) ∙ by_answers (Bulk ask) e refl refl
    by_request (BulkShard ask) e = is.own t h ∙ by_itself (rw e refl)

    pub counted_all : (o : Option Request) → request_of said t h ≡ o → telling_asked o ≡ true → number (counted cluster corpus said t h) ≡ tree_writes test t h
    counted_all None e tells = absurd (cc)
    counted_all (Some request) e tells = rw e (by_request request e)
