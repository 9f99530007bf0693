-- Where tasks answer plainly, each reply that tells what was written carries what its task has counted.
use Rattle.std.proofs.Common.{◌≡◌, ℕ, Bool, true, false, cond, List, [], ◌∷◌, length, Option, Some, None, refl, sym, ap, ◌∙◌}
use Rattle.std.specs.Prelude.{◌==◌}
use Rattle.task_ids.specs.declared.cluster.Cluster.{Cluster}
use Rattle.task_ids.specs.declared.corpus.Corpus.{Corpus}
use Rattle.task_ids.specs.declared.doc.Doc.{Doc}
use Rattle.task_ids.specs.declared.task_id.TaskId.{TaskId}
use Rattle.task_events.specs.declared.context.Context.{Context}
use Rattle.task_events.specs.declared.event.Event.{Event}
use Rattle.task_events.specs.declared.event.Event.TheVariants.{End}
use Rattle.task_events.specs.declared.reply.Counts.{Counts}
use Rattle.task_events.specs.declared.reply.FailedShard.{FailedShard}
use Rattle.task_events.specs.declared.reply.Reply.{Reply}
use Rattle.task_events.specs.declared.reply.Reply.TheVariants.{AllFailed, Search as Found}
use Rattle.task_events.specs.declared.reply.SearchReply.{SearchReply}
use Rattle.task_events.specs.declared.reply.ShardCount.{ShardCount}
use Rattle.task_events.specs.declared.request.Request.{Request}
use Rattle.task_events.specs.declared.request.Request.TheVariants.{Search, Query, Fetch, Scroll, Reindex, Slice, Bulk, BulkShard}
use Rattle.task_events.specs.Answers.{plain_answer}
use Rattle.task_events.specs.Bans.{mark_of}
use Rattle.task_events.specs.Contexts.{page_of}
use Rattle.task_events.specs.Counting.{carried}
use Rattle.task_events.specs.Readings.{Reading}
use Rattle.task_events.specs.Requests.{Scripted, request_of}
use Rattle.task_events.specs.Steps.{counted}
use Rattle.task_events.specs.Tasks.{no_counts}
use Rattle.script_lang.specs.declared.command.Script.{Script}
use Rattle.command_roots.specs.Roots.{scripted}
use Rattle.world_moves.specs.Good.{so_far}
use Rattle.world_moves.specs.Plain.{AnswersPlainly, EndsPlainly, IsPlainPage, IsPlainReply}
use Rattle.write_laws.proofs.ByKind.{writing_asked}
use Rattle.write_laws.proofs.Tells.{TellsCounts, telling_asked}

-- a page tells of no writes
plain_carries : (r : Reading) (writes : ℕ → List Doc) (answered : List ShardCount) (failed : List FailedShard) → carried (plain_answer r writes answered failed) ≡ no_counts
plain_carries r writes answered failed = by_failures (length failed == length r.shards) _
  where
    by_failures : (b : Bool) (page : SearchReply) → carried (cond b (AllFailed failed) (Found page)) ≡ no_counts
    by_failures true page = refl
    by_failures false page = refl

module _ (cluster : Cluster) (look : List Event → Corpus) (t : TaskId) (h : List Event) (reply : Reply) where
  page_carries : (r : Reading) → IsPlainReply cluster look t r h reply → carried reply ≡ no_counts
  page_carries r plain = ap carried plain.answer ∙ plain_carries r _ _ _

  later_carries : (page : Option Context) → IsPlainPage cluster look t page h reply → carried reply ≡ no_counts
  later_carries None plain = absurd plain
  later_carries (Some context) plain = page_carries _ plain

  ends_carry : (page : Option Context) (mark : Option ℕ) (counts : Counts) (o : Option Request) → (writing_asked o ≡ false → counts ≡ no_counts) → telling_asked o ≡ true → EndsPlainly cluster look t page mark counts o h reply → carried reply ≡ counts
  ends_carry page (Some c) counts o none telling plain = ap carried plain
  ends_carry page None counts None none telling plain = absurd (cc)
  ends_carry page None counts (Some (Search ask)) none telling plain = page_carries _ plain ∙ sym (none refl)
  ends_carry page None counts (Some (Scroll ask)) none telling plain = later_carries page plain ∙ sym (none refl)
  ends_carry page None counts (Some (Query ask)) none telling plain = absurd (cc)
  ends_carry page None counts (Some (Fetch ask)) none telling plain = absurd (cc)
  ends_carry page None counts (Some (Reindex ask)) none telling plain = ap carried plain
  ends_carry page None counts (Some (Slice ask)) none telling plain = ap carried plain
  ends_carry page None counts (Some (Bulk ask)) none telling plain = ap carried plain
  ends_carry page None counts (Some (BulkShard ask)) none telling plain = ap carried plain

-- what is not to write counts nothing
none_counted : (cluster : Cluster) (corpus : Corpus) (said : Scripted) (t : TaskId) (h : List Event) (o : Option Request) → request_of said t h ≡ o → writing_asked o ≡ false → counted cluster corpus said t h ≡ no_counts
none_counted cluster corpus said t h None e quiet = rw e refl
none_counted cluster corpus said t h (Some (Search ask)) e quiet = rw e refl
none_counted cluster corpus said t h (Some (Query ask)) e quiet = rw e refl
none_counted cluster corpus said t h (Some (Fetch ask)) e quiet = rw e refl
none_counted cluster corpus said t h (Some (Scroll ask)) e quiet = rw e refl
none_counted cluster corpus said t h (Some (Reindex ask)) e quiet = absurd (cc)
none_counted cluster corpus said t h (Some (Slice ask)) e quiet = absurd (cc)
none_counted cluster corpus said t h (Some (Bulk ask)) e quiet = absurd (cc)
none_counted cluster corpus said t h (Some (BulkShard ask)) e quiet = absurd (cc)

pub plainly_tells : (cluster : Cluster) (corpus : Corpus) (script : Script) (h : List Event) → AnswersPlainly cluster corpus script h → TellsCounts cluster corpus (scripted script) h
plainly_tells cluster corpus script [] plain = tt
plainly_tells cluster corpus script (End t reply ∷ h) plain = (
  λ telling.
      ends_carry cluster (so_far corpus script) t h reply (page_of (scripted script) t h) (mark_of t h) (counted cluster corpus (scripted script) t h) (request_of (scripted script) t h)
      (none_counted cluster corpus (scripted script) t h (request_of (scripted script) t h) refl) telling plain.0,
  plainly_tells cluster corpus script h plain.1,
)
plainly_tells cluster corpus script (_ ∷ h) plain = plainly_tells cluster corpus script h plain
