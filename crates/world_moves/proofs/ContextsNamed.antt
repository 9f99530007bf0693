-- The good reply of a search names the context that it has opened.
use Rattle.std.proofs.Common.{◌≡◌, ◌≢◌, ◌⊎◌, ℕ, Bool, true, false, cond, List, [], ◌∷◌, Option, Some, None, sym, ap, subst, ◌∙◌, inl, inr}
use Rattle.task_ids.specs.declared.cluster.Cluster.{Cluster}
use Rattle.task_ids.specs.declared.corpus.Corpus.{Corpus}
use Rattle.task_ids.specs.declared.task_id.TaskId.{TaskId}
use Rattle.script_lang.specs.declared.command.Script.{Script}
use Rattle.task_events.specs.declared.context.Context.{Context}
use Rattle.task_events.specs.declared.event.Event.{Event}
use Rattle.task_events.specs.declared.event.Event.TheVariants.{Root, Put, Refuse, End}
use Rattle.task_events.specs.declared.reply.Counts.{Counts}
use Rattle.task_events.specs.declared.reply.FailedShard.{FailedShard}
use Rattle.task_events.specs.declared.reply.Reply.{Reply}
use Rattle.task_events.specs.declared.reply.Reply.TheVariants.{Search, AllFailed, Cancelled}
use Rattle.task_events.specs.declared.reply.SearchReply.{SearchReply}
use Rattle.task_events.specs.declared.request.Request.{Request}
use Rattle.task_events.specs.declared.request.Request.TheVariants as asks
use Rattle.task_events.specs.declared.request.SearchAsk.{SearchAsk}
use Rattle.task_events.specs.Bans.{mark_of}
use Rattle.task_events.specs.Contexts.{context_of, page_of}
use Rattle.task_events.specs.Lawful.{Lawful}
use Rattle.task_events.specs.Requests.{request_of}
use Rattle.task_events.specs.Same.{same_task}
use Rattle.task_events.specs.Steps.{counted}
use Rattle.task_events.specs.Tasks.{reply_of}
use Rattle.task_laws.proofs.Asks.{ask_facts}
use Rattle.task_laws.proofs.Same.{same_task_tells}
use Rattle.command_roots.specs.Roots.{scripted}
use Rattle.world_moves.specs.Good.{so_far}
use Rattle.world_moves.specs.Plain.{AnswersPlainly, EndsPlainly}
use Rattle.world_moves.proofs.OwnTasks.{replied_ended, ended_apart, fresh_ended}

-- the plain answer names the context of what it reads
plain_names : (b : Bool) (failed : List FailedShard) (x found : SearchReply) → cond b (AllFailed failed) (Search x) ≡ Search found → x.context ≡ found.context
plain_names true failed x found e = absurd (cc)
plain_names false failed x found e = let same : x ≡ found = cc in ap (λ (y : SearchReply). y.context) same

module _ (cluster : Cluster) (corpus : Corpus) (script : Script) where
  ends_named : (u : TaskId) (page : Option Context) (mark : Option ℕ) (counts : Counts) (o : Option Request) (h : List Event) (end : Reply) → EndsPlainly cluster (so_far corpus script) u page mark counts o h end
      → (ask : SearchAsk) (found : SearchReply) → o ≡ Some (asks.Search ask) → end ≡ Search found → found.context ≡ context_of u ask
  ends_named u page (Some c) counts o h end x ask found is good = absurd (let f : Search found ≡ Cancelled u c counts = sym good ∙ x in cc)
  ends_named u page None counts o h end x ask found is good =
      let its = subst (λ q. EndsPlainly cluster (so_far corpus script) u page None counts q h end) is x in
      sym (plain_names _ _ _ found (sym its.answer ∙ good))

  pub named : (u : TaskId) (ask : SearchAsk) (found : SearchReply) (h : List Event) → Lawful cluster h → AnswersPlainly cluster corpus script h → reply_of u h ≡ Some (Search found) → request_of (scripted script) u h ≡ Some (asks.Search ask) → found.context ≡ context_of u ask
  named u ask found [] l p told asked = absurd (cc)
  named u ask found (Root k v ∷ h) l p told asked =
      let apart = ended_apart u v h (replied_ended u h (Search found) told) (fresh_ended cluster (scripted script) h (ask_facts cluster h l.1) v l.0.takes.next) in
      named u ask found h l.1 p told (rw apart at asked)
  named u ask found (Put v q k ∷ h) l p told asked =
      let apart = ended_apart u v h (replied_ended u h (Search found) told) (fresh_ended cluster (scripted script) h (ask_facts cluster h l.1) v l.0.takes.next) in
      named u ask found h l.1 p told (rw apart at asked)
  named u ask found (Refuse v c ∷ h) l p told asked = by_case (same_task_tells u v) (λ before. named u ask found h l.1 p before asked)
    where
      by_case : ((same_task u v ≡ true) × (u ≡ v)) ⊎ ((same_task u v ≡ false) × (u ≢ v)) → (reply_of u h ≡ Some (Search found) → found.context ≡ context_of u ask) → found.context ≡ context_of u ask
      by_case (inl (is_one, same)) before = absurd (let f = rw is_one at told in cc)
      by_case (inr (differs, apart)) before = before (rw differs at told)
  named u ask found (End v reply ∷ h) l p told asked = by_case (same_task_tells u v) (λ before. named u ask found h l.1 p.1 before asked)
    where
      by_case : ((same_task u v ≡ true) × (u ≡ v)) ⊎ ((same_task u v ≡ false) × (u ≢ v)) → (reply_of u h ≡ Some (Search found) → found.context ≡ context_of u ask) → found.context ≡ context_of u ask
      by_case (inl (is_one, same)) before =
          let replied = rw is_one at told in
          let good : reply ≡ Search found = cc in
          let search : request_of (scripted script) v h ≡ Some (asks.Search ask) = ap (λ w. request_of (scripted script) w h) (sym same) ∙ asked in
          subst (λ w. found.context ≡ context_of w ask) (sym same)
          (ends_named v (page_of (scripted script) v h) (mark_of v h) (counted cluster corpus (scripted script) v h) (request_of (scripted script) v h) h reply p.0 ask found search good)
      by_case (inr (differs, apart)) before = before (rw differs at told)
  named u ask found (_ ∷ h) l p told asked = named u ask found h l.1 p told asked
