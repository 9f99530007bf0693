-- A first part of what a move appends keeps the laws that the whole keeps.
use Rattle.std.proofs.Common.{◌++◌, List, [], ◌∷◌, sym, subst, ◌∙◌, append_assoc}
use Rattle.task_ids.specs.declared.cluster.Cluster.{Cluster}
use Rattle.task_ids.specs.declared.corpus.Corpus.{Corpus}
use Rattle.task_ids.specs.declared.task_id.TaskId.{TaskId}
use Rattle.task_events.specs.declared.event.Event.{Event}
use Rattle.task_events.specs.declared.event.Event.TheVariants.{Root, Ask, Pass, Refuse, End}
use Rattle.task_events.specs.declared.reply.Counts.{Counts}
use Rattle.task_events.specs.Lawful.{Lawful}
use Rattle.task_events.specs.Requests.{Scripted}
use Rattle.task_laws.proofs.Earlier.{earlier_lawful}
use Rattle.script_lang.specs.declared.command.Script.{Script}
use Rattle.world_moves.specs.Moves.{IsPartOf, MayLeave}
use Rattle.world_moves.specs.Owning.{OneAtATime}
use Rattle.world_moves.specs.Plain.{AnswersPlainly}

-- what was so at a later moment was so before
pub earlier_plain : (cluster : Cluster) (corpus : Corpus) (script : Script) (later h : List Event) → AnswersPlainly cluster corpus script (later ++ h) → AnswersPlainly cluster corpus script h
earlier_plain cluster corpus script [] h p = p
earlier_plain cluster corpus script (End t reply ∷ later) h p = earlier_plain cluster corpus script later h p.1
earlier_plain cluster corpus script (_ ∷ later) h p = earlier_plain cluster corpus script later h p

pub earlier_alone : (said : Scripted) (later h : List Event) → OneAtATime said (later ++ h) → OneAtATime said h
earlier_alone said [] h a = a
earlier_alone said (Root k t ∷ later) h a = earlier_alone said later h a.1
earlier_alone said (Pass t ∷ later) h a = earlier_alone said later h a.1
earlier_alone said (Ask p k n r ∷ later) h a = earlier_alone said later h a.1
earlier_alone said (_ ∷ later) h a = earlier_alone said later h a

pub part_alone : (said : Scripted) (h new whole : List Event) → IsPartOf h new whole → OneAtATime said whole → OneAtATime said new
part_alone said h new whole (later, earlier, is_whole, is_new) a = earlier_alone said later new (subst (OneAtATime said) is_whole a)

-- a task that leaves begins no page
pub left_alone : (said : Scripted) (counts : Counts) (t : TaskId) (h : List Event) (e : Event) → MayLeave counts t e h → OneAtATime said h → OneAtATime said (e ∷ h)
left_alone said counts t h (Refuse u c) m a = a
left_alone said counts t h (End u reply) m a = a
left_alone said counts t h _ m a = absurd m

module _ (cluster : Cluster) (corpus : Corpus) (script : Script) where
  pub part_lawful : (h new whole : List Event) → IsPartOf h new whole → Lawful cluster whole → Lawful cluster new
  part_lawful h new whole (later, earlier, is_whole, is_new) l = earlier_lawful cluster later new (subst (Lawful cluster) is_whole l)

  pub part_plain : (h new whole : List Event) → IsPartOf h new whole → AnswersPlainly cluster corpus script whole → AnswersPlainly cluster corpus script new
  part_plain h new whole (later, earlier, is_whole, is_new) p = earlier_plain cluster corpus script later new (subst (AnswersPlainly cluster corpus script) is_whole p)

-- what is a part of a whole that went on from a first event
pub later_part : (e : Event) (h new whole : List Event) → IsPartOf (e ∷ h) new whole → IsPartOf h new whole
later_part e h new whole (later, earlier, is_whole, is_new) = (later, earlier ++ e ∷ [], is_whole, is_new ∙ sym (append_assoc earlier (e ∷ []) h))
