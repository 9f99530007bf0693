-- Each reply that tells what was written tells what the tree of its task has written.
use Rattle.std.proofs.Common.{◌≡◌, ◌≢◌, ◌⊎◌, inl, inr, ℕ, Bool, true, false, cond, List, [], ◌∷◌, Some, refl, sym, ap, ◌∙◌}
use Rattle.task_ids.specs.declared.task_id.TaskId.{TaskId}
use Rattle.task_ids.specs.declared.cluster.Cluster.{Cluster}
use Rattle.task_ids.specs.declared.corpus.Corpus.{Corpus}
use Rattle.task_events.specs.declared.event.Event.{Event}
use Rattle.task_events.specs.declared.event.Event.TheVariants.{Root, Ask, Put, Refuse, Write, End}
use Rattle.task_events.specs.declared.event.Outcome.{Outcome}
use Rattle.task_events.specs.declared.reply.Counts.{Counts}
use Rattle.task_events.specs.declared.reply.Reply.{Reply}
use Rattle.task_events.specs.declared.reply.Reply.TheVariants.{Cancelled}
use Rattle.task_events.specs.Counting.{carried}
use Rattle.task_events.specs.Lawful.{Lawful}
use Rattle.task_events.specs.Requests.{Scripted, request_of}
use Rattle.task_events.specs.Same.{same_task}
use Rattle.task_events.specs.Tasks.{no_counts, reply_of}
use Rattle.task_laws.proofs.Content.{answer_facts}
use Rattle.task_laws.proofs.Same.{same_task_tells}
use Rattle.write_laws.specs.KindsAsked.{KeepsToKinds}
use Rattle.write_laws.specs.TreeWrites.{tree_writes}
use Rattle.write_laws.proofs.EndsCount.{counted_all}
use Rattle.write_laws.proofs.Quiet.{ended_quiet, new_writes, put_apart, root_apart}
use Rattle.write_laws.proofs.Tells.{IsNumberOf, TellsCounts, telling_asked}

module _ (cluster : Cluster) (corpus : Corpus) (said : Scripted) (test : Outcome → Bool) (number : Counts → ℕ) (is : IsNumberOf test number) where
  abbrev Tells : TaskId → List Event → Type 0
  Tells t h = (reply : Reply) → reply_of t h ≡ Some reply → telling_asked (request_of said t h) ≡ true → number (carried reply) ≡ tree_writes test t h

  leaving : (u : TaskId) (last : Reply) (h : List Event) → (telling_asked (request_of said u h) ≡ true → number (carried last) ≡ tree_writes test u h) → (t : TaskId) → Tells t h
      → (reply : Reply) → cond (same_task t u) (Some last) (reply_of t h) ≡ Some reply → telling_asked (request_of said t h) ≡ true → number (carried reply) ≡ tree_writes test t h
  leaving u last h now t before reply e tells = by_task (same_task_tells t u)
    where
      by_task : ((same_task t u ≡ true) × (t ≡ u)) ⊎ ((same_task t u ≡ false) × (t ≢ u)) → number (carried reply) ≡ tree_writes test t h
      by_task (inl (one, same)) =
          let told : Some last ≡ Some reply = rw one at e in
          let is_last : reply ≡ last = cc in
          ap (λ r. number (carried r)) is_last ∙ now (ap (λ x. telling_asked (request_of said x h)) (sym same) ∙ tells) ∙ ap (λ x. tree_writes test x h) (sym same)
      by_task (inr (other, apart)) = before reply (rw other at e) tells

  pub replies_tell : (h : List Event) → Lawful cluster h → KeepsToKinds said h → TellsCounts cluster corpus said h → (t : TaskId) → Tells t h
  replies_tell [] l keeps tells t reply e asked = absurd (cc)
  replies_tell (Root c u ∷ h) l keeps tells t reply e asked =
      let apart = root_apart cluster c u h l t reply e in
      replies_tell h l.1 keeps.1 tells t reply e (rw apart at asked)
  replies_tell (Put u q j ∷ h) l keeps tells t reply e asked =
      let apart = put_apart cluster u q j h l t reply e in
      replies_tell h l.1 keeps.1 tells t reply e (rw apart at asked)
  replies_tell (Ask q j n child ∷ h) l keeps tells t reply e asked = replies_tell h l.1 keeps.1 tells t reply e asked
  replies_tell (Write index shard outcome id ∷ h) l keeps tells t reply e asked =
      let quiet = ended_quiet cluster h l.1 t ((answer_facts cluster h l.1).reply_ended t reply e) in
      rw quiet (replies_tell h l.1 keeps.1 tells t reply e asked)
  replies_tell (Refuse u c ∷ h) l keeps tells t reply e asked =
      leaving u (Cancelled u c no_counts) h (λ telling. is.none ∙ sym (new_writes cluster test h l.1 u l.0.first)) t (replies_tell h l.1 keeps.1 tells t) reply e asked
  replies_tell (End u last ∷ h) l keeps tells t reply e asked =
      leaving u last h
      (λ telling. ap number (tells.0 telling) ∙ counted_all cluster corpus said h l.1 keeps.1 test number is (λ c r. replies_tell h l.1 keeps.1 tells.1 c r) u l.0.answered (request_of said u h) refl telling)
      t (replies_tell h l.1 keeps.1 tells.1 t) reply e asked
  replies_tell (_ ∷ h) l keeps tells t reply e asked = replies_tell h l.1 keeps.1 tells t reply e asked
