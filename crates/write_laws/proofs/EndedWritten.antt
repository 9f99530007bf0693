-- What a task has written once it has ended is what it and its descendants had written by its end.
use Rattle.std.proofs.Common.{◌≡◌, ◌≢◌, ◌⊎◌, inl, inr, ℕ, Bool, true, false, List, [], ◌∷◌, Some, refl, sym, subst, ◌∙◌}
use Rattle.std.specs.Option.{option_map_or}
use Rattle.task_ids.specs.declared.cluster.Cluster.{Cluster}
use Rattle.task_ids.specs.declared.corpus.Corpus.{Corpus}
use Rattle.task_ids.specs.declared.doc.Doc.{Doc}
use Rattle.task_ids.specs.declared.task_id.TaskId.{TaskId}
use Rattle.task_events.specs.declared.event.Event.{Event}
use Rattle.task_events.specs.declared.event.Event.TheVariants.{Root, Ask, Put, Refuse, Write, End}
use Rattle.task_events.specs.declared.event.Outcome.{Outcome}
use Rattle.task_events.specs.declared.reply.Reply.{Reply}
use Rattle.task_events.specs.declared.reply.Reply.TheVariants.{Cancelled}
use Rattle.task_events.specs.declared.request.Request.{Request}
use Rattle.task_events.specs.Lawful.{Lawful}
use Rattle.task_events.specs.Requests.{Scripted, request_of}
use Rattle.task_events.specs.Same.{same_task}
use Rattle.task_events.specs.Tasks.{has_ended, no_counts, reply_of}
use Rattle.task_events.specs.Written.{next_doc}
use Rattle.task_laws.proofs.Content.{answer_facts}
use Rattle.task_laws.proofs.Same.{same_task_tells}
use Rattle.write_laws.specs.Copied.{HasWritten}
use Rattle.write_laws.specs.KindsAsked.{KeepsToKinds}
use Rattle.write_laws.specs.TreeWrites.{tree_number}
use Rattle.write_laws.proofs.Quiet.{ended_quiet, put_apart, root_apart}
use Rattle.write_laws.proofs.WholeTurns.{AllPlanned}

module _ (cluster : Cluster) (corpus : Corpus) (said : Scripted) where
  -- nothing is added
  none_added : (e : Event) (h : List Event) (t : TaskId) (docs : List Doc) → ((passes : Outcome → List Event → Bool) → tree_number passes t (e ∷ h) ≡ tree_number passes t h) → HasWritten said t h docs → HasWritten said t (e ∷ h) docs
  none_added e h t docs same w = record {
    each = λ test. same (λ outcome past. option_map_or test (next_doc said past) false) ∙ w.each test;
    no_more = same (λ outcome past. true) ∙ w.no_more;
  }

  -- a task that has ended writes nothing more, nor do its descendants
  pub none_written : (e : Event) (h : List Event) (t : TaskId) (docs : List Doc) → Lawful cluster (e ∷ h) → has_ended t h ≡ true → HasWritten said t h docs → HasWritten said t (e ∷ h) docs
  none_written (Write index shard outcome id) h t docs l ended w = let quiet = ended_quiet cluster h l.1 t ended in none_added (Write index shard outcome id) h t docs (λ passes. rw quiet (refl {a = tree_number passes t h})) w
  none_written e h t docs l ended w = none_added e h t docs (λ passes. refl) w

  pub none_at_end : (t : TaskId) (last : Reply) (h : List Event) (docs : List Doc) → HasWritten said t h docs → HasWritten said t (End t last ∷ h) docs
  none_at_end t last h docs w = none_added (End t last) h t docs (λ passes. refl) w

  -- what is so of the tasks of a request that reply so, at their end and from then on
  module _ (request : Request) (Fits : Reply → Type 0) (refused : (u : TaskId) (c : ℕ) → Fits (Cancelled u c no_counts) → ⊥) (Says : TaskId → List Event → Type 0)
      (stays : (e : Event) (h : List Event) (t : TaskId) → Lawful cluster (e ∷ h) → has_ended t h ≡ true → Says t h → Says t (e ∷ h)) (leaves : (t : TaskId) (last : Reply) (h : List Event) → Says t h → Says t (End t last ∷ h))
      (at_end : (h : List Event) (t : TaskId) (last : Reply) → Lawful cluster (End t last ∷ h) → KeepsToKinds said h → AllPlanned cluster corpus said (End t last ∷ h) → request_of said t h ≡ Some request → Fits last → Says t h) where
    abbrev Said : TaskId → Reply → List Event → Type 0
    Said t reply h = reply_of t h ≡ Some reply → request_of said t h ≡ Some request → Says t h

    ended : (h : List Event) → Lawful cluster h → (t : TaskId) (reply : Reply) → reply_of t h ≡ Some reply → has_ended t h ≡ true
    ended h l t reply e = (answer_facts cluster h l).reply_ended t reply e

    pub ended_says : (h : List Event) → Lawful cluster h → KeepsToKinds said h → AllPlanned cluster corpus said h → (t : TaskId) (reply : Reply) → Fits reply → Said t reply h
    ended_says [] l keeps p t reply fits e asked = absurd (cc)
    ended_says (Root c u ∷ h) l keeps p t reply fits e asked =
        let apart = root_apart cluster c u h l t reply e in
        stays (Root c u) h t l (ended h l.1 t reply e) (ended_says h l.1 keeps.1 p.1 t reply fits e (rw apart at asked))
    ended_says (Put u q j ∷ h) l keeps p t reply fits e asked =
        let apart = put_apart cluster u q j h l t reply e in
        stays (Put u q j) h t l (ended h l.1 t reply e) (ended_says h l.1 keeps.1 p.1 t reply fits e (rw apart at asked))
    ended_says (Write index shard outcome id ∷ h) l keeps p t reply fits e asked = stays (Write index shard outcome id) h t l (ended h l.1 t reply e) (ended_says h l.1 keeps.1 p.1 t reply fits e asked)
    ended_says (Refuse u c ∷ h) l keeps p t reply fits e asked = by_task (same_task t u) refl (ended_says h l.1 keeps.1 p.1 t reply fits)
      where
        by_task : (b : Bool) → same_task t u ≡ b → Said t reply h → Says t (Refuse u c ∷ h)
        by_task true own before = absurd (let told : Some (Cancelled u c no_counts) ≡ Some reply = rw own at e in let same : reply ≡ Cancelled u c no_counts = cc in refused u c (subst Fits same fits))
        by_task false other before = let was : reply_of t h ≡ Some reply = rw other at e in stays (Refuse u c) h t l (ended h l.1 t reply was) (before was asked)
    ended_says (End u last ∷ h) l keeps p t reply fits e asked = by_task (same_task_tells t u) (ended_says h l.1 keeps.1 p.1 t reply fits)
      where
        by_task : ((same_task t u ≡ true) × (t ≡ u)) ⊎ ((same_task t u ≡ false) × (t ≢ u)) → Said t reply h → Says t (End u last ∷ h)
        by_task (inl (one, same)) before =
            let told : Some last ≡ Some reply = rw one at e in
            let is_last : last ≡ reply = cc in
            let one_event : End u last ≡ End t reply = λ i. End (sym same i) (is_last i) in
            subst (λ x. Says t (x ∷ h)) (sym one_event) (leaves t reply h (at_end h t reply (subst (λ x. Lawful cluster (x ∷ h)) one_event l) keeps.1 (subst (λ x. AllPlanned cluster corpus said (x ∷ h)) one_event p) asked fits))
        by_task (inr (other, apart)) before = let was : reply_of t h ≡ Some reply = rw other at e in stays (End u last) h t l (ended h l.1 t reply was) (before was asked)
    ended_says (Ask q j n child ∷ h) l keeps p t reply fits e asked = stays (Ask q j n child) h t l (ended h l.1 t reply e) (ended_says h l.1 keeps.1 p.1 t reply fits e asked)
    ended_says (x ∷ h) l keeps p t reply fits e asked = stays x h t l (ended h l.1 t reply e) (ended_says h l.1 keeps.1 p.1 t reply fits e asked)

  -- the tasks of a request that reply so have written these documents
  pub ended_written : (request : Request) (docs : List Doc) (Fits : Reply → Type 0) → ((u : TaskId) (c : ℕ) → Fits (Cancelled u c no_counts) → ⊥)
      → ((h : List Event) (t : TaskId) (last : Reply) → Lawful cluster (End t last ∷ h) → KeepsToKinds said h → AllPlanned cluster corpus said (End t last ∷ h) → request_of said t h ≡ Some request → Fits last → HasWritten said t h docs)
      → (h : List Event) → Lawful cluster h → KeepsToKinds said h → AllPlanned cluster corpus said h → (t : TaskId) (reply : Reply) → Fits reply → reply_of t h ≡ Some reply → request_of said t h ≡ Some request → HasWritten said t h docs
  ended_written request docs Fits refused at_end =
      ended_says request Fits refused (λ t h. HasWritten said t h docs) (λ e h t l ended w. none_written e h t docs l ended w) (λ t last h w. none_at_end t last h docs w) at_end
