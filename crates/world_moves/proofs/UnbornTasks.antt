-- The past says nothing of a task that has not started.
use Rattle.std.proofs.Common.{◌≡◌, ◌<◌, false, List, [], ◌∷◌, None, refl, ◌∙◌, arith}
use Rattle.task_ids.specs.declared.task_id.TaskId.{TaskId}
use Rattle.task_ids.specs.declared.cluster.Cluster.{Cluster}
use Rattle.task_ids.specs.Headers.{no_headers}
use Rattle.task_events.specs.declared.event.Event.{Event}
use Rattle.task_events.specs.declared.event.Event.TheVariants.{Root, Ask, Put, Pass, Refuse, Mark, Work, Write, Answered, End}
use Rattle.task_events.specs.Requests.{Scripted}
use Rattle.task_events.specs.Tasks.{last_number}
use Rattle.task_events.specs.Allowed.{Allowed}
use Rattle.task_events.specs.Lawful.{Lawful}
use Rattle.task_laws.proofs.Same.{same_tests}
use Rattle.task_laws.proofs.InFlight.{answers_in_flight}
use Rattle.task_laws.proofs.Asks.{AskFacts, ask_facts}
use Rattle.task_events.specs.Written.{is_writing}
use Rattle.world_moves.specs.Facts.{Facts, facts_of, is_about}
use Rattle.world_moves.proofs.FactsAfter.{frame}
use Rattle.world_moves.proofs.WriteOrNot.{write_or_not}

abbrev pub blank : Facts
blank = record { live = false; new = false; parent = None; ask = 0; mark = None; awaited = []; requests = []; request = None; page = None; asked = []; came = []; turns = 0; began = None; created = 0; updated = 0; headers = no_headers }

module _ (cluster : Cluster) (t : TaskId) where
  not_about : (e : Event) (h : List Event) → Allowed cluster e h → AskFacts h → last_number t.node (e ∷ h) < t.number → is_about t e ≡ false
  not_about (Root c u) h a f l = grind (arith, same_tests)
  not_about (Ask p k n r) h a f l = grind (arith, same_tests, f.born p, a.goes_on.live)
  not_about (Put u p k) h a f l = grind (arith, same_tests)
  not_about (Pass u) h a f l = grind (arith, same_tests, f.born u, a.live)
  not_about (Refuse u c) h a f l = grind (arith, same_tests, f.born u, a.live)
  not_about (Mark u c) h a f l = grind (arith, same_tests, f.born u, a.live)
  not_about (Work u) h a f l = grind (arith, same_tests, f.born u, a.goes_on.live)
  not_about (Answered p k) h a f l = grind (arith, same_tests, answers_in_flight p k h, f.place p k, f.live_asker p k, f.born p)
  not_about (End u r) h a f l = grind (arith, same_tests, f.born u, a.goes_on.live)
  not_about _ h a f l = refl

  unborn_before : (e : Event) (h : List Event) → Allowed cluster e h → last_number t.node (e ∷ h) < t.number → last_number t.node h < t.number
  unborn_before (Root c u) h a l = let next = a.takes.next in grind (arith, same_tests)
  unborn_before (Put u p k) h a l = let next = a.takes.next in grind (arith, same_tests)
  unborn_before _ h a l = l

  -- the turn of work that is going on is not one of it
  not_its_turn : (h : List Event) → Lawful cluster h → last_number t.node h < t.number → is_writing t h ≡ false
  not_its_turn (Work u ∷ h) lawful l = let live = lawful.0.goes_on.live in grind (arith, same_tests, (ask_facts cluster h lawful.1).born u)
  not_its_turn (Write index shard outcome id ∷ h) lawful l = not_its_turn h lawful.1 l
  not_its_turn [] lawful l = refl
  not_its_turn (_ ∷ h) lawful l = refl

  still_blank : (said : Scripted) (h : List Event) → facts_of said t h ≡ blank → (e : Event) → Lawful cluster (e ∷ h) → last_number t.node (e ∷ h) < t.number → facts_of said t (e ∷ h) ≡ blank
  still_blank said h none = write_or_not (λ e. Lawful cluster (e ∷ h) → last_number t.node (e ∷ h) < t.number → facts_of said t (e ∷ h) ≡ blank)
      (λ index shard outcome id lawful l. rw (not_its_turn h lawful.1 l) none)
      (λ e quiet lawful l. frame said t e h (not_about e h lawful.0 (ask_facts cluster h lawful.1) l) quiet ∙ none)

  pub unborn : (said : Scripted) (h : List Event) → Lawful cluster h → last_number t.node h < t.number → facts_of said t h ≡ blank
  unborn said [] lawful l = refl
  unborn said (e ∷ h) lawful l = still_blank said h (unborn said h lawful.1 (unborn_before e h lawful.0 l)) e lawful l
