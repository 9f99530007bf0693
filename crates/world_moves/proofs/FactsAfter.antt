-- What an event changes of the facts of a task: nothing, unless it is about that task.
use Rattle.std.proofs.Common.{◌≡◌, ℕ, ◌+◌, ◌-◌, true, false, List, [], ◌∷◌, ◌++◌, Some, None, refl, map, arith}
use Rattle.std.specs.Prelude.{slice_set}
use Rattle.std.specs.Option.{option_or}
use Rattle.task_ids.specs.declared.corpus.Corpus.{Corpus}
use Rattle.task_ids.specs.declared.task_id.TaskId.{TaskId}
use Rattle.task_events.specs.declared.request.Request.{Request}
use Rattle.task_events.specs.declared.event.Event.{Event}
use Rattle.task_events.specs.declared.event.Event.TheVariants.{Root, Ask, Put, Pass, Refuse, Mark, Work, Write, Answered, End}
use Rattle.task_events.specs.Clock.{clock}
use Rattle.task_events.specs.Requests.{Scripted, request_of}
use Rattle.task_events.specs.Same.{same_task}
use Rattle.task_events.specs.Asks.{request_of_ask, answer_of}
use Rattle.task_events.specs.Contexts.{context_at, asked_page}
use Rattle.task_events.specs.Steps.{asked_by, came_by, turns_of, before_first_turn, with_answer}
use Rattle.task_events.specs.Written.{corpus_at}
use Rattle.task_events.specs.TaskRows.{headers_of}
use Rattle.task_laws.proofs.Same.{same_tests}
use Rattle.world_moves.specs.Facts.{facts_of, is_about, is_write, awaited_by, requested_by}

pub frame : (said : Scripted) (t : TaskId) (e : Event) (h : List Event) → is_about t e ≡ false → is_write e ≡ false → facts_of said t (e ∷ h) ≡ facts_of said t h
frame said t (Root c u) h e w = rw e refl
frame said t (Ask p k n r) h e w = rw e refl
frame said t (Put u p k) h e w = rw e refl
frame said t (Pass u) h e w = rw e refl
frame said t (Refuse u c) h e w = rw e refl
frame said t (Mark u c) h e w = rw e refl
frame said t (Work u) h e w = rw e refl
frame said t (Answered p k) h e w = rw e refl
frame said t (End u r) h e w = rw e refl
frame said t (Write index shard outcome id) h e w = absurd (cc)
frame said t _ h e w = refl

-- and nothing of what is written, unless it is a write
pub lines_same : (said : Scripted) (corpus : Corpus) (e : Event) (h : List Event) → is_write e ≡ false → corpus_at corpus said (e ∷ h) ≡ corpus_at corpus said h
lines_same said corpus (Write index shard outcome id) h w = absurd (cc)
lines_same said corpus _ h w = refl

-- What it changes where it is about the task.
module _ (said : Scripted) (t : TaskId) (h : List Event) where
  itself : same_task t t ≡ true
  itself = grind (arith, same_tests)

  pub at_root : (c : ℕ) → facts_of said t (Root c t ∷ h) ≡ record (facts_of said t h) { live = true; request = said.root c h; page = asked_page (λ id. context_at said id h) (said.root c h); headers = said.carried c }
  at_root c = rw itself refl

  pub at_put : (p : TaskId) (k : ℕ) → facts_of said t (Put t p k ∷ h) ≡ record (facts_of said t h) { live = true; new = true; parent = Some p; ask = k; request = request_of_ask p k h; headers = headers_of said p h }
  at_put p k = rw itself refl

  pub at_ask : (k n : ℕ) (r : Request) → facts_of said t (Ask t k n r ∷ h) ≡ record (facts_of said t h) { awaited = awaited_by t h ++ Some n ∷ []; requests = requested_by t h ++ r ∷ []; asked = asked_by t h ++ record { ask = k; answer = None } ∷ []; came = came_by t h ++ 0 ∷ [] }
  at_ask k n r = rw itself refl

  pub at_pass : facts_of said t (Pass t ∷ h) ≡ record (facts_of said t h) { new = false; page = asked_page (λ id. context_at said id h) (request_of said t h) }
  at_pass = rw itself refl

  pub at_mark : (c : ℕ) → facts_of said t (Mark t c ∷ h) ≡ record (facts_of said t h) { mark = Some c }
  at_mark c = rw itself refl

  pub at_work : facts_of said t (Work t ∷ h) ≡ record (facts_of said t h) { turns = 1 + turns_of t h; began = option_or (before_first_turn t h) (Some h) }
  at_work = rw itself refl

  pub at_answered : (k : ℕ) → facts_of said t (Answered t k ∷ h) ≡ record (facts_of said t h) { awaited = slice_set (awaited_by t h) (k - 1) None; asked = map (with_answer k (answer_of t k h)) (asked_by t h); came = slice_set (came_by t h) (k - 1) (clock h) }
  at_answered k = rw itself refl
