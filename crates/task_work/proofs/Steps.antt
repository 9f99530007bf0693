-- What a plan to ask and a plan to end come from.
use Rattle.std.specs.Prelude.{◌≡◌, Bool, true, false, Option, Some, None, length, slice_get}
use Rattle.std.proofs.Common.{ap}
use Rattle.search_phase.specs.Searching.{Searching, has_ended, next_step, reply_of}
use Rattle.task_events.specs.Looking.{work_or_end}
use Rattle.task_events.specs.SearchTask.{ask_or_end}
use Rattle.task_events.specs.Searches.{requests_of}
use Rattle.task_events.specs.declared.reply.Reply.{Reply}
use Rattle.task_events.specs.declared.request.Request.{Request}
use Rattle.task_events.specs.declared.step.Do.TheVariants.{AskNext, Finish}

pub asking_asks : (o : Option Request) (answered : Bool) (reply : Reply) (request : Request) → ask_or_end o answered reply ≡ AskNext request → o ≡ Some request
asking_asks (Some r) answered reply request e = cc
asking_asks None true reply request e = absurd cc
asking_asks None false reply request e = absurd cc

pub asking_ends : (o : Option Request) (answered : Bool) (reply end : Reply) → ask_or_end o answered reply ≡ Finish end → reply ≡ end
asking_ends None true reply end e = cc
asking_ends None false reply end e = absurd cc
asking_ends (Some r) answered reply end e = absurd cc

pub working_ends : (done : Bool) (reply end : Reply) → work_or_end done reply ≡ Finish end → reply ≡ end
working_ends true reply end e = cc
working_ends false reply end e = absurd cc

pub working_asks : (done : Bool) (reply : Reply) (request : Request) → work_or_end done reply ≡ AskNext request → ⊥
working_asks true reply request e = cc
working_asks false reply request e = cc

module _ (s : Searching) where
  pub search_asks : (request : Request) → next_step s ≡ AskNext request → slice_get (requests_of s.reading s.asked) (length s.asked) ≡ Some request
  search_asks request e = asking_asks _ _ _ request e

  pub search_ends : (end : Reply) → next_step s ≡ Finish end → reply_of s ≡ end
  search_ends end e = asking_ends _ _ _ end e

  pub search_over : (end : Reply) → next_step s ≡ Finish end → has_ended (next_step s) ≡ true
  search_over end e = ap has_ended e
