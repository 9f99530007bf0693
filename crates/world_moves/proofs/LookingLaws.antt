-- What is so of every kind of work that looks at a shard by turns.
use Rattle.std.proofs.Common.{◌≡◌, ℕ, zero, suc, ◌+◌, ◌*◌, Bool, true, false, List, [], take, refl, ap, ◌∙◌, arith}
use Rattle.std.specs.Prelude.{is_some, drop}
use Rattle.task_ids.specs.declared.doc.Doc.{Doc}
use Rattle.task_events.specs.declared.request.Request.{Request}
use Rattle.task_events.specs.declared.reply.Reply.{Reply}
use Rattle.task_events.specs.declared.step.Do.TheVariants.{AskNext, Finish}
use Rattle.task_events.specs.Looking.{rows_per_turn, work_or_end}
use Rattle.task_events.specs.Written.{docs_of_turn}
use Rattle.task_work.specs.Works.{does_wait, due_in}

pub asks_nothing : (b : Bool) (reply : Reply) (request : Request) → work_or_end b reply ≡ AskNext request → ⊥
asks_nothing true reply request e = cc
asks_nothing false reply request e = cc

pub work_ends : (b : Bool) (reply end : Reply) → work_or_end b reply ≡ Finish end → end ≡ reply
work_ends true reply end e = cc
work_ends false reply end e = absurd (cc)

-- it waits for nothing
pub looks_on : (done : Bool) (reply : Reply) → does_wait (work_or_end done reply) ≡ is_some (due_in (work_or_end done reply))
looks_on true reply = refl
looks_on false reply = refl

-- and writes nothing
pub no_docs : (turns : ℕ) → docs_of_turn [] turns ≡ []
no_docs turns = ap (take rows_per_turn) (dropped (turns * rows_per_turn)) ∙ taken rows_per_turn
  where
    nothing : List Doc
    nothing = []

    dropped : (n : ℕ) → drop n nothing ≡ nothing
    dropped zero = refl
    dropped (suc n) = refl

    taken : (n : ℕ) → take n nothing ≡ nothing
    taken zero = refl
    taken (suc n) = refl
