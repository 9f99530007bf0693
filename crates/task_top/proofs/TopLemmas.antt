-- What the input was, from what was read of it.
use Rattle.std.proofs.Common.{◌≡◌, ℕ, List, Ok, inl, sym, ◌∙◌}
use Rattle.task_ids.specs.declared.cluster.Cluster.{Cluster}
use Rattle.task_ids.specs.declared.corpus.Corpus.{Corpus}
use Rattle.script_lang.specs.declared.command.Mode.TheVariants.{Sim}
use Rattle.script_lang.specs.declared.command.Script.{Script}
use Rattle.task_top.specs.declared.kept.Kept.{Kept}
use Rattle.top_parts.specs.declared.status.Status.{Status}
use Rattle.top_parts.specs.declared.status.Status.TheVariants.{Done, Usage, Refused, ReadFault, WriteFault, Memory, NoThread, HistoryFull, NumbersSpent}
use Rattle.task_top.specs.Kept.{AnswersInput, ReadsAs, IsAfterReading}
use Rattle.top_parts.specs.Reading.{Reads}

module _ (cluster : Cluster) (input : List ℕ) (kept : Kept) where
  answers_read : (status : Status) → IsAfterReading status → ReadsAs cluster input kept → AnswersInput cluster input status kept
  answers_read Done after read = read
  answers_read WriteFault after read = read
  answers_read HistoryFull after read = read
  answers_read NumbersSpent after read = read
  answers_read Memory after read = inl read
  answers_read Usage after read = absurd after
  answers_read (Refused line cause) after read = absurd after
  answers_read ReadFault after read = absurd after
  answers_read NoThread after read = absurd after

  -- what was read is what is kept of it
  pub answers_kept : (status : Status) (corpus : Corpus) (script : Script) → IsAfterReading status → kept.corpus ≡ corpus → kept.script ≡ script → Reads Sim cluster input corpus script → AnswersInput cluster input status kept
  answers_kept status corpus script after c s read = answers_read status after (read ∙ (λ i. Ok (sym c i, sym s i)))
