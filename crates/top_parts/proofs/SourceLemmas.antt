-- What the bytes of a source are, by the text that was read of it; and who is told that it gave too many.
use Rattle.std.proofs.Common.{◌≡◌, ℕ, ◌<◌, ◌≤◌, ◌↔◌, List, length, Option, Some, None, IfSome, sym, ap, ◌∙◌}
use Rattle.std.specs.Str.Lines.{lines}
use Rattle.std.proofs.lemmas.Option.{IfSome_then}
use Rattle.es_io.specs.Bytes.{IfGave}
use Rattle.task_ids.specs.declared.cause.Cause.TheVariants.{TooLong}
use Rattle.task_ids.specs.declared.cluster.Cluster.{Cluster}
use Rattle.script_lang.specs.declared.command.Mode.{Mode}
use Rattle.top_parts.specs.Reading.{max_input, read_lines, reading, Refuses}
use Rattle.top_parts.specs.Status.{TellsFault}
use Rattle.top_parts.proofs.ReadingLaws.{by_lines, by_length, Outcome}

module _ (mode : Mode) (cluster : Cluster) (left : Option (List ℕ)) where
  pub too_long : IfSome left (λ bytes. max_input < length bytes) → IfSome left (λ bytes. Refuses mode cluster bytes 0 TooLong)
  too_long longer = IfSome_then left longer (λ bytes more. by_length mode cluster bytes more)

  module _ (text : List ℕ) (outcome : Outcome) (read : read_lines mode cluster.nodes (lines text) ≡ outcome) where
    of_lines : (bytes : List ℕ) → text ≡ bytes → length bytes ≤ max_input → reading mode cluster bytes ≡ outcome
    of_lines bytes all fits = by_lines mode cluster bytes fits ∙ ap (λ b. read_lines mode cluster.nodes (lines b)) (sym all) ∙ read

    pub read_as : IfSome left (λ bytes. text ≡ bytes) → IfSome left (λ bytes. length bytes ≤ max_input) → IfSome left (λ bytes. reading mode cluster bytes ≡ outcome)
    read_as all fits = IfSome_then left (both left all fits) (λ bytes h. of_lines bytes h.0 h.1)
      where
        both : (o : Option (List ℕ)) → IfSome o (λ bytes. text ≡ bytes) → IfSome o (λ bytes. length bytes ≤ max_input) → IfSome o (λ bytes. (text ≡ bytes) × (length bytes ≤ max_input))
        both None a f = tt
        both (Some bytes) a f = (a, f)

-- where one of two is told exactly where the other is
module _ (A B : Type 0) where
  pub told_as : (before after : Option (List ℕ)) → IfGave before after (λ n. (max_input < n) ↔ A) → (A → B) → (B → A) → IfGave before after (λ n. (max_input < n) ↔ B)
  told_as None after given to from = tt
  told_as (Some bytes) None given to from = tt
  told_as (Some bytes) (Some rest) given to from = (λ more. to (given.0 more), λ told. given.1 (from told))

  pub fault_as : (before after : ℕ) → TellsFault before after A → (A → B) → (B → A) → TellsFault before after B
  fault_as before after tells to from = (λ rose. to (tells.0 rose), λ told. tells.1 (from told))
