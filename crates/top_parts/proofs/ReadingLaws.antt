-- Any bytes are read or refused, once; and what an input is, from its length and its lines.
use Rattle.std.proofs.Common.{◌≡◌, ℕ, ◌<◌, ◌≤◌, ◌⊎◌, List, length, Result, Ok, Err, inl, inr, cond, refl, sym, ap, ◌∙◌, ⊎_elim, arith}
use Rattle.std.specs.Str.Lines.{lines}
use Rattle.std.proofs.lemmas.Bool.{cases_lt, lt-ltb, le-ltb}
use Rattle.task_ids.specs.declared.cause.Cause.TheVariants.{TooLong}
use Rattle.task_ids.specs.declared.cluster.Cluster.{Cluster}
use Rattle.task_ids.specs.declared.corpus.Corpus.{Corpus}
use Rattle.shard_docs.specs.Fault.{Fault}
use Rattle.script_lang.specs.declared.command.Mode.{Mode}
use Rattle.script_lang.specs.declared.command.Script.{Script}
use Rattle.top_parts.specs.Reading.{max_input, read_lines, reading, Refuses, IsRead, IsRefused}
use Rattle.top_parts.proofs.NumberLemmas.{refused_at}

abbrev pub Outcome : Type 0
Outcome = Result (Corpus × Script) Fault

module _ (mode : Mode) (cluster : Cluster) (input : List ℕ) where
  -- an input that is not too long is read or refused by its lines
  pub by_lines : length input ≤ max_input → reading mode cluster input ≡ read_lines mode cluster.nodes (lines input)
  unfolding reading
  by_lines fits = ap (λ b. cond b (Err (0, TooLong)) (read_lines mode cluster.nodes (lines input))) (le-ltb max_input (length input) fits)

  -- one that is too long is refused for that alone
  pub by_length : max_input < length input → reading mode cluster input ≡ Err (0, TooLong)
  unfolding reading
  by_length longer = ap (λ b. cond b (Err (0, TooLong)) (read_lines mode cluster.nodes (lines input))) (lt-ltb max_input (length input) longer)

  read_or_refused : (outcome : Outcome) → reading mode cluster input ≡ outcome → IsRead mode cluster input ⊎ IsRefused mode cluster input
  read_or_refused (Ok found) e = inl (found.0, found.1, e)
  read_or_refused (Err refusal) e = inr (refusal.0, refusal.1, e)

  pub either : IsRead mode cluster input ⊎ IsRefused mode cluster input
  either = read_or_refused (reading mode cluster input) refl

  pub too_long : (Refuses mode cluster input 0 TooLong → max_input < length input) × (max_input < length input → Refuses mode cluster input 0 TooLong)
  too_long = (λ e. ⊎_elim (λ longer. longer) (λ fits. let at = refused_at mode cluster.nodes (lines input) (0, TooLong) (sym (by_lines fits) ∙ e) in absurd (omega arith)) (cases_lt max_input (length input)), by_length)
