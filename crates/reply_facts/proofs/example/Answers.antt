use Rattle.std.proofs.Common.{◌≡◌, ℕ, false, true, refl, ap, arith}
use Rattle.task_events.specs.declared.reply.ShardCount.{ShardCount}
use Rattle.reply_facts.proofs.example.Goals as goal

one_is_not_two : (n : ℕ) → n ≡ 1 → n ≡ 2 → ⊥
one_is_not_two n one two = absurd (omega arith)

false_is_not_true : false ≡ true → ⊥
false_is_not_true e = absurd cc

pub returns-clause-whole : goal.returns-clause-whole
returns-clause-whole c = record { plain = refl; counts = (refl, (refl, tt)); whole = (refl, (refl, tt)); counted = refl; lost = refl }

pub returns-clause-without : goal.returns-clause-without
returns-clause-without c = record { plain = refl; counts = (refl, tt); whole = (refl, (refl, tt)); counted = refl; lost = refl }

pub returns-clause-silence : goal.returns-clause-silence
returns-clause-silence c = λ h. false_is_not_true h.whole.1.0

pub returns-clause-early : goal.returns-clause-early
returns-clause-early c = λ h. one_is_not_two 1 refl (ap (λ (n : ShardCount). n.version) h.counts.1.0)
