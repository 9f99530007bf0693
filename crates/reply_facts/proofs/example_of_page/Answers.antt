use Rattle.std.proofs.Common.{◌≡◌, ℕ, List, [], ◌∷◌, refl, ap, arith}
use Rattle.task_events.specs.declared.reply.Hit.{Hit}
use Rattle.task_events.specs.declared.reply.Reply.{Reply}
use Rattle.task_events.specs.declared.reply.Reply.TheVariants.{Search}
use Rattle.reply_facts.proofs.example_of_page.Goals as goal

differ : (m n : ℕ) → m ≡ 0 → n ≡ 1 → m ≡ n → ⊥
differ m n zero one same = absurd (omega arith)

differ_more : (m n : ℕ) → m ≡ 1 → n ≡ 3 → m ≡ n → ⊥
differ_more m n one three same = absurd (omega arith)

abbrev place_in : List Hit → ℕ
place_in [] = 0
place_in (hit ∷ hits) = hit.place

abbrev first_place : Reply → ℕ
first_place (Search answer) = place_in answer.hits
first_place _ = 0

abbrev total_in : Reply → ℕ
total_in (Search answer) = answer.total
total_in _ = 0

pub returns-clause-next : goal.returns-clause-next
returns-clause-next c = record { plain = refl; counts = (refl, (refl, tt)); whole = (refl, (refl, tt)); counted = refl; lost = refl }

pub returns-clause-again : goal.returns-clause-again
returns-clause-again c = λ h. differ 0 1 refl refl (ap first_place h.plain)

pub returns-clause-total : goal.returns-clause-total
returns-clause-total c = λ h. differ_more 1 3 refl refl (ap total_in h.plain)
