-- The answers that come of some acts and of those after them.
use Rattle.std.proofs.Common.{◌≡◌, ◌++◌, ◌∷◌, [], ◌<◌, ◌+◌, ◌==◌, ℕ, List, length, get_or, take, drop, cond, refl, sym, ap, ◌∙◌, append-nil, append_assoc}
use Rattle.std.proofs.lemmas.List.{take-append-drop, take_more}
use Rattle.std.proofs.lemmas.List.Elements.{filter_map-append}
use Rattle.cancel_core.specs.declared.act.Act.{Act}
use Rattle.task_events.specs.declared.event.Event.{Event}
use Rattle.world_moves.specs.Acts.{answer_in, offered_in, cancel_of, left_after, answers_of, answers_in}
use Rattle.world_moves.specs.Left.{one_less}

-- one more act is done
pub one_more : (acts : List Act) (i : ℕ) (act : Act) → i < length acts → act ≡ get_or acts i act → take (i + 1) acts ≡ take i acts ++ act ∷ []
one_more acts i act below is = take_more acts i act below ∙ ap (λ a. take i acts ++ a ∷ []) (sym is)

pub offered_more : (acts : List Act) (i : ℕ) (act : Act) → i < length acts → act ≡ get_or acts i act → offered_in (take (i + 1) acts) ≡ offered_in (take i acts) ++ offered_in (act ∷ [])
offered_more acts i act below is = ap offered_in (one_more acts i act below is) ∙ filter_map-append answer_in (take i acts) (act ∷ [])

pub left_later : (es later : List Event) (left : ℕ → ℕ) → left_after (es ++ later) left ≡ left_after later (left_after es left)
left_later [] later left = refl
left_later (e ∷ es) later left = left_later es later (one_less (cancel_of e) left)

pub answers_later : (es later : List Event) (left : ℕ → ℕ) → answers_of (es ++ later) left ≡ answers_of later (left_after es left) ++ answers_of es left
answers_later [] later left = sym (append-nil (answers_of later left))
answers_later (e ∷ es) later left =
    ap (λ xs. xs ++ cond (left (cancel_of e) == 1) (e ∷ []) []) (answers_later es later (one_less (cancel_of e) left))
    ∙ append_assoc (answers_of later (left_after es (one_less (cancel_of e) left))) (answers_of es (one_less (cancel_of e) left)) (cond (left (cancel_of e) == 1) (e ∷ []) [])

-- how many tasks are left after one more act
pub more_left : (acts : List Act) (i : ℕ) (act : Act) (old now new : ℕ → ℕ) → i < length acts → act ≡ get_or acts i act → ((c : ℕ) → now c ≡ left_after (offered_in (take i acts)) old c)
    → ((c : ℕ) → new c ≡ left_after (offered_in (act ∷ [])) now c) → (c : ℕ) → new c ≡ left_after (offered_in (take (i + 1) acts)) old c
more_left acts i act old now new below is so_far more c =
    more c ∙ (λ j. left_after (offered_in (act ∷ [])) (λ d. so_far d j) c) ∙ sym (ap (λ f. f c) (left_later (offered_in (take i acts)) (offered_in (act ∷ [])) old))
    ∙ sym (ap (λ es. left_after es old c) (offered_more acts i act below is))

-- and what is answered
pub more_answered : (acts : List Act) (i : ℕ) (act : Act) (left now : ℕ → ℕ) (old past new : List Event) → i < length acts → act ≡ get_or acts i act → ((c : ℕ) → now c ≡ left_after (offered_in (take i acts)) left c)
    → past ≡ answers_in (take i acts) left ++ old → new ≡ answers_in (act ∷ []) now ++ past → new ≡ answers_in (take (i + 1) acts) left ++ old
more_answered acts i act left now old past new below is counted so_far answered =
    answered ∙ (λ j. answers_in (act ∷ []) (λ c. counted c j) ++ so_far j)
    ∙ sym (append_assoc (answers_in (act ∷ []) (left_after (offered_in (take i acts)) left)) (answers_in (take i acts) left) old)
    ∙ ap (λ es. es ++ old) (sym (ap (λ es. answers_of es left) (offered_more acts i act below is) ∙ answers_later (offered_in (take i acts)) (offered_in (act ∷ [])) left))

-- the answers of all acts come after those of the first
pub whole_answers : (acts : List Act) (i : ℕ) (left : ℕ → ℕ) (old past : List Event) → past ≡ answers_in (take i acts) left ++ old → answers_in acts left ++ old ≡ answers_in (drop i acts) (left_after (offered_in (take i acts)) left) ++ past
whole_answers acts i left old past so_far =
    ap (λ xs. answers_of (offered_in xs) left ++ old) (sym (take-append-drop i acts))
    ∙ ap (λ es. answers_of es left ++ old) (filter_map-append answer_in (take i acts) (drop i acts))
    ∙ ap (λ es. es ++ old) (answers_later (offered_in (take i acts)) (offered_in (drop i acts)) left)
    ∙ append_assoc (answers_in (drop i acts) (left_after (offered_in (take i acts)) left)) (answers_in (take i acts) left) old
    ∙ ap (λ es. answers_in (drop i acts) (left_after (offered_in (take i acts)) left) ++ es) (sym so_far)
