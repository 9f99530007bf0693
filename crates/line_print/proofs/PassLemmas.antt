-- How the turns and the ends of tasks are found in one pass over the events.
use Rattle.std.proofs.Common.{◌≡◌, ℕ, ◌+◌, ◌-◌, ◌<◌, ◌≤◌, ◌⊎◌, inl, inr, true, false, not, cond, List, reverse, take, drop, length, slice_get, Some, sym, ap, ◌∙◌, arith}
use Rattle.std.specs.HashMap.{HashMap}
use Rattle.std.specs.List.{position_or_len}
use Rattle.std.proofs.lemmas.Bool.{cases_lt}
use Rattle.std.proofs.lemmas.List.{drop_more, drop_all, take_all, drop-drop, length-drop, length-reverse}
use Rattle.std.proofs.lemmas.Option.{get_or_from_slice_get, slice_get_within}
use Rattle.task_ids.specs.declared.task_id.TaskId.{TaskId}
use Rattle.task_events.specs.declared.event.Event.{Event}
use Rattle.task_events.specs.Tasks.{reply_of}
use Rattle.task_events.specs.Turns.{is_begin}
use Rattle.line_print.specs.Ends.{AreEndsOfFirst, AreEndsBefore, IsRest}

-- ---- the next beginning, from a place on

module _ (es : List Event) (at : ℕ) (e : Event) (here : slice_get es at ≡ Some e) where
  first_from : position_or_len is_begin (drop at es) ≡ cond (not (is_begin e)) (1 + position_or_len is_begin (drop (at + 1) es)) 0
  first_from =
      ap (position_or_len is_begin) (drop_more es at e (slice_get_within es at e here))
      ∙ ap (λ x. cond (not (is_begin x)) (1 + position_or_len is_begin (drop (at + 1) es)) 0) (get_or_from_slice_get es at e e here)

  pub passed_on : is_begin e ≡ false → at + position_or_len is_begin (drop at es) ≡ at + 1 + position_or_len is_begin (drop (at + 1) es)
  passed_on none =
      let one = first_from ∙ ap (λ b. cond (not b) (1 + position_or_len is_begin (drop (at + 1) es)) 0) none in
      omega (arith, one)

  pub begins_here : is_begin e ≡ true → at + position_or_len is_begin (drop at es) ≡ at
  begins_here is =
      let zero = first_from ∙ ap (λ b. cond (not b) (1 + position_or_len is_begin (drop (at + 1) es)) 0) is in
      omega (arith, zero)

-- ---- the last events of a history

module _ (h rest : List Event) (is : IsRest h rest) where
  rest_short : length rest ≤ length h
  rest_short = omega (arith, ap length is ∙ length-drop (length h - length rest) (reverse h), length-reverse h)

  -- the next beginning among them, by its place in the history
  pub found_in : (all left begin : ℕ) → all ≡ length h → left ≡ length rest → begin ≡ all - left + position_or_len is_begin (drop (all - left) (reverse h)) → begin ≡ length h - length rest + position_or_len is_begin rest
  found_in all left begin a l place =
      let same : all - left ≡ length h - length rest = omega (arith, a, l) in
      place ∙ ap (λ n. n + position_or_len is_begin (drop n (reverse h))) same ∙ ap (λ later. length h - length rest + position_or_len is_begin later) (sym is)

  -- some of them are taken away
  pub rest_after : (n : ℕ) → IsRest h (drop n rest)
  rest_after n = by_case (cases_lt (length rest) n)
    where
      by_case : (length rest < n) ⊎ (n ≤ length rest) → drop n rest ≡ drop (length h - length (drop n rest)) (reverse h)
      by_case (inl past) =
          let all : length (reverse h) ≤ length h - length (drop n rest) = omega (arith, length-drop n rest, length-reverse h) in
          drop_all n rest (omega arith) ∙ sym (drop_all (length h - length (drop n rest)) (reverse h) all)
      by_case (inr within) =
          let same : length h - length rest + n ≡ length h - length (drop n rest) = omega (arith, length-drop n rest, rest_short) in
          ap (drop n) is ∙ drop-drop n (length h - length rest) (reverse h) ∙ ap (λ m. drop m (reverse h)) same

  -- a turn and the beginning behind it are taken away
  module _ {S : Type 0} (ends : HashMap TaskId ℕ S) where
    pub ends_after : (n at : ℕ) → n ≤ length rest → at ≡ length h - length rest + n → AreEndsOfFirst (at + 1) (reverse h) ends → AreEndsBefore h (drop (n + 1) rest) ends
    ends_after n at within place are t = are t ∙ ap (λ es. reply_of t (reverse es)) (by_case (cases_lt n (length rest)))
      where
        by_case : (n < length rest) ⊎ (length rest ≤ n) → take (at + 1) (reverse h) ≡ take (length h - length (drop (n + 1) rest)) (reverse h)
        by_case (inl found) =
            let same : at + 1 ≡ length h - length (drop (n + 1) rest) = omega (arith, place, length-drop (n + 1) rest, rest_short) in
            ap (λ m. take m (reverse h)) same
        by_case (inr none) =
            let all : length (reverse h) ≤ at + 1 = omega (arith, place, length-reverse h) in
            let also : length (reverse h) ≤ length h - length (drop (n + 1) rest) = omega (arith, length-drop (n + 1) rest, length-reverse h) in
            take_all (at + 1) (reverse h) all ∙ sym (take_all (length h - length (drop (n + 1) rest)) (reverse h) also)
