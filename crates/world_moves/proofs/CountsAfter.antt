-- At how many tasks each cancel waits after an event about one of them, and which cancels are answered with it.
use Rattle.std.proofs.Common.{◌≡◌, ◌-◌, ◌==◌, ◌&&◌, ◌||◌, ◌++◌, ℕ, Bool, true, false, cond, not, List, [], ◌∷◌, filter, length, map, reverse, None, refl, sym, ap, ◌∙◌, append-nil, arith}
use Rattle.std.proofs.lemmas.Bool.Decides.{nat_tests}
use Rattle.std.proofs.lemmas.Grind.{reverse_onto}
use Rattle.task_ids.specs.declared.task_id.TaskId.{TaskId}
use Rattle.task_ids.specs.declared.cluster.Cluster.{Cluster}
use Rattle.task_events.specs.declared.event.Event.{Event}
use Rattle.task_events.specs.Same.{same_task}
use Rattle.task_events.specs.Cancels.{is_named}
use Rattle.task_events.specs.Lawful.{Lawful}
use Rattle.task_laws.proofs.Same.{same_tests}
use Rattle.world_moves.specs.Acts.{cancel_of, left_after, answers_of}
use Rattle.world_moves.specs.Cancels.{is_answered, is_due, is_through, named_by, tasks_named, waiting_for, waits_for_end, answer_by, answer_to, due_for, left_of, with_answers}
use Rattle.world_moves.specs.Left.{HasLeft, one_less}
use Rattle.world_moves.proofs.CancelAnswersAfter.{answered_due, named_still, left_still}
use Rattle.world_moves.proofs.NamedCancels.{is_in, AllDiffer, named_in, named_differ, in_filter, filter_differ, filter_same, filter_twice}
use Rattle.world_moves.proofs.OneChange.{changed, present}
use Rattle.world_moves.proofs.TasksNamed.{task_in, named_once, due_where_none}

-- ---- answers that are given for one task

cancel_answered : (b : Bool) (c : ℕ) → cancel_of (answer_by b c) ≡ c
cancel_answered true c = refl
cancel_answered false c = refl

-- what comes of them is the answer of each cancel that waits at this task alone
pub answered_map : (past : List Event) (cs : List ℕ) (left : ℕ → ℕ) → AllDiffer cs → answers_of (map (answer_to past) cs) left ≡ reverse (map (answer_to past) (filter (λ c. left c == 1) cs))
answered_map past [] left differ = refl
answered_map past (c ∷ cs) left differ =
    (λ i. answers_of (map (answer_to past) cs) (one_less (its i) left) ++ cond (left (its i) == 1) (answer_to past c ∷ []) [])
    ∙ ap (λ es. es ++ cond (left c == 1) (answer_to past c ∷ []) []) (answered_map past cs (one_less c left) differ.1 ∙ ap (λ ds. reverse (map (answer_to past) ds)) others)
    ∙ joined (left c == 1)
  where
    its : cancel_of (answer_to past c) ≡ c
    its = cancel_answered (waits_for_end c past) c

    others : filter (λ d. one_less c left d == 1) cs ≡ filter (λ d. left d == 1) cs
    others = filter_same (λ d. one_less c left d == 1) (λ d. left d == 1) cs (λ d i. let apart = differ.0 in by_number d (d == c) refl i apart)
      where
        by_number : (d : ℕ) (b : Bool) → (d == c) ≡ b → is_in d cs ≡ true → is_in c cs ≡ false → (one_less c left d == 1) ≡ (left d == 1)
        by_number d true e i a = let same : d ≡ c = grind (arith, nat_tests) in absurd (let here = ap (λ x. is_in x cs) same in cc)
        by_number d false e i a = rw e refl

    joined : (b : Bool) → reverse (map (answer_to past) (filter (λ d. left d == 1) cs)) ++ cond b (answer_to past c ∷ []) [] ≡ reverse (map (answer_to past) (cond b (c ∷ filter (λ d. left d == 1) cs) (filter (λ d. left d == 1) cs)))
    joined true = sym (reverse_onto (map (answer_to past) (filter (λ d. left d == 1) cs)) (answer_to past c) [])
    joined false = append-nil (reverse (map (answer_to past) (filter (λ d. left d == 1) cs)))

pub left_map : (past : List Event) (cs : List ℕ) (left : ℕ → ℕ) (c : ℕ) → AllDiffer cs → left_after (map (answer_to past) cs) left c ≡ cond (is_in c cs) (left c - 1) (left c)
left_map past [] left c differ = refl
left_map past (d ∷ cs) left c differ =
    (λ i. left_after (map (answer_to past) cs) (one_less (its i) left) c) ∙ left_map past cs (one_less d left) c differ.1 ∙ by_number (c == d) refl
  where
    its : cancel_of (answer_to past d) ≡ d
    its = cancel_answered (waits_for_end d past) d

    by_number : (b : Bool) → (c == d) ≡ b → cond (is_in c cs) (one_less d left c - 1) (one_less d left c) ≡ cond (is_in c (d ∷ cs)) (left c - 1) (left c)
    by_number true e =
        let same : c ≡ d = grind (arith, nat_tests) in
        let gone : is_in c cs ≡ false = ap (λ x. is_in x cs) same ∙ differ.0 in
        rw (e, gone) refl
    by_number false e = rw e refl

-- ---- an event about one task

-- The event names nobody and answers nobody. It may let cancels go on that wait at this task, and changes nothing for others.
pub record IsAt (t : TaskId) (e : Event) (h : List Event) : Type 0 where
  pub names : (c : ℕ) → tasks_named c (e ∷ h) ≡ tasks_named c h
  pub by : (u : TaskId) → named_by u (e ∷ h) ≡ named_by u h
  pub named : (c : ℕ) (u : TaskId) → is_named c u (e ∷ h) ≡ is_named c u h
  pub answered : (c : ℕ) → is_answered c (e ∷ h) ≡ is_answered c h
  pub others : (c : ℕ) (u : TaskId) → same_task t u ≡ false → is_through (e ∷ h) c u ≡ is_through h c u
  pub stays : (c : ℕ) → is_through h c t ≡ true → is_through (e ∷ h) c t ≡ true

-- the cancels that waited at the task and do not any more
abbrev pub let_go : TaskId → Event → List Event → List ℕ
let_go t e h = filter (λ c. is_through (e ∷ h) c t) (waiting_for t h)

module _ (cluster : Cluster) (t : TaskId) (e : Event) (h : List Event) (lawful : Lawful cluster h) (at : IsAt t e h) where
  pub in_let_go : (c : ℕ) → is_in c (let_go t e h) ≡ (is_through (e ∷ h) c t && (not (is_through h c t) && is_named c t h))
  in_let_go c =
      in_filter (λ d. is_through (e ∷ h) d t) c (waiting_for t h)
      ∙ ap (λ b. is_through (e ∷ h) c t && b) (in_filter (λ d. not (is_through h d t)) c (named_by t h) ∙ ap (λ b. not (is_through h c t) && b) (named_in c t h))

  pub let_go_differ : AllDiffer (let_go t e h)
  let_go_differ = filter_differ (λ c. is_through (e ∷ h) c t) (waiting_for t h) (filter_differ (λ c. not (is_through h c t)) (named_by t h) (named_differ cluster t h lawful))

  -- those that wait at the task then
  pub still_waiting : filter (λ c. not (is_through (e ∷ h) c t)) (waiting_for t h) ≡ waiting_for t (e ∷ h)
  still_waiting =
      filter_twice (λ c. not (is_through (e ∷ h) c t)) (λ c. not (is_through h c t)) (named_by t h)
      ∙ filter_same (λ c. not (is_through h c t) && not (is_through (e ∷ h) c t)) (λ c. not (is_through (e ∷ h) c t)) (named_by t h) (λ c i. once (is_through h c t) (is_through (e ∷ h) c t) (at.stays c))
      ∙ ap (filter (λ c. not (is_through (e ∷ h) c t))) (sym (at.by t))
    where
      once : (was now : Bool) → (was ≡ true → now ≡ true) → (not was && not now) ≡ not now
      once true now d = rw (d refl) refl
      once false now d = refl

  pub others_wait : (u : TaskId) → same_task t u ≡ false → waiting_for u (e ∷ h) ≡ waiting_for u h
  others_wait u differs =
      ap (filter (λ c. not (is_through (e ∷ h) c u))) (at.by u)
      ∙ filter_same (λ c. not (is_through (e ∷ h) c u)) (λ c. not (is_through h c u)) (named_by u h) (λ c i. ap not (at.others c u differs))

  -- how many tasks each cancel waits at then
  pub left_then : (c : ℕ) → left_of c (e ∷ h) ≡ cond (is_in c (let_go t e h)) (left_of c h - 1) (left_of c h)
  left_then c =
      ap (λ ts. length (filter (λ u. not (is_through (e ∷ h) c u)) ts)) (at.names c)
      ∙ changed (same_task t) (λ u. not (is_through h c u)) (λ u. not (is_through (e ∷ h) c u)) (not (is_through h c t)) (not (is_through (e ∷ h) c t)) (λ u d. ap not (at.others c u d)) (λ u s. ap not (here h u s)) (λ u s. ap not (here (e ∷ h) u s))
      (λ n. down (is_through h c t) (is_through (e ∷ h) c t) (at.stays c) n) (tasks_named c h) (named_once cluster c t h lawful)
      ∙ ap (λ b. cond b (left_of c h - 1) (left_of c h)) (ap (λ b. b && (not (is_through h c t) && not (not (is_through (e ∷ h) c t)))) (task_in c t h) ∙ turned (is_named c t h) (is_through h c t) (is_through (e ∷ h) c t) ∙ sym (in_let_go c))
    where
      here : (past : List Event) (u : TaskId) → same_task t u ≡ true → is_through past c u ≡ is_through past c t
      here past u s = let same : t ≡ u = grind (arith, same_tests) in ap (is_through past c) (sym same)

      down : (was now : Bool) → (was ≡ true → now ≡ true) → not now ≡ true → not was ≡ true
      down true now d n = absurd (let up = d refl in cc)
      down false now d n = refl

      turned : (named was now : Bool) → (named && (not was && not (not now))) ≡ (now && (not was && named))
      turned named was now = grind arith

  -- a cancel that waits at the task waits at one at least
  pub waits_at_some : (c : ℕ) → is_through h c t ≡ false → is_named c t h ≡ true → (left_of c h == 0) ≡ false
  waits_at_some c w n =
      let some = present (same_task t) (λ u. not (is_through h c u)) (λ u. not (is_through h c u)) true true (λ u d. refl) (λ u s. ap not (here u s ∙ w)) (λ u s. ap not (here u s ∙ w)) (tasks_named c h) refl (task_in c t h ∙ n) in
      grind (arith, nat_tests, some)
    where
      here : (u : TaskId) → same_task t u ≡ true → is_through h c u ≡ is_through h c t
      here u s = let same : t ≡ u = grind (arith, same_tests) in ap (is_through h c) (sym same)

  module _ (left : ℕ → ℕ) (has : HasLeft None h left) where
    -- those that are answered with the event
    pub due_then : due_for t (e ∷ h) ≡ filter (λ c. left c == 1) (let_go t e h)
    due_then =
        ap (filter (λ c. is_due (e ∷ h) c && not (is_answered c (e ∷ h)))) (at.by t)
        ∙ filter_same (λ c. is_due (e ∷ h) c && not (is_answered c (e ∷ h))) (λ c. (not (is_through h c t) && is_through (e ∷ h) c t) && (left c == 1)) (named_by t h) (λ c i. agree c (sym (named_in c t h) ∙ i))
        ∙ sym (ap (filter (λ c. left c == 1)) (filter_twice (λ c. is_through (e ∷ h) c t) (λ c. not (is_through h c t)) (named_by t h))
        ∙ filter_twice (λ c. left c == 1) (λ c. not (is_through h c t) && is_through (e ∷ h) c t) (named_by t h))
      where
        agree : (c : ℕ) → is_named c t h ≡ true → (is_due (e ∷ h) c && not (is_answered c (e ∷ h))) ≡ ((not (is_through h c t) && is_through (e ∷ h) c t) && (left c == 1))
        agree c n = by_tests (is_through h c t) (is_through (e ∷ h) c t) refl refl
          where
            now_left : left_of c (e ∷ h) ≡ cond (is_through (e ∷ h) c t && (not (is_through h c t) && is_named c t h)) (left_of c h - 1) (left_of c h)
            now_left = left_then c ∙ ap (λ b. cond b (left_of c h - 1) (left_of c h)) (in_let_go c)

            was_answered : is_answered c (e ∷ h) ≡ (left_of c h == 0)
            was_answered = at.answered c ∙ has.answered c t n

            now_due : is_due (e ∷ h) c ≡ (left_of c (e ∷ h) == 0)
            now_due = due_where_none c (e ∷ h)

            counts : left c ≡ left_of c h
            counts = has.counts c

            some : is_through h c t ≡ false → (left_of c h == 0) ≡ false
            some w = waits_at_some c w n

            by_tests : (was now : Bool) → is_through h c t ≡ was → is_through (e ∷ h) c t ≡ now → (is_due (e ∷ h) c && not (is_answered c (e ∷ h))) ≡ ((not was && now) && (left c == 1))
            by_tests true now w m =
                let same : left_of c (e ∷ h) ≡ left_of c h = now_left ∙ (grind (arith, w)) in
                grind (arith, nat_tests, now_due, was_answered, same)
            by_tests false false w m =
                let same : left_of c (e ∷ h) ≡ left_of c h = now_left ∙ (grind (arith, m)) in
                grind (arith, nat_tests, now_due, was_answered, same)
            by_tests false true w m =
                let one : left_of c (e ∷ h) ≡ left_of c h - 1 = now_left ∙ (grind (arith, w, m, n)) in
                let more = some w in
                grind (arith, nat_tests, now_due, was_answered, one, more, counts)

    -- the answers of the task's core come down to them
    pub answers_then : answers_of (map (answer_to (e ∷ h)) (let_go t e h)) left ++ e ∷ h ≡ with_answers t (e ∷ h)
    answers_then = ap (λ es. es ++ e ∷ h) (answered_map (e ∷ h) (let_go t e h) left let_go_differ ∙ ap (λ cs. reverse (map (answer_to (e ∷ h)) cs)) (sym due_then))

    -- and the counts are those of the past then
    pub counts_then : (after : ℕ → ℕ) → ((c : ℕ) → after c ≡ left_after (map (answer_to (e ∷ h)) (let_go t e h)) left c) → HasLeft None (with_answers t (e ∷ h)) after
    counts_then after is = record {
      counts = λ c. is c ∙ left_map (e ∷ h) (let_go t e h) left c let_go_differ ∙ (λ i. cond (is_in c (let_go t e h)) (has.counts c i - 1) (has.counts c i)) ∙ sym (left_still c t (e ∷ h) ∙ left_then c);
      answered = λ c u n. answered_now c u (sym (named_still c u t (e ∷ h) ∙ at.named c u) ∙ n);
    }
      where
        three : (now was named : Bool) → (now && (not was && named)) ≡ true → (was ≡ false) × (named ≡ true)
        three true false true e = (refl, refl)
        three _ _ _ e = absurd (cc)

        let_last : (b : Bool) → (false || ((b && not false) && true)) ≡ b
        let_last true = refl
        let_last false = refl

        unchanged : (b named : Bool) → (b || ((b && not b) && named)) ≡ b
        unchanged true named = refl
        unchanged false named = refl

        answered_now : (c : ℕ) (u : TaskId) → is_named c u h ≡ true → is_answered c (with_answers t (e ∷ h)) ≡ (left_of c (with_answers t (e ∷ h)) == 0)
        answered_now c u n =
            answered_due t (e ∷ h) c
            ∙ (λ i. (at.answered c ∙ has.answered c u n) i || ((due_where_none c (e ∷ h) i && not ((at.answered c ∙ has.answered c u n) i)) && at.named c t i))
            ∙ by_change (is_in c (let_go t e h)) refl
            ∙ ap (λ k. k == 0) (sym (left_still c t (e ∷ h)))
          where
            by_change : (b : Bool) → is_in c (let_go t e h) ≡ b → ((left_of c h == 0) || (((left_of c (e ∷ h) == 0) && not (left_of c h == 0)) && is_named c t h)) ≡ (left_of c (e ∷ h) == 0)
            by_change true i =
                let one : left_of c (e ∷ h) ≡ left_of c h - 1 = left_then c ∙ (rw i refl) in
                let parts = three (is_through (e ∷ h) c t) (is_through h c t) (is_named c t h) (sym (in_let_go c) ∙ i) in
                let more = waits_at_some c parts.0 parts.1 in
                rw (more, parts.1) (let_last (left_of c (e ∷ h) == 0))
            by_change false i =
                let same : left_of c (e ∷ h) ≡ left_of c h = left_then c ∙ (rw i refl) in
                rw same (unchanged (left_of c h == 0) (is_named c t h))
