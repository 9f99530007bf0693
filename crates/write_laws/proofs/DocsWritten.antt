-- How many documents a task has written itself, by its turns of work, and which they are: the first ones of its request.
use Rattle.std.proofs.Common.{◌≡◌, ◌+◌, ◌-◌, ◌*◌, ◌<◌, min, ℕ, zero, suc, Bool, true, false, cond, ◌&&◌, List, [], ◌∷◌, length, take, drop, length-take, length-drop, Option, Some, None, refl, sym, ap, ◌∙◌, arith}
use Rattle.std.specs.Option.{option_map_or}
use Rattle.std.specs.Prelude.{count_by, option_and_then, slice_get}
use Rattle.std.proofs.lemmas.List.Sums.{sum_by-cons}
use Rattle.task_ids.specs.declared.cluster.Cluster.{Cluster}
use Rattle.task_ids.specs.declared.corpus.Corpus.{Corpus}
use Rattle.task_ids.specs.declared.doc.Doc.{Doc}
use Rattle.task_ids.specs.declared.task_id.TaskId.{TaskId}
use Rattle.task_events.specs.declared.event.Event.{Event}
use Rattle.task_events.specs.declared.event.Event.TheVariants.{Root, Put, Work, Write}
use Rattle.task_events.specs.Cancels.{turn_of}
use Rattle.task_events.specs.Lawful.{Lawful}
use Rattle.task_events.specs.Looking.{rows_per_turn}
use Rattle.task_events.specs.Requests.{Scripted, request_of}
use Rattle.task_events.specs.Same.{same_task}
use Rattle.task_events.specs.Steps.{turns_of}
use Rattle.task_events.specs.Tasks.{last_number}
use Rattle.task_events.specs.Written.{docs_of, is_writing, next_doc, writes_by}
use Rattle.task_laws.proofs.Asks.{ask_facts}
use Rattle.task_laws.proofs.Same.{same_tests}
use Rattle.write_laws.proofs.Quiet.{unborn_own}
use Rattle.write_laws.proofs.Trees.{own_number}
use Rattle.write_laws.proofs.WholeTurns.{AllPlanned, IsWhole, written_now}

-- ---- lists

-- of the first documents one more is the next one
one_more : (test : Doc → Bool) (docs : List Doc) (n : ℕ) → count_by test (take (suc n) docs) ≡ cond (option_map_or test (slice_get docs n) false) 1 0 + count_by test (take n docs)
one_more test [] zero = refl
one_more test [] (suc n) = refl
one_more test (doc ∷ docs) zero = sum_by-cons (λ d. cond (test d) 1 0) doc []
one_more test (doc ∷ docs) (suc n) =
    let rest = one_more test docs n in
    let longer = sum_by-cons (λ d. cond (test d) 1 0) doc (take (suc n) docs) in
    let shorter = sum_by-cons (λ d. cond (test d) 1 0) doc (take n docs) in
    omega (arith, rest, longer, shorter)

turn_more : (n r len : ℕ) → min (n * r) len + min r (len - n * r) ≡ min (suc n * r) len
turn_more n r len = let product : suc n * r ≡ n * r + r = omega arith in rw product (of_product (n * r))
  where
    of_product : (x : ℕ) → min x len + min r (len - x) ≡ min (x + r) len
    of_product x = omega arith

-- ---- turns of work

module _ (cluster : Cluster) (corpus : Corpus) (said : Scripted) (t : TaskId) where
  unborn_turns : (h : List Event) → Lawful cluster h → last_number t.node h < t.number → turns_of t h ≡ 0
  unborn_turns [] l i = refl
  unborn_turns (Root c u ∷ h) l i = unborn_turns h l.1 (grind (arith, same_tests, l.0.takes.next))
  unborn_turns (Put u p k ∷ h) l i = unborn_turns h l.1 (grind (arith, same_tests, l.0.takes.next))
  unborn_turns (Work u ∷ h) l i = let f = ask_facts cluster h l.1 in grind (arith, same_tests, unborn_turns h l.1, f.born u, l.0.goes_on.live)
  unborn_turns (_ ∷ h) l i = unborn_turns h l.1 i

  abbrev pub docs_at : List Event → List Doc
  docs_at h = docs_of (request_of said t h)

  abbrev pub all_writes : List Event → ℕ
  all_writes h = writes_by (λ outcome. true) t h

  -- how much it has written: the documents of its turns, of the newest perhaps a first part
  pub record Wrote (h : List Event) : Type 0 where
    pub during : is_writing t h ≡ true → (n : ℕ) × (turns_of t h ≡ suc n) × (all_writes h ≡ min (n * rows_per_turn) (length (docs_at h)) + written_now h)
    pub between : is_writing t h ≡ false → all_writes h ≡ min (turns_of t h * rows_per_turn) (length (docs_at h))

  own_turn : (h : List Event) → is_writing t h ≡ true → turn_of h ≡ Some t
  own_turn h e = by_turn (turn_of h) e
    where
      by_turn : (o : Option TaskId) → option_map_or (same_task t) o false ≡ true → o ≡ Some t
      by_turn None e = absurd (cc)
      by_turn (Some u) e = grind (arith, same_tests)

  pub whole_wrote : (h : List Event) → IsWhole said h → Wrote h → all_writes h ≡ min (turns_of t h * rows_per_turn) (length (docs_at h))
  whole_wrote h whole w = by_turn (is_writing t h) refl
    where
      by_turn : (b : Bool) → is_writing t h ≡ b → all_writes h ≡ min (turns_of t h * rows_per_turn) (length (docs_at h))
      by_turn false e = w.between e
      by_turn true e =
          let d = w.during e in
          let all = whole t (own_turn h e) in
          let before : turns_of t h - 1 ≡ d.0 = omega (arith, d.1) in
          let much : written_now h ≡ min rows_per_turn (length (docs_at h) - d.0 * rows_per_turn) =
          all ∙ ap (λ n. length (take rows_per_turn (drop (n * rows_per_turn) (docs_at h)))) before
          ∙ length-take rows_per_turn (drop (d.0 * rows_per_turn) (docs_at h)) ∙ ap (min rows_per_turn) (length-drop (d.0 * rows_per_turn) (docs_at h)) in
          d.2 ∙ ap (λ n. min (d.0 * rows_per_turn) (length (docs_at h)) + n) much ∙ turn_more d.0 rows_per_turn (length (docs_at h)) ∙ ap (λ n. min (n * rows_per_turn) (length (docs_at h))) (sym d.1)

  -- what but a write comes after a turn leaves what was written
  settled : (e : Event) (h : List Event) → is_writing t (e ∷ h) ≡ false → all_writes (e ∷ h) ≡ min (turns_of t (e ∷ h) * rows_per_turn) (length (docs_at (e ∷ h))) → Wrote (e ∷ h)
  settled e h quiet wrote = record { during = λ own. absurd (let no : true ≡ false = sym own ∙ quiet in cc); between = λ other. wrote }

  -- a task that starts has written nothing
  at_start : (h : List Event) → Lawful cluster h → last_number t.node h < t.number → (docs : List Doc) → all_writes h ≡ min (turns_of t h * rows_per_turn) (length docs)
  at_start h l i docs = unborn_own cluster (λ outcome. true) h l t i ∙ rw (unborn_turns h l i) (let none : 0 * rows_per_turn ≡ 0 = omega arith in omega (arith, none))

  pub wrote : (h : List Event) → Lawful cluster h → AllPlanned cluster corpus said h → Wrote h
  wrote [] l p = record { during = λ own. absurd (cc); between = λ other. let none : 0 * rows_per_turn ≡ 0 = omega arith in omega (arith, none) }
  wrote (Write index shard outcome id ∷ h) l p = by_turn (is_writing t h) refl (wrote h l.1 p.1)
    where
      by_turn : (b : Bool) → is_writing t h ≡ b → Wrote h → Wrote (Write index shard outcome id ∷ h)
      by_turn true e w = let d = w.during e in record { during = λ own. (d.0, d.1, let before = d.2 in rw e (omega (arith, before))); between = λ other. absurd (let no : true ≡ false = sym e ∙ other in cc) }
      by_turn false e w = record { during = λ own. absurd (let no : true ≡ false = sym own ∙ e in cc); between = λ other. rw e (w.between e) }
  wrote (Work u ∷ h) l p = by_task (same_task t u) refl (whole_wrote h p.0.1 (wrote h l.1 p.1))
    where
      by_task : (b : Bool) → same_task t u ≡ b → all_writes h ≡ min (turns_of t h * rows_per_turn) (length (docs_at h)) → Wrote (Work u ∷ h)
      by_task true own before = record {
        during = λ now. (turns_of t h, rw own (omega arith), omega (arith, before));
        between = λ other. absurd (let no : true ≡ false = sym own ∙ other in cc);
      }
      by_task false other before = settled (Work u) h other (rw other before)
  wrote (Root c u ∷ h) l p = settled (Root c u) h refl (by_task (same_task t u) refl (whole_wrote h p.0.1 (wrote h l.1 p.1)))
    where
      by_task : (b : Bool) → same_task t u ≡ b → all_writes h ≡ min (turns_of t h * rows_per_turn) (length (docs_at h)) → all_writes h ≡ min (turns_of t h * rows_per_turn) (length (docs_at (Root c u ∷ h)))
      by_task true own before = at_start h l.1 (grind (arith, same_tests, l.0.takes.next)) (docs_at (Root c u ∷ h))
      by_task false other before = rw other before
  wrote (Put u q j ∷ h) l p = settled (Put u q j) h refl (by_task (same_task t u) refl (whole_wrote h p.0.1 (wrote h l.1 p.1)))
    where
      by_task : (b : Bool) → same_task t u ≡ b → all_writes h ≡ min (turns_of t h * rows_per_turn) (length (docs_at h)) → all_writes h ≡ min (turns_of t h * rows_per_turn) (length (docs_at (Put u q j ∷ h)))
      by_task true own before = at_start h l.1 (grind (arith, same_tests, l.0.takes.next)) (docs_at (Put u q j ∷ h))
      by_task false other before = rw other before
  wrote (e ∷ h) l p = settled e h refl (whole_wrote h p.0.1 (wrote h l.1 p.1))

  -- ---- which documents

  module _ (test : Doc → Bool) where
    abbrev pub own_docs : List Event → ℕ
    own_docs h = own_number (λ outcome past. option_map_or test (next_doc said past) false) t h

    first_docs : List Event → Type 0
    first_docs h = own_docs h ≡ count_by test (take (all_writes h) (docs_at h))

    weighed : (b : Bool) (n : ℕ) → cond b (1 + n) n ≡ cond b 1 0 + n
    weighed true n = refl
    weighed false n = omega arith

    next_own : (h : List Event) → turn_of h ≡ Some t → next_doc said h ≡ slice_get (docs_at h) (all_writes h)
    next_own h e = ap (option_and_then (λ u. slice_get (docs_of (request_of said u h)) (writes_by (λ outcome. true) u h))) e

    pub own_docs_first : (h : List Event) → Lawful cluster h → own_docs h ≡ count_by test (take (all_writes h) (docs_at h))
    own_docs_first [] l = refl
    own_docs_first (Write index shard outcome id ∷ h) l = by_turn (is_writing t h) refl (own_docs_first h l.1)
      where
        by_turn : (b : Bool) → is_writing t h ≡ b → own_docs h ≡ count_by test (take (all_writes h) (docs_at h))
            → cond (b && option_map_or test (next_doc said h) false) (1 + own_docs h) (own_docs h) ≡ count_by test (take (cond (b && true) (1 + all_writes h) (all_writes h)) (docs_at h))
        by_turn false e before = before
        by_turn true e before =
            let next = ap (λ o. option_map_or test o false) (next_own h (own_turn h e)) in
            let on : 1 + all_writes h ≡ suc (all_writes h) = omega arith in
            weighed (option_map_or test (next_doc said h) false) (own_docs h) ∙ (λ i. cond (next i) 1 0 + before i) ∙ sym (one_more test (docs_at h) (all_writes h)) ∙ ap (λ n. count_by test (take n (docs_at h))) (sym on)
    own_docs_first (Root c u ∷ h) l = by_task (same_task t u) refl (own_docs_first h l.1)
      where
        by_task : (b : Bool) → same_task t u ≡ b → own_docs h ≡ count_by test (take (all_writes h) (docs_at h)) → own_docs h ≡ count_by test (take (all_writes h) (docs_at (Root c u ∷ h)))
        by_task true own before =
            let none = unborn_own cluster (λ outcome. true) h l.1 t (grind (arith, same_tests, l.0.takes.next)) in
            before ∙ ap (λ n. count_by test (take n (docs_at h))) none ∙ sym (ap (λ n. count_by test (take n (docs_at (Root c u ∷ h)))) none)
        by_task false other before = rw other before
    own_docs_first (Put u q j ∷ h) l = by_task (same_task t u) refl (own_docs_first h l.1)
      where
        by_task : (b : Bool) → same_task t u ≡ b → own_docs h ≡ count_by test (take (all_writes h) (docs_at h)) → own_docs h ≡ count_by test (take (all_writes h) (docs_at (Put u q j ∷ h)))
        by_task true own before =
            let none = unborn_own cluster (λ outcome. true) h l.1 t (grind (arith, same_tests, l.0.takes.next)) in
            before ∙ ap (λ n. count_by test (take n (docs_at h))) none ∙ sym (ap (λ n. count_by test (take n (docs_at (Put u q j ∷ h)))) none)
        by_task false other before = rw other before
    own_docs_first (_ ∷ h) l = own_docs_first h l.1
