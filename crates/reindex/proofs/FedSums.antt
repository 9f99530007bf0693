-- An answer that is fed to a task, in any order: what is open then, and the sums over all answers in the order of their asks.
use Rattle.std.proofs.Common.{◌≡◌, ℕ, ◌+◌, ◌<◌, Bool, true, false, not, List, [], ◌∷◌, ◌++◌, length, map, Option, Some, None, refl, sym, ap, ◌∙◌, arith}
use Rattle.std.specs.Prelude.{is_some, filter, ◌==◌}
use Rattle.std.specs.List.{sum_by, range_with_len}
use Rattle.std.proofs.lemmas.Bool.{eqb-true, ne_eqb, eq-eqb}
use Rattle.std.proofs.lemmas.List.{map-append}
use Rattle.std.proofs.lemmas.List.Elements.{filter-append}
use Rattle.std.proofs.lemmas.List.Sums.{sum_by-cons}
use Rattle.task_events.specs.declared.reply.Reply.{Reply}
use Rattle.task_events.specs.declared.step.Asked.{Asked}
use Rattle.task_events.specs.Counting.{answers_in}
use Rattle.task_events.specs.Searches.{are_answered}
use Rattle.task_events.specs.Steps.{with_answer}
use Rattle.reindex.specs.Bulks.{is_open, without}
use Rattle.reindex.specs.OpenAsks.{AreNumbered, open_in, is_settled}
use Rattle.reindex.proofs.BatchLemmas.{range_more}

pub by_test : {P : Type 0} (b : Bool) → (b ≡ true → P) → (b ≡ false → P) → P
by_test true f g = f refl
by_test false f g = g refl

abbrev pub row : ℕ → Option Reply → Asked
row k answer = record { ask = k; answer = answer }

-- the asks are numbered from here on
abbrev pub AreFrom : ℕ → List Asked → Type 0
AreFrom n asked = map (λ a. a.ask) asked ≡ range_with_len n (length asked)

pub first_is : (n m : ℕ) (o : Option Reply) (asked : List Asked) → AreFrom n (row m o ∷ asked) → m ≡ n
first_is n m o asked e = cc

pub later_are : (n m : ℕ) (o : Option Reply) (asked : List Asked) → AreFrom n (row m o ∷ asked) → AreFrom (n + 1) asked
later_are n m o asked e = cc

-- ---- the asks after this one

not_open_in : (n k m : ℕ) (o : Option Reply) (asked : List Asked) → AreFrom n (row m o ∷ asked) → k < n → is_open k (open_in asked) ≡ false → is_open k (open_in (row m o ∷ asked)) ≡ false
not_open_in n k m None asked e before later =
    let first = first_is n m None asked e in
    let other : (m == k) ≡ false = ne_eqb m k (λ same. omega arith) in
    rw other later
not_open_in n k m (Some reply) asked e before later = later

not_open : (n k : ℕ) (asked : List Asked) → AreFrom n asked → k < n → is_open k (open_in asked) ≡ false
not_open n k [] e before = refl
not_open n k (a ∷ asked) e before = not_open_in n k a.ask a.answer asked e before (not_open (n + 1) k asked (later_are n a.ask a.answer asked e) (omega arith))

untouched : (n k : ℕ) (answer : Option Reply) (asked : List Asked) → AreFrom n asked → k < n → map (with_answer k answer) asked ≡ asked
untouched n k answer [] e before = refl
untouched n k answer (a ∷ asked) e before =
    let first = first_is n a.ask a.answer asked e in
    let other : (k == a.ask) ≡ false = ne_eqb k a.ask (λ same. omega arith) in
    rw (other, untouched (n + 1) k answer asked (later_are n a.ask a.answer asked e) (omega arith)) refl

-- ---- the answer to an ask

-- the ask was open, so one answer more is summed up
abbrev FedSum : (Reply → ℕ) → ℕ → Reply → List Asked → Type 0
FedSum f k reply asked = sum_by f (answers_in (map (with_answer k (Some reply)) asked)) ≡ sum_by f (answers_in asked) + f reply

fed_sum_in : (f : Reply → ℕ) (n k m : ℕ) (reply : Reply) (o : Option Reply) (asked : List Asked) → AreFrom n (row m o ∷ asked) → is_open k (open_in (row m o ∷ asked)) ≡ true
    → (is_open k (open_in asked) ≡ true → FedSum f k reply asked) → FedSum f k reply (row m o ∷ asked)
fed_sum_in f n k m reply None asked e open_yet later =
    by_test (k == m)
    (λ same.
    let first = first_is n m None asked e in
    let mine = eqb-true k m same in
    let sum = sum_by-cons f reply (answers_in asked) in
    rw (same, untouched (n + 1) k (Some reply) asked (later_are n m None asked e) (omega arith)) (omega (arith, sum)))
    (λ other.
    let apart : (m == k) ≡ false = ne_eqb m k (λ s. absurd (let t : true ≡ false = sym (eq-eqb k m (sym s)) ∙ other in cc)) in
    rw other (later (rw apart at open_yet)))
fed_sum_in f n k m reply (Some r) asked e open_yet later =
    by_test (k == m)
    (λ same.
    let first = first_is n m (Some r) asked e in
    let mine = eqb-true k m same in
    absurd (let t : false ≡ true = sym (not_open (n + 1) k asked (later_are n m (Some r) asked e) (omega arith)) ∙ open_yet in cc))
    (λ other.
    let more = later open_yet in
    let before = sum_by-cons f r (answers_in asked) in
    let after = sum_by-cons f r (answers_in (map (with_answer k (Some reply)) asked)) in
    rw other (omega (arith, more, before, after)))

pub fed_sum_from : (f : Reply → ℕ) (n k : ℕ) (reply : Reply) (asked : List Asked) → AreFrom n asked → is_open k (open_in asked) ≡ true → FedSum f k reply asked
fed_sum_from f n k reply [] e open_yet = absurd cc
fed_sum_from f n k reply (a ∷ asked) e open_yet = fed_sum_in f n k a.ask reply a.answer asked e open_yet (λ later. fed_sum_from f (n + 1) k reply asked (later_are n a.ask a.answer asked e) later)

-- The sum over the answers, in the order of their asks, grows by that of an answer that was open, whichever it was.
pub fed_sum : (f : Reply → ℕ) (k : ℕ) (reply : Reply) (asked : List Asked) → AreNumbered asked → is_open k (open_in asked) ≡ true
    → sum_by f (answers_in (map (with_answer k (Some reply)) asked)) ≡ sum_by f (answers_in asked) + f reply
fed_sum f k reply asked e open_yet = fed_sum_from f 1 k reply asked e open_yet

-- that ask is open no more
fed_open_in : (k m : ℕ) (reply : Reply) (o : Option Reply) (asked : List Asked) → open_in (map (with_answer k (Some reply)) asked) ≡ without k (open_in asked)
    → open_in (map (with_answer k (Some reply)) (row m o ∷ asked)) ≡ without k (open_in (row m o ∷ asked))
fed_open_in k m reply None asked later =
    by_test (k == m)
    (λ same. let mine : (m == k) ≡ true = eq-eqb m k (sym (eqb-true k m same)) in rw (same, mine) later)
    (λ other.
    let apart : (m == k) ≡ false = ne_eqb m k (λ s. absurd (let t : true ≡ false = sym (eq-eqb k m (sym s)) ∙ other in cc)) in
    rw (other, apart) (ap (λ ks. m ∷ ks) later))
fed_open_in k m reply (Some r) asked later = by_test (k == m) (λ same. rw same later) (λ other. rw other later)

pub fed_open : (k : ℕ) (reply : Reply) (asked : List Asked) → open_in (map (with_answer k (Some reply)) asked) ≡ without k (open_in asked)
fed_open k reply [] = refl
fed_open k reply (a ∷ asked) = fed_open_in k a.ask reply a.answer asked (fed_open k reply asked)

fed_number : (k : ℕ) (answer : Option Reply) (a : Asked) → (with_answer k answer a).ask ≡ a.ask
fed_number k answer a = by_test (k == a.ask) (λ same. rw same (eqb-true k a.ask same)) (λ other. rw other refl)

fed_asks : (k : ℕ) (answer : Option Reply) (asked : List Asked) → map (λ a. a.ask) (map (with_answer k answer) asked) ≡ map (λ a. a.ask) asked
fed_asks k answer [] = refl
fed_asks k answer (a ∷ asked) = λ i. fed_number k answer a i ∷ fed_asks k answer asked i

pub fed_length : (k : ℕ) (answer : Option Reply) (asked : List Asked) → length (map (with_answer k answer) asked) ≡ length asked
fed_length k answer [] = refl
fed_length k answer (a ∷ asked) = let later = fed_length k answer asked in omega arith

pub fed_numbered : (k : ℕ) (answer : Option Reply) (asked : List Asked) → AreNumbered asked → AreNumbered (map (with_answer k answer) asked)
fed_numbered k answer asked e = fed_asks k answer asked ∙ e ∙ ap (range_with_len 1) (sym (fed_length k answer asked))

-- ---- one ask more

pub asked_numbered : (asked : List Asked) → AreNumbered asked → AreNumbered (asked ++ row (length asked + 1) None ∷ [])
asked_numbered asked e =
    map-append (λ a. a.ask) asked (row (length asked + 1) None ∷ [])
    ∙ ap (λ ks. ks ++ (length asked + 1) ∷ []) e
    ∙ (let next : 1 + length asked ≡ length asked + 1 = omega arith in ap (λ k. range_with_len 1 (length asked) ++ k ∷ []) (sym next))
    ∙ sym (range_more 1 (length asked)) ∙ ap (range_with_len 1) (sym (length-more asked (length asked + 1)))
  where
    length-more : (xs : List Asked) (k : ℕ) → length (xs ++ row k None ∷ []) ≡ length xs + 1
    length-more [] k = refl
    length-more (a ∷ xs) k = let later = length-more xs k in omega arith

pub asked_open : (k : ℕ) (asked : List Asked) → open_in (asked ++ row k None ∷ []) ≡ open_in asked ++ k ∷ []
asked_open k asked = ap (map (λ a. a.ask)) (filter-append (λ a. not (is_some a.answer)) asked (row k None ∷ [])) ∙ map-append (λ a. a.ask) (filter (λ a. not (is_some a.answer)) asked) (row k None ∷ [])

pub asked_answers : (k : ℕ) (asked : List Asked) → answers_in (asked ++ row k None ∷ []) ≡ answers_in asked
asked_answers k [] = refl
asked_answers k (a ∷ asked) = of_answer a.answer (asked_answers k asked)
  where
    of_answer : (o : Option Reply) → answers_in (asked ++ row k None ∷ []) ≡ answers_in asked → answers_in (row a.ask o ∷ (asked ++ row k None ∷ [])) ≡ answers_in (row a.ask o ∷ asked)
    of_answer None later = later
    of_answer (Some reply) later = ap (λ rs. reply ∷ rs) later

-- ---- all asks

-- all asks are answered where none is open
pub settled : (asked : List Asked) → are_answered asked ≡ is_settled (open_in asked)
settled [] = refl
settled (a ∷ asked) = of_answer a.answer (settled asked)
  where
    of_answer : (o : Option Reply) → are_answered asked ≡ is_settled (open_in asked) → are_answered (row a.ask o ∷ asked) ≡ is_settled (open_in (row a.ask o ∷ asked))
    of_answer None later = refl
    of_answer (Some reply) later = later
