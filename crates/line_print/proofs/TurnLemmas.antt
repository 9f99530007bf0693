-- The events of each command, where the events are read from the oldest on.
use Rattle.std.proofs.Common.{◌≡◌, ℕ, zero, suc, ◌+◌, ◌<◌, ◌≤◌, Bool, true, false, cond, not, ◌&&◌, ◌||◌, flat_map, get_or, slice_get, ◌==◌, nat_lt, List, [], ◌∷◌, ◌++◌, reverse, take, drop, length, Option, Some, None, Bor, refl, sym, ap, ◌∙◌, append_assoc, append-nil, map, zero-add, add-one, one-add, arith}
use mathlib.Core.List.{reverse-cons}
use Rattle.std.specs.Iterator.{YieldsFirstRef}
use Rattle.std.specs.List.{position_or_len, before_first, after_first, range_with_len}
use Rattle.std.proofs.lemmas.Bool.Decides.{nat_tests}
use Rattle.std.proofs.lemmas.Bool.{le-ltb, eqb-true}
use Rattle.std.proofs.lemmas.List.Sums.{prefix_len-le-length}
use Rattle.std.proofs.lemmas.List.FromFn.{map-range_with_len_more, take-map-range_with_len, length-map-range_with_len, get_or-map-range_with_len}
use Rattle.std.proofs.lemmas.Option.{slice_get-get_or, get_or_from_slice_get}
use Rattle.std.proofs.lemmas.List.{reverse-reverse, drop-drop}
use Rattle.std.proofs.lemmas.Grind.{flat_map-append}
use Rattle.task_events.specs.declared.event.Event.{Event}
use Rattle.task_events.specs.Turns.{is_begin, begun, events_while, events_of, events_before}

-- ---- up to the first element that passes

taken : {X : Type 0} (b : Bool) (n : ℕ) (x : X) (xs : List X) → take (cond (not b) (1 + n) 0) (x ∷ xs) ≡ cond b [] (x ∷ take n xs)
taken true n x xs = refl
taken false n x xs = rw one-add refl

dropped : {X : Type 0} (b : Bool) (n : ℕ) (x : X) (xs : List X) → drop (cond (not b) (1 + n) 0 + 1) (x ∷ xs) ≡ cond b xs (drop (n + 1) xs)
dropped true n x xs = refl
dropped false n x xs = let e : 1 + n + 1 ≡ suc (n + 1) = omega arith in rw e refl

before_cons : (e : Event) (es : List Event) → before_first is_begin (e ∷ es) ≡ cond (is_begin e) [] (e ∷ before_first is_begin es)
before_cons e es = taken (is_begin e) (position_or_len is_begin es) e es

after_cons : (e : Event) (es : List Event) → after_first is_begin (e ∷ es) ≡ cond (is_begin e) es (after_first is_begin es)
after_cons e es = dropped (is_begin e) (position_or_len is_begin es) e es

pub place_within : (es : List Event) → position_or_len is_begin es ≤ length es
place_within es = prefix_len-le-length (λ e. not (is_begin e)) es

-- ---- what is left after so many beginnings

abbrev pub rest_at : ℕ → List Event → List Event
rest_at zero es = es
rest_at (suc k) es = after_first is_begin (rest_at k es)

rest_inner : (k : ℕ) (es : List Event) → rest_at (suc k) es ≡ rest_at k (after_first is_begin es)
rest_inner zero es = refl
rest_inner (suc k) es = ap (after_first is_begin) (rest_inner k es)

rest_nil : (k : ℕ) → rest_at k [] ≡ []
rest_nil zero = refl
rest_nil (suc k) = ap (after_first is_begin) (rest_nil k)

-- ---- from the oldest on

-- the events that come while so many commands have begun, after n have
abbrev pub events_from : (ℕ → Bool) → ℕ → List Event → List Event
events_from test n [] = []
events_from test n (e ∷ es) = cond (is_begin e) (events_from test (n + 1) es) (cond (test n) (e ∷ events_from test n es) (events_from test n es))

one_more : (begin passes : Bool) (old rest_begun rest : List Event) (e : Event) → cond (not begin && passes) (old ++ e ∷ []) old ++ cond begin rest_begun rest ≡ old ++ cond begin rest_begun (cond passes (e ∷ rest) rest)
one_more true passes old r s e = refl
one_more false true old r s e = append_assoc old (e ∷ []) s
one_more false false old r s e = refl

from_begun : (begin : Bool) (test : ℕ → Bool) (n : ℕ) (es : List Event) → events_from test (cond begin (n + 1) n) es ≡ cond begin (events_from test (n + 1) es) (events_from test n es)
from_begun true test n es = refl
from_begun false test n es = refl

pub from_newest : (test : ℕ → Bool) (es h : List Event) → events_while test (reverse es ++ h) ≡ events_while test h ++ events_from test (begun h) es
from_newest test [] h = sym (append-nil (events_while test h))
from_newest test (e ∷ es) h =
    ap (λ l. events_while test (l ++ h)) (reverse-cons e es)
    ∙ ap (events_while test) (append_assoc (reverse es) (e ∷ []) h)
    ∙ from_newest test es (e ∷ h)
    ∙ ap (λ l. events_while test (e ∷ h) ++ l) (from_begun (is_begin e) test (begun h) es)
    ∙ one_more (is_begin e) (test (begun h)) (events_while test h) (events_from test (begun h + 1) es) (events_from test (begun h) es) e

cond_same : (b : Bool) (xs : List Event) → cond b xs xs ≡ xs
cond_same true xs = refl
cond_same false xs = refl

none_later : (k n : ℕ) (es : List Event) → k < n → events_from (λ m. m == k) n es ≡ []
none_later k n [] h = refl
none_later k n (e ∷ es) h =
    let apart : (n == k) ≡ false = grind (arith, nat_tests) in
    let later : k < n + 1 = omega arith in
    rw (apart, none_later k (n + 1) es later, none_later k n es h) (cond_same (is_begin e) [])

split : (begin : Bool) (k : ℕ) (es : List Event) → before_first is_begin (rest_at k (cond begin es (after_first is_begin es))) ≡ cond begin (before_first is_begin (rest_at k es)) (before_first is_begin (rest_at (suc k) es))
split true k es = refl
split false k es = ap (before_first is_begin) (sym (rest_inner k es))

-- the events after k more beginnings, up to the next
turn_from : (k n j : ℕ) (es : List Event) → j ≡ n + k → events_from (λ m. m == j) n es ≡ before_first is_begin (rest_at k es)
turn_from k n j [] h = ap (before_first is_begin) (sym (rest_nil k))
turn_from zero n j (e ∷ es) h =
    let same : (n == j) ≡ true = grind (arith, nat_tests) in
    let later : j < n + 1 = omega arith in
    rw (same, none_later j (n + 1) es later, turn_from zero n j es h) (sym (before_cons e es))
turn_from (suc k) n j (e ∷ es) h =
    let apart : (n == j) ≡ false = grind (arith, nat_tests) in
    let next : j ≡ n + 1 + k = omega arith in
    rw (apart, turn_from k (n + 1) j es next, turn_from (suc k) n j es h)
    (sym (ap (before_first is_begin) (rest_inner k (e ∷ es) ∙ ap (rest_at k) (after_cons e es)) ∙ split (is_begin e) k es))

-- from the oldest on, with nothing before
whole : (test : ℕ → Bool) (es : List Event) → events_while test (reverse es) ≡ events_from test 0 es
whole test es = ap (events_while test) (sym (append-nil (reverse es))) ∙ from_newest test es []

pub turn_at : (k : ℕ) (es : List Event) → before_first is_begin (rest_at k es) ≡ events_of k (reverse es)
turn_at k es = sym (ap (events_of k) (sym (append-nil (reverse es))) ∙ from_newest (λ m. m == k) es [] ∙ turn_from k 0 k es (omega arith))

-- one more turn
pub turn_more : (told : List (List Event)) (turn rest : List Event) (n : ℕ) (history : List Event) → told ≡ map (λ k. events_of k history) (range_with_len 0 n) → rest ≡ rest_at n (reverse history) → turn ≡ before_first is_begin rest
    → told ++ turn ∷ [] ≡ map (λ k. events_of k history) (range_with_len 0 (n + 1))
turn_more told turn rest n history t r h =
    rw (t, h, r, turn_at n (reverse history), reverse-reverse history) (sym (map-range_with_len_more (λ k. events_of k history) 0 n n (zero-add n)))

pub rest_more : (n : ℕ) (es : List Event) → after_first is_begin (rest_at n es) ≡ rest_at (n + 1) es
rest_more n es = ap (λ k. rest_at k es) (sym (add-one n))

-- ---- what came before a command

none_before : (k n : ℕ) (es : List Event) → k ≤ n → events_from (λ m. nat_lt m k) n es ≡ []
none_before k n [] h = refl
none_before k n (e ∷ es) h =
    let late : nat_lt n k ≡ false = le-ltb n k h in
    let later : k ≤ n + 1 = omega arith in
    rw (late, none_before k (n + 1) es later, none_before k n es h) (cond_same (is_begin e) [])

joined : (begin before here after : Bool) (xs ys zs xs' ys' zs' : List Event) (e : Event)
    → xs ≡ ys ++ zs → xs' ≡ ys' ++ zs' → (after ≡ before || here) → (here ≡ true → ys' ≡ []) → (here ≡ true → before ≡ false)
    → cond begin xs (cond after (e ∷ xs') xs') ≡ cond begin ys (cond before (e ∷ ys') ys') ++ cond begin zs (cond here (e ∷ zs') zs')
joined true before here after xs ys zs xs' ys' zs' e h h' a n b = h
joined false true true after xs ys zs xs' ys' zs' e h h' a n b = let bad : true ≡ false = b refl in cc
joined false true false after xs ys zs xs' ys' zs' e h h' a n b = rw (a, h') refl
joined false false true after xs ys zs xs' ys' zs' e h h' a n b = rw (a, h', n refl) refl
joined false false false after xs ys zs xs' ys' zs' e h h' a n b = rw a h'

before_from : (k n : ℕ) (es : List Event) → events_from (λ m. nat_lt m (k + 1)) n es ≡ events_from (λ m. nat_lt m k) n es ++ events_from (λ m. m == k) n es
before_from k n [] = refl
before_from k n (e ∷ es) =
    joined (is_begin e) (nat_lt n k) (n == k) (nat_lt n (k + 1)) _ _ _ _ _ _ e (before_from k (n + 1) es) (before_from k n es)
    (grind (arith, nat_tests)) (λ here. none_before k n es (omega (arith, eqb-true n k here))) (λ here. le-ltb n k (omega (arith, eqb-true n k here)))

-- one more turn
events_more : (k : ℕ) (es : List Event) → events_before (k + 1) (reverse es) ≡ events_before k (reverse es) ++ events_of k (reverse es)
events_more k es =
    whole (λ m. nat_lt m (k + 1)) es ∙ before_from k 0 es ∙ ap (λ l. l ++ events_from (λ m. m == k) 0 es) (sym (whole (λ m. nat_lt m k) es)) ∙ ap (λ l. events_before k (reverse es) ++ l) (sym (whole (λ m. m == k) es))

gathered : (k : ℕ) (es : List Event) → flat_map (λ events. events) (map (λ j. events_of j (reverse es)) (range_with_len 0 k)) ≡ events_before k (reverse es)
gathered zero es = sym (whole (λ m. nat_lt m 0) es ∙ none_before 0 0 es (omega arith))
gathered (suc k) es =
    ap (λ n. flat_map (λ events. events) (map (λ j. events_of j (reverse es)) (range_with_len 0 n))) (sym (add-one k))
    ∙ ap (flat_map (λ events. events)) (map-range_with_len_more (λ j. events_of j (reverse es)) 0 k k (zero-add k))
    ∙ flat_map-append (λ events. events) (map (λ j. events_of j (reverse es)) (range_with_len 0 k)) (events_of k (reverse es) ∷ [])
    ∙ ap (λ l. l ++ (events_of k (reverse es) ++ [])) (gathered k es)
    ∙ ap (λ l. events_before k (reverse es) ++ l) (append-nil (events_of k (reverse es)))
    ∙ sym (events_more k es) ∙ ap (λ n. events_before n (reverse es)) (add-one k)

-- the first turns are what came before a command
pub told_before : (turns : List (List Event)) (n k : ℕ) (es : List Event) → turns ≡ map (λ j. events_of j (reverse es)) (range_with_len 0 n) → k ≤ n → flat_map (λ events. events) (take k turns) ≡ events_before k (reverse es)
told_before turns n k es h le = ap (λ ts. flat_map (λ events. events) (take k ts)) h ∙ ap (flat_map (λ events. events)) (take-map-range_with_len (λ j. events_of j (reverse es)) 0 n k le) ∙ gathered k es

pub turn_in : (turns : List (List Event)) (n k : ℕ) (history : List Event) → turns ≡ map (λ j. events_of j history) (range_with_len 0 n) → k < n → slice_get turns k ≡ Some (events_of k history)
turn_in turns n k history h lt =
    let short : k < length turns = omega (arith, ap length h ∙ length-map-range_with_len (λ j. events_of j history) 0 n) in
    slice_get-get_or turns k [] short ∙ ap Some (ap (λ ts. get_or ts k []) h ∙ get_or-map-range_with_len (λ j. events_of j history) 0 n k k [] lt (zero-add k))

pub many_turns : (turns : List (List Event)) (n : ℕ) (history : List Event) → turns ≡ map (λ j. events_of j history) (range_with_len 0 n) → length turns ≡ n
many_turns turns n history h = ap length h ∙ length-map-range_with_len (λ j. events_of j history) 0 n

-- the turn that is lent from its place
pub turn_lent : (turns : List (List Event)) (n k : ℕ) (history turn : List Event) → turns ≡ map (λ j. events_of j history) (range_with_len 0 n) → k < n → turn ≡ get_or turns k turn → turn ≡ events_of k history
turn_lent turns n k history turn h lt is =
    is ∙ get_or_from_slice_get turns k (events_of k history) turn (turn_in turns n k history h lt)

pub told_in : (turns : List (List Event)) (n k : ℕ) (history : List Event) → turns ≡ map (λ j. events_of j history) (range_with_len 0 n) → k ≤ n → flat_map (λ events. events) (take k turns) ≡ events_before k history
told_in turns n k history h le =
    told_before turns n k (reverse history) (h ∙ ap (λ past. map (λ j. events_of j past) (range_with_len 0 n)) (sym (reverse-reverse history))) le ∙ ap (events_before k) (reverse-reverse history)

-- ---- the next turn is taken away

pub without_begin : (es rest later : List Event) (first : Option (Bor Event)) → rest ≡ drop (position_or_len is_begin es) es → YieldsFirstRef (λ s. s) rest first later → later ≡ after_first is_begin es
without_begin es rest later None r y =
    y.1 ∙ sym (ap (drop 1) (sym r ∙ y.0)) ∙ drop-drop 1 (position_or_len is_begin es) es
without_begin es rest later (Some e) r y =
    sym (ap (drop 1) y) ∙ ap (drop 1) r ∙ drop-drop 1 (position_or_len is_begin es) es
