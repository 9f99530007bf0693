-- Changes that are looked at one after the other.
use Rattle.std.proofs.Common.{◌≡◌, ℕ, zero, suc, ◌+◌, ◌-◌, ◌<◌, ◌≤◌, List, [], ◌∷◌, ◌++◌, length, take, drop, Bool, true, false, true≢false, not, cond, Option, Some, None, is_some, refl, sym, ap, subst, ◌∙◌, append_assoc, append-nil, length-append, add-one, arith, min, ⊎_elim, Result, Ok, Err}
use Rattle.std.specs.List.{AllByRecursion, find, list_any}
use Rattle.std.specs.Option.{option_map_or}
use Rattle.std.specs.Prelude.{◌==◌, ◌||◌, OnErr}
use Rattle.std.specs.Str.{bytes_eq}
use Rattle.std.proofs.lemmas.Bool.{cases_Bool, cases_lt, ne_eqb}
use Rattle.std.proofs.lemmas.List.{take_all, drop_all, length-take, length-drop}
use Rattle.std.proofs.lemmas.Slice.Eq.{bytes_eq-Decides}
use Rattle.task_ids.proofs.Each.{all_joined}
use Rattle.task_ids.specs.declared.doc.Doc.{Doc}
use Rattle.task_ids.specs.Rows.{Row, has_id, is_alive, living_rows}
use Rattle.shard_docs.specs.Candidates.{living_row}
use Rattle.task_events.specs.declared.request.WriteNote.{WriteNote}
use Rattle.task_events.specs.Looking.{rows_per_turn}
use Rattle.task_events.specs.Written.{note_of, notes_of}
use Rattle.by_query.specs.declared.change.Change.{Change}
use Rattle.by_query.specs.Changes.{is_in_conflict, doc_of, rewritten, docs_written}
use Rattle.by_query.specs.Writes.{BreaksOff}

-- ---- one change more

notes_of-append : (index : List ℕ) (shard : ℕ) (writes docs more : List Doc) → notes_of index shard writes (docs ++ more) ≡ notes_of index shard writes docs ++ notes_of index shard (writes ++ docs) more
notes_of-append index shard writes [] more = ap (λ ws. notes_of index shard ws more) (sym (append-nil writes))
notes_of-append index shard writes (doc ∷ docs) more =
    ap (λ notes. note_of index shard writes doc ∷ notes)
    (notes_of-append index shard (writes ++ doc ∷ []) docs more ∙ ap (λ ws. notes_of index shard (writes ++ doc ∷ []) docs ++ notes_of index shard ws more) (append_assoc writes (doc ∷ []) docs))

docs_written-push : (writes : List Doc) (changes : List Change) (change : Change) → docs_written writes (changes ++ change ∷ []) ≡ docs_written writes changes ++ rewritten change (writes ++ docs_written writes changes)
docs_written-push writes [] change = append-nil (rewritten change writes) ∙ ap (rewritten change) (sym (append-nil writes))
docs_written-push writes (first ∷ changes) change =
    let here = rewritten first writes in
    let later = docs_written (writes ++ here) changes in
    ap (λ docs. here ++ docs) (docs_written-push (writes ++ here) changes change)
    ∙ sym (append_assoc here later (rewritten change ((writes ++ here) ++ later)))
    ∙ ap (λ ws. (here ++ later) ++ rewritten change ws) (append_assoc writes here later)

-- the item after the first ones
take_next : {X : Type 0} (xs ys : List X) (i : ℕ) (x : X) → drop i xs ≡ x ∷ ys → take (suc i) xs ≡ take i xs ++ x ∷ []
take_next [] ys zero x h = absurd cc
take_next [] ys (suc i) x h = absurd cc
take_next (z ∷ xs) ys zero x h = let same : z ≡ x = cc in ap (λ a. a ∷ []) same
take_next (z ∷ xs) ys (suc i) x h = ap (λ zs. z ∷ zs) (take_next xs ys i x h)

drop_next : {X : Type 0} (xs ys : List X) (i : ℕ) (x : X) → drop i xs ≡ x ∷ ys → drop (suc i) xs ≡ ys
drop_next [] ys zero x h = absurd cc
drop_next [] ys (suc i) x h = absurd cc
drop_next (z ∷ xs) ys zero x h = cc
drop_next (z ∷ xs) ys (suc i) x h = drop_next xs ys i x h

-- So many changes were looked at, in order; what was written of them is noted.
pub record HasLooked (index : List ℕ) (shard : ℕ) (before : List Doc) (left : List Change) (many : ℕ) (after : List Doc) (rest : List Change) (notes : List WriteNote) : Type 0 where
  pub after_is : after ≡ before ++ docs_written before (take many left)
  pub rest_is : rest ≡ drop many left
  pub notes_is : notes ≡ notes_of index shard before (docs_written before (take many left))

pub looks_next : (index : List ℕ) (shard : ℕ) (before : List Doc) (left : List Change) (many : ℕ) (after : List Doc) (rest later : List Change) (notes : List WriteNote) (change : Change) → HasLooked index shard before left many after rest notes → rest ≡ change ∷ later
    → HasLooked index shard before left (many + 1) (after ++ rewritten change after) later (notes ++ notes_of index shard after (rewritten change after))
looks_next index shard before left many after rest later notes change h more =
    let here : drop many left ≡ change ∷ later = sym h.rest_is ∙ more in
    let next : take (many + 1) left ≡ take many left ++ change ∷ [] = rw add-one (take_next left later many change here) in
    let so_far = docs_written before (take many left) in
    let all : docs_written before (take (many + 1) left) ≡ so_far ++ rewritten change (before ++ so_far) = ap (docs_written before) next ∙ docs_written-push before (take many left) change in
    record {
      after_is = ap (λ ws. ws ++ rewritten change ws) h.after_is ∙ append_assoc before so_far (rewritten change (before ++ so_far)) ∙ ap (λ docs. before ++ docs) (sym all);
      rest_is = sym (rw add-one (drop_next left later many change here));
      notes_is =
          ap (λ ns. ns ++ notes_of index shard after (rewritten change after)) h.notes_is
          ∙ ap (λ ws. notes_of index shard before so_far ++ notes_of index shard ws (rewritten change ws)) h.after_is
          ∙ sym (ap (notes_of index shard before) all ∙ notes_of-append index shard before so_far (rewritten change (before ++ so_far)));
    }

-- ---- an early end

pub per_turn : rows_per_turn ≡ 1024
unfolding rows_per_turn
per_turn = refl

pub on_err : {T E : Type 0} (r : Result T E) (P : Type 0) → P → OnErr r P
on_err (Ok x) P p = tt
on_err (Err e) P p = p

-- the write of the next change failed
pub breaks_in_write : (index : List ℕ) (shard : ℕ) (before : List Doc) (left : List Change) (many : ℕ) (after : List Doc) (rest later : List Change) (now : List Doc) (notes : List WriteNote) (change : Change) → HasLooked index shard before left many after rest notes
    → rest ≡ change ∷ later → many < 1024 → now ≡ after → BreaksOff left later before now
breaks_in_write index shard before left many after rest later now notes change h more few same = record {
  seen = many;
  lost = 1;
  lost_one = omega arith;
  within = rw per_turn (omega arith);
  after_is = same ∙ h.after_is;
  rest_is = sym (rw add-one (drop_next left later many change (sym h.rest_is ∙ more)));
}

-- the note of the next change found no room
pub breaks_after_write : (index : List ℕ) (shard : ℕ) (before : List Doc) (left : List Change) (many : ℕ) (after : List Doc) (rest later : List Change) (now : List Doc) (notes : List WriteNote) (change : Change) → HasLooked index shard before left many after rest notes
    → rest ≡ change ∷ later → many < 1024 → now ≡ after ++ rewritten change after → BreaksOff left later before now
breaks_after_write index shard before left many after rest later now notes change h more few same =
    let next = looks_next index shard before left many after rest later notes change h more in
    record {
      seen = many + 1;
      lost = 0;
      lost_one = omega arith;
      within = rw per_turn (omega arith);
      after_is = same ∙ next.after_is;
      rest_is = next.rest_is ∙ ap (λ n. drop n left) (omega arith);
    }

-- ---- all changes of a turn

module _ (left : List Change) (many : ℕ) (past : min (length left) 1024 ≤ many) (few : many ≤ 1024) where
  take_turn : take many left ≡ take rows_per_turn left
  take_turn =
      rw per_turn
      (⊎_elim
      (λ (short : length left < 1024). take_all many left (omega arith) ∙ sym (take_all 1024 left (omega arith)))
      (λ (long : 1024 ≤ length left). ap (λ n. take n left) (let all : many ≡ 1024 = omega arith in all))
      (cases_lt (length left) 1024))

  drop_turn : drop many left ≡ drop rows_per_turn left
  drop_turn =
      rw per_turn
      (⊎_elim
      (λ (short : length left < 1024). drop_all many left (omega arith) ∙ sym (drop_all 1024 left (omega arith)))
      (λ (long : 1024 ≤ length left). ap (λ n. drop n left) (let all : many ≡ 1024 = omega arith in all))
      (cases_lt (length left) 1024))

  module _ (index : List ℕ) (shard : ℕ) (before after : List Doc) (rest : List Change) (notes : List WriteNote) (h : HasLooked index shard before left many after rest notes) where
    pub all_written : after ≡ before ++ docs_written before (take rows_per_turn left)
    all_written = h.after_is ∙ ap (λ changes. before ++ docs_written before changes) take_turn

    pub all_left : rest ≡ drop rows_per_turn left
    all_left = h.rest_is ∙ drop_turn

    pub all_noted : notes ≡ notes_of index shard before (docs_written before (take rows_per_turn left))
    all_noted = h.notes_is ∙ ap (λ changes. notes_of index shard before (docs_written before changes)) take_turn

-- ---- counts

-- a change is written once, or not at all
one_at_most : (b : Bool) (doc : Doc) → length (cond b [] (doc ∷ [])) ≤ 1
one_at_most true doc = omega arith
one_at_most false doc = omega arith

pub fewer_docs : (writes : List Doc) (changes : List Change) → length (docs_written writes changes) ≤ length changes
fewer_docs writes [] = omega arith
fewer_docs writes (change ∷ changes) =
    let here = one_at_most (is_in_conflict change writes) (doc_of change) in
    let later = fewer_docs (writes ++ rewritten change writes) changes in
    omega (arith, length-append (rewritten change writes) (docs_written (writes ++ rewritten change writes) changes))

pub length-notes_of : (index : List ℕ) (shard : ℕ) (writes docs : List Doc) → length (notes_of index shard writes docs) ≡ length docs
length-notes_of index shard writes [] = refl
length-notes_of index shard writes (doc ∷ docs) = ap suc (length-notes_of index shard (writes ++ doc ∷ []) docs)

-- What a turn looks at and what it leaves is what was left before, and it notes no more than it looks at.
pub record TurnSizes (left rest : List Change) (docs : List Doc) (notes : List WriteNote) : Type 0 where
  pub noted : length notes ≡ length docs
  pub fewer : length notes ≤ length (take rows_per_turn left)
  pub all : length (take rows_per_turn left) + length rest ≡ length left

pub turn_sizes : (index : List ℕ) (shard : ℕ) (writes : List Doc) (left rest : List Change) (notes : List WriteNote) → rest ≡ drop rows_per_turn left → notes ≡ notes_of index shard writes (docs_written writes (take rows_per_turn left))
    → TurnSizes left rest (docs_written writes (take rows_per_turn left)) notes
turn_sizes index shard writes left rest notes rest_is notes_are =
    let many : length notes ≡ length (docs_written writes (take rows_per_turn left)) = ap length notes_are ∙ length-notes_of index shard writes (docs_written writes (take rows_per_turn left)) in
    record {
      noted = many;
      fewer = omega (arith, many, fewer_docs writes (take rows_per_turn left));
      all = omega (arith, ap length rest_is, length-take rows_per_turn left, length-drop rows_per_turn left);
    }

-- ---- a change that is not in conflict makes no document new

found_any : {X : Type 0} (p : X → Bool) (xs : List X) → is_some (find p xs) ≡ list_any p xs
found_any p [] = refl
found_any p (x ∷ xs) = by_case (p x) (found_any p xs)
  where
    by_case : (b : Bool) → is_some (find p xs) ≡ list_any p xs → is_some (cond b (Some x) (find p xs)) ≡ (b || list_any p xs)
    by_case true later = refl
    by_case false later = later

some_there : (row : Option Row) (test : Row → Bool) → not (option_map_or test row false) ≡ false → is_some row ≡ true
some_there None test h = absurd cc
some_there (Some r) test h = refl

alive_there : (change : Change) (writes : List Doc) → is_in_conflict change writes ≡ false → is_alive change.id writes ≡ true
alive_there change writes h = sym (found_any (λ row. bytes_eq change.id row.1.id) (living_rows 0 writes)) ∙ some_there (living_row change.id writes) (λ row. row.0 == change.place) h

-- what is noted of a change that was written
pub noted_as_update : (index : List ℕ) (shard : ℕ) (change : Change) (writes : List Doc) → is_in_conflict change writes ≡ false → note_of index shard writes (doc_of change) ≡ record { index = index; shard = shard; created = false; id = change.id }
noted_as_update index shard change writes h = ap (λ alive. record { index = index; shard = shard; created = not alive; id = change.id }) (alive_there change writes h)

abbrev pub IsUpdate : WriteNote → Type 0
IsUpdate note = note.created ≡ false

one_updates : (index : List ℕ) (shard : ℕ) (change : Change) (writes : List Doc) (b : Bool) → is_in_conflict change writes ≡ b → AllByRecursion IsUpdate (notes_of index shard writes (cond b [] (doc_of change ∷ [])))
one_updates index shard change writes true h = tt
one_updates index shard change writes false h = (ap not (alive_there change writes h), tt)

pub all_update : (index : List ℕ) (shard : ℕ) (writes : List Doc) (changes : List Change) → AllByRecursion IsUpdate (notes_of index shard writes (docs_written writes changes))
all_update index shard writes [] = tt
all_update index shard writes (change ∷ changes) =
    let here = rewritten change writes in
    subst (AllByRecursion IsUpdate) (sym (notes_of-append index shard writes here (docs_written (writes ++ here) changes)))
    (all_joined IsUpdate (notes_of index shard writes here) (notes_of index shard (writes ++ here) (docs_written (writes ++ here) changes)) (one_updates index shard change writes (is_in_conflict change writes) refl) (all_update index shard (writes ++ here) changes))

-- ---- who comes second

any_last : {X : Type 0} (p : X → Bool) (xs : List X) (x : X) → p x ≡ true → list_any p (xs ++ x ∷ []) ≡ true
any_last p [] x h = ap (λ b. b || false) h
any_last p (y ∷ xs) x h = by_case (p y) (any_last p xs x h)
  where
    by_case : (b : Bool) → list_any p (xs ++ x ∷ []) ≡ true → (b || list_any p (xs ++ x ∷ [])) ≡ true
    by_case true later = refl
    by_case false later = later

same_id : (id : List ℕ) → bytes_eq id id ≡ true
same_id id = (bytes_eq-Decides id id).1 refl

abbrev lives : List ℕ → List Row → Option Row
lives id rows = find (λ row. bytes_eq id row.1.id) rows

-- a row of another id, or one that is dead, is passed over
pass : (id : List ℕ) (row : Row) (rows : List Row) (dead : Bool) → (dead ≡ false → bytes_eq id row.1.id ≡ false) → lives id (cond dead rows (row ∷ rows)) ≡ lives id rows
pass id row rows true other = refl
pass id row rows false other = ap (λ b. cond b (Some row) (lives id rows)) (other refl)

-- the last write of an id is its living row
last_lives : (first : ℕ) (writes : List Doc) (doc : Doc) → lives doc.id (living_rows first (writes ++ doc ∷ [])) ≡ Some (first + length writes, doc)
last_lives first [] doc = ap (λ b. cond b (Some (first, doc)) None) (same_id doc.id) ∙ (let at : first ≡ first + 0 = omega arith in ap (λ n. Some (n, doc)) at)
last_lives first (write ∷ writes) doc =
    let later = living_rows (suc first) (writes ++ doc ∷ []) in
    let at : suc first + length writes ≡ first + length (write ∷ writes) = omega arith in
    pass doc.id (first, write) later (has_id write.id (writes ++ doc ∷ [])) apart ∙ last_lives (suc first) writes doc ∙ ap (λ n. Some (n, doc)) at
  where
    apart : has_id write.id (writes ++ doc ∷ []) ≡ false → bytes_eq doc.id write.id ≡ false
    apart alive =
        ⊎_elim
        (λ same.
        let one : doc.id ≡ write.id = (bytes_eq-Decides doc.id write.id).0 same in
        absurd (true≢false (sym (any_last (λ other. bytes_eq write.id other.id) writes doc ((bytes_eq-Decides write.id doc.id).1 (sym one))) ∙ alive)))
        (λ other. other)
        (cases_Bool (bytes_eq doc.id write.id))

pub second_conflicts : (first second : Change) (writes : List Doc) → second.id ≡ first.id → second.place < length writes → is_in_conflict second (writes ++ doc_of first ∷ []) ≡ true
second_conflicts first second writes same before =
    let none : 0 + length writes ≡ length writes = omega arith in
    let living : living_row second.id (writes ++ doc_of first ∷ []) ≡ Some (length writes, doc_of first) =
    ap (λ id. living_row id (writes ++ doc_of first ∷ [])) same ∙ last_lives 0 writes (doc_of first) ∙ ap (λ n. Some (n, doc_of first)) none in
    ap (λ row. not (option_map_or (λ r. r.0 == second.place) row false)) living
    ∙ ap not (ne_eqb (length writes) second.place (λ e. omega arith))
