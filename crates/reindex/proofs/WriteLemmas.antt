-- Documents that are written one after the other.
use Rattle.std.proofs.Common.{◌≡◌, ℕ, zero, suc, ◌+◌, ◌<◌, ◌≤◌, List, [], ◌∷◌, ◌++◌, length, take, drop, Bool, true, false, not, refl, sym, ap, ◌∙◌, append_assoc, append-nil, add-one, arith, min, cond, ⊎_elim, Result, Ok, Err}
use Rattle.std.specs.Prelude.{count_by, OnErr}
use Rattle.task_ids.specs.declared.doc.Doc.{Doc}
use Rattle.task_events.specs.declared.request.WriteNote.{WriteNote}
use Rattle.std.proofs.lemmas.Bool.{cases_lt}
use Rattle.std.proofs.lemmas.List.Sums.{sum_by-cons}
use Rattle.std.proofs.lemmas.List.{take_all, drop_all, length-take, length-drop}
use Rattle.task_events.specs.Looking.{rows_per_turn}
use Rattle.task_events.specs.Written.{note_of, notes_of}
use Rattle.reindex.specs.Writes.{BreaksOff}

-- one document more
pub notes_of-push : (index : List ℕ) (shard : ℕ) (writes docs : List Doc) (doc : Doc) → notes_of index shard writes (docs ++ doc ∷ []) ≡ notes_of index shard writes docs ++ note_of index shard (writes ++ docs) doc ∷ []
notes_of-push index shard writes [] doc = ap (λ ws. note_of index shard ws doc ∷ []) (sym (append-nil writes))
notes_of-push index shard writes (d ∷ docs) doc =
    ap (λ notes. note_of index shard writes d ∷ notes)
    (notes_of-push index shard (writes ++ d ∷ []) docs doc ∙ ap (λ ws. notes_of index shard (writes ++ d ∷ []) docs ++ note_of index shard ws doc ∷ []) (append_assoc writes (d ∷ []) docs))

-- the item after the first ones
take_next : {X : Type 0} (xs ys : List X) (i : ℕ) (x : X) → drop i xs ≡ x ∷ ys → take (suc i) xs ≡ take i xs ++ x ∷ []
take_next [] ys zero x h = absurd cc
take_next [] ys (suc i) x h = absurd cc
take_next (z ∷ xs) ys zero x h = let same : z ≡ x = cc in ap (λ a. a ∷ []) same
take_next (z ∷ xs) ys (suc i) x h = ap (λ zs. z ∷ zs) (take_next xs ys i x h)

drop_next : {X : Type 0} (xs ys : List X) (i : ℕ) (x : X) → drop i xs ≡ x ∷ ys → drop (suc i) xs ≡ ys
drop_next [] ys zero x h = absurd cc
drop_next [] ys (suc i) x h = absurd cc
drop_next (z ∷ xs) ys zero x h = cc
drop_next (z ∷ xs) ys (suc i) x h = drop_next xs ys i x h

-- So many documents were written, in order, and are noted.
pub record HasWritten (index : List ℕ) (shard : ℕ) (before left : List Doc) (many : ℕ) (after rest : List Doc) (notes : List WriteNote) : Type 0 where
  pub after_is : after ≡ before ++ take many left
  pub rest_is : rest ≡ drop many left
  pub notes_is : notes ≡ notes_of index shard before (take many left)

pub writes_next : (index : List ℕ) (shard : ℕ) (before left : List Doc) (many : ℕ) (after rest later : List Doc) (notes : List WriteNote) (doc : Doc) → HasWritten index shard before left many after rest notes → rest ≡ doc ∷ later
    → HasWritten index shard before left (many + 1) (after ++ doc ∷ []) later (notes ++ note_of index shard after doc ∷ [])
writes_next index shard before left many after rest later notes doc h more =
    let here : drop many left ≡ doc ∷ later = sym h.rest_is ∙ more in
    let next : take (many + 1) left ≡ take many left ++ doc ∷ [] = rw add-one (take_next left later many doc here) in
    record {
      after_is = ap (λ ds. ds ++ doc ∷ []) h.after_is ∙ append_assoc before (take many left) (doc ∷ []) ∙ ap (λ ds. before ++ ds) (sym next);
      rest_is = sym (rw add-one (drop_next left later many doc here));
      notes_is =
          ap (λ ns. ns ++ note_of index shard after doc ∷ []) h.notes_is
          ∙ ap (λ ws. notes_of index shard before (take many left) ++ note_of index shard ws doc ∷ []) h.after_is
          ∙ sym (ap (notes_of index shard before) next ∙ notes_of-push index shard before (take many left) doc);
    }

pub per_turn : rows_per_turn ≡ 1024
unfolding rows_per_turn
per_turn = refl

-- ---- an early end

pub on_err : {T E : Type 0} (r : Result T E) (P : Type 0) → P → OnErr r P
on_err (Ok x) P p = tt
on_err (Err e) P p = p

-- the write of the next document failed
pub breaks_in_write : (index : List ℕ) (shard : ℕ) (before left : List Doc) (many : ℕ) (after rest later now : List Doc) (notes : List WriteNote) (doc : Doc) → HasWritten index shard before left many after rest notes → rest ≡ doc ∷ later → many < 1024 → now ≡ after
    → BreaksOff left later before now
breaks_in_write index shard before left many after rest later now notes doc h more few same = record {
  written = many;
  lost = 1;
  lost_one = omega arith;
  within = rw per_turn (omega arith);
  after_is = same ∙ h.after_is;
  rest_is = sym (rw add-one (drop_next left later many doc (sym h.rest_is ∙ more)));
}

-- the note of the next document found no room
pub breaks_after_write : (index : List ℕ) (shard : ℕ) (before left : List Doc) (many : ℕ) (after rest later now : List Doc) (notes : List WriteNote) (doc : Doc) → HasWritten index shard before left many after rest notes → rest ≡ doc ∷ later → many < 1024 → now ≡ after ++ doc ∷ []
    → BreaksOff left later before now
breaks_after_write index shard before left many after rest later now notes doc h more few same =
    let next = writes_next index shard before left many after rest later notes doc h more in
    record {
      written = many + 1;
      lost = 0;
      lost_one = omega arith;
      within = rw per_turn (omega arith);
      after_is = same ∙ next.after_is;
      rest_is = next.rest_is ∙ ap (λ n. drop n left) (omega arith);
    }

-- ---- all documents of a turn

module _ (left : List Doc) (many : ℕ) (past : min (length left) 1024 ≤ many) (few : many ≤ 1024) where
  take_turn : take many left ≡ take rows_per_turn left
  take_turn =
      rw per_turn
      (⊎_elim
      (λ (short : length left < 1024). take_all many left (omega arith) ∙ sym (take_all 1024 left (omega arith)))
      (λ (long : 1024 ≤ length left). ap (λ n. take n left) (let all : many ≡ 1024 = omega arith in all))
      (cases_lt (length left) 1024))

  drop_turn : drop many left ≡ drop rows_per_turn left
  drop_turn =
      rw per_turn
      (⊎_elim
      (λ (short : length left < 1024). drop_all many left (omega arith) ∙ sym (drop_all 1024 left (omega arith)))
      (λ (long : 1024 ≤ length left). ap (λ n. drop n left) (let all : many ≡ 1024 = omega arith in all))
      (cases_lt (length left) 1024))

  module _ (index : List ℕ) (shard : ℕ) (before after rest : List Doc) (notes : List WriteNote) (h : HasWritten index shard before left many after rest notes) where
    pub all_written : after ≡ before ++ take rows_per_turn left
    all_written = h.after_is ∙ ap (λ ds. before ++ ds) take_turn

    pub all_left : rest ≡ drop rows_per_turn left
    all_left = h.rest_is ∙ drop_turn

    pub all_noted : notes ≡ notes_of index shard before (take rows_per_turn left)
    all_noted = h.notes_is ∙ ap (notes_of index shard before) take_turn

-- ---- counts

-- of one item more, of which the test holds or does not
one_or_none : (b : Bool) (m n k : ℕ) → m + n ≡ k → (cond b 1 0 + m) + (cond (not b) 1 0 + n) ≡ suc k
one_or_none true m n k h = omega arith
one_or_none false m n k h = omega arith

-- each note is of a document that was created, or of one that was updated
pub created_or_updated : (notes : List WriteNote) → count_by (λ note. note.created) notes + count_by (λ note. not note.created) notes ≡ length notes
created_or_updated [] = refl
created_or_updated (note ∷ notes) =
    ap (λ m. m + count_by (λ note. not note.created) (note ∷ notes)) (sum_by-cons (λ note. cond note.created 1 0) note notes)
    ∙ ap (λ n. (cond note.created 1 0 + count_by (λ note. note.created) notes) + n) (sum_by-cons (λ note. cond (not note.created) 1 0) note notes)
    ∙ one_or_none note.created _ _ _ (created_or_updated notes)

pub length-notes_of : (index : List ℕ) (shard : ℕ) (writes docs : List Doc) → length (notes_of index shard writes docs) ≡ length docs
length-notes_of index shard writes [] = refl
length-notes_of index shard writes (doc ∷ docs) = ap suc (length-notes_of index shard (writes ++ doc ∷ []) docs)

-- what a turn counts and what it leaves is what was left before
pub counts_and_rest : (index : List ℕ) (shard : ℕ) (writes left : List Doc) (turn : ℕ) (notes : List WriteNote) → notes ≡ notes_of index shard writes (take turn left)
    → count_by (λ note. note.created) notes + count_by (λ note. not note.created) notes + length (drop turn left) ≡ length left
counts_and_rest index shard writes left turn notes are =
    let all : length notes ≡ length (take turn left) = ap length are ∙ length-notes_of index shard writes (take turn left) in
    omega (arith, created_or_updated notes, length-take turn left, length-drop turn left)
