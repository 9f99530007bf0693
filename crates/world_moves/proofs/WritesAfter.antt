-- What the writes of a turn of work change: what is written, and what their task has written. Nothing else.
use Rattle.std.proofs.Common.{◌≡◌, ℕ, zero, suc, ◌+◌, Bool, true, false, cond, List, [], ◌∷◌, ◌++◌, Some, None, refl, sym, ap, ◌∙◌, arith, append_assoc}
use Rattle.std.specs.Prelude.{◌&&◌, count_by, not, drop, slice_get}
use Rattle.std.proofs.lemmas.List.{append-nil}
use Rattle.task_ids.specs.declared.cluster.Cluster.{Cluster}
use Rattle.task_ids.specs.declared.corpus.CorpusLine.{CorpusLine}
use Rattle.task_ids.specs.declared.doc.Doc.{Doc}
use Rattle.task_ids.specs.declared.task_id.TaskId.{TaskId}
use Rattle.task_events.specs.declared.event.Event.{Event}
use Rattle.task_events.specs.declared.event.Event.TheVariants.{Cancel, Write}
use Rattle.task_events.specs.declared.event.Outcome.{Outcome}
use Rattle.task_events.specs.declared.event.Outcome.TheVariants.{Created, Updated}
use Rattle.task_events.specs.declared.request.WriteNote.{WriteNote}
use Rattle.task_events.specs.Cancels.{turn_of}
use Rattle.task_events.specs.Lawful.{AwaitsNoMark, Lawful}
use Rattle.task_events.specs.Requests.{Scripted, request_of}
use Rattle.task_events.specs.Same.{same_task}
use Rattle.task_events.specs.Written.{docs_of, is_created, is_writing, lines_at, note_of, notes_of, write_of, writes_by, with_notes}
use Rattle.corpus_shards.specs.Stored.{lines_of}
use Rattle.task_laws.proofs.Numbers.{number_is}
use Rattle.task_laws.proofs.Same.{same_tests}
use Rattle.world_moves.specs.Facts.{Facts, facts_of}

-- what a write keeps is kept by all of them
pub notes_keep : (P : List Event → Type 0) → ((index : List ℕ) (shard : ℕ) (outcome : Outcome) (id : List ℕ) (g : List Event) → P g → P (Write index shard outcome id ∷ g)) → (notes : List WriteNote) (g : List Event) → P g → P (with_notes notes g)
notes_keep P each [] g p = p
notes_keep P each (note ∷ notes) g p = notes_keep P each notes (write_of note ∷ g) (each note.index note.shard _ note.id g p)

pub notes_same : {X : Type 0} (f : List Event → X) → ((index : List ℕ) (shard : ℕ) (outcome : Outcome) (id : List ℕ) (g : List Event) → f (Write index shard outcome id ∷ g) ≡ f g) → (notes : List WriteNote) (g : List Event) → f (with_notes notes g) ≡ f g
notes_same f each [] g = refl
notes_same f each (note ∷ notes) g = notes_same f each notes (write_of note ∷ g) ∙ each note.index note.shard _ note.id g

pub notes_lawful : (cluster : Cluster) (t : TaskId) (notes : List WriteNote) (g : List Event) → turn_of g ≡ Some t → Lawful cluster g → Lawful cluster (with_notes notes g)
notes_lawful cluster t [] g turn lawful = lawful
notes_lawful cluster t (note ∷ notes) g turn lawful = notes_lawful cluster t notes (write_of note ∷ g) turn ((λ e. let f : Some t ≡ None = sym turn ∙ e in cc), lawful, in_turn g turn)
  where
    in_turn : (g : List Event) → turn_of g ≡ Some t → AwaitsNoMark g
    in_turn (Cancel c u wait ∷ g) e = absurd (cc)
    in_turn [] e = tt
    in_turn (_ ∷ g) e = tt

-- ---- the facts of tasks

module _ (said : Scripted) (t : TaskId) where
  -- with so much written
  abbrev pub wrote : Facts → List WriteNote → Facts
  wrote facts notes = record facts { created = count_by (λ note. note.created) notes + facts.created; updated = count_by (λ note. not note.created) notes + facts.updated }

  itself : same_task t t ≡ true
  itself = grind (arith, same_tests)

  one_write : (index : List ℕ) (shard : ℕ) (b : Bool) (id : List ℕ) (g : List Event) → turn_of g ≡ Some t
      → facts_of said t (Write index shard (cond b Created Updated) id ∷ g) ≡ record (facts_of said t g) { created = cond b (1 + (facts_of said t g).created) (facts_of said t g).created; updated = cond (not b) (1 + (facts_of said t g).updated) (facts_of said t g).updated }
  one_write index shard true id g turn = rw (turn, itself) refl
  one_write index shard false id g turn = rw (turn, itself) refl

  one_more : (p : WriteNote → Bool) (note : WriteNote) (notes : List WriteNote) (c : ℕ) → count_by p notes + cond (p note) (1 + c) c ≡ count_by p (note ∷ notes) + c
  one_more p note notes c = by_case (p note) ∙ ap (λ n. n + c) (sym (number_is p (note ∷ notes) ∙ ap (λ n. cond (p note) 1 0 + n) (sym (number_is p notes))))
    where
      by_case : (b : Bool) → count_by p notes + cond b (1 + c) c ≡ cond b 1 0 + count_by p notes + c
      by_case true = omega arith
      by_case false = omega arith

  none_more : (c : ℕ) → c ≡ 0 + c
  none_more c = omega arith

  pub notes_facts : (notes : List WriteNote) (g : List Event) → turn_of g ≡ Some t → facts_of said t (with_notes notes g) ≡ wrote (facts_of said t g) notes
  notes_facts [] g turn = λ i. record (facts_of said t g) { created = none_more (facts_of said t g).created i; updated = none_more (facts_of said t g).updated i }
  notes_facts (note ∷ notes) g turn =
      notes_facts notes (write_of note ∷ g) turn
      ∙ ap (λ facts. wrote facts notes) (one_write note.index note.shard note.created note.id g turn)
      ∙ (λ i. record (facts_of said t g) {
        created = one_more (λ note. note.created) note notes (facts_of said t g).created i;
        updated = one_more (λ note. not note.created) note notes (facts_of said t g).updated i;
      })

  -- of another task
  pub other_facts : (q : TaskId) → same_task q t ≡ false → (notes : List WriteNote) (g : List Event) → turn_of g ≡ Some t → facts_of said q (with_notes notes g) ≡ facts_of said q g
  other_facts q apart [] g turn = refl
  other_facts q apart (note ∷ notes) g turn = other_facts q apart notes (write_of note ∷ g) turn ∙ rw (turn, apart) refl

-- ---- what is written

-- what a task has written by both outcomes
pub written_both : (t : TaskId) (g : List Event) → writes_by (λ outcome. true) t g ≡ writes_by is_created t g + writes_by (λ outcome. not (is_created outcome)) t g
written_both t [] = refl
written_both t (Write index shard Created id ∷ g) = by_turn (is_writing t g) _ _ _ (written_both t g)
  where
    by_turn : (b : Bool) (n c u : ℕ) → n ≡ c + u → cond (b && true) (1 + n) n ≡ cond (b && true) (1 + c) c + cond (b && false) (1 + u) u
    by_turn true n c u e = omega (arith, e)
    by_turn false n c u e = e
written_both t (Write index shard Updated id ∷ g) = by_turn (is_writing t g) _ _ _ (written_both t g)
  where
    by_turn : (b : Bool) (n c u : ℕ) → n ≡ c + u → cond (b && true) (1 + n) n ≡ cond (b && false) (1 + c) c + cond (b && true) (1 + u) u
    by_turn true n c u e = omega (arith, e)
    by_turn false n c u e = e
written_both t (_ ∷ g) = written_both t g

module _ (said : Scripted) (t : TaskId) (index : List ℕ) (shard : ℕ) where
  one_document : (doc : Doc) (docs rest : List Doc) (g : List Event) → turn_of g ≡ Some t → drop (writes_by (λ outcome. true) t g) (docs_of (request_of said t g)) ≡ doc ∷ docs ++ rest
      → slice_get (docs_of (request_of said t g)) (writes_by (λ outcome. true) t g) ≡ Some doc
  one_document doc docs rest g turn next = first_left (writes_by (λ outcome. true) t g) (docs_of (request_of said t g)) doc (docs ++ rest) next
    where
      first_left : (n : ℕ) (xs : List Doc) (x : Doc) (ys : List Doc) → drop n xs ≡ x ∷ ys → slice_get xs n ≡ Some x
      first_left zero [] x ys e = absurd (cc)
      first_left zero (y ∷ xs) x ys e = cc
      first_left (suc n) [] x ys e = absurd (cc)
      first_left (suc n) (y ∷ xs) x ys e = first_left n xs x ys e

  -- the documents of a turn that writes the next ones of its task's request
  pub notes_lines : (lines : List CorpusLine) (writes docs rest : List Doc) (g : List Event) → turn_of g ≡ Some t → drop (writes_by (λ outcome. true) t g) (docs_of (request_of said t g)) ≡ docs ++ rest
      → lines_at lines said (with_notes (notes_of index shard writes docs) g) ≡ lines_at lines said g ++ lines_of index docs
  notes_lines lines writes [] rest g turn next = sym (append-nil (lines_at lines said g))
  notes_lines lines writes (doc ∷ docs) rest g turn next =
      notes_lines lines (writes ++ doc ∷ []) docs rest (write_of (note_of index shard writes doc) ∷ g) turn (later doc docs rest g turn next)
      ∙ ap (λ xs. xs ++ lines_of index docs) (here doc docs rest g turn next)
      ∙ append_assoc (lines_at lines said g) (record { index = index; doc = doc } ∷ []) (lines_of index docs)
    where
      here : (doc : Doc) (docs rest : List Doc) (g : List Event) → turn_of g ≡ Some t → drop (writes_by (λ outcome. true) t g) (docs_of (request_of said t g)) ≡ doc ∷ docs ++ rest
          → lines_at lines said (write_of (note_of index shard writes doc) ∷ g) ≡ lines_at lines said g ++ record { index = index; doc = doc } ∷ []
      here doc docs rest g turn next = rw (turn, one_document doc docs rest g turn next) refl

      later : (doc : Doc) (docs rest : List Doc) (g : List Event) → turn_of g ≡ Some t → drop (writes_by (λ outcome. true) t g) (docs_of (request_of said t g)) ≡ doc ∷ docs ++ rest
          → drop (writes_by (λ outcome. true) t (write_of (note_of index shard writes doc) ∷ g)) (docs_of (request_of said t g)) ≡ docs ++ rest
      later doc docs rest g turn next = rw (turn, itself_so) (one_less (writes_by (λ outcome. true) t g) (docs_of (request_of said t g)) doc (docs ++ rest) next)
        where
          itself_so : same_task t t ≡ true
          itself_so = grind (arith, same_tests)

          next_left : (n : ℕ) (xs : List Doc) (x : Doc) (ys : List Doc) → drop n xs ≡ x ∷ ys → drop (suc n) xs ≡ ys
          next_left zero [] x ys e = absurd (cc)
          next_left zero (y ∷ xs) x ys e = cc
          next_left (suc n) [] x ys e = absurd (cc)
          next_left (suc n) (y ∷ xs) x ys e = next_left n xs x ys e

          one_less : (n : ℕ) (xs : List Doc) (x : Doc) (ys : List Doc) → drop n xs ≡ x ∷ ys → drop (1 + n) xs ≡ ys
          one_less n xs x ys e = let next : 1 + n ≡ suc n = omega arith in ap (λ k. drop k xs) next ∙ next_left n xs x ys e
