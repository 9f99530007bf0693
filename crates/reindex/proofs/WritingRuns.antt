-- The part of a bulk in a shard is as far as its turns say, and so does what its kind says.
use Rattle.std.proofs.Common.{◌≡◌, ◌⊎◌, ℕ, ◌+◌, ◌-◌, ◌*◌, ◌^◌, ◌<◌, ◌≤◌, true, not, List, [], ◌∷◌, length, take, drop, refl, sym, ap, ◌∙◌, ⊎_elim, inl, inr, zero, suc, min, arith}
use Rattle.std.specs.Prelude.{count_by, nat_lt, nat_le, ◌==◌, ◌&&◌}
use Rattle.std.proofs.lemmas.Bool.{cases_lt, le-leb, lt-leb, eq-eqb, ne_eqb, lt-ltb}
use Rattle.std.proofs.lemmas.List.{drop_all, length-take, length-drop}
use Rattle.task_ids.specs.declared.doc.Doc.{Doc}
use Rattle.task_events.specs.declared.request.BulkShardAsk.{BulkShardAsk}
use Rattle.task_events.specs.declared.reply.Reply.TheVariants.{Wrote}
use Rattle.task_events.specs.BulkShardTask.{bulk_shard_step}
use Rattle.task_events.specs.Counting.{are_below}
use Rattle.task_events.specs.Kind.{Progress}
use Rattle.task_events.specs.Looking.{rows_per_turn, is_done, work_or_end}
use Rattle.task_events.specs.Written.{notes_of, docs_of_turn}
use Rattle.reindex.specs.Writing.{Writing, IsWritingAt, new_writing, next_docs, is_written, writing_next, writing_counts, after_turn}
use Rattle.reindex.proofs.Answers.{below_all}
use Rattle.reindex.proofs.WriteLemmas.{per_turn, created_or_updated, length-notes_of}

pub writing_first : (ask : BulkShardAsk) → IsWritingAt ask 0 0 0 (new_writing ask)
unfolding rows_per_turn
writing_first ask = record { index_is = refl; shard_is = refl; left_is = refl; turned = refl; created_is = refl; updated_is = refl; counted = refl }

-- ---- what it does next

-- what is left is nothing where all was looked at
left_none : (much looked : ℕ) → nat_le much looked ≡ (much - looked == 0)
left_none much looked =
    ⊎_elim
    (λ (over : looked < much). lt-leb much looked over ∙ sym (ne_eqb (much - looked) 0 (λ e. omega arith)))
    (λ (all : much ≤ looked). le-leb much looked all ∙ sym (eq-eqb (much - looked) 0 (omega arith)))
    (cases_lt looked much)

module _ {ask : BulkShardAsk} {turns created updated : ℕ} {w : Writing} (at : IsWritingAt ask turns created updated w) where
  pub writing_done : is_done turns (length ask.docs) ≡ is_written w
  writing_done =
      let left : length w.left ≡ length ask.docs - turns * rows_per_turn = ap length at.left_is ∙ length-drop (turns * rows_per_turn) ask.docs in
      ap (λ b. nat_lt 0 turns && b) (left_none (length ask.docs) (turns * rows_per_turn) ∙ ap (λ n. n == 0) (sym left))
      ∙ ap (λ b. b && (length w.left == 0)) (sym at.turned)

  pub writing_docs : next_docs w ≡ docs_of_turn ask.docs turns
  writing_docs = ap (take rows_per_turn) at.left_is

  -- all turns before one that writes were full
  pub writing_full : (next_docs w ≡ []) ⊎ (created + updated ≡ turns * rows_per_turn)
  writing_full =
      ⊎_elim
      (λ (more : turns * rows_per_turn < length ask.docs). inr (omega (arith, at.counted, length-take (turns * rows_per_turn) ask.docs)))
      (λ (all : length ask.docs ≤ turns * rows_per_turn). inl (writing_docs ∙ ap (take rows_per_turn) (drop_all (turns * rows_per_turn) ask.docs all) ∙ none))
      (cases_lt (turns * rows_per_turn) (length ask.docs))
    where
      none : take {A = Doc} rows_per_turn [] ≡ []
      none = rw per_turn refl

  pub writing_low : length ask.docs < 2 ^ 18 → are_below (2 ^ 18) (writing_counts w) ≡ true
  writing_low few =
      let all = length-take (turns * rows_per_turn) ask.docs in
      below_all (2 ^ 18) (writing_counts w)
      (record {
        total = omega arith;
        created = omega (arith, at.counted, at.created_is, all);
        updated = omega (arith, at.counted, at.updated_is, all);
        batches = omega arith;
        failures = omega arith;
      })

  -- one turn more, over a shard with these writes
  pub writing_turned : (writes : List Doc) → let notes = notes_of w.index w.shard writes (next_docs w) in IsWritingAt ask (1 + turns) (count_by (λ note. note.created) notes + created) (count_by (λ note. not note.created) notes + updated) (after_turn w writes)
  writing_turned writes =
      let notes = notes_of w.index w.shard writes (next_docs w) in
      record {
        index_is = at.index_is;
        shard_is = at.shard_is;
        left_is = ap (drop rows_per_turn) at.left_is ∙ drop_more (turns * rows_per_turn) rows_per_turn ask.docs ∙ ap (λ n. drop n ask.docs) next;
        turned = sym (lt-ltb 0 (1 + turns) (omega arith));
        created_is = omega (arith, at.created_is);
        updated_is = omega (arith, at.updated_is);
        counted = omega (arith, at.counted, created_or_updated notes, length-notes_of w.index w.shard writes (next_docs w), ap length writing_docs, of_turn, earlier, later, next);
      }
    where
      next : turns * rows_per_turn + rows_per_turn ≡ (1 + turns) * rows_per_turn
      next = rw per_turn (omega arith)

      drop_none : (n : ℕ) → drop {A = Doc} n [] ≡ []
      drop_none zero = refl
      drop_none (suc n) = refl

      drop_more : (m n : ℕ) (docs : List Doc) → drop n (drop m docs) ≡ drop (m + n) docs
      drop_more zero n docs = ap (λ k. drop k docs) (omega arith)
      drop_more (suc m) n [] = drop_none n ∙ sym (drop_none (suc m + n))
      drop_more (suc m) n (doc ∷ docs) = let e : suc m + n ≡ suc (m + n) = omega arith in rw e (drop_more m n docs)

      of_turn : length (take rows_per_turn (drop (turns * rows_per_turn) ask.docs)) ≡ min rows_per_turn (length ask.docs - turns * rows_per_turn)
      of_turn = length-take rows_per_turn (drop (turns * rows_per_turn) ask.docs) ∙ ap (min rows_per_turn) (length-drop (turns * rows_per_turn) ask.docs)

      earlier : length (take (turns * rows_per_turn) ask.docs) ≡ min (turns * rows_per_turn) (length ask.docs)
      earlier = length-take (turns * rows_per_turn) ask.docs

      later : length (take ((1 + turns) * rows_per_turn) ask.docs) ≡ min ((1 + turns) * rows_per_turn) (length ask.docs)
      later = length-take ((1 + turns) * rows_per_turn) ask.docs

-- what it does next is what its kind says
pub writing_follows : {ask : BulkShardAsk} {w : Writing} (p : Progress) → IsWritingAt ask p.turns p.created p.updated w → bulk_shard_step ask p ≡ writing_next w
writing_follows p at =
    λ i. work_or_end (writing_done at i) (Wrote (record { total = 0; created = sym at.created_is i; updated = sym at.updated_is i; batches = 0; failures = 0 }))
