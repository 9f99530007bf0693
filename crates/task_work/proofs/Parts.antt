-- A turn that broke off.
use Rattle.std.proofs.Common.{◌≡◌, ℕ, zero, suc, ◌+◌, ◌≤◌, List, [], ◌∷◌, ◌++◌, take, refl, sym, ap, ◌∙◌, arith, Result, Ok, Err}
use Rattle.std.specs.Prelude.{OnErr}
use Rattle.task_ids.specs.declared.doc.Doc.{Doc}
use Rattle.task_events.specs.Looking.{rows_per_turn}
use Rattle.reindex.specs.Writing.{Writing, StopsShort}
use Rattle.task_work.specs.declared.work.Work.TheVariants.{BulkShard}
use Rattle.task_work.specs.Works.{BrokeOff}

pub on_err-weaker : {T E : Type 0} (r : Result T E) (P Q : Type 0) → (P → Q) → OnErr r P → OnErr r Q
on_err-weaker (Ok x) P Q f p = tt
on_err-weaker (Err e) P Q f p = f p

take_take : (m n : ℕ) (docs : List Doc) → m ≤ n → take m (take n docs) ≡ take m docs
take_take zero n docs l = refl
take_take (suc m) zero docs l = absurd (omega arith)
take_take (suc m) (suc n) [] l = refl
take_take (suc m) (suc n) (doc ∷ docs) l = ap (λ ds. doc ∷ ds) (take_take m n docs (omega arith))

pub part_broke_off : (w v : Writing) (writes now : List Doc) → StopsShort w v writes now → BrokeOff (BulkShard w) (BulkShard v) writes now
part_broke_off w v writes now h = record {
  written = h.writes.written;
  now_is = h.writes.after_is ∙ ap (λ docs. writes ++ docs) (sym (take_take h.writes.written rows_per_turn w.left h.writes.within));
  work_is = (h.writes.written + h.writes.lost, h.others ∙ ap (λ left. record w { left = left }) h.writes.rest_is);
}
