-- What holds of each part of a bulk stays of work whose turn broke off.
use Rattle.std.proofs.Common.{sym, subst}
use Rattle.reindex.specs.Writing.{Writing}
use Rattle.task_work.specs.declared.work.Work.{Work}
use Rattle.task_work.specs.declared.work.Work.TheVariants as works
use Rattle.task_work.specs.Works.{HasLost}

pub lost_keeps : (P : Work → Type 0) → ((w : Writing) → P (works.BulkShard w)) → (before after : Work) → HasLost before after → P before → P after
lost_keeps P part (works.BulkShard w) (works.BulkShard v) lost p = part v
lost_keeps P part (works.BulkShard w) _ lost p = subst P (sym lost) p
lost_keeps P part (works.Query q top) after lost p = subst P (sym lost) p
lost_keeps P part (works.Fetch f hits) after lost p = subst P (sym lost) p
lost_keeps P part (works.Search s) after lost p = subst P (sym lost) p
lost_keeps P part (works.Scroll s) after lost p = subst P (sym lost) p
lost_keeps P part (works.Reindex r) after lost p = subst P (sym lost) p
lost_keeps P part (works.Slice s) after lost p = subst P (sym lost) p
lost_keeps P part (works.Bulk b) after lost p = subst P (sym lost) p
