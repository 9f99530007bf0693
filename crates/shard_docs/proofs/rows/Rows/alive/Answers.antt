use Rattle.std.proofs.Common.{◌≡◌, true, cond, drop, Some, None, sym, ap, ◌∙◌, arith, true≢false}
use Rattle.std.specs.Prelude.{option_copied}
use Rattle.shard_docs.specs.KeptRows.{below}
use Rattle.shard_docs.specs.SeenRows.{SeenRows, doc_alive}
use Rattle.shard_docs.proofs.KeptLemmas.{is_kept}
use Rattle.shard_docs.proofs.KeptReads.{no_row, none_found, is_own, is_dead, is_next}
use Rattle.shard_docs.proofs.rows.Rows.alive.Goals as goal
use Rattle.shard_docs.proofs.rows.Rows.alive.Goals.{then-is_alive_at-2, else-is_alive_at-2, else-row-place-via-then-row-place+else-is_alive_at, else-row-place-via-else-row-place}

pub returns-in_err-row : goal.returns-in_err-row
returns-in_err-row c =
    let kept = c.self.inside.kept.items in
    let o = c.self.inside.oldest in
    let here = c.rows_from-rows.result.now in
    let rows = c.args.self.now.rows in
    let there = c.rows_from-rows.ensures ∙ ap (λ l. drop (below c.args.place l) l) c.as_slice.ensures.value in
    let all = ap (λ (s : SeenRows). s.rows) c.self.view_is in
    ap option_copied c.from_residual.ensures ∙ sym (ap (doc_alive c.args.version) (no_row o c.args.place kept here rows c.self.invariant there all (sym c.in_err-row.ensures.value)))

pub returns-then-is_alive_at : goal.returns-then-is_alive_at
returns-then-is_alive_at c =
    let kept = c.self.inside.kept.items in
    let o = c.self.inside.oldest in
    let here = c.rows_from-rows.result.now in
    let rows = c.args.self.now.rows in
    let there = c.rows_from-rows.ensures ∙ ap (λ l. drop (below c.args.place l) l) c.as_slice.ensures.value in
    let all = ap (λ (s : SeenRows). s.rows) c.self.view_is in
    let row = c.in_ok-row.row.now in
    let found = is_own o c.args.place kept here rows c.self.invariant there all row (sym c.in_ok-row.ensures.value) c.if-row-place.true (sym c.is_alive_at.ensures ∙ c.if-is_alive_at.true) in
    elim c.if-is_alive_at-2.branch [
      | then-is_alive_at-2 w ↦ ap option_copied w.result-is ∙ sym (ap (doc_alive c.args.version) found ∙ ap (λ b. cond b (Some row.doc) None) (sym c.is_alive_at-then-is_alive_at.ensures ∙ w.if-is_alive_at-2.true))
      | else-is_alive_at-2 w ↦ ap option_copied w.result-is ∙ sym (ap (doc_alive c.args.version) found ∙ ap (λ b. cond b (Some row.doc) None) (sym c.is_alive_at-then-is_alive_at.ensures ∙ w.if-is_alive_at-2.false))
    ]

pub returns-then-saturating_sub-gt1 : goal.returns-then-saturating_sub-gt1
returns-then-saturating_sub-gt1 c =
    let kept = c.self.inside.kept.items in
    let o = c.self.inside.oldest in
    let here = c.rows_from-rows.result.now in
    let rows = c.args.self.now.rows in
    let there = c.rows_from-rows.ensures ∙ ap (λ l. drop (below c.args.place l) l) c.as_slice.ensures.value in
    let all = ap (λ (s : SeenRows). s.rows) c.self.view_is in
    let row = c.in_ok-row.row.now in
    let head = sym c.in_ok-row.ensures.value in
    let apart : (row.place ≡ c.args.place) × (is_kept o row ≡ true) → ⊥ =
    elim c.else-row-place.branch [
      | else-row-place-via-then-row-place+else-is_alive_at w ↦ λ both. true≢false (sym both.1 ∙ sym w.is_alive_at.ensures ∙ w.if-is_alive_at.false)
      | else-row-place-via-else-row-place w ↦ λ both. w.if-row-place.false both.0
    ] in
    sym (is_dead o c.args.place kept here rows c.self.invariant there all row head apart c.args.version (omega (arith, c.if-saturating_sub-gt1.true, c.saturating_sub.ensures)))

pub returns-in_err-row-2 : goal.returns-in_err-row-2
returns-in_err-row-2 c =
    let kept = c.self.inside.kept.items in
    let o = c.self.inside.oldest in
    let here = c.rows_from-rows.result.now in
    let rows = c.args.self.now.rows in
    let there = c.rows_from-rows.ensures ∙ ap (λ l. drop (below c.args.place l) l) c.as_slice.ensures.value in
    let all = ap (λ (s : SeenRows). s.rows) c.self.view_is in
    ap option_copied c.from_residual-in_err-row-2.ensures ∙ sym (ap (doc_alive c.args.version) (none_found o c.args.place kept here rows c.self.invariant there all (sym c.in_err-row-2.ensures)))

pub returns : goal.returns
returns c =
    let kept = c.self.inside.kept.items in
    let o = c.self.inside.oldest in
    let here = c.rows_from-rows.result.now in
    let rows = c.args.self.now.rows in
    let there = c.rows_from-rows.ensures ∙ ap (λ l. drop (below c.args.place l) l) c.as_slice.ensures.value in
    let all = ap (λ (s : SeenRows). s.rows) c.self.view_is in
    let row = c.in_ok-row.row.now in
    let head = sym c.in_ok-row.ensures.value in
    let apart : (row.place ≡ c.args.place) × (is_kept o row ≡ true) → ⊥ =
    elim c.else-row-place.branch [
      | else-row-place-via-then-row-place+else-is_alive_at w ↦ λ both. true≢false (sym both.1 ∙ sym w.is_alive_at.ensures ∙ w.if-is_alive_at.false)
      | else-row-place-via-else-row-place w ↦ λ both. w.if-row-place.false both.0
    ] in
    is_next o c.args.place kept here rows c.self.invariant there all row head apart c.args.version (omega (arith, c.if-saturating_sub-gt1.false, c.saturating_sub.ensures)) c.in_ok-row-2.row.now (sym c.in_ok-row-2.ensures)
