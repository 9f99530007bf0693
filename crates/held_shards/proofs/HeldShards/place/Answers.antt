use Rattle.std.proofs.Common.{◌≡◌, ◌≤◌, ◌∷◌, ◌++◌, [], not, true, length, refl, sym, subst, ap, ◌∙◌, arith}
use Rattle.std.specs.List.{position_or_len}
use Rattle.std.proofs.lemmas.List.{length-append}
use Rattle.std.proofs.lemmas.List.Sums.{prefix_len-le-length}
use Rattle.held_shards.specs.declared.HeldShard.{HeldShard}
use Rattle.held_shards.specs.Held.{is_row}
use Rattle.held_shards.proofs.Rows.{added_at, is_its_row}
use Rattle.held_shards.proofs.HeldShards.place.Goals as goal

pub returns-clause-place : goal.returns-clause-place
returns-clause-place c =
    let rows = c.args.self.now.rows in
    let index = c.args.index.now in
    let number = c.args.number in
    let at = c.found-place.result in
    let row : HeldShard = record { index = c.new-index.result; number = number; shard = c.new.result } in
    let past : length rows.items ≤ at = omega (arith, c.if-place-len.false, c.len.ensures, rows.ok.0) in
    let most : position_or_len (is_row index number) rows.items ≤ length rows.items = prefix_len-le-length (λ r. not (is_row index number r)) rows.items in
    let its : is_row index number row ≡ true = is_its_row index number row (c.new-index.ensures ∙ c.in_ok-from_str.ensures.ok) refl in
    let added : c.push.new.self.items ≡ rows.items ++ row ∷ [] = c.in_ok-push.ensures.items in
    let is : at ≡ position_or_len (is_row index number) (rows.items ++ row ∷ []) = added_at (is_row index number) rows.items row at c.found-place.ensures past its in (
      subst (λ items. at ≡ position_or_len (is_row index number) items) (sym added) is,
      omega (arith, c.push.new.self.ok.0, ap length added, length-append rows.items (row ∷ []), most, c.found-place.ensures),
    )
