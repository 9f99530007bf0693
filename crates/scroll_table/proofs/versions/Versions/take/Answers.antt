use Rattle.std.proofs.Common.{◌≡◌, false, cond, Some, sym, ap, ◌∙◌}
use Rattle.std.specs.Option.{option_copied_mut}
use Rattle.std.specs.BTreeMap.{is_at}
use Rattle.std.specs.HashMap.{get_by_text}
use Rattle.std.proofs.lemmas.Map.Text.{hash_map_updates_text}
use Rattle.scroll_table.specs.declared.versions.Versions.{Versions}
use Rattle.scroll_table.specs.Versions.{kept_cmp, has_kept}
use Rattle.scroll_table.proofs.Versioned.{row_written, some_of}
use Rattle.scroll_table.proofs.versions.Versions.take.Goals as goal

pub returns-in-Some : goal.returns-in-Some
returns-in-Some c =
    let old = c.args.self.now in
    let index = c.args.index.now in
    let rows = c.in-Some.rows.now in
    let more = c.take_from.new.rows in
    let new : Versions = record { alloc = old.alloc; by_index = c.get_mut.follows.lender more } in
    let read : get_by_text old.by_index index ≡ Some rows = sym c.get_mut.ensures.value ∙ ap option_copied_mut c.in-Some.is in
    let updates = hash_map_updates_text index old.by_index (c.get_mut.follows.lender more) (Some more) ((c.get_mut.follows.holds more).3 (some_of (get_by_text old.by_index index) rows read)) in
    row_written old new index more updates c.args.kept.now false (λ k. c.take_from.ensures k ∙ ap (cond (is_at (kept_cmp c.args.kept.now) k) false) (sym (ap (λ o. has_kept o k) read)))
