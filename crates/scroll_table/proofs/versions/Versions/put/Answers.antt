use Rattle.std.proofs.Common.{◌≡◌, ℕ, List, true, false, cond, Some, None, string_bytes, sym, ap, subst, ◌∙◌}
use Rattle.std.specs.Option.{option_copied_mut}
use Rattle.std.specs.List.{list_any}
use Rattle.std.specs.BTreeMap.{is_at}
use Rattle.std.specs.BTreeSet.{contains}
use Rattle.std.specs.HashMap.{get_by_text}
use Rattle.std.specs.Str.{bytes_eq}
use Rattle.std.proofs.lemmas.Map.Text.{hash_map_updates_text}
use Rattle.std.proofs.lemmas.Result.{on_ok_weaker, on_err_weaker}
use Rattle.scroll_table.specs.declared.versions.Kept.{Kept}
use Rattle.scroll_table.specs.declared.versions.Versions.{Versions}
use Rattle.scroll_table.specs.Versions.{kept_cmp, has_kept, keeps, is_row}
use Rattle.scroll_table.proofs.Versioned.{row_written, rows_same, some_of}
use Rattle.scroll_table.proofs.versions.Versions.put.Goals as goal

pub returns-in-Some-clause-ok : goal.returns-in-Some-clause-ok
returns-in-Some-clause-ok c =
    let old = c.args.self.now in
    let index = c.args.index.now in
    let rows = c.in-Some.rows.now in
    let more = c.put_in.new.rows in
    let new : Versions = record { alloc = old.alloc; by_index = c.get_mut.follows.lender more } in
    let read : get_by_text old.by_index index ≡ Some rows = sym c.get_mut.ensures.value ∙ ap option_copied_mut c.in-Some.is in
    let updates = hash_map_updates_text index old.by_index (c.get_mut.follows.lender more) (Some more) ((c.get_mut.follows.holds more).3 (some_of (get_by_text old.by_index index) rows read)) in
    on_ok_weaker c.put_in.result
    (λ (ok : (k : Kept) → contains kept_cmp more k ≡ cond (is_at (kept_cmp c.args.kept) k) true (contains kept_cmp rows k)).
    row_written old new index more updates c.args.kept true (λ k. ok k ∙ ap (cond (is_at (kept_cmp c.args.kept) k) true) (sym (ap (λ o. has_kept o k) read))))
    c.put_in.ensures.ok

pub returns-in-Some-clause-err : goal.returns-in-Some-clause-err
returns-in-Some-clause-err c =
    let old = c.args.self.now in
    let index = c.args.index.now in
    let rows = c.in-Some.rows.now in
    let more = c.put_in.new.rows in
    let new : Versions = record { alloc = old.alloc; by_index = c.get_mut.follows.lender more } in
    let read : get_by_text old.by_index index ≡ Some rows = sym c.get_mut.ensures.value ∙ ap option_copied_mut c.in-Some.is in
    let updates = hash_map_updates_text index old.by_index (c.get_mut.follows.lender more) (Some more) ((c.get_mut.follows.holds more).3 (some_of (get_by_text old.by_index index) rows read)) in
    on_err_weaker c.put_in.result (λ (same : (k : Kept) → contains kept_cmp more k ≡ contains kept_cmp rows k). rows_same old new index more updates (λ k. same k ∙ sym (ap (λ o. has_kept o k) read)))
    c.put_in.ensures.err

pub returns-clause-ok : goal.returns-clause-ok
returns-clause-ok c =
    let was = c.get_mut.follows.lender-at-none in
    let stays : was ≡ c.args.self.now.by_index = c.get_mut.follows.holds-at-none in
    let index = c.args.index.now in
    let kept = c.args.kept in
    let old : Versions = record c.args.self.now { by_index = was } in
    let new : Versions = record c.args.self.now { by_index = c.insert.new.self } in
    let none : get_by_text was index ≡ None = subst (λ m. get_by_text m index ≡ None) (sym stays) (sym c.get_mut.ensures.value ∙ ap option_copied_mut c.in_default.is) in
    let more = c.put_in-2.new.rows in
    let empty : (k : Kept) → contains kept_cmp c.new-rows.result k ≡ false = λ k. ap (list_any (is_at (kept_cmp k))) c.new-rows.ensures.empty in
    let updates = subst (λ (i : List ℕ). (q : List ℕ) → get_by_text c.insert.new.self q ≡ cond (bytes_eq i q) (Some more) (get_by_text was q)) c.in_ok-from_str.ensures.ok
    (hash_map_updates_text (string_bytes c.in_ok-from_str.field-0) was c.insert.new.self (Some more) c.in_ok-insert.ensures.updates) in
    subst (λ m. (i : List ℕ) (k : Kept) → keeps new i k ≡ cond (is_row index kept i k) true (has_kept (get_by_text m i) k)) stays
    (row_written old new index more updates kept true (λ k. c.in_ok-put_in.ensures.ok k ∙ ap (cond (is_at (kept_cmp kept) k) true) (empty k ∙ sym (ap (λ o. has_kept o k) none))))
