-- A page takes its context, where that may be used, and gives it back.
use Rattle.std.proofs.Common.{◌≡◌, ◌↔◌, ℕ, Bool, true, false, cond, Option, None, Some, Result, Ok, Err, refl, sym, ap, subst, ◌∙◌}
use Rattle.std.specs.Prelude.{IsSome, IsSomeAnd, OnErr, is_ok}
use Rattle.std.specs.FinMap.{get, insert, get-insert}
use Rattle.std.specs.Cmp.{eq_by_cmp_equiv}
use Rattle.scroll_table.specs.declared.context.PageError.{PageError}
use Rattle.scroll_table.specs.Contexts.{answer_for}
use Rattle.task_events.specs.Contexts.{given_back, with_use}
use Rattle.task_events.specs.declared.context.Context.{Context}
use Rattle.task_events.specs.declared.request.HitKey.{HitKey}
use Rattle.task_events.specs.declared.request.ScrollAsk.{ScrollAsk}
use Rattle.task_ids.proofs.TaskIdKeys.{ids_total}
use Rattle.task_ids.specs.declared.task_id.TaskId.{TaskId}
use Rattle.run_book.specs.Contexts.{Table, turned_by}

abbrev Done : Type 0
Done = Result (Unit {0}) PageError

abbrev Refuses : Done → Result Context PageError → Type 0
Refuses r a = (e : PageError) → (r ≡ Err e) ↔ (a ≡ Err e)

usable : (r : Done) (a : Result Context PageError) → Refuses r a → is_ok r ≡ true → (c : Context) × (a ≡ Ok c)
usable r (Ok c) refused is = (c, refl)
usable r (Err e) refused is =
    let failed : r ≡ Err e = (refused e).1 refl in
    absurd (let wrong : false ≡ true = rw failed at is in cc)

unusable : (r : Done) (a : Result Context PageError) → Refuses r a → is_ok r ≡ false → (e : PageError) × (r ≡ Err e) × (a ≡ Err e)
unusable (Ok u) a refused is = absurd (cc)
unusable (Err e) a refused is = (e, refl, (refused e).0 refl)

-- what was put at an id stands there
put_at : (m : Table) (id : TaskId) (c : Context) → get (insert m id c) id ≡ Some c
put_at m id c = get-insert ids_total m id c id ∙ ap (λ (b : Bool). cond b (Some c) (get m id)) ((eq_by_cmp_equiv ids_total).refl id)

module _ (m after : Table) (ask : ScrollAsk) (now : ℕ) (r : Done) (refused : Refuses r (answer_for None now (get m ask.id))) (used : (c : Context) → answer_for None now (get m ask.id) ≡ Ok c → after ≡ insert m ask.id (with_use now ask.keep ask.id c)) where
  taken : (c : Context) → answer_for None now (get m ask.id) ≡ Ok c → get after ask.id ≡ Some (with_use now ask.keep ask.id c)
  taken c may = ap (λ (t : Table). get t ask.id) (used c may) ∙ put_at m ask.id (with_use now ask.keep ask.id c)

  pub is_busy : is_ok r ≡ true → IsSomeAnd (get after ask.id) (λ c. IsSome c.busy)
  is_busy is =
      let may = usable r (answer_for None now (get m ask.id)) refused is in
      rw (taken may.0 may.1) refl

  pub turns : (last : Table) (cursor : Option HitKey) → is_ok r ≡ true → ((c : Context) → get after ask.id ≡ Some c → last ≡ insert after ask.id (given_back cursor now c)) → last ≡ turned_by (answer_for None now (get m ask.id)) m ask cursor now
  turns last cursor is given =
      let may = usable r (answer_for None now (get m ask.id)) refused is in
      let back = given (with_use now ask.keep ask.id may.0) (taken may.0 may.1) in
      back ∙ ap (λ (t : Table). insert t ask.id (given_back cursor now (with_use now ask.keep ask.id may.0))) (used may.0 may.1) ∙ sym (ap (λ (a : Result Context PageError). turned_by a m ask cursor now) may.1)

  pub stays : (cursor : Option HitKey) → is_ok r ≡ false → OnErr r (after ≡ m) → after ≡ turned_by (answer_for None now (get m ask.id)) m ask cursor now
  stays cursor is same =
      let refused_it = unusable r (answer_for None now (get m ask.id)) refused is in
      let kept : after ≡ m = subst (λ (q : Done). OnErr q (after ≡ m)) refused_it.1 same in
      kept ∙ sym (ap (λ (a : Result Context PageError). turned_by a m ask cursor now) refused_it.2)
