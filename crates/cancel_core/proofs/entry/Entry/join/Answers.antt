use Rattle.std.proofs.Common.{◌≡◌, Bool, true, false, not, ◌&&◌, List, nat_lt, filter, sym, ap, ◌∙◌, Ok, Err}
use Rattle.std.specs.Prelude.{Result, OnOk, OnErr}
use Rattle.std.specs.List.{position_or_len}
use Rattle.cancel_core.specs.declared.act.Waiter.{Waiter}
use Rattle.cancel_core.specs.Cancellation.{is_placed}
use Rattle.cancel_core.proofs.Placed.{late_noted}
use Rattle.cancel_core.proofs.entry.Entry.join.Goals as goal

either : {T E : Type 0} (r : Result T E) (A B P : Type 0) → OnOk r A → OnErr r B → (A → P) → (B → P) → P
either (Ok x) A B P a b f g = f a
either (Err x) A B P a b f g = g b

late : (placed wait : Bool) → (placed && not wait) ≡ false → placed ≡ true → not wait ≡ false
late true wait e p = e
late false wait e p = absurd (cc)

pub invariant_of-self : goal.invariant_of-self
invariant_of-self c = (
  c.note.ensures.ascending,
  (λ placed.
      let now = ap is_placed (sym c.self.view_is) ∙ placed in
      let waits = late (is_placed c.args.self.now) c.args.waiter.wait (sym c.answers_at_once.ensures ∙ c.if-answers_at_once.false) now in
      let before = c.self.invariant.1 placed in
      either c.note.result _ _ _ c.note.ensures.noted c.note.ensures.err
      (λ noted. ap (λ (ws : List Waiter). filter (λ w. not w.wait) ws) noted ∙ late_noted c.self.inside.waiters.items (position_or_len (λ v. nat_lt c.args.waiter.cancel v.cancel) c.self.inside.waiters.items) c.args.waiter waits ∙ before)
      (λ same. ap (λ (ws : List Waiter). filter (λ w. not w.wait) ws) same ∙ before)),
)
