-- What stays of a live task through each of its changes.
use Rattle.std.proofs.Common.{◌≡◌, ℕ, zero, suc, ◌+◌, ◌-◌, List, [], ◌∷◌, ◌++◌, length, get_or, set, Option, None, Some, refl, sym, ap, ◌∙◌, length-set, length-append}
use Rattle.std.specs.Prelude.{IfSome}
use Rattle.task_ids.specs.Limits.{IsNode}
use Rattle.task_events.specs.declared.reply.Reply.{Reply}
use Rattle.task_work.specs.declared.work.Work.{Work}
use Rattle.node_link.specs.declared.body.Place.{Place}
use Rattle.live_tasks.specs.declared.entry.Entry.{Entry}
use Rattle.live_tasks.specs.Entries.{passed, closed, after_ask, after_answer, with_work}
use Rattle.live_tasks.proofs.Belonging.{Remains}

on_append : (P : Option ℕ → Type 0) (asks : List (Option ℕ)) (x : Option ℕ) → P x → P None → ((i : ℕ) → P (get_or asks i None)) → (i : ℕ) → P (get_or (asks ++ x ∷ []) i None)
on_append P [] x this none h zero = this
on_append P [] x this none h (suc i) = none
on_append P (a ∷ asks) x this none h zero = h zero
on_append P (a ∷ asks) x this none h (suc i) = on_append P asks x this none (λ j. h (suc j)) i

on_set : (P : Option ℕ → Type 0) (asks : List (Option ℕ)) (k : ℕ) → P None → ((i : ℕ) → P (get_or asks i None)) → (i : ℕ) → P (get_or (set asks k None) i None)
on_set P [] k none h i = h i
on_set P (a ∷ asks) zero none h zero = none
on_set P (a ∷ asks) zero none h (suc i) = h (suc i)
on_set P (a ∷ asks) (suc k) none h zero = h zero
on_set P (a ∷ asks) (suc k) none h (suc i) = on_set P asks k none (λ j. h (suc j)) i

pub same_remains : (e : Entry) → Remains e e
same_remains e = record { ticket = refl; task = refl; place = refl; placed = λ p. p; on_nodes = λ o. o }

pub passed_remains : (e : Entry) → Remains e (passed e)
passed_remains e = record { ticket = refl; task = refl; place = refl; placed = λ p. p; on_nodes = λ o. o }

pub closed_remains : (e : Entry) (cancel : ℕ) → Remains e (closed e cancel)
closed_remains e cancel = record { ticket = refl; task = refl; place = refl; placed = λ p. p; on_nodes = λ o. o }

pub worked_remains : (e : Entry) (work : Work) → Remains e (with_work e work)
worked_remains e work = record { ticket = refl; task = refl; place = refl; placed = λ p. p; on_nodes = λ o. o }

one_more : {A B : Type 0} (xs : List A) (ys : List B) (x : A) (y : B) → length xs ≡ length ys → length (xs ++ x ∷ []) ≡ length (ys ++ y ∷ [])
one_more xs ys x y same = length-append xs (x ∷ []) ∙ ap (λ n. n + 1) same ∙ sym (length-append ys (y ∷ []))

pub asked_remains : (e : Entry) (to : ℕ) (place : Place) → IsNode to → Remains e (after_ask e to place)
asked_remains e to place node = record {
  ticket = refl;
  task = refl;
  place = refl;
  placed = λ p. one_more e.asked e.running.track.asks place (Some to) p;
  on_nodes = λ o i. on_append (λ a. IfSome a IsNode) e.running.track.asks (Some to) node tt o i;
}

pub answered_remains : (e : Entry) (ask : ℕ) (reply : Reply) (now : ℕ) → Remains e (after_answer e ask reply now)
answered_remains e ask reply now = record {
  ticket = refl;
  task = refl;
  place = refl;
  placed = λ p. p ∙ sym (length-set e.running.track.asks (ask - 1) None);
  on_nodes = λ o i. on_set (λ a. IfSome a IsNode) e.running.track.asks (ask - 1) tt o i;
}
