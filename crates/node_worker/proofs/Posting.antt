-- One act more has its letter, or has none; and one control worker more is told.
use Rattle.std.proofs.Common.{◌≡◌, ℕ, ◌+◌, List, [], ◌∷◌, ◌++◌, filter_map, Option, Some, None, sym, ap, ◌∙◌, append-nil, add-one, true}
use Rattle.std.specs.List.{cons_option}
use Rattle.std.proofs.lemmas.List.Elements.{filter_map-append}
use Rattle.task_ids.proofs.SameId.{same_id-from_test}
use Rattle.task_ids.specs.declared.task_id.TaskId.{TaskId}
use Rattle.node_link.specs.declared.body.Body.{Body}
use Rattle.node_link.specs.declared.body.Body.TheVariants as says
use Rattle.run_facts.specs.Inboxes.{control_of}
use Rattle.node_worker.specs.declared.post.Post.{Post}
use Rattle.node_worker.specs.ControlPosts.{is_own, left_posts}

module _ {X Y : Type 0} (h : X → Option Y) (xs : List X) (x : X) where
  pub post_more : (before after : List Y) (y : Y) → before ≡ filter_map h xs → after ≡ before ++ y ∷ [] → Some y ≡ h x → after ≡ filter_map h (xs ++ x ∷ [])
  post_more before after y so_far put is = put ∙ ap (λ (l : List Y). l ++ y ∷ []) so_far ∙ sym (filter_map-append h xs (x ∷ []) ∙ ap (λ (o : Option Y). filter_map h xs ++ cons_option o []) (sym is))

  pub post_none : (before after : List Y) → before ≡ filter_map h xs → None ≡ h x → after ≡ before → after ≡ filter_map h (xs ++ x ∷ [])
  post_none before after so_far is same = same ∙ so_far ∙ sym (filter_map-append h xs (x ∷ []) ∙ ap (λ (o : Option Y). filter_map h xs ++ cons_option o []) (sym is) ∙ append-nil (filter_map h xs))

-- a receipt of the task names it
pub own_task : (own : Option TaskId) (task : TaskId) → is_own own task ≡ true → own ≡ Some task
own_task None task is = absurd (cc)
own_task (Some own) task is = ap Some (same_id-from_test own task is)

pub left_more : (workers node n : ℕ) (before after : List (Post Body)) (letter : Body) → before ≡ left_posts workers node n → after ≡ before ++ record { to = control_of workers (n + 1); letter = letter } ∷ [] → letter ≡ says.ControlLeft node → after ≡ left_posts workers node (n + 1)
left_more workers node n before after letter so_far put is =
    put ∙ ap (λ (l : List (Post Body)). l ++ record { to = control_of workers (n + 1); letter = letter } ∷ []) so_far
    ∙ (λ i. left_posts workers node n ++ record { to = control_of workers (add-one n i); letter = is i } ∷ []) ∙ sym (ap (left_posts workers node) (add-one n))
