-- How the replies of tasks are found by the places of the events with which they ended.
use Rattle.std.proofs.Common.{◌≡◌, ℕ, ◌+◌, ◌<◌, Bool, true, false, cond, ◌&&◌, ◌==◌, List, [], ◌∷◌, ◌++◌, reverse, take, length, slice_get, Option, Some, None, option_map, option_and_then, refl, sym, ap, ◌∙◌}
use Rattle.std.specs.Cmp.{nat_eq_equiv}
use Rattle.std.proofs.lemmas.List.{reverse-append, take_more}
use Rattle.std.proofs.lemmas.Option.{get_or_from_slice_get, slice_get_within}
use Rattle.task_ids.specs.declared.task_id.TaskId.{TaskId}
use Rattle.task_events.specs.declared.event.Event.{Event}
use Rattle.task_events.specs.declared.event.Event.TheVariants.{Refuse, End}
use Rattle.task_events.specs.declared.reply.Reply.{Reply}
use Rattle.task_events.specs.declared.reply.Reply.TheVariants.{Cancelled}
use Rattle.task_events.specs.Same.{same_task}
use Rattle.task_events.specs.Tasks.{no_counts, reply_of}
use Rattle.line_print.specs.Lines.{ending}
use Rattle.line_print.specs.Ends.{same_id, reply_at}

same_flip : (t u : TaskId) → same_task t u ≡ same_id u t
unfolding same_task
same_flip t u = ap (λ b. b && (t.number == u.number)) (nat_eq_equiv.symm t.node u.node) ∙ ap (λ b. (u.node == t.node) && b) (nat_eq_equiv.symm t.number u.number)

-- the reply of a task after one more event
abbrev newer : Option (TaskId × Reply) → TaskId → Option Reply → Option Reply
newer None t old = old
newer (Some end) t old = cond (same_id end.0 t) (Some end.1) old

reply_newer : (e : Event) (t : TaskId) (h : List Event) → reply_of t (e ∷ h) ≡ newer (ending e) t (reply_of t h)
reply_newer (Refuse u c) t h = ap (λ b. cond b (Some (Cancelled u c no_counts)) (reply_of t h)) (same_flip t u)
reply_newer (End u r) t h = ap (λ b. cond b (Some r) (reply_of t h)) (same_flip t u)
reply_newer _ t h = refl

one_more : (es : List Event) (at : ℕ) (e : Event) → at < length es → slice_get es at ≡ Some e → reverse (take (at + 1) es) ≡ e ∷ reverse (take at es)
one_more es at e h s =
    ap reverse (take_more es at e h ∙ ap (λ x. take at es ++ x ∷ []) (get_or_from_slice_get es at e e s)) ∙ reverse-append (take at es) (e ∷ [])

reply_more : (es : List Event) (at : ℕ) (e : Event) (t : TaskId) → at < length es → slice_get es at ≡ Some e → reply_of t (reverse (take (at + 1) es)) ≡ newer (ending e) t (reply_of t (reverse (take at es)))
reply_more es at e t h s = ap (reply_of t) (one_more es at e h s) ∙ reply_newer e t (reverse (take at es))

picked : (b : Bool) (es : List Event) (at : ℕ) (old : Option ℕ) (reply : Reply) → reply_at es (Some at) ≡ Some reply → reply_at es (cond b (Some at) old) ≡ cond b (Some reply) (reply_at es old)
picked true es at old reply h = h
picked false es at old reply h = refl

taken : (t u : TaskId) → Some t ≡ Some u → t ≡ u
taken t u h = cc

-- an event with which a task ends
put_end : (es : List Event) (at : ℕ) (t task : TaskId) (old new : Option ℕ) (end : Option (TaskId × Reply)) → Some task ≡ option_map (λ e. e.0) end → option_map (λ e. e.1) end ≡ reply_at es (Some at) → new ≡ cond (same_id task t) (Some at) old
    → reply_at es new ≡ newer end t (reply_at es old)
put_end es at t task old new None h s n = cc
put_end es at t task old new (Some end) h s n = ap (reply_at es) n ∙ picked (same_id task t) es at old end.1 (sym s) ∙ ap (λ u. cond (same_id u t) (Some end.1) (reply_at es old)) (taken task end.0 h)

-- an event with which none does
no_end : (t : TaskId) (end : Option (TaskId × Reply)) (old : Option Reply) → None ≡ option_map (λ e. e.0) end → old ≡ newer end t old
no_end t None old h = refl
no_end t (Some end) old h = cc

-- the place of one more event, with which a task ends
pub ended_more : (es : List Event) (at : ℕ) (e : Event) (t task : TaskId) (old new : Option ℕ) → slice_get es at ≡ Some e → Some task ≡ option_map (λ end. end.0) (ending e) → new ≡ cond (same_id task t) (Some at) old
    → reply_at es old ≡ reply_of t (reverse (take at es)) → reply_at es new ≡ reply_of t (reverse (take (at + 1) es))
ended_more es at e t task old new s ends puts so_far =
    put_end es at t task old new (ending e) ends (sym (ap (λ o. option_map (λ end. end.1) (option_and_then ending o)) s)) puts
    ∙ ap (newer (ending e) t) so_far ∙ sym (reply_more es at e t (slice_get_within es at e s) s)

-- one more event, with which none does
pub not_ended_more : (es : List Event) (at : ℕ) (e : Event) (t : TaskId) (old : Option ℕ) → slice_get es at ≡ Some e → None ≡ option_map (λ end. end.0) (ending e)
    → reply_at es old ≡ reply_of t (reverse (take at es)) → reply_at es old ≡ reply_of t (reverse (take (at + 1) es))
not_ended_more es at e t old s ends so_far =
    so_far ∙ no_end t (ending e) (reply_of t (reverse (take at es))) ends ∙ sym (reply_more es at e t (slice_get_within es at e s) s)
