-- What stands in a whole run for the line of a cancel.
use Rattle.std.proofs.Common.{◌≡◌, ◌⊎◌, ℕ, Bool, true, false, ◌||◌, List, [], ◌∷◌, ◌++◌, reverse, Option, Some, None, inl, inr, refl, sym, ap, subst, ◌∙◌, arith, append_assoc, append-nil}
use Rattle.std.specs.Prelude.{◌==◌, is_some, filter_map, if◌then◌else◌}
use Rattle.std.specs.List.{list_any, list_all}
use Rattle.std.proofs.lemmas.List.{reverse-append}
use Rattle.std.proofs.lemmas.List.Elements.{filter_map-append}
use Rattle.std.proofs.lemmas.List.Folds.{list_any-append}
use Rattle.search_phase.proofs.Sorting.{by_test}
use Rattle.task_ids.specs.declared.cluster.Cluster.{Cluster}
use Rattle.task_ids.specs.declared.corpus.Corpus.{Corpus}
use Rattle.task_ids.specs.declared.task_id.TaskId.{TaskId}
use Rattle.task_ids.specs.declared.text.Text.{Text}
use Rattle.task_events.specs.declared.event.Event.{Event}
use Rattle.task_events.specs.declared.event.Event.TheVariants.{Begin, Cancel, NotFound, Mark, AnswerPlaced, AnswerDone}
use Rattle.task_events.specs.Bans.{mark_of}
use Rattle.task_events.specs.Cancels.{is_named}
use Rattle.task_events.specs.Tasks.{is_live}
use Rattle.task_events.specs.Turns.{events_of}
use Rattle.task_laws.proofs.Same.{same_tests}
use Rattle.script_lang.specs.declared.command.CancelTarget.{CancelTarget}
use Rattle.script_lang.specs.declared.command.CancelTarget.TheVariants.{Task, Matching, Command as Of}
use Rattle.script_lang.specs.declared.command.Command.TheVariants as commands
use Rattle.script_lang.specs.declared.command.Script.{Script}
use Rattle.command_roots.specs.Roots.{root_of}
use Rattle.world_moves.specs.Cancels.{AllAnswered, after_cancel_of, after_naming, answer_by, is_answered, is_due, is_through, target_of, targets, tasks_named, with_answer, with_cancel, with_cancels}
use Rattle.line_print.specs.Lines.{named_in, finds_none}
use Rattle.task_top.specs.EachLine.{TellsCancel, HasNamed, HasNamedOne}
use Rattle.task_top.proofs.TurnEvents.{HasDone, told_as}

-- ---- the events with which tasks are named

-- after some events, in which these tasks were named and it was not told that there is none
record Names (ts : List TaskId) (h new : List Event) : Type 0 where
  events : List Event
  stands : new ≡ events ++ h
  named : filter_map named_in (reverse events) ≡ ts
  found : list_any finds_none (reverse events) ≡ false

-- some, and then others
both_named : (ts us : List TaskId) (h between new : List Event) → Names ts h between → Names us between new → Names (ts ++ us) h new
both_named ts us h between new first last = record {
  events = last.events ++ first.events;
  stands = last.stands ∙ ap (λ l. last.events ++ l) first.stands ∙ sym (append_assoc last.events first.events h);
  named = ap (filter_map named_in) (reverse-append last.events first.events) ∙ filter_map-append named_in (reverse first.events) (reverse last.events) ∙ (λ i. first.named i ++ last.named i);
  found = ap (list_any finds_none) (reverse-append last.events first.events) ∙ list_any-append finds_none (reverse first.events) (reverse last.events) ∙ (λ i. first.found i || last.found i);
}

module _ (c : ℕ) (wait : Bool) where
  one_named : (t : TaskId) (h : List Event) → Names (t ∷ []) h (with_cancel c t wait h)
  one_named t h = by_mark (is_some (mark_of t h))
    where
      by_mark : (b : Bool) → Names (t ∷ []) h (if b then Cancel c t wait ∷ h else Mark t c ∷ Cancel c t wait ∷ h)
      by_mark true = record { events = Cancel c t wait ∷ []; stands = refl; named = refl; found = refl }
      by_mark false = record { events = Mark t c ∷ Cancel c t wait ∷ []; stands = refl; named = refl; found = refl }

  all_named : (ts : List TaskId) (h : List Event) → Names ts h (with_cancels c wait ts h)
  all_named [] h = record { events = []; stands = refl; named = refl; found = refl }
  all_named (t ∷ ts) h = both_named (t ∷ []) ts h (with_cancel c t wait h) _ (one_named t h) (all_named ts (with_cancel c t wait h))

  -- an answer names none
  none_named : (h : List Event) → Names [] h (with_answer c wait h)
  none_named h = by_due (is_due h c) wait
    where
      by_due : (due b : Bool) → Names [] h (if due then answer_by b c ∷ h else h)
      by_due true true = record { events = AnswerDone c ∷ []; stands = refl; named = refl; found = refl }
      by_due true false = record { events = AnswerPlaced c ∷ []; stands = refl; named = refl; found = refl }
      by_due false b = record { events = []; stands = refl; named = refl; found = refl }

  named_after : (ts : List TaskId) (h : List Event) → Names ts h (after_naming c wait ts h)
  named_after ts h =
      subst (λ us. Names us h (after_naming c wait ts h)) (append-nil ts)
      (both_named ts [] h (with_cancels c wait ts h) _ (all_named ts h) (none_named (with_cancels c wait ts h)))

-- ---- its answer

module _ (c : ℕ) where
  -- what was named stays so, and what was answered
  still_named : (t : TaskId) (xs h : List Event) → is_named c t h ≡ true → is_named c t (xs ++ h) ≡ true
  still_named t [] h n = n
  still_named t (Cancel d u wait ∷ xs) h n = grind (arith, same_tests, still_named t xs h n)
  still_named t (_ ∷ xs) h n = still_named t xs h n

  still_answered : (xs h : List Event) → is_answered c h ≡ true → is_answered c (xs ++ h) ≡ true
  still_answered [] h a = a
  still_answered (AnswerPlaced d ∷ xs) h a = grind (arith, still_answered xs h a)
  still_answered (AnswerDone d ∷ xs) h a = grind (arith, still_answered xs h a)
  still_answered (_ ∷ xs) h a = still_answered xs h a

  answered_now : (wait : Bool) (h : List Event) → is_answered c (answer_by wait c ∷ h) ≡ true
  answered_now true h = grind arith
  answered_now false h = grind arith

  -- it named none, or one
  some_named : (h : List Event) → (tasks_named c h ≡ []) ⊎ ((t : TaskId) × (is_named c t h ≡ true))
  some_named [] = inl refl
  some_named (Cancel d u wait ∷ h) =
      by_test (c == d) (λ yes. inr (u, grind (arith, same_tests)))
      (λ other. by_rest other (some_named h))
    where
      by_rest : (c == d) ≡ false → (tasks_named c h ≡ []) ⊎ ((t : TaskId) × (is_named c t h ≡ true)) → (tasks_named c (Cancel d u wait ∷ h) ≡ []) ⊎ ((t : TaskId) × (is_named c t (Cancel d u wait ∷ h) ≡ true))
      by_rest other (inl none) = inl (rw other none)
      by_rest other (inr (t, named)) = inr (t, still_named t (Cancel d u wait ∷ []) h named)
  some_named (_ ∷ h) = some_named h

  module _ (wait : Bool) (h later : List Event) where
    by_due : (due : Bool) → is_due h c ≡ due → AllAnswered (later ++ (if due then answer_by wait c ∷ h else h)) → is_answered c (later ++ (if due then answer_by wait c ∷ h else h)) ≡ true
    by_due true is answered = still_answered later (answer_by wait c ∷ h) (answered_now wait h)
    by_due false is answered = by_names (some_named h)
      where
        by_names : (tasks_named c h ≡ []) ⊎ ((t : TaskId) × (is_named c t h ≡ true)) → is_answered c (later ++ h) ≡ true
        by_names (inl none) = absurd (let due : is_due h c ≡ true = ap (list_all (is_through h c)) none in cc)
        by_names (inr (t, named)) = answered c t (still_named t later h named)

    -- At the end of a run it has its answer: at once, where it was due, and else since it named a task.
    has_answer : AllAnswered (later ++ with_answer c wait h) → is_answered c (later ++ with_answer c wait h) ≡ true
    has_answer = by_due (is_due h c) refl

-- ---- its line

module _ (cluster : Cluster) (corpus : Corpus) (script : Script) (h : List Event) (answered : AllAnswered h) (k : ℕ) (reason : Text) (wait : Bool) where
  module _ (target : CancelTarget) (done : HasDone cluster corpus script k (commands.Cancel target reason wait) h) where
    abbrev began : List Event
    began = Begin k ∷ done.before

    missing : done.after ≡ NotFound k ∷ began → events_of k h ≡ NotFound k ∷ []
    missing same = told_as cluster corpus script k _ h done (NotFound k ∷ []) same

    has_named : (ts : List TaskId) → done.after ≡ after_naming k wait ts began → HasNamed k ts h
    has_named ts same =
        let names = named_after k wait ts began in
        let whole : h ≡ done.later ++ after_naming k wait ts began = done.stands ∙ ap (λ l. done.later ++ l) same in
        let told : events_of k h ≡ reverse names.events = told_as cluster corpus script k _ h done names.events (same ∙ names.stands) in
        record {
          named = ap (filter_map named_in) told ∙ names.named;
          found = ap (list_any finds_none) told ∙ names.found;
          answered = subst (λ g. is_answered k g ≡ true) (sym whole) (has_answer k wait (with_cancels k wait ts began) done.later (subst AllAnswered whole answered));
        }

    one_told : (o : Option TaskId) → target_of target began ≡ o → done.after ≡ after_cancel_of k wait o began → (events_of k h ≡ NotFound k ∷ []) ⊎ HasNamedOne k target h
    one_told None found same = inl (missing same)
    one_told (Some t) found same = by_live (is_live t began) same
      where
        by_live : (b : Bool) → done.after ≡ (if b then after_naming k wait (t ∷ []) began else NotFound k ∷ began) → (events_of k h ≡ NotFound k ∷ []) ⊎ HasNamedOne k target h
        by_live true named = inr (t, ap (λ past. target_of target (Begin k ∷ past)) done.past ∙ found, has_named (t ∷ []) named)
        by_live false none = inl (missing none)

  pub cancel_told : (target : CancelTarget) → HasDone cluster corpus script k (commands.Cancel target reason wait) h → TellsCancel cluster script target k h
  cancel_told (Matching wanted) done =
      subst (λ past. HasNamed k (targets cluster script wanted (Begin k ∷ past)) h) (sym done.past)
      (has_named (Matching wanted) done (targets cluster script wanted (Begin k ∷ done.before)) done.does)
  cancel_told (Task t) done = one_told (Task t) done (Some t) refl done.does
  cancel_told (Of c) done = one_told (Of c) done (root_of c (Begin k ∷ done.before)) refl done.does
