-- A command that is as far as it can be stays so by each letter, and is so as it begins.
use Rattle.std.proofs.Common.{◌≡◌, ◌⊎◌, inl, inr, ℕ, ◌+◌, ◌-◌, Bool, true, false, not, List, [], ◌∷◌, ◌++◌, length, Option, None, Some, refl, sym, ap, subst, ◌∙◌, arith, length-append}
use Rattle.std.specs.Prelude.{IsSomeAnd, IfSome, is_some, option_map, slice_get, ◌==◌, ◌&&◌, ◌||◌}
use Rattle.std.specs.Option.{option_eq}
use Rattle.std.proofs.lemmas.Bool.{and_parts, cases_Bool}
use Rattle.child_track.specs.Token.{ReceiptParts}
use Rattle.command_roots.specs.Roots.{search_of}
use Rattle.node_link.specs.Lawful.{IsLawfulRootAnswer}
use Rattle.node_link.specs.declared.body.RootAnswered.{RootAnswered}
use Rattle.reply_facts.specs.Letters.{IsAnswerAt}
use Rattle.reply_facts.specs.Settings.{Setting, sought_by}
use Rattle.script_lang.specs.declared.command.Command.{Command}
use Rattle.task_ids.specs.declared.task_id.TaskId.{TaskId}
use Rattle.task_ids.specs.declared.task_info.TaskInfo.{TaskInfo}
use Rattle.task_ids.proofs.SameId.{same_id-from_test}
use Rattle.run_book.specs.declared.entry.Naming.{Naming}
use Rattle.run_book.specs.declared.entry.State.{State}
use Rattle.run_book.specs.declared.entry.State.TheVariants as states
use Rattle.run_book.specs.declared.entry.Waits.TheVariants as waits
use Rattle.data_pool.specs.Gathered as gather
use Rattle.data_pool.specs.Gathered.{Gathered}
use Rattle.run_book.specs.Told.{all_told, is_whole}
use Rattle.run_book.specs.Notes.{HasCancelled, IsLast, IsReceiptOf, cancel_in, names_one}
use Rattle.run_book.specs.Answering as answers
use Rattle.run_book.specs.Answering.{IsToState, is_receipt_of, is_settled, list_by, same_bool, same_id, settled, shows_last, with_done, with_named, with_rows, without_answer}
use Rattle.run_book.specs.Contexts.{MayOpen, opening}
use Rattle.run_book.specs.Entries.{IsState}
use Rattle.run_book.proofs.Places.{at_end, length_kept}
use Rattle.run_book.proofs.Shown.{listed_shows}
use Rattle.run_book.proofs.Shows.{may_open, task_note}

pub some_and : {T : Type 0} (o : Option T) (P Q : T → Type 0) → ((x : T) → P x → Q x) → IsSomeAnd o P → IsSomeAnd o Q
some_and None P Q f p = p
some_and (Some x) P Q f p = f x p

same_bool_is : (a b : Bool) → same_bool a b ≡ true → a ≡ b
same_bool_is true b e = sym e
same_bool_is false true e = absurd (cc)
same_bool_is false false e = refl

-- ---- receipts

own_task : (task : Option TaskId) (last : TaskId) → option_eq same_id task (Some last) ≡ true → task ≡ Some last
own_task None last e = absurd (cc)
own_task (Some task) last e = ap Some (same_id-from_test task last e)

receipt_is : (receipt : Option ReceiptParts) (last : TaskId) → is_receipt_of last receipt ≡ true → IsReceiptOf last receipt
receipt_is None last e = absurd (cc)
receipt_is (Some receipt) last e = own_task receipt.task last e

-- the last of some tasks stands at their end
last_at : (tasks before : List TaskId) (task : TaskId) → tasks ≡ before ++ task ∷ [] → slice_get tasks (length tasks - 1) ≡ Some task
last_at tasks before task e =
    let many : length tasks ≡ length before + 1 = ap length e ∙ length-append before (task ∷ []) in
    let place : length tasks - 1 ≡ length before = omega (arith, many) in
    ap (slice_get tasks) place ∙ ap (λ (l : List TaskId). slice_get l (length before)) e ∙ at_end before task

-- a receipt that shows the last of them is that one's
last_shown : (tasks : List TaskId) (receipt : Option ReceiptParts) → shows_last tasks receipt ≡ true → (task : TaskId) → IsLast task tasks → IsReceiptOf task receipt
last_shown tasks receipt shows = λ task is.
    let at = last_at tasks is.0 task is.1 in
    let of : is_receipt_of task receipt ≡ true = rw at at shows in
    receipt_is receipt task of

waits_shown : (wait : Bool) (shown : Bool) → (not wait || shown) ≡ true → wait ≡ true → shown ≡ true
waits_shown true shown e w = e
waits_shown false shown e w = absurd (cc)

shown : (naming : Naming) → is_settled naming ≡ true → naming.wait ≡ true → shows_last (all_told naming.named) naming.receipt ≡ true
shown naming holds waits =
    let last = not naming.wait || shows_last (all_told naming.named) naming.receipt in
    let done = and_parts (is_whole naming.named) ((naming.done == naming.tasks) && last) holds in
    let both = and_parts (naming.done == naming.tasks) last done.1 in
    waits_shown naming.wait (shows_last (all_told naming.named) naming.receipt) both.1 waits

-- one task alone is the last
alone : (task other : TaskId) (before : List TaskId) → task ∷ [] ≡ before ++ other ∷ [] → task ≡ other
alone task other [] e = cc
alone task other (t ∷ []) e = absurd (cc)
alone task other (t ∷ u ∷ ts) e = absurd (cc)

own_receipt : (receipt : Option ReceiptParts) (task : TaskId) → is_some receipt ≡ true → IfSome receipt (λ r. r.task ≡ Some task) → IsReceiptOf task receipt
own_receipt None task is own = absurd (cc)
own_receipt (Some receipt) task is own = own

module _ (allowed : ℕ → Type 0) (run : Setting) (known : List ℕ → Bool) (script : List Command) (parts k : ℕ) (c : Command) where
  abbrev Fit : State → Type 0
  Fit s = IsState allowed run known script parts k c s

  settled_fits : (naming : Naming) → IsSomeAnd (cancel_in c) (λ t. (names_one t.0 ≡ false) × (t.1 ≡ naming.wait)) → Fit (settled naming)
  settled_fits naming asked = by_test (cases_Bool (is_settled naming))
    where
      by_test : (is_settled naming ≡ true) ⊎ (is_settled naming ≡ false) → Fit (settled naming)
      by_test (inl holds) = rw holds (some_and (cancel_in c) (λ t. (names_one t.0 ≡ false) × (t.1 ≡ naming.wait)) (λ t. HasCancelled t.0 t.1 (all_told naming.named) naming.wait naming.receipt) (λ t is. record {
        waited = sym is.1;
        one = λ one. absurd (cc);
        ended = λ waits. last_shown (all_told naming.named) naming.receipt (shown naming holds (sym is.1 ∙ waits));
      }) asked)
      by_test (inr fails) = rw fails asked

  one_fits : (named : TaskId) (wait : Bool) (task : TaskId) (receipt : Option ReceiptParts) → IfSome receipt (λ r. r.task ≡ Some task) → IsSomeAnd (cancel_in c) (λ t. (names_one t.0 ≡ true) × (t.1 ≡ wait)) → Fit (answers.after_cancelled (states.Waits (waits.Cancel named wait)) task receipt)
  one_fits named wait task receipt own asked = by_test (cases_Bool (same_id named task && same_bool wait (is_some receipt)))
    where
      ends : same_bool wait (is_some receipt) ≡ true → wait ≡ true → (other : TaskId) → IsLast other (task ∷ []) → IsReceiptOf other receipt
      ends same waits = λ other last.
          let is : is_some receipt ≡ true = sym (same_bool_is wait (is_some receipt) same) ∙ waits in
          subst (λ (t : TaskId). IsReceiptOf t receipt) (alone task other last.0 last.1) (own_receipt receipt task is own)

      by_test : ((same_id named task && same_bool wait (is_some receipt)) ≡ true) ⊎ ((same_id named task && same_bool wait (is_some receipt)) ≡ false) → Fit (answers.after_cancelled (states.Waits (waits.Cancel named wait)) task receipt)
      by_test (inl holds) =
          let parts = and_parts _ _ holds in
          rw holds (some_and (cancel_in c) (λ t. (names_one t.0 ≡ true) × (t.1 ≡ wait)) (λ t. HasCancelled t.0 t.1 (task ∷ []) wait receipt) (λ t is. record {
            waited = sym is.1;
            one = λ one. refl;
            ended = λ waits. ends parts.1 (sym is.1 ∙ waits);
          }) asked)
      by_test (inr fails) = rw fails asked

  one_of_fits : (naming : Naming) (task : TaskId) (receipt : Option ReceiptParts) → IsSomeAnd (cancel_in c) (λ t. (names_one t.0 ≡ false) × (t.1 ≡ naming.wait)) → Fit (answers.after_cancelled (states.Waits (waits.Naming naming)) task receipt)
  one_of_fits naming task receipt asked = by_test (cases_Bool (same_bool naming.wait (is_some receipt)))
    where
      by_test : (same_bool naming.wait (is_some receipt) ≡ true) ⊎ (same_bool naming.wait (is_some receipt) ≡ false) → Fit (answers.after_cancelled (states.Waits (waits.Naming naming)) task receipt)
      by_test (inl holds) = rw holds (settled_fits (with_done naming receipt) asked)
      by_test (inr fails) = rw fails asked

  pub cancelled_fits : (task : TaskId) (receipt : Option ReceiptParts) → IfSome receipt (λ r. r.task ≡ Some task) → (s : State) → Fit s → Fit (answers.after_cancelled s task receipt)
  cancelled_fits task receipt own (states.Waits (waits.Root asked)) fits = fits
  cancelled_fits task receipt own (states.Waits (waits.Cancel named wait)) fits = one_fits named wait task receipt own fits
  cancelled_fits task receipt own (states.Waits (waits.Naming naming)) fits = one_of_fits naming task receipt fits
  cancelled_fits task receipt own (states.Waits (waits.Rows rows now)) fits = fits
  cancelled_fits task receipt own (states.Answered answer) fits = fits
  cancelled_fits task receipt own states.Told fits = fits

  pub not_found_fits : (s : State) → Fit s → Fit (answers.after_not_found s)
  not_found_fits (states.Waits (waits.Root asked)) fits = fits
  not_found_fits (states.Waits (waits.Cancel task wait)) fits = some_and (cancel_in c) (λ t. (names_one t.0 ≡ true) × (t.1 ≡ wait)) (λ t. names_one t.0 ≡ true) (λ t is. is.0) fits
  not_found_fits (states.Waits (waits.Naming naming)) fits = fits
  not_found_fits (states.Waits (waits.Rows rows now)) fits = fits
  not_found_fits (states.Answered answer) fits = fits
  not_found_fits states.Told fits = fits

  pub named_fits : (node : ℕ) (tasks : List TaskId) (s : State) → Fit s → Fit (answers.after_named node tasks s)
  named_fits node tasks (states.Waits (waits.Root asked)) fits = fits
  named_fits node tasks (states.Waits (waits.Cancel task wait)) fits = fits
  named_fits node tasks (states.Waits (waits.Naming naming)) fits = settled_fits (with_named naming node tasks) fits
  named_fits node tasks (states.Waits (waits.Rows rows now)) fits = fits
  named_fits node tasks (states.Answered answer) fits = fits
  named_fits node tasks states.Told fits = fits

  list_fits : (gathered : Gathered) (now : ℕ) (answer : Option (List TaskInfo)) → Fit (states.Waits (waits.Rows gathered now)) → Fit (list_by gathered now answer)
  list_fits gathered now None fits = fits
  list_fits gathered now (Some rows) fits = (fits.0, listed_shows now rows, fits.1)

  part_fits : (gathered : Gathered) (now : ℕ) (part : Option ℕ) (rows : List TaskInfo) → Fit (states.Waits (waits.Rows gathered now)) → Fit (with_rows gathered now part rows)
  part_fits gathered now None rows fits = fits
  part_fits gathered now (Some part) rows fits = by_test (cases_Bool (gather.takes gathered part))
    where
      more : Gathered
      more = gather.with_part gathered part rows

      by_test : (gather.takes gathered part ≡ true) ⊎ (gather.takes gathered part ≡ false) → Fit (with_rows gathered now (Some part) rows)
      by_test (inl holds) = rw holds (list_fits more now (gather.answer_of more) (fits.0, fits.1, length_kept gathered.given part true ∙ fits.2))
      by_test (inr fails) = rw fails fits

  pub rows_fit : (part : Option ℕ) (rows : List TaskInfo) (s : State) → Fit s → Fit (answers.after_rows part rows s)
  rows_fit part rows (states.Waits (waits.Root asked)) fits = fits
  rows_fit part rows (states.Waits (waits.Cancel task wait)) fits = fits
  rows_fit part rows (states.Waits (waits.Naming naming)) fits = fits
  rows_fit part rows (states.Waits (waits.Rows gathered now)) fits = part_fits gathered now part rows fits
  rows_fit part rows (states.Answered answer) fits = fits
  rows_fit part rows states.Told fits = fits

  pub root_fits : (a : RootAnswered) → IsLawfulRootAnswer allowed a → IsAnswerAt run a.place a.request a.page a.reply → run.sought a.place.command ≡ option_map sought_by (search_of c) → (s : State) → IsToState s a → Fit s → Fit (answers.after_root a.reply s)
  root_fits a lawful tells sought (states.Waits (waits.Root asked)) to fits = task_note allowed run a lawful tells c sought asked fits to
  root_fits a lawful tells sought (states.Waits (waits.Cancel task wait)) to fits = absurd to
  root_fits a lawful tells sought (states.Waits (waits.Naming naming)) to fits = absurd to
  root_fits a lawful tells sought (states.Waits (waits.Rows rows now)) to fits = absurd to
  root_fits a lawful tells sought (states.Answered answer) to fits = absurd to
  root_fits a lawful tells sought states.Told to fits = absurd to

  -- what the awaited answer of a root may open
  pub root_opens : (a : RootAnswered) → IsLawfulRootAnswer allowed a → IsAnswerAt run a.place a.request a.page a.reply → run.sought a.place.command ≡ option_map sought_by (search_of c) → (s : State) → IsToState s a → Fit s → MayOpen run a.place.command (opening a.request a.reply)
  root_opens a lawful tells sought (states.Waits (waits.Root asked)) to fits = may_open allowed run a lawful tells c sought asked fits to
  root_opens a lawful tells sought (states.Waits (waits.Cancel task wait)) to fits = absurd to
  root_opens a lawful tells sought (states.Waits (waits.Naming naming)) to fits = absurd to
  root_opens a lawful tells sought (states.Waits (waits.Rows rows now)) to fits = absurd to
  root_opens a lawful tells sought (states.Answered answer) to fits = absurd to
  root_opens a lawful tells sought states.Told to fits = absurd to

  pub taken_fits : (s : State) → Fit s → Fit (without_answer s)
  taken_fits (states.Waits awaited) fits = fits
  taken_fits (states.Answered answer) fits = tt
  taken_fits states.Told fits = tt
