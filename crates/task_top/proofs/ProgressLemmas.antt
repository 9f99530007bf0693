-- One command more has run, and what was noted before each command still holds.
use Rattle.std.proofs.Common.{◌≡◌, ℕ, ◌+◌, ◌≤◌, Bool, true, false, cond, ◌||◌, List, [], ◌∷◌, ◌++◌, length, length-append, slice_get, Option, Some, None, Result, Ok, Err, OnOk, OnErr, IfErr, inl, inr, refl, sym, ap, ◌∙◌, subst, add-one, ⊎_elim, arith}
use Rattle.std.specs.List.{list_any}
use Rattle.std.proofs.lemmas.Bool.{cases_lt, lt-ltb, le-ltb}
use Rattle.std.proofs.lemmas.Option.{slice_get_within, same_Some}
use Rattle.search_phase.proofs.Requests.{slice_get-append_left, slice_get-append_right}
use Rattle.task_ids.specs.declared.cluster.Cluster.{Cluster}
use Rattle.task_events.specs.declared.event.Event.{Event}
use Rattle.task_events.specs.declared.event.Event.TheVariants.{Begin}
use Rattle.task_events.specs.declared.stop.Stop.{Stop}
use Rattle.task_events.specs.Cancels.{last_command}
use Rattle.task_events.specs.Laws.{IsDrained}
use Rattle.task_events.specs.Turns.{is_begin, begun, history_before}
use Rattle.script_lang.specs.declared.command.Command.{Command}
use Rattle.script_lang.specs.declared.command.Script.{Script}
use Rattle.world_moves.specs.Cancels.{AllAnswered}
use Rattle.world_steps.specs.Scripts.{IsTurn, Commands, PartlyCommands, Drains, PartlyDrains, HasRun, IsRunSoFar, NumberedLacksNumber, RunLacksNumber, StopsCommand, StopsDrain, StopsRun}
use Rattle.world_moves.proofs.Outcomes.{stops_as}
use Rattle.world_steps.specs.World.{WorldView}
use Rattle.line_print.specs.declared.note.Note.{Note}
use Rattle.line_print.specs.Lines.{note_of}
use Rattle.task_top.specs.Progress.{NotesAll, HasCome, EndsEarly, EndsWhole}

-- ---- a turn

pub both_false : (a b : Bool) → a || b ≡ false → (a ≡ false) × (b ≡ false)
both_false true b e = cc
both_false false b e = (refl, e)

pub begun_after : (k : ℕ) (events h : List Event) → list_any is_begin events ≡ false → begun (events ++ Begin k ∷ h) ≡ begun h + 1
begun_after k [] h none = refl
begun_after k (e ∷ events) h none =
    let parts = both_false (is_begin e) (list_any is_begin events) none in
    ap (λ b. cond b (begun (events ++ Begin k ∷ h) + 1) (begun (events ++ Begin k ∷ h))) parts.0 ∙ begun_after k events h parts.1

-- the history before an earlier command, or before this one, stays
before_after : (k n : ℕ) (events h : List Event) → list_any is_begin events ≡ false → n ≤ begun h + 1 → history_before n (events ++ Begin k ∷ h) ≡ history_before n h
before_after k n [] h none le = ap (λ b. cond b (Begin k ∷ h) (history_before n h)) (le-ltb (begun h + 1) n le)
before_after k n (e ∷ events) h none le =
    let parts = both_false (is_begin e) (list_any is_begin events) none in
    let many : n ≤ begun ((e ∷ events) ++ Begin k ∷ h) = rw (begun_after k (e ∷ events) h none) le in
    ap (λ b. cond b ((e ∷ events) ++ Begin k ∷ h) (history_before n (events ++ Begin k ∷ h))) (le-ltb (begun ((e ∷ events) ++ Begin k ∷ h)) n many) ∙ before_after k n events h parts.1 le

-- before the next command there is all that happened
pub before_next : (h : List Event) → history_before (begun h + 1) h ≡ h
before_next [] = refl
before_next (e ∷ h) = ap (λ b. cond b (e ∷ h) (history_before (begun (e ∷ h) + 1) h)) (lt-ltb (begun (e ∷ h)) (begun (e ∷ h) + 1) (omega arith))

module _ (k : ℕ) (old new : List Event) (turn : IsTurn k old new) where
  pub begun_more : begun new ≡ begun old + 1
  begun_more = ap begun turn.1 ∙ begun_after k turn.0 old turn.2

  pub before_stays : (n : ℕ) → n ≤ begun old + 1 → history_before n new ≡ history_before n old
  before_stays n le = ap (history_before n) turn.1 ∙ before_after k n turn.0 old turn.2 le

-- ---- what is noted

module _ (cluster : Cluster) (script : Script) (k n : ℕ) (found : List (Option Note)) (old new : List Event) (notes : NotesAll cluster script old n found) (begun_so_many : begun old ≡ n) (turn : IsTurn k old new) where
  -- what was noted still holds
  pub noted_still : NotesAll cluster script new n found
  noted_still i command lt at = notes i command lt at ∙ ap (λ h. Some (note_of cluster script command h)) (sym (before_stays k old new turn (i + 1) (omega arith)))

  module _ (noted : Option Note) (next : Command) (many : length found ≡ n) (next_is : slice_get script.commands n ≡ Some next) (is : noted ≡ note_of cluster script next old) where
    this_one : (i : ℕ) (command : Command) → i ≡ n → slice_get script.commands i ≡ Some command → slice_get (found ++ noted ∷ []) i ≡ Some (note_of cluster script command (history_before (i + 1) new))
    this_one i command e at =
        let last : i ≡ 0 + n = omega arith in
        let begins : i + 1 ≡ begun old + 1 = omega arith in
        let same : next ≡ command = same_Some next command (sym next_is ∙ ap (slice_get script.commands) (sym e) ∙ at) in
        let past : old ≡ history_before (i + 1) new = sym (before_stays k old new turn (i + 1) (omega arith) ∙ ap (λ m. history_before m old) begins ∙ before_next old) in
        ap (slice_get (found ++ noted ∷ [])) last ∙ slice_get-append_right 0 n found (noted ∷ []) many
        ∙ ap Some (is ∙ ap (λ c. note_of cluster script c old) same ∙ ap (note_of cluster script command) past)

    -- what is noted of one command more holds too
    pub noted_more : NotesAll cluster script new (n + 1) (found ++ noted ∷ [])
    noted_more i command lt at =
        ⊎_elim (λ below. slice_get-append_left i found (noted ∷ []) (omega (arith, many)) ∙ noted_still i command below at) (λ past. this_one i command (omega arith) at) (cases_lt i n)

-- ---- the run

-- all but the past is as it was
abbrev pub Keeps : WorldView → WorldView → Type 0
Keeps w w' = w' ≡ record w { past = w'.past; stopped = w'.stopped }

module _ (script : Script) (n : ℕ) (found : List (Option Note)) (w w' : WorldView) (come : HasCome script n found w) (noted : Option Note) (command : Command) (next : slice_get script.commands n ≡ Some command)
    (is : noted ≡ note_of w.cluster w.script command w.past) (keeps : Keeps w w') where
  one_more : Commands w.cluster w.corpus w.script (n + 1) w.past w'.past → IsTurn (n + 1) w.past w'.past → last_command w'.past ≡ n + 1 → w'.stopped ≡ None → HasCome script (n + 1) (found ++ noted ∷ []) w'
  one_more commands turn last goes_on = record {
    reads = ap (λ v. v.script) keeps ∙ come.reads;
    goes_on = goes_on;
    runs = subst (λ (v : WorldView). HasRun v.cluster v.corpus v.script (n + 1) w'.past) (sym keeps) ran;
    begun_so_many = begun_more (n + 1) w.past w'.past turn ∙ ap (λ m. m + 1) come.begun_so_many;
    last = last;
    noted = length-append found (noted ∷ []) ∙ ap (λ m. m + 1) come.noted;
    notes = subst (λ (v : WorldView). NotesAll v.cluster script w'.past (n + 1) (found ++ noted ∷ [])) (sym keeps)
        (noted_more w.cluster script (n + 1) n found w.past w'.past come.notes come.begun_so_many turn noted command come.noted next (is ∙ ap (λ s. note_of w.cluster s command w.past) come.reads));
  }
    where
      ran : HasRun w.cluster w.corpus w.script (n + 1) w'.past
      ran = subst (λ m. HasRun w.cluster w.corpus w.script m w'.past) (sym (add-one n)) (w.past, come.runs, subst (λ m. Commands w.cluster w.corpus w.script m w.past w'.past) (add-one n) commands)

  -- one command more has run, unless the world came to an early end
  pub has_come : (r : Result (Unit {0}) Stop) → OnOk r (Commands w.cluster w.corpus w.script (n + 1) w.past w'.past) → OnOk r (IsTurn (n + 1) w.past w'.past) → OnOk r (last_command w'.past ≡ n + 1) → OnOk r (w'.stopped ≡ None)
      → OnOk r (HasCome script (n + 1) (found ++ noted ∷ []) w')
  has_come (Ok x) commands turn last goes_on = one_more commands turn last goes_on
  has_come (Err stop) commands turn last goes_on = tt

module _ (script : Script) (found : List (Option Note)) (w : WorldView) (past : List Event) (come : HasCome script (length script.commands) found w) where
  all_ran : HasRun w.cluster w.corpus script (length script.commands) w.past
  all_ran = subst (λ s. HasRun w.cluster w.corpus s (length script.commands) w.past) come.reads come.runs

  pub drained_whole : (k : ℕ) → Drains w.cluster w.corpus w.script w.past past → IsDrained past → AllAnswered past → IsTurn k w.past past → EndsWhole w.cluster w.corpus script past found
  drained_whole k drains drained answered turn = record {
    ran = (w.past, all_ran, subst (λ s. Drains w.cluster w.corpus s w.past past) come.reads drains);
    drained = drained;
    answered = answered;
    tells = λ i command at none. noted_still w.cluster script k (length script.commands) found w.past past come.notes come.begun_so_many turn i command (slice_get_within script.commands i command at) at;
  }

-- ---- an early end

module _ (script : Script) (n : ℕ) (found : List (Option Note)) (w : WorldView) (past : List Event) (come : HasCome script n found w) where
  pub stops_in_command : (r : Result (Unit {0}) Stop) → OnErr r (PartlyCommands w.cluster w.corpus w.script (n + 1) w.past past) → IfErr r (λ stop. w.stopped ≡ None → StopsCommand w.cluster w.corpus w.script (n + 1) w.past past stop)
      → IfErr r (λ stop. EndsEarly w.cluster w.corpus script past stop)
  stops_in_command (Ok x) part cause = tt
  stops_in_command (Err stop) part cause = record {
    ran_so_far = subst (λ s. IsRunSoFar w.cluster w.corpus s past) come.reads (so_far past part);
    cause = subst (λ s. StopsRun w.cluster w.corpus s past stop) come.reads
        (stops_as (PartlyCommands w.cluster w.corpus w.script (n + 1) w.past) (IsRunSoFar w.cluster w.corpus w.script) _ (RunLacksNumber w.cluster w.corpus w.script past) past stop so_far
        (λ lacks. inl (n, w.past, come.runs, subst (λ m. NumberedLacksNumber w.cluster w.corpus w.script m w.past past) (add-one n) lacks)) (cause come.goes_on));
  }
    where
      so_far : (x : List Event) → PartlyCommands w.cluster w.corpus w.script (n + 1) w.past x → IsRunSoFar w.cluster w.corpus w.script x
      so_far x part = inl (n, w.past, come.runs, subst (λ m. PartlyCommands w.cluster w.corpus w.script m w.past x) (add-one n) part)

module _ (script : Script) (found : List (Option Note)) (w : WorldView) (past : List Event) (come : HasCome script (length script.commands) found w) where
  pub stops_in_drain : (stop : Stop) → PartlyDrains w.cluster w.corpus w.script w.past past → (w.stopped ≡ None → StopsDrain w.cluster w.corpus w.script w.past past stop) → EndsEarly w.cluster w.corpus script past stop
  stops_in_drain stop part cause = record {
    ran_so_far = inr (w.past, all_ran script found w past come, subst (λ s. PartlyDrains w.cluster w.corpus s w.past past) come.reads part);
    cause = stops_as (PartlyDrains w.cluster w.corpus script w.past) (IsRunSoFar w.cluster w.corpus script) _ (RunLacksNumber w.cluster w.corpus script past) past stop
        (λ x part. inr (w.past, all_ran script found w past come, part)) (λ lacks. inr (w.past, all_ran script found w past come, lacks)) (subst (λ s. StopsDrain w.cluster w.corpus s w.past past stop) come.reads (cause come.goes_on));
  }
