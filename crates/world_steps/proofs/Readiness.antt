-- Which tasks act, and for which moments others wait, once some events are noted.
use Rattle.std.proofs.Common.{◌≡◌, ◌≢◌, ◌⊎◌, ◌≤◌, inl, inr, ℕ, zero, suc, ◌+◌, ◌-◌, Bool, true, false, cond, ◌||◌, List, [], ◌∷◌, ◌++◌, length, take, drop, Option, Some, None, refl, sym, ap, subst, ◌∙◌, arith}
use Rattle.std.specs.Prelude.{◌==◌, nat_le}
use Rattle.std.specs.BTreeSet.{contains}
use Rattle.std.specs.List.{list_any}
use Rattle.std.proofs.lemmas.Bool.Decides.{nat_tests}
use Rattle.std.proofs.lemmas.List.{length-append}
use Rattle.task_ids.specs.declared.task_id.TaskId.{TaskId}
use Rattle.task_ids.specs.declared.cluster.Cluster.{Cluster}
use Rattle.task_ids.specs.declared.corpus.Corpus.{Corpus}
use Rattle.task_ids.specs.TaskIdOrder.{task_id_cmp}
use Rattle.task_events.specs.declared.event.Event.{Event}
use Rattle.task_events.specs.declared.event.Event.TheVariants.{Tick}
use Rattle.task_events.specs.Clock.{clock}
use Rattle.task_events.specs.Lawful.{Lawful}
use Rattle.task_events.specs.Requests.{Scripted}
use Rattle.script_lang.specs.declared.command.Script.{Script}
use Rattle.world_moves.specs.Facts.{about, is_about}
use Rattle.world_moves.specs.Flights.{event_at}
use Rattle.command_roots.specs.Roots.{scripted}
use Rattle.world_moves.specs.Ties.{Keeps}
use Rattle.world_moves.specs.declared.state.State.{State}
use Rattle.task_events.specs.Same.{same_task}
use Rattle.task_laws.proofs.Same.{same_task_tells, same_tests}
use Rattle.world_steps.specs.declared.ready.Ready.{Ready}
use Rattle.world_steps.specs.Alarms.{AreAlarms, alarm_at}
use Rattle.world_steps.specs.Results.{KnowsResults}
use Rattle.world_steps.specs.Draining.{due_of}
use Rattle.world_steps.specs.World.{HasReady, HadReady, HasNoted, HasAlarmed, is_ready, has_come, past_of, was_met}
use Rattle.world_steps.proofs.Stances.{acts_by, waits_by, stance_of, frame, acts_then, waits_then, to_come, acts_by_stance, waits_by_stance}

neither : (a b : Bool) → (a || b) ≡ false → (a ≡ false) × (b ≡ false)
neither true b e = absurd (cc)
neither false b e = (refl, e)

-- ---- places in the past

-- whether one of the events from a place up to another is about the task
abbrev pub met : ℕ → ℕ → List Event → TaskId → Bool
met before at h q = list_any (is_about q) (take (at - before) (past_of at h))

has_place : (at : ℕ) (h : List Event) (e : Event) → event_at at h ≡ Some e → at + 1 ≤ length h
has_place at [] e here = absurd (cc)
has_place at (d ∷ h) e here = by_place (has_place at h e) (at == length h) refl
  where
    by_place : (event_at at h ≡ Some e → at + 1 ≤ length h) → (b : Bool) → (at == length h) ≡ b → at + 1 ≤ length (d ∷ h)
    by_place older true p = grind (arith, nat_tests)
    by_place older false p = let low = older (rw p at here) in omega (arith, low)

-- one event more
pub next_past : (at : ℕ) (h : List Event) (e : Event) → event_at at h ≡ Some e → past_of (at + 1) h ≡ e ∷ past_of at h
next_past at [] e here = absurd (cc)
next_past at (d ∷ h) e here = by_place (next_past at h e) (at == length h) refl
  where
    by_place : (event_at at h ≡ Some e → past_of (at + 1) h ≡ e ∷ past_of at h) → (b : Bool) → (at == length h) ≡ b → past_of (at + 1) (d ∷ h) ≡ e ∷ past_of at (d ∷ h)
    by_place before true p =
        let last : at ≡ length h = grind (arith, nat_tests) in
        let none : length (d ∷ h) - (at + 1) ≡ 0 = omega (arith, last) in
        let one : length (d ∷ h) - at ≡ 1 = omega (arith, last) in
        let it = rw p at here in
        let same : d ≡ e = cc in
        ap (λ n. drop n (d ∷ h)) none ∙ ap (λ x. x ∷ h) same ∙ sym (ap (λ n. e ∷ drop n (d ∷ h)) one)
    by_place before false p =
        let it = rw p at here in
        let low = has_place at h e it in
        let newer : length (d ∷ h) - (at + 1) ≡ suc (length h - (at + 1)) = omega (arith, low) in
        let older : length (d ∷ h) - at ≡ suc (length h - at) = omega (arith, low) in
        ap (λ n. drop n (d ∷ h)) newer ∙ before it ∙ sym (ap (λ n. e ∷ drop n (d ∷ h)) older)

met_next : (before at : ℕ) (h : List Event) (e : Event) → before ≤ at → event_at at h ≡ Some e → (q : TaskId) → met before (at + 1) h q ≡ (is_about q e || met before at h q)
met_next before at h e low here q =
    let longer : at + 1 - before ≡ suc (at - before) = omega (arith, low) in
    ap (λ xs. list_any (is_about q) (take (at + 1 - before) xs)) (next_past at h e here)
    ∙ ap (λ n. list_any (is_about q) (take n (e ∷ past_of at h))) longer

-- the past before what came since
pub past_before : (earlier h : List Event) → past_of (length h) (earlier ++ h) ≡ h
past_before [] h = let none : length h - length h ≡ 0 = omega arith in ap (λ n. drop n h) none
past_before (e ∷ earlier) h =
    let longer = length-append earlier h in
    let one : length (e ∷ (earlier ++ h)) - length h ≡ suc (length (earlier ++ h) - length h) = omega (arith, longer) in
    ap (λ n. drop n (e ∷ (earlier ++ h))) one ∙ past_before earlier h

-- what was known before the newest events
pub had_ready : (old new : State) (ready : Ready) (earlier : List Event) → HasReady old ready → Keeps old new → new.history ≡ earlier ++ old.history → HadReady new (length old.history) ready
had_ready old new ready earlier known keeps longer =
    rw keeps.cluster (rw keeps.corpus (rw keeps.script (rw (ap (past_of (length old.history)) longer ∙ past_before earlier old.history) known)))

-- ---- noting the events one after the other

about_it : (e : Event) (t : TaskId) → about e ≡ Some t → (q : TaskId) → is_about q e ≡ same_task t q
about_it e t a q = rw a (grind (arith, same_tests))

-- of each task that one of the events is about it is known what is so now, and of the others what was so
module _ {X : Type 0} (now was : TaskId → X) (before : ℕ) (h : List Event) where
  abbrev pub Noted : ℕ → (TaskId → X) → Type 0
  Noted at known = (q : TaskId) → known q ≡ cond (met before at h q) (now q) (was q)

  pub none_noted : (known : TaskId → X) → ((q : TaskId) → known q ≡ was q) → Noted before known
  none_noted known had q =
      let none : before - before ≡ 0 = omega arith in
      had q ∙ sym (ap (λ n. cond (list_any (is_about q) (take n (past_of before h))) (now q) (was q)) none)

  pub one_noted : (at : ℕ) (e : Event) (t : TaskId) (old new : TaskId → X) → before ≤ at → event_at at h ≡ Some e → about e ≡ Some t
      → ((q : TaskId) → new q ≡ cond (same_task t q) (now q) (old q)) → Noted at old → Noted (at + 1) new
  one_noted at e t old new low here a noted so_far q =
      let more = met_next before at h e low here q in
      noted q ∙ ap (cond (same_task t q) (now q)) (so_far q) ∙ by_test (same_task t q) (met before at h q) ∙ sym (ap (λ b. cond b (now q) (was q)) (more ∙ ap (λ b. b || met before at h q) (about_it e t a q)))
    where
      by_test : (a b : Bool) → cond a (now q) (cond b (now q) (was q)) ≡ cond (a || b) (now q) (was q)
      by_test true b = refl
      by_test false b = refl

  pub other_noted : (at : ℕ) (e : Event) (known : TaskId → X) → before ≤ at → event_at at h ≡ Some e → about e ≡ None → Noted at known → Noted (at + 1) known
  other_noted at e known low here a so_far q =
      let more = met_next before at h e low here q in
      let none : is_about q e ≡ false = rw a refl in
      so_far q ∙ sym (ap (λ b. cond b (now q) (was q)) (more ∙ ap (λ b. b || met before at h q) none))

  pub all_noted : (at : ℕ) (known : TaskId → X) → at ≡ length h → Noted at known → (q : TaskId) → known q ≡ cond (was_met before h q) (now q) (was q)
  all_noted at known e noted q =
      let none : length h - length h ≡ 0 = omega arith in
      noted q ∙ ap (λ n. cond (met before n h q) (now q) (was q)) e ∙ ap (λ n. cond (list_any (is_about q) (take (length h - before) (drop n h))) (now q) (was q)) none

-- ---- and then what comes due

clock_on : (e : Event) (h : List Event) → clock h ≤ clock (e ∷ h)
clock_on (Tick ms) h = omega arith
clock_on _ h = omega arith

clock_low : (n : ℕ) (h : List Event) → clock (drop n h) ≤ clock h
clock_low zero h = omega arith
clock_low (suc n) [] = omega arith
clock_low (suc n) (e ∷ h) = let on = clock_on e h in let low = clock_low n h in omega (arith, on, low)

-- what was lawful was so at each earlier moment
pub lawful_before : (cluster : Cluster) (n : ℕ) (h : List Event) → Lawful cluster h → Lawful cluster (drop n h)
lawful_before cluster zero h l = l
lawful_before cluster (suc n) [] l = tt
lawful_before cluster (suc n) (e ∷ h) l = lawful_before cluster n h l.1

unmet : (said : Scripted) (q : TaskId) (n : ℕ) (h : List Event) → list_any (is_about q) (take n h) ≡ false → stance_of said q (drop n h) ≡ stance_of said q h
unmet said q zero h apart = refl
unmet said q (suc n) [] apart = refl
unmet said q (suc n) (e ∷ h) apart =
    let two = neither (is_about q e) (list_any (is_about q) (take n h)) apart in
    unmet said q n h two.1 ∙ sym (frame said q e h two.0)

module _ (cluster : Cluster) (corpus : Corpus) (script : Script) (h : List Event) (l : Lawful cluster h) (n : ℕ) (q : TaskId) (apart : list_any (is_about q) (take n h) ≡ false) where
  -- for which moment a task waited that none of the events is about, and for which it waits
  waits_on : due_of cluster corpus script q h ≡ cond (has_come (clock h) (due_of cluster corpus script q (drop n h))) None (due_of cluster corpus script q (drop n h))
  waits_on =
      waits_by_stance cluster corpus script q h ∙ ap (waits_by cluster q (clock h)) (sym (unmet (scripted script) q n h apart))
      ∙ waits_then cluster q (stance_of (scripted script) q (drop n h)) (clock (drop n h)) (clock h) (clock_low n h)
      ∙ ap (λ o. cond (has_come (clock h) o) None o) (sym (waits_by_stance cluster corpus script q (drop n h)))

  acts_on : has_come (clock h) (due_of cluster corpus script q (drop n h)) ≡ false → is_ready cluster corpus script (drop n h) q ≡ is_ready cluster corpus script h q
  acts_on none =
      acts_by_stance cluster corpus script q (drop n h) (lawful_before cluster n h l)
      ∙ sym (acts_then cluster q (stance_of (scripted script) q (drop n h)) (clock (drop n h)) (clock h) (clock_low n h) (sym (ap (has_come (clock h)) (waits_by_stance cluster corpus script q (drop n h))) ∙ none))
      ∙ ap (acts_by cluster q (clock h)) (unmet (scripted script) q n h apart) ∙ sym (acts_by_stance cluster corpus script q h l)

-- Who waits for a moment that has come is the only one of whom it is not known whether it acts.
pub alarmed : (s : State) (before : ℕ) (ready : Ready) → Lawful s.cluster s.history → s.clock ≡ clock s.history → HasNoted s before ready → HasAlarmed s ready
alarmed s before ready l now noted = record {
  tasks = λ t. tasks_so t (was_met before s.history t) refl;
  kept = noted.kept;
  alarms = λ t. alarms_so t (was_met before s.history t) refl;
  results = noted.results;
}
  where
    none_come : (t : TaskId) → has_come s.clock (due_of s.cluster s.corpus.now s.script.now t s.history) ≡ false
    none_come t =
        ap (λ n. has_come n (due_of s.cluster s.corpus.now s.script.now t s.history)) now ∙ ap (has_come (clock s.history)) (waits_by_stance s.cluster s.corpus.now s.script.now t s.history)
        ∙ to_come s.cluster t (stance_of (scripted s.script.now) t s.history) (clock s.history)

    alarms_so : (t : TaskId) (b : Bool) → was_met before s.history t ≡ b → due_of s.cluster s.corpus.now s.script.now t s.history ≡ cond (has_come s.clock (alarm_at ready.alarms t)) None (alarm_at ready.alarms t)
    alarms_so t true m =
        let is = rw m at (noted.alarms t) in
        rw (is, none_come t) refl
    alarms_so t false m =
        let is = rw m at (noted.alarms t) in
        rw (is, now) (waits_on s.cluster s.corpus.now s.script.now s.history l (length s.history - before) t m)

    tasks_so : (t : TaskId) (b : Bool) → was_met before s.history t ≡ b → has_come s.clock (alarm_at ready.alarms t) ≡ false → contains task_id_cmp ready.tasks t ≡ is_ready s.cluster s.corpus.now s.script.now s.history t
    tasks_so t true m none = rw m at (noted.tasks t)
    tasks_so t false m none =
        let is = rw m at (noted.tasks t) in
        let waited = rw m at (noted.alarms t) in
        is ∙ acts_on s.cluster s.corpus.now s.script.now s.history l (length s.history - before) t m (sym (ap (λ n. has_come n (due_of s.cluster s.corpus.now s.script.now t (past_of before s.history))) now) ∙ ap (has_come s.clock) (sym waited) ∙ none)

-- one whose moment has come is looked at, and waits for none
pub one_rung : (s : State) (old new : Ready) (t : TaskId) (moment : ℕ) → alarm_at old.alarms t ≡ Some moment → moment ≤ s.clock → HasAlarmed s old
    → ((q : TaskId) → alarm_at new.alarms q ≡ cond (same_task t q) None (alarm_at old.alarms q)) → ((q : TaskId) → contains task_id_cmp new.tasks q ≡ cond (same_task t q) (is_ready s.cluster s.corpus.now s.script.now s.history q) (contains task_id_cmp old.tasks q))
    → AreAlarms new.alarms → new.results ≡ old.results → HasAlarmed s new
one_rung s old new t moment there come known taken noted kept same_results = record {
  tasks = λ q none. tasks_so q (same_task_tells t q) none;
  kept = kept;
  alarms = λ q. alarms_so q (same_task_tells t q);
  results = subst (KnowsResults s.script.now s.history) (sym same_results) known.results;
}
  where
    over : due_of s.cluster s.corpus.now s.script.now t s.history ≡ None
    over = let it = rw there at (known.alarms t) in let yes : nat_le moment s.clock ≡ true = grind (arith, nat_tests) in it ∙ ap (λ b. cond b None (Some moment)) yes

    tasks_so : (q : TaskId) → ((same_task t q ≡ true) × (t ≡ q)) ⊎ ((same_task t q ≡ false) × (t ≢ q)) → has_come s.clock (alarm_at new.alarms q) ≡ false → contains task_id_cmp new.tasks q ≡ is_ready s.cluster s.corpus.now s.script.now s.history q
    tasks_so q (inl (one, same)) none = noted q ∙ ap (λ b. cond b (is_ready s.cluster s.corpus.now s.script.now s.history q) (contains task_id_cmp old.tasks q)) one
    tasks_so q (inr (differs, apart)) none =
        let as_before = taken q ∙ ap (λ b. cond b None (alarm_at old.alarms q)) differs in
        noted q ∙ ap (λ b. cond b (is_ready s.cluster s.corpus.now s.script.now s.history q) (contains task_id_cmp old.tasks q)) differs ∙ known.tasks q (sym (ap (has_come s.clock) as_before) ∙ none)

    alarms_so : (q : TaskId) → ((same_task t q ≡ true) × (t ≡ q)) ⊎ ((same_task t q ≡ false) × (t ≢ q)) → due_of s.cluster s.corpus.now s.script.now q s.history ≡ cond (has_come s.clock (alarm_at new.alarms q)) None (alarm_at new.alarms q)
    alarms_so q (inl (one, same)) =
        let gone = taken q ∙ ap (λ b. cond b None (alarm_at old.alarms q)) one in
        ap (λ u. due_of s.cluster s.corpus.now s.script.now u s.history) (sym same) ∙ over ∙ sym (ap (λ o. cond (has_come s.clock o) None o) gone)
    alarms_so q (inr (differs, apart)) =
        let as_before = taken q ∙ ap (λ b. cond b None (alarm_at old.alarms q)) differs in
        known.alarms q ∙ sym (ap (λ o. cond (has_come s.clock o) None o) as_before)

-- ---- one task is noted

module _ (s : State) (t : TaskId) where
  -- for which moment it waits now, if it waits for one
  pub noted_alarm : (o : Option ℕ) (old new : TaskId → Option ℕ) → o ≡ due_of s.cluster s.corpus.now s.script.now t s.history → ((q : TaskId) → new q ≡ cond (same_task t q) o (old q))
      → (q : TaskId) → new q ≡ cond (same_task t q) (due_of s.cluster s.corpus.now s.script.now q s.history) (old q)
  noted_alarm o old new is set q = set q ∙ of_case (same_task_tells t q)
    where
      of_case : ((same_task t q ≡ true) × (t ≡ q)) ⊎ ((same_task t q ≡ false) × (t ≢ q)) → cond (same_task t q) o (old q) ≡ cond (same_task t q) (due_of s.cluster s.corpus.now s.script.now q s.history) (old q)
      of_case (inl (one, same)) = ap (λ b. cond b o (old q)) one ∙ is ∙ ap (λ u. due_of s.cluster s.corpus.now s.script.now u s.history) same ∙ sym (ap (λ b. cond b (due_of s.cluster s.corpus.now s.script.now q s.history) (old q)) one)
      of_case (inr (other, apart)) = ap (λ b. cond b o (old q)) other ∙ sym (ap (λ b. cond b (due_of s.cluster s.corpus.now s.script.now q s.history) (old q)) other)
