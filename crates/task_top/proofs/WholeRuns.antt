-- Where there is a whole run each run so far is a first part of it: both do the same, as far as the one goes.
use Rattle.std.proofs.Common.{◌≡◌, ◌<◌, ◌≤◌, ◌+◌, ℕ, zero, suc, List, [], ◌∷◌, ◌++◌, length, length-append, Some, refl, sym, ap, subst, ◌∙◌, inl, inr, ⊎_elim, append_assoc, arith}
use Rattle.std.proofs.lemmas.Bool.{cases_lt}
use Rattle.std.proofs.lemmas.Option.{slice_get_within}
use Rattle.task_ids.specs.declared.cluster.Cluster.{Cluster}
use Rattle.task_ids.specs.declared.corpus.Corpus.{Corpus}
use Rattle.task_events.specs.declared.event.Event.{Event}
use Rattle.task_events.specs.declared.event.Event.TheVariants.{Begin}
use Rattle.task_events.specs.declared.history.TheConstants.{MAX_EVENTS}
use Rattle.task_events.specs.declared.stop.Stop.TheVariants.{HistoryFull}
use Rattle.script_lang.specs.declared.command.Command.{Command}
use Rattle.script_lang.specs.declared.command.Command.TheVariants.{Settle, Shuffle, WaitFor}
use Rattle.script_lang.specs.declared.command.Script.{Script}
use Rattle.script_lang.specs.Generator.{next_number}
use Rattle.command_roots.specs.Roots.{command_at}
use Rattle.world_moves.specs.Moves.{IsPartly}
use Rattle.world_steps.specs.Draining.{Empties, IsNextDue, NoneLive, PartlyEmpties, StartsAgain, ticked_to}
use Rattle.world_steps.specs.Runs.{FirstMoves, IsSettled, PartlySettles, Passes, Settles}
use Rattle.world_steps.specs.Scripts.{closing, Commands, Does, Drains, HasRun, IsRun, IsRunSoFar, PartlyCommands, PartlyDoes, PartlyDrains, StopsRun}
use Rattle.world_steps.specs.Shuffling.{Makes, MovesBy, PartlyShuffles, Shuffles}
use Rattle.world_steps.proofs.Determined.{chooses_one, does_one, first_one, has_run_one, makes_one, none_due, one_due, settled_makes_none, settled_rests, settles_one}
use Rattle.world_steps.proofs.Turning.{Follows, emptied, settled, shuffled, turn_of_command, turn_of_drain}
use Rattle.task_top.proofs.EarlierRuns.{IsEarlier}

-- ---- earlier moments

before_both : (x y z : List Event) → IsEarlier x y → IsEarlier y z → IsEarlier x z
before_both x y z (later, e) (last, f) = (last ++ later, append_assoc last later x ∙ ap (λ w. last ++ w) e ∙ f)

before_newest : (e : Event) (h : List Event) → IsEarlier h (e ∷ h)
before_newest e h = (e ∷ [], refl)

came_before : (h new : List Event) → Follows h new → IsEarlier h new
came_before h new (events, same, none) = (events, sym same)

-- a first part of a move is one of what goes on from each past that the move may lead to
part_within : (Moves : List Event → List Event → Type 0) (h x new : List Event) → IsPartly Moves h x → IsEarlier h new → ((whole : List Event) → Moves h whole → IsEarlier whole new) → IsEarlier x new
part_within Moves h x new (inl same) there each = subst (λ y. IsEarlier y new) (sym same) there
part_within Moves h x new (inr (whole, made, (after, before, split, rest))) there each = before_both x whole new (after, sym split) (each whole made)

module _ (cluster : Cluster) (corpus : Corpus) (script : Script) where
  -- ---- settling

  -- it goes on from its first move
  pub settles_on : (h next new : List Event) → FirstMoves cluster corpus script h next → Settles cluster corpus script h new → Settles cluster corpus script next new
  settles_on h next new m (rests, ([], same)) = absurd (settled_rests cluster corpus script h next (subst (IsSettled cluster corpus script) (sym same) rests) m)
  settles_on h next new m (rests, (step ∷ more, (made, p))) =
      (rests, (more, subst (λ x. Passes cluster corpus script x more new) (first_one cluster corpus script h step next made m) p))

  -- and from each past on its way
  pub settles_from : (h : List Event) (between : List (List Event)) (now new : List Event) → Passes cluster corpus script h between now → Settles cluster corpus script h new → Settles cluster corpus script now new
  settles_from h [] now new same s = subst (λ x. Settles cluster corpus script x new) same s
  settles_from h (next ∷ more) now new (m, p) s = settles_from next more now new p (settles_on h next new m s)

  settling_later : (h new : List Event) → Settles cluster corpus script h new → IsEarlier h new
  settling_later h new s = came_before h new (settled cluster corpus script h new s)

  settled_within : (h x new : List Event) → PartlySettles cluster corpus script h x → Settles cluster corpus script h new → IsEarlier x new
  settled_within h x new (between, now, p, part) s =
      let rest = settles_from h between now new p s in
      part_within (FirstMoves cluster corpus script) now x new part (settling_later now new rest) (λ whole m. settling_later whole new (settles_on now whole new m rest))

  -- ---- shuffles

  moves_one : (chance : ℕ) (h next step : List Event) → MovesBy cluster corpus script chance h next → MovesBy cluster corpus script chance h step → step ≡ next
  moves_one chance h next step (move, chosen, m) (other, chosen_too, made) =
      let one : other ≡ move = chooses_one cluster corpus script chance other move h chosen_too chosen in
      makes_one cluster corpus script move h step next (subst (λ x. Makes cluster corpus script x h step) one made) m

  pub shuffles_on : (chance more : ℕ) (h next new : List Event) → MovesBy cluster corpus script (next_number chance) h next → Shuffles cluster corpus script chance (suc more) h new
      → Shuffles cluster corpus script (next_number chance) more next new
  shuffles_on chance more h next new (move, chosen, m) (inl (rests, same)) = absurd (settled_makes_none cluster corpus script move h next rests m)
  shuffles_on chance more h next new m (inr (step, made, others)) =
      subst (λ x. Shuffles cluster corpus script (next_number chance) more x new) (moves_one (next_number chance) h next step m made) others

  shuffling_later : (chance more : ℕ) (h new : List Event) → Shuffles cluster corpus script chance more h new → IsEarlier h new
  shuffling_later chance more h new s = came_before h new (shuffled cluster corpus script chance more h new s)

  shuffled_within : (chance more : ℕ) (h x new : List Event) → PartlyShuffles cluster corpus script chance more h x → Shuffles cluster corpus script chance more h new → IsEarlier x new
  shuffled_within chance zero h x new same all = ([], same ∙ sym all)
  shuffled_within chance (suc more) h x new (inl part) all =
      part_within (MovesBy cluster corpus script (next_number chance)) h x new part (shuffling_later chance (suc more) h new all)
      (λ whole m. shuffling_later (next_number chance) more whole new (shuffles_on chance more h whole new m all))
  shuffled_within chance (suc more) h x new (inr (next, m, others)) all = shuffled_within (next_number chance) more next x new others (shuffles_on chance more h next new m all)

  -- ---- draining

  empties_on : (h rested : List Event) (due : ℕ) (new : List Event) → Settles cluster corpus script h rested → IsNextDue cluster corpus script due rested → Empties cluster corpus script h new
      → Empties cluster corpus script (ticked_to due rested) new
  empties_on h rested due new s next (none, ([], start, same, last)) =
      let one : new ≡ rested = settles_one cluster corpus script h new rested (subst (λ x. Settles cluster corpus script x new) same last) s in
      absurd (none_due cluster corpus script rested due (subst NoneLive one none) next)
  empties_on h rested due new s next (none, (resting ∷ more, start, (first, (moment, next_too, rest)), last)) =
      let one : resting ≡ rested = settles_one cluster corpus script h resting rested first s in
      let soonest : moment ≡ due = one_due cluster corpus script rested moment due (subst (λ x. IsNextDue cluster corpus script moment x) one next_too) next in
      (none, (more, start, subst (λ x. StartsAgain cluster corpus script (ticked_to x rested) more start) soonest (subst (λ x. StartsAgain cluster corpus script (ticked_to moment x) more start) one rest), last))

  pub empties_from : (h : List Event) (between : List (List Event)) (start new : List Event) → StartsAgain cluster corpus script h between start → Empties cluster corpus script h new → Empties cluster corpus script start new
  empties_from h [] start new same e = subst (λ x. Empties cluster corpus script x new) (sym same) e
  empties_from h (rested ∷ more) start new (s, (due, next, rest)) e = empties_from (ticked_to due rested) more start new rest (empties_on h rested due new s next e)

  rest_within : (start x new : List Event) → PartlySettles cluster corpus script start x → Empties cluster corpus script start new → IsEarlier x new
  rest_within start x new part (none, ([], begun, same, last)) = settled_within start x new part (subst (λ y. Settles cluster corpus script y new) same last)
  rest_within start x new part (none, (rested ∷ more, begun, (first, (due, next, rest)), last)) =
      let ticked = ticked_to due rested in
      before_both x rested new (settled_within start x rested part first)
      (before_both rested ticked new (before_newest _ rested) (came_before ticked new (emptied cluster corpus script ticked new (none, (more, begun, rest, last)))))

  emptied_within : (h x new : List Event) → PartlyEmpties cluster corpus script h x → Empties cluster corpus script h new → IsEarlier x new
  emptied_within h x new (between, start, starts, part) e = rest_within start x new part (empties_from h between start new starts e)

  -- ---- commands

  does_later : (k : ℕ) (command : Command) → command_at script k ≡ Some command → (h new : List Event) → Does cluster corpus script k command (Begin k ∷ h) new → IsEarlier (Begin k ∷ h) new
  does_later k command at h new d = came_before (Begin k ∷ h) new (turn_of_command cluster corpus script k h new (command, at, d))

  done_within : (k : ℕ) (command : Command) → command_at script k ≡ Some command → (h x new : List Event) → PartlyDoes cluster corpus script k command (Begin k ∷ h) x → Does cluster corpus script k command (Begin k ∷ h) new → IsEarlier x new
  done_within k Settle at h x new part d = settled_within (Begin k ∷ h) x new part d
  done_within k (Shuffle seed moves) at h x new part d = shuffled_within seed moves (Begin k ∷ h) x new part d
  done_within k (WaitFor command) at h x new part d = settled_within (Begin k ∷ h) x new part d
  done_within k command at h x new part d =
      part_within (Does cluster corpus script k command) (Begin k ∷ h) x new part (does_later k command at h new d) (λ whole made. ([], does_one cluster corpus script k command (Begin k ∷ h) whole new made d))

  command_later : (k : ℕ) (h new : List Event) → Commands cluster corpus script k h new → IsEarlier h new
  command_later k h new (command, at, d) = before_both h (Begin k ∷ h) new (before_newest (Begin k) h) (does_later k command at h new d)

  -- a number has one command
  pub command_one : (k : ℕ) (c d : Command) → command_at script k ≡ Some c → command_at script k ≡ Some d → c ≡ d
  command_one k c d at at_too = let both : Some c ≡ Some d = sym at ∙ at_too in cc

  commanded_within : (k : ℕ) (h x new : List Event) → PartlyCommands cluster corpus script k h x → Commands cluster corpus script k h new → IsEarlier x new
  commanded_within k h x new (inl same) c = subst (λ y. IsEarlier y new) (sym same) (command_later k h new c)
  commanded_within k h x new (inr (command, at, part)) (other, at_too, d) =
      done_within k command at h x new part (subst (λ c. Does cluster corpus script k c (Begin k ∷ h) new) (command_one k other command at_too at) d)

  -- ---- runs

  pub in_script : (n : ℕ) (command : Command) → command_at script (suc n) ≡ Some command → n < length script.commands
  in_script n command at = slice_get_within script.commands n command at

  runs_few : (n : ℕ) (h : List Event) → HasRun cluster corpus script n h → n ≤ length script.commands
  runs_few zero h ran = omega arith
  runs_few (suc n) h (before, ran, (command, at, d)) = let low = in_script n command at in omega (arith, low)

  abbrev pub GoesOn : ℕ → List Event → List Event → Type 0
  GoesOn n before end = (next : List Event) × Commands cluster corpus script (suc n) before next × IsEarlier next end

  -- where more commands have run, the next one has
  pub run_goes_on : (most n : ℕ) (end before : List Event) → HasRun cluster corpus script most end → HasRun cluster corpus script n before → n < most → GoesOn n before end
  run_goes_on zero n end before ran so_far low = absurd (omega arith)
  run_goes_on (suc most) n end before (last, ran, c) so_far low = ⊎_elim (λ lt. by_last (run_goes_on most n last before ran so_far lt)) here (cases_lt n most)
    where
      by_last : GoesOn n before last → GoesOn n before end
      by_last (next, d, sooner) = (next, d, before_both next last end sooner (command_later (suc most) last end c))

      here : most ≤ n → GoesOn n before end
      here le =
          let same : most ≡ n = omega (arith, le, low) in
          let one : last ≡ before = has_run_one cluster corpus script n last before (subst (λ m. HasRun cluster corpus script m last) same ran) so_far in
          (end, subst (λ m. Commands cluster corpus script (suc m) before end) same (subst (λ x. Commands cluster corpus script (suc most) x end) one c), ([], refl))

  run_later : (most n : ℕ) (end before : List Event) → HasRun cluster corpus script most end → HasRun cluster corpus script n before → n ≤ most → IsEarlier before end
  run_later most n end before ran so_far low = ⊎_elim earlier here (cases_lt n most)
    where
      by_next : GoesOn n before end → IsEarlier before end
      by_next (next, d, sooner) = before_both before next end (command_later (suc n) before next d) sooner

      earlier : n < most → IsEarlier before end
      earlier lt = by_next (run_goes_on most n end before ran so_far lt)

      here : most ≤ n → IsEarlier before end
      here le =
          let same : most ≡ n = omega (arith, le, low) in
          ([], has_run_one cluster corpus script n before end so_far (subst (λ m. HasRun cluster corpus script m end) same ran))

  drain_later : (h new : List Event) → Drains cluster corpus script h new → IsEarlier h new
  drain_later h new d = before_both h (Begin (closing script) ∷ h) new (before_newest (Begin (closing script)) h) (came_before (Begin (closing script) ∷ h) new (turn_of_drain cluster corpus script h new d))

  -- of all commands there is one past
  pub all_one : (before end : List Event) → HasRun cluster corpus script (length script.commands) before → HasRun cluster corpus script (length script.commands) end → end ≡ before
  all_one before end ran all = has_run_one cluster corpus script (length script.commands) end before all ran

  commands_within : (n : ℕ) (before x end : List Event) → HasRun cluster corpus script n before → PartlyCommands cluster corpus script (suc n) before x → HasRun cluster corpus script (length script.commands) end → IsEarlier x end
  commands_within n before x end ran (inl same) all = subst (λ y. IsEarlier y end) (sym same) (run_later (length script.commands) n end before all ran (runs_few n before ran))
  commands_within n before x end ran (inr (command, at, part)) all = by_next (run_goes_on (length script.commands) n end before all ran (in_script n command at))
    where
      by_next : GoesOn n before end → IsEarlier x end
      by_next (next, d, sooner) = before_both x next end (commanded_within (suc n) before x next (inr (command, at, part)) d) sooner

  drain_within : (before x new : List Event) → PartlyDrains cluster corpus script before x → Drains cluster corpus script before new → IsEarlier x new
  drain_within before x new (inl same) d = subst (λ y. IsEarlier y new) (sym same) (drain_later before new d)
  drain_within before x new (inr part) d = emptied_within (Begin (closing script) ∷ before) x new part d

  -- So a run so far is a first part of the whole run.
  pub so_far_within : (past whole : List Event) → IsRunSoFar cluster corpus script past → IsRun cluster corpus script whole → IsEarlier past whole
  so_far_within past whole (inl (n, before, ran, part)) (end, all, drains) = before_both past end whole (commands_within n before past end ran part all) (drain_later end whole drains)
  so_far_within past whole (inr (before, ran, part)) (end, all, drains) =
      drain_within before past whole part (subst (λ x. Drains cluster corpus script x whole) (all_one before end ran all) drains)

  -- Where a history is full and the run goes on, the whole run has more events.
  pub full_is_longer : (past whole : List Event) → StopsRun cluster corpus script past HistoryFull → IsRun cluster corpus script whole → MAX_EVENTS < length whole
  full_is_longer past whole (full, e, part) run =
      let within = so_far_within (e ∷ past) whole part run in
      let all : length within.0 + length (e ∷ past) ≡ length whole = sym (length-append within.0 (e ∷ past)) ∙ ap length within.1 in
      omega (arith, full, all)
