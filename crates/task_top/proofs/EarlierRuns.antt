-- At each earlier moment of a run so far there was a run so far: each move is made event by event, and a first part of it is one.
use Rattle.std.proofs.Common.{◌≡◌, ◌⊎◌, ℕ, zero, suc, List, [], ◌∷◌, ◌++◌, Some, refl, sym, ap, subst, ◌∙◌, inl, inr, ⊎_elim, append_assoc}
use Rattle.task_ids.specs.declared.cluster.Cluster.{Cluster}
use Rattle.task_ids.specs.declared.corpus.Corpus.{Corpus}
use Rattle.task_events.specs.declared.event.Event.{Event}
use Rattle.task_events.specs.declared.event.Event.TheVariants.{Begin}
use Rattle.script_lang.specs.declared.command.Command.{Command}
use Rattle.script_lang.specs.declared.command.Command.TheVariants.{Settle, Shuffle, WaitFor}
use Rattle.script_lang.specs.declared.command.Script.{Script}
use Rattle.script_lang.specs.Generator.{next_number}
use Rattle.command_roots.specs.Roots.{command_at}
use Rattle.world_moves.specs.Moves.{IsPartly}
use Rattle.world_steps.specs.Draining.{IsNextDue, PartlyEmpties, StartsAgain, ticked_to}
use Rattle.world_steps.specs.Runs.{FirstMoves, PartlySettles, Passes, Settles}
use Rattle.world_steps.specs.Scripts.{closing, Does, HasRun, IsRunSoFar, PartlyCommands, PartlyDoes, PartlyDrains}
use Rattle.world_steps.specs.Shuffling.{MovesBy, PartlyShuffles, Shuffles}
use Rattle.world_steps.proofs.HadBefore.{wholly}
use Rattle.world_steps.proofs.Turning.{Follows, moved, shuffled, turn_of_command}

-- ---- earlier moments

-- the one past is the other, as it was at an earlier moment
abbrev pub IsEarlier : List Event → List Event → Type 0
IsEarlier past h = (later : List Event) × (later ++ past ≡ h)

rest_same : (d f : Event) (xs ys : List Event) → d ∷ xs ≡ f ∷ ys → xs ≡ ys
rest_same d f xs ys e = cc

pub nothing_before : (later past : List Event) → later ++ past ≡ [] → past ≡ []
nothing_before [] past e = e
nothing_before (d ∷ later) past e = absurd (cc)

-- what is earlier than a past with one event more is that, or earlier than the past
but_newest : (past h : List Event) (e : Event) → IsEarlier past (e ∷ h) → (past ≡ e ∷ h) ⊎ IsEarlier past h
but_newest past h e ([], same) = inl same
but_newest past h e (d ∷ later, same) = inr (later, rest_same d e (later ++ past) h same)

-- of two moments of one history one is the earlier
one_is_earlier : (later events past h : List Event) → later ++ past ≡ events ++ h → IsEarlier past h ⊎ IsEarlier h past
one_is_earlier [] events past h e = inr (events, sym e)
one_is_earlier (d ∷ later) [] past h e = inl (d ∷ later, e)
one_is_earlier (d ∷ later) (f ∷ events) past h e = one_is_earlier later events past h (rest_same d f (later ++ past) (events ++ h) e)

-- before a first part of a move there was the past before the move, or a smaller part
part_before : (Moves : List Event → List Event → Type 0) (h new past : List Event) → IsPartly Moves h new → IsEarlier past new → IsEarlier past h ⊎ IsPartly Moves h past
part_before Moves h new past (inl same) (later, e) = inl (later, e ∙ same)
part_before Moves h new past (inr (whole, made, (after, before, split, rest))) (later, e) =
    ⊎_elim
    (λ sooner. inl sooner)
    (λ since. inr (inr (whole, made, (after ++ later, since.0, split ∙ ap (λ x. after ++ x) (sym e) ∙ sym (append_assoc after later past), sym since.1))))
    (one_is_earlier later before past h (e ∙ rest))

-- and so before a whole one
move_before : (Moves : List Event → List Event → Type 0) (h new past : List Event) → Moves h new → Follows h new → IsEarlier past new → IsEarlier past h ⊎ IsPartly Moves h past
move_before Moves h new past made follows sooner = part_before Moves h new past (wholly Moves h new made follows) sooner

module _ (cluster : Cluster) (corpus : Corpus) (script : Script) where
  -- ---- settling

  none_settled : (h : List Event) → PartlySettles cluster corpus script h h
  none_settled h = ([], h, refl, inl refl)

  after_first : (h next past : List Event) → FirstMoves cluster corpus script h next → PartlySettles cluster corpus script next past → PartlySettles cluster corpus script h past
  after_first h next past m (between, now, p, part) = (next ∷ between, now, (m, p), part)

  first_before : (h next past : List Event) → FirstMoves cluster corpus script h next → IsEarlier past next → IsEarlier past h ⊎ PartlySettles cluster corpus script h past
  first_before h next past m sooner =
      ⊎_elim (λ at. inl at) (λ part. inr ([], h, refl, part)) (move_before (FirstMoves cluster corpus script) h next past m (moved cluster corpus script h next m) sooner)

  passed_before : (h : List Event) (between : List (List Event)) (now past : List Event) → Passes cluster corpus script h between now → IsEarlier past now → IsEarlier past h ⊎ PartlySettles cluster corpus script h past
  passed_before h [] now past same (later, e) = inl (later, e ∙ sym same)
  passed_before h (next ∷ more) now past (m, p) sooner =
      ⊎_elim (λ at. first_before h next past m at) (λ part. inr (after_first h next past m part)) (passed_before next more now past p sooner)

  settled_before : (h now past : List Event) → Settles cluster corpus script h now → IsEarlier past now → IsEarlier past h ⊎ PartlySettles cluster corpus script h past
  settled_before h now past (rests, (between, p)) sooner = passed_before h between now past p sooner

  partly_settled_before : (h new past : List Event) → PartlySettles cluster corpus script h new → IsEarlier past new → IsEarlier past h ⊎ PartlySettles cluster corpus script h past
  partly_settled_before h new past (between, now, p, part) sooner =
      ⊎_elim (λ at. passed_before h between now past p at) (λ less. inr (between, now, p, less)) (part_before (FirstMoves cluster corpus script) now new past part sooner)

  -- ---- shuffles

  none_shuffled : (chance more : ℕ) (h : List Event) → PartlyShuffles cluster corpus script chance more h h
  none_shuffled chance zero h = refl
  none_shuffled chance (suc more) h = inl (inl refl)

  -- one move of a shuffle
  pub moved_by : (chance : ℕ) (h next : List Event) → MovesBy cluster corpus script (next_number chance) h next → Follows h next
  moved_by chance h next m = shuffled cluster corpus script chance (suc zero) h next (inr (next, m, refl))

  made_before : (chance more : ℕ) (h next past : List Event) → MovesBy cluster corpus script (next_number chance) h next → IsEarlier past next → IsEarlier past h ⊎ PartlyShuffles cluster corpus script chance (suc more) h past
  made_before chance more h next past m sooner =
      ⊎_elim (λ at. inl at) (λ part. inr (inl part)) (move_before (MovesBy cluster corpus script (next_number chance)) h next past m (moved_by chance h next m) sooner)

  shuffled_before : (chance more : ℕ) (h new past : List Event) → Shuffles cluster corpus script chance more h new → IsEarlier past new → IsEarlier past h ⊎ PartlyShuffles cluster corpus script chance more h past
  shuffled_before chance zero h new past same (later, e) = inl (later, e ∙ same)
  shuffled_before chance (suc more) h new past (inl (rests, same)) (later, e) = inl (later, e ∙ same)
  shuffled_before chance (suc more) h new past (inr (next, m, others)) sooner =
      ⊎_elim (λ at. made_before chance more h next past m at) (λ part. inr (inr (next, m, part))) (shuffled_before (next_number chance) more next new past others sooner)

  partly_shuffled_before : (chance more : ℕ) (h new past : List Event) → PartlyShuffles cluster corpus script chance more h new → IsEarlier past new → IsEarlier past h ⊎ PartlyShuffles cluster corpus script chance more h past
  partly_shuffled_before chance zero h new past same (later, e) = inl (later, e ∙ same)
  partly_shuffled_before chance (suc more) h new past (inl part) sooner =
      ⊎_elim (λ at. inl at) (λ less. inr (inl less)) (part_before (MovesBy cluster corpus script (next_number chance)) h new past part sooner)
  partly_shuffled_before chance (suc more) h new past (inr (next, m, others)) sooner =
      ⊎_elim (λ at. made_before chance more h next past m at) (λ part. inr (inr (next, m, part))) (partly_shuffled_before (next_number chance) more next new past others sooner)

  -- ---- draining

  none_emptied : (h : List Event) → PartlyEmpties cluster corpus script h h
  none_emptied h = ([], h, refl, none_settled h)

  after_rest : (h rested : List Event) (due : ℕ) (past : List Event) → Settles cluster corpus script h rested → IsNextDue cluster corpus script due rested
      → PartlyEmpties cluster corpus script (ticked_to due rested) past → PartlyEmpties cluster corpus script h past
  after_rest h rested due past settles next (between, start, starts, part) = (rested ∷ between, start, (settles, (due, next, starts)), part)

  rested_before : (h rested past : List Event) → Settles cluster corpus script h rested → IsEarlier past rested → IsEarlier past h ⊎ PartlyEmpties cluster corpus script h past
  rested_before h rested past settles sooner = ⊎_elim (λ at. inl at) (λ part. inr ([], h, refl, part)) (settled_before h rested past settles sooner)

  ticked_before : (h rested : List Event) (due : ℕ) (past : List Event) → Settles cluster corpus script h rested → IsNextDue cluster corpus script due rested
      → IsEarlier past (ticked_to due rested) → IsEarlier past h ⊎ PartlyEmpties cluster corpus script h past
  ticked_before h rested due past settles next sooner =
      ⊎_elim
      (λ same. inr (after_rest h rested due past settles next (subst (PartlyEmpties cluster corpus script (ticked_to due rested)) (sym same) (none_emptied (ticked_to due rested)))))
      (λ at. rested_before h rested past settles at)
      (but_newest past rested _ sooner)

  started_before : (h : List Event) (between : List (List Event)) (start past : List Event) → StartsAgain cluster corpus script h between start → IsEarlier past start → IsEarlier past h ⊎ PartlyEmpties cluster corpus script h past
  started_before h [] start past same (later, e) = inl (later, e ∙ same)
  started_before h (rested ∷ more) start past (settles, (due, next, rest)) sooner =
      ⊎_elim (λ at. ticked_before h rested due past settles next at) (λ part. inr (after_rest h rested due past settles next part)) (started_before (ticked_to due rested) more start past rest sooner)

  partly_emptied_before : (h new past : List Event) → PartlyEmpties cluster corpus script h new → IsEarlier past new → IsEarlier past h ⊎ PartlyEmpties cluster corpus script h past
  partly_emptied_before h new past (between, start, starts, part) sooner =
      ⊎_elim (λ at. started_before h between start past starts at) (λ less. inr (between, start, starts, less)) (partly_settled_before start new past part sooner)

  partly_drained_before : (h new past : List Event) → PartlyDrains cluster corpus script h new → IsEarlier past new → IsEarlier past h ⊎ PartlyDrains cluster corpus script h past
  partly_drained_before h new past (inl same) (later, e) = inl (later, e ∙ same)
  partly_drained_before h new past (inr part) sooner =
      ⊎_elim begun (λ less. inr (inr less)) (partly_emptied_before (Begin (closing script) ∷ h) new past part sooner)
    where
      begun : IsEarlier past (Begin (closing script) ∷ h) → IsEarlier past h ⊎ PartlyDrains cluster corpus script h past
      begun at =
          ⊎_elim
          (λ same. inr (inr (subst (PartlyEmpties cluster corpus script (Begin (closing script) ∷ h)) (sym same) (none_emptied (Begin (closing script) ∷ h)))))
          (λ before. inl before)
          (but_newest past h (Begin (closing script)) at)

  -- ---- commands

  none_done : (k : ℕ) (command : Command) (h : List Event) → PartlyDoes cluster corpus script k command h h
  none_done k Settle h = none_settled h
  none_done k (Shuffle seed moves) h = none_shuffled seed moves h
  none_done k (WaitFor command) h = none_settled h
  none_done k _ h = inl refl

  done_before : (k : ℕ) (command : Command) → command_at script k ≡ Some command → (h new past : List Event) → Does cluster corpus script k command (Begin k ∷ h) new → IsEarlier past new
      → IsEarlier past (Begin k ∷ h) ⊎ PartlyDoes cluster corpus script k command (Begin k ∷ h) past
  done_before k Settle at h new past d sooner = settled_before (Begin k ∷ h) new past d sooner
  done_before k (Shuffle seed moves) at h new past d sooner = shuffled_before seed moves (Begin k ∷ h) new past d sooner
  done_before k (WaitFor command) at h new past d sooner = settled_before (Begin k ∷ h) new past d sooner
  done_before k command at h new past d sooner = move_before (Does cluster corpus script k command) (Begin k ∷ h) new past d (turn_of_command cluster corpus script k h new (command, at, d)) sooner

  partly_done_before : (k : ℕ) (command : Command) (h new past : List Event) → PartlyDoes cluster corpus script k command h new → IsEarlier past new → IsEarlier past h ⊎ PartlyDoes cluster corpus script k command h past
  partly_done_before k Settle h new past part sooner = partly_settled_before h new past part sooner
  partly_done_before k (Shuffle seed moves) h new past part sooner = partly_shuffled_before seed moves h new past part sooner
  partly_done_before k (WaitFor command) h new past part sooner = partly_settled_before h new past part sooner
  partly_done_before k command h new past part sooner = part_before (Does cluster corpus script k command) h new past part sooner

  begun_before : (k : ℕ) (command : Command) → command_at script k ≡ Some command → (h past : List Event) → IsEarlier past (Begin k ∷ h) ⊎ PartlyDoes cluster corpus script k command (Begin k ∷ h) past
      → IsEarlier past h ⊎ PartlyCommands cluster corpus script k h past
  begun_before k command at h past (inr part) = inr (inr (command, at, part))
  begun_before k command at h past (inl sooner) =
      ⊎_elim
      (λ same. inr (inr (command, at, subst (PartlyDoes cluster corpus script k command (Begin k ∷ h)) (sym same) (none_done k command (Begin k ∷ h)))))
      (λ before. inl before)
      (but_newest past h (Begin k) sooner)

  partly_commanded_before : (k : ℕ) (h new past : List Event) → PartlyCommands cluster corpus script k h new → IsEarlier past new → IsEarlier past h ⊎ PartlyCommands cluster corpus script k h past
  partly_commanded_before k h new past (inl same) (later, e) = inl (later, e ∙ same)
  partly_commanded_before k h new past (inr (command, at, part)) sooner = begun_before k command at h past (partly_done_before k command (Begin k ∷ h) new past part sooner)

  -- ---- runs

  run_before : (n : ℕ) (h past : List Event) → HasRun cluster corpus script n h → IsEarlier past h → IsRunSoFar cluster corpus script past
  run_before zero h past none (later, e) = inl (zero, [], refl, inl (nothing_before later past (e ∙ none)))
  run_before (suc n) h past (before, ran, (command, at, d)) sooner =
      ⊎_elim (λ earlier. run_before n before past ran earlier) (λ part. inl (n, before, ran, part)) (begun_before (suc n) command at before past (done_before (suc n) command at before h past d sooner))

  pub so_far_before : (h past : List Event) → IsRunSoFar cluster corpus script h → IsEarlier past h → IsRunSoFar cluster corpus script past
  so_far_before h past (inl (n, before, ran, part)) sooner =
      ⊎_elim (λ earlier. run_before n before past ran earlier) (λ less. inl (n, before, ran, less)) (partly_commanded_before (suc n) before h past part sooner)
  so_far_before h past (inr (before, ran, part)) sooner =
      ⊎_elim (λ earlier. run_before _ before past ran earlier) (λ less. inr (before, ran, less)) (partly_drained_before before h past part sooner)
