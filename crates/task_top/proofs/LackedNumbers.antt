-- Where the next event of a run needs a number that its node has not, there is no whole run: no task has that number.
use Rattle.std.proofs.Common.{◌≡◌, ◌<◌, ℕ, zero, suc, Bool, true, false, List, [], ◌∷◌, length, Some, sym, subst, ◌∙◌, inl, inr, arith}
use Rattle.std.proofs.lemmas.Option.{slice_get_within}
use Rattle.task_ids.specs.declared.cluster.Cluster.{Cluster}
use Rattle.task_ids.specs.declared.corpus.Corpus.{Corpus}
use Rattle.task_ids.specs.declared.task_id.TaskId.{TaskId}
use Rattle.task_events.specs.declared.event.Event.{Event}
use Rattle.task_events.specs.declared.event.Event.TheVariants.{Begin, Root, RootRejected, Put, Reject}
use Rattle.task_events.specs.declared.request.Request.{Request as AskedFor}
use Rattle.task_events.specs.declared.stop.Stop.TheVariants.{NumbersSpent}
use Rattle.task_events.specs.Allowed.{TakesSlot}
use Rattle.task_events.specs.Messages.{Message, in_flight}
use Rattle.task_events.specs.Messages.Message.{Request}
use Rattle.task_events.specs.Tasks.{last_number}
use Rattle.script_lang.specs.declared.command.Command.{Command}
use Rattle.script_lang.specs.declared.command.Command.TheVariants.{Search, Scroll, ClearScroll, Reindex, Cancel, ListTasks, GetTask, ForgetTask, ListResults, Tick, Deliver, Step, ListStep, Settle, Shuffle, WaitFor, History, Summary}
use Rattle.script_lang.specs.declared.command.Script.{Script}
use Rattle.script_lang.specs.Generator.{next_number}
use Rattle.world_moves.specs.Moves.{greatest_number, IsDelivery, Delivers, IsStart, NodeLacksNumber, LacksNumber, DeliveryLacksNumber}
use Rattle.world_steps.specs.declared.shuffling.Move.{Move}
use Rattle.world_steps.specs.declared.shuffling.Move.TheVariants as moves
use Rattle.world_steps.specs.Draining.{Empties, EmptyingLacksNumber}
use Rattle.world_steps.specs.Runs.{FirstMoves, Settles, SettlingLacksNumber}
use Rattle.world_steps.specs.Scripts.{closing, page_node, StartsWhere, CommandLacksNumber, Does, Drains, IsRun, NumberedLacksNumber, StopsRun}
use Rattle.world_steps.specs.Shuffling.{Makes, MoveLacksNumber, Shuffles, ShufflingLacksNumber}
use Rattle.world_steps.proofs.Determined.{chooses_one}
use Rattle.task_top.proofs.WholeRuns.{GoesOn, all_one, command_one, empties_from, in_script, run_goes_on, settles_from, shuffles_on}

module _ (cluster : Cluster) (h : List Event) where
  -- ---- tasks

  -- no task takes the number after the last
  no_task : (t : TaskId) (n : ℕ) → TakesSlot cluster t h → t.node ≡ n → NodeLacksNumber cluster h n → ⊥
  unfolding greatest_number
  no_task t n takes at lacks =
      let last : last_number t.node h ≡ last_number n h = λ i. last_number (at i) h in
      omega (arith, takes.next, last, lacks.1, t.number_in_range.1)

  started_none : (k node : ℕ) (started : Bool) (e : Event) → IsStart cluster h k node started e → NodeLacksNumber cluster h node → ⊥
  started_none k node true (Root c t) (takes, at, command) lacks = no_task t node takes at lacks
  started_none k node false (RootRejected c n) (full, at, command) lacks = omega (arith, full, lacks.0)
  started_none k node true _ s lacks = s
  started_none k node false _ s lacks = s

  starts_none : (k node : ℕ) (new : List Event) → NodeLacksNumber cluster h node → StartsWhere cluster true k node h new → ⊥
  starts_none k node new lacks (started, (e, is, same)) = started_none k node started e is lacks

  -- ---- messages

  requested_none : (p : TaskId) (k n : ℕ) (r : AskedFor) (e : Event) → IsDelivery cluster h (Request p k n r) e → NodeLacksNumber cluster h n → ⊥
  requested_none p k n r (Put t q j) (takes, at, asker, ask) lacks = no_task t n takes at lacks
  requested_none p k n r (Reject m q j) (full, at, asker, ask) lacks = omega (arith, full, lacks.0)
  requested_none p k n r _ d lacks = d

  message_none : (m : Message) (e : Event) → IsDelivery cluster h m e → LacksNumber cluster h m → ⊥
  message_none (Request p k n r) e d lacks = requested_none p k n r e d lacks
  message_none _ e d lacks = lacks

  delivers_none : (nth : ℕ) (new : List Event) → DeliveryLacksNumber cluster h nth → Delivers cluster h nth new → ⊥
  delivers_none nth new (m, at, lacks) (l, e, at_too, is, same) =
      let both : Some l ≡ Some m = sym at_too ∙ at in
      let one : l ≡ m = cc in
      message_none m e (subst (λ x. IsDelivery cluster h x e) one is) lacks

  -- it is in flight
  there_is : (nth : ℕ) → DeliveryLacksNumber cluster h nth → nth < length (in_flight h)
  there_is nth (m, at, lacks) = slice_get_within (in_flight h) nth m at

  not_empty : (nth : ℕ) → DeliveryLacksNumber cluster h nth → in_flight h ≡ [] → ⊥
  not_empty nth lacks none = let low = there_is nth lacks in let gone : length (in_flight h) ≡ 0 = λ i. length (none i) in omega (arith, low, gone)

module _ (cluster : Cluster) (corpus : Corpus) (script : Script) where
  -- ---- settling

  first_none : (h new : List Event) → DeliveryLacksNumber cluster h 0 → FirstMoves cluster corpus script h new → ⊥
  first_none h new lacks (inl d) = delivers_none cluster h 0 new lacks d
  first_none h new lacks (inr (inl (none, rest))) = not_empty cluster h 0 lacks none
  first_none h new lacks (inr (inr (none, closed, rest))) = not_empty cluster h 0 lacks none

  rests_none : (h new : List Event) → DeliveryLacksNumber cluster h 0 → Settles cluster corpus script h new → ⊥
  rests_none h new lacks (rests, ([], same)) = not_empty cluster new 0 (subst (λ x. DeliveryLacksNumber cluster x 0) same lacks) rests.nothing_in_flight
  rests_none h new lacks (rests, (step ∷ more, (m, p))) = first_none h step lacks m

  settles_none : (h past new : List Event) → SettlingLacksNumber cluster corpus script h past → Settles cluster corpus script h new → ⊥
  settles_none h past new (between, p, lacks) s = rests_none past new lacks (settles_from cluster corpus script h between past new p s)

  -- ---- shuffles

  makes_none : (move : Move) (h new : List Event) → MoveLacksNumber cluster corpus script move h → Makes cluster corpus script move h new → ⊥
  makes_none (moves.Deliver nth) h new lacks m = delivers_none cluster h nth new lacks m
  makes_none (moves.List l) h new lacks m = lacks
  makes_none (moves.Step t) h new lacks m = lacks

  move_not_settled : (move : Move) (h : List Event) → MoveLacksNumber cluster corpus script move h → in_flight h ≡ [] → ⊥
  move_not_settled (moves.Deliver nth) h lacks none = not_empty cluster h nth lacks none
  move_not_settled (moves.List l) h lacks none = lacks
  move_not_settled (moves.Step t) h lacks none = lacks

  shuffles_none : (chance more : ℕ) (h past new : List Event) → ShufflingLacksNumber cluster corpus script chance more h past → Shuffles cluster corpus script chance more h new → ⊥
  shuffles_none chance zero h past new lacks s = lacks
  shuffles_none chance (suc more) h past new (inl ((move, chosen, lacks), same)) (inl (rests, still)) = move_not_settled move h lacks rests.nothing_in_flight
  shuffles_none chance (suc more) h past new (inl ((move, chosen, lacks), same)) (inr (next, (other, chosen_too, made), others)) =
      let one : other ≡ move = chooses_one cluster corpus script (next_number chance) other move h chosen_too chosen in
      makes_none move h next lacks (subst (λ m. Makes cluster corpus script m h next) one made)
  shuffles_none chance (suc more) h past new (inr (next, m, lacks)) s = shuffles_none (next_number chance) more next past new lacks (shuffles_on cluster corpus script chance more h next new m s)

  -- ---- draining

  starts_again_none : (h past new : List Event) → SettlingLacksNumber cluster corpus script h past → Empties cluster corpus script h new → ⊥
  starts_again_none h past new lacks (none, ([], start, same, s)) = settles_none h past new lacks (subst (λ x. Settles cluster corpus script x new) same s)
  starts_again_none h past new lacks (none, (rested ∷ more, start, (s, rest), last)) = settles_none h past rested lacks s

  empties_none : (h past new : List Event) → EmptyingLacksNumber cluster corpus script h past → Empties cluster corpus script h new → ⊥
  empties_none h past new (between, start, starts, lacks) e = starts_again_none start past new lacks (empties_from cluster corpus script h between start new starts e)

  -- ---- commands

  does_none : (k : ℕ) (command : Command) (h past new : List Event) → CommandLacksNumber cluster corpus script command h past → Does cluster corpus script k command h new → ⊥
  does_none k (Search index node scroll body opaque_id) h past new (can, lacks, same) d = starts_none cluster h k node new lacks (subst (λ b. StartsWhere cluster b k node h new) can d)
  does_none k (Scroll target keep opaque_id) h past new (can, lacks, same) d = starts_none cluster h k (page_node target h) new lacks (subst (λ b. StartsWhere cluster b k (page_node target h) h new) can d)
  does_none k (Reindex node body slices rate opaque_id store) h past new (can, lacks, same) d = starts_none cluster h k node new lacks (subst (λ b. StartsWhere cluster b k node h new) can d)
  does_none k (Deliver nth) h past new (lacks, same) (inl d) = delivers_none cluster h nth new lacks d
  does_none k (Deliver nth) h past new (lacks, same) (inr (beyond, still)) = let low = there_is cluster h nth lacks in omega (arith, low, beyond)
  does_none k Settle h past new lacks d = settles_none h past new lacks d
  does_none k (Shuffle seed more) h past new lacks d = shuffles_none seed more h past new lacks d
  does_none k (WaitFor command) h past new lacks d = settles_none h past new lacks d
  does_none k (ClearScroll target) h past new lacks d = lacks
  does_none k (Cancel target reason wait) h past new lacks d = lacks
  does_none k (ListTasks wanted group detailed) h past new lacks d = lacks
  does_none k (GetTask task wait) h past new lacks d = lacks
  does_none k (ForgetTask task) h past new lacks d = lacks
  does_none k ListResults h past new lacks d = lacks
  does_none k (Tick ms) h past new lacks d = lacks
  does_none k (Step task) h past new lacks d = lacks
  does_none k (ListStep node parent) h past new lacks d = lacks
  does_none k History h past new lacks d = lacks
  does_none k Summary h past new lacks d = lacks

  goes_on_none : (n : ℕ) (before past end : List Event) → NumberedLacksNumber cluster corpus script (suc n) before past → GoesOn cluster corpus script n before end → ⊥
  goes_on_none n before past end (command, at, lacks) (next, (other, at_too, d), sooner) =
      let one = command_one cluster corpus script (suc n) other command at_too at in
      does_none (suc n) command (Begin (suc n) ∷ before) past next lacks (subst (λ c. Does cluster corpus script (suc n) c (Begin (suc n) ∷ before) next) one d)

  number_there : (n : ℕ) (before past : List Event) → NumberedLacksNumber cluster corpus script (suc n) before past → n < length script.commands
  number_there n before past (command, at, lacks) = in_script cluster corpus script n command at

  -- So where numbers are spent there is no whole run.
  pub spent_is_none : (past whole : List Event) → StopsRun cluster corpus script past NumbersSpent → IsRun cluster corpus script whole → ⊥
  spent_is_none past whole (inl (n, before, ran, lacks)) (end, all, drains) =
      goes_on_none n before past end lacks (run_goes_on cluster corpus script (length script.commands) n end before all ran (number_there n before past lacks))
  spent_is_none past whole (inr (before, ran, lacks)) (end, all, drains) =
      empties_none (Begin (closing script) ∷ before) past whole lacks (subst (λ x. Drains cluster corpus script x whole) (all_one cluster corpus script before end ran all) drains)
