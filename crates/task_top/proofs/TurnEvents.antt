-- The events of a command are those of its turn.
use Rattle.std.proofs.Common.{◌≡◌, ◌≢◌, ◌≤◌, ◌<◌, ℕ, zero, suc, ◌+◌, Bool, true, false, cond, List, [], ◌∷◌, ◌++◌, reverse, length, Some, refl, sym, ap, subst, ◌∙◌, append_assoc, append-nil, add-one, arith, ⊎_elim}
use Rattle.std.proofs.lemmas.Option.{same_Some}
use mathlib.Core.List.{reverse-cons}
use Rattle.std.specs.Prelude.{◌==◌}
use Rattle.std.specs.List.{list_any}
use Rattle.std.proofs.lemmas.List.{append_cancel_right, length-append, length-reverse}
use Rattle.std.proofs.lemmas.Bool.{cases_lt, eq-eqb, ne_eqb}
use Rattle.task_ids.specs.declared.cluster.Cluster.{Cluster}
use Rattle.task_ids.specs.declared.corpus.Corpus.{Corpus}
use Rattle.task_events.specs.declared.event.Event.{Event}
use Rattle.task_events.specs.declared.event.Event.TheVariants.{Begin}
use Rattle.task_events.specs.Turns.{is_begin, begun, events_while, events_of, history_before}
use Rattle.script_lang.specs.declared.command.Command.{Command}
use Rattle.script_lang.specs.declared.command.Script.{Script}
use Rattle.command_roots.specs.Roots.{command_at}
use Rattle.world_steps.specs.Scripts.{IsTurn, Commands, Does, HasRun, IsRun, closing}
use Rattle.world_steps.proofs.Turning.{turn_of_command, turn_of_drain}
use Rattle.task_top.proofs.ProgressLemmas.{begun_after, begun_more, before_stays, before_next, both_false}

-- none came while so many had begun, where fewer have
none_later : (k : ℕ) (h : List Event) → begun h < k → events_of k h ≡ []
none_later k [] low = refl
none_later k (e ∷ h) low = by_kind (none_later k h) (is_begin e) refl
  where
    by_kind : (begun h < k → events_of k h ≡ []) → (b : Bool) → is_begin e ≡ b → events_of k (e ∷ h) ≡ []
    by_kind earlier true is =
        let fewer : begun h < k = (let more : begun (e ∷ h) ≡ begun h + 1 = rw is refl in omega arith) in
        rw is (earlier fewer)
    by_kind earlier false is =
        let same : begun (e ∷ h) ≡ begun h = rw is refl in
        let fewer : begun h < k = omega arith in
        let apart : (begun h == k) ≡ false = ne_eqb (begun h) k (λ equal. omega arith) in
        rw (is, apart) (earlier fewer)

-- the events of the turn come after those before it
turn_added : (test : ℕ → Bool) (k : ℕ) (events h : List Event) → list_any is_begin events ≡ false → events_while test (events ++ Begin k ∷ h) ≡ events_while test h ++ cond (test (begun h + 1)) (reverse events) []
turn_added test k [] h none = by_test (test (begun h + 1))
  where
    by_test : (b : Bool) → events_while test h ≡ events_while test h ++ cond b [] []
    by_test true = sym (append-nil (events_while test h))
    by_test false = sym (append-nil (events_while test h))
turn_added test k (e ∷ events) h none =
    let parts = both_false (is_begin e) (list_any is_begin events) none in
    let before = turn_added test k events h parts.1 in
    let many = begun_after k events h parts.1 in
    rw (parts.0, many) (by_test (test (begun h + 1)) before)
  where
    by_test : (b : Bool) → events_while test (events ++ Begin k ∷ h) ≡ events_while test h ++ cond b (reverse events) []
        → cond b (events_while test (events ++ Begin k ∷ h) ++ e ∷ []) (events_while test (events ++ Begin k ∷ h)) ≡ events_while test h ++ cond b (reverse (e ∷ events)) []
    by_test true before =
        ap (λ l. l ++ e ∷ []) before ∙ append_assoc (events_while test h) (reverse events) (e ∷ []) ∙ ap (λ l. events_while test h ++ l) (sym (reverse-cons e events))
    by_test false before = before

module _ (k : ℕ) (old new : List Event) (turn : IsTurn k old new) where
  -- those of an earlier command stay
  earlier_stay : (j : ℕ) → j ≤ begun old → events_of j new ≡ events_of j old
  earlier_stay j low =
      let apart : (begun old + 1 == j) ≡ false = ne_eqb (begun old + 1) j (λ equal. omega arith) in
      ap (events_of j) turn.1 ∙ turn_added (λ n. n == j) k turn.0 old turn.2 ∙ ap (λ b. events_of j old ++ cond b (reverse turn.0) []) apart ∙ append-nil (events_of j old)

  -- those of this one are those of the turn
  pub turn_events : (j : ℕ) → j ≡ begun old + 1 → events_of j new ≡ reverse turn.0
  turn_events j next =
      let same : (begun old + 1 == j) ≡ true = eq-eqb (begun old + 1) j (sym next) in
      ap (events_of j) turn.1 ∙ turn_added (λ n. n == j) k turn.0 old turn.2
      ∙ (λ i. none_later j old (omega arith) i ++ cond (same i) (reverse turn.0) [])

-- ---- the turn of a command in a run

-- what a command did in its turn, and what of it stands in the whole
pub record HasDone (cluster : Cluster) (corpus : Corpus) (script : Script) (k : ℕ) (command : Command) (h : List Event) : Type 0 where
  pub before : List Event
  pub after : List Event
  pub later : List Event
  pub stands : h ≡ later ++ after
  pub does : Does cluster corpus script k command (Begin k ∷ before) after
  pub turn : IsTurn k before after
  pub past : history_before k h ≡ before
  pub told : events_of k h ≡ reverse turn.0

module _ (cluster : Cluster) (corpus : Corpus) (script : Script) (k : ℕ) (command : Command) (h : List Event) (done : HasDone cluster corpus script k command h) where
  -- its events are those that came in its turn
  pub told_as : (events : List Event) → done.after ≡ events ++ Begin k ∷ done.before → events_of k h ≡ reverse events
  told_as events same = done.told ∙ ap reverse (append_cancel_right done.turn.0 events (Begin k ∷ done.before) (sym done.turn.1 ∙ same))

  -- they are some where its turn made the history longer
  pub some_told : length done.before + 1 < length done.after → events_of k h ≢ []
  some_told longer = λ none.
      let nothing : length done.turn.0 ≡ 0 = sym (length-reverse done.turn.0) ∙ ap length (sym done.told ∙ none) in
      let all : length done.after ≡ length done.turn.0 + length (Begin k ∷ done.before) = ap length done.turn.1 ∙ length-append done.turn.0 (Begin k ∷ done.before) in
      omega (arith, nothing, all, longer)

module _ (cluster : Cluster) (corpus : Corpus) (script : Script) where
  -- as many commands have begun as have run
  pub begun_in_run : (n : ℕ) (h : List Event) → HasRun cluster corpus script n h → begun h ≡ n
  begun_in_run zero h none = ap begun none
  begun_in_run (suc n) h (before, runs, commands) =
      let turn = turn_of_command cluster corpus script (suc n) before h commands in
      begun_more (suc n) before h turn ∙ ap (λ m. m + 1) (begun_in_run n before runs) ∙ add-one n

  still_done : (k j : ℕ) (command : Command) (old new : List Event) → IsTurn j old new → k ≤ begun old → HasDone cluster corpus script k command old → HasDone cluster corpus script k command new
  still_done k j command old new turn low done = record {
    before = done.before;
    after = done.after;
    later = turn.0 ++ Begin j ∷ done.later;
    stands = turn.1 ∙ ap (λ l. turn.0 ++ Begin j ∷ l) done.stands ∙ sym (append_assoc turn.0 (Begin j ∷ done.later) done.after);
    does = done.does;
    turn = done.turn;
    past = before_stays j old new turn k (omega arith) ∙ done.past;
    told = earlier_stay j old new turn k low ∙ done.told;
  }

  -- the newest command
  done_now : (n : ℕ) (before h : List Event) → HasRun cluster corpus script n before → Commands cluster corpus script (suc n) before h → (command : Command) → command_at script (suc n) ≡ Some command → HasDone cluster corpus script (suc n) command h
  done_now n before h runs (there, at, does) command is =
      let turn = turn_of_command cluster corpus script (suc n) before h (there, at, does) in
      let many = begun_in_run n before runs in
      let next : suc n ≡ begun before + 1 = omega (arith, many) in
      record {
        before = before;
        after = h;
        later = [];
        stands = refl;
        does = subst (λ c. Does cluster corpus script (suc n) c (Begin (suc n) ∷ before) h) (same_Some there command (sym at ∙ is)) does;
        turn = turn;
        past = before_stays (suc n) before h turn (suc n) (omega arith) ∙ ap (λ m. history_before m before) next ∙ before_next before;
        told = turn_events (suc n) before h turn (suc n) next;
      }

  done_in_run : (n : ℕ) (h : List Event) → HasRun cluster corpus script n h → (k : ℕ) (command : Command) → 1 ≤ k → k ≤ n → command_at script k ≡ Some command → HasDone cluster corpus script k command h
  done_in_run zero h runs k command low high at = absurd (omega arith)
  done_in_run (suc n) h (before, runs, commands) k command low high at =
      ⊎_elim (λ earlier. older (omega arith) (λ below. done_in_run n before runs k command low below at)) (λ last. newest (omega arith)) (cases_lt k (suc n))
    where
      older : k ≤ n → (k ≤ n → HasDone cluster corpus script k command before) → HasDone cluster corpus script k command h
      older below done =
          let many = begun_in_run n before runs in
          still_done k (suc n) command before h (turn_of_command cluster corpus script (suc n) before h commands) (omega (arith, many)) (done below)

      newest : k ≡ suc n → HasDone cluster corpus script k command h
      newest same =
          let number : command_at script (suc n) ≡ Some command = ap (command_at script) (sym same) ∙ at in
          subst (λ m. HasDone cluster corpus script m command h) (sym same) (done_now n before h runs commands command number)

  pub done_in_whole : (h : List Event) → IsRun cluster corpus script h → (k : ℕ) (command : Command) → 1 ≤ k → k ≤ length script.commands → command_at script k ≡ Some command → HasDone cluster corpus script k command h
  done_in_whole h (before, runs, drains) k command low high at =
      let many = begun_in_run (length script.commands) before runs in
      still_done k (closing script) command before h (turn_of_drain cluster corpus script before h drains) (omega (arith, many)) (done_in_run (length script.commands) before runs k command low high at)
