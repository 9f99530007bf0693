-- Settling begins no command, nor does a first part of it.
use Rattle.std.proofs.Common.{◌≡◌, Bool, true, false, ◌||◌, List, [], ◌∷◌, ◌++◌, sym, ap, ◌∙◌, inl, inr, Result, Ok, Err, OnOk, OnErr}
use Rattle.std.specs.List.{list_any}
use Rattle.std.proofs.lemmas.List.{append_assoc, append_cancel_right}
use Rattle.std.proofs.lemmas.List.Folds.{list_any-append}
use Rattle.task_ids.specs.declared.cluster.Cluster.{Cluster}
use Rattle.task_ids.specs.declared.corpus.Corpus.{Corpus}
use Rattle.task_events.specs.declared.event.Event.{Event}
use Rattle.task_events.specs.declared.stop.Stop.{Stop}
use Rattle.task_events.specs.Cancels.{last_command}
use Rattle.task_events.specs.Turns.{is_begin}
use Rattle.script_lang.specs.declared.command.Script.{Script}
use Rattle.world_moves.specs.Moves.{IsPartly}
use Rattle.world_steps.specs.Runs.{FirstMoves, Passes, PartlySettles, Settles}
use Rattle.world_steps.proofs.Turning.{Follows, last_over, moved}

-- of events among which no command begins none of the later ones does
none_earlier : (a b : Bool) → (a || b) ≡ false → b ≡ false
none_earlier false b none = none
none_earlier true b none = absurd (cc)

last_follows : (h new : List Event) → Follows h new → last_command new ≡ last_command h
last_follows h new (events, is, none) = ap last_command is ∙ last_over events h none

module _ (cluster : Cluster) (corpus : Corpus) (script : Script) where
  last_passed : (h : List Event) (between : List (List Event)) (now : List Event) → Passes cluster corpus script h between now → last_command now ≡ last_command h
  last_passed h [] now same = ap last_command (sym same)
  last_passed h (next ∷ later) now (move, passes) = last_passed next later now passes ∙ last_follows h next (moved cluster corpus script h next move)

  last_partly : (h new : List Event) → IsPartly (FirstMoves cluster corpus script) h new → last_command new ≡ last_command h
  last_partly h new (inl same) = ap last_command same
  last_partly h new (inr (whole, move, (later, earlier, is_whole, is_new))) =
      let after = moved cluster corpus script h whole move in
      let both : after.0 ≡ later ++ earlier = append_cancel_right after.0 (later ++ earlier) h (sym after.1 ∙ is_whole ∙ ap (λ x. later ++ x) is_new ∙ sym (append_assoc later earlier h)) in
      let none : (list_any is_begin later || list_any is_begin earlier) ≡ false = sym (list_any-append is_begin later earlier) ∙ ap (list_any is_begin) (sym both) ∙ after.2 in
      last_follows h new (earlier, is_new, none_earlier (list_any is_begin later) (list_any is_begin earlier) none)

  -- the command that began last is the same, whether settling comes to its end or not
  pub last_settling : (h new : List Event) (r : Result (Unit {0}) Stop) → OnOk r (Settles cluster corpus script h new) → OnErr r (PartlySettles cluster corpus script h new) → last_command new ≡ last_command h
  last_settling h new (Ok u) (rests, (between, passes)) part = last_passed h between new passes
  last_settling h new (Err stop) whole (between, now, passes, part) = last_partly now new part ∙ last_passed h between now passes
