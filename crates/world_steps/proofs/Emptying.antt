-- A drain settles once more.
use Rattle.std.proofs.Common.{◌≡◌, ℕ, List, [], ◌∷◌, ◌++◌, refl, sym, ap, subst, ◌∙◌, ◌+◌, ◌-◌, ◌<◌, ◌⊎◌, length, inl, inr, arith}
use Rattle.std.proofs.lemmas.List.{length-append}
use Rattle.task_ids.specs.declared.cluster.Cluster.{Cluster}
use Rattle.task_ids.specs.declared.corpus.Corpus.{Corpus}
use Rattle.task_events.specs.declared.event.Event.{Event}
use Rattle.task_events.specs.declared.event.Event.TheVariants.{Tick}
use Rattle.task_events.specs.Clock.{clock}
use Rattle.task_events.specs.declared.stop.Stop.{Stop}
use Rattle.task_events.specs.Cancels.{last_command}
use Rattle.script_lang.specs.declared.command.Script.{Script}
use Rattle.world_moves.specs.declared.state.State.{State}
use Rattle.world_moves.specs.Moves.{IsPartly, StopsMove}
use Rattle.world_moves.specs.Ties.{IsTied, Keeps}
use Rattle.world_moves.proofs.Outcomes.{stops_as}
use Rattle.world_steps.proofs.Commanded.{keeps_on, nothing_or}
use Rattle.world_steps.proofs.Turning.{last_over, settled as settled_quietly}
use Rattle.world_steps.specs.declared.ready.Ready.{Ready}
use Rattle.world_steps.specs.Draining.{IsNextDue, NoneLive, Empties, PartlyEmpties, EmptyingLacksNumber, StartsAgain, StopsEmptying, ticked_to}
use Rattle.world_steps.specs.Runs.{Settles, PartlySettles, SettlingLacksNumber, StopsSettling}
use Rattle.world_steps.specs.World.{HasReady, HasDrained}

module _ (cluster : Cluster) (corpus : Corpus) (script : Script) where
  -- the pasts at which settling can start
  abbrev pub HasStarted : List Event → List Event → Type 0
  HasStarted h start = (between : List (List Event)) × StartsAgain cluster corpus script h between start

  further : (h : List Event) (between : List (List Event)) (start now : List Event) (due : ℕ) → StartsAgain cluster corpus script h between start → Settles cluster corpus script start now → IsNextDue cluster corpus script due now
      → StartsAgain cluster corpus script h (between ++ now ∷ []) (ticked_to due now)
  further h [] start now due same settles next = (subst (λ x. Settles cluster corpus script x now) same settles, (due, next, refl))
  further h (settled ∷ later) start now due (first, (moment, is_next, starts)) settles next = (first, (moment, is_next, further (ticked_to moment settled) later start now due starts settles next))

  pub once_more : (h start now : List Event) (due : ℕ) → HasStarted h start → Settles cluster corpus script start now → IsNextDue cluster corpus script due now → HasStarted h (ticked_to due now)
  once_more h start now due (between, starts) settles next = (between ++ now ∷ [], further h between start now due starts settles next)

  pub ends_empty : (h start new : List Event) → HasStarted h start → Settles cluster corpus script start new → NoneLive new → Empties cluster corpus script h new
  ends_empty h start new (between, starts) settles none = (none, (between, start, starts, settles))

  pub partly_empty : (h start new : List Event) → HasStarted h start → PartlySettles cluster corpus script start new → PartlyEmpties cluster corpus script h new
  partly_empty h start new (between, starts) part = (between, start, starts, part)

  pub emptying_stops : (h start new : List Event) (stop : Stop) → HasStarted h start → StopsSettling cluster corpus script start new stop → StopsEmptying cluster corpus script h new stop
  emptying_stops h start new stop (between, starts) =
      stops_as (PartlySettles cluster corpus script start) (PartlyEmpties cluster corpus script h) (SettlingLacksNumber cluster corpus script start new) (EmptyingLacksNumber cluster corpus script h new) new stop
      (λ past part. (between, start, starts, part)) (λ lacks. (between, start, starts, lacks))

-- what has settled has done so partly
partly_settled : {cluster : Cluster} {corpus : Corpus} {script : Script} {h new : List Event} → Settles cluster corpus script h new → PartlySettles cluster corpus script h new
partly_settled {new = new} (rests, (between, passes)) = (between, new, passes, inl refl)

-- ---- in the world

-- what is so of the cluster, the documents and the script now was so at the start
pub kept_as : (P : Cluster → Corpus → Script → Type 0) (start now : State) → Keeps start now → P now.cluster now.corpus.now now.script.now → P start.cluster start.corpus.now start.script.now
kept_as P start now keeps p = subst (λ x. P x start.corpus.now start.script.now) keeps.cluster (subst (λ x. P now.cluster x start.script.now) keeps.corpus (subst (λ x. P now.cluster now.corpus.now x) keeps.script p))

last_settled : (now settled : State) → Settles now.cluster now.corpus.now now.script.now now.history settled.history → last_command settled.history ≡ last_command now.history
last_settled now settled settles =
    let after = settled_quietly now.cluster now.corpus.now now.script.now now.history settled.history settles in
    ap last_command after.1 ∙ last_over after.0 now.history after.2

-- each time the past gets longer
pub round_longer : (now settled : State) (due : ℕ) (new : List Event) → Settles now.cluster now.corpus.now now.script.now now.history settled.history → new ≡ ticked_to due settled.history → length now.history < length new
round_longer now settled due new settles ticked =
    let after = settled_quietly now.cluster now.corpus.now now.script.now now.history settled.history settles in
    let so_long : length settled.history ≡ length after.0 + length now.history = ap length after.1 ∙ length-append after.0 now.history in
    let more : length new ≡ length (ticked_to due settled.history) = ap length ticked in
    omega (arith, so_long, more)

module _ (start now : State) (ready : Ready) (d : HasDrained start now ready) where
  -- it goes on by settling and a tick
  pub drained_on : (settled next : State) (after : Ready) (due : ℕ) → Keeps now settled → Settles now.cluster now.corpus.now now.script.now now.history settled.history → IsNextDue settled.cluster settled.corpus.now settled.script.now due settled.history
      → Keeps settled next → next.history ≡ ticked_to due settled.history → IsTied next → HasReady next after → HasDrained start next after
  drained_on settled next after due first settles is_next later ticked tied known = record {
    tied = tied;
    known = known;
    keeps = keeps_on (keeps_on d.keeps first) later;
    closing = ap last_command ticked ∙ last_settled now settled settles ∙ d.closing;
    goes = subst (λ h. HasStarted start.cluster start.corpus.now start.script.now start.history h) (sym ticked)
        (once_more start.cluster start.corpus.now start.script.now start.history now.history settled.history due d.goes
        (kept_as (λ x y z. Settles x y z now.history settled.history) start now d.keeps settles)
        (kept_as (λ x y z. IsNextDue x y z due settled.history) start settled (keeps_on d.keeps first) is_next));
  }

  -- and is still the last that happens
  pub closing_on : (settled : State) → Keeps now settled → Settles now.cluster now.corpus.now now.script.now now.history settled.history → last_command start.history ≡ length start.script.now.commands + 1
      → last_command settled.history ≡ length settled.script.now.commands + 1
  closing_on settled first settles closing = last_settled now settled settles ∙ d.closing ∙ closing ∙ ap (λ (script : Script). length script.commands + 1) (sym (keeps_on d.keeps first).script)

  pub drained_whole : (new : List Event) → Settles now.cluster now.corpus.now now.script.now now.history new → NoneLive new → Empties start.cluster start.corpus.now start.script.now start.history new
  drained_whole new settles none = ends_empty start.cluster start.corpus.now start.script.now start.history now.history new d.goes (kept_as (λ x y z. Settles x y z now.history new) start now d.keeps settles) none

  pub drained_partly : (new : List Event) → PartlySettles now.cluster now.corpus.now now.script.now now.history new → PartlyEmpties start.cluster start.corpus.now start.script.now start.history new
  drained_partly new part = partly_empty start.cluster start.corpus.now start.script.now start.history now.history new d.goes (kept_as (λ x y z. PartlySettles x y z now.history new) start now d.keeps part)

  pub drained_stops : (new : List Event) (stop : Stop) → StopsSettling now.cluster now.corpus.now now.script.now now.history new stop → StopsEmptying start.cluster start.corpus.now start.script.now start.history new stop
  drained_stops new stop cut = emptying_stops start.cluster start.corpus.now start.script.now start.history now.history new stop d.goes (kept_as (λ x y z. StopsSettling x y z now.history new stop) start now d.keeps cut)

  -- the tick that comes after settling is a part of what is to come
  module _ (settled : State) (due : ℕ) (first : Keeps now settled) (settles : Settles now.cluster now.corpus.now now.script.now now.history settled.history) (is_next : IsNextDue settled.cluster settled.corpus.now settled.script.now due settled.history) where
    started : HasStarted start.cluster start.corpus.now start.script.now start.history (ticked_to due settled.history)
    started = once_more start.cluster start.corpus.now start.script.now start.history now.history settled.history due d.goes
        (kept_as (λ x y z. Settles x y z now.history settled.history) start now d.keeps settles)
        (kept_as (λ x y z. IsNextDue x y z due settled.history) start settled (keeps_on d.keeps first) is_next)

    before : (new : List Event) → new ≡ settled.history → PartlyEmpties start.cluster start.corpus.now start.script.now start.history new
    before new same = subst (PartlyEmpties start.cluster start.corpus.now start.script.now start.history) (sym same) (drained_partly settled.history (partly_settled settles))

    by_event : (new : List Event) → (new ≡ settled.history) ⊎ (new ≡ ticked_to due settled.history) → PartlyEmpties start.cluster start.corpus.now start.script.now start.history new
    by_event new (inl same) = before new same
    by_event new (inr same) = (started.0, ticked_to due settled.history, started.1, ([], ticked_to due settled.history, refl, inl same))

    pub ticked_partly : (new : List Event) → IsPartly (λ h past. past ≡ ticked_to due h) settled.history new → PartlyEmpties start.cluster start.corpus.now start.script.now start.history new
    ticked_partly new (inl same) = before new same
    ticked_partly new (inr (whole, is_whole, (after, earlier, on, is_new))) =
        by_event new (nothing_or (Tick (due - clock settled.history)) settled.history new after earlier (sym is_whole ∙ on) is_new)

    pub ticked_stops : (new : List Event) (stop : Stop) → StopsMove (λ h past. past ≡ ticked_to due h) settled.history new stop → StopsEmptying start.cluster start.corpus.now start.script.now start.history new stop
    ticked_stops new stop =
        stops_as (IsPartly (λ h past. past ≡ ticked_to due h) settled.history) (PartlyEmpties start.cluster start.corpus.now start.script.now start.history) ⊥ (EmptyingLacksNumber start.cluster start.corpus.now start.script.now start.history new) new stop
        (λ past part. ticked_partly past part) (λ never. absurd never)
