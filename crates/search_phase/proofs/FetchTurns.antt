-- How far a fetch has come after one more turn, and what the turn answers.
use Rattle.std.specs.Prelude.{◌≡◌, ℕ, ◌+◌, ◌-◌, ◌*◌, ◌<◌, ◌≤◌, min, true, false, cond, List, [], ◌++◌, length, filter_map, take, drop, slice_range, refl}
use Rattle.std.proofs.Common.{sym, ◌∙◌, ap, subst, arith}
use Rattle.std.proofs.Math.Seq.{take-add}
use Rattle.std.proofs.lemmas.Bool.{le-leb, lt-leb}
use Rattle.std.proofs.lemmas.List.{take_all, take_min, length-drop}
use Rattle.std.proofs.lemmas.List.Elements.{filter_map-append}
use Rattle.task_ids.specs.declared.doc.Doc.{Doc}
use Rattle.task_events.specs.declared.reply.Hit.{Hit}
use Rattle.task_events.specs.Answers.{hit_at, fetched}
use Rattle.task_events.specs.Looking.{rows_per_turn, is_done}
use Rattle.search_phase.specs.declared.fetch.FetchAnswer.TheVariants.{More, Ready}
use Rattle.search_phase.specs.Fetches.{FetchState, IsFetched, has_fetched, fetched_in, hits_of_first}
use Rattle.search_phase.specs.TurnAnswers.{fetch_answer}
use Rattle.search_phase.proofs.Turns.{turn_is, done_after, not_done}

-- a turn may be taken
pub record CanFetch (f : FetchState) (writes : List Doc) : Type 0 where
  pub fetched_so_far : IsFetched f writes
  pub not_ended : has_fetched f ≡ false

-- what holds of a value holds of the fields that show it
pub can_fetch : (shown f : FetchState) (writes : List Doc) → shown ≡ f → IsFetched f writes → has_fetched f ≡ false → CanFetch shown writes
can_fetch shown f writes same h not_ended = subst (λ s. CanFetch s writes) (sym same) (record { fetched_so_far = h; not_ended = not_ended })

-- the places of the turn begin within all
pub fetch_start : (shown f : FetchState) → shown ≡ f → has_fetched f ≡ false → shown.turns * 1024 ≤ length shown.ask.places
fetch_start shown f same open_yet = not_done shown.turns (length shown.ask.places) (ap has_fetched same ∙ open_yet)

-- after one more turn places are left, or all were looked up
module _ (turns much end : ℕ) (ends : end ≡ turns * 1024 + min (much - turns * 1024) 1024) (within : turns * 1024 ≤ much) where
  pub goes_on : end < much → false ≡ is_done (turns + 1) much
  goes_on below = let past : (turns + 1) * 1024 < much = omega (arith, below, ends, within) in sym (done_after turns much ∙ lt-leb much ((turns + 1) * 1024) past)

  pub has_come : much ≤ end → true ≡ is_done (turns + 1) much
  has_come past = let all : much ≤ (turns + 1) * 1024 = omega (arith, past, ends, within) in sym (done_after turns much ∙ le-leb much ((turns + 1) * 1024) all)

module _ (f : FetchState) (writes : List Doc) (can : CanFetch f writes) where
  start : f.turns * 1024 ≤ length f.ask.places
  start = fetch_start f f refl can.not_ended

  so_far : f.hits ≡ hits_of_first f.ask (f.turns * 1024) writes
  so_far =
      ap (λ (s : FetchState). s.hits) can.fetched_so_far ∙ ap (λ b. cond b [] (hits_of_first f.ask (f.turns * rows_per_turn) writes)) can.not_ended
      ∙ ap (λ n. hits_of_first f.ask (f.turns * n) writes) turn_is

  module _ (end : ℕ) (ends : end ≡ f.turns * 1024 + min (length f.ask.places - f.turns * 1024) 1024) (found : List Hit)
      (more : found ≡ filter_map (hit_at f.ask.index f.ask.version writes) (slice_range f.ask.places (f.turns * 1024) end)) where
    -- the places of one more turn
    next_places : take ((f.turns + 1) * 1024) f.ask.places ≡ take (f.turns * 1024) f.ask.places ++ slice_range f.ask.places (f.turns * 1024) end
    next_places =
        let first = f.turns * 1024 in
        let later = drop first f.ask.places in
        let much : (f.turns + 1) * 1024 ≡ first + 1024 = omega arith in
        let cut : end - first ≡ min 1024 (length later) = omega (arith, ends, length-drop first f.ask.places) in
        ap (λ n. take n f.ask.places) much ∙ take-add first 1024 f.ask.places
        ∙ ap (λ places. take first f.ask.places ++ places) (sym (take_min 1024 later) ∙ ap (λ n. take n later) (sym cut))

    next_hits : hits_of_first f.ask ((f.turns + 1) * rows_per_turn) writes ≡ f.hits ++ found
    next_hits =
        let one = hit_at f.ask.index f.ask.version writes in
        ap (λ n. hits_of_first f.ask ((f.turns + 1) * n) writes) turn_is
        ∙ ap (filter_map one) next_places
        ∙ filter_map-append one (take (f.turns * 1024) f.ask.places) (slice_range f.ask.places (f.turns * 1024) end)
        ∙ ap (λ hits. hits ++ filter_map one (slice_range f.ask.places (f.turns * 1024) end)) (sym so_far)
        ∙ ap (λ hits. f.hits ++ hits) (sym more)

    -- a turn after which places are left
    pub open_fetch : end < length f.ask.places
        → (record { ask = f.ask; turns = f.turns + 1; hits = f.hits ++ found } ≡ fetched_in f.ask (f.turns + 1) writes)
        × (More ≡ fetch_answer (record { ask = f.ask; turns = f.turns + 1; hits = f.hits ++ found }) writes)
    open_fetch below =
        let done : is_done (f.turns + 1) (length f.ask.places) ≡ false = sym (goes_on f.turns (length f.ask.places) end ends start below) in
        let hits = sym next_hits ∙ ap (λ b. cond b [] (hits_of_first f.ask ((f.turns + 1) * rows_per_turn) writes)) (sym done) in (
          λ i. record { ask = f.ask; turns = f.turns + 1; hits = hits i },
          ap (λ b. cond b (Ready (fetched f.ask writes)) More) (sym done),
        )

    -- the last turn
    pub last_fetch : length f.ask.places ≤ end
        → (record { ask = f.ask; turns = f.turns + 1; hits = [] } ≡ fetched_in f.ask (f.turns + 1) writes)
        × (Ready (f.hits ++ found) ≡ fetch_answer (record { ask = f.ask; turns = f.turns + 1; hits = [] }) writes)
    last_fetch past =
        let all : length f.ask.places ≤ (f.turns + 1) * 1024 = omega (arith, past, ends, start) in
        let done : is_done (f.turns + 1) (length f.ask.places) ≡ true = sym (has_come f.turns (length f.ask.places) end ends start past) in
        let none = ap (λ b. cond b [] (hits_of_first f.ask ((f.turns + 1) * rows_per_turn) writes)) (sym done) in
        let whole = ap (λ n. hits_of_first f.ask ((f.turns + 1) * n) writes) turn_is ∙ ap (filter_map (hit_at f.ask.index f.ask.version writes)) (take_all ((f.turns + 1) * 1024) f.ask.places all) in (
          λ i. record { ask = f.ask; turns = f.turns + 1; hits = none i },
          ap Ready (sym next_hits ∙ whole) ∙ ap (λ b. cond b (Ready (fetched f.ask writes)) More) (sym done),
        )
