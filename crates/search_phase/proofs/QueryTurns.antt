-- What a query has come to after a turn, and what the turn answers.
use Rattle.std.specs.Prelude.{◌≡◌, ℕ, zero, suc, [], ◌∷◌, ◌+◌, ◌-◌, ◌⊎◌, min, take, drop, ◌*◌, ◌<◌, ◌≤◌, Bool, true, false, cond, List, Some, IfSome, length, map, refl}
use Rattle.std.proofs.Common.{sym, ◌∙◌, ap, subst, arith, ⊎_elim}
use Rattle.std.proofs.lemmas.Bool.{le-leb, lt-leb, eq-eqb, ne_eqb, cases_lt}
use Rattle.std.proofs.lemmas.List.{take_all, length-take, length-drop}
use Rattle.task_ids.specs.declared.doc.Doc.{Doc}
use Rattle.task_ids.specs.Rows.{rows_at}
use Rattle.task_events.specs.declared.request.ShardAsk.{ShardAsk}
use Rattle.task_events.specs.Answers.{hit_key, matching_keys, shard_top}
use Rattle.task_events.specs.Looking.{rows_per_turn, is_done}
use Rattle.task_events.specs.QueryTask.{rows_for}
use Rattle.search_phase.specs.declared.query.TurnAnswer.TheVariants.{More, Ready}
use Rattle.search_phase.specs.Queries.{QueryState, version_at, has_ended, has_none_left, rows_in, rows_left, next_rows, with_rows, keys_of_rows, first_keys, looked, queried, without_keys, IsQueried}
use Rattle.search_phase.specs.TurnAnswers.{query_answer}
use Rattle.search_phase.proofs.Picking.{candidates_found}
use Rattle.search_phase.proofs.Turns.{turn_is, done_after, not_done, asked_again, left_after, left_is, looked_on}

-- ---- how far it has come

-- once all rows were looked at, their keys are those of all rows that match
all_keys : (ask : ShardAsk) (version turns : ℕ) (writes : List Doc) → length (rows_for ask version writes) ≤ turns * rows_per_turn
    → keys_of_rows ask (rows_in ask version turns writes) ≡ matching_keys ask.body ask.slice ask.shard version writes
all_keys ask version turns writes past =
    ap (keys_of_rows ask) (take_all (turns * rows_per_turn) (rows_for ask version writes) past) ∙ ap (map (hit_key ask.body ask.shard)) (candidates_found ask.body ask.slice (rows_at version writes))

module _ (ask : ShardAsk) (version turns : ℕ) (writes : List Doc) where
  -- while rows are left the keys stay
  pub queried_open : is_done turns (length (rows_for ask version writes)) ≡ false → looked ask version turns writes ≡ queried ask version turns writes
  queried_open h = ap (λ b. cond b (without_keys (looked ask version turns writes)) (looked ask version turns writes)) (sym h)

  -- and then they are given out
  pub queried_done : is_done turns (length (rows_for ask version writes)) ≡ true → without_keys (looked ask version turns writes) ≡ queried ask version turns writes
  queried_done h = ap (λ b. cond b (without_keys (looked ask version turns writes)) (looked ask version turns writes)) (sym h)

  holds : IfSome ask.version (λ asked. Some version ≡ Some asked) → IsQueried (queried ask version turns writes) writes
  holds asked = go (is_done turns (length (rows_for ask version writes))) refl
    where
      go : (b : Bool) → is_done turns (length (rows_for ask version writes)) ≡ b → IsQueried (cond b (without_keys (looked ask version turns writes)) (looked ask version turns writes)) writes
      go true h = record { version_asked = asked; version_fixed = λ turned. refl; looked = queried_done h }
      go false h = record { version_asked = asked; version_fixed = λ turned. refl; looked = queried_open h }

-- after a turn what is known of a query still holds
pub queried-holds : (q : QueryState) (writes : List Doc) (turns : ℕ) → IsQueried q writes → IsQueried (queried q.ask (version_at q writes) turns writes) writes
queried-holds q writes turns h = holds q.ask (version_at q writes) turns writes (asked_again q.ask.version q.version (length writes) h.version_asked)

-- ---- what the turn answers

module _ (ask : ShardAsk) (version turns : ℕ) (writes : List Doc) (s : QueryState) (same : s ≡ looked ask version turns writes) where
  -- while rows are left, that there are more
  pub more_answer : is_done turns (length (rows_for ask version writes)) ≡ false → More ≡ query_answer s writes
  more_answer h = sym (ap (λ q. query_answer q writes) same ∙ ap (λ b. cond b (Ready (shard_top ask version writes)) More) h)

  top_of_all : is_done turns (length (rows_for ask version writes)) ≡ true → length (rows_for ask version writes) ≤ turns * rows_per_turn → record { shard = ask.shard; version = version; count = (looked ask version turns writes).count; keys = (looked ask version turns writes).keys } ≡ shard_top ask version writes
  top_of_all h past =
      let all = all_keys ask version turns writes past in
      λ i. record { shard = ask.shard; version = version; count = length (all i); keys = first_keys ask (all i) }

  -- and else the shard's top
  pub ready_answer : is_done turns (length (rows_for ask version writes)) ≡ true → length (rows_for ask version writes) ≤ turns * rows_per_turn → Ready (record { shard = s.ask.shard; version = version; count = s.count; keys = s.keys }) ≡ query_answer (without_keys s) writes
  ready_answer h past =
      ap (λ q. Ready (record { shard = q.ask.shard; version = version; count = q.count; keys = q.keys })) same
      ∙ ap Ready (top_of_all h past)
      ∙ sym (ap (λ q. query_answer (without_keys q) writes) same ∙ ap (λ b. cond b (Ready (shard_top ask version writes)) More) h)

-- ---- one turn of a query

module _ (q : QueryState) (writes : List Doc) (h : IsQueried q writes) (version : ℕ) (reads : version ≡ version_at q writes) (s : QueryState) (same : s ≡ looked q.ask version (q.turns + 1) writes) where
  came : looked q.ask version (q.turns + 1) writes ≡ looked q.ask (version_at q writes) (q.turns + 1) writes
  came = ap (λ v. looked q.ask v (q.turns + 1) writes) reads

  rows_came : length (rows_for q.ask version writes) ≡ length (rows_for q.ask (version_at q writes) writes)
  rows_came = ap (λ v. length (rows_for q.ask v writes)) reads

  -- a turn after which rows are left
  pub open_turn : (q.turns + 1) * 1024 < length (rows_for q.ask version writes) → (s ≡ queried q.ask (version_at q writes) (q.turns + 1) writes) × IsQueried s writes × (More ≡ query_answer s writes)
  open_turn below =
      let all = length (rows_for q.ask version writes) in
      let not_done : is_done (q.turns + 1) all ≡ false = done_after q.turns all ∙ lt-leb all ((q.turns + 1) * 1024) below in
      let is = same ∙ came ∙ queried_open q.ask (version_at q writes) (q.turns + 1) writes (ap (is_done (q.turns + 1)) (sym rows_came) ∙ not_done) in
      (is, subst (λ t. IsQueried t writes) (sym is) (queried-holds q writes (q.turns + 1) h), more_answer q.ask version (q.turns + 1) writes s same not_done)

  -- the last turn
  pub last_turn : length (rows_for q.ask version writes) ≤ (q.turns + 1) * 1024 → (without_keys s ≡ queried q.ask (version_at q writes) (q.turns + 1) writes) × IsQueried (without_keys s) writes
      × (Ready (record { shard = s.ask.shard; version = version; count = s.count; keys = s.keys }) ≡ query_answer (without_keys s) writes)
  last_turn past =
      let all = length (rows_for q.ask version writes) in
      let done : is_done (q.turns + 1) all ≡ true = done_after q.turns all ∙ le-leb all ((q.turns + 1) * 1024) past in
      let is = ap without_keys (same ∙ came) ∙ queried_done q.ask (version_at q writes) (q.turns + 1) writes (ap (is_done (q.turns + 1)) (sym rows_came) ∙ done) in
      (is, subst (λ t. IsQueried t writes) (sym is) (queried-holds q writes (q.turns + 1) h), ready_answer q.ask version (q.turns + 1) writes s same done (subst (λ n. all ≤ (q.turns + 1) * n) (sym turn_is) past))

-- ---- what a turn leaves

module _ (q : QueryState) (writes : List Doc) (version : ℕ) (reads : version ≡ version_at q writes) (s : QueryState) (same : s ≡ with_rows q version (next_rows q version writes)) where
  left_now : rows_left s (version_at s writes) writes ≡ drop rows_per_turn (rows_left q version writes)
  left_now = ap (λ t. rows_left t (version_at t writes) writes) same ∙ left_after q version writes

  many_left : length (rows_left s (version_at s writes) writes) ≡ length (rows_left q version writes) - 1024
  many_left = ap length left_now ∙ length-drop rows_per_turn (rows_left q version writes) ∙ ap (λ n. length (rows_left q version writes) - n) turn_is

  -- rows are left after it
  pub more_left : 1024 < length (rows_left q version writes) → false ≡ has_none_left s writes
  more_left more = sym (ne_eqb (length (rows_left s (version_at s writes) writes)) 0 (λ none. omega (arith, more, none, many_left)))

  -- or none
  pub none_left : length (rows_left q version writes) ≤ 1024 → true ≡ has_none_left s writes
  none_left few = sym (eq-eqb (length (rows_left s (version_at s writes) writes)) 0 (omega (arith, few, many_left)))

  module _ (open_yet : has_ended q writes ≡ false) (h : IsQueried q writes) where
    begun : q.turns * 1024 ≤ length (rows_for q.ask version writes)
    begun = not_done q.turns (length (rows_for q.ask version writes)) (ap (λ v. is_done q.turns (length (rows_for q.ask v writes))) reads ∙ open_yet)

    left_many : length (rows_left q version writes) ≡ length (rows_for q.ask version writes) - q.turns * 1024
    left_many =
        ap length (left_is q writes version reads open_yet h) ∙ length-drop (q.turns * rows_per_turn) (rows_for q.ask version writes)
        ∙ ap (λ n. length (rows_for q.ask version writes) - q.turns * n) turn_is

    -- a turn after which rows are left
    pub turn_open : 1024 < length (rows_left q version writes) → (s ≡ queried q.ask (version_at q writes) (q.turns + 1) writes) × IsQueried s writes × (More ≡ query_answer s writes)
    turn_open more = open_turn q writes h version reads s (same ∙ looked_on q writes version reads open_yet h) (omega (arith, more, left_many, begun))

    -- the last turn
    pub turn_last : length (rows_left q version writes) ≤ 1024 → (without_keys s ≡ queried q.ask (version_at q writes) (q.turns + 1) writes) × IsQueried (without_keys s) writes
        × (Ready (record { shard = s.ask.shard; version = version; count = s.count; keys = s.keys }) ≡ query_answer (without_keys s) writes)
    turn_last few = last_turn q writes h version reads s (same ∙ looked_on q writes version reads open_yet h) (omega (arith, few, left_many, begun))

-- ---- the places of a turn

take_less : (m n : ℕ) (xs : List ℕ) → m ≤ n → take m (take n xs) ≡ take m xs
take_less zero n xs h = refl
take_less (suc m) zero xs h = absurd (omega (arith, h))
take_less (suc m) (suc n) [] h = refl
take_less (suc m) (suc n) (x ∷ xs) h = ap (λ ys. x ∷ ys) (take_less m n xs (omega (arith, h)))

-- where there is room for more places than a turn has, or for all, those of the turn
pub cut_places : (places out : List ℕ) (room found here : ℕ) → (1024 < room) ⊎ (length places ≤ room) → found ≡ length (take room places) → take found out ≡ take room places → here ≡ min found 1024
    → take here out ≡ take 1024 places
cut_places places out room found here fits many are first =
    sym (take_less here found out (omega (arith, first))) ∙ ap (take here) are ∙ take_less here room places (omega (arith, first, many, length-take room places)) ∙ ⊎_elim full short (cases_lt 1024 (length places))
  where
    full : 1024 < length places → take here places ≡ take 1024 places
    full more =
        let is : here ≡ 1024 = ⊎_elim (λ wide. omega (arith, first, many, length-take room places, more, wide)) (λ all. omega (arith, first, many, length-take room places, more, all)) fits in
        ap (λ n. take n places) is

    short : length places ≤ 1024 → take here places ≡ take 1024 places
    short few =
        let is : here ≡ length places = ⊎_elim (λ wide. omega (arith, first, many, length-take room places, few, wide)) (λ all. omega (arith, first, many, length-take room places, few, all)) fits in
        ap (λ n. take n places) is ∙ take_all (length places) places (omega arith) ∙ sym (take_all 1024 places few)
