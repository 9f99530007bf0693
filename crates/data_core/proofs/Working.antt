-- A core stays sound where one of its tasks takes a turn over its shard, also where the turn broke off.
use Rattle.std.proofs.Common.{◌≡◌, ℕ, ◌<◌, List, [], ◌++◌, length, take, Option, Some, None, refl, sym, ap, ◌∙◌, subst, arith}
use Rattle.std.specs.Prelude.{IfOk, Ok, Result, vec_len}
use Rattle.std.specs.List.{position_or_len}
use Rattle.task_ids.specs.declared.doc.Doc.{Doc}
use Rattle.shard_docs.specs.ShardView.{ShardView}
use Rattle.node_boards.specs.Calls.{DataCall}
use Rattle.node_parts.specs.Running.{next_number}
use Rattle.task_work.specs.declared.work.Work.{Work}
use Rattle.task_work.specs.Works.{place_of, docs_next, BrokeOff}
use Rattle.held_shards.specs.declared.HeldShards.{HeldShards}
use Rattle.held_shards.specs.Held.{is_row, shard_at, shard_of_row, with_shard, SameShards, Replaces}
use Rattle.held_shards.proofs.Rows.{replaced}
use Rattle.live_tasks.specs.declared.entry.Entry.{Entry}
use Rattle.live_tasks.specs.declared.live.LiveTasks.{LiveTasks}
use Rattle.live_tasks.specs.Answering.{TakesTurn}
use Rattle.live_tasks.specs.Entries.{with_work}
use Rattle.live_tasks.specs.Live.{entry_at, ChangesTask, SameCore}
use Rattle.live_tasks.specs.Ties.{StaysTogether}
use Rattle.live_tasks.specs.Turning.{TurnedOn}
use Rattle.data_parts.specs.Steps.{HasCome, HasLawfulReplies, AsksBelow}
use Rattle.data_parts.proofs.Grown.{turned_place, turned_come, lost_place, lost_come}
use Rattle.data_parts.proofs.Lost.{lost_keeps}
use Rattle.data_parts.proofs.Moves.{turned_replies, turned_below}
use Rattle.data_core.specs.declared.state.DataCore.{DataCore}
use Rattle.entry_facts.specs.Entries.{writes_for}
use Rattle.entry_facts.proofs.Live.{changed_each, each_at}
use Rattle.data_core.specs.Cores.{IsSound, IsGoodEntry, SameSelf}
use Rattle.data_core.specs.Plans.{TurnsNext}
use Rattle.data_core.specs.Steps.{Given, Works, number_of}
use Rattle.data_core.proofs.Shards.{HaveGrown, same_grown, one_grown, all_grown}
use Rattle.data_core.proofs.Sound.{sound_stays}

-- ---- the task

module _ (allowed : ℕ → Type 0) (before now : HeldShards) (e : Entry) (w : Work) (g : IsGoodEntry allowed before e) where
  abbrev writes : HeldShards → List Doc
  writes held = writes_for held (place_of e.running.work)

  pub turned_good : TurnedOn e.running.work w (writes before) (writes now) → IsGoodEntry allowed now (with_work e w)
  turned_good turned =
      let v = e.running.work in
      let come : HasCome w (writes now) = turned_come v w (writes before) (writes now) g.come turned.written (turned.done g.come.0) (turned.on g.come.0) in
      record {
        place = g.place;
        mark = g.mark;
        page = g.page;
        replies = turned_replies allowed v (writes before) w turned.turned;
        asks = turned_below v (writes before) w (next_number e.running) turned.turned;
        come = subst (λ p. HasCome w (writes_for now p)) (sym (turned_place v (writes before) w turned.turned)) come;
      }

  pub broken_good : BrokeOff e.running.work w (writes before) (writes now) → IsGoodEntry allowed now (with_work e w)
  broken_good broke =
      let v = e.running.work in
      let n = next_number e.running in
      let come : HasCome w (writes now) = subst (HasCome w) (sym broke.now_is) (lost_come e.running.ticket.id v w (writes before) (take broke.written (docs_next v)) g.come broke.work_is) in
      record {
        place = g.place;
        mark = g.mark;
        page = g.page;
        replies = lost_keeps (HasLawfulReplies allowed) (λ x. tt) v w broke.work_is g.replies;
        asks = lost_keeps (AsksBelow n) (λ x. tt) v w broke.work_is g.asks;
        come = subst (λ p. HasCome w (writes_for now p)) (sym (lost_place v w broke.work_is)) come;
      }

-- ---- its shard

-- a task works on the shard that was found or made at a place, where no other shard has changed
pub record IsTurnAt (old : DataCore) (held : HeldShards) (at : ℕ) (s : ShardView) (e : Entry) : Type 0 where
  pub index : List ℕ
  pub number : ℕ
  pub placed : place_of e.running.work ≡ Some (index, number)
  pub same : SameShards old.shards held
  pub numbers : held.numbers ≡ old.shards.numbers
  pub found : at ≡ position_or_len (is_row index number) held.rows.items
  pub within : at < length held.rows.items
  pub over : s ≡ shard_of_row held at

pub turn_at : {E : Type 0} (old : DataCore) (held : HeldShards) (at : ℕ) (s : ShardView) (e : Entry) (index name : List ℕ) (number : ℕ) (r : Result ℕ E) → Some (index, number) ≡ place_of e.running.work → name ≡ index → SameShards old.shards held → held.numbers ≡ old.shards.numbers
    → IfOk r (λ n. (n ≡ position_or_len (is_row name number) held.rows.items) × (n < vec_len held.rows)) → r ≡ Ok at → s ≡ shard_of_row held at → IsTurnAt old held at s e
turn_at old held at s e index name number r is same_name same numbers found ok over =
    let place = subst (λ q. IfOk q (λ n. (n ≡ position_or_len (is_row name number) held.rows.items) × (n < vec_len held.rows))) ok found in
    let low : at < vec_len held.rows = place.1 in
    let within : at < length held.rows.items = omega (arith, low, held.rows.ok.0) in
    record { index = name; number = number; placed = sym is ∙ ap (λ q. Some (q, number)) (sym same_name); same = same; numbers = numbers; found = place.0; within = within; over = over }

module _ (old : DataCore) (held : HeldShards) (at : ℕ) (s : ShardView) (e : Entry) (turn : IsTurnAt old held at s e) where
  pub its_shard : s ≡ shard_at old.shards turn.index turn.number
  its_shard = turn.over ∙ ap (shard_of_row held) turn.found ∙ turn.same turn.index turn.number

  pub over_writes : s.writes ≡ writes_for old.shards (place_of e.running.work)
  over_writes = ap (λ (x : ShardView). x.writes) its_shard ∙ sym (ap (writes_for old.shards) turn.placed)

  -- it takes a turn over that shard
  pub turns_there : (o : Option Entry) → o ≡ Some e → TurnsNext old.shards o → TakesTurn s.writes o
  turns_there None is turns = absurd turns
  turns_there (Some x) is turns =
      let same : e ≡ x = cc in
      subst (λ ws. TakesTurn ws (Some x)) (ap (λ (y : Entry). writes_for old.shards (place_of y.running.work)) (sym same) ∙ sym over_writes) turns.0

  module _ (left : ShardView) (w : Work) where
    abbrev after : HeldShards
    after = with_shard held at left

    pub replaces : Replaces turn.index turn.number left old.shards after
    replaces =
        let index = turn.index in
        let number = turn.number in
        let place = position_or_len (is_row index number) held.rows.items in
        let inside : place < length held.rows.items = subst (λ i. i < length held.rows.items) turn.found turn.within in
        let there : Replaces index number left held after = subst (λ i. Replaces index number left held (with_shard held i left)) (sym turn.found) (replaced held index number left inside) in
        record { here = there.here; elsewhere = λ q k other. there.elsewhere q k other ∙ turn.same q k }

    left_writes : left.writes ≡ writes_for after (place_of e.running.work)
    left_writes = sym (ap (λ (x : ShardView). x.writes) replaces.here) ∙ sym (ap (writes_for after) turn.placed)

    abbrev before_writes : List Doc
    before_writes = writes_for old.shards (place_of e.running.work)

    abbrev after_writes : List Doc
    after_writes = writes_for after (place_of e.running.work)

    pub turned_here : TurnedOn e.running.work w s.writes left.writes → TurnedOn e.running.work w before_writes after_writes
    turned_here turned = subst (λ ws. TurnedOn e.running.work w before_writes ws) left_writes (subst (λ ws. TurnedOn e.running.work w ws left.writes) over_writes turned)

    broken_here : BrokeOff e.running.work w s.writes left.writes → BrokeOff e.running.work w before_writes after_writes
    broken_here broke = subst (λ ws. BrokeOff e.running.work w before_writes ws) left_writes (subst (λ ws. BrokeOff e.running.work w ws left.writes) over_writes broke)

    grown : (more : List Doc) → left.writes ≡ s.writes ++ more → HaveGrown old.shards after
    grown more is = one_grown old.shards after turn.index turn.number left more replaces (is ∙ ap (λ (x : ShardView). x.writes ++ more) its_shard)

    -- ---- the core

    module _ (allowed : ℕ → Type 0) (node : ℕ) (has : ℕ → ℕ → Type 0) (drawn : Option ℕ) (clear : ℕ → Type 0) (sound : IsSound allowed node has drawn clear old) (live : LiveTasks) (k : ℕ) (is : entry_at old.live k ≡ Some e)
        (stays : StaysTogether old.live live) (core : SameCore old.live live) (change : ChangesTask old.live live k (with_work e w)) where
      abbrev new : DataCore
      new = record old { live = live; shards = after }

      worked_self : SameSelf old new
      worked_self = record { node = refl; worker = refl; cluster = refl; pool = refl; numbers = turn.numbers; core = core }

      worked_sound : HaveGrown old.shards after → (IsGoodEntry allowed old.shards e → IsGoodEntry allowed after (with_work e w)) → IsSound allowed node has drawn clear new
      worked_sound more good =
          sound_stays allowed node has drawn clear old new sound stays worked_self
          (changed_each (IsGoodEntry allowed after) old.live live (all_grown allowed old.shards after more old.live sound.good) k (Some (with_work e w)) change.0 (good (each_at (IsGoodEntry allowed old.shards) old.live sound.good k e is)))

      -- it has taken a turn
      pub turned_sound : TurnedOn e.running.work w s.writes left.writes → IsSound allowed node has drawn clear new
      turned_sound turned = worked_sound (grown (docs_next e.running.work) turned.written) (λ good. turned_good allowed old.shards after e w good (turned_here turned))

      -- the turn broke off
      pub broken_sound : BrokeOff e.running.work w s.writes left.writes → IsSound allowed node has drawn clear new
      broken_sound broke = worked_sound (grown (take broke.written (docs_next e.running.work)) broke.now_is) (λ good. broken_good allowed old.shards after e w good (broken_here broke))

-- a shard was made, with no document
pub placed_sound : (allowed : ℕ → Type 0) (node : ℕ) (has : ℕ → ℕ → Type 0) (drawn : Option ℕ) (clear : ℕ → Type 0) (old : DataCore) (held : HeldShards) → IsSound allowed node has drawn clear old → SameShards old.shards held → IsSound allowed node has drawn clear (record old { shards = held })
placed_sound allowed node has drawn clear old held sound same = record {
  together = sound.together;
  own = sound.own;
  worker = sound.worker;
  good = all_grown allowed old.shards held (same_grown old.shards held same) old.live sound.good;
}

-- the task has taken a turn of work
pub works_so : {B : Type 0} (rests : B → B → DataCall → Type 0) (e : Entry) (b : B) (old : DataCore) (live : LiveTasks) (held : HeldShards) (k : ℕ) (w : Work) (given : Given) → given ≡ Some [] → k ≡ number_of e → ChangesTask old.live live k (with_work e w)
    → TurnedOn e.running.work w (writes_for old.shards (place_of e.running.work)) (writes_for held (place_of e.running.work)) → Works rests e b old given (record old { live = live; shards = held }) b
works_so rests e b old live held k w given none its change turned = record {
  none = none;
  uncalled = refl;
  after = w;
  noted = subst (λ n. ChangesTask old.live live n (with_work e w)) its change;
  turned = turned;
  rest = refl;
}
