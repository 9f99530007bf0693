-- After the turn places are left, or it was the last.
use Rattle.std.proofs.Common.{◌≡◌, ℕ, ◌+◌, ◌-◌, ◌*◌, ◌<◌, ◌≤◌, ◌∙◌, List, length, filter_map, slice_range, min, ap, subst, arith}
use Rattle.task_ids.specs.declared.doc.Doc.{Doc}
use Rattle.task_events.specs.declared.reply.Hit.{Hit}
use Rattle.task_events.specs.declared.request.FetchAsk.{FetchAsk}
use Rattle.task_events.specs.Answers.{hit_at}
use Rattle.search_phase.specs.declared.fetch.FetchAnswer.TheVariants.{More, Ready}
use Rattle.search_phase.specs.Fetches.{FetchState, IsFetched, fetched_in}
use Rattle.search_phase.specs.TurnAnswers.{fetch_answer}
use Rattle.search_phase.proofs.Growing.{IsFetched-grow, fetched_in-fetched}
use Rattle.search_phase.proofs.FetchTurns.{can_fetch, fetch_start, goes_on, has_come, open_fetch, last_fetch}
use Rattle.search_phase.proofs.fetch.ShardFetch.turn.Goals as goal

-- the places that are asked for
abbrev places_of : FetchAsk → List ℕ
places_of ask = ask.places

-- what a turn finds at some of them
abbrev hits_of : List Doc → ℕ → ℕ → FetchAsk → List Hit
hits_of writes start end ask = filter_map (hit_at ask.index ask.version writes) (slice_range ask.places start end)

pub overflow_mul-start : goal.overflow_mul-start
overflow_mul-start c =
    let start : c.self.inside.turns * 1024 ≤ length c.self.inside.ask.places = fetch_start _ _ c.self.view_is c.requires in
    omega (arith, start, ap length (c.as_slice-all.ensures ∙ ap places_of c.get-ask.ensures))

pub overflow_sub-all : goal.overflow_sub-all
overflow_sub-all c =
    let start : c.self.inside.turns * 1024 ≤ length c.self.inside.ask.places = fetch_start _ _ c.self.view_is c.requires in
    omega (arith, start, ap length (c.as_slice-all.ensures ∙ ap places_of c.get-ask.ensures))

pub overflow_add-end : goal.overflow_add-end
overflow_add-end c =
    let start : c.self.inside.turns * 1024 ≤ length c.self.inside.ask.places = fetch_start _ _ c.self.view_is c.requires in
    omega (arith, start, c.min.ensures, ap length (c.as_slice-all.ensures ∙ ap places_of c.get-ask.ensures))

pub hits_at-requires-clause-within : goal.hits_at-requires-clause-within
hits_at-requires-clause-within c =
    let start : c.self.inside.turns * 1024 ≤ length c.self.inside.ask.places = fetch_start _ _ c.self.view_is c.requires in
    omega (arith, start, c.min.ensures, ap length c.as_slice-all.ensures, ap (λ (a : FetchAsk). length a.places) c.get-ask.ensures)

pub overflow_add-self : goal.overflow_add-self
overflow_add-self c =
    let start : c.self.inside.turns * 1024 ≤ length c.self.inside.ask.places = fetch_start _ _ c.self.view_is c.requires in
    omega (arith, start, ap length (c.as_slice-all.ensures ∙ ap places_of c.get-ask.ensures))

-- places are left
opens : (c : goal.After-drop-found-then-end-all) → IsFetched c.args.self.now c.args.shard.now.writes → (record { ask = c.self.inside.ask; turns = c.self.inside.turns + 1; hits = c.append.new.self.items } ≡ fetched_in c.args.self.now.ask (c.args.self.now.turns + 1) c.args.shard.now.writes)
    × (More ≡ fetch_answer (record { ask = c.self.inside.ask; turns = c.self.inside.turns + 1; hits = c.append.new.self.items }) c.args.shard.now.writes)
opens c was =
    let shown : FetchState = record { ask = c.self.inside.ask; turns = c.self.inside.turns; hits = c.self.inside.hits.items } in
    let start = c.self.inside.turns * 1024 in
    let ends = ap (λ n. start + n) (c.min.ensures ∙ ap (λ (places : List ℕ). min (length places - start) 1024) (c.as_slice-all.ensures ∙ ap places_of c.get-ask.ensures)) in
    let below = subst (λ (places : List ℕ). start + c.min.result < length places) (c.as_slice-all.ensures ∙ ap places_of c.get-ask.ensures) c.if-end-all.true in
    let now = open_fetch shown c.args.shard.now.writes (can_fetch _ _ _ c.self.view_is was c.requires) (start + c.min.result) ends c.in_ok-found.found.items (c.in_ok-found.ensures ∙ ap (hits_of c.args.shard.now.writes start (start + c.min.result)) c.get-ask.ensures) below in (
      ap (λ hits. record { ask = c.self.inside.ask; turns = c.self.inside.turns + 1; hits = hits }) c.in_ok-append.ensures.items ∙ now.0 ∙ ap (λ (f : FetchState). fetched_in f.ask (f.turns + 1) c.args.shard.now.writes) c.self.view_is,
      now.1,
    )

pub returns-then-end-all-clause-ready : goal.returns-then-end-all-clause-ready
returns-then-end-all-clause-ready c =
    let start = c.self.inside.turns * 1024 in
    let ends = ap (λ n. start + n) (c.min.ensures ∙ ap (λ (places : List ℕ). min (length places - start) 1024) (c.as_slice-all.ensures ∙ ap places_of c.get-ask.ensures)) in
    let below = subst (λ (places : List ℕ). start + c.min.result < length places) (c.as_slice-all.ensures ∙ ap places_of c.get-ask.ensures) c.if-end-all.true in
    goes_on c.self.inside.turns (length c.self.inside.ask.places) (start + c.min.result) ends (fetch_start _ _ c.self.view_is c.requires) below

pub returns-then-end-all-clause-ok : goal.returns-then-end-all-clause-ok
returns-then-end-all-clause-ok c = λ was. (opens c was).0

pub returns-then-end-all-clause-answer : goal.returns-then-end-all-clause-answer
returns-then-end-all-clause-answer c = λ was. (opens c was).1

pub returns-then-end-all-clause-goes_on : goal.returns-then-end-all-clause-goes_on
returns-then-end-all-clause-goes_on c = λ was. fetched_in-fetched _ c.args.self.now.ask (c.args.self.now.turns + 1) c.args.shard.now.writes (opens c was).0

pub returns-then-end-all-clause-stays : goal.returns-then-end-all-clause-stays
returns-then-end-all-clause-stays c = λ was within more. IsFetched-grow _ c.args.shard.now.writes more within (fetched_in-fetched _ c.args.self.now.ask (c.args.self.now.turns + 1) c.args.shard.now.writes (opens c was).0)

-- it was the last
ends : (c : goal.After-drop-found-2) → IsFetched c.args.self.now c.args.shard.now.writes → (record { ask = c.self.inside.ask; turns = c.self.inside.turns + 1; hits = c.replace-hits.new.dest.items } ≡ fetched_in c.args.self.now.ask (c.args.self.now.turns + 1) c.args.shard.now.writes)
    × (Ready c.from_vec.result ≡ fetch_answer (record { ask = c.self.inside.ask; turns = c.self.inside.turns + 1; hits = c.replace-hits.new.dest.items }) c.args.shard.now.writes)
ends c was =
    let shown : FetchState = record { ask = c.self.inside.ask; turns = c.self.inside.turns; hits = c.self.inside.hits.items } in
    let start = c.self.inside.turns * 1024 in
    let ends = ap (λ n. start + n) (c.min.ensures ∙ ap (λ (places : List ℕ). min (length places - start) 1024) (c.as_slice-all.ensures ∙ ap places_of c.get-ask.ensures)) in
    let past = subst (λ (places : List ℕ). length places ≤ start + c.min.result) (c.as_slice-all.ensures ∙ ap places_of c.get-ask.ensures) c.if-end-all.false in
    let now = last_fetch shown c.args.shard.now.writes (can_fetch _ _ _ c.self.view_is was c.requires) (start + c.min.result) ends c.in_ok-found.found.items (c.in_ok-found.ensures ∙ ap (hits_of c.args.shard.now.writes start (start + c.min.result)) c.get-ask.ensures) past in
    let none = ap (λ v. v.items) c.replace-hits.ensures.after ∙ c.new.ensures.items in (
      ap (λ hits. record { ask = c.self.inside.ask; turns = c.self.inside.turns + 1; hits = hits }) none ∙ now.0 ∙ ap (λ (f : FetchState). fetched_in f.ask (f.turns + 1) c.args.shard.now.writes) c.self.view_is,
      ap Ready (c.from_vec.ensures ∙ ap (λ v. v.items) c.replace-hits.ensures.value ∙ c.in_ok-append.ensures.items) ∙ now.1,
    )

pub returns-clause-ready : goal.returns-clause-ready
returns-clause-ready c =
    let start = c.self.inside.turns * 1024 in
    let ends = ap (λ n. start + n) (c.min.ensures ∙ ap (λ (places : List ℕ). min (length places - start) 1024) (c.as_slice-all.ensures ∙ ap places_of c.get-ask.ensures)) in
    let past = subst (λ (places : List ℕ). length places ≤ start + c.min.result) (c.as_slice-all.ensures ∙ ap places_of c.get-ask.ensures) c.if-end-all.false in
    has_come c.self.inside.turns (length c.self.inside.ask.places) (start + c.min.result) ends (fetch_start _ _ c.self.view_is c.requires) past

pub returns-clause-ok : goal.returns-clause-ok
returns-clause-ok c = λ was. (ends c was).0

pub returns-clause-answer : goal.returns-clause-answer
returns-clause-answer c = λ was. (ends c was).1

pub returns-clause-goes_on : goal.returns-clause-goes_on
returns-clause-goes_on c = λ was. fetched_in-fetched _ c.args.self.now.ask (c.args.self.now.turns + 1) c.args.shard.now.writes (ends c was).0

pub returns-clause-stays : goal.returns-clause-stays
returns-clause-stays c = λ was within more. IsFetched-grow _ c.args.shard.now.writes more within (fetched_in-fetched _ c.args.self.now.ask (c.args.self.now.turns + 1) c.args.shard.now.writes (ends c was).0)
