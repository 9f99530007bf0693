-- Only a search and a page ask for a query or a fetch: no command does, and no task that has others write.
use Rattle.std.proofs.Common.{◌≡◌, ℕ, ◌+◌, Bool, true, false, List, [], get_or, Option, Some, None, refl, subst, arith}
use Rattle.std.specs.Prelude.{◌==◌, ◌&&◌, is_some, option_map, option_and_then, slice_get, unwrap_or}
use Rattle.std.specs.Option.{option_map_or}
use Rattle.std.proofs.lemmas.Bool.{eq-eqb}
use Rattle.task_events.specs.declared.event.Event.{Event}
use Rattle.task_events.specs.declared.reply.Reply.{Reply}
use Rattle.task_events.specs.declared.reply.Reply.TheVariants.{Top, Hits}
use Rattle.task_events.specs.declared.reply.ShardTop.{ShardTop}
use Rattle.task_events.specs.declared.request.Request.{Request}
use Rattle.task_events.specs.declared.request.Request.TheVariants as asks
use Rattle.task_events.specs.declared.step.Asked.{Asked}
use Rattle.task_events.specs.Answers.{shard_top}
use Rattle.task_events.specs.Kinds.{can_have}
use Rattle.task_ids.specs.declared.task_id.TaskId.{TaskId}
use Rattle.script_lang.specs.declared.command.Command.{Command}
use Rattle.script_lang.specs.declared.command.Command.TheVariants.{Search, Scroll, Reindex}
use Rattle.command_roots.specs.Roots.{request_in, search_of, reindex_of, context_named}
use Rattle.reindex.specs.declared.phase.Phase.{Phase}
use Rattle.reindex.specs.declared.phase.Phase.TheVariants.{First, Reads, Holds, Writes, Rests, Over}
use Rattle.reindex.specs.Bulks.{Bulking, bulk_takes, is_open}
use Rattle.reindex.specs.Roots.{Cutting, cut_takes}
use Rattle.reindex.specs.Slices.{Slicing, slice_takes, takes_in, page_asked}
use Rattle.world_moves.specs.AsksKnown.{KnowsAsks}
use Rattle.world_moves.proofs.PossibleTops.{tops_possible}

-- ---- a request that looks at a shard

abbrev pub LooksAtShard : Request → Type 0
LooksAtShard (asks.Query ask) = Unit {0}
LooksAtShard (asks.Fetch ask) = Unit {0}
LooksAtShard _ = ⊥

none_of : {X : Type 0} (f : X → Request) → ((x : X) → LooksAtShard (f x) → ⊥) → (o : Option X) (q : Request) → option_map f o ≡ Some q → LooksAtShard q → ⊥
none_of f other None q e looks = absurd (cc)
none_of f other (Some x) q e looks = other x (subst LooksAtShard (let same : q ≡ f x = cc in same) looks)

command_asks : (command : Command) (h : List Event) (q : Request) → request_in command h ≡ Some q → LooksAtShard q → ⊥
command_asks (Scroll context keep opaque_id) h q e looks = none_of (λ (id : TaskId). asks.Scroll (record { id = id; keep = keep; owner = None })) (λ id x. x) (context_named context h) q e looks
command_asks (Search index node scroll body opaque_id) h q e looks = none_of asks.Search (λ ask x. x) (search_of (Search index node scroll body opaque_id)) q e looks
command_asks (Reindex node body slices rate opaque_id store) h q e looks = none_of asks.Reindex (λ ask x. x) (reindex_of (Reindex node body slices rate opaque_id store)) q e looks
command_asks _ h q e looks = absurd (cc)

-- a root is asked for none
pub root_asks : (o : Option Command) (h : List Event) (q : Request) → option_and_then (λ command. request_in command h) o ≡ Some q → LooksAtShard q → ⊥
root_asks None h q e looks = absurd (cc)
root_asks (Some command) h q e looks = command_asks command h q e looks

-- ---- a task that has others write takes neither a top nor documents, as it takes what its requests can have

both : (b c : Bool) → (b && c) ≡ true → c ≡ true
both true c e = e
both false c e = absurd (cc)

pub record TakesNone (takes : ℕ → Reply → Bool) : Type 0 where
  pub top : (k : ℕ) (top : ShardTop) → takes k (Top top) ≡ true → ⊥
  pub hits : (k : ℕ) → takes k (Hits []) ≡ true → ⊥

module _ (shards : ℕ) (takes : ℕ → Reply → Bool) (asked : List Asked) (requests : List Request) (awaited : List (Option ℕ)) (knows : KnowsAsks shards takes asked requests awaited) (none : TakesNone takes) where
  -- the version that a query names, or any
  named : (o : Option ℕ) → option_map_or (λ v. unwrap_or o 0 == v) o true ≡ true
  named None = refl
  named (Some v) = eq-eqb v v refl

  pub asks_no_shard : (i : ℕ) (q : Request) → slice_get requests i ≡ Some q → is_some (get_or awaited i None) ≡ true → LooksAtShard q → ⊥
  asks_no_shard i (asks.Query ask) at waits looks =
      none.top (1 + i) (shard_top ask (unwrap_or ask.version 0) [])
      (knows.takes_each i (asks.Query ask) (Top (shard_top ask (unwrap_or ask.version 0) [])) at waits (tops_possible ask (unwrap_or ask.version 0) [] (named ask.version) (omega arith)))
  asks_no_shard i (asks.Fetch ask) at waits looks = none.hits (1 + i) (knows.takes_each i (asks.Fetch ask) (Hits []) at waits refl)
  asks_no_shard i _ at waits looks = absurd looks

-- its next page is a search or a page
page_top : (s : Slicing) (context : Option TaskId) (top : ShardTop) → can_have s.shards (page_asked s context) (Top top) ≡ true → ⊥
page_top s None top e = absurd (let f : false ≡ true = e in cc)
page_top s (Some context) top e = absurd (let f : false ≡ true = e in cc)

page_hits : (s : Slicing) (context : Option TaskId) → can_have s.shards (page_asked s context) (Hits []) ≡ true → ⊥
page_hits s None e = absurd (let f : false ≡ true = e in cc)
page_hits s (Some context) e = absurd (let f : false ≡ true = e in cc)

pub slice_takes_none : (s : Slicing) → TakesNone (slice_takes s)
slice_takes_none s = record { top = λ k top e. by_top s.phase k top e; hits = λ k e. by_hits s.phase k e }
  where
    by_top : (phase : Phase) (k : ℕ) (top : ShardTop) → takes_in s k (Top top) phase ≡ true → ⊥
    by_top (Reads ask) k top e = page_top s s.context top (both (ask == k) _ e)
    by_top (Writes ask docs came) k top e = absurd (let f : false ≡ true = both (ask == k) _ e in cc)
    by_top First k top e = absurd (cc)
    by_top (Holds docs came) k top e = absurd (cc)
    by_top (Rests until) k top e = absurd (cc)
    by_top Over k top e = absurd (cc)

    by_hits : (phase : Phase) (k : ℕ) → takes_in s k (Hits []) phase ≡ true → ⊥
    by_hits (Reads ask) k e = page_hits s s.context (both (ask == k) _ e)
    by_hits (Writes ask docs came) k e = absurd (let f : false ≡ true = both (ask == k) _ e in cc)
    by_hits First k e = absurd (cc)
    by_hits (Holds docs came) k e = absurd (cc)
    by_hits (Rests until) k e = absurd (cc)
    by_hits Over k e = absurd (cc)

pub cut_takes_none : (c : Cutting) → TakesNone (cut_takes c)
cut_takes_none c = record {
  top = λ k top e. absurd (let f : false ≡ true = both (is_open k c.open_asks) _ e in cc);
  hits = λ k e. absurd (let f : false ≡ true = both (is_open k c.open_asks) _ e in cc);
}

pub bulk_takes_none : (b : Bulking) → TakesNone (bulk_takes b)
bulk_takes_none b = record {
  top = λ k top e. absurd (let f : false ≡ true = both (is_open k b.open_asks) _ e in cc);
  hits = λ k e. absurd (let f : false ≡ true = both (is_open k b.open_asks) _ e in cc);
}
