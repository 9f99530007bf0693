-- The fetch of a shard: it looks up places, and replies with their documents.
use Rattle.std.specs.Prelude.{ℕ, List, [], ◌∷◌, length, Bool, true, false, ◌&&◌, ◌==◌, Some, map, if◌then◌else◌}
use Rattle.std.specs.List.{list_all}
use Rattle.std.specs.Str.{bytes_eq}
use Rattle.task_ids.specs.declared.action.Action.TheVariants as actions
use Rattle.task_ids.specs.declared.doc.Doc.{Doc}
use Rattle.task_events.specs.declared.request.FetchAsk.{FetchAsk}
use Rattle.task_events.specs.declared.reply.Hit.{Hit}
use Rattle.task_events.specs.declared.reply.Reply.{Reply}
use Rattle.task_events.specs.declared.reply.Reply.TheVariants.{Hits}
use Rattle.task_events.specs.declared.step.Do.{Do}
use Rattle.task_events.specs.Answers.{fetched}
use Rattle.task_events.specs.Documents.{writes_of}
use Rattle.task_events.specs.Kind.{Kind}
use Rattle.task_events.specs.Looking.{is_done, shard_description, work_or_end}
use Rattle.task_events.specs.Tasks.{no_counts}

-- a fetch looks up its places, and ends with their documents
abbrev pub fetch_step : FetchAsk → ℕ → List Doc → Do
fetch_step ask turns writes = work_or_end (is_done turns (length ask.places)) (Hits (fetched ask writes))

-- some of the places, in their order
abbrev pub are_among : List ℕ → List ℕ → Bool
are_among [] all = true
are_among (place ∷ places) [] = false
are_among (place ∷ places) (next ∷ later) = if place == next then are_among places later else are_among (place ∷ places) later

-- documents of the index, of some of the places, in their order
abbrev pub are_hits_for : FetchAsk → List Hit → Bool
are_hits_for ask hits = list_all (λ hit. bytes_eq ask.index hit.index) hits && are_among (map (λ hit. hit.place) hits) ask.places

abbrev pub fetch_can_have : FetchAsk → Reply → Bool
fetch_can_have ask (Hits hits) = are_hits_for ask hits
fetch_can_have ask _ = false

abbrev pub fetch_task : FetchAsk → Kind
fetch_task ask = record {
  action = actions.Fetch;
  description = shard_description ask.index ask.shard;
  place = Some (ask.index, ask.shard);
  docs = [];
  step = λ cluster corpus t p now. fetch_step ask p.turns (writes_of corpus cluster.shards ask.index ask.shard);
  counts = λ p. no_counts;
  limit = 1;
  replies = λ shards reply. fetch_can_have ask reply;
}
