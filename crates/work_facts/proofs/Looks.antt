-- A query and a fetch over the lines of their shard, which stay as they are.
use Rattle.std.specs.Prelude.{◌≡◌, ℕ, List, Option, Some, None, IfSome, unwrap_or, length, refl}
use Rattle.std.proofs.Common.{sym, ◌∙◌, ap, subst}
use Rattle.search_phase.specs.Queries.{HasTurned, QueryState, new_query, version_at}
use Rattle.task_ids.specs.declared.doc.Doc.{Doc}
use Rattle.task_events.specs.Answers.{shard_top}
use Rattle.task_events.specs.declared.request.ShardAsk.{ShardAsk}
use Rattle.node_link.specs.declared.body.Place.{Place}
use Rattle.reply_facts.specs.Letters.{IsQueryFor}
use Rattle.reply_facts.specs.Plainly.{top_over}
use Rattle.reply_facts.specs.Settings.{IsSteady, Setting, Sought, lines_in, sought_at}
use Rattle.work_facts.specs.Works.{IsLookFor, KeepsQuery}

version_asked : (o : Option ℕ) (n : ℕ) → IfSome o (λ version. version ≡ n) → unwrap_or o n ≡ n
version_asked None n is = refl
version_asked (Some version) n is = is

module _ (run : Setting) (place : Place) where
  of_sought : (ask : ShardAsk) (o : Option Sought) → IfSome o (λ k. IsQueryFor run k ask) → IfSome o (λ k. IsLookFor run k (new_query ask))
  of_sought ask None asked = tt
  of_sought ask (Some k) asked = record { over = asked.index; reads = λ steady. version_asked ask.version (length (lines_in run k.index ask.shard)) (asked.reads steady) }

  pub new_query_keeps : (ask : ShardAsk) → IfSome (sought_at run place) (λ k. IsQueryFor run k ask) → KeepsQuery run place (new_query ask)
  new_query_keeps ask asked = of_sought ask (sought_at run place) asked

  -- a turn over the lines fixes the version at their number
  module _ (q new : QueryState) (rows : List Doc) (turned : HasTurned q rows new) (over : IsSteady run q.ask.index → rows ≡ lines_in run q.ask.index q.ask.shard) where
    turned_at : (o : Option Sought) → IfSome o (λ k. IsLookFor run k q) → IfSome o (λ k. IsLookFor run k new)
    turned_at None keeps = tt
    turned_at (Some k) keeps = record {
      over = ap (λ (a : ShardAsk). a.index) turned.same_ask ∙ keeps.over;
      reads = λ steady.
          let same : rows ≡ lines_in run k.index q.ask.shard = subst (λ i. IsSteady run i → rows ≡ lines_in run i q.ask.shard) keeps.over over steady in
          let fixed : version_at new (lines_in run k.index new.ask.shard) ≡ version_at q rows = ap (λ o. unwrap_or o (length (lines_in run k.index new.ask.shard))) turned.version_fixed in
          fixed ∙ ap (version_at q) same ∙ keeps.reads steady ∙ ap (λ (a : ShardAsk). length (lines_in run k.index a.shard)) (sym turned.same_ask);
    }

    pub query_turned : KeepsQuery run place q → KeepsQuery run place new
    query_turned keeps = turned_at (sought_at run place) keeps

-- what it finds, once it has read all lines
pub top_found : (q : QueryState) (rows : List Doc) → version_at q rows ≡ length rows → shard_top q.ask (version_at q rows) rows ≡ top_over q.ask rows
top_found q rows all = ap (λ n. shard_top q.ask n rows) all
