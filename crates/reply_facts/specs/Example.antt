-- Three documents in two shards, and what a search of them may reply.
use Rattle.std.specs.Prelude.{ℕ, false, List, [], ◌∷◌, Option, Some, None}
use Rattle.query_match.specs.Query.{match_all}
use Rattle.serde_json.specs.Data.{null}
use Rattle.task_ids.specs.declared.corpus.CorpusLine.{CorpusLine}
use Rattle.task_ids.specs.declared.doc.Doc.{Doc}
use Rattle.task_ids.specs.declared.task_id.TaskId.{TaskId}
use Rattle.task_events.specs.declared.reply.FailedShard.{FailedShard}
use Rattle.task_events.specs.declared.reply.Hit.{Hit}
use Rattle.task_events.specs.declared.reply.Reply.{Reply}
use Rattle.task_events.specs.declared.reply.Reply.TheVariants.{Search}
use Rattle.task_events.specs.declared.reply.ShardCount.{ShardCount}
use Rattle.task_events.specs.declared.reply.ShardFailure.TheVariants.{Rejected}
use Rattle.task_events.specs.declared.request.HitKey.{HitKey}
use Rattle.task_events.specs.declared.request.ScrollAsk.{ScrollAsk}
use Rattle.task_events.specs.declared.request.SearchAsk.{SearchAsk}
use Rattle.node_link.specs.declared.page.Page.{Page}
use Rattle.reply_facts.specs.Settings.{Setting, sought_by}

-- the index "a", and in it the documents "1", "2" and "3"
abbrev pub index : List ℕ
index = 97 ∷ []

abbrev pub doc : ℕ → Doc
doc byte = record { id = byte ∷ []; source = null }

abbrev pub line : ℕ → CorpusLine
line byte = record { index = index; doc = doc byte }

-- all are looked for, and two are shown
abbrev pub ask : SearchAsk
ask = record { index = index; body = record { query = match_all; sort = []; from = 0; size = 2 }; scroll = None; slice = None; owner = None }

-- "2" lies in the first shard, and "1" and "3" in the second
abbrev pub run : Setting
run = record { corpus = record { lines = line 49 ∷ line 50 ∷ line 51 ∷ [] }; shards = 2; is_written = λ index. false; sought = λ command. Some (sought_by ask) }

abbrev pub count : ℕ → ℕ → ShardCount
count shard rows = record { shard = shard; version = rows; count = rows }

abbrev pub hit : ℕ → ℕ → Hit
hit byte place = record { index = index; doc = doc byte; place = place }

abbrev pub key : ℕ → ℕ → HitKey
key shard place = record { sort = []; shard = shard; place = place }

abbrev pub reply_with : Option TaskId → List ShardCount → List FailedShard → ℕ → List Hit → HitKey → Reply
reply_with context counts failed total hits last = Search (record { context = context; shards = counts; failed = failed; total = total; hits = hits; last = Some last })

-- ---- a search

-- both shards have answered
abbrev pub whole : Reply
whole = reply_with None (count 0 1 ∷ count 1 2 ∷ []) [] 3 (hit 50 0 ∷ hit 49 0 ∷ []) (key 1 0)

-- the node of the second shard was full
abbrev pub without_second : Reply
without_second = reply_with None (count 0 1 ∷ []) (record { shard = 1; failure = Rejected 2 } ∷ []) 1 (hit 50 0 ∷ []) (key 0 0)

-- the second shard is left out without a word
abbrev pub in_silence : Reply
in_silence = reply_with None (count 0 1 ∷ []) [] 1 (hit 50 0 ∷ []) (key 0 0)

-- the second shard was read when it had one document
abbrev pub too_early : Reply
too_early = reply_with None (count 0 1 ∷ count 1 1 ∷ []) [] 2 (hit 50 0 ∷ hit 49 0 ∷ []) (key 1 0)

-- ---- its next page

abbrev pub scroll : TaskId → ScrollAsk
scroll id = record { id = id; keep = None; owner = None }

abbrev pub page : Page
page = record { ask = ask; shards = count 0 1 ∷ count 1 2 ∷ []; after = Some (key 1 0) }

abbrev pub page_reply : TaskId → ℕ → ℕ → ℕ → Reply
page_reply id total byte place = reply_with (Some id) (count 0 1 ∷ count 1 2 ∷ []) [] total (hit byte place ∷ []) (key 1 place)

-- the document after the cursor, and the total of all
abbrev pub next_page : TaskId → Reply
next_page id = page_reply id 3 51 1

-- the document at the cursor again
abbrev pub same_again : TaskId → Reply
same_again id = page_reply id 3 49 0

-- only what the page shows is counted
abbrev pub short_total : TaskId → Reply
short_total id = page_reply id 1 51 1
