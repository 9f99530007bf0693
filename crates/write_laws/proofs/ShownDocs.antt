-- The documents of the pages that a slice was shown, by its asks, and those of lists of hits.
use Rattle.std.proofs.Common.{◌≡◌, ℕ, List, [], ◌∷◌, ◌++◌, append-nil, map, Option, Some, None, refl, ap, ◌∙◌}
use Rattle.std.specs.List.{flat_map}
use Rattle.std.specs.Option.{option_map_or}
use Rattle.std.proofs.lemmas.List.{map-append}
use Rattle.std.proofs.lemmas.List.Concat.{flat_map-append}
use Rattle.task_ids.specs.declared.cluster.Cluster.{Cluster}
use Rattle.task_ids.specs.declared.task_id.TaskId.{TaskId}
use Rattle.task_events.specs.declared.event.Event.{Event}
use Rattle.task_events.specs.declared.reply.Hit.{Hit}
use Rattle.task_events.specs.declared.reply.Reply.{Reply}
use Rattle.task_events.specs.declared.reply.Reply.TheVariants.{AllFailed, Cancelled, Hits, Rejected, Search, Top, Wrote}
use Rattle.task_events.specs.declared.step.Asked.{Asked}
use Rattle.task_events.specs.Asks.{last_ask, up_to}
use Rattle.task_events.specs.Lawful.{Lawful}
use Rattle.task_events.specs.SliceTask.{docs_on}
use Rattle.task_events.specs.Steps.{asked_by}
use Rattle.world_steps.specs.PagesFollow.{joined, shown_by}
use Rattle.write_laws.specs.Copied.{docs_shown}
use Rattle.write_laws.specs.CopiedRows.{docs_in}
use Rattle.write_laws.proofs.AskedInOrder.{answer_come, asked_at, asked_in_order}

-- ---- by the asks

one_answer : (k : ℕ) (answer : Option Reply) (rest : List Asked) → docs_shown (record { ask = k; answer = answer } ∷ rest) ≡ option_map_or docs_on answer [] ++ docs_shown rest
one_answer k None rest = refl
one_answer k (Some reply) rest = refl

docs_at : (t : TaskId) (h : List Event) (ks : List ℕ) → docs_shown (map (asked_at t h) ks) ≡ flat_map (λ k. option_map_or docs_on (answer_come t h k) []) ks
docs_at t h [] = refl
docs_at t h (k ∷ ks) = one_answer k (answer_come t h k) (map (asked_at t h) ks) ∙ ap (λ xs. option_map_or docs_on (answer_come t h k) [] ++ xs) (docs_at t h ks)

pub docs_by_asks : (cluster : Cluster) (t : TaskId) (h : List Event) → Lawful cluster h → docs_shown (asked_by t h) ≡ flat_map (λ k. option_map_or docs_on (answer_come t h k) []) (up_to (last_ask t h))
docs_by_asks cluster t h l = ap docs_shown (asked_in_order cluster t h l) ∙ docs_at t h (up_to (last_ask t h))

-- ---- by the pages

pub page_docs : (reply : Reply) → docs_in (joined (shown_by reply)) ≡ docs_on reply
page_docs (Search page) = ap docs_in (append-nil page.hits)
page_docs (Top top) = refl
page_docs (Hits hits) = refl
page_docs (AllFailed failed) = refl
page_docs (Wrote counts) = refl
page_docs (Cancelled t c counts) = refl
page_docs (Rejected n) = refl

pub docs_joined : (page : ℕ → List (List Hit)) (ks : List ℕ) → docs_in (joined (flat_map page ks)) ≡ flat_map (λ k. docs_in (joined (page k))) ks
docs_joined page [] = refl
docs_joined page (k ∷ ks) =
    ap docs_in (flat_map-append (λ list. list) (page k) (flat_map page ks)) ∙ map-append (λ hit. hit.doc) (joined (page k)) (joined (flat_map page ks))
    ∙ ap (λ xs. docs_in (joined (page k)) ++ xs) (docs_joined page ks)
