-- Work that asks, that takes an answer and that takes a turn keeps what is known of the run.
use Rattle.std.specs.Prelude.{◌≡◌, ℕ, Bool, true, false, ◌&&◌, List, Option, Some, None, IfSome, IsSomeAnd, refl}
use Rattle.std.proofs.Common.{sym, ◌∙◌, ap, subst}
use Rattle.reindex.specs.RootWork.{root_with_ask, root_with_answer}
use Rattle.reindex.specs.declared.root.ReindexRoot.{ReindexRoot}
use Rattle.reindex.specs.declared.root.ReindexRoot.TheVariants.{Alone, Cut}
use Rattle.search_phase.proofs.Asks.{IsSearching-ask}
use Rattle.search_phase.specs.Searching.{Searching, awaited, is_above, next_step, takes, wants_to_ask, with_answer, with_ask}
use Rattle.task_ids.specs.declared.doc.Doc.{Doc}
use Rattle.task_ids.specs.declared.task_id.TaskId.{TaskId}
use Rattle.task_events.specs.Readings.{Reading}
use Rattle.task_events.specs.declared.answered.AnsweredRequest.{AnsweredRequest}
use Rattle.task_events.specs.declared.answered.AnsweredRequest.TheVariants as told
use Rattle.task_events.specs.declared.reply.Reply.{Reply}
use Rattle.task_events.specs.declared.request.Request.{Request}
use Rattle.task_work.specs.Works.{HasLost, HasTurned, can_ask, place_of, work_takes, work_with_answer, work_with_ask}
use Rattle.task_work.specs.declared.work.Work.{Work}
use Rattle.task_work.specs.declared.work.Work.TheVariants as works
use Rattle.node_link.specs.declared.body.Place.{Place}
use Rattle.node_link.specs.declared.page.Page.{Page}
use Rattle.reply_facts.specs.Letters.{IsAnswerAt}
use Rattle.reply_facts.specs.Settings.{IsSteady, Setting, Sought, lines_in, sought_at}
use Rattle.work_facts.specs.Works.{IsSearchFor, IsWorkOfRun, Keeps, KeepsReindex, KeepsSearch, look_in, reading_for, reading_in}
use Rattle.task_work.specs.Awaiting.{IsAskedBy}
use Rattle.search_phase.specs.Awaiting.{LooksAlike}
use Rattle.work_facts.proofs.Looks.{query_turned}
use Rattle.work_facts.proofs.Searches.{answer_keeps_plain, answer_keeps_searching, ask_keeps_plain}
use Rattle.work_facts.proofs.Told.{asked_itself, reply_says}

both_true : (a b : Bool) → (a && b) ≡ true → (a ≡ true) × (b ≡ true)
both_true true b e = (refl, e)
both_true false b e = absurd cc

-- of two options the same
alike_in : (r : Request) (request : AnsweredRequest) (o : Option Request) → o ≡ Some r → IsSomeAnd o (λ own. LooksAlike own request) → LooksAlike r request
alike_in r request o e alike = subst (λ p. IsSomeAnd p (λ own. LooksAlike own request)) e alike

module _ (run : Setting) (place : Place) where
  -- the work goes on to this, for what it was for
  pub record KeepsOn (old new : Work) : Type 0 where
    pub reading : reading_in new ≡ reading_in old
    pub look : look_in new ≡ look_in old
    pub keeps : Keeps run place new

  pub work_keeps_on : (id : TaskId) (request : AnsweredRequest) (page : Option Page) (old new : Work) → IsWorkOfRun run place id request page old → KeepsOn old new → IsWorkOfRun run place id request page new
  work_keeps_on id request page old new h on = record {
    reads = subst (λ (o : Option Reading). IfSome (sought_at run place) (λ q. o ≡ reading_for id run.shards request page)) (sym on.reading) h.reads;
    looks = on.look ∙ h.looks;
    keeps = on.keeps;
  }

  -- ---- an ask

  search_asked : (s : Searching) (n : ℕ) (o : Option Sought) → IfSome o (λ q. IsSearchFor run q s) → IfSome o (λ q. IsSearchFor run q (with_ask s n))
  search_asked s n None h = tt
  search_asked s n (Some q) h = record { looks = h.looks; plain = λ steady. ask_keeps_plain (lines_in run q.index) s (h.plain steady) n }

  search_keeps_ask : (s : Searching) (n : ℕ) → (wants_to_ask (next_step s) && is_above n s.asked) ≡ true → KeepsSearch run place s → KeepsSearch run place (with_ask s n)
  search_keeps_ask s n can h = let both = both_true _ _ can in (IsSearching-ask s n h.0 both.0 both.1, search_asked s n (sought_at run place) h.1)

  root_keeps_ask : (r : ReindexRoot) (n : ℕ) → KeepsReindex run r → KeepsReindex run (root_with_ask r n)
  root_keeps_ask (Alone s) n h = h
  root_keeps_ask (Cut c) n h = h

  pub ask_keeps_on : (work : Work) (n : ℕ) → can_ask work n ≡ true → Keeps run place work → KeepsOn work (work_with_ask work n)
  ask_keeps_on (works.Search s) n can h = record { reading = refl; look = refl; keeps = search_keeps_ask s n can h }
  ask_keeps_on (works.Scroll s) n can h = record { reading = refl; look = refl; keeps = search_keeps_ask s n can h }
  ask_keeps_on (works.Query q top) n can h = record { reading = refl; look = refl; keeps = h }
  ask_keeps_on (works.Fetch f hits) n can h = record { reading = refl; look = refl; keeps = h }
  ask_keeps_on (works.Reindex r) n can h = record { reading = refl; look = refl; keeps = (h.0, root_keeps_ask r n h.1) }
  ask_keeps_on (works.Slice s) n can h = record { reading = refl; look = refl; keeps = h }
  ask_keeps_on (works.Bulk b) n can h = record { reading = refl; look = refl; keeps = h }
  ask_keeps_on (works.BulkShard w) n can h = record { reading = refl; look = refl; keeps = h }

  -- ---- an answer

  module _ (child : Place) (same : sought_at run child ≡ sought_at run place) (request : AnsweredRequest) (page : Option Page) (reply : Reply) (tells : IsAnswerAt run child request page reply) (ask : ℕ) where
    search_answered : (s : Searching) (o : Option Sought) → sought_at run place ≡ o → KeepsSearch run place s → takes s ask reply ≡ true → IsSomeAnd (awaited s ask) (λ own. LooksAlike own request)
        → IfSome o (λ q. IsSearchFor run q s) → IfSome o (λ q. IsSearchFor run q (with_answer s ask reply))
    search_answered s None is keeps t by_it h = tt
    search_answered s (Some q) is keeps t by_it h = record {
      looks = h.looks;
      plain = λ steady. answer_keeps_plain (lines_in run q.index) s (h.plain steady) ask reply keeps.0 t
          (λ r e. reply_says run q steady page r reply child (same ∙ is) (subst (λ a. IsAnswerAt run child a page reply) (asked_itself run q s h.looks child (same ∙ is) ask r request e (alike_in r request (awaited s ask) e by_it) tells.asked) tells));
    }

    search_keeps_answer : (s : Searching) → takes s ask reply ≡ true → IsSomeAnd (awaited s ask) (λ own. LooksAlike own request) → KeepsSearch run place s → KeepsSearch run place (with_answer s ask reply)
    search_keeps_answer s t by_it h = (answer_keeps_searching s ask reply h.0 t, search_answered s (sought_at run place) refl h t by_it h.1)

    root_keeps_answer : (r : ReindexRoot) (now : ℕ) → KeepsReindex run r → KeepsReindex run (root_with_answer r ask reply now)
    root_keeps_answer (Alone s) now h = h
    root_keeps_answer (Cut c) now h = h

    pub answer_keeps_on : (work : Work) (now : ℕ) → work_takes work ask reply ≡ true → IsAskedBy work ask request → Keeps run place work → KeepsOn work (work_with_answer work ask reply now)
    answer_keeps_on (works.Search s) now t by_it h = record { reading = refl; look = refl; keeps = search_keeps_answer s t by_it h }
    answer_keeps_on (works.Scroll s) now t by_it h = record { reading = refl; look = refl; keeps = search_keeps_answer s t by_it h }
    answer_keeps_on (works.Query q top) now t by_it h = record { reading = refl; look = refl; keeps = h }
    answer_keeps_on (works.Fetch f hits) now t by_it h = record { reading = refl; look = refl; keeps = h }
    answer_keeps_on (works.Reindex r) now t by_it h = record { reading = refl; look = refl; keeps = (h.0, root_keeps_answer r now h.1) }
    answer_keeps_on (works.Slice s) now t by_it h = record { reading = refl; look = refl; keeps = h }
    answer_keeps_on (works.Bulk b) now t by_it h = record { reading = refl; look = refl; keeps = h }
    answer_keeps_on (works.BulkShard w) now t by_it h = record { reading = refl; look = refl; keeps = h }

  -- ---- a turn

  -- over the lines of its shard, where the index stays
  abbrev pub IsOverLines : Work → List Doc → Type 0
  IsOverLines work rows = IfSome (place_of work) (λ p. IsSteady run p.0 → rows ≡ lines_in run p.0 p.1)

  pub turn_keeps_on : (old new : Work) (rows : List Doc) → HasTurned old rows new → IsOverLines old rows → Keeps run place old → KeepsOn old new
  turn_keeps_on (works.Query q top) (works.Query r found) rows turned over h =
      record { reading = refl; look = ap (λ a. Some (told.Query a)) turned.0.same_ask; keeps = query_turned run place q r rows turned.0 over h }
  turn_keeps_on (works.Query q top) _ rows turned over h = absurd turned
  turn_keeps_on (works.Fetch f hits) (works.Fetch g found) rows turned over h = record { reading = refl; look = ap (λ a. Some (told.Fetch a)) turned.0.same_ask; keeps = tt }
  turn_keeps_on (works.Fetch f hits) _ rows turned over h = absurd turned
  turn_keeps_on (works.BulkShard w) (works.BulkShard v) rows turned over h = record { reading = refl; look = refl; keeps = ap (λ x. run.is_written x.index) turned ∙ h }
  turn_keeps_on (works.BulkShard w) _ rows turned over h = absurd turned
  turn_keeps_on (works.Search s) new rows turned over h = absurd turned
  turn_keeps_on (works.Scroll s) new rows turned over h = absurd turned
  turn_keeps_on (works.Reindex r) new rows turned over h = absurd turned
  turn_keeps_on (works.Slice s) new rows turned over h = absurd turned
  turn_keeps_on (works.Bulk b) new rows turned over h = absurd turned

  same_keeps_on : (old new : Work) → new ≡ old → Keeps run place old → KeepsOn old new
  same_keeps_on old new same h = record { reading = ap reading_in same; look = ap look_in same; keeps = subst (Keeps run place) (sym same) h }

  -- a turn that broke off
  pub loss_keeps_on : (old new : Work) → HasLost old new → Keeps run place old → KeepsOn old new
  loss_keeps_on (works.BulkShard w) (works.BulkShard v) lost h = record { reading = refl; look = refl; keeps = ap (λ x. run.is_written x.index) lost.1 ∙ h }
  loss_keeps_on (works.BulkShard w) new lost h = same_keeps_on (works.BulkShard w) new lost h
  loss_keeps_on (works.Query q top) new lost h = same_keeps_on (works.Query q top) new lost h
  loss_keeps_on (works.Fetch f hits) new lost h = same_keeps_on (works.Fetch f hits) new lost h
  loss_keeps_on (works.Search s) new lost h = same_keeps_on (works.Search s) new lost h
  loss_keeps_on (works.Scroll s) new lost h = same_keeps_on (works.Scroll s) new lost h
  loss_keeps_on (works.Reindex r) new lost h = same_keeps_on (works.Reindex r) new lost h
  loss_keeps_on (works.Slice s) new lost h = same_keeps_on (works.Slice s) new lost h
  loss_keeps_on (works.Bulk b) new lost h = same_keeps_on (works.Bulk b) new lost h
