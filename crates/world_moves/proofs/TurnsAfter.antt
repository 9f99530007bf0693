-- The tables fit the past after a turn of work, with what it has written.
use Rattle.std.proofs.Common.{◌≡◌, ◌≢◌, ◌⊎◌, ◌<◌, ℕ, ◌+◌, ◌*◌, true, false, List, [], ◌∷◌, ◌++◌, length, map, Option, Some, None, refl, sym, ap, subst, ◌∙◌, inl, inr, arith}
use Rattle.std.specs.Prelude.{drop, not, slice_get, option_and_then}
use Rattle.std.specs.List.{AllByRecursion}
use Rattle.std.specs.Option.{option_map_or, option_or}
use Rattle.task_ids.specs.declared.task_id.TaskId.{TaskId}
use Rattle.task_ids.specs.declared.cluster.Cluster.{Cluster}
use Rattle.task_ids.specs.declared.corpus.Corpus.{Corpus}
use Rattle.task_ids.specs.declared.corpus.CorpusLine.{CorpusLine}
use Rattle.task_ids.specs.declared.doc.Doc.{Doc}
use Rattle.task_table.specs.Table.{Table}
use Rattle.task_work.specs.declared.work.Work.{Work}
use Rattle.task_work.specs.Plans.{progress_with_turn}
use Rattle.task_work.specs.Works.{next_of, with_turn, work_notes, docs_next, place_of}
use Rattle.task_events.specs.declared.request.Request.{Request}
use Rattle.task_events.specs.declared.request.Request.TheVariants as asks
use Rattle.task_events.specs.declared.request.WriteNote.{WriteNote}
use Rattle.task_events.specs.declared.step.Do.TheVariants.{Turn}
use Rattle.task_events.specs.declared.event.Event.{Event}
use Rattle.task_events.specs.declared.event.Event.TheVariants.{Work as worked}
use Rattle.task_events.specs.Asks.{request_of_ask}
use Rattle.task_events.specs.Bans.{mark_of}
use Rattle.task_ids.specs.Placing.{shard_of}
use Rattle.task_events.specs.Documents.{writes_of, writes_at}
use Rattle.task_events.specs.Kinds.{kind_of}
use Rattle.task_events.specs.Lawful.{AwaitsNoMark}
use Rattle.task_events.specs.Messages.{Message, in_flight}
use Rattle.task_events.specs.Messages.Message.{Request as a_request, Answer as an_answer, Ban as a_ban, Ack as an_ack, Unban as an_unban}
use Rattle.task_events.specs.Requests.{request_of}
use Rattle.task_events.specs.Same.{same_task}
use Rattle.task_events.specs.Steps.{after_turn, turns_of, before_first_turn}
use Rattle.task_events.specs.Tasks.{is_live, is_new}
use Rattle.task_events.specs.Looking.{rows_per_turn}
use Rattle.task_events.specs.Written.{docs_of, docs_of_turn, is_created, lines_at, notes_at, turn_notes, with_notes, writes_by}
use Rattle.task_laws.proofs.Same.{same_task_tells, same_tests}
use Rattle.std.proofs.lemmas.List.{append-nil, take-append-drop}
use Rattle.script_lang.specs.declared.command.Script.{Script}
use Rattle.node_parts.specs.declared.running.Running.{Running}
use Rattle.command_roots.specs.Roots.{scripted}
use Rattle.world_moves.specs.declared.flight.Sent.{Sent}
use Rattle.world_moves.specs.Facts.{Facts, facts_of, awaited_by, requested_by}
use Rattle.world_moves.specs.Flights.{message_of}
use Rattle.world_moves.specs.Good.{IsWithin, Grows, own_writes, so_far}
use Rattle.world_moves.specs.Plain.{AnswersPlainly}
use Rattle.world_moves.specs.Ties.{Ties, RunsAt, WorksFor, IsKept, IsTableAt, IsGood, progress_from, version_from}
use Rattle.world_moves.proofs.AllKinds.{passed_laws, works_grow}
use Rattle.world_moves.proofs.FactsAfter.{at_work, frame}
use Rattle.world_moves.proofs.FlightAfter.{all_stay}
use Rattle.world_moves.proofs.Growing.{request_grown}
use Rattle.world_moves.proofs.KindLaws.{KindLaws}
use Rattle.world_moves.proofs.NodeTablesSame.{listed_same}
use Rattle.world_moves.proofs.SearchLaws.{good_grown}
use Rattle.world_moves.proofs.StepsAfter.{kept_running}
use Rattle.world_moves.proofs.WritesAfter.{notes_keep, notes_same, notes_lawful, notes_facts, other_facts, wrote, notes_lines, written_both}
use Rattle.corpus_shards.specs.Stored.{lines_of}
use Rattle.corpus_shards.proofs.Appended.{writes_append}
use Rattle.world_moves.proofs.RequestsWithin.{asked_within}

-- the shard of a request of one is one of its index
placed_low : (cluster : Cluster) (corpus : Corpus) (q : Request) (index : List ℕ) (shard : ℕ) → (kind_of q).place ≡ Some (index, shard) → IsWithin cluster corpus q → shard < cluster.shards
placed_low cluster corpus (asks.Query ask) index shard place within = subst (λ k. k < cluster.shards) (let same : ask.shard ≡ shard = ap (λ o. option_map_or (λ p. p.1) o 0) place in same) within.0
placed_low cluster corpus (asks.Fetch ask) index shard place within = subst (λ k. k < cluster.shards) (let same : ask.shard ≡ shard = ap (λ o. option_map_or (λ p. p.1) o 0) place in same) within.0
placed_low cluster corpus (asks.BulkShard ask) index shard place within = subst (λ k. k < cluster.shards) (let same : ask.shard ≡ shard = ap (λ o. option_map_or (λ p. p.1) o 0) place in same) within.shard
placed_low cluster corpus (asks.Search ask) index shard place within = absurd (cc)
placed_low cluster corpus (asks.Reindex ask) index shard place within = absurd (cc)
placed_low cluster corpus (asks.Slice ask) index shard place within = absurd (cc)
placed_low cluster corpus (asks.Bulk ask) index shard place within = absurd (cc)
placed_low cluster corpus (asks.Scroll ask) index shard place within = absurd (cc)

-- a message stays good where more is written
good_later : (cluster : Cluster) (corpus later : Corpus) → Grows cluster corpus later → (h past : List Event) → ((p : TaskId) (k : ℕ) → request_of_ask p k past ≡ request_of_ask p k h) → (m : Message) → IsGood cluster corpus h m → IsGood cluster later past m
good_later cluster corpus later grows h past same (an_answer p k reply) good = λ r asked. good_grown cluster corpus later grows r reply (good r (sym (same p k) ∙ asked))
good_later cluster corpus later grows h past same (a_ban p c n) good = good
good_later cluster corpus later grows h past same (a_request p k n r) good = tt
good_later cluster corpus later grows h past same (an_ack p n) good = tt
good_later cluster corpus later grows h past same (an_unban p n) good = tt

all_later : {X : Type 0} (P Q : X → Type 0) → ((x : X) → P x → Q x) → (xs : List X) → AllByRecursion P xs → AllByRecursion Q xs
all_later P Q each [] all = tt
all_later P Q each (x ∷ xs) all = (each x all.0, all_later P Q each xs all.1)

-- the lines of documents that are written at a place
abbrev pub lines_at_place : Option (List ℕ × ℕ) → List Doc → List CorpusLine
lines_at_place None docs = []
lines_at_place (Some place) docs = lines_of place.0 docs

module _ (cluster : Cluster) (corpus : Corpus) (script : Script) (h : List Event) (tasks : TaskId → Option Running) (tables : List Table) (flight : List Sent) (ties : Ties cluster corpus script h tasks tables flight)
    (t : TaskId) (now : ℕ) (r : Running) (live : is_live t h ≡ true) (passed : is_new t h ≡ false) (unmarked : mark_of t h ≡ None) (here : tasks t ≡ Some r) where
  abbrev pub asked : Option Request
  asked = request_of (scripted script) t h

  -- what its shard has before it
  abbrev pub own : List Doc
  own = own_writes cluster (so_far corpus script h) asked

  abbrev pub notes : List WriteNote
  notes = work_notes r.work own

  abbrev pub past : List Event
  past = with_notes notes (worked t ∷ h)

  abbrev pub later : Corpus
  later = so_far corpus script past

  pub runs : RunsAt cluster (so_far corpus script) h t (facts_of (scripted script) t h) r
  runs = kept_running cluster corpus script h tasks tables flight ties t live r here

  pub laws : KindLaws cluster (so_far corpus script h) t (progress_from cluster (so_far corpus script) (facts_of (scripted script) t h)) (requested_by t h) (awaited_by t h) asked r.work
  laws = passed_laws cluster (so_far corpus script) h t (facts_of (scripted script) t h) r passed runs

  -- it writes what its request says
  pub past_is : after_turn cluster corpus (scripted script) t h ≡ past
  past_is = ap (λ ns. with_notes ns (worked t ∷ h)) (by_request asked refl)
    where
      by_request : (o : Option Request) → asked ≡ o → option_map_or (λ request. turn_notes cluster (so_far corpus script h) request (turns_of t h)) asked [] ≡ notes
      by_request None e = ap (λ o. option_map_or (λ request. turn_notes cluster (so_far corpus script h) request (turns_of t h)) o []) e
          ∙ sym (ap (λ place. notes_at place own (docs_next r.work)) (laws.place ∙ ap (option_and_then (λ k. (kind_of k).place)) e))
      by_request (Some q) e =
          let place : place_of r.work ≡ (kind_of q).place = laws.place ∙ ap (option_and_then (λ k. (kind_of k).place)) e in
          let docs : docs_next r.work ≡ docs_of_turn (kind_of q).docs (turns_of t h) = laws.docs ∙ ap (λ o. docs_of_turn (docs_of o) (turns_of t h)) e in
          ap (λ o. option_map_or (λ request. turn_notes cluster (so_far corpus script h) request (turns_of t h)) o []) e
          ∙ sym (λ i. notes_at (place i) (own_writes cluster (so_far corpus script h) (e i)) (docs i))

  module _ (grows : Grows cluster (so_far corpus script h) later) where
    -- what is kept of another task
    grown_kept : (q : TaskId) (facts : Facts) (o : Option Running) → IsKept cluster (so_far corpus script) h q facts o → IsKept cluster (so_far corpus script) past q facts o
    grown_kept q facts None kept = kept
    grown_kept q facts (Some other) kept = record {
      live = kept.live;
      id = kept.id;
      token = kept.token;
      track = kept.track;
      new = kept.new;
      page = kept.page;
      headers = kept.headers;
      works = works_grow cluster (so_far corpus script h) later grows q facts.new (progress_from cluster (so_far corpus script) facts) facts.requests facts.awaited facts.request other.work kept.works;
    }

    version_after : (began : Option (List Event)) → option_or (version_from cluster (so_far corpus script) asked began) (Some (length own)) ≡ version_from cluster (so_far corpus script) asked (option_or began (Some h))
    version_after None = refl
    version_after (Some first) = refl

    -- what the past says of the task afterwards
    abbrev facts_after : Facts
    facts_after = wrote (scripted script) t (record (facts_of (scripted script) t h) { turns = 1 + turns_of t h; began = option_or (before_first_turn t h) (Some h) }) notes

    facts_are : facts_of (scripted script) t past ≡ facts_after
    facts_are = notes_facts (scripted script) t notes (worked t ∷ h) refl ∙ ap (λ facts. wrote (scripted script) t facts notes) (at_work (scripted script) t h)

    module _ (w : Work) (next : next_of r.work own now ≡ Turn) (turn : w ≡ with_turn r.work own) (same : own_writes cluster later asked ≡ own ++ docs_next r.work) where
      works_after : WorksFor cluster later t (is_new t h) (progress_from cluster (so_far corpus script) facts_after) (requested_by t h) (awaited_by t h) asked w
      works_after =
          subst (λ new. WorksFor cluster later t new (progress_from cluster (so_far corpus script) facts_after) (requested_by t h) (awaited_by t h) asked w) (sym passed)
          (subst (λ version. WorksFor cluster later t false (record (progress_from cluster (so_far corpus script) facts_after) { version = version }) (requested_by t h) (awaited_by t h) asked w) (version_after (before_first_turn t h))
          (subst (λ v. WorksFor cluster later t false (progress_with_turn (progress_from cluster (so_far corpus script) (facts_of (scripted script) t h)) own notes) (requested_by t h) (awaited_by t h) asked v) (sym turn)
          (laws.turned now later next grows same)))

      runs_after : RunsAt cluster (so_far corpus script) past t facts_after (record r { work = w })
      runs_after = record { live = runs.live; id = runs.id; token = runs.token; track = runs.track; new = runs.new; page = runs.page; headers = runs.headers; works = works_after }

      kept_after_turn : (after : TaskId → Option Running) → after t ≡ Some (record r { work = w }) → ((q : TaskId) → same_task t q ≡ false → after q ≡ tasks q)
          → (q : TaskId) → IsKept cluster (so_far corpus script) past q (facts_of (scripted script) q past) (after q)
      kept_after_turn after there others q = by_task (same_task_tells t q)
        where
          elsewhere : t ≢ q → facts_of (scripted script) q past ≡ facts_of (scripted script) q h
          elsewhere apart = other_facts (scripted script) t q (grind (arith, same_tests, apart)) notes (worked t ∷ h) refl
              ∙ frame (scripted script) q (worked t) h (grind (arith, same_tests, apart)) refl

          by_task : ((same_task t q ≡ true) × (t ≡ q)) ⊎ ((same_task t q ≡ false) × (t ≢ q)) → IsKept cluster (so_far corpus script) past q (facts_of (scripted script) q past) (after q)
          by_task (inl (is_one, is_it)) = subst (λ x. IsKept cluster (so_far corpus script) past x (facts_of (scripted script) x past) (after x)) is_it (rw there (subst (λ facts. RunsAt cluster (so_far corpus script) past t facts (record r { work = w })) (sym facts_are) runs_after))
          by_task (inr (differs, apart)) = rw (elsewhere apart) (rw (others q differs) (grown_kept q (facts_of (scripted script) q h) (tasks q) (ties.kept q)))

      pub after_work : AwaitsNoMark h → (after : TaskId → Option Running) → after t ≡ Some (record r { work = w }) → ((q : TaskId) → same_task t q ≡ false → after q ≡ tasks q)
          → Ties cluster corpus script past after tables flight
      after_work awaits after there others = record {
        lawful = notes_lawful cluster t notes (worked t ∷ h) refl (record { goes_on = record { live = live; passed = passed }; unmarked = unmarked }, ties.lawful, awaits);
        kept = kept_after_turn after there others;
        listed = λ place. notes_keep (λ g. IsTableAt cluster place g (slice_get tables place)) (λ index shard outcome id g fits. listed_same cluster _ g (λ n. refl) refl place _ fits) notes (worked t ∷ h)
            (listed_same cluster (worked t) h (λ n. refl) refl place _ (ties.listed place));
        sent = notes_keep (λ g. map (message_of g) flight ≡ map Some (in_flight g)) (λ index shard outcome id g sent. all_stay _ g flight _ sent) notes (worked t ∷ h) (all_stay (worked t) h flight _ ties.sent);
        good = subst (AllByRecursion (IsGood cluster later past)) (sym (notes_same in_flight (λ index shard outcome id g. refl) notes (worked t ∷ h)))
            (all_later _ _ (good_later cluster (so_far corpus script h) later grows h past (λ p k. notes_same (request_of_ask p k) (λ index shard outcome id g. refl) notes (worked t ∷ h))) (in_flight h) ties.good);
        within = λ p k q wanted. request_grown cluster (so_far corpus script h) later grows q (ties.within p k q (sym (notes_same (request_of_ask p k) (λ index shard outcome id g. refl) notes (worked t ∷ h)) ∙ wanted));
        plain = notes_keep (AnswersPlainly cluster corpus script) (λ index shard outcome id g plain. plain) notes (worked t ∷ h) ties.plain;
      }

  -- ---- what is written

  -- the lines that it writes
  abbrev new_lines : List CorpusLine
  new_lines = lines_at_place (place_of r.work) (docs_next r.work)

  pub later_lines : later.lines ≡ (so_far corpus script h).lines ++ new_lines
  later_lines = by_docs laws.full
    where
      none_written : docs_next r.work ≡ [] → later.lines ≡ (so_far corpus script h).lines ++ new_lines
      none_written none =
          ap (λ docs. lines_at corpus.lines (scripted script) (with_notes (notes_at (place_of r.work) own docs) (worked t ∷ h))) none
          ∙ nothing_at (place_of r.work)
          ∙ sym (ap (λ docs. (so_far corpus script h).lines ++ lines_at_place (place_of r.work) docs) none)
        where
          nothing_at : (o : Option (List ℕ × ℕ)) → lines_at corpus.lines (scripted script) (with_notes (notes_at o own []) (worked t ∷ h)) ≡ (so_far corpus script h).lines ++ lines_at_place o []
          nothing_at None = sym (append-nil (so_far corpus script h).lines)
          nothing_at (Some place) = sym (append-nil (so_far corpus script h).lines)

      by_docs : (docs_next r.work ≡ []) ⊎ (writes_by is_created t h + writes_by (λ outcome. not (is_created outcome)) t h ≡ turns_of t h * rows_per_turn) → later.lines ≡ (so_far corpus script h).lines ++ new_lines
      by_docs (inl none) = none_written none
      by_docs (inr full) = at_place (place_of r.work)
        where
          next_docs : drop (writes_by (λ outcome. true) t (worked t ∷ h)) (docs_of asked) ≡ docs_next r.work ++ drop rows_per_turn (drop (turns_of t h * rows_per_turn) (docs_of asked))
          next_docs = ap (λ n. drop n (docs_of asked)) (written_both t h ∙ full) ∙ sym (take-append-drop rows_per_turn (drop (turns_of t h * rows_per_turn) (docs_of asked))) ∙ ap (λ docs. docs ++ drop rows_per_turn (drop (turns_of t h * rows_per_turn) (docs_of asked))) (sym laws.docs)

          at_place : (o : Option (List ℕ × ℕ)) → lines_at corpus.lines (scripted script) (with_notes (notes_at o own (docs_next r.work)) (worked t ∷ h)) ≡ (so_far corpus script h).lines ++ lines_at_place o (docs_next r.work)
          at_place None = sym (append-nil (so_far corpus script h).lines)
          at_place (Some place) = notes_lines (scripted script) t place.0 place.1 corpus.lines own (docs_next r.work) _ (worked t ∷ h) refl next_docs

  -- ---- the shard

  -- it takes its turn over a shard
  pub has_place : next_of r.work own now ≡ Turn → place_of r.work ≡ None → ⊥
  has_place next none = let there = laws.turns_there own now next in let f = rw none at there in cc

  module _ (index : List ℕ) (shard : ℕ) (place : place_of r.work ≡ Some (index, shard)) where
    -- what lies in the shard before it
    pub own_at : own ≡ writes_of (so_far corpus script h) cluster.shards index shard
    own_at = by_request asked refl
      where
        by_request : (o : Option Request) → asked ≡ o → own ≡ writes_of (so_far corpus script h) cluster.shards index shard
        by_request None e = absurd (let f : None ≡ Some (index, shard) = sym (laws.place ∙ ap (option_and_then (λ k. (kind_of k).place)) e) ∙ place in cc)
        by_request (Some q) e = ap (own_writes cluster (so_far corpus script h)) e ∙ ap (writes_at cluster (so_far corpus script h)) (sym (laws.place ∙ ap (option_and_then (λ k. (kind_of k).place)) e) ∙ place)

    -- and after it
    pub own_later : own_writes cluster later asked ≡ writes_of later cluster.shards index shard
    own_later = by_request asked refl
      where
        by_request : (o : Option Request) → asked ≡ o → own_writes cluster later asked ≡ writes_of later cluster.shards index shard
        by_request None e = absurd (let f : None ≡ Some (index, shard) = sym (laws.place ∙ ap (option_and_then (λ k. (kind_of k).place)) e) ∙ place in cc)
        by_request (Some q) e = ap (own_writes cluster later) e ∙ ap (writes_at cluster later) (sym (laws.place ∙ ap (option_and_then (λ k. (kind_of k).place)) e) ∙ place)

    -- it is one of its index
    pub shard_there : shard < cluster.shards
    shard_there = by_request asked refl
      where
        by_request : (o : Option Request) → asked ≡ o → shard < cluster.shards
        by_request None e = absurd (let f : None ≡ Some (index, shard) = sym (laws.place ∙ ap (option_and_then (λ k. (kind_of k).place)) e) ∙ place in cc)
        by_request (Some q) e = placed_low cluster (so_far corpus script h) q index shard (sym (laws.place ∙ ap (option_and_then (λ k. (kind_of k).place)) e) ∙ place) (asked_within cluster corpus script h tasks tables flight ties t q e)

    abbrev pub lines_later : Corpus
    lines_later = record { lines = (so_far corpus script h).lines ++ lines_of index (docs_next r.work) }

    pub later_is : later ≡ lines_later
    later_is = ap (λ lines. record { lines = lines }) (later_lines ∙ ap (λ o. (so_far corpus script h).lines ++ lines_at_place o (docs_next r.work)) place)

    pub grows_so : Grows cluster (so_far corpus script h) later
    grows_so i k = (
      writes_of (record { lines = lines_of index (docs_next r.work) }) cluster.shards i k,
      ap (λ now. writes_of now cluster.shards i k) later_is ∙ writes_append (so_far corpus script h).lines (lines_of index (docs_next r.work)) cluster.shards i k,
    )

    pub in_its_shard : AllByRecursion (λ doc. shard_of doc.id cluster.shards ≡ shard) (docs_next r.work)
    in_its_shard = laws.in_shard (index, shard) place
