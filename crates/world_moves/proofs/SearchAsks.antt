-- What a search asks for, in the order of its plan.
use Rattle.std.proofs.Common.{◌≡◌, ◌≤◌, ◌<◌, ℕ, zero, suc, ◌+◌, Bool, true, false, cond, List, [], ◌∷◌, ◌++◌, length, map, take, Option, Some, None, refl, sym, ap, subst, ◌∙◌, arith}
use Rattle.std.specs.Prelude.{◌&&◌, is_some, not, nat_lt, slice_get, filter, filter_map, option_and_then}
use Rattle.std.specs.List.{AllByRecursion, cons_option, list_all, range_with_len}
use Rattle.std.proofs.lemmas.Bool.Decides.{nat_tests}
use Rattle.std.proofs.lemmas.List.{length-map, map-append, length-take}
use Rattle.std.proofs.lemmas.Option.{slice_get_within}
use Rattle.task_ids.specs.declared.cluster.Cluster.{Cluster}
use Rattle.task_ids.specs.declared.corpus.Corpus.{Corpus}
use Rattle.task_ids.specs.declared.task_id.TaskId.{TaskId}
use Rattle.task_events.specs.declared.reading.ShardRead.{ShardRead}
use Rattle.task_events.specs.declared.request.HitKey.{HitKey}
use Rattle.task_events.specs.declared.request.Request.{Request}
use Rattle.task_events.specs.declared.request.Request.TheVariants as asks
use Rattle.task_events.specs.declared.reply.Reply.{Reply}
use Rattle.task_events.specs.declared.reply.Reply.TheVariants.{Top}
use Rattle.task_events.specs.declared.reply.ShardTop.{ShardTop}
use Rattle.task_events.specs.declared.step.Asked.{Asked}
use Rattle.task_events.specs.declared.step.Do.TheVariants.{AskNext}
use Rattle.task_events.specs.Readings.{Reading, shard_read, version_read}
use Rattle.task_events.specs.Searches.{query_of, top_of, tops_in, winners_among, has_winner, won_tops, fetch_of, fetches_of, has_queried, requests_of}
use Rattle.task_events.specs.SearchTask.{ask_or_end}
use Rattle.search_phase.specs.Searching.{Searching, wants_to_ask, next_step, is_above}
use Rattle.search_phase.specs.Searching as searching
use Rattle.search_phase.proofs.Asks.{requests_of-ask, EachAnswer-ask}
use Rattle.search_phase.proofs.QueryTops.{answer_of_top}
use Rattle.search_phase.proofs.Requests.{length-requests_before, length-requests_after, request_of_query}
use Rattle.search_phase.proofs.Sorting.{by_test}
use Rattle.world_moves.specs.SearchRuns.{SearchesFor}
use Rattle.world_moves.specs.Good.{IsGoodReply, IsShardWithin, IsWithin, written}
use Rattle.world_moves.proofs.AsksCounted.{length-grown}
use Rattle.world_moves.proofs.KindLaws.{AsksOwn, part_owns}
use Rattle.world_moves.proofs.SearchParts.{plan_parts}
use Rattle.task_ids.proofs.Each.{all_here, all_joined, all_mapped, all_placed}

-- ---- what a search asks for

take-grown : {X : Type 0} (n : ℕ) (xs : List X) (x : X) → slice_get xs n ≡ Some x → take (suc n) xs ≡ take n xs ++ x ∷ []
take-grown n [] x e = absurd (cc)
take-grown zero (y ∷ ys) x e = let same : y ≡ x = cc in rw same refl
take-grown (suc n) (y ∷ ys) x e = ap (λ l. y ∷ l) (take-grown n ys x e)

-- numbers from b on
numbered-grown : (b : ℕ) (asked : List Asked) (a : Asked) → map (λ a. a.ask) asked ≡ range_with_len b (length asked) → a.ask ≡ b + length asked
    → map (λ a. a.ask) (asked ++ a ∷ []) ≡ range_with_len b (length (asked ++ a ∷ []))
numbered-grown b [] a e n = let m : a.ask ≡ b = omega arith in ap (λ k. k ∷ []) m
numbered-grown b (c ∷ asked) a e n =
    let here : c.ask ≡ b = cc in
    let later = numbered-grown (b + 1) asked a (cc) (omega arith) in
    cc

above : (b n : ℕ) (asked : List Asked) → map (λ a. a.ask) asked ≡ range_with_len b (length asked) → b + length asked ≤ n → list_all (λ a. nat_lt a.ask n) asked ≡ true
above b n [] e l = refl
above b n (c ∷ asked) e l =
    let here : c.ask ≡ b = cc in
    let low : nat_lt c.ask n ≡ true = grind (arith, nat_tests) in
    rw low (above (b + 1) n asked (cc) (omega arith))

asks_what : (o : Option Request) (answered : Bool) (reply : Reply) (request : Request) → ask_or_end o answered reply ≡ AskNext request → o ≡ Some request
asks_what (Some r) answered reply request e = cc
asks_what None true reply request e = absurd (cc)
asks_what None false reply request e = absurd (cc)

module _ (cluster : Cluster) (corpus : Corpus) (r : Reading) (asked : List Asked) (requests : List Request) (awaited : List (Option ℕ)) (request : Request) where
  as_many_asked : (s : Searching) → SearchesFor cluster corpus r asked requests awaited s → length awaited ≡ length asked
  as_many_asked s x =
      let e : length (map (λ a. is_some a.answer) asked) ≡ length (map (λ o. not (is_some o)) awaited) = ap length x.answered in
      omega (arith, length-map asked (λ a. is_some a.answer), length-map awaited (λ o. not (is_some o)))

  request_next : (s : Searching) → SearchesFor cluster corpus r asked requests awaited s → next_step s ≡ AskNext request → slice_get (requests_of r asked) (length asked) ≡ Some request
  request_next s x plans = subst (λ z. slice_get (requests_of z.reading z.asked) (length z.asked) ≡ Some request) x.state_is (asks_what _ _ _ request plans)

  pub searches_on : (s : Searching) (k n : ℕ) → SearchesFor cluster corpus r asked requests awaited s → next_step s ≡ AskNext request → k ≡ length awaited + 1
      → SearchesFor cluster corpus r (asked ++ record { ask = k; answer = None } ∷ []) (requests ++ request ∷ []) (awaited ++ Some n ∷ []) (searching.with_ask s k)
  searches_on s k n x plans number =
      let a : Asked = record { ask = k; answer = None } in
      let as_many : length awaited ≡ length asked = as_many_asked s x in
      let longer : length (asked ++ a ∷ []) ≡ suc (length asked) = omega (arith, length-grown asked a) in
      record {
        state_is = ap (λ z. searching.with_ask z k) x.state_is;
        reading_is = x.reading_is;
        few = x.few;
        shown = x.shown;
        within = x.within;
        numbered = numbered-grown 1 asked a x.numbered (omega arith);
        planned =
            ap (λ l. l ++ request ∷ []) x.planned
            ∙ sym (take-grown (length asked) (requests_of r asked) request (request_next s x plans))
            ∙ ap (λ l. take (suc (length asked)) l) (sym (requests_of-ask r asked k))
            ∙ ap (λ m. take m (requests_of r (asked ++ a ∷ []))) (sym longer);
        as_many = let e = x.as_many in omega (arith, length-grown requests request);
        answered =
            map-append (λ a. is_some a.answer) asked (a ∷ [])
            ∙ ap (λ l. l ++ false ∷ []) x.answered
            ∙ sym (map-append (λ o. not (is_some o)) awaited (Some n ∷ []));
        good = EachAnswer-ask (IsGoodReply cluster corpus) s k x.good;
      }

  pub may_ask : (s : Searching) → SearchesFor cluster corpus r asked requests awaited s → next_step s ≡ AskNext request → (wants_to_ask (next_step s) && is_above (length awaited + 1) s.asked) ≡ true
  may_ask s x plans =
      let as_many : length awaited ≡ length asked = as_many_asked s x in
      let wants : wants_to_ask (next_step s) ≡ true = ap wants_to_ask plans in
      let high : is_above (length awaited + 1) s.asked ≡ true = subst (λ z. is_above (length awaited + 1) z.asked ≡ true) (sym x.state_is) (above 1 (length awaited + 1) asked x.numbered (omega arith)) in
      rw (wants, high) refl

-- ---- how many

filtered : {X : Type 0} (p : X → Bool) (xs : List X) → length (filter p xs) ≤ length xs
filtered p [] = omega arith
filtered p (x ∷ xs) = one_more (p x) x (filter p xs) (length xs) (filtered p xs)
  where
    one_more : {X : Type 0} (b : Bool) (x : X) (ys : List X) (n : ℕ) → length ys ≤ n → length (cond b (x ∷ ys) ys) ≤ suc n
    one_more true x ys n l = omega arith
    one_more false x ys n l = omega arith

mapped : {X Y : Type 0} (f : X → Option Y) (xs : List X) → length (filter_map f xs) ≤ length xs
mapped f [] = omega arith
mapped f (x ∷ xs) = one_more (f x) (filter_map f xs) (length xs) (mapped f xs)
  where
    one_more : {Y : Type 0} (o : Option Y) (ys : List Y) (n : ℕ) → length ys ≤ n → length (cons_option o ys) ≤ suc n
    one_more None ys n l = omega arith
    one_more (Some y) ys n l = omega arith

-- each shard is asked at most twice
requests_few : (r : Reading) (asked : List Asked) → length (requests_of r asked) ≤ length r.shards + length r.shards
requests_few r asked = by_case (has_queried (length r.shards) asked) refl
  where
    by_case : (b : Bool) → has_queried (length r.shards) asked ≡ b → length (requests_of r asked) ≤ length r.shards + length r.shards
    by_case false e = let n = length-requests_before r asked e in omega arith
    by_case true e =
        let n = length-requests_after r asked e in
        let tops = tops_in (length r.shards) asked in
        let fetches : length (fetches_of r.ask tops) ≡ length (won_tops r.ask.body tops) = length-map (won_tops r.ask.body tops) (fetch_of r.ask (winners_among r.ask.body tops)) in
        let won : length (won_tops r.ask.body tops) ≤ length tops = filtered (has_winner (winners_among r.ask.body tops)) tops in
        let answered : length tops ≤ length (take (length r.shards) asked) = mapped (λ a. option_and_then top_of a.answer) (take (length r.shards) asked) in
        let first : length (take (length r.shards) asked) ≤ length r.shards = omega (arith, length-take (length r.shards) asked) in
        omega arith

pub few_asks : (cluster : Cluster) (corpus : Corpus) (r : Reading) (asked : List Asked) (requests : List Request) (awaited : List (Option ℕ)) (request : Request) (s : Searching)
    → SearchesFor cluster corpus r asked requests awaited s → next_step s ≡ AskNext request → length awaited + 1 < 4294967296
few_asks cluster corpus r asked requests awaited request s x plans =
    let as_many = as_many_asked cluster corpus r asked requests awaited request s x in
    let next = request_next cluster corpus r asked requests awaited request s x plans in
    let below : length asked < length (requests_of r asked) = slice_get_within (requests_of r asked) (length asked) request next in
    let few = requests_few r asked in
    let shards : length r.shards ≤ cluster.shards = x.few in
    let most : cluster.shards ≤ 15 = cluster.shards_in_range.1 in
    omega arith

-- ---- what is asked for was written

module _ (cluster : Cluster) (corpus : Corpus) (r : Reading) where
  -- the version of a top was written to its shard
  abbrev pub IsTopWithin : ShardTop → Type 0
  IsTopWithin top = IsShardWithin cluster corpus r.ask.index top.shard (Some top.version)

  fetches_within : (won : List HitKey) (tops : List ShardTop) → AllByRecursion IsTopWithin tops → AllByRecursion (IsWithin cluster corpus) (map asks.Fetch (map (fetch_of r.ask won) (filter (has_winner won) tops)))
  fetches_within won [] all = tt
  fetches_within won (top ∷ tops) all = by_test (has_winner won top) (λ yes. rw yes (all.0, fetches_within won tops all.1)) (λ no. rw no (fetches_within won tops all.1))

  -- the tops among the answers to the queries of some shards
  tops_within : (reads : List ShardRead) (asked : List Asked)
      → ((i : ℕ) (at : ShardRead) (a : Asked) (top : ShardTop) → slice_get reads i ≡ Some at → slice_get asked i ≡ Some a → option_and_then top_of a.answer ≡ Some top → IsTopWithin top)
      → AllByRecursion IsTopWithin (tops_in (length reads) asked)
  tops_within [] asked each = tt
  tops_within (at ∷ reads) [] each = tt
  tops_within (at ∷ reads) (a ∷ asked) each = by_top (option_and_then top_of a.answer) refl (tops_within reads asked (λ i at a top here there. each (suc i) at a top here there))
    where
      by_top : (o : Option ShardTop) → option_and_then top_of a.answer ≡ o → AllByRecursion IsTopWithin (tops_in (length reads) asked) → AllByRecursion IsTopWithin (cons_option o (tops_in (length reads) asked))
      by_top None e rest = rest
      by_top (Some top) e rest = (each zero at a top refl refl e, rest)

  module _ (asked : List Asked) (requests : List Request) (awaited : List (Option ℕ)) (x : SearchesFor cluster corpus r asked requests awaited (record { reading = r; asked = asked })) where
    pub top_within : (i : ℕ) (at : ShardRead) (a : Asked) (top : ShardTop) → slice_get r.shards i ≡ Some at → slice_get asked i ≡ Some a → option_and_then top_of a.answer ≡ Some top → IsTopWithin top
    top_within i at a top here there e =
        let says = (x.good i a (asks.Query (query_of r at)) (Top top) there (request_of_query r asked i at here) (answer_of_top a.answer top e)).1 in
        let shard : top.shard ≡ shard_read at = ap (λ (top : ShardTop). top.shard) says.says in
        subst (λ shard. IsShardWithin cluster corpus r.ask.index shard (Some top.version)) (sym shard)
        ((x.within i at here).0, λ v named. let same : top.version ≡ v = cc in subst (λ v. v ≤ length (written cluster corpus r.ask.index (shard_read at))) same says.within)

    later_within : (b : Bool) → AllByRecursion (IsWithin cluster corpus) (cond b (map asks.Fetch (fetches_of r.ask (tops_in (length r.shards) asked))) [])
    later_within true = fetches_within (winners_among r.ask.body (tops_in (length r.shards) asked)) (tops_in (length r.shards) asked) (tops_within r.shards asked top_within)
    later_within false = tt

    all_within : AllByRecursion (IsWithin cluster corpus) (requests_of r asked)
    all_within =
        all_joined (IsWithin cluster corpus) _ _
        (all_mapped (IsWithin cluster corpus) (λ at. asks.Query (query_of r at)) r.shards (all_placed (λ at. IsShardWithin cluster corpus r.ask.index (shard_read at) (version_read at)) r.shards x.within))
        (later_within (has_queried (length r.shards) asked))

pub asks_within : (cluster : Cluster) (corpus : Corpus) (r : Reading) (asked : List Asked) (requests : List Request) (awaited : List (Option ℕ)) (request : Request) (s : Searching)
    → SearchesFor cluster corpus r asked requests awaited s → next_step s ≡ AskNext request → IsWithin cluster corpus request
asks_within cluster corpus r asked requests awaited request s x plans =
    all_here (IsWithin cluster corpus) (requests_of r asked) (length asked) request
    (all_within cluster corpus r asked requests awaited (subst (SearchesFor cluster corpus r asked requests awaited) x.state_is x))
    (request_next cluster corpus r asked requests awaited request s x plans)

-- ---- it is no page, and no search

pub asks_own : (cluster : Cluster) (corpus : Corpus) (r : Reading) (asked : List Asked) (requests : List Request) (awaited : List (Option ℕ)) (request : Request) (s : Searching)
    → SearchesFor cluster corpus r asked requests awaited s → next_step s ≡ AskNext request → (t : TaskId) → AsksOwn t asked requests awaited request
asks_own cluster corpus r asked requests awaited request s x plans t =
    part_owns t asked requests awaited request (plan_parts r asked (length asked) request (request_next cluster corpus r asked requests awaited request s x plans))
