-- Where each answer is what its shard's writes say, the hits are those of the plain answer.
use Rattle.std.specs.Prelude.{◌≡◌, ℕ, zero, suc, ◌<◌, ◌==◌, List, [], ◌∷◌, Bool, true, false, not, ◌||◌, nat_lt, cond, Option, Some, None, is_some, option_map, option_and_then, map, filter, filter_map, find, drop, take, zip, length, slice_get, refl}
use Rattle.std.proofs.Common.{sym, ◌∙◌, ap, arith}
use Rattle.std.proofs.lemmas.Bool.{eqb-true, eq-eqb, ne_eqb, ltb-true}
use Rattle.std.specs.List.{list_any, list_all, flat_map, AllByRecursion}
use Rattle.std.specs.Option.{option_or}
use Rattle.std.specs.Map.{lookup}
use Rattle.task_ids.specs.declared.doc.Doc.{Doc}
use Rattle.task_ids.specs.Rows.{Row, rows_at, row_at}
use Rattle.query_match.specs.declared.body.SearchBody.{SearchBody}
use Rattle.task_events.specs.declared.reading.ShardRead.{ShardRead}
use Rattle.task_events.specs.declared.request.HitKey.{HitKey}
use Rattle.task_events.specs.declared.request.SearchAsk.{SearchAsk}
use Rattle.task_events.specs.declared.reply.Hit.{Hit}
use Rattle.task_events.specs.declared.reply.ShardTop.{ShardTop}
use Rattle.task_events.specs.declared.reply.FailedShard.{FailedShard}
use Rattle.task_events.specs.declared.reply.ShardFailure.{ShardFailure}
use Rattle.task_events.specs.declared.reply.Reply.{Reply}
use Rattle.task_events.specs.declared.reply.Reply.TheVariants.{Search, Top, Hits, AllFailed, Wrote, Cancelled, Rejected}
use Rattle.task_events.specs.declared.step.Asked.{Asked}
use Rattle.task_events.specs.HitOrder.{in_hit_order, is_after}
use Rattle.task_events.specs.Answers.{window, hit_key, hit_at, fetched, has_failed, hit_of, is_found}
use Rattle.task_events.specs.Readings.{Reading, shard_read}
use Rattle.task_events.specs.Searches.{top_of, tops_in, winners_among, has_winner, won_tops, fetch_of, failure_in, failure_of, fetch_at, failure_at, failed_in, hits_of, hit_in}
use Rattle.search_phase.specs.Searching.{AreApart}
use Rattle.search_phase.specs.FetchPhase.{tops_of}
use Rattle.search_phase.proofs.Sorting.{by_test}
use Rattle.search_phase.proofs.PlainCounts.{version_of, IsPlainTop, IsQueryAnswer, honest_tops, top_keys}
use Rattle.search_phase.proofs.Requests.{list_all-slice_get}
use Rattle.search_phase.proofs.Cut.{list_all-in_hit_order}
use Rattle.search_phase.proofs.Lookups.{IsIn, each_in, at_each, list_all-in, list_all-weaker, list_all-take, list_all-drop, list_all-filter, list_all-flat_map, is_some-find, filter_map_where, list_any-in, IsIn-filter, list_any-map, find-filter, find_passes, lookup-map, Paired, lookup-paired, Beside}

-- ---- the documents of a fetch

module _ (h : ℕ → Option Hit) (own_place : (p : ℕ) (hit : Hit) → h p ≡ Some hit → hit.place ≡ p) where
  at_place : (place p : ℕ) (ps : List ℕ) (o : Option Hit) → h p ≡ o
      → find (λ hit. place == hit.place) (filter_map h ps) ≡ cond (list_any (λ q. place == q) ps) (h place) None
      → find (λ hit. place == hit.place) (filter_map h (p ∷ ps)) ≡ cond ((place == p) || list_any (λ q. place == q) ps) (h place) None
  at_place place p ps None e rest =
      by_test (place == p)
      (λ same.
      let here : h place ≡ None = ap h (eqb-true place p same) ∙ e in
      rw (e, same, rest, here) (by_test (list_any (λ q. place == q) ps) (λ yes. rw yes refl) (λ no. rw no refl)))
      (λ other. rw (e, other, rest) refl)
  at_place place p ps (Some hit) e rest =
      let own : hit.place ≡ p = own_place p hit e in
      by_test (place == p)
      (λ same.
      let here : h place ≡ Some hit = ap h (eqb-true place p same) ∙ e in
      let found : (place == hit.place) ≡ true = rw own same in
      rw (e, found, same, here) refl)
      (λ other. let passed : (place == hit.place) ≡ false = rw own other in rw (e, passed, other, rest) refl)

  find_any : (place : ℕ) (places : List ℕ) → find (λ hit. place == hit.place) (filter_map h places) ≡ cond (list_any (λ p. place == p) places) (h place) None
  find_any place [] = refl
  find_any place (p ∷ ps) = at_place place p ps (h p) refl (find_any place ps)

own_place-hit_at : (index : List ℕ) (version : ℕ) (writes : List Doc) (p : ℕ) (hit : Hit) → hit_at index version writes p ≡ Some hit → hit.place ≡ p
own_place-hit_at index version writes p hit e = of_row (row_at version p writes) e
  where
    of_row : (o : Option Doc) → option_map (λ doc. record { index = index; doc = doc; place = p }) o ≡ Some hit → hit.place ≡ p
    of_row None e = absurd cc
    of_row (Some doc) e = sym (ap (λ (o : Option Hit). place_or p o) e)
      where
        place_or : ℕ → Option Hit → ℕ
        place_or p None = p
        place_or p (Some hit) = hit.place

-- ---- the reply of a fetch

-- the reply of the fetch of a shard is what its writes say, or it has none
abbrev pub IsFetchReply : SearchAsk → (ℕ → List Doc) → List HitKey → ShardTop → Reply → Type 0
IsFetchReply ask writes won top (Hits hits) = hits ≡ fetched (fetch_of ask won top) (writes top.shard)
IsFetchReply ask writes won top (Cancelled task cancel counts) = Unit {0}
IsFetchReply ask writes won top (Rejected node) = Unit {0}
IsFetchReply ask writes won top (Search reply) = ⊥
IsFetchReply ask writes won top (AllFailed failed) = ⊥
IsFetchReply ask writes won top (Wrote counts) = ⊥
IsFetchReply ask writes won top (Top other) = ⊥

abbrev pub IsFetchAnswer : SearchAsk → (ℕ → List Doc) → List HitKey → ShardTop → Asked → Type 0
IsFetchAnswer ask writes won top a = (reply : Reply) × (a.answer ≡ Some reply) × IsFetchReply ask writes won top reply

-- the place of a winner is one of those that the fetch of its shard asks for
asked_for : (key : HitKey) (won : List HitKey) (top : ShardTop) → IsIn key won → top.shard ≡ key.shard → list_any (λ p. key.place == p) (map (λ k. k.place) (filter (λ k. top.shard == k.shard) won)) ≡ true
asked_for key won top h e =
    list_any-map (λ p. key.place == p) (λ (k : HitKey). k.place) (filter (λ k. top.shard == k.shard) won)
    ∙ list_any-in (λ (k : HitKey). key.place == k.place) key (filter (λ k. top.shard == k.shard) won)
    (IsIn-filter (λ (k : HitKey). top.shard == k.shard) key won h (eq-eqb top.shard key.shard e)) (eq-eqb key.place key.place refl)

hit_of_reply : (ask : SearchAsk) (writes : ℕ → List Doc) (won : List HitKey) (top : ShardTop) (key : HitKey) (reply : Reply) → IsIn key won → top.shard ≡ key.shard → IsFetchReply ask writes won top reply
    → find (λ hit. key.place == hit.place) (hits_of reply) ≡ cond (not (is_some (failure_in reply))) (hit_at ask.index top.version (writes key.shard) key.place) None
hit_of_reply ask writes won top key (Hits hits) here same h =
    let h_at : ℕ → Option Hit = hit_at ask.index top.version (writes top.shard) in
    let places : List ℕ = (fetch_of ask won top).places in
    ap (find (λ hit. key.place == hit.place)) h
    ∙ find_any h_at (own_place-hit_at ask.index top.version (writes top.shard)) key.place places
    ∙ ap (λ b. cond b (h_at key.place) None) (asked_for key won top here same)
    ∙ ap (λ s. hit_at ask.index top.version (writes s) key.place) same
hit_of_reply ask writes won top key (Cancelled task cancel counts) here same h = refl
hit_of_reply ask writes won top key (Rejected node) here same h = refl
hit_of_reply ask writes won top key (Search reply) here same h = absurd h
hit_of_reply ask writes won top key (AllFailed failed) here same h = absurd h
hit_of_reply ask writes won top key (Wrote counts) here same h = absurd h
hit_of_reply ask writes won top key (Top other) here same h = absurd h

-- ---- the shards that failed

module _ (g : ShardRead → Asked → Option ShardFailure) where
  abbrev failed_as : ShardRead × Asked → Option FailedShard
  failed_as p = option_map (λ failure. record { shard = shard_read p.0; failure = failure }) (g p.0 p.1)

  none_above : (s : ℕ) (ats : List ShardRead) (asked : List Asked) → list_all (λ at. nat_lt s (shard_read at)) ats ≡ true
      → list_any (λ (f : FailedShard). f.shard == s) (filter_map failed_as (zip ats asked)) ≡ false
  none_above s [] asked h = refl
  none_above s (at ∷ ats) [] h = refl
  none_above s (at ∷ ats) (a ∷ asked) h =
      by_test (nat_lt s (shard_read at))
      (λ above. of_failure (g at a) refl (ltb-true s (shard_read at) above) (none_above s ats asked (rw above at h)))
      (λ other. absurd (let f : false ≡ true = rw other at h in cc))
    where
      of_failure : (o : Option ShardFailure) → g at a ≡ o → s < shard_read at → list_any (λ (f : FailedShard). f.shard == s) (filter_map failed_as (zip ats asked)) ≡ false
          → list_any (λ (f : FailedShard). f.shard == s) (filter_map failed_as (zip (at ∷ ats) (a ∷ asked))) ≡ false
      of_failure None e above rest = rw e rest
      of_failure (Some failure) e above rest = let other : (shard_read at == s) ≡ false = ne_eqb (shard_read at) s (λ same. omega arith) in rw (e, other) rest

  -- a shard failed where the ask at its place did
  pub has_failed-zip : (ats : List ShardRead) (asked : List Asked) (i : ℕ) (at : ShardRead) (a : Asked) → AreApart ats → slice_get ats i ≡ Some at → slice_get asked i ≡ Some a
      → list_any (λ (f : FailedShard). f.shard == shard_read at) (filter_map failed_as (zip ats asked)) ≡ is_some (g at a)
  has_failed-zip [] asked i at a apart read here = absurd cc
  has_failed-zip (b ∷ ats) [] i at a apart read here = absurd cc
  has_failed-zip (b ∷ ats) (c ∷ asked) zero at a apart read here =
      let same_read : b ≡ at = cc in
      let same_ask : c ≡ a = cc in
      rw (same_read, same_ask) (of_failure (g at a) refl (none_above (shard_read at) ats asked (ap (λ (x : ShardRead). list_all (λ other. nat_lt (shard_read x) (shard_read other)) ats) (sym same_read) ∙ apart.0)))
    where
      of_failure : (o : Option ShardFailure) → g at a ≡ o → list_any (λ (f : FailedShard). f.shard == shard_read at) (filter_map failed_as (zip ats asked)) ≡ false
          → list_any (λ (f : FailedShard). f.shard == shard_read at) (filter_map failed_as (zip (at ∷ ats) (a ∷ asked))) ≡ is_some (g at a)
      of_failure None e rest = rw e rest
      of_failure (Some failure) e rest = rw (e, eq-eqb (shard_read at) (shard_read at) refl) refl
  has_failed-zip (b ∷ ats) (c ∷ asked) (suc i) at a apart read here =
      of_failure (g b c) refl
      (ltb-true (shard_read b) (shard_read at) (list_all-slice_get (λ (x : ShardRead). nat_lt (shard_read b) (shard_read x)) ats i at apart.0 read))
      (has_failed-zip ats asked i at a apart.1 read here)
    where
      of_failure : (o : Option ShardFailure) → g b c ≡ o → shard_read b < shard_read at → list_any (λ (f : FailedShard). f.shard == shard_read at) (filter_map failed_as (zip ats asked)) ≡ is_some (g at a)
          → list_any (λ (f : FailedShard). f.shard == shard_read at) (filter_map failed_as (zip (b ∷ ats) (c ∷ asked))) ≡ is_some (g at a)
      of_failure None e below rest = rw e rest
      of_failure (Some failure) e below rest = let other : (shard_read b == shard_read at) ≡ false = ne_eqb (shard_read b) (shard_read at) (λ same. omega arith) in rw (e, other) rest

-- ---- the tops by shard

-- the shard that is read at a place is this one, and its query is answered by this top
pub record IsAsked (s : ℕ) (top : ShardTop) (ats : List ShardRead) (asked : List Asked) (i : ℕ) (at : ShardRead) (a : Asked) : Type 0 where
  pub own : shard_read at ≡ s
  pub read : slice_get ats i ≡ Some at
  pub here : slice_get asked i ≡ Some a
  pub answered : option_and_then top_of a.answer ≡ Some top

module _ (r : Reading) (writes : ℕ → List Doc) where
  pub ask_of_top : (s : ℕ) (top : ShardTop) (ats : List ShardRead) (asked : List Asked) → Beside (IsQueryAnswer r writes) ats asked
      → find (λ t. s == t.shard) (tops_of (take (length ats) asked)) ≡ Some top → (i : ℕ) × (at : ShardRead) × (a : Asked) × IsAsked s top ats asked i at a
  ask_of_top s top [] asked h e = absurd cc
  ask_of_top s top (at ∷ ats) [] h e = absurd cc
  ask_of_top s top (at ∷ ats) (a ∷ asked) h e = at_first (option_and_then top_of a.answer) refl (λ f. ask_of_top s top ats asked h.1 f)
    where
      one_later : (i : ℕ) × (b : ShardRead) × (c : Asked) × IsAsked s top ats asked i b c → (i : ℕ) × (b : ShardRead) × (c : Asked) × IsAsked s top (at ∷ ats) (a ∷ asked) i b c
      one_later (i, b, c, h) = (suc i, b, c, record { own = h.own; read = h.read; here = h.here; answered = h.answered })

      at_first : (o : Option ShardTop) → option_and_then top_of a.answer ≡ o
          → (find (λ t. s == t.shard) (tops_of (take (length ats) asked)) ≡ Some top → (i : ℕ) × (b : ShardRead) × (c : Asked) × IsAsked s top ats asked i b c)
          → (i : ℕ) × (b : ShardRead) × (c : Asked) × IsAsked s top (at ∷ ats) (a ∷ asked) i b c
      at_first None f rest = one_later (rest (rw f at e))
      at_first (Some other) f rest =
          by_test (s == other.shard)
          (λ same.
          let found : Some other ≡ Some top = rw (f, same) at e in
          let own : other.shard ≡ shard_read at = ap (λ (t : ShardTop). t.shard) (h.0 other f).honest in
          (zero, at, a, record { own = sym (eqb-true s other.shard same ∙ own); read = refl; here = refl; answered = f ∙ found }))
          (λ passed. one_later (rest (rw (f, passed) at e)))

-- ---- the winners

keys_of_shard : (body : SearchBody) (shard : ℕ) (rows : List Row) → list_all (λ (key : HitKey). key.shard == shard) (map (hit_key body shard) rows) ≡ true
keys_of_shard body shard [] = refl
keys_of_shard body shard (row ∷ rows) = rw (eq-eqb shard shard refl) (keys_of_shard body shard rows)

module _ (r : Reading) (writes : ℕ → List Doc) where
  own_keys : (top : ShardTop) → IsPlainTop r writes top → list_all (λ (key : HitKey). key.shard == top.shard) top.keys ≡ true
  own_keys top h =
      let rows : List Row = filter (λ row. is_found r.ask.body r.ask.slice row.1) (rows_at top.version (writes top.shard)) in
      let found : List HitKey = map (hit_key r.ask.body top.shard) rows in
      let after : List HitKey = filter (is_after r.after) found in
      let own : HitKey → Bool = λ key. key.shard == top.shard in
      ap (list_all own) (top_keys r writes top h)
      ∙ list_all-take own (window r.ask.body) (in_hit_order after)
      (list_all-in_hit_order own after (list_all-filter own (is_after r.after) found (keys_of_shard r.ask.body top.shard rows)))

  -- the shard of each winner has a top
  winners_have_tops : (tops : List ShardTop) → AllByRecursion (IsPlainTop r writes) tops
      → list_all (λ (key : HitKey). list_any (λ (t : ShardTop). key.shard == t.shard) tops) (winners_among r.ask.body tops) ≡ true
  winners_have_tops tops h =
      let has_top : HitKey → Bool = λ key. list_any (λ (t : ShardTop). key.shard == t.shard) tops in
      let keys : List HitKey = flat_map (λ (t : ShardTop). t.keys) tops in
      list_all-take has_top r.ask.body.size (drop r.ask.body.from (in_hit_order keys))
      (list_all-drop has_top r.ask.body.from (in_hit_order keys)
      (list_all-in_hit_order has_top keys (list_all-flat_map has_top (λ (t : ShardTop). t.keys) tops (of_top has_top (λ key. refl)))))
    where
      of_top : (has_top : HitKey → Bool) → ((key : HitKey) → has_top key ≡ list_any (λ (t : ShardTop). key.shard == t.shard) tops) → (top : ShardTop) → IsIn top tops → list_all has_top top.keys ≡ true
      of_top has_top is top here =
          list_all-weaker (λ (key : HitKey). key.shard == top.shard) has_top top.keys
          (λ key e. is key ∙ list_any-in (λ (t : ShardTop). key.shard == t.shard) top tops here e)
          (own_keys top (at_each (IsPlainTop r writes) top tops h here))

  -- ---- a winner's hit

  -- where the queries and the fetches of a search are honest
  module _ (asked : List Asked) (apart : AreApart r.shards) (queries : Beside (IsQueryAnswer r writes) r.shards asked)
      (fetches : Paired (IsFetchAnswer r.ask writes (winners_among r.ask.body (tops_in (length r.shards) asked))) (won_tops r.ask.body (tops_in (length r.shards) asked)) (drop (length r.shards) asked)) where
    no_failure : (o : Option Reply) (top : ShardTop) → option_and_then top_of o ≡ Some top → option_and_then failure_in o ≡ None
    no_failure None top e = absurd cc
    no_failure (Some (Top other)) top e = refl
    no_failure (Some (Search reply)) top e = absurd cc
    no_failure (Some (Hits hits)) top e = absurd cc
    no_failure (Some (AllFailed failed)) top e = absurd cc
    no_failure (Some (Wrote counts)) top e = absurd cc
    no_failure (Some (Cancelled task cancel counts)) top e = absurd cc
    no_failure (Some (Rejected node)) top e = absurd cc

    -- the tops and the winners
    abbrev tops : List ShardTop
    tops = tops_in (length r.shards) asked

    abbrev won : List HitKey
    won = winners_among r.ask.body tops

    -- the answer to the fetch of a winner's shard
    fetch_of_winner : (key : HitKey) (top : ShardTop) → IsIn key won → find (λ (t : ShardTop). key.shard == t.shard) tops ≡ Some top
        → (a : Asked) × (fetch_at r.ask (length r.shards) asked key.shard ≡ Some a) × IsFetchAnswer r.ask writes won top a
    fetch_of_winner key top here e =
        let of_key : ShardTop → Bool = λ t. key.shard == t.shard in
        let has_won : (t : ShardTop) → of_key t ≡ true → has_winner won t ≡ true = λ t same.
        list_any-in (λ (k : HitKey). t.shard == k.shard) key won here (eq-eqb t.shard key.shard (sym (eqb-true key.shard t.shard same))) in
        lookup-paired (IsFetchAnswer r.ask writes won) (λ other. key.shard == other) (λ (t : ShardTop). t.shard) (won_tops r.ask.body tops) (drop (length r.shards) asked) top fetches
        (find-filter of_key (has_winner won) tops has_won ∙ e)

    hit_of_winner : (key : HitKey) (top : ShardTop) → IsIn key won → find (λ (t : ShardTop). key.shard == t.shard) tops ≡ Some top
        → hit_in r.ask (length r.shards) asked key ≡ cond (not (has_failed (failed_in r asked) key.shard)) (hit_of r.ask.index writes (map version_of tops) key) None
    hit_of_winner key top here e = of_answer (fetch_of_winner key top here e) (ask_of_top r writes key.shard top r.shards asked queries e)
      where
        of_answer : (a : Asked) × (fetch_at r.ask (length r.shards) asked key.shard ≡ Some a) × IsFetchAnswer r.ask writes won top a
            → (i : ℕ) × (at : ShardRead) × (query : Asked) × IsAsked key.shard top r.shards asked i at query
            → hit_in r.ask (length r.shards) asked key ≡ cond (not (has_failed (failed_in r asked) key.shard)) (hit_of r.ask.index writes (map version_of tops) key) None
        of_answer (a, fetched_by, (reply, answered, honest)) (i, at, query, its) =
            let same : top.shard ≡ key.shard = sym (eqb-true key.shard top.shard (find_passes (λ (t : ShardTop). key.shard == t.shard) tops top e)) in
            let version : lookup (λ shard. key.shard == shard) (map version_of tops) ≡ Some top.version =
            lookup-map (λ shard. key.shard == shard) (λ (t : ShardTop). t.shard) (λ (t : ShardTop). t.version) tops ∙ ap (option_map (λ (t : ShardTop). t.version)) e in
            let failed : has_failed (failed_in r asked) key.shard ≡ is_some (failure_in reply) =
            ap (has_failed (failed_in r asked)) (sym its.own)
            ∙ has_failed-zip (failure_at r.ask (length r.shards) asked) r.shards asked i at query apart its.read its.here
            ∙ ap (λ o. is_some (option_or o (option_and_then failure_of (fetch_at r.ask (length r.shards) asked (shard_read at))))) (no_failure query.answer top its.answered)
            ∙ ap (λ shard. is_some (option_and_then failure_of (fetch_at r.ask (length r.shards) asked shard))) its.own
            ∙ ap (λ (o : Option Asked). is_some (option_and_then failure_of o)) fetched_by
            ∙ ap (λ (o : Option Reply). is_some (option_and_then failure_in o)) answered in
            ap (λ (o : Option Asked). option_and_then (λ reply. find (λ (hit : Hit). key.place == hit.place) (hits_of reply)) (option_and_then (λ (a : Asked). a.answer) o)) fetched_by
            ∙ ap (option_and_then (λ reply. find (λ (hit : Hit). key.place == hit.place) (hits_of reply))) answered
            ∙ hit_of_reply r.ask writes won top key reply here same honest
            ∙ ap (λ b. cond (not b) (hit_at r.ask.index top.version (writes key.shard) key.place) None) (sym failed)
            ∙ ap (λ (o : Option ℕ). cond (not (has_failed (failed_in r asked) key.shard)) (option_and_then (λ v. hit_at r.ask.index v (writes key.shard) key.place) o) None) (sym version)

    pub hits_are_plain : filter_map (hit_in r.ask (length r.shards) asked) won ≡ filter_map (hit_of r.ask.index writes (map version_of tops)) (filter (λ key. not (has_failed (failed_in r asked) key.shard)) won)
    hits_are_plain =
        let failed : List FailedShard = failed_in r asked in
        filter_map_where (hit_in r.ask (length r.shards) asked) (hit_of r.ask.index writes (map version_of tops)) (λ key. not (has_failed failed key.shard)) won
        (each_in (λ key. hit_in r.ask (length r.shards) asked key ≡ cond (not (has_failed failed key.shard)) (hit_of r.ask.index writes (map version_of tops) key) None) won
        (λ key here. of_find key here (find (λ (t : ShardTop). key.shard == t.shard) tops) refl))
      where
        of_find : (key : HitKey) → IsIn key won → (o : Option ShardTop) → find (λ (t : ShardTop). key.shard == t.shard) tops ≡ o
            → hit_in r.ask (length r.shards) asked key ≡ cond (not (has_failed (failed_in r asked) key.shard)) (hit_of r.ask.index writes (map version_of tops) key) None
        of_find key here (Some top) e = hit_of_winner key top here e
        of_find key here None e =
            let of_key : ShardTop → Bool = λ t. key.shard == t.shard in
            let some : list_any of_key tops ≡ true = list_all-in (λ (k : HitKey). list_any (λ (t : ShardTop). k.shard == t.shard) tops) key won (winners_have_tops tops (honest_tops r writes r.shards asked queries)) here in
            let none : list_any of_key tops ≡ false = sym (is_some-find of_key tops) ∙ ap is_some e in
            absurd (let f : false ≡ true = sym none ∙ some in cc)
