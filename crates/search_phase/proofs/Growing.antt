-- What a shard says at a version within its writes stays when it grows, and so does what is known of a query and of a fetch.
use Rattle.std.specs.Prelude.{◌≡◌, ℕ, ◌*◌, ◌<◌, ◌≤◌, ◌==◌, cond, List, [], ◌++◌, Option, Some, None, IsSome, IfSome, is_some, option_map, unwrap_or, filter, filter_map, take, length, refl}
use Rattle.std.specs.Map.{lookup}
use Rattle.std.proofs.Common.{sym, ◌∙◌, ap, subst, arith, true≢false}
use Rattle.std.proofs.lemmas.List.{take-append-le, take_all}
use Rattle.query_match.specs.declared.body.SearchBody.{SearchBody}
use Rattle.task_ids.specs.declared.doc.Doc.{Doc}
use Rattle.task_ids.specs.Rows.{Row, living_rows}
use Rattle.task_events.specs.declared.request.HitKey.{HitKey}
use Rattle.task_events.specs.declared.request.ShardAsk.{ShardAsk}
use Rattle.task_events.specs.declared.request.SlicePick.{SlicePick}
use Rattle.task_events.specs.declared.request.FetchAsk.{FetchAsk}
use Rattle.task_events.specs.Answers.{candidates, hit_at, window, keys_among, matching_keys, shard_top, fetched}
use Rattle.task_events.specs.HitOrder.{in_hit_order, is_after}
use Rattle.task_events.specs.Looking.{rows_per_turn, is_done}
use Rattle.task_events.specs.QueryTask.{rows_for}
use Rattle.search_phase.specs.Queries.{QueryState, IsQueried, new_query, version_at, rows_in, keys_of_rows, last_place, first_keys, queried, without_keys}
use Rattle.search_phase.specs.Fetches.{FetchState, IsFetched, new_fetch, hits_of_first, fetched_in}

-- ---- what the shard says

pub matching_keys-grow : (body : SearchBody) (slice : Option SlicePick) (shard version : ℕ) (writes more : List Doc) → version ≤ length writes
    → matching_keys body slice shard version (writes ++ more) ≡ matching_keys body slice shard version writes
matching_keys-grow body slice shard version writes more within = ap (λ first. keys_among body slice shard (living_rows 0 first)) (take-append-le version writes more within)

pub shard_top-grow : (ask : ShardAsk) (version : ℕ) (writes more : List Doc) → version ≤ length writes → shard_top ask version (writes ++ more) ≡ shard_top ask version writes
shard_top-grow ask version writes more within =
    ap (λ (found : List HitKey). record { shard = ask.shard; version = version; count = length found; keys = take (window ask.body) (in_hit_order (filter (is_after ask.after) found)) })
    (matching_keys-grow ask.body ask.slice ask.shard version writes more within)

pub hits-grow : (ask : FetchAsk) (places : List ℕ) (writes more : List Doc) → ask.version ≤ length writes
    → filter_map (hit_at ask.index ask.version (writes ++ more)) places ≡ filter_map (hit_at ask.index ask.version writes) places
hits-grow ask places writes more within =
    ap (λ first. filter_map (λ place. option_map (λ doc. record { index = ask.index; doc = doc; place = place }) (lookup (λ other. place == other) (living_rows 0 first))) places)
    (take-append-le ask.version writes more within)

pub fetched-grow : (ask : FetchAsk) (writes more : List Doc) → ask.version ≤ length writes → fetched ask (writes ++ more) ≡ fetched ask writes
fetched-grow ask writes more within = hits-grow ask ask.places writes more within

pub hit_at-grow : (index : List ℕ) (version place : ℕ) (writes more : List Doc) → version ≤ length writes → hit_at index version (writes ++ more) place ≡ hit_at index version writes place
hit_at-grow index version place writes more within =
    ap (λ first. option_map (λ doc. record { index = index; doc = doc; place = place }) (lookup (λ other. place == other) (living_rows 0 first))) (take-append-le version writes more within)

-- ---- queries

-- before the first turn nothing was looked at
queried-none : (ask : ShardAsk) (version : ℕ) (writes : List Doc) → queried ask version 0 writes ≡ record { ask = ask; version = Some version; turns = 0; last = None; count = 0; keys = [] }
queried-none ask version writes =
    let none : rows_in ask version 0 writes ≡ [] = ap (λ n. take n (rows_for ask version writes)) (Rattle.std.proofs.Math.Nat.zero-mul rows_per_turn) in
    ap (λ (rows : List Row). record { ask = ask; version = Some version; turns = 0; last = last_place None rows; count = length (keys_of_rows ask rows); keys = first_keys ask (keys_of_rows ask rows) }) none
    ∙ ap (λ (keys : List HitKey). record { ask = ask; version = Some version; turns = 0; last = None; count = 0; keys = keys }) (take_all (window ask.body) [] (omega arith))

-- before the first turn all that is to hold holds
pub new_query-queried : (ask : ShardAsk) (writes : List Doc) → IsQueried (new_query ask) writes
new_query-queried ask writes = record { version_asked = itself ask.version; version_fixed = λ turned. absurd (omega arith); looked = sym (queried-none ask (version_at (new_query ask) writes) writes) }
  where
    itself : (o : Option ℕ) → IfSome o (λ version. o ≡ Some version)
    itself None = tt
    itself (Some version) = refl

-- the rows that a query looks at stay
pub rows_for-grow : (ask : ShardAsk) (version : ℕ) (writes more : List Doc) → version ≤ length writes → rows_for ask version (writes ++ more) ≡ rows_for ask version writes
rows_for-grow ask version writes more within = ap (λ first. candidates ask.body.query (living_rows 0 first)) (take-append-le version writes more within)

queried-grow : (ask : ShardAsk) (version turns : ℕ) (writes more : List Doc) → version ≤ length writes → queried ask version turns (writes ++ more) ≡ queried ask version turns writes
queried-grow ask version turns writes more within =
    ap (λ (rows : List Row).
    let first = take (turns * rows_per_turn) rows in
    let q : QueryState = record { ask = ask; version = Some version; turns = turns; last = last_place None first; count = length (keys_of_rows ask first); keys = first_keys ask (keys_of_rows ask first) } in
    cond (is_done turns (length rows)) (without_keys q) q)
    (rows_for-grow ask version writes more within)

-- and what holds before the first turn holds over any writes
pub IsQueried-unturned : (q : QueryState) (writes other : List Doc) → q.turns ≡ 0 → IsQueried q writes → IsQueried q other
IsQueried-unturned q writes other none h =
    let version = version_at q other in
    record {
      version_asked = h.version_asked;
      version_fixed = h.version_fixed;
      looked = ap (λ (s : QueryState). record s { version = Some version }) (h.looked ∙ ap (λ n. queried q.ask (version_at q writes) n writes) none ∙ queried-none q.ask (version_at q writes) writes)
          ∙ sym (ap (λ n. queried q.ask version n other) none ∙ queried-none q.ask version other);
    }

-- where no version is fixed no turn was taken
unturned : (q : QueryState) → (0 < q.turns → IsSome q.version) → q.version ≡ None → q.turns ≡ 0
unturned q fixed e = none q.turns (λ turned. true≢false (sym (fixed turned) ∙ ap is_some e))
  where
    none : (n : ℕ) → (0 < n → ⊥) → n ≡ 0
    none n never = omega (arith, never)

pub IsQueried-grow : (q : QueryState) (writes more : List Doc) → IfSome q.version (λ version. version ≤ length writes) → IsQueried q writes → IsQueried q (writes ++ more)
IsQueried-grow q writes more within h = go q.version refl within
  where
    go : (o : Option ℕ) → q.version ≡ o → IfSome o (λ version. version ≤ length writes) → IsQueried q (writes ++ more)
    go None e within = IsQueried-unturned q writes (writes ++ more) (unturned q h.version_fixed e) h
    go (Some version) e within =
        let here : version_at q writes ≡ version = ap (λ o. unwrap_or o (length writes)) e in
        let there : version_at q (writes ++ more) ≡ version = ap (λ o. unwrap_or o (length (writes ++ more))) e in
        let same = subst (λ n. record q { version = Some n } ≡ queried q.ask n q.turns writes) here h.looked in
        record {
          version_asked = h.version_asked;
          version_fixed = h.version_fixed;
          looked = subst (λ n. record q { version = Some n } ≡ queried q.ask n q.turns (writes ++ more)) (sym there) (same ∙ sym (queried-grow q.ask version q.turns writes more within));
        }

-- ---- fetches

pub IsFetched-grow : (f : FetchState) (writes more : List Doc) → f.ask.version ≤ length writes → IsFetched f writes → IsFetched f (writes ++ more)
IsFetched-grow f writes more within h =
    h ∙ ap (λ hits. record { ask = f.ask; turns = f.turns; hits = cond (is_done f.turns (length f.ask.places)) [] hits }) (sym (hits-grow f.ask (take (f.turns * rows_per_turn) f.ask.places) writes more within))

-- before the first turn there are no documents
pub new_fetch-fetched : (ask : FetchAsk) (writes : List Doc) → IsFetched (new_fetch ask) writes
new_fetch-fetched ask writes = ap (λ n. record { ask = ask; turns = 0; hits = hits_of_first ask n writes }) (sym (Rattle.std.proofs.Math.Nat.zero-mul rows_per_turn))

-- what a turn comes to is a fetch over the same writes
pub fetched_in-fetched : (f : FetchState) (ask : FetchAsk) (turns : ℕ) (writes : List Doc) → f ≡ fetched_in ask turns writes → IsFetched f writes
fetched_in-fetched f ask turns writes same = same ∙ ap (λ (s : FetchState). fetched_in s.ask s.turns writes) (sym same)
