-- A turn finds its places in a room for one more than it has, or for all.
use Rattle.std.proofs.Common.{◌≡◌, ℕ, ◌<◌, ◌≤◌, ◌⊎◌, ◌∙◌, List, take, map, length, min, Option, option_map, sym, ap, inl, inr, ⊎_elim, arith}
use Rattle.std.proofs.lemmas.List.{length-map, length-take, take-map}
use Rattle.query_match.specs.declared.body.SearchBody.{SearchBody}
use Rattle.query_match.specs.declared.pick.Pick.{Pick}
use Rattle.query_match.specs.Picks.{picked, pick_of}
use Rattle.task_ids.specs.declared.doc.Doc.{Doc}
use Rattle.task_ids.specs.Rows.{Row}
use Rattle.task_events.specs.declared.request.ShardAsk.{ShardAsk}
use Rattle.shard_docs.specs.Candidates.{next_places}
use Rattle.search_phase.specs.Queries.{QueryState, rows_left, next_rows}
use Rattle.search_phase.proofs.Picking.{pick_key}
use Rattle.search_phase.proofs.QueryTurns.{cut_places}
use Rattle.search_phase.proofs.Turns.{turn_is, few_left}
use Rattle.search_phase.proofs.query.ShardQuery.look_within.Goals as goal

pub candidates-left-requires : goal.candidates-left-requires
candidates-left-requires c = pick_key c.get-2.result.now.query c.pick-pick.result c.pick-pick.ensures

-- the places of the rows that are left
abbrev places_of : QueryState → ℕ → List Doc → List ℕ
places_of q version writes = map (λ (row : Row). row.0) (rows_left q version writes)

-- the shard tells them
places_left : (q inside : QueryState) (version : ℕ) (writes : List Doc) (body : SearchBody) (pick : Option Pick) → inside ≡ q → body ≡ inside.ask.body → option_map picked pick ≡ pick_of body.query
    → next_places (option_map picked pick) version inside.last writes ≡ places_of q version writes
places_left q inside version writes body pick same is picks =
    ap (λ p. next_places p version inside.last writes) (picks ∙ ap (λ (b : SearchBody). pick_of b.query) is) ∙ ap (λ (s : QueryState). places_of s version writes) same

-- and the first of them are those of the next rows
places_next : (q : QueryState) (version : ℕ) (writes : List Doc) → take 1024 (places_of q version writes) ≡ map (λ (row : Row). row.0) (next_rows q version writes)
places_next q version writes = take-map (λ (row : Row). row.0) 1024 (rows_left q version writes) ∙ ap (λ n. map (λ (row : Row). row.0) (take n (rows_left q version writes))) (sym turn_is)

many_places : (q : QueryState) (version : ℕ) (writes : List Doc) → length (places_of q version writes) ≡ length (rows_left q version writes)
many_places q version writes = length-map (rows_left q version writes) (λ (row : Row). row.0)

-- the room is enough
has_room : (q : QueryState) (version room : ℕ) (writes : List Doc) → (1024 < room) ⊎ (version ≤ room) → (1024 < room) ⊎ (length (places_of q version writes) ≤ room)
has_room q version room writes h = ⊎_elim (λ wide. inl wide) (λ all. inr (omega (arith, all, many_places q version writes, few_left q version writes))) h

pub look-requires-clause-next : goal.look-requires-clause-next
look-requires-clause-next c =
    let q = c.args.self.now in
    let writes = c.args.shard.now.writes in
    let room = length c.args.places.now in
    let same = places_left q _ c.args.version writes c.get-2.result.now c.pick-pick.result c.self.view_is (c.get-2.ensures ∙ ap (λ (a : ShardAsk). a.body) c.get.ensures) c.pick-pick.ensures in
    cut_places (places_of q c.args.version writes) c.candidates-left.new.out room c.candidates-left.result c.min-here.result (has_room q c.args.version room writes c.requires.room)
    (c.candidates-left.ensures.count ∙ ap (λ ps. length (take room ps)) same) (c.candidates-left.ensures.places ∙ ap (take room) same) c.min-here.ensures
    ∙ places_next q c.args.version writes

pub returns-clause-more : goal.returns-clause-more
returns-clause-more c =
    let q = c.args.self.now in
    let writes = c.args.shard.now.writes in
    let room = length c.args.places.now in
    let same = places_left q _ c.args.version writes c.get-2.result.now c.pick-pick.result c.self.view_is (c.get-2.ensures ∙ ap (λ (a : ShardAsk). a.body) c.get.ensures) c.pick-pick.ensures in
    let left : c.candidates-left.result ≡ min room (length (rows_left q c.args.version writes)) =
    c.candidates-left.ensures.count ∙ ap (λ ps. length (take room ps)) same ∙ length-take room (places_of q c.args.version writes) ∙ ap (min room) (many_places q c.args.version writes) in
    ⊎_elim (λ wide. grind (arith, left, c.min-here.ensures, wide)) (λ all. grind (arith, left, c.min-here.ensures, all, few_left q c.args.version writes)) c.requires.room
