-- Each document that a query matches has what the query picks.
use Rattle.std.specs.Prelude.{◌≡◌, ℕ, Bool, true, false, ◌&&◌, nat_le, cond, List, [], ◌∷◌, filter, Option, Some, None, IfSome, is_none, option_map, refl}
use Rattle.std.specs.Option.{option_or, option_map_or}
use Rattle.std.proofs.Common.{sym, ◌∙◌, ap, subst, true≢false}
use Rattle.serde_json.specs.Data.{Data}
use Rattle.query_match.specs.declared.body.SearchBody.{SearchBody}
use Rattle.query_match.specs.declared.query.Test.TheVariants.{Equals, OneOf, Within, Starts, Exists}
use Rattle.query_match.specs.Matching.{matches, all_match, none_matches, match_count}
use Rattle.query_match.specs.declared.pick.Pick.{Pick}
use Rattle.query_match.specs.Picks.{Picked, picked, term_pick, first_pick, pick_of, has_picked, is_its_pick}
use Rattle.query_match.specs.Query.{Query, match_all, match_none, field, ids, bool, Queries, no_queries, query}
use Rattle.query_match.specs.Values.{is_key}
use Rattle.task_ids.specs.Rows.{Row}
use Rattle.task_events.specs.declared.request.ShardAsk.{ShardAsk}
use Rattle.task_events.specs.declared.request.SlicePick.{SlicePick}
use Rattle.task_events.specs.Answers.{is_in_slice, is_found, candidates}
use Rattle.search_phase.specs.LookedAt.{counts_all}

both_left : (a b : Bool) → a && b ≡ true → a ≡ true
both_left true b h = refl
both_left false b h = h

both_right : (a b : Bool) → a && b ≡ true → b ≡ true
both_right true b h = h
both_right false b h = absurd (true≢false (sym h))

first_two : (a b c d : Bool) → a && b && c && d ≡ true → (a ≡ true) × (b ≡ true)
first_two true true c d h = (refl, refl)
first_two true false c d h = absurd (true≢false (sym h))
first_two false b c d h = absurd (true≢false (sym h))

module _ (id : List ℕ) (source : Data) where
  -- a term
  term_has : (q : Query) (p : Picked) → term_pick q ≡ Some p → matches q id source ≡ true → has_picked (Some p) source ≡ true
  term_has (field f (Equals v)) p e h = by_name (is_key f) e
    where
      by_name : (b : Bool) → cond b (Some (record { field = f; value = v })) None ≡ Some p → has_picked (Some p) source ≡ true
      by_name true e = subst (λ o. has_picked o source ≡ true) e h
      by_name false e = absurd (cc)
  term_has (field f (OneOf vs)) p e h = absurd (cc)
  term_has (field f (Within r)) p e h = absurd (cc)
  term_has (field f (Starts t)) p e h = absurd (cc)
  term_has (field f Exists) p e h = absurd (cc)
  term_has match_all p e h = absurd (cc)
  term_has match_none p e h = absurd (cc)
  term_has (ids ts) p e h = absurd (cc)
  term_has (bool ms fs ss ns least) p e h = absurd (cc)

  -- the first of some clauses, all of which match
  first_has : (qs : Queries) (p : Picked) → first_pick qs ≡ Some p → all_match qs id source ≡ true → has_picked (Some p) source ≡ true
  first_has no_queries p e h = absurd (cc)
  first_has (query q qs) p e h = by_term (term_pick q) refl e (λ later. first_has qs p later (both_right (matches q id source) (all_match qs id source) h))
    where
      by_term : (o : Option Picked) → term_pick q ≡ o → option_or o (first_pick qs) ≡ Some p → (first_pick qs ≡ Some p → has_picked (Some p) source ≡ true) → has_picked (Some p) source ≡ true
      by_term (Some r) is e later = term_has q p (is ∙ e) (both_left (matches q id source) (all_match qs id source) h)
      by_term None is e later = later e

  -- any query
  some_has : (q : Query) (p : Picked) → pick_of q ≡ Some p → matches q id source ≡ true → has_picked (Some p) source ≡ true
  some_has (bool ms fs ss ns least) p e h = by_must (first_pick ms) refl e
    where
      all : (all_match ms id source ≡ true) × (all_match fs id source ≡ true)
      all = first_two (all_match ms id source) (all_match fs id source) (none_matches ns id source) (nat_le least (match_count ss id source)) h

      by_must : (o : Option Picked) → first_pick ms ≡ o → option_or o (first_pick fs) ≡ Some p → has_picked (Some p) source ≡ true
      by_must (Some r) is e = first_has ms p (is ∙ e) all.0
      by_must None is e = first_has fs p e all.1
  some_has (field f t) p e h = term_has (field f t) p e h
  some_has match_all p e h = absurd (cc)
  some_has match_none p e h = absurd (cc)
  some_has (ids ts) p e h = absurd (cc)

  -- what a query matches has what it picks
  pub match_has : (q : Query) → matches q id source ≡ true → has_picked (pick_of q) source ≡ true
  match_has q h = by_pick (pick_of q) refl
    where
      by_pick : (o : Option Picked) → pick_of q ≡ o → has_picked o source ≡ true
      by_pick None e = refl
      by_pick (Some p) e = some_has q p e h

  -- a query that is its pick matches all that has it
  pick_matches : (q : Query) → is_its_pick q ≡ true → has_picked (pick_of q) source ≡ true → matches q id source ≡ true
  pick_matches match_all h has = refl
  pick_matches (field f (Equals v)) h has = subst (λ b. has_picked (cond b (Some (record { field = f; value = v })) None) source ≡ true) h has
  pick_matches (field f (OneOf vs)) h has = absurd (true≢false (sym h))
  pick_matches (field f (Within r)) h has = absurd (true≢false (sym h))
  pick_matches (field f (Starts t)) h has = absurd (true≢false (sym h))
  pick_matches (field f Exists) h has = absurd (true≢false (sym h))
  pick_matches match_none h has = absurd (true≢false (sym h))
  pick_matches (ids ts) h has = absurd (true≢false (sym h))
  pick_matches (bool ms fs ss ns least) h has = absurd (true≢false (sym h))

-- ---- the field of a pick

term_key : (q : Query) (p : Picked) → term_pick q ≡ Some p → is_key p.field ≡ true
term_key (field f (Equals v)) p e = by_name (is_key f) refl e
  where
    by_name : (b : Bool) → is_key f ≡ b → cond b (Some (record { field = f; value = v })) None ≡ Some p → is_key p.field ≡ true
    by_name true is e = let same : f ≡ p.field = ap (λ (o : Option Picked). option_map_or (λ (r : Picked). r.field) o f) e in ap is_key (sym same) ∙ is
    by_name false is e = absurd (cc)
term_key (field f (OneOf vs)) p e = absurd (cc)
term_key (field f (Within r)) p e = absurd (cc)
term_key (field f (Starts t)) p e = absurd (cc)
term_key (field f Exists) p e = absurd (cc)
term_key match_all p e = absurd (cc)
term_key match_none p e = absurd (cc)
term_key (ids ts) p e = absurd (cc)
term_key (bool ms fs ss ns least) p e = absurd (cc)

first_key : (qs : Queries) (p : Picked) → first_pick qs ≡ Some p → is_key p.field ≡ true
first_key no_queries p e = absurd (cc)
first_key (query q qs) p e = by_term (term_pick q) refl e (first_key qs p)
  where
    by_term : (o : Option Picked) → term_pick q ≡ o → option_or o (first_pick qs) ≡ Some p → (first_pick qs ≡ Some p → is_key p.field ≡ true) → is_key p.field ≡ true
    by_term (Some r) is e later = term_key q p (is ∙ e)
    by_term None is e later = later e

some_key : (q : Query) (p : Picked) → pick_of q ≡ Some p → is_key p.field ≡ true
some_key (bool ms fs ss ns least) p e = by_must (first_pick ms) refl e
  where
    by_must : (o : Option Picked) → first_pick ms ≡ o → option_or o (first_pick fs) ≡ Some p → is_key p.field ≡ true
    by_must (Some r) is e = first_key ms p (is ∙ e)
    by_must None is e = first_key fs p e
some_key (field f t) p e = term_key (field f t) p e
some_key match_all p e = absurd (cc)
some_key match_none p e = absurd (cc)
some_key (ids ts) p e = absurd (cc)

-- it has no dot
pub pick_key : (q : Query) (o : Option Pick) → option_map picked o ≡ pick_of q → IfSome o (λ p. is_key p.field.now ≡ true)
pick_key q None e = tt
pick_key q (Some p) e = some_key q (picked p) (sym e)

-- ---- rows

-- a query finds the same among the rows that it looks at as among all
pub candidates_found : (body : SearchBody) (slice : Option SlicePick) (rows : List Row)
    → filter (λ (row : Row). is_found body slice row.1) (candidates body.query rows) ≡ filter (λ (row : Row). is_found body slice row.1) rows
candidates_found body slice [] = refl
candidates_found body slice (row ∷ rows) = by_pick (has_picked (pick_of body.query) row.1.source) refl (is_found body slice row.1) refl (candidates_found body slice rows)
  where
    found : Row → Bool
    found other = is_found body slice other.1

    by_pick : (picked : Bool) → has_picked (pick_of body.query) row.1.source ≡ picked → (here : Bool) → is_found body slice row.1 ≡ here → filter found (candidates body.query rows) ≡ filter found rows
        → filter found (cond picked (row ∷ candidates body.query rows) (candidates body.query rows)) ≡ filter found (row ∷ rows)
    by_pick true has here is rest = ap (λ later. cond (found row) (row ∷ later) later) rest
    by_pick false has true is rest = absurd (true≢false (sym (match_has row.1.id row.1.source body.query (both_left _ _ is)) ∙ has))
    by_pick false has false is rest = rest ∙ ap (λ b. cond b (row ∷ filter found rows) (filter found rows)) (sym is)

-- where each row that it looks at matches, a row that has what is picked is found
pub counted : (ask : ShardAsk) (row : Row) → counts_all ask ≡ true → has_picked (pick_of ask.body.query) row.1.source ≡ true → is_found ask.body ask.slice row.1 ≡ true
counted ask row all has = both (matches ask.body.query row.1.id row.1.source) (is_in_slice ask.slice row.1.id) (pick_matches row.1.id row.1.source ask.body.query (both_right (is_none ask.slice) _ all) has) (in_all ask.slice (both_left _ _ all))
  where
    both : (a b : Bool) → a ≡ true → b ≡ true → a && b ≡ true
    both true b h k = k
    both false b h k = h

    in_all : (o : Option SlicePick) → is_none o ≡ true → is_in_slice o row.1.id ≡ true
    in_all None h = refl
    in_all (Some pick) h = absurd (true≢false (sym h))
