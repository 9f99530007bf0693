-- A search, a query and a fetch are as far as the asks and the turns of their task say, and so they do what their kind says.
use Rattle.std.proofs.Common.{◌≡◌, ℕ, ◌+◌, Bool, true, false, List, [], ◌∷◌, ◌++◌, length, map, Option, Some, None, refl, sym, ap, ◌∙◌, arith}
use Rattle.std.specs.Prelude.{◌==◌, unwrap_or, if◌then◌else◌}
use Rattle.std.specs.Option.{option_or}
use Rattle.std.proofs.lemmas.Bool.{eqb-true, eq-eqb, ne_eqb}
use Rattle.task_ids.specs.declared.doc.Doc.{Doc}
use Rattle.task_events.specs.declared.request.FetchAsk.{FetchAsk}
use Rattle.task_events.specs.declared.request.ShardAsk.{ShardAsk}
use Rattle.task_events.specs.declared.reply.Reply.{Reply}
use Rattle.task_events.specs.declared.step.Asked.{Asked}
use Rattle.task_events.specs.FetchTask.{fetch_step}
use Rattle.task_events.specs.Looking.{is_done}
use Rattle.task_events.specs.QueryTask.{rows_for, query_step, version_due}
use Rattle.task_events.specs.Readings.{Reading}
use Rattle.task_events.specs.SearchTask.{search_step}
use Rattle.task_events.specs.Steps.{with_answer as asked_with_answer}
use Rattle.search_phase.specs.Fetches.{FetchState, new_fetch, fetched_in}
use Rattle.search_phase.specs.Queries.{QueryState, new_query, version_at, looked, queried, without_keys}
use Rattle.search_phase.specs.Runs.{IsSearchAt, IsQueryAt, IsFetchAt}
use Rattle.search_phase.specs.Searching.{Searching, next_step, with_ask, answered_by, with_answer}
use Rattle.search_phase.proofs.Growing.{new_query-queried, new_fetch-fetched}
use Rattle.search_phase.proofs.QueryTurns.{queried-holds}
use Rattle.search_phase.proofs.Sorting.{by_test}

-- ---- a search

-- how its task notes an answer it is how the search does
pub noted_alike : (k : ℕ) (reply : Reply) (asked : List Asked) → map (asked_with_answer k (Some reply)) asked ≡ map (answered_by k reply) asked
noted_alike k reply [] = refl
noted_alike k reply (a ∷ asked) = λ i. same i ∷ noted_alike k reply asked i
  where
    same : asked_with_answer k (Some reply) a ≡ answered_by k reply a
    same =
        by_test (k == a.ask)
        (λ its. let number : k ≡ a.ask = eqb-true k a.ask its in
        let back : (a.ask == k) ≡ true = eq-eqb a.ask k (sym number) in
        rw (its, back) (λ i. record { ask = number i; answer = Some reply }))
        (λ other. let back : (a.ask == k) ≡ false = ne_eqb a.ask k (λ number. absurd (let f : true ≡ false = sym (eq-eqb k a.ask (sym number)) ∙ other in cc)) in
        rw (other, back) refl)

module _ {r : Reading} {asked : List Asked} {s : Searching} (at : IsSearchAt r asked s) where
  pub search_follows : search_step r asked ≡ next_step s
  search_follows = ap next_step (sym at)

  pub search_asked : (k : ℕ) → IsSearchAt r (asked ++ record { ask = k; answer = None } ∷ []) (with_ask s k)
  search_asked k = ap (λ z. with_ask z k) at

  pub search_answered : (k : ℕ) (reply : Reply) → IsSearchAt r (map (asked_with_answer k (Some reply)) asked) (with_answer s k reply)
  search_answered k reply = ap (λ z. with_answer z k reply) at ∙ ap (λ l. record { reading = r; asked = l }) (sym (noted_alike k reply asked))

-- ---- a query

-- what a query asks for, its turns and its version stay when its keys are given out
same_ask : (b : Bool) (q : QueryState) → (if b then without_keys q else q).ask ≡ q.ask
same_ask true q = refl
same_ask false q = refl

same_turns : (b : Bool) (q : QueryState) → (if b then without_keys q else q).turns ≡ q.turns
same_turns true q = refl
same_turns false q = refl

same_version : (b : Bool) (q : QueryState) → (if b then without_keys q else q).version ≡ q.version
same_version true q = refl
same_version false q = refl

-- it reads the version that it has looked at
pub queried_version : (ask : ShardAsk) (version turns : ℕ) (writes : List Doc) → (queried ask version turns writes).version ≡ Some version
queried_version ask version turns writes = same_version (is_done turns (length (rows_for ask version writes))) (looked ask version turns writes)

-- the version that is due is the one that the query reads
due_version : (o version fixed : Option ℕ) (all : ℕ) → fixed ≡ option_or o version → unwrap_or fixed all ≡ unwrap_or o (unwrap_or version all)
due_version None version fixed all e = ap (λ x. unwrap_or x all) e
due_version (Some a) version fixed all e = ap (λ x. unwrap_or x all) e

-- after its first turn it is fixed
fixed_version : (o version fixed : Option ℕ) (all : ℕ) → fixed ≡ option_or o version → Some (unwrap_or fixed all) ≡ option_or o (option_or version (Some all))
fixed_version None None fixed all e = ap (λ x. Some (unwrap_or x all)) e
fixed_version None (Some v) fixed all e = ap (λ x. Some (unwrap_or x all)) e
fixed_version (Some a) version fixed all e = ap (λ x. Some (unwrap_or x all)) e

asked_or_none : (o : Option ℕ) → o ≡ option_or o None
asked_or_none None = refl
asked_or_none (Some v) = refl

one_turn_more : (n m : ℕ) → n ≡ m → n + 1 ≡ 1 + m
one_turn_more n m e = omega (arith, e)

pub query_first : (ask : ShardAsk) (writes : List Doc) → IsQueryAt ask None 0 writes (new_query ask)
query_first ask writes = record { ask_is = refl; turns_are = refl; version_is = asked_or_none ask.version; on = new_query-queried ask writes }

module _ {ask : ShardAsk} {version : Option ℕ} {turns : ℕ} {writes : List Doc} {q : QueryState} (at : IsQueryAt ask version turns writes q) where
  pub query_follows : query_step ask (version_due ask version writes) turns writes ≡ query_step q.ask (version_at q writes) q.turns writes
  query_follows =
      ap (λ v. query_step ask v turns writes) (sym (due_version ask.version version q.version (length writes) at.version_is))
      ∙ (λ i. query_step (sym at.ask_is i) (version_at q writes) (sym at.turns_are i) writes)

  pub query_turned : IsQueryAt ask (option_or version (Some (length writes))) (1 + turns) writes (queried q.ask (version_at q writes) (q.turns + 1) writes)
  query_turned =
      let state : QueryState = looked q.ask (version_at q writes) (q.turns + 1) writes in
      let done : Bool = is_done (q.turns + 1) (length (rows_for q.ask (version_at q writes) writes)) in
      record {
        ask_is = same_ask done state ∙ at.ask_is;
        turns_are = same_turns done state ∙ one_turn_more q.turns turns at.turns_are;
        version_is = same_version done state ∙ fixed_version ask.version version q.version (length writes) at.version_is;
        on = queried-holds q writes (q.turns + 1) at.on;
      }

-- ---- a fetch

pub fetch_first : (ask : FetchAsk) (writes : List Doc) → IsFetchAt ask 0 writes (new_fetch ask)
fetch_first ask writes = record { ask_is = refl; turns_are = refl; on = new_fetch-fetched ask writes }

module _ {ask : FetchAsk} {turns : ℕ} {writes : List Doc} {f : FetchState} (at : IsFetchAt ask turns writes f) where
  pub fetch_follows : fetch_step ask turns writes ≡ fetch_step f.ask f.turns writes
  fetch_follows = λ i. fetch_step (sym at.ask_is i) (sym at.turns_are i) writes

  pub fetch_turned : IsFetchAt ask (1 + turns) writes (fetched_in f.ask (f.turns + 1) writes)
  fetch_turned = record { ask_is = at.ask_is; turns_are = one_turn_more f.turns turns at.turns_are; on = refl }
