-- A search whose asks are numbered from 1 asks in order, and takes what its requests can have.
use Rattle.std.proofs.Common.{◌≡◌, ◌<◌, ℕ, ◌+◌, true, List, [], ◌∷◌, length, map, take, Option, refl, sym, ap, ◌∙◌, arith}
use Rattle.std.specs.Prelude.{nat_lt}
use Rattle.std.specs.List.{list_all, range_with_len}
use Rattle.std.proofs.lemmas.Bool.Decides.{nat_tests}
use Rattle.std.proofs.lemmas.List.{length-take}
use Rattle.task_ids.specs.declared.cluster.Cluster.{Cluster}
use Rattle.task_ids.specs.declared.corpus.Corpus.{Corpus}
use Rattle.task_events.specs.declared.request.Request.{Request}
use Rattle.task_events.specs.declared.step.Asked.{Asked}
use Rattle.task_events.specs.Readings.{Reading}
use Rattle.task_events.specs.Searches.{requests_of}
use Rattle.search_phase.specs.Searching.{IsSearching, AreRising}
use Rattle.world_moves.specs.SearchRuns.{SearchesFor}
use Rattle.world_moves.proofs.SearchParts.{any_shards, plan_parts}

later_numbers : (b n : ℕ) (asked : List Asked) → map (λ a. a.ask) asked ≡ range_with_len b (length asked) → n < b → list_all (λ a. nat_lt n a.ask) asked ≡ true
later_numbers b n [] e l = refl
later_numbers b n (a ∷ asked) e l =
    let here : a.ask ≡ b = cc in
    let low : nat_lt n a.ask ≡ true = grind (arith, nat_tests) in
    rw low (later_numbers (b + 1) n asked (cc) (omega arith))

rising : (b : ℕ) (asked : List Asked) → map (λ a. a.ask) asked ≡ range_with_len b (length asked) → AreRising asked
rising b [] e = tt
rising b (a ∷ asked) e =
    let here : a.ask ≡ b = cc in
    (later_numbers (b + 1) a.ask asked (cc) (omega arith), rising (b + 1) asked (cc))

pub is_searching : (cluster : Cluster) (corpus : Corpus) (r : Reading) (asked : List Asked) (requests : List Request) (awaited : List (Option ℕ))
    → SearchesFor cluster corpus r asked requests awaited (record { reading = r; asked = asked }) → IsSearching (record { reading = r; asked = asked })
is_searching cluster corpus r asked requests awaited x = record {
  reading = x.reading_is;
  numbers = rising 1 asked x.numbered;
  in_order =
      let e : length (take (length asked) (requests_of r asked)) ≡ length asked = sym (ap length x.planned) ∙ x.as_many in
      omega (arith, length-take (length asked) (requests_of r asked));
  possible = λ place a request reply at asks answered.
      any_shards (length r.shards) cluster.shards request reply (plan_parts r asked place request asks) ∙ (x.good place a request reply at asks answered).0;
}
