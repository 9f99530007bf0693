-- What letters tell of a search's failed shards is lawful, where each answer that it has is.
use Rattle.std.proofs.Common.{ℕ, zero, suc, Bool, true, false, cond, List, [], ◌∷◌, ◌++◌, map, Option, Some, None, drop}
use Rattle.std.specs.Prelude.{◌==◌, IfSome, All, length, zip, filter_map, option_map, option_and_then}
use Rattle.std.specs.List.{AllByRecursion, cons_option}
use Rattle.std.specs.Option.{option_or}
use Rattle.std.specs.Map.{lookup}
use Rattle.std.proofs.lemmas.List.Elements.{All-from_recursion}
use Rattle.task_events.specs.declared.reading.ShardRead.{ShardRead}
use Rattle.task_events.specs.declared.request.SearchAsk.{SearchAsk}
use Rattle.task_events.specs.declared.reply.FailedShard.{FailedShard}
use Rattle.task_events.specs.declared.reply.ShardFailure.{ShardFailure}
use Rattle.task_events.specs.declared.reply.Reply.{Reply}
use Rattle.task_events.specs.declared.reply.Reply.TheVariants as replies
use Rattle.task_events.specs.declared.step.Asked.{Asked}
use Rattle.task_events.specs.Readings.{Reading, shard_read}
use Rattle.task_events.specs.Searches.{failure_in, failure_of, fetches_in, fetch_at, failure_at, failed_at, failed_in, search_reply}
use Rattle.node_link.specs.Lawful.{IsLawfulReply, IsLawfulFailure}
use Rattle.search_phase.specs.Searching.{answered_by, search_answer}
use Rattle.data_parts.specs.Steps.{IsLawfulAnswered}

-- ---- lists of which each element has a property

module _ {X : Type 0} (P : X → Type 0) where
  pub all-drop : (n : ℕ) (xs : List X) → AllByRecursion P xs → AllByRecursion P (drop n xs)
  all-drop zero xs all = all
  all-drop (suc n) [] all = tt
  all-drop (suc n) (x ∷ xs) (first, all) = all-drop n xs all

  pub all-push : (xs : List X) (x : X) → AllByRecursion P xs → P x → AllByRecursion P (xs ++ x ∷ [])
  all-push [] x all p = (p, tt)
  all-push (y ∷ ys) x (first, all) p = (first, all-push ys x all p)

  pub all-zip : {Y : Type 0} (ys : List Y) (xs : List X) → AllByRecursion P xs → AllByRecursion (λ (p : Y × X). P p.1) (zip ys xs)
  all-zip [] xs all = tt
  all-zip (y ∷ ys) [] all = tt
  all-zip (y ∷ ys) (x ∷ xs) (first, all) = (first, all-zip ys xs all)

  pub lookup-all : {Y : Type 0} (test : Y → Bool) (pairs : List (Y × X)) → AllByRecursion (λ (p : Y × X). P p.1) pairs → IfSome (lookup test pairs) P
  lookup-all test [] all = tt
  lookup-all test (p ∷ pairs) (first, all) = by (test p.0) (lookup-all test pairs all)
    where
      by : (b : Bool) → IfSome (lookup test pairs) P → IfSome (cond b (Some p.1) (lookup test pairs)) P
      by true later = first
      by false later = later

module _ {X Y : Type 0} (Q : X → Type 0) (P : Y → Type 0) (f : X → Option Y) (each : (x : X) → Q x → IfSome (f x) P) where
  all-cons : (o : Option Y) (ys : List Y) → IfSome o P → AllByRecursion P ys → AllByRecursion P (cons_option o ys)
  all-cons None ys p later = later
  all-cons (Some y) ys p later = (p, later)

  all-filter_map : (xs : List X) → AllByRecursion Q xs → AllByRecursion P (filter_map f xs)
  all-filter_map [] all = tt
  all-filter_map (x ∷ xs) (first, all) = all-cons (f x) (filter_map f xs) (each x first) (all-filter_map xs all)

-- ---- the failures that a search tells

module _ (allowed : ℕ → Type 0) where
  reply_failure : (reply : Reply) → IsLawfulReply allowed reply → IfSome (failure_in reply) (IsLawfulFailure allowed)
  reply_failure (replies.Cancelled task cancel counts) lawful = lawful
  reply_failure (replies.Rejected node) lawful = lawful
  reply_failure (replies.Search answer) lawful = tt
  reply_failure (replies.Top top) lawful = tt
  reply_failure (replies.Hits hits) lawful = tt
  reply_failure (replies.AllFailed failed) lawful = tt
  reply_failure (replies.Wrote counts) lawful = tt

  told_failure : (o : Option Reply) → IfSome o (IsLawfulReply allowed) → IfSome (option_and_then failure_in o) (IsLawfulFailure allowed)
  told_failure None lawful = tt
  told_failure (Some reply) lawful = reply_failure reply lawful

  fetch_failure : (o : Option Asked) → IfSome o (IsLawfulAnswered allowed) → IfSome (option_and_then failure_of o) (IsLawfulFailure allowed)
  fetch_failure None lawful = tt
  fetch_failure (Some a) lawful = told_failure a.answer lawful

  one_of : (o p : Option ShardFailure) → IfSome o (IsLawfulFailure allowed) → IfSome p (IsLawfulFailure allowed) → IfSome (option_or o p) (IsLawfulFailure allowed)
  one_of None p first second = second
  one_of (Some failure) p first second = first

  abbrev IsLawfulFailed : FailedShard → Type 0
  IsLawfulFailed f = IsLawfulFailure allowed f.failure

  of_shard : (shard : ℕ) (o : Option ShardFailure) → IfSome o (IsLawfulFailure allowed) → IfSome (option_map (λ failure. record { shard = shard; failure = failure }) o) IsLawfulFailed
  of_shard shard None lawful = tt
  of_shard shard (Some failure) lawful = lawful

  module _ (ask : SearchAsk) (shards : ℕ) (asked : List Asked) (all : AllByRecursion (IsLawfulAnswered allowed) asked) where
    fetch_lawful : (shard : ℕ) → IfSome (fetch_at ask shards asked shard) (IsLawfulAnswered allowed)
    fetch_lawful shard = lookup-all (IsLawfulAnswered allowed) _ (fetches_in ask shards asked) (all-zip (IsLawfulAnswered allowed) _ (drop shards asked) (all-drop (IsLawfulAnswered allowed) shards asked all))

    failed_lawful : (p : ShardRead × Asked) → IsLawfulAnswered allowed p.1 → IfSome (failed_at ask shards asked p.0 p.1) IsLawfulFailed
    failed_lawful p lawful =
        of_shard (shard_read p.0) (failure_at ask shards asked p.0 p.1)
        (one_of (failure_of p.1) _ (told_failure p.1.answer lawful) (fetch_failure (fetch_at ask shards asked (shard_read p.0)) (fetch_lawful (shard_read p.0))))

  pub failed_all : (r : Reading) (asked : List Asked) → AllByRecursion (IsLawfulAnswered allowed) asked → All IsLawfulFailed (failed_in r asked)
  failed_all r asked all =
      All-from_recursion IsLawfulFailed (failed_in r asked)
      (all-filter_map (λ (p : ShardRead × Asked). IsLawfulAnswered allowed p.1) IsLawfulFailed (λ p. failed_at r.ask (length r.shards) asked p.0 p.1) (failed_lawful r.ask (length r.shards) asked all) (zip r.shards asked)
      (all-zip (IsLawfulAnswered allowed) r.shards asked all))

  pub search_lawful : (r : Reading) (asked : List Asked) → AllByRecursion (IsLawfulAnswered allowed) asked → IsLawfulReply allowed (search_reply r asked)
  search_lawful r asked all = by (length (failed_in r asked) == length r.shards)
    where
      by : (b : Bool) → IsLawfulReply allowed (cond b (replies.AllFailed (failed_in r asked)) (replies.Search (search_answer r asked)))
      by true = failed_all r asked all
      by false = failed_all r asked all

  -- ---- answers that come

  pub answered_all : (ask : ℕ) (reply : Reply) → IsLawfulReply allowed reply → (asked : List Asked) → AllByRecursion (IsLawfulAnswered allowed) asked
      → AllByRecursion (IsLawfulAnswered allowed) (map (answered_by ask reply) asked)
  answered_all ask reply lawful [] all = tt
  answered_all ask reply lawful (a ∷ later) (first, all) = (by (a.ask == ask), answered_all ask reply lawful later all)
    where
      by : (b : Bool) → IsLawfulAnswered allowed (cond b (record a { answer = Some reply }) a)
      by true = lawful
      by false = first
