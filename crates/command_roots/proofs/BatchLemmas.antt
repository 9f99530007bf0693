-- The body of a reindex that has no fault reads a batch in its range.
use Rattle.std.proofs.Common.{◌≡◌, ℕ, ◌≤◌, Bool, true, false, ◌&&◌, List, Option, Some, None, Result, Ok, Err, codes, refl, subst, arith}
use Rattle.std.specs.Prelude.{IfOk, IfSome, nat_le, option_and_then, if◌then◌else◌}
use Rattle.serde_json.specs.Data.{Data, null, boolean, number, string, array, object, Members}
use Rattle.serde_json.specs.Find.{get_member, as_number, as_u64}
use Rattle.query_match.specs.Query.{Query}
use Rattle.query_parse.specs.declared.fault.ReindexError.{ReindexError}
use Rattle.query_parse.specs.declared.reindex_body.ReindexBody.{ReindexBody}
use Rattle.query_parse.specs.Answers.{◌>>=◌}
use Rattle.query_parse.specs.Reindexes.{batch_of, dest_at, known_reindex_at, needs, reading_at, reindex_at, source_at}
use Rattle.script_lang.proofs.Ranges.{in_range}

abbrev pub IsBatch : ℕ → Type 0
IsBatch n = (1 ≤ n) × (n ≤ 10000)

-- what is read after something else
after_any : {A B E : Type 0} (P : B → Type 0) (r : Result A E) (f : A → Result B E) → ((x : A) → IfOk (f x) P) → IfOk (r >>= f) P
after_any P (Ok x) f each = each x
after_any P (Err e) f each = tt

after_such : {A B E : Type 0} (Q : A → Type 0) (P : B → Type 0) (r : Result A E) (f : A → Result B E) → IfOk r Q → ((x : A) → Q x → IfOk (f x) P) → IfOk (r >>= f) P
after_such Q P (Ok x) f such each = each x such
after_such Q P (Err e) f such each = tt

-- ---- the number

in_bounds : (o : Option ℕ) → IfSome (option_and_then (λ n. if nat_le 1 n && nat_le n 10000 then Some n else None) o) IsBatch
in_bounds None = tt
in_bounds (Some n) = by_test (nat_le 1 n && nat_le n 10000) refl
  where
    by_test : (b : Bool) → (nat_le 1 n && nat_le n 10000) ≡ b → IfSome (if b then Some n else None) IsBatch
    by_test true is = in_range 10000 n is
    by_test false is = tt

batch_given : (o : Option Data) → IfSome (batch_of o) IsBatch
batch_given None = (omega arith, omega arith)
batch_given (Some d) = in_bounds (option_and_then as_u64 (as_number d))

batch_needed : (path : List ℕ) (o : Option ℕ) → IfSome o IsBatch → IfOk (needs path o) IsBatch
batch_needed path (Some n) is = is
batch_needed path None is = tt

-- ---- the body

reading_has : (source : Members) → IfOk (reading_at source) (λ (read : Query × ℕ). IsBatch read.1)
unfolding reading_at
reading_has source =
    after_any (λ (read : Query × ℕ). IsBatch read.1) _ _
    (λ query. after_such IsBatch (λ (read : Query × ℕ). IsBatch read.1) _ _ (batch_needed (codes "source.size") _ (batch_given (get_member (codes "size") source))) (λ batch is. is))

known_has : (ms : Members) → IfOk (known_reindex_at ms) (λ (body : ReindexBody). IsBatch body.batch)
unfolding known_reindex_at
known_has ms =
    after_any {E = ReindexError} (λ (body : ReindexBody). IsBatch body.batch) (source_at ms) _
    (λ (source : Members × List ℕ). after_any {E = ReindexError} (λ (body : ReindexBody). IsBatch body.batch) (dest_at source.1 ms) _
    (λ (dest : List ℕ). after_such {E = ReindexError} (λ (read : Query × ℕ). IsBatch read.1) (λ (body : ReindexBody). IsBatch body.batch) (reading_at source.0) _ (reading_has source.0) (λ read is. is)))

body_has : (d : Data) → IfOk (reindex_at d) (λ (body : ReindexBody). IsBatch body.batch)
body_has (object ms) = after_any (λ (body : ReindexBody). IsBatch body.batch) _ _ (λ x. known_has ms)
body_has null = tt
body_has (boolean b) = tt
body_has (number n) = tt
body_has (string s) = tt
body_has (array ds) = tt

pub batch_read : (d : Data) (body : ReindexBody) → reindex_at d ≡ Ok body → IsBatch body.batch
batch_read d body e = subst (λ (r : Result ReindexBody ReindexError). IfOk r (λ (b : ReindexBody). IsBatch b.batch)) e (body_has d)
