-- The window of a search as its body tells it, and that no search shows more than 10,000 documents.
use Rattle.std.proofs.Common.{cond, ◌≡◌, ◌≤◌, ℕ, ◌+◌, Bool, true, false, List, Option, Some, None, refl, subst, arith}
use Rattle.std.specs.Prelude.{nat_le, Result, Ok, Err, codes}
use Rattle.std.proofs.lemmas.Bool.Decides.{nat_tests}
use Rattle.serde_json.specs.Data.{Data, null, boolean, number, string, array, object, Members}
use Rattle.serde_json.specs.Find.{get_member}
use Rattle.query_match.specs.declared.body.SearchBody.{SearchBody}
use Rattle.query_match.specs.declared.sort.SortBy.{SortBy}
use Rattle.query_parse.specs.declared.fault.BodyError.TheVariants.{WindowTooLarge}
use Rattle.query_parse.specs.Answers.{◌>>=◌}
use Rattle.query_parse.specs.Bodies.{from_of, size_of, sort_of, query_of, window_at, hits_at, body_of, known_body_at, body_unless, unknown_field, body_at}

bound : {A B E : Type 0} (r : Result A E) (f : A → Result B E) (b : B) → (r >>= f) ≡ Ok b → (a : A) × (r ≡ Ok a) × (f a ≡ Ok b)
bound (Ok a) f b e = (a, refl, e)
bound (Err x) f b e = absurd (cc)

-- what is so of each window that is read is so of the window of each body
module _ (zero : Bool) (least : ℕ) (IsSo : ℕ → ℕ → Type 0)
    (so : (ms : Members) (from size : ℕ) → from_of zero (get_member (codes "from") ms) ≡ Ok from → size_of least (get_member (codes "size") ms) ≡ Ok size → nat_le (from + size) 10000 ≡ true → IsSo from size) where
  window_so : (ms : Members) (w : ℕ × ℕ) → window_at zero least ms ≡ Ok w → IsSo w.0 w.1
  unfolding window_at
  window_so ms w e =
      let first = bound (from_of zero (get_member (codes "from") ms)) _ w e in
      let second = bound (size_of least (get_member (codes "size") ms)) _ w first.2 in
      of_test (nat_le (first.0 + second.0) 10000) first.0 second.0 refl (so ms first.0 second.0 first.1 second.1) second.2
    where
      of_test : (b : Bool) (from size : ℕ) → nat_le (from + size) 10000 ≡ b → (nat_le (from + size) 10000 ≡ true → IsSo from size) → cond b (Ok (from, size)) (Err (WindowTooLarge (from + size))) ≡ Ok w → IsSo w.0 w.1
      of_test true from size low so_where f = let same : (from, size) ≡ w = cc in subst (λ (x : ℕ × ℕ). IsSo x.0 x.1) same (so_where low)
      of_test false from size low so_where f = absurd (cc)

  hits_so : (ms : Members) (hits : List SortBy × (ℕ × ℕ)) → hits_at zero least ms ≡ Ok hits → IsSo hits.1.0 hits.1.1
  unfolding hits_at
  hits_so ms hits e =
      let first = bound (sort_of (get_member (codes "sort") ms)) _ hits e in
      let second = bound (window_at zero least ms) _ hits first.2 in
      let same : (first.0, second.0) ≡ hits = cc in
      subst (λ (x : List SortBy × (ℕ × ℕ)). IsSo x.1.0 x.1.1) same (window_so ms second.0 second.1)

  known_so : (ms : Members) (body : SearchBody) → known_body_at zero least ms ≡ Ok body → IsSo body.from body.size
  unfolding known_body_at
  known_so ms body e =
      let first = bound (query_of (get_member (codes "query") ms)) _ body e in
      let second = bound (hits_at zero least ms) _ body first.2 in
      let same : body_of first.0 second.0 ≡ body = cc in
      subst (λ (b : SearchBody). IsSo b.from b.size) same (hits_so ms second.0 second.1)

  pub body_so : (d : Data) (body : SearchBody) → body_at zero least d ≡ Ok body → IsSo body.from body.size
  body_so (object ms) body e = of_field (unknown_field ms) e
    where
      of_field : (o : Option (List ℕ)) → body_unless o (known_body_at zero least ms) ≡ Ok body → IsSo body.from body.size
      of_field None f = known_so ms body f
      of_field (Some field) f = absurd (cc)
  body_so null body e = absurd (cc)
  body_so (boolean b) body e = absurd (cc)
  body_so (number n) body e = absurd (cc)
  body_so (string s) body e = absurd (cc)
  body_so (array ds) body e = absurd (cc)

low_size : (from size : ℕ) → nat_le (from + size) 10000 ≡ true → size ≤ 10000
low_size from size low = grind (arith, nat_tests)

-- the body of a search
pub size_low : (zero : Bool) (least : ℕ) (d : Data) (body : SearchBody) → body_at zero least d ≡ Ok body → body.size ≤ 10000
size_low zero least d body e = body_so zero least (λ from size. size ≤ 10000) (λ ms from size from_is size_is low. low_size from size low) d body e
