-- Documents are written to their shard: the shards show what is written then, from where they did before.
use Rattle.std.proofs.Common.{◌≡◌, ℕ, ◌<◌, ◌≤◌, ◌^◌, ◌⊎◌, inl, inr, Bool, true, false, cond, ◌&&◌, List, [], ◌∷◌, ◌++◌, length, map, filter, Option, Some, None, sym, subst, ap, ◌∙◌, refl, arith}
use Rattle.std.specs.Prelude.{◌==◌, IfSome, option_map}
use Rattle.std.specs.List.{AllByRecursion}
use Rattle.std.specs.Str.{bytes_eq}
use Rattle.std.specs.HashMap.{get_by_text}
use Rattle.std.specs.Global.{Vec}
use Rattle.std.proofs.lemmas.Bool.Decides.{nat_tests}
use Rattle.std.proofs.lemmas.List.{append-nil, map-append, length-append}
use Rattle.std.proofs.lemmas.List.Elements.{filter-append}
use Rattle.task_ids.specs.declared.corpus.Corpus.{Corpus}
use Rattle.task_ids.specs.declared.corpus.CorpusLine.{CorpusLine}
use Rattle.task_ids.specs.declared.doc.Doc.{Doc}
use Rattle.task_ids.specs.Placing.{shard_of}
use Rattle.task_events.specs.Documents.{writes_of}
use Rattle.shard_docs.specs.ShardView.{ShardView}
use Rattle.shard_docs.specs.Shown.{ShowsFrom}
use Rattle.shard_docs.proofs.Ids.{same_or_other}
use Rattle.shard_docs.proofs.ShownMore.{shows_more}
use Rattle.corpus_shards.specs.declared.Shards.{Shards}
use Rattle.corpus_shards.specs.Stored.{ShownFrom, HasWritten, Replaces, shard_in, writes_in, lines_of}
use Rattle.corpus_shards.proofs.Cases.{AreSameOrOther}

-- what lies in a shard of more lines is what lies in it of the first ones and then of the others
pub writes_append : (lines more : List CorpusLine) (shards : ℕ) (index : List ℕ) (shard : ℕ)
    → writes_of (record { lines = lines ++ more }) shards index shard ≡ writes_of (record { lines = lines }) shards index shard ++ writes_of (record { lines = more }) shards index shard
writes_append lines more shards index shard =
    let is_of = λ (line : CorpusLine). bytes_eq index line.index && (shard_of line.doc.id shards == shard) in
    ap (map (λ line. line.doc)) (filter-append is_of lines more) ∙ map-append (λ line. line.doc) (filter is_of lines) (filter is_of more)

-- the documents of one shard lie there, where this is asked of that shard, and else they do not
pub writes_of_one : (index : List ℕ) (docs : List Doc) (shards shard : ℕ) (q : List ℕ) (k : ℕ) → AllByRecursion (λ doc. shard_of doc.id shards ≡ shard) docs
    → writes_of (record { lines = lines_of index docs }) shards q k ≡ cond (bytes_eq q index && (shard == k)) docs []
writes_of_one index [] shards shard q k all = either (bytes_eq q index && (shard == k))
  where
    either : (b : Bool) → ◌≡◌ {A = List Doc} [] (cond b [] [])
    either true = refl
    either false = refl
writes_of_one index (doc ∷ docs) shards shard q k (first, all) = one (bytes_eq q index && (shard == k)) refl (writes_of_one index docs shards shard q k all)
  where
    one : (b : Bool) → (bytes_eq q index && (shard == k)) ≡ b → writes_of (record { lines = lines_of index docs }) shards q k ≡ cond (bytes_eq q index && (shard == k)) docs []
        → writes_of (record { lines = lines_of index (doc ∷ docs) }) shards q k ≡ cond b (doc ∷ docs) []
    one true e later = rw (first, e) (ap (λ those. doc ∷ those) (later ∙ ap (λ b. cond b docs []) e))
    one false e later = rw (first, e) (later ∙ ap (λ b. cond b docs []) e)

-- documents were written to their shard, and there are few enough
module _ (corpus : Corpus) (shards : ℕ) (oldest : ShownFrom) (s t : Shards) (index : List ℕ) (shard : ℕ) (docs : List Doc) (has : HasWritten corpus shards oldest s) (left : ShardView)
    (replaces : Replaces index shard left s t) (wrote : left.writes ≡ writes_in s index shard ++ docs) (kept : left.oldest ≡ (shard_in s index shard).oldest) (placed : AllByRecursion (λ doc. shard_of doc.id shards ≡ shard) docs) where
  abbrev pub more : Corpus
  more = record { lines = corpus.lines ++ lines_of index docs }

  -- the shard that they are written to, and another one
  abbrev Where : List ℕ → ℕ → Type 0
  Where q k = ((bytes_eq q index && (shard == k)) ≡ true × (index ≡ q) × (shard ≡ k)) ⊎ ((bytes_eq q index && (shard == k)) ≡ false × (bytes_eq index q && (shard == k)) ≡ false)

  find : (q : List ℕ) (k : ℕ) → Where q k
  find q k = by_case (same_or_other index q) (shard == k) refl
    where
      by_case : AreSameOrOther index q → (b : Bool) → (shard == k) ≡ b → Where q k
      by_case (inl (hit, back, same)) true e = inl (rw (back, e) refl, same, grind (arith, nat_tests))
      by_case (inl (hit, back, same)) false e = inr (rw (back, e) refl, rw (hit, e) refl)
      by_case (inr (off, back)) b e = inr (rw back refl, rw off refl)

  -- what is written then
  written : (q : List ℕ) (k : ℕ) → writes_of more shards q k ≡ writes_of corpus shards q k ++ cond (bytes_eq q index && (shard == k)) docs []
  written q k = writes_append corpus.lines (lines_of index docs) shards q k ∙ ap (λ those. writes_of corpus shards q k ++ those) (writes_of_one index docs shards shard q k placed)

  each : (q : List ℕ) (k : ℕ) → Where q k → ShowsFrom (oldest q k) (writes_of more shards q k) (writes_in t q k)
  each q k (inl (here, same, one)) =
      let there : writes_in t q k ≡ writes_in s q k ++ docs = subst (λ i. writes_in t i k ≡ writes_in s i k ++ docs) same (subst (λ n. writes_in t index n ≡ writes_in s index n ++ docs) one (ap (λ (v : ShardView). v.writes) replaces.here ∙ wrote)) in
      let all : writes_of more shards q k ≡ writes_of corpus shards q k ++ docs = written q k ∙ ap (λ b. writes_of corpus shards q k ++ cond b docs []) here in
      subst (λ those. ShowsFrom (oldest q k) those (writes_in t q k)) (sym all)
      (subst (ShowsFrom (oldest q k) (writes_of corpus shards q k ++ docs)) (sym there) (shows_more (oldest q k) (writes_of corpus shards q k) (writes_in s q k) (has.each q k) (has.low q k) docs))
  each q k (inr (back, off)) =
      let all : writes_of more shards q k ≡ writes_of corpus shards q k = written q k ∙ ap (λ b. writes_of corpus shards q k ++ cond b docs []) back ∙ append-nil (writes_of corpus shards q k) in
      subst (λ those. ShowsFrom (oldest q k) those (writes_in t q k)) (sym all)
      (subst (ShowsFrom (oldest q k) (writes_of corpus shards q k)) (sym (ap (λ (v : ShardView). v.writes) (replaces.elsewhere q k off))) (has.each q k))

  own : (q : List ℕ) (k : ℕ) → Where q k → (shard_in t q k).oldest ≡ oldest q k
  own q k (inl (here, same, one)) =
      let there = subst (λ i. (shard_in t i k).oldest ≡ (shard_in s i k).oldest) same (subst (λ n. (shard_in t index n).oldest ≡ (shard_in s index n).oldest) one (ap (λ (v : ShardView). v.oldest) replaces.here ∙ kept)) in
      there ∙ has.own q k
  own q k (inr (back, off)) = ap (λ (v : ShardView). v.oldest) (replaces.elsewhere q k off) ∙ has.own q k

  low : (q : List ℕ) (k : ℕ) → oldest q k ≤ length (writes_of more shards q k)
  low q k =
      let was : oldest q k ≤ length (writes_of corpus shards q k) = has.low q k in
      let many = ap length (written q k) ∙ length-append (writes_of corpus shards q k) (cond (bytes_eq q index && (shard == k)) docs []) in
      omega (arith, was, many)

  few : length (writes_in t index shard) < 2 ^ 32 → (q : List ℕ) (k : ℕ) → Where q k → length (writes_of more shards q k) < 2 ^ 32
  few few_here q k (inl (here, same, one)) =
      subst (λ many. many < 2 ^ 32) (each q k (inl (here, same, one))).as_many
      (subst (λ i. length (writes_in t i k) < 2 ^ 32) same (subst (λ n. length (writes_in t index n) < 2 ^ 32) one few_here))
  few few_here q k (inr (back, off)) =
      subst (λ those. length those < 2 ^ 32) (sym (written q k ∙ ap (λ b. writes_of corpus shards q k ++ cond b docs []) back ∙ append-nil (writes_of corpus shards q k))) (has.few q k)

  as_many : (q : List ℕ) (o p : Option (Vec ShardView)) → option_map (λ list. length list.items) p ≡ option_map (λ list. length list.items) o → IfSome o (λ list. length list.items ≡ shards) → IfSome p (λ list. length list.items ≡ shards)
  as_many q o None same many = tt
  as_many q None (Some list) same many = absurd (cc)
  as_many q (Some old) (Some list) same many = let e : length list.items ≡ length old.items = cc in e ∙ many

  pub appended : length (writes_in t index shard) < 2 ^ 32 → HasWritten more shards oldest t
  appended few_here = record {
    count = replaces.count ∙ has.count;
    some = has.some;
    low = low;
    each = λ q k. each q k (find q k);
    own = λ q k. own q k (find q k);
    as_many = λ q. as_many q (get_by_text s.by_index q) (get_by_text t.by_index q) (replaces.as_many q) (has.as_many q);
    few = λ q k. few few_here q k (find q k);
    empty = replaces.empty ∙ has.empty;
  }
