-- A shard forgets rows: from the version that it forgot below it still shows what was written.
use Rattle.std.proofs.Common.{◌≡◌, ℕ, ◌≤◌, ◌⊎◌, inl, inr, Bool, true, false, cond, max, ◌-◌, ◌&&◌, List, length, Option, Some, None, sym, subst, ap, ◌∙◌, refl, arith}
use Rattle.std.specs.Prelude.{◌==◌, IfSome, option_map}
use Rattle.std.specs.Str.{bytes_eq}
use Rattle.std.specs.HashMap.{get_by_text}
use Rattle.std.specs.Global.{Vec}
use Rattle.std.proofs.Math.Nat.{le-max_left, le-max_right, max-le}
use Rattle.std.proofs.lemmas.Bool.Decides.{nat_tests}
use Rattle.task_ids.specs.declared.corpus.Corpus.{Corpus}
use Rattle.task_events.specs.Documents.{writes_of}
use Rattle.shard_docs.specs.ShardView.{ShardView, empty_shard, dead_rows}
use Rattle.shard_docs.specs.Shown.{ShowsFrom}
use Rattle.shard_docs.proofs.Ids.{same_or_other}
use Rattle.shard_docs.proofs.ShownMore.{shows_all, shows_then}
use Rattle.corpus_shards.specs.declared.Shards.{Shards}
use Rattle.corpus_shards.specs.Stored.{ShownFrom, raised, HasWritten, Forgets, Replaces, shard_in, writes_in}
use Rattle.corpus_shards.proofs.Cases.{AreSameOrOther}

-- nothing was forgotten
pub unchanged : (s : Shards) (index : List ℕ) (shard : ℕ) → Replaces index shard (shard_in s index shard) s s
unchanged s index shard = record { here = refl; elsewhere = λ q k other. refl; as_many = λ q. refl; from_start = λ q. refl; count = refl; empty = refl; stale = refl }

module _ (corpus : Corpus) (shards : ℕ) (old : ShownFrom) (s t : Shards) (index : List ℕ) (shard from : ℕ) (left : ShardView) (has : HasWritten corpus shards old s)
    (low : from ≤ length (writes_in s index shard)) (replaces : Replaces index shard left s t) (shows : ShowsFrom from (writes_in s index shard) left.writes) (forgot : left.oldest ≡ max (shard_in s index shard).oldest from) where
  -- the shard that forgets, and another one
  abbrev Where : List ℕ → ℕ → Type 0
  Where q k = ((bytes_eq index q && (shard == k)) ≡ true × (index ≡ q) × (shard ≡ k)) ⊎ ((bytes_eq index q && (shard == k)) ≡ false)

  find : (q : List ℕ) (k : ℕ) → Where q k
  find q k = by_case (same_or_other index q) (shard == k) refl
    where
      by_case : AreSameOrOther index q → (b : Bool) → (shard == k) ≡ b → Where q k
      by_case (inl (hit, back, same)) true e = inl (rw (hit, e) refl, same, grind (arith, nat_tests))
      by_case (inl (hit, back, same)) false e = inr (rw (hit, e) refl)
      by_case (inr (off, back)) b e = inr (rw off refl)

  abbrev now_from : ShownFrom
  now_from = raised index shard from old

  here : ShowsFrom (max (old index shard) from) (writes_of corpus shards index shard) (writes_in t index shard)
  here = subst (ShowsFrom (max (old index shard) from) (writes_of corpus shards index shard)) (sym (ap (λ (v : ShardView). v.writes) replaces.here))
      (shows_then (old index shard) from (max (old index shard) from) (writes_of corpus shards index shard) (writes_in s index shard) left.writes (has.each index shard) shows (le-max_left (old index shard) from) (le-max_right (old index shard) from))

  low_here : max (old index shard) from ≤ length (writes_of corpus shards index shard)
  low_here =
      let first : old index shard ≤ length (writes_of corpus shards index shard) = has.low index shard in
      let second : from ≤ length (writes_of corpus shards index shard) = subst (λ n. from ≤ n) (has.each index shard).as_many low in
      max-le first second

  each : (q : List ℕ) (k : ℕ) → Where q k → ShowsFrom (now_from q k) (writes_of corpus shards q k) (writes_in t q k)
  each q k (inl (hit, same, one)) =
      subst (λ n. ShowsFrom n (writes_of corpus shards q k) (writes_in t q k)) (sym (ap (λ b. cond b (max (old q k) from) (old q k)) hit))
      (subst (λ i. ShowsFrom (max (old i k) from) (writes_of corpus shards i k) (writes_in t i k)) same (subst (λ n. ShowsFrom (max (old index n) from) (writes_of corpus shards index n) (writes_in t index n)) one here))
  each q k (inr off) =
      subst (λ n. ShowsFrom n (writes_of corpus shards q k) (writes_in t q k)) (sym (ap (λ b. cond b (max (old q k) from) (old q k)) off))
      (subst (ShowsFrom (old q k) (writes_of corpus shards q k)) (sym (ap (λ (v : ShardView). v.writes) (replaces.elsewhere q k off))) (has.each q k))

  within : (q : List ℕ) (k : ℕ) → Where q k → now_from q k ≤ length (writes_of corpus shards q k)
  within q k (inl (hit, same, one)) =
      subst (λ n. n ≤ length (writes_of corpus shards q k)) (sym (ap (λ b. cond b (max (old q k) from) (old q k)) hit))
      (subst (λ i. max (old i k) from ≤ length (writes_of corpus shards i k)) same (subst (λ n. max (old index n) from ≤ length (writes_of corpus shards index n)) one low_here))
  within q k (inr off) = subst (λ n. n ≤ length (writes_of corpus shards q k)) (sym (ap (λ b. cond b (max (old q k) from) (old q k)) off)) (has.low q k)

  own_here : (shard_in t index shard).oldest ≡ max (old index shard) from
  own_here = ap (λ (v : ShardView). v.oldest) replaces.here ∙ forgot ∙ ap (λ n. max n from) (has.own index shard)

  own : (q : List ℕ) (k : ℕ) → Where q k → (shard_in t q k).oldest ≡ now_from q k
  own q k (inl (hit, same, one)) =
      subst (λ i. (shard_in t i k).oldest ≡ max (old i k) from) same (subst (λ n. (shard_in t index n).oldest ≡ max (old index n) from) one own_here)
      ∙ sym (ap (λ b. cond b (max (old q k) from) (old q k)) hit)
  own q k (inr off) = ap (λ (v : ShardView). v.oldest) (replaces.elsewhere q k off) ∙ has.own q k ∙ sym (ap (λ b. cond b (max (old q k) from) (old q k)) off)

  as_many : (o p : Option (Vec ShardView)) → option_map (λ list. length list.items) p ≡ option_map (λ list. length list.items) o → IfSome o (λ list. length list.items ≡ shards) → IfSome p (λ list. length list.items ≡ shards)
  as_many o None same many = tt
  as_many None (Some list) same many = absurd (cc)
  as_many (Some was) (Some list) same many = let e : length list.items ≡ length was.items = cc in e ∙ many

  purged : HasWritten corpus shards (raised index shard from old) t
  purged = record {
    count = replaces.count ∙ has.count;
    some = has.some;
    low = λ q k. within q k (find q k);
    each = λ q k. each q k (find q k);
    own = λ q k. own q k (find q k);
    as_many = λ q. as_many (get_by_text s.by_index q) (get_by_text t.by_index q) (replaces.as_many q) (has.as_many q);
    few = has.few;
    empty = replaces.empty ∙ has.empty;
  }

-- the shard is one that forgot what is dead at a version
pub forgets : (s t : Shards) (index : List ℕ) (shard from : ℕ) (left : ShardView) → from ≤ length (writes_in s index shard) → Replaces index shard left s t → ShowsFrom from (writes_in s index shard) left.writes
    → left.oldest ≡ max (shard_in s index shard).oldest from → Forgets index shard from s t
forgets s t index shard from left low replaces shows forgot = record {
  written = λ corpus shards old has. purged corpus shards old s t index shard from left has low replaces shows forgot;
  here = ap (λ (v : ShardView). v.oldest) replaces.here ∙ forgot;
  as_many = ap (λ (v : ShardView). length v.writes) replaces.here ∙ shows.as_many;
  elsewhere = replaces.elsewhere;
  from_start = replaces.from_start;
}

-- ---- there is no such shard

module _ (s : Shards) (index : List ℕ) (shard from : ℕ) (none : shard_in s index shard ≡ empty_shard) (low : from ≤ length (writes_in s index shard)) where
  at_start : (from ≡ 0) × ((shard_in s index shard).oldest ≡ 0)
  at_start =
      let many : length (writes_in s index shard) ≡ 0 = ap (λ (v : ShardView). length v.writes) none in
      let oldest : (shard_in s index shard).oldest ≡ 0 = ap (λ (v : ShardView). v.oldest) none in
      (omega arith, oldest)

  pub none_forgotten : (t : Shards) → Replaces index shard (shard_in s index shard) s t → Forgets index shard from s t
  none_forgotten t replaces =
      let start = at_start in
      let zero_from = start.0 in
      let zero_oldest = start.1 in
      forgets s t index shard from (shard_in s index shard) low replaces (shows_all from (writes_in s index shard)) (omega arith)

  pub none_counted : 0 ≡ dead_rows from (writes_in s index shard) - dead_rows (shard_in s index shard).oldest (writes_in s index shard)
  none_counted =
      let start = at_start in
      let same : dead_rows from (writes_in s index shard) ≡ dead_rows (shard_in s index shard).oldest (writes_in s index shard) = ap (λ n. dead_rows n (writes_in s index shard)) (start.0 ∙ sym start.1) in
      omega arith
