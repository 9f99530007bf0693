-- An index gets shards without a document: nothing that is written changes.
use Rattle.std.proofs.Common.{◌≡◌, ℕ, zero, suc, ◌+◌, inl, inr, Bool, true, false, not, ◌&&◌, ◌||◌, cond, List, length, map, get_or, Option, Some, None, sym, subst, ap, ◌∙◌, refl}
use Rattle.std.specs.Prelude.{IfSome, is_some, Result, Ok, Err, OnOk, OnErr}
use Rattle.std.specs.Option.{option_map_or}
use Rattle.std.specs.List.{range_with_len}
use Rattle.std.specs.Str.{bytes_eq}
use Rattle.std.specs.HashMap as table
use Rattle.std.specs.HashMap.{HashMap, get_by_text}
use Rattle.std.specs.HashSet as set
use Rattle.std.specs.HashSet.{HashSet, contains_text}
use Rattle.std.specs.String.{string_eq}
use Rattle.std.specs.Prelude.{String, string_bytes}
use Rattle.std.specs.declared.alloc.Global.{Global}
use Rattle.std.specs.declared.hash.FoldHasher.{FoldHasher}
use Rattle.std.specs.declared.hash.BuildHasherDefault.{BuildHasherDefault}
use Rattle.std.proofs.lemmas.Map.Text.{hash_map_updates_text, hash_set_updates_text}
use Rattle.std.specs.Global.{Vec}
use Rattle.std.proofs.lemmas.List.FromFn.{length-map-range_with_len}
use Rattle.task_ids.specs.declared.corpus.Corpus.{Corpus}
use Rattle.task_events.specs.Documents.{writes_of}
use Rattle.shard_docs.specs.ShardView.{ShardView, empty_shard}
use Rattle.shard_docs.specs.Shown.{ShowsFrom}
use Rattle.shard_docs.proofs.Ids.{same_or_other}
use Rattle.corpus_shards.specs.declared.Shards.{Shards}
use Rattle.corpus_shards.specs.Stored.{ShownFrom, HasWritten, shard_in, has_shards, was_there}
use Rattle.corpus_shards.proofs.Cases.{AreSameOrOther}

-- nothing lies in shards without a document
nothing_in : (a n k : ℕ) → get_or {A = ShardView} (map (λ _. empty_shard) (range_with_len a n)) k empty_shard ≡ empty_shard
nothing_in a zero k = refl
nothing_in a (suc n) zero = refl
nothing_in a (suc n) (suc k) = nothing_in (a + 1) n k

-- what a set and a table have after a change at an index
pub noted : (old new : HashSet (String Global) (BuildHasherDefault FoldHasher)) (name : String Global) (index : List ℕ) → string_bytes name ≡ index → set.UpdatesBy string_eq (string_eq name) old new true
    → (q : List ℕ) → contains_text new q ≡ cond (bytes_eq index q) true (contains_text old q)
noted old new name index named updates = subst (λ (i : List ℕ). (q : List ℕ) → contains_text new q ≡ cond (bytes_eq i q) true (contains_text old q)) named (hash_set_updates_text (string_bytes name) old new true updates)

pub entered : {X : Type 0} (old new : HashMap (String Global) X (BuildHasherDefault FoldHasher)) (name : String Global) (index : List ℕ) (value : X) → string_bytes name ≡ index → table.UpdatesBy string_eq (string_eq name) old new (Some value)
    → (q : List ℕ) → get_by_text new q ≡ cond (bytes_eq index q) (Some value) (get_by_text old q)
entered old new name index value named updates =
    subst (λ (i : List ℕ). (q : List ℕ) → get_by_text new q ≡ cond (bytes_eq i q) (Some value) (get_by_text old q)) named (hash_map_updates_text (string_bytes name) old new (Some value) updates)

-- whether or not it gets them, the others are as they were
pub others_either : {T E : Type 0} (s t : Shards) (index : List ℕ) (r : Result T E) → OnOk r ((q : List ℕ) → has_shards t q ≡ bytes_eq index q || has_shards s q)
    → OnErr r ((q : List ℕ) → has_shards t q ≡ has_shards s q) → (q : List ℕ) → bytes_eq index q ≡ false → has_shards t q ≡ has_shards s q
others_either s t index (Ok x) ok err q off = ok q ∙ ap (λ b. b || has_shards s q) off
others_either s t index (Err e) ok err q off = err q

-- what is written does not tell which were made
pub noted_written : (s : Shards) (made : HashSet (String Global) (BuildHasherDefault FoldHasher)) (corpus : Corpus) (shards : ℕ) (oldest : ShownFrom)
    → HasWritten corpus shards oldest s → HasWritten corpus shards oldest (record s { made = made })
noted_written s made corpus shards oldest has = record { count = has.count; some = has.some; low = has.low; each = has.each; own = has.own; as_many = has.as_many; few = has.few; empty = has.empty }

module _ (s t : Shards) (index : List ℕ) (none : has_shards s index ≡ false) where
  -- an index that had no shards is noted as one that was made
  pub start_still : ((q : List ℕ) → bytes_eq index q ≡ false → has_shards t q ≡ has_shards s q)
      → ((q : List ℕ) → contains_text t.made q ≡ cond (bytes_eq index q) true (contains_text s.made q)) → (q : List ℕ) → was_there t q ≡ was_there s q
  start_still others noted q = by_case (same_or_other index q)
    where
      and_false : (b : Bool) → (b && false) ≡ false
      and_false true = refl
      and_false false = refl

      by_case : AreSameOrOther index q → was_there t q ≡ was_there s q
      by_case (inl (hit, back, same)) =
          ap (λ made. has_shards t q && not made) (noted q ∙ ap (λ b. cond b true (contains_text s.made q)) hit) ∙ and_false (has_shards t q)
          ∙ sym (ap (λ has. has && not (contains_text s.made q)) (ap (has_shards s) (sym same) ∙ none))
      by_case (inr (off, back)) =
          ap (λ made. has_shards t q && not made) (noted q ∙ ap (λ b. cond b true (contains_text s.made q)) off)
          ∙ ap (λ has. has && not (contains_text s.made q)) (others q off)

  module _ (list : Vec ShardView) (blank : list.items ≡ map (λ _. empty_shard) (range_with_len 0 s.count))
      (changed : (q : List ℕ) → get_by_text t.by_index q ≡ cond (bytes_eq index q) (Some list) (get_by_text s.by_index q)) where
    pub has_made : (q : List ℕ) → has_shards t q ≡ bytes_eq index q || has_shards s q
    has_made q = ap is_some (changed q) ∙ of_either (bytes_eq index q)
      where
        of_either : (b : Bool) → is_some (cond b (Some list) (get_by_text s.by_index q)) ≡ b || has_shards s q
        of_either true = refl
        of_either false = refl

    pub others_stay : (q : List ℕ) → bytes_eq index q ≡ false → has_shards t q ≡ has_shards s q
    others_stay q off = has_made q ∙ ap (λ b. b || has_shards s q) off

    abbrev found_as : (o : Option (Vec ShardView)) (k : ℕ) → ShardView
    found_as o k = option_map_or (λ those. get_or those.items k empty_shard) o empty_shard

    pub same_shards : (q : List ℕ) (k : ℕ) → shard_in t q k ≡ shard_in s q k
    same_shards q k = ap (λ o. found_as o k) (changed q) ∙ by_case (same_or_other index q)
      where
        nothing_at : (o : Option (Vec ShardView)) → is_some o ≡ false → found_as o k ≡ empty_shard
        nothing_at None e = refl
        nothing_at (Some those) e = absurd (cc)

        by_case : AreSameOrOther index q → found_as (cond (bytes_eq index q) (Some list) (get_by_text s.by_index q)) k ≡ shard_in s q k
        by_case (inl (hit, back, same)) =
            ap (λ b. found_as (cond b (Some list) (get_by_text s.by_index q)) k) hit ∙ ap (λ items. get_or items k empty_shard) blank ∙ nothing_in 0 s.count k
            ∙ sym (nothing_at (get_by_text s.by_index q) (ap (has_shards s) (sym same) ∙ none))
        by_case (inr (off, back)) = ap (λ b. found_as (cond b (Some list) (get_by_text s.by_index q)) k) off

    pub still_written : t.count ≡ s.count → t.empty ≡ s.empty → (corpus : Corpus) (shards : ℕ) (oldest : ShownFrom) → HasWritten corpus shards oldest s → HasWritten corpus shards oldest t
    still_written count empty corpus shards oldest has = record {
      count = count ∙ has.count;
      some = has.some;
      low = has.low;
      each = λ q k. subst (ShowsFrom (oldest q k) (writes_of corpus shards q k)) (sym (ap (λ (v : ShardView). v.writes) (same_shards q k))) (has.each q k);
      own = λ q k. ap (λ (v : ShardView). v.oldest) (same_shards q k) ∙ has.own q k;
      as_many = λ q. as_many_at q (bytes_eq index q) refl;
      few = has.few;
      empty = empty ∙ has.empty;
    }
      where
        as_many_at : (q : List ℕ) (b : Bool) → bytes_eq index q ≡ b → IfSome (get_by_text t.by_index q) (λ those. length those.items ≡ shards)
        as_many_at q true e = rw (changed q, e) (ap length blank ∙ length-map-range_with_len {X = ShardView} (λ _. empty_shard) 0 s.count ∙ has.count)
        as_many_at q false e = rw (changed q, e) (has.as_many q)
