-- The shards have what is written.
use Rattle.std.proofs.Common.{◌≡◌, ◌⊎◌, inl, inr, not, ◌&&◌, ℕ, ◌<◌, ◌≤◌, Bool, true, false, List, [], length, get_or, string_bytes, Option, Some, None, sym, ap, subst, ◌∙◌, refl, arith}
use Rattle.std.specs.Prelude.{is_some, option_map, if◌then◌else◌}
use Rattle.std.specs.List.{list_any}
use Rattle.std.specs.Str.{bytes_eq}
use Rattle.std.specs.HashMap.{get_by_text}
use Rattle.std.specs.Global.{Vec}
use Rattle.std.proofs.lemmas.List.{get_or_past}
use Rattle.std.proofs.lemmas.List.FromFn.{get_or-map-range_with_len, length-map-range_with_len}
use Rattle.std.proofs.lemmas.Bool.{cases_lt}
use Rattle.task_ids.specs.declared.corpus.CorpusLine.{CorpusLine}
use Rattle.task_events.specs.Documents.{writes_of}
use Rattle.shard_docs.specs.ShardView.{ShardView, empty_shard}
use Rattle.shard_docs.specs.Shown.{ShowsFrom}
use Rattle.shard_docs.proofs.ShownMore.{shows_all}
use Rattle.corpus_shards.specs.declared.Shards.{Shards}
use Rattle.corpus_shards.specs.Placed.{has_index, shard_with, shards_of, AreShards}
use Rattle.corpus_shards.specs.Stored.{HasWritten, shard_in, was_there}
use Rattle.corpus_shards.proofs.PlacedLines.{found_shards, none_found, as_many_shards, unknown_index, past_shards}

-- ---- once the corpus is placed

module _ (lines : List CorpusLine) (shards : ℕ) (s : Shards) (are : AreShards lines shards s.by_index) where
  pub placed_each : (index : List ℕ) (shard : ℕ) → shard_in s index shard ≡ shard_with (writes_of (record { lines = lines }) shards index shard)
  placed_each index shard = by_case (get_by_text s.by_index index) refl
    where
      in_list : (list : Vec ShardView) → list.items ≡ shards_of lines shards index → (shard < shards) ⊎ (shards ≤ shard)
          → get_or list.items shard empty_shard ≡ shard_with (writes_of (record { lines = lines }) shards index shard)
      in_list list are_those (inl within) = ap (λ xs. get_or xs shard empty_shard) are_those ∙ get_or-map-range_with_len (λ k. shard_with (writes_of (record { lines = lines }) shards index k)) 0 shards shard shard empty_shard within (omega arith)
      in_list list are_those (inr past) =
          let many = ap length are_those ∙ length-map-range_with_len (λ k. shard_with (writes_of (record { lines = lines }) shards index k)) 0 shards in
          get_or_past list.items shard empty_shard (omega (arith, many, past)) ∙ sym (ap shard_with (past_shards lines shards index shard are.some_shards past))

      by_case : (o : Option (Vec ShardView)) → get_by_text s.by_index index ≡ o → shard_in s index shard ≡ shard_with (writes_of (record { lines = lines }) shards index shard)
      by_case None e = rw e (sym (ap shard_with (unknown_index lines shards index shard (none_found lines shards s.by_index index are e))))
      by_case (Some list) e = rw e (in_list list (found_shards lines shards s.by_index index list are e) (cases_lt shard shards))

  pub placed : s.count ≡ shards → s.empty ≡ empty_shard → HasWritten (record { lines = lines }) shards (λ _ _. 0) s
  placed count empty = record {
    count = count;
    some = are.some_shards;
    low = λ _ _. omega arith;
    each = λ index shard. subst (ShowsFrom 0 (writes_of (record { lines = lines }) shards index shard)) (sym (ap (λ (v : ShardView). v.writes) (placed_each index shard))) (shows_all 0 (writes_of (record { lines = lines }) shards index shard));
    own = λ index shard. ap (λ (v : ShardView). v.oldest) (placed_each index shard);
    as_many = as_many_shards lines shards s.by_index are;
    few = are.few;
    empty = empty;
  }

  pub placed_indices : s.made.keys ≡ [] → (index : List ℕ) → was_there s index ≡ has_index lines index
  placed_indices none index = ap (λ keys. is_some (get_by_text s.by_index index) && not (list_any (λ key. bytes_eq index (string_bytes key)) keys)) none
      ∙ and_true (is_some (get_by_text s.by_index index)) ∙ sym (is_some_map (get_by_text s.by_index index)) ∙ ap is_some (are.by_index index) ∙ is_some_if _ (has_index lines index)
    where
      and_true : (b : Bool) → (b && not false) ≡ b
      and_true true = refl
      and_true false = refl

      is_some_map : (o : Option (Vec ShardView)) → is_some (option_map (λ list. list.items) o) ≡ is_some o
      is_some_map None = refl
      is_some_map (Some list) = refl

      is_some_if : {X : Type 0} (x : X) (b : Bool) → is_some (if b then Some x else None) ≡ b
      is_some_if x true = refl
      is_some_if x false = refl
