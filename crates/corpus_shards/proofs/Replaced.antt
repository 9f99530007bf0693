-- One shard of an index is another: what the shards have then.
use Rattle.std.proofs.Common.{◌≡◌, ℕ, ◌<◌, ◌⊎◌, inl, inr, true, false, cond, not, ◌&&◌, List, length, get_or, Option, Some, sym, ap, ◌∙◌, refl, arith}
use Rattle.std.specs.Prelude.{◌==◌, is_some, option_map}
use Rattle.std.specs.Option.{option_map_or}
use Rattle.std.specs.Str.{bytes_eq}
use Rattle.std.specs.HashMap.{get_by_text}
use Rattle.std.specs.HashSet.{contains_text}
use Rattle.std.specs.Vec.{with_item}
use Rattle.std.specs.Global.{Vec}
use Rattle.std.proofs.lemmas.Bool.Decides.{nat_tests}
use Rattle.std.proofs.lemmas.List.{get_or-set_same, get_or-set_other, length-set}
use Rattle.std.proofs.lemmas.Slice.Eq.{bytes_eq-Decides}
use Rattle.shard_docs.specs.ShardView.{ShardView, empty_shard}
use Rattle.shard_docs.proofs.Ids.{same_or_other}
use Rattle.corpus_shards.specs.declared.Shards.{Shards}
use Rattle.corpus_shards.specs.Stored.{Replaces, has_shards, shard_in}
use Rattle.corpus_shards.proofs.Cases.{AreSameOrOther}
use Rattle.corpus_shards.proofs.PlacedLines.{Table}

-- a shard where an index has these or none
abbrev among : Option (Vec ShardView) → ℕ → ShardView
among o k = option_map_or (λ list. get_or list.items k empty_shard) o empty_shard

abbrev how_many : Option (Vec ShardView) → Option ℕ
how_many = option_map (λ list. length list.items)

module _ (s : Shards) (index : List ℕ) (shard : ℕ) (list : Vec ShardView) (left : ShardView) (after : Table) (found : get_by_text s.by_index index ≡ Some list)
    (changed : (q : List ℕ) → get_by_text after q ≡ cond (bytes_eq index q) (Some (with_item list shard left)) (get_by_text s.by_index q)) where
  -- at the index, and at another one
  abbrev AtIndex : List ℕ → Type 0
  AtIndex q = ((bytes_eq index q ≡ true) × (get_by_text s.by_index q ≡ Some list) × (get_by_text after q ≡ Some (with_item list shard left)))
      ⊎ ((bytes_eq index q ≡ false) × (get_by_text after q ≡ get_by_text s.by_index q))

  at_index : (q : List ℕ) → AtIndex q
  at_index q = by_case (same_or_other index q)
    where
      by_case : AreSameOrOther index q → AtIndex q
      by_case (inl (hit, back, same)) = inl (hit, ap (get_by_text s.by_index) (sym same) ∙ found, changed q ∙ ap (λ b. cond b (Some (with_item list shard left)) (get_by_text s.by_index q)) hit)
      by_case (inr (off, back)) = inr (off, changed q ∙ ap (λ b. cond b (Some (with_item list shard left)) (get_by_text s.by_index q)) off)

  pub replaced : shard < length list.items → Replaces index shard left s (record s { by_index = after })
  replaced within = record {
    here = ap (λ o. among o shard) (changed index ∙ ap (λ b. cond b (Some (with_item list shard left)) (get_by_text s.by_index index)) ((bytes_eq-Decides index index).1 refl))
        ∙ get_or-set_same list.items shard left empty_shard within;
    elsewhere = λ q k other. elsewhere q k other (at_index q);
    as_many = λ q. as_many q (at_index q);
    from_start = λ q. ap (λ has. has && not (contains_text s.made q)) (has_as q (at_index q));
    count = refl;
    empty = refl;
    stale = refl;
  }
    where
      elsewhere : (q : List ℕ) (k : ℕ) → (bytes_eq index q && (shard == k)) ≡ false → AtIndex q → among (get_by_text after q) k ≡ among (get_by_text s.by_index q) k
      elsewhere q k other (inl (hit, was, is)) =
          let apart : (shard == k) ≡ false = rw hit at other in
          ap (λ o. among o k) is ∙ get_or-set_other list.items shard k left empty_shard (grind (arith, nat_tests)) ∙ sym (ap (λ o. among o k) was)
      elsewhere q k other (inr (off, same)) = ap (λ o. among o k) same

      as_many : (q : List ℕ) → AtIndex q → how_many (get_by_text after q) ≡ how_many (get_by_text s.by_index q)
      as_many q (inl (hit, was, is)) = ap how_many is ∙ ap Some (length-set list.items shard left) ∙ sym (ap how_many was)
      as_many q (inr (off, same)) = ap how_many same

      has_as : (q : List ℕ) → AtIndex q → is_some (get_by_text after q) ≡ has_shards s q
      has_as q (inl (hit, was, is)) = ap is_some is ∙ sym (ap is_some was)
      has_as q (inr (off, same)) = ap is_some same

-- the shards of an index were looked at and are given back as they were
pub given_back : (s : Shards) (index : List ℕ) (shard : ℕ) (list : Vec ShardView) (after : Table) → get_by_text s.by_index index ≡ Some list
    → ((q : List ℕ) → get_by_text after q ≡ cond (bytes_eq index q) (Some list) (get_by_text s.by_index q)) → Replaces index shard (shard_in s index shard) s (record s { by_index = after })
given_back s index shard list after found changed = record {
  here = ap (λ o. among o shard) (same index);
  elsewhere = λ q k other. ap (λ o. among o k) (same q);
  as_many = λ q. ap how_many (same q);
  from_start = λ q. ap (λ o. is_some o && not (contains_text s.made q)) (same q);
  count = refl;
  empty = refl;
  stale = refl;
}
  where
    same : (q : List ℕ) → get_by_text after q ≡ get_by_text s.by_index q
    same q = by_case (same_or_other index q)
      where
        by_case : AreSameOrOther index q → get_by_text after q ≡ get_by_text s.by_index q
        by_case (inl (hit, back, one)) = changed q ∙ ap (λ b. cond b (Some list) (get_by_text s.by_index q)) hit ∙ sym found ∙ ap (get_by_text s.by_index) one
        by_case (inr (off, back)) = changed q ∙ ap (λ b. cond b (Some list) (get_by_text s.by_index q)) off
