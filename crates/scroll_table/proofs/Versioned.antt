-- The versions that are noted are those that the contexts keep, also after a change of one of them.
use Rattle.std.proofs.Common.{◌≡◌, ℕ, zero, suc, ◌+◌, ◌<◌, ◌≤◌, List, [], ◌∷◌, length, take, drop, get_or, Bool, true, false, ◌&&◌, ◌||◌, cond, Option, None, Some, option_map, IsSome, refl, sym, ap, subst, arith, ◌∙◌}
use Rattle.std.specs.Prelude.{◌==◌}
use Rattle.std.specs.Ordering.{nat_cmp, is_eq, ordering_then}
use Rattle.std.specs.Cmp.{tied_then}
use Rattle.std.specs.List.{list_any, find}
use Rattle.std.specs.BTreeMap.{BTreeMap, get, is_at}
use Rattle.std.specs.BTreeSet.{BTreeSet, contains}
use Rattle.std.specs.HashMap.{get_by_text}
use Rattle.std.specs.Map.{lookup}
use Rattle.std.specs.Str.{bytes_eq}
use Rattle.std.proofs.lemmas.Bool.Decides.{nat_tests}
use Rattle.std.proofs.lemmas.List.{take-append-drop, take_all}
use Rattle.std.proofs.lemmas.List.Folds.{list_any_none, list_any_more, list_any-append}
use Rattle.std.proofs.lemmas.Slice.Eq.{bytes_eq-Decides}
use Rattle.task_ids.specs.TaskIdOrder.{task_id_cmp}
use Rattle.task_ids.specs.declared.task_id.TaskId.{TaskId}
use Rattle.task_events.specs.declared.context.Context.{Context}
use Rattle.task_events.specs.declared.reply.ShardCount.{ShardCount}
use Rattle.task_events.specs.Counts.{Ascend, version_in}
use Rattle.scroll_table.specs.declared.versions.Kept.{Kept}
use Rattle.scroll_table.specs.declared.versions.Versions.{Versions}
use Rattle.scroll_table.specs.Versions.{kept_cmp, has_kept, keeps, is_row, is_version, is_kept, is_kept_by, AreVersionsOf}
use Rattle.scroll_table.proofs.Owned.{one_number}
use Rattle.scroll_table.proofs.Places.{same_at}

-- ---- one row of one index is written

module _ (old new : Versions) (index : List ℕ) (more : BTreeSet Kept) (updates : (i : List ℕ) → get_by_text new.by_index i ≡ cond (bytes_eq index i) (Some more) (get_by_text old.by_index i)) where
  pub row_written : (kept : Kept) (b : Bool) → ((k : Kept) → contains kept_cmp more k ≡ cond (is_at (kept_cmp kept) k) b (keeps old index k)) → (i : List ℕ) (k : Kept) → keeps new i k ≡ cond (is_row index kept i k) b (keeps old i k)
  row_written kept b rows i k = ap (λ o. has_kept o k) (updates i) ∙ go (bytes_eq index i) refl
    where
      go : (t : Bool) → bytes_eq index i ≡ t → has_kept (cond t (Some more) (get_by_text old.by_index i)) k ≡ cond (t && is_at (kept_cmp kept) k) b (keeps old i k)
      go true e = rows k ∙ ap (λ j. cond (is_at (kept_cmp kept) k) b (keeps old j k)) ((bytes_eq-Decides index i).0 e)
      go false e = refl

  pub rows_same : ((k : Kept) → contains kept_cmp more k ≡ keeps old index k) → (i : List ℕ) (k : Kept) → keeps new i k ≡ keeps old i k
  rows_same rows i k = ap (λ o. has_kept o k) (updates i) ∙ go (bytes_eq index i) refl
    where
      go : (t : Bool) → bytes_eq index i ≡ t → has_kept (cond t (Some more) (get_by_text old.by_index i)) k ≡ keeps old i k
      go true e = rows k ∙ ap (λ j. keeps old j k) ((bytes_eq-Decides index i).0 e)
      go false e = refl

pub some_of : {X : Type 0} (o : Option X) (x : X) → o ≡ Some x → IsSome o
some_of None x e = absurd (cc)
some_of (Some y) x e = refl

-- ---- the rows of a context

-- a shard is among these at this version
abbrev pub shown : List ShardCount → Kept → Bool
shown counts k = list_any (λ n. (n.shard == k.shard) && (n.version == k.version)) counts

-- it is of this context, and of one of these shards
abbrev pub among : TaskId → List ℕ → List ShardCount → List ℕ → Kept → Bool
among id index counts i k = is_at (task_id_cmp id) k.id && (bytes_eq index i && shown counts k)

row_at : (a k : Kept) → is_at (kept_cmp a) k ≡ ((a.shard == k.shard) && ((a.version == k.version) && is_at (task_id_cmp a.id) k.id))
row_at a k =
    sym (tied_then (nat_cmp a.shard k.shard) (ordering_then (nat_cmp a.version k.version) (task_id_cmp a.id k.id)))
    ∙ ap (λ t. is_eq (nat_cmp a.shard k.shard) && t) (sym (tied_then (nat_cmp a.version k.version) (task_id_cmp a.id k.id)))
    ∙ ap (λ t. t && (is_eq (nat_cmp a.version k.version) && is_at (task_id_cmp a.id) k.id)) (one_number a.shard k.shard)
    ∙ ap (λ t. (a.shard == k.shard) && (t && is_at (task_id_cmp a.id) k.id)) (one_number a.version k.version)

-- a is the test of the index, d of the context, l of the shards so far, s and v of the next one and its version
one_more_test : (a d l s v b x : Bool) → cond (a && (s && (v && d))) b (cond (d && (a && l)) b x) ≡ cond (d && (a && (l || (s && v)))) b x
one_more_test false true l s v b x = refl
one_more_test false false l s v b x = refl
one_more_test true true true true true b x = refl
one_more_test true true true true false b x = refl
one_more_test true true true false v b x = refl
one_more_test true true false true true b x = refl
one_more_test true true false true false b x = refl
one_more_test true true false false v b x = refl
one_more_test true false l true true b x = refl
one_more_test true false l true false b x = refl
one_more_test true false l false v b x = refl

-- the row of one more shard is written
pub one_shard_more : (b : Bool) (id : TaskId) (index : List ℕ) (items counts : List ShardCount) (j : ℕ) (d : ShardCount) → items ≡ counts → j < length items → (was is now : List ℕ → Kept → Bool)
    → ((i : List ℕ) (k : Kept) → is i k ≡ cond (among id index (take j counts) i k) b (was i k))
    → ((i : List ℕ) (k : Kept) → now i k ≡ cond (is_row index (record { shard = (get_or items j d).shard; version = (get_or items j d).version; id = id }) i k) b (is i k))
    → (i : List ℕ) (k : Kept) → now i k ≡ cond (among id index (take (j + 1) counts) i k) b (was i k)
one_shard_more b id index items counts j d same within was is now so_far written i k =
    let n : ShardCount = get_or items j d in
    written i k
    ∙ ap (λ t. cond (bytes_eq index i && t) b (is i k)) (row_at (record { shard = n.shard; version = n.version; id = id }) k)
    ∙ ap (cond (bytes_eq index i && ((n.shard == k.shard) && ((n.version == k.version) && is_at (task_id_cmp id) k.id))) b) (so_far i k)
    ∙ ap (λ those. cond (bytes_eq index i && ((n.shard == k.shard) && ((n.version == k.version) && is_at (task_id_cmp id) k.id))) b (cond (among id index (take j those) i k) b (was i k))) (sym same)
    ∙ one_more_test (bytes_eq index i) (is_at (task_id_cmp id) k.id) (shown (take j items) k) (n.shard == k.shard) (n.version == k.version) b (was i k)
    ∙ ap (λ t. cond (is_at (task_id_cmp id) k.id && (bytes_eq index i && t)) b (was i k)) (sym (list_any_more (λ m. (m.shard == k.shard) && (m.version == k.version)) items j d within))
    ∙ ap (λ those. cond (among id index (take (j + 1) those) i k) b (was i k)) same

-- ---- each shard stands once, so a context keeps one version of it

head_below : (n : ShardCount) (rest : List ShardCount) → Ascend (n ∷ rest) → (j : ℕ) (d : ShardCount) → j < length rest → n.shard < (get_or rest j d).shard
head_below n rest up zero d within = up 0 d (omega arith)
head_below n rest up (suc j) d within =
    let low : n.shard < (get_or rest j d).shard = head_below n rest up j d (omega arith) in
    let e : suc j + 1 ≡ suc (suc j) = omega arith in
    let next : (get_or rest j d).shard < (get_or rest (suc j) d).shard = subst (λ (m : ℕ). (get_or rest j d).shard < (get_or (n ∷ rest) m d).shard) e (up (suc j) d (omega arith)) in
    omega (arith, low, next)

tail_up : (n : ShardCount) (rest : List ShardCount) → Ascend (n ∷ rest) → Ascend rest
tail_up n rest up j d within =
    let e : suc j + 1 ≡ suc (j + 1) = omega arith in
    subst (λ (m : ℕ). (get_or rest j d).shard < (get_or (n ∷ rest) m d).shard) e (up (suc j) d (omega arith))

other_shard : (x y z : ℕ) (t : Bool) → x ≡ z → x < y → ((y == z) && t) ≡ false
other_shard x y z t e less = let ne : (y == z) ≡ false = grind (arith, nat_tests) in ap (λ s. s && t) ne

pub shown_version : (counts : List ShardCount) (k : Kept) → Ascend counts → shown counts k ≡ is_version k.version (version_in k.shard counts)
shown_version [] k up = refl
shown_version (n ∷ rest) k up = go (n.shard == k.shard) refl (shown_version rest k (tail_up n rest up))
  where
    or_false : (t : Bool) → (t || false) ≡ t
    or_false true = refl
    or_false false = refl

    no_other : (n.shard == k.shard) ≡ true → shown rest k ≡ false
    no_other e =
        let same : n.shard ≡ k.shard = grind (arith, nat_tests) in
        list_any_none (λ m. (m.shard == k.shard) && (m.version == k.version)) rest (λ j d within. other_shard n.shard (get_or rest j d).shard k.shard ((get_or rest j d).version == k.version) same (head_below n rest up j d within))

    go : (t : Bool) → (n.shard == k.shard) ≡ t → shown rest k ≡ is_version k.version (version_in k.shard rest)
        → ((t && (n.version == k.version)) || shown rest k) ≡ is_version k.version (option_map (λ m. m.version) (cond t (Some n) (find (λ m. m.shard == k.shard) rest)))
    go true e later = ap (λ t. (n.version == k.version) || t) (no_other e) ∙ or_false (n.version == k.version)
    go false e later = later

-- what a context keeps is in the rows of its shards
pub kept_among : (id : TaskId) (c : Context) → Ascend c.shards → (i : List ℕ) (k : Kept) → is_kept_by id c i k ≡ among id c.ask.index c.shards i k
kept_among id c up i k = ap (λ t. is_at (task_id_cmp id) k.id && t) (go (bytes_eq c.ask.index i))
  where
    go : (t : Bool) → is_version k.version (cond t (version_in k.shard c.shards) None) ≡ (t && shown c.shards k)
    go true = sym (shown_version c.shards k up)
    go false = refl

-- all rows of a context are written
pub all_written : (b : Bool) (id : TaskId) (c : Context) (items : List ShardCount) (j : ℕ) → items ≡ c.shards → length items ≤ j → Ascend c.shards → (was now : List ℕ → Kept → Bool) → ((i : List ℕ) (k : Kept) → now i k ≡ cond (among id c.ask.index (take j c.shards) i k) b (was i k))
    → (i : List ℕ) (k : Kept) → now i k ≡ cond (is_kept_by id c i k) b (was i k)
all_written b id c items j same past up was now written i k =
    written i k ∙ ap (λ those. cond (among id c.ask.index those i k) b (was i k)) (take_all j c.shards (subst (λ (those : List ShardCount). length those ≤ j) same past))
    ∙ ap (λ t. cond t b (was i k)) (sym (kept_among id c up i k))

either : (a b : Bool) → (a || b) ≡ false → a ≡ false
either true b e = e
either false b e = refl

few_shown : (counts : List ShardCount) (k : Kept) (j : ℕ) → shown counts k ≡ false → shown (take j counts) k ≡ false
few_shown counts k j none =
    let test : ShardCount → Bool = λ n. (n.shard == k.shard) && (n.version == k.version) in
    either (shown (take j counts) k) (shown (drop j counts) k) (sym (list_any-append test (take j counts) (drop j counts)) ∙ ap (list_any test) (take-append-drop j counts) ∙ none)

-- some rows of a context were written, and none is left
pub none_written : (id : TaskId) (c : Context) (j : ℕ) → Ascend c.shards → (was some more now : List ℕ → Kept → Bool)
    → ((i : List ℕ) (k : Kept) → is_at (task_id_cmp id) k.id ≡ true → was i k ≡ false)
    → ((i : List ℕ) (k : Kept) → some i k ≡ cond (among id c.ask.index (take j c.shards) i k) true (was i k))
    → ((i : List ℕ) (k : Kept) → more i k ≡ some i k)
    → ((i : List ℕ) (k : Kept) → now i k ≡ cond (is_kept_by id c i k) false (more i k))
    → (i : List ℕ) (k : Kept) → now i k ≡ was i k
none_written id c j up was some more now fresh written same taken i k =
    taken i k
    ∙ ap (λ t. cond t false (more i k)) (kept_among id c up i k)
    ∙ ap (cond (among id c.ask.index c.shards i k) false) (same i k ∙ written i k)
    ∙ go (is_at (task_id_cmp id) k.id) refl
  where
    own : (a s l : Bool) → (s ≡ false → l ≡ false) → cond (a && s) false (cond (a && l) true false) ≡ false
    own true true l h = refl
    own true false true h = h refl
    own true false false h = refl
    own false s l h = refl

    go : (d : Bool) → is_at (task_id_cmp id) k.id ≡ d
        → cond (d && (bytes_eq c.ask.index i && shown c.shards k)) false (cond (d && (bytes_eq c.ask.index i && shown (take j c.shards) k)) true (was i k)) ≡ was i k
    go true e =
        ap (λ w. cond (bytes_eq c.ask.index i && shown c.shards k) false (cond (bytes_eq c.ask.index i && shown (take j c.shards) k) true w)) (fresh i k e)
        ∙ own (bytes_eq c.ask.index i) (shown c.shards k) (shown (take j c.shards) k) (few_shown c.shards k j)
        ∙ sym (fresh i k e)
    go false e = refl

-- ---- the contexts of a table

module _ (a : Versions) (old new : BTreeMap TaskId Context) (id : TaskId) (are : AreVersionsOf a old) where
  -- a context is another, which keeps the same
  pub version_stays : (c d : Context) → get task_id_cmp old id ≡ Some c → d.ask ≡ c.ask → d.shards ≡ c.shards → ((q : TaskId) → get task_id_cmp new q ≡ cond (is_at (task_id_cmp id) q) (Some d) (get task_id_cmp old q)) → AreVersionsOf a new
  version_stays c d there asks shards changed i k = are i k ∙ go (is_at (task_id_cmp id) k.id) refl ∙ sym (ap (is_kept i k) (changed k.id))
    where
      kept : is_kept i k (Some c) ≡ is_kept i k (Some d)
      kept =
          ap (λ ask. is_version k.version (cond (bytes_eq ask.index i) (version_in k.shard c.shards) None)) (sym asks)
          ∙ ap (λ those. is_version k.version (cond (bytes_eq d.ask.index i) (version_in k.shard those) None)) (sym shards)

      go : (t : Bool) → is_at (task_id_cmp id) k.id ≡ t → is_kept i k (get task_id_cmp old k.id) ≡ is_kept i k (cond t (Some d) (get task_id_cmp old k.id))
      go true e = ap (λ q. is_kept i k (get task_id_cmp old q)) (sym (same_at id k.id e)) ∙ ap (is_kept i k) there ∙ kept
      go false e = refl

  module _ (b : Versions) where
    -- one more
    pub version_added : (c : Context) → get task_id_cmp old id ≡ None → ((q : TaskId) → get task_id_cmp new q ≡ cond (is_at (task_id_cmp id) q) (Some c) (get task_id_cmp old q))
        → ((i : List ℕ) (k : Kept) → keeps b i k ≡ cond (is_kept_by id c i k) true (keeps a i k)) → AreVersionsOf b new
    version_added c none changed added i k = added i k ∙ go (is_at (task_id_cmp id) k.id) refl ∙ sym (ap (is_kept i k) (changed k.id))
      where
        or_false : (t : Bool) → cond t true false ≡ t
        or_false true = refl
        or_false false = refl

        go : (t : Bool) → is_at (task_id_cmp id) k.id ≡ t → cond (t && is_kept i k (Some c)) true (keeps a i k) ≡ is_kept i k (cond t (Some c) (get task_id_cmp old k.id))
        go true e =
            ap (cond (is_kept i k (Some c)) true) (are i k ∙ ap (λ q. is_kept i k (get task_id_cmp old q)) (sym (same_at id k.id e)) ∙ ap (is_kept i k) none) ∙ or_false (is_kept i k (Some c))
        go false e = are i k

    -- one is gone
    pub version_gone : (c : Context) → get task_id_cmp old id ≡ Some c → ((q : TaskId) → get task_id_cmp new q ≡ cond (is_at (task_id_cmp id) q) None (get task_id_cmp old q))
        → ((i : List ℕ) (k : Kept) → keeps b i k ≡ cond (is_kept_by id c i k) false (keeps a i k)) → AreVersionsOf b new
    version_gone c there changed gone i k = gone i k ∙ go (is_at (task_id_cmp id) k.id) refl ∙ sym (ap (is_kept i k) (changed k.id))
      where
        none_left : (t : Bool) → cond t false t ≡ false
        none_left true = refl
        none_left false = refl

        go : (t : Bool) → is_at (task_id_cmp id) k.id ≡ t → cond (t && is_kept i k (Some c)) false (keeps a i k) ≡ is_kept i k (cond t None (get task_id_cmp old k.id))
        go true e =
            ap (cond (is_kept i k (Some c)) false) (are i k ∙ ap (λ q. is_kept i k (get task_id_cmp old q)) (sym (same_at id k.id e)) ∙ ap (is_kept i k) there) ∙ none_left (is_kept i k (Some c))
        go false e = are i k

-- nothing is noted of a context that is not there
pub none_noted : (a : Versions) (contexts : BTreeMap TaskId Context) (id : TaskId) → AreVersionsOf a contexts → get task_id_cmp contexts id ≡ None → (i : List ℕ) (k : Kept) → is_at (task_id_cmp id) k.id ≡ true → keeps a i k ≡ false
none_noted a contexts id are none i k e = are i k ∙ ap (λ q. is_kept i k (get task_id_cmp contexts q)) (sym (same_at id k.id e)) ∙ ap (is_kept i k) none

-- one more was noted, and no more is
pub version_back : (a b d : Versions) (old new : BTreeMap TaskId Context) (id : TaskId) (c : Context) → AreVersionsOf a old → get task_id_cmp old id ≡ None → new.entries ≡ old.entries
    → ((i : List ℕ) (k : Kept) → keeps b i k ≡ cond (is_kept_by id c i k) true (keeps a i k)) → ((i : List ℕ) (k : Kept) → keeps d i k ≡ cond (is_kept_by id c i k) false (keeps b i k)) → AreVersionsOf d new
version_back a b d old new id c are none same added removed i k = removed i k ∙ ap (cond (is_kept_by id c i k) false) (added i k) ∙ go (is_at (task_id_cmp id) k.id) refl ∙ are i k ∙ ap (λ es. is_kept i k (lookup (is_at (task_id_cmp k.id)) es)) (sym same)
  where
    none_kept : (t : Bool) → cond t false (cond t true false) ≡ false
    none_kept true = refl
    none_kept false = refl

    go : (t : Bool) → is_at (task_id_cmp id) k.id ≡ t → cond (t && is_kept i k (Some c)) false (cond (t && is_kept i k (Some c)) true (keeps a i k)) ≡ keeps a i k
    go true e =
        let unkept = none_noted a old id are none i k e in
        ap (λ w. cond (is_kept i k (Some c)) false (cond (is_kept i k (Some c)) true w)) unkept ∙ none_kept (is_kept i k (Some c)) ∙ sym unkept
    go false e = refl
