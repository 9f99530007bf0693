-- One shard has become another, at its place, or a new one is made: what the shards have then.
use Rattle.std.proofs.Common.{◌≡◌, ℕ, ◌<◌, ◌≤◌, ◌+◌, not, Bool, true, false, cond, ◌&&◌, List, [], ◌∷◌, ◌++◌, length, get_or, refl, sym, ap, ◌∙◌, arith, subst}
use Rattle.std.specs.Prelude.{◌==◌}
use Rattle.std.specs.List.{position_or_len}
use Rattle.std.specs.Str.{bytes_eq}
use Rattle.std.proofs.lemmas.Bool.Decides.{nat_tests}
use Rattle.std.proofs.lemmas.List.{get_or-set_same, get_or-set_other, get_or_default}
use Rattle.std.proofs.lemmas.List.Folds.{position_or_len-set, position_or_len_push}
use Rattle.std.proofs.lemmas.List.Sums.{passes_at_first, position_or_len_is, prefix_len-le-length}
use Rattle.std.proofs.lemmas.Slice.Eq.{bytes_eq-Decides}
use Rattle.task_ids.specs.declared.doc.Doc.{Doc}
use Rattle.shard_docs.specs.ShardView.{ShardView}
use Rattle.held_shards.specs.declared.HeldShard.{HeldShard}
use Rattle.held_shards.specs.declared.HeldShards.{HeldShards}
use Rattle.held_shards.specs.Held.{is_row, no_row, row_of, shard_of_row, shard_at, with_shard, SameShards, Replaces, WritesTo}

pub both_true : (a b : Bool) → (a && b) ≡ true → (a ≡ true) × (b ≡ true)
both_true true b e = (refl, e)
both_true false b e = absurd (let f : false ≡ true = e in cc)

-- a row that passes for a shard is of its index and number
row_is : (index : List ℕ) (number : ℕ) (row : HeldShard) → is_row index number row ≡ true → (index ≡ row.index) × (number ≡ row.number)
row_is index number row e =
    let both = both_true (bytes_eq index row.index) (row.number == number) e in
    ((bytes_eq-Decides index row.index).0 both.0, grind (arith, nat_tests, both.1))

module _ (held : HeldShards) (index : List ℕ) (number : ℕ) (shard : ShardView) where
  abbrev place : ℕ
  place = position_or_len (is_row index number) held.rows.items

  abbrev row : HeldShard
  row = row_of held place

  abbrev after : HeldShards
  after = with_shard held place shard

  -- each shard is found where it was
  same_place : (q : List ℕ) (k : ℕ) → position_or_len (is_row q k) after.rows.items ≡ position_or_len (is_row q k) held.rows.items
  same_place q k = position_or_len-set (is_row q k) held.rows.items place (record row { shard = shard }) no_row refl

  here : place < length held.rows.items → shard_at after index number ≡ shard
  here within = ap (λ i. (row_of after i).shard) (same_place index number) ∙ ap (λ (r : HeldShard). r.shard) (get_or-set_same held.rows.items place (record row { shard = shard }) no_row within)

  -- another shard has another place
  apart : place < length held.rows.items → (q : List ℕ) (k : ℕ) → (bytes_eq q index && (number == k)) ≡ false → ¬ (position_or_len (is_row q k) held.rows.items ≡ place)
  apart within q k other at =
      let mine = row_is index number row (passes_at_first (is_row index number) held.rows.items no_row within) in
      let theirs = subst (λ i. is_row q k (row_of held i) ≡ true) at (passes_at_first (is_row q k) held.rows.items no_row (rw at within)) in
      let both : is_row q k row ≡ (bytes_eq q index && (number == k)) = sym (ap (λ i. bytes_eq q i && (row.number == k)) mine.0) ∙ sym (ap (λ n. bytes_eq q index && (n == k)) mine.1) in
      absurd (let f : true ≡ false = sym theirs ∙ both ∙ other in cc)

  pub replaced : place < length held.rows.items → Replaces index number shard held after
  replaced within = record {
    here = here within;
    elsewhere = λ q k other. ap (λ i. (row_of after i).shard) (same_place q k)
        ∙ ap (λ (r : HeldShard). r.shard) (get_or-set_other held.rows.items place (position_or_len (is_row q k) held.rows.items) (record row { shard = shard }) no_row (apart within q k other));
  }

-- ---- a document is written

same_shard : (s t : ShardView) → s.writes ≡ t.writes → s.oldest ≡ t.oldest → s ≡ t
same_shard s t writes oldest = ap (λ w. record { writes = w; oldest = s.oldest }) writes ∙ ap (λ o. record { writes = t.writes; oldest = o }) oldest

pub wrote : (before held : HeldShards) (index : List ℕ) (number at : ℕ) (left : ShardView) (doc : Doc) → SameShards before held → at ≡ position_or_len (is_row index number) held.rows.items → at < length held.rows.items
    → left.writes ≡ (shard_of_row held at).writes ++ doc ∷ [] → left.oldest ≡ (shard_of_row held at).oldest → WritesTo index number doc before (with_shard held at left)
wrote before held index number at left doc same is within writes oldest =
    let place = position_or_len (is_row index number) held.rows.items in
    let inside : place < length held.rows.items = subst (λ i. i < length held.rows.items) is within in
    let replaces : Replaces index number left held (with_shard held at left) = subst (λ i. Replaces index number left held (with_shard held i left)) (sym is) (replaced held index number left inside) in
    let was : shard_of_row held at ≡ shard_at before index number = ap (shard_of_row held) is ∙ same index number in
    let left_is : left ≡ record { writes = (shard_at before index number).writes ++ doc ∷ []; oldest = (shard_at before index number).oldest } =
    same_shard left _ (writes ∙ ap (λ (s : ShardView). s.writes ++ doc ∷ []) was) (oldest ∙ ap (λ (s : ShardView). s.oldest) was) in
    record { here = replaces.here ∙ left_is; elsewhere = λ q k other. replaces.elsewhere q k other ∙ same q k }

-- ---- where a row is

pub found_at : (p : HeldShard → Bool) (rows : List HeldShard) (at i : ℕ) (row : HeldShard) → at ≡ i → ((k : ℕ) → k < i → p (get_or rows k no_row) ≡ false) → i < length rows → row ≡ get_or rows i row → p row ≡ true
    → at ≡ position_or_len p rows
found_at p rows at i row is none within row_is passes =
    is ∙ sym (position_or_len_is p rows i no_row (omega arith) none (λ _. ap p (get_or_default rows i no_row row within ∙ sym row_is) ∙ passes))

pub found_none : (p : HeldShard → Bool) (rows : List HeldShard) (at i : ℕ) → at ≡ i → ((k : ℕ) → k < i → p (get_or rows k no_row) ≡ false) → i ≤ length rows → length rows ≤ i → at ≡ position_or_len p rows
found_none p rows at i is none most least = is ∙ sym (position_or_len_is p rows i no_row most none (λ within. absurd (omega arith)))

-- a row was added, for which none was found
pub added_at : (p : HeldShard → Bool) (rows : List HeldShard) (row : HeldShard) (at : ℕ) → at ≡ position_or_len p rows → length rows ≤ at → p row ≡ true → at ≡ position_or_len p (rows ++ row ∷ [])
added_at p rows row at is past passes =
    let most : position_or_len p rows ≤ length rows = prefix_len-le-length (λ r. not (p r)) rows in
    let all : position_or_len p rows ≡ length rows = omega (arith, is, past, most) in
    let here : (position_or_len p rows == length rows) ≡ true = grind (arith, nat_tests, all) in
    is ∙ (all ∙ sym (position_or_len_push p rows row ∙ ap (λ b. cond b (length rows + cond (p row) 0 1) (position_or_len p rows)) here ∙ ap (λ b. length rows + cond b 0 1) passes ∙ omega arith))

pub is_its_row : (index : List ℕ) (number : ℕ) (row : HeldShard) → row.index ≡ index → row.number ≡ number → is_row index number row ≡ true
is_its_row index number row name at =
    let same : bytes_eq index row.index ≡ true = (bytes_eq-Decides index row.index).1 (sym name) in
    let here : (row.number == number) ≡ true = grind (arith, nat_tests, at) in
    ap (λ b. b && (row.number == number)) same ∙ here
