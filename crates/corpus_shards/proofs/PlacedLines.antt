-- The shards of each index while the lines are placed, one after the other.
use Rattle.std.proofs.Common.{◌≡◌, ℕ, suc, zero, ◌+◌, ◌<◌, ◌≤◌, ◌^◌, Bool, true, false, ◌||◌, cond, List, [], ◌∷◌, ◌++◌, length, map, filter, set, get_or, Option, Some, None, refl, sym, ap, ◌∙◌, arith, inl, inr, subst}
use Rattle.std.specs.Prelude.{◌&&◌, ◌==◌, option_map}
use Rattle.std.specs.List.{range_with_len}
use Rattle.std.specs.Str.{bytes_eq}
use Rattle.std.specs.HashMap.{HashMap, get_by_text}
use Rattle.std.specs.Global.{Vec}
use Rattle.std.specs.declared.alloc.Global.{Global}
use Rattle.std.specs.declared.hash.FoldHasher.{FoldHasher}
use Rattle.std.specs.declared.hash.BuildHasherDefault.{BuildHasherDefault}
use Rattle.std.specs.Map.{lookup}
use Rattle.std.specs.Prelude.{String, string_bytes, IfSome}
use Rattle.std.proofs.lemmas.List.{append-nil}
use Rattle.std.proofs.lemmas.List.FromFn.{get_or-map-range_with_len, length-map-range_with_len}
use Rattle.std.proofs.lemmas.Bool.Decides.{nat_tests}
use Rattle.std.proofs.lemmas.Slice.Eq.{bytes_eq-Decides}
use Rattle.task_ids.specs.declared.corpus.CorpusLine.{CorpusLine}
use Rattle.task_ids.specs.declared.doc.Doc.{Doc}
use Rattle.task_ids.specs.Placing.{shard_of}
use Rattle.task_events.specs.Documents.{writes_of}
use Rattle.shard_docs.specs.ShardView.{ShardView, empty_shard}
use Rattle.shard_docs.proofs.Ids.{same_or_other}
use Rattle.corpus_shards.specs.Placed.{has_index, shard_with, shards_of, shards_among, AreShards}
use Rattle.corpus_shards.proofs.Appended.{writes_append}
use Rattle.corpus_shards.proofs.Cases.{AreSameOrOther}

-- the writes of a shard, where these are the lines
abbrev written_by : List CorpusLine → ℕ → List ℕ → ℕ → List Doc
written_by lines shards index shard = writes_of (record { lines = lines }) shards index shard

-- ---- where there are none

abbrev is_of : List ℕ → ℕ → ℕ → CorpusLine → Bool
is_of index shards shard line = bytes_eq index line.index && (shard_of line.doc.id shards == shard)

none_pass : {X : Type 0} (test : X → Bool) (xs : List X) → ((x : X) → test x ≡ false) → filter test xs ≡ []
none_pass test [] off = refl
none_pass test (x ∷ xs) off = rw (off x) (none_pass test xs off)

pub unknown_index : (lines : List CorpusLine) (shards : ℕ) (index : List ℕ) (shard : ℕ) → has_index lines index ≡ false → written_by lines shards index shard ≡ []
unknown_index [] shards index shard none = refl
unknown_index (line ∷ lines) shards index shard none = here (bytes_eq index line.index) refl (unknown_index lines shards index shard)
  where
    here : (b : Bool) → bytes_eq index line.index ≡ b → (has_index lines index ≡ false → written_by lines shards index shard ≡ []) → written_by (line ∷ lines) shards index shard ≡ []
    here true e later = absurd (let off = rw e at none in cc)
    here false e later = let off = rw e at none in rw e (later off)

below : (id : List ℕ) (shards shard : ℕ) → 0 < shards → shards ≤ shard → (shard_of id shards == shard) ≡ false
below id shards shard some past = grind (arith, nat_tests)

pub past_shards : (lines : List CorpusLine) (shards : ℕ) (index : List ℕ) (shard : ℕ) → 0 < shards → shards ≤ shard → written_by lines shards index shard ≡ []
past_shards lines shards index shard some past = ap (map (λ line. line.doc)) (none_pass (is_of index shards shard) lines (λ line. off (bytes_eq index line.index) _ (below line.doc.id shards shard some past)))
  where
    off : (b c : Bool) → c ≡ false → (b && c) ≡ false
    off true c e = e
    off false c e = refl

-- ---- one more line

pub one_more : (lines : List CorpusLine) (line : CorpusLine) (shards : ℕ) (index : List ℕ) (shard : ℕ)
    → written_by (lines ++ line ∷ []) shards index shard ≡ written_by lines shards index shard ++ cond (is_of index shards shard line) (line.doc ∷ []) []
one_more lines line shards index shard = writes_append lines (line ∷ []) shards index shard ∙ ap (λ later. written_by lines shards index shard ++ later) (one (is_of index shards shard line))
  where
    one : (b : Bool) → map (λ (l : CorpusLine). l.doc) (cond b (line ∷ []) []) ≡ cond b (line.doc ∷ []) []
    one true = refl
    one false = refl

-- a list by numbers, of which one element is another
same_from : {X : Type 0} (f g : ℕ → X) (a n : ℕ) → ((k : ℕ) → a ≤ k → g k ≡ f k) → map g (range_with_len a n) ≡ map f (range_with_len a n)
same_from f g a zero same = refl
same_from f g a (suc n) same = rw (same a (omega arith)) (rw (same_from f g (a + 1) n (λ k l. same k (omega arith))) refl)

set_one : {X : Type 0} (f g : ℕ → X) (a n s at : ℕ) → s < n → a + s ≡ at → ((k : ℕ) → (at == k) ≡ false → g k ≡ f k) → map g (range_with_len a n) ≡ set (map f (range_with_len a n)) s (g at)
set_one f g a zero s at within here others = absurd (omega arith)
set_one f g a (suc n) zero at within here others =
    let e : a ≡ at = omega arith in
    rw e (ap (λ later. g at ∷ later) (same_from f g (at + 1) n (λ k l. others k (grind (arith, nat_tests)))))
set_one f g a (suc n) (suc s) at within here others =
    let first : (at == a) ≡ false = grind (arith, nat_tests) in
    rw (others a first) (ap (λ later. f a ∷ later) (set_one f g (a + 1) n s at (omega arith) (omega arith) others))

more_elsewhere : (lines : List CorpusLine) (line : CorpusLine) (shards : ℕ) (index : List ℕ) (shard : ℕ) → is_of index shards shard line ≡ false
    → written_by (lines ++ line ∷ []) shards index shard ≡ written_by lines shards index shard
more_elsewhere lines line shards index shard off = one_more lines line shards index shard ∙ rw off (append-nil (written_by lines shards index shard))

abbrev pub Table : Type 0
Table = HashMap (String Global) (Vec ShardView) (BuildHasherDefault FoldHasher)

-- a shard to which the lines of it were written
abbrev shard_by : List CorpusLine → ℕ → List ℕ → ℕ → ShardView
shard_by lines shards index shard = shard_with (written_by lines shards index shard)

-- a shard after one more write
abbrev with_doc : ShardView → Doc → ShardView
with_doc s doc = record s { writes = s.writes ++ doc ∷ [] }

-- the shards of an index after one more document was written to one of them
abbrev pub with_write : List ShardView → ℕ → Doc → List ShardView
with_write list shard doc = set list shard (with_doc (get_or list shard empty_shard) doc)

module _ (lines : List CorpusLine) (line : CorpusLine) (shards : ℕ) (some : 0 < shards) where
  pub more_here : written_by (lines ++ line ∷ []) shards line.index (shard_of line.doc.id shards) ≡ written_by lines shards line.index (shard_of line.doc.id shards) ++ line.doc ∷ []
  more_here = one_more lines line shards line.index (shard_of line.doc.id shards) ∙ ap (λ b. written_by lines shards line.index (shard_of line.doc.id shards) ++ cond b (line.doc ∷ []) []) it_is
    where
      it_is : is_of line.index shards (shard_of line.doc.id shards) line ≡ true
      it_is =
          let same = (bytes_eq-Decides line.index line.index).1 refl in
          let number : (shard_of line.doc.id shards == shard_of line.doc.id shards) ≡ true = grind (arith, nat_tests) in
          rw same number

  pub in_range : shard_of line.doc.id shards < shards
  in_range = omega arith

  pub at_shard : get_or (shards_of lines shards line.index) (shard_of line.doc.id shards) empty_shard ≡ shard_by lines shards line.index (shard_of line.doc.id shards)
  at_shard = get_or-map-range_with_len (shard_by lines shards line.index) 0 shards (shard_of line.doc.id shards) _ empty_shard in_range (omega arith)

  more_shards : shards_of (lines ++ line ∷ []) shards line.index ≡ with_write (shards_of lines shards line.index) (shard_of line.doc.id shards) line.doc
  more_shards =
      set_one (shard_by lines shards line.index) (shard_by (lines ++ line ∷ []) shards line.index) 0 shards (shard_of line.doc.id shards) _ in_range (omega arith)
      (λ k other. ap shard_with (more_elsewhere lines line shards line.index k (off (bytes_eq line.index line.index) _ other)))
      ∙ ap (set (shards_of lines shards line.index) (shard_of line.doc.id shards)) (ap shard_with more_here ∙ ap (λ s. with_doc s line.doc) (sym at_shard))
    where
      off : (b c : Bool) → c ≡ false → (b && c) ≡ false
      off true c e = e
      off false c e = refl

  same_shards : (index : List ℕ) → bytes_eq index line.index ≡ false → shards_of (lines ++ line ∷ []) shards index ≡ shards_of lines shards index
  same_shards index other = same_from (shard_by lines shards index) (shard_by (lines ++ line ∷ []) shards index) 0 shards (λ k l. ap shard_with (more_elsewhere lines line shards index k (rw other refl)))

index_more : (lines : List CorpusLine) (line : CorpusLine) (index : List ℕ) → has_index (lines ++ line ∷ []) index ≡ (has_index lines index || bytes_eq index line.index)
index_more [] line index = or_nothing (bytes_eq index line.index)
  where
    or_nothing : (b : Bool) → (b || false) ≡ b
    or_nothing true = refl
    or_nothing false = refl
index_more (l ∷ lines) line index = ap (λ b. bytes_eq index l.index || b) (index_more lines line index) ∙ across (bytes_eq index l.index) (has_index lines index) (bytes_eq index line.index)
  where
    across : (a b c : Bool) → (a || (b || c)) ≡ ((a || b) || c)
    across true b c = refl
    across false b c = refl

pub found_shards : (lines : List CorpusLine) (shards : ℕ) (table : Table) (index : List ℕ) (list : Vec ShardView) → AreShards lines shards table → get_by_text table index ≡ Some list
    → list.items ≡ shards_of lines shards index
found_shards lines shards table index list are found = by_case (has_index lines index) refl (rw found at (are.by_index index))
  where
    by_case : (b : Bool) → has_index lines index ≡ b → Some list.items ≡ shards_among lines shards index → list.items ≡ shards_of lines shards index
    by_case true e among = let s = rw e at among in cc
    by_case false e among = absurd (let s = rw e at among in cc)

pub none_found : (lines : List CorpusLine) (shards : ℕ) (table : Table) (index : List ℕ) → AreShards lines shards table → get_by_text table index ≡ None → has_index lines index ≡ false
none_found lines shards table index are found = by_case (has_index lines index) refl (rw found at (are.by_index index))
  where
    by_case : (b : Bool) → has_index lines index ≡ b → None ≡ shards_among lines shards index → has_index lines index ≡ false
    by_case true e among = absurd (let s = rw e at among in cc)
    by_case false e among = e

-- an index without lines has empty shards
pub empty_at : (lines : List CorpusLine) (shards : ℕ) (index : List ℕ) → has_index lines index ≡ false → map (λ _. empty_shard) (range_with_len 0 shards) ≡ shards_of lines shards index
empty_at lines shards index none = sym (same_from (λ _. empty_shard) (shard_by lines shards index) 0 shards (λ k l. ap shard_with (unknown_index lines shards index k none)))

pub after_line : (lines : List CorpusLine) (line : CorpusLine) (shards : ℕ) (table after : Table) (list : Vec ShardView) → AreShards lines shards table
    → ((index : List ℕ) → get_by_text after index ≡ cond (bytes_eq line.index index) (Some list) (get_by_text table index))
    → list.items ≡ with_write (shards_of lines shards line.index) (shard_of line.doc.id shards) line.doc
    → length (written_by lines shards line.index (shard_of line.doc.id shards) ++ line.doc ∷ []) < 2 ^ 32
    → AreShards (lines ++ line ∷ []) shards after
after_line lines line shards table after list are changed wrote few = record {
  some_shards = are.some_shards;
  by_index = λ index. at_index index (same_or_other line.index index);
  few = λ index shard. few_at index shard (same_or_other line.index index) (is_of index shards shard line) refl;
}
  where
    among : (index : List ℕ) → has_index (lines ++ line ∷ []) index ≡ true → shards_among (lines ++ line ∷ []) shards index ≡ Some (shards_of (lines ++ line ∷ []) shards index)
    among index e = rw e refl

    or_true : (b : Bool) → (b || true) ≡ true
    or_true true = refl
    or_true false = refl

    at_index : (index : List ℕ) → AreSameOrOther line.index index
        → option_map (λ l. l.items) (get_by_text after index) ≡ shards_among (lines ++ line ∷ []) shards index
    at_index index (inl (hit, back, same)) =
        ap (option_map (λ l. l.items)) (changed index ∙ ap (λ b. cond b (Some list) (get_by_text table index)) hit)
        ∙ ap Some (wrote ∙ sym (more_shards lines line shards are.some_shards) ∙ ap (shards_of (lines ++ line ∷ []) shards) same)
        ∙ sym (among index (index_more lines line index ∙ ap (λ b. has_index lines index || b) back ∙ or_true (has_index lines index)))
    at_index index (inr (off, back)) =
        ap (option_map (λ l. l.items)) (changed index ∙ ap (λ b. cond b (Some list) (get_by_text table index)) off) ∙ are.by_index index
        ∙ sym (elsewhere (has_index lines index) (index_more lines line index ∙ ap (λ b. has_index lines index || b) back))
      where
        or_false : (b : Bool) → (b || false) ≡ b
        or_false true = refl
        or_false false = refl

        elsewhere : (b : Bool) → has_index (lines ++ line ∷ []) index ≡ (has_index lines index || false) → shards_among (lines ++ line ∷ []) shards index ≡ shards_among lines shards index
        elsewhere b e = ap (λ h. cond h (Some (shards_of (lines ++ line ∷ []) shards index)) None) (e ∙ or_false (has_index lines index))
            ∙ ap (λ s. cond (has_index lines index) (Some s) None) (same_shards lines line shards are.some_shards index back)

    few_at : (index : List ℕ) (shard : ℕ) → AreSameOrOther line.index index
        → (b : Bool) → is_of index shards shard line ≡ b → length (written_by (lines ++ line ∷ []) shards index shard) < 2 ^ 32
    few_at index shard which false e = subst (λ docs. length docs < 2 ^ 32) (sym (more_elsewhere lines line shards index shard e)) (are.few index shard)
    few_at index shard (inr (off, back)) true e = absurd (let h = rw back at e in cc)
    few_at index shard (inl (hit, back, same)) true e =
        let here : (shard_of line.doc.id shards == shard) ≡ true = rw back at e in
        let number : shard_of line.doc.id shards ≡ shard = grind (arith, nat_tests) in
        subst (λ s. length (written_by (lines ++ line ∷ []) shards index s) < 2 ^ 32) number
        (subst (λ i. length (written_by (lines ++ line ∷ []) shards i (shard_of line.doc.id shards)) < 2 ^ 32) same
        (subst (λ docs. length docs < 2 ^ 32) (sym (more_here lines line shards are.some_shards)) few))

same_view : (s t : ShardView) → s.writes ≡ t.writes → s.oldest ≡ t.oldest → s ≡ t
same_view s t writes oldest = λ i. record { writes = writes i; oldest = oldest i }

-- the same where the new list is said by what it was and by the shard that was written to
pub after_write : (lines : List CorpusLine) (line : CorpusLine) (shards : ℕ) (table after : Table) (list : Vec ShardView) (before : List ShardView) (at : ℕ) (old new : ShardView) → AreShards lines shards table
    → ((index : List ℕ) → get_by_text after index ≡ cond (bytes_eq line.index index) (Some list) (get_by_text table index))
    → before ≡ shards_of lines shards line.index → at ≡ shard_of line.doc.id shards → old ≡ get_or before at old → new.writes ≡ old.writes ++ line.doc ∷ [] → new.oldest ≡ old.oldest → length new.writes < 2 ^ 32 → list.items ≡ set before at new
    → AreShards (lines ++ line ∷ []) shards after
after_write lines line shards table after list before at old new are changed b a o n same few items =
    let here : old ≡ shard_by lines shards line.index (shard_of line.doc.id shards) =
    o ∙ ap (λ xs. get_or xs at old) b ∙ ap (λ k. get_or (shards_of lines shards line.index) k old) a
    ∙ get_or-map-range_with_len (shard_by lines shards line.index) 0 shards (shard_of line.doc.id shards) _ old (in_range lines line shards are.some_shards) (omega arith) in
    let newer : new ≡ with_doc (shard_by lines shards line.index (shard_of line.doc.id shards)) line.doc = same_view new (with_doc old line.doc) n same ∙ ap (λ s. with_doc s line.doc) here in
    after_line lines line shards table after list are changed
    (items ∙ ap (λ xs. set xs at new) b ∙ ap (λ k. set (shards_of lines shards line.index) k new) a
    ∙ ap (set (shards_of lines shards line.index) (shard_of line.doc.id shards)) (newer ∙ ap (λ s. with_doc s line.doc) (sym (at_shard lines line shards are.some_shards))))
    (subst (λ (s : ShardView). length s.writes < 2 ^ 32) newer few)

pub no_lines : (shards : ℕ) (table : Table) → 0 < shards → table.entries ≡ [] → AreShards [] shards table
no_lines shards table some empty = record {
  some_shards = some;
  by_index = λ index. ap (λ entries. option_map (λ list. list.items) (lookup (λ key. bytes_eq index (string_bytes key)) entries)) empty;
  few = λ index shard. omega arith;
}

pub as_many_shards : (lines : List CorpusLine) (shards : ℕ) (table : Table) → AreShards lines shards table → (index : List ℕ) → IfSome (get_by_text table index) (λ list. length list.items ≡ shards)
as_many_shards lines shards table are index = by_case (get_by_text table index) refl
  where
    by_case : (o : Option (Vec ShardView)) → get_by_text table index ≡ o → IfSome o (λ list. length list.items ≡ shards)
    by_case None e = tt
    by_case (Some list) e = ap length (found_shards lines shards table index list are e) ∙ length-map-range_with_len (shard_by lines shards index) 0 shards
