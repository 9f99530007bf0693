-- The shards while the lines of the corpus are taken in, one after the other.
use Rattle.std.proofs.Common.{◌≡◌, ℕ, Bool, true, false, cond, ◌&&◌, List, [], ◌∷◌, ◌++◌, map, filter, refl, sym, ap, ◌∙◌, subst, arith}
use Rattle.std.specs.Prelude.{◌==◌}
use Rattle.std.specs.Str.{bytes_eq}
use Rattle.std.proofs.lemmas.Bool.Decides.{nat_tests}
use Rattle.std.proofs.lemmas.List.{append-nil, map-append}
use Rattle.std.proofs.lemmas.List.Elements.{filter-append}
use Rattle.std.proofs.lemmas.Slice.Eq.{bytes_eq-Decides}
use Rattle.task_ids.specs.declared.corpus.CorpusLine.{CorpusLine}
use Rattle.task_ids.specs.declared.doc.Doc.{Doc}
use Rattle.task_ids.specs.Placing.{shard_of}
use Rattle.task_events.specs.Documents.{writes_of}
use Rattle.shard_docs.specs.ShardView.{ShardView, empty_shard}
use Rattle.held_shards.specs.declared.HeldShards.{HeldShards}
use Rattle.held_shards.specs.Held.{holds, shard_at, shard_with, HasLines, WritesTo}
use Rattle.held_shards.proofs.Rows.{both_true}

module _ (lines : List CorpusLine) (line : CorpusLine) (count : ℕ) where
  abbrev number : ℕ
  number = shard_of line.doc.id count

  -- the line is of this shard
  abbrev is_of : List ℕ → ℕ → CorpusLine → Bool
  is_of q k l = bytes_eq q l.index && (shard_of l.doc.id count == k)

  abbrev more : List CorpusLine
  more = lines ++ line ∷ []

  one_more : (q : List ℕ) (k : ℕ) → writes_of (record { lines = more }) count q k ≡ writes_of (record { lines = lines }) count q k ++ map (λ (l : CorpusLine). l.doc) (cond (is_of q k line) (line ∷ []) [])
  one_more q k = ap (map (λ (l : CorpusLine). l.doc)) (filter-append (is_of q k) lines (line ∷ [])) ∙ map-append (λ (l : CorpusLine). l.doc) (filter (is_of q k) lines) (filter (is_of q k) (line ∷ []))

  abbrev old_writes : List ℕ → ℕ → List Doc
  old_writes q k = writes_of (record { lines = lines }) count q k

  abbrev with_writes : List Doc → ShardView
  with_writes writes = record { writes = writes; oldest = 0 }

  elsewhere : (q : List ℕ) (k : ℕ) → is_of q k line ≡ false → shard_with more count q k ≡ shard_with lines count q k
  elsewhere q k off = ap with_writes (one_more q k ∙ ap (λ b. old_writes q k ++ map (λ (l : CorpusLine). l.doc) (cond b (line ∷ []) [])) off ∙ append-nil (old_writes q k))

  here : (q : List ℕ) (k : ℕ) → is_of q k line ≡ true → shard_with more count q k ≡ with_writes (old_writes q k ++ line.doc ∷ [])
  here q k on = ap with_writes (one_more q k ∙ ap (λ b. old_writes q k ++ map (λ (l : CorpusLine). l.doc) (cond b (line ∷ []) [])) on)

  its_place : (q : List ℕ) (k : ℕ) → is_of q k line ≡ true → (q ≡ line.index) × (number ≡ k)
  its_place q k on = let both = both_true (bytes_eq q line.index) (number == k) on in ((bytes_eq-Decides q line.index).0 both.0, grind (arith, nat_tests, both.1))

  pub written : (held after : HeldShards) → holds held number ≡ true → after.numbers ≡ held.numbers → WritesTo line.index number line.doc held after → HasLines lines count held → HasLines more count after
  written held after some numbers writes has q k = by (is_of q k line) refl
    where
      same_holds : holds after k ≡ holds held k
      same_holds = ap (λ ns. holds (record held { numbers = ns }) k) numbers

      by : (b : Bool) → is_of q k line ≡ b → shard_at after q k ≡ cond (holds after k) (shard_with more count q k) empty_shard
      by true on =
          let at = its_place q k on in
          let held_here : holds after k ≡ true = same_holds ∙ subst (λ n. holds held n ≡ true) at.1 some in
          let was : shard_at held line.index number ≡ shard_with lines count line.index number = has line.index number ∙ ap (λ b. cond b (shard_with lines count line.index number) empty_shard) some in
          let now : shard_at after line.index number ≡ with_writes (old_writes line.index number ++ line.doc ∷ []) = writes.here ∙ ap (λ (s : ShardView). record s { writes = s.writes ++ line.doc ∷ [] }) was in
          subst (λ n. shard_at after q n ≡ with_writes (old_writes q n ++ line.doc ∷ [])) at.1 (subst (λ i. shard_at after i number ≡ with_writes (old_writes i number ++ line.doc ∷ [])) (sym at.0) now)
          ∙ sym (here q k on) ∙ sym (ap (λ b. cond b (shard_with more count q k) empty_shard) held_here)
      by false off =
          writes.elsewhere q k off ∙ has q k ∙ ap (λ b. cond b (shard_with lines count q k) empty_shard) (sym same_holds)
          ∙ ap (λ s. cond (holds after k) s empty_shard) (sym (elsewhere q k off))
