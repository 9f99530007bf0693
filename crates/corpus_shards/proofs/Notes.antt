-- Which shards are noted after one more note, and after one less.
use Rattle.std.proofs.Common.{◌≡◌, ℕ, zero, suc, ◌+◌, ◌-◌, ◌<◌, ◌≤◌, ◌^◌, ◌⊎◌, inl, inr, Bool, true, false, cond, ◌&&◌, ◌||◌, List, [], ◌∷◌, ◌++◌, length, take, set, map, get_or, min, max, Option, Some, None, string_bytes, refl, sym, ap, subst, ◌∙◌, arith, true≢false}
use Rattle.std.specs.Prelude.{◌==◌, count_by, nat_lt, IfSome, String}
use Rattle.std.specs.List.{list_any, swap_remove, AllByRecursion}
use Rattle.std.specs.Map.{lookup}
use Rattle.std.specs.Map.Iter.{deref_pair}
use Rattle.std.specs.Option.{option_map_or}
use Rattle.std.specs.HashMap.{get_by_text}
use Rattle.std.specs.Str.{bytes_eq}
use Rattle.std.specs.Cmp.Lexicographic.{nat_list_eq_equiv}
use Rattle.std.specs.Global.{Vec}
use Rattle.std.specs.Borrow.{Bor}
use Rattle.std.specs.declared.alloc.Global.{Global}
use Rattle.std.proofs.lemmas.Bool.{cases_lt}
use Rattle.std.proofs.lemmas.Bool.Decides.{nat_tests}
use Rattle.std.proofs.lemmas.List.{get_or_past}
use Rattle.std.proofs.lemmas.List.Folds.{list_any-append}
use Rattle.std.proofs.lemmas.List.Sums.{sum_by-cons, sum_by-swap_remove}
use Rattle.std.proofs.lemmas.Slice.Eq.{bytes_eq-Decides}
use Rattle.task_ids.specs.declared.corpus.Corpus.{Corpus}
use Rattle.shard_docs.specs.ShardView.{ShardView, empty_shard, dead_rows, has_dead}
use Rattle.shard_docs.proofs.DeadRows.{dead_grows}
use Rattle.corpus_shards.specs.declared.Shards.{Shards}
use Rattle.corpus_shards.specs.declared.Stale.{Stale}
use Rattle.corpus_shards.specs.Noted.{AreNoted, KeepsNotes}
use Rattle.corpus_shards.specs.Stored.{ShownFrom, raised, HasWritten, IsNotedAs, AllNoted, HasForgotten, Forgets, Replaces, bound_of, is_among, is_noted, shard_in}

abbrev pub is_of : List ℕ → ℕ → Stale → Bool
is_of index shard note = bytes_eq index note.index && (shard == note.shard)

abbrev one_if : Bool → ℕ
one_if b = cond b 1 0

abbrev weigh : List ℕ → ℕ → Stale → ℕ
weigh index shard note = one_if (is_of index shard note)

or_true : (b : Bool) → (b || true) ≡ true
or_true true = refl
or_true false = refl

or_left : (b c : Bool) → b ≡ true → (b || c) ≡ true
or_left true c e = refl
or_left false c e = absurd (true≢false (sym e))

same_text : (index : List ℕ) → bytes_eq index index ≡ true
same_text index = (bytes_eq-Decides index index).1 refl

pub of_itself : (index : List ℕ) (shard : ℕ) → (bytes_eq index index && (shard == shard)) ≡ true
of_itself index shard = let number : (shard == shard) ≡ true = grind (arith, nat_tests) in ap (λ b. b && (shard == shard)) (same_text index) ∙ number

-- ---- one more note

among_push : (notes : List Stale) (note : Stale) (index : List ℕ) (shard : ℕ) → is_among (notes ++ note ∷ []) index shard ≡ is_among notes index shard || (is_of index shard note || false)
among_push notes note index shard = list_any-append (is_of index shard) notes (note ∷ [])

pub push_keeps : (notes : List Stale) (note : Stale) → KeepsNotes notes (notes ++ note ∷ [])
push_keeps notes note index shard was = among_push notes note index shard ∙ or_left (is_among notes index shard) (is_of index shard note || false) was

pub push_notes : (notes : List Stale) (note : Stale) (index : List ℕ) (shard : ℕ) → is_of index shard note ≡ true → is_among (notes ++ note ∷ []) index shard ≡ true
push_notes notes note index shard is = among_push notes note index shard ∙ ap (λ b. is_among notes index shard || (b || false)) is ∙ or_true (is_among notes index shard)

-- ---- one less

any_count : {X : Type 0} (test : X → Bool) (xs : List X) → list_any test xs ≡ nat_lt 0 (count_by test xs)
any_count test [] = refl
any_count {X} test (x ∷ xs) = let rest = any_count test xs in let counted = sum_by-cons (λ (y : X). one_if (test y)) x xs in by (test x) (count_by test (x ∷ xs)) (count_by test xs) counted rest
  where
    by : (b : Bool) (all others : ℕ) → all ≡ one_if b + others → list_any test xs ≡ nat_lt 0 others → (b || list_any test xs) ≡ nat_lt 0 all
    by true all others counted rest = grind (arith, nat_tests)
    by false all others counted rest = let same : all ≡ others = omega arith in rest ∙ ap (nat_lt 0) (sym same)

-- the others are still noted after one was taken out
pub taken_keeps : (notes : List Stale) (place : ℕ) (note : Stale) → place < length notes → note ≡ get_or notes place note → (index : List ℕ) (shard : ℕ) → is_of index shard note ≡ false → is_among notes index shard ≡ true
    → is_among (swap_remove notes place note) index shard ≡ true
taken_keeps notes place note within is index shard other was =
    let counted = sum_by-swap_remove (weigh index shard) notes place note within in
    let none : weigh index shard (get_or notes place note) ≡ 0 = ap (weigh index shard) (sym is) ∙ ap one_if other in
    let same : count_by (is_of index shard) (swap_remove notes place note) ≡ count_by (is_of index shard) notes = omega (arith, counted, none) in
    any_count (is_of index shard) (swap_remove notes place note) ∙ ap (nat_lt 0) same ∙ sym (any_count (is_of index shard) notes) ∙ was

-- ---- all shards

-- a shard that is empty has no dead row
pub none_dead : has_dead empty_shard ≡ false
none_dead = grind (arith, nat_tests)

-- where those of each index are noted, all are
pub all_noted : (s : Shards) → ((index : List ℕ) → IfSome (get_by_text s.by_index index) (λ list. (length list.items < 2 ^ 32) × AreNoted s.stale.items index list.items)) → AllNoted s
all_noted s each index shard = by (get_by_text s.by_index index) (each index)
  where
    by : (o : Option (Vec ShardView)) → IfSome o (λ list. (length list.items < 2 ^ 32) × AreNoted s.stale.items index list.items)
        → has_dead (option_map_or (λ list. get_or list.items shard empty_shard) o empty_shard) ≡ true → is_among s.stale.items index shard ≡ true
    by None all dead = absurd (true≢false (sym dead ∙ none_dead))
    by (Some list) (few, noted) dead = within (cases_lt shard (length list.items))
      where
        within : (shard < length list.items) ⊎ (length list.items ≤ shard) → is_among s.stale.items index shard ≡ true
        within (inl low) = noted shard (omega arith) dead
        within (inr past) = absurd (true≢false (sym dead ∙ ap has_dead (get_or_past list.items shard empty_shard past) ∙ none_dead))

-- the shards of the indices that were gone through
pub found_noted : (notes : List Stale) (pairs : List (Bor (String Global) × Bor (Vec ShardView))) (index : List ℕ) → AllByRecursion (λ pair. AreNoted notes (string_bytes pair.0.now) pair.1.now.items) pairs
    → IfSome (lookup (λ key. bytes_eq index (string_bytes key)) (map deref_pair pairs)) (λ list. AreNoted notes index list.items)
found_noted notes [] index all = tt
found_noted notes (pair ∷ pairs) index (first, later) = by (bytes_eq index (string_bytes pair.0.now)) refl (found_noted notes pairs index later)
  where
    by : (b : Bool) → bytes_eq index (string_bytes pair.0.now) ≡ b → IfSome (lookup (λ key. bytes_eq index (string_bytes key)) (map deref_pair pairs)) (λ list. AreNoted notes index list.items)
        → IfSome (cond b (Some pair.1.now) (lookup (λ key. bytes_eq index (string_bytes key)) (map deref_pair pairs))) (λ list. AreNoted notes index list.items)
    by true e rest = let same : index ≡ string_bytes pair.0.now = (bytes_eq-Decides index (string_bytes pair.0.now)).0 e in subst (λ i. AreNoted notes i pair.1.now.items) (sym same) first
    by false e rest = rest

-- they stay so with further notes
pub still_noted : (old new : List Stale) (pairs : List (Bor (String Global) × Bor (Vec ShardView))) → KeepsNotes old new → AllByRecursion (λ pair. AreNoted old (string_bytes pair.0.now) pair.1.now.items) pairs
    → AllByRecursion (λ pair. AreNoted new (string_bytes pair.0.now) pair.1.now.items) pairs
still_noted old new [] keeps all = tt
still_noted old new (pair ∷ pairs) keeps (first, later) = (λ number low dead. keeps (string_bytes pair.0.now) number (first number low dead), still_noted old new pairs keeps later)

pub one_more_noted : (notes : List Stale) (pairs : List (Bor (String Global) × Bor (Vec ShardView))) (pair : Bor (String Global) × Bor (Vec ShardView)) → AllByRecursion (λ p. AreNoted notes (string_bytes p.0.now) p.1.now.items) pairs
    → AreNoted notes (string_bytes pair.0.now) pair.1.now.items → AllByRecursion (λ p. AreNoted notes (string_bytes p.0.now) p.1.now.items) (pairs ++ pair ∷ [])
one_more_noted notes [] pair all last = (last, tt)
one_more_noted notes (first_pair ∷ pairs) pair (first, later) last = (first, one_more_noted notes pairs pair later last)

-- ---- a shard that was noted has forgotten rows

-- what is written does not tell which shards are noted
renoted : (s : Shards) (stale : Vec Stale) (corpus : Corpus) (shards : ℕ) (oldest : ShownFrom) → HasWritten corpus shards oldest s → HasWritten corpus shards oldest (record s { stale = stale })
renoted s stale corpus shards oldest has = record { count = has.count; some = has.some; low = has.low; each = has.each; own = has.own; as_many = has.as_many; few = has.few; empty = has.empty }

pub forgets_as : (s t : Shards) (old new : Vec Stale) (index : List ℕ) (shard version : ℕ) → Forgets index shard version (record s { stale = old }) t → Forgets index shard version s (record t { stale = new })
forgets_as s t old new index shard version forgets = record {
  written = λ corpus shards oldest has. renoted t new corpus shards (raised index shard version oldest) (forgets.written corpus shards oldest (renoted s old corpus shards oldest has));
  here = forgets.here;
  as_many = forgets.as_many;
  elsewhere = forgets.elsewhere;
  from_start = forgets.from_start;
}

-- the shard of a note forgot what is dead at the version that is kept of it
pub forgot_at : (s t : Shards) (old : Vec Stale) (note : Stale) (name : List ℕ) (kept : Option ℕ) (found : ShardView) (version : ℕ) → name ≡ note.index → found ≡ shard_in s name note.shard → version ≡ bound_of kept found
    → Forgets name note.shard version (record s { stale = old }) t → Forgets note.index note.shard (bound_of kept (shard_in s note.index note.shard)) (record s { stale = old }) t
forgot_at s t old note name kept found version named there is forgets =
    subst (λ n. Forgets note.index note.shard n (record s { stale = old }) t) (is ∙ ap (bound_of kept) (there ∙ ap (λ i. shard_in s i note.shard) named))
    (subst (λ (i : List ℕ). Forgets i note.shard version (record s { stale = old }) t) named forgets)

pub flipped : (a b : List ℕ) (m n : ℕ) → (bytes_eq a b && (m == n)) ≡ (bytes_eq b a && (n == m))
flipped a b m n = let number : (m == n) ≡ (n == m) = grind (arith, nat_tests) in ap (λ t. t && (m == n)) (nat_list_eq_equiv.symm a b) ∙ ap (λ t. bytes_eq b a && t) number

module _ (s t : Shards) (place : ℕ) (note : Stale) (within : place < length s.stale.items) (is : note ≡ get_or s.stale.items place note)
    (elsewhere : (q : List ℕ) (k : ℕ) → (bytes_eq note.index q && (note.shard == k)) ≡ false → shard_in t q k ≡ shard_in s q k) where
  -- the others are noted as before
  others_noted : AllNoted s → (q : List ℕ) (k : ℕ) → is_of q k note ≡ false → has_dead (shard_in t q k) ≡ true → is_among (swap_remove s.stale.items place note) q k ≡ true
  others_noted all q k other dead = taken_keeps s.stale.items place note within is q k other (all q k (sym (ap has_dead (elsewhere q k (flipped note.index q note.shard k ∙ other))) ∙ dead))

  -- it is noted again
  pub noted_again : t.stale.items ≡ swap_remove s.stale.items place note ++ note ∷ [] → AllNoted s → AllNoted t
  noted_again left all q k dead = subst (λ notes. is_among notes q k ≡ true) (sym left) (by (is_of q k note) refl)
    where
      by : (b : Bool) → is_of q k note ≡ b → is_among (swap_remove s.stale.items place note ++ note ∷ []) q k ≡ true
      by true here = push_notes (swap_remove s.stale.items place note) note q k here
      by false other = push_keeps (swap_remove s.stale.items place note) note q k (others_noted all q k other dead)

  -- or no dead row of it is left
  pub noted_no_more : t.stale.items ≡ swap_remove s.stale.items place note → has_dead (shard_in t note.index note.shard) ≡ false → AllNoted s → AllNoted t
  noted_no_more left none all q k dead = subst (λ notes. is_among notes q k ≡ true) (sym left) (by (bytes_eq q note.index) refl (k == note.shard) refl)
    where
      by : (b : Bool) → bytes_eq q note.index ≡ b → (d : Bool) → (k == note.shard) ≡ d → is_among (swap_remove s.stale.items place note) q k ≡ true
      by true e true f =
          let name : q ≡ note.index = (bytes_eq-Decides q note.index).0 e in
          let number : k ≡ note.shard = grind (arith, nat_tests) in
          absurd (true≢false (sym dead ∙ ap (λ i. has_dead (shard_in t i k)) name ∙ ap (λ n. has_dead (shard_in t note.index n)) number ∙ none))
      by true e false f = others_noted all q k (ap (λ b. b && (k == note.shard)) e ∙ f) dead
      by false e d f = others_noted all q k (ap (λ b. b && (k == note.shard)) e) dead

-- ---- what is forgotten

bound_within : (kept : Option ℕ) (shard : ShardView) → bound_of kept shard ≤ length shard.writes
bound_within None shard = omega arith
bound_within (Some version) shard = omega arith

-- the bound is not above what is kept
pub bound_kept : (kept : Option ℕ) (shard : ShardView) → IfSome kept (λ version. bound_of kept shard ≤ version)
bound_kept None shard = tt
bound_kept (Some version) shard = omega arith

-- where no dead row is left nothing is to be forgotten
pub none_left : (kept : Option ℕ) (shard : ShardView) → has_dead shard ≡ false → HasForgotten (bound_of kept shard) shard
none_left kept shard none =
    let grows = dead_grows (bound_of kept shard) (length shard.writes) shard.writes (bound_within kept shard) in
    let all : dead_rows (length shard.writes) shard.writes ≤ dead_rows shard.oldest shard.writes = grind (arith, nat_tests) in
    omega (arith, grows, all)

-- a shard that forgot what is dead at its bound has forgotten it
pub has_forgotten : (kept : Option ℕ) (was is : ShardView) → length is.writes ≡ length was.writes → is.oldest ≡ max was.oldest (bound_of kept was) → HasForgotten (bound_of kept is) is
has_forgotten kept was is many oldest =
    let same : bound_of kept is ≡ bound_of kept was = same_bound kept in
    dead_grows (bound_of kept is) is.oldest is.writes (omega (arith, same, oldest))
  where
    same_bound : (kept : Option ℕ) → bound_of kept is ≡ bound_of kept was
    same_bound None = many
    same_bound (Some version) = ap (min version) many

-- ---- after a shard was written to

-- it is noted where a row has died since
pub noted_after : (s t marked : Shards) (index : List ℕ) (shard : ℕ) (left : ShardView) (had has : Bool) → AllNoted s → Replaces index shard left s t → IsNotedAs t marked → had ≡ has_dead (shard_in s index shard) → has ≡ has_dead left
    → (had ≡ false → has ≡ true → is_noted marked index shard ≡ true) → AllNoted marked
noted_after s t marked index shard left had has all replaces as_new was is noted q k dead = by (bytes_eq index q) refl (shard == k) refl
  where
    -- what was noted before still is
    before : has_dead (shard_in s q k) ≡ true → is_noted marked q k ≡ true
    before died = as_new.still q k (ap (λ (v : Vec Stale). is_among v.items q k) replaces.stale ∙ all q k died)

    elsewhere : (bytes_eq index q && (shard == k)) ≡ false → is_noted marked q k ≡ true
    elsewhere other = before (sym (ap has_dead (replaces.elsewhere q k other)) ∙ sym (ap has_dead (as_new.shards q k)) ∙ dead)

    here : index ≡ q → shard ≡ k → (b : Bool) → had ≡ b → is_noted marked q k ≡ true
    here name number true e = before (sym (ap (λ i. has_dead (shard_in s i k)) name) ∙ sym (ap (λ n. has_dead (shard_in s index n)) number) ∙ sym was ∙ e)
    here name number false e =
        let died : has ≡ true = is ∙ sym (ap has_dead replaces.here) ∙ ap (λ i. has_dead (shard_in t i shard)) name ∙ ap (λ n. has_dead (shard_in t q n)) number ∙ sym (ap has_dead (as_new.shards q k)) ∙ dead in
        ap (λ i. is_noted marked i k) (sym name) ∙ ap (λ n. is_noted marked index n) (sym number) ∙ noted e died

    by : (b : Bool) → bytes_eq index q ≡ b → (d : Bool) → (shard == k) ≡ d → is_noted marked q k ≡ true
    by true e true f = here ((bytes_eq-Decides index q).0 e) (grind (arith, nat_tests)) had refl
    by true e false f = elsewhere (ap (λ b. b && (shard == k)) e ∙ f)
    by false e d f = elsewhere (ap (λ b. b && (shard == k)) e)

-- a shard is not noted by a note of another one
pub not_pushed : (notes : List Stale) (note : Stale) (index : List ℕ) (shard : ℕ) → is_among notes index shard ≡ false → is_of index shard note ≡ false → is_among (notes ++ note ∷ []) index shard ≡ false
not_pushed notes note index shard none other = among_push notes note index shard ∙ ap (λ b. b || (is_of index shard note || false)) none ∙ ap (λ b. b || false) other

-- with the same shards and notes as before
pub made_noted : (s t : Shards) → ((q : List ℕ) (k : ℕ) → shard_in t q k ≡ shard_in s q k) → t.stale ≡ s.stale → AllNoted s → AllNoted t
made_noted s t same stale all q k dead = ap (λ (v : Vec Stale). is_among v.items q k) stale ∙ all q k (sym (ap has_dead (same q k)) ∙ dead)
