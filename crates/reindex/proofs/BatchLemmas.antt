-- The parts of a batch, one shard after the other.
use Rattle.std.proofs.Common.{◌≡◌, ℕ, zero, suc, ◌+◌, ◌*◌, ◌^◌, ◌<◌, ◌≤◌, Bool, true, false, not, List, [], ◌∷◌, ◌++◌, length, refl, sym, ap, ◌∙◌, append-nil, length-append, arith}
use Rattle.std.specs.Prelude.{◌==◌}
use Rattle.std.proofs.lemmas.List.Sums.{length-filter, count_by-le-length}
use Rattle.task_ids.specs.declared.doc.Doc.{Doc}
use Rattle.task_events.specs.declared.request.BulkAsk.{BulkAsk}
use Rattle.task_events.specs.Tasks.{no_counts}
use Rattle.reindex.specs.Bulks.{Bulking, is_open, without, bulk_takes, bulk_with_answer}
use Rattle.reindex.specs.BulkFields.{AreUpTo, IsBulk, answered}
use Rattle.reindex.proofs.Answers.{told_low}
use Rattle.task_events.specs.BulkTask.{docs_in, part_with}
use Rattle.task_events.specs.declared.reply.Reply.{Reply}
use Rattle.std.proofs.lemmas.Bool.{and_parts}
use Rattle.std.specs.List.{flat_map, range_with_len}
use Rattle.std.proofs.lemmas.Grind.{flat_map-append}

pub range_more : (a n : ℕ) → range_with_len a (n + 1) ≡ range_with_len a n ++ (a + n) ∷ []
range_more a zero = let e : a + 0 ≡ a = omega arith in rw e refl
range_more a (suc n) = let e : suc n + 1 ≡ suc (n + 1) = omega arith in let f : a + 1 + n ≡ a + suc n = omega arith in rw (e, range_more (a + 1) n, f) refl

-- what comes of one number more
pub flat_map_range_step : {Y : Type 0} (f : ℕ → List Y) (n : ℕ) → flat_map f (range_with_len 0 (n + 1)) ≡ flat_map f (range_with_len 0 n) ++ f n
flat_map_range_step f n =
    ap (flat_map f) (range_more 0 n) ∙ flat_map-append f (range_with_len 0 n) ((0 + n) ∷ [])
    ∙ (let e : 0 + n ≡ n = omega arith in rw e (ap (λ ys. flat_map f (range_with_len 0 n) ++ ys) (one f n)))
  where
    one : {Y : Type 0} (f : ℕ → List Y) (n : ℕ) → flat_map f (n ∷ []) ≡ f n
    one f n = append-nil (f n)

-- the parts up to a shard, and those of the shard
pub flat_map_next : {Y : Type 0} (f : ℕ → List Y) (n : ℕ) (done more here : List Y) → done ≡ flat_map f (range_with_len 0 n) → more ≡ done ++ here → here ≡ f n → more ≡ flat_map f (range_with_len 0 (n + 1))
flat_map_next f n done more here so_far grown same = grown ∙ (λ i. so_far i ++ same i) ∙ sym (flat_map_range_step f n)

-- each shard has one part at most
part_with-one : (index : List ℕ) (shard : ℕ) (docs : List Doc) → length (part_with index shard docs) ≤ 1
part_with-one index shard [] = omega arith
part_with-one index shard (doc ∷ docs) = omega arith

pub few_parts : (ask : BulkAsk) (shards a n : ℕ) → length (flat_map (λ shard. part_with ask.dest shard (docs_in ask.docs shards shard)) (range_with_len a n)) ≤ n
few_parts ask shards a zero = omega arith
few_parts ask shards a (suc n) =
    let here = part_with-one ask.dest a (docs_in ask.docs shards a) in
    let later = few_parts ask shards (a + 1) n in
    omega (arith, length-append (part_with ask.dest a (docs_in ask.docs shards a)) (flat_map (λ shard. part_with ask.dest shard (docs_in ask.docs shards shard)) (range_with_len (a + 1) n)))

-- ---- the asks that have no answer

pub without-le : (ask : ℕ) (asks : List ℕ) → length (without ask asks) ≤ length asks
without-le ask asks = omega (arith, length-filter (λ other. not (other == ask)) asks, count_by-le-length (λ other. not (other == ask)) asks)

-- an ask that is answered leaves
pub without-lt : (ask : ℕ) (asks : List ℕ) → is_open ask asks ≡ true → length (without ask asks) < length asks
without-lt ask [] h = absurd cc
without-lt ask (other ∷ asks) h = by_case (other == ask) refl (λ more. without-lt ask asks more)
  where
    by_case : (b : Bool) → other == ask ≡ b → (is_open ask asks ≡ true → length (without ask asks) < length asks) → length (without ask (other ∷ asks)) < length (other ∷ asks)
    by_case true same fewer = let rest = without-le ask asks in rw same (omega arith)
    by_case false apart fewer = let rest : length (without ask asks) < length asks = fewer (rw apart at h) in rw apart (omega arith)

-- ---- what holds of the fields of a bulk

pub counts_none : (most : ℕ) → AreUpTo most no_counts
counts_none most = record { total = omega arith; created = omega arith; updated = omega arith; batches = omega arith; failures = omega arith }

-- after an answer there is one that was not answered less, and each number has grown by 2^18 at most
pub answered_more : (b : Bulking) (ask : ℕ) (reply : Reply) → length b.open_asks ≤ b.made → bulk_takes b ask reply ≡ true → AreUpTo (answered b * 2 ^ 18) b.counts
    → (length (without ask b.open_asks) < length b.open_asks) × AreUpTo (answered (bulk_with_answer b ask reply) * 2 ^ 18) (bulk_with_answer b ask reply).counts
answered_more b ask reply fewer takes bounded =
    let parts = and_parts _ _ takes in
    let left : length (without ask b.open_asks) < length b.open_asks = without-lt ask b.open_asks parts.0 in
    let low = told_low (2 ^ 18) reply (omega arith) parts.1 in
    (left, record { total = omega arith; created = omega (arith, low.carries.created); updated = omega (arith, low.carries.updated); batches = omega arith; failures = omega (arith, low.tells) })

pub bulk_sound_answered : (b : Bulking) (capacity ask : ℕ) (reply : Reply) → IsBulk b capacity → bulk_takes b ask reply ≡ true → IsBulk (bulk_with_answer b ask reply) capacity
bulk_sound_answered b capacity ask reply is_bulk takes =
    let more = answered_more b ask reply is_bulk.asked takes is_bulk.bounded in
    record { few = is_bulk.few; in_order = is_bulk.in_order; asked = omega (arith, more.0); room = is_bulk.room; bounded = more.1 }
