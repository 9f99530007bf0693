-- The answers to fetches, by what the fetches ask for.
use Rattle.std.specs.Prelude.{◌≡◌, ℕ, zero, suc, min, ◌+◌, ◌<◌, ◌≤◌, ◌==◌, List, [], ◌∷◌, ◌++◌, true, ◌&&◌, Option, Some, None, option_map, option_and_then, map, filter_map, find, zip, take, drop, length, refl}
use Rattle.std.proofs.lemmas.Bool.{eqb-true, eqb-false, eq-eqb, ne_eqb}
use Rattle.std.proofs.lemmas.List.{take_more, take_all, drop_all, append-nil}
use Rattle.std.proofs.lemmas.Slice.Zip.{length-zip, get_or-zip}
use Rattle.std.proofs.lemmas.Grind.{flat_map-append}
use Rattle.std.proofs.lemmas.List.Elements.{filter_map-append}
use Rattle.std.specs.Ordering.{is_lt}
use Rattle.std.proofs.Common.{sym, ◌∙◌, ap, arith, get_or}
use Rattle.std.specs.List.{cons_option, flat_map}
use Rattle.std.specs.Option.{option_or}
use Rattle.std.specs.Map.{lookup}
use Rattle.task_events.specs.declared.reading.ShardRead.{ShardRead}
use Rattle.task_events.specs.declared.request.HitKey.{HitKey}
use Rattle.task_events.specs.declared.request.SearchAsk.{SearchAsk}
use Rattle.task_events.specs.declared.request.FetchAsk.{FetchAsk}
use Rattle.task_events.specs.declared.reply.Hit.{Hit}
use Rattle.task_events.specs.declared.reply.ShardTop.{ShardTop}
use Rattle.task_events.specs.declared.reply.Reply.{Reply}
use Rattle.task_events.specs.declared.step.Asked.{Asked}
use Rattle.task_events.specs.HitOrder.{hit_cmp}
use Rattle.task_events.specs.FetchTask.{are_among}
use Rattle.task_events.specs.QueryTask.{ascend}
use Rattle.task_events.specs.Readings.{Reading, shard_read}
use Rattle.task_events.specs.Searches.{tops_in, winners_among, won_tops, fetch_of, fetches_of, fetch_at, failed_at, failed_in, failure_of, hits_of, hit_in}
use Rattle.search_phase.specs.FetchPhase.{answer_to, failed_by, hit_by, hits_in}
use Rattle.search_phase.proofs.Sorting.{by_test}

module _ (ask : SearchAsk) (shards : ℕ) (asked : List Asked) where
  abbrev fetches : List FetchAsk
  fetches = fetches_of ask (tops_in shards asked)

  fetch_shards : (won : List HitKey) (tops : List ShardTop) → map (λ (f : FetchAsk). f.shard) (map (fetch_of ask won) tops) ≡ map (λ (t : ShardTop). t.shard) tops
  fetch_shards won [] = refl
  fetch_shards won (top ∷ tops) = ap (λ (l : List ℕ). top.shard ∷ l) (fetch_shards won tops)

  answer_to-fetch_at : (shard : ℕ) → answer_to fetches (drop shards asked) shard ≡ fetch_at ask shards asked shard
  answer_to-fetch_at shard =
      ap (λ (l : List ℕ). lookup (λ other. shard == other) (zip l (drop shards asked)))
      (fetch_shards (winners_among ask.body (tops_in shards asked)) (won_tops ask.body (tops_in shards asked)))

  failed_by-failed_at : (p : ShardRead × Asked) → failed_by fetches (drop shards asked) p ≡ failed_at ask shards asked p.0 p.1
  failed_by-failed_at p =
      ap (λ (o : Option Asked). option_map (λ failure. record { shard = shard_read p.0; failure = failure }) (option_or (failure_of p.1) (option_and_then failure_of o)))
      (answer_to-fetch_at (shard_read p.0))

  find_in_answer : (place : ℕ) (o : Option Reply) → find (λ (hit : Hit). place == hit.place) (hits_in o) ≡ option_and_then (λ reply. find (λ (hit : Hit). place == hit.place) (hits_of reply)) o
  find_in_answer place None = refl
  find_in_answer place (Some reply) = refl

  hit_by_answer : (place : ℕ) (o : Option Asked) → option_and_then (λ (a : Asked). find (λ (hit : Hit). place == hit.place) (hits_in a.answer)) o ≡ option_and_then (λ reply. find (λ (hit : Hit). place == hit.place) (hits_of reply)) (option_and_then (λ (a : Asked). a.answer) o)
  hit_by_answer place None = refl
  hit_by_answer place (Some a) = find_in_answer place a.answer

  hit_by-hit_in : (key : HitKey) → hit_by fetches (drop shards asked) key ≡ hit_in ask shards asked key
  hit_by-hit_in key =
      ap (λ (o : Option Asked). option_and_then (λ (a : Asked). find (λ (hit : Hit). key.place == hit.place) (hits_in a.answer)) o) (answer_to-fetch_at key.shard)
      ∙ hit_by_answer key.place (fetch_at ask shards asked key.shard)

filter_map-same : {X Y : Type 0} (f g : X → Option Y) → ((x : X) → f x ≡ g x) → (xs : List X) → filter_map f xs ≡ filter_map g xs
filter_map-same f g e [] = refl
filter_map-same f g e (x ∷ xs) = let here : f x ≡ g x = e x in let later : filter_map f xs ≡ filter_map g xs = filter_map-same f g e xs in λ i. cons_option (here i) (later i)

pub failed_is : (r : Reading) (asked : List Asked) → filter_map (failed_by (fetches_of r.ask (tops_in (length r.shards) asked)) (drop (length r.shards) asked)) (zip r.shards asked) ≡ failed_in r asked
failed_is r asked =
    let shards = length r.shards in
    filter_map-same (failed_by (fetches_of r.ask (tops_in shards asked)) (drop shards asked)) (λ p. failed_at r.ask shards asked p.0 p.1) (failed_by-failed_at r.ask shards asked) (zip r.shards asked)

pub hits_are : (ask : SearchAsk) (shards : ℕ) (asked : List Asked) (won : List HitKey) → filter_map (hit_by (fetches_of ask (tops_in shards asked)) (drop shards asked)) won ≡ filter_map (hit_in ask shards asked) won
hits_are ask shards asked won = filter_map-same (hit_by (fetches_of ask (tops_in shards asked)) (drop shards asked)) (hit_in ask shards asked) (hit_by-hit_in ask shards asked) won

-- ---- one element more

pub one_more : {X : Type 0} (xs : List X) (i : ℕ) (x : X) → i < length xs → x ≡ get_or xs i x → take (i + 1) xs ≡ take i xs ++ x ∷ []
one_more xs i x l e = take_more xs i x l ∙ ap (λ y. take i xs ++ y ∷ []) (sym e)

pub flat_map_step : {X Y : Type 0} (f : X → List Y) (xs : List X) (x : X) → flat_map f (xs ++ x ∷ []) ≡ flat_map f xs ++ f x
flat_map_step f xs x = flat_map-append f xs (x ∷ []) ∙ ap (λ l. flat_map f xs ++ l) (append-nil (f x))

pub filter_map_step : {X Y : Type 0} (h : X → Option Y) (xs : List X) (i : ℕ) (x : X) → i < length xs → x ≡ get_or xs i x → filter_map h (take (i + 1) xs) ≡ filter_map h (take i xs) ++ filter_map h (x ∷ [])
filter_map_step h xs i x l e =
    ap (filter_map h) (one_more xs i x l e) ∙ filter_map-append h (take i xs) (x ∷ [])

-- ---- two lists beside each other

-- the pairs at the first so many places and at one more
pub zip_step : {X Y Z : Type 0} (h : X × Y → Option Z) (xs : List X) (ys : List Y) (i : ℕ) (x : X) (y : Y) → i < length xs → i < length ys → x ≡ get_or xs i x → y ≡ get_or ys i y
    → filter_map h (take (i + 1) (zip xs ys)) ≡ filter_map h (take i (zip xs ys)) ++ filter_map h ((x, y) ∷ [])
zip_step h xs ys i x y k l e f =
    filter_map_step h (zip xs ys) i (x, y) (omega (arith, length-zip xs ys)) ((λ j. (e j, f j)) ∙ sym (get_or-zip xs ys i (x, y) k l))

-- all pairs
pub zip_all : {X Y Z : Type 0} (h : X × Y → Option Z) (xs : List X) (ys : List Y) (n : ℕ) → n ≡ min (length xs) (length ys) → filter_map h (take n (zip xs ys)) ≡ filter_map h (zip xs ys)
zip_all h xs ys n e = ap (filter_map h) (take_all n (zip xs ys) (omega (arith, length-zip xs ys)))

-- ---- lists that ascend, and places among others

pub ascend_step : (keys : List HitKey) (p : ℕ) (key next : HitKey) → p + 1 < length keys → key ≡ get_or keys p key → next ≡ get_or keys (p + 1) next
    → ascend (drop p keys) ≡ (is_lt (hit_cmp key next) && ascend (drop (p + 1) keys))
ascend_step [] p key next l e f = absurd (omega arith)
ascend_step (k ∷ []) p key next l e f = absurd (omega arith)
ascend_step (k ∷ n ∷ later) zero key next l e f = let g : key ≡ k = e in let h : next ≡ n = f in rw (g, h) refl
ascend_step (k ∷ n ∷ later) (suc p) key next l e f =
    let plus : suc p + 1 ≡ suc (p + 1) = omega arith in
    rw plus (ascend_step (n ∷ later) p key next (omega arith) e (rw plus at f))

pub ascend_last : (keys : List HitKey) (p : ℕ) → length keys ≤ p + 1 → ascend (drop p keys) ≡ true
ascend_last [] zero l = refl
ascend_last [] (suc p) l = refl
ascend_last (k ∷ []) zero l = refl
ascend_last (k ∷ []) (suc p) l = ascend_last [] p (omega arith)
ascend_last (k ∷ n ∷ later) zero l = absurd (omega arith)
ascend_last (k ∷ n ∷ later) (suc p) l = ascend_last (n ∷ later) p (omega arith)

pub are_among_end : (hits : List Hit) (places : List ℕ) (found i : ℕ) → length places ≤ i → found ≤ length hits
    → are_among (map (λ (hit : Hit). hit.place) (drop found hits)) (drop i places) ≡ (found == length hits)
are_among_end hits places found i l f = ap (are_among (map (λ (hit : Hit). hit.place) (drop found hits))) (drop_all i places l) ∙ at_end hits found f
  where
    same_suc : (m n : ℕ) → (m == n) ≡ (suc m == suc n)
    same_suc m n = by_test (m == n)
        (λ yes. yes ∙ sym (eq-eqb (suc m) (suc n) (ap suc (eqb-true m n yes))))
        (λ other. other ∙ sym (ne_eqb (suc m) (suc n) (λ e. eqb-false m n other (omega arith))))

    at_end : (hits : List Hit) (found : ℕ) → found ≤ length hits → are_among (map (λ (hit : Hit). hit.place) (drop found hits)) [] ≡ (found == length hits)
    at_end [] zero f = refl
    at_end [] (suc n) f = absurd (omega arith)
    at_end (hit ∷ hits) zero f = sym (ne_eqb 0 (suc (length hits)) (λ e. omega arith))
    at_end (hit ∷ hits) (suc n) f = at_end hits n (omega arith) ∙ same_suc n (length hits)
