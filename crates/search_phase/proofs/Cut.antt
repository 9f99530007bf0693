-- Cutting the keys of each shard before they are merged loses nothing.
use Rattle.std.specs.Prelude.{◌≡◌, ℕ, ◌+◌, List, [], ◌∷◌, Bool, true, take, drop, length, refl}
use Rattle.std.proofs.Common.{sym, ◌∙◌, ap}
use Rattle.std.proofs.lemmas.List.{drop-take}
use Rattle.std.specs.List.{flat_map, list_all}
use Rattle.task_events.specs.declared.request.HitKey.{HitKey}
use Rattle.task_events.specs.HitOrder.{in_hit_order}
use Rattle.search_phase.proofs.Sorting.{put_all, cut_each, length-put_all, list_all-put_all}
use Rattle.search_phase.proofs.HitKeys.{stands_first, hits_linear, in_hit_order-put_all}

flat_map-ap : {S X : Type 0} (f g : S → List X) → ((s : S) → f s ≡ g s) → (ss : List S) → flat_map f ss ≡ flat_map g ss
flat_map-ap f g e [] = refl
flat_map-ap f g e (s ∷ ss) = let here : f s ≡ g s = e s in let later : flat_map f ss ≡ flat_map g ss = flat_map-ap f g e ss in cc

pub cut_before_merging : {S : Type 0} (n : ℕ) (f : S → List HitKey) (ss : List S)
    → take n (in_hit_order (flat_map (λ s. take n (in_hit_order (f s))) ss)) ≡ take n (in_hit_order (flat_map f ss))
cut_before_merging {S} n f ss =
    let cut : S → List HitKey = λ s. take n (in_hit_order (f s)) in
    let put : S → List HitKey = λ s. take n (put_all stands_first (f s) []) in
    ap (take n) (in_hit_order-put_all (flat_map cut ss))
    ∙ ap (λ (l : List HitKey). take n (put_all stands_first l [])) (flat_map-ap cut put (λ s. ap (take n) (in_hit_order-put_all (f s))) ss)
    ∙ cut_each hits_linear n f ss
    ∙ sym (ap (take n) (in_hit_order-put_all (flat_map f ss)))

-- the same of a window
pub window_before_merging : {S : Type 0} (from size : ℕ) (f : S → List HitKey) (ss : List S)
    → take size (drop from (in_hit_order (flat_map (λ s. take (from + size) (in_hit_order (f s))) ss))) ≡ take size (drop from (in_hit_order (flat_map f ss)))
window_before_merging {S} from size f ss =
    sym (drop-take from size (in_hit_order (flat_map (λ s. take (from + size) (in_hit_order (f s))) ss)))
    ∙ ap (drop from) (cut_before_merging (from + size) f ss)
    ∙ drop-take from size (in_hit_order (flat_map f ss))

pub length-in_hit_order : (keys : List HitKey) → length (in_hit_order keys) ≡ length keys
length-in_hit_order keys = ap length (in_hit_order-put_all keys) ∙ length-put_all hits_linear keys

pub list_all-in_hit_order : (p : HitKey → Bool) (keys : List HitKey) → list_all p keys ≡ true → list_all p (in_hit_order keys) ≡ true
list_all-in_hit_order p keys h = ap (list_all p) (in_hit_order-put_all keys) ∙ list_all-put_all hits_linear p keys h
