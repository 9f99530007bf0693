-- What stands in a list that is made of another.
use Rattle.std.proofs.Common.{◌≡◌, ℕ, List, Some, sym, ap, ◌∙◌, arith}
use Rattle.std.specs.Prelude.{map, slice_get, option_map}
use Rattle.std.proofs.lemmas.Option.{slice_get_within, slice_get-map}
use Rattle.std.proofs.lemmas.List.{length-map}
use Rattle.node_link.proofs.Counts.{Some_injective}
use Rattle.run_inboxes.proofs.Rows.{stands}

module _ {A B : Type 0} (f : A → B) where
  pub mapped_at : (xs : List A) (k : ℕ) (x : A) → slice_get xs k ≡ Some x → slice_get (map f xs) k ≡ Some (f x)
  mapped_at xs k x at = slice_get-map f xs k ∙ ap (option_map f) at

  -- what stands in the list that was made is made of what stands there
  pub made_of : (xs : List A) (k : ℕ) (y : B) → slice_get (map f xs) k ≡ Some y → (x : A) × (slice_get xs k ≡ Some x) × (f x ≡ y)
  made_of xs k y at =
      let low = slice_get_within (map f xs) k y at in
      let long = length-map xs f in
      let x = stands xs k (omega arith) in
      (x.0, x.1, Some_injective (f x.0) y (sym (mapped_at xs k x.0 x.1) ∙ at))
