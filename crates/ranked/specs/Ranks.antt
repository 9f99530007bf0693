-- Where a key stands among ascending keys.
use Rattle.std.specs.Prelude.{◌≡◌, ℕ, ◌-◌, ◌<◌, ◌≤◌, Bool, true, false, List, [], ◌∷◌, Result, Ok, Err, length, insert, remove, slice_index_or}
use Rattle.std.specs.declared.cmp.Ordering.{Ordering}
use Rattle.std.specs.declared.cmp.Ordering.TheVariants.{Less, Equal, Greater}
use Rattle.std.specs.Ordering.{is_lt}

module _ {K : Type 0} (cmp : K → K → Ordering) where
  -- the last of the keys is below k
  abbrev pub ends_below : K → List K → Bool
  ends_below k [] = false
  ends_below k (x ∷ xs) = is_lt (cmp (slice_index_or (x ∷ xs) (length (x ∷ xs) - 1) x) k)

  -- the key of rank i is equal to k, with smaller keys before it and greater ones after it
  pub record IsFoundAt (keys : List K) (k : K) (i : ℕ) : Type 0 where
    pub in_range : i < length keys
    pub below : (j : ℕ) (d : K) → j < i → cmp (slice_index_or keys j d) k ≡ Less
    pub here : (d : K) → cmp (slice_index_or keys i d) k ≡ Equal
    pub above : (j : ℕ) (d : K) → i < j → j < length keys → cmp (slice_index_or keys j d) k ≡ Greater

  -- k would go at rank i: smaller keys before it, and greater ones from it on
  pub record IsGapFor (keys : List K) (k : K) (i : ℕ) : Type 0 where
    pub in_range : i ≤ length keys
    pub below : (j : ℕ) (d : K) → j < i → cmp (slice_index_or keys j d) k ≡ Less
    pub above : (j : ℕ) (d : K) → i ≤ j → j < length keys → cmp (slice_index_or keys j d) k ≡ Greater

  -- k is one of the keys
  pub record IsAmong (keys : List K) (k : K) : Type 0 where
    pub rank : ℕ
    pub found : IsFoundAt keys k rank

  -- k is none of the keys
  pub record IsAbsent (keys : List K) (k : K) : Type 0 where
    pub rank : ℕ
    pub gap : IsGapFor keys k rank

  -- k went into its gap
  pub record IsPut (old new : List K) (k : K) : Type 0 where
    pub rank : ℕ
    pub gap : IsGapFor old k rank
    pub keys : new ≡ insert old rank k

  -- the key that is equal to k went out
  pub record IsTaken (old new : List K) (k : K) : Type 0 where
    pub rank : ℕ
    pub found : IsFoundAt old k rank
    pub keys : new ≡ remove old rank

  -- what an answer says of a key that was to be put: it is new, it was there, or there was no memory for it
  abbrev pub IsPutAnswer : {E : Type 0} → List K → List K → K → Result Bool E → Type 0
  IsPutAnswer old new k (Ok true) = IsPut old new k
  IsPutAnswer old new k (Ok false) = IsAmong old k × (new ≡ old)
  IsPutAnswer old new k (Err e) = IsAbsent old k × (new ≡ old)

  -- what an answer says of a key that was to be taken: it was there, or not
  abbrev pub IsTakeAnswer : List K → List K → K → Bool → Type 0
  IsTakeAnswer old new k true = IsTaken old new k
  IsTakeAnswer old new k false = IsAbsent old k × (new ≡ old)
