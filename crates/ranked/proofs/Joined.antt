-- What the items of a row of pieces are, and what an edit of one piece makes of them.
use Rattle.std.proofs.Common.{◌≡◌, ℕ, zero, suc, ◌+◌, ◌-◌, ◌<◌, ◌≤◌, List, [], ◌∷◌, ◌++◌, length, get_or, set, take, drop, insert, remove, slice_get, Option, Some, None, OnSome, Result, Ok, Err, OnOk, OnErr, refl, sym, ◌∙◌, ap, subst, inl, inr, arith, add-one, append_assoc, length-append}
use Rattle.std.specs.Prelude.{All}
use Rattle.std.proofs.lemmas.List.{append-nil, take_more_set, drop_more, drop_all, set_split, take-append-drop, drop-set-lt, take-set, nil_from_length, get_or_at, get_or_past, get_or_default, take_at, length-take-le}
use Rattle.std.proofs.lemmas.Bool.{cases_lt}
use Rattle.std.proofs.lemmas.Option.{MatchOption-at_some, none-some, slice_get_within, slice_get_cases}
use Rattle.std.specs.Option.{option_copied}
use Rattle.std.specs.Borrow.{Bor}
use Rattle.std.specs.Prelude.{IsSome, ◌↔◌}
use mathlib.Core.Bool.{false≢true}
use Rattle.std.proofs.lemmas.List.Concat.{flat_map-append}
use Rattle.std.proofs.lemmas.List.Edits.{remove-append_left, remove-append_right, insert-append_left, insert-append_right}
use Rattle.std.proofs.lemmas.List.Elements.{All-append, All-cons, All-take, All-drop}
use Rattle.ranked.specs.Pieces.{joined, piece_at, AreFilled, ArePieces}

module _ {X : Type 0} where
  -- an item past the first list lies in the second one
  pub slice_get-append_right : (xs ys : List X) (n : ℕ) → slice_get (xs ++ ys) (length xs + n) ≡ slice_get ys n
  slice_get-append_right [] ys n = rw (Rattle.std.proofs.Common.zero-add n)
  slice_get-append_right (x ∷ xs) ys n = rw (Rattle.std.proofs.Common.suc-add (length xs) n) (slice_get-append_right xs ys n)

  slice_get-append_left : (xs ys : List X) (n : ℕ) → n < length xs → slice_get (xs ++ ys) n ≡ slice_get xs n
  slice_get-append_left [] ys n low = absurd (omega arith)
  slice_get-append_left (x ∷ xs) ys zero low = refl
  slice_get-append_left (x ∷ xs) ys (suc n) low = slice_get-append_left xs ys n (omega arith)

  -- a piece between others
  pub joined_middle : (front : List (List X)) (p : List X) (back : List (List X)) → joined (front ++ p ∷ back) ≡ joined front ++ (p ++ joined back)
  joined_middle front p back = flat_map-append (λ (q : List X). q) front (p ∷ back)

module _ {X : Type 0} (pieces : List (List X)) (k : ℕ) (in_range : k < length pieces) where
  pub split : pieces ≡ take k pieces ++ piece_at pieces k ∷ drop (k + 1) pieces
  split = sym (take-append-drop k pieces) ∙ ap (λ rest. take k pieces ++ rest) (drop_more pieces k [] in_range)

  pub joined_split : joined pieces ≡ joined (take k pieces) ++ (piece_at pieces k ++ joined (drop (k + 1) pieces))
  joined_split = ap joined split ∙ joined_middle (take k pieces) (piece_at pieces k) (drop (k + 1) pieces)

  set_is : (q : List X) → set pieces k q ≡ take k pieces ++ q ∷ drop (k + 1) pieces
  set_is q = rw add-one (set_split pieces k q in_range)

  pub joined_set : (q : List X) → joined (set pieces k q) ≡ joined (take k pieces) ++ (q ++ joined (drop (k + 1) pieces))
  joined_set q = ap joined (set_is q) ∙ joined_middle (take k pieces) q (drop (k + 1) pieces)

  remove_is : (q : List X) → remove (set pieces k q) k ≡ take k pieces ++ drop (k + 1) pieces
  remove_is q = rw (take-set pieces k q, drop-set-lt (suc k) pieces k q (omega arith)) (rw add-one refl)

  pub joined_remove : (q : List X) → joined (remove (set pieces k q) k) ≡ joined (take k pieces) ++ joined (drop (k + 1) pieces)
  joined_remove q = ap joined (remove_is q) ∙ flat_map-append (λ (p : List X). p) (take k pieces) (drop (k + 1) pieces)

  pub all_removed : (P : List X → Type 0) (q : List X) → All P pieces → All P (remove (set pieces k q) k)
  all_removed P q all = subst (All P) (sym (remove_is q)) (All-append P (take k pieces) (drop (k + 1) pieces) (All-take P k pieces all) (All-drop P (k + 1) pieces all))

  -- the piece with q and then r in its place
  pub insert_is : (q r : List X) → insert (set pieces k q) (k + 1) r ≡ take k pieces ++ (q ∷ r ∷ drop (k + 1) pieces)
  insert_is q r = rw (take_more_set pieces k q in_range, drop-set-lt (k + 1) pieces k q (omega arith)) (append_assoc (take k pieces) (q ∷ []) (r ∷ drop (k + 1) pieces))

  module _ (place : ℕ) (there : place < length (piece_at pieces k)) where
    -- an item of the piece, by its rank
    pub slice_get-joined : slice_get (joined pieces) (length (joined (take k pieces)) + place) ≡ slice_get (piece_at pieces k) place
    slice_get-joined = rw (joined_split) (slice_get-append_right (joined (take k pieces)) _ place ∙ slice_get-append_left (piece_at pieces k) _ place there)

    -- the items without it
    pub remove-joined : remove (joined pieces) (length (joined (take k pieces)) + place) ≡ joined (take k pieces) ++ (remove (piece_at pieces k) place ++ joined (drop (k + 1) pieces))
    remove-joined =
        rw joined_split (remove-append_right (joined (take k pieces)) (piece_at pieces k ++ joined (drop (k + 1) pieces)) (length (joined (take k pieces))) (length (joined (take k pieces)) + place) refl (omega arith)
        ∙ ap (λ rest. joined (take k pieces) ++ rest) (ap (λ i. remove (piece_at pieces k ++ joined (drop (k + 1) pieces)) i) (let same : length (joined (take k pieces)) + place - length (joined (take k pieces)) ≡ place = omega arith in same)
        ∙ remove-append_left (piece_at pieces k) (joined (drop (k + 1) pieces)) place there))

    pub joined_taken : joined (set pieces k (remove (piece_at pieces k) place)) ≡ remove (joined pieces) (length (joined (take k pieces)) + place)
    joined_taken = joined_set _ ∙ sym remove-joined

    pub joined_taken_last : length (remove (piece_at pieces k) place) ≡ 0 → joined (remove (set pieces k (remove (piece_at pieces k) place)) k) ≡ remove (joined pieces) (length (joined (take k pieces)) + place)
    joined_taken_last none = joined_remove _ ∙ sym (remove-joined ∙ ap (λ rest. joined (take k pieces) ++ (rest ++ joined (drop (k + 1) pieces))) (nil_from_length _ none))

  -- the items with one more
  pub joined_inserted : (place : ℕ) (y : X) → place ≤ length (piece_at pieces k) → joined (set pieces k (insert (piece_at pieces k) place y)) ≡ insert (joined pieces) (length (joined (take k pieces)) + place) y
  joined_inserted place y low =
      joined_set _
      ∙ sym (rw joined_split (insert-append_right (joined (take k pieces)) (piece_at pieces k ++ joined (drop (k + 1) pieces)) (length (joined (take k pieces))) (length (joined (take k pieces)) + place) y refl (omega arith)
      ∙ ap (λ rest. joined (take k pieces) ++ rest) (ap (λ i. insert (piece_at pieces k ++ joined (drop (k + 1) pieces)) i y) (let same : length (joined (take k pieces)) + place - length (joined (take k pieces)) ≡ place = omega arith in same)
      ∙ insert-append_left (piece_at pieces k) (joined (drop (k + 1) pieces)) place y low)))

  -- one more at the end of the last piece
  pub joined_pushed : (y : X) → k + 1 ≡ length pieces → joined (set pieces k (piece_at pieces k ++ y ∷ [])) ≡ joined pieces ++ y ∷ []
  joined_pushed y last =
      let none : drop (k + 1) pieces ≡ [] = drop_all (k + 1) pieces (omega arith) in
      let whole : joined pieces ≡ joined (take k pieces) ++ piece_at pieces k = joined_split ∙ ap (λ rest. joined (take k pieces) ++ (piece_at pieces k ++ joined rest)) none ∙ ap (λ rest. joined (take k pieces) ++ rest) (append-nil (piece_at pieces k)) in
      joined_set _
      ∙ ap (λ rest. joined (take k pieces) ++ ((piece_at pieces k ++ y ∷ []) ++ joined rest)) none
      ∙ ap (λ rest. joined (take k pieces) ++ rest) (append-nil (piece_at pieces k ++ y ∷ []))
      ∙ sym (append_assoc (joined (take k pieces)) (piece_at pieces k) (y ∷ []))
      ∙ ap (λ rest. rest ++ y ∷ []) (sym whole)

  -- a piece cut in two
  module _ (n : ℕ) where
    pub joined_cut : joined (insert (set pieces k (take n (piece_at pieces k))) (k + 1) (drop n (piece_at pieces k))) ≡ joined pieces
    joined_cut =
        let halves = take-append-drop n (piece_at pieces k) in
        let back = joined (drop (k + 1) pieces) in
        ap joined (insert_is _ _)
        ∙ joined_middle (take k pieces) _ _
        ∙ ap (λ rest. joined (take k pieces) ++ rest) (sym (append_assoc (take n (piece_at pieces k)) (drop n (piece_at pieces k)) back) ∙ ap (λ p. p ++ back) halves)
        ∙ sym joined_split

    -- what stands before the second half
    pub joined_before_second : joined (take (k + 1) (insert (set pieces k (take n (piece_at pieces k))) (k + 1) (drop n (piece_at pieces k)))) ≡ joined (take k pieces) ++ take n (piece_at pieces k)
    joined_before_second =
        let first = take n (piece_at pieces k) in
        let second = drop n (piece_at pieces k) in
        let long : length (take k pieces ++ first ∷ []) ≡ k + 1 = omega (arith, length-append (take k pieces) (first ∷ []), length-take-le k pieces (omega arith)) in
        ap (λ ps. joined (take (k + 1) ps)) (insert_is first second ∙ sym (append_assoc (take k pieces) (first ∷ []) (second ∷ drop (k + 1) pieces)))
        ∙ ap joined (take_at (take k pieces ++ first ∷ []) (second ∷ drop (k + 1) pieces) (k + 1) long)
        ∙ joined_middle (take k pieces) first []
        ∙ ap (λ rest. joined (take k pieces) ++ rest) (append-nil first)

    pub joined_before_first : joined (take k (insert (set pieces k (take n (piece_at pieces k))) (k + 1) (drop n (piece_at pieces k)))) ≡ joined (take k pieces)
    joined_before_first = ap (λ ps. joined (take k ps)) (insert_is _ _) ∙ ap joined (take_at (take k pieces) _ k (length-take-le k pieces (omega arith)))

    pub first_half : piece_at (insert (set pieces k (take n (piece_at pieces k))) (k + 1) (drop n (piece_at pieces k))) k ≡ take n (piece_at pieces k)
    first_half = ap (λ ps. piece_at ps k) (insert_is _ _) ∙ get_or_at (take k pieces) _ _ [] k (length-take-le k pieces (omega arith))

    pub second_half : piece_at (insert (set pieces k (take n (piece_at pieces k))) (k + 1) (drop n (piece_at pieces k))) (k + 1) ≡ drop n (piece_at pieces k)
    second_half =
        let first = take n (piece_at pieces k) in
        let second = drop n (piece_at pieces k) in
        let long : length (take k pieces ++ first ∷ []) ≡ k + 1 = omega (arith, length-append (take k pieces) (first ∷ []), length-take-le k pieces (omega arith)) in
        ap (λ ps. piece_at ps (k + 1)) (insert_is first second ∙ sym (append_assoc (take k pieces) (first ∷ []) (second ∷ drop (k + 1) pieces)))
        ∙ get_or_at (take k pieces ++ first ∷ []) second (drop (k + 1) pieces) [] (k + 1) long

    pub all_cut : (P : List X → Type 0) → All P pieces → P (take n (piece_at pieces k)) → P (drop n (piece_at pieces k)) → All P (insert (set pieces k (take n (piece_at pieces k))) (k + 1) (drop n (piece_at pieces k)))
    all_cut P all first second =
        let one = take n (piece_at pieces k) in
        let two = drop n (piece_at pieces k) in
        let back = drop (k + 1) pieces in
        let halves : All P (one ∷ two ∷ back) = All-cons P one (two ∷ back) first (All-cons P two back second (All-drop P (k + 1) pieces all)) in
        subst (All P) (sym (insert_is one two)) (All-append P (take k pieces) (one ∷ two ∷ back) (All-take P k pieces all) halves)

-- one more piece
pub joined_push : {X : Type 0} (pieces : List (List X)) (p : List X) → joined (pieces ++ p ∷ []) ≡ joined pieces ++ p
joined_push pieces p = joined_middle pieces p [] ∙ ap (λ rest. joined pieces ++ rest) (append-nil p)

module _ {X : Type 0} (pieces : List (List X)) (k : ℕ) where
  -- a place of a piece is one of a piece that is there
  pub piece_there : (place : ℕ) → place < length (piece_at pieces k) → k < length pieces
  piece_there place there = elim (cases_lt k (length pieces)) [
    | inl low ↦ low
    | inr past ↦ absurd (let none : piece_at pieces k ≡ [] = get_or_past pieces k [] past in omega (arith, ap length none))
  ]

  -- the piece that is read there
  pub piece_read : k < length pieces → (p : List X) → p ≡ get_or pieces k p → p ≡ piece_at pieces k
  piece_read low p read = read ∙ get_or_default pieces k p [] low

-- a piece that has no item and is alone has no place
none_alone : (X : Type 0) (k : ℕ) → length (piece_at {X = X} ([] ∷ []) k) ≡ 0
none_alone X zero = refl
none_alone X (suc k) = refl

-- where there is an item, each piece has one
pub filled_by_item : {X : Type 0} (pieces : List (List X)) (k place : ℕ) → place < length (piece_at pieces k) → ArePieces pieces → AreFilled pieces
filled_by_item pieces k place there (inl filled) = filled
filled_by_item pieces k place there (inr alone) = absurd (let none : length (piece_at pieces k) ≡ 0 = ap (λ ps. length (piece_at ps k)) alone ∙ none_alone _ k in omega arith)

-- the first of all items is the first one of the first piece
pub first_of_first : {X : Type 0} (pieces : List (List X)) → ArePieces pieces → 0 < length pieces → slice_get (joined pieces) 0 ≡ slice_get (piece_at pieces 0) 0
first_of_first [] all some = absurd (omega arith)
first_of_first (p ∷ ps) (inl filled) some = slice_get-append_left p (joined ps) 0 (let one = filled 0 [] some in omega arith)
first_of_first (p ∷ ps) (inr alone) some = subst (λ pieces. slice_get (joined pieces) 0 ≡ slice_get (piece_at pieces 0) 0) (sym alone) refl

-- a piece that is alone and loses its last item
pub emptied_alone : {X : Type 0} (pieces : List (List X)) (k : ℕ) (p : List X) → k < length pieces → length pieces ≤ 1 → length p ≡ 0 → set pieces k p ≡ [] ∷ []
emptied_alone [] k p low few none = absurd (omega arith)
emptied_alone (x ∷ []) zero p low few none = ap (λ q. q ∷ []) (nil_from_length p none)
emptied_alone (x ∷ []) (suc k) p low few none = absurd (omega arith)
emptied_alone (x ∷ y ∷ ys) k p low few none = absurd (omega arith)

-- what a clause says of an `Option` that has a value
pub on_some : {Y : Type 0} (r : Option Y) (x : Y) (P : Type 0) → r ≡ Some x → OnSome r P → P
on_some r x P is held = MatchOption-at_some _ (λ _. P) x is held

-- what follows where a call succeeds
pub on_ok_then : {Y E : Type 0} (r : Result Y E) (P Q : Type 0) → OnOk r P → (P → Q) → OnOk r Q
on_ok_then (Ok x) P Q held follows = follows held
on_ok_then (Err e) P Q held follows = tt

-- whether there is an item, where one that is lent is one of a list
pub lent_if_within : {X : Type 0} (xs : List X) (n : ℕ) (r : Option (Bor X)) → option_copied r ≡ slice_get xs n → IsSome r ↔ (n < length xs)
lent_if_within xs n None found = (
  λ some. absurd (false≢true some),
  λ low. elim ((slice_get_cases xs n).1) [
    | inl there ↦ absurd (none-some there.0 (found ∙ there.2))
    | inr past ↦ absurd (let beyond = past.0 in omega arith)
  ],
)
lent_if_within xs n (Some x) found = (λ some. slice_get_within xs n x.now (sym found), λ low. refl)

-- what holds in any case holds where a call fails
pub on_err : {Y E : Type 0} (r : Result Y E) (P : Type 0) → P → OnErr r P
on_err (Ok x) P held = tt
on_err (Err e) P held = held
