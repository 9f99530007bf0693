-- What is dealt, node by node, and where it stands.
use Rattle.std.proofs.Common.{◌≡◌, ℕ, zero, suc, ◌+◌, ◌-◌, ◌*◌, ◌≤◌, List, [], ◌∷◌, ◌++◌, length, length-append, append_assoc, append-nil, reverse, Some, refl, sym, ap, ◌∙◌, subst, arith}
use Rattle.std.specs.Prelude.{map, slice_get}
use Rattle.std.proofs.Math.Nat.{mul-suc, mul-zero, mul-add, mul-le-mul_left}
use Rattle.std.proofs.lemmas.List.{length-reverse, length-map, reverse-append}
use Rattle.node_link.proofs.Counts.{each_more, get_at}
use Rattle.run_facts.specs.Inboxes.{control_of, data_of, driver_of}
use Rattle.run_inboxes.proofs.Rows.{in_front}
use Rattle.run_cluster.specs.declared.places.Place.{Place}
use Rattle.run_cluster.specs.Places.{inboxes_of, AreWide}

module _ {E : Type 0} where
  -- past a first part of a list stands its second part
  past : (xs ys : List E) (k : ℕ) → slice_get (xs ++ ys) (length xs + k) ≡ slice_get ys k
  past [] ys k =
      let e : length {A = E} [] + k ≡ k = omega arith in
      ap (slice_get ys) e
  past (x ∷ xs) ys k =
      let e : length (x ∷ xs) + k ≡ suc (length xs + k) = omega arith in
      ap (slice_get ((x ∷ xs) ++ ys)) e ∙ past xs ys k

  -- what a list ends with is the first of it in reverse
  pub turned_round : (old new : List E) (x : E) → old ≡ new ++ x ∷ [] → reverse old ≡ x ∷ reverse new
  turned_round old new x is = ap reverse is ∙ reverse-append new (x ∷ [])

-- the inboxes of one node more
one_row : (w k : ℕ) → driver_of w (suc k) ≡ driver_of w k + (w + 1)
one_row w k = mul-suc (w + 1) k

two_parts : (w a b : ℕ) → driver_of w (a + b) ≡ driver_of w a + driver_of w b
two_parts w a b = mul-add (w + 1) a b

-- at most 15 nodes with 4 data workers each have few inboxes
pub few_inboxes : (w n : ℕ) → w ≤ 4 → n ≤ 15 → driver_of w n ≤ 75
few_inboxes w n workers nodes =
    let a = mul-le-mul_left (w + 1) nodes in
    let e : (w + 1) * n ≤ (w + 1) * 15 = a in
    omega arith

-- the numbers of the inboxes of a node that comes after so many
control_number : (w k : ℕ) → control_of w (k + 1) ≡ driver_of w k + 0
control_number w k =
    let e : k + 1 - 1 ≡ k = omega arith in
    let f : driver_of w k ≡ driver_of w k + 0 = omega arith in
    ap (driver_of w) e ∙ f

data_number : (w k j : ℕ) → data_of w (k + 1) j ≡ driver_of w k + suc j
data_number w k j =
    let e = control_number w k in
    omega arith

module _ {S E : Type 0} where
  -- what is of one node
  abbrev row : Place S E → List E
  row p = p.control ∷ p.datas.items

  inboxes_length : (w : ℕ) (ps : List (Place S E)) → AreWide w ps → length (inboxes_of ps) ≡ driver_of w (length ps)
  inboxes_length w [] wide = sym (mul-zero (w + 1))
  inboxes_length w (p ∷ ps) wide =
      let h = inboxes_length w ps (λ k q at. wide (suc k) q at) in
      let one = wide 0 p refl in
      let sum = length-append (row p) (inboxes_of ps) in
      let more = one_row w (length ps) in
      omega arith

  inboxes_push : (ps : List (Place S E)) (p : Place S E) → inboxes_of (ps ++ p ∷ []) ≡ inboxes_of ps ++ row p
  inboxes_push [] p = append-nil (row p)
  inboxes_push (q ∷ ps) p = ap (λ l. row q ++ l) (inboxes_push ps p) ∙ sym (append_assoc (row q) (inboxes_of ps) (row p))

  pub wide_push : (w : ℕ) (ps : List (Place S E)) (p : Place S E) → AreWide w ps → length p.datas.items ≡ w → AreWide w (ps ++ p ∷ [])
  wide_push w ps p wide long = each_more (λ k (q : Place S E). length q.datas.items ≡ w) ps p wide long

  -- so much is left
  pub left_over : (w : ℕ) (ps : List (Place S E)) (left all : List E) (before rest whole : List S) → AreWide w ps → inboxes_of ps ++ reverse left ≡ all → map (λ p. p.board) ps ≡ before → before ++ rest ≡ whole
      → length all ≡ driver_of w (length whole) + 1 → length left ≡ driver_of w (length rest) + 1
  left_over w ps left all before rest whole wide sum same goes long =
      let a = ap length sum in
      let b = length-append (inboxes_of ps) (reverse left) in
      let d = length-reverse left in
      let e = inboxes_length w ps wide in
      let f = length-map ps (λ p. p.board) in
      let h = ap length same in
      let j : length whole ≡ length ps + length rest = sym (ap length goes) ∙ length-append before rest ∙ ap (λ n. n + length rest) (sym h ∙ f) in
      let k = ap (driver_of w) j ∙ two_parts w (length ps) (length rest) in
      omega arith

  -- where one node more is to be dealt, there is enough for it
  pub enough : (w : ℕ) (left : List E) (rest : List S) (board : S) → length left ≡ driver_of w (length (board ∷ rest)) + 1 → w + 1 ≤ length left
  enough w left rest board long =
      let more = one_row w (length rest) in
      omega arith

  -- one node more got its own
  pub dealt_one : (ps : List (Place S E)) (p : Place S E) (left rest all : List E) → inboxes_of ps ++ reverse left ≡ all → reverse left ≡ row p ++ reverse rest → inboxes_of (ps ++ p ∷ []) ++ reverse rest ≡ all
  dealt_one ps p left rest all sum one =
      ap (λ l. l ++ reverse rest) (inboxes_push ps p) ∙ append_assoc (inboxes_of ps) (row p) (reverse rest) ∙ ap (λ l. inboxes_of ps ++ l) (sym one) ∙ sum

  pub piled_one : (ps : List (Place S E)) (p : Place S E) → inboxes_of (ps ++ p ∷ []) ≡ (inboxes_of ps ++ p.control ∷ []) ++ p.datas.items
  piled_one ps p = inboxes_push ps p ∙ sym (append_assoc (inboxes_of ps) (p.control ∷ []) p.datas.items)

  -- where stands what is of a node
  stands_at : (w : ℕ) (ps : List (Place S E)) (last : List E) (k : ℕ) (p : Place S E) → AreWide w ps → slice_get ps k ≡ Some p
      → (j : ℕ) (e : E) → slice_get (row p) j ≡ Some e → slice_get (inboxes_of ps ++ last) (driver_of w k + j) ≡ Some e
  stands_at w [] last k p wide at j e there = absurd (cc)
  stands_at w (q ∷ ps) last zero p wide at j e there =
      let same : q ≡ p = cc in
      let number : driver_of w 0 + j ≡ j = omega arith in
      ap (slice_get (inboxes_of (q ∷ ps) ++ last)) number
      ∙ in_front (inboxes_of (q ∷ ps)) last j e (in_front (row q) (inboxes_of ps) j e (subst (λ (r : Place S E). slice_get (row r) j ≡ Some e) (sym same) there))
  stands_at w (q ∷ ps) last (suc k) p wide at j e there =
      let h = stands_at w ps last k p (λ i r here. wide (suc i) r here) at j e there in
      let long = wide 0 q refl in
      let more = one_row w k in
      let number : driver_of w (suc k) + j ≡ length (row q) + (driver_of w k + j) = omega arith in
      ap (slice_get (inboxes_of (q ∷ ps) ++ last)) number
      ∙ ap (λ l. slice_get l (length (row q) + (driver_of w k + j))) (append_assoc (row q) (inboxes_of ps) last)
      ∙ past (row q) (inboxes_of ps ++ last) (driver_of w k + j) ∙ h

  pub control_at : (w : ℕ) (ps : List (Place S E)) (last : List E) (k : ℕ) (p : Place S E) → AreWide w ps → slice_get ps k ≡ Some p → slice_get (inboxes_of ps ++ last) (control_of w (k + 1)) ≡ Some p.control
  control_at w ps last k p wide at = ap (slice_get (inboxes_of ps ++ last)) (control_number w k) ∙ stands_at w ps last k p wide at 0 p.control refl

  pub data_at : (w : ℕ) (ps : List (Place S E)) (last : List E) (k : ℕ) (p : Place S E) → AreWide w ps → slice_get ps k ≡ Some p
      → (worker : ℕ) (e : E) → slice_get p.datas.items worker ≡ Some e → slice_get (inboxes_of ps ++ last) (data_of w (k + 1) worker) ≡ Some e
  data_at w ps last k p wide at worker e there = ap (slice_get (inboxes_of ps ++ last)) (data_number w k worker) ∙ stands_at w ps last k p wide at (suc worker) e there

  pub driver_at : (w : ℕ) (ps : List (Place S E)) (driver : E) → AreWide w ps → slice_get (inboxes_of ps ++ driver ∷ []) (driver_of w (length ps)) ≡ Some driver
  driver_at w ps driver wide = ap (slice_get (inboxes_of ps ++ driver ∷ [])) (sym (inboxes_length w ps wide)) ∙ get_at (inboxes_of ps) driver []

  -- past the last node and the driver nothing is left
  pub none_over : (w : ℕ) (left rest : List E) (boards : List S) (driver : E) → length left ≡ driver_of w (length boards) + 1 → length boards ≡ 0 → left ≡ rest ++ driver ∷ [] → length rest ≡ 0
  none_over w left rest boards driver long none is =
      let a = ap length is ∙ length-append rest (driver ∷ []) in
      let b : driver_of w (length boards) ≡ 0 = ap (driver_of w) none ∙ mul-zero (w + 1) in
      omega arith
