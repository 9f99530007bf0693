-- Of keys that stand one after the other, those after the last of the first so many are exactly the others.
use Rattle.std.proofs.Common.{◌≡◌, ℕ, zero, suc, Bool, true, false, List, [], ◌∷◌, ◌++◌, Option, Some, None, refl, ap, ◌∙◌}
use Rattle.std.specs.Prelude.{not, filter, take, drop}
use Rattle.std.specs.List.{AllByRecursion, last_or}
use Rattle.std.specs.Option.{option_or}
use Rattle.std.specs.declared.cmp.Ordering.{Ordering}
use Rattle.std.specs.declared.cmp.Ordering.TheVariants.{Less, Equal, Greater}
use Rattle.std.specs.Ordering.{ordering_reverse, is_lt, is_le}
use Rattle.task_events.specs.declared.request.HitKey.{HitKey}
use Rattle.task_events.specs.HitOrder.{hit_cmp, is_after}
use Rattle.search_phase.proofs.HitKeys.{hit_cmp_total, stands_first, hits_linear}

-- ---- the last of a list

pub last_or-append : {X : Type 0} (o : Option X) (xs ys : List X) → last_or o (xs ++ ys) ≡ last_or (last_or o xs) ys
last_or-append o [] ys = refl
last_or-append o (x ∷ xs) ys = last_or-append (Some x) xs ys

pub last_or_other : {X : Type 0} (o : Option X) (xs : List X) → option_or (last_or None xs) o ≡ last_or o xs
last_or_other o [] = refl
last_or_other {X} o (x ∷ xs) = some x xs
  where
    some : (x : X) (xs : List X) → option_or (last_or (Some x) xs) o ≡ last_or (Some x) xs
    some x [] = refl
    some x (y ∷ ys) = some y ys

pub all-take : {X : Type 0} (P : X → Type 0) (n : ℕ) (xs : List X) → AllByRecursion P xs → AllByRecursion P (take n xs)
all-take P zero xs all = tt
all-take P (suc n) [] all = tt
all-take P (suc n) (x ∷ xs) all = (all.0, all-take P n xs all.1)

pub all-weaker : {X : Type 0} (P Q : X → Type 0) → ((x : X) → P x → Q x) → (xs : List X) → AllByRecursion P xs → AllByRecursion Q xs
all-weaker P Q f [] all = tt
all-weaker P Q f (x ∷ xs) all = (f x all.0, all-weaker P Q f xs all.1)

-- ---- after a key

flips : (r : Ordering) → is_lt (ordering_reverse r) ≡ not (is_le r)
flips Less = refl
flips Equal = refl
flips Greater = refl

pub after_is : (a b : HitKey) → is_after (Some a) b ≡ not (stands_first b a)
after_is a b = ap is_lt (hit_cmp_total.antisymm a b) ∙ flips (hit_cmp b a)

-- the first does not stand after the second, which stands after it
abbrev pub IsBefore : HitKey → HitKey → Type 0
IsBefore a b = stands_first b a ≡ false

pub not_after : (a b : HitKey) → IsBefore a b → is_after (Some b) a ≡ false
not_after a b h = after_is b a ∙ ap not (hits_linear.turn b a h)

stands_itself : (a : HitKey) → is_after (Some a) a ≡ false
stands_itself a = of_test (stands_first a a) refl
  where
    of_test : (b : Bool) → stands_first a a ≡ b → is_after (Some a) a ≡ false
    of_test true e = after_is a a ∙ ap not e
    of_test false e = not_after a a e

-- each key stands before all that come later, and none ties with another
abbrev pub AreSpread : List HitKey → Type 0
AreSpread [] = Unit {0}
AreSpread (key ∷ keys) = AllByRecursion (IsBefore key) keys × AreSpread keys

-- ---- the cut

all_after : (key : HitKey) (keys : List HitKey) → AllByRecursion (IsBefore key) keys → filter (is_after (Some key)) keys ≡ keys
all_after key [] all = refl
all_after key (next ∷ later) all = let yes : is_after (Some key) next ≡ true = after_is key next ∙ ap not all.0 in rw yes (ap (λ l. next ∷ l) (all_after key later all.1))

filter_true : (keys : List HitKey) → filter (is_after None) keys ≡ keys
filter_true [] = refl
filter_true (key ∷ keys) = ap (λ l. key ∷ l) (filter_true keys)

-- nothing that was passed comes again
passed : (key cursor : HitKey) (keys : List HitKey) → is_after (Some cursor) key ≡ false → AllByRecursion (IsBefore key) keys → is_after (last_or (Some cursor) keys) key ≡ false
passed key cursor [] h all = h
passed key cursor (next ∷ later) h all = passed key next later (not_after key next all.0) all.1

cut_after : (n : ℕ) (cursor : HitKey) (keys : List HitKey) → AllByRecursion (IsBefore cursor) keys → AreSpread keys → filter (is_after (last_or (Some cursor) (take n keys))) keys ≡ drop n keys
cut_after zero cursor keys all spread = all_after cursor keys all
cut_after (suc n) cursor [] all spread = refl
cut_after (suc n) cursor (key ∷ keys) all spread =
    let out : is_after (last_or (Some key) (take n keys)) key ≡ false = passed key key (take n keys) (stands_itself key) (all-take (IsBefore key) n keys spread.0) in
    rw out (cut_after n key keys spread.0 spread.1)

-- after the last of the first so many keys stand exactly the others
pub cut_at_cursor : (n : ℕ) (keys : List HitKey) → AreSpread keys → filter (is_after (last_or None (take n keys))) keys ≡ drop n keys
cut_at_cursor zero keys spread = filter_true keys
cut_at_cursor (suc n) [] spread = refl
cut_at_cursor (suc n) (key ∷ keys) spread =
    let out : is_after (last_or (Some key) (take n keys)) key ≡ false = passed key key (take n keys) (stands_itself key) (all-take (IsBefore key) n keys spread.0) in
    rw out (cut_after n key keys spread.0 spread.1)
