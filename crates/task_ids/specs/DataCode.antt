-- How the logic stores a JSON value: as a tree of numbers, in which no two values are alike.
use Rattle.std.specs.Prelude.{◌≡◌, ℕ, refl}
use Rattle.std.specs.Coded.{Coded, coded_ℕ, coded_bool, coded_ℤ, coded_list}
use base.Stored.{Gv, gnil, gnum, gcons, coded_float}
use mathlib.Core.Path.{ap}
use Rattle.serde_json.specs.Data.{Num, unsigned, negative, float, Data, null, boolean, number, string, array, object, Items, no_items, item, Members, no_members, member}

abbrev head : Gv → Gv
head gnil = gnil
head (gnum n) = gnil
head (gcons a b) = a

abbrev tail : Gv → Gv
tail gnil = gnil
tail (gnum n) = gnil
tail (gcons a b) = b

-- the text of a key, a bool or a number, behind the kind of value that it is
abbrev tagged : ℕ → Gv → Gv
tagged kind content = gcons (gnum kind) content

abbrev num_code : Num → Gv
num_code (unsigned n) = tagged 0 (coded_ℕ.code n)
num_code (negative z) = tagged 1 (coded_ℤ.code z)
num_code (float x) = tagged 2 (coded_float.code x)

num_one : (x y : Num) → num_code x ≡ num_code y → x ≡ y
num_one (unsigned m) (unsigned n) e = ap unsigned (coded_ℕ.inj m n (ap tail e))
num_one (negative m) (negative n) e = ap negative (coded_ℤ.inj m n (ap tail e))
num_one (float m) (float n) e = ap float (coded_float.inj m n (ap tail e))
num_one _ _ e = cc

abbrev mutual
  pub data_code : Data → Gv
  data_code null = tagged 0 gnil
  data_code (boolean b) = tagged 1 (coded_bool.code b)
  data_code (number n) = tagged 2 (num_code n)
  data_code (string s) = tagged 3 ((coded_list coded_ℕ).code s)
  data_code (array ds) = tagged 4 (items_code ds)
  data_code (object ms) = tagged 5 (members_code ms)

  pub items_code : Items → Gv
  items_code no_items = gnil
  items_code (item d ds) = gcons (data_code d) (items_code ds)

  pub members_code : Members → Gv
  members_code no_members = gnil
  members_code (member k d ms) = gcons ((coded_list coded_ℕ).code k) (gcons (data_code d) (members_code ms))

mutual
  pub data_one : (x y : Data) → data_code x ≡ data_code y → x ≡ y
  data_one null null e = refl
  data_one (boolean a) (boolean b) e = ap boolean (coded_bool.inj a b (ap tail e))
  data_one (number m) (number n) e = ap number (num_one m n (ap tail e))
  data_one (string s) (string t) e = ap string ((coded_list coded_ℕ).inj s t (ap tail e))
  data_one (array ds) (array es) e = ap array (items_one ds es (ap tail e))
  data_one (object ms) (object ns) e = ap object (members_one ms ns (ap tail e))
  data_one _ _ e = cc

  pub items_one : (x y : Items) → items_code x ≡ items_code y → x ≡ y
  items_one no_items no_items e = refl
  items_one (item d ds) (item f es) e = λ i. item (data_one d f (ap head e) i) (items_one ds es (ap tail e) i)
  items_one _ _ e = cc

  pub members_one : (x y : Members) → members_code x ≡ members_code y → x ≡ y
  members_one no_members no_members e = refl
  members_one (member k d ms) (member l f ns) e = λ i.
      member ((coded_list coded_ℕ).inj k l (ap head e) i) (data_one d f (ap (λ g. head (tail g)) e) i) (members_one ms ns (ap (λ g. tail (tail g)) e) i)
  members_one _ _ e = cc

abbrev pub coded_data : Coded Data
coded_data = record { code = data_code; inj = data_one }
