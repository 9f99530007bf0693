-- A value in a value that has no float has none.
use Rattle.std.proofs.Common.{◌≡◌, ℕ, List, false, Option, Some, Ordering, Less, Equal, Greater, nat_cmp}
use Rattle.std.proofs.lemmas.Bool.{or_parts}
use Rattle.std.specs.Cmp.Lexicographic.{slice_cmp}
use Rattle.std.specs.Ordering.{match_ordering}
use Rattle.serde_json.specs.Data.{Data, null, boolean, number, string, array, object, Members, no_members, member}
use Rattle.serde_json.specs.Find.{get, get_member}
use Rattle.serde_json.specs.Written.{has_float, members_have_float}

member_whole : (key : List ℕ) (ms : Members) (found : Data) → members_have_float ms ≡ false → get_member key ms ≡ Some found → has_float found ≡ false
member_whole key no_members found whole e = cc
member_whole key (member k d ms) found whole e =
    let parts = or_parts (has_float d) (members_have_float ms) whole in
    either (slice_cmp nat_cmp key k) (get_member key ms) e parts.0 (member_whole key ms found parts.1)
  where
    either : (o : Ordering) (rest : Option Data) → match_ordering o rest (Some d) rest ≡ Some found → has_float d ≡ false → (rest ≡ Some found → has_float found ≡ false) → has_float found ≡ false
    either Less rest is whole_here later = later is
    either Equal rest is whole_here later = let same : d ≡ found = cc in cc (whole_here, same)
    either Greater rest is whole_here later = later is

pub found_whole : (key : List ℕ) (d found : Data) → has_float d ≡ false → get key d ≡ Some found → has_float found ≡ false
found_whole key null found whole e = cc
found_whole key (boolean b) found whole e = cc
found_whole key (number n) found whole e = cc
found_whole key (string s) found whole e = cc
found_whole key (array ds) found whole e = cc
found_whole key (object ms) found whole e = member_whole key ms found whole e
