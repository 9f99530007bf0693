-- The members of an object with those of another: the value at each key, and that they are still those of a source.
use Rattle.std.proofs.Common.{◌≡◌, ◌≤◌, ◌<◌, ◌+◌, ◌-◌, ℕ, length, drop, get_or, Result, Err, Bool, true, false, true≢false, List, [], ◌∷◌, ◌++◌, Option, Some, None, String, Global, string_bytes, is_some, refl, sym, ap, subst, ◌∙◌, arith, ⊎_elim}
use Rattle.std.specs.BTreeMap.{insert_entry}
use Rattle.std.specs.Cmp.Lexicographic.{slice_cmp}
use Rattle.std.specs.Option.{option_or, unwrap_or}
use Rattle.std.specs.Ordering.{is_eq, match_ordering, nat_cmp}
use Rattle.std.specs.declared.cmp.Ordering.{Ordering}
use Rattle.std.specs.declared.cmp.Ordering.TheVariants.{Less, Equal, Greater}
use Rattle.std.proofs.lemmas.Bool.{cases_Bool, or_parts, or_from}
use Rattle.std.proofs.lemmas.List.{drop_more}
use Rattle.std.proofs.lemmas.Map.Text.{is_eq-slice_cmp}
use Rattle.std.proofs.lemmas.Slice.Eq.{bytes_eq-Decides}
use Rattle.serde_json.specs.Data.{Data, null, boolean, number, string, array, object, Members, no_members, member, put, depth, members_depth}
use Rattle.serde_json.specs.Find.{as_object, get, get_member}
use Rattle.serde_json.specs.Read.{max_depth}
use Rattle.serde_json.specs.View.{view}
use Rattle.serde_json.specs.Written.{has_float, members_have_float}
use Rattle.serde_json.proofs.Views.{get_member-put, get_member-put_other}
use Rattle.task_ids.specs.Source.{IsSource, members_in}
use Rattle.task_ids.specs.declared.source.Member.{Member}
use Rattle.task_ids.specs.declared.source.NotSource.{NotSource}
use Rattle.task_ids.specs.declared.source.NotSource.TheVariants.{NotWhole, NotObject, Memory}
use Rattle.by_query.specs.Overlays.{with_members, members_of, overlay}

-- ---- the value at a key

found_here : (o : Ordering) (d : Data) (later rest : Option Data) → is_eq o ≡ true → option_or (match_ordering o later (Some d) later) rest ≡ Some d
found_here Less d later rest e = absurd cc
found_here Equal d later rest e = refl
found_here Greater d later rest e = absurd cc

found_later : (o : Ordering) (d : Data) (later : Option Data) → is_eq o ≡ false → match_ordering o later (Some d) later ≡ later
found_later Less d later e = refl
found_later Equal d later e = absurd cc
found_later Greater d later e = refl

pub get-with_members : (key : List ℕ) (set members : Members) → get_member key (with_members set members) ≡ option_or (get_member key set) (get_member key members)
get-with_members key no_members members = refl
get-with_members key (member k d set) members =
    ⊎_elim
    (λ same.
    let one : key ≡ k = (bytes_eq-Decides key k).0 (sym (is_eq-slice_cmp key k) ∙ same) in
    subst (λ (x : List ℕ). get_member x (put k d (with_members set members)) ≡ Some d) (sym one) (get_member-put k d (with_members set members))
    ∙ sym (found_here (slice_cmp nat_cmp key k) d (get_member key set) (get_member key members) same))
    (λ other.
    let apart = λ (one : key ≡ k). true≢false (sym (is_eq-slice_cmp key k ∙ (bytes_eq-Decides key k).1 one) ∙ other) in
    get_member-put_other key k d (with_members set members) apart ∙ get-with_members key set members
    ∙ ap (λ o. option_or o (get_member key members)) (sym (found_later (slice_cmp nat_cmp key k) d (get_member key set) other)))
    (cases_Bool (is_eq (slice_cmp nat_cmp key k)))

get-members_of : (key : List ℕ) (d : Data) → get_member key (members_of d) ≡ get key d
get-members_of key null = refl
get-members_of key (boolean b) = refl
get-members_of key (number n) = refl
get-members_of key (string s) = refl
get-members_of key (array ds) = refl
get-members_of key (object ms) = refl

or_none : (o : Option Data) → option_or o None ≡ o
or_none None = refl
or_none (Some d) = refl

pub get-overlay : (source set : Data) (key : List ℕ) → get key (overlay source set) ≡ option_or (get key set) (get key source)
get-overlay source set key =
    get-with_members key (members_of set) (with_members (members_of source) no_members)
    ∙ (λ i. option_or (get-members_of key set i) ((get-with_members key (members_of source) no_members ∙ or_none _ ∙ get-members_of key source) i))

-- ---- a source again

whole_of : (o : Ordering) (a b c : Members) → members_have_float a ≡ false → members_have_float b ≡ false → members_have_float c ≡ false → members_have_float (match_ordering o a b c) ≡ false
whole_of Less a b c f g h = f
whole_of Equal a b c f g h = g
whole_of Greater a b c f g h = h

whole_put : (k : List ℕ) (d : Data) (ms : Members) → has_float d ≡ false → members_have_float ms ≡ false → members_have_float (put k d ms) ≡ false
whole_put k d no_members f g = or_from (has_float d) false f refl
whole_put k d (member l e ms) f g =
    let parts = or_parts (has_float e) (members_have_float ms) g in
    whole_of (slice_cmp nat_cmp k l) (member k d (member l e ms)) (member l d ms) (member l e (put k d ms)) (or_from (has_float d) (members_have_float (member l e ms)) f g) (or_from (has_float d) (members_have_float ms) f parts.1)
    (or_from (has_float e) (members_have_float (put k d ms)) parts.0 (whole_put k d ms f parts.1))

whole_with : (set members : Members) → members_have_float set ≡ false → members_have_float members ≡ false → members_have_float (with_members set members) ≡ false
whole_with no_members members f g = g
whole_with (member k d set) members f g =
    let parts = or_parts (has_float d) (members_have_float set) f in
    whole_put k d (with_members set members) parts.0 (whole_with set members parts.1 g)

nests_of : (n : ℕ) (o : Ordering) (a b c : Members) → members_depth a ≤ n → members_depth b ≤ n → members_depth c ≤ n → members_depth (match_ordering o a b c) ≤ n
nests_of n Less a b c f g h = f
nests_of n Equal a b c f g h = g
nests_of n Greater a b c f g h = h

nests_put : (n : ℕ) (k : List ℕ) (d : Data) (ms : Members) → depth d ≤ n → members_depth ms ≤ n → members_depth (put k d ms) ≤ n
nests_put n k d no_members f g = omega arith
nests_put n k d (member l e ms) f g =
    let later = nests_put n k d ms f (omega arith) in
    nests_of n (slice_cmp nat_cmp k l) (member k d (member l e ms)) (member l d ms) (member l e (put k d ms)) (omega arith) (omega arith) (omega arith)

nests_with : (n : ℕ) (set members : Members) → members_depth set ≤ n → members_depth members ≤ n → members_depth (with_members set members) ≤ n
nests_with n no_members members f g = g
nests_with n (member k d set) members f g = nests_put n k d (with_members set members) (omega arith) (nests_with n set members (omega arith) g)

pub whole_overlay : (source set : Members) → IsSource (object source) → IsSource (object set) → has_float (object (with_members set (with_members source no_members))) ≡ false
whole_overlay source set s t = whole_with set (with_members source no_members) t.is_whole (whole_with source no_members s.is_whole refl)

pub nests_overlay : (source set : Members) → IsSource (object source) → IsSource (object set) → depth (object (with_members set (with_members source no_members))) ≤ max_depth
nests_overlay source set s t =
    let n = max_depth in
    let within = nests_with 126 set (with_members source no_members) (omega (arith, t.nests)) (nests_with 126 source no_members (omega (arith, s.nests)) (omega arith)) in
    omega arith

-- ---- members that are put one after the other

-- the one before those that are there
pub put_back : (ms : List Member) (n : ℕ) (m : Member) (start now : Members) → n < length ms → m ≡ get_or ms (length ms - 1 - n) m → now ≡ with_members (members_in (drop (length ms - n) ms)) start
    → put m.key (view m.value) now ≡ with_members (members_in (drop (length ms - (n + 1)) ms)) start
put_back ms n m start now within is so_far =
    let inside : length ms - 1 - n < length ms = omega (arith, within) in
    let next : length ms - 1 - n + 1 ≡ length ms - n = omega (arith, within) in
    let here : length ms - 1 - n ≡ length ms - (n + 1) = omega arith in
    let rest : drop (length ms - 1 - n) ms ≡ m ∷ drop (length ms - n) ms = drop_more ms (length ms - 1 - n) m inside ∙ (λ j. sym is j ∷ drop (next j) ms) in
    ap (put m.key (view m.value)) so_far ∙ ap (λ xs. with_members (members_in xs) start) (sym rest ∙ ap (λ k. drop k ms) here)

-- ---- why they are no source

-- memory is the only fault that is left
pub memory_left : {A : Type 0} (r : Result A NotSource) (fault : NotSource) → r ≡ Err fault → (r ≡ Err NotWhole → ⊥) → (r ≡ Err NotObject → ⊥) → fault ≡ Memory
memory_left r NotWhole is not_whole no_object = absurd (not_whole is)
memory_left r NotObject is not_whole no_object = absurd (no_object is)
memory_left r Memory is not_whole no_object = refl
