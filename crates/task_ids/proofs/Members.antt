-- The members of a source: those of the object that it was, and each key once.
use Rattle.std.proofs.Common.{◌≡◌, ℕ, Bool, true, false, ⊎_elim, true≢false, cond, List, [], ◌∷◌, ◌++◌, ◌+◌, ◌<◌, drop, get_or, length, map, Option, Some, String, string_bytes, Global, refl, sym, ap, subst, ◌∙◌}
use Rattle.std.specs.Bool.{nat_eq}
use Rattle.std.specs.List.{AllByRecursion}
use Rattle.std.specs.List.Sorted.{IsStrictlySortedBy}
use Rattle.std.specs.Map.{keys_of}
use Rattle.std.specs.Option.{option_to_list}
use Rattle.std.specs.Ordering.{is_eq, match_ordering, nat_cmp}
use Rattle.std.specs.Cmp.Lexicographic.{pointwise, slice_cmp}
use Rattle.std.specs.declared.cmp.Ordering.{Ordering}
use Rattle.std.specs.declared.cmp.Ordering.TheVariants.{Less, Equal, Greater}
use Rattle.std.proofs.lemmas.Bool.{cases_Bool}
use Rattle.std.proofs.lemmas.List.{drop_more}
use Rattle.std.proofs.lemmas.Map.Keys.{sorted_head, sorted_tail}
use Rattle.std.proofs.lemmas.Map.Text.{is_eq-slice_cmp}
use Rattle.std.proofs.lemmas.Slice.Eq.{bytes_eq-Decides}
use Rattle.serde_json.specs.declared.value.Value.{Value}
use Rattle.serde_json.specs.Data.{Data, Members, no_members, member}
use Rattle.serde_json.specs.Find.{get_member}
use Rattle.serde_json.specs.View.{view, members_view}
use Rattle.task_ids.specs.declared.source.Member.{Member}
use Rattle.task_ids.specs.Source.{members_in, values_among, AreOrdered}

-- ---- the members of an object, moved

abbrev pub seen : Member → List ℕ × Value
seen m = (m.key, m.value)

abbrev pub entry : String Global × Value → List ℕ × Value
entry e = (string_bytes e.0, e.1)

joined : List (List ℕ × Value) → Members
joined [] = no_members
joined (p ∷ ps) = member p.0 (view p.1) (joined ps)

of_members : (ms : List Member) → members_in ms ≡ joined (map seen ms)
unfolding joined
of_members [] = refl
of_members (m ∷ ms) = ap (member m.key (view m.value)) (of_members ms)

of_entries : (es : List (String Global × Value)) → members_view es ≡ joined (map entry es)
unfolding joined
of_entries [] = refl
of_entries (e ∷ es) = ap (member (string_bytes e.0) (view e.1)) (of_entries es)

pub same_members : (ms : List Member) (es : List (String Global × Value)) → map seen ms ≡ map entry es → members_in ms ≡ members_view es
same_members ms es h = of_members ms ∙ ap joined h ∙ sym (of_entries es)

-- ---- their keys are in order

abbrev name_of : List ℕ × Value → List ℕ
name_of p = p.0

keys_seen : (ms : List Member) → map name_of (map seen ms) ≡ map (λ m. m.key) ms
keys_seen [] = refl
keys_seen (m ∷ ms) = ap (λ ks. m.key ∷ ks) (keys_seen ms)

keys_there : (es : List (String Global × Value)) → map name_of (map entry es) ≡ map string_bytes (keys_of es)
keys_there [] = refl
keys_there (e ∷ es) = ap (λ ks. string_bytes e.0 ∷ ks) (keys_there es)

below : (k : List ℕ) (ks : List (String Global)) → AllByRecursion (λ y. slice_cmp nat_cmp k (string_bytes y) ≡ Less) ks → AllByRecursion (λ y. slice_cmp nat_cmp k y ≡ Less) (map string_bytes ks)
below k [] h = tt
below k (y ∷ ks) h = (h.0, below k ks h.1)

ordered_bytes : (ks : List (String Global)) → IsStrictlySortedBy (λ x y. slice_cmp nat_cmp (string_bytes x) (string_bytes y)) ks → IsStrictlySortedBy (slice_cmp nat_cmp) (map string_bytes ks)
unfolding IsStrictlySortedBy
ordered_bytes [] s = tt
ordered_bytes (k ∷ ks) s = (below (string_bytes k) ks s.0, ordered_bytes ks s.1)

pub still_ordered : (ms : List Member) (es : List (String Global × Value)) → map seen ms ≡ map entry es → IsStrictlySortedBy (λ x y. slice_cmp nat_cmp (string_bytes x) (string_bytes y)) (keys_of es) → AreOrdered ms
still_ordered ms es h s = subst (IsStrictlySortedBy (slice_cmp nat_cmp)) (sym (keys_there es) ∙ sym (ap (map name_of) h) ∙ keys_seen ms) (ordered_bytes (keys_of es) s)

-- ---- each key once

none_later : (k : List ℕ) (ms : List Member) → AllByRecursion (λ y. slice_cmp nat_cmp k y ≡ Less) (map (λ m. m.key) ms) → values_among k (members_in ms) ≡ []
none_later k [] h = refl
none_later k (m ∷ ms) h = rw h.0 (none_later k ms h.1)

one_more : (o : Ordering) (d : Data) (later : List Data) (found : Option Data) → later ≡ option_to_list found → (is_eq o ≡ true → later ≡ [])
    → cond (is_eq o) (d ∷ []) [] ++ later ≡ option_to_list (match_ordering o found (Some d) found)
one_more Less d later found h apart = h
one_more Equal d later found h apart = ap (λ l. d ∷ l) (apart refl)
one_more Greater d later found h apart = h

pub once : (k : List ℕ) (ms : List Member) → AreOrdered ms → values_among k (members_in ms) ≡ option_to_list (get_member k (members_in ms))
once k [] s = refl
once k (m ∷ ms) s = one_more (slice_cmp nat_cmp k m.key) (view m.value) _ _ (once k ms (sorted_tail _ m.key (map (λ n. n.key) ms) s))
    (λ e. none_later k ms (subst (λ (n : List ℕ). AllByRecursion (λ y. slice_cmp nat_cmp n y ≡ Less) (map (λ n. n.key) ms)) (sym ((bytes_eq-Decides k m.key).0 (sym (is_eq-slice_cmp k m.key) ∙ e))) (sorted_head _ m.key (map (λ n. n.key) ms) s)))

-- what lies at the key of a member is its value alone

own_key : (k : List ℕ) → is_eq (slice_cmp nat_cmp k k) ≡ true
own_key k = is_eq-slice_cmp k k ∙ (bytes_eq-Decides k k).1 refl

key_below : (k l : List ℕ) → slice_cmp nat_cmp k l ≡ Less → is_eq (slice_cmp nat_cmp l k) ≡ false
key_below k l less =
    ⊎_elim
    (λ same.
    let one : l ≡ k = (bytes_eq-Decides l k).0 (sym (is_eq-slice_cmp l k) ∙ same) in
    absurd (true≢false (sym (own_key k) ∙ ap is_eq (subst (λ (x : List ℕ). slice_cmp nat_cmp k x ≡ Less) one less))))
    (λ apart. apart)
    (cases_Bool (is_eq (slice_cmp nat_cmp l k)))

abbrev IsAlone : List Member → Member → Type 0
IsAlone ms m = values_among m.key (members_in ms) ≡ view m.value ∷ []

behind_one : (m : Member) (ms later : List Member) → AllByRecursion (λ y. slice_cmp nat_cmp m.key y ≡ Less) (map (λ n. n.key) later) → AllByRecursion (IsAlone ms) later → AllByRecursion (IsAlone (m ∷ ms)) later
behind_one m ms [] low all = tt
behind_one m ms (n ∷ later) low all =
    (ap (λ b. cond b (view m.value ∷ []) [] ++ values_among n.key (members_in ms)) (key_below m.key n.key low.0) ∙ all.0, behind_one m ms later low.1 all.1)

pub each_alone : (ms : List Member) → AreOrdered ms → AllByRecursion (IsAlone ms) ms
each_alone [] s = tt
each_alone (m ∷ ms) s =
    let low = sorted_head _ m.key (map (λ n. n.key) ms) s in (
      ap (λ b. cond b (view m.value ∷ []) [] ++ values_among m.key (members_in ms)) (own_key m.key) ∙ ap (λ l. view m.value ∷ l) (none_later m.key ms low),
      behind_one m ms ms low (each_alone ms (sorted_tail _ m.key (map (λ n. n.key) ms) s)),
    )

-- ---- one look

cased : (o : Ordering) (b : Bool) (d : Data) (found : Option Data) → is_eq o ≡ b → match_ordering o found (Some d) found ≡ cond b (Some d) found
cased Less b d found h = ap (λ c. cond c (Some d) found) h
cased Equal b d found h = ap (λ c. cond c (Some d) found) h
cased Greater b d found h = ap (λ c. cond c (Some d) found) h

pub look : (k l : List ℕ) (d : Data) (ms : Members) (b : Bool) → pointwise nat_eq k l ≡ b → get_member k (member l d ms) ≡ cond b (Some d) (get_member k ms)
look k l d ms b h = cased (slice_cmp nat_cmp k l) b d (get_member k ms) (is_eq-slice_cmp k l ∙ h)

pub one_look : (k : List ℕ) (ms : List Member) (i : ℕ) (m : Member) (b : Bool) → i < length ms → m ≡ get_or ms i m → b ≡ pointwise nat_eq k m.key
    → get_member k (members_in (drop i ms)) ≡ cond b (Some (view m.value)) (get_member k (members_in (drop (i + 1) ms)))
one_look k ms i m b l is same =
    ap (λ xs. get_member k (members_in xs)) (drop_more ms i m l ∙ ap (λ x. x ∷ drop (i + 1) ms) (sym is))
    ∙ look k m.key (view m.value) (members_in (drop (i + 1) ms)) b (sym same)
