-- The next child of an open listing, and the ban that is listed.
use Rattle.std.proofs.Common.{◌≡◌, ◌≤◌, ◌<◌, ℕ, ◌-◌, true, false, cond, length, get_or, List, [], ◌∷◌, Option, Some, None, refl, sym, ap, subst, ◌∙◌, arith}
use Rattle.std.specs.Prelude.{◌||◌, All, Any, IfNone, is_some, slice_get, option_and_then}
use Rattle.std.proofs.Math.Bool.{or-true}
use Rattle.std.proofs.lemmas.Bool.{eq-eqb}
use Rattle.std.proofs.lemmas.Option.{slice_get_within}
use Rattle.task_ids.specs.declared.task_id.TaskId.{TaskId}
use Rattle.task_ids.specs.declared.task_info.TaskInfo.{TaskInfo}
use Rattle.task_ids.specs.declared.cluster.Cluster.{Cluster}
use Rattle.task_ids.specs.Limits.{IsNumber}
use Rattle.task_table.specs.Rows.{IsUnmarkedChild}
use Rattle.task_table.specs.Table.{Table}
use Rattle.task_events.specs.declared.event.Event.{Event}
use Rattle.task_events.specs.Tasks.{is_live, parent_of}
use Rattle.task_events.specs.declared.event.Event.TheVariants.{Cancel, Mark}
use Rattle.task_events.specs.Bans.{mark_of, banned_nodes, standing_ban, listing_is_open, open_ban_over}
use Rattle.task_events.specs.Cancels.{is_named}
use Rattle.task_events.specs.Allowed.{HasAllMarked, is_number}
use Rattle.task_events.specs.Lawful.{AwaitsNoMark, MarksTheNamed, Lawful}
use Rattle.task_events.specs.Laws.{is_banned}
use Rattle.task_laws.proofs.Bans.{ban_facts, placed_acked}
use Rattle.task_laws.proofs.Numbers.{in_list}
use Rattle.task_laws.proofs.Same.{same_fields}
use Rattle.node_parts.specs.declared.listing.Listing.{Listing}
use Rattle.world_moves.specs.Listings.{IsNextChild, is_open}
use Rattle.world_moves.specs.Cancelling.{HasRows, IsRowOf}
use Rattle.world_moves.specs.Ties.{IsTableAt, IsTableOf}
use Rattle.world_moves.proofs.BansInFlight.{banned_in}
use Rattle.world_moves.proofs.LiveRows.{read_at, rows_live, row_of_task}
use Rattle.world_moves.proofs.Tables.{table_of}

-- ---- an open listing is one of a ban that stands on a node of the cluster

module _ (cluster : Cluster) (h : List Event) (n : ℕ) (p : TaskId) (l : Lawful cluster h) (opened : listing_is_open n p h ≡ true) where
  open_banned : is_banned n p h ≡ true
  open_banned =
      let facts = ban_facts cluster h l in
      let course = facts.course n p in
      let once = facts.once n p in
      let counted = in_list n (banned_nodes p h) once in
      grind (arith, course, counted)

  pub open_in : (1 ≤ n) × (n ≤ cluster.nodes)
  open_in = banned_in cluster p n h l open_banned

  pub open_stands : standing_ban n p h ≡ None → ⊥
  open_stands none =
      let facts = ban_facts cluster h l in
      let no_ban : is_some (standing_ban n p h) ≡ false = ap is_some none in
      grind (arith, facts.course n p, facts.once n p, facts.stay n p, facts.going n p, placed_acked n p h)

-- ---- the rows

-- what holds of all rows holds of this one
at_row : (P : TaskInfo → Type 0) (rows : List TaskInfo) (k : ℕ) (row : TaskInfo) → All P rows → k < length rows → get_or rows k row ≡ row → P row
at_row P rows k row all within here = subst P here (all k row within)

module _ (cluster : Cluster) (h : List Event) (listing : Listing) (l : Lawful cluster h) (table : Table) (i : IsTableOf cluster listing.node h table) (known : HasRows h (Some table)) where
  abbrev IsChildRow : ℕ → TaskInfo → Type 0
  IsChildRow number row = IsUnmarkedChild listing.parent row × (row.id.number ≡ number)

  abbrev IsFirst : ℕ → Type 0
  IsFirst number = All (λ row. IsUnmarkedChild listing.parent row → number ≤ row.id.number) table.live

  child_row : (u : TaskId) (row : TaskInfo) → row.id ≡ u → IsRowOf h row → parent_of u h ≡ Some listing.parent → mark_of u h ≡ None → IsUnmarkedChild listing.parent row
  child_row u row same told parent unmarked = (told.0 ∙ ap (λ x. parent_of x h) same ∙ parent, told.1 ∙ ap (λ x. mark_of x h) same ∙ unmarked)

  pub child_found : (number : ℕ) → Any (IsChildRow number) table.live → IsFirst number → (t : TaskId) → t.node ≡ listing.node → t.number ≡ number → IsNextChild listing t h
  child_found number found first t node is_number = record {
    child = ap (λ u. parent_of u h) (sym same) ∙ sym told.0 ∙ found.4.0.0;
    there = node;
    live = ap (λ u. is_live u h) (sym same) ∙ lives.1;
    unmarked = ap (λ u. mark_of u h) (sym same) ∙ sym told.1 ∙ found.4.0.1;
    lowest = λ u parent there live none.
        let row = row_of_task cluster listing.node h table l i u (there ∙ node) live in
        let its = at_row (IsRowOf h) table.live row.0 row.1 known row.2 row.3 in
        let child = child_row u row.1 row.4 its (parent ∙ ap (λ x. parent_of x h) (sym same) ∙ sym told.0 ∙ found.4.0.0) none in
        let low = at_row (λ row. IsUnmarkedChild listing.parent row → number ≤ row.id.number) table.live row.0 row.1 first row.2 row.3 child in
        let number_of = ap (λ (x : TaskId). x.number) row.4 in
        omega (arith, low, number_of, is_number);
  }
    where
      lives : (found.1.id.node ≡ listing.node) × (is_live found.1.id h ≡ true)
      lives = at_row (λ row. (row.id.node ≡ listing.node) × (is_live row.id h ≡ true)) table.live found.0 found.1 (rows_live cluster listing.node h table l i) found.2 found.3

      told : IsRowOf h found.1
      told = at_row (IsRowOf h) table.live found.0 found.1 known found.2 found.3

      same : found.1.id ≡ t
      same = same_fields found.1.id t (lives.0 ∙ sym node) (found.4.1 ∙ sym is_number)

  -- its number is one that a task has
  pub child_number : (number : ℕ) → Any (IsChildRow number) table.live → IsNumber number
  child_number number found = subst IsNumber found.4.1 found.1.id.number_in_range

  -- where no row is one of a child without a mark, all are marked
  pub none_left : All (λ row. IsUnmarkedChild listing.parent row → ⊥) table.live → HasAllMarked listing.node listing.parent h
  none_left none = λ t parent node live unmarked.
      let row = row_of_task cluster listing.node h table l i t node live in
      let told = at_row (IsRowOf h) table.live row.0 row.1 known row.2 row.3 in
      at_row (λ row. IsUnmarkedChild listing.parent row → ⊥) table.live row.0 row.1 none row.2 row.3 (child_row t row.1 row.4 told parent unmarked)

-- the table of a node, however it is read, and its rows
pub table_read : (cluster : Cluster) (h : List Event) (tables : List Table) (n : ℕ) (table : Table) → ((place : ℕ) → IsTableAt cluster place h (slice_get tables place)) → ((place : ℕ) → HasRows h (slice_get tables place))
    → 1 ≤ n → n ≤ cluster.nodes → table ≡ get_or tables (n - 1) table → IsTableOf cluster n h table × HasRows h (Some table)
table_read cluster h tables n table listed known low high e =
    let its = table_of cluster h tables listed n low high in
    let here = read_at tables (n - 1) table (slice_get_within tables (n - 1) its.0 its.1) e in
    let some : Some its.0 ≡ Some table = sym its.1 ∙ here in
    let same : its.0 ≡ table = cc in
    (subst (IsTableOf cluster n h) same its.2, subst (HasRows h) here (known (n - 1)))

pub on_none : {X : Type 0} (o : Option X) (P : Type 0) → P → IfNone o P
on_none None P p = p
on_none (Some x) P p = tt

-- ---- its mark is allowed

marks_named : (t : TaskId) (c : ℕ) (h : List Event) → AwaitsNoMark h → MarksTheNamed t c h
marks_named t c (Cancel d u wait ∷ h) a = λ none. absurd (a none)
marks_named t c [] a = tt
marks_named t c (_ ∷ h) a = tt

pub listed_mark : (cluster : Cluster) (h : List Event) (listing : Listing) (t : TaskId) (c : ℕ) → Lawful cluster h → AwaitsNoMark h → is_open listing h ≡ true → IsNextChild listing t h → standing_ban listing.node listing.parent h ≡ Some c
    → Lawful cluster (Mark t c ∷ h)
listed_mark cluster h listing t c l awaits opened child stands = (
  record { live = child.live; unmarked = child.unmarked; cause = ap (λ b. is_named c t h || b) (ap (is_number c) ban ∙ eq-eqb c c refl) ∙ or-true (is_named c t h); lowest = λ e. child.lowest },
  l,
  marks_named t c h awaits,
)
  where
    over : Option TaskId → ℕ → Option ℕ
    over o n = option_and_then (λ p. cond (listing_is_open n p h) (standing_ban n p h) None) o

    ban : open_ban_over t h ≡ Some c
    ban = ap (λ o. over o t.node) child.child ∙ ap (over (Some listing.parent)) child.there ∙ ap (λ b. cond b (standing_ban listing.node listing.parent h) None) opened ∙ stands
