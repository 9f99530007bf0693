-- Where nothing has happened, empty tables fit.
use Rattle.std.proofs.Common.{◌≡◌, ◌≤◌, ℕ, ◌+◌, ◌-◌, zero, suc, false, length, List, [], map, Option, Some, None, refl, sym, ap, ◌∙◌, subst, arith}
use Rattle.std.specs.Prelude.{slice_get, option_and_then}
use Rattle.std.specs.List.{range_with_len}
use Rattle.std.specs.BTreeSet.{BTreeSet, contains}
use Rattle.std.specs.FinMap.{FinMap, empty, get, get-empty}
use Rattle.task_events.specs.declared.context.Context.{Context}
use Rattle.world_moves.specs.Reads.{ReadsFrom}
use Rattle.world_moves.specs.Paging.{Paging, context_in}
use Rattle.std.proofs.lemmas.List.FromFn.{length-map-range_with_len}
use Rattle.std.proofs.lemmas.List.Elements.{All-nil}
use Rattle.task_ids.specs.TaskIdOrder.{task_id_cmp}
use Rattle.cancel_core.specs.Cancellations.{Cancellations, no_cancellations}
use Rattle.task_ids.specs.declared.task_id.TaskId.{TaskId}
use Rattle.task_ids.specs.declared.cluster.Cluster.{Cluster}
use Rattle.task_ids.specs.declared.corpus.Corpus.{Corpus}
use Rattle.task_table.specs.Table.{Table, new_table}
use Rattle.script_lang.specs.declared.command.Script.{Script}
use Rattle.node_parts.specs.declared.running.Running.{Running}
use Rattle.world_moves.specs.Ties.{Ties, IsTableAt}
use Rattle.node_parts.specs.declared.listing.Listing.{Listing}
use Rattle.world_moves.specs.Cancels.{waiting_for}
use Rattle.world_moves.specs.Cancelling.{Cancelling, IsEntryOf, IsRowOf, HasRows, HasBansAt, HasCoreAt, HasListingsAt}
use Rattle.world_moves.specs.Describing.{Describing, DescribesAll, IsDescribed}
use Rattle.world_moves.specs.Left.{HasLeft}
use Rattle.world_moves.specs.Owning.{Owning}
use Rattle.command_roots.specs.Roots.{scripted}
use Rattle.world_moves.specs.Listings.{listing_cmp}
use Rattle.world_steps.specs.World.{tables_from, cores_from, no_bans, no_contexts}

-- the table of a place among those of the nodes from one on
table_at : (cluster : Cluster) (from many place : ℕ) → from + many ≡ cluster.nodes → IsTableAt cluster (from + place) [] (slice_get (tables_from from many cluster.slots) place)
table_at cluster from zero place e = omega (arith, e)
table_at cluster from (suc many) zero e = record { node_is = omega arith; slots_are = refl; last_is = refl; lists = refl }
table_at cluster from (suc many) (suc place) e = subst (λ p. IsTableAt cluster p [] (slice_get (tables_from (from + 1) many cluster.slots) place)) (omega arith) (table_at cluster (from + 1) many place (omega (arith, e)))

from_zero : (n : ℕ) → 0 + n ≡ n
from_zero n = omega arith

pub nothing_yet : (cluster : Cluster) (corpus : Corpus) (script : Script) (tasks : TaskId → Option Running) (tables : List Table) → ((t : TaskId) → tasks t ≡ None) → tables ≡ tables_from 0 cluster.nodes cluster.slots
    → Ties cluster corpus script [] tasks tables []
nothing_yet cluster corpus script tasks tables none are = record {
  lawful = tt;
  kept = λ t. rw (none t) refl;
  listed = λ place. subst (λ ts. IsTableAt cluster place [] (slice_get ts place)) (sym are) (subst (λ p. IsTableAt cluster p [] (slice_get (tables_from 0 cluster.nodes cluster.slots) place)) (from_zero place) (table_at cluster 0 cluster.nodes place (from_zero cluster.nodes)));
  sent = refl;
  good = tt;
  within = λ p k r asked. absurd (cc);
  plain = tt;
}

-- ---- bans and cancellations

-- what is said of each place of a list that has something for each node
at_each : {X : Type 0} (P : ℕ → Option X → Type 0) (f : ℕ → X) (from many place : ℕ) → ((p : ℕ) → P p (Some (f p))) → ((p : ℕ) → from + many ≤ p → P p None) → P (from + place) (slice_get (map f (range_with_len from many)) place)
at_each P f from zero place some none = none (from + place) (omega arith)
at_each P f from (suc many) zero some none = let same : from ≡ from + zero = omega arith in subst (λ p. P p (Some (f from))) same (some from)
at_each P f from (suc many) (suc place) some none =
    let same : from + 1 + place ≡ from + suc place = omega arith in
    subst (λ p. P p (slice_get (map f (range_with_len (from + 1) many)) place)) same (at_each P f (from + 1) many place some (λ p l. none p (omega (arith, l))))

module _ (cluster : Cluster) where
  each_node : {X : Type 0} (P : ℕ → Option X → Type 0) (f : ℕ → X) (xs : List X) → xs ≡ map f (range_with_len 0 cluster.nodes) → ((p : ℕ) → P p (Some (f p))) → ((p : ℕ) → cluster.nodes ≤ p → P p None) → (place : ℕ) → P place (slice_get xs place)
  each_node P f xs same some none place =
      let start : 0 + place ≡ place = omega arith in
      subst (λ ys. P place (slice_get ys place)) (sym same) (subst (λ p. P p (slice_get (map f (range_with_len 0 cluster.nodes)) place)) start (at_each P f 0 cluster.nodes place some (λ p l. none p (omega (arith, l)))))

  pub nothing_cancelled : (tables : List Table) (roots : ℕ → Option TaskId) (bans : List (FinMap task_id_cmp ℕ)) (cores : List Cancellations) (listings : BTreeSet Listing)
      → tables ≡ tables_from 0 cluster.nodes cluster.slots → ((k : ℕ) → roots k ≡ None) → bans ≡ no_bans cluster.nodes → cores ≡ cores_from 0 cluster.nodes → ((l : Listing) → contains listing_cmp listings l ≡ false)
      → Cancelling cluster (λ t. waiting_for t []) [] tables roots bans cores listings
  nothing_cancelled tables roots bans cores listings tables_are roots_none bans_are cores_are none = record {
    rows_are = each_node (λ p o. HasRows [] o) (λ p. new_table (p + 1) cluster.slots) tables tables_are (λ p. All-nil (IsRowOf [])) (λ p l. tt);
    roots_are = roots_none;
    bans_are = each_node (λ p o. HasBansAt cluster p [] o) (λ p. empty) bans bans_are (λ p q. get-empty task_id_cmp q) (λ p l. l);
    cores_are = each_node (λ p o. HasCoreAt cluster (λ t. waiting_for t []) p [] o) (λ p. no_cancellations (p + 1)) cores cores_are (λ p t at. subst (IsEntryOf (waiting_for t []) t []) (sym (get-empty task_id_cmp t)) (refl, refl)) (λ p l. l);
    waits_are = each_node (λ p o. HasListingsAt p [] o) (λ p. no_cancellations (p + 1)) cores cores_are (λ p. record { waits = λ t on. get-empty task_id_cmp t; numbers = λ q. get-empty task_id_cmp q }) (λ p l. tt);
    listings_are = none;
  }

-- ---- counts and rows

pub nothing_counted : (left : ℕ → ℕ) → ((c : ℕ) → left c ≡ 0) → HasLeft None [] left
nothing_counted left none = record { counts = none; answered = λ c t n. absurd (cc) }

pub nothing_told : (cluster : Cluster) (script : Script) (tables : List Table) → tables ≡ tables_from 0 cluster.nodes cluster.slots → Describing script [] tables [] 0
nothing_told cluster script tables are = record {
  rows_are = each_node cluster (λ p o. DescribesAll script [] o) (λ p. new_table (p + 1) cluster.slots) tables are (λ p. All-nil (IsDescribed script [])) (λ p l. tt);
  carried = tt;
  clock_is = refl;
  clock_low = λ low. omega arith;
  clock_high = omega arith;
  clock_fits = omega arith;
  few_begun = omega arith;
}

-- ---- contexts

none_in : (cluster : Cluster) (tables : List (FinMap task_id_cmp Context)) → tables ≡ no_contexts cluster.nodes → (id : TaskId) → context_in tables id ≡ None
none_in cluster tables are id = each_node cluster (λ p o. option_and_then (λ table. get table id) o ≡ None) (λ p. empty) tables are (λ p. get-empty task_id_cmp id) (λ p l. refl) (id.node - 1)

-- nothing was asked for
nothing_owned : (script : Script) → Owning (scripted script) []
nothing_owned script = record {
  stands = λ owner search own live. absurd (let none = own.parent in cc);
  searches = λ q k ask asked. absurd (cc);
  pages = λ q k ask asked. absurd (cc);
  alone = λ q j k a b. absurd (let none = a.asked in cc);
}

pub nothing_opened : (cluster : Cluster) (corpus : Corpus) (script : Script) (tables : List (FinMap task_id_cmp Context)) → tables ≡ no_contexts cluster.nodes → Paging cluster corpus script [] tables
nothing_opened cluster corpus script tables are = record {
  as_many = ap length are ∙ length-map-range_with_len (λ p. none) 0 cluster.nodes;
  stand = none_in cluster tables are;
  counts = λ id c e. absurd (cc);
  within = λ id c e. absurd (cc);
  page_within = λ t c e. absurd (cc);
  used = λ t ask live passed e. absurd (cc);
  owns = nothing_owned script;
  alone = tt;
}
  where
    none : FinMap task_id_cmp Context
    none = empty

-- ---- what is read

pub nothing_read : (cluster : Cluster) (corpus : Corpus) (script : Script) → ReadsFrom (λ index shard. 0) cluster corpus script []
nothing_read cluster corpus script = record {
  low = λ index shard. omega arith;
  begun = λ t ask past live asked b. absurd (cc);
  tops = λ p k ask top live asked told. absurd (cc);
  contexts = λ id c there. absurd (cc);
  pages = λ t c live shown. absurd (cc);
}
