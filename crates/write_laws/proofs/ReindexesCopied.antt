-- Where each slice has copied its rows, each reindex has copied those of all its slices.
use Rattle.std.proofs.Common.{◌≡◌, ◌+◌, ◌<◌, ℕ, zero, suc, Bool, true, false, List, [], ◌∷◌, length, map, Option, Some, None, refl, sym, ap, subst, ◌∙◌, arith}
use Rattle.std.specs.Prelude.{◌==◌, option_map, slice_get}
use Rattle.std.proofs.lemmas.Bool.Decides.{nat_tests}
use Rattle.std.proofs.lemmas.List.{append-nil, length-map}
use Rattle.std.proofs.lemmas.List.Concat.{flat_map-cons}
use Rattle.std.proofs.lemmas.List.Folds.{flat_map-map}
use Rattle.std.proofs.lemmas.Option.{same_Some, slice_get-map}
use Rattle.task_ids.specs.declared.cluster.Cluster.{Cluster}
use Rattle.task_ids.specs.declared.corpus.Corpus.{Corpus}
use Rattle.task_ids.specs.declared.doc.Doc.{Doc}
use Rattle.task_ids.specs.declared.task_id.TaskId.{TaskId}
use Rattle.task_events.specs.declared.context.Context.{Context}
use Rattle.task_events.specs.declared.event.Event.{Event}
use Rattle.task_events.specs.declared.reply.Counts.{Counts}
use Rattle.task_events.specs.declared.reply.Reply.TheVariants.{Wrote}
use Rattle.task_events.specs.declared.request.ReindexAsk.{ReindexAsk}
use Rattle.task_events.specs.declared.request.Request.TheVariants as asks
use Rattle.task_events.specs.declared.request.SliceAsk.{SliceAsk}
use Rattle.task_events.specs.Lawful.{Lawful}
use Rattle.task_events.specs.Requests.{request_of}
use Rattle.task_events.specs.Slicing.{slice_at}
use Rattle.task_events.specs.Tasks.{child_of, reply_of}
use Rattle.script_lang.specs.declared.command.Script.{Script}
use Rattle.command_roots.specs.Roots.{scripted}
use Rattle.write_laws.specs.Copied.{HasWritten}
use Rattle.write_laws.specs.Destinations.{WritesInto}
use Rattle.write_laws.specs.CopiedAll.{CopiesAll, CopiesItsRows, CopiesSlice, docs_matched}
use Rattle.write_laws.specs.CopiedRows.{CopiesRows}
use Rattle.write_laws.specs.CopiedSlices.{CopiesSlices, HasDone}
use Rattle.write_laws.specs.KindsAsked.{KeepsToKinds}
use Rattle.write_laws.proofs.SlicesDone.{has_slice, is_slice_at, slices_done}
use Rattle.write_laws.proofs.WholeTurns.{AllPlanned}

-- ---- lists

-- what there is for each number below n, in order
collected : {X : Type 0} (P : ℕ → X → Type 0) (n : ℕ) → ((i : ℕ) → i < n → (x : X) × P i x) → (xs : List X) × (length xs ≡ n) × ((i : ℕ) (x : X) → slice_get xs i ≡ Some x → P i x)
collected P zero each = ([], refl, λ i x e. absurd (cc))
collected {X} P (suc n) each =
    let first = each 0 (omega arith) in
    let rest = collected (λ i. P (suc i)) n (λ i low. each (suc i) (omega (arith, low))) in
    (first.0 ∷ rest.0, ap suc rest.1, λ i x e. at first.0 first.1 rest.0 rest.2 i x e)
  where
    at : (y : X) → P 0 y → (xs : List X) → ((i : ℕ) (x : X) → slice_get xs i ≡ Some x → P (suc i) x) → (i : ℕ) (x : X) → slice_get (y ∷ xs) i ≡ Some x → P i x
    at y first xs rest zero x e = subst (P 0) (same_Some _ _ e) first
    at y first xs rest (suc i) x e = rest i x e

-- what a list has at a place after a function
mapped_at : {X Y : Type 0} (f : X → Y) (xs : List X) (i : ℕ) (y : Y) → slice_get (map f xs) i ≡ Some y → (x : X) × (slice_get xs i ≡ Some x) × (f x ≡ y)
mapped_at {X} {Y} f xs i y e = by_option (slice_get xs i) refl (sym (slice_get-map f xs i) ∙ e)
  where
    by_option : (o : Option X) → slice_get xs i ≡ o → option_map f o ≡ Some y → (x : X) × (slice_get xs i ≡ Some x) × (f x ≡ y)
    by_option None at e = absurd (cc)
    by_option (Some x) at e = (x, at, same_Some _ _ e)

module _ (cluster : Cluster) (corpus : Corpus) (script : Script) (h : List Event) where
  -- what a slice has copied that has ended without a failure
  abbrev pub SliceCopied : Type 0
  SliceCopied = (c : TaskId) (slice : SliceAsk) (counts : Counts) → request_of (scripted script) c h ≡ Some (asks.Slice slice) → reply_of c h ≡ Some (Wrote counts) → counts.failures ≡ 0 → CopiesRows cluster corpus script c slice.reindex slice.slice h

  -- what a reindex with one slice has
  abbrev pub AloneCopied : Type 0
  AloneCopied = (t : TaskId) (ask : ReindexAsk) (counts : Counts) → ask.slices ≡ 1 → request_of (scripted script) t h ≡ Some (asks.Reindex ask) → reply_of t h ≡ Some (Wrote counts) → counts.failures ≡ 0 → CopiesRows cluster corpus script t ask 0 h

  -- where a reindex writes
  abbrev pub WritesThere : Type 0
  WritesThere = (t : TaskId) (ask : ReindexAsk) → request_of (scripted script) t h ≡ Some (asks.Reindex ask) → WritesInto ask.dest t h

  module _ (t : TaskId) (ask : ReindexAsk) (there : WritesInto ask.dest t h) where
    abbrev docs : Context → List Doc
    docs context = docs_matched cluster corpus script ask h context

    one_copied : (ask.slices == 1) ≡ true → CopiesRows cluster corpus script t ask 0 h → CopiesAll cluster corpus script t ask h
    one_copied alone rows = record {
      contexts = rows.context ∷ [];
      as_many = let one : 1 ≡ ask.slices = grind (arith, nat_tests) in one;
      each = each;
      written = subst (HasWritten (scripted script) t h) (sym (flat_map-cons docs rows.context [] ∙ append-nil (docs rows.context))) rows.written;
      into = there;
    }
      where
        each : (slice : ℕ) (context : Context) → slice_get (rows.context ∷ []) slice ≡ Some context → CopiesSlice cluster corpus script t ask h slice context
        each zero context e = record { task = t; does = rw alone refl; rows = rows; found = same_Some _ _ e }
        each (suc slice) context e = absurd (cc)

    module _ (several : (ask.slices == 1) ≡ false) (done : CopiesSlices (scripted script) t ask h) (copied : SliceCopied) where
      of_slice : (i : ℕ) → i < ask.slices → (context : Context) × CopiesSlice cluster corpus script t ask h i context
      of_slice i low = (rows.context, record { task = one.task; does = rw several one.put; rows = rows; found = refl })
        where
          slice : (slice : SliceAsk) × (slice_at ask i ≡ Some slice)
          slice = has_slice ask i low

          is : (i < ask.slices) × (slice.0.reindex ≡ ask) × (slice.0.slice ≡ i)
          is = is_slice_at ask i slice.0 slice.1

          one : HasDone (scripted script) t h i slice.0
          one = done.each i slice.0 slice.1

          rows : CopiesRows cluster corpus script one.task ask i h
          rows = subst (λ j. CopiesRows cluster corpus script one.task ask j h) is.2 (subst (λ a. CopiesRows cluster corpus script one.task a slice.0.slice h) is.1 (copied one.task slice.0 one.counts one.asked one.replied one.unfailing))

      several_copied : CopiesAll cluster corpus script t ask h
      several_copied = record {
        contexts = all.0;
        as_many = all.1;
        each = all.2;
        written = subst (HasWritten (scripted script) t h) (flat_map-map (λ own. own) docs all.0) (done.written (map docs all.0) (length-map all.0 docs ∙ all.1) own_written);
        into = there;
      }
        where
          all : (contexts : List Context) × (length contexts ≡ ask.slices) × ((i : ℕ) (context : Context) → slice_get contexts i ≡ Some context → CopiesSlice cluster corpus script t ask h i context)
          all = collected (λ i context. CopiesSlice cluster corpus script t ask h i context) ask.slices of_slice

          own_written : (i : ℕ) (c : TaskId) (own : List Doc) → child_of t (i + 1) h ≡ Some c → slice_get (map docs all.0) i ≡ Some own → HasWritten (scripted script) c h own
          own_written i c own put e =
              let at = mapped_at docs all.0 i own e in
              let one = all.2 i at.0 at.1 in
              let same : one.task ≡ c = same_Some _ _ (sym (rw several at one.does) ∙ put) in
              subst (λ x. HasWritten (scripted script) x h own) same (subst (HasWritten (scripted script) one.task h) (ap docs one.found ∙ at.2) one.rows.written)

  -- in a run, given what each slice has copied
  pub reindexes_copied : Lawful cluster h → KeepsToKinds (scripted script) h → AllPlanned cluster corpus (scripted script) h → SliceCopied → AloneCopied → WritesThere → CopiesItsRows cluster corpus script h
  reindexes_copied l keeps planned copied alone there t ask counts asked replied good = by_slices (ask.slices == 1) refl
    where
      by_slices : (b : Bool) → (ask.slices == 1) ≡ b → CopiesAll cluster corpus script t ask h
      by_slices true one = one_copied t ask (there t ask asked) one (alone t ask counts (let is : ask.slices ≡ 1 = grind (arith, nat_tests) in is) asked replied good)
      by_slices false several = several_copied t ask (there t ask asked) several (slices_done cluster corpus (scripted script) ask several h l keeps planned t (Wrote counts) good replied asked) copied
