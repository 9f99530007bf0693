use Rattle.std.proofs.Common.{◌≡◌, ◌≤◌, ℕ, List, Option, Some, None, true, suc, length, map, take, filter, sym, ap, subst, ◌∙◌, arith}
use Rattle.std.specs.List.Sorted.{IsNonDecreasing}
use Rattle.query_match.specs.Picks.{picked}
use Rattle.query_match.specs.Values.{is_key}
use Rattle.query_match.specs.declared.pick.Pick.{Pick}
use Rattle.shard_docs.specs.declared.index.Index.{Index}
use Rattle.shard_docs.specs.Candidates.{next_places, is_candidate, is_above}
use Rattle.shard_docs.specs.Places.{is_at_row, places_of, IsIndexOf, IsExactFor}
use Rattle.shard_docs.specs.SeenRows.{SeenRows}
use Rattle.shard_docs.specs.Tables.{deaths}
use Rattle.shard_docs.proofs.Above.{ascending}
use Rattle.shard_docs.proofs.Exact.{exact_candidates}
use Rattle.shard_docs.proofs.PickedPlaces.{picked_next}
use Rattle.shard_docs.proofs.ShardParts.{same_writes}
use Rattle.shard_docs.proofs.TableLemmas.{docs_of}
use Rattle.shard_docs.proofs.shard.Shard.picked_places.Goals as goal

pub places_above-places-requires : goal.places_above-places-requires
places_above-places-requires c =
    let f = c.args.pick.field.now in
    let v = c.args.pick.value.now in
    let s = c.self.inside.rows in
    let there = c.places.ensures ∙ ap (λ g. places_of c.self.inside.index g v) c.as_str.ensures in
    subst IsNonDecreasing (sym there) (ascending (is_at_row f v s) (suc (length s.rows)) (places_of c.self.inside.index f v) (c.self.invariant.0.2 f v c.requires))

module _ (index : Index) (s : SeenRows) (dies : map (λ row. row.died) s.rows ≡ deaths 0 (docs_of s.rows)) (pick : Pick) (version : ℕ) (readable : s.oldest ≤ version) (after : Option ℕ) (places : List ℕ)
    (above : places ≡ filter (is_above after) (places_of index pick.field.now pick.value.now)) where
  next : is_key pick.field.now ≡ true → IsIndexOf s index → filter (is_candidate (Some (picked pick)) version (docs_of s.rows)) places ≡ next_places (Some (picked pick)) version after (docs_of s.rows)
  next key has =
      let f = pick.field.now in
      let v = pick.value.now in
      ap (filter (is_candidate (Some (picked pick)) version (docs_of s.rows))) above ∙ picked_next f v version after s dies readable (places_of index f v) (has f v key)

  next_alive : is_key pick.field.now ≡ true → IsIndexOf s index → IsExactFor s index → filter (is_candidate None version (docs_of s.rows)) places ≡ next_places (Some (picked pick)) version after (docs_of s.rows)
  next_alive key has exact =
      let f = pick.field.now in
      let v = pick.value.now in
      ap (filter (is_candidate None version (docs_of s.rows))) above ∙ exact_candidates f v version s dies readable (is_above after) (places_of index f v) (exact f v)
      ∙ picked_next f v version after s dies readable (places_of index f v) (has f v key)

pub returns-then-self : goal.returns-then-self
returns-then-self c =
    let index = c.self.inside.index in
    let s = c.self.inside.rows in
    let there = c.places.ensures ∙ ap (λ g. places_of index g c.args.pick.value.now) c.as_str.ensures in
    let readable : s.oldest ≤ c.args.version = omega (arith, c.if-version-oldest.false, c.oldest.ensures) in
    let above = c.places_above-places.ensures ∙ ap (filter (is_above c.args.after)) there in
    let found =
    subst (λ docs. filter (is_candidate (Some (picked c.args.pick)) c.args.version docs) c.places_above-places.result.now ≡ next_places (Some (picked c.args.pick)) c.args.version c.args.after docs) (same_writes c.self.view_is)
    (next index s c.self.invariant.0.0.died c.args.pick c.args.version readable c.args.after c.places_above-places.result.now above c.requires c.self.invariant.0.2) in record {
      count = c.candidates_among.ensures.count ∙ ap (λ l. length (take (length c.args.out.now) l)) found;
      places = c.candidates_among.ensures.places ∙ ap (take (length c.args.out.now)) found;
    }

pub returns : goal.returns
returns c =
    let index = c.self.inside.index in
    let s = c.self.inside.rows in
    let there = c.places.ensures ∙ ap (λ g. places_of index g c.args.pick.value.now) c.as_str.ensures in
    let readable : s.oldest ≤ c.args.version = omega (arith, c.if-version-oldest.false, c.oldest.ensures) in
    let above = c.places_above-places.ensures ∙ ap (filter (is_above c.args.after)) there in
    let found =
    subst (λ docs. filter (is_candidate None c.args.version docs) c.places_above-places.result.now ≡ next_places (Some (picked c.args.pick)) c.args.version c.args.after docs) (same_writes c.self.view_is)
    (next_alive index s c.self.invariant.0.0.died c.args.pick c.args.version readable c.args.after c.places_above-places.result.now above c.requires c.self.invariant.0.2 (c.self.invariant.0.3 c.if-self.false)) in record {
      count = c.candidates_among-2.ensures.count ∙ ap (λ l. length (take (length c.args.out.now) l)) found;
      places = c.candidates_among-2.ensures.places ∙ ap (take (length c.args.out.now)) found;
    }
