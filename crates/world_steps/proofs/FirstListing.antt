-- The first of the open listings makes its step.
use Rattle.std.proofs.Common.{◌≡◌, true, false, List, [], ◌∷◌, length, refl, sym, ◌∙◌, inl, inr}
use Rattle.std.specs.BTreeSet.{BTreeSet, contains, btree_set_len, IsLowerBound}
use Rattle.std.specs.BTreeMap.{is_at}
use Rattle.std.specs.List.{list_any}
use Rattle.std.specs.Ordering.{is_gt, is_le}
use Rattle.std.specs.declared.cmp.Ordering.{Ordering}
use Rattle.std.specs.declared.cmp.Ordering.TheVariants.{Less, Equal, Greater}
use Rattle.task_ids.specs.declared.cluster.Cluster.{Cluster}
use Rattle.task_ids.specs.declared.corpus.Corpus.{Corpus}
use Rattle.task_events.specs.declared.event.Event.{Event}
use Rattle.task_events.specs.Messages.{in_flight}
use Rattle.script_lang.specs.declared.command.Script.{Script}
use Rattle.node_parts.specs.declared.listing.Listing.{Listing}
use Rattle.world_moves.specs.declared.listings.ListStep.{ListStep}
use Rattle.world_moves.specs.declared.listings.ListStep.TheVariants.{Done, NoListing}
use Rattle.world_moves.specs.Listings.{AnswersListing, IsFirstListing, ListSteps, is_open, listing_cmp}
use Rattle.world_moves.specs.Moves.{IsPartly}
use Rattle.world_steps.specs.Runs.{FirstMoves}

not_above : (o : Ordering) → is_gt o ≡ false → is_le o ≡ true
not_above Less e = refl
not_above Equal e = refl
not_above Greater e = absurd (cc)

module _ (cluster : Cluster) (corpus : Corpus) (script : Script) (h : List Event) (set : BTreeSet Listing) (l : Listing)
    (known : (m : Listing) → contains listing_cmp set m ≡ is_open m h) (member : contains listing_cmp set l ≡ true) (least : IsLowerBound listing_cmp set l) (none : in_flight h ≡ []) where
  opened : is_open l h ≡ true
  opened = sym (known l) ∙ member

  first : IsFirstListing l h
  first = (opened, λ m o. not_above (listing_cmp l m) (least m (known m ∙ o)))

  moves : (new : List Event) → ListSteps l h new → FirstMoves cluster corpus script h new
  moves new steps = inr (inl (none, (l, first, steps)))

  -- an open listing makes a step
  steps_of : (stepped : ListStep) (new : List Event) → AnswersListing l h stepped new → ListSteps l h new
  steps_of Done new steps = steps
  steps_of NoListing new (closed, same) = absurd (let here = opened in cc)

  is_done : (stepped : ListStep) (new : List Event) → AnswersListing l h stepped new → stepped ≡ Done
  is_done Done new steps = refl
  is_done NoListing new (closed, same) = absurd (let here = opened in cc)

  pub listing_moves : (stepped : ListStep) (new : List Event) → AnswersListing l h stepped new → FirstMoves cluster corpus script h new
  listing_moves stepped new a = moves new (steps_of stepped new a)

  pub listing_done : (stepped : ListStep) (new : List Event) → AnswersListing l h stepped new → stepped ≡ Done
  listing_done stepped new a = is_done stepped new a

  pub listing_partly : (new : List Event) → IsPartly (ListSteps l) h new → IsPartly (FirstMoves cluster corpus script) h new
  listing_partly new (inl same) = inl same
  listing_partly new (inr (whole, steps, part)) = inr (whole, moves whole steps, part)

-- no listing is open where the set is empty
pub none_open : (h : List Event) (set : BTreeSet Listing) → ((m : Listing) → contains listing_cmp set m ≡ is_open m h) → btree_set_len set ≡ 0 → (l : Listing) → is_open l h ≡ false
none_open h set known empty l = sym (known l) ∙ by_keys set.keys empty
  where
    by_keys : (keys : List Listing) → length keys ≡ 0 → list_any (is_at (listing_cmp l)) keys ≡ false
    by_keys [] e = refl
    by_keys (k ∷ keys) e = absurd (cc)
