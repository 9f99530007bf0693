-- What a task and its descendants write goes where the task was asked to write.
use Rattle.std.proofs.Common.{◌≡◌, ◌⊎◌, ◌≢◌, inl, inr, ℕ, true, false, List, [], ◌∷◌, Option, Some, None, refl, sym, ap, ◌∙◌}
use Rattle.std.specs.List.{list_any}
use Rattle.std.specs.Option.{option_map_or}
use Rattle.std.specs.Prelude.{option_and_then}
use Rattle.task_ids.specs.declared.cluster.Cluster.{Cluster}
use Rattle.task_ids.specs.declared.corpus.Corpus.{Corpus}
use Rattle.task_ids.specs.declared.task_id.TaskId.{TaskId}
use Rattle.task_events.specs.declared.event.Event.{Event}
use Rattle.task_events.specs.declared.event.Event.TheVariants.{Write}
use Rattle.task_events.specs.declared.request.Request.{Request}
use Rattle.task_events.specs.Cancels.{turn_of}
use Rattle.task_events.specs.Lawful.{Lawful}
use Rattle.task_events.specs.Requests.{Scripted, request_of}
use Rattle.task_events.specs.Same.{same_task}
use Rattle.task_events.specs.Tasks.{ancestors, ask_of, parent_of}
use Rattle.task_laws.proofs.Same.{same_task_tells}
use Rattle.task_laws.proofs.Tree.{TreeFacts, parent_first, tree_facts}
use Rattle.world_moves.proofs.Children.{child_request}
use Rattle.write_laws.specs.Destinations.{WritesInto, dest_asked, dest_in}
use Rattle.write_laws.specs.KindsAsked.{KeepsToKinds}
use Rattle.write_laws.specs.TreeWrites.{is_in_tree}
use Rattle.write_laws.proofs.AskedThere.{asks_there}
use Rattle.write_laws.proofs.ByKind.{child_kind, may_have_asked}
use Rattle.write_laws.proofs.ContextOwners.{request_stays}
use Rattle.write_laws.proofs.EachAsk.{asked_so}
use Rattle.write_laws.proofs.WholeTurns.{AllPlanned}
use Rattle.write_laws.proofs.WritesOwn.{WritesOwn}

module _ (cluster : Cluster) (corpus : Corpus) (said : Scripted) where
  module _ (h : List Event) (l : Lawful cluster h) (keeps : KeepsToKinds said h) (planned : AllPlanned cluster corpus said h) where
    -- a parent was asked to write where its child was
    parent_there : (u p : TaskId) (dest : List ℕ) → parent_of u h ≡ Some p → dest_asked said u h ≡ Some dest → dest_asked said p h ≡ Some dest
    parent_there u p dest parent told = by_requests (request_of said p h) refl (request_of said u h) refl (child_kind cluster said h l keeps u p parent) told
      where
        by_requests : (o : Option Request) → request_of said p h ≡ o → (c : Option Request) → request_of said u h ≡ c → may_have_asked o c ≡ true → option_and_then dest_in c ≡ Some dest → dest_asked said p h ≡ Some dest
        by_requests None above c child may told = absurd (cc)
        by_requests (Some request) above None child may told = absurd (cc)
        by_requests (Some request) above (Some made) child may told =
            ap (option_and_then dest_in) above
            ∙ asked_so cluster corpus said p request (λ x. (d : List ℕ) → dest_in x ≡ Some d → dest_in request ≡ Some d) (λ made q now x step. asks_there cluster p made q now x request step) h l planned above (ask_of u h) made
            (sym (child_request cluster said u p h l parent) ∙ child) dest told

    -- and so was each task above
    above_there : (t : TaskId) (dest : List ℕ) (g : TreeFacts h) (xs : List TaskId) (w : TaskId) → ancestors w h ≡ xs → dest_asked said w h ≡ Some dest → list_any (same_task t) xs ≡ true → dest_asked said t h ≡ Some dest
    above_there t dest g [] w e told above = absurd (cc)
    above_there t dest g (x ∷ ys) w e told above = by_task (same_task_tells t x) (above_there t dest g ys x)
      where
        first : (parent_of w h ≡ Some x) × (ancestors x h ≡ ys)
        first = parent_first w x ys h g e (parent_of w h) refl

        there : dest_asked said x h ≡ Some dest
        there = parent_there w x dest first.0 told

        by_task : ((same_task t x ≡ true) × (t ≡ x)) ⊎ ((same_task t x ≡ false) × (t ≢ x)) → (ancestors x h ≡ ys → dest_asked said x h ≡ Some dest → list_any (same_task t) ys ≡ true → dest_asked said t h ≡ Some dest) → dest_asked said t h ≡ Some dest
        by_task (inl (one, same)) rest = ap (λ v. dest_asked said v h) same ∙ there
        by_task (inr (other, apart)) rest = rest first.1 there (rw other at above)

    tree_there : (t w : TaskId) (dest : List ℕ) → dest_asked said w h ≡ Some dest → is_in_tree t w h ≡ true → dest_asked said t h ≡ Some dest
    tree_there t w dest told within = by_task (same_task_tells t w)
      where
        by_task : ((same_task t w ≡ true) × (t ≡ w)) ⊎ ((same_task t w ≡ false) × (t ≢ w)) → dest_asked said t h ≡ Some dest
        by_task (inl (one, same)) = ap (λ v. dest_asked said v h) same ∙ told
        by_task (inr (other, apart)) = above_there t dest (tree_facts cluster h l) (ancestors w h) w refl told (rw other at within)

  -- ---- every past

  -- what a task is asked to do stays
  asked_before : (e : Event) (h : List Event) → Lawful cluster (e ∷ h) → (t : TaskId) (dest : List ℕ) → dest_asked said t h ≡ Some dest → dest_asked said t (e ∷ h) ≡ Some dest
  asked_before e h l t dest told = by_request (request_of said t h) refl told
    where
      by_request : (o : Option Request) → request_of said t h ≡ o → option_and_then dest_in o ≡ Some dest → dest_asked said t (e ∷ h) ≡ Some dest
      by_request None asked told = absurd (cc)
      by_request (Some request) asked told = ap (option_and_then dest_in) (request_stays cluster said e h l t request asked) ∙ told

  pub trees_into : (h : List Event) → Lawful cluster h → KeepsToKinds said h → AllPlanned cluster corpus said h → WritesOwn said h → (t : TaskId) (dest : List ℕ) → ((index : List ℕ) → dest_asked said t h ≡ Some index → index ≡ dest) → WritesInto dest t h
  trees_into [] l keeps planned own t dest only = tt
  trees_into (Write index shard outcome id ∷ h) l keeps planned own t dest only = (by_turn (turn_of h) refl, trees_into h l.1 keeps.1 planned.1 own.1 t dest only)
    where
      by_turn : (o : Option TaskId) → turn_of h ≡ o → option_map_or (λ w. is_in_tree t w h) o false ≡ true → index ≡ dest
      by_turn None e writing = absurd (cc)
      by_turn (Some w) e writing = only index (tree_there h l.1 keeps.1 planned.1 t w index (own.0 w e) writing)
  trees_into (e ∷ h) l keeps planned own t dest only = trees_into h l.1 keeps.1 planned.1 own t dest (λ index told. only index (asked_before e h l t index told))
