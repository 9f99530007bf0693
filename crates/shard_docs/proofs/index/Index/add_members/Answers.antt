use Rattle.std.proofs.Common.{◌≡◌, ℕ, ◌+◌, ◌||◌, List, ◌∷◌, sym, ap, ◌∙◌, drop, ⊎_elim, inl, inr}
use Rattle.std.specs.List.{list_any}
use Rattle.std.proofs.lemmas.List.{drop_more}
use Rattle.std.proofs.lemmas.List.Folds.{list_any-append}
use Rattle.serde_json.specs.View.{view}
use Rattle.task_ids.specs.declared.source.Member.{Member}
use Rattle.task_ids.specs.Source.{members_in}
use Rattle.query_match.specs.Matching.{holds}
use Rattle.query_match.specs.Values.{held_at, held_by_key}
use Rattle.query_match.specs.declared.query.Test.TheVariants.{Equals}
use Rattle.query_match.specs.declared.scalar.Scalar.{Scalar}
use Rattle.shard_docs.proofs.Adding.{both_may, still_left}
use Rattle.shard_docs.proofs.Keeping.{still_kept}
use Rattle.shard_docs.proofs.index.Index.add_members.Goals as goal

-- what is left is at the next key or at the later ones
in_left : (f : List ℕ) (v : Scalar) (x : Member) (left later : List Member) → left ≡ x ∷ later → list_any (holds (Equals v)) (held_at f (members_in left))
    ≡ list_any (holds (Equals v)) (held_by_key f x.key (view x.value)) || list_any (holds (Equals v)) (held_at f (members_in later))
in_left f v x left later step =
    ap (λ l. list_any (holds (Equals v)) (held_at f (members_in l))) step ∙ list_any-append (holds (Equals v)) (held_by_key f x.key (view x.value)) (held_at f (members_in later))

pub loop-member-preserved : goal.loop-member-preserved
loop-member-preserved c =
    let members = c.args.members.now in
    let i = c.loop-member.member-index in
    let x = c.member-item.result in
    let place = c.args.place in
    let first = c.args.self.now in
    let here : drop i members ≡ x ∷ drop (i + 1) members = drop_more members i x c.loop-member-test.true ∙ ap (λ y. y ∷ drop (i + 1) members) (sym c.member-item.is) in
    let key = c.as_str.ensures ∙ c.get.ensures in
    let next = c.add_member.new.self in
    let mid = c.loop-member.self in (
      both_may place first mid next c.loop-member.invariant.0 c.in_ok-add_member.ensures.others,
      λ f v plain any.
          let in_this = list_any (holds (Equals v)) (held_by_key f x.key (view x.value)) in
          let in_later = list_any (holds (Equals v)) (held_at f (members_in (drop (i + 1) members))) in
          let parts = in_left f v x (drop i members) (drop (i + 1) members) here in
          still_left place first mid next f v in_this in_later
          (⊎_elim (λ had. inl had) (λ left. inr (sym parts ∙ left)) (c.loop-member.invariant.1 f v plain any)) c.loop-member.invariant.0 c.in_ok-add_member.ensures.others
          (λ has. c.in_ok-add_member.ensures.added f v plain (ap (λ k. list_any (holds (Equals v)) (held_by_key f k (view x.value))) key ∙ has)),
      λ f v none.
          let stays = c.loop-member.invariant.2 f v none in
          still_kept first mid next f v (list_any (holds (Equals v)) (held_by_key f x.key (view x.value))) (list_any (holds (Equals v)) (held_at f (members_in (drop (i + 1) members))))
          (stays.0, sym (in_left f v x (drop i members) (drop (i + 1) members) here) ∙ stays.1)
          (λ not. c.in_ok-add_member.ensures.kept f v (ap (λ k. list_any (holds (Equals v)) (held_by_key f k (view x.value))) key ∙ not)),
    )

pub returns-in_err-add_member-clause-others : goal.returns-in_err-add_member-clause-others
returns-in_err-add_member-clause-others c =
    both_may c.args.place c.args.self.now c.loop-member.self c.add_member.new.self c.loop-member.invariant.0 c.in_err-add_member.ensures.others

pub returns-in_err-add_member-clause-kept : goal.returns-in_err-add_member-clause-kept
returns-in_err-add_member-clause-kept c = λ f v none.
    let members = c.args.members.now in
    let i = c.loop-member.member-index in
    let x = c.member-item.result in
    let here : drop i members ≡ x ∷ drop (i + 1) members = drop_more members i x c.loop-member-test.true ∙ ap (λ y. y ∷ drop (i + 1) members) (sym c.member-item.is) in
    let key = c.as_str.ensures ∙ c.get.ensures in
    let stays = c.loop-member.invariant.2 f v none in
    (still_kept c.args.self.now c.loop-member.self c.add_member.new.self f v (list_any (holds (Equals v)) (held_by_key f x.key (view x.value))) (list_any (holds (Equals v)) (held_at f (members_in (drop (i + 1) members))))
    (stays.0, sym (in_left f v x (drop i members) (drop (i + 1) members) here) ∙ stays.1)
    (λ not. c.in_err-add_member.ensures.kept f v (ap (λ k. list_any (holds (Equals v)) (held_by_key f k (view x.value))) key ∙ not))).0

pub returns-clause-kept : goal.returns-clause-kept
returns-clause-kept c = λ f v none. (c.loop-member.invariant.2 f v none).0
