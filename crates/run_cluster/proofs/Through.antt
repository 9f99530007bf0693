-- Lists whose things go together through a third, and workers that drained with the ends that they had.
use Rattle.std.proofs.Common.{◌≡◌, ℕ, zero, suc, List, [], ◌∷◌, ◌++◌, Some, refl, subst}
use Rattle.std.specs.Prelude.{map, slice_get}
use Rattle.node_link.specs.declared.body.Body.{Body}
use Rattle.node_link.specs.declared.ends.Sender.{Sender}
use Rattle.node_link.specs.declared.ends.Receiver.{Receiver}
use Rattle.node_link.specs.Inbox.{IsSame, SameInbox}
use Rattle.node_worker.specs.declared.post.Post.{Post}
use Rattle.node_worker.specs.declared.worker.Rest.{Rest}
use Rattle.node_worker.specs.Posts.{SentBut}
use Rattle.node_worker.specs.Turns.{Given}
use Rattle.node_worker.specs.Work.{Did}
use Rattle.node_worker.specs.Job.{Begun}
use Rattle.run_threads.specs.Jobs.{Drained}
use Rattle.run_inboxes.specs.declared.ends.Ends.{Ends}
use Rattle.run_inboxes.specs.Pairs.{Pairwise, Threewise}
use Rattle.run_inboxes.specs.Ends.{SameEnds}
use Rattle.run_inboxes.proofs.Pairs.{pairs_from}
use Rattle.run_cluster.specs.Crews.{BeginsWith}

-- what goes with the first of two that go together goes with the second
pub pairs_on : {A B C : Type 0} (P : A → B → Type 0) (Q : B → C → Type 0) (R : A → C → Type 0) → ((a : A) (b : B) (c : C) → P a b → Q b c → R a c)
    → (xs : List A) (ys : List B) (zs : List C) → Pairwise P xs ys → Pairwise Q ys zs → Pairwise R xs zs
pairs_on P Q R join [] [] [] p q = tt
pairs_on P Q R join [] [] (z ∷ zs) p q = absurd q
pairs_on P Q R join [] (y ∷ ys) zs p q = absurd p
pairs_on P Q R join (x ∷ xs) [] zs p q = absurd p
pairs_on P Q R join (x ∷ xs) (y ∷ ys) [] p q = absurd q
pairs_on P Q R join (x ∷ xs) (y ∷ ys) (z ∷ zs) p q = (join x y z p.0 q.0, pairs_on P Q R join xs ys zs p.1 q.1)

-- lists whose things go together, one after the other
pub pairs_append : {A B : Type 0} (P : A → B → Type 0) (xs : List A) (ys : List B) (us : List A) (vs : List B) → Pairwise P xs ys → Pairwise P us vs → Pairwise P (xs ++ us) (ys ++ vs)
pairs_append P [] [] us vs p q = q
pairs_append P [] (y ∷ ys) us vs p q = absurd p
pairs_append P (x ∷ xs) [] us vs p q = absurd p
pairs_append P (x ∷ xs) (y ∷ ys) us vs p q = (p.0, pairs_append P xs ys us vs p.1 q)

-- what goes with what is made of the things of a list
pub pairs_map : {A B C : Type 0} (P : A → C → Type 0) (f : B → C) (xs : List A) (ys : List B) → Pairwise (λ x y. P x (f y)) xs ys → Pairwise P xs (map f ys)
pairs_map P f [] [] p = tt
pairs_map P f [] (y ∷ ys) p = absurd p
pairs_map P f (x ∷ xs) [] p = absurd p
pairs_map P f (x ∷ xs) (y ∷ ys) p = (p.0, pairs_map P f xs ys p.1)

module _ {A B C : Type 0} (is : A → B → C → Type 0) where
  -- what goes with a thing of the first of three lists
  pub threes_first : (xs : List A) (ys : List B) (zs : List C) → Threewise is xs ys zs → (i : ℕ) (x : A) → slice_get xs i ≡ Some x → (y : B) × (z : C) × (slice_get ys i ≡ Some y) × (slice_get zs i ≡ Some z) × is x y z
  threes_first [] ys zs t i x at = absurd (cc)
  threes_first (a ∷ xs) [] zs t i x at = absurd t
  threes_first (a ∷ xs) (b ∷ ys) [] t i x at = absurd t
  threes_first (a ∷ xs) (b ∷ ys) (c ∷ zs) t zero x at = let e : a ≡ x = cc in (b, c, refl, refl, subst (λ v. is v b c) e t.0)
  threes_first (a ∷ xs) (b ∷ ys) (c ∷ zs) t (suc i) x at = threes_first xs ys zs t.1 i x at

  -- and with one of the third
  pub threes_third : (xs : List A) (ys : List B) (zs : List C) → Threewise is xs ys zs → (i : ℕ) (z : C) → slice_get zs i ≡ Some z → (x : A) × (y : B) × (slice_get xs i ≡ Some x) × (slice_get ys i ≡ Some y) × is x y z
  threes_third xs ys [] t i z at = absurd (cc)
  threes_third [] [] (c ∷ zs) t i z at = absurd t
  threes_third [] (b ∷ ys) (c ∷ zs) t i z at = absurd t
  threes_third (a ∷ xs) [] (c ∷ zs) t i z at = absurd t
  threes_third (a ∷ xs) (b ∷ ys) (c ∷ zs) t zero z at = let e : c ≡ z = cc in (a, b, refl, refl, subst (λ v. is a b v) e t.0)
  threes_third (a ∷ xs) (b ∷ ys) (c ∷ zs) t (suc i) z at = threes_third xs ys zs t.1 i z at

same_senders : (old new : List (Sender Body)) (posts left : List (Post Body)) → SentBut old posts new left → Pairwise IsSame old new
unfolding SentBut
same_senders old new posts left sent = pairs_from IsSame old new sent.0 (λ j s t p q. (sent.1 j s t p q).0)

-- a worker that drained left the ends with which it began
pub drained_ends : {N T : Type 0} (did : T → Given → List (Post Body) → T → Type 0) (at_rest fits : T → Type 0) (e : Ends Body) (w : Begun T) (r : Rest N T)
    → BeginsWith e w → Drained did at_rest fits w r → SameEnds e (record { inbox = r.inbox; senders = r.senders })
unfolding Did
drained_ends did at_rest fits e w r begins d = record {
  inbox = subst (λ (i : Receiver Body). SameInbox i r.inbox) begins.inbox d.did_all.1.same;
  senders = subst (λ (s : List (Sender Body)). Pairwise IsSame s r.senders.items) begins.senders (same_senders w.senders r.senders.items _ _ d.did_all.1.sent);
}
