-- One and the same ends, from one moment to another.
use Rattle.std.proofs.Common.{◌≡◌, ℕ, zero, suc, List, [], ◌∷◌, Some, sym, refl, subst, ◌∙◌, slice_set}
use Rattle.std.specs.Prelude.{slice_get}
use Rattle.std.specs.Global.{Vec}
use Rattle.node_link.specs.declared.ends.Sender.{Sender}
use Rattle.node_link.specs.declared.ends.Receiver.{Receiver}
use Rattle.node_link.specs.Inbox.{IsSame, SameInbox}
use Rattle.node_link.proofs.Counts.{Some_injective}
use Rattle.run_inboxes.specs.declared.ends.Ends.{Ends}
use Rattle.run_inboxes.specs.Pairs.{Pairwise}
use Rattle.run_inboxes.specs.Ends.{SameEnds}

module _ {L : Type 0} where
  same_inbox : (r : Receiver L) → SameInbox r r
  same_inbox r = (refl, refl)

  inbox_on : (r s t : Receiver L) → SameInbox r s → SameInbox s t → SameInbox r t
  inbox_on r s t p q = (q.0 ∙ p.0, q.1 ∙ p.1)

  pub same_senders : (xs : List (Sender L)) → Pairwise IsSame xs xs
  same_senders [] = tt
  same_senders (x ∷ xs) = ((refl, refl), same_senders xs)

  senders_on : (xs ys zs : List (Sender L)) → Pairwise IsSame xs ys → Pairwise IsSame ys zs → Pairwise IsSame xs zs
  senders_on [] [] [] p q = tt
  senders_on [] [] (z ∷ zs) p q = absurd q
  senders_on [] (y ∷ ys) zs p q = absurd p
  senders_on (x ∷ xs) [] zs p q = absurd p
  senders_on (x ∷ xs) (y ∷ ys) [] p q = absurd q
  senders_on (x ∷ xs) (y ∷ ys) (z ∷ zs) p q = ((q.0.0 ∙ p.0.0, q.0.1 ∙ p.0.1), senders_on xs ys zs p.1 q.1)

  -- one of them sent
  pub senders_set : (xs : List (Sender L)) (k : ℕ) (s t : Sender L) → slice_get xs k ≡ Some s → IsSame s t → Pairwise IsSame xs (slice_set xs k t)
  senders_set [] k s t at same = tt
  senders_set (x ∷ xs) zero s t at same = (subst (λ v. IsSame v t) (sym (Some_injective x s at)) same, same_senders xs)
  senders_set (x ∷ xs) (suc k) s t at same = ((refl, refl), senders_set xs k s t at same)

  pub same_ends : (e : Ends L) → SameEnds e e
  same_ends e = record { inbox = same_inbox e.inbox; senders = same_senders e.senders.items }

  pub ends_on : (d e f : Ends L) → SameEnds d e → SameEnds e f → SameEnds d f
  ends_on d e f p q = record { inbox = inbox_on d.inbox e.inbox f.inbox p.inbox q.inbox; senders = senders_on d.senders.items e.senders.items f.senders.items p.senders q.senders }

  -- a letter was taken
  pub took : (e : Ends L) (r : Receiver L) → SameInbox e.inbox r → SameEnds e (record { inbox = r; senders = e.senders })
  took e r same = record { inbox = same; senders = same_senders e.senders.items }

  -- a letter was sent
  pub sent : (e : Ends L) (v : Vec (Sender L)) → Pairwise IsSame e.senders.items v.items → SameEnds e (record { inbox = e.inbox; senders = v })
  sent e v same = record { inbox = same_inbox e.inbox; senders = same }
