-- Letters with their addresses, and what was sent of them.
use Rattle.std.specs.Prelude.{◌≡◌, ◌==◌, ℕ, List, [], ◌∷◌, ◌++◌, length, slice_get, Some}
use Rattle.node_link.specs.Rule.{kept}
use Rattle.node_link.specs.Inbox.{put, IsSame}
use Rattle.node_link.specs.declared.ends.Sender.{Sender}
use Rattle.node_worker.specs.declared.post.Post.{Post}

module _ {L : Type 0} where
  -- the letters for the inbox of that number, in order
  abbrev pub for_inbox : ℕ → List (Post L) → List L
  for_inbox j [] = []
  for_inbox j (x ∷ xs) = kept (x.to == j) x.letter (for_inbox j xs)

  -- each of these senders sent, in order, what the posts have for its inbox, but for the last of it, which is left
  unfoldable pub SentBut : List (Sender L) → List (Post L) → List (Sender L) → List (Post L) → Type 0
  SentBut old posts new left =
      (length new ≡ length old)
      × ((j : ℕ) (s t : Sender L) → slice_get old j ≡ Some s → slice_get new j ≡ Some t → IsSame s t × (put t ++ for_inbox j left ≡ put s ++ for_inbox j posts))
