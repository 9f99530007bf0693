-- What a worker did between two moments.
use Rattle.std.specs.Prelude.{◌≡◌, ◌≤◌, ℕ, List, [], ◌∷◌, ◌++◌, length}
use Rattle.task_events.specs.declared.stop.Stop.{Stop}
use Rattle.node_link.specs.declared.body.Body.{Body}
use Rattle.node_link.specs.declared.rule.Tagged.{Tagged}
use Rattle.node_link.specs.declared.ends.Sender.{Sender}
use Rattle.node_link.specs.declared.ends.Receiver.{Receiver}
use Rattle.node_link.specs.Inbox.{got, SameInbox}
use Rattle.node_worker.specs.declared.post.Post.{Post}
use Rattle.node_worker.specs.declared.halt.Halt.{Halt}
use Rattle.node_worker.specs.declared.halt.Halt.TheVariants.{Told, Failed}
use Rattle.node_worker.specs.declared.desk.Desk.{Desk}
use Rattle.node_worker.specs.Posts.{SentBut}
use Rattle.node_worker.specs.Turns.{Given, Turn, letters_given, posts_given, Leads}

-- where a worker stands: itself, the ends of its inboxes, and what waits to be sent
pub record Stand (T : Type 0) : Type 0 where
  pub worker : T
  pub inbox : Receiver Body
  pub senders : List (Sender Body)
  pub kept : List (Post Body)

abbrev pub stand : {N T : Type 0} → Desk N T → Stand T
stand d = record { worker = d.worker; inbox = d.inbox; senders = d.senders.items; kept = d.kept.items }

-- the letters without their senders
abbrev pub letters : {L : Type 0} → List (Tagged L) → List L
letters [] = []
letters (x ∷ xs) = x.letter ∷ letters xs

-- each letter that was taken meanwhile was passed over
unfoldable pub PassedOver : Receiver Body → Receiver Body → Type 0
PassedOver old new = SameInbox old new × ((passed : List Body) × (letters (got new) ≡ letters (got old) ++ passed))

-- the letters that were taken meanwhile were passed over, and the last of them says Stop
unfoldable pub HeardStop : Receiver Body → Receiver Body → Type 0
HeardStop old new = SameInbox old new × ((passed : List Body) × (cause : Stop) × (letters (got new) ≡ letters (got old) ++ (passed ++ Body.Stop cause ∷ [])))

-- the letters that no turn was made of, by why it halted: one that says Stop, or at most one whose turn failed
abbrev pub IsOver : Halt → List Body → Type 0
IsOver (Told stop) over = over ≡ Body.Stop stop ∷ []
IsOver (Failed stop) over = length over ≤ 1

module _ {T : Type 0} (did : T → Given → List (Post Body) → T → Type 0) where
  -- these turns were made, over all letters that were taken, but for the last of them; what they gave was sent, but for what is kept
  pub record Made (old : Stand T) (turns : List Turn) (over : List Body) (new : Stand T) : Type 0 where
    pub leads : Leads did old.worker turns new.worker
    pub same : SameInbox old.inbox new.inbox
    pub took : letters (got new.inbox) ≡ letters (got old.inbox) ++ (letters_given turns ++ over)
    pub sent : SentBut old.senders (old.kept ++ posts_given turns) new.senders new.kept

  -- turns were made, over all letters that were taken
  unfoldable pub Did : Stand T → Stand T → Type 0
  Did old new = (turns : List Turn) × Made old turns [] new

  -- a worker that halted: its turns, where the last of them left it, and what of what they gave was not sent
  pub record Halting (halt : Halt) (old new : Stand T) : Type 0 where
    pub turns : List Turn
    pub last : T
    pub left : List (Post Body)
    pub over : List Body
    pub made : Made old turns over (record { worker = last; inbox = new.inbox; senders = new.senders; kept = left })
    pub is_over : IsOver halt over

  unfoldable pub Halted : Halt → Stand T → Stand T → Type 0
  Halted halt old new = Halting halt old new

  -- A worker that stopped: the same, and the last letter that it took says Stop. After what it sent of what its turns gave, it may have told the driver.
  pub record Stopping (stop : Stop) (old : Stand T) (inbox : Receiver Body) (senders : List (Sender Body)) : Type 0 where
    pub turns : List Turn
    pub last : T
    pub left : List (Post Body)
    pub passed : List Body
    pub cause : Stop
    pub middle : List (Sender Body)
    pub made : Made old turns (passed ++ Body.Stop cause ∷ []) (record { worker = last; inbox = inbox; senders = middle; kept = left })
    pub driver : ℕ
    pub unsaid : List (Post Body)
    pub said : SentBut middle (record { to = driver; letter = Body.Stopped stop } ∷ []) senders unsaid

  unfoldable pub Stopped : Stop → Stand T → Receiver Body → List (Sender Body) → Type 0
  Stopped stop old inbox senders = Stopping stop old inbox senders
