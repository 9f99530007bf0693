-- What went through the inboxes of a cluster, which are numbered as those who have ends of them.
use Rattle.std.specs.Prelude.{◌≡◌, ◌≤◌, ◌<◌, ℕ, List, [], length, slice_get, slice_index_or, Some}
use Rattle.node_link.specs.declared.body.Body.{Body}
use Rattle.node_link.specs.declared.ends.Tally.{Tally}
use Rattle.node_link.specs.declared.rule.Tagged.{Tagged}
use Rattle.node_link.specs.Rule.{of, total}
use Rattle.node_link.specs.Inbox.{Begins}
use Rattle.node_worker.specs.Posts.{for_inbox}
use Rattle.node_worker.specs.Turns.{Turn, letters_given, posts_given}
use Rattle.node_worker.specs.Work.{letters}

-- The mail of one worker, or of the driver: what its inbox took, each letter with the number of its sender, and what it sent into each inbox, in order.
pub record Mail : Type 0 where
  pub took : List (Tagged Body)
  pub sent : List (List Body)

-- what it sent into the inbox of that number
abbrev pub into : ℕ → Mail → List Body
into inbox mail = slice_index_or mail.sent inbox []

module _ (all : List Mail) where
  -- The inbox of that number, of which this is told: it took of each sender a beginning of what that one sent there, in its order, and where as much was taken as was sent, all of it.
  pub record IsInbox (number : ℕ) (told : Tally) : Type 0 where
    pub own : Mail
    pub here : slice_get all number ≡ Some own
    pub order : (k : ℕ) (m : Mail) → slice_get all k ≡ Some m → Begins (of k own.took) (into number m)
    pub whole : told.sent ≡ told.taken → (k : ℕ) (m : Mail) → slice_get all k ≡ Some m → of k own.took ≡ into number m
    pub most : told.taken ≤ told.sent
    pub taken : told.taken ≡ length own.took
    pub sent : told.sent ≡ total (λ m. length (into number m)) all

  -- These turns are those of the worker of that number: they are over all letters that its inbox took, in order, and what they gave for each inbox is what it sent there, in order.
  pub record AreTurnsOf (number : ℕ) (turns : List Turn) : Type 0 where
    pub own : Mail
    pub here : slice_get all number ≡ Some own
    pub took : letters own.took ≡ letters_given turns
    pub sent : (inbox : ℕ) → inbox < length all → into inbox own ≡ for_inbox inbox (posts_given turns)

  -- the worker of that number: its turns, each made as such a worker makes them, and its inbox, of which this is told
  pub record IsWorker (number : ℕ) (Made : List Turn → Type 0) (told : Tally) : Type 0 where
    pub turns : List Turn
    pub made : Made turns
    pub are : AreTurnsOf number turns
    pub inbox : IsInbox number told
