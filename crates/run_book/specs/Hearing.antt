-- What a letter to the driver makes of its book.
use Rattle.std.specs.Prelude.{◌≡◌, ℕ, ◌-◌, List, Option, None, Some}
use Rattle.node_link.specs.declared.body.Body.{Body}
use Rattle.node_link.specs.declared.body.Body.TheVariants as says
use Rattle.node_link.specs.declared.body.RootAnswered.{RootAnswered}
use Rattle.task_events.specs.declared.request.ScrollAsk.{ScrollAsk}
use Rattle.run_book.specs.declared.book.Book.{Book}
use Rattle.run_book.specs.declared.contexts.Contexts.{Contexts}
use Rattle.run_book.specs.declared.entry.Entry.{Entry}
use Rattle.run_book.specs.declared.entry.State.{State}
use Rattle.run_book.specs.Answering.{IsToState, after_cancelled, after_named, after_not_found, after_root, after_rows, root_awaited}
use Rattle.run_book.specs.Contexts.{Opens, after_page}
use Rattle.run_book.specs.Entries.{Turned, entry_of}
use Rattle.run_book.specs.Listing.{part_of}

abbrev pub with_state : (State → State) → Entry → Entry
with_state turn e = record e { state = turn e.state }

-- its command waits for this answer of a root
abbrev pub IsAwaitedBy : Option Entry → RootAnswered → Type 0
IsAwaitedBy None answered = ⊥
IsAwaitedBy (Some e) answered = IsToState e.state answered

-- The answer of a root turns the entry of its command, which waits for it, and is passed over where that does not.
pub record HearsRoot (answered : RootAnswered) (v w : List Entry) : Type 0 where
  pub taken : IsAwaitedBy (entry_of v answered.place.command) answered → Turned (with_state (after_root answered.reply)) (answered.place.command - 1) v w
  pub passed : (IsAwaitedBy (entry_of v answered.place.command) answered → ⊥) → w ≡ v

module _ (nodes workers : ℕ) where
  -- The letter is about one command, of which it turns the entry; any other letter turns none.
  abbrev pub Hears : Body → List Entry → List Entry → Type 0
  Hears (says.Root command task) v w = Turned (λ e. record e { root = Some task }) (command - 1) v w
  Hears (says.RootAnswer answered) v w = HearsRoot answered v w
  Hears (says.Rows node worker command rows) v w = Turned (with_state (after_rows (part_of nodes workers node worker) rows)) (command - 1) v w
  Hears (says.AnswerPlaced cancel task) v w = Turned (with_state (λ s. after_cancelled s task None)) (cancel - 1) v w
  Hears (says.AnswerDone cancel task receipt) v w = Turned (with_state (λ s. after_cancelled s task (Some receipt))) (cancel - 1) v w
  Hears (says.NotFound cancel) v w = Turned (with_state after_not_found) (cancel - 1) v w
  Hears (says.Named node cancel tasks) v w = Turned (with_state (after_named node tasks)) (cancel - 1) v w
  Hears _ v w = w ≡ v

-- a root that ended gives the context back of which it was sent a page, and else it may have opened its own
abbrev pub by_root : Option (Option ScrollAsk) → Contexts → ℕ → RootAnswered → Contexts → Type 0
by_root (Some (Some ask)) contexts now answered after = after ≡ after_page contexts now ask answered.reply
by_root (Some None) contexts now answered after = Opens contexts now answered.place.command answered.request answered.reply after
by_root None contexts now answered after = after ≡ contexts

abbrev pub by_entry : Option Entry → Contexts → ℕ → RootAnswered → Contexts → Type 0
by_entry None contexts now answered after = after ≡ contexts
by_entry (Some e) contexts now answered after = by_root (root_awaited e.state) contexts now answered after

-- the contexts after the answer of a root, where its command waits for it
pub record EndsRoot {W : Type 0} (answered : RootAnswered) (book : Book W) (after : Contexts) : Type 0 where
  pub taken : IsAwaitedBy (entry_of book.entries.items answered.place.command) answered → by_entry (entry_of book.entries.items answered.place.command) book.contexts book.clock answered after
  pub passed : (IsAwaitedBy (entry_of book.entries.items answered.place.command) answered → ⊥) → after ≡ book.contexts

-- the contexts after a letter
abbrev pub ContextsAfter : {W : Type 0} → Body → Book W → Contexts → Type 0
ContextsAfter (says.RootAnswer answered) book after = EndsRoot answered book after
ContextsAfter _ book after = after ≡ book.contexts
