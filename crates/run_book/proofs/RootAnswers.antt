-- The book keeps what it keeps by the answer of a root for which its command waits.
use Rattle.std.proofs.Common.{◌≡◌, ℕ, ◌+◌, ◌-◌, Option, None, Some, refl, subst, arith}
use Rattle.std.specs.Prelude.{slice_get}
use Rattle.std.proofs.lemmas.Option.{slice_get_within}
use Rattle.node_link.specs.Lawful.{IsLawfulRootAnswer}
use Rattle.node_link.specs.declared.body.RootAnswered.{RootAnswered}
use Rattle.reply_facts.specs.Letters.{IsAnswerAt}
use Rattle.reply_facts.specs.Settings.{Setting}
use Rattle.run_facts.specs.Cancels.{cancels_of}
use Rattle.script_lang.specs.declared.command.Command.{Command}
use Rattle.run_book.specs.declared.book.Book.{Book}
use Rattle.run_book.specs.declared.entry.Entry.{Entry}
use Rattle.run_book.specs.Answering.{IsToState, after_root}
use Rattle.run_book.specs.Contexts.{AreOpened, MayOpen, opening}
use Rattle.run_book.specs.Entries.{Keeps, SameTime, Turned, entry_of, is_known_to, parts_in}
use Rattle.run_book.specs.Hearing.{IsAwaitedBy, with_state}
use Rattle.run_book.proofs.Answers.{root_fits, root_opens}
use Rattle.run_book.proofs.Keeping.{turned_at, within_some}
use Rattle.run_book.proofs.StartLetters.{sought_is}

module _ {W : Type 0} (cancels : ℕ → Type 0) (run : Setting) (v : Book W) (a : RootAnswered) (lawful : IsLawfulRootAnswer (cancels_of cancels) a) (tells : IsAnswerAt run a.place a.request a.page a.reply) (keeps : Keeps cancels run v) (awaited : IsAwaitedBy (entry_of v.entries.items a.place.command) a) where
  abbrev at : ℕ
  at = a.place.command - 1

  to_state : (e : Entry) → slice_get v.entries.items at ≡ Some e → IsToState e.state a
  to_state e there = subst (λ o. IsAwaitedBy o a) there awaited

  pub root_heard : (w : Book W) → Turned (with_state (after_root a.reply)) at v.entries.items w.entries.items → AreOpened run w.contexts → SameTime v w → Keeps cancels run w
  root_heard w turned opened same = turned_at cancels run v w at (with_state (after_root a.reply))
      (λ c e there named fits. root_fits (cancels_of cancels) run (is_known_to v) v.script.now (parts_in v) (at + 1) c a lawful tells (sought_is run v.script.now keeps.can.setting a.place.command c named) e.state (to_state e there) fits)
      turned opened same keeps

  pub root_may_open : MayOpen run a.place.command (opening a.request a.reply)
  root_may_open = by_entry (slice_get v.entries.items at) refl
    where
      by_command : (e : Entry) → slice_get v.entries.items at ≡ Some e → (d : (c : Command) × (slice_get v.script.now at ≡ Some c)) → MayOpen run a.place.command (opening a.request a.reply)
      by_command e there d = root_opens (cancels_of cancels) run (is_known_to v) v.script.now (parts_in v) (at + 1) d.0 a lawful tells (sought_is run v.script.now keeps.can.setting a.place.command d.0 d.1) e.state (to_state e there) (keeps.each at e d.0 there d.1)

      by_entry : (o : Option Entry) → slice_get v.entries.items at ≡ o → MayOpen run a.place.command (opening a.request a.reply)
      by_entry None none = absurd (subst (λ o. IsAwaitedBy o a) none awaited)
      by_entry (Some e) there =
          let low = slice_get_within v.entries.items at e there in
          let begun = keeps.begun in
          by_command e there (within_some v.script.now at (omega (arith, low, begun)))
