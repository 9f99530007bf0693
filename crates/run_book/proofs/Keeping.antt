-- The book of a run keeps what it keeps, as a letter is heard and as a command begins.
use Rattle.std.proofs.Common.{◌≡◌, ◌⊎◌, inl, inr, ℕ, zero, suc, ◌+◌, ◌-◌, ◌<◌, ◌≤◌, Bool, List, [], ◌∷◌, ◌++◌, length, take, set, Option, None, Some, refl, sym, ap, subst, ◌∙◌, arith, length-append}
use Rattle.std.specs.Prelude.{slice_get, IsSome, option_and_then, ◌^◌}
use Rattle.std.proofs.lemmas.Bool.{cases_eq, cases_lt}
use Rattle.std.proofs.lemmas.Option.{slice_get_within}
use Rattle.reply_facts.specs.Settings.{Setting}
use Rattle.run_facts.specs.Cancels.{cancels_of}
use Rattle.run_facts.specs.Inboxes.{IsPoolSize}
use Rattle.script_lang.specs.declared.command.Command.{Command}
use Rattle.run_book.specs.declared.book.Book.{Book}
use Rattle.run_book.specs.declared.entry.Entry.{Entry}
use Rattle.run_book.specs.declared.entry.State.{State}
use Rattle.run_book.specs.declared.entry.Answer.{Answer}
use Rattle.run_book.specs.declared.entry.State.TheVariants as states
use Rattle.line_print.specs.RunLines.{IsPrintable}
use Rattle.line_print.specs.declared.reply.LineReply.{LineReply}
use Rattle.line_print.specs.declared.reply.LineReply.TheVariants as replies
use Rattle.script_lang.specs.Fits.{Fits}
use Rattle.run_book.specs.Answering.{answer_in}
use Rattle.run_book.specs.Contexts.{AreOpened}
use Rattle.run_book.specs.Notes.{IsNote, IsNoteAt, cancel_in, moment_after, tick_of}
use Rattle.run_book.specs.Entries.{AreEntries, CanDrive, IsState, Keeps, SameRun, SameTime, Turned, entry_of, is_known_to, parts_in}
use Rattle.std.specs.FinMap.{empty}
use Rattle.run_book.proofs.Opened.{none_opened}
use Rattle.run_book.proofs.Places.{at_end, before_end, length_kept, past_end, put_elsewhere, put_there}
use Rattle.run_book.proofs.Sums.{fits_at, moment_fits, next_moment}

pub same_run : {W : Type 0} (u v w : Book W) → SameRun u v → SameRun v w → SameRun u w
same_run u v w first second = record { nodes = second.nodes ∙ first.nodes; workers = second.workers ∙ first.workers; script = second.script ∙ first.script; known = second.known ∙ first.known }

pub same_time : {W : Type 0} (u v w : Book W) → SameTime u v → SameTime v w → SameTime u w
same_time u v w first second = record { run = same_run u v w first.run second.run; paging = second.paging ∙ first.paging; clock = second.clock ∙ first.clock }

-- no command has begun
pub none_begun : {W : Type 0} (cancels : ℕ → Type 0) (run : Setting) (book : Book W) → CanDrive cancels run book.nodes book.script.now → IsPoolSize book.workers → book.entries.items ≡ [] → book.clock ≡ 0 → book.contexts ≡ record { table = empty; openers = empty } → Keeps cancels run book
none_begun cancels run book can pool none zero_yet no_context = record {
  can = can;
  pool = pool;
  begun = rw none (omega arith);
  each = λ place e c there named. absurd (let it = rw none at there in cc);
  clock = rw none zero_yet;
  contexts = subst (AreOpened run) (sym no_context) (none_opened run);
}

-- entries of which one is turned, to a state that fits
turned_fit : (allowed : ℕ → Type 0) (run : Setting) (known : List ℕ → Bool) (script : List Command) (parts : ℕ) (v w : List Entry) (place : ℕ) (turn : Entry → Entry)
    → ((c : Command) (e : Entry) → slice_get v place ≡ Some e → slice_get script place ≡ Some c → IsState allowed run known script parts (place + 1) c e.state → IsState allowed run known script parts (place + 1) c (turn e).state)
    → Turned turn place v w → AreEntries allowed run known script parts v → AreEntries allowed run known script parts w
turned_fit allowed run known script parts v w place turn keeps turned are = λ at e c there named. by_old at e c there named (slice_get v place) refl
  where
    by_place : (old : Entry) → slice_get v place ≡ Some old → w ≡ set v place (turn old) → (at : ℕ) (e : Entry) (c : Command) → slice_get w at ≡ Some e → slice_get script at ≡ Some c → (at ≡ place) ⊎ (at ≡ place → ⊥) → IsState allowed run known script parts (at + 1) c e.state
    by_place old there new at e c here named (inl same) =
        let it : slice_get (set v place (turn old)) place ≡ Some e = sym (ap (λ (l : List Entry). slice_get l place) new) ∙ ap (slice_get w) (sym same) ∙ here in
        let is : e ≡ turn old = put_there v place (turn old) e it in
        let own : slice_get script place ≡ Some c = ap (slice_get script) (sym same) ∙ named in
        let turned_state = subst (λ (x : Entry). IsState allowed run known script parts (place + 1) c x.state) (sym is) (keeps c old there own (are place old c there own)) in
        subst (λ (i : ℕ). IsState allowed run known script parts (i + 1) c e.state) (sym same) turned_state
    by_place old there new at e c here named (inr apart) =
        are at e c (sym (put_elsewhere v place at (turn old) apart) ∙ sym (ap (λ (l : List Entry). slice_get l at) new) ∙ here) named

    by_old : (at : ℕ) (e : Entry) (c : Command) → slice_get w at ≡ Some e → slice_get script at ≡ Some c → (o : Option Entry) → slice_get v place ≡ o → IsState allowed run known script parts (at + 1) c e.state
    by_old at e c here named None none = are at e c (sym (ap (λ (l : List Entry). slice_get l at) (turned.none none)) ∙ here) named
    by_old at e c here named (Some old) there = by_place old there (turned.there old there) at e c here named (cases_eq at place)

turned_length : (v w : List Entry) (place : ℕ) (turn : Entry → Entry) → Turned turn place v w → length w ≡ length v
turned_length v w place turn turned = by_old (slice_get v place) refl
  where
    by_old : (o : Option Entry) → slice_get v place ≡ o → length w ≡ length v
    by_old None none = ap length (turned.none none)
    by_old (Some old) there = ap length (turned.there old there) ∙ length_kept v place (turn old)

module _ {W : Type 0} (cancels : ℕ → Type 0) (run : Setting) (v w : Book W) where
  known_same : SameRun v w → is_known_to w ≡ is_known_to v
  known_same same = ap (λ known. λ index. is_known_to (record v { known = known }) index) same.known

  -- the entry at a place is turned
  pub turned_at : (place : ℕ) (turn : Entry → Entry)
      → ((c : Command) (e : Entry) → slice_get v.entries.items place ≡ Some e → slice_get v.script.now place ≡ Some c → IsState (cancels_of cancels) run (is_known_to v) v.script.now (parts_in v) (place + 1) c e.state → IsState (cancels_of cancels) run (is_known_to v) v.script.now (parts_in v) (place + 1) c (turn e).state)
      → Turned turn place v.entries.items w.entries.items → AreOpened run w.contexts → SameTime v w → Keeps cancels run v → Keeps cancels run w
  turned_at place turn fits turned opened same keeps =
      let many : length w.entries.items ≡ length v.entries.items = turned_length v.entries.items w.entries.items place turn turned in
      let script : w.script.now ≡ v.script.now = ap (λ s. s.now) same.run.script in
      record {
        can = rw (same.run.nodes, script) keeps.can;
        pool = subst IsPoolSize (sym same.run.workers) keeps.pool;
        begun = rw (many, script) keeps.begun;
        each = rw (script, known_same same.run, same.run.nodes, same.run.workers) (turned_fit (cancels_of cancels) run (is_known_to v) v.script.now (parts_in v) v.entries.items w.entries.items place turn fits turned keeps.each);
        clock = rw (same.clock, many, script) keeps.clock;
        contexts = opened;
      }

  -- a letter is heard that changes no context
  pub heard : (place : ℕ) (turn : Entry → Entry)
      → ((known : List ℕ → Bool) (script : List Command) (parts k : ℕ) (c : Command) (e : Entry) → IsState (cancels_of cancels) run known script parts k c e.state → IsState (cancels_of cancels) run known script parts k c (turn e).state)
      → Turned turn place v.entries.items w.entries.items → w.contexts ≡ v.contexts → SameTime v w → Keeps cancels run v → Keeps cancels run w
  heard place turn fits turned contexts same keeps = turned_at place turn (λ c e there at. fits (is_known_to v) v.script.now (parts_in v) (place + 1) c e) turned (subst (AreOpened run) (sym contexts) keeps.contexts) same keeps

  -- the next command begins
  pub begun : (entry : Entry) (c : Command) → slice_get v.script.now (length v.entries.items) ≡ Some c → IsState (cancels_of cancels) run (is_known_to v) v.script.now (parts_in v) (length v.entries.items + 1) c entry.state
      → w.entries.items ≡ v.entries.items ++ entry ∷ [] → w.clock ≡ v.clock + tick_of c → AreOpened run w.contexts → SameRun v w → Keeps cancels run v → Keeps cancels run w
  begun entry c there fits new clock opened same keeps =
      let many : length w.entries.items ≡ length v.entries.items + 1 = ap length new ∙ length-append v.entries.items (entry ∷ []) in
      let script : w.script.now ≡ v.script.now = ap (λ s. s.now) same.script in
      let inside = slice_get_within v.script.now (length v.entries.items) c there in
      record {
        can = rw (same.nodes, script) keeps.can;
        pool = subst IsPoolSize (sym same.workers) keeps.pool;
        begun = rw (many, script) (omega (arith, inside));
        each = rw (script, known_same same, same.nodes, same.workers, new) each_fits;
        clock = clock ∙ ap (λ (n : ℕ). n + tick_of c) keeps.clock ∙ sym (rw (many, script) (next_moment v.script.now (length v.entries.items) c there));
        contexts = opened;
      }
    where
      by_place : (at : ℕ) (e : Entry) (d : Command) → slice_get (v.entries.items ++ entry ∷ []) at ≡ Some e → slice_get v.script.now at ≡ Some d → (at < length v.entries.items) ⊎ (length v.entries.items ≤ at) → (at ≡ length v.entries.items) ⊎ (at ≡ length v.entries.items → ⊥) → IsState (cancels_of cancels) run (is_known_to v) v.script.now (parts_in v) (at + 1) d e.state
      by_place at e d here named (inl low) other = keeps.each at e d (sym (before_end v.entries.items entry at low) ∙ here) named
      by_place at e d here named (inr high) (inl same) =
          let is : entry ≡ e = (let it : Some entry ≡ Some e = sym (at_end v.entries.items entry) ∙ ap (slice_get (v.entries.items ++ entry ∷ [])) (sym same) ∙ here in cc) in
          let of : c ≡ d = (let it : Some c ≡ Some d = sym there ∙ ap (slice_get v.script.now) (sym same) ∙ named in cc) in
          rw (same, ← is, ← of) fits
      by_place at e d here named (inr high) (inr apart) = absurd (past_end v.entries.items entry e at (omega (arith, high, apart)) here)

      each_fits : AreEntries (cancels_of cancels) run (is_known_to v) v.script.now (parts_in v) (v.entries.items ++ entry ∷ [])
      each_fits = λ at e d here named. by_place at e d here named (cases_lt at (length v.entries.items)) (cases_eq at (length v.entries.items))

-- a moment that a note tells is not large
module _ (allowed : ℕ → Type 0) (run : Setting) (known : List ℕ → Bool) (script : List Command) where
  prints : (k : ℕ) (c : Command) (reply : LineReply) (receipt : _) (page : _) → ((j : ℕ) → moment_after (take j script) < 2 ^ 43) → IsNote allowed run known script k c reply receipt page → IsPrintable reply
  prints k c (replies.Task reply) receipt page low is = tt
  prints k c (replies.BadBody fault) receipt page low is = tt
  prints k c (replies.BadReindex fault) receipt page low is = tt
  prints k c (replies.NoIndex index) receipt page low is = tt
  prints k c (replies.NoContext context) receipt page low is = tt
  prints k c (replies.NotFound task) receipt page low is = tt
  prints k c (replies.Cancelled tasks waited) receipt page low is = tt
  prints k c (replies.Cleared freed) receipt page low is = tt
  prints k c (replies.Now now) receipt page low is = tt
  prints k c (replies.Listed rows now) receipt page low is = subst (λ (n : ℕ). n < 2 ^ 43) (sym is.2) (low k)
  prints k c replies.Answered receipt page low is = tt

answered_is : (s : State) (a : Answer) → answer_in s ≡ Some a → s ≡ states.Answered a
answered_is (states.Waits awaited) a e = absurd (cc)
answered_is (states.Answered answer) a e = (let same : answer ≡ a = cc in ap states.Answered same)
answered_is states.Told a e = absurd (cc)

pub within_some : {A : Type 0} (xs : List A) (i : ℕ) → i < length xs → (x : A) × (slice_get xs i ≡ Some x)
within_some [] i inside = absurd (omega (arith, inside))
within_some (x ∷ xs) zero inside = (x, refl)
within_some (x ∷ xs) (suc i) inside = within_some xs i (omega (arith, inside))

module _ {W : Type 0} (cancels : ℕ → Type 0) (run : Setting) (book : Book W) where
  -- the entry whose answer is taken, and its command
  note_at : (place : ℕ) (a : Answer) → Keeps cancels run book → option_and_then (λ e. answer_in e.state) (slice_get book.entries.items place) ≡ Some a
      → (c : Command) × (slice_get book.script.now place ≡ Some c) × IsNote (cancels_of cancels) run (is_known_to book) book.script.now (place + 1) c a.reply a.receipt a.page
  note_at place a keeps is = by_entry (slice_get book.entries.items place) refl
    where
      by_command : (e : Entry) → slice_get book.entries.items place ≡ Some e → e.state ≡ states.Answered a → (d : (c : Command) × (slice_get book.script.now place ≡ Some c)) → (c : Command) × (slice_get book.script.now place ≡ Some c) × IsNote (cancels_of cancels) run (is_known_to book) book.script.now (place + 1) c a.reply a.receipt a.page
      by_command e there state d = (d.0, d.1, subst (λ (s : State). IsState (cancels_of cancels) run (is_known_to book) book.script.now (parts_in book) (place + 1) d.0 s) state (keeps.each place e d.0 there d.1))

      by_entry : (o : Option Entry) → slice_get book.entries.items place ≡ o → (c : Command) × (slice_get book.script.now place ≡ Some c) × IsNote (cancels_of cancels) run (is_known_to book) book.script.now (place + 1) c a.reply a.receipt a.page
      by_entry None none = let it = rw none at is in absurd (cc)
      by_entry (Some e) there =
          let state = answered_is e.state a (rw there at is) in
          let low = slice_get_within book.entries.items place e there in
          let begun = keeps.begun in
          by_command e there state (within_some book.script.now place (omega (arith, low, begun)))

  pub note_of : (command place : ℕ) (a : Answer) → Keeps cancels run book → option_and_then (λ e. answer_in e.state) (entry_of book.entries.items command) ≡ Some a → place + 1 ≡ command
      → IsNoteAt (cancels_of cancels) run (is_known_to book) book.script.now place (record { command = command; reply = a.reply; receipt = a.receipt; page = a.page })
  note_of command place a keeps is number =
      let here : command - 1 ≡ place = omega (arith, number) in
      let it = note_at place a keeps (rw here at is) in
      record { number = sym number; command = it.0; there = it.1; is = it.2 }

  lows : Keeps cancels run book → (j : ℕ) → moment_after (take j book.script.now) < 2 ^ 43
  lows keeps j = moment_fits book.nodes book.script.now j keeps.can.fit keeps.can.few

  pub prints_of : (command : ℕ) (a : Answer) → Keeps cancels run book → option_and_then (λ e. answer_in e.state) (entry_of book.entries.items command) ≡ Some a → IsPrintable a.reply
  prints_of command a keeps is =
      let it = note_at (command - 1) a keeps is in
      prints (cancels_of cancels) run (is_known_to book) book.script.now (command - 1 + 1) it.0 a.reply a.receipt a.page (lows keeps) it.2

  -- ---- what the next command needs

  -- it stands in the script by its number
  pub at_number : (k : ℕ) (c : Command) → k ≡ length book.entries.items + 1 → slice_get book.script.now (length book.entries.items) ≡ Some c → slice_get book.script.now (k - 1) ≡ Some c
  at_number k c is there = let place : k - 1 ≡ length book.entries.items = omega (arith, is) in ap (slice_get book.script.now) place ∙ there

  pub number_fits : (k : ℕ) (c : Command) → Keeps cancels run book → k ≡ length book.entries.items + 1 → slice_get book.script.now (length book.entries.items) ≡ Some c → (1 ≤ k) × (k ≤ 65535)
  number_fits k c keeps is there =
      let inside = slice_get_within book.script.now (length book.entries.items) c there in
      let few = keeps.can.few in
      (omega (arith, is), omega (arith, is, inside, few))

  pub command_fits : (c : Command) → Keeps cancels run book → slice_get book.script.now (length book.entries.items) ≡ Some c → (earlier : List Command) × Fits book.nodes earlier c
  command_fits c keeps there = fits_at book.nodes [] book.script.now (length book.entries.items) c keeps.can.fit there

  pub cancel_lawful : (k : ℕ) (c : Command) → Keeps cancels run book → k ≡ length book.entries.items + 1 → slice_get book.script.now (length book.entries.items) ≡ Some c → IsSome (cancel_in c) → cancels_of cancels k
  cancel_lawful k c keeps is there cancel = (number_fits k c keeps is there, subst cancels (sym is) (keeps.can.named (length book.entries.items) c there cancel))

  pub clock_fits : (c : Command) → Keeps cancels run book → slice_get book.script.now (length book.entries.items) ≡ Some c → book.clock + tick_of c < 2 ^ 64
  clock_fits c keeps there =
      let next = next_moment book.script.now (length book.entries.items) c there in
      let low = lows keeps (length book.entries.items + 1) in
      let clock = keeps.clock in
      let high : book.clock + tick_of c < 18446744073709551616 = omega (arith, next, low, clock) in
      high
