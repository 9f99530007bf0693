-- The notes of the first commands, one more at a time.
use Rattle.std.proofs.Common.{◌≡◌, ◌⊎◌, inl, inr, ℕ, ◌+◌, ◌<◌, ◌≤◌, Bool, List, [], ◌∷◌, ◌++◌, length, Some, refl, sym, ap, subst, ◌∙◌, arith, length-append}
use Rattle.std.specs.Prelude.{slice_get}
use Rattle.std.proofs.lemmas.Bool.{cases_eq, cases_lt}
use Rattle.std.proofs.lemmas.List.Elements.{All-push}
use Rattle.line_print.specs.RunLines.{IsPrintable}
use Rattle.reply_facts.specs.Settings.{Setting}
use Rattle.run_facts.specs.Cancels.{cancels_of}
use Rattle.script_lang.specs.declared.command.Command.{Command}
use Rattle.run_book.specs.declared.entry.LineNote.{LineNote}
use Rattle.run_book.specs.declared.book.Book.{Book}
use Rattle.run_book.specs.Entries.{SameRun, is_known_to}
use Rattle.run_book.specs.Notes.{IsNoteAt}
use Rattle.run_book.proofs.Places.{at_end, before_end, past_end}
use Rattle.run_driver.specs.Drives.{AreFirst}

module _ (cancels : ℕ → Type 0) (run : Setting) (known : List ℕ → Bool) (script : List Command) where
  pub none_noted : AreFirst cancels run known script 0 []
  none_noted = record { count = refl; printable = λ k d inside. absurd (omega (arith, inside)); each = λ place note there. absurd (cc) }

  module _ (n : ℕ) (notes : List LineNote) (note : LineNote) (first : AreFirst cancels run known script n notes) (is : IsNoteAt (cancels_of cancels) run known script n note) where
    by_place : (place : ℕ) (m : LineNote) → slice_get (notes ++ note ∷ []) place ≡ Some m → (place < length notes) ⊎ (length notes ≤ place) → (place ≡ length notes) ⊎ (place ≡ length notes → ⊥) → IsNoteAt (cancels_of cancels) run known script place m
    by_place place m there (inl low) other = first.each place m (sym (before_end notes note place low) ∙ there)
    by_place place m there (inr high) (inl same) =
        let it : Some note ≡ Some m = sym (at_end notes note) ∙ ap (slice_get (notes ++ note ∷ [])) (sym same) ∙ there in
        let equal : note ≡ m = cc in
        rw (same ∙ first.count, ← equal) is
    by_place place m there (inr high) (inr apart) = absurd (past_end notes note m place (omega (arith, high, apart)) there)

    pub one_more : IsPrintable note.reply → AreFirst cancels run known script (n + 1) (notes ++ note ∷ [])
    one_more prints = record {
      count = length-append notes (note ∷ []) ∙ ap (λ (k : ℕ). k + 1) first.count;
      printable = All-push (λ (m : LineNote). IsPrintable m.reply) notes note first.printable prints;
      each = λ place m there. by_place place m there (cases_lt place (length notes)) (cases_eq place (length notes));
    }

-- what holds of a later book of a run holds of an earlier one
module _ {W : Type 0} (cancels : ℕ → Type 0) (run : Setting) (v w : Book W) (same : SameRun v w) where
  known_same : is_known_to w ≡ is_known_to v
  known_same = ap (λ known. λ index. is_known_to (record v { known = known }) index) same.known

  script_same : w.script.now ≡ v.script.now
  script_same = ap (λ script. script.now) same.script

  pub note_of : (place : ℕ) (note : LineNote) → IsNoteAt (cancels_of cancels) run (is_known_to w) w.script.now place note → IsNoteAt (cancels_of cancels) run (is_known_to v) v.script.now place note
  note_of place note is =
      subst (λ (s : List Command). IsNoteAt (cancels_of cancels) run (is_known_to v) s place note) script_same
      (subst (λ (k : List ℕ → Bool). IsNoteAt (cancels_of cancels) run k w.script.now place note) known_same is)
