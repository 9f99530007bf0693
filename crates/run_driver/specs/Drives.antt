-- What comes of driving a script.
use Rattle.std.specs.Prelude.{◌≡◌, ℕ, List, Bool, Some, All, length, slice_get}
use Rattle.line_print.specs.RunLines.{IsPrintable}
use Rattle.reply_facts.specs.Settings.{Setting}
use Rattle.run_facts.specs.Cancels.{cancels_of}
use Rattle.script_lang.specs.declared.command.Command.{Command}
use Rattle.run_book.specs.declared.entry.LineNote.{LineNote}
use Rattle.run_book.specs.Notes.{IsNoteAt}

-- So many first commands have their notes, in order; each is what such a command may come to, and can be printed.
pub record AreFirst (cancels : ℕ → Type 0) (run : Setting) (known : List ℕ → Bool) (script : List Command) (many : ℕ) (notes : List LineNote) : Type 0 where
  pub count : length notes ≡ many
  pub printable : All (λ (note : LineNote). IsPrintable note.reply) notes
  pub each : (place : ℕ) (note : LineNote) → slice_get notes place ≡ Some note → IsNoteAt (cancels_of cancels) run known script place note

-- Each command has its note.
abbrev pub AreNotes : (ℕ → Type 0) → Setting → (List ℕ → Bool) → List Command → List LineNote → Type 0
AreNotes cancels run known script notes = AreFirst cancels run known script (length script) notes
