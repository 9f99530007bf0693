-- The notes of all nodes, of what was dealt to them.
use Rattle.std.proofs.Common.{◌≡◌, ℕ, ◌+◌, List, [], ◌∷◌, ◌++◌, length, Some, refl, sym, ap, ◌∙◌, subst}
use Rattle.std.specs.Prelude.{slice_get}
use Rattle.std.specs.Global.{Vec}
use Rattle.node_link.specs.declared.ends.Tally.{Tally}
use Rattle.race_board.specs.declared.closing.Closed.{Closed}
use Rattle.run_facts.specs.Inboxes.{control_of, data_of, driver_of}
use Rattle.run_cluster.specs.declared.notes.NodeNote.{NodeNote}
use Rattle.run_cluster.specs.declared.places.Place.{Place}
use Rattle.run_cluster.specs.Places.{AreDealt, AreWide, inboxes_of}
use Rattle.run_cluster.specs.Notes.{note_of, IsNoteOf, AreNoted, AreNotesOf}
use Rattle.run_cluster.proofs.Dealing.{control_at, data_at, driver_at}
use Rattle.run_cluster.proofs.Mapping.{mapped_at}
use Rattle.run_cluster.proofs.Manning.{dealt_count}

module _ (workers : ℕ) (boards : List Closed) (inboxes : List Tally) (places : List (Place Closed Tally)) (driver : Tally) where
  one_note : AreDealt boards inboxes places driver → AreWide workers places → (k : ℕ) (p : Place Closed Tally) → slice_get places k ≡ Some p → IsNoteOf workers boards inboxes k (note_of k p)
  one_note dealt wide k p at = record {
    node = refl;
    board = ap (λ l. slice_get l k) (sym dealt.boards_are) ∙ mapped_at (λ q. q.board) places k p at;
    control = ap (λ l. slice_get l (control_of workers (k + 1))) (sym dealt.inboxes_are) ∙ control_at workers places (driver ∷ []) k p wide at;
    count = wide k p at;
    own = λ worker told there. ap (λ l. slice_get l (data_of workers (k + 1) worker)) (sym dealt.inboxes_are) ∙ data_at workers places (driver ∷ []) k p wide at worker told there;
  }

  pub notes_are : (nodes : Vec NodeNote) → AreDealt boards inboxes places driver → AreWide workers places → AreNoted places nodes.items → AreNotesOf workers boards inboxes (record { nodes = nodes; driver = driver })
  notes_are nodes dealt wide noted = record {
    count = noted.count ∙ dealt_count places boards dealt.boards_are;
    each = λ k note at.
        (let p = noted.each k note at in
        subst (λ (n : NodeNote). IsNoteOf workers boards inboxes k n) (sym p.2) (one_note dealt wide k p.0 p.1));
    driver = ap (λ l. slice_get l (driver_of workers (length boards))) (sym dealt.inboxes_are)
        ∙ ap (λ n. slice_get (inboxes_of places ++ driver ∷ []) (driver_of workers n)) (sym (dealt_count places boards dealt.boards_are))
        ∙ driver_at workers places driver wide;
  }
