-- Counts of what is out.
use Rattle.std.proofs.Common.{◌≡◌, ◌≢◌, ℕ, ◌+◌, ◌<◌, List, length, get_or, take, eq-eqb, ne_eqb, not, ap}
use Rattle.std.specs.Prelude.{count_by}
use Rattle.std.proofs.lemmas.List.Sums.{count_by_more_yes, count_by_more_no}
use Rattle.race_board.specs.Board.{no_hold, no_ban, is_out}
use Rattle.race_board.specs.Closing.{is_banned}
use Rattle.race_board.specs.declared.views.Hold.{Hold}
use Rattle.race_board.specs.declared.views.Ban.{Ban}

pub ticket_more : (hs : List Hold) (i : ℕ) → i < length hs → (get_or hs i no_hold).number ≢ 0 → count_by is_out (take (i + 1) hs) ≡ count_by is_out (take i hs) + 1
ticket_more hs i l n = count_by_more_yes is_out hs i no_hold l (ap not (ne_eqb (get_or hs i no_hold).number 0 n))

pub ticket_none : (hs : List Hold) (i : ℕ) → i < length hs → (get_or hs i no_hold).number ≡ 0 → count_by is_out (take (i + 1) hs) ≡ count_by is_out (take i hs)
ticket_none hs i l e = count_by_more_no is_out hs i no_hold l (ap not (eq-eqb (get_or hs i no_hold).number 0 e))

pub ban_more : (bs : List Ban) (j : ℕ) → j < length bs → (get_or bs j no_ban).parent ≢ 0 → count_by is_banned (take (j + 1) bs) ≡ count_by is_banned (take j bs) + 1
ban_more bs j l n = count_by_more_yes is_banned bs j no_ban l (ap not (ne_eqb (get_or bs j no_ban).parent 0 n))

pub ban_none_more : (bs : List Ban) (j : ℕ) → j < length bs → (get_or bs j no_ban).parent ≡ 0 → count_by is_banned (take (j + 1) bs) ≡ count_by is_banned (take j bs)
ban_none_more bs j l e = count_by_more_no is_banned bs j no_ban l (ap not (eq-eqb (get_or bs j no_ban).parent 0 e))
