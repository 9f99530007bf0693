-- It may end where all have left and the core knows of no ban, and at rest the core knows of none.
use Rattle.std.proofs.Common.{◌≡◌, false, rules}
use Rattle.node_worker.specs.Control.{seen}
use Rattle.node_worker.proofs.Controlling.{rests_clear, rests_known}
use Rattle.node_worker.proofs.control_state.ControlState.has_done.Goals as goal
use Rattle.node_worker.proofs.control_state.ControlState.has_done.Goals.{then-not-self-via-then-not-self, then-not-self-via-else-not-self+then-has_ban, then-not-self-via-else-not-self+else-has_ban+then-keeps_back}

pub returns-then-not-self : goal.returns-then-not-self
returns-then-not-self g c =
    let bans = g.B.ControlBoard.bans in
    let slots = g.B.ControlBoard.slots c.args.self.now.board in
    let v = seen c.args.self.now in (
      (λ is. absurd (cc)),
      (λ rests. elim c.then-not-self.branch [
        | then-not-self-via-then-not-self w ↦ let said = rests.said in absurd (cc)
        | then-not-self-via-else-not-self+then-has_ban w ↦ let known : w.has_ban.result ≡ false = w.has_ban.ensures.1 (rests_known bans slots g.N.BoardName.allowed v c.requires.fits rests) in absurd (cc)
        | then-not-self-via-else-not-self+else-has_ban+then-keeps_back w ↦ let none : w.keeps_back.result ≡ false = w.keeps_back.ensures.1 rests.kept in absurd (cc)
      ]),
    )

pub returns : goal.returns
returns g c =
    let bans = g.B.ControlBoard.bans in
    let slots = g.B.ControlBoard.slots c.args.self.now.board in
    let v = seen c.args.self.now in (
      (λ is. rests_clear bans slots g.N.BoardName.allowed v c.requires.fits (search rules) (c.have_all_left.ensures.0 is) (c.has_ban.ensures.0 (search rules)) (c.keeps_back.ensures.0 (search rules))),
      (λ rests. c.have_all_left.ensures.1 rests.told),
    )
