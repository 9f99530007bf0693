use Rattle.std.proofs.Common.{◌≡◌, refl, ap, ◌∙◌}
use Rattle.std.specs.FinMap.{remove}
use Rattle.cancel_core.specs.Fields.{map_of}
use Rattle.control_worker.specs.View.{View, view_of}
use Rattle.control_worker.proofs.Parents.{put_back}
use Rattle.control_worker.proofs.Belonging.{together_put, together_unmoved, not_banned}
use Rattle.control_worker.proofs.Banning.{makes_full, not_known}
use Rattle.control_worker.proofs.bans.place_ban.Goals as goal

pub ban-requires-clause-new : goal.ban-requires-clause-new
ban-requires-clause-new g c =
    not_banned _ _ _ (view_of c.args.core.now) (view_of c.args.core.now) c.args.ban.parent c.requires.together (not_known c.args.ban.parent (view_of c.args.core.now) c.requires.new).0

pub returns-in-Ok-clause-together : goal.returns-in-Ok-clause-together
returns-in-Ok-clause-together g c =
    together_put _ _ _ _ _ (view_of c.args.core.now) _ c.in-Ok.place c.args.ban.cancel c.args.ban.parent c.requires.together c.in-Ok.ensures.put.1 c.in-Ok.ensures.size.0 c.in_ok-note_ban.ensures.ok refl refl refl

pub returns-in-Err-clause-together : goal.returns-in-Err-clause-together
returns-in-Err-clause-together g c =
    let p = c.args.ban.parent in
    let v = view_of c.args.core.now in
    let same : map_of c.forget_ban.new.bans ≡ v.bans = c.forget_ban.ensures ∙ ap (λ m. remove m p) c.in_ok-note_ban.ensures.ok ∙ put_back v.bans p c.args.ban.cancel (not_known p v c.requires.new).0 in
    together_unmoved _ _ _ _ _ v _ c.requires.together c.in-Err.ensures.full.0 c.in-Err.ensures.size.0 refl same refl refl

pub returns-in-Err-clause-did : goal.returns-in-Err-clause-did
returns-in-Err-clause-did g c = λ given.
    let p = c.args.ban.parent in
    let v = view_of c.args.core.now in
    let same : map_of c.forget_ban.new.bans ≡ v.bans = c.forget_ban.ensures ∙ ap (λ m. remove m p) c.in_ok-note_ban.ensures.ok ∙ put_back v.bans p c.args.ban.cancel (not_known p v c.requires.new).0 in
    let left : View = record v { bans = map_of c.forget_ban.new.bans } in
    makes_full g.B.ControlBoard.rests c.args.board.now c.ban.new.self v left given c.args.ban c.in-Err.field-0 c.in-Err.ensures.rests (λ i. record v { bans = same i })
