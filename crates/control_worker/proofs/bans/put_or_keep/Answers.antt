use Rattle.std.proofs.Common.{refl}
use Rattle.control_worker.specs.View.{View, view_of}
use Rattle.control_worker.proofs.Belonging.{together_keeps, may_put}
use Rattle.control_worker.proofs.Banning.{all_kept}
use Rattle.control_worker.proofs.bans.put_or_keep.Goals as goal

pub returns-clause-together : goal.returns-clause-together
returns-clause-together g c =
    let v : View = view_of c.put_ban.new.core in
    let w : View = record v { kept = c.push_back.new.self.items } in
    let t = c.in_ok-put_ban.ensures.together in
    together_keeps _ _ g.N.BoardName.allowed v w t refl refl refl (all_kept g.N.BoardName.allowed v w c.args.ban (may_put _ _ g.N.BoardName.allowed v v t) c.requires.may_put c.in_ok-push_back.ensures.items)
