use Rattle.std.proofs.Common.{◌≡◌, List, [], ◌∷◌, sym, ap, ◌∙◌, subst}
use Rattle.node_worker.specs.Posts.{SentBut}
use Rattle.node_worker.specs.declared.post.Post.{Post}
use Rattle.node_worker.proofs.Sending.{none_sent, sent_on, sent_before}
use Rattle.node_worker.proofs.flush.flush.Goals as goal

pub loop-post-init : goal.loop-post-init
loop-post-init g c = none_sent c.args.senders.now.items c.args.kept.now.items

pub loop-post-preserved : goal.loop-post-preserved
loop-post-preserved g c =
    let post = c.in-Some.post in
    let rest = c.pop_front.new.self.items in
    let old = c.args.senders.now.items in
    let mid = c.loop-post.senders.items in
    let new = c.send_to.new.senders.items in
    let was : SentBut old c.args.kept.now.items mid (post ∷ rest) = subst (λ (l : List (Post g.row.L.Denot)). SentBut old c.args.kept.now.items mid l) c.in-Some.ensures.items c.loop-post.invariant in
    sent_on old mid new c.args.kept.now.items (post ∷ rest) rest was (sent_before mid new (post ∷ []) [] rest c.in_default-send_to.ensures)

pub returns-in-Err : goal.returns-in-Err
returns-in-Err g c =
    let post = c.in-Some.post in
    let rest = c.pop_front.new.self.items in
    let old = c.args.senders.now.items in
    let mid = c.loop-post.senders.items in
    let new = c.send_to.new.senders.items in
    let was : SentBut old c.args.kept.now.items mid (post ∷ rest) = subst (λ (l : List (Post g.row.L.Denot)). SentBut old c.args.kept.now.items mid l) c.in-Some.ensures.items c.loop-post.invariant in
    let back = c.in-Err.ensures in
    let now : SentBut old c.args.kept.now.items new (post ∷ rest) = sent_on old mid new c.args.kept.now.items (post ∷ rest) (post ∷ rest) was (sent_before mid new (post ∷ []) (post ∷ []) rest back.1) in
    let all : post ∷ rest ≡ c.push_front_reserved.new.self.items = ap (λ (p : Post g.row.L.Denot). p ∷ rest) (sym back.0) ∙ sym c.push_front_reserved.ensures.items in
    subst (λ (l : List (Post g.row.L.Denot)). SentBut old c.args.kept.now.items new l) all now
