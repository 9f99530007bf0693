use Rattle.std.proofs.Common.{◌≡◌, ◌+◌, ◌-◌, ◌<◌, ◌≤◌, length, sym, ◌∙◌, arith}
use Rattle.world_steps.proofs.Chosen.{as_many_sent, can_move, message_chosen, listing_chosen, task_chosen}
use Rattle.world_steps.proofs.shuffling.chosen.Goals as goal

pub returns-then-at-messages-clause-chosen : goal.returns-then-at-messages-clause-chosen
returns-then-at-messages-clause-chosen c =
    let s = c.args.state.now in
    let ready = c.args.ready.now in
    let can = can_move s.cluster s.corpus.now s.script.now s.history s.listings ready.tasks c.requires.tied.cancels.listings_are c.requires.known.tasks c.len-listings.ensures.ordered c.len.ensures.ordered in
    let sent = c.len-messages.ensures ∙ as_many_sent s.history s.flight _ c.requires.tied.ties.sent in
    message_chosen s.cluster s.corpus.now s.script.now s.history s.listings.keys ready.tasks.keys can c.args.chance c.len-messages.result c.len-listings.result c.len.result c.chosen_of-at.result sent c.len-listings.ensures.len c.len.ensures.len c.chosen_of-at.ensures
    c.if-at-messages.true

pub returns-then-place-listings-clause-chosen : goal.returns-then-place-listings-clause-chosen
returns-then-place-listings-clause-chosen c =
    let s = c.args.state.now in
    let ready = c.args.ready.now in
    let can = can_move s.cluster s.corpus.now s.script.now s.history s.listings ready.tasks c.requires.tied.cancels.listings_are c.requires.known.tasks c.len-listings.ensures.ordered c.len.ensures.ordered in
    let sent = c.len-messages.ensures ∙ as_many_sent s.history s.flight _ c.requires.tied.ties.sent in
    let after : c.len-messages.result ≤ c.chosen_of-at.result = omega (arith, c.if-at-messages.false) in
    let is : c.chosen_of-at.result ≡ c.len-messages.result + (c.chosen_of-at.result - c.len-messages.result) = omega (arith, after) in
    listing_chosen s.cluster s.corpus.now s.script.now s.history s.listings.keys ready.tasks.keys can c.args.chance c.len-messages.result c.len-listings.result c.len.result c.chosen_of-at.result sent c.len-listings.ensures.len c.len.ensures.len c.chosen_of-at.ensures
    (c.chosen_of-at.result - c.len-messages.result) c.in_ok-nth.field-0.now is (sym c.in_ok-nth.ensures.nth)

pub returns-clause-chosen : goal.returns-clause-chosen
returns-clause-chosen c =
    let s = c.args.state.now in
    let ready = c.args.ready.now in
    let can = can_move s.cluster s.corpus.now s.script.now s.history s.listings ready.tasks c.requires.tied.cancels.listings_are c.requires.known.tasks c.len-listings.ensures.ordered c.len.ensures.ordered in
    let sent = c.len-messages.ensures ∙ as_many_sent s.history s.flight _ c.requires.tied.ties.sent in
    let after : c.len-messages.result ≤ c.chosen_of-at.result = omega (arith, c.if-at-messages.false) in
    let later : c.len-listings.result ≤ c.chosen_of-at.result - c.len-messages.result = omega (arith, c.if-place-listings.false) in
    let is : c.chosen_of-at.result ≡ c.len-messages.result + (c.len-listings.result + ((c.chosen_of-at.result - c.len-messages.result) - c.len-listings.result)) = omega (arith, after, later) in
    task_chosen s.cluster s.corpus.now s.script.now s.history s.listings.keys ready.tasks.keys can c.args.chance c.len-messages.result c.len-listings.result c.len.result c.chosen_of-at.result sent c.len-listings.ensures.len c.len.ensures.len c.chosen_of-at.ensures
    ((c.chosen_of-at.result - c.len-messages.result) - c.len-listings.result) c.in_ok-nth-2.field-0.now is (sym c.in_ok-nth-2.ensures.nth)
