use Rattle.std.proofs.Common.{◌≡◌, ◌++◌, ◌∷◌, [], ◌<◌, ◌+◌, ℕ, List, length, get_or, take, sym, ap, ◌∙◌, append_assoc}
use Rattle.std.proofs.lemmas.List.Elements.{filter_map-append}
use Rattle.cancel_core.specs.declared.act.Act.{Act}
use Rattle.world_moves.specs.declared.flight.Sent.{Sent}
use Rattle.world_moves.specs.Acts.{messages_in, message_in}
use Rattle.world_moves.proofs.AnswersOf.{one_more}
use Rattle.world_moves.proofs.performing.send_all.Goals as goal

more_sent : (node : ℕ) (acts : List Act) (i : ℕ) (act : Act) (old flight new : List Sent) → i < length acts → act ≡ get_or acts i act → flight ≡ old ++ messages_in node (take i acts)
    → new ≡ flight ++ messages_in node (act ∷ []) → new ≡ old ++ messages_in node (take (i + 1) acts)
more_sent node acts i act old flight new below is so_far sent =
    sent ∙ ap (λ xs. xs ++ messages_in node (act ∷ [])) so_far ∙ append_assoc old (messages_in node (take i acts)) (messages_in node (act ∷ []))
    ∙ ap (λ xs. old ++ xs) (sym (filter_map-append (message_in node) (take i acts) (act ∷ []))) ∙ ap (λ xs. old ++ messages_in node xs) (sym (one_more acts i act below is))

pub loop-act-preserved : goal.loop-act-preserved
loop-act-preserved c = record { sent = more_sent c.args.node c.args.acts.now c.loop-act.act-index c.act-item.result _ _ _ c.loop-act-test.true c.act-item.is c.loop-act.invariant.sent c.in-Ok.ensures.sent }
