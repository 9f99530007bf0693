-- Letters with the numbers of their inboxes.
use Rattle.std.specs.Prelude.{ℕ, Option, None, Some}
use Rattle.run_facts.specs.declared.Post.{Post}
use Rattle.node_worker.specs.declared.post.Post as addressed_post
use Rattle.run_facts.specs.Inboxes.{inbox_of}

abbrev pub with_inbox : {L : Type 0} → L → Option ℕ → Option (addressed_post.Post L)
with_inbox letter None = None
with_inbox letter (Some inbox) = Some (record { to = inbox; letter = letter })

-- a letter with the number of its inbox; there is none for a node or a worker that the cluster does not have
abbrev pub addressed : {L : Type 0} → ℕ → ℕ → Post L → Option (addressed_post.Post L)
addressed nodes workers post = with_inbox post.letter (inbox_of nodes workers post.to)
