use Rattle.std.proofs.Common.{◌≡◌, ◌∙◌, ◌||◌, ℕ, List, ap, subst}
use Rattle.std.specs.Prelude.{OnOk}
use Rattle.std.specs.List.{list_any}
use Rattle.std.specs.Str.{bytes_eq}
use Rattle.command_roots.specs.Known.{dests_of}
use Rattle.corpus_shards.specs.Stored.{was_there}
use Rattle.corpus_shards.proofs.Notes.{made_noted}
use Rattle.world_steps.proofs.world.know_dests.Goals as goal

pub returns-clause-known : goal.returns-clause-known
returns-clause-known c =
    let old = c.args.shards.now in
    let are = c.as_slice-2.ensures.value ∙ c.in_ok-dests.ensures ∙ ap dests_of c.as_slice.ensures in
    subst (λ (dests : List (List ℕ)). OnOk c.know_all.result ((index : List ℕ) → was_there c.know_all.new.self index ≡ was_there old index || list_any (bytes_eq index) dests)) are c.know_all.ensures.known

pub returns-clause-noted : goal.returns-clause-noted
returns-clause-noted c = made_noted c.args.shards.now c.know_all.new.self c.know_all.ensures.same c.know_all.ensures.stale
