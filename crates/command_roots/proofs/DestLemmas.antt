-- The indices to which commands write, one command more at a time.
use Rattle.std.proofs.Common.{◌≡◌, ℕ, ◌+◌, ◌<◌, List, [], ◌∷◌, ◌++◌, take, length, get_or, sym, ap, ◌∙◌}
use Rattle.std.proofs.lemmas.List.{take_more}
use Rattle.std.proofs.lemmas.List.Elements.{filter_map-append}
use Rattle.script_lang.specs.declared.command.Command.{Command}
use Rattle.command_roots.specs.Known.{dest_of, dests_of}

pub dests_more : (commands : List Command) (i : ℕ) (command : Command) → i < length commands → command ≡ get_or commands i command
    → dests_of (take (i + 1) commands) ≡ dests_of (take i commands) ++ dests_of (command ∷ [])
dests_more commands i command here is =
    ap dests_of (take_more commands i command here ∙ ap (λ x. take i commands ++ x ∷ []) (sym is)) ∙ filter_map-append dest_of (take i commands) (command ∷ [])
