use Rattle.std.proofs.Common.{ℕ, List, not, string_bytes, map, ap, ◌∙◌, refl}
use Rattle.shard_docs.specs.Seen.{has_name, with_name}
use Rattle.shard_docs.proofs.SeenLemmas.{name_of, key_among, names_with}
use Rattle.shard_docs.proofs.seen.Seen.insert.Goals as goal

pub returns-clause-told : goal.returns-clause-told
returns-clause-told c =
    let keys = c.self.inside.names.keys in
    let index = string_bytes c.in_ok-index.index in
    let id = string_bytes c.in_ok-id.id in
    rw (← c.self.view_is)
    (c.in_ok-is_new.ensures.added
    ∙ ap not
    (key_among index id keys ∙ ap (λ (i : List ℕ). has_name i id (map name_of keys)) c.in_ok-index.ensures.ok
    ∙ ap (λ (d : List ℕ). has_name c.args.index.now d (map name_of keys)) c.in_ok-id.ensures.ok))

pub returns-clause-ok : goal.returns-clause-ok
returns-clause-ok c =
    let keys = c.self.inside.names.keys in
    let index = string_bytes c.in_ok-index.index in
    let id = string_bytes c.in_ok-id.id in
    rw (c.in_ok-is_new.ensures.keys, ← c.self.view_is)
    (names_with index id keys (c.in_ok-index.index, c.in_ok-id.id) refl
    ∙ ap (λ (i : List ℕ). with_name i id (map name_of keys)) c.in_ok-index.ensures.ok
    ∙ ap (λ (d : List ℕ). with_name c.args.index.now d (map name_of keys)) c.in_ok-id.ensures.ok)
