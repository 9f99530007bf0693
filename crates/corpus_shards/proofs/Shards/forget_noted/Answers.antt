use Rattle.std.proofs.Common.{◌≡◌, ◌<◌, ◌∷◌, [], ◌++◌, ◌&&◌, ℕ, List, false, length, sym, ap, subst, ◌∙◌, rules}
use Rattle.std.specs.Prelude.{◌==◌}
use Rattle.std.specs.Global.{Vec}
use Rattle.std.specs.Str.{bytes_eq}
use Rattle.std.proofs.lemmas.Option.{get_or_from_slice_get}
use Rattle.shard_docs.specs.ShardView.{has_dead}
use Rattle.corpus_shards.specs.declared.Stale.{Stale}
use Rattle.corpus_shards.specs.Stored.{Forgets, bound_of, shard_in}
use Rattle.corpus_shards.proofs.Notes.{forgets_as, forgot_at, noted_again, noted_no_more}
use Rattle.corpus_shards.proofs.Shards.forget_noted.Goals as goal

pub returns-then-has_dead-clause-forgets : goal.returns-then-has_dead-clause-forgets
returns-then-has_dead-clause-forgets c = λ note at.
    let s = c.args.self.now in
    let there = c.swap_remove-stale.result in
    let t = c.purge.new.self in
    subst (λ (n : Stale). Forgets n.index n.shard (bound_of c.args.kept (shard_in s n.index n.shard)) s (record t { stale = c.push_reserved.new.self })) (c.swap_remove-stale.ensures.value ∙ get_or_from_slice_get s.stale.items c.args.place note there at)
    (forgets_as s t c.swap_remove-stale.new.self c.push_reserved.new.self there.index there.shard (bound_of c.args.kept (shard_in s there.index there.shard)) (forgot_at s t c.swap_remove-stale.new.self there c.as_str-index.result.now c.args.kept c.get-2.result.now c.bound-oldest.result (c.as_str-index.ensures ∙ c.get.ensures) c.get-2.ensures c.bound-oldest.ensures c.purge.ensures.forgets))

pub returns-else-has_dead-clause-forgets : goal.returns-else-has_dead-clause-forgets
returns-else-has_dead-clause-forgets c = λ note at.
    let s = c.args.self.now in
    let there = c.swap_remove-stale.result in
    let t = c.purge.new.self in
    subst (λ (n : Stale). Forgets n.index n.shard (bound_of c.args.kept (shard_in s n.index n.shard)) s t) (c.swap_remove-stale.ensures.value ∙ get_or_from_slice_get s.stale.items c.args.place note there at)
    (forgets_as s t c.swap_remove-stale.new.self t.stale there.index there.shard (bound_of c.args.kept (shard_in s there.index there.shard)) (forgot_at s t c.swap_remove-stale.new.self there c.as_str-index.result.now c.args.kept c.get-2.result.now c.bound-oldest.result (c.as_str-index.ensures ∙ c.get.ensures) c.get-2.ensures c.bound-oldest.ensures c.purge.ensures.forgets))

pub returns-then-has_dead-clause-noted : goal.returns-then-has_dead-clause-noted
returns-then-has_dead-clause-noted c =
    let s = c.args.self.now in
    let there = c.swap_remove-stale.result in
    let within : c.args.place < length s.stale.items = search rules in
    let others : (q : List ℕ) (k : ℕ) → (bytes_eq there.index q && (there.shard == k)) ≡ false → shard_in c.purge.new.self q k ≡ shard_in s q k =
    subst (λ (i : List ℕ). (q : List ℕ) (k : ℕ) → (bytes_eq i q && (there.shard == k)) ≡ false → shard_in c.purge.new.self q k ≡ shard_in s q k) (c.as_str-index.ensures ∙ c.get.ensures) c.purge.ensures.forgets.elsewhere in
    noted_again s (record c.purge.new.self { stale = c.push_reserved.new.self }) c.args.place there within c.swap_remove-stale.ensures.value others (c.push_reserved.ensures.items ∙ ap (λ l. l ++ there ∷ []) (ap (λ (v : Vec Stale). v.items) c.purge.ensures.stale ∙ c.swap_remove-stale.ensures.items))

pub returns-else-has_dead-clause-noted : goal.returns-else-has_dead-clause-noted
returns-else-has_dead-clause-noted c =
    let s = c.args.self.now in
    let there = c.swap_remove-stale.result in
    let t = c.purge.new.self in
    let within : c.args.place < length s.stale.items = search rules in
    let others : (q : List ℕ) (k : ℕ) → (bytes_eq there.index q && (there.shard == k)) ≡ false → shard_in c.purge.new.self q k ≡ shard_in s q k =
    subst (λ (i : List ℕ). (q : List ℕ) (k : ℕ) → (bytes_eq i q && (there.shard == k)) ≡ false → shard_in c.purge.new.self q k ≡ shard_in s q k) (c.as_str-index.ensures ∙ c.get.ensures) c.purge.ensures.forgets.elsewhere in
    let name : c.as_str-index.result.now ≡ there.index = c.as_str-index.ensures ∙ c.get.ensures in
    let none : has_dead (shard_in t there.index there.shard) ≡ false =
    sym (ap (λ i. has_dead (shard_in t i there.shard)) name) ∙ sym (ap has_dead c.get-3.ensures) ∙ sym c.has_dead.ensures ∙ c.if-has_dead.false in
    noted_no_more s t c.args.place there within c.swap_remove-stale.ensures.value others (ap (λ (v : Vec Stale). v.items) c.purge.ensures.stale ∙ c.swap_remove-stale.ensures.items) none
