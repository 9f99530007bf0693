use Rattle.std.proofs.Common.{◌≡◌, ◌<◌, true, Ok, sym, ap, ◌∙◌, arith}
use Rattle.std.specs.List.{list_all}
use Rattle.std.proofs.lemmas.Result.{err_from_is_err_and}
use Rattle.task_ids.specs.Json.{json_view, json_items, json_members}
use Rattle.query_parse.specs.Paths.{path_text}
use Rattle.query_parse.specs.Reading.{member_keys, is_clause_name, least_of, bool_of}
use Rattle.query_match.specs.View.{queries_view}
use Rattle.query_parse.proofs.Nodes.{view-Bool, clause_in-none, clause_in-some, query_in-some, fails_at_filter, fails_at_minimum, fails_at_must, fails_at_must_not, fails_at_should, goes_on, ends, is_done}
use Rattle.query_parse.proofs.Sizes.{data_size, items_size, members_size, size-get_member, size-item}
use Rattle.query_parse.proofs.reading.+read.Goals as goal

pub read_bool-returns-in_err-filter : goal.read_bool-returns-in_err-filter
read_bool-returns-in_err-filter t c =
    let p = err_from_is_err_and c.from_residual.result c.from_residual.ensures.1 in
    rw (p.1, p.2)
    (fails_at_filter c.in_err-filter.field-0.0 (path_text c.args.path.now) (json_members c.args.members.now) _ _ _ _ (sym c.has_clauses_alone.ensures ∙ c.if-not-has_clauses_alone.false) c.in_err-filter.ensures)

pub read_bool-returns-in_err-minimum : goal.read_bool-returns-in_err-minimum
read_bool-returns-in_err-minimum t c =
    let p = err_from_is_err_and c.from_residual-in_err-minimum.result c.from_residual-in_err-minimum.ensures.1 in
    rw (p.1, p.2)
    (fails_at_minimum c.in_err-minimum.field-0.0 (path_text c.args.path.now) (json_members c.args.members.now) _ _ _ _ _ (sym c.has_clauses_alone.ensures ∙ c.if-not-has_clauses_alone.false) c.in_ok-filter.ensures c.in_err-minimum.ensures)

pub read_bool-returns-in_err-must : goal.read_bool-returns-in_err-must
read_bool-returns-in_err-must t c =
    let p = err_from_is_err_and c.from_residual-in_err-must.result c.from_residual-in_err-must.ensures.1 in
    rw (p.1, p.2)
    (fails_at_must c.in_err-must.field-0.0 (path_text c.args.path.now) (json_members c.args.members.now) _ _ _ _ _ _ (sym c.has_clauses_alone.ensures ∙ c.if-not-has_clauses_alone.false) c.in_ok-filter.ensures c.in_ok-minimum.ensures c.in_err-must.ensures)

pub read_bool-returns-in_err-must_not : goal.read_bool-returns-in_err-must_not
read_bool-returns-in_err-must_not t c =
    let p = err_from_is_err_and c.from_residual-in_err-must_not.result c.from_residual-in_err-must_not.ensures.1 in
    rw (p.1, p.2)
    (fails_at_must_not c.in_err-must_not.field-0.0 (path_text c.args.path.now) (json_members c.args.members.now) _ _ _ _ _ _ _ (sym c.has_clauses_alone.ensures ∙ c.if-not-has_clauses_alone.false) c.in_ok-filter.ensures c.in_ok-minimum.ensures c.in_ok-must.ensures c.in_err-must_not.ensures)

pub read_bool-returns-in_err-should : goal.read_bool-returns-in_err-should
read_bool-returns-in_err-should t c =
    let p = err_from_is_err_and c.from_residual-in_err-should.result c.from_residual-in_err-should.ensures.1 in
    rw (p.1, p.2)
    (fails_at_should c.in_err-should.field-0.0 (path_text c.args.path.now) (json_members c.args.members.now) _ _ _ _ _ _ _ _ (sym c.has_clauses_alone.ensures ∙ c.if-not-has_clauses_alone.false) c.in_ok-filter.ensures c.in_ok-minimum.ensures c.in_ok-must.ensures c.in_ok-must_not.ensures c.in_err-should.ensures)

pub read_bool-returns : goal.read_bool-returns
unfolding bool_of
read_bool-returns t c =
    let ms = json_members c.args.members.now in
    let known : list_all is_clause_name (member_keys ms) ≡ true = sym c.has_clauses_alone.ensures ∙ c.if-not-has_clauses_alone.false in
    let least : c.least_of-least.result ≡ least_of c.in_ok-minimum.minimum (queries_view c.in_ok-must.must.items) (queries_view c.in_ok-filter.filter.items) (queries_view c.in_ok-should.should.items) =
    rw (← c.deref.ensures.value, ← c.deref-2.ensures.value, ← c.deref-3.ensures.value) c.least_of-least.ensures in
    rw (known, c.in_ok-filter.ensures, c.in_ok-minimum.ensures, c.in_ok-must.ensures, c.in_ok-must_not.ensures, c.in_ok-should.ensures, least)
    (ap Ok (sym (view-Bool c.in_ok-must.must c.in_ok-filter.filter c.in_ok-should.should c.in_ok-must_not.must_not _)))

pub read_clause-read_queries-requires : goal.read_clause-read_queries-requires
read_clause-read_queries-requires t c =
    let lt : data_size (json_view c.in-Some.value.now) < members_size (json_members c.args.members.now) = size-get_member c.args.name.now (json_view c.in-Some.value.now) (json_members c.args.members.now) c.in-Some.ensures in
    (omega arith, tt)

pub read_clause-returns-in-None : goal.read_clause-returns-in-None
read_clause-returns-in-None t c = clause_in-none (path_text c.args.path.now) c.args.name.now (json_members c.args.members.now) c.in-None.ensures ∙ ap (λ ns. Ok (queries_view ns)) (sym c.new.ensures.items)

pub read_clause-returns-in-Some : goal.read_clause-returns-in-Some
read_clause-returns-in-Some t c =
    rw (clause_in-some (path_text c.args.path.now) c.args.name.now (json_members c.args.members.now) (json_view c.in-Some.value.now) c.in-Some.ensures, ← c.key.ensures) c.read_queries.ensures

pub read_entry-returns-in-Some : goal.read_entry-returns-in-Some
read_entry-returns-in-Some t c =
    rw (query_in-some (path_text c.args.path.now) (json_members c.args.members.now) c.in-Some.name.now (json_view c.in-Some.value.now) c.in-Some.ensures, ← c.key.ensures, ← c.named.ensures) c.read_named.ensures

pub read_list-read_node-requires : goal.read_list-read_node-requires
read_list-read_node-requires t c =
    let lt : data_size (json_view c.index-values-i.result) < items_size (json_items c.args.values.now) = rw c.index-values-i.is (size-item c.args.values.now c.loop-i.i c.index-values-i.result c.loop-i-test.true) in
    (omega arith, tt)

pub read_list-loop-i-preserved : goal.read_list-loop-i-preserved
read_list-loop-i-preserved t c =
    rw c.in_ok-push.ensures.items
    (goes_on (path_text c.args.path.now) c.loop-i.i c.args.values.now c.index-values-i.result c.loop-i.nodes.items _ (path_text c.place.result) _ c.loop-i-test.true c.index-values-i.is c.loop-i.invariant c.place.ensures c.in_ok-node.ensures)

pub read_list-returns-in_err-node : goal.read_list-returns-in_err-node
read_list-returns-in_err-node t c =
    let p = err_from_is_err_and c.from_residual-in_err-node.result c.from_residual-in_err-node.ensures.1 in
    rw (p.1, p.2)
    (ends c.in_err-node.field-0.0 (path_text c.args.path.now) c.loop-i.i c.args.values.now c.index-values-i.result c.loop-i.nodes.items (path_text c.place.result) _ c.loop-i-test.true c.index-values-i.is
    c.loop-i.invariant c.place.ensures c.in_err-node.ensures)

pub read_list-returns : goal.read_list-returns
read_list-returns t c = is_done (path_text c.args.path.now) c.loop-i.i c.args.values.now c.loop-i.nodes.items _ c.loop-i-test.false c.loop-i.invariant
