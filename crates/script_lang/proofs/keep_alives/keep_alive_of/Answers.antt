use Rattle.std.proofs.Common.{◌≡◌, ◌*◌, true, false, Some, sym, ap, ◌∙◌, refl, arith}
use Rattle.script_lang.specs.KeepAlives.{begins_with_1_to_9, keep_alive_of}
use Rattle.script_lang.proofs.KeepAliveLemmas.{no_unit, unread, read_short, read_long}
use Rattle.script_lang.proofs.keep_alives.keep_alive_of.Goals as goal

pub returns-then-not-begins_with_1_to_9 : goal.returns-then-not-begins_with_1_to_9
unfolding keep_alive_of
returns-then-not-begins_with_1_to_9 c =
    let not_so : begins_with_1_to_9 c.args.text.now ≡ false = sym c.begins_with_1_to_9.ensures ∙ c.if-not-begins_with_1_to_9.true in
    rw not_so refl

pub returns-in_err-unit_ms : goal.returns-in_err-unit_ms
returns-in_err-unit_ms c =
    let begins : begins_with_1_to_9 c.args.text.now ≡ true = sym c.begins_with_1_to_9.ensures ∙ c.if-not-begins_with_1_to_9.false in
    c.from_residual.ensures ∙ no_unit c.args.text.now _ _ _ c.leading_digits.ensures.value c.split_at.ensures.front c.split_at.ensures.back begins (c.in_err-unit_ms.ensures.value)

pub returns-in_err-count : goal.returns-in_err-count
returns-in_err-count c =
    let begins : begins_with_1_to_9 c.args.text.now ≡ true = sym c.begins_with_1_to_9.ensures ∙ c.if-not-begins_with_1_to_9.false in
    c.from_residual-in_err-count.ensures
    ∙ unread c.args.text.now _ _ _ c.leading_digits.ensures.value c.split_at.ensures.front c.split_at.ensures.back begins c.in_ok-unit_ms.unit_ms c.in_ok-unit_ms.ensures.value
    c.parse.result c.parse.ensures.value.0 c.in_err-count.ensures.value c.in_ok-unit_ms.ensures.some

pub returns-in_err-ms : goal.returns-in_err-ms
returns-in_err-ms c =
    let begins : begins_with_1_to_9 c.args.text.now ≡ true = sym c.begins_with_1_to_9.ensures ∙ c.if-not-begins_with_1_to_9.false in
    c.from_residual-in_err-ms.ensures
    ∙ read_long c.args.text.now _ _ _ c.leading_digits.ensures.value c.split_at.ensures.front c.split_at.ensures.back begins c.in_ok-unit_ms.unit_ms c.in_ok-unit_ms.ensures.value
    c.parse.result c.in_ok-count.count c.parse.ensures.value.0 c.in_ok-count.ensures.value (omega (arith, c.in_err-ms.ensures))

pub returns-then-ms-le-DAY_MS : goal.returns-then-ms-le-DAY_MS
returns-then-ms-le-DAY_MS c =
    let begins : begins_with_1_to_9 c.args.text.now ≡ true = sym c.begins_with_1_to_9.ensures ∙ c.if-not-begins_with_1_to_9.false in
    let product : c.in_ok-count.count * c.in_ok-unit_ms.unit_ms ≡ c.in_ok-ms.ms = sym c.in_ok-ms.ensures.1 in
    ap Some (sym product)
    ∙ read_short c.args.text.now _ _ _ c.leading_digits.ensures.value c.split_at.ensures.front c.split_at.ensures.back begins c.in_ok-unit_ms.unit_ms c.in_ok-unit_ms.ensures.value
    c.parse.result c.in_ok-count.count c.parse.ensures.value.0 c.in_ok-count.ensures.value (omega (arith, product))

pub returns-else-ms-le-DAY_MS : goal.returns-else-ms-le-DAY_MS
returns-else-ms-le-DAY_MS c =
    let begins : begins_with_1_to_9 c.args.text.now ≡ true = sym c.begins_with_1_to_9.ensures ∙ c.if-not-begins_with_1_to_9.false in
    read_long c.args.text.now _ _ _ c.leading_digits.ensures.value c.split_at.ensures.front c.split_at.ensures.back begins c.in_ok-unit_ms.unit_ms c.in_ok-unit_ms.ensures.value
    c.parse.result c.in_ok-count.count c.parse.ensures.value.0 c.in_ok-count.ensures.value (omega (arith, c.in_ok-ms.ensures.1))
