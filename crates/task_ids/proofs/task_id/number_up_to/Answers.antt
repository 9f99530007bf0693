use Rattle.std.proofs.Common.{arith, refl, ◌≡◌, true, false}
use Rattle.task_ids.proofs.Spelling.{read_number, one_read, read_spelled, first_digit, none_numbered, one_numbered}
use Rattle.task_ids.proofs.task_id.number_up_to.Goals as goal

pub returns-in-Ok : goal.returns-in-Ok
returns-in-Ok c =
    let digit = c.if-plain.ensures.0 refl in
    let read = read_number c.args.text.now c.in-Ok.n c.in-Ok.ensures.value.0 digit.0 digit.1 in
    one_numbered c.args.text.now c.args.most c.in-Ok.n read.0 read.1 c.if-n-most.true (omega arith)

pub returns-in_default : goal.returns-in_default
returns-in_default c =
    none_numbered _ c.args.text.now c.args.most refl (λ n low high e.
    let same = one_read c.args.text.now c.in-Ok.n n c.in-Ok.ensures.value.0 e (omega arith) in omega arith)

pub returns-in_default-2 : goal.returns-in_default-2
returns-in_default-2 c =
    none_numbered _ c.args.text.now c.args.most refl (λ n low high e.
    let digit = first_digit c.args.text.now n e low (omega arith) in
    let wrong : false ≡ true = c.if-plain.ensures.1 digit in absurd (cc))

pub returns-in_default-3 : goal.returns-in_default-3
returns-in_default-3 c =
    none_numbered _ c.args.text.now c.args.most refl (λ n low high e.
    read_spelled c.args.text.now n c.in_default.ensures.value.0 e (omega arith))
