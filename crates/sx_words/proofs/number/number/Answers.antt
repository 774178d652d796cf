use Rattle.std.proofs.Common.{sym, arith}
use Rattle.sx_words.proofs.NumberLaws.{number_none, numeral_then, no_sign, unread, read_inside, read_outside}
use Rattle.sx_words.proofs.number.number.Goals as goal

pub returns-then-not-is_bare-clause-value : goal.returns-then-not-is_bare-clause-value
returns-then-not-is_bare-clause-value c = sym (number_none _ _ c.args.word.now (λ is low high.
    let t = numeral_then c.args.word.now is in
    let bare = c.is_bare.ensures.1 (rw c.as_bytes.ensures.value (no_sign c.args.word.now is, t.2)) in
    absurd (cc)))

pub returns-in-Ok-clause-value : goal.returns-in-Ok-clause-value
returns-in-Ok-clause-value c =
    let bare = rw c.as_bytes.ensures.value at (c.is_bare.ensures.0 c.if-not-is_bare.false) in
    read_inside _ _ c.args.word.now c.parse.result c.in-Ok.number c.parse.ensures.value.0 c.in-Ok.is bare
    c.if-least-number.true c.if-number-most.true

pub returns-in_default-clause-value : goal.returns-in_default-clause-value
returns-in_default-clause-value c =
    let bare = rw c.as_bytes.ensures.value at (c.is_bare.ensures.0 c.if-not-is_bare.false) in
    read_outside _ _ c.args.word.now c.parse.result c.in-Ok.number c.parse.ensures.value.0 c.in-Ok.is bare
    (λ low high. omega (arith, c.if-number-most.false))

pub returns-in_default-2-clause-value : goal.returns-in_default-2-clause-value
returns-in_default-2-clause-value c =
    let bare = rw c.as_bytes.ensures.value at (c.is_bare.ensures.0 c.if-not-is_bare.false) in
    read_outside _ _ c.args.word.now c.parse.result c.in-Ok.number c.parse.ensures.value.0 c.in-Ok.is bare
    (λ low high. omega (arith, c.if-least-number.false))

pub returns-in_default-3-clause-value : goal.returns-in_default-3-clause-value
returns-in_default-3-clause-value c =
    let bare = rw c.as_bytes.ensures.value at (c.is_bare.ensures.0 c.if-not-is_bare.false) in
    unread _ _ c.args.word.now c.parse.result c.in_default.field-0 c.parse.ensures.value.0 c.in_default.is bare
    (omega arith)
