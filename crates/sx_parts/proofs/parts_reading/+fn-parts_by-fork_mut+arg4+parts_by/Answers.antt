use Rattle.std.proofs.Common.{◌≡◌, ℕ, ◌+◌, ◌-◌, ◌/◌, ◌++◌, List, subst, ap, ◌∙◌, arith, rules}
use Rattle.std.specs.Prelude.{IfOk}
use Rattle.std.specs.List.{flat_map}
use Rattle.std.proofs.lemmas.Grind.{flat_map-append}
use Rattle.std.proofs.lemmas.Result.{IfOk-at_ok}
use Rattle.sx_parts.specs.Decoded.{AreDecoded}
use Rattle.sx_tx.specs.declared.tx.Tx.{Tx}
use Rattle.sx_tx.specs.TransactionDecoding.{tx_at}
use Rattle.sx_tx.proofs.Halves.{many_joined}
use Rattle.sx_parts.proofs.parts_reading.+fn-parts_by-fork_mut+arg4+parts_by.Goals as goal

-- the transactions of parts, one part after the other
abbrev all : List (List Tx) → List Tx
all parts = flat_map (λ list. list) parts

pub returns : goal.returns
returns g t c =
    let payload = c.args.payload.now in
    let place = c.args.place in
    let middle = c.in_ok-middle.middle in
    let share = c.args.count / c.args.threads in
    let left = c.args.count - share in
    let parts = c.in_ok-parts.parts.items in
    let others = c.in_ok-others.others.items in
    let end = c.in_ok-others.end in
    let first : IfOk c.fork_mut-one.result.0 (λ read. AreDecoded payload place share (all read.0.items) read.1) =
    search rules in
    let second : IfOk c.fork_mut-one.result.1 (λ read. AreDecoded payload middle left (all read.0.items) read.1) =
    search rules in
    let one : AreDecoded payload place share (all parts) c.in_ok-parts.front_end =
    IfOk-at_ok (λ read. AreDecoded payload place share (all read.0.items) read.1) c.in_ok-parts.was first in
    let up_to : AreDecoded payload place share (all parts) middle =
    subst (AreDecoded payload place share (all parts)) c.if-front_end-middle.false one in
    let rest : AreDecoded payload middle left (all others) end =
    IfOk-at_ok (λ read. AreDecoded payload middle left (all read.0.items) read.1) c.in_ok-others.was second in
    let both : all c.append.new.self.items ≡ all parts ++ all others =
    ap all c.in_ok-append.ensures.items ∙ flat_map-append (λ (list : List Tx). list) parts others in
    let count : share + left ≡ c.args.count = omega arith in
    rw both (subst (λ (n : ℕ). AreDecoded payload place n (all parts ++ all others) end) count
    (many_joined tx_at share left (record { bytes = payload; place = place })
    (record { bytes = payload; place = middle }) (record { bytes = payload; place = end }) (all parts) (all others)
    up_to rest))
