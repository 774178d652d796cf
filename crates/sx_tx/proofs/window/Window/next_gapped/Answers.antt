use Rattle.std.proofs.Common.{◌≡◌, ℕ, ◌+◌, ◌^◌, ◌/◌, ◌<◌, arith, ap, sym, ◌∙◌, bit_or}
use Rattle.std.proofs.lemmas.Nat.{or_lt}
use Rattle.sx_tx.proofs.UsedNumbers.{gapped_is, whole_run, run_of_ones}
use Rattle.sx_tx.proofs.window.Window.next_gapped.Goals as goal

pub returns-then-used : goal.returns-then-used
returns-then-used c =
    let used = bit_or c.args.self.now.used c.args.map in
    sym (gapped_is c.args.self.now c.args.map 64 (whole_run used c.if-used.true)
    ∙ ap (λ (u : ℕ). record { last = c.args.self.now.last + 64; used = u / 2 ^ 64 }) c.if-used.true)

pub overflow_shr-result : goal.overflow_shr-result
overflow_shr-result c =
    let used = bit_or c.args.self.now.used c.args.map in
    let fits : used < 2 ^ 64 = or_lt 64 c.args.self.now.used c.args.map (omega arith) c.ranges.map.fits in
    omega (arith, run_of_ones used (omega (arith, c.if-used.false)), c.trailing_ones-run.ensures)

pub returns : goal.returns
returns c =
    let used = bit_or c.args.self.now.used c.args.map in
    let fits : used < 2 ^ 64 = or_lt 64 c.args.self.now.used c.args.map (omega arith) c.ranges.map.fits in
    let run = run_of_ones used (omega (arith, c.if-used.false)) in
    let all : c.trailing_ones-run.result ≡ _ = c.trailing_ones-run.ensures in
    rw c.from.ensures (rw all (sym (gapped_is c.args.self.now c.args.map _ run.1)))
