use Rattle.std.proofs.Common.{ℕ, ◌<◌, ◌≤◌, length, get_or, arith}
use Rattle.std.proofs.Math.Pow.{shr_mono}
use Rattle.sx_ledger.specs.Buckets.{AreBegins}
use Rattle.sx_ledger.proofs.index.with_buckets.Goals as goal

pub invariant_of-result : goal.invariant_of-result
invariant_of-result c =
    let xs = c.args.entries.items in
    let places : AreBegins xs c.shift_of-shift.result c.in_ok-begins.begins.items =
    rw (← c.deref-3.ensures.value) c.in_ok-begins.ensures.begins in
    let greatest : (k : ℕ) → k < length xs → get_or xs k 0 ≤ c.greatest_of-greatest.result =
    rw (← c.deref-2.ensures.value) c.greatest_of-greatest.ensures in (
      c.requires.by_id,
      c.requires.few,
      record {
        small = c.shift_of-shift.ensures.within;
        places = places;
        covered = λ k lt.
            let below = shr_mono c.shift_of-shift.result (greatest k lt) in
            omega (arith, c.in_ok-begins.ensures.count);
      },
      rw (← c.deref.ensures.value) c.in_ok-table.ensures,
    )
