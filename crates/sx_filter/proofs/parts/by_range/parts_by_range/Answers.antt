use Rattle.std.proofs.Common.{◌≡◌, ℕ, List, Ok, Result, get_or, length, map, subst, sym, ap, ◌∙◌, arith}
use Rattle.std.specs.Prelude.{IfOk}
use Rattle.std.proofs.lemmas.List.{with_items_is}
use Rattle.std.proofs.lemmas.Result.{IfOk-weaker}
use Rattle.sx_bytes.specs.declared.memory.NoMemory.{NoMemory}
use Rattle.sx_filter.specs.ByRange.{AreByRange, IsByRange}
use Rattle.sx_filter.specs.declared.parts.by_range.ByRange.{ByRange}
use Rattle.sx_filter.proofs.Results.{as_many, found_each}
use Rattle.sx_filter.proofs.parts.by_range.parts_by_range.Goals as goal
use Rattle.sx_tx.specs.declared.tx.Tx.{Tx}

pub returns : goal.returns
returns g c =
    let parts = c.args.parts.now in
    let cuts = c.args.cuts.now in
    let results = c.for_each_mut.new.list in
    let IsOf : ℕ → ByRange → Type 0 = λ i one. (d : List Tx) → IsByRange cuts (get_or parts i d) one in
    let kept : length results ≡ length c.deref_mut.result.now = c.for_each_mut.auto.list in
    let long : length results ≡ length parts =
    omega (arith, kept, ap length c.deref_mut.ensures.value, c.in_ok-results.ensures) in
    let same = with_items_is c.in_ok-results.results results (omega (arith, kept, c.deref_mut.ensures.len)) in
    IfOk-weaker c.all_of.result _ (λ all. AreByRange cuts parts all.items)
    (λ all whole.
    let e : results ≡ map Ok all.items = sym same ∙ whole in
    let many : length results ≡ length all.items = as_many results all.items e in
    record {
      one_each = omega (arith, many, long);
      each = λ k list d lt.
          found_each results all.items e IsOf
          (λ i answer less.
          let change = (c.for_each_mut.ensures i answer (omega (arith, less, kept))).1 in
          subst (λ (it : Result ByRange NoMemory). IfOk it (IsOf i)) change.left change.call)
          k d (omega (arith, lt, many, long)) list;
    })
    c.all_of.ensures
