use Rattle.std.proofs.Common.{◌≡◌, ℕ, ◌<◌, List, get_or, length, replicate, sym, ap, ◌∙◌, arith, rules}
use Rattle.std.proofs.lemmas.List.{get_or-replicate, length-replicate}
use Rattle.sx_apply.proofs.FillTotals.{given_of, got_of, places_of, totals_of}
use Rattle.sx_apply.proofs.WrittenBack.{written_back}
use Rattle.sx_apply.proofs.rounding.rounding_of.Goals as goal

zeros_long : (n : ℕ) (xs : List ℕ) → xs ≡ replicate n 0 → length xs ≡ n
zeros_long n xs e = ap length e ∙ length-replicate n 0

zero_at : (n : ℕ) (xs : List ℕ) (k : ℕ) → xs ≡ replicate n 0 → k < n → get_or xs k 0 ≡ 0
zero_at n xs k e lt = ap (λ (ys : List ℕ). get_or ys k 0) e ∙ get_or-replicate n k 0 0 lt

pub add_fills-requires-clause-places : goal.add_fills-requires-clause-places
add_fills-requires-clause-places c =
    let f = c.requires.fills in places_of f.prices f.flow c.args.offers.now c.args.fills.now f.are

pub add_fills-requires-clause-given_fits : goal.add_fills-requires-clause-given_fits
add_fills-requires-clause-given_fits c =
    let f = c.requires.fills in
    let zeros : c.deref_mut.result.now ≡ replicate c.args.assets 0 =
    c.deref_mut.ensures.value ∙ c.in_ok-kept.ensures.items_if_clones_equal (λ y e. e) in
    let long = zeros_long c.args.assets c.deref_mut.result.now zeros in
    λ asset lt.
    let none = zero_at c.args.assets c.deref_mut.result.now asset zeros (omega arith) in
    let t = totals_of c.args.offers.now f.prices f.flow f.can_trade c.args.fills.now asset f.are
    (omega (arith, f.same_assets, f.can_trade.tradable.same_assets)) in
    omega (arith, t.0)

pub add_fills-requires-clause-got_fits : goal.add_fills-requires-clause-got_fits
add_fills-requires-clause-got_fits c =
    let f = c.requires.fills in
    let zeros : c.deref_mut-2.result.now ≡ replicate c.args.assets 0 =
    c.deref_mut-2.ensures.value ∙ c.in_ok-got.ensures.items_if_clones_equal (λ y e. e) in
    let long = zeros_long c.args.assets c.deref_mut-2.result.now zeros in
    λ asset lt.
    let none = zero_at c.args.assets c.deref_mut-2.result.now asset zeros (omega arith) in
    let t = totals_of c.args.offers.now f.prices f.flow f.can_trade c.args.fills.now asset f.are
    (omega (arith, f.same_assets, f.can_trade.tradable.same_assets)) in
    omega (arith, t.0, t.1)

pub subtract_each-requires-clause-never_negative : goal.subtract_each-requires-clause-never_negative
subtract_each-requires-clause-never_negative c =
    let f = c.requires.fills in
    let n = c.args.assets in
    let zeros : c.deref_mut.result.now ≡ replicate n 0 =
    c.deref_mut.ensures.value ∙ c.in_ok-kept.ensures.items_if_clones_equal (λ y e. e) in
    let zeros2 : c.deref_mut-2.result.now ≡ replicate n 0 =
    c.deref_mut-2.ensures.value ∙ c.in_ok-got.ensures.items_if_clones_equal (λ y e. e) in
    let long = zeros_long n c.deref_mut.result.now zeros in
    let long2 = zeros_long n c.deref_mut-2.result.now zeros2 in
    let given : c.deref_mut-3.result.now ≡ c.add_fills.new.given =
    c.deref_mut-3.ensures.value
    ∙ written_back c.in_ok-kept.kept.len c.add_fills.new.given c.in_ok-kept.kept.items (search rules) (search rules) in
    let got : c.deref.result.now ≡ c.add_fills.new.got =
    c.deref.ensures.value
    ∙ written_back c.in_ok-got.got.len c.add_fills.new.got c.in_ok-got.got.items (search rules) (search rules) in
    let many : length c.add_fills.new.given ≡ n = c.add_fills.auto.given ∙ long in
    let given_long = ap length given in
    λ k lt.
    let none = zero_at n c.deref_mut.result.now k zeros (omega arith) in
    let none2 = zero_at n c.deref_mut-2.result.now k zeros2 (omega arith) in
    let one = c.add_fills.ensures.given k (omega arith) in
    let two = c.add_fills.ensures.got k (omega arith) in
    let t = totals_of c.args.offers.now f.prices f.flow f.can_trade c.args.fills.now k f.are
    (omega (arith, f.same_assets, f.can_trade.tradable.same_assets)) in
    let read = ap (λ (xs : List ℕ). get_or xs k 0) given in
    let read2 = ap (λ (xs : List ℕ). get_or xs k 0) got in
    omega (arith, t.1)

pub returns-clause-kept : goal.returns-clause-kept
returns-clause-kept c =
    let n = c.args.assets in
    let zeros : c.deref_mut.result.now ≡ replicate n 0 =
    c.deref_mut.ensures.value ∙ c.in_ok-kept.ensures.items_if_clones_equal (λ y e. e) in
    let zeros2 : c.deref_mut-2.result.now ≡ replicate n 0 =
    c.deref_mut-2.ensures.value ∙ c.in_ok-got.ensures.items_if_clones_equal (λ y e. e) in
    let long = zeros_long n c.deref_mut.result.now zeros in
    let long2 = zeros_long n c.deref_mut-2.result.now zeros2 in
    let given : c.deref_mut-3.result.now ≡ c.add_fills.new.given =
    c.deref_mut-3.ensures.value
    ∙ written_back c.in_ok-kept.kept.len c.add_fills.new.given c.in_ok-kept.kept.items (search rules) (search rules) in
    let got : c.deref.result.now ≡ c.add_fills.new.got =
    c.deref.ensures.value
    ∙ written_back c.in_ok-got.got.len c.add_fills.new.got c.in_ok-got.got.items (search rules) (search rules) in
    let many : length c.add_fills.new.given ≡ n = c.add_fills.auto.given ∙ long in
    let given_long = ap length given in
    let had : length c.add_fills.new.given ≡ c.in_ok-kept.kept.len = search rules in
    let now : length c.subtract_each.new.numbers ≡ c.in_ok-kept.kept.len =
    c.subtract_each.auto.numbers ∙ given_long ∙ had in
    let left : c.of.result ≡ c.subtract_each.new.numbers =
    c.of.ensures ∙ c.in_ok-from_slice.ensures.ok ∙ c.deref-2.ensures.value
    ∙ written_back c.in_ok-kept.kept.len c.subtract_each.new.numbers _ now
    (ap length (sym c.deref_mut-3.ensures.value) ∙ given_long ∙ had) in
    λ prices flow asset are lt.
    let none = zero_at n c.deref_mut.result.now asset zeros lt in
    let none2 = zero_at n c.deref_mut-2.result.now asset zeros2 lt in
    let one = c.add_fills.ensures.given asset (omega arith) in
    let two = c.add_fills.ensures.got asset (omega arith) in
    let three = c.subtract_each.ensures asset (omega arith) in
    let read = ap (λ (xs : List ℕ). get_or xs asset 0) given in
    let read2 = ap (λ (xs : List ℕ). get_or xs asset 0) got in
    let read3 = ap (λ (xs : List ℕ). get_or xs asset 0) left in
    let a = given_of prices flow c.args.offers.now c.args.fills.now asset are in
    let b = got_of prices flow c.args.offers.now c.args.fills.now asset are in
    omega arith
