use Rattle.std.proofs.Common.{◌≡◌, ℕ, ◌+◌, ◌<◌, ◌≤◌, length, get_or, set, refl, ap, ◌∙◌, arith}
use Rattle.std.specs.Vec.{with_item}
use Rattle.std.proofs.lemmas.Grind.{get_or-set_at, get_or_default_zero}
use Rattle.std.proofs.lemmas.List.{length-set}
use Rattle.sx_tally.specs.declared.postings.Postings.{Postings}
use Rattle.sx_tally.specs.Postings.{start_of}
use Rattle.sx_tally.proofs.Rows.{opened_credits, opened_debits, opened_rows, start_other}
use Rattle.sx_tally.proofs.postings.Postings.open.Goals as goal

pub returns : goal.returns
returns c =
    let old = c.args.self.now in
    let rows = c.requires.rows in
    let many = length old.starts.items in
    let place = c.args.place in
    let long = length old.debits in
    let no_row : start_of old place ≡ 0 =
    omega (
      arith,
      c.if-start-ne0.false,
      c.index-start.ensures,
      get_or_default_zero old.starts.items place c.index-start.result.now c.requires.place,
    ) in
    let start_is : c.len-start.result ≡ long = c.len-start.ensures.number in
    let debits = c.in_ok-resize.ensures in
    let credits = c.in_ok-resize-2.ensures in
    let debits_long : length c.resize.new.self ≡ long + old.assets = omega (arith, debits.as_many) in
    let credits_long : length c.resize-2.new.self ≡ long + old.assets = omega (arith, credits.as_many) in
    let new : Postings = record {
      assets = old.assets;
      starts = with_item old.starts place c.len-start.result;
      debits = c.resize.new.self;
      credits = c.resize-2.new.self;
    } in
    let starts : new.starts.items ≡ set old.starts.items place long =
    ap (set old.starts.items place) start_is in
    let d_kept : (k : ℕ) → k < long → get_or new.debits k 0 ≡ get_or old.debits k 0 = debits.kept in
    let d_zero : (k : ℕ) → long ≤ k → k < long + old.assets → get_or new.debits k 0 ≡ 0 =
    λ k le lt. debits.zeros k le in
    let c_kept : (k : ℕ) → k < long → get_or new.credits k 0 ≡ get_or old.credits k 0 =
    λ k lt. credits.kept k (omega (arith, rows.even)) in
    let c_zero : (k : ℕ) → long ≤ k → k < long + old.assets → get_or new.credits k 0 ≡ 0 =
    λ k le lt. credits.zeros k (omega (arith, rows.even)) in
    let as_many = length-set old.starts.items place c.len-start.result in
    record {
      start = get_or-set_at old.starts.items place place c.len-start.result 0 refl c.requires.place;
      own = omega (arith, rows.some, c.requires.some_asset);
      others = λ p some.
          start_other old new many old.assets place rows c.requires.place no_row refl starts as_many debits_long
          credits_long d_kept d_zero c_kept c_zero p (λ e. some (ap (start_of old) e ∙ no_row));
      rows = opened_rows old new many old.assets place rows c.requires.place no_row refl starts as_many debits_long
          credits_long d_kept d_zero c_kept c_zero;
      debits = opened_debits old new many old.assets place rows c.requires.place no_row refl starts as_many debits_long
          credits_long d_kept d_zero c_kept c_zero;
      credits = opened_credits old new many old.assets place rows c.requires.place no_row refl starts as_many debits_long
          credits_long d_kept d_zero c_kept c_zero;
    }
