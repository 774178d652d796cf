use Rattle.std.proofs.Common.{◌^◌, length, ◌∙◌, arith}
use Rattle.sx_tally.proofs.PostedUnits.{when_ok}
use Rattle.sx_tally.proofs.Rows.{can_add, row_after, zeros_stay}
use Rattle.sx_tally.proofs.postings.Postings.credit_all.Goals as goal

pub add_all-requires : goal.add_all-requires
add_all-requires c =
    let opened = c.open_rows.new.self in
    let many = length c.args.self.now.starts.items in
    let width = c.args.self.now.assets in
    let made = c.in_ok-open_rows.ensures in
    can_add opened many width made.rows c.args.entries.now c.open_rows.new.rows made.one_each c.requires.within made.open
    opened.credits made.rows.even (2 ^ 128)
    (λ p x p_there x_there. omega (arith, made.credits p x p_there x_there, c.requires.room p x p_there x_there))

pub returns-clause-rows : goal.returns-clause-rows
returns-clause-rows c =
    let opened = c.open_rows.new.self in
    let many = length c.args.self.now.starts.items in
    let width = c.args.self.now.assets in
    let entries = c.args.entries.now in
    let starts = c.open_rows.new.rows in
    let made = c.in_ok-open_rows.ensures in
    let rows = made.rows in
    let same = made.one_each in
    let within = c.requires.within in
    let are_open = made.open in
    let sums = opened.credits in
    let after = c.add_all.new.self in
    when_ok c.add_all.result (λ is. record {
      assets = rows.assets;
      as_many = rows.as_many;
      even = is.as_many ∙ rows.even;
      some = rows.some;
      no_debits = rows.no_debits;
      no_credits = zeros_stay opened many width rows entries starts same within are_open sums rows.even after is
          rows.no_credits;
      within = rows.within;
      behind = rows.behind;
      apart = rows.apart;
    }) c.add_all.ensures

pub returns-clause-credits : goal.returns-clause-credits
returns-clause-credits c =
    let opened = c.open_rows.new.self in
    let many = length c.args.self.now.starts.items in
    let width = c.args.self.now.assets in
    let made = c.in_ok-open_rows.ensures in
    when_ok c.add_all.result (λ is p x p_there x_there.
    omega (
      arith,
      made.credits p x p_there x_there,
      row_after opened many width made.rows c.args.entries.now c.open_rows.new.rows made.one_each c.requires.within
          made.open opened.credits made.rows.even c.add_all.new.self is p x p_there x_there,
    )) c.add_all.ensures
