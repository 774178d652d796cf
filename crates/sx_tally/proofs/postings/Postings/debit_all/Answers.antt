use Rattle.std.proofs.Common.{◌^◌, length, refl, sym, ◌∙◌, arith}
use Rattle.sx_tally.proofs.PostedUnits.{when_ok}
use Rattle.sx_tally.proofs.Rows.{can_add, row_after, zeros_stay}
use Rattle.sx_tally.proofs.postings.Postings.debit_all.Goals as goal

pub add_all-requires : goal.add_all-requires
add_all-requires c =
    let opened = c.open_rows.new.self in
    let many = length c.args.self.now.starts.items in
    let width = c.args.self.now.assets in
    let made = c.in_ok-open_rows.ensures in
    can_add opened many width made.rows c.args.entries.now c.open_rows.new.rows made.one_each c.requires.within made.open
    opened.debits refl (2 ^ 128)
    (λ p x p_there x_there. omega (arith, made.debits p x p_there x_there, c.requires.room p x p_there x_there))

pub returns-clause-rows : goal.returns-clause-rows
returns-clause-rows c =
    let opened = c.open_rows.new.self in
    let many = length c.args.self.now.starts.items in
    let width = c.args.self.now.assets in
    let entries = c.args.entries.now in
    let starts = c.open_rows.new.rows in
    let made = c.in_ok-open_rows.ensures in
    let rows = made.rows in
    let same = made.one_each in
    let within = c.requires.within in
    let are_open = made.open in
    let sums = opened.debits in
    let after = c.add_all.new.self in
    when_ok c.add_all.result (λ is. record {
      assets = rows.assets;
      as_many = rows.as_many;
      even = rows.even ∙ sym is.as_many;
      some = omega (arith, rows.some, is.as_many);
      no_debits = zeros_stay opened many width rows entries starts same within are_open sums refl after is
          rows.no_debits;
      no_credits = rows.no_credits;
      within = λ p lt. omega (arith, rows.within p lt, is.as_many);
      behind = rows.behind;
      apart = rows.apart;
    }) c.add_all.ensures

pub returns-clause-debits : goal.returns-clause-debits
returns-clause-debits c =
    let opened = c.open_rows.new.self in
    let many = length c.args.self.now.starts.items in
    let width = c.args.self.now.assets in
    let made = c.in_ok-open_rows.ensures in
    when_ok c.add_all.result (λ is p x p_there x_there.
    omega (
      arith,
      made.debits p x p_there x_there,
      row_after opened many width made.rows c.args.entries.now c.open_rows.new.rows made.one_each c.requires.within
          made.open opened.debits refl c.add_all.new.self is p x p_there x_there,
    )) c.add_all.ensures
