use Rattle.std.proofs.Common.{◌∙◌, ◌≡◌, ◌+◌, ◌-◌, ◌*◌, ◌/◌, ◌<◌, ◌≤◌, get_or, length, arith}
use Rattle.std.proofs.lemmas.List.{get_or_default}
use Rattle.sx_ledger.proofs.PlaceTableLaws.{AreEarly, AreLate, few_before, still_early, still_held, still_late, still_told}
use Rattle.sx_ledger.proofs.place_table.PlaceTable.enter.Goals as goal

pub overflow_cast-place-2 : goal.overflow_cast-place-2
overflow_cast-place-2 c =
    let xs = c.args.entries.now in
    let first = c.args.self.now.first in
    let far = get_or xs c.args.place 0 - first in
    let old = c.args.self.now.starts.items in
    let new = c.start_blocks.new.starts.items in
    let is : first + far ≡ get_or xs c.args.place 0 = omega (arith, c.requires.from) in
    let started = c.in_ok-start_blocks.ensures in
    let early : AreEarly c.args.place new =
    still_early xs c.requires.by_id c.args.place first far c.requires.within is old new started.kept started.here c.requires.filled.early in
    let late : AreLate xs first new =
    still_late xs c.requires.by_id c.args.place first far c.requires.within is old new started.kept started.here c.requires.filled.late in
    let start = get_or new (far / 128) 0 in
    let le : start ≤ c.args.place = early (far / 128) started.started in
    let from : first + 128 * (far / 128) ≤ get_or xs start 0 =
    late (far / 128) start started.started (omega arith) (omega (arith, c.requires.within)) in
    let few : c.args.place - start + 1 ≤ 128 =
    few_before xs c.requires.by_id c.args.place first far start c.requires.within is le from in
    let value : c.index.result.now ≡ start =
    c.index.ensures ∙ get_or_default new (far / 128) c.index.result.now 0 started.started in
    rw value (omega (arith, few))

pub returns-clause-filled : goal.returns-clause-filled
returns-clause-filled c =
    let xs = c.args.entries.now in
    let first = c.args.self.now.first in
    let far = get_or xs c.args.place 0 - first in
    let counts = c.args.self.now.counts.items in
    let old = c.args.self.now.starts.items in
    let new = c.start_blocks.new.starts.items in
    let is : first + far ≡ get_or xs c.args.place 0 = omega (arith, c.requires.from) in
    let started = c.in_ok-start_blocks.ensures in
    let filled = c.requires.filled in
    let early : AreEarly c.args.place new =
    still_early xs c.requires.by_id c.args.place first far c.requires.within is old new started.kept started.here filled.early in
    let late : AreLate xs first new =
    still_late xs c.requires.by_id c.args.place first far c.requires.within is old new started.kept started.here filled.late in
    let below = early (far / 128) started.started in
    let inside : far < length counts = omega (arith, c.if-far-len.false, c.len.ensures) in
    let value : c.index.result.now ≡ get_or new (far / 128) 0 =
    c.index.ensures ∙ get_or_default new (far / 128) c.index.result.now 0 started.started in
    rw value record {
      told = still_told xs c.args.place first far c.requires.within is counts old new inside started.started started.longer started.kept below filled.told;
      held = still_held xs c.args.place first far c.requires.within is counts old new inside started.started started.longer started.kept below filled.held;
      early = λ b lt. let le = early b lt in omega (arith, le);
      late = late;
    }
