use Rattle.std.proofs.Common.{◌+◌, arith}
use Rattle.sx_circ.specs.Walks.{asset_at, height_at}
use Rattle.sx_circ.proofs.Writing.{shifted_down, shifted_down_keeps, shifted_up, shifted_up_keeps}
use Rattle.sx_circ.proofs.cancelling.shift.Goals as goal

pub returns-then-walk-at-clause-keeps : goal.returns-then-walk-at-clause-keeps
returns-then-walk-at-clause-keeps c =
    let walk = c.args.walk.now in
    let k = c.args.place in
    let within = c.requires.walk in
    rw c.assets-assets.ensures.assets
    (shifted_up_keeps c.args.bounds.now c.args.values.now (asset_at walk k) (asset_at walk (k + 1)) c.args.amount
    (height_at walk k) (height_at walk (k + 1)) c.requires.keeps (within.assets k (omega arith))
    (within.assets (k + 1) (omega arith)) (omega arith) c.requires.room)

pub returns-then-walk-at-clause-moved : goal.returns-then-walk-at-clause-moved
returns-then-walk-at-clause-moved c =
    let walk = c.args.walk.now in
    let k = c.args.place in
    let within = c.requires.walk in
    rw c.assets-assets.ensures.assets
    (shifted_up c.args.bounds.now c.args.values.now (asset_at walk k) (asset_at walk (k + 1)) c.args.amount
    (height_at walk k) (height_at walk (k + 1)) c.requires.keeps (within.assets k (omega arith))
    (within.assets (k + 1) (omega arith)) (omega arith) c.requires.room)

pub returns-else-walk-at-clause-keeps : goal.returns-else-walk-at-clause-keeps
returns-else-walk-at-clause-keeps c =
    let walk = c.args.walk.now in
    let k = c.args.place in
    let within = c.requires.walk in
    rw c.assets-assets.ensures.assets
    (shifted_down_keeps c.args.bounds.now c.args.values.now (asset_at walk k) (asset_at walk (k + 1)) c.args.amount
    (height_at walk k) (height_at walk (k + 1)) c.requires.keeps (within.assets k (omega arith))
    (within.assets (k + 1) (omega arith)) (omega arith) c.requires.room)

pub returns-else-walk-at-clause-moved : goal.returns-else-walk-at-clause-moved
returns-else-walk-at-clause-moved c =
    let walk = c.args.walk.now in
    let k = c.args.place in
    let within = c.requires.walk in
    rw c.assets-assets.ensures.assets
    (shifted_down c.args.bounds.now c.args.values.now (asset_at walk k) (asset_at walk (k + 1)) c.args.amount
    (height_at walk k) (height_at walk (k + 1)) c.requires.keeps (within.assets k (omega arith))
    (within.assets (k + 1) (omega arith)) (omega arith) c.requires.room)
