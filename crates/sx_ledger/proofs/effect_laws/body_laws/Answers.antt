use Rattle.sx_ledger.proofs.BodyConserves.{body_conserves}
use Rattle.sx_ledger.proofs.BodyKeepsLedger.{body_keeps_ledger}
use Rattle.sx_ledger.proofs.UnnamedAccounts.{unnamed_stays}
use Rattle.sx_ledger.proofs.LastNumbers.{last_is_greatest}
use Rattle.sx_ledger.proofs.LaterBodies.{later_admits_more}
use Rattle.sx_ledger.proofs.UsedBits.{used_by_both}
use Rattle.sx_ledger.proofs.effect_laws.body_laws.Goals as goal

pub returns-clause-unnamed_stays : goal.returns-clause-unnamed_stays
returns-clause-unnamed_stays c = unnamed_stays

pub returns-clause-last_is_greatest : goal.returns-clause-last_is_greatest
returns-clause-last_is_greatest c = last_is_greatest

pub returns-clause-used_by_both : goal.returns-clause-used_by_both
returns-clause-used_by_both c = used_by_both

pub returns-clause-later_admits_more : goal.returns-clause-later_admits_more
returns-clause-later_admits_more c = later_admits_more

pub returns-clause-keeps_ledger : goal.returns-clause-keeps_ledger
returns-clause-keeps_ledger c = body_keeps_ledger

pub returns-clause-conserves : goal.returns-clause-conserves
returns-clause-conserves c = body_conserves
