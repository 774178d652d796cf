-- A block that settles is fair.
use Rattle.std.proofs.Common.{ℕ, ◌+◌, ◌≤◌, arith, ◌==◌, inl, inr}
use Rattle.std.proofs.lemmas.Bool.{cases_Bool}
use Rattle.sx_block.specs.declared.header.Block.{Block}
use Rattle.sx_customer.specs.Fairness.{Circulates, IsFair}
use Rattle.sx_customer.proofs.Balances.{joins, left, no_other, opened, paid, stays}
use Rattle.sx_dual.specs.Circulation.{IsCirculation}
use Rattle.sx_ledger.specs.declared.parts.Parts.{Parts}
use Rattle.sx_ledger.specs.Body.{holding_of, spendable}
use Rattle.sx_ledger.specs.Effects.{credits, debits}
use Rattle.sx_meaning.specs.Settling.{Settles}

-- plain circulations are circulations
pub circulation : (n : ℕ) (low high value : ℕ → ℕ → ℕ) → Circulates n low high value → IsCirculation n low high value
circulation n low high value c = record {
  within = λ sell buy s b differ. record {
    at_least = c.at_least sell buy s b differ;
    at_most = c.at_most sell buy s b differ;
  };
  balanced = c.balanced;
}

-- and the other way round
pub plain_circulation : (n : ℕ) (low high value : ℕ → ℕ → ℕ) → IsCirculation n low high value
    → Circulates n low high value
plain_circulation n low high value c = record {
  at_least = λ sell buy s b differ. (c.within sell buy s b differ).at_least;
  at_most = λ sell buy s b differ. (c.within sell buy s b differ).at_most;
  balanced = c.balanced;
}

-- in each version what an account holds and its credits cover its debits
covered_by_both : (parts : Parts) (said : Block) → Settles parts said → (account asset : ℕ)
    → debits said.txs account asset
    ≤ holding_of parts.accounts account asset + credits parts.offers said.txs account asset
covered_by_both parts said s account asset =
    let covered : debits said.txs account asset ≤ spendable said.header.version parts said.txs account asset =
    s.covered account asset in
    elim (cases_Bool (said.header.version == 1)) [
      | inl first ↦
          let held : debits said.txs account asset ≤ holding_of parts.accounts account asset = rw first at covered in
          omega arith
      | inr later ↦ rw later at covered
    ]

pub fair : (parts : Parts) (said : Block) → Settles parts said → IsFair parts said
fair parts said s = record {
  covered = covered_by_both parts said s;
  paid = paid parts said s.ledger (covered_by_both parts said s);
  opened = opened parts said;
  no_other = no_other parts said;
  stays = stays parts said;
  joins = joins parts said;
  left = left parts said;
  falls = s.falls;
  kept = s.rises;
  within_limit = s.within_limits;
  in_full = s.in_full;
  cut = λ cut is value c. s.cut cut is value (circulation _ _ _ value c);
  circulates = plain_circulation _ _ _ _ s.greatest.circulation;
  greatest = λ value c. s.greatest.greatest value (circulation _ _ _ value c);
  gives = λ offer has. (s.gives offer has).0;
  gives_no_unit_more = λ offer has. (s.gives offer has).1;
  gets = λ offer has. (s.gets offer has).0;
  gets_no_unit_less = λ offer has. (s.gets offer has).1;
  one_in_part = λ one other has there sell buy some less some' less'.
      s.one_in_part one other has there sell buy
      (record { some = some; not_all = less }) (record { some = some'; not_all = less' });
  ledger = s.ledger;
}
