use Rattle.std.proofs.Common.{true, ◌∙◌, refl}
use Rattle.std.proofs.lemmas.List.{length-set}
use Rattle.sx_ledger.specs.Repeats.{cancels}
use Rattle.sx_tally.proofs.Cancelled.{cancels_at, cancels_none, flag_tells, flags_more, none_more}
use Rattle.sx_tally.proofs.Repeated.{repeat_none, repeat_step}
use Rattle.sx_tally.proofs.cancellations.Cancellations.enter.Goals as goal
use Rattle.sx_ledger.specs.Order.{same_key}
use Rattle.sx_ledger.proofs.KeyOrder.{same_key_from, same_key_is}

pub returns-in-Offer : goal.returns-in-Offer
returns-in-Offer c =
    let place = c.in-Offer.place in
    let old = c.args.self.now in
    record {
      as_many = length-set old.flags.items place true;
      entered = λ parts tx before keeps as_many named at was.
          let it = cancels_at parts tx tx.kind place (rw c.in-Offer.is at named) in
          let tells = flag_tells parts keeps.by_key before tx place it.key it.there old.flags.items as_many was.flags
          c.index-flag.result.now in
          record {
            flags = flags_more parts keeps.by_key before tx place it.key it.there old.flags.items as_many was.flags
                it.is;
            again = repeat_step cancels same_key same_key_is (λ key. same_key_from key key refl) before tx
                old.again c.first_again-self.result was.again it.key it.is c.index-flag.result.now
                (c.index-flag.ensures ∙ tells) c.args.index at c.first_again-self.ensures;
          };
    }

pub returns-in_default : goal.returns-in_default
returns-in_default c = record {
  as_many = refl;
  entered = λ parts tx before keeps as_many named at was.
      let nothing = cancels_none parts tx tx.kind c.args.target.now named c.in_default.not-Offer in
      record {
        flags = none_more parts.offers before tx c.args.self.now.flags.items nothing was.flags;
        again = repeat_none cancels same_key same_key_is (λ key. same_key_from key key refl) before tx
            c.args.self.now.again was.again nothing;
      };
}
