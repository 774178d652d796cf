use Rattle.std.proofs.Common.{◌≡◌, inl, inr, subst, arith}
use Rattle.std.proofs.lemmas.Bool.{cases_lt}
use Rattle.sx_tally.specs.Overdraft.{CoversAt}
use Rattle.sx_tally.proofs.tally.Tally.first_overdraft_in.Goals as goal

pub loop-place-preserved : goal.loop-place-preserved
loop-place-preserved c = λ k reached lt. elim (cases_lt k c.loop-place.place) [
  | inl before ↦ c.loop-place.invariant k reached before
  | inr here ↦
      let same : c.loop-place.place ≡ k = omega arith in
      subst (CoversAt c.args.version c.args.ledger.now c.args.self.now.postings) same c.in_default.ensures.none
]

pub returns-in-Some : goal.returns-in-Some
returns-in-Some c = record {
  first = record {
    place = c.loop-place.place;
    reached = omega (arith, c.loop-place.auto.place);
    here = c.in-Some.ensures.first;
    before = c.loop-place.invariant;
  };
  none = tt;
}

pub returns : goal.returns
returns c = record {
  first = tt;
  none = λ k reached lt. c.loop-place.invariant k reached (omega (arith, c.loop-place-test.false));
}
