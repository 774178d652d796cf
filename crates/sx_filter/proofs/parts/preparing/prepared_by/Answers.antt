use Rattle.std.proofs.Common.{◌≤◌, length, refl, subst, sym, take_all, arith}
use Rattle.sx_filter.specs.Additions.{AreAdditions}
use Rattle.sx_filter.specs.ByRange.{AreByRange}
use Rattle.sx_filter.proofs.ByRanges.{accounts_still_fit, offers_still_fit, one_added}
use Rattle.sx_filter.proofs.Joined.{all}
use Rattle.sx_filter.proofs.parts.preparing.prepared_by.Goals as goal

pub loop-part-init : goal.loop-part-init
loop-part-init g c = record { accounts = refl; offers = refl }

pub together-more-requires-clause-few_accounts : goal.together-more-requires-clause-few_accounts
together-more-requires-clause-few_accounts g c =
    let lists = c.args.lists.now in
    let parts = c.deref-part-items.result.now in
    let are = subst (AreByRange c.deref.result.now lists) (sym c.deref-part-items.ensures.value) c.in_ok-parts.ensures in
    accounts_still_fit c.deref.result.now lists parts are c.loop-part.part-index c.part-item.result c.loop-part-test.true
    c.part-item.is c.loop-part.more c.loop-part.invariant c.requires.few

pub together-more-requires-clause-few_offers : goal.together-more-requires-clause-few_offers
together-more-requires-clause-few_offers g c =
    let lists = c.args.lists.now in
    let parts = c.deref-part-items.result.now in
    let are = subst (AreByRange c.deref.result.now lists) (sym c.deref-part-items.ensures.value) c.in_ok-parts.ensures in
    offers_still_fit c.deref.result.now lists parts are c.loop-part.part-index c.part-item.result c.loop-part-test.true
    c.part-item.is c.loop-part.more c.loop-part.invariant c.requires.few

pub loop-part-preserved : goal.loop-part-preserved
loop-part-preserved g c =
    let lists = c.args.lists.now in
    let parts = c.deref-part-items.result.now in
    let are = subst (AreByRange c.deref.result.now lists) (sym c.deref-part-items.ensures.value) c.in_ok-parts.ensures in
    one_added c.deref.result.now lists parts are c.loop-part.part-index c.part-item.result c.loop-part-test.true
    c.part-item.is c.loop-part.more c.loop-part.invariant c.requires.few c.together-more.result
    c.together-more.ensures.accounts c.together-more.ensures.offers

pub returns : goal.returns
returns g c =
    let lists = c.args.lists.now in
    let parts = c.in_ok-parts.parts.items in
    let found = c.in_ok-parts.ensures in
    let enough : length lists ≤ c.loop-part.part-index =
    omega (arith, c.loop-part-test.false, found.one_each, c.deref-part-items.ensures.len, c.in_ok-parts.parts.ok) in
    record {
      parts = lists;
      are = refl;
      found = subst (λ cuts. AreByRange cuts lists parts) c.deref.ensures.value found;
      more =
          subst (λ some. AreAdditions (all some) c.loop-part.more) (take_all c.loop-part.part-index lists enough)
          c.loop-part.invariant;
    }
