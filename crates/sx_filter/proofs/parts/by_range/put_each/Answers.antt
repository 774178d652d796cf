use Rattle.std.proofs.Common.{◌≡◌, ℕ, ◌++◌, List, [], ◌∷◌, append_assoc, get_or, inl, inr}
use Rattle.std.proofs.Common.{length-take-le, take, subst, sym, ap, ◌∙◌, arith}
use Rattle.std.specs.List.{filter}
use Rattle.std.proofs.lemmas.Bool.{cases_eq}
use Rattle.std.proofs.lemmas.List.{take_more}
use Rattle.sx_filter.specs.Additions.{AreAdditions}
use Rattle.sx_filter.specs.Ranges.{is_in, range_among}
use Rattle.sx_filter.specs.Sifted.{TxVec}
use Rattle.sx_filter.proofs.AdditionLaws.{accounts_fit, offers_fit, together}
use Rattle.sx_filter.proofs.Classes.{one_in, one_out}
use Rattle.sx_filter.proofs.parts.by_range.put_each.Goals as goal
use Rattle.sx_tx.specs.declared.tx.Tx.{Tx}

pub together-more-requires-clause-few_accounts : goal.together-more-requires-clause-few_accounts
together-more-requires-clause-few_accounts c =
    let list = c.args.list.now in
    let one = c.from_ref.result.now in
    accounts_fit (take c.loop-tx.tx-index list) one c.loop-tx.more c.additions_of-one.result c.loop-tx.invariant.more
    (record { accounts = c.additions_of-one.ensures.accounts; offers = c.additions_of-one.ensures.offers })
    (omega (
      arith,
      length-take-le c.loop-tx.tx-index list (omega (arith, c.loop-tx-test.true)),
      c.loop-tx-test.true,
      c.from_ref.ensures.len,
      c.requires.few,
    ))

pub together-more-requires-clause-few_offers : goal.together-more-requires-clause-few_offers
together-more-requires-clause-few_offers c =
    let list = c.args.list.now in
    let one = c.from_ref.result.now in
    offers_fit (take c.loop-tx.tx-index list) one c.loop-tx.more c.additions_of-one.result c.loop-tx.invariant.more
    (record { accounts = c.additions_of-one.ensures.accounts; offers = c.additions_of-one.ensures.offers })
    (omega (
      arith,
      length-take-le c.loop-tx.tx-index list (omega (arith, c.loop-tx-test.true)),
      c.loop-tx-test.true,
      c.from_ref.ensures.len,
      c.requires.few,
    ))

pub loop-tx-preserved : goal.loop-tx-preserved
loop-tx-preserved c =
    let list = c.args.list.now in
    let cuts = c.args.cuts.now in
    let i = c.loop-tx.tx-index in
    let tx = c.tx-item.result in
    let old = c.loop-tx.lists in
    let new = c.put.new.lists in
    let first = c.args.lists.now in
    let place = c.range_of.result in
    let less = c.loop-tx-test.true in
    let in_range = c.range_of.ensures.is in
    record {
      one_each = c.put.ensures.one_each ∙ c.loop-tx.invariant.one_each;
      each = λ range d lt.
          let before = c.loop-tx.invariant.each range d lt in
          elim (cases_eq range place) [
            | inl same ↦
                let here : (get_or new range d).items ≡ (get_or old range d).items ++ tx ∷ [] =
                subst (λ (k : ℕ). (get_or new k d).items ≡ (get_or old k d).items ++ tx ∷ []) (sym same)
                (c.in_ok-put.ensures.here d) in
                here
                ∙ ap (λ (txs : List Tx). txs ++ tx ∷ []) before
                ∙ append_assoc (get_or first range d).items (filter (is_in cuts range) (take i list)) (tx ∷ [])
                ∙ ap (λ (txs : List Tx). (get_or first range d).items ++ txs)
                (sym (one_in (range_among cuts) range list i tx less c.tx-item.is (sym in_range ∙ sym same)))
            | inr differ ↦
                ap (λ (one : TxVec). one.items) (c.put.ensures.others range d differ)
                ∙ before
                ∙ ap (λ (txs : List Tx). (get_or first range d).items ++ txs)
                (sym (one_out (range_among cuts) range list i tx less c.tx-item.is
                (λ e. differ (sym e ∙ sym in_range))))
          ];
      more =
          subst (λ (txs : List Tx). AreAdditions txs c.together-more.result)
          (ap (λ (one : List Tx). take i list ++ one)
          (c.from_ref.ensures.value ∙ ap (λ (t : Tx). t ∷ []) c.tx-item.is) ∙ sym (take_more list i tx less))
          (together (take i list) c.from_ref.result.now c.loop-tx.more c.additions_of-one.result c.loop-tx.invariant.more
          (record { accounts = c.additions_of-one.ensures.accounts; offers = c.additions_of-one.ensures.offers })
          c.together-more.result c.together-more.ensures.accounts c.together-more.ensures.offers);
    }
