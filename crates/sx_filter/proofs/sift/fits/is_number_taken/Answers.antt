use Rattle.std.proofs.Common.{◌≡◌, ◌<◌, ◌-◌, ◌+◌, true, Some, length, inl, inr, refl, sym, ap, ◌∙◌, arith}
use Rattle.std.specs.Prelude.{slice_get}
use Rattle.std.proofs.lemmas.Bool.{cases_Bool, le-ltb}
use Rattle.std.proofs.lemmas.Option.{same_Some, slice_get_read, slice_get_within}
use Rattle.sx_filter.specs.Kept.{same_number}
use Rattle.sx_filter.proofs.Ranks.{not_both}
use Rattle.sx_filter.proofs.Sorted.{once_between, twice_after, twice_before}
use Rattle.sx_filter.proofs.sift.fits.is_number_taken.Goals as goal
use Rattle.sx_filter.proofs.sift.fits.is_number_taken.Goals.{then-place-gt0, else-place-gt0}
use Rattle.sx_tx.specs.declared.tx.Tx.{Tx}

pub returns-then-have_one_number : goal.returns-then-have_one_number
returns-then-have_one_number c = λ tx at.
    let txs = c.args.txs.now in
    let place = c.args.place in
    let own : c.index-txs-place.result ≡ tx =
    same_Some c.index-txs-place.result tx
    (sym (slice_get_read txs (length txs) place c.index-txs-place.result refl c.requires.place c.index-txs-place.is)
    ∙ at) in
    elim c.if-place-gt0.branch [
      | then-place-gt0 w ↦
          let y = w.index-txs-place-then-place-gt0.result in
          let some : 0 < place = w.if-place-gt0.true in
          let stands : slice_get txs (place - 1) ≡ Some y =
          slice_get_read txs (length txs) (place - 1) y refl (omega (arith, c.requires.place))
          w.index-txs-place-then-place-gt0.is in
          let same : same_number tx y ≡ true =
          ap (λ (t : Tx). same_number t y) (sym own) ∙ sym w.have_one_number.ensures ∙ sym w.value-is
          ∙ c.if-have_one_number.true in
          c.if-have_one_number.true ∙ sym (twice_before txs c.requires.sorted place tx at y some stands same)
      | else-place-gt0 w ↦
          not_both (sym (w.value-is ∙ le-ltb 0 place w.if-place-gt0.false) ∙ c.if-have_one_number.true)
    ]

pub returns-then-place-txs : goal.returns-then-place-txs
returns-then-place-txs c = λ tx at.
    let txs = c.args.txs.now in
    let place = c.args.place in
    let own : c.index-txs-place.result ≡ tx =
    same_Some c.index-txs-place.result tx
    (sym (slice_get_read txs (length txs) place c.index-txs-place.result refl c.requires.place c.index-txs-place.is)
    ∙ at) in
    let next = c.index-txs-place-then-place-txs.result in
    let lt : place < length txs - 1 = c.if-place-txs.true in
    let stands : slice_get txs (place + 1) ≡ Some next =
    slice_get_read txs (length txs) (place + 1) next refl (omega (arith, lt)) c.index-txs-place-then-place-txs.is in
    let told : c.have_one_number-then-place-txs.result ≡ same_number tx next =
    c.have_one_number-then-place-txs.ensures ∙ ap (λ (t : Tx). same_number t next) own in
    elim (cases_Bool (same_number tx next)) [
      | inl e ↦ told ∙ e ∙ sym (twice_after txs c.requires.sorted place tx at next stands e)
      | inr e ↦
          told ∙ e
          ∙ sym (once_between txs c.requires.sorted place tx at
          (λ y some there. elim c.if-place-gt0.branch [
            | then-place-gt0 w ↦
                let z = w.index-txs-place-then-place-gt0.result in
                let is : slice_get txs (place - 1) ≡ Some z =
                slice_get_read txs (length txs) (place - 1) z refl (omega (arith, c.requires.place))
                w.index-txs-place-then-place-gt0.is in
                ap (λ (t : Tx). same_number tx t) (same_Some y z (sym there ∙ is))
                ∙ ap (λ (t : Tx). same_number t z) (sym own) ∙ sym w.have_one_number.ensures ∙ sym w.value-is
                ∙ c.if-have_one_number.false
            | else-place-gt0 w ↦ let none = w.if-place-gt0.false in absurd (omega (arith, none, some))
          ])
          (λ y there. ap (λ (t : Tx). same_number tx t) (same_Some y next (sym there ∙ stands)) ∙ e))
    ]

pub returns-else-place-txs : goal.returns-else-place-txs
returns-else-place-txs c = λ tx at.
    let txs = c.args.txs.now in
    let place = c.args.place in
    let own : c.index-txs-place.result ≡ tx =
    same_Some c.index-txs-place.result tx
    (sym (slice_get_read txs (length txs) place c.index-txs-place.result refl c.requires.place c.index-txs-place.is)
    ∙ at) in
    le-ltb place (length txs - 1) c.if-place-txs.false
    ∙ sym (once_between txs c.requires.sorted place tx at
    (λ y some there. elim c.if-place-gt0.branch [
      | then-place-gt0 w ↦
          let z = w.index-txs-place-then-place-gt0.result in
          let is : slice_get txs (place - 1) ≡ Some z =
          slice_get_read txs (length txs) (place - 1) z refl (omega (arith, c.requires.place))
          w.index-txs-place-then-place-gt0.is in
          ap (λ (t : Tx). same_number tx t) (same_Some y z (sym there ∙ is))
          ∙ ap (λ (t : Tx). same_number t z) (sym own) ∙ sym w.have_one_number.ensures ∙ sym w.value-is
          ∙ c.if-have_one_number.false
      | else-place-gt0 w ↦ let none = w.if-place-gt0.false in absurd (omega (arith, none, some))
    ])
    (λ y there.
    let far = slice_get_within txs (place + 1) y there in
    let most = c.if-place-txs.false in absurd (omega (arith, far, most))))
