use Rattle.std.proofs.Common.{◌≡◌, ◌-◌, ◌^◌, ◌∷◌, ◌++◌, [], Ok, length, get_or, subst, sym, ap, ◌∙◌, arith}
use Rattle.std.specs.Int.Bits.{bit_or}
use Rattle.std.proofs.lemmas.List.{length-map, length-set}
use Rattle.std.proofs.lemmas.List.Elements.{All-append}
use Rattle.std.proofs.lemmas.Option.{slice_get_within}
use Rattle.sx_tally.specs.Tally.{HasUsed}
use Rattle.sx_tally.proofs.Cancelled.{cancels_at}
use Rattle.sx_tally.proofs.Entered.{number_is_open, one_passes, used_more}
use Rattle.sx_tally.proofs.PostedUnits.{when_ok}
use Rattle.sx_tally.proofs.tally.Tally.enter.Goals as goal
use Rattle.sx_ledger.specs.Ledger.{ids, keys}
use Rattle.sx_ledger.specs.Order.{key_of}
use Rattle.sx_ledger.specs.Static.{static_of}
use Rattle.sx_ledger.proofs.Insertion.{id_of}
use Rattle.sx_tx.specs.declared.tx.Tx.{Tx}
use Rattle.sx_tx.specs.Transactions.{IsTx}

pub account-requires : goal.account-requires
account-requires c =
    let accounts = c.args.ledger.now.accounts in
    omega (
      arith,
      slice_get_within (ids accounts) c.args.places.now.account c.args.tx.now.account.0 c.requires.places.account,
      length-map accounts id_of,
    )

pub mark_used-requires : goal.mark_used-requires
mark_used-requires c =
    let parts = c.args.ledger.now in
    let is_open = number_is_open parts c.account.ensures.kept c.args.tx.now c.requires.passes c.args.places.now.account
    c.account.result.now c.account.ensures.account c.requires.places.account in
    let within = slice_get_within parts.accounts c.args.places.now.account c.account.result.now
    c.account.ensures.account in
    record {
      place = omega (arith, within, c.requires.shape.maps);
      above = is_open.above;
      within = is_open.within;
    }

pub enter-requires : goal.enter-requires
enter-requires c = record {
  within = λ place is.
      let parts = c.args.ledger.now in
      let tx = c.args.tx.now in
      let it = cancels_at parts tx tx.kind place (rw is at c.requires.places.target) in
      let lt = slice_get_within (keys parts.offers) place it.key it.there in
      omega (arith, lt, length-map parts.offers key_of, c.requires.shape.flags);
}

pub hold-requires-clause-by_id : goal.hold-requires-clause-by_id
hold-requires-clause-by_id c = c.account.ensures.kept.by_id

pub returns : goal.returns
returns c =
    let parts = c.args.ledger.now in
    let tx = c.args.tx.now in
    let at = c.args.places.now.account in
    let own = c.account.result.now in
    let keeps = c.account.ensures.kept in
    let there = c.account.ensures.account in
    let is_open = number_is_open parts keeps tx c.requires.passes at own there c.requires.places.account in
    let maps = c.args.self.now.used.items in
    let passes : Tx → Type 0 = λ tx. static_of parts tx ≡ Ok tt in
    when_ok c.push_made.result
    (λ made before index was.
    record {
      shape = record {
        rows = c.requires.shape.rows;
        maps =
            ap length c.mark_used.ensures
            ∙ length-set maps at (bit_or (get_or maps at 0) (2 ^ (tx.seq - own.window.last - 1)))
            ∙ c.requires.shape.maps;
        flags = c.enter.ensures.as_many ∙ c.requires.shape.flags;
      };
      passes = All-append passes before (tx ∷ []) was.passes (one_passes passes tx c.requires.passes);
      in_range = All-append IsTx before (tx ∷ []) was.in_range (one_passes IsTx tx c.tx_ranges.ensures);
      postings = c.in_ok-hold.ensures before c.args.self.now.postings was.postings;
      used = subst (HasUsed parts (before ++ tx ∷ [])) (sym c.mark_used.ensures)
          (used_more parts keeps before tx at own there is_open maps c.requires.shape.maps was.used);
      cancelled = c.enter.ensures.entered parts tx before keeps c.requires.shape.flags c.requires.places.target index
          was.cancelled;
      created = c.in_ok-enter.ensures before index was.created;
      made = made before was.made;
    }) c.push_made.ensures
