-- What was sifted of ranges was sifted of classes of accounts.
use Rattle.std.proofs.Common.{◌+◌, ◌<◌, List, get_or, length, sym, ap, subst, ◌∙◌, arith}
use Rattle.std.specs.List.{filter}
use Rattle.sx_filter.specs.Joined.{AreSiftedParts}
use Rattle.sx_filter.specs.SiftedRanges.{AreSiftedRanges}
use Rattle.sx_filter.proofs.Parted.{ranges_are}
use Rattle.sx_ledger.specs.declared.parts.Parts.{Parts}
use Rattle.sx_filter.specs.ByRange.{IsPrepared}
use Rattle.sx_filter.specs.Ranges.{is_in, range_among}
use Rattle.sx_filter.specs.declared.parts.preparing.Prepared.{Prepared}
use Rattle.sx_filter.proofs.ByRanges.{pieces_are}
use Rattle.sx_filter.specs.Sifted.{IsSifted}
use Rattle.sx_filter.specs.declared.sift.sifting.Sifted.{Sifted}
use Rattle.sx_tx.specs.declared.tx.Tx.{Tx}

-- what was sifted of the ranges
pub ranges_sifted : (ledger : Parts) (candidates : List Tx) (prepared : Prepared) (all : List Sifted)
    → IsPrepared candidates prepared → AreSiftedRanges ledger prepared.cuts.items prepared.parts.items all
    → AreSiftedParts ledger candidates all
ranges_sifted ledger candidates prepared all is are =
    let cuts = prepared.cuts.items in
    record {
      class_of = range_among cuts;
      are = record {
        classes = ranges_are cuts (length all) are.long;
        each = λ range d lt.
            let within : range < length cuts + 1 = omega (arith, lt, are.long) in
            subst (λ (txs : List Tx). IsSifted ledger txs (get_or all range d))
            (pieces_are cuts range within is.parts prepared.parts.items is.found
            ∙ ap (filter (is_in cuts range)) (sym is.are))
            (are.each range d lt);
      };
    }
