-- What passes of candidates that are sorted is sorted too.
use Rattle.std.proofs.Common.{◌≡◌, All, Ok, List, sym, subst}
use Rattle.std.specs.List.Sorted.{IsSortedBy}
use Rattle.sx_filter.specs.Kept.{passes, passing}
use Rattle.sx_filter.specs.Part.{IsPart}
use Rattle.sx_filter.proofs.Picking.{all_pass}
use Rattle.sx_filter.proofs.Sorted.{by_number, in_numbers, left_sorted}
use Rattle.sx_ledger.specs.declared.parts.Parts.{Parts}
use Rattle.sx_ledger.specs.Body.{tx_before}
use Rattle.sx_ledger.specs.Static.{static_of}
use Rattle.sx_tx.specs.declared.tx.Tx.{Tx}

module _ (parts : Parts) (candidates txs : List Tx) (is : IsPart parts candidates txs) where
  pub part_pass : All (λ tx. static_of parts tx ≡ Ok tt) txs
  part_pass = subst (All (λ (tx : Tx). static_of parts tx ≡ Ok tt)) (sym is.are) (all_pass parts is.all)

  pub passing_sorted : IsSortedBy tx_before (passing parts is.all)
  passing_sorted =
      in_numbers (passing parts is.all) (left_sorted (passes parts) is.all (by_number is.all is.sorted))

  pub part_sorted : IsSortedBy tx_before txs
  part_sorted = subst (IsSortedBy tx_before) (sym is.are) passing_sorted
