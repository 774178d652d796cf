-- The index of a ledger, which a thread may still be making.
use Rattle.std.specs.Prelude.{◌≡◌, IfOk}
use Rattle.sx_filter.specs.declared.indexed.FoundIndex.{FoundIndex}
use Rattle.sx_filter.specs.declared.indexed.FoundIndex.TheVariants as found
use Rattle.sx_ledger.specs.declared.parts.Parts.{Parts}
use Rattle.sx_ledger.specs.Ledger.{ids}

-- what is known, or what a thread has promised, is the index of this ledger, if there was memory for it
abbrev pub IsIndexOf : Parts → FoundIndex → Type 0
IsIndexOf parts (found.Known result) = IfOk result (λ index. index ≡ ids parts.accounts)
IsIndexOf parts (found.Making handle) = handle.promise.ledger.value ≡ parts
