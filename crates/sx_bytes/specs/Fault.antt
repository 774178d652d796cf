-- The form faults: each one's number in the table of faults, and its name.
use Rattle.std.specs.Prelude.{ℕ, List, codes}
use Rattle.sx_bytes.specs.declared.fault.Form.{Form}
use Rattle.sx_bytes.specs.declared.fault.Form.TheVariants as form
use Rattle.sx_bytes.specs.declared.fault.FormFault.{FormFault}
use Rattle.sx_bytes.specs.declared.fault.Short.{Short}

abbrev pub number_of : Form → ℕ
number_of form.Short = 1
number_of form.Tag = 2
number_of form.AmountRange = 3
number_of form.LimitRange = 4
number_of form.SeqRange = 5
number_of form.AssetRange = 6
number_of form.Order = 7
number_of form.Total = 8
number_of form.TooMany = 9
number_of form.Rest = 10
number_of form.PriceRange = 11
number_of form.TradeOrder = 12
number_of form.TooLong = 13
number_of form.Version = 14
number_of form.HeightRange = 15
number_of form.AssetCount = 16
number_of form.Owner = 17
number_of form.MuRange = 18
number_of form.ValueRange = 19
number_of form.CutRange = 20
number_of form.Actor = 21
number_of form.UsedRange = 22
number_of form.PlaceRange = 23

abbrev pub name_of : Form → List ℕ
name_of form.Short = codes "Short"
name_of form.Tag = codes "Tag"
name_of form.AmountRange = codes "AmountRange"
name_of form.LimitRange = codes "LimitRange"
name_of form.SeqRange = codes "SeqRange"
name_of form.AssetRange = codes "AssetRange"
name_of form.Order = codes "Order"
name_of form.Total = codes "Total"
name_of form.TooMany = codes "TooMany"
name_of form.Rest = codes "Rest"
name_of form.PriceRange = codes "PriceRange"
name_of form.TradeOrder = codes "TradeOrder"
name_of form.TooLong = codes "TooLong"
name_of form.Version = codes "Version"
name_of form.HeightRange = codes "HeightRange"
name_of form.AssetCount = codes "AssetCount"
name_of form.Owner = codes "Owner"
name_of form.MuRange = codes "MuRange"
name_of form.ValueRange = codes "ValueRange"
name_of form.CutRange = codes "CutRange"
name_of form.Actor = codes "Actor"
name_of form.UsedRange = codes "UsedRange"
name_of form.PlaceRange = codes "PlaceRange"

-- too few bytes, as a form fault
abbrev pub fault_of_short : Short → FormFault
fault_of_short short = record { at = short.at; fault = form.Short }
