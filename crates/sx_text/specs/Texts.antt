-- The line that says how a run ended, and the line of a valid block.
use Rattle.std.specs.Prelude.{ℕ, Bool, true, false, List, [], ◌++◌, codes}
use Rattle.std.specs.Fmt.{decimal, signed_decimal}
use Rattle.byteorder.specs.Endian.{big_bytes}
use Rattle.hex.specs.Hex.{encode_lower}
use Rattle.sx_bytes.specs.declared.fault.FormFault.{FormFault}
use Rattle.sx_bytes.specs.Fault.{name_of as name_of_fault, number_of as number_of_fault}
use Rattle.sx_block.specs.declared.checked.Checked.{Checked}
use Rattle.sx_block.specs.declared.invalid.Invalid.{Invalid}
use Rattle.sx_block.specs.declared.invalid.Invalid.TheVariants.{Ended, WrongHeight, WrongParent, WrongBody}
use Rattle.sx_block.specs.declared.invalid.Invalid.TheVariants.{WrongAssets, Tx, TwoCancels, TwoNames, Crowded}
use Rattle.sx_block.specs.declared.invalid.Invalid.TheVariants.{Overdrawn, Overspent, Outside, Unbalanced, Slack, NoCut}
use Rattle.sx_block.specs.declared.invalid.Invalid.TheVariants.{Rounding, WrongAfter}
use Rattle.sx_block.specs.Invalid.{number_of}
use Rattle.sx_dual.specs.declared.cut.Cut.{Cut}
use Rattle.sx_ledger.specs.Static.{number_of_static}
use Rattle.sx_text.specs.declared.status.Status.{Status}
use Rattle.sx_text.specs.declared.status.Status.TheVariants as status
use Rattle.sx_text.specs.Pieces.{line}

-- ---- refusals

-- a set of assets, as eight hexadecimal digits
abbrev pub cut_text : Cut → List ℕ
cut_text cut = encode_lower (big_bytes 4 cut.0)

-- what is there and what the block says
abbrev pub have_said : ℕ → ℕ → List ℕ
have_said have said = codes " have " ++ (decimal have ++ (codes " said " ++ decimal said))

-- what the block says and what is real, as digests
abbrev pub said_real : List ℕ → List ℕ → List ℕ
said_real said real = codes " said " ++ (encode_lower said ++ (codes " real " ++ encode_lower real))

-- a pair of assets
abbrev pub pair_text : ℕ → ℕ → List ℕ
pair_text sell buy = codes " sell " ++ (decimal sell ++ (codes " buy " ++ decimal buy))

-- the name of a reason
abbrev pub name_of : Invalid → List ℕ
name_of Ended = codes "Ended"
name_of (WrongHeight have said) = codes "WrongHeight"
name_of (WrongParent said real) = codes "WrongParent"
name_of (WrongBody said real) = codes "WrongBody"
name_of (WrongAssets have said) = codes "WrongAssets"
name_of (Tx index why) = codes "Tx"
name_of (TwoCancels index) = codes "TwoCancels"
name_of (TwoNames index) = codes "TwoNames"
name_of (Crowded have more limit) = codes "Crowded"
name_of (Overdrawn account asset opening debits) = codes "Overdrawn"
name_of (Overspent account asset opening credits debits) = codes "Overspent"
name_of (Outside sell buy low high y) = codes "Outside"
name_of (Unbalanced asset out into) = codes "Unbalanced"
name_of (Slack sell buy gain y) = codes "Slack"
name_of (NoCut cut) = codes "NoCut"
name_of (Rounding asset said real) = codes "Rounding"
name_of (WrongAfter said real) = codes "WrongAfter"

-- its fields, each after its name
abbrev pub fields_text : Invalid → List ℕ
fields_text Ended = []
fields_text (WrongHeight have said) = have_said have said
fields_text (WrongParent said real) = said_real said real
fields_text (WrongBody said real) = said_real said real
fields_text (WrongAssets have said) = have_said have said
fields_text (Tx index why) =
    codes " index " ++ (decimal index ++ (codes " static " ++ decimal (number_of_static why)))
fields_text (TwoCancels index) = codes " index " ++ decimal index
fields_text (TwoNames index) = codes " index " ++ decimal index
fields_text (Crowded have more limit) =
    codes " have " ++ (decimal have ++ (codes " more " ++ (decimal more ++ (codes " limit " ++ decimal limit))))
fields_text (Overdrawn account asset opening debits) =
    codes " account " ++ (decimal account.0 ++ (codes " asset " ++ (decimal asset
    ++ (codes " opening " ++ (decimal opening ++ (codes " debits " ++ decimal debits))))))
fields_text (Overspent account asset opening credits debits) =
    codes " account " ++ (decimal account.0 ++ (codes " asset " ++ (decimal asset
    ++ (codes " opening " ++ (decimal opening ++ (codes " credits " ++ (decimal credits
    ++ (codes " debits " ++ decimal debits))))))))
fields_text (Outside sell buy low high y) =
    pair_text sell buy ++ (codes " low " ++ (decimal low ++ (codes " high " ++ (decimal high
    ++ (codes " y " ++ decimal y)))))
fields_text (Unbalanced asset out into) =
    codes " asset " ++ (decimal asset ++ (codes " out " ++ (decimal out ++ (codes " into " ++ decimal into))))
fields_text (Slack sell buy gain y) =
    pair_text sell buy ++ (codes " gain " ++ (signed_decimal gain ++ (codes " y " ++ decimal y)))
fields_text (NoCut cut) = codes " cut " ++ cut_text cut
fields_text (Rounding asset said real) =
    codes " asset " ++ (decimal asset ++ (codes " said " ++ (decimal said ++ (codes " real " ++ decimal real))))
fields_text (WrongAfter said real) = said_real said real

-- the number and the name of a reason, and its fields
abbrev pub reason_text : Invalid → List ℕ
reason_text why = decimal (number_of why) ++ (codes " " ++ (name_of why ++ fields_text why))

-- ---- the line that says how a run ended

abbrev pub fault_text : FormFault → List ℕ
fault_text fault =
    codes "malformed at " ++ (decimal fault.at ++ (codes ": " ++ (decimal (number_of_fault fault.fault)
    ++ (codes " " ++ line (name_of_fault fault.fault)))))

abbrev pub refusal_text : ℕ → Invalid → List ℕ
refusal_text block why = codes "refused block " ++ (decimal block ++ (codes ": " ++ line (reason_text why)))

abbrev pub status_text : Status → List ℕ
status_text status.Done = []
status_text status.Usage =
    codes "usage: speedex seal, replay, check, show, interleave, migrate, filter, prove ID, verify, follow or demo N\n"
status_text status.ReadFault = line (codes "read fault")
status_text status.WriteFault = line (codes "write fault")
status_text (status.Malformed fault) = fault_text fault
status_text (status.Refused block why) = refusal_text block why
status_text status.NoMemory = line (codes "out of memory")

-- ---- the line of a valid block

-- what became of the lower bounds
abbrev pub bounds_text : Bool → List ℕ
bounds_text false = codes "kept"
bounds_text true = codes "dropped"

abbrev pub checked_text : Checked → List ℕ
checked_text checked =
    codes "valid height " ++ (decimal checked.height ++ (codes " value " ++ (decimal checked.value
    ++ (codes " bounds " ++ line (bounds_text checked.dropped)))))
