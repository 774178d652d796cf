-- The lines of transactions.
use Rattle.std.specs.Prelude.{ℕ, List, ◌++◌, codes, length}
use Rattle.std.specs.Fmt.{decimal}
use Rattle.std.specs.List.{flat_map}
use Rattle.sx_text.specs.Pieces.{count_line, line}
use Rattle.sx_tx.specs.declared.kind.Kind.{Kind}
use Rattle.sx_tx.specs.declared.kind.Kind.TheVariants as kind
use Rattle.sx_tx.specs.declared.tx.Tx.{Tx}

-- the name of the kind, then its fields
abbrev pub kind_text : Kind → List ℕ
kind_text (kind.Pay asset to amount) =
    codes "pay " ++ (decimal to.0 ++ (codes " " ++ (decimal asset ++ (codes " " ++ decimal amount))))
kind_text (kind.Create id) = codes "create " ++ decimal id.0
kind_text (kind.Offer sell buy limit amount) =
    codes "offer " ++ (decimal sell ++ (codes " " ++ (decimal buy ++ (codes " limit " ++ (decimal limit
    ++ (codes " amount " ++ decimal amount))))))
kind_text (kind.Cancel sell buy limit seq) =
    codes "cancel " ++ (decimal sell ++ (codes " " ++ (decimal buy ++ (codes " limit " ++ (decimal limit
    ++ (codes " seq " ++ decimal seq))))))

abbrev pub tx_line : Tx → List ℕ
tx_line tx =
    codes "tx " ++ (decimal tx.account.0 ++ (codes " " ++ (decimal tx.seq ++ (codes " " ++ line (kind_text tx.kind)))))

-- transactions under this name, their number first
abbrev pub transactions_text : List ℕ → List Tx → List ℕ
transactions_text name txs = count_line name (length txs) ++ flat_map tx_line txs

abbrev pub candidates_text : List Tx → List ℕ
candidates_text txs = transactions_text (codes "candidates") txs
