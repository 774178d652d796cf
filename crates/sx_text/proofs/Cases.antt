-- The texts of worked values.
use Rattle.std.proofs.Common.{◌≡◌, ℕ, true, false, List, [], ◌∷◌, ◌++◌, None, Some, refl}
use Rattle.std.specs.Prelude.{negsuc, codes}
use Rattle.std.specs.Fmt.{digits}
use Rattle.hex.specs.Hex.{encode_with}
use Rattle.sx_block.specs.declared.header.Block.{Block}
use Rattle.sx_bytes.specs.declared.fault.Form.TheVariants as form
use Rattle.sx_block.specs.declared.invalid.Invalid.TheVariants as invalid
use Rattle.sx_block.specs.declared.proof.Proof.{Proof}
use Rattle.sx_outcome.specs.declared.outcome.Outcome.TheVariants as outcome
use Rattle.sx_ledger.specs.declared.account.Account.{Account}
use Rattle.sx_ledger.specs.declared.parts.Parts.{Parts}
use Rattle.sx_ledger.specs.declared.statics.Static.TheVariants.{SeqBeyond}
use Rattle.sx_tx.specs.declared.kind.Kind.{Kind}
use Rattle.sx_tx.specs.declared.kind.Kind.TheVariants as kind
use Rattle.sx_tx.specs.declared.tx.Tx.{Tx}
use Rattle.sx_text.specs.declared.status.Status.TheVariants.{Malformed, Refused}
use Rattle.sx_text.specs.Blocks.{block_text, dropped_line, trade_line}
use Rattle.sx_text.specs.Demonstration.{demo_text}
use Rattle.sx_text.specs.Gathering.{outcomes_text, script_text}
use Rattle.sx_text.specs.States.{account_line, offer_line, state_text}
use Rattle.sx_text.specs.Texts.{checked_text, status_text}
use Rattle.sx_text.specs.Transactions.{candidates_text}
use Rattle.sx_text.specs.Verdict.{proof_text}

-- ---- a state

-- one account, with one balance
holding : ℕ → ℕ → ℕ → Account
holding id used balance = record {
  id = record { 0 = id };
  window = record { last = 0; used = used };
  balances = balance ∷ [];
}

two_accounts : Parts
two_accounts = record {
  version = 1;
  height = 0;
  prices = 16777216 ∷ [];
  rounding = 0 ∷ [];
  accounts = holding 1 0 100 ∷ holding 2 0 5 ∷ [];
  offers = [];
}

four_lines : state_text two_accounts ≡ codes "state version 1 height 0 assets 1\n"
    ++ (codes "asset 0 price 16777216 rounding 0\n"
    ++ (codes "account 1 last 0 balances 100\n" ++ codes "account 2 last 0 balances 5\n"))
unfolding digits two_accounts holding
four_lines = refl

-- the map of used numbers is there in version 2 alone
used_in_version_2 : account_line 2 (holding 1 6 100) ≡ codes "account 1 last 0 used 6 balances 100\n"
unfolding digits holding
used_in_version_2 = refl

one_offer : offer_line (record {
  sell = 0;
  buy = 1;
  limit = 8388608;
  account = record { 0 = 3 };
  seq = 7;
  amount = 40;
}) ≡ codes "offer 0 1 limit 8388608 account 3 seq 7 amount 40\n"
unfolding digits
one_offer = refl

-- ---- transactions and a block

tx : ℕ → ℕ → Kind → Tx
tx account seq kind = record { account = record { 0 = account }; seq = seq; kind = kind }

four_kinds : candidates_text (
    tx 1 1 (kind.Pay 0 (record { 0 = 2 }) 30)
    ∷ tx 1 2 (kind.Create (record { 0 = 9 }))
    ∷ tx 1 3 (kind.Offer 0 1 16777216 100)
    ∷ tx 2 4 (kind.Cancel 1 0 8388608 3)
    ∷ []
    ) ≡ codes "candidates 4\ntx 1 1 pay 2 0 30\ntx 1 2 create 9\ntx 1 3 offer 0 1 limit 16777216 amount 100\n"
    ++ codes "tx 2 4 cancel 1 0 limit 8388608 seq 3\n"
unfolding digits tx
four_kinds = refl

parent : List ℕ
parent =
    188 ∷ 209 ∷ 180 ∷ 111 ∷ 105 ∷ 91 ∷ 212 ∷ 8 ∷ 216 ∷ 157 ∷ 179 ∷ 83 ∷ 255 ∷ 4 ∷ 21 ∷ 173 ∷ 28 ∷ 222 ∷ 51 ∷ 214 ∷
    176 ∷ 91 ∷ 51 ∷ 68 ∷ 1 ∷ 250 ∷ 250 ∷ 24 ∷ 141 ∷ 89 ∷ 213 ∷ 236 ∷ []

body : List ℕ
body =
    137 ∷ 25 ∷ 32 ∷ 113 ∷ 252 ∷ 23 ∷ 73 ∷ 102 ∷ 51 ∷ 77 ∷ 192 ∷ 93 ∷ 237 ∷ 105 ∷ 53 ∷ 190 ∷ 6 ∷ 140 ∷ 148 ∷ 127 ∷
    105 ∷ 180 ∷ 210 ∷ 59 ∷ 168 ∷ 58 ∷ 170 ∷ 197 ∷ 51 ∷ 221 ∷ 3 ∷ 33 ∷ []

after : List ℕ
after =
    246 ∷ 90 ∷ 125 ∷ 46 ∷ 47 ∷ 73 ∷ 31 ∷ 152 ∷ 226 ∷ 166 ∷ 16 ∷ 69 ∷ 95 ∷ 1 ∷ 73 ∷ 149 ∷ 198 ∷ 52 ∷ 143 ∷ 83 ∷ 53 ∷
    57 ∷ 167 ∷ 189 ∷ 50 ∷ 137 ∷ 242 ∷ 51 ∷ 116 ∷ 70 ∷ 95 ∷ 122 ∷ []

two_payments : Block
two_payments = record {
  header = record {
    version = 2;
    height = 1;
    parent = parent;
    body = body;
    mu = 10;
    prices = 16777216 ∷ [];
    trades = record { assets = 1; values = 0 ∷ [] };
    dropped = None;
    potentials = 0 ∷ [];
    rounding = 0 ∷ [];
    after = after;
  };
  txs = tx 1 1 (kind.Pay 0 (record { 0 = 2 }) 30) ∷ tx 2 1 (kind.Pay 0 (record { 0 = 1 }) 20) ∷ [];
}

nine_lines : block_text two_payments ≡ codes "block version 2 height 1 mu 10 assets 1\n"
    ++ (codes "parent bcd1b46f695bd408d89db353ff0415ad1cde33d6b05b334401fafa188d59d5ec\n"
    ++ (codes "body 89192071fc174966334dc05ded6935be068c947f69b4d23ba83aaac533dd0321\n"
    ++ (codes "asset 0 price 16777216 potential 0 rounding 0\ndropped none\n"
    ++ (codes "after f65a7d2e2f491f98e2a610455f014995c6348f533539a7bd3289f23374465f7a\n"
    ++ codes "transactions 2\ntx 1 1 pay 2 0 30\ntx 2 1 pay 1 0 20\n"))))
unfolding digits encode_with tx parent body after two_payments
nine_lines = refl

one_trade : trade_line (record { sell = 1; buy = 0; value = 1006632960 }) ≡ codes "trade 1 0 1006632960\n"
unfolding digits
one_trade = refl

-- a cut has eight digits
eight_digits : dropped_line (Some (record { 0 = 10 })) ≡ codes "dropped 0000000a\n"
unfolding encode_with
eight_digits = refl

-- ---- outcomes and a script

two_outcomes : outcomes_text (outcome.Accepted ∷ outcome.Overdraft 40 60 ∷ [])
    ≡ codes "outcomes 2\n0 accepted\n1 overdraft seen 40 need 60\n"
unfolding digits
two_outcomes = refl

other_outcomes :
    outcomes_text (outcome.Static SeqBeyond ∷ outcome.SeqTaken ∷ outcome.OfferTaken ∷ outcome.NameTaken ∷ [])
    ≡ codes "outcomes 4\n0 static 3\n1 seq-taken\n2 offer-taken\n3 name-taken\n"
unfolding digits
other_outcomes = refl

two_turns : script_text (record { actors = 2; turns = 0 ∷ 1 ∷ [] })
    ≡ codes "script actors 2 turns 2\nturn 0\nturn 1\n"
unfolding digits
two_turns = refl

-- ---- how a run ended

short : status_text (Malformed (record { at = 259; fault = form.Short })) ≡ codes "malformed at 259: 1 Short\n"
unfolding digits
short = refl

ended : status_text (Refused 0 invalid.Ended) ≡ codes "refused block 0: 1 Ended\n"
unfolding digits
ended = refl

refused_alone : status_text (Refused 2 (invalid.Tx 0 SeqBeyond)) ≡ codes "refused block 2: 6 Tx index 0 static 3\n"
unfolding digits
refused_alone = refl

overdrawn : status_text (Refused 0 (invalid.Overdrawn (record { 0 = 1 }) 0 100 101))
    ≡ codes "refused block 0: 10 Overdrawn account 1 asset 0 opening 100 debits 101\n"
unfolding digits
overdrawn = refl

overspent : status_text (Refused 0 (invalid.Overspent (record { 0 = 2 }) 0 5 30 36))
    ≡ codes "refused block 0: 17 Overspent account 2 asset 0 opening 5 credits 30 debits 36\n"
unfolding digits
overspent = refl

-- a gain below 0 has its sign
below_zero : status_text (Refused 0 (invalid.Slack 1 0 (negsuc 4) 167772160))
    ≡ codes "refused block 0: 13 Slack sell 1 buy 0 gain -5 y 167772160\n"
unfolding digits
below_zero = refl

no_cut : status_text (Refused 0 (invalid.NoCut (record { 0 = 2 }))) ≡ codes "refused block 0: 14 NoCut cut 00000002\n"
unfolding digits encode_with
no_cut = refl

wrong_parent : status_text (Refused 0 (invalid.WrongParent body parent)) ≡ codes "refused block 0: 3 WrongParent"
    ++ (codes " said 89192071fc174966334dc05ded6935be068c947f69b4d23ba83aaac533dd0321"
    ++ codes " real bcd1b46f695bd408d89db353ff0415ad1cde33d6b05b334401fafa188d59d5ec\n")
unfolding digits encode_with body parent
wrong_parent = refl

-- ---- a proof of an account

zero_to_31 : List ℕ
zero_to_31 =
    0 ∷ 1 ∷ 2 ∷ 3 ∷ 4 ∷ 5 ∷ 6 ∷ 7 ∷ 8 ∷ 9 ∷ 10 ∷ 11 ∷ 12 ∷ 13 ∷ 14 ∷ 15 ∷ 16 ∷ 17 ∷ 18 ∷ 19 ∷
    20 ∷ 21 ∷ 22 ∷ 23 ∷ 24 ∷ 25 ∷ 26 ∷ 27 ∷ 28 ∷ 29 ∷ 30 ∷ 31 ∷ []

-- account 7 at this place
seven_at : ℕ → Proof
seven_at place = record { version = 2; place = place; account = holding 7 0 100; siblings = [] }

good_proof : proof_text zero_to_31 (seven_at 1) true ≡ codes "proof good account 7 place 1 root "
    ++ codes "000102030405060708090a0b0c0d0e0f101112131415161718191a1b1c1d1e1f\n"
unfolding digits encode_with zero_to_31 seven_at holding
good_proof = refl

bad_proof : proof_text zero_to_31 (seven_at 65535) false ≡ codes "proof bad account 7 place 65535 root "
    ++ codes "000102030405060708090a0b0c0d0e0f101112131415161718191a1b1c1d1e1f\n"
unfolding digits encode_with zero_to_31 seven_at holding
bad_proof = refl

-- ---- a valid block, and the demonstration

valid : checked_text (record { height = 1; value = 2013265920; dropped = false })
    ≡ codes "valid height 1 value 2013265920 bounds kept\n"
unfolding digits
valid = refl

summary : demo_text 1 (outcome.Accepted ∷ outcome.SeqTaken ∷ outcome.Accepted ∷ [])
    (record { height = 1; value = 2013265920; dropped = true }) two_payments.header
    ≡ codes "demo 1\naccepted 2 refused 1\nbounds dropped\nvalue 2013265920\nrounding 0\n"
    ++ codes "after f65a7d2e2f491f98e2a610455f014995c6348f533539a7bd3289f23374465f7a\n"
unfolding digits encode_with after two_payments
summary = refl
