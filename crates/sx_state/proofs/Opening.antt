-- What a state has before its accounts is the beginning of its encoding.
use Rattle.std.proofs.Common.{◌≡◌, ℕ, List, ◌++◌, length, ap, sym, ◌∙◌, append_assoc}
use Rattle.std.specs.List.{flat_map}
use Rattle.byteorder.specs.Endian.{big_bytes}
use Rattle.sx_ledger.specs.declared.parts.Parts.{Parts}
use Rattle.sx_state.specs.Encoding.{account_bytes, offer_bytes, opening_bytes, state_bytes}

pub opening_first : (parts : Parts) → state_bytes parts
    ≡ opening_bytes parts ++ (flat_map (account_bytes parts.version) parts.accounts
    ++ (big_bytes 4 (length parts.offers) ++ flat_map offer_bytes parts.offers))
opening_first parts =
    let version = big_bytes 1 parts.version in
    let height = big_bytes 8 parts.height in
    let assets = big_bytes 1 (length parts.prices) in
    let prices = flat_map (big_bytes 8) parts.prices in
    let rounding = flat_map (big_bytes 8) parts.rounding in
    let count = big_bytes 4 (length parts.accounts) in
    let rest = flat_map (account_bytes parts.version) parts.accounts
    ++ (big_bytes 4 (length parts.offers) ++ flat_map offer_bytes parts.offers) in
    sym (append_assoc version (height ++ (assets ++ (prices ++ (rounding ++ count)))) rest
    ∙ ap (λ (text : List ℕ). version ++ text) (append_assoc height (assets ++ (prices ++ (rounding ++ count))) rest
    ∙ ap (λ (text : List ℕ). height ++ text) (append_assoc assets (prices ++ (rounding ++ count)) rest
    ∙ ap (λ (text : List ℕ). assets ++ text) (append_assoc prices (rounding ++ count) rest
    ∙ ap (λ (text : List ℕ). prices ++ text) (append_assoc rounding count rest)))))
