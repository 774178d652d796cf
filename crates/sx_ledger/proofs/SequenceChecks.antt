-- The first four reasons: the account is not there, or the number is not open in its window.
use Rattle.std.proofs.Common.{◌≡◌, ℕ, ◌+◌, ◌<◌, ◌≤◌, true, false, Some, Ok, Err, refl, ap, ◌∙◌, take, arith}
use Rattle.std.specs.Prelude.{slice_get, Contains}
use Rattle.std.specs.List.Sorted.{IsStrictlyIncreasing}
use Rattle.std.proofs.lemmas.Bool.{le-leb, lt-leb, lt-ltb, le-ltb}
use Rattle.sx_ledger.specs.declared.account.Account.{Account}
use Rattle.sx_ledger.specs.declared.parts.Parts.{Parts}
use Rattle.sx_ledger.specs.declared.statics.Static.TheVariants.{UnknownAccount, SeqBehind, SeqBeyond, SeqUsed}
use Rattle.sx_ledger.specs.Ledger.{ids}
use Rattle.sx_ledger.specs.Static.{window_of, first_holding, static_list}
use Rattle.sx_ledger.proofs.Lookup.{mark_is, window_is, is_known, is_unknown}
use Rattle.sx_tx.specs.declared.tx.Tx.{Tx}
use Rattle.sx_tx.specs.Window.{is_marked}

module _ (parts : Parts) (tx : Tx) where
  pub not_there : (Contains (ids parts.accounts) tx.account.0 → ⊥)
      → Err UnknownAccount ≡ first_holding (take 4 (static_list parts tx))
  not_there absent = rw (is_unknown parts.accounts tx.account.0 absent) refl

  module _ (place : ℕ) (entry : Account) (up : IsStrictlyIncreasing (ids parts.accounts))
      (found : slice_get (ids parts.accounts) place ≡ Some tx.account.0)
      (at : slice_get parts.accounts place ≡ Some entry) where
    window : window_of parts.accounts tx.account.0 ≡ entry.window
    window =
        let same = mark_is (λ (account : Account). account.id.0) parts.accounts place tx.account.0 entry at found in
        ap (window_of parts.accounts) same ∙ window_is parts.accounts place entry at up

    pub inside : entry.window.last < tx.seq → tx.seq ≤ entry.window.last + 64 → is_marked entry.window tx.seq ≡ false
        → Ok tt ≡ first_holding (take 4 (static_list parts tx))
    inside after within unmarked =
        rw (
          is_known parts.accounts place tx.account.0 found,
          window,
          lt-leb tx.seq entry.window.last after,
          le-ltb (entry.window.last + 64) tx.seq within,
          unmarked,
        ) refl

    pub used : entry.window.last < tx.seq → tx.seq ≤ entry.window.last + 64 → is_marked entry.window tx.seq ≡ true
        → Err SeqUsed ≡ first_holding (take 4 (static_list parts tx))
    used after within marked =
        rw (
          is_known parts.accounts place tx.account.0 found,
          window,
          lt-leb tx.seq entry.window.last after,
          le-ltb (entry.window.last + 64) tx.seq within,
          marked,
        ) refl

    pub behind : tx.seq ≤ entry.window.last → Err SeqBehind ≡ first_holding (take 4 (static_list parts tx))
    behind before = rw (
      is_known parts.accounts place tx.account.0 found,
      window,
      le-leb tx.seq entry.window.last before,
    ) refl

    pub beyond : entry.window.last + 64 < tx.seq → Err SeqBeyond ≡ first_holding (take 4 (static_list parts tx))
    beyond past =
        let after : entry.window.last < tx.seq = omega arith in
        rw (
          is_known parts.accounts place tx.account.0 found,
          window,
          lt-leb tx.seq entry.window.last after,
          lt-ltb (entry.window.last + 64) tx.seq past,
        ) refl
