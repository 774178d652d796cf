-- Accounts that are credited fill by fill.
use Rattle.std.proofs.Common.{◌≡◌, ◌≢◌, ℕ, zero, suc, ◌+◌, ◌^◌, ◌<◌, ◌≤◌, cond, eqb, ◌&&◌, List, [], ◌∷◌, ◌++◌}
use Rattle.std.proofs.Common.{length, get_or, set, take, map, Contains, Some, refl, sym, ap, ap₂, subst, ◌∙◌, arith}
use Rattle.std.specs.Prelude.{All, slice_get}
use Rattle.std.specs.List.Sorted.{IsStrictlyIncreasing}
use Rattle.std.proofs.lemmas.Bool.{eq-eqb, ne_eqb}
use Rattle.std.proofs.lemmas.List.{get_or-map, length-map, take_more}
use Rattle.std.proofs.lemmas.List.Sums.{sum_by-take-le, sum_by_push}
use Rattle.std.proofs.lemmas.Option.{get_or_from_slice_get, none-some, same_Some, slice_get_within}
use Rattle.sx_apply.specs.FillSums.{balances_paid, of_offer, paid_by, proceeds_by}
use Rattle.sx_ledger.specs.declared.account.Account.{Account}
use Rattle.sx_ledger.specs.declared.fill.Fill.{Fill}
use Rattle.sx_ledger.specs.declared.offer.Offer.{Offer}
use Rattle.sx_ledger.specs.Ledger.{balance_at, ids}
use Rattle.sx_ledger.proofs.PlacesOfIds.{same_place}

-- ---- balances

paid_same : (f g : ℕ → ℕ) (asset : ℕ) (bs : List ℕ) → ((x : ℕ) → asset ≤ x → g x ≡ f x)
    → balances_paid g asset bs ≡ balances_paid f asset bs
paid_same f g asset [] same = refl
paid_same f g asset (b ∷ bs) same =
    ap₂ (λ (n : ℕ) (ns : List ℕ). (b + n) ∷ ns) (same asset (omega arith))
    (paid_same f g (suc asset) bs (λ x le. same x (omega arith)))

-- what is got of one asset more
paid_more : (f g : ℕ → ℕ) (asset k units : ℕ) (bs : List ℕ) → k < length bs → g (asset + k) ≡ f (asset + k) + units
    → ((x : ℕ) → x ≢ asset + k → g x ≡ f x)
    → balances_paid g asset bs ≡ set (balances_paid f asset bs) k (get_or (balances_paid f asset bs) k 0 + units)
paid_more f g asset k units [] lt here others = absurd (omega arith)
paid_more f g asset zero units (b ∷ bs) lt here others =
    let at : asset + zero ≡ asset = omega arith in
    let now : g asset ≡ f asset + units = rw at at here in
    ap₂ (λ (n : ℕ) (ns : List ℕ). n ∷ ns) (let e : b + g asset ≡ (b + f asset) + units = omega arith in e)
    (paid_same f g (suc asset) bs (λ x le. others x (λ e. absurd (omega arith))))
paid_more f g asset (suc k) units (b ∷ bs) lt here others =
    let at : asset + suc k ≡ suc asset + k = omega arith in
    ap₂ (λ (n : ℕ) (ns : List ℕ). (b + n) ∷ ns) (others asset (λ e. absurd (omega arith)))
    (paid_more f g (suc asset) k units bs (omega arith) (rw at at here) (λ x other. others x (λ e. other (e ∙ at))))

paid_none : (f : ℕ → ℕ) (asset : ℕ) (bs : List ℕ) → ((x : ℕ) → f x ≡ 0) → balances_paid f asset bs ≡ bs
paid_none f asset [] none = refl
paid_none f asset (b ∷ bs) none =
    ap₂ (λ (n : ℕ) (ns : List ℕ). n ∷ ns) (let h = none asset in let e : b + f asset ≡ b = omega arith in e)
    (paid_none f (suc asset) bs none)

pub paid_length : (f : ℕ → ℕ) (asset : ℕ) (bs : List ℕ) → length (balances_paid f asset bs) ≡ length bs
paid_length f asset [] = refl
paid_length f asset (b ∷ bs) = ap suc (paid_length f (suc asset) bs)

pub paid_at : (f : ℕ → ℕ) (asset k : ℕ) (bs : List ℕ) → k < length bs
    → get_or (balances_paid f asset bs) k 0 ≡ get_or bs k 0 + f (asset + k)
paid_at f asset k [] lt = absurd (omega arith)
paid_at f asset zero (b ∷ bs) lt = ap (λ (n : ℕ). b + f n) (let e : asset ≡ asset + zero = omega arith in e)
paid_at f asset (suc k) (b ∷ bs) lt =
    paid_at f (suc asset) k bs (omega arith)
    ∙ ap (λ (n : ℕ). get_or bs k 0 + f n) (let e : suc asset + k ≡ asset + suc k = omega arith in e)

-- ---- lists of accounts

map_same : {A : Type 0} (g h : A → A) (xs : List A) → ((q : ℕ) (x : A) → slice_get xs q ≡ Some x → h x ≡ g x)
    → map g xs ≡ map h xs
map_same g h [] same = refl
map_same {A} g h (x ∷ xs) same =
    ap₂ (λ (y : A) (ys : List A). y ∷ ys) (sym (same zero x refl)) (map_same g h xs (λ q y e. same (suc q) y e))

map_put : {A : Type 0} (g h : A → A) (xs : List A) (p : ℕ) (y : A) → p < length xs
    → ((q : ℕ) (x : A) → slice_get xs q ≡ Some x → q ≢ p → h x ≡ g x)
    → ((x : A) → slice_get xs p ≡ Some x → y ≡ h x) → set (map g xs) p y ≡ map h xs
map_put g h [] p y lt others here = absurd (omega arith)
map_put {A} g h (x ∷ xs) zero y lt others here =
    ap₂ (λ (z : A) (zs : List A). z ∷ zs) (here x refl)
    (map_same g h xs (λ q z e. others (suc q) z e (λ same. absurd (omega arith))))
map_put {A} g h (x ∷ xs) (suc p) y lt others here =
    ap₂ (λ (z : A) (zs : List A). z ∷ zs) (sym (others zero x refl (λ same. absurd (omega arith))))
    (map_put g h xs p y (omega arith) (λ q z e other. others (suc q) z e (λ same. other (omega arith)))
    (λ z e. here z e))

pub same_ids : (offers : List Offer) (fills : List Fill) (accounts : List Account)
    → ids (map (paid_by offers fills) accounts) ≡ ids accounts
same_ids offers fills [] = refl
same_ids offers fills (a ∷ accounts) = ap (λ (xs : List ℕ). a.id.0 ∷ xs) (same_ids offers fills accounts)

pub id_at : (accounts : List Account) (p : ℕ) (a : Account) → slice_get accounts p ≡ Some a
    → slice_get (ids accounts) p ≡ Some a.id.0
id_at [] p a e = absurd (none-some a e)
id_at (x ∷ accounts) zero a e = ap (λ (y : Account). Some y.id.0) (same_Some x a e)
id_at (x ∷ accounts) (suc p) a e = id_at accounts p a e

pub nothing_paid : (offers : List Offer) (accounts : List Account) → accounts ≡ map (paid_by offers []) accounts
nothing_paid offers [] = refl
nothing_paid offers (a ∷ accounts) =
    ap₂ (λ (x : Account) (xs : List Account). x ∷ xs)
    (ap (λ (bs : List ℕ). record a { balances = bs }) (sym (paid_none (λ asset. 0) 0 a.balances (λ x. refl))))
    (nothing_paid offers accounts)

-- ---- one fill more

module _ (offers : List Offer) (fills : List Fill) (fill : Fill) (o : Offer)
    (there : slice_get offers fill.place ≡ Some o) where
  abbrev more : List Fill
  more = fills ++ fill ∷ []

  proceeds_more : (id asset : ℕ) → proceeds_by offers more id asset
      ≡ proceeds_by offers fills id asset + cond (eqb o.account.0 id && eqb o.buy asset) fill.gets 0
  proceeds_more id asset =
      sum_by_push (λ (x : Fill). of_offer (λ o. cond (eqb o.account.0 id && eqb o.buy asset) x.gets 0)
      (slice_get offers x.place)) fills fill
      ∙ ap (λ (n : ℕ). proceeds_by offers fills id asset + n)
      (ap (of_offer (λ o. cond (eqb o.account.0 id && eqb o.buy asset) fill.gets 0)) there)

  -- another account gets nothing of it
  pub others_unpaid : (a : Account) → o.account.0 ≢ a.id.0 → paid_by offers more a ≡ paid_by offers fills a
  others_unpaid a other =
      ap (λ (bs : List ℕ). record a { balances = bs })
      (paid_same (proceeds_by offers fills a.id.0) (proceeds_by offers more a.id.0) 0 a.balances
      (λ x le. proceeds_more a.id.0 x ∙ rw (ne_eqb o.account.0 a.id.0 other) (omega arith)))

  -- the seller gets it
  pub seller_paid : (a : Account) → o.account.0 ≡ a.id.0 → o.buy < length a.balances
      → paid_by offers more a
      ≡ record (paid_by offers fills a) {
        balances =
            set (paid_by offers fills a).balances o.buy (balance_at o.buy (paid_by offers fills a) + fill.gets);
      }
  seller_paid a own lt =
      ap (λ (bs : List ℕ). record a { balances = bs })
      (paid_more (proceeds_by offers fills a.id.0) (proceeds_by offers more a.id.0) 0 o.buy fill.gets a.balances lt
      (proceeds_more a.id.0 (0 + o.buy) ∙
      rw (eq-eqb o.account.0 a.id.0 own, eq-eqb o.buy (0 + o.buy) (omega arith)) refl)
      (λ x other. proceeds_more a.id.0 x
      ∙ rw (eq-eqb o.account.0 a.id.0 own, ne_eqb o.buy x (λ e. other (omega arith))) (omega arith)))

  pub none_paid : (accounts : List Account)
      → ((q : ℕ) (a : Account) → slice_get accounts q ≡ Some a → o.account.0 ≢ a.id.0)
      → map (paid_by offers fills) accounts ≡ map (paid_by offers more) accounts
  none_paid accounts apart =
      map_same (paid_by offers fills) (paid_by offers more) accounts (λ q a e. others_unpaid a (apart q a e))

  pub one_paid : (accounts : List Account) (p : ℕ) (new : Account) → IsStrictlyIncreasing (ids accounts)
      → slice_get (ids accounts) p ≡ Some o.account.0 → p < length accounts
      → ((a : Account) → slice_get accounts p ≡ Some a → new ≡ paid_by offers more a)
      → set (map (paid_by offers fills) accounts) p new ≡ map (paid_by offers more) accounts
  one_paid accounts p new up here lt is =
      map_put (paid_by offers fills) (paid_by offers more) accounts p new lt
      (λ q a e other. others_unpaid a
      (λ same. other (same_place (ids accounts) up q p o.account.0
      (id_at accounts q a e ∙ ap (λ (n : ℕ). Some n) (sym same)) here)))
      is

contains_at : (xs : List ℕ) (k x : ℕ) → slice_get xs k ≡ Some x → Contains xs x
contains_at xs k x e = (k, slice_get_within xs k x e, get_or_from_slice_get xs k x x e)

-- ---- the step of the loop

module _ (offers : List Offer) (fills : List Fill) (accounts current : List Account) (k : ℕ) (d : Fill) (o : Offer)
    (so_far : current ≡ map (paid_by offers (take k fills)) accounts) (lt : k < length fills)
    (there : slice_get offers (get_or fills k d).place ≡ Some o) where
  abbrev next : Fill
  next = get_or fills k d

  taken : take (k + 1) fills ≡ take k fills ++ next ∷ []
  taken = take_more fills k d lt

  -- the seller is not there
  pub step_none : (Contains (ids accounts) o.account.0 → ⊥) →
      current ≡ map (paid_by offers (take (k + 1) fills)) accounts
  step_none absent =
      so_far
      ∙ none_paid offers (take k fills) next o there accounts
      (λ q a e same. absent (subst (Contains (ids accounts)) (sym same)
      (contains_at (ids accounts) q a.id.0 (id_at accounts q a e))))
      ∙ ap (λ (fs : List Fill). map (paid_by offers fs) accounts) (sym taken)

  -- the seller stands at a place
  module _ (p : ℕ) (e : Account) (up : IsStrictlyIncreasing (ids accounts))
      (here : slice_get (ids accounts) p ≡ Some o.account.0)
      (buys : All (λ (account : Account). o.buy < length account.balances) accounts) where
    abbrev account : Account
    account = get_or accounts p e

    pub place_within : p < length accounts
    place_within =
        omega (arith, slice_get_within (ids accounts) p o.account.0 here, length-map accounts (λ (a : Account). a.id.0))

    own : o.account.0 ≡ account.id.0
    own =
        sym (get_or_from_slice_get (ids accounts) p o.account.0 0 here)
        ∙ get_or-map (λ (a : Account). a.id.0) accounts p e 0 place_within

    read : get_or current p e ≡ paid_by offers (take k fills) account
    read =
        ap (λ (xs : List Account). get_or xs p e) so_far
        ∙ get_or-map (paid_by offers (take k fills)) accounts p e e place_within

    wide : o.buy < length account.balances
    wide = buys p e place_within

    pub step_asset : o.buy < length (get_or current p e).balances
    step_asset =
        let long : length (get_or current p e).balances ≡ length account.balances =
        ap (λ (a : Account). length a.balances) read ∙
        paid_length (proceeds_by offers (take k fills) account.id.0) 0 account.balances in
        omega (arith, wide)

    pub step_fits : balance_at o.buy account + proceeds_by offers fills account.id.0 o.buy < 2 ^ 64
        → balance_at o.buy (get_or current p e) + next.gets < 2 ^ 64
    step_fits fits =
        let now : balance_at o.buy (get_or current p e) ≡ balance_at o.buy account + proceeds_by offers
        (take k fills) account.id.0 o.buy =
        ap (balance_at o.buy) read
        ∙ paid_at (proceeds_by offers (take k fills) account.id.0) 0 o.buy account.balances wide
        ∙ ap (λ (n : ℕ). balance_at o.buy account + proceeds_by offers (take k fills) account.id.0 n)
        (let z : 0 + o.buy ≡ o.buy = omega arith in z) in
        let more : proceeds_by offers (take (k + 1) fills) account.id.0 o.buy ≡ proceeds_by offers (take k fills)
        account.id.0 o.buy + next.gets =
        ap (λ (fs : List Fill). proceeds_by offers fs account.id.0 o.buy) taken
        ∙ proceeds_more offers (take k fills) next o there account.id.0 o.buy
        ∙ rw (eq-eqb o.account.0 account.id.0 own, eq-eqb o.buy o.buy refl) refl in
        let within : proceeds_by offers (take (k + 1) fills) account.id.0 o.buy ≤ proceeds_by offers fills
        account.id.0 o.buy =
        sum_by-take-le (λ (x : Fill). of_offer
        (λ o'. cond (eqb o'.account.0 account.id.0 && eqb o'.buy o.buy) x.gets 0) (slice_get offers x.place))
        fills (k + 1) in
        omega arith

    pub step_paid : (new : Account)
        → new
        ≡ record (get_or current p e) {
          balances = set (get_or current p e).balances o.buy (balance_at o.buy (get_or current p e) + next.gets);
        } → set current p new ≡ map (paid_by offers (take (k + 1) fills)) accounts
    step_paid new is =
        let added : Account → Account =
        λ a. record a { balances = set a.balances o.buy (balance_at o.buy a + next.gets) } in
        let made : (a : Account) → slice_get accounts p ≡ Some a → new ≡ paid_by offers (take k fills ++ next ∷ []) a =
        λ a at. is ∙ ap added (read ∙ ap (paid_by offers (take k fills)) (get_or_from_slice_get accounts p a e at))
        ∙ sym (seller_paid offers (take k fills) next o there a
        (own ∙ ap (λ (x : Account). x.id.0) (get_or_from_slice_get accounts p a e at))
        (subst (λ (x : Account). o.buy < length x.balances) (get_or_from_slice_get accounts p a e at) wide)) in
        ap (λ (xs : List Account). set xs p new) so_far
        ∙ one_paid offers (take k fills) next o there accounts p new up here place_within made
        ∙ ap (λ (fs : List Fill). map (paid_by offers fs) accounts) (sym taken)

pub slice_get_within_ids : (accounts : List Account) (p id : ℕ) → slice_get (ids accounts) p ≡ Some id →
    p < length accounts
slice_get_within_ids accounts p id e =
    omega (arith, slice_get_within (ids accounts) p id e, length-map accounts (λ (a : Account). a.id.0))
