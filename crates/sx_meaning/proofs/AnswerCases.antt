-- A state alone, which `migrate` writes in version 2, and answers that are not those of what is found of an input.
use Rattle.std.proofs.Common.{◌≡◌, ℕ, zero, suc, ◌^◌, ◌<◌, ◌≤◌, List, [], ◌∷◌, Some, None, inl, inr, refl, subst, arith}
use Rattle.std.specs.Prelude.{◌⊎◌}
use Rattle.std.proofs.lemmas.List.Elements.{All-from_recursion, All-nil}
use Rattle.sx_bytes.specs.declared.fault.FormFault.{FormFault}
use Rattle.sx_block.specs.declared.invalid.Invalid.{Invalid}
use Rattle.sx_block.specs.declared.invalid.Invalid.TheVariants as invalid
use Rattle.sx_outcome.specs.declared.space.NoRoom.TheVariants as no_room
use Rattle.sx_ledger.specs.declared.parts.Parts.{Parts}
use Rattle.sx_ledger.specs.Ledger.{IsAccount, IsLedger, IsOffer, total_of}
use Rattle.sx_meaning.specs.Answers.{Answers, Completes, IsRead, status_of}
use Rattle.sx_meaning.specs.Findings.{Finding, Finds, MayCome, as_invalid, malformed, no_fault, refused}
use Rattle.sx_meaning.specs.Items.{Item, state}
use Rattle.sx_meaning.specs.Laws.{FindsOne, WritesOne}
use Rattle.sx_meaning.specs.Outputs.{MayWrite, Writes}
use Rattle.sx_price.specs.Limits.{IsPrice}
use Rattle.sx_text.specs.declared.status.Status.{Status}
use Rattle.sx_text.specs.declared.status.Status.TheVariants.{Done, Usage, WriteFault, Malformed, Refused, NoMemory}
use Rattle.sx_words.specs.declared.command.Command.TheVariants.{Migrate}

-- ---- a state of one asset, without accounts

abbrev older : Parts
older = record {
  version = 1;
  height = 7;
  prices = 2 ^ 24 ∷ [];
  rounding = 3 ∷ [];
  accounts = [];
  offers = [];
}

totals : (asset : ℕ) → asset < 1 → total_of older asset ≤ 2 ^ 62
totals zero lt = omega arith
totals (suc asset) lt = absurd (omega arith)

is_ledger : IsLedger older
is_ledger = record {
  some_version = omega arith;
  few_versions = omega arith;
  height = omega arith;
  some_asset = omega arith;
  few_assets = omega arith;
  prices = All-from_recursion IsPrice (2 ^ 24 ∷ []) ((omega arith, omega arith), tt);
  one_rounding = refl;
  rounding = All-from_recursion (λ units. units ≤ 2 ^ 62) (3 ∷ []) (omega arith, tt);
  few_accounts = omega arith;
  accounts = All-nil (IsAccount 1 1);
  by_id = λ k lt. absurd (omega arith);
  few_offers = omega arith;
  offers = All-nil (IsOffer 1 []);
  by_key = refl;
  totals = totals;
}

-- 34 bytes after the frame: version, height, assets, price, rounding, and no account and no offer
abbrev input : List ℕ
input =
    1 ∷ 0 ∷ 0 ∷ 0 ∷ 34 ∷ 1 ∷ 0 ∷ 0 ∷ 0 ∷ 0 ∷ 0 ∷ 0 ∷ 0 ∷ 7 ∷ 1 ∷ 0 ∷ 0 ∷ 0 ∷ 0 ∷ 1 ∷ 0 ∷ 0 ∷ 0 ∷ 0 ∷ 0 ∷ 0 ∷ 0 ∷ 0
    ∷ 0 ∷ 0 ∷ 3 ∷ 0 ∷ 0 ∷ 0 ∷ 0 ∷ 0 ∷ 0 ∷ 0 ∷ 0 ∷ []

-- the same in version 2
abbrev newer : List ℕ
newer =
    1 ∷ 0 ∷ 0 ∷ 0 ∷ 34 ∷ 2 ∷ 0 ∷ 0 ∷ 0 ∷ 0 ∷ 0 ∷ 0 ∷ 0 ∷ 7 ∷ 1 ∷ 0 ∷ 0 ∷ 0 ∷ 0 ∷ 1 ∷ 0 ∷ 0 ∷ 0 ∷ 0 ∷ 0 ∷ 0 ∷ 0 ∷ 0
    ∷ 0 ∷ 0 ∷ 3 ∷ 0 ∷ 0 ∷ 0 ∷ 0 ∷ 0 ∷ 0 ∷ 0 ∷ 0 ∷ []

may_come : MayCome Migrate [] (state older)
may_come = record { listed = ((0, omega arith, refl), refl); form = is_ledger; goes_on = tt }

migrated : Finds Migrate input no_fault []
migrated = record {
  items = state older ∷ [];
  rest = [];
  each = (may_come, tt);
  read = refl;
  finds = record {
    done = (refl, refl);
    may = refl;
    concludes = record { parts = older; are = refl; finds = refl };
  };
}

may_write : MayWrite Migrate input newer []
unfolding migrated
may_write = record { found = migrated; writes = refl }

-- ---- answers to it

module _ (writes_one_text : WritesOne) where
  only_newer : (text left : List ℕ) → MayWrite Migrate input text left → text ≡ newer
  only_newer text left may = writes_one_text Migrate input text newer left [] refl may may_write

  -- all of it is written, after what the sink has
  written : Answers Migrate (Some input) (Some []) (Some (9 ∷ [])) (Some (9 ∷ newer)) Done
  written = (newer, ([], may_write, refl), refl)

  -- nothing is no output
  not_nothing : Answers Migrate (Some input) (Some []) (Some []) (Some []) Done → ⊥
  not_nothing (text, (left, may, is), appends) = let e = only_newer text left may in cc

  -- at a fault of writing another byte than the first was not written
  not_another : Answers Migrate (Some input) (Some []) (Some []) (Some (2 ∷ [])) WriteFault → ⊥
  not_another (text, (left, may, is), (zero, few, appends)) = cc
  not_another (text, (left, may, is), (suc n, few, appends)) = let e = only_newer text left may in cc

module _ (finds_one : FindsOne) where
  -- it is not malformed, and not refused
  not_malformed : (fault : FormFault) → Answers Migrate (Some input) (Some []) (Some []) (Some []) (Malformed fault) → ⊥
  not_malformed fault (left, finds, is) =
      let same = finds_one Migrate input (malformed fault) no_fault left [] finds migrated in
      let e : ◌≡◌ {A = Finding} (malformed fault) no_fault = same.0 in cc

  not_refused : (number : ℕ) (why : Invalid)
      → Answers Migrate (Some input) (Some []) (Some []) (Some []) (Refused number why) → ⊥
  not_refused number why (left, finds, is) =
      let same = finds_one Migrate input (refused number why) no_fault left [] finds migrated in
      let e : ◌≡◌ {A = Finding} (refused number why) no_fault = same.0 in cc

  -- a byte is left where none is
  all_is_read : Answers Migrate (Some input) (Some (5 ∷ [])) (Some []) (Some newer) Done → ⊥
  all_is_read (text, (left, may, is), appends) =
      let same = finds_one Migrate input no_fault no_fault left [] may.found migrated in
      let none : left ≡ [] = same.1 in cc

not_usage : Answers Migrate (Some input) (Some input) (Some []) (Some []) Usage → ⊥
not_usage answers = answers

nothing_left : IsRead Migrate (Some input) (Some (5 ∷ [])) → ⊥
nothing_left is = cc

-- a source that does not tell its bytes had some of which this is found
some_input : Answers Migrate None None (Some []) (Some []) Done → ⊥
some_input (text, (bytes, left, may), appends) =
    let concludes = may.found.finds.concludes in
    let is = subst (λ (items : List Item). Writes Migrate items text) concludes.are may.writes in cc

-- ---- where nothing fails, no other answer is complete

module _ (result : Status) (no_newer : result ≡ Done → ⊥) (memory : result ≡ NoMemory → ⊥) where
  neither : (result ≡ status_of no_fault) ⊎ (result ≡ NoMemory) → ⊥
  neither (inl e) = no_newer e
  neither (inr e) = memory e

  not_complete : Completes Migrate (Some input) result → ⊥
  not_complete completes = neither (completes no_fault [] migrated)

-- ---- why there is no room for candidates, as a reason

crowded : (as_invalid (no_room.Crowded 1 2 3) ≡ invalid.Crowded 1 2 3) × (as_invalid no_room.Ended ≡ invalid.Ended)
crowded = (refl, refl)
