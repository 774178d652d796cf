-- What a filter, a proof, a verification, a replay, a follower and a check may write, in plain words.
use Rattle.std.proofs.Common.{◌≡◌, ◌≢◌, ℕ, zero, suc, ◌+◌, ◌⊎◌, false, List, [], ◌∷◌, ◌++◌, Some, ◌==◌}
use Rattle.std.proofs.Common.{inl, inr, refl, ap, subst, ◌∙◌, arith}
use Rattle.std.specs.Prelude.{Contains, slice_get}
use Rattle.std.proofs.lemmas.Bool.{cases_Bool, eqb-true}
use Rattle.std.proofs.lemmas.List.{append-nil}
use Rattle.sx_block.specs.declared.header.Block.{Block}
use Rattle.sx_block.specs.declared.invalid.Invalid.{Invalid}
use Rattle.sx_block.specs.Chain.{IsChain}
use Rattle.sx_block.specs.Validity.{ledger_after}
use Rattle.sx_customer.specs.Filtered.{Filtered, IsKept}
use Rattle.sx_customer.specs.Proved.{IsGoodProof, IsShown, Proved, Verified}
use Rattle.sx_customer.specs.Replayed.{AreFair, CheckRefused, Checked, Followed, ReplayRefused, Replayed}
use Rattle.sx_customer.proofs.Seals.{two}
use Rattle.sx_customer.proofs.Settled.{fair}
use Rattle.sx_ledger.specs.declared.account.Account.{Account}
use Rattle.sx_ledger.specs.declared.parts.Parts.{Parts}
use Rattle.sx_ledger.specs.Ledger.{IsLedger}
use Rattle.sx_meaning.specs.FilterLaws.{FiltersBodies}
use Rattle.sx_meaning.specs.Findings.{Finds, FindsAtEnd, MayComeAll, no_fault, refused}
use Rattle.sx_meaning.specs.Items.{Item, block, candidates, item_record, proof, records, state}
use Rattle.sx_meaning.specs.Laws.{ChainConserves, FollowsReplays, ReplaysChains}
use Rattle.sx_meaning.specs.Outputs.{MayWrite, Writes}
use Rattle.sx_meaning.specs.ProofLaws.{ProvedIsGood}
use Rattle.sx_meaning.specs.Proving.{IsFollowed, IsVerdict, account_from, proved as proof_bytes, shown_account}
use Rattle.sx_meaning.specs.Replays.{blocks_of}
use Rattle.sx_meaning.specs.Settling.{EachBlock, ReplaysSettle, Settles, ValidSettles}
use Rattle.sx_meaning.proofs.Ends.{reads_to_end}
use Rattle.sx_words.specs.declared.command.Command.{Command}
use Rattle.sx_words.specs.declared.command.Command.TheVariants.{Check, Filter, Follow, Prove, Replay, Verify}
use Rattle.sx_meaning.specs.Answers.{takes_no_input}

-- ---- what was read

-- the records of the items are the whole input
pub whole : (command : Command) (bytes text left : List ℕ) → takes_no_input command ≡ false
    → (may : MayWrite command bytes text left) → bytes ≡ records may.found.items
whole command bytes text left takes may =
    let found = may.found in
    let end : FindsAtEnd command found.items found.rest no_fault left = found.finds in
    found.read
    ∙ ap (λ (r : List ℕ). records found.items ++ r)
    (reads_to_end command found.items found.rest left takes end.done).0
    ∙ append-nil (records found.items)

-- one record
pub one : (item : Item) → records (item ∷ []) ≡ item_record item
one item = append-nil (item_record item)

-- ---- filter

pub filtered : (workers : ℕ) (bytes text left : List ℕ) → MayWrite (Filter workers) bytes text left
    → Filtered bytes text
filtered workers bytes text left may =
    let end : FindsAtEnd (Filter workers) may.found.items may.found.rest no_fault left = may.found.finds in
    let c = end.concludes in
    record {
      parts = c.parts;
      txs = c.txs;
      read = whole (Filter workers) bytes text left refl may ∙ ap (λ (l : List Item). records l) c.are
          ∙ two (state c.parts) (candidates c.txs);
      written = subst (λ (l : List Item). Writes (Filter workers) l text) c.are may.writes;
    }

pub kept : FiltersBodies → (workers : ℕ) (bytes text left : List ℕ) → MayWrite (Filter workers) bytes text left
    → IsKept bytes text
kept law workers bytes text left may =
    let b = law workers bytes text left may in
    record {
      parts = b.parts;
      txs = b.txs;
      kept = b.body;
      rest = b.rest;
      read = b.read ∙ ap (λ (t : List ℕ). t ++ b.rest) (two (state b.parts) (candidates b.txs));
      written = b.written;
      cancels_once = b.admissible.cancels_once;
      creates_once = b.admissible.creates_once;
      covered = b.admissible.covered;
      accepted = b.accepted;
    }

-- ---- prove

-- an account of the list has the id, at this place after those before it, or none has
found : (parts : Parts) (id place : ℕ) (accounts : List Account) (text : List ℕ)
    → text ≡ shown_account parts (account_from id place accounts)
    → ((k : ℕ) (account : Account) → slice_get accounts k ≡ Some account
    → slice_get parts.accounts (place + k) ≡ Some account)
    → (((account : Account) → Contains accounts account → account.id.0 ≢ id) × (text ≡ [])) ⊎ IsShown parts id text
found parts id place [] text written stands = inl ((λ account has same. absurd (omega (arith, has.1))), written)
found parts id place (account ∷ accounts) text written stands =
    elim (cases_Bool (account.id.0 == id)) [
      | inl here ↦ inr (record {
        place = place;
        account = account;
        there = (let same : place + 0 ≡ place = omega arith in rw same at (stands 0 account refl));
        is_id = eqb-true account.id.0 id here;
        written = rw here at written;
      })
      | inr other ↦
          let rest = found parts id (place + 1) accounts text (rw other at written)
          (λ k next is. let same : place + suc k ≡ place + 1 + k = omega arith in
          rw same at (stands (suc k) next is)) in
          elim rest [
            | inl none ↦ inl ((λ next has. not_among account accounts next id other none.0 has), none.1)
            | inr shown ↦ inr shown
          ]
    ]
  where
    ne_id : (first : Account) (id : ℕ) → (first.id.0 == id) ≡ false → first.id.0 ≡ id → ⊥
    ne_id first id other same = grind arith

    not_among : (first : Account) (rest : List Account) (next : Account) (id : ℕ) → (first.id.0 == id) ≡ false
        → ((account : Account) → Contains rest account → account.id.0 ≢ id) → Contains (first ∷ rest) next
        → next.id.0 ≢ id
    not_among first rest next id other none (zero, lt, is) same =
        absurd (ne_id first id other (ap (λ (a : Account). a.id.0) is ∙ same))
    not_among first rest next id other none (suc k, lt, is) same = none next (k, omega arith, is) same

pub proved : (id : ℕ) (bytes text left : List ℕ) → MayWrite (Prove id) bytes text left → Proved id bytes text
proved id bytes text left may =
    let end : FindsAtEnd (Prove id) may.found.items may.found.rest no_fault left = may.found.finds in
    let c = end.concludes in
    let each = subst (λ (l : List Item). MayComeAll (Prove id) [] l) c.are may.found.each in
    let written : text ≡ proof_bytes c.parts id = subst (λ (l : List Item). Writes (Prove id) l text) c.are may.writes
    in
    record {
      parts = c.parts;
      ledger = each.0.form;
      read = whole (Prove id) bytes text left refl may ∙ ap (λ (l : List Item). records l) c.are ∙ one (state c.parts);
      tells = elim (found c.parts id 0 c.parts.accounts text written
          (λ k account is. let same : 0 + k ≡ k = omega arith in rw same is)) [
            | inl none ↦ inl (record { unknown = none.0; nothing = none.1 })
            | inr shown ↦ inr shown
          ];
    }

pub good : ProvedIsGood → (id : ℕ) (bytes text left : List ℕ) → MayWrite (Prove id) bytes text left
    → (text ≡ []) ⊎ IsGoodProof id text
good law id bytes text left may =
    elim (law id bytes text left may) [
      | inl none ↦ inl none
      | inr p ↦ inr (record {
        root = p.claim.0;
        shown = p.claim.1;
        is_id = p.is_id;
        written = p.written;
        verifies = p.good;
      })
    ]

-- ---- verify

pub verified : (bytes text left : List ℕ) → MayWrite Verify bytes text left → Verified bytes text
verified bytes text left may =
    let end : FindsAtEnd Verify may.found.items may.found.rest no_fault left = may.found.finds in
    let c = end.concludes in
    let v : IsVerdict c.claim text = subst (λ (l : List Item). Writes Verify l text) c.are may.writes in
    record {
      root = c.claim.0;
      shown = c.claim.1;
      read = whole Verify bytes text left refl may ∙ ap (λ (l : List Item). records l) c.are ∙ one (proof c.claim);
      good = v.good;
      tells = v.tells;
      written = v.written;
    }

-- ---- check

pub checked : ValidSettles → (bytes text left : List ℕ) → MayWrite Check bytes text left → Checked bytes text
checked settles bytes text left may =
    let end : FindsAtEnd Check may.found.items may.found.rest no_fault left = may.found.finds in
    let c = end.concludes in
    let each = subst (λ (l : List Item). MayComeAll Check [] l) c.are may.found.each in
    record {
      parts = c.parts;
      said = c.said;
      read = whole Check bytes text left refl may ∙ ap (λ (l : List Item). records l) c.are
          ∙ two (state c.parts) (block c.said);
      ledger = each.0.form;
      rules = c.finds.rules;
      fair = fair c.parts c.said (settles c.parts c.said each.0.form c.finds);
      written = subst (λ (l : List Item). Writes Check l text) c.are may.writes;
    }

pub check_refused : (bytes left : List ℕ) (number : ℕ) (why : Invalid) → Finds Check bytes (refused number why) left
    → CheckRefused bytes number why
check_refused bytes left number why f =
    elim f.finds [
      | inl end ↦
          let c = end.concludes in
          record {
            parts = c.parts;
            said = c.said;
            read = f.read
                ∙ ap (λ (r : List ℕ). records f.items ++ r)
                (reads_to_end Check f.items f.rest left refl end.done).0
                ∙ append-nil (records f.items) ∙ ap (λ (l : List Item). records l) c.are
                ∙ two (state c.parts) (block c.said);
            first = c.finds.0;
            reason = record { before = c.finds.1.before; breaks = c.finds.1.breaks };
          }
      | inr stop ↦ absurd stop.stops
    ]

-- ---- a chain

fair_each : (parts : Parts) (blocks : List Block) → EachBlock Settles parts blocks → AreFair parts blocks
fair_each parts [] each = tt
fair_each parts (next ∷ others) each =
    (fair parts next each.0, fair_each (ledger_after parts next) others each.1)

fair_chain : ValidSettles → (parts : Parts) (blocks chain : List Block) → IsLedger parts → IsChain parts blocks chain
    → AreFair parts chain
fair_chain settles parts blocks [] ledger is = tt
fair_chain settles parts blocks (next ∷ others) ledger is =
    let s = settles parts next ledger is.0.valid in
    (fair parts next s, fair_chain settles (ledger_after parts next) blocks others s.ledger is.1)

pub replayed : ReplaysSettle → FollowsReplays → ReplaysChains → ChainConserves → (workers : ℕ) (bytes text : List ℕ)
    → MayWrite (Replay workers) bytes text [] → Replayed bytes text
replayed settle follows chains conserves workers bytes text may =
    let end : FindsAtEnd (Replay workers) may.found.items may.found.rest no_fault [] = may.found.finds in
    let c = end.concludes in
    let each = subst (λ (l : List Item). MayComeAll (Replay workers) [] l) c.are may.found.each in
    let chain = chains workers c.parts c.others each in
    record {
      parts = c.parts;
      others = c.others;
      read = whole (Replay workers) bytes text [] refl may ∙ ap (λ (l : List Item). records l) c.are;
      ledger = each.0.form;
      fair = fair_each c.parts (blocks_of c.others) (settle workers c.parts c.others each);
      written = subst (λ (l : List Item). Writes (Replay workers) l text) c.are may.writes;
      keeps = λ asset lt. conserves c.parts (blocks_of c.others) asset chain.ledger chain.valid lt;
      follows = follows workers bytes text [] may;
    }

pub replay_refused : (workers : ℕ) (bytes left : List ℕ) (number : ℕ) (why : Invalid)
    → Finds (Replay workers) bytes (refused number why) left → ReplayRefused bytes number why
replay_refused workers bytes left number why f =
    elim f.finds [
      | inl end ↦ absurd (let none = end.concludes.finds in cc)
      | inr stop ↦
          let s = stop.stops in
          record {
            parts = s.parts;
            others = s.others;
            said = stop.said;
            rest = left;
            read = f.read ∙ ap (λ (r : List ℕ). records f.items ++ r) stop.read
                ∙ ap (λ (l : List Item). records l ++ (item_record (block stop.said) ++ left)) s.are;
            is_number = s.is_number;
            reason = record { before = s.refuses.before; breaks = s.refuses.breaks };
          }
    ]

pub followed : ValidSettles → (bytes text left : List ℕ) → MayWrite Follow bytes text left → Followed bytes text
followed settles bytes text left may =
    let end : FindsAtEnd Follow may.found.items may.found.rest no_fault left = may.found.finds in
    let c = end.concludes in
    let each = subst (λ (l : List Item). MayComeAll Follow [] l) c.are may.found.each in
    let w : IsFollowed c.parts (blocks_of c.others) text =
    subst (λ (l : List Item). Writes Follow l text) c.are may.writes in
    record {
      parts = c.parts;
      others = c.others;
      chain = w.chain;
      read = whole Follow bytes text left refl may ∙ ap (λ (l : List Item). records l) c.are;
      ledger = each.0.form;
      is = w.is;
      fair = fair_chain settles c.parts (blocks_of c.others) w.chain each.0.form w.is;
      written = w.written;
    }
