-- A record that was taken is that of its item.
use Rattle.std.proofs.Common.{◌≡◌, ℕ, ◌+◌, List, Option, length, refl, ap, subst, ◌∙◌, arith}
use Rattle.sx_meaning.specs.Items.{Item, item_record, payload_of, tag_of}
use Rattle.sx_meaning.proofs.ItemLaws.{length-record}
use Rattle.sx_record.specs.Frame.{frame_bytes, record_bytes}
use Rattle.sx_record.specs.Stream.{Took}

module _ (tag : ℕ) (payload : List ℕ) (item : Item) (tagged : tag_of item ≡ tag)
    (encoded : payload ≡ payload_of item) where
  pub same_record : record_bytes tag payload ≡ item_record item
  same_record =
      ap (λ (p : List ℕ). record_bytes tag p) encoded
      ∙ ap (λ (t : ℕ). record_bytes t (payload_of item)) (subst (λ (t : ℕ). t ≡ tag_of item) tagged refl)

  pub took_item : (a b : Option (List ℕ)) → Took a b (record_bytes tag payload) → Took a b (item_record item)
  took_item a b took = subst (λ (t : List ℕ). Took a b t) same_record took

  pub ends_after : (at place end : ℕ) → place ≡ at + frame_bytes → end ≡ place + length payload →
      end ≡ at + length (item_record item)
  ends_after at place end begins ends =
      let long = ap length same_record in omega (arith, begins, ends, long, length-record tag payload)
