-- Where all is placed anew, what is settled is settled again by no write: what is fixed has no part, and no write is to it.
use Rattle.settle_laws.specs.ToldAgainLaws.{AllLinesAreHeld}
use Rattle.std.proofs.Common.{◌≡◌, ◌&&◌, inl, inr, length, [], Bool, true, false, cond, not, refl, sym, ◌∙◌, ap, None}
use Rattle.std.specs.List.{Contains, list_any}
use Rattle.std.proofs.lemmas.Bool.{and_from, both_ways, cases_Bool, false_from_ne_true}
use Rattle.pci_spec.specs.Slot.{same_slot}
use Rattle.pci_spec.specs.System.{System, Function, Part, Bar, Rom, Window, is_window}
use Rattle.settle_spec.specs.Lists.{Request}
use Rattle.settle_spec.specs.Parts.{FunctionPart, system_parts, is_part}
use Rattle.settle_spec.specs.Stands.{is_fixed_part, stands}
use Rattle.settle_spec.specs.Keeping.Places.{lacking}
use Rattle.settle_spec.specs.Keeping.Registers.{settled, settled_function}
use Rattle.settle_spec.specs.Writes.{BadLists, Settled, fixed_without, fixed_write, or_fixed, or_lack, or_write}
use Rattle.settle_spec.specs.Keeping.Writes.{settle_keeping, settle_writes}
use Rattle.settle_laws.proofs.Told.OnlyHeld.{none_stands, settled_held}
use Rattle.settle_laws.specs.KeptLaws.{WishesNothing}
use Rattle.settle_laws.specs.Keeping.PlacesLaws.{CanSettle}
use Rattle.settle_laws.proofs.Keeping.Again.{settled_alike, all_alike, room_again}
use Rattle.settle_laws.proofs.Keeping.AgainParts.{settled_part}
use Rattle.settle_laws.proofs.Keeping.AgainSettled.{none_again}
use Rattle.settle_laws.proofs.Alike.{part_alike}
use Rattle.settle_laws.proofs.HeaderParts.{header_of}
use Rattle.settle_laws.proofs.Kept.{in_regions}
use Rattle.settle_laws.proofs.NothingSettled.{find_none}
use Rattle.settle_laws.proofs.Keeping.FixedRests.{fixed_rests, not_found}
use Rattle.settle_spec.specs.Kept.{Kept, as_it_stands}

module _ (q : Request) (only : AllLinesAreHeld q) (s : System) (k : Kept) (can : CanSettle q s k) (anew : q.anew ≡ true) (stand : fixed_without (stands q s) q s ≡ None) (unwritten : fixed_write q (settle_writes q s k) ≡ None) where
  abbrev now : Function → Function
  now f = settled_function q s k f

  abbrev t : System
  t = settled q s k

  abbrev j : Kept
  j = as_it_stands q t

  function_stays : (f : Function) → Contains s f → list_any (same_slot f.slot) q.fixed ≡ true → now f ≡ f
  function_stays = fixed_rests q s k can unwritten

  part_before : (f : Function) (p : Part) → Contains s f → list_any (same_slot f.slot) q.fixed ≡ true → is_part q t (now f) p ≡ true → is_part q s f p ≡ true
  part_before f p listed fixed part = elim (cases_Bool (is_window p)) [
    | inr plain ↦ part_alike q s t (all_alike q s k can) f (now f) (settled_alike q s k can f listed) p plain ∙ part
    | inl window ↦ by p window part
  ]
    where
      by : (p : Part) → is_window p ≡ true → is_part q t (now f) p ≡ true → is_part q s f p ≡ true
      by (Bar n) window part = absurd (both_ways false refl window)
      by Rom window part = absurd (both_ways false refl window)
      by (Window c) window part = ap (λ g. is_part q t g (Window c)) (sym (function_stays f listed fixed)) ∙ part

  -- a part is not of what is fixed
  none_fixed : (r : FunctionPart) → Contains (system_parts q t) r → is_fixed_part q r ≡ false
  none_fixed r has = false_from_ne_true (is_fixed_part q r) (λ fixed.
      let at = settled_part q s k can r has in
      let held : list_any (same_slot at.f.slot) q.fixed ≡ true = ap (is_fixed_part q) at.is ∙ fixed in
      let old : FunctionPart = record { function = at.f; part = at.p } in
      both_ways (is_fixed_part q old && not (stands q s old))
      (not_found (λ r. is_fixed_part q r && not (stands q s r)) (system_parts q s) stand old (in_regions q s at.f at.p at.listed (header_of at.f at.p at.there) (part_before at.f at.p at.listed held at.part)))
      (and_from (is_fixed_part q old) (not (stands q s old)) held (ap not (none_stands q s anew only (length (system_parts q s)) old))))

  pub none_without : (test : FunctionPart → Bool) → fixed_without test q t ≡ None
  none_without test = find_none (λ r. is_fixed_part q r && not (test r)) (system_parts q t) (λ r listed. ap (λ b. b && not (test r)) (none_fixed r listed))

  -- The law: nothing is written.
  pub anew_again : WishesNothing k → settle_keeping q t j ≡ Settled []
  anew_again wishless =
      settled_held q only t j
      ∙ ap (λ b. cond b BadLists (or_fixed (fixed_without (stands q t) q t) (or_fixed (fixed_without j.stays q t)
      (or_lack (lacking q t j) (or_write (fixed_write q (settle_writes q t j)) (Settled (settle_writes q t j))))))) can.lists
      ∙ ap (λ o. or_fixed o (or_fixed (fixed_without j.stays q t) (or_lack (lacking q t j) (or_write (fixed_write q (settle_writes q t j)) (Settled (settle_writes q t j)))))) (none_without (stands q t))
      ∙ ap (λ o. or_fixed o (or_lack (lacking q t j) (or_write (fixed_write q (settle_writes q t j)) (Settled (settle_writes q t j))))) (none_without j.stays)
      ∙ ap (λ o. or_lack o (or_write (fixed_write q (settle_writes q t j)) (Settled (settle_writes q t j)))) (room_again q only s k can anew)
      ∙ ap (λ ws. or_write (fixed_write q ws) (Settled ws)) (none_again q only s k can (λ kept. absurd (both_ways q.anew kept anew)) (λ all. wishless))
