-- Each part stands where each lies in its list or window and no two beside one another share an address, whichever comes first.
use Rattle.std.proofs.Common.{◌≡◌, ◌&&◌, ◌||◌, ℕ, ◌+◌, ◌*◌, inl, inr, List, Bool, true, false, not, arith, refl, sym, ◌∙◌, ap, subst}
use Rattle.std.specs.Bool.{◌==◌, nat_lt}
use Rattle.std.specs.List.{Contains, list_all}
use Rattle.std.proofs.lemmas.Bool.{and_from, and_parts, both_ways, cases_Bool, eqb-true, false_from_ne_true, lt-ltb, or_cases, or_left, or_right}
use Rattle.pci_spec.specs.Slot.{same_slot, slot_number}
use Rattle.pci_spec.specs.Decoded.{Range}
use Rattle.pci_spec.specs.System.{System, Function, IsSystem, Part, Bar, Rom, Window, is_bridge, is_window, register_of}
use Rattle.pci_spec.specs.Bus.{are_siblings, is_root, IsNested}
use Rattle.pci_spec.proofs.BusRanges.{all_from, root_means}
use Rattle.pci_spec.proofs.Members.{in_flat_map_to, IsInPiece, in_map_to, IsMade, in_filter_to}
use Rattle.pci_spec.proofs.Nesting.{one_function}
use Rattle.pci_spec.proofs.SameSlot.{slot_itself, slots_same}
use Rattle.plan_spec.specs.Planning.Layout.{AreBeside, AreTwo, LieApart}
use Rattle.plan_spec.proofs.Planning.LaidOut.{opening}
use Rattle.settle_spec.specs.FirstPlace.{ranges_are_apart}
use Rattle.settle_spec.specs.Lists.{Request}
use Rattle.settle_spec.specs.Parts.{FunctionPart, system_parts, function_parts, parts_of, header_parts, addresses, is_part}
use Rattle.settle_spec.specs.Stands.{rank, are_beside, is_in_place, is_kept_off, leads_to_told, takes_from, stands, told_part_precedes}
use Rattle.settle_laws.specs.Standing.{IsStanding}
use Rattle.settle_laws.proofs.Order.{precedes_itself}
use Rattle.settle_laws.proofs.Standing.{stands_alone}
use Rattle.settle_laws.proofs.HeaderParts.{IsPart, one_part, register_low}

-- what lies apart is apart
pub apart_from : (r t : Range) → LieApart r t → ranges_are_apart r t ≡ true
apart_from r t (inl under) = or_left (nat_lt r.last t.first) (nat_lt t.last r.first) (lt-ltb r.last t.first under)
apart_from r t (inr above) = or_right (nat_lt r.last t.first) (nat_lt t.last r.first) (lt-ltb t.last r.first above)

-- parts of two ranks are two
pub two_of : (r t : FunctionPart) → (rank r ≡ rank t → ⊥) → AreTwo r.function r.part t.function t.part
two_of r t differ = elim (cases_Bool (same_slot r.function.slot t.function.slot)) [
  | inr other ↦ inl other
  | inl same ↦
      let slot = slots_same r.function.slot t.function.slot same in
      inr (λ register. differ (λ i. slot_number (slot i) * 256 + register i))
]

pub beside_of : (roots : List ℕ) (f g : Function) → are_siblings roots f.slot.bus g.slot.bus ≡ true → AreBeside roots f g
beside_of roots f g beside = elim (or_cases (f.slot.bus == g.slot.bus) (is_root roots f.slot.bus && is_root roots g.slot.bus) beside) [
  | inl same ↦ inl (eqb-true f.slot.bus g.slot.bus same)
  | inr both ↦
      let parts = and_parts (is_root roots f.slot.bus) (is_root roots g.slot.bus) both in
      inr ((root_means roots f.slot.bus).0 parts.0, (root_means roots g.slot.bus).0 parts.1)
]

module _ (q : Request) (s : System) where
  abbrev pub looked_at : FunctionPart → Bool
  looked_at r = is_part q s r.function r.part

  -- a part that is looked at
  pub record IsLookedAt (r : FunctionPart) : Type 0 where
    pub listed : Contains s r.function
    pub there : Contains (header_parts r.function) r.part
    pub part : is_part q s r.function r.part ≡ true

  pub looked : (r : FunctionPart) → Contains (system_parts q s) r → IsLookedAt r
  looked r has =
      let piece : IsInPiece (function_parts q s) s r = in_flat_map_to (function_parts q s) s r has in
      let f = piece.of in
      let made : IsMade (λ p. record { function = f; part = p }) (parts_of q s f) r = in_map_to (λ p. record { function = f; part = p }) (parts_of q s f) r piece.piece in
      let kept = in_filter_to (is_part q s f) (header_parts f) made.from made.has in
      subst IsLookedAt made.is record { listed = piece.has; there = kept.0; part = kept.1 }

  is_header_part : (r : FunctionPart) → IsLookedAt r → IsPart r.function r.part
  is_header_part r is = record { there = is.there; bridge = by r.part is.part }
    where
      by : (p : Part) → is_part q s r.function p ≡ true → is_window p ≡ true → is_bridge r.function ≡ true
      by (Bar n) part window = absurd (both_ways false refl window)
      by Rom part window = absurd (both_ways false refl window)
      by (Window c) opened window = (opening r.function c opened).bridge

  -- ---- two parts have two ranks

  pub record IsOne (r t : FunctionPart) : Type 0 where
    pub function : r.function ≡ t.function
    pub register : register_of r.function r.part ≡ register_of t.function t.part

  module _ (system : IsSystem s) where
    one_rank : (r t : FunctionPart) → IsLookedAt r → IsLookedAt t → rank r ≡ rank t → IsOne r t
    one_rank r t is_r is_t same =
        let low_r = register_low r.function r.part (is_header_part r is_r) in
        let low_t = register_low t.function t.part (is_header_part t is_t) in
        record {
          function = one_function s system r.function t.function is_r.listed is_t.listed (omega (arith, same, low_r, low_t));
          register = omega (arith, same, low_r, low_t);
        }

    pub two_ranks : (r t : FunctionPart) → IsLookedAt r → IsLookedAt t → AreTwo r.function r.part t.function t.part → rank r ≡ rank t → ⊥
    two_ranks r t is_r is_t (inl slots) same =
        both_ways (same_slot r.function.slot t.function.slot) slots
        (ap (λ f. same_slot r.function.slot f.slot) (sym (one_rank r t is_r is_t same).function) ∙ slot_itself r.function.slot)
    two_ranks r t is_r is_t (inr registers) same = registers (one_rank r t is_r is_t same).register

    one_region : (r t : FunctionPart) → IsLookedAt r → IsLookedAt t → rank r ≡ rank t → r ≡ t
    one_region r t is_r is_t same =
        let one = one_rank r t is_r is_t same in
        let part : r.part ≡ t.part = one_part r.function r.part t.part (is_header_part r is_r) (subst (λ f. IsPart f t.part) (sym one.function) (is_header_part t is_t))
        (one.register ∙ ap (λ f. register_of f t.part) (sym one.function)) in
        (λ i. record { function = one.function i; part = part i })

    -- ---- the law

    module _ (nested : IsNested q.roots s) (kept : q.anew ≡ false) (off : (r : FunctionPart) → Contains (system_parts q s) r → is_kept_off q s r ≡ false) (place : (r : FunctionPart) → Contains (system_parts q s) r → is_in_place q s looked_at r ≡ true)
        (apart : (r t : FunctionPart) → Contains (system_parts q s) r → Contains (system_parts q s) t → are_beside q r t ≡ true → (rank r ≡ rank t → ⊥) → ranges_are_apart (addresses r) (addresses t) ≡ true) where
      none_takes : (t r : FunctionPart) → Contains (system_parts q s) t → Contains (system_parts q s) r → takes_from q s t r ≡ false
      none_takes t r in_t in_r = false_from_ne_true (takes_from q s t r) (λ takes.
          let two = and_parts (are_beside q t r && told_part_precedes q s t r) (not (ranges_are_apart (addresses t) (addresses r))) takes in
          let one = and_parts (are_beside q t r) (told_part_precedes q s t r) two.0 in
          let differ : (rank t ≡ rank r → ⊥) = λ same.
          both_ways (told_part_precedes q s r r) (precedes_itself q s r) (subst (λ x. told_part_precedes q s x r ≡ true) (one_region t r (looked t in_t) (looked r in_r) same) one.1) in
          both_ways (not (ranges_are_apart (addresses t) (addresses r))) (ap not (apart t r in_t in_r one.0 differ)) two.1)

      standing : IsStanding q s looked_at
      standing = record {
        each = λ r listed.
            let part = (looked r listed).part in
            part
            ∙ sym (and_from (not (is_kept_off q s r) && (leads_to_told q s r || not q.anew) && looked_at r && is_in_place q s looked_at r) (list_all (λ t. not (takes_from q s t r && looked_at t)) (system_parts q s))
            (and_from (not (is_kept_off q s r) && (leads_to_told q s r || not q.anew) && looked_at r) (is_in_place q s looked_at r)
            (and_from (not (is_kept_off q s r) && (leads_to_told q s r || not q.anew)) (looked_at r)
            (and_from (not (is_kept_off q s r)) (leads_to_told q s r || not q.anew) (ap not (off r listed)) (or_right (leads_to_told q s r) (not q.anew) (ap not kept))) part) (place r listed))
            (all_from (λ t. not (takes_from q s t r && looked_at t)) (system_parts q s) (λ t in_t. ap (λ b. not (b && looked_at t)) (none_takes t r in_t listed))));
        only = λ r listed is. is;
      }

      pub all_in_place : (r : FunctionPart) → Contains (system_parts q s) r → stands q s r ≡ true
      all_in_place r listed = sym (stands_alone q s nested looked_at standing r listed) ∙ (looked r listed).part
