-- What is there is told by nothing else: what tells itself so, from the highest bus down and on a bus from the lowest address up, is `there`.
use Rattle.std.proofs.Common.{◌≡◌, ℕ, zero, suc, ◌+◌, ◌<◌, ◌≤◌, inl, inr, length, Option, None, Some, true, false, arith, ap, sym, ◌∙◌, refl}
use Rattle.std.specs.Bool.{if◌then◌else◌}
use Rattle.std.specs.List.{Contains}
use Rattle.std.specs.Option.{is_some}
use Rattle.std.proofs.lemmas.Bool.{cases_Bool, and_parts, both_ways, false_from_ne_true}
use Rattle.pci_spec.specs.Decoded.{Range}
use Rattle.pci_spec.specs.System.{System, Function, IsSystem, Part, Bar, Rom, Window}
use Rattle.pci_spec.specs.Bus.{IsNested}
use Rattle.plan_spec.proofs.Planning.Safe.{slots_of}
use Rattle.settle_spec.specs.Lists.{Request}
use Rattle.settle_spec.specs.Parts.{FunctionPart, system_parts, header_parts, addresses}
use Rattle.settle_spec.specs.Stands.{are_beside, stands}
use Rattle.settle_spec.specs.Items.{has_room_behind}
use Rattle.settle_spec.specs.Growth.{window_comes_to, part_comes_to, is_clear, there_beside, there, comes_to}
use Rattle.settle_laws.specs.There.{height, TellsThere}
use Rattle.settle_laws.proofs.Standing.{part_of, stands_by_itself, in_parts}
use Rattle.settle_laws.proofs.There.{stands_where_holds, beside_zero, beside_next}
use Rattle.settle_laws.proofs.ThereApart.{place, falls, few, if_same}
use Rattle.settle_laws.proofs.ThereByBus.{height_low, beside_height, part_same, there_beside_all, there_by_bus}

module _ (q : Request) (s : System) (system : IsSystem s) (nested : IsNested q.roots s) where
  -- what doesn't stand isn't there
  comes_none : (f : Function) (p : Part) → stands q s (record { function = f; part = p }) ≡ false → part_comes_to q s (there q s) f p ≡ None
  comes_none f (Bar n) off = refl
  comes_none f Rom off = refl
  comes_none f (Window c) off = ap (λ b. if b then window_comes_to q s (there q s) c f else None) off

  pub unstanding : (r : FunctionPart) → Contains s r.function → stands q s r ≡ false → there q s r ≡ None
  unstanding r listed off = there_beside_all q s system nested r listed ∙ by (length (system_parts q s))
    where
      room : has_room_behind q s r ≡ false
      room = false_from_ne_true (has_room_behind q s r) (λ holds. both_ways (stands q s r) off (stands_where_holds q s r holds))

      by : (n : ℕ) → there_beside q s (comes_to q s) n r ≡ None
      by zero = beside_zero q s (comes_to q s) r
      by (suc n) =
          beside_next q s (comes_to q s) n r
          ∙ ap (λ o. if is_clear q s (there_beside q s (comes_to q s) n) r o then o else if has_room_behind q s r then Some (addresses r) else None) (comes_none r.function r.part off)
          ∙ ap (λ b. if b then Some (addresses r) else None) room

  module _ (told : FunctionPart → Option Range) (tells : TellsThere q s told) where
    none_told : (o : Option Range) → (is_some o ≡ true → ⊥) → o ≡ None
    none_told None never = refl
    none_told (Some x) never = absurd (never refl)

    -- where the parts of higher buses agree, all of their headers do
    agree : (level : ℕ) → ((t : FunctionPart) → Contains (system_parts q s) t → level < height q t.function.slot.bus → told t ≡ there q s t)
        → (t : FunctionPart) → Contains s t.function → Contains (header_parts t.function) t.part → level < height q t.function.slot.bus → told t ≡ there q s t
    agree level parts t in_t header up = elim (cases_Bool (stands q s t)) [
      | inl stand ↦ parts t (in_parts q s t in_t header ((stands_by_itself q s nested).only t in_t stand)) up
      | inr off ↦
          none_told (told t) (λ is. both_ways (stands q s t) off (tells.only t in_t is))
          ∙ sym (unstanding t in_t off)
    ]

    abbrev comes : FunctionPart → Option Range
    comes r = part_comes_to q s told r.function r.part

    -- on one bus from the lowest address up
    on_bus : (m : ℕ) (r : FunctionPart) → Contains (system_parts q s) r → place q s (comes_to q s) r < m
        → ((t : FunctionPart) → Contains (system_parts q s) t → height q r.function.slot.bus < height q t.function.slot.bus → told t ≡ there q s t) → told r ≡ there q s r
    on_bus zero r has small higher = absurd (let no : ⊥ = omega (arith, small) in no)
    on_bus (suc m) r has small higher =
        let listed = (part_of q s r has).listed in
        tells.each r has
        ∙ ap (λ o. if is_clear q s told r o then o else if has_room_behind q s r then Some (addresses r) else None)
        (part_same q s system nested told (there q s) r.function r.part listed (λ t in_t header up. agree (height q r.function.slot.bus) higher t in_t header up))
        ∙ if_same q s (comes_to q s) told (there q s) r (λ u in_u before.
        let parts = and_parts (are_beside q u r) _ before in
        let level = beside_height q s u r parts.0 in
        let lower = falls q s (comes_to q s) u r in_u parts.1 in
        on_bus m u in_u (omega (arith, lower, small)) (λ t in_t up. higher t in_t (omega (arith, up, level))))
        ∙ sym (there_by_bus q s system nested r has)

    from_high : (n : ℕ) (r : FunctionPart) → Contains (system_parts q s) r → 256 ≤ height q r.function.slot.bus + n → told r ≡ there q s r
    from_high zero r has far = absurd (let small = (slots_of s system r.function (part_of q s r has).listed).0 in let low = height_low q s r.function in let no : ⊥ = omega (arith, small, low, far) in no)
    from_high (suc n) r has far =
        on_bus (length (system_parts q s)) r has (few q s (comes_to q s) r has) (λ t in_t up. from_high n t in_t (omega (arith, far, up)))

    -- The law: it tells what is there.
    pub there_alone : (r : FunctionPart) → Contains (system_parts q s) r → told r ≡ there q s r
    there_alone r has = from_high 256 r has (omega arith)
