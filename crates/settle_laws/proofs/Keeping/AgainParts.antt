-- What is looked at in a settled system is a part of the system before, and has its end where it is.
use Rattle.std.proofs.Common.{◌≡◌, inl, inr, true, false, refl, sym, ◌∙◌, subst, Option, None, Some}
use Rattle.std.specs.List.{Contains}
use Rattle.std.proofs.lemmas.Bool.{and_parts, both_ways, cases_Bool}
use Rattle.pci_spec.specs.Decoded.{Range}
use Rattle.pci_spec.specs.System.{System, Function, Part, Bar, Rom, Window, has_part, is_bridge, is_window}
use Rattle.pci_spec.proofs.Members.{in_flat_map_to, IsInPiece, in_map_to, IsMade, in_filter_to}
use Rattle.plan_spec.specs.Plan.{is_open}
use Rattle.settle_spec.specs.Lists.{Request}
use Rattle.settle_spec.specs.Parts.{FunctionPart, system_parts, function_parts, parts_of, header_parts, is_part}
use Rattle.settle_spec.specs.Stands.{window_part}
use Rattle.settle_spec.specs.Keeping.Registers.{settled, settled_function}
use Rattle.settle_laws.specs.Keeping.PlacesLaws.{CanSettle, end_range}
use Rattle.settle_laws.proofs.Keeping.Again.{settled_alike, all_alike}
use Rattle.settle_laws.proofs.Alike.{header_alike, part_alike}
use Rattle.settle_laws.proofs.Keeping.Claimed.{HasEnd, has_end, part_end, bridge_stays, rest_closed}
use Rattle.settle_laws.proofs.ItemForms.{header_has}
use Rattle.settle_spec.specs.Kept.{Kept}

module _ (q : Request) (s : System) (k : Kept) (can : CanSettle q s k) where
  abbrev now : Function → Function
  now f = settled_function q s k f

  abbrev t : System
  t = settled q s k

  pub record IsSettledPart (r : FunctionPart) : Type 0 where
    pub f : Function
    pub p : Part
    pub is : record { function = now f; part = p } ≡ r
    pub listed : Contains s f
    pub there : has_part f p ≡ true
    pub part : is_part q t (now f) p ≡ true

  part_there : (f : Function) (p : Part) → Contains s f → Contains (header_parts f) p → is_part q t (now f) p ≡ true → has_part f p ≡ true
  part_there f p listed there part = elim (cases_Bool (is_window p)) [
    | inr plain ↦ header_has f p there plain
    | inl window ↦ by p window part
  ]
    where
      by : (p : Part) → is_window p ≡ true → is_part q t (now f) p ≡ true → has_part f p ≡ true
      by (Bar n) window part = absurd (both_ways false refl window)
      by Rom window part = absurd (both_ways false refl window)
      by (Window c) window opened = sym (bridge_stays q s k can f listed) ∙ (and_parts (is_bridge (now f)) _ (and_parts _ _ opened).0).0

  pub settled_part : (r : FunctionPart) → Contains (system_parts q t) r → IsSettledPart r
  settled_part r has =
      let piece : IsInPiece (function_parts q t) t r = in_flat_map_to (function_parts q t) t r has in
      let f : IsMade now s piece.of = in_map_to now s piece.of piece.has in
      let in_f : Contains (function_parts q t (now f.from)) r = subst (λ g. Contains (function_parts q t g) r) (sym f.is) piece.piece in
      let made : IsMade (λ p. record { function = now f.from; part = p }) (parts_of q t (now f.from)) r = in_map_to (λ p. record { function = now f.from; part = p }) (parts_of q t (now f.from)) r in_f in
      let chosen = in_filter_to (is_part q t (now f.from)) (header_parts (now f.from)) made.from made.has in
      let header : Contains (header_parts f.from) made.from = subst (λ ps. Contains ps made.from) (sym (header_alike f.from (now f.from) (settled_alike q s k can f.from f.has))) chosen.0 in
      record { f = f.from; p = made.from; is = made.is; listed = f.has; there = part_there f.from made.from f.has header chosen.1; part = chosen.1 }

  -- it ends where it is
  pub settled_end : (f : Function) (p : Part) → Contains s f → has_part f p ≡ true → is_part q t (now f) p ≡ true → HasEnd q s k can f p
  settled_end f (Bar n) listed there part = part_end q s k can f (Bar n) listed there (part_alike q s t (all_alike q s k can) f (now f) (settled_alike q s k can f listed) (Bar n) refl ∙ part) refl
  settled_end f Rom listed there part = part_end q s k can f Rom listed there (part_alike q s t (all_alike q s k can) f (now f) (settled_alike q s k can f listed) Rom refl ∙ part) refl
  settled_end f (Window c) listed there opened = by (end_range q s k (window_part c f)) refl
    where
      by : (o : Option Range) → end_range q s k (window_part c f) ≡ o → HasEnd q s k can f (Window c)
      by None none = absurd (both_ways (is_open (now f) c) (rest_closed q s k can f c listed none) opened)
      by (Some w) ends = has_end q s k can f (Window c) listed there w ends
