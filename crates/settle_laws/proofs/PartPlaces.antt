-- A bridge that needs a window of a class has a BAR or ROM of that class behind it.
use Rattle.std.proofs.Common.{◌≡◌, ◌&&◌, true, false, not, ◌∙◌, ap}
use Rattle.std.specs.List.{Contains, list_any}
use Rattle.std.proofs.lemmas.Bool.{and_parts, not-true}
use Rattle.pci_spec.specs.Window.{WindowKind}
use Rattle.pci_spec.specs.System.{System, Function, Part, is_bridge, is_window}
use Rattle.pci_spec.specs.Bus.{is_behind}
use Rattle.pci_spec.proofs.Members.{in_map_to, in_filter_to, IsMade}
use Rattle.plan_spec.specs.Plan.{bridges_above, same_class}
use Rattle.plan_spec.proofs.Planning.AboveBuses.{above_from}
use Rattle.plan_spec.proofs.Planning.Behind.{Passes, any_gives}
use Rattle.plan_spec.proofs.Planning.PlacedItems.{same_class_is}
use Rattle.settle_spec.specs.Lists.{Request}
use Rattle.settle_spec.specs.Parts.{is_part, parts_of, header_parts, function_parts, class_in}
use Rattle.settle_spec.specs.Items.{is_own, has_of}

module _ (q : Request) (s : System) where
  -- a BAR or ROM of a class behind a bridge
  pub record IsBehindOf (c : WindowKind) (b : Function) : Type 0 where
    pub f : Function
    pub p : Part
    pub listed : Contains s f
    pub above : Contains (bridges_above s f.slot.bus) b
    pub there : Contains (header_parts f) p
    pub part : is_part q s f p ≡ true
    pub plain : is_window p ≡ false
    pub class : class_in q s f p ≡ c

  pub behind_of : (c : WindowKind) (b : Function) → Contains s b → is_bridge b ≡ true → has_of q s c b ≡ true → IsBehindOf c b
  behind_of c b listed bridge has =
      let found_f : Passes (λ f. is_behind b f.slot.bus && list_any (is_own q s c) (function_parts q s f)) s = any_gives (λ f. is_behind b f.slot.bus && list_any (is_own q s c) (function_parts q s f)) s has in
      let f = found_f.x in
      let is = and_parts (is_behind b f.slot.bus) (list_any (is_own q s c) (function_parts q s f)) found_f.is in
      let r : Passes (is_own q s c) (function_parts q s f) = any_gives (is_own q s c) (function_parts q s f) is.1 in
      let of : IsMade (λ p. record { function = f; part = p }) (parts_of q s f) r.x = in_map_to (λ p. record { function = f; part = p }) (parts_of q s f) r.x r.listed in
      let p = of.from in
      let part = in_filter_to (is_part q s f) (header_parts f) p of.has in
      let own = and_parts (not (is_window p)) (same_class c (class_in q s f p)) (ap (is_own q s c) of.is ∙ r.is) in
      record {
        f = f;
        p = p;
        listed = found_f.listed;
        above = above_from s f.slot.bus b record { listed = listed; bridge = bridge; behind = is.0 };
        there = part.0;
        part = part.1;
        plain = not-true (is_window p) own.0;
        class = same_class_is c (class_in q s f p) own.1;
      }
