-- The bridge that leads to a bus, by the table of which record does.
use Rattle.std.proofs.Common.{◌≡◌, ℕ, ◌<◌, List, get_or, Bool, true, false, cond, ◌&&◌, sym, ◌∙◌, ap, subst, refl, Option, None, Some}
use Rattle.std.specs.Option.{is_some}
use Rattle.std.proofs.lemmas.Option.{slice_get-get_or}
use Rattle.pci_spec.specs.Decoded.{Range as DecodedRange}
use Rattle.pci_spec.specs.Window.{MemoryWindow}
use Rattle.pci_spec.specs.System.{System, Function, Window, is_bridge}
use Rattle.plan_spec.specs.Plan.{is_open}
use Rattle.plan_spec.specs.Planning.Layout.{range_of}
use Rattle.settle_spec.specs.Lists.{Request}
use Rattle.settle_spec.specs.Parts.{lies_within, holds_range, bridge_over}
use Rattle.settle_spec.proofs.BridgeOver.{over_leads, over_is}
use Rattle.pci_function.specs.declared.record.Record.{Record}
use Rattle.pci_function.specs.declared.record.Bridge.{Bridge}
use Rattle.pci_image.specs.Windows.{window_of}
use Rattle.pci_tree.specs.Passes.{range_in}
use Rattle.pci_tree.specs.Ways.{IsBridgeToBus, IsBridgeIn, LeadsAt, bus_behind}
use Rattle.pci_tree.proofs.Lifting.{record_for, same_bridge, same_secondary}
use Rattle.pci_tree.proofs.Ways.{bridge_at, no_bridge, some_bridge}
use Rattle.pci_place.proofs.Records.{FunctionAt, function_at}
use Rattle.pci_first_fit.specs.Over.{range_holds}
use Rattle.pci_kept.specs.Boards.{IsTree}
use Rattle.pci_kept.proofs.OfRecord.{window_is}

module _ (q : Request) (s : System) (records : List Record) (tree : IsTree q s records) (bus : ℕ) (small : bus < 256) (over : List (Option ℕ)) (are : IsBridgeToBus records over) where
  -- no bridge leads there
  pub none_over : get_or over bus None ≡ None → bridge_over s bus ≡ None
  none_over none = elim (bridge_over s bus) as (λ (o : Option Function). bridge_over s bus ≡ o → bridge_over s bus ≡ None) [
    | None ↦ λ e. e
    | Some b ↦ λ e.
        let leads = over_leads s bus b e in
        let record_of_it = record_for s records b tree.has leads.0 in
        let bridging : is_some record_of_it.0.bridge ≡ true = same_bridge record_of_it.0 b record_of_it.1.same ∙ leads.1 in
        absurd (no_bridge records bus (get_or over bus None) none (are bus small) record_of_it.0 record { has = record_of_it.1.has; is = bridging }
        (same_secondary record_of_it.0 b record_of_it.1.same leads.1 ∙ leads.2))
  ] refl

  module _ (k : ℕ) (at : get_or over bus None ≡ Some k) where
    pub leads_at : LeadsAt records bus k
    leads_at = some_bridge records bus (get_or over bus None) k at (are bus small)

    module _ (x : Record) (x_is : x ≡ get_or records k x) where
      pub found : FunctionAt s x k
      found = function_at s records tree.has k x (slice_get-get_or records k x leads_at.within ∙ ap Some (sym x_is))

      is_it : IsBridgeIn records x × (bus_behind x ≡ bus)
      is_it = (let b = bridge_at records bus k x leads_at in (subst (IsBridgeIn records) (sym x_is) b.0, ap bus_behind x_is ∙ b.1))

      pub bridging : is_some x.bridge ≡ true
      bridging = is_it.0.is

      is_bridge_there : is_bridge found.f ≡ true
      is_bridge_there = sym (same_bridge x found.f found.is.value) ∙ bridging

      -- the function of that record does
      pub one_over : bridge_over s bus ≡ Some found.f
      one_over = over_is q.roots s tree.system tree.nested bus found.f (found.is.listed, is_bridge_there, sym (same_secondary x found.f found.is.value is_bridge_there) ∙ is_it.1)

      -- whether its memory window holds a range
      pub memory_over : (b : Bridge) → x.bridge ≡ Some b → (r : DecodedRange) → range_holds (range_in (window_of b.windows MemoryWindow)) r ≡ holds_range MemoryWindow r (bridge_over s bus)
      memory_over b b_is r =
          ap (λ o. range_holds o r) (window_is s found.f x b found.is b_is MemoryWindow)
          ∙ held_open (is_open found.f MemoryWindow) (range_of found.f (Window MemoryWindow)) r
          ∙ sym (ap (holds_range MemoryWindow r) one_over)
        where
          held_open : (there : Bool) (w r : DecodedRange) → range_holds (cond there (Some w) None) r ≡ (there && lies_within r w)
          held_open true w r = refl
          held_open false w r = refl
