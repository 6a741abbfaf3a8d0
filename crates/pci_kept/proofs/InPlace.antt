-- Whether a part is where it can stand, as the code tells it by its records.
use Rattle.std.proofs.Common.{◌≡◌, ◌≢◌, ℕ, ◌+◌, ◌<◌, inl, inr, List, length, get_or, Bool, true, false, cond, ◌&&◌, arith, sym, ◌∙◌, ap, subst, refl, Option, None, Some}
use Rattle.std.specs.Option.{is_some}
use Rattle.std.proofs.lemmas.Bool.{cases_Bool, both_ways, false_from_ne_true, true_from_ne_false}
use Rattle.std.proofs.lemmas.List.{get_or_default}
use Rattle.std.proofs.lemmas.Option.{slice_get-get_or}
use Rattle.pci_spec.specs.Window.{WindowKind}
use Rattle.pci_spec.specs.Decoded.{Range}
use Rattle.pci_spec.specs.System.{System, Function, Window, is_bridge}
use Rattle.pci_spec.specs.Bus.{is_root}
use Rattle.plan_spec.specs.Plan.{is_open}
use Rattle.plan_spec.specs.Planning.Layout.{range_of}
use Rattle.settle_spec.specs.Lists.{Lists, Request}
use Rattle.settle_spec.specs.Parts.{FunctionPart, addresses, lies_within, bridge_over, class_in}
use Rattle.settle_spec.specs.Stands.{part_space, window_part, is_in_window, is_in_place}
use Rattle.settle_spec.specs.Stands as settle
use Rattle.settle_spec.proofs.BridgeOver.{over_leads, over_is}
use Rattle.settle_laws.specs.Order.{level}
use Rattle.pci_base.specs.Ranges.{decoded_range_of}
use Rattle.pci_base.specs.Space as code
use Rattle.pci_base.specs.WindowKinds.{kind_value}
use Rattle.pci_function.specs.declared.record.Bridge.{Bridge}
use Rattle.pci_function.specs.declared.record.Record.{Record}
use Rattle.pci_tree.specs.Ways.{IsBridgeToBus, IsBridgeIn, LeadsAt, bus_behind}
use Rattle.pci_tree.proofs.Lifting.{record_for, same_bridge, same_secondary}
use Rattle.pci_tree.proofs.Ways.{bridge_at, no_bridge, some_bridge}
use Rattle.pci_place.proofs.Records.{FunctionAt, function_at}
use Rattle.pci_kept.specs.declared.region.Region.{Region as CodeRegion}
use Rattle.pci_first_fit.specs.declared.kept.Kept.{Kept}
use Rattle.pci_first_fit.specs.Kept.{kept_of, nothing_kept}
use Rattle.pci_kept.specs.Tables.{stands_in}
use Rattle.pci_first_fit.specs.Over.{range_holds}
use Rattle.pci_kept.specs.Places.{held_in, is_in_windows}
use Rattle.pci_kept.specs.Known.{Known, region_value}
use Rattle.pci_kept.specs.Boards.{IsBoard, IsKnown, AreOpen}
use Rattle.pci_kept.proofs.Indexes.{table_at}
use Rattle.pci_kept.proofs.OfRecord.{window_is}

-- ---- in a window

and_false : (b : Bool) → (b && false) ≡ false
and_false true = refl
and_false false = refl

-- which windows of a bridge hold a range, and stand
module _ (holds stands : WindowKind → Bool) where
  abbrev fits : WindowKind → Bool
  fits c = holds c && stands c

held_open : (there : Bool) (w r : Range) → range_holds (cond there (Some w) None) r ≡ (there && lies_within r w)
held_open true w r = refl
held_open false w r = refl

module _ (q : Request) (s : System) (records : List Record) (lists : Lists) (board : IsBoard q s records lists) (r : CodeRegion) (is : IsKnown q s r) (small : r.bus < 256) (table : List Kept) (opens : AreOpen s table) where
  abbrev v : FunctionPart
  v = region_value s r

  abbrev bus : ℕ
  bus = v.function.slot.bus

  abbrev test : FunctionPart → Bool
  test = stands_in s table

  -- what is known
  range_same : decoded_range_of r.range ≡ addresses v
  range_same = ap (λ (k : Known). k.range) is.all

  space_same : code.space_of r.space ≡ part_space v
  space_same = ap (λ (k : Known). k.space) is.all

  bus_same : r.bus ≡ bus
  bus_same = ap (λ (k : Known). k.bus) is.all

  level_same : r.level ≡ level q bus
  level_same = ap (λ (k : Known). k.level) is.all

  class_same : kind_value r.class ≡ class_in q s v.function v.part
  class_same = ap (λ (k : Known). k.class) is.all

  abbrev in_place_by : Bool → Bool
  in_place_by root = cond root (settle.is_in_lists q bus (addresses v) (part_space v)) (is_in_window test (class_in q s v.function v.part) (addresses v) (bridge_over s bus))

  root_of : r.level ≡ 0 → is_root q.roots bus ≡ true
  root_of low = true_from_ne_false (is_root q.roots bus) never
    where
      never : is_root q.roots bus ≡ false → ⊥
      never off =
          let high : level q bus ≡ bus + 1 = ap (λ b. cond b 0 (bus + 1)) off in
          let same = level_same in
          omega (arith, low, high, same)

  pub on_root : r.level ≡ 0 → settle.is_in_lists q r.bus (decoded_range_of r.range) (code.space_of r.space) ≡ is_in_place q s test v
  on_root low =
      ap (λ n. settle.is_in_lists q n (decoded_range_of r.range) (code.space_of r.space)) bus_same
      ∙ ap (λ x. settle.is_in_lists q bus x (code.space_of r.space)) range_same
      ∙ ap (λ x. settle.is_in_lists q bus (addresses v) x) space_same
      ∙ sym (ap in_place_by (root_of low))

  module _ (off_root : r.level ≢ 0) where
    no_root : is_root q.roots bus ≡ false
    no_root = false_from_ne_true (is_root q.roots bus) (λ root. off_root (level_same ∙ ap (λ b. cond b 0 (bus + 1)) root))

    in_window_of : (o : Option Function) → bridge_over s bus ≡ o → is_in_place q s test v ≡ is_in_window test (class_in q s v.function v.part) (addresses v) o
    in_window_of o over = ap in_place_by no_root ∙ ap (is_in_window test (class_in q s v.function v.part) (addresses v)) over

    -- no bridge leads there
    pub under_none : (over : List (Option ℕ)) → IsBridgeToBus records over → get_or over r.bus None ≡ None → false ≡ is_in_place q s test v
    under_none over are none = sym (in_window_of None (elim (bridge_over s bus) as (λ o. bridge_over s bus ≡ o → bridge_over s bus ≡ None) [
      | None ↦ λ e. e
      | Some b ↦ λ e.
          let leads = over_leads s bus b e in
          let record_of_it = record_for s records b board.has leads.0 in
          let bridging : is_some record_of_it.0.bridge ≡ true = same_bridge record_of_it.0 b record_of_it.1.same ∙ leads.1 in
          absurd (no_bridge records r.bus (get_or over r.bus None) none (are r.bus small) record_of_it.0 record { has = record_of_it.1.has; is = bridging }
          (same_secondary record_of_it.0 b record_of_it.1.same leads.1 ∙ leads.2 ∙ sym bus_same))
    ] refl))

    module _ (over : List (Option ℕ)) (are : IsBridgeToBus records over) (k : ℕ) (at : get_or over r.bus None ≡ Some k) where
      leads_at : LeadsAt records r.bus k
      leads_at = some_bridge records r.bus (get_or over r.bus None) k at (are r.bus small)

      module _ (x : Record) (x_is : x ≡ get_or records k x) where
        found : FunctionAt s x k
        found = function_at s records board.has k x (slice_get-get_or records k x leads_at.within ∙ ap Some (sym x_is))

        is_it : IsBridgeIn records x × (bus_behind x ≡ r.bus)
        is_it = (let b = bridge_at records r.bus k x leads_at in (subst (IsBridgeIn records) (sym x_is) b.0, ap bus_behind x_is ∙ b.1))

        is_bridge_there : is_bridge found.f ≡ true
        is_bridge_there = sym (same_bridge x found.f found.is.value) ∙ is_it.0.is

        over_it : bridge_over s bus ≡ Some found.f
        over_it =
            over_is q.roots s board.system board.nested bus found.f
            (found.is.listed, is_bridge_there, sym (same_secondary x found.f found.is.value is_bridge_there) ∙ is_it.1 ∙ bus_same)

        pub no_record : x.bridge ≡ None → false ≡ is_in_place q s test v
        no_record none = absurd (both_ways (is_some x.bridge) (ap is_some none) is_it.0.is)

        module _ (b : Bridge) (b_is : x.bridge ≡ Some b) where
          abbrev f : Function
          f = found.f

          abbrev holds : WindowKind → Bool
          holds c = held_in b.windows c r

          abbrev stands : WindowKind → Bool
          stands c = test (window_part c f)

          held_is : (c : WindowKind) → holds c ≡ (is_open f c && lies_within (addresses v) (range_of f (Window c)))
          held_is c =
              ap (λ o. range_holds o (decoded_range_of r.range)) (window_is s f x b found.is b_is c)
              ∙ held_open (is_open f c) (range_of f (Window c)) (decoded_range_of r.range)
              ∙ ap (λ y. is_open f c && lies_within y (range_of f (Window c))) range_same

          -- only an open window stands
          fits_is : (c : WindowKind) → fits holds stands c ≡ (lies_within (addresses v) (range_of f (Window c)) && stands c)
          fits_is c = elim (cases_Bool (stands c)) [
            | inl is_on ↦
                ap (λ y. y && stands c) (held_is c ∙ ap (λ y. y && lies_within (addresses v) (range_of f (Window c))) (opens c f found.is.listed is_on))
            | inr off ↦ ap (λ y. holds c && y) off ∙ and_false (holds c) ∙ sym (ap (λ y. lies_within (addresses v) (range_of f (Window c)) && y) off ∙ and_false (lies_within (addresses v) (range_of f (Window c))))
          ]

          pub in_its_window : (entry : Kept) (d : Kept) → entry ≡ get_or table k d → k < length table → is_in_windows b.windows entry r ≡ is_in_place q s test v
          in_its_window entry d entry_is within =
              let c = kind_value r.class in
              let told : kept_of entry (Window c) ≡ stands c =
              ap (λ y. kept_of y (Window c)) (entry_is ∙ get_or_default table k d nothing_kept within) ∙ sym (table_at s board.system table k f (Window c) found.at) in
              ap (λ y. holds c && y) told
              ∙ ap (fits holds stands) class_same
              ∙ fits_is (class_in q s v.function v.part)
              ∙ sym (in_window_of (Some f) over_it)
