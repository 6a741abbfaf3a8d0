-- Whether a told range is in its place, by the table of what stands.
use Rattle.std.proofs.Common.{◌≡◌, ◌≢◌, ℕ, ◌+◌, ◌<◌, inl, inr, List, get_or, Bool, true, false, cond, ◌&&◌, ◌||◌, not, arith, sym, ◌∙◌, ap, refl, Option, None, Some}
use Rattle.std.specs.Option.{is_some}
use Rattle.std.proofs.lemmas.Bool.{cases_Bool, both_ways, true_from_ne_false, false_from_ne_true}
use Rattle.pci_spec.specs.Window.{WindowKind}
use Rattle.pci_spec.specs.Decoded.{Range}
use Rattle.pci_spec.specs.System.{System, Function, Window, has_part}
use Rattle.pci_spec.specs.Bus.{is_root}
use Rattle.plan_spec.specs.Plan.{is_open}
use Rattle.plan_spec.specs.Planning.Layout.{range_of}
use Rattle.judge_spec.specs.Told.{ToldRange}
use Rattle.judge_spec.specs.ToldRegion.{told_extent}
use Rattle.settle_spec.specs.Lists.{Request}
use Rattle.settle_spec.specs.Parts.{lies_within, bridge_over}
use Rattle.settle_spec.specs.Lines.{is_always_line}
use Rattle.settle_spec.specs.Stands.{window_part, is_in_window, stands, range_class, are_bridges_on, is_range_in_place}
use Rattle.settle_laws.specs.Order.{level}
use Rattle.settle_laws.proofs.Standing.{stands_by_itself}
use Rattle.pci_base.specs.WindowKinds.{kind_value}
use Rattle.pci_function.specs.declared.record.Bridge.{Bridge}
use Rattle.pci_function.specs.declared.record.Record.{Record}
use Rattle.pci_image.specs.Windows.{window_of}
use Rattle.pci_tree.specs.Passes.{range_in}
use Rattle.pci_tree.specs.Ways.{IsBridgeToBus}
use Rattle.pci_tree.proofs.Lifting.{same_bridge}
use Rattle.pci_place.proofs.Records.{FunctionAt}
use Rattle.pci_first_fit.specs.declared.kept.Kept.{Kept}
use Rattle.pci_first_fit.specs.Kept.{kept_of}
use Rattle.pci_first_fit.specs.Over.{range_holds}
use Rattle.pci_kept.specs.declared.told_line.ToldLine.{ToldLine}
use Rattle.pci_kept.specs.Boards.{IsTree}
use Rattle.pci_kept.specs.Passing.{AreStanding}
use Rattle.pci_kept.specs.ToldLines.{unnamed, IsToldLineOf}
use Rattle.pci_kept.proofs.OfRecord.{window_is}
use Rattle.pci_kept.proofs.OverBus.{none_over, found, one_over, bridging}

and_false : (b : Bool) → (b && false) ≡ false
and_false true = refl
and_false false = refl

module _ (q : Request) (s : System) (records : List Record) (tree : IsTree q s records) (over : List (Option ℕ)) (are : IsBridgeToBus records over) (table : List Kept) (standing : AreStanding q s table)
    (t : ToldRange) (line : ToldLine) (is : IsToldLineOf q s t line) where
  abbrev bus : ℕ
  bus = t.slot.bus

  abbrev ok : Bool
  ok = not (is_always_line (unnamed t)) || are_bridges_on s t.space bus

  abbrev by : Bool → Option Function → Bool
  by root o = root || (is_in_window (stands q s) (range_class q s (unnamed t)) (told_extent t) o && ok)

  pub on_root : line.level ≡ 0 → true ≡ is_range_in_place q s (stands q s) (unnamed t)
  on_root low = sym (ap (λ b. by b (bridge_over s bus)) (true_from_ne_false (is_root q.roots bus) never))
    where
      never : is_root q.roots bus ≡ false → ⊥
      never off =
          let high : level q bus ≡ bus + 1 = ap (λ b. cond b 0 (bus + 1)) off in
          let same = is.level in
          omega (arith, low, high, same)

  module _ (off_root : line.level ≢ 0) (at_bus : ℕ) (at_bus_is : at_bus ≡ bus) (at_small : at_bus < 256) where
    pub small : bus < 256
    small = omega (arith, at_bus_is, at_small)

    no_root : is_root q.roots bus ≡ false
    no_root = false_from_ne_true (is_root q.roots bus) (λ root. off_root (is.level ∙ ap (λ b. cond b 0 (bus + 1)) root))

    in_window : (o : Option Function) → bridge_over s bus ≡ o → is_range_in_place q s (stands q s) (unnamed t) ≡ (is_in_window (stands q s) (range_class q s (unnamed t)) (told_extent t) o && ok)
    in_window o leads = ap (λ b. by b (bridge_over s bus)) no_root ∙ ap (by false) leads

    pub under_none : get_or over at_bus None ≡ None → false ≡ is_range_in_place q s (stands q s) (unnamed t)
    under_none none = sym (in_window None (none_over q s records tree bus small over are (ap (λ n. get_or over n None) (sym at_bus_is) ∙ none)))

    module _ (k : ℕ) (there_at : get_or over at_bus None ≡ Some k) (x : Record) (x_is : x ≡ get_or records k x) where
      pub at : get_or over bus None ≡ Some k
      at = ap (λ n. get_or over n None) (sym at_bus_is) ∙ there_at

      abbrev of : FunctionAt s x k
      of = found q s records tree bus small over are k at x x_is

      pub leads : bridge_over s bus ≡ Some of.f
      leads = one_over q s records tree bus small over are k at x x_is

      pub no_record : x.bridge ≡ None → false ≡ is_range_in_place q s (stands q s) (unnamed t)
      no_record none = absurd (let yes = bridging q s records tree bus small over are k at x x_is in both_ways (is_some x.bridge) (ap is_some none) yes)

      module _ (b : Bridge) (b_is : x.bridge ≡ Some b) (held flag : Bool) (held_is : held ≡ range_holds (range_in (window_of b.windows (kind_value line.class))) (told_extent t))
          (d : Kept) (flag_is : flag ≡ kept_of (get_or table k d) (Window (kind_value line.class))) where
        abbrev c : WindowKind
        c = range_class q s (unnamed t)

        held_open : (there : Bool) (w r : Range) → range_holds (cond there (Some w) None) r ≡ (there && lies_within r w)
        held_open true w r = refl
        held_open false w r = refl

        holds : held ≡ (is_open of.f c && lies_within (told_extent t) (range_of of.f (Window c)))
        holds =
            held_is
            ∙ ap (λ k. range_holds (range_in (window_of b.windows k)) (told_extent t)) is.class
            ∙ ap (λ o. range_holds o (told_extent t)) (window_is s of.f x b of.is b_is c)
            ∙ held_open (is_open of.f c) (range_of of.f (Window c)) (told_extent t)

        there : has_part of.f (Window c) ≡ true
        there = sym (same_bridge x of.f of.is.value) ∙ ap is_some b_is

        stands_is : flag ≡ stands q s (window_part c of.f)
        stands_is = flag_is ∙ ap (λ w. kept_of (get_or table k d) (Window w)) is.class ∙ standing.each k of.f d (Window c) of.at there

        -- only an open window stands
        window : (held && flag) ≡ is_in_window (stands q s) c (told_extent t) (Some of.f)
        window = elim (cases_Bool flag) [
          | inl on ↦
              let open_is : is_open of.f c ≡ true = (part_is on) in
              ap (λ y. y && flag) (holds ∙ ap (λ y. y && lies_within (told_extent t) (range_of of.f (Window c))) open_is)
              ∙ ap (λ y. lies_within (told_extent t) (range_of of.f (Window c)) && y) stands_is
          | inr off ↦
              ap (λ y. held && y) off ∙ and_false held
              ∙ sym (ap (λ y. lies_within (told_extent t) (range_of of.f (Window c)) && y) (sym stands_is ∙ off) ∙ and_false (lies_within (told_extent t) (range_of of.f (Window c))))
        ]
          where
            part_is : flag ≡ true → is_open of.f c ≡ true
            part_is on = (stands_by_itself q s tree.nested).only (window_part c of.f) of.is.listed (sym stands_is ∙ on)

        in_place_by : (held && flag) ≡ false → false ≡ is_range_in_place q s (stands q s) (unnamed t)
        in_place_by off = sym (in_window (Some of.f) leads ∙ ap (λ b. b && ok) (sym window ∙ off))

        pub in_place_none : held ≡ false → false ≡ is_range_in_place q s (stands q s) (unnamed t)
        in_place_none off = in_place_by (ap (λ b. b && flag) off)

        pub in_place_not : flag ≡ false → false ≡ is_range_in_place q s (stands q s) (unnamed t)
        in_place_not off = in_place_by (ap (λ b. held && b) off ∙ and_false held)

        pub in_place_so : held ≡ true → flag ≡ true → ok ≡ is_range_in_place q s (stands q s) (unnamed t)
        in_place_so a b = sym (in_window (Some of.f) leads ∙ ap (λ b. b && ok) (sym window ∙ ap (λ y. y && flag) a ∙ b))
