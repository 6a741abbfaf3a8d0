-- What is known of told ranges tells what the definitions ask of each.
use Rattle.std.proofs.Common.{◌≡◌, ◌⊎◌, inl, inr, ℕ, zero, suc, ◌+◌, ◌-◌, ◌<◌, List, [], Bool, true, false, get_or, length, not, ◌&&◌, arith, refl, sym, ◌∙◌, ap, subst, Option, None, Some}
use Rattle.std.specs.List.{slice_get}
use Rattle.std.proofs.lemmas.Bool.{and_parts, or_cases, both_ways}
use Rattle.std.proofs.lemmas.List.{nil_from_length}
use Rattle.std.proofs.lemmas.Option.{none-some, slice_get_read, slice_get_within, get_or_from_slice_get}
use Rattle.pci_spec.specs.Window.{WindowKind}
use Rattle.pci_spec.specs.System.{System, Function}
use Rattle.pci_spec.specs.Bus.{is_root}
use Rattle.pci_spec.proofs.BusRanges.{root_means}
use Rattle.judge_spec.specs.Told.{ToldRange}
use Rattle.judge_spec.specs.ToldClaims.{told_register, is_marked_held, is_range_on}
use Rattle.judge_spec.specs.ToldRegion.{ToldRegion, told_regions}
use Rattle.settle_spec.specs.Lines.{line_bus, line_range}
use Rattle.settle_spec.specs.Lists.{Request}
use Rattle.settle_spec.specs.Parts.{bridge_over}
use Rattle.settle_spec.specs.Stands.{is_in_window, stands, range_class, range_stands_within, range_stands}
use Rattle.settle_spec.specs.Kept.{Kept}
use Rattle.settle_spec.proofs.BridgeOver.{over_leads}
use Rattle.settle_spec.specs.Keeping.Writes.{is_not_reached, does_not_stay}
use Rattle.pci_base.specs.declared.window_kind.WindowKind.{WindowKind as CodeKind}
use Rattle.pci_base.specs.WindowKinds.{kind_value}
use Rattle.pci_kept.specs.declared.told_line.ToldLine.{ToldLine}
use Rattle.pci_kept.specs.ToldLines.{IsToldLineOf}
use Rattle.pci_settle.specs.declared.way.ByClass.{ByClass}
use Rattle.pci_settle.specs.Shut.{in_class}
use Rattle.pci_settle.specs.ToldEndings.{KnownTold, HasEachFlag, KnowsTold, are_kept_above, AreKeptAbove}
use Rattle.pci_settle.proofs.ToldFirsts.{told_at}

-- the line of a register
pub line_is : (index : ℕ) → index + 1 ≡ told_register index - 255
line_is index = omega arith

module _ (q : Request) (s : System) (t : KnownTold) (knows : KnowsTold q s t) where
  pub range_here : (ranges : List ToldRange) → ranges ≡ t.ranges → (index : ℕ) (r : ToldRange) → index < length ranges → r ≡ get_or ranges index r → slice_get q.told.ranges index ≡ Some r
  range_here ranges same index r within is =
      ap (λ xs. slice_get xs index) (knows.ranges ∙ sym same) ∙ slice_get_read ranges (length ranges) index r refl within is

  pub line_here : (index : ℕ) (r : ToldRange) (d : ToldLine) → slice_get q.told.ranges index ≡ Some r → IsToldLineOf q s r (get_or t.lines index d)
  line_here index r d at =
      subst (λ y. IsToldLineOf q s y (get_or t.lines index d)) (get_or_from_slice_get q.told.ranges index r r at)
      (knows.lines.each index d r (slice_get_within q.told.ranges index r at))

  pub unreached_is : (index : ℕ) (r : ToldRange) (d : ToldLine) → slice_get q.told.ranges index ≡ Some r
      → (not (is_marked_held r.mark) && (get_or t.lines index d).on && not (get_or t.standing index false)) ≡ is_not_reached q s (told_at (told_register index) r)
  unreached_is index r d at =
      let stands : Bool = get_or t.standing index false in
      ap (λ b. not (is_marked_held r.mark) && b && not stands) (line_here index r d at).on
      ∙ ap (λ b. not (is_marked_held r.mark) && is_range_on q.told s r && not b) (knows.standing index r at)

-- ---- where nothing is told

-- whatever has a flag for each told range tells it
pub nothing_known : (q : Request) (s : System) (t : KnownTold) → q.told.ranges ≡ t.ranges → t.ranges ≡ [] → HasEachFlag t → KnowsTold q s t
nothing_known q s t same none has =
    let untold : q.told.ranges ≡ [] = same ∙ none in
    let count : length q.told.ranges ≡ 0 = ap length untold in
    record {
      ranges = same;
      lines = record {
        size = has.lines ∙ ap length (sym same);
        each = λ k d r low. absurd (let no : ⊥ = omega (arith, low, count) in no);
      };
      standing = λ n r at. absurd (none-some r (ap (λ xs. slice_get xs n) (sym untold) ∙ at));
    }

-- nothing is told where no range has a flag
pub nothing_flagged : (q : Request) (s : System) (t : KnownTold) → KnowsTold q s t → HasEachFlag t → length t.standing ≡ 0 → q.told.ranges ≡ []
nothing_flagged q s t knows has none = nil_from_length q.told.ranges (ap length knows.ranges ∙ sym has.standing ∙ none)

-- ---- where a range that stands is

-- on a root, or on a bus that a bridge leads to
pub stands_home : (q : Request) (s : System) (x : ToldRegion) → range_stands q s x ≡ true
    → (is_root q.roots (line_bus x) ≡ true) ⊎ ((b : Function) × (bridge_over s (line_bus x) ≡ Some b))
unfolding range_stands_within
stands_home q s x = within (length (told_regions q.told)) where
  above : (o : Option Function) → bridge_over s (line_bus x) ≡ o → is_in_window (stands q s) (range_class q s x) (line_range x) o ≡ true
      → (b : Function) × (bridge_over s (line_bus x) ≡ Some b)
  above None e is = absurd (both_ways false refl is)
  above (Some b) e is = (b, e)

  within : (others : ℕ) → range_stands_within q s others x ≡ true → (is_root q.roots (line_bus x) ≡ true) ⊎ ((b : Function) × (bridge_over s (line_bus x) ≡ Some b))
  within zero is = absurd (both_ways false refl is)
  within (suc others) is = elim (or_cases _ _ (and_parts _ _ (and_parts _ _ (and_parts _ _ (and_parts _ _ is).0).0).0).1) [
    | inl root ↦ inl root
    | inr under ↦ inr (above (bridge_over s (line_bus x)) refl (and_parts _ _ under).0)
  ]

module _ (q : Request) (s : System) (k : Kept) (t : KnownTold) (knows : KnowsTold q s t) (ways : List ByClass) (are : AreKeptAbove q s k ways) where
  module _ (index : ℕ) (r : ToldRange) (at : slice_get q.told.ranges index ≡ Some r) (small : r.slot.bus < 256) where
    abbrev x : ToldRegion
    x = told_at (told_register index) r

    way_is : range_stands q s x ≡ true → (d : ByClass) (c : WindowKind) → in_class (get_or ways r.slot.bus d) c ≡ are_kept_above s k c r.slot.bus
    way_is is d c = elim (stands_home q s x is) [
      | inl root ↦ are.on_roots r.slot.bus d c ((root_means q.roots r.slot.bus).0 root) small
      | inr (b, over) ↦
          let leads = over_leads s r.slot.bus b over in
          subst (λ bus. in_class (get_or ways bus d) c ≡ are_kept_above s k c bus) leads.2 (are.behind b d c leads.0 leads.1)
    ]

    cut_by : (b : Bool) → range_stands q s x ≡ b → (d : ByClass) (kind : CodeKind) → kind_value kind ≡ range_class q s x
        → (b && not (in_class (get_or ways r.slot.bus d) (kind_value kind))) ≡ (b && not (b && are_kept_above s k (range_class q s x) r.slot.bus))
    cut_by false is d kind of = refl
    cut_by true is d kind of = ap not (way_is is d (kind_value kind) ∙ ap (λ c. are_kept_above s k c r.slot.bus) of)

    pub cut_is : (d : ByClass) (n : ToldLine)
        → (get_or t.standing index false && not (in_class (get_or ways r.slot.bus d) (kind_value (get_or t.lines index n).class))) ≡ does_not_stay q s k x
    cut_is d n =
        ap (λ b. b && not (in_class (get_or ways r.slot.bus d) (kind_value (get_or t.lines index n).class))) (knows.standing index r at)
        ∙ cut_by (range_stands q s x) refl d (get_or t.lines index n).class (line_here q s t knows index r n at).class
