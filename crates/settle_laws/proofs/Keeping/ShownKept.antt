-- A settled function shows what stays where it was.
use Rattle.std.proofs.Common.{◌≡◌, ◌+◌, ◌&&◌, ℕ, ◌^◌, ◌<◌, inl, inr, List, Bool, true, false, cond, not, arith, refl, sym, ◌∙◌, ap, subst, None}
use Rattle.std.specs.Bool.{◌==◌, if◌then◌else◌}
use Rattle.std.specs.List.{Contains}
use Rattle.std.proofs.lemmas.Bool.{and_from, and_parts, both_ways, cases_Bool, eqb-true, lt-ltb, ltb-true, not_from_false}
use Rattle.pci_spec.specs.Number.{number_at, lowest_one}
use Rattle.pci_spec.specs.Header.{layout, bar_count, bar_register, rom_register}
use Rattle.pci_spec.specs.Bar.{bar_at, has_bar, is_wide, whole_bar}
use Rattle.pci_spec.specs.Window.{WindowKind, bounds_at, has_window, is_closed}
use Rattle.pci_spec.specs.Decoded.{Range, aligned_range, bar_size, rom_size}
use Rattle.pci_spec.specs.System.{System, Function, Part, Bar, Rom, Window, has_part, is_bridge, is_window}
use Rattle.plan_spec.specs.Plan.{is_open}
use Rattle.plan_spec.specs.Planning.Layout.{range_of}
use Rattle.settle_spec.specs.Lists.{Request}
use Rattle.settle_spec.specs.Parts.{FunctionPart, addresses, is_part, is_left}
use Rattle.settle_spec.specs.Keeping.Places.{new_place}
use Rattle.settle_spec.specs.Registers.{closed_if_open, changing}
use Rattle.settle_spec.specs.Keeping.Registers.{is_same_range, with_range, with_kept, shown, settled_image, settled_function, settled_command}
use Rattle.settle_laws.specs.Keeping.PlacesLaws.{CanSettle}
use Rattle.settle_laws.proofs.HeaderParts.{few_bars}
use Rattle.settle_laws.proofs.Images.{same_number, whole_aside}
use Rattle.settle_laws.proofs.Keeping.Kept.{stays_part}
use Rattle.settle_laws.proofs.Keeping.PartPlaces.{kept_unplaced}
use Rattle.settle_laws.proofs.Keeping.SettledMoved.{kind_stays}
use Rattle.settle_laws.proofs.Shown.{fold_keeps}
use Rattle.settle_laws.proofs.Keeping.Shown.{IsChanging, changing_is, step, step_off, step_plain}
use Rattle.settle_laws.proofs.Keeping.ShownParts.{aside, off_bar, keeps_whole, keeps_rom, rom_aside, keeps_range, leaves_wish, bounds_stay, grown_shown, grown_open}
use Rattle.settle_laws.proofs.ShownParts.{bar_or_not, rom_or_not}
use Rattle.settle_spec.specs.Kept.{Kept}
use Rattle.pci_spec.specs.Registers.{COMMAND}
use Rattle.settle_laws.proofs.Numbers.{with_elsewhere}
use Rattle.settle_laws.proofs.ShownKept.{opens_by, range_by}

module _ (q : Request) (s : System) (k : Kept) (can : CanSettle q s k) (f : Function) (listed : Contains s f) where
  abbrev region : Part → FunctionPart
  region p = record { function = f; part = p }

  abbrev g : Function
  g = settled_function q s k f

  one_of : (b : Bool) (x : List ℕ) → cond b x x ≡ x
  one_of true x = refl
  one_of false x = refl

  -- where a BAR or ROM stays, it leaves the image in its step
  plain_kept : (p : Part) → is_window p ≡ false → (image : List ℕ) → with_kept k (region p) image ≡ image
  plain_kept (Bar n) plain image = one_of (is_same_range (k.range (region (Bar n))) (addresses (region (Bar n)))) image
  plain_kept Rom plain image = one_of (is_same_range (k.range (region Rom)) (addresses (region Rom))) image
  plain_kept (Window c) plain image = absurd (both_ways true plain refl)

  leaves_by : (p : Part) → k.stays (region p) ≡ true → new_place q s k (region p) ≡ None → ((image : List ℕ) → step q s k f image (region p) ≡ shown k (region p) (new_place q s k (region p)) image)
      → ((image : List ℕ) → with_kept k (region p) image ≡ image) → (image : List ℕ) → step q s k f image (region p) ≡ image
  leaves_by p keeps none unwished same image =
      unwished image ∙ ap (λ o. shown k (region p) o image) none ∙ ap (λ t. cond t (with_kept k (region p) image) (closed_if_open f p image)) keeps ∙ same image

  module _ (p : Part) (there : has_part f p ≡ true) (keeps : k.stays (region p) ≡ true) where
    leaves : ((image : List ℕ) → step q s k f image (region p) ≡ shown k (region p) (new_place q s k (region p)) image)
        → ((image : List ℕ) → with_kept k (region p) image ≡ image) → (image : List ℕ) → step q s k f image (region p) ≡ image
    leaves unwished same = leaves_by p keeps (kept_unplaced q s k can f p listed there keeps) unwished same

    looked_at : is_part q s f p ≡ true
    looked_at = stays_part q s k can (region p) listed keeps

  pub bar_stays : (n : ℕ) → n < bar_count (layout f.image) → has_part f (Bar n) ≡ true → k.stays (region (Bar n)) ≡ true → whole_bar f.probe g.image n ≡ whole_bar f.probe f.image n
  bar_stays n inside there keeps =
      let v = whole_bar f.probe f.image n in
      let has = (and_parts (has_bar f.probe n) (not (is_left q s f (Bar n))) (looked_at (Bar n) there keeps)).0 in
      whole_aside g.image (settled_image q s k f) (aside q s k can f listed) f.probe n (few_bars f n inside)
      ∙ fold_keeps (λ image. whole_bar f.probe image n ≡ v) (step q s k f) (changing q s f)
      (λ r in_r image same.
      let c : IsChanging q s k f r = changing_is q s k f r in_r in
      subst (λ (t : FunctionPart). whole_bar f.probe (step q s k f image t) n ≡ v) c.is (elim (bar_or_not n c.p) [
        | inl here ↦ subst (λ o. whole_bar f.probe (step q s k f image (region o)) n ≡ v) here (ap (λ x. whole_bar f.probe x n) (leaves (Bar n) there keeps (step_plain q s k f (Bar n) refl) (plain_kept (Bar n) refl) image) ∙ same)
        | inr other ↦ keeps_whole q s k can f listed n inside has c.p c.there c.can other image ∙ same
      ])) f.image refl

  pub bar_number_stays : (n : ℕ) → n < bar_count (layout f.image) → has_bar f.probe n ≡ true → k.stays (region (Bar n)) ≡ true
      → number_at g.image (bar_register n) (if is_wide (bar_at f.probe n) then 8 else 4) ≡ number_at f.image (bar_register n) (if is_wide (bar_at f.probe n) then 8 else 4)
  bar_number_stays n inside has keeps =
      let o : ℕ = bar_register n in
      let w : ℕ = if is_wide (bar_at f.probe n) then 8 else 4 in
      let v : ℕ = number_at f.image o w in
      let there = lt-ltb n (bar_count (layout f.image)) inside in
      same_number g.image (settled_image q s k f) o w (λ j less. with_elsewhere 2 COMMAND (settled_command q s k f) (o + j) (settled_image q s k f) (inr (omega arith)))
      ∙ fold_keeps (λ image. number_at image o w ≡ v) (step q s k f) (changing q s f)
      (λ r in_r image same.
      let c : IsChanging q s k f r = changing_is q s k f r in_r in
      subst (λ (t : FunctionPart). number_at (step q s k f image t) o w ≡ v) c.is (elim (bar_or_not n c.p) [
        | inl here ↦ subst (λ x. number_at (step q s k f image (region x)) o w ≡ v) here (ap (λ x. number_at x o w) (leaves (Bar n) there keeps (step_plain q s k f (Bar n) refl) (plain_kept (Bar n) refl) image) ∙ same)
        | inr other ↦
            same_number (step q s k f image (region c.p)) image o w
            (λ j less. step_off q s k f c.p image (o + j) (off_bar q s k can f listed n inside has c.p c.there c.can other (o + j) (omega arith) (omega (arith, less)))) ∙ same
      ])) f.image refl

  pub rom_stays : k.stays (region Rom) ≡ true → number_at g.image (rom_register (layout f.image)) 4 ≡ number_at f.image (rom_register (layout f.image)) 4
  rom_stays keeps =
      let rom = rom_register (layout f.image) in
      let v = number_at f.image rom 4 in
      rom_aside q s k can f listed
      ∙ fold_keeps (λ image. number_at image rom 4 ≡ v) (step q s k f) (changing q s f)
      (λ r in_r image same.
      let c : IsChanging q s k f r = changing_is q s k f r in_r in
      subst (λ (t : FunctionPart). number_at (step q s k f image t) rom 4 ≡ v) c.is (elim (rom_or_not c.p) [
        | inl here ↦ subst (λ o. number_at (step q s k f image (region o)) rom 4 ≡ v) here (ap (λ x. number_at x rom 4) (leaves Rom refl keeps (step_plain q s k f Rom refl) (plain_kept Rom refl) image) ∙ same)
        | inr other ↦ keeps_rom q s k can f listed c.p c.there c.can other image ∙ same
      ])) f.image refl

  -- a window that keeps its addresses keeps its registers
  pub window_stays : (c : WindowKind) → k.wished (region (Window c)) ≡ None → is_bridge f ≡ true → k.stays (region (Window c)) ≡ true → keeps_range q s k can f listed c ≡ true → bounds_at c g.image ≡ bounds_at c f.image
  window_stays c unwished bridge keeps same =
      bounds_stay q s k can f listed c bridge (leaves (Window c) bridge keeps (leaves_wish q s k can f listed c unwished) (λ image. ap (λ t. cond t image (with_range f (Window c) (k.range (region (Window c))) image)) same))

  same_range : (r t : Range) → is_same_range r t ≡ true → r ≡ t
  same_range r t same =
      let parts = and_parts (r.first == t.first) (r.last == t.last) same in
      ap (λ n. record { first = n; last = r.last }) (eqb-true r.first t.first parts.0) ∙ ap (λ n. record { first = t.first; last = n }) (eqb-true r.last t.last parts.1)

  -- so it has the addresses that are kept for it
  pub range_stays : (p : Part) → k.wished (region p) ≡ None → has_part f p ≡ true → k.stays (region p) ≡ true → range_of g p ≡ k.range (region p)
  range_stays (Bar n) unwished there keeps = ap (λ v. aligned_range v (bar_size f.probe n)) (bar_stays n (ltb-true n (bar_count (layout f.image)) there) there keeps) ∙ sym (can.sound.plain (region (Bar n)) refl)
  range_stays Rom unwished there keeps =
      ap (λ l. aligned_range (number_at g.image (rom_register l) 4) (2 ^ lowest_one 0 (number_at f.probe (rom_register l) 4))) (kind_stays q s k can f listed)
      ∙ ap (λ v. aligned_range v (rom_size f.image f.probe)) (rom_stays keeps)
      ∙ sym (can.sound.plain (region Rom) refl)
  range_stays (Window c) unwished there keeps = elim (cases_Bool (keeps_range q s k can f listed c)) [
    | inl same ↦ ap (range_by c) (window_stays c unwished there keeps same) ∙ sym (same_range (k.range (region (Window c))) (addresses (region (Window c))) same)
    | inr grows ↦ grown_shown q s k can f listed c there unwished keeps (kept_unplaced q s k can f (Window c) listed there keeps) grows
  ]

  -- and a window stays open
  pub open_stays : (c : WindowKind) → k.wished (region (Window c)) ≡ None → is_bridge f ≡ true → k.stays (region (Window c)) ≡ true → is_open g c ≡ true
  open_stays c unwished bridge keeps =
      let opened = and_parts (is_bridge f && has_window c f.probe) (not (is_closed c f.image)) (looked_at (Window c) bridge keeps) in
      and_from (is_bridge g && has_window c f.probe) (not (is_closed c g.image))
      (ap (λ l. l == 1 && has_window c f.probe) (kind_stays q s k can f listed) ∙ opened.0)
      (elim (cases_Bool (keeps_range q s k can f listed c)) [
        | inl same ↦ ap (λ b. not (not (opens_by c b))) (window_stays c unwished bridge keeps same) ∙ opened.1
        | inr grows ↦ not_from_false (is_closed c g.image) (grown_open q s k can f listed c bridge unwished keeps (kept_unplaced q s k can f (Window c) listed bridge keeps) grows)
      ])
