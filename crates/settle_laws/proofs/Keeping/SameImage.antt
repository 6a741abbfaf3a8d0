-- Where all is placed anew, the registers show what they do once more, beside the same wishes.
use Rattle.settle_laws.specs.ToldAgainLaws.{AllLinesAreHeld}
use Rattle.std.proofs.Common.{◌≡◌, ◌-◌, ◌+◌, ◌<◌, inl, inr, Bool, ℕ, false, true, cond, length, refl, sym, ◌∙◌, ap, subst, Option, None, Some}
use Rattle.std.specs.List.{Contains}
use Rattle.std.specs.Bool.{IsTrue}
use Rattle.pci_spec.specs.Number.{byte_at, IsImage}
use Rattle.pci_spec.specs.Header.{bar_count, layout}
use Rattle.pci_spec.specs.Decoded.{Range}
use Rattle.pci_spec.specs.Window.{WindowKind, bounds_at, bounds_for, closed_bounds}
use Rattle.pci_spec.specs.System.{System, Function, Part, Bar, Rom, Window, has_part, is_bridge, is_window}
use Rattle.plan_spec.specs.Plan.{is_open}
use Rattle.plan_spec.specs.Place.{nibble_of}
use Rattle.settle_spec.specs.Lists.{Request}
use Rattle.settle_spec.specs.Parts.{FunctionPart, header_parts}
use Rattle.settle_spec.specs.Items.{Placed, taken_by}
use Rattle.settle_spec.specs.Kept.{Kept, as_it_stands}
use Rattle.settle_spec.specs.Registers.{closed_if_open, changing}
use Rattle.judge_spec.specs.Windows.{with_bounds}
use Rattle.settle_spec.specs.Keeping.Places.{new_place}
use Rattle.settle_spec.specs.Keeping.Registers.{with_kept, with_wish, shown, settled, settled_image, settled_function}
use Rattle.settle_spec.specs.Wishes.{range_then}
use Rattle.settle_laws.proofs.Told.OnlyHeld.{none_stays}
use Rattle.settle_laws.specs.KeptLaws.{WishesNothing}
use Rattle.settle_laws.specs.PlacesLaws.{place_range}
use Rattle.settle_laws.specs.Keeping.PlacesLaws.{CanSettle}
use Rattle.settle_laws.proofs.AlikePlaces.{IsAlikePlaced}
use Rattle.settle_laws.proofs.HeaderParts.{part_cases}
use Rattle.settle_laws.proofs.ItemForms.{header_has}
use Rattle.settle_laws.proofs.PutTwice.{bounds_over}
use Rattle.settle_laws.proofs.Reput.{put_bounds}
use Rattle.settle_laws.proofs.Shown.{can_change, can_bar, can_rom, fold_keeps, window_bridge}
use Rattle.settle_laws.proofs.WindowBytes.{IsOf, bounds_elsewhere}
use Rattle.settle_laws.proofs.Zipped.{BothOrNone}
use Rattle.settle_laws.proofs.Keeping.Again.{settled_alike, again_alike, ends_again}
use Rattle.settle_laws.proofs.Keeping.AgainImage.{bar_again, rom_again}
use Rattle.settle_laws.proofs.Keeping.Claimed.{bridge_stays, rest_closed}
use Rattle.settle_laws.proofs.Keeping.Ends.{unwished_end, wished_end}
use Rattle.settle_laws.proofs.Keeping.InWindows.{placed_range, place_of_range}
use Rattle.settle_laws.proofs.Keeping.Kept.{none_kept}
use Rattle.settle_laws.proofs.Keeping.SettledMoved.{kind_stays, new_image}
use Rattle.settle_laws.proofs.Keeping.Shown.{IsChanging, changing_is, shown_image}
use Rattle.settle_laws.proofs.Keeping.ShownParts.{window_now, window_wished}

module _ (q : Request) (held : AllLinesAreHeld q) (s : System) (k : Kept) (can : CanSettle q s k) (anew : IsTrue q.anew) (j : Kept) (none : (r : FunctionPart) → j.stays r ≡ false) (f : Function) (listed : Contains s f) where
  abbrev t : System
  t = settled q s k

  abbrev g : Function
  g = settled_function q s k f

  abbrev before : Part → FunctionPart
  before p = record { function = f; part = p }

  abbrev after : Part → FunctionPart
  after p = record { function = g; part = p }

  image : IsImage g.image
  image = new_image q s k can f listed

  -- a window shows where it ends
  bounds_now : (c : WindowKind) → is_bridge f ≡ true → (w : Range) → range_then q s k (before (Window c)) ≡ Some w → bounds_at c g.image ≡ bounds_for c (nibble_of c f) w.first w.last
  bounds_now c bridge w ends = by (k.wished (before (Window c))) refl
    where
      by : (o : Option Range) → k.wished (before (Window c)) ≡ o → bounds_at c g.image ≡ bounds_for c (nibble_of c f) w.first w.last
      by (Some v) wished =
          let is : Some v ≡ Some w = sym (wished_end q s k (before (Window c)) v wished) ∙ ends in
          let same : v ≡ w = cc in
          window_wished q s k can f listed c bridge v wished ∙ ap (λ (x : Range). bounds_for c (nibble_of c f) x.first x.last) same
      by None unwished =
          let place = place_of_range q s k (new_place q s k (before (Window c))) w (sym (unwished_end q s k (before (Window c)) unwished ∙ placed_range q s k (before (Window c)) (none_kept q held s k can anew (before (Window c)))) ∙ ends) in
          window_now q s k can f listed c bridge unwished place.0 place.1 ∙ ap (λ (x : Range). bounds_for c (nibble_of c f) x.first x.last) place.2

  module _ (ranges : (p : Part) → range_then q t j (after p) ≡ range_then q s k (before p)) (plain : (p : Part) → has_part g p ≡ true → is_window p ≡ false → j.wished (after p) ≡ None)
      (places : (p : Part) → BothOrNone IsAlikePlaced (new_place q s k (before p)) (new_place q t j (after p))) where
    abbrev step_of : Part → Type 0
    step_of p = with_wish (after p) (j.wished (after p)) (shown j (after p) (new_place q t j (after p)) g.image) ≡ g.image

    plain_step : (p : Part) → Contains (header_parts g) p → is_window p ≡ false → shown j (after p) (new_place q t j (after p)) g.image ≡ g.image → step_of p
    plain_step p there own same = ap (λ o. with_wish (after p) o (shown j (after p) (new_place q t j (after p)) g.image)) (plain p (header_has g p there own) own) ∙ same

    module _ (c : WindowKind) (bridge : is_bridge f ≡ true) where
      put : (w : Range) → range_then q t j (after (Window c)) ≡ Some w → with_bounds c (bounds_for c (nibble_of c f) w.first w.last) g.image ≡ g.image
      put w ends =
          ap (λ v. with_bounds c v g.image) (sym (bounds_now c bridge w (sym (ranges (Window c)) ∙ ends))) ∙ put_bounds g.image image c

      unwished_step : j.wished (after (Window c)) ≡ None → (o : Option Placed) → new_place q t j (after (Window c)) ≡ o → shown j (after (Window c)) o g.image ≡ g.image
      unwished_step unwished None at =
          ap (λ b. cond b (with_kept j (after (Window c)) g.image) (closed_if_open g (Window c) g.image)) (none (after (Window c)))
          ∙ ap (λ b. cond b (with_bounds c (closed_bounds c (nibble_of c g)) g.image) g.image)
          (rest_closed q s k can f c listed (sym (ranges (Window c)) ∙ unwished_end q t j (after (Window c)) unwished ∙ placed_range q t j (after (Window c)) (none (after (Window c))) ∙ ap place_range at))
      unwished_step unwished (Some y) at =
          put (taken_by y.item y.at) (unwished_end q t j (after (Window c)) unwished ∙ placed_range q t j (after (Window c)) (none (after (Window c))) ∙ ap place_range at)

      closed_elsewhere : (x : Bool) (place : ℕ) → (IsOf c place → ⊥) → byte_at (cond x (with_bounds c (closed_bounds c (nibble_of c g)) g.image) g.image) place ≡ byte_at g.image place
      closed_elsewhere true place off = bounds_elsewhere c (closed_bounds c (nibble_of c g)) g.image place off
      closed_elsewhere false place off = refl

      shown_elsewhere : (o : Option Placed) (place : ℕ) → (IsOf c place → ⊥) → byte_at (shown j (after (Window c)) o g.image) place ≡ byte_at g.image place
      shown_elsewhere None place off =
          ap (λ b. byte_at (cond b (with_kept j (after (Window c)) g.image) (closed_if_open g (Window c) g.image)) place) (none (after (Window c))) ∙ closed_elsewhere (is_open g c) place off
      shown_elsewhere (Some y) place off = bounds_elsewhere c (bounds_for c (nibble_of c g) y.at (y.at + (y.item.extent.size - 1))) g.image place off

      window_step : (o : Option Range) → j.wished (after (Window c)) ≡ o → with_wish (after (Window c)) o (shown j (after (Window c)) (new_place q t j (after (Window c))) g.image) ≡ g.image
      window_step None unwished = unwished_step unwished (new_place q t j (after (Window c))) refl
      window_step (Some w) wished =
          let place = new_place q t j (after (Window c)) in
          let x = shown j (after (Window c)) place g.image in
          let size : length x ≡ length g.image = (shown_image q t j g (Window c) place g.image image).full ∙ sym image.full in
          bounds_over c (bounds_for c (nibble_of c f) w.first w.last) x g.image size (shown_elsewhere place)
          ∙ put w (wished_end q t j (after (Window c)) w wished)

    step_again : (r : FunctionPart) → Contains (changing q t g) r → with_wish r (j.wished r) (shown j r (new_place q t j r) g.image) ≡ g.image
    step_again r has =
        let of : IsChanging q t j g r = changing_is q t j g r has in
        subst (λ u. with_wish u (j.wished u) (shown j u (new_place q t j u) g.image) ≡ g.image) of.is (by of.p of.there of.can)
      where
        by : (p : Part) → Contains (header_parts g) p → can_change q t g p ≡ true → step_of p
        by p there may = elim (part_cases g p there) [
          | inl bar ↦
              let n = bar.n in
              let inside : n < bar_count (layout f.image) = subst (λ x. n < bar_count x) (kind_stays q s k can f listed) bar.inside in
              subst step_of bar.is
              (plain_step (Bar n) (subst (Contains (header_parts g)) (sym bar.is) there) refl (bar_again q s k can f listed j none n inside (can_bar q t g n (ap (can_change q t g) bar.is ∙ may)) (new_place q s k (before (Bar n))) (new_place q t j (after (Bar n))) refl (places (Bar n))))
          | inr (inl window) ↦
              let c = window.kind in
              let bridge = sym (bridge_stays q s k can f listed) ∙ window_bridge q t g c (ap (can_change q t g) window.is ∙ may) in
              subst step_of window.is (window_step c bridge (j.wished (after (Window c))) refl)
          | inr (inr rom) ↦
              subst step_of rom
              (plain_step Rom (subst (Contains (header_parts g)) (sym rom) there) refl (rom_again q s k can f listed j none ((settled_alike q s k can f listed).rom ∙ can_rom q t g (ap (can_change q t g) rom ∙ may)) (new_place q s k (before Rom)) (new_place q t j (after Rom)) refl (places Rom)))
        ]

    pub image_same : settled_image q t j g ≡ g.image
    image_same = fold_keeps (λ x. x ≡ g.image) (λ x r. with_wish r (j.wished r) (shown j r (new_place q t j r) x)) (changing q t g)
        (λ r has x same. ap (λ y. with_wish r (j.wished r) (shown j r (new_place q t j r) y)) same ∙ step_again r has) g.image refl

-- so they do as it stands, where nothing is wished
pub image_again : (q : Request) → AllLinesAreHeld q → (s : System) (k : Kept) (can : CanSettle q s k) (anew : IsTrue q.anew) → WishesNothing k → (f : Function) → Contains s f
    → settled_image q (settled q s k) (as_it_stands q (settled q s k)) (settled_function q s k f) ≡ (settled_function q s k f).image
image_again q held s k can anew wishless f listed =
    image_same q held s k can anew (as_it_stands q (settled q s k)) (none_stays q (settled q s k) anew held) f listed (λ p. ends_again q held s k can anew wishless f p listed) (λ p there plain. refl) (λ p. again_alike q held s k can anew f p listed)
