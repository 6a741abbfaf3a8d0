-- Where everything stays with the addresses that it had, nothing gets a place, and registers are left as they are.
use Rattle.std.proofs.Common.{◌≡◌, ◌&&◌, ℕ, inl, inr, List, [], ◌∷◌, ◌++◌, Bool, true, false, cond, refl, ◌∙◌, ap, subst, None}
use Rattle.std.specs.Bool.{◌==◌}
use Rattle.std.specs.List.{Contains}
use Rattle.std.specs.Option.{is_some}
use Rattle.std.proofs.lemmas.Bool.{and_from, and_right, both_ways, cases_Bool, eq-eqb, false_from_ne_true}
use Rattle.pci_spec.specs.Window.{IoWindow, MemoryWindow, PrefetchWindow, closed_bounds}
use Rattle.pci_spec.specs.Decoded.{Range}
use Rattle.pci_spec.specs.System.{System, Function, IsSystem, Space, Io, Memory, Part, Bar, Rom, Window, space_of}
use Rattle.pci_spec.specs.Bus.{IsNested}
use Rattle.plan_spec.specs.Place.{nibble_of}
use Rattle.settle_spec.specs.Lists.{Request}
use Rattle.settle_spec.specs.Parts.{FunctionPart, system_parts, header_parts, addresses, is_part, are_same_space}
use Rattle.settle_spec.specs.Stands.{part_space, stands}
use Rattle.settle_spec.specs.Items.{AllPlaced, bus_items, new_window, place_each}
use Rattle.settle_spec.specs.Places.{placed_of, place_among, first_lack}
use Rattle.settle_spec.specs.Registers.{closed_if_open, changing}
use Rattle.judge_spec.specs.Windows.{with_bounds}
use Rattle.settle_spec.specs.Kept.{Kept}
use Rattle.settle_spec.specs.Keeping.Places.{space_items, placing_within, placing_on, new_place, lacking_on, lacking}
use Rattle.settle_spec.specs.Keeping.Registers.{is_same_range, with_range, with_kept, shown, settled_image, got_place}
use Rattle.settle_laws.proofs.AllStand.{no_items}
use Rattle.settle_laws.proofs.Kept.{in_regions}
use Rattle.settle_laws.proofs.NonePasses.{none_by}
use Rattle.settle_laws.proofs.Shown.{fold_keeps}
use Rattle.settle_laws.specs.KeptLaws.{WishesNothing}
use Rattle.settle_laws.proofs.Keeping.Shown.{IsChanging, changing_is, step, step_unwished}

module _ (q : Request) (s : System) (k : Kept) (system : IsSystem s) (nested : IsNested q.roots s) (all : (r : FunctionPart) → Contains (system_parts q s) r → stands q s r ≡ true)
    (keeps : (r : FunctionPart) → Contains (system_parts q s) r → k.stays r ≡ true) (same : (r : FunctionPart) → Contains (system_parts q s) r → k.range r ≡ addresses r)
    (only : (r : FunctionPart) → Contains s r.function → k.stays r ≡ true → is_part q s r.function r.part ≡ true) (wishless : WishesNothing k) where
  -- ---- nothing gets a place

  no_space_items : (space : Space) (bus : ℕ) → space_items q s k space bus ≡ []
  no_space_items Io bus = no_items q s system nested all k.stays keeps IoWindow bus
  no_space_items Memory bus =
      ap (λ items. items ++ bus_items q s PrefetchWindow k.stays (new_window q s PrefetchWindow) bus) (no_items q s system nested all k.stays keeps MemoryWindow bus)
      ∙ no_items q s system nested all k.stays keeps PrefetchWindow bus

  none_placed : (space : Space) (bus : ℕ) → placing_on q s k space bus ≡ AllPlaced []
  unfolding placing_within
  none_placed space bus = ap (place_each _ _) (no_space_items space bus)

  pub no_place : (r : FunctionPart) → new_place q s k r ≡ None
  no_place r = ap (λ p. place_among r (placed_of p)) (none_placed (space_of r.function r.part) r.function.slot.bus)

  pub none_lacks : lacking q s k ≡ None
  none_lacks = by q.roots
    where
      by : (roots : List ℕ) → lacking_on q s k roots ≡ None
      by [] = refl
      by (root ∷ roots) =
          ap (λ p. first_lack p (first_lack (placing_on q s k Memory root) None)) (none_placed Io root)
          ∙ ap (λ p. first_lack p None) (none_placed Memory root)

  pub got_none : (space : Space) (f : Function) → got_place q s k space f ≡ false
  got_none space f = none_by (λ r. are_same_space space (part_space r) && is_some (new_place q s k r)) (changing q s f)
      (λ r has. and_right (are_same_space space (part_space r)) (is_some (new_place q s k r)) (ap is_some (no_place r)))

  -- ---- registers

  step_leaves : (f : Function) → Contains s f → (p : Part) → Contains (header_parts f) p → (image : List ℕ) → step q s k f image record { function = f; part = p } ≡ image
  step_leaves f listed p there image =
      let r : FunctionPart = record { function = f; part = p } in
      step_unwished q s k f r (ap (λ wished. wished r) wishless) image ∙ ap (λ o. shown k r o image) (no_place r)
      ∙ elim (cases_Bool (is_part q s f p)) [
        | inl part ↦
            let has = in_regions q s f p listed there part in
            ap (λ t. cond t (with_kept k r image) (closed_if_open f p image)) (keeps r has)
            ∙ ap (λ t. cond (is_same_range t (addresses r)) image (with_range f p t image)) (same r has)
            ∙ ap (λ t. cond t image (with_range f p (addresses r) image)) (itself (addresses r))
        | inr none ↦ not_open p none
      ]
    where
      itself : (r : Range) → is_same_range r r ≡ true
      itself r = and_from (r.first == r.first) (r.last == r.last) (eq-eqb r.first r.first refl) (eq-eqb r.last r.last refl)

      one_of : (b : Bool) (x : List ℕ) → cond b x x ≡ x
      one_of true x = refl
      one_of false x = refl

      goes : (p : Part) → is_part q s f p ≡ false → k.stays record { function = f; part = p } ≡ false
      goes p none = false_from_ne_true (k.stays record { function = f; part = p }) (λ is. both_ways (is_part q s f p) none (only record { function = f; part = p } listed is))

      not_open : (p : Part) → is_part q s f p ≡ false → cond (k.stays record { function = f; part = p }) (with_kept k record { function = f; part = p } image) (closed_if_open f p image) ≡ image
      not_open (Bar n) none = ap (λ t. cond (k.stays record { function = f; part = Bar n }) t image) (one_of (is_same_range (k.range record { function = f; part = Bar n }) (addresses record { function = f; part = Bar n })) image) ∙ one_of (k.stays record { function = f; part = Bar n }) image
      not_open Rom none = ap (λ t. cond (k.stays record { function = f; part = Rom }) t image) (one_of (is_same_range (k.range record { function = f; part = Rom }) (addresses record { function = f; part = Rom })) image) ∙ one_of (k.stays record { function = f; part = Rom }) image
      not_open (Window c) none =
          ap (λ t. cond t (with_kept k record { function = f; part = Window c } image) (closed_if_open f (Window c) image)) (goes (Window c) none)
          ∙ ap (λ t. cond t (with_bounds c (closed_bounds c (nibble_of c f)) image) image) none

  pub image_stays : (f : Function) → Contains s f → settled_image q s k f ≡ f.image
  image_stays f listed =
      fold_keeps (λ x. x ≡ f.image) (step q s k f) (changing q s f)
      (λ r has x now.
      let c : IsChanging q s k f r = changing_is q s k f r has in
      subst (λ (t : FunctionPart). step q s k f x t ≡ f.image) c.is (step_leaves f listed c.p c.there x ∙ now)) f.image refl
