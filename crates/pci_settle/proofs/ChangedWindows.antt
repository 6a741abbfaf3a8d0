-- Which windows of a function change, and which of them are closed meanwhile, by its record and its images.
use Rattle.std.proofs.Common.{◌≡◌, List, ℕ, Bool, true, false, cond, ◌&&◌, ◌||◌, not, refl, sym, ◌∙◌, ap, Option, None, Some}
use Rattle.std.specs.Option.{is_some}
use Rattle.pci_spec.specs.Window.{WindowKind, IoWindow, MemoryWindow, PrefetchWindow}
use Rattle.pci_spec.specs.System.{System, Function, Window, is_bridge}
use Rattle.plan_spec.specs.Plan.{is_open}
use Rattle.settle_spec.specs.Lists.{Request}
use Rattle.settle_spec.specs.Stands.{window_part}
use Rattle.settle_spec.specs.Kept.{Kept, unwished}
use Rattle.settle_spec.specs.Keeping.Registers.{settled_function}
use Rattle.settle_spec.specs.Keeping.Writes.{changes_at, changes_window, is_replaced}
use Rattle.pci_base.specs.declared.window_kind.ByKind.{ByKind}
use Rattle.pci_image.specs.Windows.{window_of}
use Rattle.pci_function.specs.declared.record.Bridge.{Bridge}
use Rattle.pci_function.specs.declared.record.Record.{Record}
use Rattle.pci_tree.specs.Passes.{range_in}
use Rattle.pci_tree.proofs.Lifting.{same_bridge}
use Rattle.pci_place.specs.Records.{IsRecordInSystem}
use Rattle.pci_kept.proofs.OfRecord.{window_is as shown_window}
use Rattle.pci_settle_places.specs.Images.{is_staying_window}
use Rattle.pci_settle.specs.declared.way.ByClass.{ByClass}
use Rattle.pci_settle.specs.Shut.{in_class, flags_by_class, is_window_changed, changed_window}
use Rattle.pci_settle.proofs.Moving.{window_is}

some_if : {X : Type 0} (b : Bool) (x : X) → is_some (cond b (Some x) None) ≡ b
some_if true x = refl
some_if false x = refl

and_false : (a : Bool) → (a && false) ≡ false
and_false true = refl
and_false false = refl

-- what holds of each class
pub class_of_test : (test : WindowKind → Bool) (c : WindowKind) → in_class (flags_by_class test) c ≡ test c
class_of_test test IoWindow = refl
class_of_test test MemoryWindow = refl
class_of_test test PrefetchWindow = refl

pub same_classes : (o : ByClass) (test : WindowKind → Bool) → ((c : WindowKind) → in_class o c ≡ test c) → o ≡ flags_by_class test
same_classes o test same =
    let made : Bool → Bool → Bool → ByClass = λ io memory prefetchable. record { io = io; memory = memory; prefetchable = prefetchable } in
    ap (λ b. made b o.memory o.prefetchable) (same IoWindow) ∙ ap (λ b. made (test IoWindow) b o.prefetchable) (same MemoryWindow)
    ∙ ap (made (test IoWindow) (test MemoryWindow)) (same PrefetchWindow)

module _ (q : Request) (s : System) (keep : Kept) (f : Function) (r : Record) (is : IsRecordInSystem s f r) (old plain new : List ℕ)
    (old_is : old ≡ f.image) (plain_is : plain ≡ (settled_function q s (unwished keep) f).image) (new_is : new ≡ (settled_function q s keep f).image) where
  -- those of a bridge change as the definitions say
  pub changed_there : (b : Bridge) → r.bridge ≡ Some b → (c : WindowKind) → changed_window (Some b) old plain new c ≡ changes_window q s keep c f
  changed_there b some c =
      let changes : Bool = changes_at q s keep f (Window c) in
      let more : Bool = changes_at q s (unwished keep) f (Window c) in
      let opens : Bool = is_some (range_in (window_of b.windows c)) in
      ap (λ x. x && (not opens || is_window_changed c old plain)) (window_is q s keep f old new old_is new_is c)
      ∙ ap (λ x. changes && (not opens || x)) (window_is q s (unwished keep) f old plain old_is plain_is c)
      ∙ ap (λ x. changes && (not x || more)) (ap is_some (shown_window s f r b is some c) ∙ some_if (is_open f c) _)

  -- those that are closed are replaced
  pub closed_there : (kept : ByKind Bool) → (is_bridge f ≡ true → (c : WindowKind) → is_staying_window kept c ≡ keep.stays (window_part c f))
      → (c : WindowKind) → (not (is_staying_window kept c) && changed_window r.bridge old plain new c) ≡ is_replaced q s keep f c
  closed_there kept kept_is c = by r.bridge refl
    where
      by : (o : Option Bridge) → r.bridge ≡ o → (not (is_staying_window kept c) && changed_window o old plain new c) ≡ is_replaced q s keep f c
      by None e =
          let off : is_bridge f ≡ false = sym (same_bridge r f is.value) ∙ ap is_some e in
          and_false (not (is_staying_window kept c)) ∙ sym (ap (λ b. b && not (keep.stays (window_part c f)) && changes_window q s keep c f) off)
      by (Some b) e =
          let bridge : is_bridge f ≡ true = sym (same_bridge r f is.value) ∙ ap is_some e in
          ap (λ k. not k && changed_window (Some b) old plain new c) (kept_is bridge c)
          ∙ ap (λ x. not (keep.stays (window_part c f)) && x) (changed_there b e c)
          ∙ sym (ap (λ b. b && not (keep.stays (window_part c f)) && changes_window q s keep c f) bridge)
