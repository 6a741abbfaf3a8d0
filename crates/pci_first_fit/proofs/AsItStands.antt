-- What stays as it stands: tables in which no window grows tell it.
use Rattle.std.proofs.Common.{◌≡◌, ℕ, suc, ◌<◌, ◌^◌, [], true, refl, ap, sym, subst, ◌∙◌, None}
use Rattle.std.specs.Option.{IfSome}
use Rattle.std.specs.List.{list_all}
use Rattle.std.proofs.lemmas.Bool.{and_parts}
use Rattle.pci_spec.specs.Window.{IoWindow, MemoryWindow, PrefetchWindow}
use Rattle.pci_spec.specs.System.{System, Part, Bar, Rom, Window}
use Rattle.plan_spec.specs.Plan.{bridges_above}
use Rattle.settle_spec.specs.Lists.{Request}
use Rattle.settle_spec.specs.Parts.{FunctionPart, addresses, class_in}
use Rattle.settle_spec.specs.Stands.{window_part, stands}
use Rattle.settle_spec.specs.Items.{has_room, holds_within, has_room_behind, stays, taken_by, place_in}
use Rattle.settle_spec.specs.Kept.{range_or, as_it_stands}
use Rattle.pci_base.specs.declared.window_kind.WindowKind.TheVariants as kinds
use Rattle.pci_first_fit.specs.declared.over.Left.{Left}
use Rattle.pci_first_fit.specs.Kept.{AreKeptParts}
use Rattle.pci_first_fit.specs.Tables.{AreForward}
use Rattle.pci_first_fit.specs.PlaceTables.{placed}
use Rattle.pci_first_fit.specs.Keeping.{grown_of, told_if_grown, TellsKept}

module _ (q : Request) (s : System) where
  stands_held : (depth : ℕ) (r : FunctionPart) → holds_within q s (suc depth) r ≡ true → stands q s r ≡ true
  unfolding holds_within
  stands_held depth r is = (and_parts (stands q s r) (has_room q s (holds_within q s depth) r.function r.part) is).0

  stays_stands : (r : FunctionPart) → stays q s r ≡ true → stands q s r ≡ true
  stays_stands r is =
      stands_held 255 r (and_parts (has_room_behind q s r) (list_all (λ b. has_room_behind q s (window_part (class_in q s r.function r.part) b)) (bridges_above s r.function.slot.bus)) is).0

  none_grown : (n : ℕ) (part : Part) → grown_of [] n part ≡ None
  none_grown n (Bar b) = refl
  none_grown n Rom = refl
  none_grown n (Window IoWindow) = refl
  none_grown n (Window MemoryWindow) = refl
  none_grown n (Window PrefetchWindow) = refl

  none_forward : AreForward []
  none_forward k kinds.Io = tt
  none_forward k kinds.Memory = tt
  none_forward k kinds.Prefetchable = tt

  module _ (left : Left) (none : left.grown.now ≡ []) where
    not_grown : (n : ℕ) (part : Part) → grown_of left.grown.now n part ≡ None
    not_grown n part = ap (λ t. grown_of t n part) none ∙ none_grown n part

    pub stands_told : AreKeptParts s (stays q s) left.kept.now → TellsKept q s (as_it_stands q s) left
    stands_told keeps = record {
      standing = stays_stands;
      stays_are = keeps;
      ranges_are = λ n f part at there is. sym (ap (λ o. range_or o (addresses record { function = f; part = part })) (not_grown n part));
      places_are = λ n m b i kept taken.
          sym (ap (λ o. told_if_grown o (placed left.places.now m i.region.part) (place_in (addresses (window_part i.class b)) i taken)) (not_grown n (Window i.class)));
      grown_stay = λ n f c at bridge. subst (λ o. IfSome o (λ _. stays q s (window_part c f) ≡ true)) (sym (not_grown n (Window c))) tt;
      forward = subst AreForward (sym none) none_forward;
      ends = λ n m b i kept.
          subst (λ o. IfSome o (λ _. IfSome (placed left.places.now m i.region.part) (λ a. (taken_by i a).last < 2 ^ 64))) (sym (not_grown n (Window i.class))) tt;
    }
