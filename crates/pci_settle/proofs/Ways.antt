-- What is above each bus, in one pass over the records in slot order.
use Rattle.std.proofs.Common.{◌≡◌, ℕ, List, [], ◌∷◌, Bool, true, false, ◌&&◌, ◌||◌, not, refl, sym, ◌∙◌, ap}
use Rattle.std.specs.List.{Contains, list_any, list_all}
use Rattle.pci_spec.specs.Window.{WindowKind, IoWindow, MemoryWindow, PrefetchWindow}
use Rattle.pci_spec.specs.System.{System, Function, Space, Io, Memory, IsSystem, is_bridge, is_space_on}
use Rattle.pci_spec.specs.Bus.{secondary, IsNested}
use Rattle.plan_spec.specs.Plan.{bridges_above}
use Rattle.plan_spec.proofs.Planning.AboveBuses.{all_above, all_above_root}
use Rattle.settle_spec.specs.Lists.{Request}
use Rattle.settle_spec.specs.Kept.{Kept}
use Rattle.settle_spec.specs.Keeping.Writes.{changes_window, is_shut_itself}
use Rattle.pci_base.specs.Space.{is_on}
use Rattle.pci_function.specs.declared.record.Record.{Record}
use Rattle.pci_place.specs.Records.{IsRecordInSystem}
use Rattle.pci_settle_places.proofs.KeptClaims.{on_is}
use Rattle.pci_settle.specs.declared.way.BySpace.{BySpace}
use Rattle.pci_settle.specs.declared.way.ByClass.{ByClass}
use Rattle.pci_settle.specs.declared.way.Way.{Way}
use Rattle.pci_settle.specs.Shut.{IsWay, flag_in_space, in_class}

-- ---- tests of all and of some

pub not_all : {X : Type 0} (p : X → Bool) (xs : List X) → not (list_all p xs) ≡ list_any (λ x. not (p x)) xs
not_all p [] = refl
not_all p (x ∷ xs) = elim (p x) as (λ b. not (b && list_all p xs) ≡ (not b || list_any (λ y. not (p y)) xs)) [
  | true ↦ not_all p xs
  | false ↦ refl
]

pub not_none : {X : Type 0} (p : X → Bool) (xs : List X) → not (list_all (λ x. not (p x)) xs) ≡ list_any p xs
not_none p [] = refl
not_none p (x ∷ xs) = elim (p x) as (λ b. not (not b && list_all (λ y. not (p y)) xs) ≡ (b || list_any p xs)) [
  | true ↦ refl
  | false ↦ not_none p xs
]

-- ---- spaces and classes

pub by_spaces : (P : Space → Type 0) → P Io → P Memory → (x : Space) → P x
by_spaces P io memory Io = io
by_spaces P io memory Memory = memory

pub by_classes : (P : WindowKind → Type 0) → P IoWindow → P MemoryWindow → P PrefetchWindow → (c : WindowKind) → P c
by_classes P io memory prefetch IoWindow = io
by_classes P io memory prefetch MemoryWindow = memory
by_classes P io memory prefetch PrefetchWindow = prefetch

abbrev pub all_spaces : BySpace
all_spaces = record { io = true; memory = true }

abbrev pub all_classes : ByClass
all_classes = record { io = true; memory = true; prefetchable = true }

abbrev pub no_way : Way
no_way = record { on = all_spaces; clear = all_spaces; same = all_classes }

each_space : (x : Space) → flag_in_space all_spaces x ≡ true
each_space Io = refl
each_space Memory = refl

each_class : (c : WindowKind) → in_class all_classes c ≡ true
each_class IoWindow = refl
each_class MemoryWindow = refl
each_class PrefetchWindow = refl

-- ---- the bus behind a bridge

-- one more bridge is above it than above the bridge's own bus
module _ (roots : List ℕ) (s : System) (system : IsSystem s) (nested : IsNested roots s) where
  pub one_more : (f : Function) → Contains s f → is_bridge f ≡ true → (test : Function → Bool) (old here all : Bool) → old ≡ list_all test (bridges_above s f.slot.bus) → here ≡ test f → all ≡ (old && here)
      → all ≡ list_all test (bridges_above s (secondary f))
  one_more f listed bridge test old here all e_old e_here e_all =
      e_all ∙ ap (λ x. x && here) e_old ∙ ap (λ x. list_all test (bridges_above s f.slot.bus) && x) e_here ∙ sym (all_above roots s system nested test f listed bridge)

module _ (roots : List ℕ) (q : Request) (s : System) (keep : Kept) (system : IsSystem s) (nested : IsNested roots s) where
  pub on_root : (bus : ℕ) → Contains roots bus → IsWay q s keep bus no_way
  on_root bus root = record {
    on = λ x. each_space x ∙ sym (all_above_root roots s system nested (λ b. is_space_on b x) bus root);
    clear = λ x. each_space x ∙ sym (all_above_root roots s system nested (λ b. not (is_shut_itself q s keep x b)) bus root);
    same = λ c. each_class c ∙ sym (all_above_root roots s system nested (λ b. not (changes_window q s keep c b)) bus root);
  }

  pub behind_bridge : (f : Function) (r : Record) (is : IsRecordInSystem s f r) → is_bridge f ≡ true → (way new : Way) (shut : BySpace) (changed : ByClass) → IsWay q s keep f.slot.bus way
      → ((x : Space) → flag_in_space shut x ≡ is_shut_itself q s keep x f) → ((c : WindowKind) → in_class changed c ≡ changes_window q s keep c f)
      → ((x : Space) → flag_in_space new.on x ≡ (flag_in_space way.on x && is_on r.command x)) → ((x : Space) → flag_in_space new.clear x ≡ (flag_in_space way.clear x && not (flag_in_space shut x)))
      → ((c : WindowKind) → in_class new.same c ≡ (in_class way.same c && not (in_class changed c))) → IsWay q s keep (secondary f) new
  behind_bridge f r is bridge way new shut changed at shut_is changed_is on clear stay = record {
    on = λ x. one_more roots s system nested f is.listed bridge (λ b. is_space_on b x) (flag_in_space way.on x) (is_on r.command x) (flag_in_space new.on x) (at.on x) (on_is s f r is x) (on x);
    clear = λ x. one_more roots s system nested f is.listed bridge (λ b. not (is_shut_itself q s keep x b)) (flag_in_space way.clear x) (not (flag_in_space shut x)) (flag_in_space new.clear x) (at.clear x) (ap not (shut_is x)) (clear x);
    same = λ c. one_more roots s system nested f is.listed bridge (λ b. not (changes_window q s keep c b)) (in_class way.same c) (not (in_class changed c)) (in_class new.same c) (at.same c) (ap not (changed_is c)) (stay c);
  }
