-- What has no place in I/O is found with the lists of I/O alone.
use Rattle.std.proofs.Common.{◌≡◌, ℕ, inl, inr, List, [], ◌∷◌, length, true, false, arith, refl, sym, ◌∙◌, ap, subst, ◌^◌, ◌≤◌, Option, None, Some}
use Rattle.std.specs.Bool.{◌==◌}
use Rattle.std.specs.List.{Contains}
use Rattle.std.proofs.lemmas.Bool.{eqb-true}
use Rattle.std.proofs.lemmas.Option.{none-some, same_Some}
use Rattle.pci_spec.specs.Window.{WindowKind, IoWindow, MemoryWindow, PrefetchWindow}
use Rattle.pci_spec.specs.System.{System, Space, Io, Memory, window_space}
use Rattle.plan_spec.specs.Plan.{same_class}
use Rattle.plan_spec.proofs.Planning.PlacedItems.{same_class_is}
use Rattle.settle_spec.specs.FirstPlace.{Extent}
use Rattle.settle_spec.specs.Lists.{Request}
use Rattle.settle_spec.specs.Items.{PlacingItem, Placing, AllPlaced, Lacks}
use Rattle.settle_spec.specs.Places.{first_lack}
use Rattle.settle_spec.specs.Kept.{Kept, as_it_stands}
use Rattle.settle_spec.specs.Keeping.Places.{placing_on, space_items, lacking_on, lacking}
use Rattle.pci_settle_places.proofs.Parts.{each_in}
use Rattle.settle_laws.proofs.IoAlone.{io_alone, placing_alone, standing_alike, has_alone, window_alone}
use Rattle.pci_base.specs.declared.memory.Refused.{Refused}
use Rattle.pci_base.specs.declared.memory.Refused.TheVariants as refused
use Rattle.pci_base.specs.WindowKinds.{kind_value}
use Rattle.pci_tree.specs.Admission.{Admission}
use Rattle.pci_place.specs.Above.{system_in}
use Rattle.pci_place.specs.Items.{function_in}
use Rattle.pci_first_fit.specs.Slots.{Demand, demand_of}
use Rattle.pci_first_fit.specs.NewWindows.{IsTooLarge}
use Rattle.pci_settle_places.specs.declared.anew.Unplaced.{Unplaced}
use Rattle.pci_settle_places.specs.declared.anew.Unplaced.TheVariants as unplaced
use Rattle.pci_settle_places.specs.Candidates.{candidate_value}
use Rattle.pci_first_fit.specs.declared.over.Left.{Left}
use Rattle.pci_settle_places.specs.Placed.{IsFirstWindowTooLarge, IsLeaving, CanBeLeft, IsUnplacedOff}
use Rattle.pci_kept.specs.declared.windows.TooLarge.{TooLarge}
use Rattle.pci_settle.specs.declared.lack.SettleFault.{SettleFault}
use Rattle.pci_settle.specs.declared.lack.SettleFault.TheVariants as fault
use Rattle.pci_settle.specs.Lacks.{IsSettleFaultOf, too_large, unplaced_class}
use Rattle.pci_settle.specs.Endings.{IsLack, IsLargeInIo}
use Rattle.settle_spec.specs.Writes.{or_lack}
use Rattle.pci_settle_places.specs.Spaces.{space_lack}
use Rattle.pci_settle.proofs.Lacking.{first_cases, space_has}

of_space : (q : Request) (s : System) (keep : Kept) (space : Space) (bus : ℕ) (i : PlacingItem) → Contains (space_items q s keep space bus) i → window_space i.class ≡ space
of_space q s keep space bus i listed = each_in q s keep space bus (λ x. window_space x.class ≡ space) (λ c of f on part is. of) (λ c of f on is. of) i listed

lack_space : (q : Request) (s : System) (keep : Kept) (space : Space) (root : ℕ) (i : PlacingItem) → first_lack (placing_on q s keep space root) None ≡ Some i → window_space i.class ≡ space
lack_space q s keep space root i e = elim (first_cases (placing_on q s keep space root) None i e) [
  | inl lacks ↦ of_space q s keep space root i (space_has q s keep space root i lacks)
  | inr none ↦ absurd (none-some i none)
]

only : (p : Placing) (other : Option PlacingItem) (i : PlacingItem) → first_lack p None ≡ Some i → first_lack p other ≡ Some i
only (AllPlaced placed) other i some = absurd (none-some i some)
only (Lacks j) other i some = some

none_first : (p : Placing) (other : Option PlacingItem) → first_lack p other ≡ None → first_lack p None ≡ None
none_first (AllPlaced placed) other none = refl
none_first (Lacks j) other none = none

module _ (q : Request) (s : System) (keep : Kept) where
  io_lacks : (roots : List ℕ) (i : PlacingItem) → space_lack q s keep Io roots ≡ Some i → (lacking_on q s keep roots ≡ Some i) × (window_space i.class ≡ Io)
  io_lacks [] i e = absurd (none-some i e)
  io_lacks (root ∷ roots) i e = (only (placing_on q s keep Io root) (first_lack (placing_on q s keep Memory root) None) i e, lack_space q s keep Io root i e)

  pub io_has : (roots : List ℕ) → lacking_on q s keep roots ≡ None → space_lack q s keep Io roots ≡ None
  io_has [] none = refl
  io_has (root ∷ roots) none = none_first (placing_on q s keep Io root) (first_lack (placing_on q s keep Memory root) None) none

  -- the first item that lacks a place is of I/O
  io_is : (roots : List ℕ) (i : PlacingItem) → lacking_on q s keep roots ≡ Some i → window_space i.class ≡ Io → space_lack q s keep Io roots ≡ Some i
  io_is [] i e io = absurd (none-some i e)
  io_is (root ∷ roots) i e io = elim (first_cases (placing_on q s keep Io root) (first_lack (placing_on q s keep Memory root) None) i e) [
    | inl lacks ↦ ap (λ p. first_lack p None) lacks
    | inr memory ↦ absurd (let both : Io ≡ Memory = sym io ∙ lack_space q s keep Memory root i memory in let no : ⊥ = cc in no)
  ]

  -- it isn't
  io_free_by : (roots : List ℕ) (i : PlacingItem) → lacking_on q s keep roots ≡ Some i → (window_space i.class ≡ Io → ⊥) → (o : Option PlacingItem) → space_lack q s keep Io roots ≡ o → space_lack q s keep Io roots ≡ None
  io_free_by roots i e memory None at = at
  io_free_by roots i e memory (Some j) at =
      let is = io_lacks roots j at in
      let same : i ≡ j = same_Some i j (sym e ∙ is.0) in
      absurd (memory (ap (λ (x : PlacingItem). window_space x.class) same ∙ is.1))

  io_free : (roots : List ℕ) (i : PlacingItem) → lacking_on q s keep roots ≡ Some i → (window_space i.class ≡ Io → ⊥) → space_lack q s keep Io roots ≡ None
  io_free roots i e memory = io_free_by roots i e memory (space_lack q s keep Io roots) refl

module _ (q : Request) (s : System) where
  abbrev alone : Kept
  alone = as_it_stands (io_alone q) s

  abbrev all : Kept
  all = as_it_stands q s

  space_alone : (roots : List ℕ) → space_lack (io_alone q) s alone Io roots ≡ space_lack q s all Io roots
  space_alone [] = refl
  space_alone (root ∷ roots) = ap (λ p. first_lack p None) (placing_alone q s alone all (standing_alike q s) root)

  -- the same of all lists
  pub alone_free : space_lack (io_alone q) s alone Io q.roots ≡ None → space_lack q s all Io q.roots ≡ None
  alone_free none = sym (space_alone q.roots) ∙ none

  pub alone_placed : lacking (io_alone q) s alone ≡ None → space_lack q s all Io q.roots ≡ None
  alone_placed none = alone_free (io_has (io_alone q) s alone q.roots none)

  pub alone_memory : (i : PlacingItem) → lacking (io_alone q) s alone ≡ Some i → (window_space i.class ≡ Io → ⊥) → space_lack q s all Io q.roots ≡ None
  alone_memory i e memory = alone_free (io_free (io_alone q) s alone q.roots i e memory)

  pub alone_lacks : (i : PlacingItem) → lacking (io_alone q) s alone ≡ Some i → window_space i.class ≡ Io → lacking q s all ≡ Some i
  alone_lacks i e io = (io_lacks q s all q.roots i (sym (space_alone q.roots) ∙ io_is (io_alone q) s alone q.roots i e io)).0

-- a new window of I/O is as large by all lists
pub large_by_all : (q : Request) (s : System) (k : ℕ) → IsTooLarge (io_alone q) s IoWindow k → IsTooLarge q s IoWindow k
large_by_all q s k is = record {
  within = is.within;
  bridge = is.bridge;
  behind = sym (has_alone q s (function_in s k)) ∙ is.behind;
  large = subst (λ (e : Extent). 2 ^ 64 ≤ e.size) (window_alone q s (function_in s k)) is.large;
}

-- the first that can't be placed in the lists of I/O alone
abbrev pub IsAlone : Request → System → Unplaced → Type 0
IsAlone q s (unplaced.Lacks x) = lacking (io_alone q) s (as_it_stands (io_alone q) s) ≡ Some (candidate_value s x)
IsAlone q s (unplaced.TooLarge class k) = IsFirstWindowTooLarge (io_alone q) s (as_it_stands (io_alone q) s) (kind_value class) k

pub class_io : (c : WindowKind) → same_class c IoWindow ≡ true → c ≡ IoWindow
class_io c is = sym (same_class_is c IoWindow is)

pub class_memory : (c : WindowKind) → same_class c IoWindow ≡ false → window_space c ≡ Memory
class_memory IoWindow off = absurd (let no : ⊥ = cc in no)
class_memory MemoryWindow off = refl
class_memory PrefetchWindow off = refl

no_io : (c : WindowKind) → window_space c ≡ Memory → window_space c ≡ Io → ⊥
no_io c memory io = let both : Io ≡ Memory = sym io ∙ memory in cc

-- where it isn't of I/O, nothing of I/O lacks a place
pub alone_room : (q : Request) (s : System) (u : Unplaced) → IsAlone q s u → window_space (kind_value (unplaced_class u)) ≡ Memory → space_lack q s (as_it_stands q s) Io q.roots ≡ None
alone_room q s (unplaced.Lacks x) is memory = alone_memory q s (candidate_value s x) is (no_io (kind_value x.class) memory)
alone_room q s (unplaced.TooLarge class k) is memory = alone_free q s (is.io memory)

-- and where it is, it is what has no place
pub alone_fault : (a : Admission) (q : Request) (u : Unplaced) (f : SettleFault) → IsAlone q (system_in a) u → kind_value (unplaced_class u) ≡ IoWindow → IsSettleFaultOf (system_in a) u f → IsLack a q (as_it_stands q (system_in a)) (refused.Fault f)
alone_fault a q (unplaced.Lacks x) fault.BadLists is io of = absurd of
alone_fault a q (unplaced.Lacks x) (fault.Assumed slot reg) is io of = absurd of
alone_fault a q (unplaced.Lacks x) (fault.TooLarge class slot) is io of = absurd of
alone_fault a q (unplaced.Lacks x) (fault.Fixed slot reg) is io of = absurd of
alone_fault a q (unplaced.Lacks x) (fault.Told slot line) is io of = absurd of
alone_fault a q (unplaced.Lacks x) (fault.NoRoom lack) is io of = λ other.
    ap (λ o. or_lack o other) (alone_lacks q (system_in a) (candidate_value (system_in a) x) is (ap window_space io)) ∙ of other
alone_fault a q (unplaced.TooLarge class k) fault.BadLists is io of = absurd of
alone_fault a q (unplaced.TooLarge class k) (fault.Assumed slot reg) is io of = absurd of
alone_fault a q (unplaced.TooLarge class k) (fault.NoRoom lack) is io of = absurd of
alone_fault a q (unplaced.TooLarge class k) (fault.Fixed slot reg) is io of = absurd of
alone_fault a q (unplaced.TooLarge class k) (fault.Told slot line) is io of = absurd of
alone_fault a q (unplaced.TooLarge class k) (fault.TooLarge name slot) is io of =
    let named : kind_value name ≡ IoWindow = ap kind_value of.0 ∙ io in
    let large = large_by_all q (system_in a) k (subst (λ c. IsTooLarge (io_alone q) (system_in a) c k) io is.large) in (
      record { function = k; is = of.1; large = subst (λ c. IsTooLarge q (system_in a) c k) (sym named) large },
      λ memory. absurd (let both : Io ≡ Memory = sym (ap window_space named) ∙ memory in let no : ⊥ = cc in no),
    )

-- a new window of I/O is too large
pub alone_large : (a : Admission) (q : Request) (e : Refused SettleFault) → IsLargeInIo a (io_alone q) e → IsLack a q (as_it_stands q (system_in a)) e
alone_large a q refused.Memory is = tt
alone_large a q (refused.Fault fault.BadLists) is = absurd is
alone_large a q (refused.Fault (fault.Assumed slot reg)) is = absurd is
alone_large a q (refused.Fault (fault.NoRoom lack)) is = absurd is
alone_large a q (refused.Fault (fault.Fixed slot reg)) is = absurd is
alone_large a q (refused.Fault (fault.Told slot line)) is = absurd is
alone_large a q (refused.Fault (fault.TooLarge class slot)) is =
    let at = is.1 in (
      record {
        function = at.function;
        is = at.is;
        large = subst (λ c. IsTooLarge q (system_in a) c at.function) (sym is.0) (large_by_all q (system_in a) at.function at.large);
      },
      λ memory. absurd (let both : Io ≡ Memory = sym (ap window_space is.0) ∙ memory in let no : ⊥ = cc in no),
    )

pub large_in_io : (a : Admission) (q : Request) (w : TooLarge) (f : SettleFault) → (kind_value w.class ≡ IoWindow) × IsTooLarge q (system_in a) IoWindow w.function → IsSettleFaultOf (system_in a) (too_large w) f
    → IsLargeInIo a q (refused.Fault f)
large_in_io a q w fault.BadLists is of = absurd of
large_in_io a q w (fault.Assumed slot reg) is of = absurd of
large_in_io a q w (fault.NoRoom lack) is of = absurd of
large_in_io a q w (fault.Fixed slot reg) is of = absurd of
large_in_io a q w (fault.Told slot line) is of = absurd of
large_in_io a q w (fault.TooLarge name slot) is of = (ap kind_value of.0 ∙ is.0, record { function = w.function; is = of.1; large = is.1 })

-- lists that are those of I/O alone
module _ (roots : List ℕ) (s : System) (left : Left) {d x : Demand} (same : x ≡ d) where
  pub can_alone : CanBeLeft roots s d left → CanBeLeft roots s x left
  can_alone can = subst (λ y. CanBeLeft roots s y left) (sym same) can

  pub leaving_alone : (q : Request) (keep : Kept) → IsLeaving q keep roots s d left → IsLeaving q keep roots s x left
  leaving_alone q keep leaving = subst (λ y. IsLeaving q keep roots s y left) (sym same) leaving

  pub unplaced_alone : (e : Refused Unplaced) → IsUnplacedOff roots s x left e → IsUnplacedOff roots s d left e
  unplaced_alone e is = subst (λ y. IsUnplacedOff roots s y left e) same is

-- whatever leaves what stays by the lists of I/O alone
pub is_alone : (q : Request) (s : System) (left : Left) → IsLeaving (io_alone q) (as_it_stands (io_alone q) s) q.roots s (demand_of (io_alone q)) left → (u : Unplaced) → IsUnplacedOff q.roots s (demand_of (io_alone q)) left (refused.Fault u) → IsAlone q s u
is_alone q s left leaving (unplaced.Lacks x) is = is (io_alone q) (as_it_stands (io_alone q) s) leaving
is_alone q s left leaving (unplaced.TooLarge class k) is = is (io_alone q) (as_it_stands (io_alone q) s) leaving

pub empty_if : {X : Type 0} (xs : List X) → (length xs == 0) ≡ true → xs ≡ []
empty_if [] is = refl
empty_if (x ∷ xs) is = absurd (let none : length (x ∷ xs) ≡ 0 = eqb-true (length (x ∷ xs)) 0 is in let no : ⊥ = omega (arith, none) in no)
