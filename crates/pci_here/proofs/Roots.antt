-- The root buses, from the flags of the host buses.
use Rattle.std.proofs.Common.{◌≡◌, ℕ, zero, suc, ◌+◌, ◌<◌, ◌≤◌, ◌↔◌, Bool, true, false, cond, not, List, [], ◌∷◌, ◌++◌, length, get_or, Option, None, Some, IsSome, IfSome, MatchOption, refl, sym, ◌∙◌, ap, subst, arith}
use Rattle.std.specs.List.{All, Contains, filter, range_with_len}
use Rattle.std.specs.List.Sorted.{IsStrictlyIncreasing}
use Rattle.std.proofs.lemmas.Bool.{false≢true}
use Rattle.std.proofs.lemmas.List.Elements.{filter-append, All-contains_itself}
use Rattle.std.proofs.lemmas.List.Filters.{length-filter_both}
use Rattle.std.proofs.lemmas.List.FromFn.{length-range_with_len}
use Rattle.pci_spec.proofs.Members.{in_nil}
use Rattle.pci_tree.specs.Roots.{buses_of, set_in, IsRootList}
use Rattle.pci_tree.specs.declared.roots.Roots.{Roots}
use Rattle.pci_tree.proofs.RootLists.{in_set_to, in_set_from, set_small, set_rises}
use Rattle.pci_here.specs.Place.{FunctionPlace}
use Rattle.pci_here.specs.Shown.{Shown}
use Rattle.pci_here.specs.Functions.{IsRootAt, IsFunctionRead, IsFunctionReadable}
use Rattle.pci_here.specs.Taken.{Among, AreFunctionsTaken}
use Rattle.pci_here.specs.declared.function.Function.{Function}
use Rattle.pci_here.specs.declared.functions.Functions.{Functions}

-- the buses below n whose flags are set
abbrev pub set_below : List Bool → ℕ → List ℕ
set_below flags n = filter (λ bus. get_or flags bus false) (range_with_len 0 n)

range_more : (a n : ℕ) → range_with_len a (suc n) ≡ range_with_len a n ++ (a + n) ∷ []
range_more a zero = let e : a ≡ a + 0 = omega arith in ap (λ x. x ∷ []) e
range_more a (suc n) =
    let e : a + 1 + n ≡ a + suc n = omega arith in
    ap (λ t. a ∷ t) (range_more (a + 1) n ∙ ap (λ x. range_with_len (a + 1) n ++ x ∷ []) e)

-- one bus more
pub below_next : (flags : List Bool) (n : ℕ) → set_below flags (n + 1) ≡ set_below flags n ++ cond (get_or flags n false) (n ∷ []) []
below_next flags n =
    let e : n + 1 ≡ suc n = omega arith in
    let last : 0 + n ≡ n = omega arith in
    ap (λ k. set_below flags k) e ∙ ap (λ t. filter (λ bus. get_or flags bus false) t) (range_more 0 n ∙ ap (λ x. range_with_len 0 n ++ x ∷ []) last)
    ∙ filter-append (λ bus. get_or flags bus false) (range_with_len 0 n) (n ∷ [])

-- there are no more of them than buses
pub below_few : (flags : List Bool) (n : ℕ) → length (set_below flags n) ≤ n
below_few flags n =
    omega (arith, length-filter_both (λ bus. get_or flags bus false) (λ bus. not (get_or flags bus false)) (λ bus. refl) (range_with_len 0 n), length-range_with_len 0 n)

pub below_all : (flags : List Bool) (n : ℕ) → n ≡ 256 → set_below flags n ≡ set_in flags
unfolding set_in
below_all flags n e = ap (λ k. set_below flags k) e

pub rising_set : (flags : List Bool) → IsStrictlyIncreasing (set_in flags)
rising_set flags = λ k inside. set_rises flags k (k + 1) 0 (omega arith) inside

-- flags that make no list of roots are none
pub none_set : (flags : List Bool) → (IsRootList (set_in flags) → ⊥) → (buses : List ℕ) → buses ≡ set_in flags → buses ≡ []
none_set flags no_list [] is = refl
none_set flags no_list (b ∷ buses) is =
    absurd (no_list record { some = subst (λ l. 0 < length l) is (omega arith); rising = rising_set flags })

-- what is made of the buses whose flags are set
pub roots_there : (flags : List Bool) (buses : List ℕ) (made : Option Roots) → buses ≡ set_in flags → (IsSome made ↔ IsRootList buses)
    → IfSome made (λ roots. buses_of roots ≡ buses) → MatchOption made (set_in flags ≡ []) (λ roots. buses_of roots ≡ set_in flags)
roots_there flags buses None is some of = sym is ∙ none_set flags (λ list. false≢true (some.1 (subst IsRootList (sym is) list))) buses is
roots_there flags buses (Some roots) is some of = of ∙ is

root_small : (m : Shown) (p : FunctionPlace) (n : ℕ) → IsRootAt m p n → n < 256
root_small m p n at = omega (arith, at.is.of, at.is.is.is.below)

pub roots_are : (m : Shown) (places : List FunctionPlace) (f : Functions) (buses : List ℕ) → buses ≡ set_in f.is_root → AreFunctionsTaken m places f
    → (n : ℕ) → Contains buses n ↔ Among (IsRootAt m) places n
roots_are m places f buses is taken n = (
  λ has. (let inside : Contains (set_in f.is_root) n = subst (λ l. Contains l n) is has in
      (taken.roots n (set_small f.is_root n inside)).0 (in_set_to f.is_root n inside)),
  λ a. (let small : n < 256 = root_small m a.0 n a.2 in
      subst (λ l. Contains l n) (sym is) (in_set_from f.is_root n small ((taken.roots n small).1 a))),
)

-- where there is no root bus, the functions that can be read are virtual
virtual_read : (m : Shown) (places : List FunctionPlace) (f : Functions) (p : FunctionPlace) → AreFunctionsTaken m places f → set_in f.is_root ≡ [] → Contains places p
    → (read : Option Function) → IsFunctionRead m p read → m.is_virtual p ≡ Some true
virtual_read m places f p taken none has None is = is
virtual_read m places f p taken none has (Some g) is =
    let small : g.root < 256 = root_small m p g.root is.root in
    let set : get_or f.is_root g.root false ≡ true = (taken.roots g.root small).1 (p, has, is.root) in
    absurd (in_nil g.root (subst (λ l. Contains l g.root) none (in_set_from f.is_root g.root small set)))

pub all_virtual : (m : Shown) (places : List FunctionPlace) (f : Functions) → AreFunctionsTaken m places f → set_in f.is_root ≡ [] → All (IsFunctionReadable m) places
    → All (λ p. m.is_virtual p ≡ Some true) places
all_virtual m places f taken none readable = λ k d inside.
    virtual_read m places f (get_or places k d) taken none (All-contains_itself places k d inside) (readable k d inside).0 (readable k d inside).1
