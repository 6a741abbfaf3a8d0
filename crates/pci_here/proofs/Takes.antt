-- What is taken at one place more.
use Rattle.std.proofs.Common.{◌≡◌, ℕ, ◌+◌, ◌<◌, ◌↔◌, Bool, true, false, not, List, [], ◌∷◌, ◌++◌, length, get_or, set, Some, cond, sym, ◌∙◌, ap, subst, arith, true≢false}
use Rattle.std.specs.List.{Contains, count_by}
use Rattle.std.proofs.lemmas.Bool.{both_ways}
use Rattle.std.proofs.lemmas.List.{get_or-replicate, length-append}
use Rattle.std.proofs.lemmas.List.Sums.{sum_by_push}
use Rattle.pci_spec.specs.Slot.{IsRising}
use Rattle.pci_spec.specs.Stops.{IsAboveLast, last_slot}
use Rattle.pci_spec.specs.Text.{Block, slots_of}
use Rattle.pci_spec.specs.SizesText.{SizesBlock, sized_slots}
use Rattle.pci_spec.proofs.Fronts.{rising_more}
use Rattle.pci_spec.proofs.Members.{in_nil}
use Rattle.pci_here.specs.Place.{FunctionPlace}
use Rattle.pci_here.specs.Shown.{Shown}
use Rattle.pci_here.specs.Functions.{IsShownBlockAt, IsSizesAt, IsRootAt, IsFunctionTaken, is_no, is_physical_function}
use Rattle.pci_here.specs.Taken.{Among, AreFunctionsTaken, IsNoneTaken, is_virtual_function, is_yes}
use Rattle.pci_here.specs.declared.functions.Functions.{Functions}
use Rattle.pci_here.specs.declared.function.Function.{Function}
use Rattle.pci_here.proofs.Among.{among_none, list_same, list_more, flags_same, flags_more}
use Rattle.pci_here.proofs.Crowded.{slots_more}
use Rattle.pci_here.proofs.Only.{block_only, sizes_only, root_only}

pub none_taken : (m : Shown) (f : Functions) → IsNoneTaken f → AreFunctionsTaken m [] f
none_taken m f none = record {
  blocks = λ b. (λ has. absurd (in_nil b (subst (λ l. Contains l b) none.dump has)), λ a. absurd (among_none (IsShownBlockAt m) b a));
  sizes = λ s. (λ has. absurd (in_nil s (subst (λ l. Contains l s) none.sizes has)), λ a. absurd (among_none (IsSizesAt m) s a));
  roots = λ n small. (
    λ h. absurd (both_ways (get_or f.is_root n false) (ap (λ l. get_or l n false) none.roots ∙ get_or-replicate 256 n false false small) h),
    λ a. absurd (among_none (IsRootAt m) n a),
  );
  left_out = none.left_out;
  count = ap length none.dump;
  same_slots = ap sized_slots none.sizes ∙ sym (ap slots_of none.dump);
  rising = subst (λ l. IsRising (slots_of l)) (sym none.dump) (λ k few. absurd (omega (arith, few)));
}

not_own : (m : Shown) (p : FunctionPlace) → m.is_virtual p ≡ Some true → m.is_virtual p ≡ Some false → ⊥
not_own m p virtual own = true≢false (ap is_yes (sym virtual ∙ own))

counted : (m : Shown) (p : FunctionPlace) (b : Bool) (places : List FunctionPlace) → m.is_virtual p ≡ Some b
    → count_by (is_virtual_function m) (places ++ p ∷ []) ≡ count_by (is_virtual_function m) places + cond b 1 0
counted m p b places is = sum_by_push (λ q. cond (is_virtual_function m q) 1 0) places p ∙ ap (λ o. count_by (is_virtual_function m) places + cond (is_yes o) 1 0) is

own_counted : (m : Shown) (p : FunctionPlace) (b : Bool) (places : List FunctionPlace) → m.is_virtual p ≡ Some b
    → count_by (is_physical_function m) (places ++ p ∷ []) ≡ count_by (is_physical_function m) places + cond (not b) 1 0
own_counted m p b places is = sum_by_push (λ q. cond (is_physical_function m q) 1 0) places p ∙ ap (λ o. count_by (is_physical_function m) places + cond (is_no o) 1 0) is

-- a virtual function: nothing but the count changes
pub record IsCounted (f g : Functions) : Type 0 where
  pub dump : g.dump ≡ f.dump
  pub sizes : g.sizes ≡ f.sizes
  pub roots : g.is_root ≡ f.is_root
  pub left_out : g.left_out ≡ f.left_out + 1

pub virtual_taken : (m : Shown) (p : FunctionPlace) (places : List FunctionPlace) (f g : Functions) → m.is_virtual p ≡ Some true → IsCounted f g
    → AreFunctionsTaken m places f → AreFunctionsTaken m (places ++ p ∷ []) g
virtual_taken m p places f g virtual is was = record {
  blocks = subst (λ l. (b : Block) → Contains l b ↔ Among (IsShownBlockAt m) (places ++ p ∷ []) b) (sym is.dump)
      (list_same (IsShownBlockAt m) places p f.dump was.blocks (λ b at. not_own m p virtual at.own));
  sizes = subst (λ l. (s : SizesBlock) → Contains l s ↔ Among (IsSizesAt m) (places ++ p ∷ []) s) (sym is.sizes)
      (list_same (IsSizesAt m) places p f.sizes was.sizes (λ s at. not_own m p virtual at.own));
  roots = subst (λ l. (n : ℕ) → n < 256 → (get_or l n false ≡ true) ↔ Among (IsRootAt m) (places ++ p ∷ []) n) (sym is.roots)
      (flags_same (IsRootAt m) places p f.is_root was.roots (λ n at. not_own m p virtual at.own));
  left_out = is.left_out ∙ ap (λ n. n + 1) was.left_out ∙ sym (counted m p true places virtual);
  count = ap length is.dump ∙ was.count ∙ omega (arith, own_counted m p true places virtual);
  same_slots = ap sized_slots is.sizes ∙ was.same_slots ∙ sym (ap slots_of is.dump);
  rising = subst (λ l. IsRising (slots_of l)) (sym is.dump) was.rising;
}

-- a function of its own
pub record IsPut (f g : Functions) (x : Function) : Type 0 where
  pub dump : g.dump ≡ f.dump ++ x.block ∷ []
  pub sizes : g.sizes ≡ f.sizes ++ x.sizes ∷ []
  pub roots : g.is_root ≡ set f.is_root x.root true
  pub left_out : g.left_out ≡ f.left_out
  pub flags : length f.is_root ≡ 256
  pub small : x.root < 256
  pub above : IsAboveLast (last_slot f.dump) x.block.slot

pub function_taken : (m : Shown) (p : FunctionPlace) (places : List FunctionPlace) (f g : Functions) (x : Function) → IsFunctionTaken m p x → IsPut f g x
    → AreFunctionsTaken m places f → AreFunctionsTaken m (places ++ p ∷ []) g
function_taken m p places f g x at is was = record {
  blocks = subst (λ l. (b : Block) → Contains l b ↔ Among (IsShownBlockAt m) (places ++ p ∷ []) b) (sym is.dump)
      (list_more (IsShownBlockAt m) places p f.dump x.block was.blocks at.block (block_only m p x.block at.block));
  sizes = subst (λ l. (s : SizesBlock) → Contains l s ↔ Among (IsSizesAt m) (places ++ p ∷ []) s) (sym is.sizes)
      (list_more (IsSizesAt m) places p f.sizes x.sizes was.sizes at.sizes (sizes_only m p x.sizes at.sizes));
  roots = subst (λ l. (n : ℕ) → n < 256 → (get_or l n false ≡ true) ↔ Among (IsRootAt m) (places ++ p ∷ []) n) (sym is.roots)
      (flags_more (IsRootAt m) places p f.is_root x.root is.flags is.small was.roots at.root (root_only m p x.root at.root));
  left_out = is.left_out ∙ was.left_out ∙ omega (arith, counted m p false places at.block.own);
  count = omega (arith, ap length is.dump, length-append f.dump (x.block ∷ []), was.count, own_counted m p false places at.block.own);
  same_slots = ap sized_slots is.sizes ∙ slots_more f.dump f.sizes x.block x.sizes was.same_slots (at.sizes.slot ∙ sym at.block.slot) ∙ sym (ap slots_of is.dump);
  rising = subst (λ l. IsRising (slots_of l)) (sym is.dump) (rising_more f.dump x.block was.rising is.above);
}
