-- The spare of a new window: its size and its alignment, and what is around it.
use Rattle.std.proofs.Common.{◌≡◌, ℕ, zero, suc, ◌+◌, ◌*◌, ◌/◌, ◌%◌, ◌^◌, ◌<◌, ◌≤◌, inl, inr, List, [], ◌∷◌, ◌++◌, length, drop, get_or, Bool, true, false, cond, ◌&&◌, ◌||◌, arith, refl, sym, ◌∙◌, ap, subst, Option, Some, None, SomeIff}
use Rattle.std.specs.Bool.{◌==◌, nat_lt}
use Rattle.std.specs.Int.{bit_at, w64, trailing_zeros}
use Rattle.std.specs.List.{Contains, list_any}
use Rattle.std.proofs.lemmas.Bool.{cases_eq, eq-eqb, false_from_ne_true, eqb-true}
use Rattle.std.proofs.lemmas.List.{at_drop_more}
use Rattle.std.proofs.lemmas.List.Elements.{Contains-append_left, Contains-append_right}
use Rattle.std.proofs.lemmas.Nat.{one_shl, pow-add, pow_pos}
use Rattle.std.proofs.lemmas.Nat.Bits.{bit_at-trailing_zeros}
use Rattle.std.proofs.Math.Arith.{mod-mul}
use Rattle.pci_spec.specs.Slot.{Slot, same_slot}
use Rattle.pci_spec.specs.Window.{WindowKind, IoWindow, MemoryWindow, PrefetchWindow, page_size}
use Rattle.pci_spec.specs.System.{Function, is_bridge}
use Rattle.pci_spec.proofs.Members.{in_head}
use Rattle.plan_spec.specs.Plan.{raised_to}
use Rattle.plan_spec.proofs.Planning.Room.{raised}
use Rattle.settle_spec.specs.FirstPlace.{Extent as ExtentValue}
use Rattle.settle_spec.specs.Lists.{Request, Spares, wanted_in}
use Rattle.settle_spec.specs.Spares.{doubled_in, power_in, spare_extent, spare_below, with_spare}
use Rattle.settle_spec.specs.Items.{extent_around}
use Rattle.pci_first_fit.specs.declared.slots.Slots.{Slots}
use Rattle.pci_first_fit.specs.Slots.{wanted_of, wanted_at, spare_by, spares_value}
use Rattle.pci_first_fit.specs.Windows.{IsAround, IsLargeSpare}
use Rattle.pci_first_fit.proofs.Marked.{around_large, some_page}

-- ---- slots

and_both : (a b c : Bool) → ((a && b) && c) ≡ (a && (b && c))
and_both true b c = refl
and_both false b c = refl

pub same_of : (s t : Slot) (b : Bool) → (s.bus == t.bus && (s.device == t.device && s.function == t.function)) ≡ b → same_slot s t ≡ b
same_of s t b e = and_both (s.bus == t.bus) (s.device == t.device) (s.function == t.function) ∙ e

-- one of some is looked for
module _ (slot : Slot) where
  pub slot_next : (xs : List Slot) (n : ℕ) (d : Slot) (all : Bool) → n < length xs → list_any (same_slot slot) (drop n xs) ≡ all → same_slot slot (get_or xs n d) ≡ false → list_any (same_slot slot) (drop (n + 1) xs) ≡ all
  slot_next xs n d all within is not =
      sym (ap (λ b. b || list_any (same_slot slot) (drop (n + 1) xs)) not) ∙ sym (at_drop_more (list_any (same_slot slot)) xs n d within) ∙ is

  pub slot_here : (xs : List Slot) (n : ℕ) (d : Slot) (all : Bool) → n < length xs → list_any (same_slot slot) (drop n xs) ≡ all → same_slot slot (get_or xs n d) ≡ true → true ≡ all
  slot_here xs n d all within is here =
      sym (ap (λ b. b || list_any (same_slot slot) (drop (n + 1) xs)) here) ∙ sym (at_drop_more (list_any (same_slot slot)) xs n d within) ∙ is

  pub slot_none : (xs : List Slot) (n : ℕ) (all : Bool) → length xs ≤ n → list_any (same_slot slot) (drop n xs) ≡ all → false ≡ all
  slot_none [] zero all past is = is
  slot_none [] (suc n) all past is = is
  slot_none (x ∷ xs) zero all past is = absurd (let no : ⊥ = omega (arith, past) in no)
  slot_none (x ∷ xs) (suc n) all past is = slot_none xs n all (omega (arith, past)) is

wanted_as : (w : Slots) (c : WindowKind) → wanted_in (spares_value w) c ≡ wanted_of w c
wanted_as w IoWindow = refl
wanted_as w MemoryWindow = refl
wanted_as w PrefetchWindow = refl

-- what is wanted behind a bridge is its spare
pub spare_is : (q : Request) (w : Slots) (c : WindowKind) (f : Function) (highest n : ℕ) → q.slots ≡ w.bridges.now → q.spares ≡ spares_value w → is_bridge f ≡ true → n ≡ wanted_at w f.slot c
    → spare_by c n highest ≡ spare_below q c f highest
spare_is q w c f highest n slots spares bridge is =
    ap (λ m. spare_by c m highest) is
    ∙ by (list_any (same_slot f.slot) w.bridges.now)
    ∙ sym (ap (λ b. cond ((list_any (same_slot f.slot) w.bridges.now && b) && nat_lt 0 (wanted_of w c)) (Some (spare_extent c (wanted_of w c) highest)) None) bridge)
    ∙ sym (ap (λ m. cond ((list_any (same_slot f.slot) w.bridges.now && is_bridge f) && nat_lt 0 m) (Some (spare_extent c m highest)) None) (ap (λ (x : Spares). wanted_in x c) spares ∙ wanted_as w c))
    ∙ sym (ap (λ bs. cond ((list_any (same_slot f.slot) bs && is_bridge f) && nat_lt 0 (wanted_in q.spares c)) (Some (spare_extent c (wanted_in q.spares c) highest)) None) slots)
  where
    by : (b : Bool) → spare_by c (cond b (wanted_of w c) 0) highest ≡ cond ((b && true) && nat_lt 0 (wanted_of w c)) (Some (spare_extent c (wanted_of w c) highest)) None
    by true = refl
    by false = refl

-- ---- its alignment

doubled_end : (n size : ℕ) → doubled_in n 0 size ≡ size
unfolding doubled_in
doubled_end n size = refl

doubled_step : (n times size : ℕ) → doubled_in n (suc times) size ≡ cond (n % (2 * size) == 0) (doubled_in n times (2 * size)) size
unfolding doubled_in
doubled_step n times size = refl

next_power : (j : ℕ) → 2 ^ (j + 1) ≡ 2 * 2 ^ j
next_power j = (let e = pow-add 2 j 1 in omega (arith, e))

module _ (n t : ℕ) (one : bit_at n t ≡ 1) (below : (i : ℕ) → i < t → bit_at n i ≡ 0) where
  doubled_to : (times j : ℕ) → j ≤ t → t ≤ j + times → n % 2 ^ j ≡ 0 → doubled_in n times (2 ^ j) ≡ 2 ^ t
  doubled_to zero j low high even = doubled_end n (2 ^ j) ∙ ap (λ k. 2 ^ k) (let e : j ≡ t = omega (arith, low, high) in e)
  doubled_to (suc times) j low high even =
      let pos : 0 < 2 ^ j = pow_pos j in
      let rest : n % (2 * 2 ^ j) ≡ (n / 2 ^ j % 2) * 2 ^ j + n % 2 ^ j = mod-mul n {m = 2} {c = 2 ^ j} (omega arith) pos in
      elim (cases_eq j t) [
        | inl same ↦
            let odd : n / 2 ^ j % 2 ≡ 1 = subst (λ k. bit_at n k ≡ 1) (sym same) one in
            let left : n % (2 * 2 ^ j) ≡ 2 ^ j = rest ∙ ap (λ m. m * 2 ^ j + n % 2 ^ j) odd ∙ ap (λ m. 1 * 2 ^ j + m) even ∙ (let e : 1 * 2 ^ j + 0 ≡ 2 ^ j = omega arith in e) in
            doubled_step n times (2 ^ j)
            ∙ ap (λ b. cond b (doubled_in n times (2 * 2 ^ j)) (2 ^ j)) (false_from_ne_true (n % (2 * 2 ^ j) == 0) (λ is. (let none = eqb-true (n % (2 * 2 ^ j)) 0 is in let no : ⊥ = omega (arith, none, left, pos) in no)))
            ∙ ap (λ k. 2 ^ k) same
        | inr differ ↦
            let off : n / 2 ^ j % 2 ≡ 0 = below j (omega (arith, low, differ)) in
            let none : n % (2 * 2 ^ j) ≡ 0 = rest ∙ ap (λ m. m * 2 ^ j + n % 2 ^ j) off ∙ ap (λ m. 0 * 2 ^ j + m) even ∙ (let e : 0 * 2 ^ j + 0 ≡ 0 = omega arith in e) in
            let more = next_power j in
            doubled_step n times (2 ^ j)
            ∙ ap (λ b. cond b (doubled_in n times (2 * 2 ^ j)) (2 ^ j)) (eq-eqb (n % (2 * 2 ^ j)) 0 none)
            ∙ ap (doubled_in n times) (sym more)
            ∙ doubled_to times (j + 1) (omega (arith, low, differ)) (omega (arith, high)) (ap (λ m. n % m) more ∙ none)
      ]

pub power_is : (n : ℕ) → 0 < n → n < 2 ^ 64 → power_in n ≡ 2 ^ trailing_zeros w64 n
power_is n some small =
    let lowest = bit_at-trailing_zeros w64 n some small in
    let low = lowest.0 in
    doubled_to n (trailing_zeros w64 n) lowest.1 lowest.2 64 0 (omega arith) (omega (arith, low)) (let e : n % 1 ≡ 0 = omega arith in e)

-- ---- the extent

module _ (c : WindowKind) (wanted highest page : ℕ) (some : 0 < wanted) (page_is : page ≡ page_size c) where
  -- whole pages have an address
  sized : 0 < raised_to page wanted
  sized = (let pos = some_page c in let from = (raised page wanted (omega (arith, pos, page_is))).from in omega (arith, from, some))

  module _ (o : Option ℕ) (told : SomeIff o (raised_to page wanted < 2 ^ 64) (raised_to page wanted)) (size : ℕ) (is : o ≡ Some size) where
    size_is : (raised_to page wanted < 2 ^ 64) × (size ≡ raised_to page wanted)
    size_is = subst (λ x. SomeIff x (raised_to page wanted < 2 ^ 64) (raised_to page wanted)) is told

    spare_some : 0 < size
    spare_some = let e = size_is.1 in let pos = sized in omega (arith, e, pos)

    spare_fits : size < 2 ^ 64
    spare_fits = let e = size_is.1 in let less = size_is.0 in omega (arith, e, less)

    shifted : 1 * 2 ^ trailing_zeros w64 size % 2 ^ 64 ≡ 2 ^ trailing_zeros w64 size
    shifted = one_shl (trailing_zeros w64 size) 64 (bit_at-trailing_zeros w64 size spare_some spare_fits).0

    pub spare_around : (alignment : ℕ) → alignment ≡ 1 * 2 ^ trailing_zeros w64 size % 2 ^ 64 → IsAround (spare_extent c wanted highest) (Some record { size = size; alignment = alignment; highest = highest })
    spare_around alignment alignment_is =
        let power : alignment ≡ power_in (raised_to (page_size c) wanted) =
        alignment_is ∙ shifted ∙ sym (power_is size spare_some spare_fits) ∙ ap power_in (size_is.1 ∙ ap (λ p. raised_to p wanted) page_is) in
        ap (λ n. record { size = n; alignment = alignment; highest = highest }) (size_is.1 ∙ ap (λ p. raised_to p wanted) page_is)
        ∙ ap (λ a. record { size = raised_to (page_size c) wanted; alignment = a; highest = highest }) power

-- ---- behind items

pub before_spare : (spare : Option ExtentValue) (extents : List ExtentValue) (e : ExtentValue) → Contains extents e → Contains (with_spare spare extents) e
before_spare None extents e listed = listed
before_spare (Some x) extents e listed = Contains-append_left extents (x ∷ []) e listed

-- a window with a spare of 2^64 addresses has as many
pub large_around : (page highest : ℕ) (spare : Option ExtentValue) (extents : List ExtentValue) → 0 < page → IsLargeSpare spare → 2 ^ 64 ≤ (extent_around page highest (with_spare spare extents)).size
large_around page highest None extents pos large = absurd large
large_around page highest (Some x) extents pos large = around_large page highest (2 ^ 64) (extents ++ x ∷ []) x pos (Contains-append_right extents (x ∷ []) x (in_head x [])) large
