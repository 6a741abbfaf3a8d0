-- What a BAR or ROM claims hangs on its own registers, and what a bridge forwards on what its windows hold.
use Rattle.std.proofs.Common.{◌≡◌, ℕ, ◌+◌, ◌*◌, ◌/◌, ◌^◌, ◌<◌, ◌≤◌, ◌⊎◌, inl, inr, List, [], ◌∷◌, refl, Bool, true, false, ◌&&◌, arith, sym, ◌∙◌, ap, subst}
use Rattle.std.specs.Bool.{nat_le, nat_lt, ◌==◌, if◌then◌else◌}
use Rattle.std.specs.List.{Contains, list_any}
use Rattle.std.specs.Int.{bit_at}
use Rattle.std.proofs.lemmas.Bool.{and_parts, and_from, or_cases, or_left, or_right, or_from, both_ways, ltb-true, and_left, and_right, le-ltb, lt-leb}
use Rattle.pci_spec.specs.Number.{byte_at, number_at, has_bit, IsImage}
use Rattle.pci_spec.specs.Slot.{Slot}
use Rattle.pci_spec.specs.Registers.{COMMAND, IO_BASE, IO_BASE_UPPER, MEMORY_BASE, PREFETCHABLE_BASE, PREFETCHABLE_LIMIT_UPPER}
use Rattle.pci_spec.specs.Header.{command, layout, bar_count, bar_register, rom_register, is_in_register}
use Rattle.pci_spec.specs.Bar.{bar_at, bar_kind, is_wide, whole_bar, Answers}
use Rattle.pci_spec.specs.Rom.{rom_at, rom_is_on, is_rom_size}
use Rattle.pci_spec.specs.Window.{WindowKind, IoWindow, MemoryWindow, PrefetchWindow, Bounds, bounds_at, has_window, holds, lower_pages, page_size}
use Rattle.pci_spec.specs.System.{Function, Space, Io, Memory, Part, Bar, Rom, Window, Claims, forwards, passes, window_claims, window_space, has_part, is_bridge, is_window, is_space_on}
use Rattle.pci_spec.proofs.Members.{in_nil, in_cons_cases, in_head}
use Rattle.plan_spec.specs.Plan.{IsMoved}
use Rattle.plan_spec.proofs.Planning.Moved.{layout_same}
use Rattle.plan_spec.proofs.Planning.Reached.{byte_of_number}
use Rattle.settle_spec.specs.Writes.{part_registers, closing_registers}
use Rattle.settle_laws.proofs.Images.{function_at, same_number}
use Rattle.settle_laws.proofs.Stages.{ShowsSame}

pub on_same : (f g : Function) → command g.image ≡ command f.image → (space : Space) → is_space_on g space ≡ is_space_on f space
on_same f g e Io = ap (λ n. has_bit n 0) e
on_same f g e Memory = ap (λ n. has_bit n 1) e

-- ---- the bytes of a part's registers

-- two images have the same bytes in each register of a part
abbrev pub AgreeIn : Function → Part → List ℕ → List ℕ → Type 0
AgreeIn f p a b = (r : ℕ × ℕ) → Contains (part_registers f p) r → (place : ℕ) → r.0 ≤ place → place < r.0 + r.1 → byte_at a place ≡ byte_at b place

pub agree_by_number : (f g k : Function) (p : Part) → IsImage g.image → IsImage k.image → ShowsSame g k p → part_registers g p ≡ part_registers f p → AgreeIn f p k.image g.image
agree_by_number f g k p is_g is_k same registers r has place from to =
    byte_of_number k.image g.image r.0 r.1 place is_k is_g (same r (subst (λ rs. Contains rs r) (sym registers) has)) from to

-- a moved function has its parts in the same registers
pub registers_same : (f g : Function) → IsImage f.image → IsMoved f g → (p : Part) → is_window p ≡ false → part_registers g p ≡ part_registers f p
registers_same f g is m (Bar n) plain = ap (λ b. part_registers (function_at f.slot f.image b) (Bar n)) m.probe
registers_same f g is m Rom plain = ap (λ k. (rom_register k, 4) ∷ []) (layout_same f g m is)
registers_same f g is m (Window c) plain = absurd (both_ways true plain refl)

-- and has them where it had them
pub has_same : (f g : Function) → IsImage f.image → IsMoved f g → (p : Part) → has_part g p ≡ has_part f p
has_same f g is m (Bar n) = ap (λ k. nat_lt n (bar_count k)) (layout_same f g m is)
has_same f g is m Rom = refl
has_same f g is m (Window c) = ap (λ k. k == 1) (layout_same f g m is)

-- a byte of a BAR or ROM, where no window is
pub record IsPlainPlace (f : Function) (place : ℕ) : Type 0 where
  pub low : 0x10 ≤ place
  pub high : place < 0x3c
  pub aside : is_bridge f ≡ true → (place < 0x1c) ⊎ (0x34 ≤ place)

wide_end : (wide : Bool) → (if wide then 8 else 4) ≤ 8
wide_end true = omega arith
wide_end false = omega arith

bars_by : (kind : Bool) (n : ℕ) → n < (if kind then 2 else 6) → (n < 6) × (kind ≡ true → n < 2)
bars_by true n less = (omega (arith, less), λ e. less)
bars_by false n less = (less, λ e. absurd (both_ways false refl e))

rom_by : (kind : Bool) (place : ℕ) → (if kind then 0x38 else 0x30) ≤ place → place < (if kind then 0x38 else 0x30) + 4 → (0x30 ≤ place) × (place < 0x3c) × (kind ≡ true → 0x34 ≤ place)
rom_by true place from to = (omega (arith, from), omega (arith, to), λ e. omega (arith, from))
rom_by false place from to = (omega (arith, from), omega (arith, to), λ e. absurd (both_ways false refl e))

one_of : {X : Type 0} (x y : X) → Contains (x ∷ []) y → x ≡ y
one_of x y has = elim (in_cons_cases x [] y has) [ inl is ↦ is | inr more ↦ absurd (in_nil y more) ]

pub plain_place : (f : Function) (p : Part) → is_window p ≡ false → has_part f p ≡ true → (r : ℕ × ℕ) → Contains (part_registers f p) r
    → (place : ℕ) → r.0 ≤ place → place < r.0 + r.1 → IsPlainPlace f place
plain_place f (Bar n) plain there r has place from to =
    let wide : ℕ = if is_wide (bar_at f.probe n) then 8 else 4 in
    let is : (bar_register n, wide) ≡ r = one_of (bar_register n, wide) r has in
    let o : bar_register n ≡ r.0 = ap (λ (r : ℕ × ℕ). r.0) is in
    let w : wide ≡ r.1 = ap (λ (r : ℕ × ℕ). r.1) is in
    let most : wide ≤ 8 = wide_end (is_wide (bar_at f.probe n)) in
    let bars = bars_by (is_bridge f) n (ltb-true n (bar_count (layout f.image)) there) in
    let few : n < 6 = bars.0 in
    record {
      low = omega (arith, from, o);
      high = omega (arith, to, o, w, most, few);
      aside = λ bridge. inl (let two = bars.1 bridge in omega (arith, to, o, w, most, two));
    }
plain_place f Rom plain there r has place from to =
    let is : (rom_register (layout f.image), 4) ≡ r = one_of (rom_register (layout f.image), 4) r has in
    let o : rom_register (layout f.image) ≡ r.0 = ap (λ (r : ℕ × ℕ). r.0) is in
    let w : 4 ≡ r.1 = ap (λ (r : ℕ × ℕ). r.1) is in
    let at = rom_by (is_bridge f) place (omega (arith, from, o)) (omega (arith, to, o, w)) in
    let low = at.0 in
    record { low = omega (arith, low); high = at.1; aside = λ bridge. inr (at.2 bridge) }
plain_place f (Window c) plain there r has place from to = absurd (both_ways true plain refl)

-- ---- none of them is written while functions are closed

out_below : (place : ℕ) (r : ℕ × ℕ) → place < r.0 → is_in_register place r ≡ false
out_below place r less = and_left (nat_le r.0 place) (nat_lt place (r.0 + r.1)) (lt-leb r.0 place less)

out_above : (place : ℕ) (r : ℕ × ℕ) → r.0 + r.1 ≤ place → is_in_register place r ≡ false
out_above place r past = and_right (nat_le r.0 place) (nat_lt place (r.0 + r.1)) (le-ltb place (r.0 + r.1) past)

out_between : (place low high : ℕ) (r : ℕ × ℕ) → low ≤ r.0 → r.0 + r.1 ≤ high → (place < low) ⊎ (high ≤ place) → is_in_register place r ≡ false
out_between place low high r from to (inl below) = out_below place r (omega (arith, below, from))
out_between place low high r from to (inr above) = out_above place r (omega (arith, above, to))

closing_by : (bridge : Bool) (place : ℕ) → 6 ≤ place → (bridge ≡ true → (place < 0x1c) ⊎ (0x34 ≤ place))
    → list_any (is_in_register place) ((COMMAND, 2)
    ∷ (if bridge
    then (IO_BASE, 2) ∷ (IO_BASE_UPPER, 4) ∷ (MEMORY_BASE, 4) ∷ (PREFETCHABLE_BASE, 4)
    ∷ (PREFETCHABLE_LIMIT_UPPER, 4) ∷ [] else [])) ≡ false
closing_by false place past aside = or_from (is_in_register place (COMMAND, 2)) false (out_above place (COMMAND, 2) past) refl
closing_by true place past aside =
    let out : (r : ℕ × ℕ) → 0x1c ≤ r.0 → r.0 + r.1 ≤ 0x34 → is_in_register place r ≡ false = λ r from to. out_between place 0x1c 0x34 r from to (aside refl) in
    let is = is_in_register place in
    or_from (is (COMMAND, 2)) _ (out_above place (COMMAND, 2) past)
    (or_from (is (IO_BASE, 2)) _ (out (IO_BASE, 2) (omega arith) (omega arith))
    (or_from (is (IO_BASE_UPPER, 4)) _ (out (IO_BASE_UPPER, 4) (omega arith) (omega arith))
    (or_from (is (MEMORY_BASE, 4)) _ (out (MEMORY_BASE, 4) (omega arith) (omega arith))
    (or_from (is (PREFETCHABLE_BASE, 4)) _ (out (PREFETCHABLE_BASE, 4) (omega arith) (omega arith))
    (or_from (is (PREFETCHABLE_LIMIT_UPPER, 4)) false (out (PREFETCHABLE_LIMIT_UPPER, 4) (omega arith) (omega arith)) refl)))))

pub plain_unclosed : (f : Function) (place : ℕ) → IsPlainPlace f place → list_any (is_in_register place) (closing_registers f) ≡ false
plain_unclosed f place at = let low = at.low in closing_by (is_bridge f) place (omega (arith, low)) at.aside

upper_by : (bridge : Bool) (place : ℕ) → 0x28 ≤ place → place < 0x2c
    → list_any (is_in_register place) ((COMMAND, 2)
    ∷ (if bridge
    then (IO_BASE, 2) ∷ (IO_BASE_UPPER, 4) ∷ (MEMORY_BASE, 4) ∷ (PREFETCHABLE_BASE, 4)
    ∷ (PREFETCHABLE_LIMIT_UPPER, 4) ∷ [] else [])) ≡ false
upper_by false place from to = or_from (is_in_register place (COMMAND, 2)) false (out_above place (COMMAND, 2) (omega (arith, from))) refl
upper_by true place from to =
    let is = is_in_register place in
    or_from (is (COMMAND, 2)) _ (out_above place (COMMAND, 2) (omega (arith, from)))
    (or_from (is (IO_BASE, 2)) _ (out_above place (IO_BASE, 2) (omega (arith, from)))
    (or_from (is (IO_BASE_UPPER, 4)) _ (out_below place (IO_BASE_UPPER, 4) (omega (arith, to)))
    (or_from (is (MEMORY_BASE, 4)) _ (out_above place (MEMORY_BASE, 4) (omega (arith, from)))
    (or_from (is (PREFETCHABLE_BASE, 4)) _ (out_above place (PREFETCHABLE_BASE, 4) (omega (arith, from)))
    (or_from (is (PREFETCHABLE_LIMIT_UPPER, 4)) false (out_below place (PREFETCHABLE_LIMIT_UPPER, 4) (omega (arith, to))) refl)))))

-- nor is the upper base of a prefetchable window
pub upper_unclosed : (f : Function) (place : ℕ) → 0x28 ≤ place → place < 0x2c → list_any (is_in_register place) (closing_registers f) ≡ false
upper_unclosed f place from to = upper_by (is_bridge f) place from to

-- ---- claims

whole_by : (a b : List ℕ) (n : ℕ) (wide : Bool) → ((place : ℕ) → bar_register n ≤ place → place < bar_register n + (if wide then 8 else 4) → byte_at a place ≡ byte_at b place)
    → (if wide then bar_at a n + 2 ^ 32 * bar_at a (n + 1) else bar_at a n) ≡ (if wide then bar_at b n + 2 ^ 32 * bar_at b (n + 1) else bar_at b n)
whole_by a b n true same =
    ap (λ m. m + 2 ^ 32 * bar_at a (n + 1)) (same_number a b (bar_register n) 4 (λ j less. same (bar_register n + j) (omega arith) (omega (arith, less))))
    ∙ ap (λ m. bar_at b n + 2 ^ 32 * m) (same_number a b (bar_register (n + 1)) 4 (λ j less. same (bar_register (n + 1) + j) (omega arith) (omega (arith, less))))
whole_by a b n false same = same_number a b (bar_register n) 4 (λ j less. same (bar_register n + j) (omega arith) (omega (arith, less)))

module _ (slot : Slot) (probe a b : List ℕ) (kind : layout a ≡ layout b) where
  abbrev from : Function
  from = function_at slot a probe

  abbrev to : Function
  to = function_at slot b probe

  whole_in : (n : ℕ) → AgreeIn from (Bar n) a b → whole_bar probe a n ≡ whole_bar probe b n
  whole_in n same =
      whole_by a b n (is_wide (bar_at probe n)) (λ place low high. same (bar_register n, if is_wide (bar_at probe n) then 8 else 4) (in_head (bar_register n, if is_wide (bar_at probe n) then 8 else 4) []) place low high)

  rom_in : AgreeIn from Rom a b → rom_at a a ≡ rom_at b b
  rom_in same =
      same_number a b (rom_register (layout a)) 4 (λ j less. same (rom_register (layout a), 4) (in_head (rom_register (layout a), 4) []) (rom_register (layout a) + j) (omega arith) (omega (arith, less)))
      ∙ ap (λ k. number_at b (rom_register k) 4) kind

  claims_between : (p : Part) (space : Space) (x : ℕ) → is_window p ≡ false → AgreeIn from p a b
      → (is_space_on from space ≡ true → is_space_on to space ≡ true) → Claims from p space x → Claims to p space x
  claims_between (Bar n) space x plain same on c = record {
    there = subst (λ k. nat_lt n (bar_count k) ≡ true) kind c.there;
    enabled = subst (λ e. is_space_on to e ≡ true) (sym c.maps) (on (subst (λ e. is_space_on from e ≡ true) c.maps c.enabled));
    maps = c.maps;
    address = c.address;
    decodes = (c.decodes.0, subst (λ v. Answers (bar_kind (bar_at probe n)) v (whole_bar probe probe n) x) (whole_in n same) c.decodes.1);
  }
  claims_between Rom space x plain same on c =
      let parts = and_parts (is_space_on from Memory) (rom_is_on a) c.enabled in
      let on_there = subst (λ e. is_space_on to e ≡ true) (sym c.maps) (on (subst (λ e. is_space_on from e ≡ true) c.maps parts.0)) in
      let decodes = c.decodes in
      let size = ap (λ k. number_at probe (rom_register k) 4) kind in
      record {
        there = refl;
        enabled = and_from (is_space_on to Memory) (rom_is_on b) on_there (ap (λ v. has_bit v 0) (sym (rom_in same)) ∙ parts.1);
        maps = c.maps;
        address = c.address;
        decodes = (decodes.0, subst (λ m. is_rom_size m decodes.0 ≡ true) size decodes.1, subst (λ v. (i : ℕ) → decodes.0 ≤ i → bit_at x i ≡ bit_at v i) (rom_in same) decodes.2);
      }
  claims_between (Window c) space x plain same on claim = absurd (both_ways true plain refl)

-- ---- two states of a function

module _ (f g k : Function) (is : IsImage f.image) (m : IsMoved f g) (n : IsMoved f k) where
  as_g : g ≡ function_at f.slot g.image f.probe
  as_g = λ i. record { slot = m.slot i; image = g.image; probe = m.probe i }

  as_k : k ≡ function_at f.slot k.image f.probe
  as_k = λ i. record { slot = n.slot i; image = k.image; probe = n.probe i }

  on_as_g : (space : Space) → is_space_on g space ≡ is_space_on (function_at f.slot g.image f.probe) space
  on_as_g space = ap (λ x. is_space_on x space) as_g

  on_as_k : (space : Space) → is_space_on k space ≡ is_space_on (function_at f.slot k.image f.probe) space
  on_as_k space = ap (λ x. is_space_on x space) as_k

  -- The law: a BAR or ROM claims in one state what it claims in another, where its registers show the same and its space is on.
  pub claims_in : (p : Part) (space : Space) (a : ℕ) → is_window p ≡ false → AgreeIn f p g.image k.image
      → (is_space_on g space ≡ true → is_space_on k space ≡ true) → Claims g p space a → Claims k p space a
  claims_in p space a plain same on c =
      let kind = layout_same f g m is ∙ sym (layout_same f k n is) in
      let registers : part_registers f p ≡ part_registers (function_at f.slot g.image f.probe) p = sym (registers_same f g is m p plain) ∙ ap (λ x. part_registers x p) as_g in
      subst (λ x. Claims x p space a) (sym as_k)
      (claims_between f.slot f.probe g.image k.image kind p space a plain (λ r has. same r (subst (λ rs. Contains rs r) (sym registers) has))
      (λ e. sym (on_as_k space) ∙ on (on_as_g space ∙ e)) (subst (λ x. Claims x p space a) as_g c))

  -- a window claims what it holds in both
  pub window_in : (c : WindowKind) (a : ℕ) → (holds c g.image f.probe a ≡ true → holds c k.image f.probe a ≡ true) → (is_space_on g (window_space c) ≡ true → is_space_on k (window_space c) ≡ true)
      → window_claims g c a ≡ true → window_claims k c a ≡ true
  window_in c a keeps on claim =
      let parts = and_parts (is_space_on g (window_space c)) (holds c g.image g.probe a) claim in
      and_from (is_space_on k (window_space c)) (holds c k.image k.probe a) (on parts.0)
      (subst (λ t. holds c k.image t a ≡ true) (sym n.probe) (keeps (subst (λ t. holds c g.image t a ≡ true) m.probe parts.1)))

  pub claims_window : (c : WindowKind) (space : Space) (a : ℕ) → (holds c g.image f.probe a ≡ true → holds c k.image f.probe a ≡ true)
      → (is_space_on g (window_space c) ≡ true → is_space_on k (window_space c) ≡ true)
      → Claims g (Window c) space a → Claims k (Window c) space a
  claims_window c space a keeps on claim = record {
    there = subst (λ t. (t == 1) ≡ true) (layout_same f g m is ∙ sym (layout_same f k n is)) claim.there;
    enabled = on claim.enabled;
    maps = claim.maps;
    address = claim.address;
    decodes = subst (λ t. holds c k.image t a ≡ true) (sym n.probe) (keeps (subst (λ t. holds c g.image t a ≡ true) m.probe claim.decodes));
  }

  pub forwards_in : (space : Space) (a : ℕ) → ((c : WindowKind) → holds c g.image f.probe a ≡ true → holds c k.image f.probe a ≡ true) → (is_space_on g space ≡ true → is_space_on k space ≡ true)
      → forwards space a g ≡ true → forwards space a k ≡ true
  forwards_in Io a keeps on e = window_in IoWindow a (keeps IoWindow) on e
  forwards_in Memory a keeps on e = elim (or_cases (window_claims g MemoryWindow a) (window_claims g PrefetchWindow a) e) [
    | inl memory ↦ or_left (window_claims k MemoryWindow a) (window_claims k PrefetchWindow a) (window_in MemoryWindow a (keeps MemoryWindow) on memory)
    | inr prefetch ↦ or_right (window_claims k MemoryWindow a) (window_claims k PrefetchWindow a) (window_in PrefetchWindow a (keeps PrefetchWindow) on prefetch)
  ]

-- ---- a window that holds an address passes it

pub holds_by_bounds : (c : WindowKind) (a b probe : List ℕ) (x : ℕ) → bounds_at c a ≡ bounds_at c b → holds c a probe x ≡ holds c b probe x
holds_by_bounds c a b probe x same =
    ap (λ (v : Bounds).
    has_window c probe && nat_le (v.base_upper * lower_pages c + v.base / 16) (x / page_size c)
    && nat_le (x / page_size c) (v.limit_upper * lower_pages c + v.limit / 16)) same

pub passes_by : (c : WindowKind) (prefetchable : Bool) (a : ℕ) (b : Function) → (c ≡ PrefetchWindow → prefetchable ≡ true) → window_claims b c a ≡ true → passes (window_space c) prefetchable a b ≡ true
passes_by IoWindow prefetchable a b may claim = claim
passes_by MemoryWindow prefetchable a b may claim = or_left (window_claims b MemoryWindow a) (prefetchable && window_claims b PrefetchWindow a) claim
passes_by PrefetchWindow prefetchable a b may claim =
    or_right (window_claims b MemoryWindow a) (prefetchable && window_claims b PrefetchWindow a) (and_from prefetchable (window_claims b PrefetchWindow a) (may refl) claim)
