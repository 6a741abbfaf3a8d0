-- What stays with its addresses keeps its registers and doesn't move, and a function whose BARs and ROM stay isn't shut.
use Rattle.std.proofs.Common.{◌≡◌, ℕ, ◌+◌, ◌*◌, ◌^◌, inl, inr, List, [], ◌∷◌, Bool, true, false, cond, not, ◌&&◌, arith, refl, sym, ◌∙◌, ap, subst, ◌||◌, None}
use Rattle.std.specs.Bool.{◌==◌, if◌then◌else◌}
use Rattle.std.specs.List.{Contains, list_any}
use Rattle.std.proofs.lemmas.Bool.{and_parts, and_right, cases_Bool, eq-eqb, ltb-true, not-true, not_from_true, or_from}
use Rattle.pci_spec.specs.Number.{byte_at, number_at}
use Rattle.pci_spec.specs.Header.{layout, bar_count, bar_register, rom_register}
use Rattle.pci_spec.specs.Bar.{bar_at, is_wide, whole_bar}
use Rattle.pci_spec.specs.Window.{WindowKind, IoWindow, MemoryWindow, PrefetchWindow, Bounds, bounds_at}
use Rattle.pci_spec.specs.System.{System, Function, Space, Part, Bar, Rom, Window, has_part, is_window, space_of}
use Rattle.pci_spec.proofs.Members.{in_nil, in_cons_cases, IsMade, in_map_to}
use Rattle.plan_spec.specs.Plan.{bridges_above}
use Rattle.settle_spec.specs.Lists.{Request}
use Rattle.settle_spec.specs.Parts.{FunctionPart, parts_of, function_parts, class_in, are_same_space, addresses}
use Rattle.settle_spec.specs.Stands.{part_space}
use Rattle.settle_spec.specs.Keeping.Registers.{settled_function, is_same_range}
use Rattle.settle_spec.specs.Writes.{differs_at, part_registers, is_cut_off_in}
use Rattle.settle_spec.specs.Keeping.Writes.{changes_at, changes_above, moves, has_moving, is_shut_itself, is_shut}
use Rattle.settle_laws.specs.Keeping.PlacesLaws.{CanSettle}
use Rattle.settle_laws.specs.RestLaws.{KeepsOwn}
use Rattle.settle_laws.proofs.Kept.{one_space}
use Rattle.settle_laws.proofs.Keeping.ShownKept.{bar_stays, rom_stays, window_stays}
use Rattle.settle_laws.proofs.NonePasses.{none_by}
use Rattle.settle_spec.specs.Kept.{Kept}
use Rattle.settle_laws.proofs.Resting.{range_itself}

-- ---- numbers of registers, by what a part shows

-- a list of one register, or of more, shows the same
abbrev ShowSame : List ℕ → List ℕ → List (ℕ × ℕ) → Type 0
ShowSame a b registers = (r : ℕ × ℕ) → Contains registers r → number_at a r.0 r.1 ≡ number_at b r.0 r.1

none_more : (a b : List ℕ) → ShowSame a b []
none_more a b r none = absurd (in_nil r none)

one_more : (a b : List ℕ) (o w : ℕ) (more : List (ℕ × ℕ)) → number_at a o w ≡ number_at b o w → ShowSame a b more → ShowSame a b ((o, w) ∷ more)
one_more a b o w more same rest r has = elim (in_cons_cases (o, w) more r has) [
  | inl is ↦ subst (λ (x : ℕ × ℕ). number_at a x.0 x.1 ≡ number_at b x.0 x.1) is same
  | inr later ↦ rest r later
]

-- eight bytes are two times four
eight_bytes : (image : List ℕ) (o : ℕ) → number_at image o 8 ≡ number_at image o 4 + 2 ^ 32 * number_at image (o + 4) 4
eight_bytes image o =
    let e4 = ap (byte_at image) (let e : o + 4 + 0 ≡ o + 4 = omega arith in e) in
    let e5 = ap (byte_at image) (let e : o + 4 + 1 ≡ o + 5 = omega arith in e) in
    let e6 = ap (byte_at image) (let e : o + 4 + 2 ≡ o + 6 = omega arith in e) in
    let e7 = ap (byte_at image) (let e : o + 4 + 3 ≡ o + 7 = omega arith in e) in
    omega (arith, e4, e5, e6, e7)

-- a 64-bit BAR's number is the whole of it
pub bar_number : (probe a b : List ℕ) (n : ℕ) → (wide : Bool) → is_wide (bar_at probe n) ≡ wide → whole_bar probe a n ≡ whole_bar probe b n → number_at a (bar_register n) (if wide then 8 else 4) ≡ number_at b (bar_register n) (if wide then 8 else 4)
bar_number probe a b n true wide same =
    let over = λ (image : List ℕ). ap (λ t. cond t (bar_at image n + 2 ^ 32 * bar_at image (n + 1)) (bar_at image n)) wide in
    let next : 0x10 + 4 * n + 4 ≡ 0x10 + 4 * (n + 1) = omega arith in
    let eight = λ (image : List ℕ). eight_bytes image (bar_register n) ∙ ap (λ o. number_at image (bar_register n) 4 + 2 ^ 32 * number_at image o 4) next in
    eight a ∙ sym (over a) ∙ same ∙ over b ∙ sym (eight b)
bar_number probe a b n false narrow same =
    let over = λ (image : List ℕ). ap (λ t. cond t (bar_at image n + 2 ^ 32 * bar_at image (n + 1)) (bar_at image n)) narrow in
    sym (over a) ∙ same ∙ over b

-- the registers of a window, by its bounds
window_numbers : (f : Function) (a b : List ℕ) (c : WindowKind) → bounds_at c a ≡ bounds_at c b → ShowSame a b (part_registers f (Window c))
window_numbers f a b IoWindow same =
    let base = ap (λ (v : Bounds). v.base) same in
    let limit = ap (λ (v : Bounds). v.limit) same in
    let base_upper = ap (λ (v : Bounds). v.base_upper) same in
    let limit_upper = ap (λ (v : Bounds). v.limit_upper) same in
    one_more a b 0x1c 2 ((0x30, 4) ∷ []) (omega (arith, base, limit)) (one_more a b 0x30 4 [] (omega (arith, base_upper, limit_upper)) (none_more a b))
window_numbers f a b MemoryWindow same =
    let base = ap (λ (v : Bounds). v.base) same in
    let limit = ap (λ (v : Bounds). v.limit) same in
    one_more a b 0x20 4 [] (omega (arith, base, limit)) (none_more a b)
window_numbers f a b PrefetchWindow same =
    let base = ap (λ (v : Bounds). v.base) same in
    let limit = ap (λ (v : Bounds). v.limit) same in
    let base_upper = ap (λ (v : Bounds). v.base_upper) same in
    let limit_upper = ap (λ (v : Bounds). v.limit_upper) same in
    one_more a b 0x24 4 ((0x28, 4) ∷ (0x2c, 4) ∷ []) (omega (arith, base, limit)) (one_more a b 0x28 4 ((0x2c, 4) ∷ []) base_upper (one_more a b 0x2c 4 [] limit_upper (none_more a b)))

module _ (q : Request) (s : System) (k : Kept) (can : CanSettle q s k) where
  unchanged : (f : Function) (p : Part) → ShowSame (settled_function q s k f).image f.image (part_registers f p) → changes_at q s k f p ≡ false
  unchanged f p same = none_by (differs_at f (settled_function q s k f)) (part_registers f p)
      (λ r has. not_from_true (number_at (settled_function q s k f).image r.0 r.1 == number_at f.image r.0 r.1)
      (eq-eqb (number_at (settled_function q s k f).image r.0 r.1) (number_at f.image r.0 r.1) (same r has)))

  -- The law: a part that stays with the addresses that it has keeps its registers.
  pub part_rests : (f : Function) (p : Part) → Contains s f → has_part f p ≡ true → k.stays record { function = f; part = p } ≡ true → k.range record { function = f; part = p } ≡ addresses record { function = f; part = p } → k.wished record { function = f; part = p } ≡ None → changes_at q s k f p ≡ false
  part_rests f (Bar n) listed there keeps same unwished = unchanged f (Bar n)
      (one_more (settled_function q s k f).image f.image (bar_register n) (if is_wide (bar_at f.probe n) then 8 else 4) []
      (bar_number f.probe (settled_function q s k f).image f.image n (is_wide (bar_at f.probe n)) refl
      (bar_stays q s k can f listed n (ltb-true n (bar_count (layout f.image)) there) there keeps)) (none_more (settled_function q s k f).image f.image))
  part_rests f Rom listed there keeps same unwished = unchanged f Rom
      (one_more (settled_function q s k f).image f.image (rom_register (layout f.image)) 4 [] (rom_stays q s k can f listed keeps) (none_more (settled_function q s k f).image f.image))
  part_rests f (Window c) listed there keeps same unwished = unchanged f (Window c) (window_numbers f (settled_function q s k f).image f.image c (window_stays q s k can f listed c unwished there keeps (ap (λ t. is_same_range t (addresses record { function = f; part = Window c })) same ∙ range_itself (addresses record { function = f; part = Window c }))))

module _ (q : Request) (s : System) (k : Kept) where
  -- The law: what stays doesn't move.
  pub staying_rests : (r : FunctionPart) → k.stays r ≡ true → moves q s k r ≡ false
  staying_rests r keeps = ap (λ b. not b && (changes_at q s k r.function r.part || changes_above q s k (class_in q s r.function r.part) r.function.slot.bus)) keeps

  none_moves : (space : Space) (f : Function) → KeepsOwn q s k space f → has_moving q s k space f ≡ false
  none_moves space f keeps = none_by (λ r. are_same_space space (part_space r) && not (is_window r.part) && moves q s k r) (function_parts q s f) (λ r has.
      let made : IsMade (λ p. record { function = f; part = p }) (parts_of q s f) r = in_map_to (λ p. record { function = f; part = p }) (parts_of q s f) r has in
      let p = made.from in
      let of_space = are_same_space space (space_of f p) && not (is_window p) in
      subst (λ (t : FunctionPart). (are_same_space space (part_space t) && not (is_window t.part) && moves q s k t) ≡ false) made.is
      (elim (cases_Bool of_space) [
        | inr other ↦ ap (λ t. t && moves q s k record { function = f; part = p }) other
        | inl here ↦
            let two = and_parts (are_same_space space (space_of f p)) (not (is_window p)) here in
            let plain = not-true (is_window p) two.1 in
            and_right of_space (moves q s k record { function = f; part = p })
            (staying_rests record { function = f; part = p } (keeps.parts p made.has plain (sym (one_space space (space_of f p) two.0))))
      ]))

  not_shut_itself : (space : Space) (f : Function) → KeepsOwn q s k space f → is_shut_itself q s k space f ≡ false
  not_shut_itself space f keeps = or_from (has_moving q s k space f) (is_cut_off_in q s f space) (none_moves space f keeps) keeps.reached

  -- The law: with the bridges above it a function whose BARs and ROM stay isn't shut.
  pub staying_unshut : (space : Space) (f : Function) → KeepsOwn q s k space f → ((b : Function) → Contains (bridges_above s f.slot.bus) b → KeepsOwn q s k space b) → is_shut q s k space f ≡ false
  staying_unshut space f keeps over =
      or_from (is_shut_itself q s k space f) (list_any (is_shut_itself q s k space) (bridges_above s f.slot.bus)) (not_shut_itself space f keeps)
      (none_by (is_shut_itself q s k space) (bridges_above s f.slot.bus) (λ b has. not_shut_itself space b (over b has)))
