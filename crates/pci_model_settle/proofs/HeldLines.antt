-- Told ranges with those of bridges among them can be told, too.
use Rattle.std.proofs.Common.{◌≡◌, ℕ, zero, suc, ◌+◌, ◌*◌, ◌<◌, ◌≤◌, List, [], ◌∷◌, ◌++◌, Bool, true, false, length, map, get_or, arith, refl, sym, ◌∙◌, ap, subst, ◌-◌, Result, Ok, Err}
use Rattle.std.specs.Prelude.{nat_le, if◌then◌else◌, ⊤, IsTrue, ◌↔◌}
use Rattle.std.specs.List.{flat_map, All}
use Rattle.std.specs.List.Sorted.{IsNonDecreasingBy}
use Rattle.std.proofs.lemmas.Bool.{leb-true, leb-false, le-leb, lt-leb}
use Rattle.std.proofs.lemmas.List.{length-map}
use Rattle.std.proofs.lemmas.List.Elements.{All-cons, All-nil, All-tail}
use Rattle.pci_spec.specs.Slot.{Slot, IsSlot, slot_number}
use Rattle.pci_spec.specs.System.{Space, Io, Memory, IsAddress}
use Rattle.pci_base.specs.declared.range.Range.{Range}
use Rattle.pci_base.specs.declared.memory.Refused.{Refused}
use Rattle.pci_base.specs.declared.memory.Refused.TheVariants as refusals
use Rattle.judge_spec.specs.Given.{LegacyBridge}
use Rattle.judge_spec.specs.Told.{ToldRange, IsToldRange, IsTold, is_name_byte}
use Rattle.pci_claims.specs.declared.legacy.FixedPart.{FixedPart}
use Rattle.pci_claims.specs.declared.legacy.FixedPart.TheVariants.{Legacy, Palette}
use Rattle.pci_claims.specs.Legacy.{blocks_of, vga_low, vga_high, palette_low, palette_high}
use Rattle.pci_model_settle.specs.declared.claim_lines.Line.{Line as CodeLine}
use Rattle.pci_model_settle.specs.declared.claim_lines.TooManyLines.{TooManyLines}
use Rattle.pci_model_settle.specs.LineValues.{AreToldInOrder, line_value, code_line_ranges}
use Rattle.pci_model_settle.specs.ClaimLines.{AreBySlot, Line, claim_line, claim_lines, held, joined, line_key, lines_with, merged_by_key, own_lines, part_lines, port_lines, ports_of_kb, line_ranges, told_lines}
use Rattle.pci_model_settle.proofs.MergedLines.{map_merged, merged_length, ranges_of_lines}

abbrev pub number_of : ToldRange → ℕ
number_of r = slot_number r.slot

-- ranges that can be told, from a slot on
abbrev pub AreFrom : ℕ → List ToldRange → Type 0
AreFrom k [] = ⊤
AreFrom k (r ∷ rs) = IsToldRange r × (k ≤ number_of r) × AreFrom (number_of r) rs

-- ranges that can be told, of one slot
abbrev pub AreAt : ℕ → List ToldRange → Type 0
AreAt k [] = ⊤
AreAt k (r ∷ rs) = IsToldRange r × (number_of r ≡ k) × AreAt k rs

pub from_lower : (k n : ℕ) (rs : List ToldRange) → n ≤ k → AreFrom k rs → AreFrom n rs
from_lower k n [] le h = tt
from_lower k n (r ∷ rs) le h = (h.0, let up = h.1 in omega (arith, le, up), h.2)

-- ---- two lists as one

from_either : (k : ℕ) (x y : ToldRange) (xs ys : List ToldRange) (t : Bool) → IsToldRange x → k ≤ number_of x → IsToldRange y → k ≤ number_of y
    → (t ≡ true → AreFrom (number_of x) xs) → (t ≡ false → AreFrom (number_of y) ys) → AreFrom k (if t then x ∷ xs else y ∷ ys)
from_either k x y xs ys true tx kx ty ky h g = (tx, kx, h refl)
from_either k x y xs ys false tx kx ty ky h g = (ty, ky, g refl)

merged_from : (k : ℕ) (xs ys : List ToldRange) → AreFrom k xs → AreFrom k ys → AreFrom k (merged_by_key number_of xs ys)
merged_from k [] ys hx hy = hy
merged_from k (x ∷ xs) [] hx hy = hx
merged_from k (x ∷ xs) (y ∷ ys) hx hy =
    from_either k x y (merged_by_key number_of xs (y ∷ ys)) (merged_by_key number_of (x ∷ xs) ys) (nat_le (number_of x) (number_of y)) hx.0 hx.1 hy.0 hy.1
    (λ e. merged_from (number_of x) xs (y ∷ ys) hx.2 (hy.0, leb-true _ _ e, hy.2))
    (λ e. merged_from (number_of y) (x ∷ xs) ys (hx.0, let less = leb-false _ _ e in omega (arith, less), hx.2) hy.2)

-- ---- a user's ranges

nameless : (r : ToldRange) → IsToldRange r → IsToldRange record r { name = [] }
nameless r h = record {
  line = record {
    slot = h.line.slot;
    plain = h.line.plain;
    first = h.line.first;
    last = h.line.last;
    name = (omega arith, All-nil (λ c. IsTrue (is_name_byte c)));
  };
  forward = h.forward;
}

-- ranges that can be told one by one and stand in order
pub from_list : (k : ℕ) (rs : List ToldRange) → All IsToldRange rs → IsNonDecreasingBy number_of rs → ((d : ToldRange) → 0 < length rs → k ≤ number_of (get_or rs 0 d)) → AreFrom k rs
from_list k [] each order low = tt
from_list k (r ∷ rs) each order low = (
  each 0 r (omega arith),
  low r (omega arith),
  from_list (number_of r) rs (All-tail IsToldRange r rs each)
      (λ (i j : ℕ) (d : ToldRange) (le : i ≤ j) (lt : j < length rs). order (suc i) (suc j) d (omega (arith, le)) (omega (arith, lt)))
      (λ (d : ToldRange) (some : 0 < length rs). order 0 1 d (omega arith) (omega (arith, some))),
)

told_from : (k n : ℕ) (rs : List ToldRange) → All IsToldRange rs → IsNonDecreasingBy number_of rs → ((d : ToldRange) → 0 < length rs → k ≤ number_of (get_or rs 0 d))
    → AreFrom k (map (λ l. l.range) (told_lines n rs))
told_from k n [] each order low = tt
told_from k n (r ∷ rs) each order low = (
  nameless r (each 0 r (omega arith)),
  low r (omega arith),
  told_from (number_of r) (suc n) rs (All-tail IsToldRange r rs each)
      (λ (i j : ℕ) (d : ToldRange) (le : i ≤ j) (lt : j < length rs). order (suc i) (suc j) d (omega (arith, le)) (omega (arith, lt)))
      (λ (d : ToldRange) (some : 0 < length rs). order 0 1 d (omega arith) (omega (arith, some))),
)

told_length : (n : ℕ) (rs : List ToldRange) → length (told_lines n rs) ≡ length rs
told_length n [] = refl
told_length n (r ∷ rs) = ap suc (told_length (suc n) rs)

-- ---- parts of bridges

held_told : (slot : Slot) (space : Space) (first last : ℕ) → IsSlot slot → IsAddress space first → IsAddress space last → first ≤ last → IsToldRange (held slot space first last)
held_told slot space first last is_slot low high forward = record {
  line = record { slot = is_slot; plain = λ _. refl; first = low; last = high; name = (omega arith, All-nil (λ c. IsTrue (is_name_byte c))) };
  forward = forward;
}

pub at_both : (k : ℕ) (xs ys : List ToldRange) → AreAt k xs → AreAt k ys → AreAt k (xs ++ ys)
at_both k [] ys hx hy = hy
at_both k (x ∷ xs) ys hx hy = (hx.0, hx.1, at_both k xs ys hx.2 hy)

port_small : (kb port : ℕ) → kb < 64 → port < 0x400 → IsAddress Io (kb * 0x400 + port)
port_small kb port few low = let small : kb * 0x400 + port < 4294967296 = omega (arith, few, low) in small

module _ (slot : Slot) (is_slot : IsSlot slot) (low high : Range) (low_up : low.first ≤ low.last) (low_end : low.last < 0x400) (high_up : high.first ≤ high.last) (high_end : high.last < 0x400) where
  kb_told : (kb : ℕ) (r : Range) → kb < 64 → r.first ≤ r.last → r.last < 0x400 → IsToldRange (ports_of_kb slot kb r)
  kb_told kb r few up end =
      held_told slot Io (kb * 0x400 + r.first) (kb * 0x400 + r.last) is_slot (port_small kb r.first few (omega (arith, up, end))) (port_small kb r.last few end) (omega (arith, up))

  ports_at : (kb : ℕ) → kb ≤ 64 → AreAt (slot_number slot) (port_lines slot low high kb)
  ports_at zero few = tt
  ports_at (suc kb) few =
      at_both (slot_number slot) (port_lines slot low high kb) (ports_of_kb slot kb low ∷ ports_of_kb slot kb high ∷ []) (ports_at kb (omega (arith, few)))
      (kb_told kb low (omega (arith, few)) low_up low_end, refl, (kb_told kb high (omega (arith, few)) high_up high_end, refl, tt))

few_blocks : (is_wide : Bool) → blocks_of is_wide ≤ 64
few_blocks true = omega arith
few_blocks false = omega arith

frame_told : (slot : Slot) → IsSlot slot → IsToldRange (held slot Memory 0xa0000 0xbffff)
frame_told slot is_slot =
    let low : 0xa0000 < 18446744073709551616 = omega arith in
    let high : 0xbffff < 18446744073709551616 = omega arith in
    held_told slot Memory 0xa0000 0xbffff is_slot low high (omega arith)

part_at : (part : FixedPart) (b : LegacyBridge) → IsSlot b.slot → AreAt (slot_number b.slot) (part_lines part b)
part_at Legacy b is_slot =
    at_both (slot_number b.slot) (port_lines b.slot vga_low vga_high (blocks_of b.is_wide)) (held b.slot Memory 0xa0000 0xbffff ∷ [])
    (ports_at b.slot is_slot vga_low vga_high (omega arith) (omega arith) (omega arith) (omega arith) (blocks_of b.is_wide) (few_blocks b.is_wide))
    (frame_told b.slot is_slot, refl, tt)
part_at Palette b is_slot =
    ports_at b.slot is_slot palette_low palette_high (omega arith) (omega arith) (omega arith) (omega arith) (blocks_of b.is_wide) (few_blocks b.is_wide)

pub from_at : (k n : ℕ) (xs ys : List ToldRange) → k ≤ n → AreAt n xs → AreFrom n ys → AreFrom k (xs ++ ys)
from_at k n [] ys le hx hy = from_lower n k ys le hy
from_at k n (x ∷ xs) ys le hx hy = (
  hx.0,
  subst (λ m. k ≤ m) (sym hx.1) le,
  from_at (number_of x) n xs ys (let e = hx.1 in omega (arith, e)) hx.2 hy,
)

bridges_from : (k : ℕ) (part : FixedPart) (bs : List LegacyBridge) → All (λ b. IsSlot b.slot) bs → IsNonDecreasingBy (λ b. slot_number b.slot) bs
    → ((d : LegacyBridge) → 0 < length bs → k ≤ slot_number (get_or bs 0 d).slot) → AreFrom k (flat_map (part_lines part) bs)
bridges_from k part [] each order low = tt
bridges_from k part (b ∷ bs) each order low =
    from_at k (slot_number b.slot) (part_lines part b) (flat_map (part_lines part) bs) (low b (omega arith)) (part_at part b (each 0 b (omega arith)))
    (bridges_from (slot_number b.slot) part bs (All-tail (λ (x : LegacyBridge). IsSlot x.slot) b bs each)
    (λ (i j : ℕ) (d : LegacyBridge) (le : i ≤ j) (lt : j < length bs). order (suc i) (suc j) d (omega (arith, le)) (omega (arith, lt)))
    (λ (d : LegacyBridge) (some : 0 < length bs). order 0 1 d (omega arith) (omega (arith, some))))

-- ---- what can be told

pub each_told : (k : ℕ) (rs : List ToldRange) → AreFrom k rs → All IsToldRange rs
each_told k [] h = All-nil IsToldRange
each_told k (r ∷ rs) h = All-cons IsToldRange r rs h.0 (each_told (number_of r) rs h.2)

not_below : (k : ℕ) (rs : List ToldRange) (j : ℕ) (d : ToldRange) → AreFrom k rs → j < length rs → k ≤ number_of (get_or rs j d)
not_below k [] j d h within = absurd (let no : ⊥ = omega (arith, within) in no)
not_below k (r ∷ rs) zero d h within = h.1
not_below k (r ∷ rs) (suc j) d h within = let up = h.1 in let more = not_below (number_of r) rs j d h.2 (omega (arith, within)) in omega (arith, up, more)

pub in_order : (k : ℕ) (rs : List ToldRange) → AreFrom k rs → IsNonDecreasingBy number_of rs
in_order k [] h i j d le within = absurd (let no : ⊥ = omega (arith, within) in no)
in_order k (r ∷ rs) h zero zero d le within = omega arith
in_order k (r ∷ rs) h zero (suc j) d le within = not_below (number_of r) rs j d h.2 (omega (arith, within))
in_order k (r ∷ rs) h (suc i) zero d le within = absurd (let no : ⊥ = omega (arith, le) in no)
in_order k (r ∷ rs) h (suc i) (suc j) d le within = in_order (number_of r) rs h.2 i j d (omega (arith, le)) (omega (arith, within))

-- ---- all of them

ranges_of_claims : (claims : List ToldRange) → map (λ (l : Line). l.range) (map claim_line claims) ≡ claims
ranges_of_claims [] = refl
ranges_of_claims (r ∷ claims) = ap (λ rs. r ∷ rs) (ranges_of_claims claims)

lines_are : (lines : List Line) (claims : List ToldRange) → lines_with lines claims ≡ merged_by_key number_of (line_ranges lines) claims
lines_are lines claims =
    map_merged (λ (l : Line). l.range) number_of lines (map claim_line claims) ∙ ap (merged_by_key number_of (line_ranges lines)) (ranges_of_claims claims)

pub lines_length : (lines : List Line) (claims : List ToldRange) → length (lines_with lines claims) ≡ length lines + length claims
lines_length lines claims =
    let whole = length-map (joined lines claims) (λ (l : Line). l.range) in
    let two = merged_length line_key lines (map claim_line claims) in
    let held_ones = length-map claims claim_line in
    omega (arith, whole, two, held_ones)

pub own_length : (ranges : List ToldRange) (devices : List Line) → length (own_lines ranges devices) ≡ length ranges + length devices
own_length ranges devices =
    let two = merged_length line_key (told_lines 1 ranges) devices in
    let told = told_length 1 ranges in
    omega (arith, two, told)

pub claims_length : (legacy palette : List LegacyBridge) → length (claim_lines legacy palette) ≡ length (flat_map (part_lines Legacy) legacy) + length (flat_map (part_lines Palette) palette)
claims_length legacy palette = merged_length number_of (flat_map (part_lines Legacy) legacy) (flat_map (part_lines Palette) palette)

told_whole : (rs : List ToldRange) → AreFrom 0 rs → length rs ≤ 4096 → IsTold rs
told_whole rs whole few = record { each = each_told 0 rs whole; order = in_order 0 rs whole; room = few }

pub lines_told : (lines : List Line) (legacy palette : List LegacyBridge) → IsTold (line_ranges lines) → AreBySlot legacy → AreBySlot palette → length (lines_with lines (claim_lines legacy palette)) ≤ 4096
    → IsTold (lines_with lines (claim_lines legacy palette))
lines_told lines legacy palette told first second few =
    let first_from = bridges_from 0 Legacy legacy first.each first.order (λ d some. omega arith) in
    let second_from = bridges_from 0 Palette palette second.each second.order (λ d some. omega arith) in
    let claims_from = merged_from 0 (flat_map (part_lines Legacy) legacy) (flat_map (part_lines Palette) palette) first_from second_from in
    let own_from = from_list 0 (line_ranges lines) told.each told.order (λ d some. omega arith) in
    told_whole (lines_with lines (claim_lines legacy palette))
    (subst (AreFrom 0) (sym (lines_are lines (claim_lines legacy palette))) (merged_from 0 (line_ranges lines) (claim_lines legacy palette) own_from claims_from)) few

pub own_told : (ranges : List ToldRange) (devices : List Line) → IsTold ranges → All IsToldRange (line_ranges devices) → IsNonDecreasingBy number_of (line_ranges devices) → length (own_lines ranges devices) ≤ 4096
    → IsTold (line_ranges (own_lines ranges devices))
own_told ranges devices told each order few =
    let user_from = told_from 0 1 ranges told.each told.order (λ d some. omega arith) in
    let devices_from = from_list 0 (line_ranges devices) each order (λ d some. omega arith) in
    let size = length-map (own_lines ranges devices) (λ (l : Line). l.range) in
    told_whole (line_ranges (own_lines ranges devices))
    (subst (AreFrom 0) (sym (map_merged (λ (l : Line). l.range) number_of (told_lines 1 ranges) devices))
    (merged_from 0 (map (λ l. l.range) (told_lines 1 ranges)) (line_ranges devices) user_from devices_from)) (omega (arith, size, few))

-- ---- room

module _ (legacy palette : List LegacyBridge) (lines : ℕ) where
  pub no_room : lines < length (flat_map (part_lines Legacy) legacy) → false ≡ nat_le (length (claim_lines legacy palette)) lines
  no_room less = let size = claims_length legacy palette in sym (lt-leb (length (claim_lines legacy palette)) lines (omega (arith, size, less)))

  module _ (left : ℕ) (first : left + length (flat_map (part_lines Legacy) legacy) ≡ lines) where
    pub no_more_room : left < length (flat_map (part_lines Palette) palette) → false ≡ nat_le (length (claim_lines legacy palette)) lines
    no_more_room less = let size = claims_length legacy palette in sym (lt-leb (length (claim_lines legacy palette)) lines (omega (arith, size, less, first)))

    pub some_room : (rest : ℕ) → rest + length (flat_map (part_lines Palette) palette) ≡ left → true ≡ nat_le (length (claim_lines legacy palette)) lines
    some_room rest second = let size = claims_length legacy palette in sym (le-leb (length (claim_lines legacy palette)) lines (omega (arith, size, first, second)))

pub parts_fit : (lines : List Line) (legacy palette : List LegacyBridge) (n m : ℕ) → length (lines_with lines (claim_lines legacy palette)) ≤ 4096
    → n ≡ length (flat_map (part_lines Legacy) legacy) → m ≡ length (flat_map (part_lines Palette) palette) → n + m ≤ 4096
parts_fit lines legacy palette n m few en em =
    let size = lines_length lines (claim_lines legacy palette) in
    let parts = claims_length legacy palette in
    omega (arith, few, size, parts, en, em)

pub all_fit : (lines : List Line) (claims : List ToldRange) (n m : ℕ) → length (lines_with lines claims) ≤ 4096 → n ≡ length lines → m ≡ length claims → n + m ≤ 4096
all_fit lines claims n m few en em = let size = lines_length lines claims in omega (arith, few, size, en, em)

-- lines for which there is no room
pub too_many : (lines : List Line) (claims : List ToldRange) (n : ℕ) (room : Bool) → n ≡ length lines → n ≤ 4096 → room ≡ nat_le (length claims) (4096 - n) → room ≡ false → 4096 < length (lines_with lines claims)
too_many lines claims n room count few is off =
    let size = lines_length lines claims in
    let less = leb-false (length claims) (4096 - n) (sym is ∙ off) in
    omega (arith, size, less, few, count)

pub not_too_many : (lines : List Line) (claims : List ToldRange) (n : ℕ) (room : Bool) → n ≡ length lines → n ≤ 4096 → room ≡ nat_le (length claims) (4096 - n) → room ≡ true → length (lines_with lines claims) ≤ 4096
not_too_many lines claims n room count few is on =
    let size = lines_length lines claims in
    let less = leb-true (length claims) (4096 - n) (sym is ∙ on) in
    omega (arith, size, less, few, count)

-- ---- what is answered

pub told_size : (ranges : List ToldRange) (xs : List CodeLine) → map line_value xs ≡ told_lines 1 ranges → length xs ≡ length ranges
told_size ranges xs e = sym (length-map xs line_value) ∙ ap length e ∙ told_length 1 ranges

pub memory_is_other : {T : Type 0} (result : Result T (Refused TooManyLines)) → result ≡ Err refusals.Memory → result ≡ Err (refusals.Fault record {}) → ⊥
memory_is_other result is same = cc

pub lines_are_other : {T : Type 0} (result : Result T (Refused TooManyLines)) (x : T) → result ≡ Ok x → result ≡ Err (refusals.Fault record {}) → ⊥
lines_are_other result x is same = cc

pub not_refused : {T : Type 0} (result : Result T (Refused TooManyLines)) (n : ℕ) → n ≤ 4096 → (result ≡ Err (refusals.Fault record {}) → ⊥) → (result ≡ Err (refusals.Fault record {})) ↔ (4096 < n)
not_refused result n few other = (λ e. absurd (other e), λ (many : 4096 < n). absurd (let no : ⊥ = omega (arith, few, many) in no))

-- ---- with those of devices

pub own_fit : (ranges : List ToldRange) (xs ys : List CodeLine) → map line_value xs ≡ told_lines 1 ranges → length ranges + length ys ≤ 4096 → length xs + length ys ≤ 4096
own_fit ranges xs ys e few = let size = told_size ranges xs e in omega (arith, size, few)

pub own_few : (ranges : List ToldRange) (ys : List CodeLine) → length ranges + length ys ≤ 4096 → length (own_lines ranges (map line_value ys)) ≤ 4096
own_few ranges ys few =
    let size = own_length ranges (map line_value ys) in
    let same = length-map ys line_value in
    omega (arith, size, same, few)

pub own_many : (ranges : List ToldRange) (ys : List CodeLine) → 4096 < length ranges + length ys → 4096 < length (own_lines ranges (map line_value ys))
own_many ranges ys many =
    let size = own_length ranges (map line_value ys) in
    let same = length-map ys line_value in
    omega (arith, size, same, many)

pub devices_told : (ranges : List ToldRange) (ys out : List CodeLine) → IsTold ranges → AreToldInOrder ys → length ranges + length ys ≤ 4096 → map line_value out ≡ own_lines ranges (map line_value ys) → IsTold (code_line_ranges out)
devices_told ranges ys out told are few is =
    subst IsTold (sym (ranges_of_lines out ∙ ap line_ranges is))
    (own_told ranges (map line_value ys) told (subst (All IsToldRange) (ranges_of_lines ys) are.each) (subst (IsNonDecreasingBy number_of) (ranges_of_lines ys) are.order) (own_few ranges ys few))
