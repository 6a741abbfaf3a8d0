-- The characters of lines are ASCII.
use Rattle.std.proofs.Common.{◌≡◌, ℕ, zero, suc, ◌/◌, ◌%◌, ◌<◌, ◌≤◌, Some, Bool, true, false, ◌&&◌, List, [], ◌∷◌, ◌++◌, refl, arith, sym, subst, codes, nat_lt, IsAscii, if◌then◌else◌}
use Rattle.std.specs.Prelude.{slice_index, nat_le, IsTrue}
use Rattle.std.specs.List.{All, slice_get}
use Rattle.std.proofs.lemmas.Option.{slice_get_within, get_or_from_slice_get}
use Rattle.std.proofs.lemmas.Bool.{ltb-true, leb-true, false≢true}
use Rattle.std.proofs.lemmas.Str.{IsAscii-append}
use Rattle.pci_spec.specs.Slot.{Slot}
use Rattle.pci_spec.specs.Text.{hex_digit, hex_byte, slot_text}
use Rattle.pci_spec.specs.Line.{hex_number}
use Rattle.pci_spec.specs.System.{Space, Io, Memory, Part, Bar, Rom, Window}
use Rattle.pci_spec.specs.Decoded.{Range}
use Rattle.pci_spec.specs.Listing.{range_text}
use Rattle.judge_spec.specs.Told.{Mark, Command, Always, Held, ToldRange, IsToldRange, IsTold, is_name_byte}
use Rattle.judge_spec.specs.ToldRegion.{ToldRegion, mark_word}
use Rattle.judge_spec.specs.MapText.{indent, part_name, told_part_name}
use Rattle.pci_map.specs.Lines.{isa_ending, name_ending}
use Rattle.pci_listing.proofs.HexPushes.{digit_ascii}
use Rattle.pci_listing.specs.Amounts.{unit_text}

left_true : (a b : Bool) → (a && b) ≡ true → a ≡ true
left_true true b t = refl
left_true false b t = t

right_true : (a b : Bool) → (a && b) ≡ true → b ≡ true
right_true true b t = t
right_true false b t = absurd (false≢true t)

abbrev are_ascii : List ℕ → Bool
are_ascii [] = true
are_ascii (c ∷ cs) = nat_lt c 128 && are_ascii cs

tested : (text : List ℕ) → are_ascii text ≡ true → IsAscii text
tested [] t i = omega arith
tested (c ∷ cs) t zero = ltb-true c 128 (left_true (nat_lt c 128) (are_ascii cs) t)
tested (c ∷ cs) t (suc i) = tested cs (right_true (nat_lt c 128) (are_ascii cs) t) i

pub none_ascii : IsAscii []
none_ascii i = omega arith

pub more_ascii : (c : ℕ) (cs : List ℕ) → c < 128 → IsAscii cs → IsAscii (c ∷ cs)
more_ascii c cs first others zero = first
more_ascii c cs first others (suc i) = others i

pub behind_ascii : (old new more : List ℕ) → IsAscii old → IsAscii more → new ≡ old ++ more → IsAscii new
behind_ascii old new more before behind is = subst IsAscii (sym is) (IsAscii-append old more before behind)

-- ---- digits

pub byte_ascii : (byte : ℕ) → byte < 256 → IsAscii (hex_byte byte)
byte_ascii byte small =
    more_ascii (hex_digit (byte / 16)) (hex_digit (byte % 16) ∷ []) (digit_ascii (byte / 16) (omega (arith, small)))
    (more_ascii (hex_digit (byte % 16)) [] (digit_ascii (byte % 16) (omega arith)) none_ascii)

number_ascii : (digits n : ℕ) → IsAscii (hex_number digits n)
number_ascii zero n = none_ascii
number_ascii (suc digits) n =
    IsAscii-append (hex_number digits (n / 16)) (hex_digit (n % 16) ∷ []) (number_ascii digits (n / 16))
    (more_ascii (hex_digit (n % 16)) [] (digit_ascii (n % 16) (omega arith)) none_ascii)

pub slot_ascii : (slot : Slot) → IsAscii (hex_byte slot.bus) → IsAscii (hex_byte slot.device) → slot.function < 16 → IsAscii (slot_text slot)
slot_ascii slot bus device small =
    IsAscii-append (hex_byte slot.bus) ((58 ∷ hex_byte slot.device) ++ (46 ∷ hex_digit slot.function ∷ [])) bus
    (more_ascii 58 (hex_byte slot.device ++ (46 ∷ hex_digit slot.function ∷ [])) (omega arith)
    (IsAscii-append (hex_byte slot.device) (46 ∷ hex_digit slot.function ∷ []) device
    (more_ascii 46 (hex_digit slot.function ∷ []) (omega arith)
    (more_ascii (hex_digit slot.function) [] (digit_ascii slot.function small) none_ascii))))

range_ascii : (space : Space) (r : Range) → IsAscii (range_text space r)
range_ascii Io r = IsAscii-append (hex_number 8 r.first) (45 ∷ hex_number 8 r.last) (number_ascii 8 r.first) (more_ascii 45 (hex_number 8 r.last) (omega arith) (number_ascii 8 r.last))
range_ascii Memory r = IsAscii-append (hex_number 16 r.first) (45 ∷ hex_number 16 r.last) (number_ascii 16 r.first) (more_ascii 45 (hex_number 16 r.last) (omega arith) (number_ascii 16 r.last))

-- ---- words

indent_ascii : (depth : ℕ) → IsAscii (indent depth)
unfolding indent
indent_ascii zero = none_ascii
indent_ascii (suc depth) = more_ascii 32 (32 ∷ indent depth) (omega arith) (more_ascii 32 (indent depth) (omega arith) (indent_ascii depth))

pub name_ascii : (part : Part) (prefetchable : Bool) → IsAscii (part_name part prefetchable)
name_ascii (Bar n) true = tested (codes "bar pref") refl
name_ascii (Bar n) false = tested (codes "bar") refl
name_ascii Rom prefetchable = tested (codes "rom") refl
name_ascii (Window kind) prefetchable = tested (codes "window") refl

pub isa_ascii : (cut : Bool) → IsAscii (isa_ending cut)
isa_ascii true = tested (codes " isa") refl
isa_ascii false = none_ascii

pub mark_ascii : (mark : Mark) → IsAscii (mark_word mark)
mark_ascii Command = tested (codes "told") refl
mark_ascii Always = tested (codes "told") refl
mark_ascii Held = tested (codes "held") refl

pref_ascii : (prefetchable : Bool) → IsAscii (if prefetchable then codes " pref" else [])
pref_ascii true = tested (codes " pref") refl
pref_ascii false = none_ascii

pub told_ascii : (x : ToldRegion) → IsAscii (told_part_name x)
told_ascii x = IsAscii-append (mark_word x.told.mark) (if x.told.prefetchable then codes " pref" else []) (mark_ascii x.told.mark) (pref_ascii x.told.prefetchable)

pub ending_ascii : (name : List ℕ) → IsAscii name → IsAscii (name_ending name)
ending_ascii [] is = none_ascii
ending_ascii (c ∷ name) is = more_ascii 32 (c ∷ name) (omega arith) is

pub name_bytes_ascii : (name : List ℕ) → All (λ c. IsTrue (is_name_byte c)) name → IsAscii name
name_bytes_ascii [] all = none_ascii
name_bytes_ascii (c ∷ name) all =
    let low = leb-true c 0x7e (right_true (nat_le 0x21 c) (nat_le c 0x7e) (all 0 c (omega arith))) in
    more_ascii c name (omega (arith, low)) (name_bytes_ascii name (λ k d within. all (suc k) d (omega (arith, within))))

-- each range of a text has addresses, and a name of ASCII
pub told_facts : (ranges : List ToldRange) → IsTold ranges → (i : ℕ) (r : ToldRange) → slice_get ranges i ≡ Some r → (r.first ≤ r.last) × IsAscii r.name
told_facts ranges lawful i r at =
    let is : IsToldRange r = subst IsToldRange (get_or_from_slice_get ranges i r r at) (lawful.each i r (slice_get_within ranges i r at)) in
    (is.forward, name_bytes_ascii r.name is.line.name.1)

pub unit_ascii : (unit : ℕ) → IsAscii (unit_text unit)
unit_ascii zero = none_ascii
unit_ascii (suc n) = more_ascii (slice_index (codes "KMGTPE") n) [] (tested (codes "KMGTPE") refl n) none_ascii

pub space_ascii : IsAscii (32 ∷ [])
space_ascii = tested (32 ∷ []) refl

pub end_ascii : IsAscii (10 ∷ [])
end_ascii = tested (10 ∷ []) refl

pub free_ascii : IsAscii (codes " free\n")
free_ascii = tested (codes " free\n") refl

pub extent_ascii : (depth : ℕ) (space : Space) (r : Range) (amount : List ℕ) → IsAscii amount → IsAscii (indent depth ++ (range_text space r ++ (32 ∷ amount)))
extent_ascii depth space r amount is =
    IsAscii-append (indent depth) (range_text space r ++ (32 ∷ amount)) (indent_ascii depth)
    (IsAscii-append (range_text space r) (32 ∷ amount) (range_ascii space r) (more_ascii 32 amount (omega arith) is))
