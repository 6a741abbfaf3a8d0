-- Words of lists, of slots and of what is taken are UTF-8, so bytes that aren't are no such words.
use Rattle.std.proofs.Common.{◌≡◌, ℕ, zero, suc, ◌+◌, ◌/◌, ◌%◌, ◌<◌, nat_lt, Bool, true, false, List, [], ◌∷◌, ◌++◌, drop, length, codes, Option, None, Some, refl, sym, ap, subst, arith, inl, inr}
use Rattle.std.specs.Prelude.{IfSome, ◌==◌}
use Rattle.std.specs.List.{list_all}
use Rattle.std.specs.Str.{IsUtf8, IsAscii}
use Rattle.std.proofs.Math.Nat.{mod-lt}
use Rattle.std.proofs.lemmas.Bool.{and_parts, cases_lt, lt-ltb, ltb-true, le-ltb, cond-true, cond-false}
use Rattle.std.proofs.lemmas.Str.{IsUtf8-append, IsUtf8-from_ascii, IsUtf8-nil}
use Rattle.pci_spec.specs.Slot.{Slot}
use Rattle.pci_spec.specs.Text.{hex_byte, hex_digit}
use Rattle.pci_spec.specs.Window.{WindowKind, IoWindow, MemoryWindow, PrefetchWindow}
use Rattle.pci_spec.specs.Line.{hex_number, window_name}
use Rattle.judge_spec.specs.Words.{Vga, Vga16}
use Rattle.judge_spec.specs.ModelWords.{Words, Name, Cardbus, Ide, Isa, Power, Reset, Snoop, Subtractive, Unclaimed, Unnumbered, Legacy, Windows, name_text}
use Rattle.pci_base.specs.declared.range.Range.{Range}
use Rattle.pci_base.specs.declared.range.RootRange.{RootRange}
use Rattle.pciplan_lists.specs.Joined.{AreJoined}
use Rattle.pciplan_lists.specs.PoolWords.{IsAddressWord, IsPoolWord}
use Rattle.pciplan_lists.specs.ListWords.{IsListWord, IsRangeWord, bus_text}
use Rattle.pciplan_lists.specs.ModelWords.{IsModelWord, IsNameWord}
use Rattle.pciplan_lists.specs.SlotWords.{IsSlotWord}
use Rattle.pciplan_lists.specs.SpareWords.{Wanted, IsWantedWord, wanted_size, said}
use Rattle.pciplan_c.specs.FaultsWords.{HasNoHostRanges, HasNoModelWords}
use Rattle.pciplan_c.specs.SettleWords.{HasNoHotPlugSlots, HasNoList, HasNoSlots, HasNoSpares}

one : (byte : ℕ) → byte < 128 → IsAscii (byte ∷ [])
one byte small zero = small
one byte small (suc i) = omega arith

-- a byte before others
before : (byte : ℕ) (rest : List ℕ) → byte < 128 → IsUtf8 rest → IsUtf8 (byte ∷ rest)
before byte rest small is = IsUtf8-append (byte ∷ []) rest (IsUtf8-from_ascii (byte ∷ []) (one byte small)) is

digit_small : (d : ℕ) → d < 16 → hex_digit d < 128
digit_small d small = elim (cases_lt d 10) [
  | inl low ↦ (let is : hex_digit d ≡ 48 + d = cond-true (nat_lt d 10) _ _ (lt-ltb d 10 low) in omega (arith, is, small))
  | inr high ↦ (let is : hex_digit d ≡ 87 + d = cond-false (nat_lt d 10) _ _ (le-ltb d 10 high) in omega (arith, is, small))
]

byte_utf8 : (n : ℕ) → n < 256 → IsUtf8 (hex_byte n)
byte_utf8 n small =
    before (hex_digit (n / 16)) (hex_digit (n % 16) ∷ []) (digit_small (n / 16) (omega (arith, small)))
    (before (hex_digit (n % 16)) [] (digit_small (n % 16) (mod-lt n {m = 16} (omega arith))) IsUtf8-nil)

number_utf8 : (digits n : ℕ) → IsUtf8 (hex_number digits n)
number_utf8 zero n = IsUtf8-nil
number_utf8 (suc digits) n =
    IsUtf8-append (hex_number digits (n / 16)) (hex_digit (n % 16) ∷ []) (number_utf8 digits (n / 16))
    (before (hex_digit (n % 16)) [] (digit_small (n % 16) (mod-lt n {m = 16} (omega arith))) IsUtf8-nil)

address_utf8 : (word : List ℕ) (address : ℕ) → IsAddressWord word address → IsUtf8 word
address_utf8 word address is = subst (λ w. IsUtf8 w) (sym is.text) (number_utf8 is.digits address)

pool_utf8 : (word : List ℕ) (pool : Range) → IsPoolWord word pool → IsUtf8 word
pool_utf8 word pool is = subst (λ w. IsUtf8 w) (sym is.parts)
    (IsUtf8-append is.first (45 ∷ is.last) (address_utf8 is.first pool.first is.from)
    (before 45 is.last (omega arith) (address_utf8 is.last pool.last is.to)))

bus_utf8 : (root : Option ℕ) → IfSome root (λ bus. bus < 256) → IsUtf8 (bus_text root)
bus_utf8 None below = IsUtf8-nil
bus_utf8 (Some bus) below = IsUtf8-append (hex_byte bus) (58 ∷ []) (byte_utf8 bus below) (before 58 [] (omega arith) IsUtf8-nil)

range_utf8 : (word : List ℕ) (r : RootRange) → IsRangeWord word r → IsUtf8 word
range_utf8 word r is = subst (λ w. IsUtf8 w) (sym is.text)
    (IsUtf8-append (bus_text r.root) is.addresses (bus_utf8 r.root is.below) (pool_utf8 is.addresses r.range is.range))

slot_utf8 : (word : List ℕ) (s : Slot) → IsSlotWord word s → IsUtf8 word
slot_utf8 word s is = subst (λ w. IsUtf8 w) (sym is.1)
    (IsUtf8-append (hex_byte s.bus) ((58 ∷ hex_byte s.device) ++ (46 ∷ hex_digit s.function ∷ [])) (byte_utf8 s.bus (omega (arith, is.0.0)))
    (before 58 (hex_byte s.device ++ (46 ∷ hex_digit s.function ∷ [])) (omega arith)
    (IsUtf8-append (hex_byte s.device) (46 ∷ hex_digit s.function ∷ []) (byte_utf8 s.device (omega (arith, is.0.1)))
    (before 46 (hex_digit s.function ∷ []) (omega arith)
    (before (hex_digit s.function) [] (digit_small s.function (omega (arith, is.0.2))) IsUtf8-nil)))))

-- ---- words that are joined by commas

joined_utf8 : {X : Type 0} (IsWord : List ℕ → X → Type 0) → ((word : List ℕ) (x : X) → IsWord word x → IsUtf8 word)
    → (text : List ℕ) (xs : List X) → AreJoined IsWord text xs → IsUtf8 text
joined_utf8 IsWord each text [] are = subst (λ t. IsUtf8 t) (sym are) IsUtf8-nil
joined_utf8 IsWord each text (x ∷ more) (rest, ahead, are) = subst (λ t. IsUtf8 t) (sym ahead.parts)
    (before 44 (ahead.word ++ rest) (omega arith)
    (IsUtf8-append ahead.word rest (each ahead.word x ahead.is) (joined_utf8 IsWord each rest more are)))

-- what stands behind the first comma
behind_utf8 : {X : Type 0} (IsWord : List ℕ → X → Type 0) → ((word : List ℕ) (x : X) → IsWord word x → IsUtf8 word)
    → (word : List ℕ) (xs : List X) → AreJoined IsWord (44 ∷ word) xs → IsUtf8 word
behind_utf8 IsWord each word [] are = absurd (omega (arith, ap length are))
behind_utf8 IsWord each word (x ∷ more) (rest, ahead, are) = subst (λ t. IsUtf8 t) (sym (ap (drop 1) ahead.parts))
    (IsUtf8-append ahead.word rest (each ahead.word x ahead.is) (joined_utf8 IsWord each rest more are))

none_utf8 : IsUtf8 (codes "none")
none_utf8 =
    before 110 (111 ∷ 110 ∷ 101 ∷ []) (omega arith) (before 111 (110 ∷ 101 ∷ []) (omega arith)
    (before 110 (101 ∷ []) (omega arith) (before 101 [] (omega arith) IsUtf8-nil)))

list_utf8 : (word : List ℕ) (list : List RootRange) → IsListWord word list → IsUtf8 word
list_utf8 word [] is = subst (λ w. IsUtf8 w) (sym is) none_utf8
list_utf8 word (r ∷ more) is = behind_utf8 IsRangeWord range_utf8 word (r ∷ more) is

-- ---- words of what is wanted behind hot-plug slots

class_utf8 : (c : WindowKind) → IsUtf8 (window_name c)
class_utf8 IoWindow = before 105 (111 ∷ []) (omega arith) (before 111 [] (omega arith) IsUtf8-nil)
class_utf8 MemoryWindow = before 109 (101 ∷ 109 ∷ []) (omega arith) (before 101 (109 ∷ []) (omega arith) (before 109 [] (omega arith) IsUtf8-nil))
class_utf8 PrefetchWindow =
    before 112 (114 ∷ 101 ∷ 102 ∷ []) (omega arith) (before 114 (101 ∷ 102 ∷ []) (omega arith)
    (before 101 (102 ∷ []) (omega arith) (before 102 [] (omega arith) IsUtf8-nil)))

wanted_utf8 : (word : List ℕ) (w : Wanted) → IsWantedWord word w → IsUtf8 word
wanted_utf8 word w is = subst (λ t. IsUtf8 t) (sym is.text)
    (IsUtf8-append (window_name w.class) (58 ∷ is.digits) (class_utf8 w.class)
    (before 58 is.digits (omega arith) (address_utf8 is.digits (wanted_size w) is.size)))

-- ---- words by which functions are taken

plain_utf8 : (text : List ℕ) → list_all (λ b. nat_lt b 128) text ≡ true → IsUtf8 text
plain_utf8 [] all = IsUtf8-nil
plain_utf8 (x ∷ text) all =
    let parts = and_parts (nat_lt x 128) (list_all (λ b. nat_lt b 128) text) all in
    before x text (ltb-true x 128 parts.0) (plain_utf8 text parts.1)

all_plain : (n : Name) → list_all (λ b. nat_lt b 128) (name_text n) ≡ true
all_plain Cardbus = refl
all_plain Ide = refl
all_plain Isa = refl
all_plain Power = refl
all_plain Reset = refl
all_plain Snoop = refl
all_plain Subtractive = refl
all_plain Unclaimed = refl
all_plain Unnumbered = refl
all_plain (Legacy Vga) = refl
all_plain (Legacy Vga16) = refl
all_plain Windows = refl

name_utf8 : (word : List ℕ) (n : Name) → IsNameWord word n → IsUtf8 word
name_utf8 word n is = subst (λ w. IsUtf8 w) (sym is) (plain_utf8 (name_text n) (all_plain n))

model_utf8 : (word : List ℕ) (w : Words) → IsModelWord word w → IsUtf8 word
model_utf8 word w (inl all) = subst (λ t. IsUtf8 t) (sym all.0) (plain_utf8 (codes "all") refl)
model_utf8 word w (inr list) = behind_utf8 IsNameWord name_utf8 word list.names list.joined

-- ---- bytes that aren't UTF-8

pub no_list : (word : List ℕ) → (IsUtf8 word → ⊥) → HasNoList word
no_list word other = λ list is. other (list_utf8 word list is)

pub no_slots : (word : List ℕ) → (IsUtf8 word → ⊥) → HasNoSlots word
no_slots [] other = λ slots is. other IsUtf8-nil
no_slots (byte ∷ more) other = λ slots is. other (behind_utf8 IsSlotWord slot_utf8 (byte ∷ more) slots is.joined)

pub no_spares : (word : List ℕ) → (IsUtf8 word → ⊥) → HasNoSpares word
no_spares [] other = λ sizes is. other IsUtf8-nil
no_spares (byte ∷ more) other = λ sizes is. other (behind_utf8 IsWantedWord wanted_utf8 (byte ∷ more) (said sizes) is)

-- slots are named beside spares alone
pub none_beside : (byte : ℕ) (more : List ℕ) → HasNoHotPlugSlots [] (byte ∷ more)
none_beside byte more slots is = is

pub no_hot_plug_slots : (spare word : List ℕ) → (IsUtf8 word → ⊥) → HasNoHotPlugSlots spare word
no_hot_plug_slots spare [] other slots is = other IsUtf8-nil
no_hot_plug_slots [] (byte ∷ more) other slots is = is
no_hot_plug_slots (first ∷ rest) (byte ∷ more) other None is = is
no_hot_plug_slots (first ∷ rest) (byte ∷ more) other (Some slots) is =
    other (behind_utf8 IsSlotWord slot_utf8 (byte ∷ more) slots is.joined)

pub no_words : (word : List ℕ) → (IsUtf8 word → ⊥) → HasNoModelWords word
no_words [] other = other IsUtf8-nil
no_words (byte ∷ more) other = λ words is. other (model_utf8 (byte ∷ more) words is)

-- a word that has a byte, and is read as no words
pub none_read : (word text : List ℕ) (empty : Bool) → empty ≡ (length word == 0) → empty ≡ false → text ≡ word
    → ((words : Words) → IsModelWord text words → ⊥) → HasNoModelWords word
none_read [] text empty is some same none = absurd (cc (is, some))
none_read (byte ∷ more) text empty is some same none = λ words named. none words (subst (λ t. IsModelWord t words) (sym same) named)

pub no_ranges : (word roots : List ℕ) → (IsUtf8 word → ⊥) → HasNoHostRanges word roots
no_ranges [] roots other = other IsUtf8-nil
no_ranges (byte ∷ more) roots other = λ list is good. other (list_utf8 (byte ∷ more) list is)
