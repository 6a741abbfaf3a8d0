-- The word of `--spare`: which part is of which class.
use Rattle.std.proofs.Common.{◌≡◌, ℕ, zero, suc, ◌<◌, List, [], ◌∷◌, ◌++◌, length, get_or, drop, Option, None, Some, Bor, refl, sym, ◌∙◌, ap, subst, arith, MatchOption}
use Rattle.std.proofs.lemmas.List.{append-nil}
use Rattle.std.proofs.lemmas.Str.Pattern.{IsSplitOnceResult, split_after}
use Rattle.pci_spec.specs.Window.{WindowKind, IoWindow, MemoryWindow, PrefetchWindow, window_register}
use Rattle.pci_spec.specs.Line.{window_name}
use Rattle.pci_base.specs.declared.window_kind.ByKind.{ByKind}
use Rattle.pciplan_lists.specs.PoolWords.{IsAddressWord}
use Rattle.pciplan_lists.specs.Joined.{AreJoined, rest_with_comma}
use Rattle.pciplan_lists.specs.SpareWords.{Wanted, IsWantedWord, said_of, wanted_size, IsSpareWord, IsDigitsOf, StartsOtherwise, HasFirst, HasNoFirst}
use Rattle.pciplan_lists.proofs.Joined.{IsFirst, behind_part, first_same}
use Rattle.pciplan_lists.proofs.PoolWords.{address_same}
use Rattle.pciplan_lists.proofs.RangeWords.{no_comma, without_address}
use Rattle.pciplan_lists.proofs.Without.{Without, cut_same, without_one, without_both}

-- ---- the word of a part

name_without : (byte : ℕ) → byte < 97 → (c : WindowKind) → Without byte (window_name c)
name_without byte below IoWindow = without_one byte 105 (111 ∷ []) (omega (arith, below)) (without_one byte 111 [] (omega (arith, below)) (λ i inside. absurd (omega (arith, inside))))
name_without byte below MemoryWindow =
    without_one byte 109 (101 ∷ 109 ∷ []) (omega (arith, below)) (without_one byte 101 (109 ∷ []) (omega (arith, below))
    (without_one byte 109 [] (omega (arith, below)) (λ i inside. absurd (omega (arith, inside)))))
name_without byte below PrefetchWindow =
    without_one byte 112 (114 ∷ 101 ∷ 102 ∷ []) (omega (arith, below)) (without_one byte 114 (101 ∷ 102 ∷ []) (omega (arith, below))
    (without_one byte 101 (102 ∷ []) (omega (arith, below)) (without_one byte 102 [] (omega (arith, below)) (λ i inside. absurd (omega (arith, inside))))))

pub name_without_colon : (c : WindowKind) → Without 58 (window_name c)
name_without_colon c = name_without 58 (omega arith) c

-- no comma stands in the word of a part
pub wanted_without_comma : (word : List ℕ) (w : Wanted) → IsWantedWord word w → Without 44 word
wanted_without_comma word w is = subst (λ t. Without 44 t) (sym is.text)
    (without_both 44 (window_name w.class) (58 ∷ is.digits) (name_without 44 (omega arith) w.class)
    (without_one 44 58 is.digits (omega arith) (without_address 44 no_comma is.digits (wanted_size w) is.size)))

-- where a word is cut, what stands before the colon is the name of its class
pub name_cut : (word : List ℕ) (cut : Option (Bor (List ℕ) × Bor (List ℕ))) → IsSplitOnceResult 58 word cut → (c : WindowKind) (digits : List ℕ)
    → IsDigitsOf word c digits → MatchOption cut ⊥ (λ parts. (parts.0.now ≡ window_name c) × (parts.1.now ≡ digits))
name_cut word None result c digits is = absurd (split_after 58 word (window_name c) digits None result (omega arith) is (name_without_colon c))
name_cut word (Some parts) result c digits is = split_after 58 word (window_name c) digits (Some parts) result (omega arith) is (name_without_colon c)

-- ---- the first part of a list

none_back : (c : WindowKind) (n : ℕ) (more : List Wanted) → AreJoined IsWantedWord [] (said_of c n ++ more)
    → (n ≡ 0) × AreJoined IsWantedWord [] more
none_back c zero more are = (refl, are)
none_back c (suc n) more are = absurd (omega (arith, ap length are.1.parts))

-- nothing is left
pub nothing_first : (c : WindowKind) → HasFirst None c 0 None
nothing_first c = record { on = λ more are. are; back = λ n more other are. none_back c n more are }

name_same : (c e : WindowKind) → window_name c ≡ window_name e → c ≡ e
name_same IoWindow IoWindow same = refl
name_same MemoryWindow MemoryWindow same = refl
name_same PrefetchWindow PrefetchWindow same = refl
name_same IoWindow MemoryWindow same = absurd (omega (arith, ap (λ t. get_or t 0 0) same))
name_same IoWindow PrefetchWindow same = absurd (omega (arith, ap (λ t. get_or t 0 0) same))
name_same MemoryWindow IoWindow same = absurd (omega (arith, ap (λ t. get_or t 0 0) same))
name_same MemoryWindow PrefetchWindow same = absurd (omega (arith, ap (λ t. get_or t 0 0) same))
name_same PrefetchWindow IoWindow same = absurd (omega (arith, ap (λ t. get_or t 0 0) same))
name_same PrefetchWindow MemoryWindow same = absurd (omega (arith, ap (λ t. get_or t 0 0) same))

-- a word is of one class, with one number
digits_same : (word : List ℕ) (c e : WindowKind) (digits other : List ℕ) → IsDigitsOf word c digits → IsDigitsOf word e other
    → (c ≡ e) × (digits ≡ other)
digits_same word c e digits other one two =
    let cut = cut_same 58 (window_name c) (window_name e) (58 ∷ digits) (58 ∷ other) (name_without_colon c) (name_without_colon e) (λ some. refl) (λ some. refl)
    (sym one ∙ two) in
    (name_same c e cut.0, ap (λ t. drop 1 t) cut.1)

-- what is left begins with a part, which has no comma
pub record BeginsWith (left : Option (Bor (List ℕ))) (first : List ℕ) (more : Option (Bor (List ℕ))) : Type 0 where
  pub parts : rest_with_comma left ≡ 44 ∷ (first ++ rest_with_comma more)
  pub clean : Without 44 first

first_is : (left : Option (Bor (List ℕ))) (first : List ℕ) (more : Option (Bor (List ℕ))) → BeginsWith left first more → (w : Wanted) (list : List Wanted)
    → AreJoined IsWantedWord (rest_with_comma left) (w ∷ list) → IsFirst IsWantedWord wanted_without_comma first (rest_with_comma more) w list
first_is left first more begins w list are =
    first_same IsWantedWord wanted_without_comma first (rest_with_comma more) w list begins.clean (behind_part more)
    (subst (λ t. AreJoined IsWantedWord t (w ∷ list)) begins.parts are)

-- of another class
other_back : (left : Option (Bor (List ℕ))) (first : List ℕ) (more : Option (Bor (List ℕ))) → BeginsWith left first more → (c : WindowKind)
    → ((digits : List ℕ) → IsDigitsOf first c digits → ⊥) → (n : ℕ) (list : List Wanted)
    → AreJoined IsWantedWord (rest_with_comma left) (said_of c n ++ list) → (n ≡ 0) × AreJoined IsWantedWord (rest_with_comma left) list
other_back left first more begins c none zero list are = (refl, are)
other_back left first more begins c none (suc n) list are =
    let f = first_is left first more begins (record { class = c; before = n }) list are in
    absurd (none f.is.digits f.is.text)

pub other_first : (left : Option (Bor (List ℕ))) (first : List ℕ) (more : Option (Bor (List ℕ))) → BeginsWith left first more → (c : WindowKind)
    → ((digits : List ℕ) → IsDigitsOf first c digits → ⊥) → HasFirst left c 0 left
other_first left first more begins c none = record {
  on = λ list are. are;
  back = λ n list other are. other_back left first more begins c none n list are;
}

-- what begins with a part of a class is of no list that begins otherwise
begins_so : (left : Option (Bor (List ℕ))) (first : List ℕ) (more : Option (Bor (List ℕ))) → BeginsWith left first more → (c : WindowKind) (digits : List ℕ)
    → IsDigitsOf first c digits → (list : List Wanted) → StartsOtherwise c list → AreJoined IsWantedWord (rest_with_comma left) list → ⊥
begins_so left first more begins c digits is [] other are = omega (arith, ap length (sym begins.parts ∙ are))
begins_so left first more begins c digits is (w ∷ list) other are =
    let f = first_is left first more begins w list are in
    other (digits_same first w.class c f.is.digits digits f.is.text is).0

-- a part of the class with no number
pub bad_first_size : (left : Option (Bor (List ℕ))) (first : List ℕ) (more : Option (Bor (List ℕ))) → BeginsWith left first more → (c : WindowKind) (digits : List ℕ)
    → IsDigitsOf first c digits → ((n : ℕ) → 0 < n → IsAddressWord digits n → ⊥) → HasNoFirst left c
bad_first_size left first more begins c digits is bad zero list other are = begins_so left first more begins c digits is list other are
bad_first_size left first more begins c digits is bad (suc n) list other are =
    let f = first_is left first more begins (record { class = c; before = n }) list are in
    bad (suc n) (omega arith) (subst (λ d. IsAddressWord d (suc n)) (digits_same first c c f.is.digits digits f.is.text is).1 f.is.size)

-- one with a number
size_on : (left : Option (Bor (List ℕ))) (first : List ℕ) (more : Option (Bor (List ℕ))) → BeginsWith left first more → (c : WindowKind) (digits : List ℕ)
    → IsDigitsOf first c digits → (size : ℕ) → 0 < size → IsAddressWord digits size → (list : List Wanted)
    → AreJoined IsWantedWord (rest_with_comma more) list → AreJoined IsWantedWord (rest_with_comma left) (said_of c size ++ list)
size_on left first more begins c digits is zero some number list are = absurd (omega (arith, some))
size_on left first more begins c digits is (suc n) some number list are = (
  rest_with_comma more,
  record { word = first; is = record { digits = digits; text = is; size = number }; parts = begins.parts },
  are,
)

size_back : (left : Option (Bor (List ℕ))) (first : List ℕ) (more : Option (Bor (List ℕ))) → BeginsWith left first more → (c : WindowKind) (digits : List ℕ)
    → IsDigitsOf first c digits → (size : ℕ) → IsAddressWord digits size → (n : ℕ) (list : List Wanted) → StartsOtherwise c list
    → AreJoined IsWantedWord (rest_with_comma left) (said_of c n ++ list) → (n ≡ size) × AreJoined IsWantedWord (rest_with_comma more) list
size_back left first more begins c digits is size number zero list other are = absurd (begins_so left first more begins c digits is list other are)
size_back left first more begins c digits is size number (suc n) list other are =
    let f = first_is left first more begins (record { class = c; before = n }) list are in
    let same = digits_same first c c f.is.digits digits f.is.text is in
    (address_same digits (suc n) size (subst (λ d. IsAddressWord d (suc n)) same.1 f.is.size) number, f.are)

pub size_first : (left : Option (Bor (List ℕ))) (first : List ℕ) (more : Option (Bor (List ℕ))) → BeginsWith left first more → (c : WindowKind) (digits : List ℕ)
    → IsDigitsOf first c digits → (size : ℕ) → 0 < size → IsAddressWord digits size → HasFirst left c size more
size_first left first more begins c digits is size some number = record {
  on = size_on left first more begins c digits is size some number;
  back = λ n list other are. size_back left first more begins c digits is size number n list other are;
}

-- ---- all three

behind_io : (memory prefetchable : ℕ) → StartsOtherwise IoWindow (said_of MemoryWindow memory ++ said_of PrefetchWindow prefetchable)
behind_io zero zero = tt
behind_io zero (suc n) = λ e. omega (arith, ap window_register e)
behind_io (suc n) p = λ e. omega (arith, ap window_register e)

behind_memory : (prefetchable : ℕ) → StartsOtherwise MemoryWindow (said_of PrefetchWindow prefetchable)
behind_memory zero = tt
behind_memory (suc n) = λ e. omega (arith, ap window_register e)

module _ (word : Bor (List ℕ)) (io : ℕ) (left : Option (Bor (List ℕ))) (one : HasFirst (Some word) IoWindow io left) where
  io_back : (sizes : ByKind ℕ) → IsSpareWord word.now sizes
      → (sizes.io ≡ io) × AreJoined IsWantedWord (rest_with_comma left) (said_of MemoryWindow sizes.memory ++ said_of PrefetchWindow sizes.prefetchable)
  io_back sizes are = one.back sizes.io (said_of MemoryWindow sizes.memory ++ said_of PrefetchWindow sizes.prefetchable)
      (behind_io sizes.memory sizes.prefetchable) are

  pub no_memory : HasNoFirst left MemoryWindow → (sizes : ByKind ℕ) → IsSpareWord word.now sizes → ⊥
  no_memory none sizes are =
      none sizes.memory (said_of PrefetchWindow sizes.prefetchable) (behind_memory sizes.prefetchable) (io_back sizes are).1

  module _ (memory : ℕ) (rest : Option (Bor (List ℕ))) (two : HasFirst left MemoryWindow memory rest) where
    memory_back : (sizes : ByKind ℕ) → IsSpareWord word.now sizes
        → (sizes.memory ≡ memory) × AreJoined IsWantedWord (rest_with_comma rest) (said_of PrefetchWindow sizes.prefetchable ++ [])
    memory_back sizes are =
        let back = two.back sizes.memory (said_of PrefetchWindow sizes.prefetchable) (behind_memory sizes.prefetchable) (io_back sizes are).1 in
        (back.0, subst (λ l. AreJoined IsWantedWord (rest_with_comma rest) l) (sym (append-nil (said_of PrefetchWindow sizes.prefetchable))) back.1)

    pub no_prefetchable : HasNoFirst rest PrefetchWindow → (sizes : ByKind ℕ) → IsSpareWord word.now sizes → ⊥
    no_prefetchable none sizes are = none sizes.prefetchable [] tt (memory_back sizes are).1

    module _ (prefetchable : ℕ) (end : Option (Bor (List ℕ))) (three : HasFirst rest PrefetchWindow prefetchable end) where
      all_back : (sizes : ByKind ℕ) → IsSpareWord word.now sizes → (sizes.prefetchable ≡ prefetchable) × (rest_with_comma end ≡ [])
      all_back sizes are = three.back sizes.prefetchable [] tt (memory_back sizes are).1

      pub more_left : (more : Bor (List ℕ)) → end ≡ Some more → (sizes : ByKind ℕ) → IsSpareWord word.now sizes → ⊥
      more_left more is sizes are = omega (arith, ap length (sym (ap rest_with_comma is) ∙ (all_back sizes are).1))

      pub sizes_only : (sizes : ByKind ℕ) → IsSpareWord word.now sizes
          → Some (record { io = io; memory = memory; prefetchable = prefetchable }) ≡ Some sizes
      sizes_only sizes are =
          let of_io = (io_back sizes are).0 in
          let of_memory = (memory_back sizes are).0 in
          let of_prefetchable = (all_back sizes are).0 in
          λ i. Some record { io = (sym of_io) i; memory = (sym of_memory) i; prefetchable = (sym of_prefetchable) i }

      pub sizes_said : end ≡ None → IsSpareWord word.now (record { io = io; memory = memory; prefetchable = prefetchable })
      sizes_said none =
          one.on (said_of MemoryWindow memory ++ said_of PrefetchWindow prefetchable)
          (two.on (said_of PrefetchWindow prefetchable)
          (subst (λ l. AreJoined IsWantedWord (rest_with_comma rest) l) (append-nil (said_of PrefetchWindow prefetchable))
          (three.on [] (ap rest_with_comma none))))
