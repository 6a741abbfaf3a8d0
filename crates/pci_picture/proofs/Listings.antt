-- The functions that a text lists, while it is read.
use Rattle.std.proofs.Common.{◌≡◌, ◌≤◌, ◌<◌, ◌+◌, ◌-◌, ℕ, zero, suc, true, false, List, [], ◌∷◌, ◌++◌, fold, length, get_or, set, take, refl, sym, ap, subst, ◌∙◌, arith, ◌⊎◌, inl, inr}
use Rattle.std.specs.List.{before_first, after_first, position_or_len, slice_split}
use Rattle.std.specs.List.Sorted.{IsPermutation, IsNonDecreasingBy}
use Rattle.std.proofs.lemmas.Bool.{cases_lt, ne_eqb}
use Rattle.std.proofs.lemmas.List.{drop_all, get_or-map, get_or_default, length-drop, length-map, length-take, map-append, take_all}
use Rattle.std.proofs.lemmas.List.Sorted.{IsPermutation-map}
use Rattle.std.proofs.lemmas.List.Splits.{slice_split_first, slice_split_none}
use Rattle.std.proofs.lemmas.List.Sums.{fails_before_first}
use Rattle.pci_picture.specs.Lines.{is_feed, is_slot}
use Rattle.pci_picture.specs.Listings.{AreFunctionsListed, bridge_with, functions_listed, is_bus_line, is_function_line, list_line, function_of_line, told_buses, with_buses}
use Rattle.pci_picture.specs.Roots.{Listed, listed_function, listed_functions}
use Rattle.pci_picture.specs.declared.function.Buses.{Buses}
use Rattle.pci_picture.specs.declared.function.Function.{Function}

-- the last function of a list has other buses
pub last_set : (functions : List Function) (function : Function) (buses : Buses)
    → (0 < length functions → listed_function function ≡ bridge_with (listed_function (get_or functions (length functions - 1) function)) buses)
    → listed_functions (set functions (length functions - 1) function) ≡ with_buses (listed_functions functions) buses
last_set [] function buses same = refl
last_set (one ∷ []) function buses same = ap (λ f. f ∷ []) (same (omega arith))
last_set (one ∷ next ∷ functions) function buses same =
    let more : length (one ∷ next ∷ functions) - 1 ≡ suc (length (next ∷ functions) - 1) = omega arith in
    ap (λ n. listed_functions (set (one ∷ next ∷ functions) n function)) more
    ∙ ap (λ l. listed_function one ∷ l)
    (last_set (next ∷ functions) function buses
    (λ some. same (omega arith) ∙ ap (λ n. bridge_with (listed_function (get_or (one ∷ next ∷ functions) n function)) buses) more))

-- an empty line lists nothing
empty_line : (functions : List Listed) → list_line functions [] ≡ functions
unfolding is_function_line is_bus_line is_slot
empty_line functions = refl

-- lines that are read one behind the other, where an empty line changes nothing
module _ (take_line : List Listed → List ℕ → List Listed) (empty : (functions : List Listed) → take_line functions [] ≡ functions) where
  pub all_taken : (functions all : List Listed) (rest : List ℕ) → length rest ≤ 0 → fold take_line functions (slice_split is_feed rest) ≡ all
      → functions ≡ all
  all_taken functions all [] none is = sym (empty functions) ∙ is
  all_taken functions all (b ∷ rest) none is = absurd (omega (arith, none))

  pub line_taken : (before after all : List Listed) (rest line behind : List ℕ) → line ≡ before_first is_feed rest → behind ≡ after_first is_feed rest
      → after ≡ take_line before line → fold take_line before (slice_split is_feed rest) ≡ all
      → fold take_line after (slice_split is_feed behind) ≡ all
  line_taken before after all rest line behind is_line is_behind step was = elim (cases_lt (position_or_len is_feed rest) (length rest)) [
    | inl found ↦
        ap (λ f. fold take_line f (slice_split is_feed behind)) (step ∙ ap (take_line before) is_line)
        ∙ ap (λ l. fold take_line (take_line before (before_first is_feed rest)) (slice_split is_feed l)) is_behind
        ∙ sym (ap (fold take_line before) (slice_split_first is_feed rest 0 found))
        ∙ was
    | inr none ↦
        let whole : line ≡ rest = is_line ∙ take_all (position_or_len is_feed rest) rest none in
        let nothing : behind ≡ [] = is_behind ∙ drop_all (position_or_len is_feed rest + 1) rest (omega (arith, none)) in
        ap (λ l. fold take_line after (slice_split is_feed l)) nothing
        ∙ empty after ∙ step ∙ ap (take_line before) whole
        ∙ sym (ap (fold take_line before) (slice_split_none is_feed rest (λ k d inside. fails_before_first is_feed rest k d (omega (arith, inside, none)))))
        ∙ was
  ]

pub all_read : (functions : List Listed) (rest show : List ℕ) → length rest ≤ 0 → fold list_line functions (slice_split is_feed rest) ≡ functions_listed show
    → functions ≡ functions_listed show
all_read functions rest show none is = all_taken list_line empty_line functions (functions_listed show) rest none is

pub line_read : (before after : List Listed) (rest line behind show : List ℕ) → line ≡ before_first is_feed rest → behind ≡ after_first is_feed rest
    → after ≡ list_line before line → fold list_line before (slice_split is_feed rest) ≡ functions_listed show
    → fold list_line after (slice_split is_feed behind) ≡ functions_listed show
line_read before after rest line behind show = line_taken list_line empty_line before after (functions_listed show) rest line behind

-- it is shorter than what is left
pub behind_shorter : (rest behind : List ℕ) → behind ≡ after_first is_feed rest → 0 < length rest → length behind < length rest
behind_shorter rest behind is some =
    let long : length behind ≡ length rest - (position_or_len is_feed rest + 1) = ap length is ∙ length-drop (position_or_len is_feed rest + 1) rest in
    omega (arith, long, some)

rises_listed : (functions : List Function) → IsNonDecreasingBy (λ (function : Function). function.number) functions
    → IsNonDecreasingBy (λ (function : Listed). function.slot) (listed_functions functions)
rises_listed [] rises i j d up inside = absurd (omega (arith, inside))
rises_listed (function ∷ functions) rises i j d up inside =
    let all : List Function = function ∷ functions in
    let long : length (listed_functions all) ≡ length all = length-map all listed_function in
    let low : (get_or (listed_functions all) i d).slot ≡ (get_or all i function).number =
    ap (λ f. f.slot) (get_or-map listed_function all i function d (omega (arith, up, inside, long))) in
    let high : (get_or (listed_functions all) j d).slot ≡ (get_or all j function).number =
    ap (λ f. f.slot) (get_or-map listed_function all j function d (omega (arith, inside, long))) in
    let less : (get_or all i function).number ≤ (get_or all j function).number = rises i j function up (omega (arith, inside, long)) in
    omega (arith, low, high, less)

pub by_slot : (functions sorted : List Function) (show : List ℕ) → listed_functions functions ≡ functions_listed show → IsPermutation functions sorted
    → IsNonDecreasingBy (λ (function : Function). function.number) sorted → AreFunctionsListed show (listed_functions sorted)
by_slot functions sorted show is moved rises = record {
  all = subst (λ l. IsPermutation l (listed_functions sorted)) is (IsPermutation-map listed_function functions sorted moved);
  sorted = rises_listed sorted rises;
}

-- ---- one line

pub line_function : (functions after : List Function) (function : Function) (line : List ℕ) → after ≡ functions ++ function ∷ []
    → is_function_line line ≡ true → listed_function function ≡ function_of_line line
    → listed_functions after ≡ list_line (listed_functions functions) line
line_function functions after function line new is told =
    ap listed_functions new ∙ map-append listed_function functions (function ∷ [])
    ∙ ap (λ f. listed_functions functions ++ f ∷ []) told
    ∙ rw is refl

pub line_buses : (functions after : List Function) (function old : Function) (at : ℕ) (line : List ℕ) → after ≡ set functions at function
    → at + 1 ≡ length functions → old ≡ get_or functions at old → listed_function function ≡ bridge_with (listed_function old) (told_buses line)
    → is_function_line line ≡ false → is_bus_line line ≡ true
    → listed_functions after ≡ list_line (listed_functions functions) line
line_buses functions after function old at line new last found same none is =
    let place : at ≡ length functions - 1 = omega (arith, last) in
    let with_them : Function → Listed = λ f. bridge_with (listed_function f) (told_buses line) in
    ap listed_functions (new ∙ ap (λ n. set functions n function) place)
    ∙ last_set functions function (told_buses line)
    (λ some. same ∙ ap with_them (found ∙ get_or_default functions at old function (omega (arith, last))
    ∙ ap (λ n. get_or functions n function) place))
    ∙ rw (none, is) refl

-- ---- what is written beside the slots and buses

pub set_same : (functions : List Function) (i : ℕ) (function d : Function) → listed_function function ≡ listed_function (get_or functions i d)
    → listed_functions (set functions i function) ≡ listed_functions functions
set_same [] i function d is = refl
set_same (one ∷ functions) zero function d is = ap (λ f. f ∷ listed_functions functions) is
set_same (one ∷ functions) (suc i) function d is = ap (λ l. listed_function one ∷ l) (set_same functions i function d is)

pub short_line : (line : List ℕ) → length line < 7 → is_function_line line ≡ false
unfolding is_function_line is_slot
short_line line short =
    let long : length (take 7 line) < 7 = omega (arith, length-take 7 line, short) in
    rw (ne_eqb (length (take 7 line)) 7 (λ same. omega (arith, same, long))) refl

pub no_seven : (line : List ℕ) → (7 < 0) ⊎ (length line < 7) → is_function_line line ≡ false
no_seven line (inl bad) = absurd (omega (arith, bad))
no_seven line (inr short) = short_line line short
