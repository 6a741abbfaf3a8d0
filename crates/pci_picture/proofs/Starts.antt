-- Where the functions of a bus stand.
use Rattle.std.proofs.Common.{◌≡◌, ◌≤◌, ◌<◌, ◌+◌, ◌-◌, ◌==◌, ◌^◌, ℕ, zero, suc, true, false, ltb, cond, List, [], ◌∷◌, ◌++◌, fold, map, length, take, drop, get_or, set, replicate, refl, sym, ap, ◌∙◌, inl, inr, arith}
use Rattle.std.specs.Prelude.{nat_lt}
use Rattle.std.specs.List.{filter, slice_split}
use Rattle.std.specs.List.Sorted.{IsNonDecreasingBy}
use Rattle.std.proofs.lemmas.Bool.{cases_eq, cases_lt, eq-eqb, le-ltb, lt-ltb, ne_eqb}
use Rattle.std.proofs.lemmas.List.{append-nil, drop_all, get_or-map, get_or-replicate, get_or-set_same, get_or-set_other, length-map, length-set, length-take, take_all}
use Rattle.std.proofs.lemmas.List.Filters.{length-filter_more}
use Rattle.std.proofs.lemmas.List.Sums.{count_by-le-length, length-filter}
use Rattle.pci_picture.specs.Lines.{is_feed}
use Rattle.pci_picture.specs.Named.{title_from_line, with_titles}
use Rattle.pci_picture.specs.Roots.{Listed, listed_function, listed_functions}
use Rattle.pci_picture.specs.Slots.{bus_of_slot}
use Rattle.pci_picture.specs.Starts.{StandOnBus, AreStarts, FunctionsRise, count_below, functions_on}
use Rattle.pci_picture.specs.declared.function.Function.{Function}
use Rattle.pci_picture.proofs.Named.{rises_titled, slots_of_line}

-- ---- what has a number, and what has a lower one

module _ {X : Type 0} (number : X → ℕ) where
  abbrev below : ℕ → List X → ℕ
  below key xs = length (filter (λ x. nat_lt (number x) key) xs)

  abbrev at : ℕ → List X → ℕ
  at key xs = length (filter (λ x. number x == key) xs)

  below_next : (key : ℕ) (xs : List X) → below (key + 1) xs ≡ below key xs + at key xs
  below_next key [] = refl
  below_next key (x ∷ xs) = elim (cases_lt (number x) key) [
    | inl less ↦
        rw (lt-ltb (number x) key less, lt-ltb (number x) (key + 1) (omega (arith, less)), ne_eqb (number x) key (λ same. omega (arith, same, less)))
        (let more = below_next key xs in omega (arith, more))
    | inr not_less ↦ elim (cases_eq (number x) key) [
      | inl same ↦
          rw (le-ltb (number x) key (omega (arith, not_less)), lt-ltb (number x) (key + 1) (omega (arith, same)), eq-eqb (number x) key same)
          (let more = below_next key xs in omega (arith, more))
      | inr other ↦
          rw (le-ltb (number x) key (omega (arith, not_less)), le-ltb (number x) (key + 1) (omega (arith, not_less, other)), ne_eqb (number x) key other)
          (below_next key xs)
    ]
  ]

  below_none : (key : ℕ) (xs : List X) → ((k : ℕ) (d : X) → k < length xs → key ≤ number (get_or xs k d)) → below key xs ≡ 0
  below_none key [] high = refl
  below_none key (x ∷ xs) high =
      rw (le-ltb (number x) key (high 0 x (omega arith))) (below_none key xs (λ k d inside. high (suc k) d (omega (arith, inside))))

  none_at : (key : ℕ) (xs : List X) → ((k : ℕ) (d : X) → k < length xs → key < number (get_or xs k d)) → filter (λ x. number x == key) xs ≡ []
  none_at key [] high = refl
  none_at key (x ∷ xs) high =
      rw (ne_eqb (number x) key (λ same. let less = high 0 x (omega arith) in omega (arith, same, less))) (none_at key xs (λ k d inside. high (suc k) d (omega (arith, inside))))

  -- what has a number stands behind what has a lower one
  part_at : (key : ℕ) (xs : List X) → IsNonDecreasingBy number xs → take (at key xs) (drop (below key xs) xs) ≡ filter (λ x. number x == key) xs
  part_at key [] rises = refl
  part_at key (x ∷ xs) rises =
      let tail : IsNonDecreasingBy number xs = λ i j d up inside. rises (suc i) (suc j) d (omega (arith, up)) (omega (arith, inside)) in
      elim (cases_lt (number x) key) [
        | inl less ↦
            rw (lt-ltb (number x) key less, ne_eqb (number x) key (λ same. omega (arith, same, less))) (part_at key xs tail)
        | inr not_less ↦ elim (cases_eq (number x) key) [
          | inl same ↦
              let none : below key xs ≡ 0 = below_none key xs (λ k d inside. let up = rises 0 (suc k) d (omega arith) (omega (arith, inside)) in omega (arith, up, same)) in
              rw (le-ltb (number x) key (omega (arith, not_less)), eq-eqb (number x) key same, none)
              (ap (λ l. x ∷ l) (ap (λ n. take (at key xs) (drop n xs)) (sym none) ∙ part_at key xs tail))
          | inr other ↦
              let none : filter (λ y. number y == key) xs ≡ [] =
              none_at key xs (λ k d inside. let up = rises 0 (suc k) d (omega arith) (omega (arith, inside)) in omega (arith, up, not_less, other)) in
              rw (ne_eqb (number x) key other, none) refl
        ]
      ]

  at_below : (key : ℕ) (xs : List X) → at key xs ≤ length xs
  at_below key xs = let is = length-filter (λ x. number x == key) xs in let most = count_by-le-length (λ x. number x == key) xs in omega (arith, is, most)

  below_below : (key : ℕ) (xs : List X) → below key xs ≤ length xs
  below_below key xs = let is = length-filter (λ x. nat_lt (number x) key) xs in let most = count_by-le-length (λ x. nat_lt (number x) key) xs in omega (arith, is, most)

abbrev bus_of_function : Function → ℕ
bus_of_function function = bus_of_slot function.number

-- ---- they are counted for each bus

pub record AreCounts (functions : List Function) (counts : List ℕ) : Type 0 where
  pub size : length counts ≡ 257
  pub first : get_or counts 0 0 ≡ 0
  pub each : (bus : ℕ) → bus < 256 → get_or counts (bus + 1) 0 ≡ length (functions_on bus functions)

pub no_counts : AreCounts [] (replicate 257 0)
no_counts = record { size = search; first = refl; each = λ bus small. get_or-replicate 257 (bus + 1) 0 0 (omega (arith, small)) }

pub counts_more : (functions : List Function) (i : ℕ) (function : Function) (counts : List ℕ) (bus behind more : ℕ) → i < length functions
    → function ≡ get_or functions i function → bus ≡ bus_of_slot function.number → bus < 256 → behind ≡ bus + 1 → length functions < 2 ^ 64
    → (get_or counts behind 0 < 2 ^ 64 - 1 → more ≡ get_or counts behind 0 + 1)
    → AreCounts (take i functions) counts → AreCounts (take (i + 1) functions) (set counts behind more)
counts_more functions i function counts bus behind more inside found bus_is small behind_is few adds was =
    let many : get_or counts (bus + 1) 0 ≤ length (take i functions) = (let is = was.each bus small in let most = at_below bus_of_function bus (take i functions) in omega (arith, is, most)) in
    let fits : get_or counts behind 0 < 2 ^ 64 - 1 =
    (let same = ap (λ n. get_or counts n 0) behind_is in let long = length-take i functions in omega (arith, same, many, long, inside, few)) in
    let size = was.size in
    let next : (b : ℕ) → length (functions_on b (take (i + 1) functions)) ≡ length (functions_on b (take i functions)) + cond (bus == b) 1 0 =
    λ b. length-filter_more (λ f. bus_of_function f == b) functions i function inside
    ∙ ap (λ n. length (functions_on b (take i functions)) + cond (n == b) 1 0) (ap bus_of_function (sym found) ∙ sym bus_is) in
    record {
      size = length-set counts behind more ∙ size;
      first = get_or-set_other counts behind 0 more 0 (λ same. omega (arith, same, behind_is)) ∙ was.first;
      each = λ b low. elim (cases_eq b bus) [
        | inl same ↦
            ap (λ n. get_or (set counts behind more) n 0) (ap (λ n. n + 1) same ∙ sym behind_is)
            ∙ get_or-set_same counts behind more 0 (omega (arith, size, behind_is, small))
            ∙ adds fits ∙ ap (λ n. get_or counts n 0 + 1) behind_is
            ∙ ap (λ n. n + 1) (was.each bus small ∙ ap (λ n. length (functions_on n (take i functions))) (sym same))
            ∙ sym (next b ∙ ap (λ t. length (functions_on b (take i functions)) + cond t 1 0) (eq-eqb bus b (sym same)))
        | inr other ↦
            get_or-set_other counts behind (b + 1) more 0 (λ same. other (omega (arith, same, behind_is)))
            ∙ was.each b low
            ∙ sym (next b ∙ ap (λ t. length (functions_on b (take i functions)) + cond t 1 0) (ne_eqb bus b (λ same. other (sym same))) ∙ omega arith)
      ];
    }

-- ---- and summed up

pub record AreSummed (functions : List Function) (counts : List ℕ) (k : ℕ) : Type 0 where
  pub size : length counts ≡ 257
  pub done : (bus : ℕ) → bus < k → get_or counts bus 0 ≡ count_below bus functions
  pub left : (bus : ℕ) → k ≤ bus + 1 → bus < 256 → get_or counts (bus + 1) 0 ≡ length (functions_on bus functions)

pub none_summed : (functions : List Function) (counts : List ℕ) → AreCounts functions counts → AreSummed functions counts 1
none_summed functions counts are = record {
  size = are.size;
  done = λ bus low. let zero_is : bus ≡ 0 = omega (arith, low) in
      ap (λ n. get_or counts n 0) zero_is ∙ are.first
      ∙ sym (below_none bus_of_function 0 functions (λ k d inside. omega arith)) ∙ ap (λ n. count_below n functions) (sym zero_is);
  left = λ bus up small. are.each bus small;
}

pub summed_more : (functions : List Function) (counts : List ℕ) (k new : ℕ) → 1 ≤ k → k < 257 → length functions < 2 ^ 64
    → (get_or counts k 0 + get_or counts (k - 1) 0 < 2 ^ 64 → new ≡ get_or counts k 0 + get_or counts (k - 1) 0)
    → AreSummed functions counts k → AreSummed functions (set counts k new) (k + 1)
summed_more functions counts k new up small few adds was =
    let size = was.size in
    let behind : k - 1 + 1 ≡ k = omega (arith, up) in
    let here : get_or counts k 0 ≡ length (functions_on (k - 1) functions) = ap (λ n. get_or counts n 0) (sym behind) ∙ was.left (k - 1) (omega (arith, up)) (omega (arith, small)) in
    let before : get_or counts (k - 1) 0 ≡ count_below (k - 1) functions = was.done (k - 1) (omega (arith, up)) in
    let next : count_below (k - 1 + 1) functions ≡ count_below (k - 1) functions + length (functions_on (k - 1) functions) = below_next bus_of_function (k - 1) functions in
    let most : count_below (k - 1 + 1) functions ≤ length functions = below_below bus_of_function (k - 1 + 1) functions in
    record {
      size = length-set counts k new ∙ size;
      done = λ bus low. elim (cases_eq bus k) [
        | inl same ↦
            ap (λ n. get_or (set counts k new) n 0) same ∙ get_or-set_same counts k new 0 (omega (arith, size, small))
            ∙ adds (omega (arith, here, before, next, most, few)) ∙ omega (arith, here, before, next) ∙ ap (λ n. count_below n functions) (behind ∙ sym same)
        | inr other ↦ get_or-set_other counts k bus new 0 other ∙ was.done bus (omega (arith, low, other))
      ];
      left = λ bus low less. get_or-set_other counts k (bus + 1) new 0 (λ same. omega (arith, same, low)) ∙ was.left bus (omega (arith, low)) less;
    }

pub all_summed : (functions : List Function) (counts : List ℕ) (k : ℕ) → 257 ≤ k → AreSummed functions counts k → AreStarts functions counts
all_summed functions counts k past are bus small = are.done bus (omega (arith, past, small))

-- ---- functions whose names were added

below_listed : (functions : List Function) (bus : ℕ) → count_below bus functions ≡ below (λ (f : Listed). bus_of_slot f.slot) bus (listed_functions functions)
below_listed [] bus = refl
below_listed (function ∷ functions) bus = elim (nat_lt (bus_of_slot function.number) bus) as (λ b.
    length (cond b (function ∷ filter (λ (f : Function). nat_lt (bus_of_slot f.number) bus) functions) (filter (λ (f : Function). nat_lt (bus_of_slot f.number) bus) functions))
    ≡ length (cond b (listed_function function ∷ filter (λ (f : Listed). nat_lt (bus_of_slot f.slot) bus) (listed_functions functions)) (filter (λ (f : Listed). nat_lt (bus_of_slot f.slot) bus) (listed_functions functions)))) [
      | true ↦ ap suc (below_listed functions bus)
      | false ↦ below_listed functions bus
    ]

pub starts_kept : (functions named : List Function) (starts : List ℕ) → listed_functions named ≡ listed_functions functions → AreStarts functions starts → AreStarts named starts
starts_kept functions named starts same are bus small =
    are bus small ∙ below_listed functions bus ∙ ap (below (λ (f : Listed). bus_of_slot f.slot) bus) (sym same) ∙ sym (below_listed named bus)

pub rise_of_listed : (functions : List Function) → IsNonDecreasingBy (λ (f : Listed). f.slot) (listed_functions functions) → FunctionsRise functions
rise_of_listed functions rises i j d up inside =
    let long : length (listed_functions functions) ≡ length functions = length-map functions listed_function in
    let less = rises i j (listed_function d) up (omega (arith, inside, long)) in
    let low = ap (λ (f : Listed). f.slot) (get_or-map listed_function functions i d (listed_function d) (omega (arith, up, inside))) in
    let high = ap (λ (f : Listed). f.slot) (get_or-map listed_function functions j d (listed_function d) inside) in
    omega (arith, less, low, high)

-- ---- the functions on a bus

bus_up : (one other : ℕ) → one ≤ other → other < 2 ^ 20 → bus_of_slot one ≤ bus_of_slot other
unfolding bus_of_slot
bus_up one other less low = omega (arith, less, low)

buses_rise : (functions : List Function) → FunctionsRise functions → IsNonDecreasingBy bus_of_function functions
buses_rise functions rises i j d up inside = bus_up (get_or functions i d).number (get_or functions j d).number (rises i j d up inside) (get_or functions j d).is_low

pub on_bus_between : (functions : List Function) (starts : List ℕ) (bus begin end : ℕ) → bus < 256 → FunctionsRise functions → AreStarts functions starts
    → begin ≡ get_or starts bus 0 → end ≡ get_or starts (bus + 1) 0 → StandOnBus functions bus begin end
on_bus_between functions starts bus begin end small rises are from to =
    let begin_is : begin ≡ count_below bus functions = from ∙ are bus (omega (arith, small)) in
    let end_is : end ≡ count_below (bus + 1) functions = to ∙ are (bus + 1) (omega (arith, small)) in
    let next = below_next bus_of_function bus functions in
    let most = below_below bus_of_function (bus + 1) functions in
    let long : end - begin ≡ length (functions_on bus functions) = omega (arith, begin_is, end_is, next) in
    record {
      rises = omega (arith, begin_is, end_is, next);
      inside = omega (arith, end_is, most);
      all = rw (long, begin_is) (part_at bus_of_function bus functions (buses_rise functions rises));
    }

-- ---- functions that were written back

pub as_many : (functions others : List Function) → listed_functions functions ≡ listed_functions others → length functions ≡ length others
as_many functions others same = sym (length-map functions listed_function) ∙ ap length same ∙ length-map others listed_function

-- what was written back are the new functions
pub whole_back : (len : ℕ) (items new : List Function) → len ≡ length items → length new ≡ length items → take len (new ++ drop (length new) items) ≡ new
whole_back len items new long many =
    ap (λ l. take len (new ++ l)) (drop_all (length new) items (omega (arith, many))) ∙ ap (take len) (append-nil new) ∙ take_all len new (omega (arith, many, long))

slots_kept : (functions : List Listed) (lines : List (List ℕ)) → map (λ (f : Listed). f.slot) (fold title_from_line functions lines) ≡ map (λ (f : Listed). f.slot) functions
slots_kept functions [] = refl
slots_kept functions (line ∷ lines) = slots_kept (title_from_line functions line) lines ∙ slots_of_line functions line

pub titled_long : (titles : List ℕ) (items titled : List Function) → listed_functions titled ≡ with_titles titles (listed_functions items) → length titled ≡ length items
titled_long titles items titled told =
    sym (length-map titled listed_function) ∙ ap length told
    ∙ sym (length-map (with_titles titles (listed_functions items)) (λ (f : Listed). f.slot)) ∙ ap length (slots_kept (listed_functions items) (slice_split is_feed titles))
    ∙ length-map (listed_functions items) (λ (f : Listed). f.slot) ∙ length-map items listed_function

rise_through : (functions : List Listed) (lines : List (List ℕ)) → IsNonDecreasingBy (λ (f : Listed). f.slot) functions
    → IsNonDecreasingBy (λ (f : Listed). f.slot) (fold title_from_line functions lines)
rise_through functions [] rises = rises
rise_through functions (line ∷ lines) rises =
    rise_through (title_from_line functions line) lines (rises_titled functions (title_from_line functions line) line refl rises)

pub rise_with_titles : (titles : List ℕ) (functions : List Listed) → IsNonDecreasingBy (λ (f : Listed). f.slot) functions
    → IsNonDecreasingBy (λ (f : Listed). f.slot) (with_titles titles functions)
rise_with_titles titles functions rises = rise_through functions (slice_split is_feed titles) rises
