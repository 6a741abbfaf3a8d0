-- Members in place stand in the order of their lines but that lines of depth 1 rise.
use Rattle.std.proofs.Common.{arith, ◌≡◌, ◌≤◌, ◌==◌, ◌&&◌, ◌⊎◌, ℕ, zero, suc, Bool, true, false, cond, not, List, [], ◌∷◌, map, length, refl, sym, ap, ap₂, ◌∙◌, inl, inr, subst}
use Rattle.std.specs.List.{All, filter}
use Rattle.std.specs.List.Sorted.{IsNonDecreasingBy, IsPermutation, IsSortedBy, IsStableBy, ties}
use Rattle.std.proofs.lemmas.Bool.{and_parts, cases_Bool, eqb-true}
use Rattle.std.proofs.lemmas.List.{nil_from_length}
use Rattle.std.proofs.lemmas.List.Elements.{All-cons, All-head, All-map, All-nil, All-tail, filter_agree}
use Rattle.std.proofs.lemmas.List.Sorted.{length_permutation}
use Rattle.pci_picture.specs.Headings.{Headed, is_section}
use Rattle.pci_picture.specs.Maps.{headed_line, headed_member}
use Rattle.pci_picture.specs.Members.{AreSortedBySection, is_member_in_place}
use Rattle.pci_picture.specs.Nested.{headed_in, headed_with_top}
use Rattle.pci_picture.specs.declared.map.Line.{Line}
use Rattle.pci_picture.specs.declared.plan.Member.{Member}
use Rattle.pci_picture.proofs.Filtered.{filter_map, filter_permuted, filter_twice}
use Rattle.pci_picture.proofs.MemberOrder.{ComesAfter, InOrder, all_after, comes_before, in_order, sorted_at, tie_is}
use Rattle.pci_picture.proofs.Nested.{not_lost, section_is}

-- ---- they rise

rises_more : {X : Type 0} (f : X → ℕ) (x : X) (xs : List X) → All (λ y. f x ≤ f y) xs → IsNonDecreasingBy f xs → IsNonDecreasingBy f (x ∷ xs)
rises_more f x xs low rest zero zero d up inside = omega arith
rises_more f x xs low rest zero (suc j) d up inside = low j d (omega (arith, inside))
rises_more f x xs low rest (suc i) zero d up inside = absurd (let no : ⊥ = omega (arith, up) in no)
rises_more f x xs low rest (suc i) (suc j) d up inside = rest i j d (omega (arith, up)) (omega (arith, inside))

in_section : (number : ℕ) (m : Member) → is_member_in_place number m ≡ true → (m.is_lost ≡ false) × (m.section ≡ number)
in_section number m is =
    let both = and_parts (not m.is_lost) (m.section == number) is in
    (not_lost m.is_lost both.0, eqb-true m.section number both.1)

not_above : (number : ℕ) (p m : Member) → is_member_in_place number p ≡ true → is_member_in_place number m ≡ true → ComesAfter p m → p.top ≤ m.top
not_above number p m one other after =
    let mine = in_section number p one in
    let yours = in_section number m other in
    elim (after.place yours.0) [
      | inl behind ↦ elim behind [
        | inl later ↦ absurd (let here = mine.1 in let there = yours.1 in let no : ⊥ = omega (arith, later, here, there) in no)
        | inr below ↦ let low = below.2 in omega (arith, low)
      ]
      | inr together ↦ let same = together.top in omega (arith, same)
    ]

none_above : (number : ℕ) (p : Member) (ms : List Member) → is_member_in_place number p ≡ true → All (ComesAfter p) ms
    → All (λ m. p.top ≤ m.top) (filter (is_member_in_place number) ms)
none_above number p [] one after = All-nil (λ m. p.top ≤ m.top)
none_above number p (m ∷ ms) one after =
    let rest = none_above number p ms one (All-tail (ComesAfter p) m ms after) in
    let kept : List Member = filter (is_member_in_place number) ms in
    elim (cases_Bool (is_member_in_place number m)) [
      | inl inside ↦
          subst (λ b. All (λ x. p.top ≤ x.top) (cond b (m ∷ kept) kept)) (sym inside)
          (All-cons (λ x. p.top ≤ x.top) m kept (not_above number p m one inside (All-head (ComesAfter p) m ms after)) rest)
      | inr outside ↦ subst (λ b. All (λ x. p.top ≤ x.top) (cond b (m ∷ kept) kept)) (sym outside) rest
    ]

order_behind : (p : Member) (ms : List Member) → InOrder (p ∷ ms) → InOrder ms
order_behind p [] order = tt
order_behind p (m ∷ ms) order = order.1

tops_rise : (number : ℕ) (ms : List Member) → InOrder ms → IsNonDecreasingBy (λ (m : Member). m.top) (filter (is_member_in_place number) ms)
tops_rise number [] order = λ i j d up inside. absurd (let no : ⊥ = omega (arith, inside) in no)
tops_rise number (p ∷ ms) order =
    let rest = tops_rise number ms (order_behind p ms order) in
    let kept : List Member = filter (is_member_in_place number) ms in
    elim (cases_Bool (is_member_in_place number p)) [
      | inl inside ↦
          subst (λ b. IsNonDecreasingBy (λ (m : Member). m.top) (cond b (p ∷ kept) kept)) (sym inside)
          (rises_more (λ (m : Member). m.top) p kept (none_above number p ms inside (all_after p ms order)) rest)
      | inr outside ↦ subst (λ b. IsNonDecreasingBy (λ (m : Member). m.top) (cond b (p ∷ kept) kept)) (sym outside) rest
    ]

rises_of : {X Y : Type 0} (f : X → Y) (n : Y → ℕ) (xs : List X) → IsNonDecreasingBy (λ x. n (f x)) xs → IsNonDecreasingBy n (map f xs)
rises_of f n [] rises = λ i j d up inside. absurd (let no : ⊥ = omega (arith, inside) in no)
rises_of f n (x ∷ xs) rises =
    rises_more n (f x) (map f xs) (All-map (λ y. n (f x) ≤ n y) f xs (λ k d inside. rises 0 (suc k) d (omega arith) (omega (arith, inside)))) (rises_of f n xs (λ i j d up inside. rises (suc i) (suc j) d (omega (arith, up)) (omega (arith, inside))))

-- ---- those with one line of depth 1 keep their order

abbrev is_at : ℕ → ℕ → Member → Bool
is_at number top m = (m.section == number) && (not m.is_lost && (m.top == top))

first_or_none : (p : Member → Bool) (ms : List Member) → ((x : Member) × (p x ≡ true)) ⊎ (filter p ms ≡ [])
first_or_none p [] = inr refl
first_or_none p (m ∷ ms) = elim (cases_Bool (p m)) [
  | inl passes ↦ inl (m, passes)
  | inr fails ↦ elim (first_or_none p ms) [
    | inl found ↦ inl found
    | inr none ↦ inr (ap (λ b. cond b (m ∷ filter p ms) (filter p ms)) fails ∙ none)
  ]
]

kept_at : (old new : List Member) → IsPermutation old new → IsStableBy comes_before old new → (number top : ℕ)
    → filter (is_at number top) new ≡ filter (is_at number top) old
kept_at old new moved stable number top = elim (first_or_none (is_at number top) old) [
  | inl (x, passes) ↦
      let both = and_parts (x.section == number) (not x.is_lost && (x.top == top)) passes in
      let more = and_parts (not x.is_lost) (x.top == top) both.1 in
      let inside : x.is_lost ≡ false = not_lost x.is_lost more.0 in
      let agree : (m : Member) → is_at number top m ≡ ties comes_before x m = λ m.
      ap₂ (λ n t. (m.section == n) && (not m.is_lost && (m.top == t))) (sym (eqb-true x.section number both.0)) (sym (eqb-true x.top top more.1))
      ∙ sym (tie_is x m inside) in
      filter_agree (is_at number top) (ties comes_before x) agree new ∙ stable x ∙ sym (filter_agree (is_at number top) (ties comes_before x) agree old)
  | inr none ↦
      let long = length_permutation (filter (is_at number top) old) (filter (is_at number top) new) (filter_permuted (is_at number top) old new moved) in
      let short : length (filter (is_at number top) old) ≡ 0 = ap length none in
      nil_from_length (filter (is_at number top) new) (omega (arith, long, short)) ∙ sym none
]

both_tests : (lost one other : Bool) → (other && (not lost && one)) ≡ (one && (not lost && other))
both_tests true true true = refl
both_tests true true false = refl
both_tests true false true = refl
both_tests true false false = refl
both_tests false true true = refl
both_tests false true false = refl
both_tests false false true = refl
both_tests false false false = refl

pub headed_in_place : (number : ℕ) (ms : List Member) → map headed_member (filter (is_member_in_place number) ms) ≡ headed_in number (map headed_member ms)
headed_in_place number ms =
    sym (filter_map (λ region. is_section number region.heading) headed_member ms
    ∙ ap (map headed_member) (filter_agree (λ m. is_section number ((headed_member m).heading)) (is_member_in_place number) (λ m. section_is number m.section m.is_lost) ms))

headed_at_top : (number top : ℕ) (ms : List Member) → headed_with_top top (headed_in number (map headed_member ms)) ≡ map headed_member (filter (is_at number top) ms)
headed_at_top number top ms =
    ap (headed_with_top top) (sym (headed_in_place number ms))
    ∙ filter_map (λ region. region.top == top) headed_member (filter (is_member_in_place number) ms)
    ∙ ap (map headed_member)
    (filter_twice (λ m. m.top == top) (is_member_in_place number) ms
    ∙ filter_agree (λ m. (m.top == top) && is_member_in_place number m) (is_at number top) (λ m. both_tests m.is_lost (m.section == number) (m.top == top)) ms)

-- ---- both

pub sorted_members_of : (lines : List Line) (old new : List Member) → map headed_member old ≡ map headed_line lines
    → IsPermutation old new → IsSortedBy comes_before new → IsStableBy comes_before old new → AreSortedBySection lines new
sorted_members_of lines old new heads moved sorted stable number = record {
  rise = rises_of headed_member (λ (region : Headed). region.top) (filter (is_member_in_place number) new)
      (tops_rise number new (in_order new (λ k d inside. sorted_at new sorted k d inside)));
  kept = λ top.
      ap (headed_with_top top) (headed_in_place number new) ∙ headed_at_top number top new
      ∙ ap (map headed_member) (kept_at old new moved stable number top)
      ∙ sym (headed_at_top number top old) ∙ ap (λ l. headed_with_top top (headed_in number l)) heads;
}
