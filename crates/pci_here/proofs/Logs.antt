-- What a log tells of a function, line by line, and the lines of a function with it.
use Rattle.std.proofs.Common.{◌≡◌, ℕ, zero, suc, ◌+◌, ◌<◌, ◌≤◌, ◌==◌, false, if◌then◌else◌, List, [], ◌∷◌, ◌++◌, length, get_or, set, take, Some, fold, refl, sym, ◌∙◌, ap, subst, inl, inr, arith}
use Rattle.std.specs.BTreeMap.{BTreeMap, Updates, get, is_at}
use Rattle.std.specs.Ordering.{nat_cmp}
use Rattle.std.proofs.lemmas.Bool.{cases_eq, cond-false, cond-true, eq-eqb, ne_eqb}
use Rattle.std.proofs.lemmas.List.{append_assoc, append-nil, ext_get_or, get_or_default, set_past, take_more}
use Rattle.std.proofs.lemmas.List.Sums.{fold-append}
use Rattle.pci_spec.specs.Resource.{ResourceLine, no_line}
use Rattle.pci_here.specs.Log.{Registers, chosen, completed, no_register_told, registers_at, registers_told, with_line, with_told}
use Rattle.pci_here.specs.LogLine.{AreLogLines, HasTold, IsLogLine, IsNoLogLine}
use Rattle.pci_here.specs.Place.{FunctionPlace, function_place_number}
use Rattle.pci_here.specs.declared.log_line.LogLine.{LogLine}
use Rattle.pci_here.specs.declared.log_line.Told.{Told}

-- ---- the lines of a text

pub told_none : (lines : List (List ℕ)) → HasTold lines lines []
told_none lines = λ more are. are

pub told_other : (lines left rest : List (List ℕ)) (line : List ℕ) (found : List LogLine) → left ≡ line ∷ rest → IsNoLogLine line
    → HasTold lines left found → HasTold lines rest found
told_other lines left rest line found first none has = λ more are.
    has more (subst (λ l. AreLogLines l more) (sym first) (inr (none, are)))

pub told_more : (lines left rest : List (List ℕ)) (line : List ℕ) (found : List LogLine) (l : LogLine) → left ≡ line ∷ rest → IsLogLine line l
    → HasTold lines left found → HasTold lines rest (found ++ l ∷ [])
told_more lines left rest line found l first is has = λ more are.
    subst (λ t. AreLogLines lines t) (sym (append_assoc found (l ∷ []) more))
    (has (l ∷ more) (subst (λ t. AreLogLines t (l ∷ more)) (sym first) (inl (l, more, is, are, refl))))

pub told_all : (lines left : List (List ℕ)) (found : List LogLine) → left ≡ [] → HasTold lines left found → AreLogLines lines found
told_all lines left found none has = subst (λ t. AreLogLines lines t) (append-nil found) (has [] (subst (λ l. AreLogLines l []) (sym none) refl))

-- ---- the lines of a function

abbrev at : List ResourceLine → ℕ → ResourceLine
at lines i = get_or lines i no_line

-- a list of seven is that of its elements
abbrev elements : List ResourceLine → List ResourceLine
elements lines = at lines 0 ∷ at lines 1 ∷ at lines 2 ∷ at lines 3 ∷ at lines 4 ∷ at lines 5 ∷ at lines 6 ∷ []

element_at : (lines : List ResourceLine) (i : ℕ) → i < 7 → at lines i ≡ at (elements lines) i
element_at lines zero inside = refl
element_at lines (suc zero) inside = refl
element_at lines (suc (suc zero)) inside = refl
element_at lines (suc (suc (suc zero))) inside = refl
element_at lines (suc (suc (suc (suc zero)))) inside = refl
element_at lines (suc (suc (suc (suc (suc zero))))) inside = refl
element_at lines (suc (suc (suc (suc (suc (suc zero)))))) inside = refl
element_at lines (suc (suc (suc (suc (suc (suc (suc i))))))) inside = absurd (omega (arith, inside))

elements_are : (lines : List ResourceLine) → length lines ≡ 7 → lines ≡ elements lines
elements_are lines seven = ext_get_or no_line lines (elements lines) seven (λ i inside. element_at lines i (omega (arith, inside, seven)))

pub completed_is : (lines told : List ResourceLine) → length lines ≡ 7 → length told ≡ 7
    → (chosen (at lines 0) (at told 0) ∷ chosen (at lines 1) (at told 1) ∷ chosen (at lines 2) (at told 2) ∷ chosen (at lines 3) (at told 3)
    ∷ chosen (at lines 4) (at told 4) ∷ chosen (at lines 5) (at told 5) ∷ chosen (at lines 6) (at told 6) ∷ []) ≡ completed lines told
completed_is lines told seven each = λ i. completed (sym (elements_are lines seven) i) (sym (elements_are told each) i)

pub one_chosen : (lines told : List ResourceLine) → length lines ≡ 7 → length told ≡ 7 → (k : ℕ) (d e x : ResourceLine) → k < 7
    → x ≡ chosen (get_or lines k d) (get_or told k e) → x ≡ chosen (at lines k) (at told k)
one_chosen lines told seven each k d e x inside is =
    is ∙ (λ i. chosen (get_or_default lines k d no_line (omega (arith, seven, inside)) i) (get_or_default told k e no_line (omega (arith, each, inside)) i))

-- no register has the number
pub nothing_set : (before : List ResourceLine) (bar : ℕ) (line : ResourceLine) → length before ≤ bar → before ≡ set before bar line
nothing_set before bar line past = sym (set_past before bar line past)

-- ---- what is told of each function

other_key : (k q : ℕ) → (k ≡ q → ⊥) → is_at (nat_cmp k) q ≡ false
other_key k q other = grind arith

-- with a line more, by the number of its place
pub number_more : (k q : ℕ) (t : Told) (m n : BTreeMap ℕ Registers) → Updates nat_cmp m n k (Some (with_told (registers_at (get nat_cmp m k)) t))
    → registers_at (get nat_cmp n q) ≡ (if k == q then with_told (registers_at (get nat_cmp m q)) t else registers_at (get nat_cmp m q))
number_more k q t m n put = elim (cases_eq k q) [
  | inl same ↦ subst (λ r. registers_at (get nat_cmp n r) ≡ (if k == r then with_told (registers_at (get nat_cmp m r)) t else registers_at (get nat_cmp m r))) same
      (ap registers_at put.1 ∙ sym (cond-true (k == k) (with_told (registers_at (get nat_cmp m k)) t) (registers_at (get nat_cmp m k)) (eq-eqb k k refl)))
  | inr other ↦ ap registers_at (put.2 q (other_key k q other))
      ∙ sym (cond-false (k == q) (with_told (registers_at (get nat_cmp m q)) t) (registers_at (get nat_cmp m q)) (ne_eqb k q other))
]

pub placed_more : (p : FunctionPlace) (l : LogLine) (k : ℕ) (r before : Registers) (m n : BTreeMap ℕ Registers) → k ≡ function_place_number l.place
    → before ≡ registers_at (get nat_cmp m (function_place_number l.place)) → r ≡ with_told before l.told → Updates nat_cmp m n k (Some r)
    → registers_at (get nat_cmp n (function_place_number p)) ≡ with_line p (registers_at (get nat_cmp m (function_place_number p))) l
placed_more p l k r before m n k_is before_is r_is put =
    let value : r ≡ with_told (registers_at (get nat_cmp m (function_place_number l.place))) l.told = r_is ∙ ap (λ b. with_told b l.told) before_is in
    number_more (function_place_number l.place) (function_place_number p) l.told m n
    (subst (λ v. Updates nat_cmp m n (function_place_number l.place) (Some v)) value (subst (λ j. Updates nat_cmp m n j (Some r)) k_is put))

-- a line more of some lines
pub line_more : (p : FunctionPlace) (lines : List LogLine) (i : ℕ) (l : LogLine) → i < length lines → get_or lines i l ≡ l
    → registers_told (take (i + 1) lines) p ≡ with_line p (registers_told (take i lines) p) l
line_more p lines i l within at =
    ap (fold (with_line p) no_register_told) (take_more lines i l within) ∙ fold-append (with_line p) no_register_told (take i lines) (get_or lines i l ∷ [])
    ∙ ap (λ x. with_line p (registers_told (take i lines) p) x) at
