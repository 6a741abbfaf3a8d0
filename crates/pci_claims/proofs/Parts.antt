-- What the host sends to a root bus, range by range.
use Rattle.std.proofs.Common.{◌≡◌, ℕ, ◌+◌, ◌<◌, ◌≤◌, ◌⊎◌, List, [], ◌∷◌, ◌++◌, length, get_or, take, map, Bool, true, false, ◌||◌, inl, inr, arith, subst, sym, ◌∙◌, ap, refl, Option, None, Some}
use Rattle.std.specs.Prelude.{◌↔◌, IsTrue, MatchOption}
use Rattle.std.specs.List.{list_any}
use Rattle.std.proofs.lemmas.Bool.{or_cases, and_parts, and_from, leb-true, le-leb}
use Rattle.std.proofs.Math.Bool.{or-true, or-false}
use Rattle.std.proofs.lemmas.List.Folds.{list_any-append}
use Rattle.std.proofs.lemmas.List.{take_more}
use Rattle.std.proofs.lemmas.List.Elements.{All-push}
use Rattle.pci_spec.specs.System.{Space, IsAddress}
use Rattle.pci_base.specs.declared.range.Range.{Range}
use Rattle.pci_tree.specs.Ranges.{Holds, Covers}
use Rattle.pci_tree.specs.Reaches.{IsWhole}
use Rattle.pci_tree.proofs.Passing.{covers_push}
use Rattle.judge_spec.specs.Given.{Given, starts_in, starts, sends, is_for, ranges_said, HostRange as SpecRange}
use Rattle.pci_base.specs.declared.range.RootRange.{RootRange}
use Rattle.pci_claims.specs.Values.{host_value}
use Rattle.pci_claims.specs.Gathered.{IsGathered}
use Rattle.pci_claims.specs.Sent.{IsPartAt, ArePartsOf, IsSentTo}
use Rattle.pci_claims.proofs.Gathering.{none_covered}

-- some of a list and one more pass a test
any_push : {X : Type 0} (test : X → Bool) (xs : List X) (x : X) → IsTrue (list_any test (xs ++ x ∷ [])) ↔ (IsTrue (list_any test xs) ⊎ IsTrue (test x))
any_push test xs x = (
  λ (h : list_any test (xs ++ x ∷ []) ≡ true). elim (or_cases (list_any test xs) (list_any test (x ∷ [])) (sym (list_any-append test xs (x ∷ [])) ∙ h)) [
    | inl before ↦ inl before
    | inr here ↦ inr (sym (or-false (test x)) ∙ here)
  ],
  λ (h : (list_any test xs ≡ true) ⊎ (test x ≡ true)). list_any-append test xs (x ∷ []) ∙ elim h [
    | inl before ↦ ap (λ b. b || list_any test (x ∷ [])) before
    | inr here ↦ ap (λ b. list_any test xs || b) (or-false (test x) ∙ here) ∙ or-true (list_any test xs)
  ],
)

map_push : {X Y : Type 0} (f : X → Y) (xs : List X) (x : X) → map f (xs ++ x ∷ []) ≡ map f xs ++ f x ∷ []
map_push f [] x = refl
map_push f (y ∷ xs) x = ap (λ ys. f y ∷ ys) (map_push f xs x)

pub any_more : {X Y : Type 0} (test : Y → Bool) (f : X → Y) (xs : List X) (i : ℕ) (x : X) → i < length xs → x ≡ get_or xs i x
    → IsTrue (list_any test (map f (take (i + 1) xs))) ↔ (IsTrue (list_any test (map f (take i xs))) ⊎ IsTrue (test (f x)))
any_more test f xs i x within at =
    subst (λ ys. IsTrue (list_any test ys) ↔ (IsTrue (list_any test (map f (take i xs))) ⊎ IsTrue (test (f x))))
    (sym (ap (map f) (take_more xs i x within ∙ ap (λ y. take i xs ++ y ∷ []) (sym at)) ∙ map_push f (take i xs) x)) (any_push test (map f (take i xs)) (f x))

pub no_parts : (space : Space) (root : ℕ) → ArePartsOf [] space root []
no_parts space root = record {
  lawful = λ k d less. absurd (omega (arith, less));
  exact = λ a. (λ (h : Covers [] a). absurd (none_covered a h), λ (h : IsAddress space a × (false ≡ true)). (let no = h.1 in absurd cc));
}

pub one_part_more : (ranges : List RootRange) (i : ℕ) (r : RootRange) (space : Space) (root : ℕ) (out new : List Range) (m : Range) → ArePartsOf (take i ranges) space root out
    → i < length ranges → r ≡ get_or ranges i r → new ≡ out ++ m ∷ [] → (m.first ≤ m.last) × ((a : ℕ) → Holds m a ↔ IsPartAt r space root a)
    → ArePartsOf (take (i + 1) ranges) space root new
one_part_more ranges i r space root out new m is within at e part = subst (λ xs. ArePartsOf (take (i + 1) ranges) space root xs) (sym e) record {
  lawful = All-push (λ r. r.first ≤ r.last) out m is.lawful part.0;
  exact = λ a. (
    λ (h : Covers (out ++ m ∷ []) a). elim ((covers_push out m a).0 h) [
      | inl c ↦ (let was = (is.exact a).0 c in (was.0, (any_more (sends root a) host_value ranges i r within at).1 (inl was.1)))
      | inr held ↦ (let here = (part.1 a).0 held in (here.0, (any_more (sends root a) host_value ranges i r within at).1 (inr here.1)))
    ],
    λ (h : IsAddress space a × IsTrue (list_any (sends root a) (map host_value (take (i + 1) ranges)))). (covers_push out m a).1 (elim ((any_more (sends root a) host_value ranges i r within at).0 h.1) [
      | inl before ↦ inl ((is.exact a).1 (h.0, before))
      | inr here ↦ inr ((part.1 a).1 (h.0, here))
    ]),
  );
}

pub no_part_more : (ranges : List RootRange) (i : ℕ) (r : RootRange) (space : Space) (root : ℕ) (out : List Range) → ArePartsOf (take i ranges) space root out
    → i < length ranges → r ≡ get_or ranges i r → ((a : ℕ) → IsPartAt r space root a → ⊥) → ArePartsOf (take (i + 1) ranges) space root out
no_part_more ranges i r space root out is within at none = record {
  lawful = is.lawful;
  exact = λ a. (
    λ (h : Covers out a). (let was = (is.exact a).0 h in (was.0, (any_more (sends root a) host_value ranges i r within at).1 (inl was.1))),
    λ (h : IsAddress space a × IsTrue (list_any (sends root a) (map host_value (take (i + 1) ranges)))). elim ((any_more (sends root a) host_value ranges i r within at).0 h.1) [
      | inl before ↦ (is.exact a).1 (h.0, before)
      | inr here ↦ absurd (none a (h.0, here))
    ],
  );
}

-- ---- a range by itself

pub part_is : (range : RootRange) (space : Space) (root : ℕ) (whole : Range) → is_for range.root root ≡ true → ((a : ℕ) → Holds whole a ↔ IsAddress space a)
    → (a : ℕ) → (Holds whole a × Holds range.range a) ↔ IsPartAt range space root a
part_is range space root whole for exact a = (
  λ (h : Holds whole a × Holds range.range a). ((exact a).0 h.0, and_from _ _ (and_from _ _ for (le-leb _ _ h.1.0)) (le-leb _ _ h.1.1)),
  λ (h : IsPartAt range space root a).
      let p = and_parts _ _ h.1 in
      let q = and_parts _ _ p.0 in
      ((exact a).1 h.0, (leb-true _ _ q.1, leb-true _ _ p.1)),
)

pub met_part : (range : RootRange) (space : Space) (root : ℕ) (whole : Range) (o : Option Range) → is_for range.root root ≡ true → ((a : ℕ) → Holds whole a ↔ IsAddress space a)
    → MatchOption o ((a : ℕ) → Holds whole a → Holds range.range a → ⊥) (λ m. (m.first ≤ m.last) × ((a : ℕ) → Holds m a ↔ (Holds whole a × Holds range.range a)))
    → MatchOption o ((a : ℕ) → IsPartAt range space root a → ⊥) (λ m. (m.first ≤ m.last) × ((a : ℕ) → Holds m a ↔ IsPartAt range space root a))
met_part range space root whole None for exact none = λ a h. let p = (part_is range space root whole for exact a).1 h in none a p.0 p.1
met_part range space root whole (Some m) for exact met = (
  met.0,
  λ a. (
    λ (h : Holds m a). (part_is range space root whole for exact a).0 ((met.1 a).0 h),
    λ (h : IsPartAt range space root a). (met.1 a).1 ((part_is range space root whole for exact a).1 h),
  ),
)

pub part_for : (range : RootRange) (space : Space) (root a : ℕ) → IsPartAt range space root a → is_for range.root root ≡ true
part_for range space root a h = (and_parts _ _ (and_parts _ _ h.1).0).0

-- ---- all of them

pub sent_gathered : (given : Given) (space : Space) (root : ℕ) (ranges : List RootRange) (parts out : List Range) → ranges_said given space ≡ Some (map host_value ranges)
    → ArePartsOf ranges space root parts → IsGathered parts out → IsSentTo given space root out
sent_gathered given space root ranges parts out said are is = record {
  canonical = is.canonical;
  exact = λ a. (
    λ (h : Covers out a). (let p = (are.exact a).0 ((is.exact a).0 h) in (p.0, subst (λ (o : Option (List SpecRange)). IsTrue (starts_in o root a)) (sym said) p.1)),
    λ (h : IsAddress space a × IsTrue (starts given space root a)). (is.exact a).1 ((are.exact a).1 (h.0, subst (λ (o : Option (List SpecRange)). IsTrue (starts_in o root a)) said h.1)),
  );
}

pub sent_whole : (given : Given) (space : Space) (root : ℕ) (out : List Range) → ranges_said given space ≡ None → IsWhole space out → IsSentTo given space root out
sent_whole given space root out said is = record {
  canonical = is.canonical;
  exact = λ a. (
    λ (h : Covers out a). ((is.exact a).0 h, subst (λ (o : Option (List SpecRange)). IsTrue (starts_in o root a)) (sym said) refl),
    λ (h : IsAddress space a × IsTrue (starts given space root a)). (is.exact a).1 h.0,
  );
}

-- ---- what is said

pub said_of : (given : Given) (space : Space) (o : Option (List SpecRange)) → o ≡ ranges_said given space → ranges_said given space ≡ o
said_of given space o e = sym e
