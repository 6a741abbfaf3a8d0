-- Columns of lists: one after another, and what items on the roots find in them.
use Rattle.std.proofs.Common.{◌≡◌, ℕ, ◌+◌, ◌-◌, ◌*◌, ◌<◌, inl, inr, List, [], ◌∷◌, ◌++◌, get_or, append-nil, Bool, true, false, cond, ◌&&◌, arith, refl, sym, ◌∙◌, ap, subst}
use Rattle.std.specs.Bool.{◌==◌}
use Rattle.std.proofs.lemmas.Bool.{cases_lt, or_cases, and_parts, eqb-true}
use Rattle.std.proofs.lemmas.List.{length-append, get_or_append_left, get_or-append_right}
use Rattle.pci_spec.specs.Window.{WindowKind, IoWindow, MemoryWindow, PrefetchWindow}
use Rattle.pci_spec.specs.System.{System, Space, Io, Memory, IsSystem, window_space}
use Rattle.pci_spec.specs.Bus.{is_root}
use Rattle.pci_spec.specs.Decoded.{Range as DecodedRange}
use Rattle.plan_spec.proofs.Planning.Safe.{slots_of}
use Rattle.settle_spec.specs.FirstPlace.{is_high, else_at, first_place}
use Rattle.settle_spec.specs.Lists.{Lists, Request, class_ranges}
use Rattle.settle_spec.specs.Parts.{bridge_over}
use Rattle.settle_spec.specs.Items.{Placed}
use Rattle.settle_spec.specs.Places.{root_ranges, wide_ranges}
use Rattle.settle_spec.specs.Kept.{Kept}
use Rattle.settle_spec.specs.Keeping.Places.{place_behind}
use Rattle.settle_laws.proofs.Keeping.Buses.{of_space}
use Rattle.pci_base.specs.declared.range.Range.{Range}
use Rattle.pci_first_fit.specs.declared.place.Places.{Places}
use Rattle.pci_first_fit.specs.Tables.{untold}
use Rattle.pci_settle_places.specs.Candidates.{candidate_value}
use Rattle.pci_settle_places.specs.Columns.{kind_number, list_number, list_at, had, AreColumn, HasColumn, HasRootColumns, AreListsFor}
use Rattle.pci_settle_places.proofs.Parts.{in_space}
use Rattle.pci_settle_places.proofs.Told.{nothing_told}

-- ---- one column after another

no_columns : (roots : List ℕ) (l : Lists) (space : Space) → HasRootColumns roots l space 0 []
no_columns roots l space = record { size = refl; each = λ bus low root. absurd (let no : ⊥ = omega (arith, low) in no) }

pub columns_none : (roots : List ℕ) (l : Lists) (space : Space) (lists : List (List Range)) → lists ≡ [] → HasRootColumns roots l space 0 lists
columns_none roots l space lists none = subst (HasRootColumns roots l space 0) (sym none) (no_columns roots l space)

column_by : (l : Lists) (space : Space) (bus : ℕ) (p w f x y z : List Range) → p ≡ x → w ≡ y → f ≡ z → AreColumn l space bus p w f → AreColumn l space bus x y z
column_by l space bus p w f x y z e g h is =
    subst (AreColumn l space bus x y) h (subst (λ b. AreColumn l space bus x b f) g (subst (λ a. AreColumn l space bus a w f) e is))

module _ (roots : List ℕ) (l : Lists) (space : Space) (n : ℕ) (old : List (List Range)) (was : HasRootColumns roots l space n old) (p w f : List Range)
    (is : is_root roots n ≡ true → AreColumn l space n p w f) where
  abbrev three : List (List Range)
  three = p ∷ (w ∷ (f ∷ []))

  before_it : (k : ℕ) → k < 3 * n → get_or old k [] ≡ get_or (old ++ three) k []
  before_it k less = let size = was.size in sym (get_or_append_left old three [] k (omega (arith, less, size)))

  at_it : (k j : ℕ) → k ≡ 3 * n + j → get_or three j [] ≡ get_or (old ++ three) k []
  at_it k j is_at =
      sym (get_or-append_right old three (3 * n) k [] was.size (omega (arith, is_at))
      ∙ ap (λ m. get_or three m []) (let e : k - 3 * n ≡ j = omega (arith, is_at) in e))

  by_bus : (bus : ℕ) → bus < n + 1 → is_root roots bus ≡ true → HasColumn l space (old ++ three) bus
  by_bus bus low root = elim (cases_lt bus n) [
    | inl earlier ↦
        column_by l space bus (get_or old (3 * bus) []) (get_or old (3 * bus + 1) []) (get_or old (3 * bus + 2) []) (get_or (old ++ three) (3 * bus) []) (get_or (old ++ three) (3 * bus + 1) []) (get_or (old ++ three) (3 * bus + 2) [])
        (before_it (3 * bus) (omega (arith, earlier))) (before_it (3 * bus + 1) (omega (arith, earlier))) (before_it (3 * bus + 2) (omega (arith, earlier))) (was.each bus earlier root)
    | inr later ↦
        let here : n ≡ bus = omega (arith, later, low) in
        subst (HasColumn l space (old ++ three)) here
        (column_by l space n p w f (get_or (old ++ three) (3 * n) []) (get_or (old ++ three) (3 * n + 1) []) (get_or (old ++ three) (3 * n + 2) [])
        (at_it (3 * n) 0 (omega arith)) (at_it (3 * n + 1) 1 refl) (at_it (3 * n + 2) 2 refl) (is (subst (λ b. is_root roots b ≡ true) (sym here) root)))
  ]

  pub columns_more : (new : List (List Range)) → new ≡ old ++ (p ∷ (w ∷ (f ∷ []))) → HasRootColumns roots l space (n + 1) new
  columns_more new put = subst (HasRootColumns roots l space (n + 1)) (sym put) record {
    size = let long = length-append old three in let size = was.size in omega (arith, long, size);
    each = by_bus;
  }

-- ---- what an item on a root finds

either_none : (wide : Bool) → ◌≡◌ {A = List DecodedRange} (cond wide [] []) []
either_none true = refl
either_none false = refl

plain_alone : (xs : List DecodedRange) (wide : Bool) → xs ++ cond wide [] [] ≡ xs
plain_alone xs wide = ap (λ ys. xs ++ ys) (either_none wide) ∙ append-nil xs

at_zero : (lists : List (List Range)) (n : ℕ) → list_at lists n ≡ list_at lists (n + 0)
at_zero lists n = let e : n ≡ n + 0 = omega arith in ap (list_at lists) e

module _ (q : Request) (l : Lists) (same : q.lists ≡ l) (lists : List (List Range)) (bus : ℕ) where
  had_is : (of : Lists → List DecodedRange) → of q.lists ≡ of l
  had_is of = ap of same

  column_gives : (space : Space) → HasColumn l space lists bus → (c : WindowKind) (wide : Bool) → window_space c ≡ space
      → class_ranges q c bus ++ cond wide (wide_ranges q c bus) [] ≡ list_at lists (3 * bus + kind_number c wide)
  column_gives Io is IoWindow wide of =
      plain_alone (class_ranges q IoWindow bus) wide ∙ had_is (λ x. had bus x.io) ∙ sym is ∙ at_zero lists (3 * bus)
  column_gives Memory is IoWindow wide of = absurd (let no : ⊥ = cc in no)
  column_gives Io is MemoryWindow wide of = absurd (let no : ⊥ = cc in no)
  column_gives Memory is MemoryWindow false of = append-nil (class_ranges q MemoryWindow bus) ∙ had_is (λ x. had bus x.memory) ∙ sym is.plain_is ∙ at_zero lists (3 * bus)
  column_gives Memory is MemoryWindow true of = had_is (λ x. had bus x.memory ++ had bus x.prefetch) ∙ sym is.wide_is
  column_gives Io is PrefetchWindow wide of = absurd (let no : ⊥ = cc in no)
  column_gives Memory is PrefetchWindow wide of = plain_alone (class_ranges q PrefetchWindow bus) wide ∙ had_is (λ x. had bus x.prefetch) ∙ sym is.prefetch_is

pub root_lists_for : (q : Request) (s : System) (keep : Kept) (l : Lists) (space : Space) (root : ℕ) (lists : List (List Range)) (places : List Places) (placed : ℕ → List Placed) → IsSystem s → is_root q.roots root ≡ true → q.lists ≡ l
    → HasRootColumns q.roots l space 256 lists → AreListsFor q s keep space placed root lists places untold
root_lists_for q s keep l space root lists places placed system is_one same are c listed taken =
    let i = candidate_value s c in
    let of = of_space q s keep space root i listed in
    let on = i.region.function.slot.bus in
    let here : is_root q.roots on ≡ true = elim (or_cases (root == on) (is_root q.roots root && is_root q.roots on) of.beside) [
      | inl one ↦ subst (λ n. is_root q.roots n ≡ true) (eqb-true root on one) is_one
      | inr both ↦ (and_parts (is_root q.roots root) (is_root q.roots on) both).1
    ] in
    let low = (slots_of s system i.region.function of.listed).0 in
    ap (λ b. cond b (first_place (root_ranges q i) taken i.extent) (place_behind keep placed i taken (bridge_over s on))) here
    ∙ ap (λ rs. first_place rs taken i.extent)
    (column_gives q l same lists on space (are.each on (omega (arith, low)) here) i.class (is_high i.extent) (in_space q s keep space root i listed)
    ∙ ap (λ n. list_at lists (3 * n + kind_number i.class (is_high i.extent))) (sym (ap (λ b. cond b on 0) here)))
    ∙ sym (ap (λ o. else_at o (first_place (list_at lists (list_number q.roots i)) taken i.extent)) (nothing_told places c))
