-- Lists of faults that come behind others.
use Rattle.std.proofs.Common.{rules, ◌≡◌, ℕ, ◌+◌, ◌<◌, ◌⊎◌, inl, inr, List, [], ◌∷◌, ◌++◌, refl, sym, ◌∙◌, ap, subst, arith, append_assoc, append-nil, get_or}
use Rattle.std.specs.Prelude.{◌↔◌}
use Rattle.std.proofs.lemmas.List.Elements.{Contains-append_left, Contains-append_right, Contains-append_cases}
use Rattle.pci_spec.specs.Slot.{Slot}
use Rattle.pci_spec.specs.System.{System, Space, Io, Memory, IsSystem}
use Rattle.pci_spec.specs.Fault as faults
use Rattle.pci_spec.specs.Fault.{Unreached, Clash, Split}
use Rattle.pci_spec.specs.Order.{Check, Reach, Clashes, Splits, judging_key}
use Rattle.pci_spec.proofs.Members.{in_nil, in_head, in_cons_cases, pairs_nil, pairs_cons, pairs_append}
use Rattle.pci_spec.proofs.Regions.{slot_from}
use Rattle.pci_spec.proofs.Firsts.{same_region, space_key-same, slot_of, named_slot}
use Rattle.pci_check.proofs.Clashing.{io_is_not_memory}
use Rattle.std.proofs.lemmas.Bool.{cases_eq}
use Rattle.pci_function.specs.declared.fault.Fault.{Fault}
use Rattle.pci_function.specs.Fault.{fault_of}
use Rattle.pci_tree.specs.Outline.{Tree}
use Rattle.pci_tree.specs.Trees.{HasTree}
use Rattle.pci_faults.specs.Lines.{AreJustCodeFaults, AreCodeFaultsAppended, AreLinesAdded, IsLineInEach, IsAt, IsAtBusesBelow}

abbrev pub key_of : Fault → List ℕ
key_of f = judging_key (fault_of f)

abbrev pub Differ : Fault → Fault → Type 0
Differ f g = key_of f ≡ key_of g → ⊥

-- no fault of one kind has the key of one of the other
abbrev pub AreApart : (faults.Fault → Type 0) → (faults.Fault → Type 0) → Type 0
AreApart P Q = (f g : faults.Fault) → P f → Q g → judging_key f ≡ judging_key g → ⊥

pub just_none : (P : faults.Fault → Type 0) → ((f : faults.Fault) → P f → ⊥) → AreJustCodeFaults P []
just_none P none = record {
  each = λ f has. absurd (in_nil f has);
  complete = λ f is. absurd (none f is);
  distinct = pairs_nil Differ;
}

pub just_one : (P : faults.Fault → Type 0) (f : Fault) → P (fault_of f) → ((g : faults.Fault) → P g → fault_of f ≡ g) → AreJustCodeFaults P (f ∷ [])
just_one P f is only = record {
  each = λ g has. elim (in_cons_cases f [] g has) [ inl here ↦ subst (λ (x : Fault). P (fault_of x)) here is | inr later ↦ absurd (in_nil g later) ];
  complete = λ g such. (f, in_head f [], only g such);
  distinct = pairs_cons Differ f [] (λ g has. absurd (in_nil g has)) (pairs_nil Differ);
}

module _ (P Q R : faults.Fault → Type 0) (apart : AreApart P Q) (either : (f : faults.Fault) → R f ↔ (P f ⊎ Q f)) where
  pub just_both : (xs ys : List Fault) → AreJustCodeFaults P xs → AreJustCodeFaults Q ys → AreJustCodeFaults R (xs ++ ys)
  just_both xs ys one two = record {
    each = λ f has. (either (fault_of f)).1 (elim (Contains-append_cases xs ys f has) [ inl before ↦ inl (one.each f before) | inr here ↦ inr (two.each f here) ]);
    complete = λ f is. elim ((either f).0 is) [
      | inl p ↦ (let found = one.complete f p in (found.0, Contains-append_left xs ys found.0 found.1, found.2))
      | inr q ↦ (let found = two.complete f q in (found.0, Contains-append_right xs ys found.0 found.1, found.2))
    ];
    distinct = pairs_append Differ xs ys one.distinct two.distinct (λ x y in_x in_y. apart (fault_of x) (fault_of y) (one.each x in_x) (two.each y in_y));
  }

pub just_same : (P Q : faults.Fault → Type 0) (xs : List Fault) → ((f : faults.Fault) → P f ↔ Q f) → AreJustCodeFaults P xs → AreJustCodeFaults Q xs
just_same P Q xs same just = record {
  each = λ f has. (same (fault_of f)).0 (just.each f has);
  complete = λ f is. just.complete f ((same f).1 is);
  distinct = just.distinct;
}

module _ (t : Tree) where
  pub added_none : (P : System → faults.Fault → Type 0) (list : List Fault) → ((s : System) → HasTree t s → (f : faults.Fault) → P s f → ⊥) → AreCodeFaultsAppended t P list list
  added_none P list none = record { more = []; appended = sym (append-nil list); just = λ s tree. just_none (P s) (none s tree) }

  pub added_one : (P : System → faults.Fault → Type 0) (list : List Fault) (f : Fault) → ((s : System) → HasTree t s → P s (fault_of f) × ((g : faults.Fault) → P s g → fault_of f ≡ g))
      → AreCodeFaultsAppended t P list (list ++ f ∷ [])
  added_one P list f is = record { more = f ∷ []; appended = refl; just = λ s tree. just_one (P s) f (is s tree).0 (is s tree).1 }

  pub added_both : (P Q R : System → faults.Fault → Type 0) (a b c : List Fault) → ((s : System) → HasTree t s → AreApart (P s) (Q s))
      → ((s : System) → HasTree t s → (f : faults.Fault) → R s f ↔ (P s f ⊎ Q s f)) → AreCodeFaultsAppended t P a b → AreCodeFaultsAppended t Q b c → AreCodeFaultsAppended t R a c
  added_both P Q R a b c apart either one two = record {
    more = one.more ++ two.more;
    appended = two.appended ∙ ap (λ (l : List Fault). l ++ two.more) one.appended ∙ append_assoc a one.more two.more;
    just = λ s tree. just_both (P s) (Q s) (R s) (apart s tree) (either s tree) one.more two.more (one.just s tree) (two.just s tree);
  }

  pub added_same : (P Q : System → faults.Fault → Type 0) (a b : List Fault) → ((s : System) → HasTree t s → (f : faults.Fault) → P s f ↔ Q s f) → AreCodeFaultsAppended t P a b → AreCodeFaultsAppended t Q a b
  added_same P Q a b same added = record { more = added.more; appended = added.appended; just = λ s tree. just_same (P s) (Q s) added.more (same s tree) (added.just s tree) }

-- ---- lines by check, bus and space

abbrev pub Where : Type 1
Where = Check → ℕ → Space → Type 0

split_up : {X Y Z W : Type 0} → (Z ↔ (X ⊎ Y)) → (Z × W) ↔ ((X × W) ⊎ (Y × W))
split_up either = (
  λ (z, w). elim (either.0 z) [ inl x ↦ inl (x, w) | inr y ↦ inr (y, w) ],
  λ one. elim one [ inl (x, w) ↦ (either.1 (inl x), w) | inr (y, w) ↦ (either.1 (inr y), w) ],
)

-- two lines with one key are of one check, bus and space
pub record AreAtOne (A B : Where) : Type 0 where
  pub check : Check
  pub bus : ℕ
  pub space : Space
  pub first : A check bus space
  pub second : B check bus space

at_one : (A B : Where) (check : Check) (bus bus' : ℕ) (space space' : Space) → bus ≡ bus' → space ≡ space' → A check bus space → B check bus' space' → AreAtOne A B
at_one A B check bus bus' space space' same_bus same_space a b = record {
  check = check;
  bus = bus';
  space = space';
  first = subst (λ (x : Space). A check bus' x) same_space (subst (λ n. A check n space) same_bus a);
  second = b;
}

-- the number at a place of a key
same_at : (k : ℕ) (xs ys : List ℕ) → xs ≡ ys → get_or xs k 0 ≡ get_or ys k 0
same_at k xs ys e = ap (λ l. get_or l k 0) e

module _ (roots : List ℕ) (s : System) (system : IsSystem s) (A B : Where) where
  unreached_same : (t u : Slot) (r q : ℕ) (sp space : Space) (a b : ℕ) (c d : Slot) → IsLineInEach A roots s (faults.Unreached t r sp a c) → IsLineInEach B roots s (faults.Unreached u q space b d)
      → judging_key (faults.Unreached t r sp a c) ≡ judging_key (faults.Unreached u q space b d) → AreAtOne A B
  unreached_same t u r q sp space a b c d one two e =
      let v = one.1.there in
      let w = two.1.there in
      let slot : t ≡ u = slot_from t u (same_at 1 _ _ e) (same_at 2 _ _ e) (same_at 3 _ _ e) in
      let register : r ≡ q = same_at 4 _ _ e in
      let region = same_region s system v.f w.f v.part w.part sp space a b v.listed w.listed (v.named.0 ∙ slot ∙ sym w.named.0) (v.named.1 ∙ register ∙ sym w.named.1) v.claims w.claims in
      at_one A B Reach t.bus u.bus sp space (ap (λ (x : Slot). x.bus) slot) region.2 one.0 two.0

  pub same_line : (f g : faults.Fault) → IsLineInEach A roots s f → IsLineInEach B roots s g → judging_key f ≡ judging_key g → AreAtOne A B
  same_line (faults.Unreached t r sp a c) (faults.Unreached u q space b d) one two e = unreached_same t u r q sp space a b c d one two e
  same_line (faults.Clash n sp a f r g q) (faults.Clash m space b h k i l) one two e =
      at_one A B Clashes n m sp space (same_at 1 _ _ e) (space_key-same sp space (same_at 2 _ _ e)) one.0 two.0
  same_line (faults.Split sp a f r g q) (faults.Split space b h k i l) one two e = at_one A B Splits 0 0 sp space refl (space_key-same sp space (same_at 1 _ _ e)) one.0 two.0
  same_line (faults.Unreached t r sp a c) (faults.Clash m space b h k i l) one two e = absurd (let head = same_at 0 _ _ e in let no : ⊥ = omega (arith, head) in no)
  same_line (faults.Unreached t r sp a c) (faults.Split space b h k i l) one two e = absurd (let head = same_at 0 _ _ e in let no : ⊥ = omega (arith, head) in no)
  same_line (faults.Clash n sp a f r g q) (faults.Unreached u p space b d) one two e = absurd (let head = same_at 0 _ _ e in let no : ⊥ = omega (arith, head) in no)
  same_line (faults.Clash n sp a f r g q) (faults.Split space b h k i l) one two e = absurd (let head = same_at 0 _ _ e in let no : ⊥ = omega (arith, head) in no)
  same_line (faults.Split sp a f r g q) (faults.Unreached u p space b d) one two e = absurd (let head = same_at 0 _ _ e in let no : ⊥ = omega (arith, head) in no)
  same_line (faults.Split sp a f r g q) (faults.Clash m space b h k i l) one two e = absurd (let head = same_at 0 _ _ e in let no : ⊥ = omega (arith, head) in no)
  same_line f g one two e = absurd (search rules)

either_line : (A B C : Where) → ((c : Check) (b : ℕ) (sp : Space) → C c b sp ↔ (A c b sp ⊎ B c b sp)) → (roots : List ℕ) (s : System) (f : faults.Fault) → IsLineInEach C roots s f ↔ (IsLineInEach A roots s f ⊎ IsLineInEach B roots s f)
either_line A B C either roots s f = elim f as (λ (f : faults.Fault). IsLineInEach C roots s f ↔ (IsLineInEach A roots s f ⊎ IsLineInEach B roots s f)) [
  | Unreached slot register space a b ↦ split_up (either Reach slot.bus space)
  | Clash bus space a f r g q ↦ split_up (either Clashes bus space)
  | Split space a f r g q ↦ split_up (either Splits 0 space)
  | _ ↦ (λ line. absurd line, λ line. elim line [ inl x ↦ x | inr y ↦ y ])
]

module _ (t : Tree) (A B C : Where) (never : (c : Check) (b : ℕ) (sp : Space) → A c b sp → B c b sp → ⊥) (either : (c : Check) (b : ℕ) (sp : Space) → C c b sp ↔ (A c b sp ⊎ B c b sp)) where
  pub lines_both : (a b c : List Fault) → AreLinesAdded A t a b → AreLinesAdded B t b c → AreLinesAdded C t a c
  lines_both a b c one two = added_both t (IsLineInEach A t.roots) (IsLineInEach B t.roots) (IsLineInEach C t.roots) a b c
      (λ s tree f g line other e. (let at = same_line t.roots s tree.system A B f g line other e in never at.check at.bus at.space at.first at.second))
      (λ s tree f. either_line A B C either t.roots s f) one two

-- ---- spaces and buses

module _ (check : Check) (roots : List ℕ) (s : System) where
  none_below : (f : faults.Fault) → IsLineInEach (IsAtBusesBelow check 0) roots s f → ⊥
  none_below (faults.Unreached slot register sp a b) line = let less = line.0.1 in let no : ⊥ = omega (arith, less) in no
  none_below (faults.Clash bus sp a f r g q) line = let less = line.0.1 in let no : ⊥ = omega (arith, less) in no
  none_below (faults.Split sp a f r g q) line = let less = line.0.1 in let no : ⊥ = omega (arith, less) in no
  none_below f line = absurd (search rules)

  widened : (f : faults.Fault) → IsLineInEach (IsAtBusesBelow check 256) roots s f → IsLineInEach (λ c n sp. c ≡ check) roots s f
  widened (faults.Unreached slot register sp a b) line = (line.0.0, line.1)
  widened (faults.Clash bus sp a f r g q) line = (line.0.0, line.1)
  widened (faults.Split sp a f r g q) line = (line.0.0, line.1)
  widened f line = absurd (search rules)

  narrowed : IsSystem s → (f : faults.Fault) → IsLineInEach (λ c n sp. c ≡ check) roots s f → IsLineInEach (IsAtBusesBelow check 256) roots s f
  narrowed system (faults.Unreached slot register sp a b) line =
      let u = line.1.there in
      let small = (slot_of s system u.f u.listed).0 in
      ((line.0, subst (λ (x : Slot). x.bus < 256) u.named.0 small), line.1)
  narrowed system (faults.Clash bus sp a f r g q) line =
      let claims = line.1.there.claims_first in
      let slot = named_slot s system bus sp a f r claims in
      let on = claims.4 in
      ((line.0, omega (arith, slot, on)), line.1)
  narrowed system (faults.Split sp a f r g q) line = ((line.0, omega arith), line.1)
  narrowed system f line = absurd (search rules)

module _ (t : Tree) (check : Check) where
  abbrev pub IsOn : ℕ → Where
  IsOn bus c b sp = (c ≡ check) × (b ≡ bus)

  pub both_spaces : (bus : ℕ) (a b c : List Fault) → AreLinesAdded (IsAt check bus Io) t a b → AreLinesAdded (IsAt check bus Memory) t b c → AreLinesAdded (IsOn bus) t a c
  both_spaces bus a b c one two = lines_both t (IsAt check bus Io) (IsAt check bus Memory) (IsOn bus)
      (λ k n sp io memory. io_is_not_memory (sym io.2 ∙ memory.2))
      (λ k n sp. (
        λ on. elim sp as (λ sp. IsAt check bus Io k n sp ⊎ IsAt check bus Memory k n sp) [ Io ↦ inl (on.0, on.1, refl) | Memory ↦ inr (on.0, on.1, refl) ],
        λ at. elim at [ inl io ↦ (io.0, io.1) | inr memory ↦ (memory.0, memory.1) ],
      )) a b c one two

  pub no_bus : (list : List Fault) → AreLinesAdded (IsAtBusesBelow check 0) t list list
  no_bus list = added_none t (IsLineInEach (IsAtBusesBelow check 0) t.roots) list (λ s tree f line. none_below check t.roots s f line)

  pub one_bus_more : (n : ℕ) (a b c : List Fault) → AreLinesAdded (IsAtBusesBelow check n) t a b → AreLinesAdded (IsOn n) t b c → AreLinesAdded (IsAtBusesBelow check (n + 1)) t a c
  one_bus_more n a b c one two = lines_both t (IsAtBusesBelow check n) (IsOn n) (IsAtBusesBelow check (n + 1))
      (λ k m sp below on. (let less = below.1 in let same = on.1 in let no : ⊥ = omega (arith, less, same) in no))
      (λ k m sp. (
        λ below. elim (cases_eq m n) [ inl same ↦ inr (below.0, same) | inr differ ↦ inl (below.0, (let less = below.1 in omega (arith, less, differ))) ],
        λ one. elim one [ inl below ↦ (below.0, (let less = below.1 in omega (arith, less))) | inr on ↦ (on.0, (let same = on.1 in omega (arith, same))) ],
      )) a b c one two

  -- buses have numbers below 256
  pub all_buses : (a b : List Fault) → AreLinesAdded (IsAtBusesBelow check 256) t a b → AreLinesAdded (λ c n sp. c ≡ check) t a b
  all_buses a b added = added_same t (IsLineInEach (IsAtBusesBelow check 256) t.roots) (IsLineInEach (λ c n sp. c ≡ check) t.roots) a b
      (λ s tree f. (λ line. widened check t.roots s f line, λ line. narrowed check t.roots s tree.system f line)) added
