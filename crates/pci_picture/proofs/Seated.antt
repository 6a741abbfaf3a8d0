-- The parents that lines are seated in.
use Rattle.std.proofs.Common.{arith, ◌≡◌, ◌<◌, ◌≤◌, ◌+◌, ◌-◌, ℕ, zero, suc, false, List, [], ◌∷◌, ◌++◌, Option, None, Some, length, take, set, sym, ap, subst, ◌∙◌, refl, inl, inr, length-set, get_or-set_same, get_or-set_other, get_or-take}
use Rattle.std.proofs.lemmas.Bool.{cases_lt, cases_eq}
use Rattle.std.proofs.lemmas.List.{take_all, get_or_append_left, get_or_push, length_push, length-take-le}
use Rattle.std.specs.List.{slice_index_or}
use Rattle.pci_picture.specs.declared.lanes.Level.{Level}
use Rattle.pci_picture.specs.declared.lanes.Seat.{Seat}
use Rattle.pci_picture.specs.declared.region.Region.{Region}
use Rattle.pci_picture.specs.Lanes.{AreDeep, IsIndented, depth_at}
use Rattle.pci_picture.specs.Seats.{HasParent, IsLevelAdded, IsSeatGiven, seat_at}

-- a level that was pushed behind all others
pub level_added : {A : Type 0} (count depth : ℕ) (old kept new : List (Level A)) (level : Level A) → kept ≡ take depth old → length old ≤ depth
    → new ≡ kept ++ (level ∷ []) → (depth ≤ 1 → level.parent ≡ None) → (1 < depth → 0 < count → level.parent ≡ Some (count - 1))
    → level.until ≡ None → level.ends.items ≡ [] → IsLevelAdded count depth old new
level_added count depth old kept new level is short added top inner empty no_lane = record {
  is_empty = empty;
  no_lane = no_lane;
  level = level;
  added = added ∙ ap (λ l. l ++ (level ∷ [])) (is ∙ take_all depth old short);
  is_top = top;
  is_inner = inner;
}

-- ---- the parents of levels

-- what the lines of a level at an index stand inside, before the line at n
abbrev pub IsParentOfLevel : List Region → ℕ → ℕ → Option ℕ → Type 0
IsParentOfLevel regions n m None = m ≡ 0
IsParentOfLevel regions n m (Some p) = (p < n) × (depth_at regions p ≡ m) × ((k : ℕ) → p < k → k < n → m < depth_at regions k)

abbrev pub HaveLevelsParents : {A : Type 0} → List Region → ℕ → List (Level A) → Type 0
HaveLevelsParents {A = A} regions n levels = (m : ℕ) (d : Level A) → m < length levels → IsParentOfLevel regions n m (slice_index_or levels m d).parent

-- lines before an index have their seats, and the levels reach down to the last of them
pub record IsMapped {A : Type 0} (regions : List Region) (n : ℕ) (seats : List Seat) (levels : List (Level A)) : Type 0 where
  pub count : length seats ≡ n
  pub top : (k : ℕ) → k + 1 ≡ n → length levels ≡ depth_at regions k
  pub none : n ≡ 0 → length levels ≡ 0
  pub parents : (i : ℕ) → i < n → HasParent regions i (seat_at seats i).parent
  pub levels_parents : HaveLevelsParents regions n levels

-- the levels reach down to the line at an index, which has no seat yet
pub record IsOpened {A : Type 0} (regions : List Region) (n : ℕ) (seats : List Seat) (levels : List (Level A)) : Type 0 where
  pub count : length seats ≡ n
  pub reach : length levels ≡ depth_at regions n
  pub parents : (i : ℕ) → i < n → HasParent regions i (seat_at seats i).parent
  pub levels_parents : HaveLevelsParents regions n levels

-- a line is one deeper than the levels that reach less deep
pub one_deeper : {A : Type 0} (regions : List Region) (n : ℕ) (seats : List Seat) (levels : List (Level A)) → IsIndented regions → n < length regions
    → IsMapped regions n seats levels → length levels < depth_at regions n → length levels + 1 ≡ depth_at regions n
one_deeper regions zero seats levels indented inside mapped less =
    let first : depth_at regions 0 ≤ 1 = indented.first in
    let none : length levels ≡ 0 = mapped.none refl in
    omega arith
one_deeper regions (suc k) seats levels indented inside mapped less =
    let top : length levels ≡ depth_at regions k = mapped.top k (omega arith) in
    let next : depth_at regions (k + 1) ≤ depth_at regions k + 1 = indented.next k (omega arith) in
    let same : depth_at regions (k + 1) ≡ depth_at regions (suc k) = ap (λ (n : ℕ). depth_at regions n) (omega arith) in
    omega arith

parent_new : (regions : List Region) (n m depth : ℕ) (seated_in : Option ℕ) → m + 1 ≡ depth → (1 < depth → 0 < n)
    → (1 < depth → depth_at regions (n - 1) ≡ m)
    → (depth ≤ 1 → seated_in ≡ None) → (1 < depth → 0 < n → seated_in ≡ Some (n - 1)) → IsParentOfLevel regions n m seated_in
parent_new regions n m depth seated_in is some above top inner = elim (cases_lt 1 depth) [
  | inl deep ↦
      let more : 0 < n = some deep in
      subst (λ (o : Option ℕ). IsParentOfLevel regions n m o) (sym (inner deep more))
      (omega arith, above deep, λ k low high. absurd (omega arith))
  | inr flat ↦
      subst (λ (o : Option ℕ). IsParentOfLevel regions n m o) (sym (top flat)) (omega arith)
]

pub level_before : {A : Type 0} (levels : List (Level A)) (level d : Level A) (k : ℕ) → k < length levels
    → slice_index_or (levels ++ (level ∷ [])) k d ≡ slice_index_or levels k d
level_before levels level d k less = get_or_append_left levels (level ∷ []) d k less

-- some line stands before one that is deeper than 1
some_before : {A : Type 0} (regions : List Region) (n : ℕ) (seats : List Seat) (levels : List (Level A)) → IsMapped regions n seats levels
    → length levels + 1 ≡ depth_at regions n → 1 < depth_at regions n → 0 < n
some_before regions zero seats levels mapped is deep = let none : length levels ≡ 0 = mapped.none refl in absurd (omega arith)
some_before regions (suc k) seats levels mapped is deep = omega arith

parent_above : {A : Type 0} (regions : List Region) (n : ℕ) (seats : List Seat) (levels : List (Level A)) → IsMapped regions n seats levels
    → 0 < n → depth_at regions (n - 1) ≡ length levels
parent_above regions n seats levels mapped some = sym (mapped.top (n - 1) (omega arith))

opened_deeper : {A : Type 0} (regions : List Region) (n : ℕ) (seats : List Seat) (old : List (Level A)) (level : Level A)
    → IsMapped regions n seats old → length old + 1 ≡ depth_at regions n
    → (depth_at regions n ≤ 1 → level.parent ≡ None) → (1 < depth_at regions n → 0 < n → level.parent ≡ Some (n - 1))
    → IsOpened regions n seats (old ++ (level ∷ []))
opened_deeper regions n seats old level mapped deeper top inner = record {
  count = mapped.count;
  reach = length_push old level ∙ deeper;
  parents = mapped.parents;
  levels_parents = λ m d less. elim (cases_lt m (length old)) [
    | inl before ↦ subst (λ l. IsParentOfLevel regions n m l.parent) (sym (level_before old level d m before)) (mapped.levels_parents m d before)
    | inr last ↦
        let pushed = length_push old level in
        let here : length old ≡ m = omega arith in
        let some = some_before regions n seats old mapped deeper in
        subst (λ l. IsParentOfLevel regions n m l.parent) (sym (get_or_push old level d m here))
        (parent_new regions n m (depth_at regions n) level.parent (omega arith) some
        (λ deep. parent_above regions n seats old mapped (some deep) ∙ here) top inner)
  ];
}

pub opened : {A : Type 0} (regions : List Region) (n : ℕ) (seats : List Seat) (old new : List (Level A)) → IsIndented regions → n < length regions
    → IsMapped regions n seats old → (depth_at regions n ≤ length old → new ≡ take (depth_at regions n) old)
    → (length old < depth_at regions n → IsLevelAdded n (depth_at regions n) old new) → IsOpened regions n seats new
opened regions n seats old new indented inside mapped kept added = elim (cases_lt (length old) (depth_at regions n)) [
  | inl less ↦
      let one = added less in
      subst (λ l. IsOpened regions n seats l) (sym one.added)
      (opened_deeper regions n seats old one.level mapped (one_deeper regions n seats old indented inside mapped less) one.is_top one.is_inner)
  | inr flat ↦ subst (λ l. IsOpened regions n seats l) (sym (kept flat)) (record {
    count = mapped.count;
    reach = length-take-le (depth_at regions n) old flat;
    parents = mapped.parents;
    levels_parents = λ m d less.
        let short = length-take-le (depth_at regions n) old flat in
        let low : m < depth_at regions n = omega arith in
        subst (λ l. IsParentOfLevel regions n m l.parent) (sym (get_or-take (depth_at regions n) old m d low)) (mapped.levels_parents m d (omega arith));
  })
]

-- the parent of a level is that of the line that is seated there
pub parent_of_level : (regions : List Region) (n m : ℕ) (seated_in : Option ℕ) → n < length regions → AreDeep regions → depth_at regions n ≡ m + 1
    → IsParentOfLevel regions n m seated_in → HasParent regions n seated_in
parent_of_level regions n m None inside deep is at = λ p parent.
    let some : 0 < depth_at regions p = deep p (omega (arith, parent.before)) in
    absurd (omega (arith, parent.is_outer))
parent_of_level regions n m (Some p) inside deep is at = record {
  before = at.0;
  is_outer = omega (arith, at.1);
  is_last = λ k low high. omega (arith, at.2 k low high);
}

parent_kept : (regions : List Region) (n m : ℕ) (seated_in : Option ℕ) → m < depth_at regions n → IsParentOfLevel regions n m seated_in
    → IsParentOfLevel regions (n + 1) m seated_in
parent_kept regions n m None less at = at
parent_kept regions n m (Some p) less at = (
  omega (arith, at.0),
  at.1,
  λ k low high. elim (cases_lt k n) [
    | inl before ↦ at.2 k low before
    | inr last ↦
        let here : n ≡ k = omega arith in
        subst (λ (j : ℕ). m < depth_at regions j) here less
  ],
)

pub levels_apart : (regions : List Region) (n m t : ℕ) (seated_in : Option ℕ) → IsParentOfLevel regions n m seated_in → IsParentOfLevel regions n t seated_in → m ≡ t
levels_apart regions n m t None one other = one ∙ sym other
levels_apart regions n m t (Some p) one other = sym one.1 ∙ other.1

pub seat_before : (seats : List Seat) (seat : Seat) (k : ℕ) → k < length seats → seat_at (seats ++ (seat ∷ [])) k ≡ seat_at seats k
seat_before seats seat k less = get_or_append_left seats (seat ∷ []) (record { lane = 0; group = 0; parent = None; is_window = false }) k less

pub seat_last : (seats : List Seat) (seat : Seat) (k : ℕ) → length seats ≡ k → seat_at (seats ++ (seat ∷ [])) k ≡ seat
seat_last seats seat k is = get_or_push seats seat (record { lane = 0; group = 0; parent = None; is_window = false }) k is

-- the line at an index got its seat
pub seated : {A : Type 0} (regions : List Region) (n t first last : ℕ) (seats after : List Seat) (levels : List (Level A)) (old new : Level A)
    → IsIndented regions → n < length regions → IsOpened regions n seats levels → t + 1 ≡ length levels
    → ((d : Level A) → slice_index_or levels t d ≡ old)
    → IsSeatGiven first last old new seats after → IsMapped regions (n + 1) after (set levels t new)
seated regions n t first last seats after levels old new indented inside reached is at given =
    let reach : length levels ≡ depth_at regions n = reached.reach in
    let own : IsParentOfLevel regions n t old.parent =
    subst (λ l. IsParentOfLevel regions n t l.parent) (at old) (reached.levels_parents t old (omega arith)) in
    let seated_in : HasParent regions n old.parent = parent_of_level regions n t old.parent inside indented.deep (omega arith) own in
    subst (λ s. IsMapped regions (n + 1) s (set levels t new)) (sym given.added) (record {
      count = length_push seats given.seat ∙ ap (λ (k : ℕ). k + 1) reached.count;
      top = λ k next. length-set levels t new ∙ (reach ∙ ap (λ (j : ℕ). depth_at regions j) (omega arith));
      none = λ zero_is. absurd (omega arith);
      parents = λ i less. elim (cases_lt i n) [
        | inl before ↦
            let early : i < length seats = omega (arith, reached.count) in
            subst (λ s. HasParent regions i s.parent) (sym (seat_before seats given.seat i early)) (reached.parents i before)
        | inr last ↦
            let here : n ≡ i = omega arith in
            let there : length seats ≡ i = omega (arith, reached.count) in
            subst (λ s. HasParent regions i s.parent) (sym (seat_last seats given.seat i there))
            (subst (λ (j : ℕ). HasParent regions j given.seat.parent) here
            (subst (λ o. HasParent regions n o) (sym given.parent) seated_in))
      ];
      levels_parents = λ m d less.
          let size = length-set levels t new in
          let low : m < length levels = omega arith in
          elim (cases_eq m t) [
            | inl same ↦
                let inner : t < length levels = omega arith in
                subst (λ (j : ℕ). IsParentOfLevel regions (n + 1) j (slice_index_or (set levels t new) j d).parent) (sym same)
                (subst (λ l. IsParentOfLevel regions (n + 1) t l.parent) (sym (get_or-set_same levels t new d inner))
                (subst (λ o. IsParentOfLevel regions (n + 1) t o) (sym given.kept) (parent_kept regions n t old.parent (omega arith) own)))
            | inr other ↦
                subst (λ l. IsParentOfLevel regions (n + 1) m l.parent) (sym (get_or-set_other levels t m new d other))
                (parent_kept regions n m (slice_index_or levels m d).parent (omega arith) (reached.levels_parents m d low))
          ];
    })
