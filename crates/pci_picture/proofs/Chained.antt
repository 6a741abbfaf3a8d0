-- Members that are indented stay so when they are sorted.
use Rattle.std.proofs.Common.{arith, ◌≡◌, ◌<◌, ◌≤◌, ◌+◌, ◌-◌, ◌*◌, ◌⊎◌, ℕ, zero, suc, Bool, true, false, cond, if◌then◌else◌, IsTrue, Option, Some, None, List, [], ◌∷◌, map, drop, length, refl, sym, ap, subst, ◌∙◌, inl, inr}
use Rattle.std.specs.List.{All, filter, slice_index_or}
use Rattle.std.specs.List.Sorted.{IsPermutation, IsSortedBy, IsStableBy, ties}
use Rattle.std.proofs.lemmas.Bool.{both_ways, cases_Bool, cases_lt, eq-eqb, ne_eqb}
use Rattle.std.proofs.lemmas.Option.{none-some, same_Some}
use Rattle.std.proofs.lemmas.List.{drop_more, get_or_default, length-drop}
use Rattle.std.proofs.lemmas.List.Elements.{All-cons, All-head, All-nil, All-tail, filter_agree}
use Rattle.std.proofs.lemmas.List.Sorted.{All-permutation, IsNonDecreasingBy-from_all_adjacent}
use Rattle.pci_picture.specs.Depths.{AreChained, FollowsLine, IsChained}
use Rattle.pci_picture.specs.Lanes.{IsIndented, depth_at}
use Rattle.pci_picture.specs.Maps.{headed_line, headed_member, heading_in, regions_of_members}
use Rattle.pci_picture.specs.Members.{AreIndentedBySection, is_member_in_place, member_number}
use Rattle.pci_picture.specs.declared.map.Heading.TheVariants.{Section, Lost}
use Rattle.pci_picture.specs.declared.map.Line.{Line}
use Rattle.pci_picture.specs.declared.plan.Member.{Member}
use Rattle.pci_picture.proofs.MemberOrder.{AreTogether, ComesAfter, InOrder, IsBehind, behind_both, comes_after, comes_before, in_order, is_beside, sorted_at, tie_is, two_ways}

-- ---- depths that rise by one step at most, behind a line of some depth

abbrev pub Steps : ℕ → List Member → Type 0
Steps level [] = Unit {0}
Steps level (m ∷ ms) = (0 < m.region.depth) × (m.region.depth ≤ level + 1) × Steps m.region.depth ms

deep_at : (level : ℕ) (ms : List Member) → Steps level ms → (k : ℕ) → k < length (regions_of_members ms) → 0 < depth_at (regions_of_members ms) k
deep_at level [] steps k inside = absurd (let no : ⊥ = omega (arith, inside) in no)
deep_at level (m ∷ ms) steps zero inside = steps.0
deep_at level (m ∷ ms) steps (suc k) inside = deep_at m.region.depth ms steps.2 k (omega (arith, inside))

step_at : (level : ℕ) (ms : List Member) → Steps level ms → (k : ℕ) → suc k < length (regions_of_members ms)
    → depth_at (regions_of_members ms) (suc k) ≤ depth_at (regions_of_members ms) k + 1
step_at level [] steps k inside = absurd (let no : ⊥ = omega (arith, inside) in no)
step_at level (m ∷ []) steps k inside = absurd (let no : ⊥ = omega (arith, inside) in no)
step_at level (m ∷ n ∷ ms) steps zero inside = steps.2.1
step_at level (m ∷ n ∷ ms) steps (suc k) inside = step_at m.region.depth (n ∷ ms) steps.2 k (omega (arith, inside))

first_flat : (ms : List Member) → Steps 0 ms → depth_at (regions_of_members ms) 0 ≤ 1
first_flat [] steps = omega arith
first_flat (m ∷ ms) steps = omega (arith, steps.1)

pub indented_by : (ms : List Member) → Steps 0 ms → IsIndented (regions_of_members ms)
indented_by ms steps = record {
  deep = deep_at 0 ms steps;
  first = first_flat ms steps;
  next = λ k inside.
      let same : suc k ≡ k + 1 = omega arith in
      subst (λ (i : ℕ). depth_at (regions_of_members ms) i ≤ depth_at (regions_of_members ms) k + 1) same (step_at 0 ms steps k (omega (arith, inside)));
}

-- ---- members that follow each other

pub record FollowsMember (prev : Option Member) (m : Member) : Type 0 where
  pub deep : 0 < m.region.depth
  pub flat : IsTrue m.is_lost → m.region.depth ≤ 1
  pub behind : 1 < m.region.depth → (p : Member) × (prev ≡ Some p) × AreTogether p m × (m.region.depth ≤ p.region.depth + 1)

abbrev pub Follow : Option Member → List Member → Type 0
Follow prev [] = Unit {0}
Follow prev (m ∷ ms) = FollowsMember prev m × Follow (Some m) ms

-- those that pass a test are indented, where the test says the same of all that stands inside one line of depth 1
module _ (t : Member → Bool) (same : (p m : Member) → AreTogether p m → t p ≡ t m) where
  abbrev KnowsLevel : Option Member → ℕ → Type 0
  KnowsLevel prev level = (p : Member) → prev ≡ Some p → t p ≡ true → level ≡ p.region.depth

  step_of : (prev : Option Member) (level : ℕ) (m : Member) → KnowsLevel prev level → t m ≡ true → FollowsMember prev m → m.region.depth ≤ level + 1
  step_of prev level m knows passes follows = elim (cases_lt 1 m.region.depth) [
    | inl deep ↦
        let b = follows.behind deep in
        let at : level ≡ b.0.region.depth = knows b.0 b.1 (same b.0 m b.2 ∙ passes) in
        omega (arith, at, b.3)
    | inr flat ↦ omega (arith, flat)
  ]

  pub steps_of : (prev : Option Member) (level : ℕ) (ms : List Member) → KnowsLevel prev level → Follow prev ms → Steps level (filter t ms)
  steps_of prev level [] knows follow = tt
  steps_of prev level (m ∷ ms) knows follow = elim (cases_Bool (t m)) [
    | inl passes ↦
        subst (λ b. Steps level (cond b (m ∷ filter t ms) (filter t ms))) (sym passes) (
          follow.0.deep,
          step_of prev level m knows passes follow.0,
          steps_of (Some m) m.region.depth ms (λ p is also. ap (λ (x : Member). x.region.depth) (same_Some m p is)) follow.1,
        )
    | inr fails ↦
        subst (λ b. Steps level (cond b (m ∷ filter t ms) (filter t ms))) (sym fails)
        (steps_of (Some m) level ms (λ p is passes. absurd (both_ways (t p) (sym (ap t (same_Some m p is)) ∙ fails) passes)) follow.1)
  ]

-- ---- members of lines that are chained

abbrev pub FollowLines : Option Line → List Line → Type 0
FollowLines prev [] = Unit {0}
FollowLines prev (line ∷ lines) =
    ((0 < line.region.depth) × (line.section ≡ None → line.region.depth ≤ 1) × (1 < line.region.depth → (p : Line) × (prev ≡ Some p) × FollowsLine p line))
    × FollowLines (Some line) lines

abbrev IsLineBefore : List Line → ℕ → Option Line → Type 0
IsLineBefore lines k prev = (p : ℕ) (d : Line) → p + 1 ≡ k → prev ≡ Some (slice_index_or lines p d)

head_same : (one other : Line) (ones others : List Line) → one ∷ ones ≡ other ∷ others → one ≡ other
head_same one other ones others is = cc

tail_same : (one other : Line) (ones others : List Line) → one ∷ ones ≡ other ∷ others → ones ≡ others
tail_same one other ones others is = cc

follow_lines : (lines rest : List Line) (k : ℕ) (prev : Option Line) → AreChained lines → rest ≡ drop k lines → IsLineBefore lines k prev → FollowLines prev rest
follow_lines lines [] k prev chained is before = tt
follow_lines lines (line ∷ rest) k prev chained is before =
    let size : suc (length rest) ≡ length lines - k = ap (λ (l : List Line). length l) is ∙ length-drop k lines in
    let inside : k < length lines = omega (arith, size) in
    let both : line ∷ rest ≡ slice_index_or lines k line ∷ drop (k + 1) lines = is ∙ drop_more lines k line inside in
    let here : line ≡ slice_index_or lines k line = head_same line (slice_index_or lines k line) rest (drop (k + 1) lines) both in
    let at : IsChained lines k line = subst (IsChained lines k) (sym here) (chained k line inside) in (
      (at.deep, at.lost, λ deep. (let b = at.behind deep in (slice_index_or lines b.0 line, before b.0 line b.1, b.2 line))),
      follow_lines lines rest (k + 1) (Some line) chained (tail_same line (slice_index_or lines k line) rest (drop (k + 1) lines) both)
          (λ p d at_p. (let same : k ≡ p = omega (arith, at_p) in
          ap (λ (l : Line). Some l) here ∙ ap (λ (i : ℕ). Some (slice_index_or lines i line)) same
          ∙ ap (λ (l : Line). Some l) (get_or_default lines p line d (omega (arith, same, inside))))),
    )

-- a member is of a line
abbrev pub IsOfLineBefore : Option Line → Option Member → Type 0
IsOfLineBefore None None = Unit {0}
IsOfLineBefore None (Some m) = ⊥
IsOfLineBefore (Some line) None = ⊥
IsOfLineBefore (Some line) (Some m) = headed_member m ≡ headed_line line

member_before : (prev : Option Line) (mine : Option Member) (p : Line) → IsOfLineBefore prev mine → prev ≡ Some p
    → (m : Member) × (mine ≡ Some m) × (headed_member m ≡ headed_line p)
member_before None mine p of is = absurd (none-some p is)
member_before (Some line) None p of is = absurd of
member_before (Some line) (Some m) p of is = (m, refl, of ∙ ap headed_line (same_Some line p is))

lost_told : (lost : Bool) (number : ℕ) (section : Option ℕ) → (if lost then Lost else Section number) ≡ heading_in section → IsTrue lost → section ≡ None
lost_told true number None is holds = refl
lost_told true number (Some n) is holds = cc
lost_told false number section is holds = absurd (let no : ⊥ = cc in no)

in_place_told : (lost : Bool) (number : ℕ) (section : Option ℕ) → (if lost then Lost else Section number) ≡ heading_in section → (section ≡ None → ⊥) → lost ≡ false
in_place_told true number None is some = absurd (some refl)
in_place_told true number (Some n) is some = cc
in_place_told false number section is some = refl

number_told : (lost other : Bool) (number n : ℕ) → lost ≡ false → other ≡ false → (if lost then Lost else Section number) ≡ (if other then Lost else Section n) → number ≡ n
number_told true other number n mine yours is = absurd (let no : ⊥ = cc in no)
number_told false true number n mine yours is = absurd (let no : ⊥ = cc in no)
number_told false false number n mine yours is = cc

follows_member : (prev : Option Line) (mine : Option Member) (line : Line) (m : Member) → IsOfLineBefore prev mine → headed_member m ≡ headed_line line
    → ((0 < line.region.depth) × (line.section ≡ None → line.region.depth ≤ 1) × (1 < line.region.depth → (p : Line) × (prev ≡ Some p) × FollowsLine p line))
    → FollowsMember mine m
follows_member prev mine line m of head follows =
    let depth : m.region.depth ≡ line.region.depth = ap (λ h. h.depth) head in
    let top : m.top ≡ line.top = ap (λ h. h.top) head in
    let heading : (if m.is_lost then Lost else Section m.section) ≡ heading_in line.section = ap (λ h. h.heading) head in
    record {
      deep = omega (arith, follows.0, depth);
      flat = λ lost. (let low = follows.1 (lost_told m.is_lost m.section line.section heading lost) in omega (arith, low, depth));
      behind = λ more.
          let b = follows.2 (omega (arith, more, depth)) in
          let q = member_before prev mine b.0 of b.1 in
          let some : line.section ≡ None → ⊥ = λ none. (let low = follows.1 none in let no : ⊥ = omega (arith, low, more, depth) in no) in
          let other : q.0.region.depth ≡ b.0.region.depth = ap (λ h. h.depth) q.2 in
          let above : (if q.0.is_lost then Lost else Section q.0.section) ≡ heading_in b.0.section = ap (λ h. h.heading) q.2 in
          let is_other : m.is_lost ≡ false = in_place_told m.is_lost m.section line.section heading some in
          let is_mine : q.0.is_lost ≡ false = in_place_told q.0.is_lost q.0.section b.0.section above (λ none. some (sym b.2.section ∙ none)) in (
            q.0,
            q.1,
            record {
              section = number_told q.0.is_lost m.is_lost q.0.section m.section is_mine is_other (above ∙ ap heading_in b.2.section ∙ sym heading);
              top = ap (λ h. h.top) q.2 ∙ b.2.top ∙ sym top;
              mine = is_mine;
              other = is_other;
            },
            (let step = b.2.step in let low : m.region.depth ≤ q.0.region.depth + 1 = omega (arith, step, other, depth) in low),
          );
    }

follow_members : (prev : Option Line) (mine : Option Member) (lines : List Line) (ms : List Member) → IsOfLineBefore prev mine → map headed_member ms ≡ map headed_line lines
    → FollowLines prev lines → Follow mine ms
follow_members prev mine lines [] of heads follow = tt
follow_members prev mine [] (m ∷ ms) of heads follow = absurd (let size = ap (λ l. length l) heads in let no : ⊥ = omega (arith, size) in no)
follow_members prev mine (line ∷ lines) (m ∷ ms) of heads follow =
    let head : headed_member m ≡ headed_line line = ap (λ l. slice_index_or l 0 (headed_line line)) heads in (
      follows_member prev mine line m of head follow.0,
      follow_members (Some line) (Some m) lines ms head (ap (λ l. drop 1 l) heads) follow.1,
    )

-- members are not deep without a reason
record IsSound (m : Member) : Type 0 where
  pub deep : 0 < m.region.depth
  pub flat : IsTrue m.is_lost → m.region.depth ≤ 1

all_sound : (prev : Option Member) (ms : List Member) → Follow prev ms → All IsSound ms
all_sound prev [] follow = All-nil IsSound
all_sound prev (m ∷ ms) follow = All-cons IsSound m ms (record { deep = follow.0.deep; flat = follow.0.flat }) (all_sound (Some m) ms follow.1)

beside_same : (p m : Member) → AreTogether p m → is_beside p m ≡ true
beside_same p m is = rw (eq-eqb m.section p.section (sym is.section), is.other, eq-eqb m.top p.top (sym is.top)) refl

beside_alike : (p m : Member) → AreTogether p m → (x : Member) → is_beside p x ≡ is_beside m x
beside_alike p m is x = rw (is.section, is.top) refl

-- a member is not beside one that comes behind it
beside_not : (m x : Member) → IsBehind m x → is_beside x m ≡ false
beside_not m x (inl later) = rw (ne_eqb m.section x.section (λ same. omega (arith, later, same))) refl
beside_not m x (inr above) = rw (eq-eqb m.section x.section above.0, above.1, ne_eqb m.top x.top (λ same. (let low = above.2 in omega (arith, low, same)))) refl

abbrev LaterStep : Member → List Member → Type 0
LaterStep p ms = (x : Member) → x.is_lost ≡ false → IsBehind p x → Steps 0 (filter (is_beside x) ms)

-- what is left of a test behind a member that fails it, or passes it
left_out : (t : Member → Bool) (level : ℕ) (m : Member) (ms : List Member) → t m ≡ false → Steps level (filter t (m ∷ ms)) → Steps level (filter t ms)
left_out t level m ms fails steps = subst (λ b. Steps level (cond b (m ∷ filter t ms) (filter t ms))) fails steps

taken_in : (t : Member → Bool) (level : ℕ) (m : Member) (ms : List Member) → t m ≡ true → Steps level (filter t (m ∷ ms)) → Steps level (m ∷ filter t ms)
taken_in t level m ms passes steps = subst (λ b. Steps level (cond b (m ∷ filter t ms) (filter t ms))) passes steps

later_steps : (p m : Member) (ms : List Member) → ComesAfter p m → LaterStep p (m ∷ ms) → LaterStep m ms
later_steps p m ms after later x inside behind =
    left_out (is_beside x) 0 m ms (beside_not m x behind) (later x inside (behind_both p m x after behind))

beside_itself : (m : Member) → m.is_lost ≡ false → is_beside m m ≡ true
beside_itself m inside = beside_same m m (record { section = refl; top = refl; mine = inside; other = inside })

flat_or_deep : (m : Member) → m.is_lost ≡ true → IsSound m → 1 < m.region.depth → ⊥
flat_or_deep m lost sound deep = let low = sound.flat (subst (λ b. IsTrue b) (sym lost) refl) in omega (arith, low, deep)

follow_sorted : (p : Member) (ms : List Member) → InOrder (p ∷ ms) → All IsSound ms → (p.is_lost ≡ false → Steps p.region.depth (filter (is_beside p) ms))
    → LaterStep p ms → Follow (Some p) ms
follow_sorted p [] order sound own later = tt
follow_sorted p (m ∷ ms) order sound own later =
    let one : IsSound m = All-head IsSound m ms sound in
    let rest : All IsSound ms = All-tail IsSound m ms sound in
    let more : LaterStep m ms = later_steps p m ms order.0 later in
    elim (cases_Bool m.is_lost) [
      | inl lost ↦ (
        record { deep = one.deep; flat = one.flat; behind = λ deep. absurd (flat_or_deep m lost one deep) },
        follow_sorted m ms order.1 rest (λ inside. absurd (both_ways m.is_lost inside lost)) more,
      )
      | inr inside ↦ elim (order.0.place inside) [
        | inl behind ↦
            let steps : Steps 0 (m ∷ filter (is_beside m) ms) = taken_in (is_beside m) 0 m ms (beside_itself m inside) (later m inside behind) in (
              record { deep = one.deep; flat = one.flat; behind = λ deep. absurd (let low = steps.1 in let no : ⊥ = omega (arith, low, deep) in no) },
              follow_sorted m ms order.1 rest (λ also. steps.2) more,
            )
        | inr together ↦
            let steps : Steps p.region.depth (m ∷ filter (is_beside p) ms) = taken_in (is_beside p) p.region.depth m ms (beside_same p m together) (own together.mine) in (
              record { deep = one.deep; flat = one.flat; behind = λ deep. (p, refl, together, steps.1) },
              follow_sorted m ms order.1 rest
                  (λ also. subst (λ l. Steps m.region.depth l) (filter_agree (is_beside p) (is_beside m) (beside_alike p m together) ms) steps.2) more,
            )
      ]
    ]

follow_all : (ms : List Member) → InOrder ms → All IsSound ms → ((x : Member) → x.is_lost ≡ false → Steps 0 (filter (is_beside x) ms)) → Follow None ms
follow_all [] order sound steps = tt
follow_all (m ∷ ms) order sound steps =
    let one : IsSound m = All-head IsSound m ms sound in
    let later : LaterStep m ms = λ x inside behind. left_out (is_beside x) 0 m ms (beside_not m x behind) (steps x inside) in
    elim (cases_Bool m.is_lost) [
      | inl lost ↦ (
        record { deep = one.deep; flat = one.flat; behind = λ deep. absurd (flat_or_deep m lost one deep) },
        follow_sorted m ms order (All-tail IsSound m ms sound) (λ inside. absurd (both_ways m.is_lost inside lost)) later,
      )
      | inr inside ↦
          let own : Steps 0 (m ∷ filter (is_beside m) ms) = taken_in (is_beside m) 0 m ms (beside_itself m inside) (steps m inside) in (
            record { deep = one.deep; flat = one.flat; behind = λ deep. absurd (let low = own.1 in let no : ⊥ = omega (arith, low, deep) in no) },
            follow_sorted m ms order (All-tail IsSound m ms sound) (λ also. own.2) later,
          )
    ]

-- ---- by section

beside_one : (x p m : Member) → AreTogether p m → is_beside x p ≡ is_beside x m
beside_one x p m is = rw (is.section, is.top, is.mine, is.other) refl

in_place_same : (number : ℕ) (p m : Member) → AreTogether p m → is_member_in_place number p ≡ is_member_in_place number m
in_place_same number p m is = rw (is.section, is.mine, is.other) refl

nobody : (t : Member → Bool) (level : ℕ) (p : Member) → None ≡ Some p → t p ≡ true → level ≡ p.region.depth
nobody t level p is passes = absurd (none-some p is)

not_lost_if : (p m : Member) → IsBehind p m → p.section ≡ m.section → p.is_lost ≡ false
not_lost_if p m (inl later) same = absurd (let no : ⊥ = omega (arith, later, same) in no)
not_lost_if p m (inr below) same = below.1

place_by : (lost other : Bool) (s t : ℕ) → (s < t) ⊎ ((s ≡ t) × (other ≡ false → lost ≡ false)) → 2 * s + (if lost then 1 else 0) ≤ 2 * t + (if other then 1 else 0)
place_by true true s t (inl less) = omega (arith, less)
place_by true true s t (inr same) = let is = same.0 in omega (arith, is)
place_by true false s t (inl less) = omega (arith, less)
place_by true false s t (inr same) = absurd (let no : ⊥ = (let is : true ≡ false = same.1 refl in cc) in no)
place_by false true s t (inl less) = omega (arith, less)
place_by false true s t (inr same) = let is = same.0 in omega (arith, is)
place_by false false s t (inl less) = omega (arith, less)
place_by false false s t (inr same) = let is = same.0 in omega (arith, is)

place_rises : (p m : Member) → comes_before m p ≡ false → member_number p ≤ member_number m
place_rises p m is =
    let after = comes_after p m is in
    let low = after.section in
    elim (two_ways p.section m.section) [
      | inl less ↦ let up = less.low in place_by p.is_lost m.is_lost p.section m.section (inl up)
      | inr more ↦ elim more [
        | inl less ↦ absurd (let up = less.low in let no : ⊥ = omega (arith, up, low) in no)
        | inr same ↦ place_by p.is_lost m.is_lost p.section m.section (inr (
          same.is,
          λ inside. elim (after.place inside) [
            | inl behind ↦ not_lost_if p m behind same.is
            | inr together ↦ together.mine
          ],
        ))
      ]
    ]

pub indented_members : (lines : List Line) (old new : List Member) → AreChained lines → map headed_member old ≡ map headed_line lines
    → IsPermutation old new → IsSortedBy comes_before new → IsStableBy comes_before old new
    → AreIndentedBySection new
indented_members lines old new chained heads moved sorted stable =
    let follow : Follow None old = follow_members None None lines old tt heads (follow_lines lines lines 0 None chained refl (λ p d is. absurd (let no : ⊥ = omega (arith, is) in no))) in
    let sound : All IsSound new = All-permutation IsSound old new moved (all_sound None old follow) in
    let steps : (x : Member) → x.is_lost ≡ false → Steps 0 (filter (is_beside x) new) = λ x inside.
    subst (λ l. Steps 0 l)
    (sym (filter_agree (ties comes_before x) (is_beside x) (λ m. tie_is x m inside) old)
    ∙ sym (stable x) ∙ filter_agree (ties comes_before x) (is_beside x) (λ m. tie_is x m inside) new)
    (steps_of (is_beside x) (beside_one x) None 0 old (nobody (is_beside x) 0) follow) in
    let all : Follow None new = follow_all new (in_order new (λ k d inside. sorted_at new sorted k d inside)) sound steps in
    record {
      indented = λ number. indented_by (filter (is_member_in_place number) new) (steps_of (is_member_in_place number) (in_place_same number) None 0 new (nobody (is_member_in_place number) 0) all);
      flat = λ k d inside. (let one = sound k d inside in λ lost. (let low = one.flat lost in let deep = one.deep in omega (arith, low, deep)));
      lost_last = IsNonDecreasingBy-from_all_adjacent member_number new (λ k d inside. place_rises (slice_index_or new k d) (slice_index_or new (k + 1) d) (sorted k d (omega arith) inside));
    }
