-- A system has at most one map, with what is given and told.
use Rattle.std.proofs.Common.{◌≡◌, ℕ, ◌<◌, List, [], ◌∷◌, map, drop, refl, sym, ◌∙◌, ap, subst, inl, inr, arith}
use Rattle.std.specs.List.{Contains, AllPairs}
use Rattle.pci_spec.specs.Slot.{Slot, slot_number}
use Rattle.pci_spec.specs.System.{System, Space, Io, Memory, Part, Bar, Rom, Window}
use Rattle.pci_spec.specs.Decoded.{Range}
use Rattle.pci_spec.proofs.Members.{in_nil, in_cons_cases, in_head, in_tail, pairs_nil, pairs_cons, pairs_head, pairs_tail}
use Rattle.judge_spec.specs.Given.{Given}
use Rattle.judge_spec.specs.ToldClaims.{Told}
use Rattle.judge_spec.proofs.OneList.{same_list, same_runs}
use Rattle.judge_spec.specs.Regions.{MapRegion, Own, OfLine, region_rank}
use Rattle.judge_spec.specs.Lines.{MapPlace, OnRoot, Inside, Lines, End, Free, Sits, regions_at, runs_at, marks, Mark, run_mark, region_mark, MarkIsBefore, IsFreeInPlace, IsOutOfPlace, AreLinesAt, AreInPart, AreInside, AreAllInside, AreLinesOfPlace, TakenBy}
use Rattle.judge_spec.specs.Map.{MapTaking, MapSpace, MapRoot, Map, AreTakings, IsSpaceOfMap, IsRootOfMap, IsOnlyLeft, AreRegionsBySlot, IsMap}
use Rattle.judge_spec.specs.MapText.{map_text_of}
use Rattle.judge_spec.proofs.Having.{taking_stands}
use Rattle.judge_spec.specs.MapDeterminedLaws.{LinesAreDetermined, MapIsDetermined, MapTextIsDetermined}

-- ---- the lines of a place as a list

data Item : Type 0 where
  Run : Range → Item
  Line : MapRegion → Item

abbrev items : Lines → List Item
items End = []
items (Free r rest) = Run r ∷ items rest
items (Sits q inside rest) = Line q ∷ items rest

abbrev mark_of : Item → Mark
mark_of (Run r) = run_mark r
mark_of (Line q) = region_mark q

abbrev run_or : Range → Item → Range
run_or d (Run r) = r
run_or d (Line q) = d

abbrev region_or : MapRegion → Item → MapRegion
region_or d (Run r) = d
region_or d (Line q) = q

run_is : (r t : Range) → Run r ≡ Run t → r ≡ t
run_is r t e = ap (run_or r) e

line_is : (q w : MapRegion) → Line q ≡ Line w → q ≡ w
line_is q w e = ap (region_or q) e

no_line : {X : Type 0} (r : Range) (q : MapRegion) → Run r ≡ Line q → X
no_line r q e = cc

item_run : (lines : Lines) (r : Range) → Contains (items lines) (Run r) → Contains (runs_at lines) r
item_run End r has = absurd (in_nil (Run r) has)
item_run (Free t rest) r has = elim (in_cons_cases (Run t) (items rest) (Run r) has) [
  | inl here ↦ subst (λ (x : Range). Contains (t ∷ runs_at rest) x) (run_is t r here) (in_head t (runs_at rest))
  | inr later ↦ in_tail t (runs_at rest) r (item_run rest r later)
]
item_run (Sits q inside rest) r has = elim (in_cons_cases (Line q) (items rest) (Run r) has) [
  | inl here ↦ no_line r q (sym here)
  | inr later ↦ item_run rest r later
]

run_item : (lines : Lines) (r : Range) → Contains (runs_at lines) r → Contains (items lines) (Run r)
run_item End r has = absurd (in_nil r has)
run_item (Free t rest) r has = elim (in_cons_cases t (runs_at rest) r has) [
  | inl here ↦ subst (λ (x : Range). Contains (Run t ∷ items rest) (Run x)) here (in_head (Run t) (items rest))
  | inr later ↦ in_tail (Run t) (items rest) (Run r) (run_item rest r later)
]
run_item (Sits q inside rest) r has = in_tail (Line q) (items rest) (Run r) (run_item rest r has)

item_line : (lines : Lines) (q : MapRegion) → Contains (items lines) (Line q) → Contains (regions_at lines) q
item_line End q has = absurd (in_nil (Line q) has)
item_line (Free t rest) q has = elim (in_cons_cases (Run t) (items rest) (Line q) has) [
  | inl here ↦ no_line t q here
  | inr later ↦ item_line rest q later
]
item_line (Sits w inside rest) q has = elim (in_cons_cases (Line w) (items rest) (Line q) has) [
  | inl here ↦ subst (λ (x : MapRegion). Contains (w ∷ regions_at rest) x) (line_is w q here) (in_head w (regions_at rest))
  | inr later ↦ in_tail w (regions_at rest) q (item_line rest q later)
]

line_item : (lines : Lines) (q : MapRegion) → Contains (regions_at lines) q → Contains (items lines) (Line q)
line_item End q has = absurd (in_nil q has)
line_item (Free t rest) q has = in_tail (Run t) (items rest) (Line q) (line_item rest q has)
line_item (Sits w inside rest) q has = elim (in_cons_cases w (regions_at rest) q has) [
  | inl here ↦ subst (λ (x : MapRegion). Contains (Line w ∷ items rest) (Line x)) here (in_head (Line w) (items rest))
  | inr later ↦ in_tail (Line w) (items rest) (Line q) (line_item rest q later)
]

-- ---- their order

abbrev Comes : Item → Item → Type 0
Comes x y = MarkIsBefore (mark_of x) (mark_of y)

before_one_way : (m n : Mark) → MarkIsBefore m n → MarkIsBefore n m → ⊥
before_one_way m n (inl low) (inl high) = omega (arith, low, high)
before_one_way m n (inl low) (inr high) = let e = high.0 in omega (arith, low, e)
before_one_way m n (inr low) (inl high) = let e = low.0 in omega (arith, e, high)
before_one_way m n (inr low) (inr high) = omega (arith, low.1, high.1)

mark_in : (lines : Lines) (x : Item) → Contains (items lines) x → Contains (marks lines) (mark_of x)
mark_in End x has = absurd (in_nil x has)
mark_in (Free r rest) x has = elim (in_cons_cases (Run r) (items rest) x has) [
  | inl here ↦ subst (λ (y : Item). Contains (run_mark r ∷ marks rest) (mark_of y)) here (in_head (run_mark r) (marks rest))
  | inr later ↦ in_tail (run_mark r) (marks rest) (mark_of x) (mark_in rest x later)
]
mark_in (Sits q inside rest) x has = elim (in_cons_cases (Line q) (items rest) x has) [
  | inl here ↦ subst (λ (y : Item). Contains (region_mark q ∷ marks rest) (mark_of y)) here (in_head (region_mark q) (marks rest))
  | inr later ↦ in_tail (region_mark q) (marks rest) (mark_of x) (mark_in rest x later)
]

items_rise : (lines : Lines) → AllPairs MarkIsBefore (marks lines) → AllPairs Comes (items lines)
items_rise End rising = pairs_nil Comes
items_rise (Free r rest) rising =
    pairs_cons Comes (Run r) (items rest) (λ y has. pairs_head MarkIsBefore (run_mark r) (marks rest) (mark_of y) rising (mark_in rest y has))
    (items_rise rest (pairs_tail MarkIsBefore (run_mark r) (marks rest) rising))
items_rise (Sits q inside rest) rising =
    pairs_cons Comes (Line q) (items rest) (λ y has. pairs_head MarkIsBefore (region_mark q) (marks rest) (mark_of y) rising (mark_in rest y has))
    (items_rise rest (pairs_tail MarkIsBefore (region_mark q) (marks rest) rising))

-- ---- the lines of a place

-- what is inside a region that isn't a window is nothing
inside_part : (part : Part) (inside other : Lines) (P Q : Type 0) → (P → Q → inside ≡ other) → AreInPart part inside P → AreInPart part other Q → inside ≡ other
inside_part (Bar n) inside other P Q f h k = h ∙ sym k
inside_part Rom inside other P Q f h k = h ∙ sym k
inside_part (Window kind) inside other P Q f h k = f h k

module _ (told : Told) (given : Given) (roots : List ℕ) (s : System) where
  module _ (space : Space) where
    item_in_other : (place : MapPlace) (lines others : Lines) → AreLinesAt told given roots s space place lines → AreLinesAt told given roots s space place others
        → (x : Item) → Contains (items lines) x → Contains (items others) x
    item_in_other place lines others are also (Run r) has =
        let same : runs_at lines ≡ runs_at others = same_runs (IsFreeInPlace told given s space place) (runs_at lines) (runs_at others) are.free also.free in
        run_item others r (subst (λ (rs : List Range). Contains rs r) same (item_run lines r has))
    item_in_other place lines others are also (Line q) has =
        let at : Contains (regions_at lines) q = item_line lines q has in
        line_item others q (also.complete q (are.regions q at) (are.of_space q at) (are.stand q at) (are.within q at))

    same_items : (place : MapPlace) (lines others : Lines) → AreLinesAt told given roots s space place lines → AreLinesAt told given roots s space place others → items lines ≡ items others
    same_items place lines others are also =
        same_list Comes (λ x y. before_one_way (mark_of x) (mark_of y)) (items lines) (items others) (items_rise lines are.rising) (items_rise others also.rising)
        (item_in_other place lines others are also) (item_in_other place others lines also are)

    inside_same : (q : MapRegion) (inside other : Lines)
        → ((place : MapPlace) → AreLinesAt told given roots s space place inside → AreLinesAt told given roots s space place other → inside ≡ other)
        → AreInside told given roots s space q inside → AreInside told given roots s space q other → inside ≡ other
    inside_same (Own q) inside other f h k =
        inside_part q.part inside other (AreLinesAt told given roots s space (Inside q) inside) (AreLinesAt told given roots s space (Inside q) other) (f (Inside q)) h k
    inside_same (OfLine x) inside other f h k = h ∙ sym k

    same_lines : (lines others : Lines) → items lines ≡ items others → AreAllInside told given roots s space lines → AreAllInside told given roots s space others → lines ≡ others
    same_lines End End e are also = refl
    same_lines End (Free t rest) e are also = cc
    same_lines End (Sits w inside rest) e are also = cc
    same_lines (Free r rest) End e are also = cc
    same_lines (Sits q inside rest) End e are also = cc
    same_lines (Free r rest) (Sits w inside more) e are also = cc
    same_lines (Sits q inside rest) (Free t more) e are also = cc
    same_lines (Free r rest) (Free t more) e are also =
        let first : r ≡ t = cc in
        let later : rest ≡ more = same_lines rest more (ap (drop 1) e) are also in
        ap (λ (x : Range). Free x rest) first ∙ ap (λ (x : Lines). Free t x) later
    same_lines (Sits q inside rest) (Sits w within more) e (here, deep, are) (here_too, deep_too, also) =
        let first : q ≡ w = cc in
        let later : rest ≡ more = same_lines rest more (ap (drop 1) e) are also in
        let moved = subst (λ (x : MapRegion). AreInside told given roots s space x within) (sym first) here_too in
        let deeper : inside ≡ within = inside_same q inside within
        (λ place h k. same_lines inside within (same_items place inside within h k) deep deep_too) here moved in
        ap (λ (x : MapRegion). Sits x inside rest) first ∙ ap (λ (x : Lines). Sits w x rest) deeper ∙ ap (λ (x : Lines). Sits w within x) later

    all_lines : (place : MapPlace) (lines others : Lines) → AreLinesOfPlace told given roots s space place lines → AreLinesOfPlace told given roots s space place others → lines ≡ others
    all_lines place lines others are also = same_lines lines others (same_items place lines others are.0 also.0) are.1 also.1

  -- ---- the map

  taking_from : (t u : MapTaking) → t.slot ≡ u.slot → t.lines ≡ u.lines → t ≡ u
  taking_from t u slot lines = λ i. record { slot = slot i; lines = lines i }

  -- what a bridge takes is in each list of all
  taking_in_other : (space : Space) (root : ℕ) (ts us : List MapTaking) → AreTakings told given roots s space root ts → AreTakings told given roots s space root us → (t : MapTaking) → Contains ts t → Contains us t
  taking_in_other space root ts us are also t has =
      let it = are.each t has in
      let some = taking_stands told given roots s space root ts t are has in
      let q : MapRegion = some.0 in
      let at = it.lines.0 in
      let found = also.complete t.slot q it.below (at.regions q some.1) (at.of_space q some.1) (at.stand q some.1) (at.within q some.1) in
      let u : MapTaking = found.0 in
      let its : AreLinesOfPlace told given roots s space (TakenBy t.slot) u.lines =
      subst (λ (x : Slot). AreLinesOfPlace told given roots s space (TakenBy x) u.lines) found.2 (also.each u found.1).lines in
      let lines : u.lines ≡ t.lines = all_lines space (TakenBy t.slot) u.lines t.lines its it.lines in
      subst (λ (x : MapTaking). Contains us x) (taking_from u t found.2 lines) found.1

  same_takings : (space : Space) (root : ℕ) (ts us : List MapTaking) → AreTakings told given roots s space root ts → AreTakings told given roots s space root us → ts ≡ us
  same_takings space root ts us are also =
      same_list (λ (t u : MapTaking). slot_number t.slot < slot_number u.slot) (λ t u low high. omega (arith, low, high)) ts us are.rising also.rising
      (taking_in_other space root ts us are also) (taking_in_other space root us ts also are)

  space_from : (x y : MapSpace) → x.lines ≡ y.lines → x.taken ≡ y.taken → x ≡ y
  space_from x y lines taken = λ i. record { lines = lines i; taken = taken i }

  same_space : (space : Space) (root other : ℕ) (x y : MapSpace) → root ≡ other → IsSpaceOfMap told given roots s space root x → IsSpaceOfMap told given roots s space other y → x ≡ y
  same_space space root other x y bus is also =
      let here : IsSpaceOfMap told given roots s space other x = subst (λ n. IsSpaceOfMap told given roots s space n x) bus is in
      space_from x y (all_lines space (OnRoot other) x.lines y.lines here.lines also.lines) (same_takings space other x.taken y.taken here.taken also.taken)

  root_from : (r t : MapRoot) → r.bus ≡ t.bus → r.io ≡ t.io → r.memory ≡ t.memory → r ≡ t
  root_from r t bus io memory = λ i. record { bus = bus i; io = io i; memory = memory i }

  same_root : (r t : MapRoot) → r.bus ≡ t.bus → IsRootOfMap told given roots s r → IsRootOfMap told given roots s t → r ≡ t
  same_root r t bus is also = root_from r t bus (same_space Io r.bus t.bus r.io t.io bus is.io also.io) (same_space Memory r.bus t.bus r.memory t.memory bus is.memory also.memory)

  same_roots : (rs ts : List MapRoot) → map (λ r. r.bus) rs ≡ map (λ r. r.bus) ts → ((r : MapRoot) → Contains rs r → IsRootOfMap told given roots s r)
      → ((t : MapRoot) → Contains ts t → IsRootOfMap told given roots s t) → rs ≡ ts
  same_roots [] [] e are also = refl
  same_roots [] (t ∷ ts) e are also = cc
  same_roots (r ∷ rs) [] e are also = cc
  same_roots (r ∷ rs) (t ∷ ts) e are also =
      let bus : r.bus ≡ t.bus = cc in
      let first : r ≡ t = same_root r t bus (are r (in_head r rs)) (also t (in_head t ts)) in
      let rest : rs ≡ ts = same_roots rs ts (ap (drop 1) e) (λ x has. are x (in_tail r rs x has)) (λ x has. also x (in_tail t ts x has)) in
      ap (λ (x : MapRoot). x ∷ rs) first ∙ ap (λ (xs : List MapRoot). t ∷ xs) rest

  same_listed : (P : MapRegion → Type 0) (ps qs : List MapRegion) → AreRegionsBySlot P told s ps → AreRegionsBySlot P told s qs → ps ≡ qs
  same_listed P ps qs are also =
      same_list (λ (p q : MapRegion). region_rank p < region_rank q) (λ p q low high. omega (arith, low, high)) ps qs are.rising also.rising
      (λ q has. also.complete q (are.regions q has) (are.hold q has)) (λ q has. are.complete q (also.regions q has) (also.hold q has))

  map_from : (m n : Map) → m.roots ≡ n.roots → m.outside ≡ n.outside → m.unreached ≡ n.unreached → m ≡ n
  map_from m n at outside unreached = λ i. record { roots = at i; outside = outside i; unreached = unreached i }

  same_map : (m n : Map) → IsMap told given roots s m → IsMap told given roots s n → m ≡ n
  same_map m n is also =
      map_from m n (same_roots m.roots n.roots (is.buses ∙ sym also.buses) is.each also.each)
      (same_listed (IsOutOfPlace told given roots s) m.outside n.outside is.outside also.outside)
      (same_listed (IsOnlyLeft told given roots s) m.unreached n.unreached is.left also.left)

pub lines_are_determined : LinesAreDetermined
lines_are_determined told given roots s space place lines others are also = all_lines told given roots s space place lines others are also

pub map_is_determined : MapIsDetermined
map_is_determined told given roots s m n is also = same_map told given roots s m n is also

pub text_is_determined : MapTextIsDetermined
text_is_determined told given roots s text other h k = h.says ∙ ap (λ (m : Map). map_text_of told given m s) (same_map told given roots s h.m k.m h.is k.is) ∙ sym k.says
