-- A step of the pass over all parts: one more is told, and taken where it stands.
use Rattle.std.proofs.Common.{◌≡◌, ℕ, ◌+◌, ◌-◌, ◌<◌, ◌≤◌, ◌⊎◌, inl, inr, List, [], map, length, get_or, Bool, true, false, cond, ◌&&◌, ◌||◌, not, arith, sym, ◌∙◌, ap, subst, refl}
use Rattle.std.specs.Bool.{nat_lt, ◌==◌}
use Rattle.std.specs.List.{Contains, insert, list_all}
use Rattle.std.proofs.lemmas.Bool.{cases_Bool, cases_eq, cases_lt, and_parts, and_from, or_cases, or_right, both_ways, eqb-true, eq-eqb, ltb-true, false_from_ne_true}
use Rattle.std.proofs.lemmas.List.{get_or-map, length-map, get_or_default}
use Rattle.std.proofs.lemmas.List.Edits.{length-insert, get_or-insert_below, get_or-insert_at, get_or-insert_above}
use Rattle.std.proofs.lemmas.List.Folds.{list_all-map}
use Rattle.pci_spec.specs.Decoded.{Range as DecodedRange}
use Rattle.pci_spec.specs.System.{System, Space, Io, Memory}
use Rattle.pci_spec.specs.Bus.{is_root, are_siblings, IsNested}
use Rattle.pci_spec.proofs.Members.{in_nil, in_map_to, in_map_from, IsMade}
use Rattle.settle_spec.specs.FirstPlace.{ranges_are_apart}
use Rattle.settle_spec.specs.Lists.{Request}
use Rattle.settle_spec.specs.Parts.{FunctionPart, system_parts, addresses, are_same_space}
use Rattle.settle_spec.specs.Stands.{part_space, is_in_place, takes_from, told_part_precedes, is_kept_off, leads_to_told, stands_if}
use Rattle.settle_laws.specs.Order.{level, comes_first}
use Rattle.settle_laws.specs.Passes.{IsAmong, AreTakenBeside}
use Rattle.settle_laws.proofs.Order.{not_itself}
use Rattle.settle_laws.proofs.Standing.{one_level, part_of}
use Rattle.settle_laws.proofs.Passes.{free_of_taken, told_more}
use Rattle.pci_base.specs.Ranges.{decoded_range_of}
use Rattle.pci_base.specs.declared.range.Range.{Range}
use Rattle.pci_kept.specs.declared.region.Region.{Region as CodeRegion}
use Rattle.pci_first_fit.specs.declared.kept.Kept.{Kept}
use Rattle.pci_kept.specs.Known.{Known, region_value}
use Rattle.pci_kept.specs.Boards.{IsKnownPart}
use Rattle.pci_kept.specs.Tables.{stands_in}
use Rattle.pci_kept.specs.Taken.{is_free, IsWithTaken, in_space, in_other, taken_with, IsGoneTo}
use Rattle.pci_kept.specs.Passing.{AreOrdered, IsStandingOn, AreTakenOn, AreFirstPassed}

-- ---- a range more

pub in_insert_to : (xs : List Range) (i : ℕ) (y z : Range) → i ≤ length xs → Contains (insert xs i y) z → (z ≡ y) ⊎ Contains xs z
in_insert_to xs i y z within (k, low, at) =
    let long = length-insert xs i y within in
    elim (cases_lt k i) [
      | inl under ↦ inr (k, omega (arith, under, within), sym (get_or-insert_below xs i y z k under within) ∙ at)
      | inr from ↦ elim (cases_eq k i) [
        | inl same ↦ inl (sym at ∙ ap (λ n. get_or (insert xs i y) n z) same ∙ get_or-insert_at xs i y z within)
        | inr differ ↦
            let is : k ≡ (k - 1) + 1 = omega (arith, from, differ) in
            let low_index : i ≤ k - 1 = omega (arith, from, differ) in
            inr (k - 1, omega (arith, low, long, is), sym (get_or-insert_above xs i y z (k - 1) low_index within) ∙ sym (ap (λ n. get_or (insert xs i y) n z) is) ∙ at)
      ]
    ]

pub in_insert_here : (xs : List Range) (i : ℕ) (y : Range) → i ≤ length xs → Contains (insert xs i y) y
in_insert_here xs i y within = (i, (let long = length-insert xs i y within in omega (arith, long, within)), get_or-insert_at xs i y y within)

pub in_insert_from : (xs : List Range) (i : ℕ) (y z : Range) → i ≤ length xs → Contains xs z → Contains (insert xs i y) z
in_insert_from xs i y z within (k, low, at) =
    let long = length-insert xs i y within in
    elim (cases_lt k i) [
      | inl under ↦ (k, omega (arith, low, long), get_or-insert_below xs i y z k under within ∙ at)
      | inr from ↦ (k + 1, omega (arith, low, long), get_or-insert_above xs i y z k from within ∙ at)
    ]

-- ---- buses of one level

pub levels_one : (q : Request) (bus other : ℕ) → level q bus ≡ level q other → are_siblings q.roots bus other ≡ true
levels_one q bus other same = elim (cases_Bool (is_root q.roots bus)) [
  | inl root ↦ elim (cases_Bool (is_root q.roots other)) [
    | inl both ↦ or_right (bus == other) (is_root q.roots bus && is_root q.roots other) (and_from (is_root q.roots bus) (is_root q.roots other) root both)
    | inr off ↦
        let low : level q bus ≡ 0 = ap (λ b. cond b 0 (bus + 1)) root in
        let high : level q other ≡ other + 1 = ap (λ b. cond b 0 (other + 1)) off in
        absurd (let no : ⊥ = omega (arith, same, low, high) in no)
  ]
  | inr off ↦ elim (cases_Bool (is_root q.roots other)) [
    | inl root ↦
        let low : level q other ≡ 0 = ap (λ b. cond b 0 (other + 1)) root in
        let high : level q bus ≡ bus + 1 = ap (λ b. cond b 0 (bus + 1)) off in
        absurd (let no : ⊥ = omega (arith, same, low, high) in no)
    | inr neither ↦
        let here : level q bus ≡ bus + 1 = ap (λ b. cond b 0 (bus + 1)) off in
        let there : level q other ≡ other + 1 = ap (λ b. cond b 0 (other + 1)) neither in
        or_first (bus == other) (is_root q.roots bus && is_root q.roots other) (eq-eqb bus other (omega (arith, same, here, there)))
  ]
]
  where
    or_first : (x y : Bool) → x ≡ true → (x || y) ≡ true
    or_first x y e = ap (λ b. b || y) e

pub spaces_one : (a b : Space) → a ≡ b → are_same_space a b ≡ true
spaces_one Io b same = subst (λ z. are_same_space Io z ≡ true) same refl
spaces_one Memory b same = subst (λ z. are_same_space Memory z ≡ true) same refl

pub one_space : (a b : Space) → are_same_space a b ≡ true → a ≡ b
one_space Io Io same = refl
one_space Io Memory same = absurd (both_ways false refl same)
one_space Memory Io same = absurd (both_ways false refl same)
one_space Memory Memory same = refl

first_level : (a b : ℕ) (x : Bool) → (nat_lt a b || (a == b && x)) ≡ true → a ≤ b
first_level a b x h = elim (or_cases (nat_lt a b) (a == b && x) h) [
  | inl less ↦ (let up = ltb-true a b less in omega (arith, up))
  | inr both ↦ (let same = eqb-true a b (and_parts (a == b) x both).0 in omega (arith, same))
]

module _ (q : Request) (s : System) (nested : IsNested q.roots s) (rs : List CodeRegion) (ordered : AreOrdered q s rs) where
  abbrev vs : List FunctionPart
  vs = map (region_value s) rs

  long : length vs ≡ length rs
  long = length-map rs (region_value s)

  module _ (count : ℕ) (within : count < length rs) (r : CodeRegion) (r_is : r ≡ get_or rs count r) where
    abbrev v : FunctionPart
    v = region_value s r

    v_is : get_or vs count v ≡ v
    v_is = get_or-map (region_value s) rs count r v within ∙ ap (region_value s) (sym r_is)

    pub is_known : IsKnownPart q s r
    is_known = subst (IsKnownPart q s) (sym r_is) (ordered.known count r within)

    level_is : r.level ≡ level q v.function.slot.bus
    level_is = ap (λ (k : Known). k.level) is_known.is.all

    range_is : decoded_range_of r.range ≡ addresses v
    range_is = ap (λ (k : Known). k.range) is_known.is.all

    -- the level of each part that follows isn't lower
    level_above : (k : ℕ) (d : CodeRegion) → count ≤ k → k < length rs → r.level ≤ (get_or rs k d).level
    level_above k d from inside = elim (cases_eq count k) [
      | inl same ↦
          let here : (get_or rs k d).level ≡ r.level = ap (λ (x : CodeRegion). x.level) (ap (λ n. get_or rs n d) (sym same) ∙ get_or_default rs count d r within ∙ sym r_is) in
          omega (arith, here)
      | inr differ ↦
          let first : comes_first q s v (get_or vs k v) ≡ true = subst (λ x. comes_first q s x (get_or vs k v) ≡ true) v_is (ordered.order.order count k v (omega (arith, from, differ)) (let l = long in omega (arith, inside, l))) in
          let other = get_or rs k d in
          let other_is : get_or vs k v ≡ region_value s other = get_or-map (region_value s) rs k d v inside in
          let up = first_level (level q v.function.slot.bus) (level q (region_value s other).function.slot.bus) (told_part_precedes q s v (region_value s other)) (subst (λ x. comes_first q s v x ≡ true) other_is first) in
          let there : other.level ≡ level q (region_value s other).function.slot.bus = ap (λ (k : Known). k.level) (ordered.known k d inside).is.all in
          let here = level_is in
          omega (arith, up, there, here)
    ]

    -- on another bus than before nothing is taken yet
    none_yet : (bus : ℕ) (table : List Kept) → ((t : FunctionPart) → Contains (system_parts q s) t → stands_in s table t ≡ true → level q t.function.slot.bus ≤ bus) → bus < r.level → (space : Space) → AreTakenOn q s (stands_in s table) r.level space []
    none_yet bus table below up space = record {
      each = λ x listed. absurd (in_nil x listed);
      all = λ t by. absurd (let low = below t by.listed by.stands in let on = by.on in let no : ⊥ = omega (arith, low, on, up) in no);
    }

    pub gone : (bus new : ℕ) (io mem new_io new_mem : List Range) (table : List Kept) → IsGoneTo r.level (taken_with bus io mem) (taken_with new new_io new_mem) → AreFirstPassed q s rs count (taken_with bus io mem) table → AreFirstPassed q s rs count (taken_with new new_io new_mem) table
    gone bus new io mem new_io new_mem table to passed = elim (cases_eq bus r.level) [
      | inl same ↦
          let kept = to.same same in
          subst (λ n. AreFirstPassed q s rs count (taken_with n new_io new_mem) table) (same ∙ sym to.there)
          (subst (λ xs. AreFirstPassed q s rs count (taken_with bus xs new_mem) table) (sym kept.0) (subst (λ xs. AreFirstPassed q s rs count (taken_with bus io xs) table) (sym kept.1) passed))
      | inr differ ↦
          let none = to.other differ in
          let least = passed.above count r (omega arith) within in
          let here : (get_or rs count r).level ≡ r.level = ap (λ (x : CodeRegion). x.level) (sym r_is) in
          let up : bus < r.level = omega (arith, least, here, differ) in
          subst (λ n. AreFirstPassed q s rs count (taken_with n new_io new_mem) table) (sym to.there)
          (subst (λ xs. AreFirstPassed q s rs count (taken_with r.level xs new_mem) table) (sym none.0) (subst (λ xs. AreFirstPassed q s rs count (taken_with r.level [] xs) table) (sym none.1) record {
            size = passed.size;
            told = passed.told;
            io_taken = none_yet bus table passed.below up Io;
            mem_taken = none_yet bus table passed.below up Memory;
            below = λ t listed is. (let low = passed.below t listed is in omega (arith, low, up));
            above = level_above;
          }))
    ]

    module _ (io mem : List Range) (table : List Kept) (passed : AreFirstPassed q s rs count (taken_with r.level io mem) table) where
      abbrev test : FunctionPart → Bool
      test = stands_in s table

      abbrev taken_in : Space → List Range
      taken_in space = in_space space io mem

      taken_is : (space : Space) → AreTakenOn q s test r.level space (taken_in space)
      taken_is Io = passed.io_taken
      taken_is Memory = passed.mem_taken

      -- what is taken in its space is of those beside it
      beside_taken : (space : Space) → space ≡ part_space v → AreTakenBeside q s test v (map decoded_range_of (taken_in space))
      beside_taken space of = record {
        each = λ x listed. (
            let made : IsMade decoded_range_of (taken_in space) x = in_map_to decoded_range_of (taken_in space) x listed in
            let one = (taken_is space).each made.from made.has in
            let t = one.0 in
            let by = one.1 in (
              t,
              by.listed,
              by.stands,
              and_from (are_siblings q.roots t.function.slot.bus v.function.slot.bus) (are_same_space (part_space t) (part_space v)) (levels_one q t.function.slot.bus v.function.slot.bus (by.on ∙ level_is))
                  (spaces_one (part_space t) (part_space v) (by.in_space ∙ of)),
              one.2 ∙ made.is,
            ));
        all = λ t listed is beside. (
            let sides = and_parts (are_siblings q.roots t.function.slot.bus v.function.slot.bus) (are_same_space (part_space t) (part_space v)) beside in
            let has = (taken_is space).all t record {
              listed = listed;
              stands = is;
              on = one_level q s t.function.slot.bus v.function.slot.bus sides.0 ∙ sym level_is;
              in_space = one_space (part_space t) (part_space v) sides.1 ∙ sym of;
            } in
            subst (Contains (map decoded_range_of (taken_in space))) (sym has.2) (in_map_from decoded_range_of (taken_in space) has.0 has.1));
      }

      free_is : (space : Space) → space ≡ part_space v → is_free r.range (taken_in space) ≡ list_all (λ t. not (takes_from q s t v && test t)) (system_parts q s)
      free_is space of =
          ap (λ x. list_all (λ (t : Range). ranges_are_apart (decoded_range_of t) x) (taken_in space)) range_is
          ∙ sym (list_all-map (λ (x : DecodedRange). ranges_are_apart x (addresses v)) decoded_range_of (taken_in space))
          ∙ free_of_taken q s nested vs ordered.order count test passed.told (let l = long in omega (arith, within, l)) v v_is (map decoded_range_of (taken_in space)) (beside_taken space of)

      -- so it stands where no line keeps it off, it can, is in place, and is free
      pub stands_where : (space : Space) → space ≡ part_space v → stands_if q s test v ≡ (not (is_kept_off q s v) && (r.can_stand && (is_in_place q s test v && is_free r.range (in_space space io mem))))
      stands_where space of =
          let free = list_all (λ t. not (takes_from q s t v && test t)) (system_parts q s) in
          let can = leads_to_told q s v || not q.anew in
          ap (λ b. not (is_kept_off q s v) && can && b && is_in_place q s test v && free) (part_of q s v is_known.is.listed).is
          ∙ grouped (not (is_kept_off q s v)) can (is_in_place q s test v) free
          ∙ ap (λ b. not (is_kept_off q s v) && (b && (is_in_place q s test v && free))) (sym is_known.leads.can)
          ∙ ap (λ b. not (is_kept_off q s v) && (r.can_stand && (is_in_place q s test v && b))) (sym (free_is space of))
        where
          grouped : (a b c d : Bool) → (a && b && true && c && d) ≡ (a && (b && (c && d)))
          grouped true true c d = refl
          grouped true false c d = refl
          grouped false b c d = refl

      -- it isn't told yet
      not_yet : test v ≡ false
      not_yet = false_from_ne_true (test v) (λ is. never (passed.told.only v (part_of q s v is_known.is.listed).listed is))
        where
          itself : comes_first q s v v ≡ true → ⊥
          itself first = both_ways (comes_first q s v v) (not_itself q s v) first

          never : IsAmong vs count v → ⊥
          never among =
              let low = among.first in
              let l = long in
              itself (subst (λ x. comes_first q s x v ≡ true) among.is (subst (λ x. comes_first q s (get_or vs among.at v) x ≡ true) v_is (ordered.order.order among.at count v low (omega (arith, within, l)))))

      pub told_not : stands_if q s test v ≡ false → AreFirstPassed q s rs (count + 1) (taken_with r.level io mem) table
      told_not off = record {
        size = passed.size;
        told = told_more q s nested vs ordered.order count test passed.told (let l = long in omega (arith, within, l)) v v_is test (not_yet ∙ sym off) (λ t listed. inr refl);
        io_taken = passed.io_taken;
        mem_taken = passed.mem_taken;
        below = passed.below;
        above = λ k d from inside. passed.above k d (omega (arith, from)) inside;
      }

      module _ (next : List Kept) (size : length next ≡ length s) (here : stands_in s next v ≡ true) (others : (t : FunctionPart) → Contains s t.function → (t ≡ v) ⊎ (stands_in s next t ≡ test t)) where
        abbrev now : FunctionPart → Bool
        now = stands_in s next

        still : (t : FunctionPart) → Contains s t.function → test t ≡ true → now t ≡ true
        still t listed is = elim (others t listed) [ inl same ↦ ap now same ∙ here | inr kept ↦ kept ∙ is ]

        by_still : (space : Space) (t : FunctionPart) → IsStandingOn q s test r.level space t → IsStandingOn q s now r.level space t
        by_still space t by = record {
          listed = by.listed;
          stands = still t (part_of q s t by.listed).listed by.stands;
          on = by.on;
          in_space = by.in_space;
        }

        -- one that is told stood before
        by_kept : (space : Space) (t : FunctionPart) → stands_in s next t ≡ test t → IsStandingOn q s now r.level space t → IsStandingOn q s test r.level space t
        by_kept space t kept by = record {
          listed = by.listed;
          stands = sym kept ∙ by.stands;
          on = by.on;
          in_space = by.in_space;
        }

        -- in its space it is taken too
        taken_more : (space : Space) → space ≡ part_space v → (old new : List Range) → (k : ℕ) → k ≤ length old → new ≡ insert old k r.range → AreTakenOn q s test r.level space old → AreTakenOn q s now r.level space new
        taken_more space of old new k bound put was = subst (AreTakenOn q s now r.level space) (sym put) record {
          each = λ x listed. elim (in_insert_to old k r.range x bound listed) [
            | inl same ↦ (
              v,
              record {
                listed = is_known.is.listed;
                stands = here;
                on = sym level_is;
                in_space = sym of;
              },
              sym range_is ∙ ap decoded_range_of (sym same),
            )
            | inr before ↦ (let one = was.each x before in (one.0, by_still space one.0 one.1, one.2))
          ];
          all = λ t by. elim (others t (part_of q s t by.listed).listed) [
            | inl same ↦ (r.range, in_insert_here old k r.range bound, ap addresses same ∙ sym range_is)
            | inr kept ↦ (let one = was.all t (by_kept space t kept by) in (one.0, in_insert_from old k r.range one.0 bound one.1, one.2))
          ];
        }

        -- and in the other one nothing more is
        taken_same : (space : Space) → (space ≡ part_space v → ⊥) → (old : List Range) → AreTakenOn q s test r.level space old → AreTakenOn q s now r.level space old
        taken_same space off old was = record {
          each = λ x listed. (let one = was.each x listed in (one.0, by_still space one.0 one.1, one.2));
          all = λ t by. elim (others t (part_of q s t by.listed).listed) [
            | inl same ↦ absurd (off (sym by.in_space ∙ ap part_space same))
            | inr kept ↦ was.all t (by_kept space t kept by)
          ];
        }

        pub told_so : stands_if q s test v ≡ true → (space : Space) → space ≡ part_space v → (new_io new_mem : List Range) → IsWithTaken true r.range (in_space space io mem) (in_space space new_io new_mem) → in_other space new_io new_mem ≡ in_other space io mem
            → AreFirstPassed q s rs (count + 1) (taken_with r.level new_io new_mem) next
        told_so is space of new_io new_mem put other = record {
          size = size;
          told = told_more q s nested vs ordered.order count test passed.told (let l = long in omega (arith, within, l)) v v_is now (here ∙ sym is) others;
          io_taken = in_io space of put other;
          mem_taken = in_mem space of put other;
          below = λ t listed on. elim (others t (part_of q s t listed).listed) [
            | inl same ↦ (let at : level q t.function.slot.bus ≡ r.level = ap (λ (x : FunctionPart). level q x.function.slot.bus) same ∙ sym level_is in omega (arith, at))
            | inr kept ↦ passed.below t listed (sym kept ∙ on)
          ];
          above = λ k d from inside. passed.above k d (omega (arith, from)) inside;
        }
          where
            in_io : (space : Space) → space ≡ part_space v → IsWithTaken true r.range (in_space space io mem) (in_space space new_io new_mem) → in_other space new_io new_mem ≡ in_other space io mem → AreTakenOn q s now r.level Io new_io
            in_io Io of put other = taken_more Io of io new_io put.0 put.1 put.2 passed.io_taken
            in_io Memory of put other = subst (AreTakenOn q s now r.level Io) (sym other) (taken_same Io (λ same. let no : Io ≡ Memory = same ∙ sym of in cc) io passed.io_taken)

            in_mem : (space : Space) → space ≡ part_space v → IsWithTaken true r.range (in_space space io mem) (in_space space new_io new_mem) → in_other space new_io new_mem ≡ in_other space io mem → AreTakenOn q s now r.level Memory new_mem
            in_mem Memory of put other = taken_more Memory of mem new_mem put.0 put.1 put.2 passed.mem_taken
            in_mem Io of put other = subst (AreTakenOn q s now r.level Memory) (sym other) (taken_same Memory (λ same. let no : Memory ≡ Io = same ∙ sym of in cc) mem passed.mem_taken)
