-- Where lines keep no part off, the same parts stand as where nothing is told.
use Rattle.std.proofs.Common.{◌≡◌, ◌≢◌, inl, inr, ◌⊎◌, List, get_or, arith, Bool, true, false, ◌&&◌, ◌||◌, not, sym, ◌∙◌, ap}
use Rattle.std.specs.List.{Contains, list_all, list_any}
use Rattle.std.proofs.lemmas.Bool.{cases_eq, cases_lt, and_parts, and_from, or_right, both_ways, not-true, not_from_false, false_from_ne_true}
use Rattle.std.proofs.lemmas.List.{get_or_default}
use Rattle.pci_spec.specs.System.{System, IsSystem, is_bridge}
use Rattle.pci_spec.specs.Bus.{is_behind, IsNested}
use Rattle.pci_spec.proofs.BusRanges.{all_from, any_gives}
use Rattle.judge_spec.specs.ToldRegion.{ToldRegion, told_regions}
use Rattle.settle_spec.specs.FirstPlace.{ranges_are_apart}
use Rattle.settle_spec.specs.Lists.{Request}
use Rattle.settle_spec.specs.Parts.{FunctionPart, system_parts, addresses, is_part}
use Rattle.settle_spec.specs.Lines.{line_bus, is_held_line}
use Rattle.settle_spec.specs.Stands.{rank, are_beside, first_by, part_precedes, leads_by, leads_to_range, leads_to_told, leads_to_one_on, is_line_on, told_part_precedes, is_kept_off_by, is_kept_off, is_in_place, takes_from, stands_if, stands, precedes_off}
use Rattle.settle_spec.proofs.Nested.{is_no_root}
use Rattle.settle_laws.specs.StandingTold.Untold.{without_told, PartsAreOffLines, AreToldOnRoots, AllStandUntold}
use Rattle.settle_laws.proofs.Apart.{apart_where_beside}
use Rattle.settle_laws.proofs.Order.{precedes_itself}
use Rattle.settle_laws.proofs.Ranks.{ranks_rise}
use Rattle.settle_laws.proofs.Standing.{all_same, part_of, stands_is, stands_by_itself, stands_alone}

none_passes : {X : Type 0} (test : X → Bool) (xs : List X) → ((x : X) → Contains xs x → test x ≡ false) → list_any test xs ≡ false
none_passes test xs none = false_from_ne_true (list_any test xs) (λ some. let found = any_gives test xs some in both_ways (test found.0) (none found.0 found.1) found.2)

-- parts of one rank are one
module _ (q : Request) (s : System) (system : IsSystem s) where
  pub one_of_rank : (t r : FunctionPart) → Contains (system_parts q s) t → Contains (system_parts q s) r → rank t ≡ rank r → t ≡ r
  one_of_rank t r (i, in_i, at_t) (j, in_j, at_r) same = elim (cases_eq i j) [
    | inl one ↦ sym at_t ∙ ap (λ n. get_or (system_parts q s) n t) one ∙ get_or_default (system_parts q s) j t r in_j ∙ at_r
    | inr differ ↦ elim (cases_lt i j) [
      | inl less ↦
          let up = ranks_rise q s system i j t less in_j in
          let here = ap rank at_t in
          let there = ap rank (get_or_default (system_parts q s) j t r in_j ∙ at_r) in
          absurd (let no : ⊥ = omega (arith, up, here, there, same) in no)
      | inr more ↦
          let down = ranks_rise q s system j i t (omega (arith, more, differ)) in_i in
          let here = ap rank at_t in
          let there = ap rank (get_or_default (system_parts q s) j t r in_j ∙ at_r) in
          absurd (let no : ⊥ = omega (arith, down, here, there, same) in no)
    ]
  ]

module _ (q : Request) (s : System) (system : IsSystem s) (nested : IsNested q.roots s) (off : PartsAreOffLines q s) where
  abbrev plain : Request
  plain = without_told q

  not_kept_off : (r : FunctionPart) → Contains (system_parts q s) r → is_kept_off q s r ≡ false
  not_kept_off r listed = none_passes (is_kept_off_by q s r) (told_regions q.told)
      (λ x is_told. ap (λ b. b && (is_line_on q s x || not (precedes_off q s r))) (off r x listed is_told))

  -- ---- where told ranges are on roots

  module _ (roots : AreToldOnRoots q) where
    leads_to_none : (r : FunctionPart) → Contains (system_parts q s) r → (x : ToldRegion) → Contains (told_regions q.told) x → leads_to_range q s r x ≡ false
    leads_to_none r listed x is_told = false_from_ne_true (leads_to_range q s r x) (λ leads.
        let b = r.function in
        let three = and_parts (not (is_held_line x) && is_bridge b && is_behind b (line_bus x)) (leads_by q s b r.part x) leads in
        let two = and_parts (not (is_held_line x) && is_bridge b) (is_behind b (line_bus x)) three.0 in
        let one = and_parts (not (is_held_line x)) (is_bridge b) two.0 in
        is_no_root q.roots s system nested b (line_bus x) (part_of q s r listed).listed one.1 two.1 (roots x is_told (not-true (is_held_line x) one.0)))

    none_led : (r : FunctionPart) → Contains (system_parts q s) r → leads_to_told q s r ≡ false
    none_led r listed = none_passes (leads_to_range q s r) (told_regions q.told) (leads_to_none r listed)

    none_on : (r : FunctionPart) → Contains (system_parts q s) r → leads_to_one_on q s r ≡ false
    none_on r listed = none_passes (λ x. is_line_on q s x && leads_to_range q s r x) (told_regions q.told)
        (λ x is_told. false_from_ne_true (is_line_on q s x && leads_to_range q s r x) (λ both.
        both_ways (leads_to_range q s r x) (leads_to_none r listed x is_told) (and_parts (is_line_on q s x) (leads_to_range q s r x) both).1))

    same_order : (t r : FunctionPart) → Contains (system_parts q s) t → Contains (system_parts q s) r → told_part_precedes q s t r ≡ told_part_precedes plain s t r
    same_order t r in_t in_r = (let a = none_on t in_t in let b = none_on r in_r in λ i. first_by (a i) (b i) (part_precedes q t r))

    same_if : (test : FunctionPart → Bool) (r : FunctionPart) → Contains (system_parts q s) r → stands_if q s test r ≡ stands_if plain s test r
    same_if test r listed =
        let kept = not_kept_off r listed in
        let led = none_led r listed in
        let taken = all_same (λ t. not (takes_from q s t r && test t)) (λ t. not (takes_from plain s t r && test t)) (system_parts q s)
        (λ t in_t. ap (λ b. not (are_beside q t r && b && not (ranges_are_apart (addresses t) (addresses r)) && test t)) (same_order t r in_t listed)) in
        λ i. not (kept i) && (led i || not q.anew) && is_part q s r.function r.part && is_in_place q s test r && taken i

    on_roots : (r : FunctionPart) → Contains (system_parts q s) r → stands q s r ≡ stands plain s r
    on_roots = stands_alone plain s nested (stands q s) record {
      each = λ r listed. stands_is q s nested r listed ∙ same_if (stands q s) r listed;
      only = λ r in_r stand. (stands_by_itself q s nested).only r in_r stand;
    }

  -- ---- where all parts stand

  module _ (all : AllStandUntold q s) where
    -- nothing takes an address
    none_takes : (t r : FunctionPart) → Contains (system_parts q s) t → Contains (system_parts q s) r → takes_from q s t r ≡ false
    none_takes t r in_t in_r = false_from_ne_true (takes_from q s t r) (λ takes.
        let two = and_parts (are_beside q t r && told_part_precedes q s t r) (not (ranges_are_apart (addresses t) (addresses r))) takes in
        let one = and_parts (are_beside q t r) (told_part_precedes q s t r) two.0 in
        both_ways (ranges_are_apart (addresses t) (addresses r)) (not-true (ranges_are_apart (addresses t) (addresses r)) two.1)
        (apart_where_beside plain s t r nested in_t in_r (all t in_t) (all r in_r) one.0 (differ t r in_t in_r one.1)))
      where
        differ : (t r : FunctionPart) → Contains (system_parts q s) t → Contains (system_parts q s) r → told_part_precedes q s t r ≡ true → rank t ≢ rank r
        differ t r in_t in_r before same =
            let one : t ≡ r = one_of_rank q s system t r in_t in_r same in
            both_ways (told_part_precedes q s t r) (ap (λ u. told_part_precedes q s t u) (sym one) ∙ precedes_itself q s t) before

    -- what a part that stands there has beside that
    record Sides (r : FunctionPart) : Type 0 where
      placed : not q.anew ≡ true
      place : is_in_place q s (stands plain s) r ≡ true

    sides : (r : FunctionPart) → Contains (system_parts q s) r → Sides r
    sides r listed =
        let kept = not (is_kept_off plain s r) in
        let place = is_in_place q s (stands plain s) r in
        let free = list_all (λ t. not (takes_from plain s t r && stands plain s t)) (system_parts q s) in
        let four = and_parts (kept && not q.anew && is_part q s r.function r.part && place) free (sym (stands_is plain s nested r listed) ∙ all r listed) in
        let three = and_parts (kept && not q.anew && is_part q s r.function r.part) place four.0 in
        let two = and_parts (kept && not q.anew) (is_part q s r.function r.part) three.0 in
        record { placed = (and_parts kept (not q.anew) two.0).1; place = three.1 }

    all_stand : (r : FunctionPart) → Contains (system_parts q s) r → stands q s r ≡ stands plain s r
    all_stand r listed = sym (stands_alone q s nested (stands plain s) record {
      each = λ r listed. all r listed ∙ sym (fine r listed);
      only = λ r in_r stand. (stands_by_itself plain s nested).only r in_r stand;
    } r listed)
      where
        fine : (r : FunctionPart) → Contains (system_parts q s) r → stands_if q s (stands plain s) r ≡ true
        fine r listed =
            let own = sides r listed in
            let kept = not (is_kept_off q s r) in
            let led = leads_to_told q s r || not q.anew in
            let part = is_part q s r.function r.part in
            let place = is_in_place q s (stands plain s) r in
            let test = λ (t : FunctionPart). not (takes_from q s t r && stands plain s t) in
            and_from (kept && led && part && place) (list_all test (system_parts q s))
            (and_from (kept && led && part) place
            (and_from (kept && led) part
            (and_from kept led (not_from_false (is_kept_off q s r) (not_kept_off r listed)) (or_right (leads_to_told q s r) (not q.anew) own.placed))
            (part_of q s r listed).is) own.place)
            (all_from test (system_parts q s) (λ t in_t. not_from_false (takes_from q s t r && stands plain s t) (ap (λ b. b && stands plain s t) (none_takes t r in_t listed))))

  pub stand_as_untold : AreToldOnRoots q ⊎ AllStandUntold q s → (r : FunctionPart) → Contains (system_parts q s) r → stands q s r ≡ stands plain s r
  stand_as_untold (inl roots) = on_roots roots
  stand_as_untold (inr all) = all_stand all
