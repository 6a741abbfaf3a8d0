-- Each part is asked once at most, so what stands is told by what stands on lower buses and before it.
use Rattle.std.proofs.Common.{◌≡◌, ℕ, zero, suc, ◌+◌, ◌<◌, inl, inr, List, [], ◌∷◌, length, Bool, true, false, cond, ◌&&◌, not, arith, sym, ◌∙◌, ap, subst, refl, Option, None, Some, ◌||◌}
use Rattle.std.specs.Bool.{nat_lt, ◌==◌}
use Rattle.std.specs.List.{Contains, list_all}
use Rattle.std.proofs.lemmas.Bool.{cases_Bool, and_parts, and_from, or_cases, or_left, or_right, eqb-true, eq-eqb, lt-ltb, both_ways, false_from_ne_true}
use Rattle.std.proofs.lemmas.List.Elements.{Contains-append_right}
use Rattle.pci_spec.specs.Window.{WindowKind, IoWindow, MemoryWindow, PrefetchWindow}
use Rattle.pci_spec.specs.System.{System, Function, Rom, Window}
use Rattle.pci_spec.specs.Bus.{is_root, are_siblings, IsNested, LeadsTo}
use Rattle.pci_spec.proofs.Members.{in_head, in_tail, in_map_from, in_map_to, IsMade, in_filter_from, in_filter_to, in_flat_map_from, in_flat_map_to, IsInPiece}
use Rattle.plan_spec.proofs.Planning.Safe.{order_of}
use Rattle.settle_spec.specs.FirstPlace.{ranges_are_apart}
use Rattle.settle_spec.specs.Lists.{Request}
use Rattle.settle_spec.specs.Parts.{FunctionPart, system_parts, function_parts, parts_of, header_bars, header_parts, addresses, is_part, lies_within, class_in, bridge_over, are_same_space}
use Rattle.settle_spec.specs.Stands.{part_space, are_beside, is_in_lists, is_in_window, is_in_place, window_part, takes_from, stands_if, stands_within, stands, told_part_precedes, is_kept_off, leads_to_told}
use Rattle.settle_spec.proofs.BridgeOver.{over_leads}
use Rattle.settle_laws.specs.Standing.{IsStanding}
use Rattle.settle_laws.specs.Order.{level, comes_first}
use Rattle.settle_laws.proofs.Order.{before, falls, few}

pub all_same : {X : Type 0} (p r : X → Bool) (xs : List X) → ((x : X) → Contains xs x → p x ≡ r x) → list_all p xs ≡ list_all r xs
all_same p r [] same = refl
all_same p r (x ∷ xs) same =
    ap (λ b. b && list_all p xs) (same x (in_head x xs)) ∙ ap (λ b. r x && b) (all_same p r xs (λ y listed. same y (in_tail x xs y listed)))

module _ (q : Request) (s : System) where
  stands_step : (others : ℕ) (r : FunctionPart) → stands_within q s (suc others) r ≡ stands_if q s (stands_within q s others) r
  unfolding stands_within
  stands_step others r = refl

  stands_zero : (r : FunctionPart) → stands_within q s 0 r ≡ false
  unfolding stands_within
  stands_zero r = refl

  -- what lines and a request for new places say of a part, whatever else stands
  abbrev pub allowed : FunctionPart → Bool
  allowed r = not (is_kept_off q s r) && (leads_to_told q s r || not q.anew)

  -- ---- what is no part never stands

  no_part_if : (test : FunctionPart → Bool) (r : FunctionPart) → is_part q s r.function r.part ≡ false → stands_if q s test r ≡ false
  no_part_if test r off = elim (allowed r) as (λ a. (a && is_part q s r.function r.part && is_in_place q s test r && list_all (λ t. not (takes_from q s t r && test t)) (system_parts q s)) ≡ false) [
    | false ↦ refl
    | true ↦ ap (λ b. b && is_in_place q s test r && list_all (λ t. not (takes_from q s t r && test t)) (system_parts q s)) off
  ]

  no_part : (others : ℕ) (r : FunctionPart) → is_part q s r.function r.part ≡ false → stands_within q s others r ≡ false
  no_part zero r off = stands_zero r
  no_part (suc others) r off = stands_step others r ∙ no_part_if (stands_within q s others) r off

  -- ---- whom a part asks

  -- two tests agree on the window over a bus, and on what takes addresses from a part
  pub record Agree (test other : FunctionPart → Bool) (r : FunctionPart) : Type 0 where
    pub window : (c : WindowKind) (b : Function) → is_root q.roots r.function.slot.bus ≡ false → LeadsTo s b r.function.slot.bus → test (window_part c b) ≡ other (window_part c b)
    pub beside : (t : FunctionPart) → Contains (system_parts q s) t → takes_from q s t r ≡ true → test t ≡ other t

  module _ (test other : FunctionPart → Bool) (r : FunctionPart) (agree : Agree test other r) where
    abbrev bus : ℕ
    bus = r.function.slot.bus

    abbrev class : WindowKind
    class = class_in q s r.function r.part

    in_window : is_root q.roots bus ≡ false → (o : Option Function) → bridge_over s bus ≡ o → is_in_window test class (addresses r) o ≡ is_in_window other class (addresses r) o
    in_window off None over = refl
    in_window off (Some b) over =
        ap (λ x. lies_within (addresses r) (addresses (window_part class b)) && x) (agree.window class b off (over_leads s bus b over))

    in_place : is_in_place q s test r ≡ is_in_place q s other r
    in_place = elim (cases_Bool (is_root q.roots bus)) [
      | inl root ↦
          ap (λ b. cond b (is_in_lists q bus (addresses r) (part_space r)) (is_in_window test class (addresses r) (bridge_over s bus))) root
          ∙ sym (ap (λ b. cond b (is_in_lists q bus (addresses r) (part_space r)) (is_in_window other class (addresses r) (bridge_over s bus))) root)
      | inr off ↦
          ap (λ b. cond b (is_in_lists q bus (addresses r) (part_space r)) (is_in_window test class (addresses r) (bridge_over s bus))) off
          ∙ in_window off (bridge_over s bus) refl
          ∙ sym (ap (λ b. cond b (is_in_lists q bus (addresses r) (part_space r)) (is_in_window other class (addresses r) (bridge_over s bus))) off)
    ]

    not_taken : (t : FunctionPart) → Contains (system_parts q s) t → not (takes_from q s t r && test t) ≡ not (takes_from q s t r && other t)
    not_taken t listed = elim (cases_Bool (takes_from q s t r)) [
      | inl takes ↦ ap (λ b. not (takes_from q s t r && b)) (agree.beside t listed takes)
      | inr off ↦ ap (λ b. not (b && test t)) off ∙ sym (ap (λ b. not (b && other t)) off)
    ]

    pub by_asked : stands_if q s test r ≡ stands_if q s other r
    by_asked =
        ap (λ b. allowed r && is_part q s r.function r.part && b && list_all (λ t. not (takes_from q s t r && test t)) (system_parts q s)) in_place
        ∙ ap (λ b. allowed r && is_part q s r.function r.part && is_in_place q s other r && b)
        (all_same (λ t. not (takes_from q s t r && test t)) (λ t. not (takes_from q s t r && other t)) (system_parts q s) not_taken)

  -- ---- the parts of a system

  pub record IsOfSystem (r : FunctionPart) : Type 0 where
    pub listed : Contains s r.function
    pub there : Contains (header_parts r.function) r.part
    pub is : is_part q s r.function r.part ≡ true

  pub part_of : (r : FunctionPart) → Contains (system_parts q s) r → IsOfSystem r
  part_of r has =
      let piece : IsInPiece (function_parts q s) s r = in_flat_map_to (function_parts q s) s r has in
      let f = piece.of in
      let made : IsMade (λ p. record { function = f; part = p }) (parts_of q s f) r = in_map_to (λ p. record { function = f; part = p }) (parts_of q s f) r piece.piece in
      let kept = in_filter_to (is_part q s f) (header_parts f) made.from made.has in
      subst IsOfSystem made.is record { listed = piece.has; there = kept.0; is = kept.1 }

  pub in_parts : (r : FunctionPart) → Contains s r.function → Contains (header_parts r.function) r.part → is_part q s r.function r.part ≡ true → Contains (system_parts q s) r
  in_parts r listed there is =
      in_flat_map_from (function_parts q s) s r.function r listed
      (in_map_from (λ p. record { function = r.function; part = p }) (parts_of q s r.function) r.part (in_filter_from (is_part q s r.function) (header_parts r.function) r.part there is))

  -- an open window is one of them

  after_bars : (c : WindowKind) → Contains (Window IoWindow ∷ Window MemoryWindow ∷ Window PrefetchWindow ∷ Rom ∷ []) (Window c)
  after_bars IoWindow = (0, omega arith, refl)
  after_bars MemoryWindow = (1, omega arith, refl)
  after_bars PrefetchWindow = (2, omega arith, refl)

  pub in_header : (f : Function) (c : WindowKind) → Contains (header_parts f) (Window c)
  in_header f c = Contains-append_right (header_bars f) (Window IoWindow ∷ Window MemoryWindow ∷ Window PrefetchWindow ∷ Rom ∷ []) (Window c) (after_bars c)

  pub window_listed : (c : WindowKind) (b : Function) → Contains s b → is_part q s b (Window c) ≡ true → Contains (system_parts q s) (window_part c b)
  window_listed c b listed is =
      in_flat_map_from (function_parts q s) s b (window_part c b) listed
      (in_map_from (λ p. record { function = b; part = p }) (parts_of q s b) (Window c)
      (in_filter_from (is_part q s b) (header_parts b) (Window c) (in_header b c) is))

  -- ---- whom it asks comes first

  on_root : (bus : ℕ) → is_root q.roots bus ≡ true → level q bus ≡ 0
  on_root bus root = ap (λ b. cond b 0 (bus + 1)) root

  on_none : (bus : ℕ) → is_root q.roots bus ≡ false → level q bus ≡ bus + 1
  on_none bus off = ap (λ b. cond b 0 (bus + 1)) off

  pub one_level : (bus other : ℕ) → are_siblings q.roots bus other ≡ true → level q bus ≡ level q other
  one_level bus other beside = elim (or_cases (bus == other) (is_root q.roots bus && is_root q.roots other) beside) [
    | inl same ↦ ap (level q) (eqb-true bus other same)
    | inr both ↦ (let roots = and_parts (is_root q.roots bus) (is_root q.roots other) both in on_root bus roots.0 ∙ sym (on_root other roots.1))
  ]

  -- the three sides of what takes an address
  pub record Takes (t r : FunctionPart) : Type 0 where
    pub beside : are_beside q t r ≡ true
    pub before : told_part_precedes q s t r ≡ true
    pub shares : not (ranges_are_apart (addresses t) (addresses r)) ≡ true

  pub taking : (t r : FunctionPart) → takes_from q s t r ≡ true → Takes t r
  taking t r takes =
      let two = and_parts (are_beside q t r && told_part_precedes q s t r) (not (ranges_are_apart (addresses t) (addresses r))) takes in
      let one = and_parts (are_beside q t r) (told_part_precedes q s t r) two.0 in
      record { beside = one.0; before = one.1; shares = two.1 }

  beside_first : (t r : FunctionPart) → takes_from q s t r ≡ true → comes_first q s t r ≡ true
  beside_first t r takes =
      let parts = taking t r takes in
      let below = level q t.function.slot.bus in
      let here = level q r.function.slot.bus in
      let siblings = (and_parts (are_siblings q.roots t.function.slot.bus r.function.slot.bus) (are_same_space (part_space t) (part_space r)) parts.beside).0 in
      or_right (nat_lt below here) (below == here && told_part_precedes q s t r)
      (and_from (below == here) (told_part_precedes q s t r) (eq-eqb below here (one_level t.function.slot.bus r.function.slot.bus siblings)) parts.before)

  module _ (nested : IsNested q.roots s) where
    rises : (b : Function) (bus : ℕ) → LeadsTo s b bus → is_root q.roots bus ≡ false → level q b.slot.bus < level q bus
    rises b bus leads off =
        let up = order_of q.roots s nested b leads.0 leads.1 in
        let to = leads.2 in
        let high = on_none bus off in
        elim (cases_Bool (is_root q.roots b.slot.bus)) [
          | inl root ↦ (let low = on_root b.slot.bus root in omega (arith, low, high))
          | inr none ↦ (let low = on_none b.slot.bus none in omega (arith, low, high, up, to))
        ]

    window_first : (c : WindowKind) (b : Function) (r : FunctionPart) → LeadsTo s b r.function.slot.bus → is_root q.roots r.function.slot.bus ≡ false → comes_first q s (window_part c b) r ≡ true
    window_first c b r leads off =
        let below = level q b.slot.bus in
        let here = level q r.function.slot.bus in
        or_left (nat_lt below here) (below == here && told_part_precedes q s (window_part c b) r) (lt-ltb below here (rises b r.function.slot.bus leads off))

    abbrev place : FunctionPart → ℕ
    place r = before q s (system_parts q s) r

    -- ---- one way alone

    -- where tests agree on what comes first, they agree on whom a part asks
    pub agree_before : (test other : FunctionPart → Bool) (r : FunctionPart)
        → ((c : WindowKind) (b : Function) → Contains s b → is_part q s b (Window c) ≡ false → test (window_part c b) ≡ other (window_part c b))
        → ((t : FunctionPart) → Contains (system_parts q s) t → comes_first q s t r ≡ true → test t ≡ other t) → Agree test other r
    agree_before test other r none same = record {
      window = λ c b off leads. elim (cases_Bool (is_part q s b (Window c))) [
        | inl is ↦ same (window_part c b) (window_listed c b leads.0 is) (window_first c b r leads off)
        | inr out ↦ none c b leads.0 out
      ];
      beside = λ t listed takes. same t listed (beside_first t r takes);
    }

    enough : (d e : ℕ) (r : FunctionPart) → Contains (system_parts q s) r → place r < d → place r < e → stands_within q s d r ≡ stands_within q s e r
    enough zero e r listed hd he = absurd (let no : ⊥ = omega (arith, hd) in no)
    enough (suc d) zero r listed hd he = absurd (let no : ⊥ = omega (arith, he) in no)
    enough (suc d) (suc e) r listed hd he =
        stands_step d r
        ∙ by_asked (stands_within q s d) (stands_within q s e) r
        (agree_before (stands_within q s d) (stands_within q s e) r
        (λ c b in_b out. no_part d (window_part c b) out ∙ sym (no_part e (window_part c b) out))
        (λ t in_t first.
        let less = falls q s (system_parts q s) t r in_t first in
        enough d e t in_t (omega (arith, less, hd)) (omega (arith, less, he))))
        ∙ sym (stands_step e r)

    pub stands_is : (r : FunctionPart) → Contains (system_parts q s) r → stands q s r ≡ stands_if q s (stands q s) r
    stands_is r listed =
        let all = length (system_parts q s) in
        let low = few q s (system_parts q s) r listed in
        enough all (suc all) r listed low (omega (arith, low)) ∙ stands_step all r

    pub stands_by_itself : IsStanding q s (stands q s)
    stands_by_itself = record {
      each = stands_is;
      only = λ r listed is. elim (cases_Bool (is_part q s r.function r.part)) [
        | inl part ↦ part
        | inr off ↦ absurd (both_ways (stands q s r) (no_part (length (system_parts q s)) r off) is)
      ];
    }

    module _ (test : FunctionPart → Bool) (standing : IsStanding q s test) where
      no_part_of : (r : FunctionPart) → Contains s r.function → is_part q s r.function r.part ≡ false → test r ≡ false
      no_part_of r listed off = false_from_ne_true (test r) (λ is. both_ways (is_part q s r.function r.part) off (standing.only r listed is))

      as_within : (d : ℕ) (r : FunctionPart) → Contains (system_parts q s) r → place r < d → test r ≡ stands_within q s d r
      as_within zero r listed low = absurd (let no : ⊥ = omega (arith, low) in no)
      as_within (suc d) r listed low =
          standing.each r listed
          ∙ by_asked test (stands_within q s d) r
          (agree_before test (stands_within q s d) r
          (λ c b in_b out. no_part_of (window_part c b) in_b out ∙ sym (no_part d (window_part c b) out))
          (λ t in_t first. let less = falls q s (system_parts q s) t r in_t first in as_within d t in_t (omega (arith, less, low))))
          ∙ sym (stands_step d r)

      pub stands_alone : (r : FunctionPart) → Contains (system_parts q s) r → test r ≡ stands q s r
      stands_alone r listed = as_within (length (system_parts q s)) r listed (few q s (system_parts q s) r listed)
