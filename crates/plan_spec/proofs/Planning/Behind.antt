-- What is behind a bridge makes need there, and nothing else does.
use Rattle.std.proofs.Common.{◌≡◌, ℕ, zero, suc, ◌+◌, ◌^◌, ◌<◌, ◌≤◌, inl, inr, List, [], ◌∷◌, ◌++◌, refl, Bool, true, false, cond, ◌&&◌, ◌||◌, not, arith, sym, ◌∙◌, ap, subst, map}
use Rattle.std.specs.Bool.{nat_lt, nat_le, ◌==◌, if◌then◌else◌}
use Rattle.std.specs.List.{Contains, list_any, list_all, filter, flat_map, sum, range_with_len}
use Rattle.std.proofs.lemmas.Bool.{not-true, and_parts, and_from, cases_Bool, cases_lt, cases_eq, both_ways, ltb-true, lt-ltb, leb-true, le-leb, eqb-true, or_cases, le-ltb}
use Rattle.pci_spec.specs.Slot.{slot_number}
use Rattle.pci_spec.specs.Window.{WindowKind}
use Rattle.pci_spec.specs.System.{System, Function, IsSystem, Part, Bar, Rom, Window, is_window, is_implemented, bars_and_rom, is_bridge}
use Rattle.pci_spec.specs.Bus.{secondary, subordinate, is_behind, is_root, is_inside, IsNested}
use Rattle.std.proofs.lemmas.Nat.{pow_pos}
use Rattle.pci_spec.specs.Number.{lowest_one}
use Rattle.pci_spec.specs.Bar.{bar_at, is_io, whole_bar}
use Rattle.pci_spec.specs.Rom.{rom_at}
use Rattle.pci_spec.specs.Header.{primary_bus, layout, bar_count}
use Rattle.plan_spec.specs.Plan.{Pools, class_of, same_class, size_of, sizes_in, items_on, has_behind, window_size, limited, own_sizes, window_over}
use Rattle.pci_spec.proofs.Members.{in_nil, in_cons_cases, in_head, in_tail, in_flat_map_to, IsInPiece, in_map_to, IsMade, in_filter_to}
use Rattle.pci_spec.proofs.Nesting.{one_function}
use Rattle.pci_spec.proofs.BusRanges.{root_means}
use Rattle.std.proofs.lemmas.List.Elements.{Contains-append_cases}
use Rattle.plan_spec.specs.Planning.Table.{need_behind}
use Rattle.plan_spec.proofs.Planning.Needs.{items_by_behind}
use Rattle.plan_spec.proofs.Planning.Needed.{own_needed, window_needed}
use Rattle.plan_spec.proofs.Planning.Safe.{slots_of, order_of}

-- ---- tests over lists

pub record Passes {X : Type 0} (test : X → Bool) (xs : List X) : Type 0 where
  pub x : X
  pub listed : Contains xs x
  pub is : test x ≡ true

pub any_gives : {X : Type 0} (test : X → Bool) (xs : List X) → list_any test xs ≡ true → Passes test xs
any_gives test [] h = absurd (both_ways false refl h)
any_gives test (x ∷ xs) h = elim (or_cases (test x) (list_any test xs) h) [
  | inl here ↦ record { x = x; listed = in_head x xs; is = here }
  | inr more ↦ let found = any_gives test xs more in record { x = found.x; listed = in_tail x xs found.x found.listed; is = found.is }
]

or_first : (x y : Bool) → x ≡ true → (x || y) ≡ true
or_first true y e = refl
or_first false y e = absurd (both_ways false refl e)

or_second : (x y : Bool) → y ≡ true → (x || y) ≡ true
or_second true y e = refl
or_second false y e = e

pub any_from : {X : Type 0} (test : X → Bool) (xs : List X) (x : X) → Contains xs x → test x ≡ true → list_any test xs ≡ true
any_from test [] x listed is = absurd (in_nil x listed)
any_from test (y ∷ xs) x (zero, less, at) is = or_first (test y) (list_any test xs) (ap test at ∙ is)
any_from test (y ∷ xs) x (suc k, less, at) is = or_second (test y) (list_any test xs) (any_from test xs x (k, omega (arith, less), at) is)

pub all_gives : {X : Type 0} (test : X → Bool) (xs : List X) (x : X) → list_all test xs ≡ true → Contains xs x → test x ≡ true
all_gives test [] x h listed = absurd (in_nil x listed)
all_gives test (y ∷ xs) x h (zero, less, at) = ap test (sym at) ∙ (and_parts (test y) (list_all test xs) h).0
all_gives test (y ∷ xs) x h (suc k, less, at) = all_gives test xs x (and_parts (test y) (list_all test xs) h).1 (k, omega (arith, less), at)

-- a sum that isn't 0 has a term
some_term : (xs : List ℕ) → 0 < sum xs → (x : ℕ) × Contains xs x
some_term [] h = absurd (let impossible : ⊥ = omega (arith, h) in impossible)
some_term (x ∷ xs) h = (x, in_head x xs)

pub is_behind_by : (b : Function) (bus : ℕ) → secondary b ≤ bus → bus ≤ subordinate b → is_behind b bus ≡ true
is_behind_by b bus low high = and_from (nat_le (secondary b) bus) (nat_le bus (subordinate b)) (le-leb (secondary b) bus low) (le-leb bus (subordinate b) high)

pub behind_range : (b : Function) (bus : ℕ) → is_behind b bus ≡ true → (secondary b ≤ bus) × (bus ≤ subordinate b)
behind_range b bus h =
    let parts = and_parts (nat_le (secondary b) bus) (nat_le bus (subordinate b)) h in
    (leb-true (secondary b) bus parts.0, leb-true bus (subordinate b) parts.1)

in_cond : (b : Bool) (xs : List ℕ) (y : ℕ) → Contains (cond b xs []) y → (b ≡ true) × Contains xs y
in_cond true xs y has = (refl, has)
in_cond false xs y has = absurd (in_nil y has)

-- what is no window has addresses
size_pos : (f : Function) (p : Part) → is_window p ≡ false → 0 < size_of f p
size_pos f (Bar n) plain = pow_pos (lowest_one (if is_io (bar_at f.probe n) then 2 else 4) (whole_bar f.probe f.probe n))
size_pos f Rom plain = pow_pos (lowest_one 0 (rom_at f.image f.probe))
size_pos f (Window kind) plain = absurd (both_ways true plain refl)

pub listed_plain : (f : Function) (p : Part) → Contains (bars_and_rom f) p → is_window p ≡ false
listed_plain f p listed =
    let inside = (in_filter_to (is_implemented f) (map Bar (range_with_len 0 (bar_count (layout f.image))) ++ Rom ∷ []) p listed).0 in
    elim (Contains-append_cases (map Bar (range_with_len 0 (bar_count (layout f.image)))) (Rom ∷ []) p inside) [
      | inl bar ↦ let made : IsMade Bar (range_with_len 0 (bar_count (layout f.image))) p = in_map_to Bar (range_with_len 0 (bar_count (layout f.image))) p bar in ap is_window (sym made.is)
      | inr rom ↦ elim (in_cons_cases Rom [] p rom) [
        | inl is ↦ ap is_window (sym is)
        | inr none ↦ absurd (in_nil p none)
      ]
    ]

abbrev has_class : System → Pools → WindowKind → Function → Bool
has_class s pools c f = list_any (λ part. same_class c (class_of s pools f part)) (bars_and_rom f)

module _ (roots : List ℕ) (s : System) (system : IsSystem s) (nested : IsNested roots s) where
  pub own_end : (b : Function) → Contains s b → is_bridge b ≡ true → secondary b ≤ subordinate b
  own_end b listed bridge =
      let all = nested.order b listed bridge in
      leb-true (secondary b) (subordinate b) (and_parts (primary_bus b.image == b.slot.bus && nat_lt b.slot.bus (secondary b)) (nat_le (secondary b) (subordinate b)) all).1

  pub inside_ends : (b outer : Function) → Contains s b → Contains s outer → is_bridge b ≡ true → is_bridge outer ≡ true → is_behind outer b.slot.bus ≡ true → (secondary outer ≤ secondary b) × (subordinate b ≤ subordinate outer)
  inside_ends b outer in_b in_outer bridge_b bridge_outer is =
      let strict = nested.inside b outer in_b in_outer bridge_b bridge_outer is in
      let plain = (and_parts (is_inside b outer) _ strict).0 in
      let parts = and_parts (nat_le (secondary outer) (secondary b)) (nat_le (subordinate b) (subordinate outer)) plain in
      (leb-true (secondary outer) (secondary b) parts.0, leb-true (subordinate b) (subordinate outer) parts.1)

  -- a bus behind a bridge that isn't its secondary bus has a bridge to it that is behind too
  pub bridge_between : (b d : Function) → Contains s b → Contains s d → is_bridge b ≡ true → is_bridge d ≡ true → is_behind b (secondary d) ≡ true → secondary b < secondary d → is_behind b d.slot.bus ≡ true
  bridge_between b d in_b in_d bridge_b bridge_d behind above = elim (cases_Bool (is_behind b d.slot.bus)) [
    | inl fine ↦ fine
    | inr out ↦ elim (cases_Bool (is_behind d b.slot.bus)) [
      | inl other ↦
          let ends = inside_ends b d in_b in_d bridge_b bridge_d other in
          let from = ends.0 in
          absurd (let impossible : ⊥ = omega (arith, from, above) in impossible)
      | inr apart_too ↦
          let differ : (b.slot ≡ d.slot → ⊥) = λ e.
          let same = one_function s system b d in_b in_d (ap slot_number e) in
          let z : secondary b ≡ secondary d = ap secondary same in
          (let impossible : ⊥ = omega (arith, z, above) in impossible) in
          let gap = nested.apart b d in_b in_d bridge_b bridge_d differ apart_too out in
          let range = behind_range b (secondary d) behind in
          let end = own_end d in_d bridge_d in
          let low = range.0 in
          let high = range.1 in
          absurd (elim (or_cases (nat_lt (subordinate b) (secondary d)) (nat_lt (subordinate d) (secondary b)) gap) [
            | inl left ↦ let l = ltb-true (subordinate b) (secondary d) left in (let impossible : ⊥ = omega (arith, l, high) in impossible)
            | inr right ↦ let l = ltb-true (subordinate d) (secondary b) right in (let impossible : ⊥ = omega (arith, l, end, low) in impossible)
          ])
    ]
  ]

module _ (roots : List ℕ) (s : System) (pools : Pools) (c : WindowKind) (system : IsSystem s) (nested : IsNested roots s) where
  -- ---- need comes of something behind

  has_by : (b f : Function) → Contains s f → is_behind b f.slot.bus ≡ true → has_class s pools c f ≡ true → has_behind s pools c b ≡ true
  has_by b f listed behind has = any_from (λ g. is_behind b g.slot.bus && has_class s pools c g) s f listed (and_from (is_behind b f.slot.bus) (has_class s pools c f) behind has)

  need_step : (b : Function) → Contains s b → is_bridge b ≡ true → 0 < need_behind s pools c b
      → ((d : Function) → Contains s d → d.slot.bus ≡ secondary b → is_bridge d ≡ true → 0 < need_behind s pools c d → has_behind s pools c d ≡ true) → has_behind s pools c b ≡ true
  need_step b listed bridge some below =
      let bus = secondary b in
      let end = own_end roots s system nested b listed bridge in
      let own = flat_map (own_sizes s pools c bus) s in
      let windows = flat_map (λ d. window_over c bus d (sum (items_on s pools c (secondary d)))) s in
      let term = some_term (items_on s pools c bus) some in
      let listed_term = term.1 in
      let there : Contains (own ++ windows) term.0 =
      subst (λ xs. Contains xs term.0) (items_by_behind s pools c (slots_of s system) (order_of roots s nested) bus) (listed_term.0, listed_term.1, listed_term.2) in
      elim (Contains-append_cases own windows term.0 there) [
        | inl here ↦
            let piece : IsInPiece (own_sizes s pools c bus) s term.0 = in_flat_map_to (own_sizes s pools c bus) s term.0 here in
            let f = piece.of in
            let split = in_cond (f.slot.bus == bus) (sizes_in s pools c f) term.0 piece.piece in
            let at = eqb-true f.slot.bus bus split.0 in
            let made : IsMade (size_of f) (filter (λ part. same_class c (class_of s pools f part)) (bars_and_rom f)) term.0 =
            in_map_to (size_of f) (filter (λ part. same_class c (class_of s pools f part)) (bars_and_rom f)) term.0 split.1 in
            let kept = in_filter_to (λ part. same_class c (class_of s pools f part)) (bars_and_rom f) made.from made.has in
            has_by b f piece.has (is_behind_by b f.slot.bus (omega (arith, at)) (omega (arith, at, end)))
            (any_from (λ part. same_class c (class_of s pools f part)) (bars_and_rom f) made.from kept.0 kept.1)
        | inr later ↦
            let piece : IsInPiece (λ d. window_over c bus d (sum (items_on s pools c (secondary d)))) s term.0 = in_flat_map_to (λ d. window_over c bus d (sum (items_on s pools c (secondary d)))) s term.0 later in
            let d = piece.of in
            let need = sum (items_on s pools c (secondary d)) in
            let split = in_cond (is_bridge d && d.slot.bus == bus && nat_lt 0 need) (window_size c (limited need) ∷ []) term.0 piece.piece in
            let outer = and_parts (is_bridge d && d.slot.bus == bus) (nat_lt 0 need) split.0 in
            let inner = and_parts (is_bridge d) (d.slot.bus == bus) outer.0 in
            let at = eqb-true d.slot.bus bus inner.1 in
            let has_d = below d piece.has at inner.0 (ltb-true 0 need outer.1) in
            let found = any_gives (λ g. is_behind d g.slot.bus && has_class s pools c g) s has_d in
            let g = found.x in
            let is = and_parts (is_behind d g.slot.bus) (has_class s pools c g) found.is in
            let range = behind_range d g.slot.bus is.0 in
            let ends = inside_ends roots s system nested d b piece.has listed inner.0 bridge (is_behind_by b d.slot.bus (omega (arith, at)) (omega (arith, at, end))) in
            let low = range.0 in
            let high = range.1 in
            let from = ends.0 in
            let to = ends.1 in
            has_by b g found.listed (is_behind_by b g.slot.bus (omega (arith, low, from)) (omega (arith, high, to))) is.1
      ]

  behind_by_need : (n : ℕ) (b : Function) → 256 ≤ n + secondary b → Contains s b → is_bridge b ≡ true → 0 < need_behind s pools c b → has_behind s pools c b ≡ true
  behind_by_need zero b deep listed bridge some =
      need_step b listed bridge some (λ d in_d at is_d need. let is = slots_of s system d in_d in let less = is.0 in absurd (let impossible : ⊥ = omega (arith, deep, at, less) in impossible))
  behind_by_need (suc n) b deep listed bridge some =
      need_step b listed bridge some (λ d in_d at is_d need. let up = order_of roots s nested d in_d is_d in behind_by_need n d (omega (arith, deep, at, up)) in_d is_d need)

  -- ---- something behind makes need

  -- need on a bus behind a bridge is need behind it
  need_up : (n : ℕ) (b f : Function) → f.slot.bus < n → Contains s b → Contains s f → is_bridge b ≡ true → is_behind b f.slot.bus ≡ true → 0 < sum (items_on s pools c f.slot.bus) → 0 < need_behind s pools c b
  need_up zero b f less in_b in_f bridge behind some = absurd (let impossible : ⊥ = omega (arith, less) in impossible)
  need_up (suc n) b f less in_b in_f bridge behind some =
      let range = behind_range b f.slot.bus behind in
      let low = range.0 in
      elim (cases_eq f.slot.bus (secondary b)) [
        | inl at ↦ subst (λ bus. 0 < sum (items_on s pools c bus)) at some
        | inr above ↦
            let off : is_root roots f.slot.bus ≡ false = elim (cases_Bool (is_root roots f.slot.bus)) [
              | inr fine ↦ fine
              | inl root ↦
                  let clear = all_gives (λ r. not (is_behind b r)) roots f.slot.bus (nested.clear b in_b bridge) ((root_means roots f.slot.bus).0 root) in
                  absurd (both_ways (is_behind b f.slot.bus) (not-true (is_behind b f.slot.bus) clear) behind)
            ] in
            let one = nested.one f in_f off in
            let d = one.0 in
            let leads = one.1 in
            let to = leads.2 in
            let up = order_of roots s nested d leads.0 leads.1 in
            let behind_d : is_behind b (secondary d) ≡ true = subst (λ bus. is_behind b bus ≡ true) (sym to) behind in
            let some_d : 0 < need_behind s pools c d = subst (λ bus. 0 < sum (items_on s pools c bus)) (sym to) some in
            let between = bridge_between roots s system nested b d in_b leads.0 bridge leads.1 behind_d (omega (arith, low, above, to)) in
            need_up n b d (omega (arith, less, up, to)) in_b leads.0 bridge between (window_needed s pools c roots system nested d leads.0 leads.1 some_d)
      ]

  need_by_behind : (b : Function) → Contains s b → is_bridge b ≡ true → has_behind s pools c b ≡ true → 0 < need_behind s pools c b
  need_by_behind b listed bridge has =
      let found = any_gives (λ g. is_behind b g.slot.bus && has_class s pools c g) s has in
      let f = found.x in
      let is = and_parts (is_behind b f.slot.bus) (has_class s pools c f) found.is in
      let part = any_gives (λ part. same_class c (class_of s pools f part)) (bars_and_rom f) is.1 in
      need_up (suc f.slot.bus) b f (omega arith) listed found.listed bridge is.0 (own_needed s pools c roots system nested f part.x found.listed part.listed part.is (size_pos f part.x (listed_plain f part.x part.listed)))

  -- something is behind a bridge exactly where its secondary bus has need
  pub behind_by_test : (b : Function) → Contains s b → is_bridge b ≡ true → has_behind s pools c b ≡ nat_lt 0 (need_behind s pools c b)
  behind_by_test b listed bridge = elim (cases_Bool (has_behind s pools c b)) [
    | inl has ↦ has ∙ sym (lt-ltb 0 (need_behind s pools c b) (need_by_behind b listed bridge has))
    | inr none ↦ elim (cases_lt 0 (need_behind s pools c b)) [
      | inl some ↦ absurd (both_ways (has_behind s pools c b) none (behind_by_need 256 b (omega arith) listed bridge some))
      | inr zero_need ↦ none ∙ sym (le-ltb 0 (need_behind s pools c b) zero_need)
    ]
  ]

  pub behind_is_need : ((b : Function) → Contains s b → is_bridge b ≡ true → need_behind s pools c b ≤ 2 ^ 65) → (b : Function) → Contains s b → is_bridge b ≡ true → has_behind s pools c b ≡ nat_lt 0 (need_behind s pools c b)
  behind_is_need small b listed bridge = behind_by_test b listed bridge
