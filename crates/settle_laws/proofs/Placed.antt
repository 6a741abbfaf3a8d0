-- Where everything has its place, windows over it are open, its class by them is that of planning, and what is of one space is apart.
use Rattle.std.proofs.Common.{◌≡◌, ◌&&◌, ℕ, zero, suc, ◌<◌, ◌≤◌, inl, inr, List, Bool, true, false, not, arith, refl, sym, ◌∙◌, ap, subst, Some}
use Rattle.std.specs.Bool.{nat_le, if◌then◌else◌}
use Rattle.std.specs.List.{Contains, list_any}
use Rattle.std.proofs.lemmas.Bool.{and_from, and_parts, both_ways, cases_eq, cases_lt, false_from_ne_true, leb-true, le-leb, not_from_false, or_right}
use Rattle.pci_spec.specs.Bar.{bar_at, is_io, is_prefetchable}
use Rattle.pci_spec.specs.Decoded.{Range}
use Rattle.pci_spec.specs.Window.{WindowKind, IoWindow, MemoryWindow, PrefetchWindow, has_window}
use Rattle.pci_spec.specs.System.{System, Function, IsSystem, Io, Memory, Part, Bar, Rom, Window, space_of, window_space}
use Rattle.pci_spec.specs.Bus.{secondary, is_behind, LeadsTo}
use Rattle.pci_spec.specs.Sound.{IsSound}
use Rattle.pci_spec.proofs.BusRanges.{root_means}
use Rattle.plan_spec.specs.Plan.{Pools, pool_of, are_bad, bridges_above, class_of, is_open, is_served}
use Rattle.plan_spec.specs.Planning.Layout.{range_of, is_item, AreBeside, AreTwo, IsInside, LieApart, IsLaidOut}
use Rattle.plan_spec.proofs.PlanningLaws.{profile_decodes}
use Rattle.plan_spec.proofs.Planning.AboveBuses.{above_from, above_to, root_or_led}
use Rattle.plan_spec.proofs.Planning.Behind.{behind_range, bridge_between}
use Rattle.plan_spec.proofs.Planning.LaidOut.{in_pool, opening}
use Rattle.plan_spec.proofs.Planning.Safe.{order_of}
use Rattle.settle_spec.specs.Parts.{lies_within, holds_range, bridge_over, is_in_memory, is_in_prefetch, are_same_space}
use Rattle.settle_spec.proofs.BridgeOver.{over_is}
use Rattle.settle_spec.proofs.Nested.{is_no_root, one_bridge}
use Rattle.settle_laws.proofs.InLists.{within_from}
use Rattle.settle_laws.proofs.PartClasses.{by_tests, by_windows}
use Rattle.settle_laws.proofs.NonePasses.{none_by}

not_both : Io ≡ Memory → ⊥
not_both e = both_ways (are_same_space Io Memory) refl (sym (ap (λ s. are_same_space Io s) e))

-- ---- pools

pools_apart : (pools : Pools) → are_bad pools ≡ false → LieApart pools.memory pools.prefetch
pools_apart pools good = elim (cases_lt pools.prefetch.last pools.memory.first) [
  | inl right ↦ inr right
  | inr low ↦ elim (cases_lt pools.memory.last pools.prefetch.first) [
    | inl left ↦ inl left
    | inr high ↦ absurd (both_ways (are_bad pools) good (or_right _ (nat_le pools.memory.first pools.prefetch.last && nat_le pools.prefetch.first pools.memory.last)
        (and_from (nat_le pools.memory.first pools.prefetch.last) (nat_le pools.prefetch.first pools.memory.last) (le-leb pools.memory.first pools.prefetch.last low) (le-leb pools.prefetch.first pools.memory.last high))))
  ]
]

flip : (r u : Range) → LieApart r u → LieApart u r
flip r u (inl under) = inr under
flip r u (inr over) = inl over

-- what is inside of ranges that are apart is apart
apart_inside : (r u v w : Range) → IsInside r v → IsInside u w → LieApart v w → LieApart r u
apart_inside r u v w in_v in_w (inl under) = let end = in_v.1 in let first = in_w.0 in inl (omega (arith, under, end, first))
apart_inside r u v w in_v in_w (inr over) = let end = in_w.1 in let first = in_v.0 in inr (omega (arith, over, end, first))

-- in the pools of two classes of one space, or in that of one class
apart_by_class : (pools : Pools) → are_bad pools ≡ false → (c d : WindowKind) (r u : Range) → window_space c ≡ window_space d → IsInside r (pool_of pools c) → IsInside u (pool_of pools d)
    → (c ≡ d → LieApart r u) → LieApart r u
apart_by_class pools good IoWindow IoWindow r u e in_c in_d same = same refl
apart_by_class pools good IoWindow MemoryWindow r u e in_c in_d same = absurd (not_both e)
apart_by_class pools good IoWindow PrefetchWindow r u e in_c in_d same = absurd (not_both e)
apart_by_class pools good MemoryWindow IoWindow r u e in_c in_d same = absurd (not_both (sym e))
apart_by_class pools good MemoryWindow MemoryWindow r u e in_c in_d same = same refl
apart_by_class pools good MemoryWindow PrefetchWindow r u e in_c in_d same = apart_inside r u pools.memory pools.prefetch in_c in_d (pools_apart pools good)
apart_by_class pools good PrefetchWindow IoWindow r u e in_c in_d same = absurd (not_both (sym e))
apart_by_class pools good PrefetchWindow MemoryWindow r u e in_c in_d same = apart_inside r u pools.prefetch pools.memory in_c in_d (flip pools.memory pools.prefetch (pools_apart pools good))
apart_by_class pools good PrefetchWindow PrefetchWindow r u e in_c in_d same = same refl

-- ---- classes by tests

bar_space : (io prefetchable served : Bool) → (if io then Io else Memory) ≡ window_space (if io then IoWindow else if prefetchable && served then PrefetchWindow else MemoryWindow)
bar_space true prefetchable served = refl
bar_space false true true = refl
bar_space false true false = refl
bar_space false false served = refl

-- planning's class, where a prefetchable BAR has that of the windows that hold it
pub classes_agree : (io prefetchable served memory prefetch new : Bool)
    → (io ≡ false → prefetchable ≡ true → served ≡ true → (memory ≡ false) × (prefetch ≡ true))
    → (io ≡ false → prefetchable ≡ true → served ≡ false → memory ≡ true)
    → by_tests io prefetchable (by_windows false memory prefetch new) ≡ (if io then IoWindow else if prefetchable && served then PrefetchWindow else MemoryWindow)
classes_agree true prefetchable served memory prefetch new in_prefetch in_memory = refl
classes_agree false false served memory prefetch new in_prefetch in_memory = refl
classes_agree false true true memory prefetch new in_prefetch in_memory =
    let held = in_prefetch refl refl refl in
    (λ i. by_windows false (held.0 i) (held.1 i) new)
classes_agree false true false memory prefetch new in_prefetch in_memory = ap (λ b. by_windows false b prefetch new) (in_memory refl refl refl)

module _ (roots : List ℕ) (t : System) (pools : Pools) (system : IsSystem t) (sound : IsSound roots t) (laid : IsLaidOut roots t pools) where
  -- each part with a place lies in the pool of its class
  pub inside_pool : (f : Function) (p : Part) → Contains t f → is_item f p ≡ true → IsInside (range_of f p) (pool_of pools (class_of t pools f p))
  inside_pool f p listed item = in_pool roots t pools sound.nested (profile_decodes roots t sound.profile) laid f p listed item

  pub space_by_class : (f : Function) (p : Part) → space_of f p ≡ window_space (class_of t pools f p)
  space_by_class f (Bar n) = bar_space (is_io (bar_at f.probe n)) (is_prefetchable (bar_at f.probe n)) (is_served t pools f n)
  space_by_class f Rom = refl
  space_by_class f (Window c) = refl

  -- two parts of a space that are beside one another are apart
  pub beside_apart : are_bad pools ≡ false → (f g : Function) (p r : Part) → Contains t f → Contains t g → is_item f p ≡ true → is_item g r ≡ true → space_of f p ≡ space_of g r → AreBeside roots f g
      → AreTwo f p g r → LieApart (range_of f p) (range_of g r)
  beside_apart good f g p r in_f in_g item_f item_g spaces beside two =
      apart_by_class pools good (class_of t pools f p) (class_of t pools g r) (range_of f p) (range_of g r) (sym (space_by_class f p) ∙ spaces ∙ space_by_class g r)
      (inside_pool f p in_f item_f) (inside_pool g r in_g item_g) (λ same. laid.apart f g p r in_f in_g item_f item_g beside same two)

  -- ---- windows over a part are open

  over_open : (n : ℕ) (f : Function) (p : Part) (b : Function) → f.slot.bus < n → Contains t f → is_item f p ≡ true → Contains (bridges_above t f.slot.bus) b → is_open b (class_of t pools f p) ≡ true
  over_open zero f p b less listed item above = absurd (let no : ⊥ = omega (arith, less) in no)
  over_open (suc n) f p b less listed item above =
      let c = class_of t pools f p in
      let is = above_to t f.slot.bus b above in
      elim (root_or_led roots t system sound.nested f listed) [
        | inl root ↦ absurd (is_no_root roots t system sound.nested b f.slot.bus is.listed is.bridge is.behind ((root_means roots f.slot.bus).1 root))
        | inr (d, leader) ↦
            let to = leader.leads in
            let up = order_of roots t sound.nested d leader.listed leader.bridge in
            let open_d = (laid.window f d p listed item (leader.listed, leader.bridge, to)).0 in
            elim (cases_eq (secondary b) (secondary d)) [
              | inl same ↦ subst (λ x. is_open x c ≡ true) (sym (one_bridge roots t system sound.nested b d is.listed leader.listed is.bridge leader.bridge same)) open_d
              | inr differ ↦
                  let behind = subst (λ bus. is_behind b bus ≡ true) (sym to) is.behind in
                  let low = (behind_range b (secondary d) behind).0 in
                  let between = bridge_between roots t system sound.nested b d is.listed leader.listed is.bridge leader.bridge behind (omega (arith, low, differ)) in
                  over_open n d (Window c) b (omega (arith, less, to, up)) leader.listed open_d
                  (above_from t d.slot.bus b record { listed = is.listed; bridge = is.bridge; behind = between })
            ]
      ]

  pub open_above : (f : Function) (p : Part) (b : Function) → Contains t f → is_item f p ≡ true → Contains (bridges_above t f.slot.bus) b → is_open b (class_of t pools f p) ≡ true
  open_above f p b listed item above = over_open (suc f.slot.bus) f p b (omega arith) listed item above

  -- ---- classes behind a bridge

  module _ (f b : Function) (listed : Contains t f) (leads : LeadsTo t b f.slot.bus) where
    pub over : bridge_over t f.slot.bus ≡ Some b
    over = over_is roots t system sound.nested f.slot.bus b leads

    -- the window of a part's class holds it
    held_by : (c : WindowKind) (p : Part) → is_item f p ≡ true → class_of t pools f p ≡ c → holds_range c (range_of f p) (bridge_over t f.slot.bus) ≡ true
    held_by c p item class =
        let through = laid.window f b p listed item leads in
        ap (holds_range c (range_of f p)) over
        ∙ subst (λ k. (is_open b k && lies_within (range_of f p) (range_of b (Window k))) ≡ true) class
        (and_from (is_open b (class_of t pools f p)) (lies_within (range_of f p) (range_of b (Window (class_of t pools f p)))) through.0
        (within_from (range_of f p) (range_of b (Window (class_of t pools f p))) through.1))

    module _ (good : are_bad pools ≡ false) (n : ℕ) (item : is_item f (Bar n) ≡ true) where
      abbrev range : Range
      range = range_of f (Bar n)

      pub not_in_memory : class_of t pools f (Bar n) ≡ PrefetchWindow → is_in_memory t f n ≡ false
      not_in_memory class = false_from_ne_true (is_in_memory t f n) (λ is.
          let parts = and_parts (is_open b MemoryWindow) (lies_within range (range_of b (Window MemoryWindow))) (sym (ap (holds_range MemoryWindow range) over) ∙ is) in
          let two = and_parts (nat_le (range_of b (Window MemoryWindow)).first range.first) (nat_le range.last (range_of b (Window MemoryWindow)).last) parts.1 in
          let from = leb-true (range_of b (Window MemoryWindow)).first range.first two.0 in
          let end = leb-true range.last (range_of b (Window MemoryWindow)).last two.1 in
          let low = inside_pool b (Window MemoryWindow) leads.0 parts.0 in
          let high = subst (λ c. IsInside range (pool_of pools c)) class (inside_pool f (Bar n) listed item) in
          let low_first = low.0 in
          let low_last = low.1 in
          let high_first = high.0 in
          let high_last = high.1 in
          let some : range.first ≤ range.last = omega arith in
          elim (pools_apart pools good) [
            | inl under ↦ (let no : ⊥ = omega (arith, under, end, low_last, high_first, some) in no)
            | inr above ↦ (let no : ⊥ = omega (arith, above, from, low_first, high_last, some) in no)
          ])

      pub in_prefetch : class_of t pools f (Bar n) ≡ PrefetchWindow → is_in_prefetch t f n ≡ true
      in_prefetch class =
          let none = λ (d : Function). not (has_window PrefetchWindow d.probe) in
          and_from (holds_range PrefetchWindow range (bridge_over t f.slot.bus)) (not (list_any none (bridges_above t f.slot.bus))) (held_by PrefetchWindow (Bar n) item class)
          (not_from_false (list_any none (bridges_above t f.slot.bus))
          (none_by none (bridges_above t f.slot.bus) (λ d above.
          ap not (opening d PrefetchWindow (subst (λ c. is_open d c ≡ true) class (open_above f (Bar n) d listed item above))).there)))

      pub in_memory : class_of t pools f (Bar n) ≡ MemoryWindow → is_in_memory t f n ≡ true
      in_memory class = held_by MemoryWindow (Bar n) item class
