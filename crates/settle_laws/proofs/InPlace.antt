-- In a sound system each part stands exactly where each is in its place, and what is off shares no address.
use Rattle.std.proofs.Common.{◌≡◌, ◌≢◌, ◌&&◌, ℕ, zero, suc, ◌+◌, ◌*◌, ◌<◌, ◌≤◌, inl, inr, List, [], ◌∷◌, ◌++◌, Bool, true, false, cond, arith, refl, sym, ◌∙◌, ap, subst}
use Rattle.std.specs.Bool.{◌==◌, nat_le, nat_lt}
use Rattle.std.specs.List.{Contains, list_all}
use Rattle.std.proofs.lemmas.Bool.{and_from, and_parts, cases_Bool, cases_lt, eq-eqb, eqb-true, leb-true, ltb-false, or_cases, or_left, or_parts, or_right}
use Rattle.std.proofs.lemmas.List.Elements.{All-contains}
use Rattle.pci_spec.specs.Slot.{slot_number}
use Rattle.pci_spec.specs.Rom.{rom_is_on}
use Rattle.pci_spec.specs.Window.{WindowKind, IoWindow, MemoryWindow, PrefetchWindow, holds}
use Rattle.pci_spec.specs.Decoded.{InRange, IsDecodable, Range}
use Rattle.pci_spec.specs.System.{System, Function, IsSystem, Space, Memory, Part, Bar, Rom, Window, Claims, Gets, forwards, has_part, is_enabled, is_space_on, is_window, space_of, window_claims, window_space}
use Rattle.pci_spec.specs.Bus.{are_siblings, is_root, IsNested, LeadsTo}
use Rattle.pci_spec.specs.Sound.{IsSound, IsSameRegion}
use Rattle.pci_spec.proofs.BusRanges.{all_gives, root_means}
use Rattle.pci_spec.proofs.Ways.{leads_push}
use Rattle.pci_spec.proofs.WindowLaws.{window_holds_its_pages}
use Rattle.plan_spec.specs.Plan.{bridges_above}
use Rattle.plan_spec.proofs.PlanningLaws.{profile_decodes}
use Rattle.plan_spec.proofs.Planning.AboveBuses.{above_from, all_above, all_above_root, root_or_led}
use Rattle.plan_spec.proofs.Planning.Kept.{images_of}
use Rattle.plan_spec.proofs.Planning.LaidOut.{opening}
use Rattle.plan_spec.proofs.Planning.Safe.{order_of}
use Rattle.settle_spec.specs.FirstPlace.{ranges_are_apart}
use Rattle.settle_spec.specs.Lists.{Request}
use Rattle.settle_spec.specs.Parts.{FunctionPart, system_parts, addresses, lies_within, bridge_over, class_in, are_same_space}
use Rattle.settle_spec.specs.Stands.{rank, is_part_on, part_space, are_beside, is_in_lists, is_in_window, is_in_place, window_part, stands}
use Rattle.settle_spec.proofs.BridgeOver.{over_is}
use Rattle.settle_spec.proofs.Nested.{at_secondary}
use Rattle.settle_laws.proofs.Apart.{apart_where_beside, in_root_lists, in_window_over}
use Rattle.settle_laws.proofs.Standing.{stands_by_itself}
use Rattle.settle_laws.specs.StartLaws.{LieInPlace, OffLieApart, is_on_from_above}
use Rattle.settle_laws.proofs.AllInPlace.{IsLookedAt, all_in_place, looked, looked_at}
use Rattle.settle_laws.proofs.HeaderParts.{part_cases, window_of}
use Rattle.settle_laws.proofs.Held.{above_above, same_itself}
use Rattle.settle_laws.proofs.ItemForms.{header_has}
use Rattle.settle_laws.proofs.Kept.{in_regions, off_roots, one_space, siblings_through}
use Rattle.settle_laws.proofs.PartClaims.{claims_at, part_order}
use Rattle.settle_laws.proofs.PartClasses.{space_of_class}
use Rattle.settle_laws.proofs.Untold.{none_kept_off}

-- ---- addresses that two ranges share

record Share (x y : Range) : Type 0 where
  at : ℕ
  first : InRange x at
  second : InRange y at

share : (x y : Range) → x.first ≤ x.last → y.first ≤ y.last → ranges_are_apart x y ≡ false → Share x y
share x y some_x some_y meet =
    let parts = or_parts (nat_lt x.last y.first) (nat_lt y.last x.first) meet in
    let low = ltb-false x.last y.first parts.0 in
    let high = ltb-false y.last x.first parts.1 in
    elim (cases_lt x.first y.first) [
      | inl below ↦ record { at = y.first; first = (omega (arith, below), low); second = (omega arith, some_y) }
      | inr above ↦ record { at = x.first; first = (omega arith, some_x); second = (above, high) }
    ]

apart_back : (x y : Range) → ranges_are_apart x y ≡ true → ranges_are_apart y x ≡ true
apart_back x y apart = elim (or_cases (nat_lt x.last y.first) (nat_lt y.last x.first) apart) [
  | inl under ↦ or_right (nat_lt y.last x.first) (nat_lt x.last y.first) under
  | inr over ↦ or_left (nat_lt y.last x.first) (nat_lt x.last y.first) over
]

pub within_has : (r w : Range) (a : ℕ) → lies_within r w ≡ true → InRange r a → InRange w a
within_has r w a within (low, high) =
    let parts = and_parts (nat_le w.first r.first) (nat_le r.last w.last) within in
    let first = leb-true w.first r.first parts.0 in
    let last = leb-true r.last w.last parts.1 in
    (omega (arith, first, low), omega (arith, last, high))

-- ---- ways

all_push : (test : Function → Bool) (xs : List Function) (x : Function) → list_all test xs ≡ true → test x ≡ true → list_all test (xs ++ x ∷ []) ≡ true
all_push test [] x all one = and_from (test x) true one refl
all_push test (y ∷ ys) x all one =
    let parts = and_parts (test y) (list_all test ys) all in
    and_from (test y) (list_all test (ys ++ x ∷ [])) parts.0 (all_push test ys x parts.1 one)

-- what a window claims is forwarded
pub claimed_forwards : (c : WindowKind) (a : ℕ) (b : Function) → window_claims b c a ≡ true → forwards (window_space c) a b ≡ true
claimed_forwards IoWindow a b h = h
claimed_forwards MemoryWindow a b h = or_left (window_claims b MemoryWindow a) (window_claims b PrefetchWindow a) h
claimed_forwards PrefetchWindow a b h = or_right (window_claims b MemoryWindow a) (window_claims b PrefetchWindow a) h

-- where a part is enabled, its space is
pub enabled_on : (f : Function) (p : Part) → is_enabled f p ≡ true → is_space_on f (space_of f p) ≡ true
enabled_on f (Bar n) on = on
enabled_on f Rom on = (and_parts (is_space_on f Memory) (rom_is_on f.image) on).0
enabled_on f (Window c) on = on

pub looked_part : (q : Request) (s : System) (r : FunctionPart) → IsLookedAt q s r → has_part r.function r.part ≡ true
looked_part q s r is = elim (part_cases r.function r.part is.there) [
  | inl bar ↦ header_has r.function r.part is.there (sym (ap is_window bar.is))
  | inr (inl window) ↦ subst (λ o. has_part r.function o ≡ true) window.is (opening r.function window.kind (subst (λ o. looked_at q s record { function = r.function; part = o } ≡ true) (sym window.is) is.part)).bridge
  | inr (inr rom) ↦ subst (λ o. has_part r.function o ≡ true) rom refl
]

module _ (q : Request) (s : System) (system : IsSystem s) (nested : IsNested q.roots s) where
  -- the bridge to a bus is above it
  leader_above : (b : Function) (bus : ℕ) → LeadsTo s b bus → Contains (bridges_above s bus) b
  leader_above b bus leads = above_from s bus b record { listed = leads.0; bridge = leads.1; behind = at_secondary q.roots s system nested b bus leads.0 leads.1 leads.2 }

  module _ (place : LieInPlace q s) where
    -- the window of its class over a part
    over_listed : (r : FunctionPart) (b : Function) → Contains (system_parts q s) r → LeadsTo s b r.function.slot.bus → Contains (system_parts q s) (window_part (class_in q s r.function r.part) b)
    over_listed r b listed leads =
        let c = class_in q s r.function r.part in
        in_regions q s b (Window c) leads.0 (window_of b c) (place.windows r b listed leads).0

    in_place : (r : FunctionPart) → Contains (system_parts q s) r → is_in_place q s (looked_at q s) r ≡ true
    in_place r listed =
        let f = r.function in
        let c = class_in q s f r.part in
        let test = looked_at q s in
        let lists = is_in_lists q f.slot.bus (addresses r) (part_space r) in
        elim (root_or_led q.roots s system nested f (looked q s r listed).listed) [
          | inl root ↦ (let is = (root_means q.roots f.slot.bus).1 root in ap (λ b. cond b lists (is_in_window test c (addresses r) (bridge_over s f.slot.bus))) is ∙ place.lists r listed is)
          | inr (b, leader) ↦
              let leads : LeadsTo s b f.slot.bus = (leader.listed, leader.bridge, leader.leads) in
              let off : is_root q.roots f.slot.bus ≡ false = subst (λ n. is_root q.roots n ≡ false) leader.leads (off_roots q s system nested b leader.listed leader.bridge) in
              let over = place.windows r b listed leads in
              ap (λ x. cond x lists (is_in_window test c (addresses r) (bridge_over s f.slot.bus))) off
              ∙ ap (is_in_window test c (addresses r)) (over_is q.roots s system nested f.slot.bus b leads)
              ∙ and_from (lies_within (addresses r) (addresses (window_part c b))) (test (window_part c b)) over.1 over.0
        ]

    -- ---- where all parts are enabled

    module _ (on : (r : FunctionPart) → Contains (system_parts q s) r → is_part_on r ≡ true) where
      all_above_on : (space : Space) (n : ℕ) (r : FunctionPart) → r.function.slot.bus < n → Contains (system_parts q s) r → part_space r ≡ space → list_all (λ b. is_space_on b space) (bridges_above s r.function.slot.bus) ≡ true
      all_above_on space zero r less listed at = absurd (let no : ⊥ = omega (arith, less) in no)
      all_above_on space (suc n) r less listed at =
          let f = r.function in
          let test = λ (b : Function). is_space_on b space in
          elim (root_or_led q.roots s system nested f (looked q s r listed).listed) [
            | inl root ↦ all_above_root q.roots s system nested test f.slot.bus root
            | inr (b, leader) ↦
                let to = leader.leads in
                let c = class_in q s f r.part in
                let w = window_part c b in
                let in_w = over_listed r b listed (leader.listed, leader.bridge, to) in
                let at_w : window_space c ≡ space = space_of_class q s f r.part ∙ at in
                let up = order_of q.roots s nested b leader.listed leader.bridge in
                subst (λ bus. list_all test (bridges_above s bus) ≡ true) to
                (all_above q.roots s system nested test b leader.listed leader.bridge
                ∙ and_from (list_all test (bridges_above s b.slot.bus)) (test b) (all_above_on space n w (omega (arith, less, to, up)) in_w at_w) (ap (is_space_on b) (sym at_w) ∙ on w in_w))
          ]

      pub all_from_above : (r : FunctionPart) → Contains (system_parts q s) r → is_on_from_above s r ≡ true
      all_from_above r listed =
          and_from (is_part_on r) (list_all (λ b. is_space_on b (part_space r)) (bridges_above s r.function.slot.bus)) (on r listed) (all_above_on (part_space r) (suc r.function.slot.bus) r (omega arith) listed refl)

    -- ---- accesses get to a part

    gets_at : (space : Space) (a n : ℕ) (r : FunctionPart) → r.function.slot.bus < n → Contains (system_parts q s) r → part_space r ≡ space
        → ((b : Function) → Contains (bridges_above s r.function.slot.bus) b → is_space_on b space ≡ true) → InRange (addresses r) a → Gets q.roots s space a r.function.slot.bus
    gets_at space a zero r less listed at on inside = absurd (let no : ⊥ = omega (arith, less) in no)
    gets_at space a (suc n) r less listed at on inside =
        let f = r.function in
        elim (root_or_led q.roots s system nested f (looked q s r listed).listed) [
          | inl root ↦ (f.slot.bus, root, [], refl, refl)
          | inr (b, leader) ↦
              let leads : LeadsTo s b f.slot.bus = (leader.listed, leader.bridge, leader.leads) in
              let c = class_in q s f r.part in
              let over = place.windows r b listed leads in
              let at_w : window_space c ≡ space = space_of_class q s f r.part ∙ at in
              let own = leader_above b f.slot.bus leads in
              let within = within_has (addresses r) (addresses (window_part c b)) a over.1 inside in
              let to = leader.leads in
              let up = order_of q.roots s nested b leader.listed leader.bridge in
              let before = gets_at space a n (window_part c b) (omega (arith, less, to, up)) (over_listed r b listed leads) at_w (λ d has. on d (above_above q s system nested f b d own has)) within in
              let claim : window_claims b c a ≡ true = and_from (is_space_on b (window_space c)) (holds c b.image b.probe a) (ap (is_space_on b) at_w ∙ on b own) ((window_holds_its_pages c b.image b.probe a (opening b c over.0).there).1 within) in
              (before.0, before.1, before.2 ++ b ∷ [], leads_push s before.0 before.2 b f.slot.bus before.3 leads, all_push (forwards space a) before.2 b before.4 (subst (λ sp. forwards sp a b ≡ true) at_w (claimed_forwards c a b claim)))
        ]

module _ (q : Request) (s : System) (system : IsSystem s) (sound : IsSound q.roots s) where
  decodable : (f : Function) → Contains s f → IsDecodable f
  decodable f listed = All-contains IsDecodable s f (profile_decodes q.roots s sound.profile) listed

  -- ---- what stands is in its place

  module _ (all : (r : FunctionPart) → Contains (system_parts q s) r → stands q s r ≡ true) where
    pub standing_lies : LieInPlace q s
    standing_lies = record {
      lists = λ r listed root. in_root_lists q s sound.nested r listed (all r listed) root;
      windows = λ r b listed leads.
          let off : is_root q.roots r.function.slot.bus ≡ false = subst (λ n. is_root q.roots n ≡ false) leads.2 (off_roots q s system sound.nested b leads.0 leads.1) in
          let over = in_window_over q s sound.nested r listed (all r listed) b system off leads in
          ((stands_by_itself q s sound.nested).only (window_part (class_in q s r.function r.part) b) leads.0 over.1, over.0);
    }

    pub standing_apart : OffLieApart q s
    standing_apart r t in_r in_t beside differ off = apart_where_beside q s r t sound.nested in_r in_t (all r in_r) (all t in_t) beside differ

  -- ---- what is in its place stands

  module _ (place : LieInPlace q s) (off : OffLieApart q s) where
    claims : (r : FunctionPart) → Contains (system_parts q s) r → is_part_on r ≡ true → (a : ℕ) → InRange (addresses r) a → Claims r.function r.part (part_space r) a
    claims r listed on a inside =
        let is = looked q s r listed in
        let f = r.function in
        claims_at q s f (images_of s system f is.listed) (decodable f is.listed) r.part (looked_part q s r is) is.part (enabled_on f r.part on) a inside

    -- what is enabled from above
    record IsOnFromAbove (r : FunctionPart) : Type 0 where
      on : is_part_on r ≡ true
      above : (b : Function) → Contains (bridges_above s r.function.slot.bus) b → is_space_on b (part_space r) ≡ true

    from_above : (r : FunctionPart) → is_on_from_above s r ≡ true → IsOnFromAbove r
    from_above r h =
        let test = λ (b : Function). is_space_on b (part_space r) in
        let parts = and_parts (is_part_on r) (list_all test (bridges_above s r.function.slot.bus)) h in
        record { on = parts.0; above = λ b has. all_gives test (bridges_above s r.function.slot.bus) parts.1 b has }

    same_rank : (r t : FunctionPart) → IsSameRegion r.function r.part t.function t.part → rank r ≡ rank t
    same_rank r t (slots, registers) = λ i. slot_number (slots i) * 256 + registers i

    -- two that share an address are one
    one_claims : (r t : FunctionPart) → Contains (system_parts q s) r → Contains (system_parts q s) t → are_siblings q.roots r.function.slot.bus t.function.slot.bus ≡ true → part_space r ≡ part_space t
        → IsOnFromAbove r → IsOnFromAbove t → (a : ℕ) → InRange (addresses r) a → InRange (addresses t) a → rank r ≡ rank t
    one_claims r t in_r in_t siblings spaces on_r on_t a at_r at_t =
        let f = r.function in
        let g = t.function in
        let is_r = looked q s r in_r in
        let is_t = looked q s t in_t in
        let claim_r = claims r in_r on_r.on a at_r in
        let claim_t : Claims g t.part (part_space r) a = subst (λ sp. Claims g t.part sp a) (sym spaces) (claims t in_t on_t.on a at_t) in
        same_rank r t
        (elim (or_cases (f.slot.bus == g.slot.bus) (is_root q.roots f.slot.bus && is_root q.roots g.slot.bus) siblings) [
          | inl same ↦
              let gets = gets_at q s system sound.nested place (part_space r) a (suc f.slot.bus) r (omega arith) in_r refl on_r.above at_r in
              sound.single.on_a_bus (part_space r) a f.slot.bus gets f g r.part t.part is_r.listed is_t.listed refl (sym (eqb-true f.slot.bus g.slot.bus same)) claim_r claim_t
          | inr both ↦
              let parts = and_parts (is_root q.roots f.slot.bus) (is_root q.roots g.slot.bus) both in
              sound.single.over_roots (part_space r) a f g r.part t.part is_r.listed is_t.listed ((root_means q.roots f.slot.bus).0 parts.0) ((root_means q.roots g.slot.bus).0 parts.1) claim_r claim_t
        ])

    beside_back : (r t : FunctionPart) → are_siblings q.roots r.function.slot.bus t.function.slot.bus ≡ true → part_space r ≡ part_space t → are_beside q t r ≡ true
    beside_back r t siblings spaces =
        let bus = r.function.slot.bus in
        and_from (are_siblings q.roots t.function.slot.bus r.function.slot.bus) (are_same_space (part_space t) (part_space r))
        (siblings_through q.roots r.function.slot.bus t.function.slot.bus r.function.slot.bus siblings (or_left (bus == bus) (is_root q.roots bus && is_root q.roots bus) (eq-eqb bus bus refl)))
        (ap (are_same_space (part_space t)) spaces ∙ same_itself (part_space t))

    two_apart : (r t : FunctionPart) → Contains (system_parts q s) r → Contains (system_parts q s) t → are_beside q r t ≡ true → rank r ≢ rank t → ranges_are_apart (addresses r) (addresses t) ≡ true
    two_apart r t in_r in_t beside differ =
        let parts = and_parts (are_siblings q.roots r.function.slot.bus t.function.slot.bus) (are_same_space (part_space r) (part_space t)) beside in
        elim (cases_Bool (is_on_from_above s r)) [
          | inr dark ↦ off r t in_r in_t beside differ dark
          | inl on_r ↦ elim (cases_Bool (is_on_from_above s t)) [
            | inr dark ↦ apart_back (addresses t) (addresses r) (off t r in_t in_r (beside_back r t parts.0 (one_space (part_space r) (part_space t) parts.1)) (λ e. differ (sym e)) dark)
            | inl on_t ↦ elim (cases_Bool (ranges_are_apart (addresses r) (addresses t))) [
              | inl fine ↦ fine
              | inr meet ↦
                  let some_r = part_order q s r.function r.part (looked q s r in_r).part in
                  let some_t = part_order q s t.function t.part (looked q s t in_t).part in
                  let both = share (addresses r) (addresses t) some_r some_t meet in
                  absurd (differ (one_claims r t in_r in_t parts.0 (one_space (part_space r) (part_space t) parts.1) (from_above r on_r) (from_above t on_t) both.at both.first both.second))
            ]
          ]
        ]

    -- The law: each part stands.
    pub placed_stand : q.told.ranges ≡ [] → q.anew ≡ false → (r : FunctionPart) → Contains (system_parts q s) r → stands q s r ≡ true
    placed_stand untold kept r listed = all_in_place q s system sound.nested kept (λ r listed. none_kept_off q untold s r) (in_place q s system sound.nested place) two_apart r listed
