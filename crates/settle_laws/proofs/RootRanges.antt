-- What stands lies in a range of a list that the root above it has: in the window over it, which lies in one.
use Rattle.std.proofs.Common.{◌≡◌, ◌||◌, ℕ, zero, suc, ◌<◌, inl, inr, [], true, arith, refl, sym, ◌∙◌, ap, subst}
use Rattle.std.specs.List.{Contains}
use Rattle.std.proofs.lemmas.Bool.{cases_Bool, or_left, or_right}
use Rattle.pci_spec.specs.Decoded.{Range}
use Rattle.pci_spec.specs.Window.{IoWindow, MemoryWindow, PrefetchWindow}
use Rattle.pci_spec.specs.System.{System, IsSystem, Space, Io, Memory, Window}
use Rattle.pci_spec.specs.Bus.{is_root, IsNested}
use Rattle.plan_spec.specs.Planning.Layout.{IsInside}
use Rattle.plan_spec.proofs.Planning.AboveBuses.{above_from}
use Rattle.plan_spec.proofs.Planning.Safe.{order_of}
use Rattle.settle_spec.specs.Lists.{Request}
use Rattle.settle_spec.specs.Parts.{FunctionPart, system_parts, addresses, class_in}
use Rattle.settle_spec.specs.Stands.{is_in_lists, is_listed, part_space, stands, window_part}
use Rattle.settle_spec.specs.Keeping.Registers.{settled}
use Rattle.settle_spec.proofs.Nested.{at_secondary}
use Rattle.settle_laws.proofs.Apart.{in_root_lists, in_window_over}
use Rattle.settle_laws.proofs.Standing.{stands_by_itself}
use Rattle.settle_laws.proofs.AllInPlace.{looked}
use Rattle.settle_laws.proofs.HeaderParts.{header_of}
use Rattle.settle_laws.proofs.Held.{above_above}
use Rattle.settle_laws.proofs.InLists.{within_gives}
use Rattle.settle_laws.proofs.Kept.{in_regions}
use Rattle.settle_laws.proofs.PartClasses.{space_of_class}
use Rattle.settle_laws.specs.InLists.{HasListedRange, SettledIsListed}
use Rattle.settle_laws.specs.Switching.{IsStandingSystem, keeping}
use Rattle.settle_laws.proofs.SettledStands.{settled_is_standing}
use Rattle.settle_laws.proofs.PlannedStanding.{listed_inside}

-- lists that hold a range hold what lies in it
inside_lists : (q : Request) (bus : ℕ) (r w : Range) (space : Space) → IsInside r w → is_in_lists q bus w space ≡ true → is_in_lists q bus r space ≡ true
inside_lists q bus r w Io inside h = listed_inside q bus r w IoWindow inside h
inside_lists q bus r w Memory inside h = elim (cases_Bool (is_listed q bus w MemoryWindow)) [
  | inl memory ↦ or_left (is_listed q bus r MemoryWindow) (is_listed q bus r PrefetchWindow) (listed_inside q bus r w MemoryWindow inside memory)
  | inr other ↦
      or_right (is_listed q bus r MemoryWindow) (is_listed q bus r PrefetchWindow)
      (listed_inside q bus r w PrefetchWindow inside (sym (ap (λ memory. memory || is_listed q bus w PrefetchWindow) other) ∙ h))
]

module _ (q : Request) (s : System) (system : IsSystem s) (nested : IsNested q.roots s) where
  -- so it is below a bus, if it is so below lower ones
  below : (n : ℕ) (r : FunctionPart) → r.function.slot.bus < n → Contains (system_parts q s) r → stands q s r ≡ true → HasListedRange q s r
  below zero r under in_r is = absurd (omega (arith, under))
  below (suc n) r under in_r is =
      let bus = r.function.slot.bus in
      elim (cases_Bool (is_root q.roots bus)) [
        | inl on ↦ record { root = bus; over = record { is = on; above = inl refl }; holds = in_root_lists q s nested r in_r is on }
        | inr off ↦
            let one = nested.one r.function (looked q s r in_r).listed off in
            let b = one.0 in
            let leads = one.1 in
            let c = class_in q s r.function r.part in
            let w = window_part c b in
            let over = in_window_over q s nested r in_r is b system off leads in
            let own = above_from s bus b record { listed = leads.0; bridge = leads.1; behind = at_secondary q.roots s system nested b bus leads.0 leads.1 leads.2 } in
            let up = order_of q.roots s nested b leads.0 leads.1 in
            let at = leads.2 in
            let rest = below n w (omega (arith, under, up, at))
            (in_regions q s b (Window c) leads.0 (header_of b (Window c) leads.1) ((stands_by_itself q s nested).only w leads.0 over.1)) over.1 in
            record {
              root = rest.root;
              over = record {
                is = rest.over.is;
                above = elim rest.over.above [
                  | inl same ↦ inr (b, own, sym same)
                  | inr (d, above, root) ↦ inr (d, above_above q s system nested r.function b d own above, root)
                ];
              };
              holds = inside_lists q rest.root (addresses r) (addresses w) (part_space r) (within_gives (addresses r) (addresses w) over.0)
                  (subst (λ space. is_in_lists q rest.root (addresses w) space ≡ true) (space_of_class q s r.function r.part) rest.holds);
            }
      ]

-- The law: a part that stands lies in such a range.
pub standing_is_listed : (q : Request) (s : System) (r : FunctionPart) → IsSystem s → IsNested q.roots s → Contains (system_parts q s) r → stands q s r ≡ true → HasListedRange q s r
standing_is_listed q s r system nested in_r is = below q s system nested (suc r.function.slot.bus) r (omega arith) in_r is

-- The law: so does each part of what settling comes to.
pub settled_is_listed : SettledIsListed
settled_is_listed q untold s k r can in_r =
    let is : IsStandingSystem (keeping q []) (settled q s k) = settled_is_standing q untold s k can [] in
    let listed = standing_is_listed (keeping q []) (settled q s k) r is.system is.nested in_r (is.stand r in_r) in
    record { root = listed.root; over = listed.over; holds = listed.holds }
