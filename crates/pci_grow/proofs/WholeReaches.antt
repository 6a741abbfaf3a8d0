-- Reaches of all addresses of 64 bits: a table tells one exactly where a window that stands can grow to them.
use Rattle.std.proofs.Common.{◌≡◌, ℕ, ◌<◌, ◌⊎◌, inl, inr, List, length, get_or, Bool, true, false, ◌||◌, arith, ap, sym, subst, ◌∙◌, Option, None, Some}
use Rattle.std.specs.Bool.{◌==◌}
use Rattle.std.specs.List.{All, Contains, slice_get}
use Rattle.std.specs.Option.{option_map}
use Rattle.std.proofs.lemmas.Bool.{cases_Bool, and_parts, and_from, or_cases, or_left, or_right, both_ways, eqb-true, eq-eqb}
use Rattle.std.proofs.lemmas.List.{get_or_default}
use Rattle.std.proofs.lemmas.List.Elements.{Contains-get_or}
use Rattle.std.proofs.lemmas.Option.{slice_get-get_or, same_Some}
use Rattle.pci_spec.specs.Window.{WindowKind}
use Rattle.pci_spec.specs.Decoded.{Range as DecodedRange}
use Rattle.pci_spec.specs.System.{System, Function, Window, IsSystem, is_bridge}
use Rattle.pci_spec.specs.Bus.{IsNested}
use Rattle.plan_spec.specs.Planning.Layout.{range_of}
use Rattle.settle_spec.specs.Lists.{Request}
use Rattle.settle_spec.specs.Stands.{window_part, stands}
use Rattle.settle_spec.specs.Reach.{reach}
use Rattle.settle_laws.specs.Reach.{WindowsAreLow}
use Rattle.settle_laws.proofs.Reach.{reaches_are_around}
use Rattle.settle_laws.proofs.Standing.{window_listed, stands_by_itself}
use Rattle.pci_base.specs.declared.range.Range.{Range}
use Rattle.pci_base.specs.declared.window_kind.WindowKind.{WindowKind as CodeKind}
use Rattle.pci_base.specs.declared.window_kind.WindowKind.TheVariants as kinds
use Rattle.pci_base.specs.declared.window_kind.ByKind.{ByKind}
use Rattle.pci_base.specs.WindowKinds.{kind_value, by_kind}
use Rattle.pci_base.specs.Ranges.{decoded_range_of}
use Rattle.pci_place.specs.Items.{no_function}
use Rattle.pci_first_fit.specs.declared.extent.Extent.{Extent}
use Rattle.pci_first_fit.specs.Buses.{Classing, TellsClasses}
use Rattle.pci_first_fit.specs.NewWindows.{IsTooLarge}
use Rattle.pci_kept.specs.declared.windows.TooLarge.{TooLarge}
use Rattle.pci_kept.specs.Holding.{HasNewBeside, HasNewWhereStands}
use Rattle.pci_kept.specs.Windows.{AreAllNew, IsWholeRange, is_whole_range}
use Rattle.pci_grow.specs.Reaching.{Reaching, IsReaching, tells_whole, TellsWhole, HasWholeReach}
use Rattle.pci_first_fit.specs.Tables.{untold, told}
use Rattle.pci_grow.specs.Telling.{HasNewAround}
use Rattle.pci_grow.proofs.LowReaches.{reach_below}

abbrev told_whole : Option Range → Bool
told_whole o = is_whole_range (option_map decoded_range_of o)

-- ---- ranges

whole_of : (r : DecodedRange) → is_whole_range (Some r) ≡ true → IsWholeRange r
whole_of r is =
    let parts = and_parts (r.first == 0) (r.last == 0xffff_ffff_ffff_ffff) is in
    let last = eqb-true r.last 0xffff_ffff_ffff_ffff parts.1 in
    record { first = eqb-true r.first 0 parts.0; last = omega (arith, last) }

is_whole_of : (r : DecodedRange) → IsWholeRange r → is_whole_range (Some r) ≡ true
is_whole_of r is = (let last = is.last in and_from (r.first == 0) (r.last == 0xffff_ffff_ffff_ffff) (eq-eqb r.first 0 is.first) (eq-eqb r.last 0xffff_ffff_ffff_ffff (omega (arith, last))))

-- ---- the windows of one function

of_one : (b : ByKind (Option Range)) → tells_whole b ≡ true → (class : CodeKind) × (told_whole (by_kind b class) ≡ true)
of_one b whole = elim (or_cases (told_whole b.io || told_whole b.memory) _ whole) [
  | inl plain ↦ elim (or_cases (told_whole b.io) _ plain) [
    | inl io ↦ (kinds.Io, io)
    | inr memory ↦ (kinds.Memory, memory)
  ]
  | inr prefetch ↦ (kinds.Prefetchable, prefetch)
]

by_one : (b : ByKind (Option Range)) (class : CodeKind) → told_whole (by_kind b class) ≡ true → tells_whole b ≡ true
by_one b kinds.Io whole = or_left (told_whole b.io || told_whole b.memory) _ (or_left (told_whole b.io) _ whole)
by_one b kinds.Memory whole = or_left (told_whole b.io || told_whole b.memory) _ (or_right (told_whole b.io) _ whole)
by_one b kinds.Prefetchable whole = or_right (told_whole b.io || told_whole b.memory) _ whole

module _ (q : Request) (s : System) (system : IsSystem s) (nested : IsNested q.roots s) where
  bridge_of : (c : WindowKind) (f : Function) → Contains s f → stands q s (window_part c f) ≡ true → is_bridge f ≡ true
  bridge_of c f listed stand = (and_parts (is_bridge f) _ (and_parts _ _ ((stands_by_itself q s nested).only (window_part c f) listed stand)).0).0

  -- ---- a table of reaches

  module _ (x : Reaching) (is : IsReaching q s x) where
    one_whole : (k : ℕ) (class : CodeKind) → k < length x.reaches → told_whole (told x.reaches k class) ≡ true → HasWholeReach q s
    one_whole k class within whole =
        let inside : k < length s = (let count = is.count in omega (arith, within, count)) in
        let f = get_or s k no_function in
        let listed : Contains s f = Contains-get_or s k no_function inside in
        let at : slice_get s k ≡ Some f = slice_get-get_or s k no_function inside in
        elim (cases_Bool (stands q s (window_part (kind_value class) f))) [
          | inl stand ↦
              let of_reach = is.told_reaches k f class at (bridge_of (kind_value class) f listed stand) stand in
              record {
                function = f;
                listed = listed;
                class = kind_value class;
                stand = stand;
                whole = whole_of (reach q s (kind_value class) f) (sym (ap is_whole_range of_reach) ∙ whole);
              }
          | inr off ↦ absurd (both_ways (told_whole (told x.reaches k class)) (ap told_whole (is.only k f class at off)) whole)
        ]

    -- what is told has all addresses: so has a reach
    pub whole_reach : TellsWhole x.reaches → HasWholeReach q s
    whole_reach (ranges, ((k, within, here), whole)) =
        let one : get_or x.reaches k untold ≡ ranges = get_or_default x.reaches k untold ranges within ∙ here in
        let of_class = of_one (get_or x.reaches k untold) (ap tells_whole one ∙ whole) in
        one_whole k of_class.0 within of_class.1

    -- where nothing told has, no reach does
    pub none_whole : All (λ ranges. tells_whole ranges ≡ false) x.reaches → (class : CodeKind) (f : Function) → Contains s f → stands q s (window_part (kind_value class) f) ≡ true → IsWholeRange (reach q s (kind_value class) f) → ⊥
    none_whole none class f listed stand whole =
        let k = listed.0 in
        let at : slice_get s k ≡ Some f = slice_get-get_or s k f listed.1 ∙ ap Some listed.2 in
        let within : k < length x.reaches = (let count = is.count in let less = listed.1 in omega (arith, count, less)) in
        let of_reach = is.told_reaches k f class at (bridge_of (kind_value class) f listed stand) stand in
        let all = by_one (get_or x.reaches k untold) class (ap is_whole_range of_reach ∙ is_whole_of (reach q s (kind_value class) f) whole) in
        both_ways (tells_whole (get_or x.reaches k untold)) (none k untold within) all

    pub known_around : (large : Option TooLarge) → (large ≡ None) ⊎ All (λ ranges. tells_whole ranges ≡ false) x.reaches
        → (large ≡ None) ⊎ ((class : CodeKind) (f : Function) → Contains s f → stands q s (window_part (kind_value class) f) ≡ true → IsWholeRange (reach q s (kind_value class) f) → ⊥)
    known_around large (inl none) = inl none
    known_around large (inr narrow) = inr (none_whole narrow)

  -- ---- a window of all addresses has such a reach

  module _ (low : WindowsAreLow q s) (c : WindowKind) (f : Function) (listed : Contains s f) (stand : stands q s (window_part c f) ≡ true) where
    window_whole : IsWholeRange (range_of f (Window c)) → IsWholeRange (reach q s c f)
    window_whole is =
        let can = reaches_are_around q s c nested system low f record { part = window_listed q s c f listed ((stands_by_itself q s nested).only (window_part c f) listed stand); stands = stand } in
        let first = can.first in
        let last = can.last in
        let own_first = is.first in
        let own_last = is.last in
        let small = reach_below q s low c f listed stand in
        record { first = omega (arith, first, own_first); last = omega (arith, last, own_last, small) }

-- ---- new windows

pub new_around : (p : Classing) (q : Request) → TellsClasses p q → (windows : ByKind (List (Option Extent))) (large : Option TooLarge) → AreAllNew p windows large
    → (large ≡ None) ⊎ ((class : CodeKind) (f : Function) → Contains p.system f → stands q p.system (window_part (kind_value class) f) ≡ true → IsWholeRange (reach q p.system (kind_value class) f) → ⊥)
    → (class : CodeKind) (f : Function) → Contains p.system f → stands q p.system (window_part (kind_value class) f) ≡ true → HasNewAround q p (kind_value class) (by_kind windows class) f
new_around p q left windows None all known class f listed stand = inl (all class q left)
new_around p q left windows (Some x) all (inl none) class f listed stand = (let no : ⊥ = cc in absurd no)
new_around p q left windows (Some x) all (inr narrow) class f listed stand = inr (all.0 class q left, narrow class f listed stand)

-- the named one is too large, and a reach has all addresses
pub large_around : (p : Classing) (q : Request) → TellsClasses p q → (windows : ByKind (List (Option Extent))) (large : Option TooLarge) → AreAllNew p windows large
    → (w : TooLarge) → large ≡ Some w → IsTooLarge q p.system (kind_value w.class) w.function
large_around p q left windows None all w is = (let no : ⊥ = cc in absurd no)
large_around p q left windows (Some x) all w is = subst (λ (y : TooLarge). IsTooLarge q p.system (kind_value y.class) y.function) (same_Some x w is) (all.1 q left)

-- what no reach has room for no window has
pub new_where_stands : (p : Classing) (q : Request) → IsSystem p.system → IsNested q.roots p.system → WindowsAreLow q p.system → (windows : ByKind (List (Option Extent)))
    → ((class : CodeKind) (f : Function) → Contains p.system f → stands q p.system (window_part (kind_value class) f) ≡ true → HasNewAround q p (kind_value class) (by_kind windows class) f)
    → (class : CodeKind) → HasNewWhereStands q p class (by_kind windows class)
new_where_stands p q system nested low windows new class f listed stand = by (new class f listed stand)
  where
    by : HasNewAround q p (kind_value class) (by_kind windows class) f → HasNewBeside q p (kind_value class) (by_kind windows class) f
    by (inl has) = inl has
    by (inr (marked, narrow)) = inr (marked, λ shows whole. narrow (window_whole q p.system system nested low (kind_value class) f listed stand whole))
