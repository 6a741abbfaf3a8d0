-- What a table tells of what holds, function by function from the last one on.
use Rattle.std.proofs.Common.{◌≡◌, ◌≢◌, ℕ, ◌+◌, ◌<◌, ◌≤◌, inl, inr, List, map, length, set, get_or, Bool, true, false, cond, ◌&&◌, arith, refl, sym, ◌∙◌, ap, subst, Option, Some, None}
use Rattle.std.specs.List.{Contains, slice_get}
use Rattle.std.proofs.lemmas.Bool.{cases_Bool, cases_eq, cases_lt, and_parts, both_ways, false_from_ne_true}
use Rattle.std.proofs.lemmas.List.{length-set, get_or-set_same, get_or-set_other}
use Rattle.std.proofs.lemmas.Option.{slice_get_within, slice_get-get_or, get_or_from_slice_get}
use Rattle.pci_spec.specs.Window.{WindowKind, IoWindow, MemoryWindow, PrefetchWindow}
use Rattle.pci_spec.specs.System.{System, Function, Part, Bar, Rom, Window, IsSystem, is_bridge, has_part}
use Rattle.pci_spec.specs.Bus.{IsNested}
use Rattle.pci_spec.specs.Decoded.{HasRecords, Range}
use Rattle.plan_spec.specs.Plan.{is_open}
use Rattle.plan_spec.specs.Planning.Layout.{range_of}
use Rattle.settle_spec.specs.Lists.{Request}
use Rattle.settle_spec.specs.Parts.{FunctionPart}
use Rattle.settle_spec.specs.Stands.{window_part, stands}
use Rattle.settle_spec.specs.Items.{has_places, has_room}
use Rattle.settle_laws.proofs.Standing.{stands_by_itself}
use Rattle.settle_laws.proofs.Holding.{both_same, holds_alone}
use Rattle.pci_function.specs.declared.record.Record.{Record}
use Rattle.pci_function.specs.Values.{record_value}
use Rattle.pci_place.specs.Records.{IsRecordInSystem}
use Rattle.pci_place.proofs.Records.{same_count, function_at}
use Rattle.pci_first_fit.specs.declared.kept.Kept.{Kept}
use Rattle.pci_first_fit.specs.Kept.{kept_of, nothing_kept, AreKeptParts}
use Rattle.pci_first_fit.proofs.NewWindows.{comes_later}
use Rattle.pci_kept.specs.Boards.{AreOpen}
use Rattle.pci_kept.specs.Passing.{AreStanding}
use Rattle.pci_kept.specs.Tables.{stands_in}
use Rattle.pci_kept.proofs.Indexes.{table_at}
use Rattle.pci_kept.specs.Holding.{told_in, IsHeldFrom, IsWindowHolding, AreHolding}

and_true : (b : Bool) → (b && true) ≡ b
and_true true = refl
and_true false = refl

-- windows of bridges alone are open
open_bridge : (f : Function) (c : WindowKind) → is_open f c ≡ true → is_bridge f ≡ true
open_bridge f c opens = (and_parts (is_bridge f) _ (and_parts _ _ opens).0).0

at_place : (s : System) (f : Function) → (listed : Contains s f) → slice_get s listed.0 ≡ Some f
at_place s f listed = slice_get-get_or s listed.0 f listed.1 ∙ ap Some listed.2

-- an entry with other windows
pub record IsWithWindows (entry old : Kept) (io memory prefetch : Bool) : Type 0 where
  pub bars : (n : ℕ) → kept_of entry (Bar n) ≡ kept_of old (Bar n)
  pub rom : kept_of entry Rom ≡ kept_of old Rom
  pub io_is : kept_of entry (Window IoWindow) ≡ io
  pub memory_is : kept_of entry (Window MemoryWindow) ≡ memory
  pub prefetch_is : kept_of entry (Window PrefetchWindow) ≡ prefetch

-- the record of a function
pub record_at : (s : System) (records : List Record) → HasRecords s (map record_value records) → (k : ℕ) (f : Function) → slice_get s k ≡ Some f → (r : Record) → r ≡ get_or records k r → IsRecordInSystem s f r
record_at s records has k f at r r_is =
    let count = same_count s records has in
    let within = slice_get_within s k f at in
    let found = function_at s records has k r (slice_get-get_or records k r (omega (arith, count, within)) ∙ ap Some (sym r_is)) in
    let both : Some found.f ≡ Some f = sym found.at ∙ at in
    let one : found.f ≡ f = cc in
    subst (λ x. IsRecordInSystem s x r) one found.is

-- a window that has no range isn't open, and one that has is
pub none_closed : (f : Function) (c : WindowKind) (o : Option Range) → o ≡ cond (is_open f c) (Some (range_of f (Window c))) None → o ≡ None → is_open f c ≡ false
none_closed f c o is none = false_from_ne_true (is_open f c) (λ opens.
    let some : o ≡ Some (range_of f (Window c)) = is ∙ ap (λ b. cond b (Some (range_of f (Window c))) None) opens in
    let both : Some (range_of f (Window c)) ≡ None = sym some ∙ none in cc)

pub some_open : (f : Function) (c : WindowKind) (o : Option Range) (r : Range) → o ≡ cond (is_open f c) (Some (range_of f (Window c))) None → o ≡ Some r → is_open f c ≡ true
some_open f c o r is some = elim (cases_Bool (is_open f c)) [
  | inl opens ↦ opens
  | inr closed ↦
      let both : Some r ≡ None = sym some ∙ is ∙ ap (λ b. cond b (Some (range_of f (Window c))) None) closed in
      absurd (let no : ⊥ = cc in no)
]

pub some_range : (f : Function) (c : WindowKind) (o : Option Range) (r : Range) → o ≡ cond (is_open f c) (Some (range_of f (Window c))) None → o ≡ Some r → r ≡ range_of f (Window c)
some_range f c o r is some = elim (cases_Bool (is_open f c)) [
  | inl opens ↦
      let both : Some r ≡ Some (range_of f (Window c)) = sym some ∙ is ∙ ap (λ b. cond b (Some (range_of f (Window c))) None) opens in
      let one : r ≡ range_of f (Window c) = cc in one
  | inr closed ↦
      let both : Some r ≡ None = sym some ∙ is ∙ ap (λ b. cond b (Some (range_of f (Window c))) None) closed in
      absurd (let no : ⊥ = cc in no)
]

module _ (q : Request) (s : System) (system : IsSystem s) (nested : IsNested q.roots s) where
  -- what a table tells of a part that there is
  pub told_at : (table : List Kept) (j : ℕ) (f : Function) (p : Part) → slice_get s j ≡ Some f → has_part f p ≡ true
      → told_in q s table record { function = f; part = p } ≡ kept_of (get_or table j nothing_kept) p
  told_at table j f p at there =
      ap (λ b. cond b (stands_in s table record { function = f; part = p }) (stands q s record { function = f; part = p })) there
      ∙ table_at s system table j f p at

  pub told_kept : (table : List Kept) → AreKeptParts s (told_in q s table) table
  told_kept table j f p at there = sym (told_at table j f p at there)

  pub held_last : (table : List Kept) → AreStanding q s table → IsHeldFrom q s table (length s)
  held_last table are = record {
    count = are.count;
    opens = are.opens;
    told = λ j f p from at there. (let within = slice_get_within s j f at in absurd (let no : ⊥ = omega (arith, within, from) in no));
    rest = λ j f p less at there. are.each j f nothing_kept p at there;
  }

  -- a function before another is on no higher bus
  no_higher : (k j : ℕ) (f g : Function) → slice_get s k ≡ Some f → slice_get s j ≡ Some g → k ≤ j → f.slot.bus ≤ g.slot.bus
  no_higher k j f g at_k at_j up = elim (cases_lt g.slot.bus f.slot.bus) [
    | inl below ↦ (let earlier = comes_later s system j k g f at_j at_k below in absurd (let no : ⊥ = omega (arith, earlier, up) in no))
    | inr le ↦ le
  ]

  same_by : (b : Bool) (x y z : Bool) → x ≡ y → cond b x z ≡ cond b y z
  same_by true x y z e = e
  same_by false x y z e = refl

  module _ (k : ℕ) (f : Function) (at : slice_get s k ≡ Some f) (old : List Kept) (was : IsHeldFrom q s old (k + 1)) where
    listed : Contains s f
    listed = (k, slice_get_within s k f at, get_or_from_slice_get s k f f at)

    -- a window of which nothing is noted doesn't hold, nor does one that isn't open
    not_open : (c : WindowKind) → is_open f c ≡ false → stands q s (window_part c f) ≡ false
    not_open c closed = false_from_ne_true (stands q s (window_part c f)) (λ is. both_ways (is_open f c) closed ((stands_by_itself q s nested).only (window_part c f) listed is))

    no_stand : (c : WindowKind) → stands q s (window_part c f) ≡ false → IsWindowHolding q s old f c false
    no_stand c off = sym (ap (λ b. b && has_places q s (told_in q s old) f c) off)

    pub closed_holds : (c : WindowKind) → is_open f c ≡ false → IsWindowHolding q s old f c false
    closed_holds c closed = no_stand c (not_open c closed)

    pub other_holds : (c : WindowKind) → is_bridge f ≡ false → IsWindowHolding q s old f c false
    other_holds c other = closed_holds c (false_from_ne_true (is_open f c) (λ opens. both_ways (is_bridge f) other (open_bridge f c opens)))

    pub noted_stands : (c : WindowKind) → is_bridge f ≡ true → kept_of (get_or old k nothing_kept) (Window c) ≡ stands q s (window_part c f)
    noted_stands c bridge = was.rest k f (Window c) (omega arith) at bridge

    pub unnoted_holds : (c : WindowKind) → kept_of (get_or old k nothing_kept) (Window c) ≡ false → IsWindowHolding q s old f c false
    unnoted_holds c off = elim (cases_Bool (is_bridge f)) [
      | inl bridge ↦ no_stand c (sym (noted_stands c bridge) ∙ off)
      | inr other ↦ other_holds c other
    ]

    pub noted_holds : (c : WindowKind) (room : Bool) → is_bridge f ≡ true → kept_of (get_or old k nothing_kept) (Window c) ≡ true → room ≡ has_places q s (told_in q s old) f c → IsWindowHolding q s old f c room
    noted_holds c room bridge on is = is ∙ sym (ap (λ b. b && has_places q s (told_in q s old) f c) (sym (noted_stands c bridge) ∙ on))

    -- no window of another function than a bridge is there
    pub held_same : is_bridge f ≡ false → IsHeldFrom q s old k
    held_same other = record {
      count = was.count;
      opens = was.opens;
      told = λ j g p from at_j there. elim (cases_eq j k) [
        | inl same ↦
            let both : Some g ≡ Some f = sym at_j ∙ ap (slice_get s) same ∙ at in
            let one : g ≡ f = cc in
            was.rest j g p (omega (arith, same)) at_j there ∙ alone p (ap (λ (x : Function). has_part x p) (sym one) ∙ there) g one
        | inr differ ↦ was.told j g p (omega (arith, from, differ)) at_j there
      ];
      rest = λ j g p less at_j there. was.rest j g p (omega (arith, less)) at_j there;
    }
      where
        alone : (p : Part) → has_part f p ≡ true → (g : Function) → g ≡ f
            → stands q s record { function = g; part = p } ≡ (stands q s record { function = g; part = p } && has_room q s (told_in q s old) g p)
        alone (Bar n) there g one = sym (and_true (stands q s record { function = g; part = Bar n }))
        alone Rom there g one = sym (and_true (stands q s record { function = g; part = Rom }))
        alone (Window c) there g one = absurd (both_ways (is_bridge f) other there)

    module _ (entry : Kept) (io memory prefetch : Bool) (with : IsWithWindows entry (get_or old k nothing_kept) io memory prefetch)
        (io_holds : IsWindowHolding q s old f IoWindow io) (memory_holds : IsWindowHolding q s old f MemoryWindow memory) (prefetch_holds : IsWindowHolding q s old f PrefetchWindow prefetch) where
      abbrev new : List Kept
      new = set old k entry

      within : k < length old
      within = let low = slice_get_within s k f at in let size = was.count in omega (arith, low, size)

      here : get_or new k nothing_kept ≡ entry
      here = get_or-set_same old k entry nothing_kept within

      elsewhere : (j : ℕ) → j ≢ k → get_or new j nothing_kept ≡ get_or old j nothing_kept
      elsewhere j differ = get_or-set_other old k j entry nothing_kept differ

      -- of another function both tables tell the same
      other_same : (t : FunctionPart) → Contains s t.function → (t.function ≡ f → ⊥) → told_in q s new t ≡ told_in q s old t
      other_same t in_t differ =
          let there = at_place s t.function in_t in
          let m = in_t.0 in
          let apart : m ≢ k = λ same. differ (let both : Some t.function ≡ Some f = sym there ∙ ap (slice_get s) same ∙ at in let one : t.function ≡ f = cc in one) in
          same_by (has_part t.function t.part) (stands_in s new t) (stands_in s old t) (stands q s t)
          (table_at s system new m t.function t.part there ∙ ap (λ x. kept_of x t.part) (elsewhere m apart) ∙ sym (table_at s system old m t.function t.part there))

      higher_same : (j : ℕ) (g : Function) (p : Part) → k ≤ j → slice_get s j ≡ Some g
          → (stands q s record { function = g; part = p } && has_room q s (told_in q s old) g p) ≡ (stands q s record { function = g; part = p } && has_room q s (told_in q s new) g p)
      higher_same j g p from at_j =
          both_same q s system nested (told_in q s old) (told_in q s new) record { function = g; part = p } (j, slice_get_within s j g at_j, get_or_from_slice_get s j g g at_j)
          (λ t in_t up. sym (other_same t in_t (λ same.
          let order = no_higher k j f g at at_j from in
          let bus : t.function.slot.bus ≡ f.slot.bus = ap (λ (x : Function). x.slot.bus) same in
          (let no : ⊥ = omega (arith, order, bus, up) in no))))

      window_told : (c : WindowKind) → kept_of entry (Window c) ≡ (stands q s (window_part c f) && has_places q s (told_in q s old) f c)
      window_told IoWindow = with.io_is ∙ io_holds
      window_told MemoryWindow = with.memory_is ∙ memory_holds
      window_told PrefetchWindow = with.prefetch_is ∙ prefetch_holds

      own_told : (p : Part) → has_part f p ≡ true → kept_of entry p ≡ (stands q s record { function = f; part = p } && has_room q s (told_in q s old) f p)
      own_told (Bar n) there = with.bars n ∙ was.rest k f (Bar n) (omega arith) at there ∙ sym (and_true (stands q s record { function = f; part = Bar n }))
      own_told Rom there = with.rom ∙ was.rest k f Rom (omega arith) at there ∙ sym (and_true (stands q s record { function = f; part = Rom }))
      own_told (Window c) there = window_told c

      pub held_more : IsHeldFrom q s new k
      held_more = record {
        count = length-set old k entry ∙ was.count;
        opens = opens;
        told = λ j g p from at_j there. elim (cases_eq j k) [
          | inl same ↦
              let both : Some f ≡ Some g = sym at ∙ ap (slice_get s) (sym same) ∙ at_j in
              let one : f ≡ g = cc in
              ap (λ n. kept_of (get_or new n nothing_kept) p) same ∙ ap (λ x. kept_of x p) here
              ∙ subst (λ (x : Function). kept_of entry p ≡ (stands q s record { function = x; part = p } && has_room q s (told_in q s old) x p)) one
              (own_told p (ap (λ (x : Function). has_part x p) one ∙ there))
              ∙ higher_same j g p from at_j
          | inr differ ↦
              ap (λ x. kept_of x p) (elsewhere j differ) ∙ was.told j g p (omega (arith, from, differ)) at_j there ∙ higher_same j g p from at_j
        ];
        rest = λ j g p less at_j there. ap (λ x. kept_of x p) (elsewhere j (λ same. let no : ⊥ = omega (arith, less, same) in no)) ∙ was.rest j g p (omega (arith, less)) at_j there;
      }
        where
          opens : AreOpen s new
          opens c b in_b is =
              let there = at_place s b in_b in
              let m = in_b.0 in
              elim (cases_eq m k) [
                | inl same ↦
                    let both : Some f ≡ Some b = sym at ∙ ap (slice_get s) (sym same) ∙ there in
                    let one : f ≡ b = cc in
                    let flag : kept_of entry (Window c) ≡ true =
                    sym (table_at s system new m b (Window c) there ∙ ap (λ n. kept_of (get_or new n nothing_kept) (Window c)) same ∙ ap (λ x. kept_of x (Window c)) here) ∙ is in
                    let stands_it : stands q s (window_part c f) ≡ true = (and_parts (stands q s (window_part c f)) (has_places q s (told_in q s old) f c) (sym (window_told c) ∙ flag)).0 in
                    subst (λ x. is_open x c ≡ true) one ((stands_by_itself q s nested).only (window_part c f) listed stands_it)
                | inr differ ↦
                    was.opens c b in_b
                    (table_at s system old m b (Window c) there ∙ ap (λ x. kept_of x (Window c)) (sym (elsewhere m differ)) ∙ sym (table_at s system new m b (Window c) there) ∙ is)
              ]

  -- ---- all functions

  module _ (table : List Kept) (held : IsHeldFrom q s table 0) where
    by_part : (f : Function) (p : Part) → Contains s f
        → told_in q s table record { function = f; part = p } ≡ (stands q s record { function = f; part = p } && has_room q s (told_in q s table) f p)
    by_part f p in_f = elim (cases_Bool (has_part f p)) [
      | inl there ↦
          let at = at_place s f in_f in
          told_at table in_f.0 f p at there ∙ held.told in_f.0 f p (omega arith) at there
      | inr none ↦
          ap (λ b. cond b (stands_in s table record { function = f; part = p }) (stands q s record { function = f; part = p })) none ∙ alone p none
    ]
      where
        alone : (p : Part) → has_part f p ≡ false → stands q s record { function = f; part = p } ≡ (stands q s record { function = f; part = p } && has_room q s (told_in q s table) f p)
        alone (Bar n) none = sym (and_true (stands q s record { function = f; part = Bar n }))
        alone Rom none = sym (and_true (stands q s record { function = f; part = Rom }))
        alone (Window c) none =
            let off : stands q s record { function = f; part = Window c } ≡ false = false_from_ne_true (stands q s record { function = f; part = Window c })
            (λ is. both_ways (is_bridge f) none (open_bridge f c ((stands_by_itself q s nested).only (window_part c f) in_f is))) in
            off ∙ sym (ap (λ b. b && has_room q s (told_in q s table) f (Window c)) off)

    pub all_hold : AreHolding q s table
    all_hold = record {
      count = held.count;
      opens = held.opens;
      each = λ k f p at there.
          sym (told_at table k f p at there)
          ∙ holds_alone q s system nested (told_in q s table) (λ r listed. by_part r.function r.part listed) record { function = f; part = p } (k, slice_get_within s k f at, get_or_from_slice_get s k f f at);
    }
