-- Rows of lines tell which parts a line keeps off.
use Rattle.std.proofs.Common.{◌≡◌, ℕ, ◌<◌, inl, inr, List, [], map, length, get_or, Bool, true, false, cond, ◌&&◌, ◌||◌, not, arith, sym, ◌∙◌, ap, subst, refl}
use Rattle.std.specs.Bool.{◌==◌}
use Rattle.std.specs.List.{Contains, list_any}
use Rattle.std.proofs.lemmas.Bool.{cases_Bool, and_parts, and_from, both_ways, eqb-true, eq-eqb, false_from_ne_true}
use Rattle.std.proofs.lemmas.Option.{slice_get-get_or, get_or_from_slice_get}
use Rattle.pci_spec.specs.Slot.{Slot, IsSlot, same_slot, slot_number}
use Rattle.pci_spec.specs.Decoded.{HasRecords}
use Rattle.pci_spec.specs.Decoded as decoded
use Rattle.pci_spec.specs.System.{System, Function, Space, Io, Memory}
use Rattle.pci_spec.specs.Bus.{are_siblings}
use Rattle.pci_spec.proofs.BusRanges.{any_gives, any_from}
use Rattle.pci_spec.proofs.Members.{in_nil}
use Rattle.judge_spec.specs.Told.{ToldRange, IsTold}
use Rattle.judge_spec.specs.ToldRegion.{ToldRegion, told_regions}
use Rattle.settle_spec.specs.FirstPlace.{ranges_are_apart}
use Rattle.settle_spec.specs.Lists.{Request}
use Rattle.settle_spec.specs.Parts.{FunctionPart, addresses, are_same_space}
use Rattle.settle_spec.specs.Lines.{line_bus, line_range, is_held_line, is_line_of, can_keep_off, keeps_off, keeps_off_part}
use Rattle.settle_spec.specs.Stands.{part_space, is_line_on, leads_to_one_on, precedes_off, is_kept_off}
use Rattle.settle_laws.specs.Order.{level}
use Rattle.settle_laws.proofs.Standing.{one_level}
use Rattle.pci_base.specs.Ranges.{decoded_range_of}
use Rattle.pci_base.specs.Space as code
use Rattle.pci_base.specs.declared.range.Range.{Range}
use Rattle.pci_function.specs.Values.{record_value}
use Rattle.pci_function.specs.declared.record.Record.{Record}
use Rattle.pci_place.specs.Items.{function_in, no_function}
use Rattle.pci_place.proofs.Records.{FunctionAt, function_at}
use Rattle.pci_kept.specs.declared.region.Region.{Region}
use Rattle.pci_kept.specs.declared.rows.Row.{Row}
use Rattle.pci_kept.specs.Known.{Known, region_value}
use Rattle.pci_kept.specs.Boards.{IsKnownPart}
use Rattle.pci_kept.specs.Rows.{row_keeps_others_off, rows_keep_off}
use Rattle.pci_kept.specs.LineRows.{row_key, nobody, IsRowOf, AreRowsOfKeptLines}
use Rattle.pci_kept.proofs.Indexes.{one_number}
use Rattle.pci_kept.proofs.Passing.{levels_one, one_space, spaces_one}
use Rattle.pci_kept.proofs.ToldIndexes.{told_at}

-- ---- tests that are one

pub same_bool : (b c : Bool) → (b ≡ true → c ≡ true) → (c ≡ true → b ≡ true) → b ≡ c
same_bool true c to back = sym (to refl)
same_bool false true to back = absurd (both_ways false refl (back refl))
same_bool false false to back = refl

pub same_any : {X : Type 0} (p r : X → Bool) (xs : List X) → ((x : X) → Contains xs x → p x ≡ r x) → list_any p xs ≡ list_any r xs
same_any p r xs same =
    same_bool (list_any p xs) (list_any r xs)
    (λ is. let of = any_gives p xs is in any_from r xs of.0 of.1 (sym (same of.0 of.1) ∙ of.2))
    (λ is. let of = any_gives r xs is in any_from p xs of.0 of.1 (same of.0 of.1 ∙ of.2))

-- ---- numbers of buses and spaces, and of slots

pub one_key : (a b : ℕ) (x y : Space) → row_key a x ≡ row_key b y → (a ≡ b) × (x ≡ y)
one_key a b Io Io e = (omega (arith, e), refl)
one_key a b Io Memory e = absurd (let no : ⊥ = omega (arith, e) in no)
one_key a b Memory Io e = absurd (let no : ⊥ = omega (arith, e) in no)
one_key a b Memory Memory e = (omega (arith, e), refl)

numbered : (a b : Slot) → IsSlot a → IsSlot b → slot_number a ≡ slot_number b → same_slot a b ≡ true
numbered a b is_a is_b e =
    let a1 = is_a.1 in let a2 = is_a.2 in let b1 = is_b.1 in let b2 = is_b.2 in
    and_from (a.bus == b.bus && a.device == b.device) (a.function == b.function)
    (and_from (a.bus == b.bus) (a.device == b.device) (eq-eqb a.bus b.bus (omega (arith, e, a1, a2, b1, b2))) (eq-eqb a.device b.device (omega (arith, e, a1, a2, b1, b2))))
    (eq-eqb a.function b.function (omega (arith, e, a1, a2, b1, b2)))

is_somebody : (a : Slot) → IsSlot a → nobody ≡ slot_number a → ⊥
is_somebody a is e = (let a0 = is.0 in let a1 = is.1 in let a2 = is.2 in let no : ⊥ = omega (arith, e, a0, a1, a2) in no)

module _ (q : Request) (told : IsTold q.told.ranges) where
  pub told_slot : (x : ToldRegion) → Contains (told_regions q.told) x → IsSlot x.told.slot
  told_slot x has =
      let at = told_at 256 q.told.ranges x has in
      subst (λ (t : ToldRange). IsSlot t.slot) at.is (told.each at.k x.told at.within).line.slot

  module _ (slot : Slot) (is_slot : IsSlot slot) (space : Space) (range : Range) where
    abbrev key : ℕ
    key = row_key (level q slot.bus) space

    abbrev apart : ToldRegion → Bool
    apart x = ranges_are_apart (line_range x) (decoded_range_of range)

    key_is : (x : ToldRegion) (r : Row) → IsRowOf q x r → (r.key == key) ≡ is_line_of q space slot.bus x
    key_is x r is = same_bool (r.key == key) (is_line_of q space slot.bus x)
        (λ same.
        let one = one_key (level q slot.bus) (level q (line_bus x)) space x.told.space (sym (eqb-true r.key key same) ∙ is.key) in
        and_from (are_siblings q.roots slot.bus (line_bus x)) (are_same_space space x.told.space) (levels_one q slot.bus (line_bus x) one.0) (spaces_one space x.told.space one.1))
        (λ of.
        let both = and_parts (are_siblings q.roots slot.bus (line_bus x)) (are_same_space space x.told.space) of in
        eq-eqb r.key key (is.key ∙ ap (λ n. row_key n x.told.space) (sym (level_of slot.bus (line_bus x) both.0)) ∙ ap (row_key (level q slot.bus)) (sym (one_space space x.told.space both.1))))
      where
        level_of : (bus other : ℕ) → are_siblings q.roots bus other ≡ true → level q bus ≡ level q other
        level_of bus other beside = one_level q [] bus other beside

    owner_is : (x : ToldRegion) → Contains (told_regions q.told) x → (r : Row) → IsRowOf q x r → (r.owner == slot_number slot) ≡ (is_held_line x && same_slot x.told.slot slot)
    owner_is x has r is = elim (cases_Bool (is_held_line x)) [
      | inl held ↦
          let own : r.owner ≡ slot_number x.told.slot = is.owner ∙ ap (λ b. cond b (slot_number x.told.slot) nobody) held in
          same_bool (r.owner == slot_number slot) (is_held_line x && same_slot x.told.slot slot)
          (λ same. and_from (is_held_line x) (same_slot x.told.slot slot) held (numbered x.told.slot slot (told_slot x has) is_slot (sym own ∙ eqb-true r.owner (slot_number slot) same)))
          (λ both. eq-eqb r.owner (slot_number slot) (own ∙ one_number x.told.slot slot (and_parts (is_held_line x) (same_slot x.told.slot slot) both).1))
      | inr free ↦
          let own : r.owner ≡ nobody = is.owner ∙ ap (λ b. cond b (slot_number x.told.slot) nobody) free in
          false_from_ne_true (r.owner == slot_number slot) (λ same. is_somebody slot is_slot (sym own ∙ eqb-true r.owner (slot_number slot) same))
          ∙ sym (ap (λ b. b && same_slot x.told.slot slot) free)
    ]

    row_keeps : (x : ToldRegion) → Contains (told_regions q.told) x → (r : Row) → IsRowOf q x r → row_keeps_others_off key (slot_number slot) range r ≡ keeps_off q x slot space (decoded_range_of range)
    row_keeps x has r is =
        ap (λ b. b && not (r.owner == slot_number slot) && not (ranges_are_apart (decoded_range_of r.range) (decoded_range_of range))) (key_is x r is)
        ∙ ap (λ b. is_line_of q space slot.bus x && not b && not (ranges_are_apart (decoded_range_of r.range) (decoded_range_of range))) (owner_is x has r is)
        ∙ ap (λ y. can_keep_off q x slot space && not (ranges_are_apart y (decoded_range_of range))) is.range

    pub rows_keep : (kept : ToldRegion → Bool) (rows : List Row) → AreRowsOfKeptLines q kept rows
        → rows_keep_off rows key (slot_number slot) range ≡ list_any (λ x. kept x && keeps_off q x slot space (decoded_range_of range)) (told_regions q.told)
    rows_keep kept rows are = same_bool (rows_keep_off rows key (slot_number slot) range) (list_any (λ x. kept x && keeps_off q x slot space (decoded_range_of range)) (told_regions q.told))
        (λ is.
        let of = any_gives (row_keeps_others_off key (slot_number slot) range) rows is in
        let line = are.each of.0 of.1 in
        any_from (λ x. kept x && keeps_off q x slot space (decoded_range_of range)) (told_regions q.told) line.0 line.1
        (and_from (kept line.0) (keeps_off q line.0 slot space (decoded_range_of range)) line.2 (sym (row_keeps line.0 line.1 of.0 line.3) ∙ of.2)))
        (λ is.
        let of = any_gives (λ x. kept x && keeps_off q x slot space (decoded_range_of range)) (told_regions q.told) is in
        let both = and_parts (kept of.0) (keeps_off q of.0 slot space (decoded_range_of range)) of.2 in
        let row = are.all of.0 of.1 both.0 in
        any_from (row_keeps_others_off key (slot_number slot) range) rows row.0 row.1 (row_keeps of.0 of.1 row.0 row.2 ∙ both.1))

-- ---- parts

module _ (q : Request) (s : System) (told : IsTold q.told.ranges) (r : Region) (is : IsKnownPart q s r) (slot : Slot) (is_slot : IsSlot slot) (slot_is : (region_value s r).function.slot ≡ slot) where
  abbrev v : FunctionPart
  v = region_value s r

  before_off : (r.leads || r.fixed || r.on) ≡ precedes_off q s v
  before_off = ap (λ b. b || r.fixed || r.on) is.leads.leads ∙ ap (λ (k : Known). leads_to_one_on q s v || k.fixed || k.on) is.is.all

  abbrev row_there : ℕ
  row_there = row_key r.level (code.space_of r.space)

  -- rows of lines that a test keeps
  pub kept_by : (kept : ToldRegion → Bool) (rows : List Row) → AreRowsOfKeptLines q kept rows → rows_keep_off rows row_there (slot_number slot) r.range ≡ list_any (λ x. kept x && keeps_off_part q x v) (told_regions q.told)
  kept_by kept rows are =
      let level_is : r.level ≡ level q slot.bus = ap (λ (k : Known). k.level) is.is.all ∙ ap (λ (x : Slot). level q x.bus) slot_is in
      let space_is : code.space_of r.space ≡ part_space v = ap (λ (k : Known). k.space) is.is.all in
      let range_is : decoded_range_of r.range ≡ addresses v = ap (λ (k : Known). k.range) is.is.all in
      ap (λ n. rows_keep_off rows (row_key n (code.space_of r.space)) (slot_number slot) r.range) level_is
      ∙ rows_keep q told slot is_slot (code.space_of r.space) r.range kept rows are
      ∙ ap (λ z. list_any (λ x. kept x && keeps_off q x slot z (decoded_range_of r.range)) (told_regions q.told)) space_is
      ∙ ap (λ y. list_any (λ x. kept x && keeps_off q x slot (part_space v) y) (told_regions q.told)) range_is
      ∙ ap (λ y. list_any (λ x. kept x && keeps_off q x y (part_space v) (addresses v)) (told_regions q.told)) (sym slot_is)

  off_by : (b : Bool) → precedes_off q s v ≡ b → is_kept_off q s v ≡ list_any (λ x. keeps_off_part q x v && (is_line_on q s x || not b)) (told_regions q.told)
  off_by b e = ap (λ c. list_any (λ x. keeps_off_part q x v && (is_line_on q s x || not c)) (told_regions q.told)) e

  either : (a b : Bool) → (a && b) ≡ (b && (a || false))
  either true true = refl
  either true false = refl
  either false true = refl
  either false false = refl

  always : (a b : Bool) → (true && b) ≡ (b && (a || true))
  always true true = refl
  always true false = refl
  always false true = refl
  always false false = refl

  -- one that comes before lines that are off is kept off by those that are on
  pub kept_off_on : (r.leads || r.fixed || r.on) ≡ true → (rows : List Row) → AreRowsOfKeptLines q (is_line_on q s) rows → rows_keep_off rows row_there (slot_number slot) r.range ≡ is_kept_off q s v
  kept_off_on first rows are =
      kept_by (is_line_on q s) rows are
      ∙ same_any (λ x. is_line_on q s x && keeps_off_part q x v) (λ x. keeps_off_part q x v && (is_line_on q s x || false)) (told_regions q.told) (λ x has. either (is_line_on q s x) (keeps_off_part q x v))
      ∙ sym (off_by true (sym before_off ∙ first))

  -- and any other one by all
  pub kept_off_all : (r.leads || r.fixed || r.on) ≡ false → (rows : List Row) → AreRowsOfKeptLines q (λ x. true) rows → rows_keep_off rows row_there (slot_number slot) r.range ≡ is_kept_off q s v
  kept_off_all first rows are =
      kept_by (λ x. true) rows are
      ∙ same_any (λ x. true && keeps_off_part q x v) (λ x. keeps_off_part q x v && (is_line_on q s x || true)) (told_regions q.told) (λ x has. always (is_line_on q s x) (keeps_off_part q x v))
      ∙ sym (off_by false (sym before_off ∙ first))

-- where no line has a row, nothing keeps it off
pub no_row_keeps : (q : Request) (s : System) (v : FunctionPart) (rows : List Row) → AreRowsOfKeptLines q (λ x. true) rows → rows ≡ [] → false ≡ is_kept_off q s v
no_row_keeps q s v rows are none = sym (false_from_ne_true (is_kept_off q s v) (λ is.
    let of = any_gives (λ x. keeps_off_part q x v && (is_line_on q s x || not (precedes_off q s v))) (told_regions q.told) is in
    let row = are.all of.0 of.1 refl in
    in_nil row.0 (subst (λ xs. Contains xs row.0) none row.1)))

-- ---- the slot of a function by its record

pub slot_at : (s : System) (records : List Record) → HasRecords s (map record_value records) → (k : ℕ) (d : Record) → k < length records → (function_in s k).slot ≡ (get_or records k d).slot
slot_at s records has k d within =
    let x = get_or records k d in
    let found : FunctionAt s x k = function_at s records has k x (slice_get-get_or records k d within) in
    ap (λ (f : Function). f.slot) (get_or_from_slice_get s k found.f no_function found.at)
    ∙ sym (ap (λ (r : decoded.Record). r.slot) found.is.value)
