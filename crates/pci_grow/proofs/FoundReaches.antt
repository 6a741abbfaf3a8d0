-- Reaches are told as rows rise: the window over a window stands in a lower row.
use Rattle.std.proofs.Common.{◌≡◌, ◌⊎◌, ℕ, ◌+◌, ◌<◌, ◌≤◌, inl, inr, List, length, get_or, false, cond, arith, ap, sym, subst, ◌∙◌, refl, Option, Some}
use Rattle.std.specs.Option.{option_map}
use Rattle.std.specs.List.{Contains, slice_get}
use Rattle.std.proofs.lemmas.Bool.{cases_Bool, cases_eq, cases_lt, false_from_ne_true}
use Rattle.std.proofs.lemmas.List.{get_or_default}
use Rattle.std.proofs.lemmas.Option.{slice_get_within, slice_get-get_or, get_or_from_slice_get}
use Rattle.pci_spec.specs.Window.{WindowKind}
use Rattle.pci_spec.specs.System.{System, Function, Space, Io, Memory, Window}
use Rattle.pci_spec.specs.Bus.{is_root, LeadsTo}
use Rattle.plan_spec.proofs.Planning.Safe.{order_of}
use Rattle.settle_spec.specs.Lists.{Request}
use Rattle.settle_spec.specs.Parts.{FunctionPart}
use Rattle.settle_spec.specs.Stands.{window_part}
use Rattle.settle_spec.specs.Reach.{reach}
use Rattle.settle_spec.proofs.Nested.{at_secondary, is_no_root}
use Rattle.settle_laws.specs.Order.{level}
use Rattle.settle_laws.specs.Reach.{IsStandingWindow}
use Rattle.settle_laws.proofs.Standing.{window_listed, stands_by_itself}
use Rattle.settle_laws.proofs.Reach.{above}
use Rattle.pci_base.specs.declared.range.Range.{Range as CodeRange}
use Rattle.pci_base.specs.declared.window_kind.WindowKind.{WindowKind as CodeKind}
use Rattle.pci_base.specs.declared.window_kind.WindowKind.TheVariants as kinds
use Rattle.pci_base.specs.declared.window_kind.ByKind.{ByKind}
use Rattle.pci_base.specs.WindowKinds.{kind_value}
use Rattle.pci_base.specs.Ranges.{decoded_range_of}
use Rattle.pci_base.specs.Space.{space_of}
use Rattle.pci_function.specs.declared.record.Record.{Record}
use Rattle.pci_place.specs.Items.{no_function, function_in}
use Rattle.pci_first_fit.specs.declared.kept.Part.{Part as CodePart}
use Rattle.pci_first_fit.specs.declared.kept.Part.TheVariants as parts
use Rattle.pci_first_fit.specs.Kept.{spec_part}
use Rattle.pci_kept.specs.declared.region.Region.{Region}
use Rattle.pci_kept.specs.Known.{Known, region_value}
use Rattle.pci_kept.specs.Boards.{IsKnown}
use Rattle.pci_kept.proofs.Indexes.{part_cases, index_at}
use Rattle.pci_grow.specs.RoomRows.{row_number}
use Rattle.pci_first_fit.specs.Tables.{told, TellsSame}
use Rattle.pci_grow.specs.Reaches.{AreToldOver, ListsAndLines, StandsInRows, AreFirstReaches, TellsSameOutside, AreWindowReaches}
use Rattle.pci_grow.proofs.StandingRows.{no_region, IsInRows, in_rows, rows_rise}
use Rattle.pci_grow.proofs.Reached.{row_is, standing}

abbrev Table : Type 0
Table = List (ByKind (Option CodeRange))

-- ---- kinds and parts

same_window : (a b : CodeKind) → Window (kind_value a) ≡ Window (kind_value b) → a ≡ b
same_window kinds.Io kinds.Io e = refl
same_window kinds.Io kinds.Memory e = cc
same_window kinds.Io kinds.Prefetchable e = cc
same_window kinds.Memory kinds.Io e = cc
same_window kinds.Memory kinds.Memory e = refl
same_window kinds.Memory kinds.Prefetchable e = cc
same_window kinds.Prefetchable kinds.Io e = cc
same_window kinds.Prefetchable kinds.Memory e = cc
same_window kinds.Prefetchable kinds.Prefetchable e = refl

kind_cases : (a b : CodeKind) → (a ≡ b) ⊎ (a ≡ b → ⊥)
kind_cases a b = elim (part_cases (Window (kind_value a)) (Window (kind_value b))) [
  | inl same ↦ inl (same_window a b same)
  | inr differ ↦ inr (λ one. differ (ap (λ (k : CodeKind). Window (kind_value k)) one))
]

window_of_part : (p : CodePart) (class : CodeKind) → spec_part p ≡ Window (kind_value class) → p ≡ parts.Window class
window_of_part (parts.Bar n) class e = cc
window_of_part parts.Rom class e = cc
window_of_part (parts.Window kind) class e = ap parts.Window (same_window kind class e)

-- a row of a lower bus is lower
row_below : (a b : ℕ) (x y : Space) → a < b → row_number a x < row_number b y
row_below a b Io Io less = omega (arith, less)
row_below a b Io Memory less = omega (arith, less)
row_below a b Memory Io less = omega (arith, less)
row_below a b Memory Memory less = omega (arith, less)

-- the part there, whatever an index past the end is read as
pub part_for : (rows : List Region) (index : ℕ) (d e : Region) (part : CodePart) → index < length rows → (get_or rows index e).part ≡ part → (get_or rows index d).part ≡ part
part_for rows index d e part within is = ap (λ (x : Region). x.part) (get_or_default rows index d e within) ∙ is

-- ---- windows outside the rows

module _ (rows : List Region) (start : Table) where
  pub none_outside : TellsSameOutside rows 0 start start
  none_outside k class off = refl

  pub all_outside : (count : ℕ) (table : Table) → TellsSameOutside rows count start table → TellsSameOutside rows (length rows) start table
  all_outside count table same k class off = same k class (λ i d low inside. off i d inside inside)

  pub more_outside : (index : ℕ) (old new : Table) → index < length rows → TellsSameOutside rows index start old
      → ((k : ℕ) (class : CodeKind) → ((d : Region) → (get_or rows index d).function ≡ k → (get_or rows index d).part ≡ parts.Window class → ⊥) → told new k class ≡ told old k class)
      → TellsSameOutside rows (index + 1) start new
  more_outside index old new within same step k class off =
      step k class (λ d. off index d (omega arith) within) ∙ same k class (λ i d low. off i d (omega (arith, low)))

module _ (q : Request) (s : System) (records : List Record) (given : ListsAndLines) (rows : List Region) (is : StandsInRows q s records given rows) where
  abbrev InRows : FunctionPart → Type 0
  InRows r = IsInRows q s is.board.system is.board.nested rows is.has r

  -- a window that stands is in the rows
  place_of : (class : CodeKind) (f : Function) → IsStandingWindow q s (kind_value class) f → InRows (window_part (kind_value class) f)
  place_of class f stand = in_rows q s is.board.system is.board.nested rows is.has (window_part (kind_value class) f) stand.part stand.stands

  -- what is told of the first parts is told of a window among them
  told_at : (count : ℕ) (table : Table) → AreFirstReaches q s rows count table → (k : ℕ) (f : Function) (class : CodeKind) → slice_get s k ≡ Some f
      → (place : InRows (window_part (kind_value class) f)) → place.at < count → option_map decoded_range_of (told table k class) ≡ Some (reach q s (kind_value class) f)
  told_at count table first k f class at place low = by (get_or rows place.at no_region) (place.is no_region) (row_is q s records given rows is place.at no_region place.within).known (first place.at no_region class low place.within)
    where
      by : (x : Region) → region_value s x ≡ window_part (kind_value class) f → IsKnown q s x
          → (x.part ≡ parts.Window class → option_map decoded_range_of (told table x.function class) ≡ Some (reach q s (kind_value class) (function_in s x.function)))
          → option_map decoded_range_of (told table k class) ≡ Some (reach q s (kind_value class) f)
      by x value known first =
          let own : function_in s x.function ≡ f = ap (λ (r : FunctionPart). r.function) value in
          let at_x : slice_get s x.function ≡ Some f = slice_get-get_or s x.function no_function known.within ∙ ap Some own in
          let same : x.function ≡ k = sym (index_at s is.board.system x.function f at_x) ∙ index_at s is.board.system k f at in
          ap (λ n. option_map decoded_range_of (told table n class)) (sym same)
          ∙ first (window_of_part x.part class (ap (λ (r : FunctionPart). r.part) value))
          ∙ ap (λ g. Some (reach q s (kind_value class) g)) own

  pub none_told : (table : Table) → AreFirstReaches q s rows 0 table
  none_told table k d class low = absurd (let no : ⊥ = omega (arith, low) in no)

  -- all windows that stand are told in the end
  pub all_told : (count : ℕ) (table : Table) → length rows ≤ count → AreFirstReaches q s rows count table → AreWindowReaches q s table
  all_told count table end first k f class at bridge stand =
      let listed : Contains s f = (k, slice_get_within s k f at, get_or_from_slice_get s k f f at) in
      let part = window_listed q s (kind_value class) f listed ((stands_by_itself q s is.board.nested).only (window_part (kind_value class) f) listed stand) in
      let place = place_of class f (record { part = part; stands = stand }) in
      told_at count table first k f class at place (let within = place.within in omega (arith, within, end))

  module _ (index : ℕ) (within : index < length rows) (old : Table) (first : AreFirstReaches q s rows index old) where
    -- ---- the window over a window is told

    module _ (class : CodeKind) (d : Region) (part_is : (get_or rows index d).part ≡ parts.Window class) where
      abbrev region : Region
      region = get_or rows index d

      abbrev own : Function
      own = function_in s region.function

      abbrev c : WindowKind
      c = kind_value class

      known : IsKnown q s region
      known = (row_is q s records given rows is index d within).known

      bus_same : region.bus ≡ own.slot.bus
      bus_same = ap (λ (k : Known). k.bus) known.all

      level_same : region.level ≡ level q own.slot.bus
      level_same = ap (λ (k : Known). k.level) known.all

      lower : (f : Function) → LeadsTo s f own.slot.bus → is_root q.roots own.slot.bus ≡ false → level q f.slot.bus < level q own.slot.bus
      lower f leads off =
          let up = order_of q.roots s is.board.nested f leads.0 leads.1 in
          let to = leads.2 in
          let high : level q own.slot.bus ≡ own.slot.bus + 1 = ap (λ b. cond b 0 (own.slot.bus + 1)) off in
          elim (cases_Bool (is_root q.roots f.slot.bus)) [
            | inl root ↦ (let low : level q f.slot.bus ≡ 0 = ap (λ b. cond b 0 (f.slot.bus + 1)) root in omega (arith, low, high))
            | inr none ↦ (let low : level q f.slot.bus ≡ f.slot.bus + 1 = ap (λ b. cond b 0 (f.slot.bus + 1)) none in omega (arith, low, high, up, to))
          ]

      pub told_over : AreToldOver s c region.bus (reach q s c) old
      told_over k f other at bridge to kind =
          subst (λ x. option_map decoded_range_of (told old k other) ≡ Some (reach q s x f)) kind
          (told_at index old first k f other at place place_before)
        where
          listed : Contains s f
          listed = (k, slice_get_within s k f at, get_or_from_slice_get s k f f at)

          leads : LeadsTo s f own.slot.bus
          leads = (listed, bridge, to ∙ bus_same)

          off : is_root q.roots own.slot.bus ≡ false
          off = false_from_ne_true (is_root q.roots own.slot.bus)
              (is_no_root q.roots s is.board.system is.board.nested f own.slot.bus listed bridge (at_secondary q.roots s is.board.system is.board.nested f own.slot.bus listed bridge leads.2))

          over_stands : IsStandingWindow q s c f
          over_stands = (above q s c is.board.nested is.board.system own f (standing q s records given rows is index d within class part_is) off leads).stands

          place : InRows (window_part (kind_value other) f)
          place = place_of other f (subst (λ x. IsStandingWindow q s x f) (sym kind) over_stands)

          place_before : place.at < index
          place_before = elim (cases_lt place.at index) [
            | inl less ↦ less
            | inr more ↦
                let x = get_or rows place.at d in
                let up = rows_rise q s is.board.system is.board.nested rows is.has index place.at d more place.within in
                let there : x.level ≡ level q f.slot.bus = ap (λ (k : Known). k.level) (row_is q s records given rows is place.at d place.within).known.all ∙ ap (λ (r : FunctionPart). level q r.function.slot.bus) (place.is d) in
                let below = lower f leads off in
                let here = level_same in
                let less = row_below x.level region.level (space_of x.space) (space_of region.space) (omega (arith, there, here, below)) in
                absurd (let no : ⊥ = omega (arith, up, less) in no)
          ]

    -- ---- one window more

    module _ (new : Table) (class : CodeKind) (r : CodeRange) (part_is : (get_or rows index no_region).part ≡ parts.Window class) where
      abbrev function : ℕ
      function = (get_or rows index no_region).function

      module _ (reach_is : decoded_range_of r ≡ reach q s (kind_value class) (function_in s function)) (put : told new function class ≡ Some r) (others : TellsSame old new function class) where
        -- what is told of the window
        here_told : (n : ℕ) (other : CodeKind) → n ≡ function → other ≡ class → option_map decoded_range_of (told new n other) ≡ Some (reach q s (kind_value other) (function_in s n))
        here_told n other one same =
            subst (λ m. option_map decoded_range_of (told new m other) ≡ Some (reach q s (kind_value other) (function_in s m))) (sym one)
            (subst (λ k. option_map decoded_range_of (told new function k) ≡ Some (reach q s (kind_value k) (function_in s function))) (sym same)
            (ap (option_map decoded_range_of) put ∙ ap Some reach_is))

        pub window_told : AreFirstReaches q s rows (index + 1) new
        window_told k d other low inside is_other = elim (cases_eq k index) [
          | inl here ↦
              here_told (get_or rows k d).function other (ap (λ n. (get_or rows n d).function) here ∙ ap (λ (x : Region). x.function) (get_or_default rows index d no_region within))
              (same_window other class (ap spec_part (sym is_other ∙ ap (λ n. (get_or rows n d).part) here ∙ part_for rows index d no_region (parts.Window class) within part_is)))
          | inr differ ↦ elim (cases_eq (get_or rows k d).function function) [
            | inl one ↦ elim (kind_cases other class) [
              | inl same ↦ here_told (get_or rows k d).function other one same
              | inr unlike ↦ kept (omega (arith, low, differ)) (λ e same. unlike same)
            ]
            | inr apart ↦ kept (omega (arith, low, differ)) (λ e same. apart e)
          ]
        ]
          where
            kept : k < index → ((get_or rows k d).function ≡ function → other ≡ class → ⊥)
                → option_map decoded_range_of (told new (get_or rows k d).function other) ≡ Some (reach q s (kind_value other) (function_in s (get_or rows k d).function))
            kept below unlike = ap (option_map decoded_range_of) (others (get_or rows k d).function other unlike) ∙ first k d other below inside is_other
