-- What tables tell of the parts of a row, as the definitions have it.
use Rattle.std.proofs.Common.{◌≡◌, ℕ, ◌+◌, ◌*◌, ◌<◌, ◌≤◌, ◌⊎◌, inl, inr, List, [], map, length, get_or, Bool, true, false, cond, ◌&&◌, ◌||◌, arith, refl, ap, sym, subst, ◌∙◌, Option, None, Some}
use Rattle.std.specs.Bool.{◌==◌}
use Rattle.std.specs.List.{Contains, slice_get, flat_map}
use Rattle.std.specs.Option.{option_map, is_some}
use Rattle.std.proofs.lemmas.Bool.{cases_Bool, false≢true, eqb-true, eq-eqb, or_left, or_right, and_from, and_parts}
use Rattle.std.proofs.lemmas.Option.{slice_get-get_or, none-some, same_Some}
use Rattle.std.proofs.lemmas.List.Elements.{All-contains}
use Rattle.pci_spec.specs.Decoded.{Range as DecodedRange}
use Rattle.pci_spec.specs.System.{System, Function, Space, Io, Memory, IsSystem, is_bridge}
use Rattle.pci_spec.specs.Bus.{is_root, secondary, are_siblings, IsNested}
use Rattle.pci_spec.proofs.Members.{IsMade, IsInPiece, in_nil, in_head, in_cons_cases, in_map_to, in_map_from, in_filter_to, in_filter_from, in_flat_map_to, in_flat_map_from}
use Rattle.settle_spec.specs.Lists.{Request}
use Rattle.settle_spec.specs.Parts.{FunctionPart, system_parts, addresses, are_same_space}
use Rattle.settle_spec.specs.Stands.{part_space, are_beside, stands}
use Rattle.settle_spec.specs.Growth.{range_list, there_on}
use Rattle.settle_spec.proofs.Nested.{on_it, is_no_root, at_secondary}
use Rattle.settle_spec.proofs.SameTaken.{HaveSame}
use Rattle.settle_laws.specs.Order.{level}
use Rattle.settle_laws.proofs.There.{IsThereOn, there_on_gives}
use Rattle.pci_base.specs.declared.range.Range.{Range}
use Rattle.pci_base.specs.declared.window_kind.WindowKind.{WindowKind as CodeKind}
use Rattle.pci_base.specs.declared.window_kind.WindowKind.TheVariants as kinds
use Rattle.pci_base.specs.declared.window_kind.ByKind.{ByKind}
use Rattle.pci_base.specs.Ranges.{decoded_range_of}
use Rattle.pci_base.specs.WindowKinds.{kind_value, by_kind}
use Rattle.pci_place.specs.Items.{no_function, function_in}
use Rattle.pci_first_fit.specs.declared.kept.Part.{Part as CodePart}
use Rattle.pci_first_fit.specs.declared.kept.Part.TheVariants as parts
use Rattle.pci_first_fit.specs.Kept.{spec_part}
use Rattle.pci_kept.specs.declared.region.Region.{Region}
use Rattle.pci_kept.specs.Boards.{IsKnown}
use Rattle.pci_kept.specs.Held.{is_region_kept}
use Rattle.pci_kept.specs.Known.{Known, region_value}
use Rattle.pci_kept.specs.Tables.{stands_in}
use Rattle.pci_kept.proofs.Indexes.{index_at, table_at}
use Rattle.pci_grow.specs.Rows.{region_row_number}
use Rattle.pci_grow.specs.RoomRows.{row_number}
use Rattle.pci_first_fit.specs.Tables.{untold}
use Rattle.pci_grow.specs.There.{Tables, grown_window_range, or_own, range_told, listed, in_row, by_class, grown_in, with_own, grown_told, there_told}
use Rattle.pci_grow.specs.Telling.{part_row_number, AreStandingRows}

-- ---- one part

class_is : (b : ByKind (Option Range)) (class : CodeKind) → by_kind b class ≡ by_class b (kind_value class)
class_is b kinds.Io = refl
class_is b kinds.Memory = refl
class_is b kinds.Prefetchable = refl

pub grown_is : (table : List (ByKind (Option Range))) (k : ℕ) (p : CodePart) → option_map decoded_range_of (grown_window_range table k p) ≡ grown_in table k (spec_part p)
grown_is table k (parts.Bar n) = refl
grown_is table k parts.Rom = refl
grown_is table k (parts.Window class) = ap (option_map decoded_range_of) (class_is (get_or table k untold) class)

own_is : (o : Option Range) (keeps : Bool) (own : Range) → option_map decoded_range_of (or_own o keeps own) ≡ with_own (option_map decoded_range_of o) keeps (decoded_range_of own)
own_is None true own = refl
own_is None false own = refl
own_is (Some r) keeps own = refl

pub function_is : (s : System) (k : ℕ) → k < length s → slice_get s k ≡ Some (function_in s k)
function_is s k within = slice_get-get_or s k no_function within

module _ (s : System) (system : IsSystem s) (t : Tables) where
  pub grown_at : (k : ℕ) (p : CodePart) → k < length s → grown_told s t (record { function = function_in s k; part = spec_part p }) ≡ option_map decoded_range_of (grown_window_range t.grown k p)
  grown_at k p within = ap (λ n. grown_in t.grown n (spec_part p)) (index_at s system k (function_in s k) (function_is s k within)) ∙ sym (grown_is t.grown k p)

  -- what tables tell of a part of a row is what they tell of the part that it stands for
  pub told_is : (q : Request) (r : Region) → IsKnown q s r → option_map decoded_range_of (range_told t r) ≡ there_told s t (region_value s r)
  told_is q r known =
      own_is (grown_window_range t.grown r.function r.part) (is_region_kept t.kept r) r.range
      ∙ ap (λ o. with_own o (is_region_kept t.kept r) (decoded_range_of r.range)) (sym (grown_at r.function r.part known.within))
      ∙ ap (λ b. with_own (grown_told s t (region_value s r)) b (decoded_range_of r.range)) (sym (table_at s system t.kept r.function (function_in s r.function) (spec_part r.part) (function_is s r.function known.within)))
      ∙ ap (with_own (grown_told s t (region_value s r)) (stands_in s t.kept (region_value s r))) (ap (λ (k : Known). k.range) known.all)

-- ---- rows

row_parts : (a b : ℕ) (x y : Space) → row_number a x ≡ row_number b y → (a ≡ b) × (x ≡ y)
row_parts a b Io Io same = (omega (arith, same), refl)
row_parts a b Io Memory same = absurd (let no : ⊥ = omega (arith, same) in no)
row_parts a b Memory Io same = absurd (let no : ⊥ = omega (arith, same) in no)
row_parts a b Memory Memory same = (omega (arith, same), refl)

pub row_low : (a : ℕ) (x : Space) → 2 * a ≤ row_number a x
row_low a Io = omega arith
row_low a Memory = omega arith

pub row_high : (a : ℕ) (x : Space) → row_number a x < 2 * a + 2
row_high a Io = omega arith
row_high a Memory = omega arith

pub space_itself : (x : Space) → are_same_space x x ≡ true
space_itself Io = refl
space_itself Memory = refl

pub one_space : (x y : Space) → are_same_space x y ≡ true → x ≡ y
one_space Io Io same = refl
one_space Io Memory same = absurd (false≢true same)
one_space Memory Io same = absurd (false≢true same)
one_space Memory Memory same = refl

pub level_root : (q : Request) (bus : ℕ) → is_root q.roots bus ≡ true → level q bus ≡ 0
level_root q bus root = ap (λ b. cond b 0 (bus + 1)) root

pub level_off : (q : Request) (bus : ℕ) → is_root q.roots bus ≡ false → level q bus ≡ bus + 1
level_off q bus off = ap (λ b. cond b 0 (bus + 1)) off

pub region_row : (q : Request) (s : System) (r : Region) → IsKnown q s r → region_row_number r ≡ part_row_number q (region_value s r)
region_row q s r known = ap (λ (k : Known). row_number k.level k.space) known.all

pub region_range : (q : Request) (s : System) (r : Region) → IsKnown q s r → decoded_range_of r.range ≡ addresses (region_value s r)
region_range q s r known = ap (λ (k : Known). k.range) known.all

-- parts that are beside each other are in one row
pub beside_row : (q : Request) (u v : FunctionPart) → are_beside q u v ≡ true → part_row_number q u ≡ part_row_number q v
beside_row q u v beside =
    let both = and_parts (are_siblings q.roots u.function.slot.bus v.function.slot.bus) (are_same_space (part_space u) (part_space v)) beside in
    ap (λ n. row_number n (part_space u)) (by (cases_Bool (u.function.slot.bus == v.function.slot.bus)) both.0)
    ∙ ap (row_number (level q v.function.slot.bus)) (one_space (part_space u) (part_space v) both.1)
  where
    by : ((u.function.slot.bus == v.function.slot.bus) ≡ true) ⊎ ((u.function.slot.bus == v.function.slot.bus) ≡ false) → are_siblings q.roots u.function.slot.bus v.function.slot.bus ≡ true → level q u.function.slot.bus ≡ level q v.function.slot.bus
    by (inl same) on = ap (level q) (eqb-true u.function.slot.bus v.function.slot.bus same)
    by (inr differ) on =
        let roots = and_parts (is_root q.roots u.function.slot.bus) (is_root q.roots v.function.slot.bus)
        (sym (ap (λ b. b || (is_root q.roots u.function.slot.bus && is_root q.roots v.function.slot.bus)) differ) ∙ on) in
        level_root q u.function.slot.bus roots.0 ∙ sym (level_root q v.function.slot.bus roots.1)

-- and those of one row are beside each other
pub row_beside : (q : Request) (u v : FunctionPart) → part_row_number q u ≡ part_row_number q v → are_beside q u v ≡ true
row_beside q u v same =
    let two = row_parts (level q u.function.slot.bus) (level q v.function.slot.bus) (part_space u) (part_space v) same in
    and_from (are_siblings q.roots u.function.slot.bus v.function.slot.bus) (are_same_space (part_space u) (part_space v))
    (on (cases_Bool (is_root q.roots u.function.slot.bus)) (cases_Bool (is_root q.roots v.function.slot.bus)) two.0)
    (ap (are_same_space (part_space u)) (sym two.1) ∙ space_itself (part_space u))
  where
    on : (is_root q.roots u.function.slot.bus ≡ true) ⊎ (is_root q.roots u.function.slot.bus ≡ false) → (is_root q.roots v.function.slot.bus ≡ true) ⊎ (is_root q.roots v.function.slot.bus ≡ false)
        → level q u.function.slot.bus ≡ level q v.function.slot.bus → are_siblings q.roots u.function.slot.bus v.function.slot.bus ≡ true
    on (inl a) (inl b) e = or_right (u.function.slot.bus == v.function.slot.bus) (is_root q.roots u.function.slot.bus && is_root q.roots v.function.slot.bus) (and_from (is_root q.roots u.function.slot.bus) (is_root q.roots v.function.slot.bus) a b)
    on (inl a) (inr b) e = absurd (let x = level_root q u.function.slot.bus a in let y = level_off q v.function.slot.bus b in let no : ⊥ = omega (arith, x, y, e) in no)
    on (inr a) (inl b) e = absurd (let x = level_off q u.function.slot.bus a in let y = level_root q v.function.slot.bus b in let no : ⊥ = omega (arith, x, y, e) in no)
    on (inr a) (inr b) e = or_left (u.function.slot.bus == v.function.slot.bus) (is_root q.roots u.function.slot.bus && is_root q.roots v.function.slot.bus)
        (eq-eqb u.function.slot.bus v.function.slot.bus (let x = level_off q u.function.slot.bus a in let y = level_off q v.function.slot.bus b in omega (arith, x, y, e)))

-- a part of the row of a bus is on that bus, which is no root
pub record IsOnBus (q : Request) (bus : ℕ) (space : Space) (v : FunctionPart) : Type 0 where
  pub off : is_root q.roots v.function.slot.bus ≡ false
  pub at : bus ≡ v.function.slot.bus
  pub of_space : part_space v ≡ space

pub row_bus : (q : Request) (s : System) (r : Region) → IsKnown q s r → (bus : ℕ) (space : Space) → region_row_number r ≡ row_number (bus + 1) space → IsOnBus q bus space (region_value s r)
row_bus q s r known bus space at =
    let two = row_parts (level q own) (bus + 1) (part_space (region_value s r)) space (sym (region_row q s r known) ∙ at) in
    by (cases_Bool (is_root q.roots own)) two.0 two.1
  where
    own : ℕ
    own = (region_value s r).function.slot.bus

    by : (is_root q.roots own ≡ true) ⊎ (is_root q.roots own ≡ false) → level q own ≡ bus + 1 → part_space (region_value s r) ≡ space → IsOnBus q bus space (region_value s r)
    by (inl root) e of = absurd (let x = level_root q own root in let no : ⊥ = omega (arith, x, e) in no)
    by (inr off) e of = record { off = off; at = (let x = level_off q own off in omega (arith, x, e)); of_space = of }

-- ---- what is there on the bus behind a bridge

some_of : (o : Option Range) (x : DecodedRange) → option_map decoded_range_of o ≡ Some x → (g : Range) × ((o ≡ Some g) × (decoded_range_of g ≡ x))
some_of None x is = absurd (none-some x is)
some_of (Some g) x is = (g, (refl, same_Some (decoded_range_of g) x is))

pub in_listed : (o : Option Range) (g : Range) → Contains (listed o) g → o ≡ Some g
in_listed None g has = absurd (in_nil g has)
in_listed (Some r) g has = elim (in_cons_cases r [] g has) [ inl here ↦ ap Some here | inr none ↦ absurd (in_nil g none) ]

listed_in : (o : Option Range) (g : Range) → o ≡ Some g → Contains (listed o) g
listed_in o g is = subst (λ p. Contains (listed p) g) (sym is) (in_head g [])

module _ (q : Request) (s : System) (system : IsSystem s) (nested : IsNested q.roots s) (rows : List Region) (are : AreStandingRows q s rows) (there : FunctionPart → Option DecodedRange)
    (stand : (v : FunctionPart) → Contains (system_parts q s) v → is_some (there v) ≡ true → stands q s v ≡ true)
    (b : Function) (listed_b : Contains s b) (bridge : is_bridge b ≡ true) (space : Space) (test : FunctionPart → Bool) (pick : Region → Option Range)
    (picks : (r : Region) → Contains rows r → region_row_number r ≡ row_number (secondary b + 1) space → option_map decoded_range_of (pick r) ≡ cond (test (region_value s r)) (there (region_value s r)) None)
    (of_space : (v : FunctionPart) → Contains (system_parts q s) v → test v ≡ true → part_space v ≡ space) where
  abbrev number : ℕ
  number = row_number (secondary b + 1) space

  abbrev row : List Region
  row = in_row number rows

  abbrev picked : List Range
  picked = flat_map (λ r. listed (pick r)) row

  known : (r : Region) → Contains rows r → IsKnown q s r
  known r has = All-contains (IsKnown q s) rows r are.known has

  -- a part of the row is on the bus
  on_bus : (r : Region) → Contains rows r → region_row_number r ≡ number → are_siblings q.roots (secondary b) (region_value s r).function.slot.bus ≡ true
  on_bus r has at =
      let on = row_bus q s r (known r has) (secondary b) space at in
      let bus = (region_value s r).function.slot.bus in
      or_left (secondary b == bus) (is_root q.roots (secondary b) && is_root q.roots bus) (eq-eqb (secondary b) bus on.at)

  -- and what is on the bus is in the row
  in_number : (v : FunctionPart) → are_siblings q.roots (secondary b) v.function.slot.bus ≡ true → part_space v ≡ space → part_row_number q v ≡ number
  in_number v beside at =
      let bus = on_it q.roots s system nested b v.function.slot.bus listed_b bridge beside in
      ap (λ n. row_number n (part_space v)) (by (cases_Bool (is_root q.roots v.function.slot.bus)) bus) ∙ ap (row_number (secondary b + 1)) at
    where
      by : (is_root q.roots v.function.slot.bus ≡ true) ⊎ (is_root q.roots v.function.slot.bus ≡ false) → secondary b ≡ v.function.slot.bus → level q v.function.slot.bus ≡ secondary b + 1
      by (inl root) e = absurd (is_no_root q.roots s system nested b v.function.slot.bus listed_b bridge (at_secondary q.roots s system nested b v.function.slot.bus listed_b bridge e) root)
      by (inr off) e = level_off q v.function.slot.bus off ∙ ap (λ n. n + 1) (sym e)

  abbrev piece : FunctionPart → List DecodedRange
  piece v = cond (are_siblings q.roots (secondary b) v.function.slot.bus && test v) (range_list (there v)) []

  some_if : (t : Bool) (o : Option DecodedRange) (x : DecodedRange) → cond t o None ≡ Some x → (t ≡ true) × (o ≡ Some x)
  some_if true o x is = (refl, is)
  some_if false o x is = absurd (none-some x is)

  to_there : (x : DecodedRange) → Contains (map decoded_range_of picked) x → Contains (there_on q s there test (secondary b)) x
  to_there x has =
      let made : IsMade decoded_range_of picked x = in_map_to decoded_range_of picked x has in
      let at : IsInPiece (λ r. listed (pick r)) row made.from = in_flat_map_to (λ r. listed (pick r)) row made.from made.has in
      let r = at.of in
      let v = region_value s r in
      let in_rows = in_filter_to (λ y. region_row_number y == number) rows r at.has in
      let here = eqb-true (region_row_number r) number in_rows.1 in
      let is : option_map decoded_range_of (pick r) ≡ Some x = ap (option_map decoded_range_of) (in_listed (pick r) made.from at.piece) ∙ ap Some made.is in
      let both = some_if (test v) (there v) x (sym (picks r in_rows.0 here) ∙ is) in
      let on = and_from (are_siblings q.roots (secondary b) v.function.slot.bus) (test v) (on_bus r in_rows.0 here) both.0 in
      in_flat_map_from piece (system_parts q s) v x (known r in_rows.0).listed
      (subst (λ t. Contains (cond t (range_list (there v)) []) x) (sym on) (subst (λ o. Contains (range_list o) x) (sym both.1) (in_head x [])))

  from_there : (x : DecodedRange) → Contains (there_on q s there test (secondary b)) x → Contains (map decoded_range_of picked) x
  from_there x has =
      let at : IsThereOn q s there test (secondary b) x = there_on_gives q s there test (secondary b) x has in
      let v = at.part in
      let standing = stand v at.listed (ap is_some at.is) in
      let made : IsMade (region_value s) rows v = in_map_to (region_value s) rows v (are.all v at.listed standing) in
      let r = made.from in
      let here : region_row_number r ≡ number = region_row q s r (known r made.has) ∙ ap (part_row_number q) made.is ∙ in_number v at.beside (of_space v at.listed at.passes) in
      let is : option_map decoded_range_of (pick r) ≡ Some x =
      picks r made.has here ∙ ap (λ (u : FunctionPart). cond (test u) (there u) None) made.is ∙ ap (λ t. cond t (there v) None) at.passes ∙ at.is in
      let found = some_of (pick r) x is in
      subst (Contains (map decoded_range_of picked)) found.1.1
      (in_map_from decoded_range_of picked found.0
      (in_flat_map_from (λ y. listed (pick y)) row r found.0 (in_filter_from (λ y. region_row_number y == number) rows r made.has (eq-eqb (region_row_number r) number here)) (listed_in (pick r) found.0 found.1.0)))

  -- what is picked of the row is what is there on the bus and passes the test
  pub picked_same : HaveSame (map decoded_range_of picked) (there_on q s there test (secondary b))
  picked_same = record { to = to_there; back = from_there }
