-- Windows that grow, by marks of those that take.
use Rattle.std.proofs.Common.{◌≡◌, ℕ, zero, suc, inl, inr, List, [], ◌∷◌, map, get_or, Bool, true, false, ◌||◌, cond, arith, refl, sym, ◌∙◌, ap, Option, Some, None}
use Rattle.std.specs.List.{Contains, slice_get}
use Rattle.std.specs.Option.{is_some, option_map}
use Rattle.std.proofs.Math.Bool.{or_comm}
use Rattle.std.proofs.lemmas.Bool.{cases_Bool, and_parts, or_cases, both_ways, false_from_ne_true}
use Rattle.std.proofs.lemmas.List.{get_or-map, length-map}
use Rattle.std.proofs.lemmas.Option.{slice_get_within, slice_get-get_or, get_or_from_slice_get}
use Rattle.pci_spec.specs.Window.{WindowKind, IoWindow, MemoryWindow, PrefetchWindow}
use Rattle.pci_spec.specs.System.{System, Function, Part, Bar, Rom, Window, IsSystem, is_bridge, has_part}
use Rattle.pci_spec.specs.Bus.{IsNested}
use Rattle.plan_spec.specs.Plan.{is_open}
use Rattle.settle_spec.specs.Lists.{Request}
use Rattle.settle_spec.specs.Parts.{FunctionPart}
use Rattle.settle_spec.specs.Stands.{window_part, stands}
use Rattle.settle_spec.specs.Items.{has_room_behind}
use Rattle.settle_spec.specs.Growth.{comes_to, takes_growth, has_grown}
use Rattle.settle_spec.specs.Kept.{is_kept}
use Rattle.settle_laws.proofs.GrowingKept.{taking, takes_stands, grown_takes, kept_stands}
use Rattle.settle_laws.proofs.Standing.{stands_by_itself}
use Rattle.pci_base.specs.declared.range.Range.{Range as CodeRange}
use Rattle.pci_base.specs.declared.window_kind.WindowKind.{WindowKind as CodeKind}
use Rattle.pci_base.specs.declared.window_kind.WindowKind.TheVariants.{Io, Memory, Prefetchable}
use Rattle.pci_base.specs.declared.window_kind.ByKind.{ByKind}
use Rattle.pci_base.specs.Ranges.{decoded_range_of}
use Rattle.pci_base.specs.WindowKinds.{kind_value, by_kind}
use Rattle.pci_first_fit.specs.declared.kept.Kept.{Kept}
use Rattle.pci_first_fit.specs.Kept.{kept_of, nothing_kept}
use Rattle.pci_kept.proofs.Indexes.{table_at}
use Rattle.pci_kept.specs.Holding.{AreNoted, AreHolding}
use Rattle.pci_kept.specs.Staying.{HoldsWhereStands, AreStayingBy}
use Rattle.pci_first_fit.specs.Tables.{untold, told}
use Rattle.pci_grow.specs.Marks.{marks_of, AreKeptToo, AreLeftToldOf}
use Rattle.pci_grow.specs.Growing.{AreComing}

-- ---- one function

six_off : (n : ℕ) → get_or (false ∷ false ∷ false ∷ false ∷ false ∷ false ∷ []) n false ≡ false
six_off zero = refl
six_off (suc zero) = refl
six_off (suc (suc zero)) = refl
six_off (suc (suc (suc zero))) = refl
six_off (suc (suc (suc (suc zero)))) = refl
six_off (suc (suc (suc (suc (suc zero))))) = refl
six_off (suc (suc (suc (suc (suc (suc n)))))) = refl

pub code_kind : WindowKind → CodeKind
code_kind IoWindow = Io
code_kind MemoryWindow = Memory
code_kind PrefetchWindow = Prefetchable

pub kind_back : (c : WindowKind) → kind_value (code_kind c) ≡ c
unfolding code_kind
kind_back IoWindow = refl
kind_back MemoryWindow = refl
kind_back PrefetchWindow = refl

marked : (ranges : ByKind (Option CodeRange)) (class : CodeKind) → kept_of (marks_of ranges) (Window (kind_value class)) ≡ is_some (by_kind ranges class)
marked ranges Io = refl
marked ranges Memory = refl
marked ranges Prefetchable = refl

some_map : (o : Option CodeRange) → is_some o ≡ is_some (option_map decoded_range_of o)
some_map None = refl
some_map (Some r) = refl

none_map : (o : Option CodeRange) → option_map decoded_range_of o ≡ None → o ≡ None
none_map None is = refl
none_map (Some r) is = absurd (both_ways (is_some (option_map decoded_range_of (Some r))) (ap is_some is) refl)

cond_none : {X : Type 0} (b : Bool) → cond {A = Option X} b None None ≡ None
cond_none true = refl
cond_none false = refl

or_off : (b : Bool) → (b || false) ≡ b
or_off true = refl
or_off false = refl

module _ (q : Request) (s : System) (system : IsSystem s) (nested : IsNested q.roots s) where
  pub takes_only : HoldsWhereStands q s (takes_growth q s)
  takes_only r listed is = takes_stands q s r is

  pub kept_only : HoldsWhereStands q s (is_kept q s)
  kept_only r listed is = kept_stands q s r is

  abbrev window : WindowKind → Function → FunctionPart
  window c f = window_part c f

  open_of : (c : WindowKind) (f : Function) → Contains s f → stands q s (window c f) ≡ true → is_open f c ≡ true
  open_of c f listed is = (stands_by_itself q s nested).only (window c f) listed is

  bridge_of : (c : WindowKind) (f : Function) → is_open f c ≡ true → has_part f (Window c) ≡ true
  bridge_of c f opens = (and_parts (is_bridge f) _ (and_parts _ _ opens).0).0

  listed_at : (k : ℕ) (f : Function) → slice_get s k ≡ Some f → Contains s f
  listed_at k f at = (k, slice_get_within s k f at, get_or_from_slice_get s k f f at)

  some_takes : (r : FunctionPart) → is_some (cond (takes_growth q s r) (comes_to q s r) None) ≡ takes_growth q s r
  some_takes r = by (takes_growth q s r) refl
    where
      by : (b : Bool) → takes_growth q s r ≡ b → is_some (cond b (comes_to q s r) None) ≡ b
      by true is = ap is_some (taking q s r is).comes
      by false is = refl

  -- ---- marks of what is told of windows that take

  module _ (table : List (ByKind (Option CodeRange))) (are : AreComing q s (takes_growth q s) table) where
    abbrev marks : List Kept
    marks = map marks_of table

    mark_at : (k : ℕ) (f : Function) → slice_get s k ≡ Some f → get_or marks k nothing_kept ≡ marks_of (get_or table k untold)
    mark_at k f at = get_or-map marks_of table k untold nothing_kept (let low = slice_get_within s k f at in let size = are.count in omega (arith, low, size))

    window_marked : (k : ℕ) (f : Function) (c : WindowKind) → slice_get s k ≡ Some f → kept_of (get_or marks k nothing_kept) (Window c) ≡ takes_growth q s (window c f)
    window_marked k f c at =
        ap (λ m. kept_of m (Window c)) (mark_at k f at)
        ∙ ap (λ d. kept_of (marks_of (get_or table k untold)) (Window d)) (sym (kind_back c))
        ∙ marked (get_or table k untold) (code_kind c)
        ∙ some_map (told table k (code_kind c))
        ∙ ap is_some (are.each k f (code_kind c) at)
        ∙ some_takes (window (kind_value (code_kind c)) f)
        ∙ ap (λ d. takes_growth q s (window d f)) (kind_back c)

    part_marked : (k : ℕ) (f : Function) (p : Part) → slice_get s k ≡ Some f → kept_of (get_or marks k nothing_kept) p ≡ takes_growth q s (record { function = f; part = p })
    part_marked k f (Bar n) at = ap (λ m. kept_of m (Bar n)) (mark_at k f at) ∙ six_off n
    part_marked k f Rom at = ap (λ m. kept_of m Rom) (mark_at k f at)
    part_marked k f (Window c) at = window_marked k f c at

    pub marks_noted : AreNoted s (takes_growth q s) marks
    marks_noted = record {
      count = length-map table marks_of ∙ are.count;
      opens = λ c b (m, low, is_b) is. (
          let at : slice_get s m ≡ Some b = slice_get-get_or s m b low ∙ ap Some is_b in
          let takes_it : takes_growth q s (window c b) ≡ true = sym (window_marked m b c at) ∙ sym (table_at s system marks m b (Window c) at) ∙ is in
          open_of c b (m, low, is_b) (takes_stands q s (window c b) takes_it));
      each = λ k f p at there. part_marked k f p at;
    }

  -- ---- what is kept too

  module _ (old marks new : List Kept) (holding : AreHolding q s old) (grown : AreStayingBy q s (takes_growth q s) marks) (too : AreKeptToo old marks new) where
    each_kept : (k : ℕ) (f : Function) (p : Part) → slice_get s k ≡ Some f → has_part f p ≡ true → kept_of (get_or new k nothing_kept) p ≡ is_kept q s (record { function = f; part = p })
    each_kept k f (Bar n) at there = too.each k (Bar n) ∙ or_off (kept_of (get_or old k nothing_kept) (Bar n)) ∙ holding.each k f (Bar n) at there
    each_kept k f Rom at there = too.each k Rom ∙ or_off (kept_of (get_or old k nothing_kept) Rom) ∙ holding.each k f Rom at there
    each_kept k f (Window c) at there =
        too.each k (Window c)
        ∙ ap (λ b. b || kept_of (get_or marks k nothing_kept) (Window c)) (holding.each k f (Window c) at there)
        ∙ ap (λ b. has_room_behind q s (window c f) || b) (grown.each k f (Window c) at there)
        ∙ or_comm (has_room_behind q s (window c f)) (has_grown q s (window c f))

    pub all_noted : AreNoted s (is_kept q s) new
    all_noted = record {
      count = too.count ∙ holding.count;
      opens = λ c b (m, low, is_b) is. (
          let at : slice_get s m ≡ Some b = slice_get-get_or s m b low ∙ ap Some is_b in
          let either : (kept_of (get_or old m nothing_kept) (Window c) || kept_of (get_or marks m nothing_kept) (Window c)) ≡ true = sym (too.each m (Window c)) ∙ sym (table_at s system new m b (Window c) at) ∙ is in
          elim (or_cases (kept_of (get_or old m nothing_kept) (Window c)) (kept_of (get_or marks m nothing_kept) (Window c)) either) [
            | inl own ↦ holding.opens c b (m, low, is_b) (table_at s system old m b (Window c) at ∙ own)
            | inr mark ↦ grown.opens c b (m, low, is_b) (table_at s system marks m b (Window c) at ∙ mark)
          ]);
      each = each_kept;
    }

  -- ---- what is left of what is told

  module _ (old new : List (ByKind (Option CodeRange))) (marks : List Kept) (coming : AreComing q s (takes_growth q s) old) (grown : AreStayingBy q s (takes_growth q s) marks) (left : AreLeftToldOf marks old new) where
    module _ (k : ℕ) (f : Function) (class : CodeKind) (at : slice_get s k ≡ Some f) where
      abbrev c : WindowKind
      c = kind_value class

      abbrev w : FunctionPart
      w = window c f

      abbrev mark : Bool
      mark = kept_of (get_or marks k nothing_kept) (Window c)

      -- what grows takes
      of_grown : (b : Bool) → has_grown q s w ≡ b → option_map decoded_range_of (cond b (told old k class) None) ≡ cond b (comes_to q s w) None
      of_grown true is = coming.each k f class at ∙ ap (λ x. cond x (comes_to q s w) None) (grown_takes q s w is)
      of_grown false is = refl

      each_left : option_map decoded_range_of (told new k class) ≡ cond (has_grown q s w) (comes_to q s w) None
      each_left = ap (option_map decoded_range_of) (left.each k class) ∙ elim (cases_Bool (has_part f (Window c))) [
        | inl there ↦
            ap (λ b. option_map decoded_range_of (cond b (told old k class) None)) (grown.each k f (Window c) at there)
            ∙ of_grown (has_grown q s w) refl
        | inr not_there ↦
            let not_takes : takes_growth q s w ≡ false = false_from_ne_true (takes_growth q s w) (λ is. both_ways (has_part f (Window c)) not_there (bridge_of c f (open_of c f (listed_at k f at) (takes_stands q s w is)))) in
            let not_grown : has_grown q s w ≡ false = false_from_ne_true (has_grown q s w) (λ is. both_ways (takes_growth q s w) not_takes (grown_takes q s w is)) in
            let nothing = none_map (told old k class) (coming.each k f class at ∙ ap (λ b. cond b (comes_to q s w) None) not_takes) in
            ap (λ o. option_map decoded_range_of (cond mark o None)) nothing
            ∙ ap (option_map decoded_range_of) (cond_none mark)
            ∙ sym (ap (λ b. cond b (comes_to q s w) None) not_grown)
      ]

    pub grown_left : AreComing q s (has_grown q s) new
    grown_left = record { count = left.count ∙ coming.count; each = each_left }
